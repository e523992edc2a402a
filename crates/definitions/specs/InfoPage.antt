-- The first page of an image (struct swsusp_info with the generic header, kernel/power/power.h and snapshot.c).
use Rattle.std.specs.Prelude.{◌≡◌, ℕ, ◌*◌, ◌^◌, ◌<◌, ◌==◌, Bool, List, [], All, length, map, not, nat_eq, if◌then◌else◌}
use Rattle.std.specs.Prelude.{Option, Some, None, take_while, slice_index_or}
use Rattle.std.specs.List.{concat, range_with_len}
use Rattle.std.specs.Cmp.Lexicographic.{pointwise}
use Rattle.definitions.specs.Bytes.{zero_page, bytes_at, with_bytes, number_at, with_number}
use Rattle.definitions.specs.declared.info.Ident.{Ident}
use Rattle.definitions.specs.declared.info.Info.{Info}
use Rattle.definitions.specs.declared.info.Field.{Field}
use Rattle.definitions.specs.declared.info.Field.TheVariants.{VersionCode, Sysname, Release, Version, Machine}

-- the info page with these fields; size is pages * 4096, cpus and all other bytes are 0
unfoldable pub info_page : Info → List ℕ
info_page info =
    let names = with_number 4 (with_bytes zero_page 0 (concat info.ident.names)) 392 info.ident.version_code in
    let counts =
    with_number 8 (with_number 8 (with_number 8 names 400 info.physpages) 416 info.image_pages) 424 info.pages in
    with_number 8 counts 432 (info.pages * 4096)

-- the six names of 65 bytes
unfoldable pub names_of : List ℕ → List (List ℕ)
names_of page = map (λ j. bytes_at 65 page (65 * j)) (range_with_len 0 6)

-- the fields of an info page; size and cpus aren't read
unfoldable pub info_of : List ℕ → Info
info_of page = record {
  ident = record { version_code = number_at 4 page 392; names = names_of page };
  physpages = number_at 8 page 400;
  image_pages = number_at 8 page 416;
  pages = number_at 8 page 424;
}

-- a name up to its first zero byte
abbrev pub text_of_name : List ℕ → List ℕ
text_of_name name = take_while (λ b. not (b == 0)) name

-- whether name j is the same in both
abbrev pub same_name : ℕ → Ident → Ident → Bool
same_name j a b =
    pointwise nat_eq (text_of_name (slice_index_or a.names j [])) (text_of_name (slice_index_or b.names j []))

-- the first field in which an image's identity isn't the machine's (check_image_kernel)
unfoldable pub mismatch : Ident → Ident → Option Field
mismatch image own =
    if not (image.version_code == own.version_code) then Some VersionCode
    else (if not (same_name 0 image own) then Some Sysname
    else (if not (same_name 2 image own) then Some Release
    else (if not (same_name 3 image own) then Some Version
    else (if not (same_name 4 image own) then Some Machine else None))))

-- fields that an info page can hold: six names of 65 bytes each, and numbers that fit
pub record IsInfo (info : Info) : Type 0 where
  pub version_code : info.ident.version_code < 2 ^ 32
  pub names : length info.ident.names ≡ 6
  pub each_name : All (λ name. length name ≡ 65) info.ident.names
  pub physpages : info.physpages < 2 ^ 64
  pub image_pages : info.image_pages < 2 ^ 64
  pub pages : info.pages < 2 ^ 64
