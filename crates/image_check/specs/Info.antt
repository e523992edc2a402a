-- What is wrong with an info page (struct swsusp_info, kernel/power/power.h; snapshot.c).
use Rattle.std.specs.Prelude.{ℕ, ◌+◌, ◌*◌, ◌==◌, ◌&&◌, ◌||◌, not, Bool, List, ◌++◌, length, nat_le, nat_lt}
use Rattle.std.specs.Prelude.{if◌then◌else◌, Option, Some, None}
use Rattle.std.specs.List.{list_any, list_all}
use Rattle.page_core.specs.declared.format.Format.{Format}
use Rattle.page_core.specs.declared.format.Format.TheVariants.{Plain, SkipZeros}
use Rattle.definitions.specs.Bytes.{bytes_at, number_at, word}
use Rattle.definitions.specs.InfoPage.{text_of_name}
use Rattle.definitions.specs.NumberPages.{meta_of}
use Rattle.image_check.specs.declared.finding.Counts.{Counts}
use Rattle.image_check.specs.declared.finding.Finding.{Finding}
use Rattle.image_check.specs.declared.finding.Finding.TheVariants as finding
use Rattle.image_check.specs.Told.{list_of, each_below}

abbrev pub counts_in : List ℕ → Counts
counts_in page = record { image_pages = number_at 8 page 416; pages = number_at 8 page 424 }

-- name j of the six has a zero byte
abbrev pub name_fault : List ℕ → ℕ → Option Finding
name_fault page j = if list_any (λ b. b == 0) (bytes_at 65 page (65 * j)) then None else Some (finding.NoEnd j)

-- An architecture's own header stands in the place of the names, without a version code: x86-64's has its magic number
-- in word 3 (struct restore_data_record, arch/x86/power/hibernate.c), others begin with the kernel's version as text
-- (struct arch_hibernate_hdr, arch/arm64/kernel/hibernate.c).
abbrev pub is_version_text : List ℕ → Bool
is_version_text text =
    nat_lt 0 (length text) && nat_lt (length text) 65 && list_all (λ b. nat_le 32 b && nat_le b 126) text

abbrev pub magic : ℕ
magic = 2541551405711093506

abbrev pub magic_fault : List ℕ → Option Finding
magic_fault page =
    if (word page 3 == magic) || is_version_text (text_of_name (bytes_at 65 page 0)) then None
    else Some (finding.Magic (word page 3))

abbrev pub identity_findings : List ℕ → List Finding
identity_findings page =
    if number_at 4 page 392 == 0 then list_of (magic_fault page) else each_below (name_fault page) 6

-- pages counts the data pages, the number pages and the info page; if pages of zeros are skipped, there may be fewer
abbrev pub follows : Format → Counts → Bool
follows Plain c = c.pages == c.image_pages + (meta_of c.image_pages + 1)
follows SkipZeros c =
    nat_le (meta_of c.image_pages + 1) c.pages && nat_le c.pages (c.image_pages + (meta_of c.image_pages + 1))

abbrev pub counts_fault : Format → Counts → Option Finding
counts_fault format c =
    if (c.image_pages == 0) || not (follows format c) then Some (finding.Counts c.image_pages c.pages) else None

-- size is the number of bytes of the pages
abbrev pub size_fault : ℕ → ℕ → Option Finding
size_fault size pages = if size == pages * 4096 then None else Some (finding.Size size pages)

-- all that is wrong with an info page
abbrev pub info_findings : Format → List ℕ → List Finding
info_findings format page =
    identity_findings page ++ list_of (counts_fault format (counts_in page))
    ++ list_of (size_fault (number_at 8 page 432) (number_at 8 page 424))
