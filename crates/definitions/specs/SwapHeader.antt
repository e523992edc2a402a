-- The header block of a swap area, and the mark of an image over it (union swap_header, include/linux/swap.h;
-- struct swsusp_header, kernel/power/swap.c).
use Rattle.std.specs.Prelude.{◌≡◌, ℕ, ◌+◌, ◌*◌, ◌==◌, ◌||◌, ◌++◌, List, [], ◌∷◌, nat_lt, if◌then◌else◌, map, codes}
use Rattle.std.specs.Prelude.{flat_map, bit_or, Option, find, length, nat_eq}
use Rattle.std.specs.Cmp.Lexicographic.{pointwise}
use Rattle.std.specs.List.{range_with_len}
use Rattle.byteorder.specs.Endian.{little_bytes}
use Rattle.definitions.specs.Bytes.{bytes_at, with_bytes, number_at, with_number, zero_page}

-- Signatures: of an image (HIBERNATE_SIG), of a version 0 area and of a version 1 area.
abbrev pub image_signature : List ℕ
image_signature = codes "S1SUSPEND" ++ 0 ∷ []

abbrev pub old_signature : List ℕ
old_signature = codes "SWAP-SPACE"

abbrev pub area_signature : List ℕ
area_signature = codes "SWAPSPACE2"

-- The fields of the block.
abbrev pub version_of : List ℕ → ℕ
version_of page = number_at 4 page 1024

abbrev pub last_page_of : List ℕ → ℕ
last_page_of page = number_at 4 page 1028

abbrev pub bad_count_of : List ℕ → ℕ
bad_count_of page = number_at 4 page 1032

-- the first n bad page numbers
unfoldable pub bad_pages_of : List ℕ → ℕ → List ℕ
bad_pages_of page n = map (λ i. number_at 4 page (1536 + 4 * i)) (range_with_len 0 n)

abbrev pub hw_sig_of : List ℕ → ℕ
hw_sig_of page = number_at 4 page 4056

abbrev pub image_of : List ℕ → ℕ
image_of page = number_at 8 page 4064

abbrev pub flags_of : List ℕ → ℕ
flags_of page = number_at 4 page 4072

abbrev pub orig_sig_of : List ℕ → List ℕ
orig_sig_of page = bytes_at 10 page 4076

abbrev pub sig_of : List ℕ → List ℕ
sig_of page = bytes_at 10 page 4086

-- the block carries the signature of an image
abbrev pub IsMarked : List ℕ → Type 0
IsMarked page = sig_of page ≡ image_signature

-- the first bad page that is 0 or above the last slot
abbrev pub first_outside : ℕ → List ℕ → Option ℕ
first_outside last bad = find (λ slot. (slot == 0) || nat_lt last slot) bad

-- the header block of a fresh area (mkswap): zeros, except version 1, the last slot, the bad pages and the signature
unfoldable pub area_page : ℕ → List ℕ → List ℕ
area_page last bad =
    let numbers = with_number 4 (with_number 4 (with_number 4 zero_page 1024 1) 1028 last) 1032 (length bad) in
    with_bytes (with_bytes numbers 1536 (flat_map (little_bytes 4) bad)) 4086 area_signature

-- the flags that a mark carries: SF_HW_SIG is set if the machine has a signature
abbrev pub marked_flags : ℕ → ℕ → ℕ
marked_flags flags hw = if hw == 0 then flags else bit_or flags 8

-- The header block with a mark set (mark_swapfiles): the area's signature moves to orig_sig, and the image signature
-- takes its place. The first map's block, the flags and, if there is one, the hardware signature are set. All other
-- bytes stay.
unfoldable pub marked : List ℕ → ℕ → ℕ → ℕ → List ℕ
marked page first flags hw =
    let signed = with_bytes (with_bytes page 4076 (sig_of page)) 4086 image_signature in
    let flagged = with_number 4 (with_number 8 signed 4064 first) 4072 (marked_flags flags hw) in
    if hw == 0 then flagged else with_number 4 flagged 4056 hw

-- The header block with its mark taken back (swsusp_check): orig_sig is the signature again. All other bytes stay.
unfoldable pub taken_back : List ℕ → List ℕ
taken_back page = with_bytes page 4086 (orig_sig_of page)

-- a header block with its mark taken back if it has one, else unchanged (swsusp_unmark)
abbrev pub unmarked_block : List ℕ → List ℕ
unmarked_block header = if pointwise nat_eq (sig_of header) image_signature then taken_back header else header
