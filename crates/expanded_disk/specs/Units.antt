-- The units of a compressed image (save_image_lzo, load_image_lzo, kernel/power/swap.c), over its chain: page k from 0.
-- Page 0 is the info page, which isn't compressed. A unit begins with the length of its stream in 8 bytes (LZO_HEADER);
-- the rest of its last page has no meaning.
use Rattle.std.specs.Prelude.{◌≡◌, ℕ, zero, suc, ◌+◌, ◌-◌, ◌*◌, ◌/◌, ◌==◌, ◌&&◌, Bool, true, nat_lt, nat_le, min}
use Rattle.std.specs.Prelude.{if◌then◌else◌, List, take, drop, length, map, Option, None, Some}
use Rattle.std.specs.List.{concat, range_with_len}
use Rattle.compression.specs.Crc.{crc32}
use Rattle.definitions.specs.Bytes.{word}
use Rattle.compression.specs.Expansion.{Outcome, expansion}
use Rattle.compression.specs.declared.lzo.fault.LzoFault.{LzoFault}
use Rattle.image_check.specs.declared.finding.Finding.{Finding}
use Rattle.image_check.specs.declared.finding.Finding.TheVariants as finding
use Rattle.image_check.specs.declared.finding.Place.{Place}

-- the number of units of an image with n pages: each has 32 pages (LZO_UNC_PAGES), the last one the rest
abbrev pub units_of : ℕ → ℕ
units_of pages = (pages - 1 + 31) / 32

-- the number of bytes of the pages of unit j
abbrev pub size_of : (pages unit : ℕ) → ℕ
size_of pages unit = 4096 * min 32 (pages - 1 - 32 * unit)

-- a length is valid: above 0, and at most what a unit's stream takes (lzo1x_worst_compress of 131072 bytes, and 2)
abbrev pub is_length : ℕ → Bool
is_length len = nat_lt 0 len && nat_le len 139333

-- how many pages a unit takes whose stream has `len` bytes
abbrev pub pages_with : ℕ → ℕ
pages_with len = (8 + len + 4095) / 4096

-- the length at the beginning of page k
abbrev pub length_at : (ℕ → List ℕ) → ℕ → ℕ
length_at chain k = word (chain k) 0

-- the first page of unit j
unfoldable pub start_of : (ℕ → List ℕ) → ℕ → ℕ
start_of chain zero = 1
start_of chain (suc j) = start_of chain j + pages_with (length_at chain (start_of chain j))

-- the bytes of the given number of pages from page k on
abbrev pub bytes_from : (ℕ → List ℕ) → (k count : ℕ) → List ℕ
bytes_from chain k count = concat (map chain (range_with_len k count))

-- the stream of the unit that begins at page k
abbrev pub stream_at : (ℕ → List ℕ) → ℕ → List ℕ
stream_at chain k = take (length_at chain k) (drop 8 (bytes_from chain k (pages_with (length_at chain k))))

-- the result of expanding unit j
unfoldable pub outcome_of : (ℕ → List ℕ) → (pages unit : ℕ) → Outcome
outcome_of chain pages unit = expansion (size_of pages unit) (stream_at chain (start_of chain unit))

abbrev pub bytes_of : (ℕ → List ℕ) → (pages unit : ℕ) → List ℕ
bytes_of chain pages unit = (outcome_of chain pages unit).written

-- nothing is wrong with a unit: it expands to exactly the bytes of its pages
pub record IsUnit (chain : ℕ → List ℕ) (pages unit : ℕ) : Type 0 where
  pub len : is_length (length_at chain (start_of chain unit)) ≡ true
  pub fault : (outcome_of chain pages unit).fault ≡ None
  pub size : length (bytes_of chain pages unit) ≡ size_of pages unit

-- what is wrong with a unit's stream
abbrev pub stream_fault : (unit size written : ℕ) → Option LzoFault → Option Finding
stream_fault unit size written (Some why) = Some (finding.UnitStream unit why)
stream_fault unit size written None = if written == size then None else Some (finding.UnitSize unit written size)

-- the first thing that is wrong with unit j, given the places of the pages in the chain
abbrev pub unit_fault : (ℕ → List ℕ) → (ℕ → Place) → (pages unit : ℕ) → Option Finding
unit_fault chain place pages unit =
    let at = start_of chain unit in
    if is_length (length_at chain at)
    then stream_fault (unit + 1) (size_of pages unit) (length (bytes_of chain pages unit))
    (outcome_of chain pages unit).fault
    else Some (finding.UnitLength (unit + 1) (place at) (length_at chain at))

-- the checksum of the first units (crc32_threadfn, from 0)
abbrev pub checksum_of : (ℕ → List ℕ) → (pages units : ℕ) → ℕ
checksum_of chain pages units = crc32 0 (concat (map (bytes_of chain pages) (range_with_len 0 units)))
