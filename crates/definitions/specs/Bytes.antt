-- Bytes of a page. A block of the device and the content of a page frame are both pages: lists of 4096 bytes.
-- Numbers in a page are little-endian, as a 64-bit little-endian kernel writes its structures.
use Rattle.std.specs.Prelude.{◌≡◌, ℕ, ◌+◌, ◌*◌, ◌<◌, ◌≤◌, List, ◌++◌, length, take, drop, slice_index, replicate}
use Rattle.byteorder.specs.Endian.{little_number, little_bytes}

-- each element is a byte
abbrev pub AreBytes : List ℕ → Type 0
AreBytes bytes = (i : ℕ) → slice_index bytes i < 256

-- 4096 bytes (PAGE_SIZE)
abbrev pub IsPage : List ℕ → Type 0
IsPage page = length page ≡ 4096

-- the page of zeros
unfoldable pub zero_page : List ℕ
zero_page = replicate 4096 0

-- the page with this byte at every offset
unfoldable pub filled_page : ℕ → List ℕ
filled_page byte = replicate 4096 byte

-- the n bytes from offset k
abbrev pub bytes_at : ℕ → List ℕ → ℕ → List ℕ
bytes_at n page k = take n (drop k page)

-- the page with these bytes at offset k
unfoldable pub with_bytes : List ℕ → ℕ → List ℕ → List ℕ
with_bytes page k bytes = take k page ++ bytes ++ drop (k + length bytes) page

-- the number in the n bytes at offset k
unfoldable pub number_at : ℕ → List ℕ → ℕ → ℕ
number_at n page k = little_number n (drop k page)

-- the page with the number v in the n bytes at offset k
unfoldable pub with_number : ℕ → List ℕ → ℕ → ℕ → List ℕ
with_number n page k v = with_bytes page k (little_bytes n v)

-- word i of a page, 8 bytes at 8i
abbrev pub word : List ℕ → ℕ → ℕ
word page i = number_at 8 page (8 * i)

-- the page with word i set to v
abbrev pub with_word : List ℕ → ℕ → ℕ → List ℕ
with_word page i v = with_number 8 page (8 * i) v

-- the two lists agree, except for the bytes from `start` up to but not including `end`
pub record AgreeBut (start end : ℕ) (xs ys : List ℕ) : Type 0 where
  pub size : length xs ≡ length ys
  pub before : (i : ℕ) → i < start → slice_index xs i ≡ slice_index ys i
  pub after : (i : ℕ) → end ≤ i → slice_index xs i ≡ slice_index ys i
