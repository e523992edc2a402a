-- The remainder that the kernel's crc32_le keeps (crc32_le_generic at CRC_LE_BITS == 1, lib/crc32.c). A number's lowest
-- bit is the highest power of its polynomial.
use Rattle.std.specs.Prelude.{◌≡◌, ℕ, ◌/◌, ◌%◌, ◌==◌, List, ◌++◌, fold, bit_xor, if◌then◌else◌}
use Rattle.std.specs.Fn.{iterate}

-- CRC32_POLY_LE (include/linux/crc32poly.h)
abbrev pub polynomial : ℕ
polynomial = 0xEDB88320

-- one more bit: the lowest one is shifted out, and the polynomial is added if it was set
abbrev pub after_bit : ℕ → ℕ
after_bit n = bit_xor (n / 2) (if n % 2 == 1 then polynomial else 0)

-- one more byte, added to the low bits
unfoldable pub after_byte : ℕ → ℕ → ℕ
after_byte n byte = iterate after_bit 8 (bit_xor n byte)

-- all bytes in order, without an inversion before or after them
abbrev pub crc32 : ℕ → List ℕ → ℕ
crc32 seed bytes = fold after_byte seed bytes

-- the checksum of two pieces in sequence is that of their concatenation
abbrev pub IsComposed : ℕ → List ℕ → List ℕ → Type 0
IsComposed seed front back = crc32 (crc32 seed front) back ≡ crc32 seed (front ++ back)
