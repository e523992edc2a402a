-- Numbers of an ELF file in the encoding ELFDATA2LSB (System V gABI, "Data Representation").
use Rattle.std.specs.Prelude.{ℕ, List}
use Rattle.std.specs.Int.{to_le_bytes, w16, w32, w64}

-- Elf64_Half
unfoldable pub half : ℕ → List ℕ
half n = to_le_bytes w16 n

-- Elf64_Word
unfoldable pub word : ℕ → List ℕ
word n = to_le_bytes w32 n

-- Elf64_Addr, Elf64_Off and Elf64_Xword
unfoldable pub xword : ℕ → List ℕ
xword n = to_le_bytes w64 n
