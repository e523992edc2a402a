-- The pieces of a core file of a machine's memory, in the ELF format for 64-bit little-endian machines (System V gABI,
-- "Object Files"; elf.h). They follow one another: the file header, a program header for the note, a program header for
-- each run of page frames in ascending order, the note, a section header if there are too many program headers for the
-- file header, zeros up to a whole page, the pages.
use Rattle.std.specs.Prelude.{ℕ, ◌+◌, ◌-◌, ◌*◌, ◌/◌, Bool, nat_le, List, [], ◌∷◌, ◌++◌, length, replicate, codes}
use Rattle.std.specs.Prelude.{if◌then◌else◌}
use Rattle.std.specs.List.{concat}
use Rattle.definitions.specs.FreeRuns.{runs_of}
use Rattle.elf_core.specs.Numbers.{half, word, xword}

-- one program header for the note, and one for each run
abbrev pub program_headers : ℕ → ℕ
program_headers runs = runs + 1

-- e_phnum can't hold the number of program headers (PN_XNUM, 0xffff)
abbrev pub is_many : ℕ → Bool
is_many runs = nat_le 65535 (program_headers runs)

abbrev pub program_header_half : ℕ → ℕ
program_header_half runs = if is_many runs then 65535 else program_headers runs

-- the place after the program headers, each of 56 bytes
abbrev pub note_offset : ℕ → ℕ
note_offset runs = 64 + 56 * program_headers runs

-- The section header, of 64 bytes, begins at a multiple of 8.
abbrev pub section_size : ℕ → ℕ
section_size runs = if is_many runs then 68 else 0

abbrev pub section_offset : ℕ → ℕ
section_offset runs = if is_many runs then note_offset runs + 424 else 0

-- how many section headers there are
abbrev pub section_count : ℕ → ℕ
section_count runs = if is_many runs then 1 else 0

-- the end of the note, of 420 bytes, and of the section header
abbrev pub head_size : ℕ → ℕ
head_size runs = note_offset runs + 420 + section_size runs

-- the place of the first page
abbrev pub page_offset : ℕ → ℕ
page_offset runs = (head_size runs + 4095) / 4096 * 4096

-- the number of zeros before the first page
abbrev pub padding : ℕ → ℕ
padding runs = page_offset runs - head_size runs

-- e_ident: ELFMAG, ELFCLASS64, ELFDATA2LSB, EV_CURRENT, ELFOSABI_NONE
abbrev pub ident : List ℕ
ident = 127 ∷ 69 ∷ 76 ∷ 70 ∷ 2 ∷ 1 ∷ 1 ∷ 0 ∷ 0 ∷ 0 ∷ 0 ∷ 0 ∷ 0 ∷ 0 ∷ 0 ∷ 0 ∷ []

-- Elf64_Ehdr: e_ident, e_type (ET_CORE), e_machine, e_version, e_entry, e_phoff, e_shoff, e_flags, e_ehsize,
-- e_phentsize, e_phnum, e_shentsize, e_shnum, e_shstrndx
unfoldable pub file_header_bytes : (machine runs : ℕ) → List ℕ
file_header_bytes machine runs =
    ident ++ half 4 ++ half machine ++ word 1 ++ xword 0 ++ xword 64 ++ xword (section_offset runs) ++ word 0
    ++ half 64 ++ half 56 ++ half (program_header_half runs)
    ++ half 64 ++ half (section_count runs) ++ half 0

-- Elf64_Phdr of a run: p_type (PT_LOAD), p_flags (PF_R, PF_W, PF_X), p_offset, p_vaddr and p_paddr (the physical
-- address of the run's first page frame), p_filesz and p_memsz, p_align
unfoldable pub load_bytes : (offset first count : ℕ) → List ℕ
load_bytes offset first count =
    word 1 ++ word 7 ++ xword offset ++ xword (4096 * first) ++ xword (4096 * first)
    ++ xword (4096 * count) ++ xword (4096 * count) ++ xword 4096

-- Elf64_Phdr of the note: p_type is PT_NOTE, and it has no address
unfoldable pub note_header_bytes : ℕ → List ℕ
note_header_bytes runs =
    word 4 ++ word 0 ++ xword (note_offset runs) ++ xword 0 ++ xword 0 ++ xword 420 ++ xword 420 ++ xword 4

-- the program headers of runs, each (first page frame, count), whose pages follow one another from this place on
abbrev pub loads_bytes : ℕ → List (ℕ × ℕ) → List ℕ
loads_bytes offset [] = []
loads_bytes offset (run ∷ runs) = load_bytes offset run.0 run.1 ++ loads_bytes (offset + 4096 * run.1) runs

-- Elf64_Nhdr: n_namesz, n_descsz, n_type; then the name with its zero byte, filled to 12 bytes, and the descriptor
unfoldable pub note_bytes : List ℕ → List ℕ
note_bytes identity =
    word 9 ++ word 396 ++ word 1 ++ codes "DIRUKOFE" ++ replicate 4 0 ++ identity

-- The section header that holds the number of program headers (Elf64_Shdr: sh_name, sh_type (SHT_NULL), sh_flags,
-- sh_addr, sh_offset, sh_size, sh_link, sh_info, sh_addralign, sh_entsize), after zeros up to a multiple of 8; nothing
-- if e_phnum can hold the number.
unfoldable pub section_bytes : ℕ → List ℕ
section_bytes runs =
    if is_many runs then replicate 4 0 ++ word 0 ++ word 0 ++ xword 0 ++ xword 0 ++ xword 0 ++ xword 0
    ++ word 0 ++ word (program_headers runs) ++ xword 0 ++ xword 0 else []

-- what comes before the program headers of the runs, and what comes after them
abbrev pub front_bytes : (machine runs : ℕ) → List ℕ
front_bytes machine runs = file_header_bytes machine runs ++ note_header_bytes runs

abbrev pub back_bytes : List ℕ → ℕ → List ℕ
back_bytes identity runs = note_bytes identity ++ section_bytes runs ++ replicate (padding runs) 0

-- everything before the pages
abbrev pub head_bytes : ℕ → List ℕ → List (ℕ × ℕ) → List ℕ
head_bytes machine identity runs =
    front_bytes machine (length runs)
    ++ loads_bytes (page_offset (length runs)) runs
    ++ back_bytes identity (length runs)

-- The whole file of a machine whose identity takes 396 bytes, from ascending numbers of page frames and the page of
-- each.
abbrev pub core_bytes : ℕ → List ℕ → List ℕ → List (List ℕ) → List ℕ
core_bytes machine identity numbers pages = head_bytes machine identity (runs_of numbers) ++ concat pages
