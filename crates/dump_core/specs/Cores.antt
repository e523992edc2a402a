-- The core file of a dump: its page frames that are in use, and the free ones that hold a byte other than zero.
use Rattle.std.specs.Prelude.{ℕ, ◌||◌, Bool, not, List, [], ◌++◌, filter, map, replicate, slice_index_or}
use Rattle.std.specs.List.{concat}
use Rattle.definitions.specs.InfoPage.{text_of_name}
use Rattle.definitions.specs.FreeRuns.{runs_of}
use Rattle.definitions.specs.Tables.{frame, is_free, page_flags}
use Rattle.definitions.specs.Zones.{numbers}
use Rattle.definitions.specs.declared.info.Ident.{Ident}
use Rattle.elf_core.specs.Elf.{core_bytes}
use Rattle.elf_core.specs.Machines.{machine_of_name}
use Rattle.elf_core.specs.Numbers.{word}
use Rattle.plain_machine.specs.Image.{is_zeros}
use Rattle.plain_machine.specs.Machine.{Hardware, Memory, frame_entry}

-- whether page frame p goes into the core file: its entry doesn't say that it is free, or the page isn't all zero
abbrev pub is_told : Hardware → Memory → ℕ → Bool
is_told h m p = not (is_free (page_flags (frame_entry h m p))) || not (is_zeros (frame m p))

-- the page frames that do, in ascending order, and their runs
abbrev pub told_frames : Hardware → Memory → List ℕ
told_frames h m = filter (is_told h m) (numbers h.zones)

abbrev pub told_runs : Hardware → Memory → List (ℕ × ℕ)
told_runs h m = runs_of (told_frames h m)

-- the pages of page frames
abbrev pub pages_of : Memory → List ℕ → List (List ℕ)
pages_of m frames = map (frame m) frames

-- An identity as at the beginning of an info page: the six names, 2 bytes, and the version code (struct swsusp_info,
-- kernel/power/power.h).
unfoldable pub identity_bytes : Ident → List ℕ
identity_bytes ident = concat ident.names ++ replicate 2 0 ++ word ident.version_code

-- the ELF number of an identity's machine, from its fifth name
abbrev pub machine_of : Ident → ℕ
machine_of ident = machine_of_name (text_of_name (slice_index_or ident.names 4 []))

abbrev pub core_of : Hardware → Memory → List ℕ
core_of h m =
    core_bytes (machine_of h.ident) (identity_bytes h.ident) (told_frames h m) (pages_of m (told_frames h m))
