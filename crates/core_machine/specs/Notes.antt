-- The identity in a core file: that of a note as `swsusp_machine core` and `swsusp_image core` write it, or else only
-- the name of the machine.
use Rattle.std.specs.Prelude.{◌≡◌, ℕ, ◌+◌, ◌-◌, ◌==◌, ◌&&◌, nat_le, nat_eq, Bool, List, [], ◌∷◌, ◌++◌, codes, length}
use Rattle.std.specs.Prelude.{replicate, Option, Some, None, if◌then◌else◌}
use Rattle.std.specs.List.{find, starts_with}
use Rattle.definitions.specs.Bytes.{bytes_at, number_at}
use Rattle.definitions.specs.InfoPage.{names_of}
use Rattle.definitions.specs.declared.info.Ident.{Ident}
use Rattle.elf_core.specs.Elf.{note_bytes}
use Rattle.plain_machine.specs.Chain.{or_else}
use Rattle.core_machine.specs.Faults.{wanted}
use Rattle.core_machine.specs.Heads.{header_in, machine_of, segments_in, table_end, table_fault, table_in}
use Rattle.core_machine.specs.Reading.{IsReadTo}
use Rattle.core_machine.specs.Segments.{first_place}
use Rattle.core_machine.specs.declared.segments.opening.Core.{Core}
use Rattle.core_machine.specs.declared.segments.fault.Fault.{Fault}
use Rattle.core_machine.specs.declared.segments.segment.Segment.{Segment}
use Rattle.core_machine.specs.declared.segments.table.ProgramHeader.{ProgramHeader}

-- Linux' name of a machine (`uname -m`) by its number (e_machine, elf.h)
abbrev pub name_of_machine : ℕ → List ℕ
name_of_machine machine =
    if machine == 62 then codes "x86_64"
    else (if machine == 183 then codes "aarch64"
    else (if machine == 3 then codes "i686"
    else (if machine == 243 then codes "riscv64"
    else (if machine == 21 then codes "ppc64le"
    else (if machine == 22 then codes "s390x"
    else (if machine == 258 then codes "loongarch64"
    else (if machine == 40 then codes "arm" else [])))))))

-- a name filled to 65 bytes
abbrev pub filled : List ℕ → List ℕ
filled name = name ++ replicate (65 - length name) 0

-- the identity of a machine of which only the number is known
unfoldable pub foreign_ident : ℕ → Ident
foreign_ident machine = record {
  version_code = 0;
  names = filled (codes "Linux") ∷ filled [] ∷ filled [] ∷ filled []
      ∷ filled (name_of_machine machine) ∷ filled [] ∷ [];
}

-- an identity of 396 bytes, as at the beginning of an info page (struct swsusp_info, kernel/power/power.h)
unfoldable pub told_ident : List ℕ → Ident
told_ident bytes = record { version_code = number_at 4 bytes 392; names = names_of bytes }

-- a PT_NOTE of the size of such a note, lying between two places
abbrev pub is_note : ℕ → ℕ → ProgramHeader → Bool
is_note from to entry =
    entry.kind == 4 && entry.segment.file_size == 420
    && nat_le from entry.segment.offset && nat_le (entry.segment.offset + 420) to

-- the first such note after the program headers and before the segments' bytes
abbrev pub note_between : List ProgramHeader → ℕ → List Segment → Option ProgramHeader
note_between table place segments = find (is_note place (first_place segments)) table

unfoldable pub note_in : List ℕ → Option ProgramHeader
note_in bytes = note_between (table_in bytes) (table_end (header_in bytes)) (segments_in bytes)

-- whether a note is one of an identity: it has the beginning that each of those has
abbrev pub is_own : List ℕ → Bool
is_own note = starts_with nat_eq note (note_bytes [])

unfoldable pub ident_by : ℕ → List ℕ → Ident
ident_by machine note = if is_own note then told_ident (bytes_at 396 note 24) else foreign_ident machine

abbrev pub ident_with : List ℕ → ℕ → Option ProgramHeader → Ident
ident_with bytes machine None = foreign_ident machine
ident_with bytes machine (Some entry) = ident_by machine (bytes_at 420 bytes entry.segment.offset)

-- the identity of a file, what is wrong with it, and how far the file is read for that
abbrev pub ident_in : List ℕ → Ident
ident_in bytes = ident_with bytes (machine_of (header_in bytes)) (note_in bytes)

abbrev pub note_end : ℕ → Option ProgramHeader → ℕ
note_end place None = place
note_end place (Some entry) = entry.segment.offset + 420

abbrev pub note_fault : List ℕ → Option ProgramHeader → Option Fault
note_fault bytes None = None
note_fault bytes (Some entry) = wanted bytes (entry.segment.offset + 420)

abbrev pub head_end : List ℕ → ℕ
head_end bytes = note_end (table_end (header_in bytes)) (note_in bytes)

-- the first fault of what precedes the segments' bytes
unfoldable pub head_fault : List ℕ → Option Fault
head_fault bytes = or_else (table_fault bytes) (note_fault bytes (note_in bytes))

-- these bytes have no fault, and this is what they say
pub record IsCore (bytes : List ℕ) (core : Core) : Type 0 where
  pub no_fault : head_fault bytes ≡ None
  pub segments : core.segments.items ≡ segments_in bytes
  pub ident : core.ident ≡ ident_in bytes
  pub place : core.place ≡ head_end bytes
