-- Which resumes succeed with the loader that is made of an image.
use Rattle.std.specs.Prelude.{◌≡◌, ℕ, [], Some}
use Rattle.definitions.specs.Disk.{Content, IsContent, as_it_reads}
use Rattle.machine.specs.declared.dump.Dump.{Dump}
use Rattle.plain_machine.specs.declared.event.IdentCheck.{IdentCheck}
use Rattle.image_check.specs.Checked.{Finds}
use Rattle.image_machine.specs.declared.heading.Layout.{Layout}
use Rattle.image_machine.specs.Makes.{IsLoaderOf}
use Rattle.image_machine.specs.Resumable.{IsResumed, NamesSlots}

-- If nothing wrong is found in an image, the loader that is made of it resumes it, under the same kernel and under any,
-- provided that its blocks are those of the loader's slots.
abbrev pub LoaderResumes : Type 0
LoaderResumes =
    (blocks before now : ℕ) (held : Content) (layout : Layout) (dump : Dump) (check : IdentCheck) →
    IsContent blocks held → IsLoaderOf (Some held) layout dump →
    NamesSlots dump.hw (as_it_reads held) layout.offset →
    Finds (Some held) blocks layout.offset before now (Some []) →
    IsResumed dump.hw dump.frames (as_it_reads held) check

-- The blocks are those of the slots if no extents were given: the area then lies in one piece from block 0 on.
abbrev pub LoaderOfOnePieceResumes : Type 0
LoaderOfOnePieceResumes =
    (blocks before now : ℕ) (held : Content) (layout : Layout) (dump : Dump) (check : IdentCheck) →
    IsContent blocks held → IsLoaderOf (Some held) layout dump → layout.extents.now ≡ [] →
    Finds (Some held) blocks layout.offset before now (Some []) →
    IsResumed dump.hw dump.frames (as_it_reads held) check
