-- What `stream`, `page` and `core` write and note of an image that may be compressed. If it has a fault, nothing is
-- written, and the first fault is noted.
use Rattle.std.specs.Prelude.{ℕ, List, [], Option}
use Rattle.definitions.specs.Disk.{Content}
use Rattle.command_kit.specs.Told.{memory_told}
use Rattle.command_kit.specs.Told.{IsTold}
use Rattle.command_kit.specs.View.{SinkView}
use Rattle.command_kit.specs.declared.status.Status.{Status}
use Rattle.image_check.specs.Told.{Told, Tells}
use Rattle.image_check.specs.declared.finding.Finding.{Finding}
use Rattle.image_cli.specs.Notes.{IsNoted}
use Rattle.image_cli.specs.Streams.{refused_told}
use Rattle.expanded_disk.specs.declared.units.index.Index.{Index}
use Rattle.image_cli.specs.Runs.{RunsAny, RunsExpanded}

-- findings were noted, and nothing else happened
pub record NotesFindings (found : List Finding) (told : Told) (status : Status)
    (out out' note' : SinkView) : Type 0 where
  pub after : Told
  pub noted : SinkView
  pub tells : Tells found told after
  pub is_noted : IsNoted after noted
  pub ends : IsTold (refused_told []) status out out' noted note'

-- memory was refused, and that is noted after what was noted before
pub record NotesMemory (told : Told) (status : Status) (out out' note' : SinkView) : Type 0 where
  pub noted : SinkView
  pub is_noted : IsNoted told noted
  pub ends : IsTold memory_told status out out' noted note'

-- what a command does: of the disk's content, its size, the header block and its failures before and after; of what was
-- noted before; with this status; and what it writes and notes
abbrev pub Writes : Type 1
Writes = Option Content → (blocks header before now : ℕ) → Told → Status → (out out' note' : SinkView) → Type 0

-- a command that does this with a plain image, run for an image that may be compressed
abbrev pub NotesAny : Writes → Writes
NotesAny Does content blocks header before now told status out out' note' =
    RunsAny (λ c n h b f. Does c n h b f told status out out' note')
    (λ found. NotesFindings found told status out out' note') (NotesMemory told status out out' note')
    content blocks header before now

-- only what it does with the plain image that a compressed one expands to
abbrev pub NotesExpanded : Writes → Option Content → (header : ℕ) → Index → (before now : ℕ) → Told → Status →
    (out out' note' : SinkView) → Type 0
NotesExpanded Does content header index before now told status out out' note' =
    RunsExpanded (λ c n h b f. Does c n h b f told status out out' note')
    (NotesMemory told status out out' note') content header index before now
