-- What `core` writes and notes.
use Rattle.std.specs.Prelude.{◌≡◌, ℕ, ◌≤◌, [], Option, codes}
use Rattle.definitions.specs.Disk.{Content}
use Rattle.command_kit.specs.Told.{RunResult, line, memory_told}
use Rattle.command_kit.specs.Told.{IsTold, IsTried, sink_note}
use Rattle.command_kit.specs.View.{SinkView}
use Rattle.command_kit.specs.declared.status.Status.{Status}
use Rattle.command_kit.specs.declared.status.Status.TheVariants.{Done, Stream}
use Rattle.image_check.specs.Told.{Told}
use Rattle.image_core.specs.Cores.{IsFront, IsStopped, IsUnwritten, IsWritten}
use Rattle.image_core.specs.declared.stop.Stop.{Stop}
use Rattle.image_core.specs.declared.stop.Stop.TheVariants.{NoImage, Refused, TooMany, Changed, Sink}
use Rattle.image_core.specs.declared.stop.Stop.TheVariants.{Memory}
use Rattle.image_cli.specs.Notes.{IsNoted}
use Rattle.image_cli.specs.Streams.{refused_told}

-- nothing is printed for a core file that is whole
abbrev pub whole_told : RunResult
whole_told = record { status = Done; out = []; note = [] }

-- the output failed: that is noted, and nothing more is written to it
pub record NotesFailure (status : Status) (out out' note note' : SinkView) : Type 0 where
  pub status_is : status ≡ Stream
  pub out_is : out' ≡ out
  pub noted : IsTried sink_note note note'

-- what is printed if the core file isn't written, or isn't whole, and why; findings were noted before
abbrev pub TellsStop : Stop → Status → (out out' note note' : SinkView) → Type 0
TellsStop NoImage = IsTold (refused_told (line (codes "no image")))
TellsStop Refused = IsTold (refused_told [])
TellsStop TooMany = IsTold (refused_told (line (codes "too many page frames")))
TellsStop Changed = IsTold (refused_told (line (codes "the image changed")))
TellsStop Sink = NotesFailure
TellsStop Memory = IsTold memory_told

-- Either the core file of the image was written whole, and nothing is noted; or nothing or a prefix of it was written,
-- and that is noted with its cause.
pub data WritesCore (content : Option Content) (blocks header before now : ℕ) (told : Told) (status : Status)
    (out out' note' : SinkView) : Type 0 where
  whole : (written noted : SinkView) →
      IsWritten content blocks header before now out.taken written.taken →
      out.faults ≤ written.faults → IsNoted told noted →
      IsTold whole_told status written out' noted note' →
      WritesCore content blocks header before now told status out out' note'
  stopped : (why : Stop) (then : Told) (written noted : SinkView) →
      IsStopped content blocks header before now told then out.faults written.faults why →
      IsFront content header out.taken written.taken → IsUnwritten out.taken written.taken why →
      out.faults ≤ written.faults → IsNoted then noted → TellsStop why status written out' noted note' →
      WritesCore content blocks header before now told status out out' note'
