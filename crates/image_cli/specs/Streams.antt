-- What `stream` writes and notes.
use Rattle.std.specs.Prelude.{◌≡◌, ℕ, ◌≤◌, List, [], Option, codes}
use Rattle.definitions.specs.Disk.{Content, HasRisen}
use Rattle.command_kit.specs.Told.{RunResult, line, memory_told}
use Rattle.command_kit.specs.Told.{IsTold, IsTried, sink_note}
use Rattle.command_kit.specs.View.{SinkView}
use Rattle.command_kit.specs.declared.status.Status.{Status}
use Rattle.command_kit.specs.declared.status.Status.TheVariants.{Done, Refused, Stream}
use Rattle.image_check.specs.Told.{Told}
use Rattle.image_stream.specs.Streamed.{IsFront, IsStreamed}
use Rattle.image_stream.specs.declared.streaming.Streamed.{Streamed}
use Rattle.image_stream.specs.declared.streaming.Streamed.TheVariants as streamed
use Rattle.image_cli.specs.Notes.{IsNoted}

-- nothing more is printed, and this is noted
abbrev pub refused_told : List ℕ → RunResult
refused_told note = record { status = Refused; out = []; note = note }

-- what is printed after the pages that were written and the findings that were noted
abbrev pub streamed_told : Streamed → RunResult
streamed_told streamed.NoImage = refused_told (line (codes "no image"))
streamed_told streamed.Refused = refused_told []
streamed_told streamed.Whole = record { status = Done; out = []; note = [] }

-- Either the image was written, or a part of it, and that is reported; or the output failed within its stream; or
-- memory was refused before.
pub data Streams (content : Option Content) (blocks header before now : ℕ) (told : Told) (status : Status)
    (out out' note' : SinkView) : Type 0 where
  ended : (what : Streamed) (then : Told) (written noted : SinkView) →
      IsStreamed content blocks header before now told then out.taken written.taken what →
      out.faults ≤ written.faults → IsNoted then noted →
      IsTold (streamed_told what) status written out' noted note' →
      Streams content blocks header before now told status out out' note'
  cut_short : (noted : SinkView) → status ≡ Stream → IsFront content blocks header out.taken out'.taken →
      HasRisen out.faults out'.faults → IsNoted told noted → IsTried sink_note noted note' →
      Streams content blocks header before now told status out out' note'
  no_memory : (written noted : SinkView) → written.taken ≡ out.taken → out.faults ≤ written.faults →
      IsNoted told noted → IsTold memory_told status written out' noted note' →
      Streams content blocks header before now told status out out' note'
