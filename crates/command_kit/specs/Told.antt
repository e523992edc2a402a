-- What a run ends with, and what the sinks take of it.
use Rattle.std.specs.Prelude.{◌≡◌, ◌⊎◌, ℕ, List, codes, [], ◌∷◌, ◌++◌}
use Rattle.definitions.specs.Disk.{HasRisen}
use Rattle.definitions.specs.Streams.{TakesAll, TakesFront}
use Rattle.byte_streams.specs.Flushed.{IsFlushed}
use Rattle.command_kit.specs.declared.status.Status.{Status}
use Rattle.command_kit.specs.declared.status.Status.TheVariants.{Stream, Done, Words, Device, Memory}
use Rattle.command_kit.specs.View.{SinkView}

-- The results of runs.

-- a status, the text on out and the text on note
pub record RunResult : Type 0 where
  pub status : Status
  pub out : List ℕ
  pub note : List ℕ

-- a text and the end of its line
abbrev pub line : List ℕ → List ℕ
line text = text ++ 10 ∷ []

-- done, with nothing to print
abbrev pub done : RunResult
done = record { status = Done; out = []; note = [] }

-- the words don't parse, as this text says
abbrev pub unparsed : List ℕ → RunResult
unparsed text = record { status = Words; out = []; note = text }

-- memory was refused
abbrev pub memory_told : RunResult
memory_told = record { status = Memory; out = []; note = line (codes "no memory") }

-- the header couldn't be read
abbrev pub unread : RunResult
unread = record { status = Device; out = []; note = line (codes "read fault same") }

-- a text is taken whole, and all that was taken is flushed
pub record IsPrinted (text : List ℕ) (old new : SinkView) : Type 0 where
  pub whole : TakesAll text old.taken new.taken
  pub flushed : IsFlushed new.taken new.flushed

-- a prefix of the text is taken, and the sink has failed
pub record FailsToPrint (text : List ℕ) (old new : SinkView) : Type 0 where
  pub front : TakesFront text old.taken new.taken
  pub risen : HasRisen old.faults new.faults

abbrev pub IsTried : List ℕ → SinkView → SinkView → Type 0
IsTried text old new = IsPrinted text old new ⊎ FailsToPrint text old new

-- the note that is tried, once, if out failed
abbrev pub sink_note : List ℕ
sink_note = line (codes "sink fault")

-- both texts are printed
pub record IsToldWhole (told : RunResult) (status : Status) (out out' note note' : SinkView) : Type 0 where
  pub status_is : status ≡ told.status
  pub out_whole : IsPrinted told.out out out'
  pub note_whole : IsPrinted told.note note note'

-- out failed in its text, and a note of that was tried; or note failed in its own text
abbrev pub AreFronts : RunResult → SinkView → SinkView → SinkView → SinkView → Type 0
AreFronts told out out' note note' =
    (FailsToPrint told.out out out' × IsTried sink_note note note')
    ⊎ (IsPrinted told.out out out' × FailsToPrint told.note note note')

-- a sink failed
pub record IsCutShort (told : RunResult) (status : Status) (out out' note note' : SinkView) : Type 0 where
  pub status_is : status ≡ Stream
  pub fronts : AreFronts told out out' note note'

abbrev pub IsTold : RunResult → Status → SinkView → SinkView → SinkView → SinkView → Type 0
IsTold told status out out' note note' =
    IsToldWhole told status out out' note note' ⊎ IsCutShort told status out out' note note'
