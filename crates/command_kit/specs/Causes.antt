-- Whose failure the status of a command says. It has no counterpart in Linux.
use Rattle.std.specs.Prelude.{◌≡◌, ◌≢◌, ◌⊎◌}
use Rattle.definitions.specs.Disk.{HasRisen}
use Rattle.command_kit.specs.View.{SinkView, View}
use Rattle.command_kit.specs.declared.status.Status.{Status}
use Rattle.command_kit.specs.declared.status.Status.TheVariants.{Words, Stream, Device}

-- out or note failed
abbrev pub SinksFail : SinkView → SinkView → SinkView → SinkView → Type 0
SinksFail out out' note note' = HasRisen out.faults out'.faults ⊎ HasRisen note.faults note'.faults

-- the input, out or note failed
abbrev pub StreamsFail : View → View → Type 0
StreamsFail old new = HasRisen old.read_faults new.read_faults ⊎ SinksFail old.out new.out old.note new.note

-- the disk failed
abbrev pub DiskFails : View → View → Type 0
DiskFails old new = HasRisen old.disk.faults new.disk.faults

-- A status that blames the streams or the disk has its cause there; none blames the words, which were parsed before.
pub record HasCause (streams disk : Type 0) (status : Status) : Type 0 where
  pub stream : status ≡ Stream → streams
  pub device : status ≡ Device → disk
  pub words : status ≢ Words
