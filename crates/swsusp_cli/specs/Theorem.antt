-- The theorem: what the program does, whatever its words, its input, its disk and its sinks are. It is the one clause
-- of `run` (src/top.rt). What follows from it, such as that an image is resumed at most once, is proved in
-- proofs/Laws.antt.
use Rattle.std.specs.Prelude.{◌≡◌, ◌≢◌, List, ℕ, Option, Some, None, IsTrue, ⊤}
use Rattle.byte_streams.specs.Flushed.{IsFlushed}
use Rattle.command_kit.specs.Causes.{DiskFails, StreamsFail}
use Rattle.command_kit.specs.View.{View}
use Rattle.command_kit.specs.declared.status.Status.{Status}
use Rattle.command_kit.specs.declared.status.Status.TheVariants as status
use Rattle.sector_disk.specs.declared.disk.Disk.{Ghosts}
use Rattle.swsusp_cli.specs.Imports.{ImportsInside}
use Rattle.swsusp_cli.specs.Drills.{IsDrilled}
use Rattle.swsusp_cli.specs.Dumps.{Hibernates}
use Rattle.swsusp_cli.specs.Exports.{Exports}
use Rattle.swsusp_cli.specs.Imports.{Imports}
use Rattle.swsusp_cli.specs.Loads.{Resumes}
use Rattle.swsusp_cli.specs.Outcome.{IsReplayed}
use Rattle.swsusp_cli.specs.Outcome.{HandsOutAtMost}
use Rattle.swsusp_cli.specs.Run.{Inspects, Refuses}
use Rattle.command_words.specs.Words.{Asked, command_of, inspect, hibernate, resume, replay, drill, export, import}

-- What is done and printed, by what the words ask for and the view of the outside before and after. Nothing is read but
-- a script, up to one byte past the largest, a dump or a stream.
abbrev pub Does : {X : Type 0} → Ghosts X → (before after : X) → (x x' : View) → Status → Option Asked → Type 0
Does D before after x x' ends None = Refuses x x' ends × (x'.left ≡ x.left)
Does D before after x x' ends (Some (inspect offset swap)) = Inspects offset x x' ends × (x'.left ≡ x.left)
Does D before after x x' ends (Some replay) = IsReplayed x x' ends × HandsOutAtMost 1048577 x.left x'.left
Does D before after x x' ends (Some (drill number)) = IsDrilled number x x' ends × (x'.left ≡ x.left)
Does D before after x x' ends (Some (hibernate format size swap)) = Hibernates D before after format size x x' ends
Does D before after x x' ends (Some (resume check swap)) = Resumes D before after check x x' ends
Does D before after x x' ends (Some export) = Exports x x' ends
Does D before after x x' ends (Some (import swap)) = Imports x x' ends

-- What a crash at some moment since an import began may leave, over a disk that tells moments. For a hibernation and a
-- resume, their runs say so.
abbrev pub IsSafe : {X : Type 0} → Ghosts X → (before after : X) → (x x' : View) → Option Asked → Type 0
IsSafe D before after x x' (Some (import swap)) =
    ImportsInside x.left x'.left (D.moment before) (D.moment after) (D.left_since before) (D.left_since after)
IsSafe D before after x x' _ = ⊤

-- Each status that reports a failure has its cause. Under every status but a stream's, all that was taken is flushed.
pub record IsJustified (asked : Option Asked) (x x' : View) (ends : Status) : Type 0 where
  pub words : ends ≡ status.Words → asked ≡ None
  pub stream : ends ≡ status.Stream → StreamsFail x x'
  pub flushed : ends ≢ status.Stream → IsFlushed x'.out.taken x'.out.flushed × IsFlushed x'.note.taken x'.note.flushed
  pub device : ends ≡ status.Device → DiskFails x x'

-- What the program does, called with these words, the first of which is its name, over a disk before and after.
pub record Promise {X : Type 0} (D : Ghosts X) (words : List (List ℕ)) (before after : X) (x x' : View)
    (ends : Status) : Type 0 where
  pub does : Does D before after x x' ends (command_of words)
  pub safe : IsTrue (D.tells_moments before) → IsSafe D before after x x' (command_of words)
  pub cause : IsJustified (command_of words) x x' ends
