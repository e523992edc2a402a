-- A command whose status is 0 has answered completely, and with success.
use Rattle.std.specs.Prelude.{◌≡◌, ℕ, Option, Ok}
use Rattle.page_core.specs.declared.format.Format.{Format}
use Rattle.dump_file.specs.Dump.{DumpValue}
use Rattle.dump_file.specs.Written.{dump_bytes}
use Rattle.plain_machine.specs.Replies.{line_of}
use Rattle.plain_machine.specs.declared.event.IdentCheck.{IdentCheck}
use Rattle.plain_machine.specs.declared.reply.Reply.TheVariants as reply
use Rattle.sector_disk.specs.declared.disk.Disk.{Ghosts}
use Rattle.command_core.specs.declared.ending.Ended.{Ended}
use Rattle.command_kit.specs.Told.{IsPrinted}
use Rattle.command_kit.specs.View.{View}
use Rattle.command_kit.specs.declared.status.Status.{Status}
use Rattle.script.specs.Grammar.{ScriptValue}
use Rattle.swsusp_cli.specs.Drills.{IsSummed, summary_told}
use Rattle.swsusp_cli.specs.Dumps.{HasAnswered}
use Rattle.swsusp_cli.specs.Exports.{IsExported, stream_told}
use Rattle.swsusp_cli.specs.Imports.{Ends, imported_told}
use Rattle.swsusp_cli.specs.Loads.{HasLoaded}
use Rattle.swsusp_cli.specs.Outcome.{IsPlayed}
use Rattle.swsusp_cli.specs.Run.{IsInspection}

-- A hibernation saved its image, and out took the line that says so, which is flushed.
pub record HasSaved {X : Type 0} (D : Ghosts X) (before after : X) (f : Format) (size : Option ℕ) (x x' : View)
    (status : Status) : Type 0 where
  pub dump : DumpValue
  pub ended : Ended
  pub answered : HasAnswered D before after f size x x' status dump ended
  pub saved : (n : ℕ) × (ended.reply ≡ reply.Hibernated n)
  pub printed : IsPrinted (line_of ended.reply) x.out x'.out

-- A resume restored the image, and out took the dump of what it restored, which is flushed.
pub record HasRestored {X : Type 0} (D : Ghosts X) (before after : X) (check : IdentCheck) (x x' : View)
    (status : Status) : Type 0 where
  pub dump : DumpValue
  pub ended : Ended
  pub loaded : HasLoaded D before after check x x' status dump ended
  pub restored : (n : ℕ) × (ended.reply ≡ reply.Resumed n)
  pub printed : IsPrinted (dump_bytes dump.hw loaded.shown.frames) x.out x'.out

-- An export handed out the image of a dump, an import took the stream of an image into its area, a replay printed its
-- whole run, a drill summed up its run, and an inspection read its block: out took each text, and it is flushed.

pub record HasExported (x x' : View) (status : Status) : Type 0 where
  pub dump : DumpValue
  pub exported : IsExported x x' status dump
  pub printed : IsPrinted (stream_told dump.hw dump.memory).out x.out x'.out

pub record HasImported (x x' : View) : Type 0 where
  pub saved : ℕ
  pub imported : Ends x.left x'.left x.disk x'.disk (Ok saved)
  pub printed : IsPrinted (imported_told saved).out x.out x'.out

pub record HasReplayed (x x' : View) (status : Status) : Type 0 where
  pub script : ScriptValue
  pub played : IsPlayed x x' status script

pub record HasDrilled (number : ℕ) (x x' : View) (status : Status) : Type 0 where
  pub summed : IsSummed number x x' status
  pub printed : IsPrinted (summary_told number summed.replies).out x.out x'.out

pub record HasInspected (offset : ℕ) (x x' : View) (status : Status) : Type 0 where
  pub inspected : IsInspection offset x x' status
  pub printed : IsPrinted inspected.answer.out x.out x'.out
