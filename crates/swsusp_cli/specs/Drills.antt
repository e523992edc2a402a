-- How `drill` may end: it plays the script that a number gives, and one line sums up the replies.
use Rattle.std.specs.Prelude.{ℕ, List, [], All}
use Rattle.definitions.specs.Disk as disk
use Rattle.plain_machine.specs.declared.reply.Reply.{Reply}
use Rattle.protocol_laws.specs.Rows.{TellsNewFault}
use Rattle.script.specs.Drill.{drill_events, drill_hardware, drill_script, summary, tally_of}
use Rattle.command_kit.specs.Told.{RunResult}
use Rattle.swsusp_cli.specs.Replay.{LieBelow}
use Rattle.swsusp_cli.specs.Outcome.{IsOutOfMemory, IsTooSmall, IsUnformatted, Tells}
use Rattle.swsusp_cli.specs.Replay.{AreReplies}
use Rattle.command_kit.specs.View.{View}
use Rattle.swsusp_cli.specs.declared.formatting.Unformatted.{Unformatted}
use Rattle.command_kit.specs.declared.status.Status.{Status}
use Rattle.command_kit.specs.declared.status.Status.TheVariants.{Done}

abbrev pub summary_told : ℕ → List Reply → RunResult
summary_told number replies = record { status = Done; out = summary number (tally_of replies); note = [] }

-- All events were played, and the line is that of a run of the plain machine, as in a replay. A reply reports a failed
-- call of the disk at its own event only if the disk's count of faults rose.
pub record IsSummed (number : ℕ) (x x' : View) (status : Status) : Type 0 where
  pub roomy : LieBelow drill_hardware x.disk.blocks
  pub replies : List Reply
  pub are : AreReplies x.disk x'.disk (drill_script number) (drill_events number) replies
  pub faultless : (disk.HasRisen x.disk.faults x'.disk.faults → ⊥) → All (λ r. TellsNewFault r → ⊥) replies
  pub told : Tells (summary_told number replies) status x x'

-- How a drill may end, by the view of the outside before and after it.
pub data IsDrilled (number : ℕ) (x x' : View) (status : Status) : Type 0 where
  out_of_memory : IsOutOfMemory x x' status → IsDrilled number x x' status
  too_small : IsTooSmall x x' status (drill_script number) → IsDrilled number x x' status
  unformatted : (call : Unformatted) → IsUnformatted x x' status (drill_script number) call →
      IsDrilled number x x' status
  summed : IsSummed number x x' status → IsDrilled number x x' status
