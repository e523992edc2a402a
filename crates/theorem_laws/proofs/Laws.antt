-- What follows of the theorem (specs/Theorem.antt), a law for each promise that a reader may look for.
use Rattle.std.proofs.Common.{◌≡◌, ◌≤◌, ℕ, ◌+◌, List, length, take, None, ap, arith}
use Rattle.std.proofs.Math.Nat.{min-le_left, min-le_right}
use Rattle.std.proofs.lemmas.List.{length-take}
use Rattle.definitions.specs.Disk as disk
use Rattle.plain_machine.specs.State.{off, nothing}
use Rattle.plain_machine.specs.declared.event.Event.{Event}
use Rattle.plain_machine.specs.declared.reply.Reply.{Reply}
use Rattle.command_kit.specs.View.{DiskView, View}
use Rattle.command_kit.specs.declared.status.Status.{Status}
use Rattle.script.specs.Grammar.{ScriptValue}
use Rattle.script.specs.Drill.{drill_events}
use Rattle.theorem_laws.specs.Copies.{AllRestore}
use Rattle.theorem_laws.specs.Resumes.{AreResumedOnce}
use Rattle.theorem_laws.specs.Sleeps.{NeverBothGoOn}
use Rattle.theorem_laws.proofs.AtomicCopy.{all_restore}
use Rattle.theorem_laws.proofs.Once.{resumed_once}
use Rattle.theorem_laws.proofs.Sleeps.{never_both}
use Rattle.command_core.specs.Turns.{steps_of}
use Rattle.swsusp_cli.specs.Drills as drills
use Rattle.swsusp_cli.specs.Drills.{IsDrilled}
use Rattle.swsusp_cli.specs.Replay.{calls_until}
use Rattle.swsusp_cli.specs.Outcome.{IsReplayed, IsUnplayed, no_script, out_of_memory, unread, too_small, unformatted, unplayed, played, cut_off}
use Rattle.swsusp_cli.specs.Replay.{IsRun}
use Rattle.swsusp_cli.specs.declared.formatting.Unformatted.{Unformatted}
use Rattle.swsusp_cli.specs.declared.formatting.Unformatted.TheVariants.{Write, Sync}
use Rattle.swsusp_cli.proofs.Replays.{steps_few}

-- The headline, of each run that `replay` prints, `drill` sums up and the others do: a hibernation stands before each
-- resume and between any two of them; each resume restores what was there at the last one's atomic copy; and a machine
-- that is woken and the image that it left never both go on.
module _ (x x' : DiskView) (script : ScriptValue) (events : List Event) (replies : List Reply) (c : disk.Content) (is : IsRun x x' script events replies c) where
  pub at_most_once : AreResumedOnce events replies
  at_most_once = resumed_once script.hardware (disk.as_it_reads is.formatted) None events replies is.end is.run

  pub restores_the_copy : AllRestore script.hardware (disk.as_it_reads is.formatted) (off nothing None) events replies is.end
  restores_the_copy = all_restore script.hardware (disk.as_it_reads is.formatted) None events replies is.end is.run

  pub never_both_go_on : NeverBothGoOn script.hardware (disk.as_it_reads is.formatted) (off nothing None) events replies is.end
  never_both_go_on = never_both script.hardware (disk.as_it_reads is.formatted) None events replies is.end is.run

-- How often the disk is called.

first_few : (k : ℕ) (events : List Event) (n : ℕ) → length events ≤ n → steps_of (take k events) ≤ n
first_few k events n few = steps_few (take k events) n (let part = length-take k events in let least = min-le_right k (length events) in omega arith)

calls_untouched : (x x' : View) → x'.disk ≡ x.disk → x'.disk.calls ≤ x.disk.calls + 100002
calls_untouched x x' same = let e = ap (λ (d : DiskView). d.calls) same in omega arith

until_few : (call : Unformatted) (before after : ℕ) → after ≡ calls_until call before → after ≤ before + 100002
until_few Write before after is = omega (arith, min-le_left (before + 1) disk.last_count)
until_few Sync before after is = omega (arith, min-le_left (before + 1) disk.last_count, min-le_left (disk.raised before + 1) disk.last_count)

few_calls_of_unplayed : (x x' : View) (status : Status) → IsUnplayed x x' status → x'.disk.calls ≤ x.disk.calls + 100002
few_calls_of_unplayed x x' status (no_script fault is) = calls_untouched x x' is.untouched
few_calls_of_unplayed x x' status (out_of_memory is) = calls_untouched x x' is.untouched
few_calls_of_unplayed x x' status (unread is) = calls_untouched x x' is.untouched
few_calls_of_unplayed x x' status (too_small script of is) = calls_untouched x x' is.untouched
few_calls_of_unplayed x x' status (unformatted script call of is) = until_few call x.disk.calls x'.disk.calls is.calls

-- by a replay at most twice, and once for each event that a script may have
pub few_calls_of_replay : (x x' : View) (status : Status) → IsReplayed x x' status → x'.disk.calls ≤ x.disk.calls + 100002
few_calls_of_replay x x' status (unplayed is) = few_calls_of_unplayed x x' status is
few_calls_of_replay x x' status (played script is) =
    let few = steps_few script.events 100000 is.script_is.few in
    let calls = is.prints.1.calls in
    omega arith
few_calls_of_replay x x' status (cut_off script is) =
    let few = first_few is.prints.0 script.events 100000 is.script_is.few in
    let calls = is.prints.2.calls in
    omega arith

-- by a drill likewise
pub few_calls_of_drill : (number : ℕ) (x x' : View) (status : Status) → length (drill_events number) ≤ 100000 → IsDrilled number x x' status → x'.disk.calls ≤ x.disk.calls + 100002
few_calls_of_drill number x x' status few (drills.out_of_memory is) = calls_untouched x x' is.untouched
few_calls_of_drill number x x' status few (drills.too_small is) = calls_untouched x x' is.untouched
few_calls_of_drill number x x' status few (drills.unformatted call is) = until_few call x.disk.calls x'.disk.calls is.calls
few_calls_of_drill number x x' status few (drills.summed is) =
    let steps = steps_few (drill_events number) 100000 few in
    let calls = is.are.calls in
    omega arith
