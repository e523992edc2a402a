-- From a machine that is made from a number to what is printed about it.
use Rattle.std.proofs.Common.{zero, suc, ◌≡◌, ◌≢◌, inl, inr, ◌≤◌, ◌<◌, ℕ, All, List, [], ◌∷◌, length, get_or, Option, Some, subst, ap, arith}
use Rattle.std.proofs.lemmas.Bool.{cases_lt}
use Rattle.definitions.specs.Disk as disk
use Rattle.plain_machine.specs.declared.reply.Reply.{Reply}
use Rattle.protocol_laws.specs.Rows.{TellsNewFault}
use Rattle.script.specs.Drill.{drill_script}
use Rattle.command_kit.specs.Told.{memory_told}
use Rattle.swsusp_cli.specs.Drills.{IsDrilled, out_of_memory, too_small, unformatted, summed, summary_told}
use Rattle.swsusp_cli.specs.Outcome.{Tells, small_told, unformatted_told}
use Rattle.command_core.specs.Turns.{AreCounted}
use Rattle.swsusp_cli.specs.SettingUp.{IsNotSetUp, unready_told}
use Rattle.command_kit.specs.View.{View}
use Rattle.command_words.specs.Words.{Asked, drill}
use Rattle.swsusp_cli.specs.declared.setting_up.Unready.{Unready}
use Rattle.swsusp_cli.specs.declared.setting_up.Unready.TheVariants.{Small, Unformatted as NotFormatted}
use Rattle.command_kit.specs.declared.status.Status.{Status}
use Rattle.command_kit.specs.declared.status.Status.TheVariants.{Stream}
use Rattle.swsusp_cli.proofs.Prints.{AreFlushed, told_flushed}
use Rattle.swsusp_cli.proofs.Replays.{not_formatted, small_disk}
use Rattle.command_core.proofs.Counted.{counted_later, risen_earlier}

pub drill_not_set_up : (number : ℕ) (x x' : View) (status : Status) (why : Unready) → IsNotSetUp (drill_script number) x.disk x'.disk why → Tells (unready_told why) status x x' → IsDrilled number x x' status
drill_not_set_up number x x' status (Small blocks need) few told = too_small (small_disk x x' status (drill_script number) blocks need few told)
drill_not_set_up number x x' status (NotFormatted call) fails told = unformatted call (not_formatted x x' status (drill_script number) call fails told)

risen_later : (low mid high : ℕ) → low ≤ mid → mid ≤ high → disk.HasRisen low mid → disk.HasRisen low high
risen_later low mid high ge le (inl lt) = inl (omega arith)
risen_later low mid high ge le (inr last) = elim (cases_lt low high) [ inl lt ↦ inl lt | inr not ↦ inr (omega arith) ]

all_cons : (P : Reply → Type 0) (r : Reply) (rs : List Reply) → P r → All P rs → (k : ℕ) (d : Reply) → k < length (r ∷ rs) → P (get_or (r ∷ rs) k d)
all_cons P r rs p ps zero d lt = p
all_cons P r rs p ps (suc k) d lt = ps k d (omega arith)

-- if the count didn't rise, no reply reports a call that failed
pub none_failed : (rs : List Reply) (low high : ℕ) → AreCounted rs low high → (disk.HasRisen low high → ⊥) → All (λ r. TellsNewFault r → ⊥) rs
none_failed [] low high le not = λ k d lt. absurd (omega arith)
none_failed (r ∷ rs) low high (m, le, f, rest) not =
    all_cons (λ q. TellsNewFault q → ⊥) r rs (λ fault. not (risen_later low m high le (counted_later rs m high rest) (f fault))) (none_failed rs m high rest (λ risen. not (risen_earlier low m high le risen)))

abbrev number_in : Option Asked → ℕ
number_in (Some (drill number)) = number
number_in _ = 0

-- what is told of the number that is asked for
pub drilled_as : (n m : ℕ) (x x' : View) (status : Status) → Some (drill n) ≡ Some (drill m) → IsDrilled n x x' status → IsDrilled m x x' status
drilled_as n m x x' status same is = subst (λ (k : ℕ). IsDrilled k x x' status) (ap number_in same) is

pub drill_flushed : (number : ℕ) (x x' : View) (status : Status) → IsDrilled number x x' status → status ≢ Stream → AreFlushed x'.out x'.note
drill_flushed number x x' status (out_of_memory is) well = told_flushed memory_told status x.out x'.out x.note x'.note is.told well
drill_flushed number x x' status (too_small is) well = told_flushed (small_told x.disk.blocks is.need) status x.out x'.out x.note x'.note is.told well
drill_flushed number x x' status (unformatted call is) well = told_flushed (unformatted_told call) status x.out x'.out x.note x'.note is.told well
drill_flushed number x x' status (summed is) well = told_flushed (summary_told number is.replies) status x.out x'.out x.note x'.note is.told well
