use Rattle.std.proofs.Common.{◌≡◌, ◌≢◌, ◌<◌, ◌^◌, true, false, refl, sym, ap, ◌∙◌, arith}
use Rattle.std.proofs.lemmas.Bool.{false≢true}
use denote.Enum.Bare.{sameb}
use Rattle.plain_machine.specs.contracts.held.Held.{the_type}
use Rattle.plain_machine.specs.declared.held.Held.{Held}
use Rattle.plain_machine.specs.declared.held.Held.TheVariants.{No, Yes, Perhaps}
use Rattle.hib_core.proofs.SettleBegin.{busy_row, nothing_held_row, settle_begun_row, can_settle}
use Rattle.hib_core.proofs.hib.Hib.settle.Goals as goal

is_no : (flag : Held) → sameb the_type flag No ≡ true → flag ≡ No
is_no No e = refl
is_no Yes e = absurd (false≢true e)
is_no Perhaps e = absurd (false≢true e)

isn't_no : (flag : Held) → sameb the_type flag No ≡ false → flag ≢ No
isn't_no flag e is = false≢true (sym e ∙ ap (λ (f : Held). sameb the_type f No) is)

pub returns-then-eq-clause-row : goal.returns-then-eq-clause-row
returns-then-eq-clause-row c = λ k. nothing_held_row c.args.machine.now c.args.frames.now c.args.self.now k (sym c.busy.ensures ∙ c.in_default.is) (is_no c.args.machine.now.held (sym c.eq.ensures ∙ c.if-eq.true))

pub returns-clause-row : goal.returns-clause-row
returns-clause-row c = λ k. settle_begun_row c.args.machine.now c.args.frames.now c.args.self.now c.begin.result k (sym c.busy.ensures ∙ c.in_default.is) (isn't_no c.args.machine.now.held (sym c.eq.ensures ∙ c.if-eq.false)) c.begin.ensures

pub returns-clause-ready : goal.returns-clause-ready
returns-clause-ready c = λ busy.
    let few : c.args.machine.now.blocks < 2 ^ 32 = omega arith in
    can_settle c.args.machine.now c.args.frames.now c.args.runs.now c.args.self.now c.begin.result c.is_hardware.ensures.hardware few (isn't_no c.args.machine.now.held (sym c.eq.ensures ∙ c.if-eq.false)) c.requires.ready

pub returns-clause-refused : goal.returns-clause-refused
returns-clause-refused c = λ never. absurd (never 0 3 refl)

pub returns-in-Some-clause-row : goal.returns-in-Some-clause-row
returns-in-Some-clause-row c = λ k. busy_row c.args.machine.now c.args.frames.now c.args.self.now c.in-Some.task k (sym c.busy.ensures ∙ c.in-Some.is)
