use Rattle.std.proofs.Common.{◌≡◌, ◌&&◌, Bool, true, false, inr, refl, sym, ap, ◌∙◌, eqb, nat_lt, is_ok, subst}
use Rattle.std.proofs.lemmas.Bool.{ltb-true, false≢true}
use Rattle.plain_machine.specs.Machine.{raw_slot_entry}
use Rattle.machine.specs.Flights.{flights_in}
use Rattle.machine.specs.Running.{CanRun}
use Rattle.machine.specs.declared.flight.Flight.TheVariants.{In}
use Rattle.machine.specs.declared.machine.Machine.{Machine}
use Rattle.machine.proofs.Swaps.{has_slots, in_not_own, in_no_slot, in_begun}
use Rattle.machine.proofs.Readiness.{can_run-begun, flights-set}
use Rattle.machine.proofs.machine.Machine.begin_in.Goals as goal

-- what the test of the slot says of area and slot
own_slot : (ok below owner : Bool) → (ok && below && owner) ≡ true → (ok ≡ true) × (below ≡ true)
own_slot true true true e = (refl, refl)
own_slot true true false e = absurd (false≢true e)
own_slot true false owner e = absurd (false≢true e)
own_slot false below owner e = absurd (false≢true e)

pub returns-in-Some-clause-row : goal.returns-in-Some-clause-row
returns-in-Some-clause-row c =
    in_not_own c.args.self.now c.args.frames.now c.args.t c.args.slot c.args.p c.in-Some.refusal c.not_own.ensures.hardware c.requires.ready.size c.requires.idle (sym c.in-Some.ensures.refusal)

pub returns-then-not-owns_slot-clause-row : goal.returns-then-not-owns_slot-clause-row
returns-then-not-owns_slot-clause-row c =
    let h = c.args.self.now.hw in
    let frames = c.args.frames.now in
    in_no_slot c.args.self.now frames c.args.t c.args.slot c.args.p c.not_own.ensures.hardware (has_slots h frames c.not_own.ensures.hardware c.not_own.ensures.pages c.requires.ready.size) c.requires.task c.requires.ready.size c.requires.idle
    (sym c.in_default.ensures.refusal) (sym c.owns_slot.ensures.test ∙ c.if-not-owns_slot.true)

pub returns-clause-row : goal.returns-clause-row
returns-clause-row c =
    let machine = c.args.self.now in
    let h = machine.hw in
    let frames = c.args.frames.now in
    in_begun machine c.set_flight.new.self frames c.args.t c.args.slot c.args.p c.not_own.ensures.hardware (has_slots h frames c.not_own.ensures.hardware c.not_own.ensures.pages c.requires.ready.size) c.requires.task c.requires.ready.size c.requires.idle
    (sym c.in_default.ensures.refusal) (sym c.owns_slot.ensures.test ∙ c.if-not-owns_slot.false)
    (λ u. ap (λ (m : Machine). flights_in m.flights u) c.set_flight.ensures.set ∙ flights-set machine.flights c.args.t (In c.args.slot c.args.p) u c.requires.task c.set_flight.ensures.tasks)

pub returns-clause-ready : goal.returns-clause-ready
returns-clause-ready c =
    let machine = c.args.self.now in
    let h = machine.hw in
    let frames = c.args.frames.now in
    let t = c.args.t in
    let p = c.args.p in
    let s = c.args.slot in
    let runs = c.args.runs.now in
    let own = own_slot (is_ok machine.area) (nat_lt s h.slots) (eqb (raw_slot_entry h frames s) t) (sym c.owns_slot.ensures.test ∙ c.if-not-owns_slot.false) in
    subst (λ (m : Machine). CanRun m frames runs) (sym c.set_flight.ensures.set)
    (can_run-begun machine frames frames runs runs t s p (In s p) c.requires.task c.set_flight.ensures.tasks own.0 (ltb-true s h.slots own.1) (c.in_default.ensures.valid refl) (c.in_default.ensures.owned refl) (inr refl)
    (λ q in'. refl) c.not_own.ensures.hardware refl c.requires.ready.matches c.requires.ready)
