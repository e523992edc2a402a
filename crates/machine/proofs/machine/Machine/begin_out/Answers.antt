use Rattle.std.proofs.Common.{◌≡◌, ◌≢◌, true, false, not, Some, inl, refl, sym, ap, ◌∙◌, subst}
use Rattle.std.proofs.lemmas.Bool.{false≢true}
use Rattle.std.specs.List.{slice_get}
use denote.Enum.Bare.{sameb}
use Rattle.plain_machine.specs.contracts.held.Held.{the_type}
use Rattle.plain_machine.specs.declared.held.Held.{Held}
use Rattle.plain_machine.specs.declared.held.Held.TheVariants.{No, Yes, Perhaps}
use Rattle.definitions.specs.Tables.{free_slots}
use Rattle.plain_machine.specs.Machine.{Memory, frame_entry}
use Rattle.plain_machine.specs.declared.event.TaskOp.TheVariants as op
use Rattle.plain_machine.specs.declared.reply.Reply.TheVariants as reply
use Rattle.machine.specs.Flights.{flights_in}
use Rattle.machine.specs.Running.{CanRun}
use Rattle.machine.specs.TaskRow.{SimulatesRequest}
use Rattle.machine.specs.declared.flight.Flight.TheVariants.{Out}
use Rattle.machine.specs.declared.machine.Machine.{Machine}
use Rattle.machine.proofs.SlotWrites.{frame_entry-slot_set}
use Rattle.machine.proofs.Swaps.{has_slots, first_free, out_not_own, out_closed, out_no_slot, out_begun}
use Rattle.machine.proofs.Readiness.{can_run-begun, flights-set}
use Rattle.machine.proofs.machine.Machine.begin_out.Goals as goal

is_no : (flag : Held) → false ≡ not (sameb the_type flag No) → flag ≡ No
is_no No e = refl
is_no Yes e = absurd (false≢true e)
is_no Perhaps e = absurd (false≢true e)

isn't_no : (flag : Held) → true ≡ not (sameb the_type flag No) → flag ≢ No
isn't_no flag e is = false≢true (sym (e ∙ ap (λ (f : Held). not (sameb the_type f No)) is))

pub returns-in-Some-clause-row : goal.returns-in-Some-clause-row
returns-in-Some-clause-row c =
    out_not_own c.args.self.now c.args.frames.now c.args.t c.args.p c.in-Some.refusal c.not_own.ensures.hardware c.requires.ready.size c.requires.idle (sym c.in-Some.ensures.refusal)

pub returns-then-ne-clause-row : goal.returns-then-ne-clause-row
returns-then-ne-clause-row c =
    out_closed c.args.self.now c.args.frames.now c.args.t c.args.p c.not_own.ensures.hardware c.requires.ready.size c.requires.idle (sym c.in_default.ensures.refusal) (isn't_no c.args.self.now.held c.if-ne.ensures)

pub returns-in-Some-take_slot-clause-row : goal.returns-in-Some-take_slot-clause-row
returns-in-Some-take_slot-clause-row c =
    let machine = c.args.self.now in
    let h = machine.hw in
    let frames = c.args.frames.now in
    let t = c.args.t in
    let p = c.args.p in
    let s = c.in-Some-take_slot.slot in
    let hw = c.not_own.ensures.hardware in
    let ok = c.in-Some-take_slot.ensures.usable refl in
    let least : slice_get (free_slots h.slots h.slot_table frames) 0 ≡ Some s = sym (c.in-Some-take_slot.ensures.least ok) in
    let slot = first_free h frames s least in
    let new = c.set_flight.new.self in
    subst (λ (n : Memory). SimulatesRequest machine frames t (op.Out p) new n (reply.Slot s)) (sym c.in-Some-take_slot.ensures.taken)
    (out_begun machine new frames t p s hw (has_slots h frames hw c.not_own.ensures.pages c.requires.ready.size) c.requires.task c.requires.ready.size c.requires.idle (sym c.in_default.ensures.refusal)
    (is_no machine.held c.if-ne.ensures) ok least slot.0 slot.1
    (λ u. ap (λ (m : Machine). flights_in m.flights u) c.set_flight.ensures.set ∙ flights-set machine.flights t (Out s p) u c.requires.task c.set_flight.ensures.tasks))

pub returns-in-Some-take_slot-clause-ready : goal.returns-in-Some-take_slot-clause-ready
returns-in-Some-take_slot-clause-ready c =
    let machine = c.args.self.now in
    let h = machine.hw in
    let frames = c.args.frames.now in
    let t = c.args.t in
    let p = c.args.p in
    let s = c.in-Some-take_slot.slot in
    let hw = c.not_own.ensures.hardware in
    let ok = c.in-Some-take_slot.ensures.usable refl in
    let slot = first_free h frames s (sym (c.in-Some-take_slot.ensures.least ok)) in
    subst (λ (m : Machine). CanRun m c.take_slot.new.frames c.take_slot.new.runs) (sym c.set_flight.ensures.set)
    (can_run-begun machine frames c.take_slot.new.frames c.args.runs.now c.take_slot.new.runs t s p (Out s p) c.requires.task c.set_flight.ensures.tasks ok slot.0 (c.in_default.ensures.valid refl) (c.in_default.ensures.owned refl) (inl refl)
    (λ q in'. ap (λ (n : Memory). frame_entry h n q) c.in-Some-take_slot.ensures.taken ∙ frame_entry-slot_set h frames s t q hw slot.0 in') hw c.take_slot.ensures.len c.take_slot.ensures.matches c.requires.ready)

pub returns-in-None-clause-row : goal.returns-in-None-clause-row
returns-in-None-clause-row c =
    let machine = c.args.self.now in
    let h = machine.hw in
    let frames = c.args.frames.now in
    let hw = c.not_own.ensures.hardware in
    subst (λ (n : Memory). SimulatesRequest machine frames c.args.t (op.Out c.args.p) machine n reply.NoSlot) (sym (c.in-None.ensures.none refl))
    (out_no_slot machine frames c.args.t c.args.p hw (has_slots h frames hw c.not_own.ensures.pages c.requires.ready.size) c.requires.ready.size c.requires.idle (sym c.in_default.ensures.refusal)
    (is_no machine.held c.if-ne.ensures) (λ ok. sym (c.in-None.ensures.least ok)))
