use Rattle.std.proofs.Common.{sym, ap, ◌∙◌, subst, refl}
use Rattle.machine.specs.Flights.{flights_in}
use Rattle.machine.specs.Running.{CanRun}
use Rattle.machine.specs.declared.flight.Flight.TheVariants.{Nothing}
use Rattle.machine.specs.declared.machine.Machine.{Machine}
use Rattle.machine.proofs.Landings.{row_of_end, answer_of_end, call_of_end, entries_of_end}
use Rattle.machine.proofs.Readiness.{can_run-ended, flights-set}
use Rattle.machine.proofs.Swaps.{has_slots}
use Rattle.machine.proofs.machine.Machine.finish.Goals as goal

pub returns-clause-row : goal.returns-clause-row
returns-clause-row g c =
    let machine = c.args.self.now in
    let h = machine.hw in
    let frames = c.args.frames.now in
    let t = c.args.t in
    let hw = c.end_flight-reply.ensures.hardware in
    row_of_end machine c.set_flight.new.self frames c.end_flight-reply.new.frames t (flights_in machine.flights t) c.end_flight-reply.result (g.D.Disk.content c.args.disk.now) (g.D.Disk.content c.end_flight-reply.new.disk) hw
    (has_slots h frames hw c.end_flight-reply.ensures.pages c.requires.ready.size) c.requires.ready.reserved c.requires.ready.size c.requires.ready.flights
    (λ u. ap (λ (m : Machine). flights_in m.flights u) c.set_flight.ensures.set ∙ flights-set machine.flights t Nothing u c.requires.task c.set_flight.ensures.tasks) refl c.end_flight-reply.ensures.ends

pub returns-clause-disk : goal.returns-clause-disk
returns-clause-disk g c =
    call_of_end c.args.self.now.hw (flights_in c.args.self.now.flights c.args.t) c.args.frames.now c.end_flight-reply.new.frames c.end_flight-reply.result (g.D.Disk.content c.args.disk.now) (g.D.Disk.content c.end_flight-reply.new.disk) c.end_flight-reply.ensures.ends

pub returns-clause-answer : goal.returns-clause-answer
returns-clause-answer g c =
    answer_of_end c.args.self.now.hw (flights_in c.args.self.now.flights c.args.t) c.args.frames.now c.end_flight-reply.new.frames c.end_flight-reply.result (g.D.Disk.content c.args.disk.now) (g.D.Disk.content c.end_flight-reply.new.disk) c.end_flight-reply.ensures.ends

pub returns-clause-ready : goal.returns-clause-ready
returns-clause-ready g c =
    let machine = c.args.self.now in
    let h = machine.hw in
    let frames = c.args.frames.now in
    let new = c.end_flight-reply.new.frames in
    let t = c.args.t in
    let hw = c.end_flight-reply.ensures.hardware in
    let ready = c.requires.ready in
    subst (λ (m : Machine). CanRun m new c.end_flight-reply.new.runs) (sym c.set_flight.ensures.set)
    (can_run-ended machine frames new c.args.runs.now c.end_flight-reply.new.runs t c.requires.task c.set_flight.ensures.tasks
    (entries_of_end h machine.blocks (flights_in machine.flights t) frames new t c.end_flight-reply.result (g.D.Disk.content c.args.disk.now) (g.D.Disk.content c.end_flight-reply.new.disk) hw ready.reserved
    (λ s p e. ready.flights.outs t s p e) (λ s p e. ready.flights.ins t s p e) c.end_flight-reply.ensures.ends)
    hw c.end_flight-reply.ensures.len c.end_flight-reply.ensures.matches ready)
