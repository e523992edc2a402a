use Rattle.std.proofs.Common.{sym, subst}
use Rattle.plain_machine.specs.declared.event.TaskOp.{TaskOp}
use Rattle.machine.specs.TaskRow.{HasFrameRow, SimulatesRequest}
use Rattle.machine.specs.Flights.{flights_in}
use Rattle.machine.proofs.Swaps.{row_of_frames, row_in_flight, not_in_flight}
use Rattle.machine.proofs.Readiness.{can_run-changes}
use Rattle.machine.proofs.machine.Machine.task.Goals as goal

pub returns-in-Out-clause-row : goal.returns-in-Out-clause-row
returns-in-Out-clause-row c =
    subst (λ (o : TaskOp). SimulatesRequest c.args.self.now c.args.frames.now c.args.t o c.begin_out.new.self c.begin_out.new.frames c.begin_out.result) (sym c.in-Out.is) c.begin_out.ensures.row

pub returns-in-TakeIn-clause-row : goal.returns-in-TakeIn-clause-row
returns-in-TakeIn-clause-row c =
    subst (λ (o : TaskOp). SimulatesRequest c.args.self.now c.args.frames.now c.args.t o c.begin_in.new.self c.args.frames.now c.begin_in.result) (sym c.in-TakeIn.is) c.begin_in.ensures.row

pub returns-then-is_in_flight-clause-row : goal.returns-then-is_in_flight-clause-row
returns-then-is_in_flight-clause-row c = row_in_flight c.args.self.now c.args.frames.now c.args.t c.args.op (sym c.if-is_in_flight.ensures)

pub returns-in-Claim-clause-row : goal.returns-in-Claim-clause-row
returns-in-Claim-clause-row c =
    let machine = c.args.self.now in
    let frames = c.args.frames.now in
    row_of_frames machine frames c.claim.new.frames c.args.t c.args.op c.claim.result (not_in_flight (flights_in machine.flights c.args.t) (sym c.if-is_in_flight.ensures))
    (subst (λ (o : TaskOp). HasFrameRow machine.hw c.args.t o frames c.claim.new.frames c.claim.result) (sym c.in-Claim.is) c.claim.ensures.row)

pub returns-in-Claim-clause-ready : goal.returns-in-Claim-clause-ready
returns-in-Claim-clause-ready c =
    let machine = c.args.self.now in
    can_run-changes machine c.args.frames.now c.claim.new.frames c.args.runs.now c.args.t c.claim.ensures.hardware c.requires.task (not_in_flight (flights_in machine.flights c.args.t) (sym c.if-is_in_flight.ensures)) c.claim.ensures.len c.claim.ensures.own c.requires.ready

pub returns-in-Release-clause-row : goal.returns-in-Release-clause-row
returns-in-Release-clause-row c =
    let machine = c.args.self.now in
    let frames = c.args.frames.now in
    row_of_frames machine frames c.release.new.frames c.args.t c.args.op c.release.result (not_in_flight (flights_in machine.flights c.args.t) (sym c.if-is_in_flight.ensures))
    (subst (λ (o : TaskOp). HasFrameRow machine.hw c.args.t o frames c.release.new.frames c.release.result) (sym c.in-Release.is) c.release.ensures.row)

pub returns-in-Release-clause-ready : goal.returns-in-Release-clause-ready
returns-in-Release-clause-ready c =
    let machine = c.args.self.now in
    can_run-changes machine c.args.frames.now c.release.new.frames c.args.runs.now c.args.t c.release.ensures.hardware c.requires.task (not_in_flight (flights_in machine.flights c.args.t) (sym c.if-is_in_flight.ensures)) c.release.ensures.len c.release.ensures.own c.requires.ready

pub returns-in-Store-clause-row : goal.returns-in-Store-clause-row
returns-in-Store-clause-row c =
    let machine = c.args.self.now in
    let frames = c.args.frames.now in
    row_of_frames machine frames c.store.new.frames c.args.t c.args.op c.store.result (not_in_flight (flights_in machine.flights c.args.t) (sym c.if-is_in_flight.ensures))
    (subst (λ (o : TaskOp). HasFrameRow machine.hw c.args.t o frames c.store.new.frames c.store.result) (sym c.in-Store.is) c.store.ensures.row)

pub returns-in-Store-clause-ready : goal.returns-in-Store-clause-ready
returns-in-Store-clause-ready c =
    let machine = c.args.self.now in
    can_run-changes machine c.args.frames.now c.store.new.frames c.args.runs.now c.args.t c.store.ensures.hardware c.requires.task (not_in_flight (flights_in machine.flights c.args.t) (sym c.if-is_in_flight.ensures)) c.store.ensures.len c.store.ensures.own c.requires.ready

pub returns-in-Show-clause-row : goal.returns-in-Show-clause-row
returns-in-Show-clause-row c =
    let machine = c.args.self.now in
    let frames = c.args.frames.now in
    row_of_frames machine frames c.show.new.frames c.args.t c.args.op c.show.result (not_in_flight (flights_in machine.flights c.args.t) (sym c.if-is_in_flight.ensures))
    (subst (λ (o : TaskOp). HasFrameRow machine.hw c.args.t o frames c.show.new.frames c.show.result) (sym c.in-Show.is) c.show.ensures.row)

pub returns-in-Show-clause-ready : goal.returns-in-Show-clause-ready
returns-in-Show-clause-ready c =
    let machine = c.args.self.now in
    can_run-changes machine c.args.frames.now c.show.new.frames c.args.runs.now c.args.t c.show.ensures.hardware c.requires.task (not_in_flight (flights_in machine.flights c.args.t) (sym c.if-is_in_flight.ensures)) c.show.ensures.len c.show.ensures.own c.requires.ready

pub returns-in-Cache-clause-row : goal.returns-in-Cache-clause-row
returns-in-Cache-clause-row c =
    let machine = c.args.self.now in
    let frames = c.args.frames.now in
    row_of_frames machine frames c.cache.new.frames c.args.t c.args.op c.cache.result (not_in_flight (flights_in machine.flights c.args.t) (sym c.if-is_in_flight.ensures))
    (subst (λ (o : TaskOp). HasFrameRow machine.hw c.args.t o frames c.cache.new.frames c.cache.result) (sym c.in-Cache.is) c.cache.ensures.row)

pub returns-in-Cache-clause-ready : goal.returns-in-Cache-clause-ready
returns-in-Cache-clause-ready c =
    let machine = c.args.self.now in
    can_run-changes machine c.args.frames.now c.cache.new.frames c.args.runs.now c.args.t c.cache.ensures.hardware c.requires.task (not_in_flight (flights_in machine.flights c.args.t) (sym c.if-is_in_flight.ensures)) c.cache.ensures.len c.cache.ensures.own c.requires.ready
