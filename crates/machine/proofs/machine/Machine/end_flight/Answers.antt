use Rattle.std.proofs.Common.{sym}
use Rattle.machine.proofs.machine.Machine.end_flight.Goals as goal

pub end_out-requires-clause-flies : goal.end_out-requires-clause-flies
end_out-requires-clause-flies g c = (c.args.t, sym c.in-Out.ensures)

pub end_in-requires-clause-flies : goal.end_in-requires-clause-flies
end_in-requires-clause-flies g c = (c.args.t, sym c.in-In.ensures)
