use Rattle.dump_tools.proofs.Agreeing.{none_or_first}
use Rattle.dump_tools.proofs.difference.first_difference.Goals as goal

pub returns-then-is_same-clause-none : goal.returns-then-is_same-clause-none
returns-then-is_same-clause-none c =
    none_or_first c.args.first.now c.args.second.now c.first_in_frames.result c.first_in_frames.ensures.zones (c.is_same.ensures.0 c.if-is_same.true)
    c.first_in_frames.ensures.none c.first_in_frames.ensures.difference
