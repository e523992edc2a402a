use Rattle.dump_tools.proofs.Kept.{fits_kept}
use Rattle.dump_tools.proofs.fresh.make_fresh.Goals as goal

pub returns-clause-fits : goal.returns-clause-fits
returns-clause-fits c =
    fits_kept c.args.dump.now.hw c.args.dump.now.frames c.in_ok-dump.field-0 c.in_ok-dump.ensures.hardware c.in_ok-dump.ensures.fresh
