use Rattle.std.proofs.Common.{sym, ◌∙◌}
use Rattle.dump_file.proofs.ExtentFaults.{covers_is}
use Rattle.dump_file.proofs.extents.covers.Goals as goal

pub returns-clause-covers : goal.returns-clause-covers
returns-clause-covers c =
    covers_is c.args.extents.now c.args.slots c.is_ok.result c.requires.some c.requires.few c.requires.each
    (λ e. c.of.ensures.ok.0 (sym c.is_ok.ensures.value ∙ e))
    (λ map. c.is_ok.ensures.value ∙ c.of.ensures.ok.1 map)
