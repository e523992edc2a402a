use Rattle.std.proofs.Common.{eqb, option_copied, sym, ap, ◌∙◌}
use Rattle.std.specs.List.{list_any}
use Rattle.frame_sets.specs.Places.{members_in}
use Rattle.frame_sets.proofs.Filling.{listed}
use Rattle.frame_sets.proofs.packing.packing.is_in.Goals as goal

pub returns-in-Some : goal.returns-in-Some
returns-in-Some c =
    listed c.in-Some.set.now.members c.args.p c.has.result c.has.ensures
    ∙ ap (λ set. list_any (λ q. eqb q c.args.p) (members_in (option_copied set))) (sym c.in-Some.is)
