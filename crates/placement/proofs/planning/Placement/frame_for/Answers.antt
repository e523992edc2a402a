use Rattle.std.proofs.Common.{◌≡◌, ◌<◌, Some, length, slice_get, refl, sym, ap, ◌∙◌, subst}
use Rattle.std.proofs.lemmas.Option.{slice_get-map, slice_get_read}
use Rattle.std.specs.Option.{option_map}
use Rattle.definitions.specs.Moves.{Move}
use Rattle.placement.specs.Placed.{Placed, sources}
use Rattle.placement.proofs.planning.Placement.frame_for.Goals as goal

pub returns-clause-frame : goal.returns-clause-frame
returns-clause-frame c =
    let moves = c.self.inside.moves.items in
    let k = c.args.k in
    let within : k < length moves = subst (λ (p : Placed). k < length p.moves) (sym c.self.view_is) c.requires.within in
    let at = slice_get_read moves (length moves) k c.index.result.now refl within c.index.ensures in
    subst (λ (p : Placed). slice_get (sources p.moves) k ≡ Some c.index.result.now.0) c.self.view_is
    (slice_get-map (λ m. m.0) moves k ∙ ap (option_map (λ (m : Move). m.0)) at)
