use Rattle.std.proofs.Common.{◌&&◌, Bool, not, ap, sym, ◌∙◌}
use Rattle.definitions.specs.Zones.{numbers}
use Rattle.plain_machine.specs.Loader.{has}
use Rattle.image_machine.proofs.FrameTests.{has_is}
use Rattle.image_machine.proofs.rows.is_unsaved.Goals as goal

pub returns-then-valid : goal.returns-then-valid
returns-then-valid c =
    let zones = c.args.zones.now in
    let members = c.args.saved.now.members in
    let p = c.args.p in
    ap not (has_is members p c.has.result c.has.ensures)
    ∙ ap (λ (b : Bool). b && not (has members p)) (sym c.if-valid.true ∙ has_is (numbers zones) p c.valid.result c.valid.ensures.valid)

pub returns-else-valid : goal.returns-else-valid
returns-else-valid c =
    let zones = c.args.zones.now in
    let members = c.args.saved.now.members in
    let p = c.args.p in
    c.if-valid.false
    ∙ ap (λ (b : Bool). b && not (has members p)) (sym c.if-valid.false ∙ has_is (numbers zones) p c.valid.result c.valid.ensures.valid)
