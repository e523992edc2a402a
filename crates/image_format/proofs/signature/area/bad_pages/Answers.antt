use Rattle.image_format.proofs.BadPages.{bad_pages_of_more}
use Rattle.std.proofs.Common.{refl, ap, ◌∙◌, arith}
use Rattle.std.proofs.Math.ListN.{set}
use Rattle.definitions.specs.SwapHeader.{bad_pages_of}
use Rattle.image_format.proofs.signature.area.bad_pages.Goals as goal

pub loop-i-init : goal.loop-i-init
unfolding bad_pages_of
loop-i-init c = refl

pub loop-i-preserved : goal.loop-i-preserved
loop-i-preserved c =
    ap (λ bad. set bad c.loop-i.i c.u32_at.result) c.loop-i.invariant
    ∙ bad_pages_of_more c.args.page.now 630 c.loop-i.i c.u32_at.result (omega arith) c.u32_at.ensures
