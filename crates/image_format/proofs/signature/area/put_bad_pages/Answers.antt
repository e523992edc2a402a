use Rattle.image_format.proofs.BadPages.{numbers_more}
use Rattle.definitions.proofs.PageBytes.{with_bytes-nil}
use Rattle.std.proofs.Common.{◌+◌, ◌*◌, sym, ap, ◌∙◌, refl, get_or, arith}
use Rattle.definitions.specs.Bytes.{with_number}
use Rattle.image_format.proofs.signature.area.put_bad_pages.Goals as goal

pub loop-i-init : goal.loop-i-init
loop-i-init c = sym (with_bytes-nil c.args.page.now 1536)

pub loop-i-preserved : goal.loop-i-preserved
loop-i-preserved c =
    let i = c.loop-i.i in
    let slot = get_or c.args.bad.now i 0 in
    c.put_u32.ensures.set ∙ ap (λ page. with_number 4 page (1536 + 4 * i) slot) c.loop-i.invariant
    ∙ numbers_more c.args.page.now c.args.bad.now i slot (omega arith) c.loop-i-test.true refl
