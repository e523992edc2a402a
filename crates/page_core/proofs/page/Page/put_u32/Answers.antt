use Rattle.std.proofs.Common.{◌+◌, ◌-◌, ◌≤◌, take, drop, ap, ◌∙◌, arith, length}
use Rattle.std.proofs.lemmas.List.{length-take}
use Rattle.definitions.specs.Bytes.{with_number}
use Rattle.definitions.proofs.PageBytes.{put_mid-with_number}
use Rattle.page_core.proofs.page.Page.put_u32.Goals as goal

pub returns-clause-set : goal.returns-clause-set
returns-clause-set c =
    let part = take (c.args.k + 4 - c.args.k) (drop c.args.k c.self.inside.bytes) in
    let short : length part ≤ 4 = simp length-take (omega arith) in
    put_mid-with_number 4 c.args.k _ c.self.inside.bytes c.write_u32.new.buf part c.args.v
    short (omega arith) c.write_u32.ensures
    ∙ ap (λ page. with_number 4 page c.args.k c.args.v) c.self.view_is
