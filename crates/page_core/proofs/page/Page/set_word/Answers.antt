use Rattle.std.proofs.Common.{◌+◌, ◌-◌, ◌*◌, ◌≤◌, take, drop, ap, ◌∙◌, arith, length}
use Rattle.std.proofs.lemmas.List.{length-take}
use Rattle.definitions.specs.Bytes.{with_word}
use Rattle.definitions.proofs.PageBytes.{put_mid-with_number}
use Rattle.page_core.proofs.page.Page.set_word.Goals as goal

pub returns-clause-set : goal.returns-clause-set
returns-clause-set c =
    let part = take (8 * c.args.i + 8 - 8 * c.args.i) (drop (8 * c.args.i) c.self.inside.bytes) in
    let short : length part ≤ 8 = simp length-take (omega arith) in
    put_mid-with_number 8 (8 * c.args.i) _ c.self.inside.bytes c.write_u64.new.buf part c.args.v
    short (omega arith) c.write_u64.ensures
    ∙ ap (λ page. with_word page c.args.i c.args.v) c.self.view_is
