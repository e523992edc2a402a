use Rattle.std.proofs.Common.{◌≡◌, ℕ, ◌-◌, ◌<◌, suc, [], length, get_or, option_copied, sym, ap, ◌∙◌, arith}
use Rattle.definitions.specs.NumberPages.{meta_of, marked_numbers}
use Rattle.frame_sets.specs.Places.{members_in}
use Rattle.frame_sets.proofs.Filling.{length-marked}
use Rattle.plain_machine.specs.Image.{stream_pages}
use Rattle.image_write.proofs.Heads.{first_page, number_page_at}
use Rattle.image_write.proofs.stream.head_page.Goals as goal

pub returns-then-k-eq0 : goal.returns-then-k-eq0
returns-then-k-eq0 c saved =
    let info = c.args.info.now in
    let numbers = marked_numbers c.args.origs.now.members (members_in (option_copied c.args.zeros)) in
    c.encode.ensures.bytes ∙ sym (ap (λ (k : ℕ). get_or (stream_pages info numbers saved) k []) c.if-k-eq0.true ∙ first_page info numbers saved)

pub returns : goal.returns
returns c saved =
    let info = c.args.info.now in
    let origs = c.args.origs.now.members in
    let zeros = members_in (option_copied c.args.zeros) in
    let numbers = marked_numbers origs zeros in
    let some = c.if-k-eq0.false in
    let few = c.requires.head in
    let size = length-marked origs zeros in
    let j = c.args.k - 1 in
    let at : c.args.k ≡ suc j = omega arith in
    let lt : j < meta_of (length numbers) = omega arith in
    c.pack.ensures ∙ sym (ap (λ (k : ℕ). get_or (stream_pages info numbers saved) k []) at ∙ number_page_at info numbers saved j lt)
