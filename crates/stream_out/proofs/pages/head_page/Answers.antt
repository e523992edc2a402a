use Rattle.std.proofs.Common.{◌≡◌, ℕ, ◌-◌, ◌<◌, suc, [], length, get_or, sym, ap, ◌∙◌, arith}
use Rattle.definitions.specs.InfoPage.{info_page}
use Rattle.definitions.specs.NumberPages.{meta_of}
use Rattle.stream_out.specs.Pages.{stream_over, info_over}
use Rattle.frame_sets.proofs.Bounds.{few_members}
use Rattle.stream_out.proofs.Streams.{first_page, number_page_at}
use Rattle.stream_out.proofs.pages.head_page.Goals as goal

pub info-requires : goal.info-requires
info-requires c = let most = few_members c.args.saveable.now c.len.ensures.set in let len = c.len.ensures.len in omega arith

pub returns-then-k-eq0 : goal.returns-then-k-eq0
returns-then-k-eq0 c saved =
    let members = c.args.saveable.now.members in
    c.encode.ensures.bytes
    ∙ ap info_page (c.info.ensures ∙ ap (info_over c.args.hw.now) c.len.ensures.len)
    ∙ sym (ap (λ (k : ℕ). get_or (stream_over c.args.hw.now members saved) k []) c.if-k-eq0.true ∙ first_page c.args.hw.now members saved)

pub returns : goal.returns
returns c saved =
    let members = c.args.saveable.now.members in
    let some = c.if-k-eq0.false in
    let head = c.requires in
    let j = c.args.k - 1 in
    let at : c.args.k ≡ suc j = omega arith in
    let lt : j < meta_of (length members) = omega arith in
    c.pack.ensures ∙ sym (ap (λ (k : ℕ). get_or (stream_over c.args.hw.now members saved) k []) at ∙ number_page_at c.args.hw.now members saved j lt)
