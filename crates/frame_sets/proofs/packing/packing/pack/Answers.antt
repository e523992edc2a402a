use Rattle.std.proofs.Common.{◌≡◌, ℕ, ◌+◌, ◌*◌, ◌-◌, ◌<◌, length, get_or, take, drop, option_copied, refl, sym, ap, ◌∙◌, arith}
use Rattle.std.proofs.lemmas.Option.{same_Some}
use Rattle.definitions.specs.NumberPages.{marked_numbers, page_of_words, end_value}
use Rattle.definitions.specs.Bytes.{with_word}
use Rattle.definitions.proofs.PageWords.{page_of_words-nil}
use Rattle.frame_sets.proofs.Yielded.{yields_next}
use Rattle.frame_sets.specs.Places.{members_in}
use Rattle.frame_sets.proofs.Below.{left_from}
use Rattle.frame_sets.proofs.Filling.{words_of_page, page_more, page_full, page_ended, length-marked}
use Rattle.frame_sets.proofs.packing.packing.pack.Goals as goal

pub loop-i-init : goal.loop-i-init
loop-i-init c =
    let members = c.args.origs.now.members in
    let from = c.behind.result in
    record {
      left = c.iter_from-members.ensures.members ∙ left_from members from c.len-len.ensures.set.ascending ∙ ap (λ (n : ℕ). drop n members) (let at = c.behind.ensures in omega arith);
      page = c.zero.ensures ∙ sym page_of_words-nil;
    }

pub unwrap-p-requires : goal.unwrap-p-requires
unwrap-p-requires c =
    let members = c.args.origs.now.members in
    let lt = c.loop-i-test.true in
    let n = c.len-len.ensures.len in
    let next = yields_next members (512 * c.args.k + c.loop-i.i) _ c.loop-i.members c.next.new.self c.next.ensures.steps c.loop-i.invariant.left (omega arith) in
    rw next.0 refl

pub loop-i-preserved : goal.loop-i-preserved
loop-i-preserved c =
    let members = c.args.origs.now.members in
    let zeros = members_in (option_copied c.args.zeros) in
    let k = c.args.k in
    let i = c.loop-i.i in
    let lt = c.loop-i-test.true in
    let n = c.len-len.ensures.len in
    let here : 512 * k + i < length members = omega arith in
    let next = yields_next members (512 * k + i) _ c.loop-i.members c.next.new.self c.next.ensures.steps c.loop-i.invariant.left here in
    let member : get_or members (512 * k + i) 0 ≡ c.unwrap-p.result = sym (same_Some _ _ (sym c.unwrap-p.ensures ∙ next.0)) in
    record {
      left = next.1 ∙ ap (λ (j : ℕ). drop j members) (omega arith);
      page =
          c.set_word.ensures.set
          ∙ ap (λ page. with_word page i c.marked.result) c.loop-i.invariant.page
          ∙ ap (with_word (page_of_words (take i (words_of_page (marked_numbers members zeros) k))) i) c.marked.ensures
          ∙ page_more members zeros k i c.unwrap-p.result here member;
    }

pub returns-then-count-lt-WORDS_PER_PAGE : goal.returns-then-count-lt-WORDS_PER_PAGE
returns-then-count-lt-WORDS_PER_PAGE c =
    let members = c.args.origs.now.members in
    let zeros = members_in (option_copied c.args.zeros) in
    let k = c.args.k in
    let i = c.loop-i.i in
    let n = c.len-len.ensures.len in
    let size = length-marked members zeros in
    let room = c.requires in
    let short = c.if-count-lt-WORDS_PER_PAGE.true in
    let end = c.loop-i-test.false in
    let all = c.loop-i.auto.i-end in
    let last : i ≡ length members - 512 * k = omega arith in
    let same : c.min-count.result ≡ i = omega arith in
    c.set_word-then-count-lt-WORDS_PER_PAGE.ensures.set
    ∙ ap (λ page. with_word page c.min-count.result end_value) c.loop-i.invariant.page
    ∙ ap (λ (j : ℕ). with_word (page_of_words (take i (words_of_page (marked_numbers members zeros) k))) j end_value) same
    ∙ page_ended (marked_numbers members zeros) k i (omega arith) (omega arith) (omega arith)

pub returns-else-count-lt-WORDS_PER_PAGE : goal.returns-else-count-lt-WORDS_PER_PAGE
returns-else-count-lt-WORDS_PER_PAGE c =
    let members = c.args.origs.now.members in
    let zeros = members_in (option_copied c.args.zeros) in
    let k = c.args.k in
    let i = c.loop-i.i in
    let n = c.len-len.ensures.len in
    let size = length-marked members zeros in
    let full = c.if-count-lt-WORDS_PER_PAGE.false in
    let end = c.loop-i-test.false in
    let all = c.loop-i.auto.i-end in
    let last : i ≡ 512 = omega arith in
    c.loop-i.invariant.page
    ∙ ap (λ (j : ℕ). page_of_words (take j (words_of_page (marked_numbers members zeros) k))) last
    ∙ page_full (marked_numbers members zeros) k (omega arith)
