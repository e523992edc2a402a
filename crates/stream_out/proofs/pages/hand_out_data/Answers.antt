use Rattle.std.proofs.Common.{◌≡◌, ◌≤◌, ◌<◌, inl, inr, ℕ, ◌+◌, List, get_or, sym, ap, ◌∙◌, subst, arith}
use Rattle.std.proofs.lemmas.Bool.{cases_lt}
use Rattle.std.proofs.lemmas.Option.{same_Some}
use Rattle.definitions.specs.Tables.{frame}
use Rattle.frame_sets.specs.Places.{count_below}
use Rattle.frame_sets.proofs.Below.{next_is, count_below-next, small}
use Rattle.stream_out.specs.Cursor.{IsPart}
use Rattle.stream_out.proofs.pages.hand_out_data.Goals as goal

-- a part that ends at a page's begin has ended the page
ends : (at count page page' at' : ℕ) → 0 < count → at + count ≤ 4096 → (at + count < 4096 → (page' ≡ page) × (at' ≡ at + count)) → (at + count ≡ 4096 → (page' ≡ page + 1) × (at' ≡ 0)) → at' ≡ 0 → page' ≡ page + 1
ends at count page page' at' some fits same next zero = elim (cases_lt (at + count) 4096) [
  | inl below ↦ let is = (same below).1 in absurd (omega arith)
  | inr above ↦ (next (omega arith)).0
]

pub unwrap-p-requires : goal.unwrap-p-requires
unwrap-p-requires c = rw (c.first_from.ensures, next_is c.args.saveable.now.members c.args.cursor.now.from c.is_frame_set.ensures.set.ascending c.requires.more)

pub page-requires : goal.page-requires
page-requires c =
    let members = c.args.saveable.now.members in
    let place = count_below members c.args.cursor.now.from in
    let is : c.unwrap-p.result ≡ get_or members place 0 = same_Some _ _ (sym c.unwrap-p.ensures ∙ c.first_from.ensures ∙ next_is members c.args.cursor.now.from c.is_frame_set.ensures.set.ascending c.requires.more) in
    let within = c.requires.within place 0 c.requires.more in
    omega arith

pub overflow_add-cursor : goal.overflow_add-cursor
overflow_add-cursor c =
    let members = c.args.saveable.now.members in
    let place = count_below members c.args.cursor.now.from in
    let is : c.unwrap-p.result ≡ get_or members place 0 = same_Some _ _ (sym c.unwrap-p.ensures ∙ c.first_from.ensures ∙ next_is members c.args.cursor.now.from c.is_frame_set.ensures.set.ascending c.requires.more) in
    let low = small c.args.saveable.now place c.is_frame_set.ensures.set c.requires.more in
    record { fits = omega arith }

pub returns-then-cursor-eq0-clause-part : goal.returns-then-cursor-eq0-clause-part
returns-then-cursor-eq0-clause-part c =
    let members = c.args.saveable.now.members in
    let place = count_below members c.args.cursor.now.from in
    let is : c.unwrap-p.result ≡ get_or members place 0 = same_Some _ _ (sym c.unwrap-p.ensures ∙ c.first_from.ensures ∙ next_is members c.args.cursor.now.from c.is_frame_set.ensures.set.ascending c.requires.more) in
    let page : c.as_bytes.result.now ≡ frame c.args.frames.now (get_or members place 0) = c.as_bytes.ensures.bytes ∙ c.page.ensures.content ∙ ap (frame c.args.frames.now) is in
    let part = subst (λ (p : List ℕ). IsPart p c.args.cursor.now c.hand_out-count.new.cursor c.args.into.now c.hand_out-count.new.into c.hand_out-count.result) page c.hand_out-count.ensures.part in
    record {
      whole = part.whole;
      fit = part.fit;
      some = part.some;
      of_page = part.of_page;
      bytes = part.bytes;
      same_page = part.same_page;
      next_page = part.next_page;
    }

pub returns-then-cursor-eq0-clause-from : goal.returns-then-cursor-eq0-clause-from
returns-then-cursor-eq0-clause-from c =
    let members = c.args.saveable.now.members in
    let from = c.args.cursor.now.from in
    let place = count_below members from in
    let is : c.unwrap-p.result ≡ get_or members place 0 = same_Some _ _ (sym c.unwrap-p.ensures ∙ c.first_from.ensures ∙ next_is members from c.is_frame_set.ensures.set.ascending c.requires.more) in
    let next = count_below-next members from c.is_frame_set.ensures.set.ascending c.requires.more in
    let same = ap (λ (q : ℕ). count_below members (q + 1)) is in
    let turned = ends c.args.cursor.now.at c.hand_out-count.result c.args.cursor.now.page c.hand_out-count.new.cursor.page c.hand_out-count.new.cursor.at
    (c.hand_out-count.ensures.part.some c.requires.some) c.hand_out-count.ensures.part.of_page (λ lt. c.hand_out-count.ensures.part.same_page lt) (λ e. c.hand_out-count.ensures.part.next_page e) c.if-cursor-eq0.true in
    omega arith

pub returns-else-cursor-eq0-clause-part : goal.returns-else-cursor-eq0-clause-part
returns-else-cursor-eq0-clause-part c =
    let members = c.args.saveable.now.members in
    let place = count_below members c.args.cursor.now.from in
    let is : c.unwrap-p.result ≡ get_or members place 0 = same_Some _ _ (sym c.unwrap-p.ensures ∙ c.first_from.ensures ∙ next_is members c.args.cursor.now.from c.is_frame_set.ensures.set.ascending c.requires.more) in
    let page : c.as_bytes.result.now ≡ frame c.args.frames.now (get_or members place 0) = c.as_bytes.ensures.bytes ∙ c.page.ensures.content ∙ ap (frame c.args.frames.now) is in
    subst (λ (p : List ℕ). IsPart p c.args.cursor.now c.hand_out-count.new.cursor c.args.into.now c.hand_out-count.new.into c.hand_out-count.result) page c.hand_out-count.ensures.part
