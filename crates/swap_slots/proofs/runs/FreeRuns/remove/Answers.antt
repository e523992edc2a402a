use Rattle.std.proofs.Common.{ℕ, ◌∙◌, ◌/◌, sym, ap, subst, List, arith}
use Rattle.std.proofs.lemmas.List.{with_items_is}
use Rattle.definitions.specs.FreeRuns.{runs_of}
use Rattle.swap_slots.specs.Bits.{IsClearWord}
use Rattle.swap_slots.specs.Kept.{members_of}
use Rattle.swap_slots.specs.Runs.{SlotRuns}
use Rattle.swap_slots.proofs.Changes.{BitWritten, count_clear, kept_after_last, kept_after_clear, seen_after_clear}
use Rattle.swap_slots.proofs.runs.FreeRuns.remove.Goals as goal

pub overflow_sub-self : goal.overflow_sub-self
overflow_sub-self c =
    let h : BitWritten c.self.inside c.args.slot 0 c.clear_bit.result c.deref_mut.result.now c.clear_bit.new.words = record {
      kept = c.self.invariant;
      within = omega (arith, c.requires, ap (λ (r : SlotRuns). r.room) c.self.view_is);
      is = c.deref_mut.ensures.value;
      change = c.clear_bit.ensures.after;
      size = c.clear_bit.auto.words;
    } in
    let count = count_clear h c.clear_bit.ensures.was in
    let is = c.from.ensures in
    omega arith

pub invariant_of-self : goal.invariant_of-self
invariant_of-self c =
    let h : BitWritten c.self.inside c.args.slot 0 c.clear_bit.result c.deref_mut.result.now c.clear_bit.new.words = record {
      kept = c.self.invariant;
      within = omega (arith, c.requires, ap (λ (r : SlotRuns). r.room) c.self.view_is);
      is = c.deref_mut.ensures.value;
      change = c.clear_bit.ensures.after;
      size = c.clear_bit.auto.words;
    } in
    let bits = with_items_is c.self.inside.bits c.clear_bit.new.words (c.clear_bit.auto.words ∙ c.deref_mut.ensures.len) in
    let summary = with_items_is c.self.inside.summary c.clear_bit-then-is_clear_word.new.words (c.clear_bit-then-is_clear_word.auto.words ∙ c.deref_mut-then-is_clear_word.ensures.len) in
    let clear = subst (λ words. IsClearWord words (c.args.slot / 64)) (c.deref.ensures.value ∙ bits) (c.is_clear_word.ensures.0 c.if-is_clear_word.true) in
    let kept = kept_after_last c.deref_mut-then-is_clear_word.result.now c.clear_bit-then-is_clear_word.new.words h c.clear_bit.ensures.was clear c.deref_mut-then-is_clear_word.ensures.value c.clear_bit-then-is_clear_word.ensures.after c.clear_bit-then-is_clear_word.auto.words in
    rw (bits, summary, c.from.ensures) kept

pub invariant_of-self-else-is_clear_word : goal.invariant_of-self-else-is_clear_word
invariant_of-self-else-is_clear_word c =
    let h : BitWritten c.self.inside c.args.slot 0 c.clear_bit.result c.deref_mut.result.now c.clear_bit.new.words = record {
      kept = c.self.invariant;
      within = omega (arith, c.requires, ap (λ (r : SlotRuns). r.room) c.self.view_is);
      is = c.deref_mut.ensures.value;
      change = c.clear_bit.ensures.after;
      size = c.clear_bit.auto.words;
    } in
    let bits = with_items_is c.self.inside.bits c.clear_bit.new.words (c.clear_bit.auto.words ∙ c.deref_mut.ensures.len) in
    let some : IsClearWord c.clear_bit.new.words (c.args.slot / 64) → ⊥ = λ clear.
    let yes = c.is_clear_word.ensures.1 (subst (λ words. IsClearWord words (c.args.slot / 64)) (sym (c.deref.ensures.value ∙ bits)) clear) in
    let no = c.if-is_clear_word.false in
    cc in
    rw (bits, c.from.ensures) (kept_after_clear h c.clear_bit.ensures.was some)

pub returns-then-is_clear_word : goal.returns-then-is_clear_word
returns-then-is_clear_word c =
    let h : BitWritten c.self.inside c.args.slot 0 c.clear_bit.result c.deref_mut.result.now c.clear_bit.new.words = record {
      kept = c.self.invariant;
      within = omega (arith, c.requires, ap (λ (r : SlotRuns). r.room) c.self.view_is);
      is = c.deref_mut.ensures.value;
      change = c.clear_bit.ensures.after;
      size = c.clear_bit.auto.words;
    } in
    let bits = with_items_is c.self.inside.bits c.clear_bit.new.words (c.clear_bit.auto.words ∙ c.deref_mut.ensures.len) in
    let room = c.self.inside.room in
    let seen : List ℕ → SlotRuns = λ words. record { room = room; runs = runs_of (members_of room words) } in
    ap seen bits ∙ seen_after_clear c.args.self.now c.self.view_is h

pub returns-else-is_clear_word : goal.returns-else-is_clear_word
returns-else-is_clear_word c =
    let h : BitWritten c.self.inside c.args.slot 0 c.clear_bit.result c.deref_mut.result.now c.clear_bit.new.words = record {
      kept = c.self.invariant;
      within = omega (arith, c.requires, ap (λ (r : SlotRuns). r.room) c.self.view_is);
      is = c.deref_mut.ensures.value;
      change = c.clear_bit.ensures.after;
      size = c.clear_bit.auto.words;
    } in
    let bits = with_items_is c.self.inside.bits c.clear_bit.new.words (c.clear_bit.auto.words ∙ c.deref_mut.ensures.len) in
    let room = c.self.inside.room in
    let seen : List ℕ → SlotRuns = λ words. record { room = room; runs = runs_of (members_of room words) } in
    ap seen bits ∙ seen_after_clear c.args.self.now c.self.view_is h
