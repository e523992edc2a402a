use Rattle.std.proofs.Common.{ℕ, ◌∙◌, ap, List, arith}
use Rattle.std.proofs.lemmas.List.{with_items_is}
use Rattle.definitions.specs.FreeRuns.{runs_of}
use Rattle.swap_slots.specs.Kept.{members_of}
use Rattle.swap_slots.specs.Runs.{SlotRuns}
use Rattle.swap_slots.proofs.Changes.{BitWritten, count_set, kept_after_set, seen_after_set}
use Rattle.swap_slots.proofs.runs.FreeRuns.insert.Goals as goal

pub overflow_add-self : goal.overflow_add-self
overflow_add-self c =
    let h : BitWritten c.self.inside c.args.slot 1 c.set_bit.result c.deref_mut.result.now c.set_bit.new.words = record {
      kept = c.self.invariant;
      within = omega (arith, c.requires, ap (λ (r : SlotRuns). r.room) c.self.view_is);
      is = c.deref_mut.ensures.value;
      change = c.set_bit.ensures.after;
      size = c.set_bit.auto.words;
    } in
    let count = count_set h c.set_bit.ensures.was in
    let is = c.from.ensures in
    omega arith

pub invariant_of-self : goal.invariant_of-self
invariant_of-self c =
    let h : BitWritten c.self.inside c.args.slot 1 c.set_bit.result c.deref_mut.result.now c.set_bit.new.words = record {
      kept = c.self.invariant;
      within = omega (arith, c.requires, ap (λ (r : SlotRuns). r.room) c.self.view_is);
      is = c.deref_mut.ensures.value;
      change = c.set_bit.ensures.after;
      size = c.set_bit.auto.words;
    } in
    let bits = with_items_is c.self.inside.bits c.set_bit.new.words (c.set_bit.auto.words ∙ c.deref_mut.ensures.len) in
    let summary = with_items_is c.self.inside.summary c.set_bit-2.new.words (c.set_bit-2.auto.words ∙ c.deref_mut-2.ensures.len) in
    let room = c.self.inside.room in
    let count = c.self.inside.count in
    let kept = kept_after_set c.deref_mut-2.result.now c.set_bit-2.new.words h c.set_bit.ensures.was c.deref_mut-2.ensures.value c.set_bit-2.ensures.after c.set_bit-2.auto.words in
    rw (bits, summary, c.from.ensures) kept

pub returns : goal.returns
returns c =
    let h : BitWritten c.self.inside c.args.slot 1 c.set_bit.result c.deref_mut.result.now c.set_bit.new.words = record {
      kept = c.self.invariant;
      within = omega (arith, c.requires, ap (λ (r : SlotRuns). r.room) c.self.view_is);
      is = c.deref_mut.ensures.value;
      change = c.set_bit.ensures.after;
      size = c.set_bit.auto.words;
    } in
    let bits = with_items_is c.self.inside.bits c.set_bit.new.words (c.set_bit.auto.words ∙ c.deref_mut.ensures.len) in
    let room = c.self.inside.room in
    let seen : List ℕ → SlotRuns = λ words. record { room = room; runs = runs_of (members_of room words) } in
    ap seen bits ∙ seen_after_set c.args.self.now c.self.view_is h
