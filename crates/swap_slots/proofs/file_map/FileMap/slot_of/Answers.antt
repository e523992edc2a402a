use Rattle.std.proofs.Common.{◌≡◌, ℕ, ◌+◌, ◌-◌, ◌<◌, ◌≤◌, List, sym, subst, arith, refl}
use Rattle.definitions.specs.Slots.{block_of, extent_at, slots_of}
use Rattle.swap_slots.specs.KeptMap.{kept_extents}
use Rattle.swap_slots.proofs.Ordered.{slot_on, no_slot_on}
use Rattle.swap_slots.proofs.file_map.FileMap.slot_of.Goals as goal

pub overflow_add-result : goal.overflow_add-result
overflow_add-result c =
    let extents = kept_extents c.self.inside in
    let i = c.loop-start.start-index in
    let first : (extent_at extents i).2 ≡ c.from-first.result = sym c.from-first.ensures in
    let length_is : (extent_at extents i).1 ≡ c.from.result = sym c.from.ensures in
    let on = slot_on extents (slots_of extents) i c.args.block c.self.invariant.map c.loop-start-test.true
    (let le = c.if-first-block.true in omega arith) (let lt = c.if-block-first.true in omega arith) in
    let few = c.self.invariant.few in
    let below = on.0 in
    let le = c.if-first-block.true in
    record { fits = omega arith }

pub returns-then-block-first-clause-slot : goal.returns-then-block-first-clause-slot
returns-then-block-first-clause-slot c =
    let extents = kept_extents c.self.inside in
    let i = c.loop-start.start-index in
    let first : (extent_at extents i).2 ≡ c.from-first.result = sym c.from-first.ensures in
    let length_is : (extent_at extents i).1 ≡ c.from.result = sym c.from.ensures in
    let on = slot_on extents (slots_of extents) i c.args.block c.self.invariant.map c.loop-start-test.true
    (let le = c.if-first-block.true in omega arith) (let lt = c.if-block-first.true in omega arith) in
    let HasBlock : List (ℕ × ℕ × ℕ) → ℕ → Type 0 = λ es b. ((extent_at extents i).0 + (c.args.block - b) < slots_of es) × (block_of es ((extent_at extents i).0 + (c.args.block - b)) ≡ c.args.block) in
    subst (λ b. HasBlock c.args.self.now b) first (subst (λ es. HasBlock es (extent_at extents i).2) c.self.view_is on)

pub returns-then-block-first-clause-none : goal.returns-then-block-first-clause-none
returns-then-block-first-clause-none c =
    let extents = kept_extents c.self.inside in
    let i = c.loop-start.start-index in
    let first : (extent_at extents i).2 ≡ c.from-first.result = sym c.from-first.ensures in
    let length_is : (extent_at extents i).1 ≡ c.from.result = sym c.from.ensures in
    let on = slot_on extents (slots_of extents) i c.args.block c.self.invariant.map c.loop-start-test.true
    (let le = c.if-first-block.true in omega arith) (let lt = c.if-block-first.true in omega arith) in
    let s = (extent_at extents i).0 + (c.args.block - (extent_at extents i).2) in
    let view : extents ≡ c.args.self.now = c.self.view_is in (
      λ never. absurd (cc),
      λ nowhere. absurd (nowhere s (subst (λ es. s < slots_of es) view on.0) (subst (λ es. block_of es s ≡ c.args.block) view on.1)),
    )

pub returns-clause-none : goal.returns-clause-none
returns-clause-none c =
    let extents = kept_extents c.self.inside in
    let past = c.loop-start-test.false in
    let none = no_slot_on extents (slots_of extents) c.args.block c.self.invariant.map
    (λ i lt. subst (λ es. (extent_at es i).2 ≤ c.args.block → c.args.block - (extent_at es i).2 < (extent_at es i).1 → ⊥) (sym c.self.view_is) (c.loop-start.invariant i (omega arith))) in
    let view : extents ≡ c.args.self.now = c.self.view_is in (
      λ always s lt e. none s (subst (λ es. s < slots_of es) (sym view) lt) (subst (λ es. block_of es s ≡ c.args.block) (sym view) e),
      λ nowhere. refl,
    )
