use Rattle.std.proofs.Common.{◌≡◌, ◌<◌, ◌≤◌, ℕ, List, length, get_or, sym, ap, ◌∙◌, subst}
use Rattle.std.proofs.lemmas.List.{with_items_is}
use Rattle.std.specs.Vec.{with_items}
use Rattle.definitions.specs.Zones.{numbers}
use Rattle.frame_sets.specs.Bits.{AreFilled}
use Rattle.frame_sets.specs.FrameSet.{FrameSet}
use Rattle.frame_sets.proofs.Filled.{members_of-filled, IsKept-filled}
use Rattle.frame_sets.proofs.Keeping.{kept_apart, kept_blocks, kept_numbers, IsFrameSet-kept_set}
use Rattle.frame_sets.proofs.bitmap.Bitmap.set_all.Goals as goal

pub fill_blocks-requires-clause-few : goal.fill_blocks-requires-clause-few
fill_blocks-requires-clause-few c =
    subst (λ (runs : List (ℕ × ℕ)). (k : ℕ) (d : ℕ × ℕ) → k < length runs → (get_or runs k d).1 ≤ 32768) (sym c.deref.ensures.value)
    (λ k d lt. (kept_blocks c.self.inside c.self.invariant k d lt).1)

-- the blocks as they are kept afterwards
size : (c : goal.After-self-2-1) → length c.fill_blocks.new.bits ≡ length c.self.inside.bits.items
size c = c.fill_blocks.auto.bits ∙ ap length c.deref_mut.ensures.value

are : (c : goal.After-self-2-1) → (with_items c.self.inside.bits c.fill_blocks.new.bits).items ≡ c.fill_blocks.new.bits
are c = with_items_is c.self.inside.bits c.fill_blocks.new.bits (size c ∙ sym c.self.inside.bits.ok.0)

filled : (c : goal.After-self-2-1) → AreFilled c.self.inside.runs.items (with_items c.self.inside.bits c.fill_blocks.new.bits).items
filled c =
    subst (λ (bits : List (List ℕ)). AreFilled c.self.inside.runs.items bits) (sym (are c))
    (subst (λ (runs : List (ℕ × ℕ)). AreFilled runs c.fill_blocks.new.bits) c.deref.ensures.value c.fill_blocks.ensures)

pub invariant_of-self : goal.invariant_of-self
invariant_of-self c =
    IsKept-filled _ c.self.invariant.zones c.self.invariant.runs (ap length (are c) ∙ size c ∙ c.self.invariant.bits) (filled c) c.count-self-inside.ensures.count

pub returns-clause-all : goal.returns-clause-all
returns-clause-all c =
    let old = c.self.inside in
    let set_of : List ℕ → FrameSet = λ members. record { zones = old.zones; members = members } in
    let all : FrameSet → FrameSet = λ set. record { zones = set.zones; members = numbers set.zones } in
    ap set_of (members_of-filled old.runs.items (with_items old.bits c.fill_blocks.new.bits).items (kept_apart old c.self.invariant) (filled c) ∙ kept_numbers old c.self.invariant)
    ∙ ap all c.self.view_is

pub returns-clause-set : goal.returns-clause-set
returns-clause-set c = IsFrameSet-kept_set _ (invariant_of-self c)
