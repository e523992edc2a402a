use Rattle.std.proofs.Common.{◌≡◌, ℕ, List, [], length, refl, sym, ap, ◌∙◌, subst}
use Rattle.std.proofs.lemmas.List.{with_items_is}
use Rattle.std.specs.List.{All}
use Rattle.std.specs.Vec.{with_items}
use Rattle.frame_sets.specs.Bits.{IsEmptyBlock}
use Rattle.frame_sets.specs.FrameSet.{FrameSet}
use Rattle.frame_sets.proofs.Empty.{members_of-empty, IsKept-empty}
use Rattle.frame_sets.proofs.Keeping.{kept_apart}
use Rattle.frame_sets.proofs.bitmap.Bitmap.clear_all.Goals as goal

pub invariant_of-self : goal.invariant_of-self
invariant_of-self c =
    let old = c.self.inside in
    let new = c.clear_blocks.new.blocks in
    let same : length new ≡ length old.bits.items = c.clear_blocks.auto.blocks ∙ ap length c.deref_mut.ensures.value in
    let are = with_items_is old.bits new (same ∙ sym old.bits.ok.0) in
    IsKept-empty _ c.self.invariant.zones (kept_apart old c.self.invariant) c.self.invariant.runs
    (ap length are ∙ same ∙ c.self.invariant.bits)
    (subst (λ (bs : List (List ℕ)). All IsEmptyBlock bs) (sym are) c.clear_blocks.ensures) refl

pub returns : goal.returns
returns c =
    let old = c.self.inside in
    let new = c.clear_blocks.new.blocks in
    let same : length new ≡ length old.bits.items = c.clear_blocks.auto.blocks ∙ ap length c.deref_mut.ensures.value in
    let are = with_items_is old.bits new (same ∙ sym old.bits.ok.0) in
    let set_of : List ℕ → FrameSet = λ members. record { zones = old.zones; members = members } in
    let emptied : FrameSet → FrameSet = λ set. record { zones = set.zones; members = [] } in
    ap set_of (members_of-empty old.runs.items (with_items old.bits new).items (kept_apart old c.self.invariant)
    (subst (λ (bs : List (List ℕ)). All IsEmptyBlock bs) (sym are) c.clear_blocks.ensures))
    ∙ ap emptied c.self.view_is
