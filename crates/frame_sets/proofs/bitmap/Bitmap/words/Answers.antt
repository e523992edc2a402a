use Rattle.std.proofs.Common.{◌≡◌, ℕ, ◌+◌, ◌-◌, ◌<◌, List, [], length, get_or, sym, ap, ap₂, ◌∙◌, subst, arith}
use Rattle.std.proofs.lemmas.List.{get_or_read}
use Rattle.definitions.specs.Zones.{zone_at}
use Rattle.definitions.specs.ZoneFacts.{InZone}
use Rattle.definitions.specs.FrameSets.{blocks, HoldsBits}
use Rattle.frame_sets.specs.declared.bitmap.Bitmap.TheInside.{Inside}
use Rattle.frame_sets.specs.Bits.{bit_of}
use Rattle.frame_sets.specs.FrameSet.{FrameSet}
use Rattle.frame_sets.specs.KeptBitmap.{bits_at, members_of, IsKept}
use Rattle.frame_sets.proofs.Keeping.{kept_apart}
use Rattle.frame_sets.proofs.Members.{bit_in, Contains-members_of, bit_of_member}
use Rattle.frame_sets.proofs.Words.{is_bit}
use Rattle.frame_sets.proofs.bitmap.Bitmap.words.Goals as goal

-- the words of block j hold the bits of its page frames
holds_bits : (b : Inside) (j : ℕ) (words : List ℕ) → IsKept b → j < length b.runs.items → words ≡ get_or b.bits.items j words → HoldsBits (members_of b.runs.items b.bits.items) (zone_at b.runs.items j) words
holds_bits b j words h l is k k_lt =
    let runs = b.runs.items in
    let bits = b.bits.items in
    let start = (zone_at runs j).0 in
    let count = h.bits in
    let read : words ≡ bits_at bits j = get_or_read bits j words (omega arith) is [] in
    let place : start + k - start ≡ k = omega arith in
    let same : bit_of words k ≡ bit_in runs bits (start + k) j = ap₂ bit_of read (sym place) in (
      λ set.
          let one = (is_bit words k).0 set in
          let past = h.past j k (sym (ap (λ ws. bit_of ws k) read) ∙ one) in
          let at : InZone runs (start + k) j = record { within = l; from = omega arith; below = omega arith } in
          (past, Contains-members_of runs bits (start + k) j (kept_apart b h) at (sym same ∙ one)),
      λ in'.
          let past = in'.0 in
          let at : InZone runs (start + k) j = record { within = l; from = omega arith; below = omega arith } in
          (is_bit words k).1 (same ∙ bit_of_member runs bits (start + k) j (kept_apart b h) at in'.1),
    )

pub returns : goal.returns
returns c =
    let b = c.self.inside in
    let j = c.args.block in
    let words = c.index.result.now in
    let few = c.requires in
    let l : j < length b.runs.items = subst (λ (n : ℕ). j < n) (sym (ap length c.self.invariant.runs ∙ ap (λ (set : FrameSet). length (blocks set.zones)) c.self.view_is)) few in
    let holds = holds_bits b j words c.self.invariant l c.index.ensures in
    subst (λ (set : FrameSet). HoldsBits set.members (zone_at (blocks set.zones) j) words) c.self.view_is
    (subst (λ (runs : List (ℕ × ℕ)). HoldsBits (members_of b.runs.items b.bits.items) (zone_at runs j) words) c.self.invariant.runs holds)
