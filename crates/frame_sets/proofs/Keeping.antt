-- What a bitmap keeps: its blocks are those of its zones.
use Rattle.std.proofs.Common.{◌≡◌, ℕ, ◌<◌, ◌≤◌, ◌↔◌, List, [], get_or, length, sym, ap, ap₂, ◌∙◌, subst, arith}
use Rattle.std.proofs.lemmas.List.Elements.{Contains-get_or}
use Rattle.std.proofs.lemmas.List.{get_or_read}
use Rattle.std.specs.List.{All, Contains}
use Rattle.definitions.specs.Zones.{numbers}
use Rattle.definitions.specs.ZoneFacts.{AreApart}
use Rattle.definitions.proofs.Ascending.{length-between}
use Rattle.definitions.proofs.ZoneNumbers.{below_top, top_at_most}
use Rattle.definitions.proofs.ZoneBlocks.{IsBlock, All-blocks, AreApart-blocks, numbers-blocks}
use Rattle.frame_sets.specs.declared.bitmap.Bitmap.TheInside.{Inside}
use Rattle.frame_sets.specs.Bits.{bit_of, IsPlace}
use Rattle.frame_sets.specs.FrameSet.{FrameSet, IsFrameSet}
use Rattle.frame_sets.specs.KeptBitmap.{members_of, kept_set, IsKept}
use Rattle.frame_sets.proofs.Members.{bit_in, Contains-members_of, bit_of_member, valid_member, IsStrictlyIncreasing-members_of}

pub kept_apart : (b : Inside) → IsKept b → AreApart b.runs.items
kept_apart b h = subst AreApart (sym h.runs) (AreApart-blocks b.zones h.zones.apart)

pub kept_blocks : (b : Inside) → IsKept b → All IsBlock b.runs.items
kept_blocks b h = subst (λ (runs : List (ℕ × ℕ)). All IsBlock runs) (sym h.runs) (All-blocks b.zones h.zones.each)

pub kept_numbers : (b : Inside) → IsKept b → numbers b.runs.items ≡ numbers b.zones
kept_numbers b h = ap numbers h.runs ∙ numbers-blocks b.zones

-- The place of a page frame, which `place` told of the blocks `runs`.

pub kept_place : (b : Inside) (runs : List (ℕ × ℕ)) (p : ℕ) (place : ℕ × ℕ) → runs ≡ b.runs.items → IsPlace runs p place → IsPlace b.runs.items p place
kept_place b runs p place e h = subst (λ (r : List (ℕ × ℕ)). IsPlace r p place) e h

pub place_below : (b : Inside) (p : ℕ) (place : ℕ × ℕ) → IsKept b → IsPlace b.runs.items p place → place.1 < 32768
place_below b p place h at =
    let block = kept_blocks b h place.0 (0, 0) at.at.within in
    let few = block.1 in
    let from = at.at.from in
    let below = at.at.below in
    let bit = at.bit in
    omega arith

-- the block's words say whether p is a member
pub member_by_bit : (b : Inside) (p : ℕ) (place : ℕ × ℕ) (words : List ℕ) → IsKept b → IsPlace b.runs.items p place → words ≡ get_or b.bits.items place.0 words → (bit_of words place.1 ≡ 1) ↔ Contains (members_of b.runs.items b.bits.items) p
member_by_bit b p place words h at is =
    let bits = h.bits in
    let within = at.at.within in
    let read : get_or b.bits.items place.0 [] ≡ words = sym (get_or_read b.bits.items place.0 words (omega arith) is []) in
    let same : bit_in b.runs.items b.bits.items p place.0 ≡ bit_of words place.1 = ap₂ bit_of read (sym at.bit) in (
      λ one. Contains-members_of b.runs.items b.bits.items p place.0 (kept_apart b h) at.at (same ∙ one),
      λ in'. sym same ∙ bit_of_member b.runs.items b.bits.items p place.0 (kept_apart b h) at.at in',
    )

-- a valid number has a block
pub has_block : (b : Inside) (set : FrameSet) (runs : List (ℕ × ℕ)) (p : ℕ) → IsKept b → kept_set b ≡ set → runs ≡ b.runs.items → Contains (numbers set.zones) p → Contains (numbers runs) p
has_block b set runs p h is same in' =
    subst (λ (ns : List ℕ). Contains ns p) (ap (λ s. numbers s.zones) (sym is) ∙ sym (kept_numbers b h) ∙ ap numbers (sym same)) in'

-- a number without a block is no member
pub no_member : (b : Inside) (p : ℕ) → IsKept b → (Contains (numbers b.runs.items) p → ⊥) → Contains (members_of b.runs.items b.bits.items) p → ⊥
no_member b p h outside in' = outside (valid_member b.runs.items b.bits.items p in')

pub kept_members : (b : Inside) (p : ℕ) → IsKept b → Contains (members_of b.runs.items b.bits.items) p → Contains (numbers b.zones) p
kept_members b p h in' = subst (λ (ns : List ℕ). Contains ns p) (kept_numbers b h) (valid_member b.runs.items b.bits.items p in')

pub IsFrameSet-kept_set : (b : Inside) → IsKept b → IsFrameSet (kept_set b)
IsFrameSet-kept_set b h =
    let members = members_of b.runs.items b.bits.items in
    record {
      zones = h.zones;
      ascending = IsStrictlyIncreasing-members_of b.runs.items b.bits.items (kept_apart b h);
      valid = λ k d l. kept_members b _ h (Contains-get_or members k d l);
    }

pub few_members : (b : Inside) → IsKept b → length (members_of b.runs.items b.bits.items) ≤ 65536
few_members b h =
    let members = members_of b.runs.items b.bits.items in
    let high = top_at_most b.zones h.zones in
    let few = length-between members 0 65536 (IsStrictlyIncreasing-members_of b.runs.items b.bits.items (kept_apart b h))
    (λ p in'. let below = below_top b.zones p h.zones.apart (kept_members b p h in') in (omega arith, omega arith)) (omega arith) in
    omega arith
