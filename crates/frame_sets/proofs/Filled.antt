-- A bitmap that has every valid page frame.
use Rattle.std.proofs.Common.{◌≡◌, ℕ, ◌-◌, ◌*◌, ◌/◌, ◌%◌, ◌^◌, ◌<◌, ◌≤◌, List, length, get_or, min, sym, ap, ◌∙◌, subst, inl, inr, arith}
use Rattle.std.proofs.lemmas.Bool.{cases_lt}
use Rattle.std.proofs.lemmas.List.{get_or_past}
use Rattle.std.proofs.lemmas.Nat.Bits.{bit_at-zero, bit_at_ones, bit_at_ones_above}
use Rattle.std.specs.Int.{bit_at}
use Rattle.definitions.specs.Zones.{numbers, zone_at}
use Rattle.definitions.specs.ZoneFacts.{AreZones, AreApart}
use Rattle.definitions.specs.FrameSets.{blocks}
use Rattle.definitions.proofs.Ascending.{same_members}
use Rattle.definitions.proofs.ZoneBlocks.{AreApart-blocks, numbers-blocks}
use Rattle.definitions.proofs.ZoneNumbers.{zone_of, IsStrictlyIncreasing-numbers}
use Rattle.frame_sets.specs.declared.bitmap.Bitmap.TheInside.{Inside}
use Rattle.frame_sets.specs.Bits.{bit_of, HasFirstBits, AreFilled}
use Rattle.frame_sets.specs.KeptBitmap.{members_of, IsKept}
use Rattle.frame_sets.proofs.Members.{Contains-members_of, valid_member, IsStrictlyIncreasing-members_of}

-- the words of a block whose first bits are 1
abbrev pub AreFirstWords : ℕ → List ℕ → Type 0
AreFirstWords count words = (j : ℕ) → j < 512 → get_or words j 0 ≡ 2 ^ min (count - 64 * j) 64 - 1

pub first_bits : (count : ℕ) (words : List ℕ) → count ≤ 32768 → length words ≡ 512 → AreFirstWords count words → HasFirstBits count words
first_bits count words few size are k = elim (cases_lt (k / 64) 512) [
  | inl within ↦ (
      let word : bit_of words k ≡ bit_at (2 ^ min (count - 64 * (k / 64)) 64 - 1) (k % 64) = ap (λ w. bit_at w (k % 64)) (are (k / 64) within) in
      elim (cases_lt (k % 64) (min (count - 64 * (k / 64)) 64)) [
        | inl below ↦ (λ one. omega arith, λ lt. word ∙ bit_at_ones (min (count - 64 * (k / 64)) 64) (k % 64) below)
        | inr above ↦ (
            let none = word ∙ bit_at_ones_above (min (count - 64 * (k / 64)) 64) (k % 64) above in
            (λ one. absurd (omega arith), λ lt. absurd (omega arith))
            )
      ]
      )
  | inr past ↦ (
      let none : bit_of words k ≡ 0 = ap (λ w. bit_at w (k % 64)) (get_or_past words (k / 64) 0 (omega arith)) ∙ bit_at-zero (k % 64) in
      (λ one. absurd (omega arith), λ lt. absurd (omega arith))
      )
]

pub members_of-filled : (runs : List (ℕ × ℕ)) (bits : List (List ℕ)) → AreApart runs → AreFilled runs bits → members_of runs bits ≡ numbers runs
members_of-filled runs bits apart filled =
    same_members (members_of runs bits) (numbers runs) (IsStrictlyIncreasing-members_of runs bits apart) (IsStrictlyIncreasing-numbers runs apart)
    (λ p in'. valid_member runs bits p in')
    (λ p in'.
    let at = zone_of runs p in' in
    let from = at.1.from in
    let below = at.1.below in
    Contains-members_of runs bits p at.0 apart at.1 ((filled at.0 (p - (zone_at runs at.0).0)).1 (omega arith)))

-- what a bitmap keeps with these bits, where its count is right
pub IsKept-filled : (b : Inside) → AreZones b.zones → b.runs.items ≡ blocks b.zones → length b.bits.items ≡ length b.runs.items → AreFilled b.runs.items b.bits.items → b.len ≡ length (numbers b.zones) → IsKept b
IsKept-filled b zones runs size filled len =
    let apart = subst AreApart (sym runs) (AreApart-blocks b.zones zones.apart) in
    record {
      zones = zones;
      runs = runs;
      bits = size;
      past = λ j k one. (filled j k).0 one;
      len = len ∙ ap length (sym (ap numbers runs ∙ numbers-blocks b.zones)) ∙ ap length (sym (members_of-filled b.runs.items b.bits.items apart filled));
    }
