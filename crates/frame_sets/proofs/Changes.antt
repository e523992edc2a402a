-- A bitmap after one of its bits was set or cleared.
use Rattle.std.proofs.Common.{◌≡◌, ℕ, ◌+◌, ◌-◌, ◌/◌, ◌%◌, ◌<◌, ◌≤◌, ◌↔◌, IsTrue, List, [], length, get_or, set, Bool, true, false, refl, sym, ap, ◌∙◌, subst, inl, inr, arith}
use mir.Val.{bool_byte}
use Rattle.std.proofs.lemmas.Bool.{cases_eq}
use Rattle.std.proofs.lemmas.List.{length-set, get_or-set_same, get_or-set_other, get_or_read}
use Rattle.std.proofs.lemmas.Nat.Bits.{bit_at-lt}
use Rattle.std.specs.List.{Contains}
use Rattle.std.specs.Vec.{with_item}
use Rattle.definitions.specs.Zones.{zone_at}
use Rattle.definitions.specs.FrameSets.{inserted, removed}
use Rattle.definitions.proofs.FrameSets.{inserted_member, length-inserted, removed_other, length-removed}
use Rattle.frame_sets.specs.declared.bitmap.Bitmap.TheInside.{Inside}
use Rattle.frame_sets.specs.Bits.{bit_of, ChangesBit, IsPlace}
use Rattle.frame_sets.specs.FrameSet.{FrameSet}
use Rattle.frame_sets.specs.KeptBitmap.{bits_at, members_of, kept_set, IsKept}
use Rattle.frame_sets.proofs.Keeping.{kept_apart, kept_place, member_by_bit, IsFrameSet-kept_set}
use Rattle.frame_sets.proofs.Members.{Changed, members_of-set, members_of-clear}

-- The bit of p, whose block had these words, is now v.
pub record AfterBit (b : Inside) (p v : ℕ) (place : ℕ × ℕ) (words block : List ℕ) : Type 0 where
  pub kept : IsKept b
  pub at : IsPlace b.runs.items p place
  pub read : words ≡ get_or b.bits.items place.0 words
  pub change : ChangesBit place.1 v words block

-- the bit of p is now v, with `place` found in `runs`, which are the runs of the bitmap
pub after_bit : (b : Inside) (p v : ℕ) (place : ℕ × ℕ) (words block : List ℕ) {runs : List (ℕ × ℕ)} → IsKept b → runs ≡ b.runs.items → IsPlace runs p place → words ≡ get_or b.bits.items place.0 words → ChangesBit place.1 v words block → AfterBit b p v place words block
after_bit b p v place words block {runs} kept same at read change = record { kept = kept; at = kept_place b runs p place same at; read = read; change = change }

-- the fields afterwards
abbrev pub after : Inside → ℕ → List ℕ → ℕ → Inside
after b j block len = record { zones = b.zones; runs = b.runs; bits = with_item b.bits j block; len = len }

within_bits : {b : Inside} {p v : ℕ} {place : ℕ × ℕ} {words block : List ℕ} → AfterBit b p v place words block → place.0 < length b.bits.items
within_bits h = let bits = h.kept.bits in let within = h.at.at.within in omega arith

is_changed : {b : Inside} {p v : ℕ} {place : ℕ × ℕ} {words block : List ℕ} → AfterBit b p v place words block → Changed b.runs.items b.bits.items p place.0 v block
is_changed {b} {p} {v} {place} {words} {block} h =
    let within = within_bits h in
    let read : words ≡ bits_at b.bits.items place.0 = get_or_read b.bits.items place.0 words within h.read [] in
    record {
      apart = kept_apart b h.kept;
      at = h.at.at;
      within = within;
      change = subst (λ (k : ℕ). ChangesBit k v (bits_at b.bits.items place.0) block) h.at.bit (subst (λ (ws : List ℕ). ChangesBit place.1 v ws block) read h.change);
    }

-- what the bitmap keeps, where the count is right
pub IsKept-after : {b : Inside} {p v : ℕ} {place : ℕ × ℕ} {words block : List ℕ} (len : ℕ) → AfterBit b p v place words block → len ≡ length (members_of b.runs.items (set b.bits.items place.0 block)) → IsKept (after b place.0 block len)
IsKept-after {b} {p} {v} {place} {words} {block} len h count =
    let kept = h.kept in
    let change = is_changed h in
    let k_p = h.at.bit in
    let from = h.at.at.from in
    let below = h.at.at.below in
    record {
      zones = kept.zones;
      runs = kept.runs;
      bits = length-set b.bits.items place.0 block ∙ kept.bits;
      past = λ j k one. elim (cases_eq j place.0) [
        | inl e ↦
            let this = ap (λ i. bits_at (set b.bits.items place.0 block) i) e ∙ get_or-set_same b.bits.items place.0 block [] change.within in
            let start = ap (λ i. zone_at b.runs.items i) (sym e) in
            subst (λ (run : ℕ × ℕ). k < run.1) start (elim (cases_eq k (p - (zone_at b.runs.items place.0).0)) [
              | inl same ↦ omega arith
              | inr other ↦ kept.past place.0 k (sym (change.change.others k other) ∙ sym (ap (λ ws. bit_of ws k) this) ∙ one)
            ])
        | inr ne ↦ kept.past j k (sym (ap (λ ws. bit_of ws k) (get_or-set_other b.bits.items place.0 j block [] ne)) ∙ one)
      ];
      len = count;
    }

-- whether p was a member
was_member : {b : Inside} {p v : ℕ} {place : ℕ × ℕ} {words block : List ℕ} → AfterBit b p v place words block → (bit_of words place.1 ≡ 1) ↔ Contains (members_of b.runs.items b.bits.items) p
was_member {b} {p} {v} {place} {words} {block} h = member_by_bit b p place words h.kept h.at h.read

-- After a bit was set.

pub set_after : {b : Inside} {p : ℕ} {place : ℕ × ℕ} {words block : List ℕ} (len : ℕ) → AfterBit b p 1 place words block → kept_set (after b place.0 block len) ≡ record { zones = (kept_set b).zones; members = inserted (kept_set b).members p }
set_after {b} {p} {place} {words} {block} len h =
    let set_of : List ℕ → FrameSet = λ members. record { zones = b.zones; members = members } in
    ap set_of (members_of-set b.runs.items b.bits.items p place.0 block (is_changed h))

pub len_after_set : {b : Inside} {p : ℕ} {place : ℕ × ℕ} {words block : List ℕ} (was : Bool) → AfterBit b p 1 place words block → IsTrue was ↔ (bit_of words place.1 ≡ 0) → b.len + bool_byte was ≡ length (members_of b.runs.items (set b.bits.items place.0 block))
len_after_set {b} {p} {place} {words} {block} true h test =
    let none = test.0 refl in
    let more = length-inserted (members_of b.runs.items b.bits.items) p (λ in'. let one = (was_member h).1 in' in omega arith) in
    let old = h.kept.len in
    let new = ap length (members_of-set b.runs.items b.bits.items p place.0 block (is_changed h)) in
    omega arith
len_after_set {b} {p} {place} {words} {block} false h test =
    let some : bit_of words place.1 ≡ 1 = elim (cases_eq (bit_of words place.1) 0) [
      | inl e ↦ absurd (let both = test.1 e in cc)
      | inr ne ↦ let two = bit_at-lt (get_or words (place.1 / 64) 0) (place.1 % 64) in omega arith
    ] in
    let same = ap length (inserted_member (members_of b.runs.items b.bits.items) p (IsFrameSet-kept_set b h.kept).ascending ((was_member h).0 some)) in
    let old = h.kept.len in
    let new = ap length (members_of-set b.runs.items b.bits.items p place.0 block (is_changed h)) in
    omega arith

-- After a bit was cleared.

pub clear_after : {b : Inside} {p : ℕ} {place : ℕ × ℕ} {words block : List ℕ} (len : ℕ) → AfterBit b p 0 place words block → kept_set (after b place.0 block len) ≡ record { zones = (kept_set b).zones; members = removed (kept_set b).members p }
clear_after {b} {p} {place} {words} {block} len h =
    let set_of : List ℕ → FrameSet = λ members. record { zones = b.zones; members = members } in
    ap set_of (members_of-clear b.runs.items b.bits.items p place.0 block (is_changed h))

pub len_after_clear : {b : Inside} {p : ℕ} {place : ℕ × ℕ} {words block : List ℕ} (was : Bool) → AfterBit b p 0 place words block → IsTrue was ↔ (bit_of words place.1 ≡ 1) → (bool_byte was ≤ b.len) × (b.len - bool_byte was ≡ length (members_of b.runs.items (set b.bits.items place.0 block)))
len_after_clear {b} {p} {place} {words} {block} true h test =
    let less = length-removed (members_of b.runs.items b.bits.items) p (IsFrameSet-kept_set b h.kept).ascending ((was_member h).0 (test.0 refl)) in
    let old = h.kept.len in
    let new = ap length (members_of-clear b.runs.items b.bits.items p place.0 block (is_changed h)) in
    (omega arith, omega arith)
len_after_clear {b} {p} {place} {words} {block} false h test =
    let same = ap length (removed_other (members_of b.runs.items b.bits.items) p (IsFrameSet-kept_set b h.kept).ascending (λ in'. let both = test.1 ((was_member h).1 in') in cc)) in
    let old = h.kept.len in
    let new = ap length (members_of-clear b.runs.items b.bits.items p place.0 block (is_changed h)) in
    (omega arith, omega arith)
