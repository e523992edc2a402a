-- When two dumps agree.
use Rattle.std.proofs.Common.{◌≡◌, ℕ, ◌+◌, ◌<◌, ◌≤◌, List, Option, Some, None, IsNone, IfSome, refl, sym, ap, ◌∙◌, subst, inl, inr, arith}
use Rattle.std.proofs.lemmas.Bool.{cases_lt}
use Rattle.std.specs.List.{Contains}
use Rattle.definitions.specs.Zones.{numbers, first_from, top}
use Rattle.definitions.specs.ZoneFacts.{AreZones}
use Rattle.definitions.proofs.Ascending.{same_members}
use Rattle.definitions.proofs.ZoneNumbers.{IsStrictlyIncreasing-numbers, below_top, top_at_most}
use Rattle.definitions.proofs.ZoneLists.{Contains-from_saveable_frames, IsStrictlyIncreasing-saveable_frames}
use Rattle.plain_machine.specs.Machine.{Hardware, saveable}
use Rattle.machine.specs.declared.dump.Dump.{Dump}
use Rattle.dump_tools.specs.Differences.{AgreeAt, AgreeBelow, AgreeEverywhere, AreSame, IsSaveable, IsOfOneAlone, IsDifferenceAt, IsFirst}
use Rattle.dump_tools.specs.declared.difference.Difference.{Difference}
use Rattle.dump_tools.specs.declared.difference.Difference.TheVariants as difference
use Rattle.dump_tools.proofs.NextFrames.{IsNext, next_is, none_from}

-- p is the next page frame from `from` on
pub record IsAtNext (zones : List (ℕ × ℕ)) (from p : ℕ) : Type 0 where
  pub next : IsNext (numbers zones) from p
  pub low : p < top zones
  pub few : top zones ≤ 65536

pub at_next : (zones told : List (ℕ × ℕ)) (from p : ℕ) → AreZones zones → told ≡ zones → Some p ≡ first_from (numbers told) from → IsAtNext zones from p
at_next zones told from p h e is =
    let next = next_is (numbers zones) from p (IsStrictlyIncreasing-numbers zones h.apart) (ap (λ (zs : List (ℕ × ℕ)). first_from (numbers zs) from) (sym e) ∙ sym is) in
    record { next = next; low = below_top zones p h.apart next.member; few = top_at_most zones h }

pub past_last : (zones told : List (ℕ × ℕ)) (from : ℕ) → AreZones zones → told ≡ zones → None ≡ first_from (numbers told) from → (r : ℕ) → Contains (numbers zones) r → r < from
past_last zones told from h e is =
    none_from (numbers zones) from (IsStrictlyIncreasing-numbers zones h.apart) (ap (λ (zs : List (ℕ × ℕ)). first_from (numbers zs) from) (sym e) ∙ sym is)

-- at a page frame that isn't valid two dumps agree
agree_outside : (a b : Dump) (p : ℕ) → b.hw ≡ a.hw → (Contains (numbers a.hw.zones) p → ⊥) → AgreeAt a b p
agree_outside a b p same out =
    let none_a : IsSaveable a p → ⊥ = λ in'. out (Contains-from_saveable_frames a.hw.zones a.hw.frame_table a.frames p in').0 in
    let none_b : IsSaveable b p → ⊥ = λ in'. out (subst (λ (h : Hardware). Contains (numbers h.zones) p) same (Contains-from_saveable_frames b.hw.zones b.hw.frame_table b.frames p in').0) in
    record {
      saveable = (λ in'. absurd (none_a in'), λ in'. absurd (none_b in'));
      page = λ in'. absurd (none_a in');
    }

-- two dumps agree up to the next valid page frame
pub agree_to_next : (a b : Dump) (from p : ℕ) → b.hw ≡ a.hw → AgreeBelow a b from → IsNext (numbers a.hw.zones) from p → AgreeBelow a b p
agree_to_next a b from p same below next q lt = elim (cases_lt q from) [
  | inl low ↦ below q low
  | inr ge ↦ agree_outside a b q same (λ in'. let least = next.least q in' ge in omega arith)
]

-- if two dumps agree below and at a page frame, they agree up to and including that page frame
pub agree_with : (a b : Dump) (p : ℕ) → AgreeBelow a b p → AgreeAt a b p → AgreeBelow a b (p + 1)
agree_with a b p below here q lt = elim (cases_lt q p) [
  | inl low ↦ below q low
  | inr ge ↦ let same : p ≡ q = omega arith in subst (AgreeAt a b) same here
]

-- past the last page frame two dumps agree
pub agree_behind : (a b : Dump) (from : ℕ) → b.hw ≡ a.hw → AgreeBelow a b from → ((p : ℕ) → Contains (numbers a.hw.zones) p → p < from) → AgreeEverywhere a b
agree_behind a b from same below last p = elim (cases_lt p from) [
  | inl low ↦ below p low
  | inr ge ↦ agree_outside a b p same (λ in'. let low = last p in' in omega arith)
]

-- the difference at the first place where two dumps don't agree is their first difference
pub first_at : (a b : Dump) (p : ℕ) (d : Difference) → b.hw ≡ a.hw → AgreeBelow a b p → IsDifferenceAt a b p d → IsFirst a b d
first_at a b p difference.Hardware same below is = absurd is
first_at a b p (difference.Saveable q) same below is =
    subst (λ (r : ℕ). IsFirst a b (difference.Saveable r)) (sym is.0) (same, below, is.1)
first_at a b p (difference.Page q) same below is =
    subst (λ (r : ℕ). IsFirst a b (difference.Page r)) (sym is.0) (same, below, is.1)

-- two dumps that agree everywhere are the same
pub same_everywhere : (a b : Dump) → AreZones a.hw.zones → b.hw ≡ a.hw → AgreeEverywhere a b → AreSame a b
same_everywhere a b zones same agree = record {
  hardware = same;
  frames = same_members (saveable b.hw b.frames) (saveable a.hw a.frames)
      (IsStrictlyIncreasing-saveable_frames b.hw.zones b.hw.frame_table b.frames (subst (λ (h : Hardware). AreZones h.zones) (sym same) zones).apart)
      (IsStrictlyIncreasing-saveable_frames a.hw.zones a.hw.frame_table a.frames zones.apart)
      (λ p in'. (agree p).saveable.1 in') (λ p in'. (agree p).saveable.0 in');
  pages = λ p in'. (agree p).page in';
}

-- and such two have no difference
pub same_differ : (a b : Dump) (d : Difference) → AreSame a b → IsFirst a b d → ⊥
same_differ a b difference.Hardware same is = is same.hardware
same_differ a b (difference.Saveable p) same is = one_alone is.2 where
  one_alone : IsOfOneAlone a b p → ⊥
  one_alone (inl of) = of.1 (subst (λ (ps : List ℕ). Contains ps p) (sym same.frames) of.0)
  one_alone (inr of) = of.0 (subst (λ (ps : List ℕ). Contains ps p) same.frames of.1)
same_differ a b (difference.Page p) same is = is.2.other (same.pages p is.2.first)

pub none_or_first : (a b : Dump) (found : Option Difference) → AreZones a.hw.zones → b.hw ≡ a.hw → (IsNone found → AgreeEverywhere a b) → IfSome found (IsFirst a b) → (IsNone found → AreSame a b) × (AreSame a b → IsNone found)
none_or_first a b None zones same none first = (λ is. same_everywhere a b zones same (none is), λ _. refl)
none_or_first a b (Some d) zones same none first = (λ is. absurd (let no = is in cc), λ are. absurd (same_differ a b d are first))
