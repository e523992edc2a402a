-- Page frames that a plan is given one after another.
use Rattle.std.proofs.Common.{◌≡◌, ℕ, zero, suc, ◌+◌, ◌-◌, ◌<◌, ◌≤◌, Bool, true, false, cond, All, List, [], ◌∷◌, ◌++◌, length, get_or, take, filter, map, flat_map, refl, sym, ap, subst, ◌∙◌, arith, append_assoc, append-nil}
use Rattle.std.specs.Prelude.{not}
use Rattle.std.specs.List.{Contains, range_with_len}
use Rattle.std.proofs.lemmas.Grind.{flat_map-append}
use Rattle.std.proofs.lemmas.List.{take_more}
use Rattle.std.proofs.lemmas.List.Elements.{All-append, All-push, filter-append}
use Rattle.std.proofs.lemmas.List.FromFn.{filter_of_map_range_with_len_more}
use Rattle.definitions.specs.Zones.{numbers}
use Rattle.definitions.proofs.ZoneNumbers.{Contains-range}
use Rattle.plain_machine.specs.Image.{is_zeros}
use Rattle.core_machine.specs.Pages.{page_of, pages_in, pages_of}
use Rattle.core_machine.specs.Segments.{first_frame, frame_end, nothing, segment_at}
use Rattle.core_machine.specs.declared.segments.segment.Segment.{Segment}
use Rattle.image_machine.specs.Filled.{IsFilled}
use Rattle.image_machine.specs.Machines.{numbers_of}
use Rattle.image_machine.specs.declared.filled.FilledPlan.{FilledPlan}
use Rattle.image_machine.proofs.Laying.{numbers-more}
use Rattle.core_machine.specs.Laid.{IsLaidOver, IsSamePlan, LiesBelow}
use Rattle.core_machine.specs.Made.{holds_bytes, saved_of}

-- what stays the same in two steps stays the same
pub same_later : {old mid new : FilledPlan} → IsSamePlan old mid → IsSamePlan mid new → IsSamePlan old new
same_later s t = record { heading = t.heading ∙ s.heading; layout = t.layout ∙ s.layout; zones = t.zones ∙ s.zones }

-- a page frame of the one zone
pub in_zone : (n p : ℕ) (zones : List (ℕ × ℕ)) → zones ≡ (0, n) ∷ [] → p < n → Contains (numbers zones) p
in_zone n p zones e lt =
    subst (λ (zs : List (ℕ × ℕ)). Contains (numbers zs) p) (sym e)
    (subst (λ (ns : List ℕ). Contains ns p) (sym (append-nil (range_with_len 0 n))) (Contains-range 0 n p (omega arith) (omega (arith, lt))))

all_below : (ns : List ℕ) (p q : ℕ) → p ≤ q → All (λ (m : ℕ). m < p) ns → All (λ (m : ℕ). m < q) ns
all_below ns p q le h = λ i d lt. let is = h i d lt in omega (arith, is, le)

pub lies_above : (filled : FilledPlan) (saved : List (ℕ × List ℕ)) (p q : ℕ) → p ≤ q → LiesBelow filled saved p → LiesBelow filled saved q
lies_above filled saved p q le h = record { has = h.has; below = all_below (numbers_of saved) p q le h.below }

pub lies_next : (filled : FilledPlan) (saved : List (ℕ × List ℕ)) (p n : ℕ) (page : List ℕ) → n ≡ p → All (λ (m : ℕ). m < p) (numbers_of saved) →
    IsFilled filled (saved ++ (n, page) ∷ []) → LiesBelow filled (saved ++ (p, page) ∷ []) (p + 1)
lies_next filled saved p n page e below has = record {
  has = subst (λ (k : ℕ). IsFilled filled (saved ++ (k, page) ∷ [])) e has;
  below =
      subst (λ (ns : List ℕ). All (λ (m : ℕ). m < p + 1) ns) (sym (numbers-more saved (p, page)))
      (All-append (λ (m : ℕ). m < p + 1) (numbers_of saved) (p ∷ []) (all_below (numbers_of saved) p (p + 1) (omega arith) below)
      (λ i d lt. last_below p i d lt));
}
  where
    last_below : (p i d : ℕ) → i < 1 → get_or (p ∷ []) i d < p + 1
    last_below p zero d lt = omega arith
    last_below p (suc i) d lt = absurd (omega (arith, lt))

-- a page of zeros, and another one
pub lies_zeros : (filled : FilledPlan) (saved : List (ℕ × List ℕ)) (p : ℕ) (page : List ℕ) → is_zeros page ≡ true → LiesBelow filled saved p →
    LiesBelow filled (saved ++ filter holds_bytes ((p, page) ∷ [])) (p + 1)
lies_zeros filled saved p page e h =
    let none : saved ++ filter holds_bytes ((p, page) ∷ []) ≡ saved = ap (λ (b : Bool). saved ++ cond (not b) ((p, page) ∷ []) []) e ∙ append-nil saved in
    subst (λ (xs : List (ℕ × List ℕ)). LiesBelow filled xs (p + 1)) (sym none) (lies_above filled saved p (p + 1) (omega arith) h)

pub lies_bytes : (filled : FilledPlan) (saved : List (ℕ × List ℕ)) (p : ℕ) (page : List ℕ) → is_zeros page ≡ false → LiesBelow filled (saved ++ (p, page) ∷ []) (p + 1) →
    LiesBelow filled (saved ++ filter holds_bytes ((p, page) ∷ [])) (p + 1)
lies_bytes filled saved p page e h =
    subst (λ (xs : List (ℕ × List ℕ)). LiesBelow filled xs (p + 1)) (sym (ap (λ (b : Bool). saved ++ cond (not b) ((p, page) ∷ []) []) e)) h

-- one page frame more of a segment

abbrev pub with_page : List ℕ → Segment → ℕ → ℕ × List ℕ
with_page bytes s p = (p, page_of bytes s p)

abbrev pub front_of : List ℕ → Segment → ℕ → List (ℕ × List ℕ)
front_of bytes s p = filter holds_bytes (map (with_page bytes s) (range_with_len (first_frame s) (p - first_frame s)))

pub front_none : (bytes : List ℕ) (s : Segment) (p : ℕ) → p ≡ first_frame s → front_of bytes s p ≡ []
front_none bytes s p e =
    let none : p - first_frame s ≡ 0 = omega (arith, e) in
    ap (λ (n : ℕ). filter holds_bytes (map (with_page bytes s) (range_with_len (first_frame s) n))) none

pub front_more : (bytes : List ℕ) (s : Segment) (p : ℕ) (page : List ℕ) (more : List (ℕ × List ℕ)) → first_frame s ≤ p → page ≡ page_of bytes s p →
    more ≡ front_of bytes s p → more ++ filter holds_bytes ((p, page) ∷ []) ≡ front_of bytes s (p + 1)
front_more bytes s p page more ge page_is is =
    let count : p + 1 - first_frame s ≡ p - first_frame s + 1 = omega (arith, ge) in
    ap (λ (xs : List (ℕ × List ℕ)). xs ++ filter holds_bytes ((p, page) ∷ [])) is
    ∙ ap (λ (x : List ℕ). front_of bytes s p ++ filter holds_bytes ((p, x) ∷ [])) page_is
    ∙ sym (filter_of_map_range_with_len_more holds_bytes (with_page bytes s) (first_frame s) (p - first_frame s) p (omega (arith, ge)))
    ∙ ap (λ (n : ℕ). filter holds_bytes (map (with_page bytes s) (range_with_len (first_frame s) n))) (sym count)

pub laid_more : (filled : FilledPlan) (saved more last : List (ℕ × List ℕ)) (p : ℕ) → LiesBelow filled ((saved ++ more) ++ last) p → LiesBelow filled (saved ++ (more ++ last)) p
laid_more filled saved more last p h = subst (λ (xs : List (ℕ × List ℕ)). LiesBelow filled xs p) (append_assoc saved more last) h

-- one segment more

pub saved_none : (bytes : List ℕ) → [] ≡ saved_of bytes []
unfolding saved_of pages_of
saved_none bytes = refl

pub saved_more : (bytes : List ℕ) (segments : List Segment) (i : ℕ) (saved more : List (ℕ × List ℕ)) → i < length segments →
    saved ≡ saved_of bytes (take i segments) → more ≡ filter holds_bytes (pages_in bytes (segment_at segments i)) →
    saved ++ more ≡ saved_of bytes (take (i + 1) segments)
unfolding saved_of pages_of
saved_more bytes segments i saved more lt saved_is more_is =
    let s = segment_at segments i in
    ap (λ (xs : List (ℕ × List ℕ)). xs ++ more) saved_is
    ∙ ap (λ (xs : List (ℕ × List ℕ)). saved_of bytes (take i segments) ++ xs) more_is
    ∙ sym (filter-append holds_bytes (flat_map (pages_in bytes) (take i segments)) (pages_in bytes s))
    ∙ ap (λ (xs : List (ℕ × List ℕ)). filter holds_bytes (flat_map (pages_in bytes) (take i segments) ++ xs)) (sym (append-nil (pages_in bytes s)))
    ∙ ap (filter holds_bytes) (sym (flat_map-append (pages_in bytes) (take i segments) (s ∷ [])))
    ∙ ap (λ (xs : List Segment). filter holds_bytes (flat_map (pages_in bytes) xs)) (sym (take_more segments i nothing lt))
