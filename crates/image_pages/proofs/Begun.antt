-- What is known of a reading in which nothing is wrong, once its info page was read.
use Rattle.std.proofs.Common.{◌≡◌, ℕ, ◌+◌, ◌-◌, ◌*◌, ◌<◌, ◌≤◌, Bool, true, false, List, [], ◌∷◌, ◌++◌, length, cond, Option, Some, None, refl, sym, ap, subst, ◌∙◌, inl, inr, arith}
use Rattle.std.proofs.lemmas.Bool.{cases_lt}
use Rattle.page_core.specs.declared.format.Format.{Format}
use Rattle.image_walk.specs.declared.limits.Limits.{Limits}
use Rattle.image_walk.specs.Names.{Name, maps_in, IsReading}
use Rattle.image_check.specs.Entries.{counts_of, position_of}
use Rattle.image_check.specs.Image.{history_findings}
use Rattle.image_check.specs.Info.{counts_fault}
use Rattle.image_check.specs.declared.finding.Counts.{Counts}
use Rattle.image_pages.specs.Clean.{counts_by, pages_in}
use Rattle.image_pages.proofs.Counting.{Counted, IsCounted, counted_of, the_same}

pub when : {A : Type 0} (t : Bool) (x y : A) → t ≡ true → cond t x y ≡ x
when true x y e = refl
when false x y e = cc

pub unless : {A : Type 0} (t : Bool) (x y : A) → t ≡ false → cond t x y ≡ y
unless true x y e = cc
unless false x y e = refl

-- no more pages were read than there are entries, nor than the image has
pub few_read : (format : Format) (h : List Name) → Counted format h → length (pages_in h) ≤ position_of h
few_read format h c = elim (cases_lt 0 (maps_in h)) [
  | inr none ↦ omega (arith, ap length (c.unmapped (omega arith)).1)
  | inl some ↦ elim (cases_lt 0 (position_of h)) [
    | inr start ↦ omega (arith, ap length (c.begun some (omega arith)).0)
    | inl later ↦
        let k = c.counted some later in
        elim (cases_lt (position_of h) k.counts.pages) [ inl lt ↦ omega (arith, k.before (omega arith)) | inr le ↦ omega (arith, k.after le) ]
  ]
]

-- what is known once the info page was read
pub record Begun (format : Format) (h : List Name) (c : Counts) : Type 0 where
  pub known : counts_of h ≡ Some c
  pub fine : counts_fault format c ≡ None
  pub few : length (pages_in h) ≤ c.pages

none_some : (c : Counts) (pages : List (List ℕ)) → counts_by pages ≡ Some c → pages ≡ [] → ⊥
none_some c [] said e = cc
none_some c (x ∷ xs) said e = cc

pub begun_of : (format : Format) (l : Limits) (first : ℕ) (h : List Name) (c : Counts) → IsReading l first h → history_findings format h ≡ [] → counts_by (pages_in h) ≡ Some c → Begun format h c
begun_of format l first h c reading clean said =
    let counted = counted_of format l first h reading clean in
    let k : IsCounted format (position_of h) (counts_of h) (pages_in h) = elim (cases_lt 0 (maps_in h)) [
      | inr none ↦ absurd (none_some c (pages_in h) said (counted.unmapped (omega arith)).1)
      | inl some ↦ elim (cases_lt 0 (position_of h)) [
        | inr start ↦ absurd (none_some c (pages_in h) said (counted.begun some (omega arith)).0)
        | inl later ↦ counted.counted some later
      ]
    ] in
    let same : k.counts ≡ c = the_same k.counts c (sym k.said ∙ said) in
    record {
      known = k.is_known ∙ ap Some same;
      fine = subst (λ (x : Counts). counts_fault format x ≡ None) same k.fine;
      few = subst (λ (x : Counts). length (pages_in h) ≤ x.pages) same
          (elim (cases_lt (position_of h) k.counts.pages) [ inl lt ↦ omega (arith, k.before (omega arith)) | inr le ↦ omega (arith, k.after le) ]);
    }

pub counts_still : (pages : List (List ℕ)) (page : List ℕ) (c : Counts) → 0 < length pages → counts_by (pages ++ page ∷ []) ≡ Some c → counts_by pages ≡ Some c
counts_still [] page c lt said = absurd (omega arith)
counts_still (x ∷ xs) page c lt said = said
