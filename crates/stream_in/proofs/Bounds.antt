-- The bad pages of a version 1 area are its slots.
use Rattle.std.proofs.Common.{◌≡◌, ℕ, ◌+◌, ◌-◌, ◌*◌, ◌≤◌, ◌||◌, Bool, true, false, cond, eqb, ltb, List, [], ◌∷◌, ◌++◌, length, take, replicate, Option, Some, None, refl, subst, inl, inr, arith}
use Rattle.std.specs.List.{Contains}
use Rattle.std.proofs.lemmas.Bool.{ltb-false, or_parts}
use Rattle.std.proofs.lemmas.List.{take_at}
use Rattle.std.proofs.lemmas.List.FromFn.{length-map-range_with_len}
use Rattle.std.specs.Cmp.Lexicographic.{pointwise}
use Rattle.definitions.specs.Bytes.{number_at}
use Rattle.definitions.proofs.Ascending.{Contains-nil, Contains-cons_cases}
use Rattle.definitions.specs.SwapHeader.{image_signature, old_signature, area_signature, sig_of, version_of, last_page_of, bad_count_of, bad_pages_of, first_outside}
use Rattle.image_format.specs.AreaKind.{area_kind, version_1_kind, area_with, area_of, mark_of}
use Rattle.image_format.specs.declared.signature.area.Area.{Area}
use Rattle.image_format.specs.declared.signature.area.AreaFault.TheVariants.{Version, BadCount, LastZero}
use Rattle.image_format.specs.declared.signature.area.AreaKind.{AreaKind}
use Rattle.image_format.specs.declared.signature.area.AreaKind.TheVariants.{Image, Old, Other, BadArea, Swap}
use Rattle.stream_in.specs.Area.{HasBounds}

no_swap : (a b c : Bool) (x y v z : AreaKind) (area : Area) → (x ≡ Swap area → ⊥) → (y ≡ Swap area → ⊥) → (z ≡ Swap area → ⊥) → cond a x (cond b y (cond c v z)) ≡ Swap area → v ≡ Swap area
no_swap true b c x y v z area nx ny nz e = absurd (nx e)
no_swap false true c x y v z area nx ny nz e = absurd (ny e)
no_swap false false true x y v z area nx ny nz e = e
no_swap false false false x y v z area nx ny nz e = absurd (nz e)

-- what the tests of a version 1 area have passed
record Passed (many : Bool) (w : AreaKind) (area : Area) : Type 0 where
  pub few : many ≡ false
  pub kind : w ≡ Swap area

passed : (a b c : Bool) (x y z w : AreaKind) (area : Area) → (x ≡ Swap area → ⊥) → (y ≡ Swap area → ⊥) → (z ≡ Swap area → ⊥) → cond a (cond b x (cond c y w)) z ≡ Swap area → Passed b w area
passed true true c x y z w area nx ny nz e = absurd (nx e)
passed true false true x y z w area nx ny nz e = absurd (ny e)
passed true false false x y z w area nx ny nz e = record { few = refl; kind = e }
passed false b c x y z w area nx ny nz e = absurd (nz e)

record IsAreaOf (page : List ℕ) (o : Option ℕ) (area : Area) : Type 0 where
  pub none : o ≡ None
  pub area_is : area_of page ≡ area

of_page : (page : List ℕ) (o : Option ℕ) (area : Area) → area_with page o ≡ Swap area → IsAreaOf page o area
of_page page None area e = record { none = refl; area_is = cc }
of_page page (Some slot) area e = absurd (cc)

not_outside : (last : ℕ) (xs : List ℕ) → first_outside last xs ≡ None → (k : ℕ) → Contains xs k → k ≤ last
not_outside last [] e k in' = absurd (Contains-nil k in')
not_outside last (x ∷ xs) e k in' =
    let b = eqb x 0 || ltb last x in
    let parts = first_not b x (first_outside last xs) e in
    elim (Contains-cons_cases x xs k in') [
      | inl same ↦ let below = ltb-false last x ((or_parts (eqb x 0) (ltb last x) parts.0).1) in omega arith
      | inr later ↦ not_outside last xs parts.1 k later
    ]
  where
    first_not : (b : Bool) (x : ℕ) (rest : Option ℕ) → cond b (Some x) rest ≡ None → (b ≡ false) × (rest ≡ None)
    first_not true x rest e = cc
    first_not false x rest e = (refl, e)

bounded_page : (page : List ℕ) → bad_count_of page ≤ 630 → first_outside (last_page_of page) (bad_pages_of page (bad_count_of page)) ≡ None → HasBounds (area_of page)
unfolding area_of bad_pages_of
bounded_page page few none =
    let bad = bad_pages_of page (bad_count_of page) in
    let size : length bad ≡ bad_count_of page = length-map-range_with_len (λ i. number_at 4 page (1536 + 4 * i)) 0 (bad_count_of page) in
    let front : take (bad_count_of page) (bad ++ replicate (630 - bad_count_of page) 0) ≡ bad = take_at bad (replicate (630 - bad_count_of page) 0) (bad_count_of page) size in
    record {
      count = few;
      bad = λ k in'. not_outside (last_page_of page) bad none k (subst (λ (xs : List ℕ). Contains xs k) front in');
    }

pub area_bounded : (page : List ℕ) (area : Area) → area_kind page ≡ Swap area → HasBounds area
unfolding area_kind
area_bounded page area e =
    let version : version_1_kind page ≡ Swap area =
    no_swap (pointwise eqb (sig_of page) image_signature) (pointwise eqb (sig_of page) old_signature) (pointwise eqb (sig_of page) area_signature)
    (Image (mark_of page)) Old (version_1_kind page) (Other (sig_of page)) area (λ x. cc) (λ x. cc) (λ x. cc) e in
    let o = first_outside (last_page_of page) (bad_pages_of page (bad_count_of page)) in
    let p = passed (eqb (version_of page) 1) (ltb 630 (bad_count_of page)) (eqb (last_page_of page) 0) (BadArea (BadCount (bad_count_of page))) (BadArea LastZero) (BadArea (Version (version_of page))) (area_with page o) area
    (λ x. cc) (λ x. cc) (λ x. cc) version in
    let w = of_page page o area p.kind in
    subst HasBounds w.area_is (bounded_page page (ltb-false 630 (bad_count_of page) p.few) w.none)
