-- A chain has no more maps than the disk has blocks, since each has a block of its own.
use Rattle.std.proofs.Common.{◌≡◌, ℕ, ◌<◌, ◌||◌, ◌⊎◌, inl, inr, zero, suc, Bool, true, false, List, [], ◌∷◌, length, eqb, Option, Some, None, Ok, Err, ltb, leb, refl, arith, cond}
use Rattle.std.proofs.lemmas.Bool.{cases_lt, leb-false, eqb-true, or_parts}
use Rattle.std.proofs.lemmas.Map.Steps.{length-le_from_distinct_below}
use Rattle.std.specs.List.{list_any, IsDistinct, AllByRecursion}
use Rattle.image_walk.specs.Names.{Name, map_at, page_at, maps_in, is_over, is_named, is_bad, fault_of, IsAnswer, IsReading}
use Rattle.image_walk.specs.declared.limits.Limits.{Limits}
use Rattle.image_walk.specs.declared.visit.BlockFault.{BlockFault}
use Rattle.image_walk.specs.declared.visit.BlockFault.TheVariants as fault

-- the blocks of the maps that were read
abbrev pub open_blocks : List Name → List ℕ
open_blocks [] = []
open_blocks (map_at b (Ok page) ∷ h) = b ∷ open_blocks h
open_blocks (map_at b (Err why) ∷ h) = open_blocks h
open_blocks (page_at b answer ∷ h) = open_blocks h

length-open_blocks : (l : Limits) (first : ℕ) (h : List Name) → IsReading l first h → is_over h ≡ false → length (open_blocks h) ≡ maps_in h
length-open_blocks l first [] reading on = refl
length-open_blocks l first (map_at b (Ok page) ∷ h) reading on = let rest = length-open_blocks l first h reading.0 reading.1.1 in omega arith
length-open_blocks l first (map_at b (Err why) ∷ h) reading on = cc
length-open_blocks l first (page_at b answer ∷ h) reading on = length-open_blocks l first h reading.0 on

none_of : {X : Type 0} (a b c d e : Bool) (v w x y z : X) → cond a (Some v) (cond b (Some w) (cond c (Some x) (cond d (Some y) (cond e (Some z) None)))) ≡ None → (a ≡ false) × (b ≡ false) × (e ≡ false)
none_of true b c d e v w x y z is = cc
none_of false true c d e v w x y z is = cc
none_of false false true d e v w x y z is = cc
none_of false false false true e v w x y z is = cc
none_of false false false false true v w x y z is = cc
none_of false false false false false v w x y z is = (refl, refl, refl)

or_right : (a b : Bool) → (a || b) ≡ false → b ≡ false
or_right true b e = cc
or_right false b e = e

not_zero : (b : ℕ) → eqb b 0 ≡ false → 0 < b
not_zero zero e = cc
not_zero (suc b) e = omega arith

-- a block without a fault is one of the disk, not the header's, and wasn't named before
pub fault_none : (l : Limits) (h : List Name) (b : ℕ) → fault_of l h b ≡ None → (b < l.blocks) × (is_named b h ≡ false) × (0 < b) × (eqb b l.header ≡ false)
fault_none l h b e =
    let (some, inside, fresh) = none_of (eqb b 0) (leb l.blocks b) (ltb l.last b) (is_bad l b) (eqb b l.header || is_named b h) fault.Zero (fault.BeyondFile b) (fault.BeyondLast b) (fault.Bad b) (fault.Again b) e in
    (leb-false l.blocks b inside, (or_parts (eqb b l.header) (is_named b h) fresh).1, not_zero b some, (or_parts (eqb b l.header) (is_named b h) fresh).0)

no_fault : (fault : Option BlockFault) (b : ℕ) (page : List ℕ) → IsAnswer fault b (Ok page) → fault ≡ None
no_fault None b page answer = refl
no_fault (Some why) b page answer = cc

or_true : (a b c : Bool) → (b ≡ true → c ≡ true) → (a || b) ≡ true → (a || c) ≡ true
or_true true b c f e = refl
or_true false b c f e = f e

or_more : (a b : Bool) → b ≡ true → (a || b) ≡ true
or_more true b e = refl
or_more false b e = e

named_open : (q : ℕ) (h : List Name) → list_any (eqb q) (open_blocks h) ≡ true → is_named q h ≡ true
named_open q [] e = e
named_open q (map_at b (Ok page) ∷ h) e = or_true (eqb q b) (list_any (eqb q) (open_blocks h)) (is_named q h) (named_open q h) e
named_open q (map_at b (Err why) ∷ h) e = or_more (eqb q b) (is_named q h) (named_open q h e)
named_open q (page_at b answer ∷ h) e = or_more (eqb q b) (is_named q h) (named_open q h e)

is_false : (a : Bool) → (a ≡ true → ⊥) → a ≡ false
is_false true f = absurd (f refl)
is_false false f = refl

all_other : (b : ℕ) (xs : List ℕ) → list_any (eqb b) xs ≡ false → AllByRecursion (λ y. eqb b y ≡ false) xs
all_other b [] e = tt
all_other b (x ∷ xs) e = (or_left (eqb b x) (list_any (eqb b) xs) e, all_other b xs (or_right (eqb b x) (list_any (eqb b) xs) e)) where
  or_left : (a c : Bool) → (a || c) ≡ false → a ≡ false
  or_left true c q = cc
  or_left false c q = refl

distinct_open : (l : Limits) (first : ℕ) (h : List Name) → IsReading l first h → IsDistinct eqb (open_blocks h)
unfolding IsDistinct
distinct_open l first [] reading = tt
distinct_open l first (map_at b (Ok page) ∷ h) reading =
    let fresh = (fault_none l h b (no_fault (fault_of l h b) b page reading.1.3)).1 in
    (all_other b (open_blocks h) (is_false (list_any (eqb b) (open_blocks h)) (λ e. let named = named_open b h e in cc)), distinct_open l first h reading.0)
distinct_open l first (map_at b (Err why) ∷ h) reading = distinct_open l first h reading.0
distinct_open l first (page_at b answer ∷ h) reading = distinct_open l first h reading.0

below_open : (l : Limits) (first q : ℕ) (h : List Name) → IsReading l first h → list_any (eqb q) (open_blocks h) ≡ true → (0 < q) × (q < l.blocks)
below_open l first q [] reading e = cc
below_open l first q (map_at b (Ok page) ∷ h) reading e =
    one (eqb q b) (list_any (eqb q) (open_blocks h)) e (λ same. let good = fault_none l h b (no_fault (fault_of l h b) b page reading.1.3) in (omega (arith, eqb-true q b same), omega (arith, eqb-true q b same))) (below_open l first q h reading.0) where
      one : {P : Type 0} (a c : Bool) → (a || c) ≡ true → (a ≡ true → P) → (c ≡ true → P) → P
      one true c e f g = f refl
      one false c e f g = g e
below_open l first q (map_at b (Err why) ∷ h) reading e = below_open l first q h reading.0 e
below_open l first q (page_at b answer ∷ h) reading e = below_open l first q h reading.0 e

distinct_more : (b : ℕ) (xs : List ℕ) → list_any (eqb b) xs ≡ false → IsDistinct eqb xs → IsDistinct eqb (b ∷ xs)
unfolding IsDistinct
distinct_more b xs fresh distinct = (all_other b xs fresh, distinct)

below_more : (l : Limits) (first q : ℕ) (h : List Name) → 0 < l.blocks → IsReading l first h → list_any (eqb q) (0 ∷ open_blocks h) ≡ true → q < l.blocks
below_more l first q h some reading e = either (eqb q 0) (list_any (eqb q) (open_blocks h)) e (λ same. omega (arith, eqb-true q 0 same)) (λ any. (below_open l first q h reading any).1) where
  either : {P : Type 0} (a c : Bool) → (a || c) ≡ true → (a ≡ true → P) → (c ≡ true → P) → P
  either true c e f g = f refl
  either false c e f g = g e

-- before a map is named there were fewer than the disk has blocks, or none
pub few_maps : (l : Limits) (first : ℕ) (h : List Name) → IsReading l first h → is_over h ≡ false → (maps_in h ≡ 0) ⊎ (maps_in h < l.blocks)
few_maps l first h reading on = elim (cases_lt 0 l.blocks) [
  | inl some ↦ inr (
      let fresh = is_false (list_any (eqb 0) (open_blocks h)) (λ e. absurd (omega (arith, (below_open l first 0 h reading e).0))) in
      let most = length-le_from_distinct_below (0 ∷ open_blocks h) l.blocks (distinct_more 0 (open_blocks h) fresh (distinct_open l first h reading)) (λ q e. below_more l first q h some reading e) in
      let count = length-open_blocks l first h reading on in
      omega arith)
  | inr none ↦ inl (
      let most = length-le_from_distinct_below (open_blocks h) l.blocks (distinct_open l first h reading) (λ q e. (below_open l first q h reading e).1) in
      let count = length-open_blocks l first h reading on in
      omega arith)
]
