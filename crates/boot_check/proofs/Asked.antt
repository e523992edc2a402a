-- Each block is asked for once.
use Rattle.std.proofs.Common.{◌≡◌, ℕ, ◌<◌, ◌++◌, Bool, true, false, List, [], ◌∷◌, None, Result, Ok, Err, eqb, cond, refl, ap, ◌∙◌, subst}
use Rattle.std.specs.List.{list_any}
use Rattle.std.proofs.lemmas.Bool.{or_parts, or_from}
use Rattle.std.proofs.lemmas.List.Folds.{list_any-append}
use Rattle.image_walk.specs.Names.{Name, answer_of, block_of, fault_of, is_named, IsAnswer}
use Rattle.image_walk.specs.declared.limits.Limits.{Limits}
use Rattle.image_walk.specs.declared.visit.BlockFault.{BlockFault}
use Rattle.image_walk.proofs.FewMaps.{fault_none}
use Rattle.image_format.specs.declared.signature.area.AreaKind.{AreaKind}
use Rattle.image_format.specs.declared.signature.area.AreaKind.TheVariants as kind
use Rattle.image_check.specs.Header.{limits_of, any_block}
use Rattle.boot_check.specs.Named.{asked_in, was_asked}

with_other : (t : Bool) (b x : ℕ) (xs : List ℕ) → eqb b x ≡ false → list_any (λ y. eqb b y) xs ≡ false → list_any (λ y. eqb b y) (cond t (x ∷ xs) xs) ≡ false
with_other true b x xs ne rest = or_from (eqb b x) (list_any (λ y. eqb b y) xs) ne rest
with_other false b x xs ne rest = rest

not_in : (b : ℕ) (h : List Name) → is_named b h ≡ false → list_any (λ y. eqb b y) (asked_in h) ≡ false
not_in b [] e = refl
not_in b (x ∷ h) e =
    let parts = or_parts (eqb b (block_of x)) (is_named b h) e in
    with_other (was_asked (answer_of x)) b (block_of x) (asked_in h) parts.0 (not_in b h parts.1)

-- a block that may be read after a history is none of those that were asked for
pub fresh : (l : Limits) (h : List Name) (b header : ℕ) → fault_of l h b ≡ None → l.header ≡ header → list_any (λ y. eqb b y) (asked_in h ++ header ∷ []) ≡ false
fresh l h b header free is =
    let good = fault_none l h b free in
    let other : eqb b header ≡ false = subst (λ k. eqb b k ≡ false) is good.3 in
    list_any-append (λ y. eqb b y) (asked_in h) (header ∷ [])
    ∙ or_from (list_any (λ y. eqb b y) (asked_in h)) (list_any (λ y. eqb b y) (header ∷ [])) (not_in b h good.1) (or_from (eqb b header) false other refl)

pub inside : (l : Limits) (h : List Name) (b blocks : ℕ) → fault_of l h b ≡ None → l.blocks ≡ blocks → b < blocks
inside l h b blocks free is = subst (λ n. b < n) is (fault_none l h b free).0

-- what came of a read that was asked for
pub outcome_asked : (answer : Result (List ℕ) BlockFault) (b : ℕ) → IsAnswer None b answer → was_asked answer ≡ true
outcome_asked (Ok page) b told = refl
outcome_asked (Err why) b told = ap (λ (w : BlockFault). was_asked (Err w)) told

limits_either : (t : Bool) (l k : Limits) (blocks header : ℕ) → l.blocks ≡ blocks → k.blocks ≡ blocks → l.header ≡ header → k.header ≡ header → ((cond t l k).blocks ≡ blocks) × ((cond t l k).header ≡ header)
limits_either true l k blocks header lb kb lh kh = (lb, lh)
limits_either false l k blocks header lb kb lh kh = (kb, kh)

pub limits_at : (blocks header : ℕ) (k : AreaKind) → ((limits_of blocks header k).blocks ≡ blocks) × ((limits_of blocks header k).header ≡ header)
limits_at blocks header (kind.Image mark) = (refl, refl)
limits_at blocks header kind.Old = (refl, refl)
limits_at blocks header (kind.Other sig) = (refl, refl)
limits_at blocks header (kind.BadArea why) = (refl, refl)
limits_at blocks header (kind.Swap area) =
    limits_either (eqb header 0) (record { blocks = blocks; header = header; last = area.last; bad = area.bad }) (any_block blocks header) blocks header refl refl refl refl
