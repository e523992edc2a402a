-- The blocks that no image may name, one after another.
use Rattle.std.proofs.Common.{◌≡◌, ℕ, ◌+◌, ◌<◌, ◌≤◌, ◌||◌, Bool, true, false, List, [], ◌∷◌, length, take, get_or, eqb, inl, inr, sym, ap, ◌∙◌, arith, refl, add-one}
use Rattle.std.specs.List.{list_any}
use Rattle.std.proofs.lemmas.Bool.{cases_eq, eq-eqb, ne_eqb}
use Rattle.std.proofs.lemmas.List.Folds.{list_any-append}
use Rattle.std.proofs.Math.Bool.{or-false}
use Rattle.std.proofs.Math.Seq.{take-suc}
use Rattle.image_walk.specs.BlockSets.{AddsBlock}
use Rattle.image_walk.specs.Names.{is_bad}
use Rattle.image_walk.specs.Taken.{HasBlocks, IsTaken}
use Rattle.image_walk.specs.declared.limits.Limits.{Limits}

or_comm : (a b : Bool) → (a || b) ≡ (b || a)
or_comm true true = refl
or_comm true false = refl
or_comm false true = refl
or_comm false false = refl

eqb_flip : (a b : ℕ) → eqb a b ≡ eqb b a
eqb_flip a b = elim (cases_eq a b) [
  | inl e ↦ eq-eqb a b e ∙ sym (eq-eqb b a (sym e))
  | inr ne ↦ ne_eqb a b ne ∙ sym (ne_eqb b a (λ e. ne (sym e)))
]

with_next : (index b : ℕ) (bad : List ℕ) → index < length bad → list_any (λ x. eqb x b) (take (index + 1) bad) ≡ (eqb b (get_or bad index 0) || list_any (λ x. eqb x b) (take index bad))
with_next index b bad lt =
    ap (λ n. list_any (λ x. eqb x b) (take n bad)) (add-one index)
    ∙ ap (list_any (λ x. eqb x b)) (take-suc bad index 0 lt)
    ∙ list_any-append (λ x. eqb x b) (take index bad) (get_or bad index 0 ∷ [])
    ∙ ap (λ t. list_any (λ x. eqb x b) (take index bad) || t) (or-false (eqb (get_or bad index 0) b) ∙ eqb_flip (get_or bad index 0) b)
    ∙ or_comm (list_any (λ x. eqb x b) (take index bad)) (eqb b (get_or bad index 0))

pub reserve_one : (blocks index block : ℕ) (bad old new : List ℕ) → HasBlocks blocks (take index bad) old → index < length bad → block ≡ get_or bad index 0 → AddsBlock block old new → length new ≡ length old → HasBlocks blocks (take (index + 1) bad) new
reserve_one blocks index block bad old new r lt is adds size = record {
  room = omega (arith, r.room);
  has = λ b inside.
      adds b ∙ ap (λ t. eqb b block || t) (r.has b inside) ∙ ap (λ x. eqb b x || list_any (λ y. eqb y b) (take index bad)) is
      ∙ sym (with_next index b bad lt);
}

pub reserve_none : (blocks index block : ℕ) (bad words : List ℕ) → HasBlocks blocks (take index bad) words → index < length bad → block ≡ get_or bad index 0 → blocks ≤ block → HasBlocks blocks (take (index + 1) bad) words
reserve_none blocks index block bad words r lt is out = record {
  room = r.room;
  has = λ b inside.
      r.has b inside ∙ sym (with_next index b bad lt ∙ ap (λ t. t || list_any (λ y. eqb y b) (take index bad)) (ne_eqb b (get_or bad index 0) (λ e. omega arith)));
}

pub taken_with : (l : Limits) (old new : List ℕ) → HasBlocks l.blocks l.bad old → AddsBlock l.header old new → length new ≡ length old → IsTaken l new []
taken_with l old new r adds size = record {
  room = omega (arith, r.room);
  has = λ b some inside.
      adds b ∙ ap (λ t. eqb b l.header || t) (r.has b inside)
      ∙ or_comm (eqb b l.header) (is_bad l b)
      ∙ ap (λ t. is_bad l b || t) (sym (or-false (eqb b l.header)));
}

pub taken_without : (l : Limits) (words : List ℕ) → HasBlocks l.blocks l.bad words → l.blocks ≤ l.header → IsTaken l words []
taken_without l words r out = record {
  room = r.room;
  has = λ b some inside.
      r.has b inside
      ∙ sym (ap (λ t. is_bad l b || (t || false)) (ne_eqb b l.header (λ e. omega arith)) ∙ or-false (is_bad l b));
}
