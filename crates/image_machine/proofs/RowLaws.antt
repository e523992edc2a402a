-- Laws of rows of unsaved page frames.
use Rattle.std.proofs.Common.{◌≡◌, ◌+◌, ◌<◌, ◌≤◌, ◌&&◌, ℕ, Bool, true, false, not, cond, List, [], ◌∷◌, Some, refl, sym, ap, ◌∙◌}
use Rattle.std.proofs.lemmas.Bool.{and_parts, false≢true}
use Rattle.std.proofs.lemmas.Option.{none-some, same_Some}
use Rattle.std.specs.List.{Contains, find, range_with_len}
use Rattle.definitions.proofs.ZoneNumbers.{Contains-range}
use Rattle.definitions.specs.Zones.{numbers, top}
use Rattle.machine.proofs.ListTests.{all_each}
use Rattle.machine.proofs.Rows.{any_true}
use Rattle.plain_machine.specs.Loader.{has}
use Rattle.image_machine.specs.Rows.{is_clear, is_unsaved, lie_apart, lowest_row}

-- what is found passes
found_passes : (test : ℕ → Bool) (xs : List ℕ) (x : ℕ) → find test xs ≡ Some x → test x ≡ true
found_passes test [] x e = absurd (none-some x e)
found_passes test (y ∷ ys) x e = by_test (test y) refl (found_passes test ys x) where
  by_test : (b : Bool) → test y ≡ b → (find test ys ≡ Some x → test x ≡ true) → test x ≡ true
  by_test true t rest =
      let here : Some y ≡ Some x = sym (ap (λ (b : Bool). cond b (Some y) (find test ys)) t) ∙ e in
      sym (ap test (same_Some y x here)) ∙ t
  by_test false t rest = rest (sym (ap (λ (b : Bool). cond b (Some y) (find test ys)) t) ∙ e)

not_true : (b : Bool) → not b ≡ true → b ≡ true → ⊥
not_true true e t = false≢true e
not_true false e t = false≢true t

-- no page frame of the lowest row was saved
pub row_unsaved : (zones : List (ℕ × ℕ)) (saved : List ℕ) (len : ℕ) (other : ℕ × ℕ) (first : ℕ) →
    lowest_row zones saved len other ≡ Some first → (p : ℕ) → first ≤ p → p < first + len → Contains saved p → ⊥
row_unsaved zones saved len other first e p from below in' =
    let passes =
    found_passes (λ (f : ℕ). lie_apart (f, len) other && is_clear zones saved len f) (range_with_len 0 (top zones)) first e in
    let clear = (and_parts (lie_apart (first, len) other) (is_clear zones saved len first) passes).1 in
    let unsaved = all_each (is_unsaved zones saved) (range_with_len first len) p clear (Contains-range first len p from below) in
    not_true (has saved p) (and_parts (has (numbers zones) p) (not (has saved p)) unsaved).1 (any_true saved p in')
