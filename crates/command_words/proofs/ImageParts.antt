-- Words that are two lists of texts, one after the other.
use Rattle.std.proofs.Common.{◌≡◌, ◌≤◌, ◌↔◌, Bool, refl, sym, ap₂, subst, arith, List, [], ◌∷◌, ◌++◌, length, map, take, drop}
use Rattle.std.specs.Prelude.{IsTrue}

module _ {A B C : Type 0} (f : A → C) (g : B → C) where
  parted : (words : List A) (these those : List B) → length these ≤ length words → map f words ≡ map g these ++ map g those
      → (map f (take (length these) words) ≡ map g these) × (map f (drop (length these) words) ≡ map g those)
  parted words [] those le e = (refl, e)
  parted [] (y ∷ ys) those le e = absurd (omega (arith, le))
  parted (x ∷ xs) (y ∷ ys) those le e =
      let heads : f x ≡ g y = cc in
      let tails : map f xs ≡ map g ys ++ map g those = cc in
      let p = parted xs ys those (omega (arith, le)) tails in
      (ap₂ (λ c cs. c ∷ cs) heads p.0, p.1)

  joined : (words : List A) (these those : List B) → length these ≤ length words → map f (take (length these) words) ≡ map g these
      → map f (drop (length these) words) ≡ map g those → map f words ≡ map g these ++ map g those
  joined words [] those le front back = back
  joined [] (y ∷ ys) those le front back = absurd (omega (arith, le))
  joined (x ∷ xs) (y ∷ ys) those le front back =
      let heads : f x ≡ g y = cc in
      let tails : map f (take (length ys) xs) ≡ map g ys = cc in
      ap₂ (λ c cs. c ∷ cs) heads (joined xs ys those (omega (arith, le)) tails back)

  module _ (words front back : List A) (these those : List B) (le : length these ≤ length words) (r : Bool)
      (front_is : front ≡ take (length these) words) (back_is : back ≡ drop (length these) words) (told : IsTrue r ↔ (map f front ≡ map g these)) where
    -- the first are these, so the others decide
    pub decided : (q : Bool) → IsTrue r → (IsTrue q ↔ (map f back ≡ map g those)) → IsTrue q ↔ (map f words ≡ map g these ++ map g those)
    decided q holds other = (
      λ t. joined words these those le (subst (λ (w : List A). map f w ≡ map g these) front_is (told.0 holds))
          (subst (λ (w : List A). map f w ≡ map g those) back_is (other.0 t)),
      λ e. other.1 (subst (λ (w : List A). map f w ≡ map g those) (sym back_is) (parted words these those le e).1),
    )

    pub differs : (IsTrue r → ⊥) → IsTrue r ↔ (map f words ≡ map g these ++ map g those)
    differs fails = (
      λ t. absurd (fails t),
      λ e. told.1 (subst (λ (w : List A). map f w ≡ map g these) (sym front_is) (parted words these those le e).0),
    )
