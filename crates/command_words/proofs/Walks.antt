-- Two lists that are compared item by item.
use Rattle.std.proofs.Common.{◌≡◌, ◌≢◌, ◌∙◌, ◌<◌, ℕ, zero, suc, sym, ap, ap₂, arith, List, [], ◌∷◌, length, map, take, get_or}

module _ {A B C : Type 0} (f : A → C) (g : B → C) where
  -- two lists differ if an item does
  pub differ : (xs : List A) (ys : List B) (n : ℕ) (x : A) (y : B) → n < length xs → n < length ys → ((d : A) → x ≡ get_or xs n d) → ((d : B) → y ≡ get_or ys n d)
      → f x ≢ g y → map f xs ≡ map g ys → ⊥
  differ [] ys n x y lt lt' at at' ne e = absurd (omega arith)
  differ (a ∷ xs) [] n x y lt lt' at at' ne e = absurd (omega arith)
  differ (a ∷ xs) (b ∷ ys) zero x y lt lt' at at' ne e =
      let left : f x ≡ f a = ap f (at a) in
      let right : g y ≡ g b = ap g (at' b) in
      let heads : f a ≡ g b = cc in
      ne (left ∙ heads ∙ sym right)
  differ (a ∷ xs) (b ∷ ys) (suc n) x y lt lt' at at' ne e =
      let tails : map f xs ≡ map g ys = cc in
      differ xs ys n x y (omega arith) (omega arith) at at' ne tails

  -- one more item is the same
  pub one_more : (xs : List A) (ys : List B) (n : ℕ) (x : A) (y : B) → n < length xs → n < length ys → ((d : A) → x ≡ get_or xs n d) → ((d : B) → y ≡ get_or ys n d)
      → f x ≡ g y → map f (take n xs) ≡ map g (take n ys) → map f (take (suc n) xs) ≡ map g (take (suc n) ys)
  one_more [] ys n x y lt lt' at at' is e = absurd (omega arith)
  one_more (a ∷ xs) [] n x y lt lt' at at' is e = absurd (omega arith)
  one_more (a ∷ xs) (b ∷ ys) zero x y lt lt' at at' is e = ap (λ c. c ∷ []) (sym (ap f (at a)) ∙ is ∙ ap g (at' b))
  one_more (a ∷ xs) (b ∷ ys) (suc n) x y lt lt' at at' is e =
      let heads : f a ≡ g b = cc in
      let tails : map f (take n xs) ≡ map g (take n ys) = cc in
      ap₂ (λ c cs. c ∷ cs) heads (one_more xs ys n x y (omega arith) (omega arith) at at' is tails)
