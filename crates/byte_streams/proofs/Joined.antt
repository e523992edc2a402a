-- Lists that are put together part by part.
use Rattle.std.proofs.Common.{◌≡◌, ℕ, ◌+◌, ◌<◌, List, [], ◌∷◌, ◌++◌, length, map, take, get_or, sym, ap, ◌∙◌, append_assoc}
use Rattle.std.proofs.lemmas.List.{take_more, map-append}

pub two_parts : {X : Type 0} (a b f0 f1 f2 : List X) → f1 ≡ f0 ++ a → f2 ≡ f1 ++ b → f2 ≡ f0 ++ (a ++ b)
two_parts a b f0 f1 f2 p q = q ∙ ap (λ t. t ++ b) p ∙ append_assoc f0 a b

pub three_parts : {X : Type 0} (a b c f0 f1 f2 f3 : List X) → f1 ≡ f0 ++ a → f2 ≡ f1 ++ b → f3 ≡ f2 ++ c → f3 ≡ f0 ++ (a ++ (b ++ c))
three_parts a b c f0 f1 f2 f3 p q r = two_parts a (b ++ c) f0 f1 f3 p (two_parts b c f1 f2 f3 q r)

pub four_parts : {X : Type 0} (a b c d f0 f1 f2 f3 f4 : List X) → f1 ≡ f0 ++ a → f2 ≡ f1 ++ b → f3 ≡ f2 ++ c → f4 ≡ f3 ++ d → f4 ≡ f0 ++ (a ++ (b ++ (c ++ d)))
four_parts a b c d f0 f1 f2 f3 f4 p q r s = two_parts a (b ++ (c ++ d)) f0 f1 f4 p (three_parts b c d f1 f2 f3 f4 q r s)

pub five_parts : {X : Type 0} (a b c d e f0 f1 f2 f3 f4 f5 : List X) → f0 ≡ [] → f1 ≡ f0 ++ a → f2 ≡ f1 ++ b → f3 ≡ f2 ++ c → f4 ≡ f3 ++ d → f5 ≡ f4 ++ e → f5 ≡ a ++ (b ++ (c ++ (d ++ e)))
five_parts a b c d e f0 f1 f2 f3 f4 f5 none p q r s t =
    two_parts a (b ++ (c ++ (d ++ e))) f0 f1 f5 p (four_parts b c d e f1 f2 f3 f4 f5 q r s t)
    ∙ ap (λ xs. xs ++ (a ++ (b ++ (c ++ (d ++ e))))) none

-- one item more of a list whose items are mapped
pub map-take_more : {X Y : Type 0} (f : X → Y) (xs : List X) (i : ℕ) (d : X) → i < length xs → map f (take (i + 1) xs) ≡ map f (take i xs) ++ f (get_or xs i d) ∷ []
map-take_more f xs i d lt = ap (map f) (take_more xs i d lt) ∙ map-append f (take i xs) (get_or xs i d ∷ [])

pub mapped_more : {X Y : Type 0} (f : X → Y) (xs : List X) (i : ℕ) (d : X) (old facts new : List Y) → i < length xs → facts ≡ old ++ map f (take i xs) → new ≡ facts ++ f (get_or xs i d) ∷ [] → new ≡ old ++ map f (take (i + 1) xs)
mapped_more f xs i d old facts new lt p q =
    two_parts (map f (take i xs)) (f (get_or xs i d) ∷ []) old facts new p q ∙ ap (λ t. old ++ t) (sym (map-take_more f xs i d lt))
