-- The texts of a list's items, which a sink takes one after the other.
use Rattle.std.specs.Prelude.{codes, decimal}
use Rattle.std.proofs.Common.{◌≡◌, ℕ, ◌+◌, ◌<◌, List, [], ◌∷◌, ◌++◌, append-nil, length, take, drop, get_or, Option, sym, ap, ◌∙◌, subst}
use Rattle.std.proofs.lemmas.Grind.{flat_map-append}
use Rattle.std.proofs.lemmas.List.{take-append-drop, take_more}
use Rattle.std.specs.List.{flat_map}
use Rattle.definitions.specs.Streams.{TakesAll, TakesFront}
use Rattle.byte_streams.specs.Texts.{number_text}
use Rattle.byte_streams.proofs.Joined.{three_parts}
use Rattle.byte_streams.proofs.Taken.{TakesAll-both, TakesFront-first, TakesFront-second}

flat_map-take_more : {X Y : Type 0} (f : X → List Y) (xs : List X) (i : ℕ) (d : X) → i < length xs → flat_map f (take (i + 1) xs) ≡ flat_map f (take i xs) ++ f (get_or xs i d)
flat_map-take_more f xs i d lt =
    ap (flat_map f) (take_more xs i d lt) ∙ flat_map-append f (take i xs) (get_or xs i d ∷ []) ∙ ap (λ t. flat_map f (take i xs) ++ t) (append-nil (f (get_or xs i d)))

-- one item more is taken
pub all_of_more : {X : Type 0} (f : X → List ℕ) (xs : List X) (i : ℕ) (d : X) (old mid new : Option (List ℕ)) → i < length xs → TakesAll (flat_map f (take i xs)) old mid → TakesAll (f (get_or xs i d)) mid new → TakesAll (flat_map f (take (i + 1) xs)) old new
all_of_more f xs i d old mid new lt all here =
    subst (λ (text : List ℕ). TakesAll text old new) (sym (flat_map-take_more f xs i d lt))
    (TakesAll-both (flat_map f (take i xs)) (f (get_or xs i d)) old mid new all here)

-- a front of an item is
pub front_of_more : {X : Type 0} (f : X → List ℕ) (xs : List X) (i : ℕ) (d : X) (old mid new : Option (List ℕ)) → i < length xs → TakesAll (flat_map f (take i xs)) old mid → TakesFront (f (get_or xs i d)) mid new → TakesFront (flat_map f xs) old new
front_of_more f xs i d old mid new lt all here =
    let so_far : TakesFront (flat_map f (take (i + 1) xs)) old new =
    subst (λ (text : List ℕ). TakesFront text old new) (sym (flat_map-take_more f xs i d lt))
    (TakesFront-second (flat_map f (take i xs)) (f (get_or xs i d)) old mid new all here) in
    let parts : flat_map f (take (i + 1) xs) ++ flat_map f (drop (i + 1) xs) ≡ flat_map f xs =
    sym (flat_map-append f (take (i + 1) xs) (drop (i + 1) xs)) ∙ ap (flat_map f) (take-append-drop (i + 1) xs) in
    subst (λ (text : List ℕ). TakesFront text old new) parts
    (TakesFront-first (flat_map f (take (i + 1) xs)) (flat_map f (drop (i + 1) xs)) old new so_far)

-- a key with one number more
pub number_more : (key numbers : List ℕ) (i n : ℕ) (line mid new : List ℕ) → i < length numbers → get_or numbers i 0 ≡ n → line ≡ key ++ flat_map number_text (take i numbers) → mid ≡ line ++ codes " " → new ≡ mid ++ decimal n → new ≡ key ++ flat_map number_text (take (i + 1) numbers)
number_more key numbers i n line mid new lt here p q r =
    three_parts (flat_map number_text (take i numbers)) (codes " ") (decimal n) key line mid new p q r
    ∙ ap (λ (m : ℕ). key ++ (flat_map number_text (take i numbers) ++ (codes " " ++ decimal m))) (sym here)
    ∙ ap (λ (t : List ℕ). key ++ t) (sym (flat_map-take_more number_text numbers i 0 lt))
