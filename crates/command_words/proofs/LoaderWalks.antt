-- Options that are read one after another.
use Rattle.std.proofs.Common.{◌≡◌, ◌<◌, ◌+◌, ◌-◌, ℕ, zero, suc, List, [], ◌∷◌, length, map, Option, Some, None, refl, sym, ap, subst, ◌∙◌, arith}
use Rattle.std.proofs.lemmas.Option.{none-some}
use Rattle.std.specs.Prelude.{IfNone, option_and_then}
use Rattle.command_words.specs.LoaderWords.{Given, Read, option_first, options_in}

pub no_more : (k : ℕ) (given : Given) → k < 83 → options_in (83 - k) given [] ≡ Some given
unfolding options_in
no_more k given lt =
    let more : 83 - k ≡ suc (82 - k) = omega arith in
    ap (λ (n : ℕ). options_in n given []) more

one_more : (n : ℕ) (given : Given) (words : List (List ℕ)) (some : Given) (rest : List (List ℕ)) →
    option_first given words ≡ Some (some, rest) → options_in (suc n) given words ≡ options_in n some rest
unfolding options_in
one_more n given [] some rest e = absurd (none-some (some, rest) e)
one_more n given (flag ∷ words) some rest e = ap (λ (r : Read). option_and_then (λ read. options_in n read.0 read.1) r) e

pub one_read : (k : ℕ) (given : Given) (words : List (List ℕ)) (some : Given) (rest : List (List ℕ)) → k < 83 →
    option_first given words ≡ Some (some, rest) → options_in (83 - k) given words ≡ options_in (83 - (k + 1)) some rest
one_read k given words some rest lt e =
    let more : 83 - k ≡ suc (83 - (k + 1)) = omega arith in
    ap (λ (n : ℕ). options_in n given words) more ∙ one_more (83 - (k + 1)) given words some rest e

none_more : (n : ℕ) (given : Given) (flag : List ℕ) (words : List (List ℕ)) → option_first given (flag ∷ words) ≡ None →
    options_in (suc n) given (flag ∷ words) ≡ None
unfolding options_in
none_more n given flag words e = ap (λ (r : Read). option_and_then (λ read. options_in n read.0 read.1) r) e

pub none_read : (k : ℕ) (given : Given) (words : List (List ℕ)) → k < 83 → (words ≡ [] → ⊥) → option_first given words ≡ None →
    options_in (83 - k) given words ≡ None
none_read k given [] lt some e = absurd (some refl)
none_read k given (flag ∷ words) lt some e =
    let more : 83 - k ≡ suc (82 - k) = omega arith in
    ap (λ (n : ℕ). options_in n given (flag ∷ words)) more ∙ none_more (82 - k) given flag words e

pub too_many : (given : Given) (words : List (List ℕ)) → options_in 0 given words ≡ None
unfolding options_in
too_many given words = refl

pub none_left : {A : Type 0} (f : A → List ℕ) (xs : List A) → length xs ≡ 0 → map f xs ≡ []
none_left {A} f [] e = refl
none_left {A} f (x ∷ xs) e = absurd (let never : ⊥ = omega arith in never)

pub some_left : {A : Type 0} (f : A → List ℕ) (xs : List A) → (length xs ≡ 0 → ⊥) → map f xs ≡ [] → ⊥
some_left {A} f [] some e = some refl
some_left {A} f (x ∷ xs) some e = absurd (let never : length (f x ∷ map f xs) ≡ 0 = ap length e in let r : ⊥ = omega arith in r)

pub if_none_any : {A P : Type 0} (o : Option A) → P → IfNone o P
if_none_any None p = p
if_none_any (Some x) p = tt
