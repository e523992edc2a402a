-- What a table has beside a word.
use Rattle.std.proofs.Common.{◌≡◌, ℕ, ◌+◌, ◌<◌, ◌≤◌, Bool, true, false, cond, List, [], ◌∷◌, length, drop, get_or, map, Option, Some, None, refl, sym, ap, ◌∙◌}
use Rattle.std.proofs.lemmas.List.{drop_all, drop_more}
use Rattle.std.specs.List.{find}
use Rattle.std.specs.Option.{option_map}
use Rattle.std.specs.Str.{bytes_eq}
use Rattle.script.specs.Grammar.{row_of}
use Rattle.script.specs.Items.{beside}
use Rattle.script.specs.Shapes.{Row}
use denote.Ref.{Bor}

find_cons : {A : Type 0} (p : A → Bool) (x : A) (xs : List A) (b : Bool) → p x ≡ b → find p (x ∷ xs) ≡ cond b (Some x) (find p xs)
find_cons p x xs b is = rw is refl

-- a search from place i on, where all places before it were passed

pub found_here : {A : Type 0} (p : A → Bool) (l : List A) (i : ℕ) (x : A) → i < length l → x ≡ get_or l i x → p x ≡ true → find p (drop i l) ≡ Some x
found_here p l i x inside here is = rw (drop_more l i x inside, ← here) (find_cons p x _ true is)

pub passed_over : {A : Type 0} (p : A → Bool) (l : List A) (i : ℕ) (x : A) → i < length l → x ≡ get_or l i x → p x ≡ false → find p (drop (i + 1) l) ≡ find p (drop i l)
passed_over p l i x inside here isn't = rw (drop_more l i x inside, ← here) (sym (find_cons p x _ false isn't))

pub none_left : {A : Type 0} (p : A → Bool) (l : List A) (i : ℕ) → length l ≤ i → find p (drop i l) ≡ None
none_left p l i passed = rw (drop_all i l passed) refl

-- the rows of a table's values are found by the names beside them
row_of-named : {A W : Type 0} (row : W → Row A) (first : List ℕ) (table : List (Bor (List ℕ) × W)) → map (λ e. e.0.now) table ≡ map (λ e. (row e.1).first) table → row_of first (map row (map (λ e. e.1) table)) ≡ option_map row (beside table first)
unfolding beside
row_of-named row first [] are = refl
row_of-named row first (e ∷ table) are =
    let here : e.0.now ≡ (row e.1).first = cc in
    let rest : map (λ e. e.0.now) table ≡ map (λ e. (row e.1).first) table = cc in
    let equal : bytes_eq e.0.now first ≡ bytes_eq (row e.1).first first = ap (λ name. bytes_eq name first) here in
    by (bytes_eq (row e.1).first first) (bytes_eq e.0.now first) equal (row_of-named row first table rest) where
      by : (a b : Bool) → b ≡ a → row_of first (map row (map (λ e. e.1) table)) ≡ option_map row (beside table first) → cond a (Some (row e.1)) (row_of first (map row (map (λ e. e.1) table))) ≡ option_map row (option_map (λ e. e.1) (cond b (Some e) (find (λ e. bytes_eq e.0.now first) table)))
      by true true equal same = refl
      by false false equal same = same
      by true false equal same = absurd (cc)
      by false true equal same = absurd (cc)

pub row_of-beside : {A W : Type 0} (row : W → Row A) (first : List ℕ) (table : List (Bor (List ℕ) × W)) (found : Option W) → found ≡ beside table first → map (λ e. e.0.now) table ≡ map (λ e. (row e.1).first) table → row_of first (map row (map (λ e. e.1) table)) ≡ option_map row found
row_of-beside row first table found is are = row_of-named row first table are ∙ ap (option_map row) (sym is)
