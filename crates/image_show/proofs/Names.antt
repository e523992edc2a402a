-- What is known of a name, by the pages before it.
use Rattle.std.proofs.Common.{◌≡◌, ℕ, ◌+◌, ◌-◌, ◌<◌, true, false, List, [], ◌∷◌, ◌++◌, length, Some, None, Ok, Err, refl, sym, ap, ◌∙◌, arith, length-append}
use Rattle.std.proofs.lemmas.Bool.{lt-ltb, le-ltb}
use Rattle.definitions.specs.Bytes.{number_at}
use Rattle.image_walk.specs.Names.{Name, map_at, page_at, is_over}
use Rattle.image_show.specs.Reads.{wanted_after}
use Rattle.image_show.specs.Told.{AreTold, is_wanted}

false_true : false ≡ true → ⊥
false_true e = cc

-- a chain isn't over while each of its names is told
pub goes_on : (h : List Name) → AreTold h → is_over h ≡ false
goes_on [] told = refl
goes_on (map_at b (Ok page) ∷ h) told = refl
goes_on (map_at b (Err why) ∷ h) told = absurd (false_true told.1)
goes_on (page_at b answer ∷ h) told = goes_on h told.0

pub not_over : (h : List Name) → AreTold h → is_over h ≡ true → ⊥
not_over h told over = false_true (sym (goes_on h told) ∙ over)

-- before the info page
pub first_page : (pages : List (List ℕ)) → None ≡ wanted_after pages → pages ≡ []
first_page [] e = refl
first_page (info ∷ rest) e = absurd (let none : None ≡ Some (number_at 8 info 424 - (length rest + 1)) = e in cc)

pub info_wanted : (page : List ℕ) (pages : List (List ℕ)) (w : ℕ) → w ≡ number_at 8 page 424 - 1 → pages ≡ [] → Some w ≡ wanted_after (pages ++ page ∷ [])
info_wanted page pages w e none = ap Some e ∙ ap (λ (ps : List (List ℕ)). wanted_after (ps ++ page ∷ [])) (sym none)

some_same : {x y : ℕ} → Some x ≡ Some y → x ≡ y
some_same e = cc

-- after the last page
pub none_wanted : (pages : List (List ℕ)) → Some 0 ≡ wanted_after pages → is_wanted pages ≡ false
none_wanted [] e = absurd (let none : Some 0 ≡ None = e in cc)
none_wanted (info ∷ rest) e =
    let left : 0 ≡ number_at 8 info 424 - (length rest + 1) = some_same e in
    le-ltb (length rest + 1) (number_at 8 info 424) (omega (arith, left))

-- between the info page and the last page
pub one_wanted : (pages : List (List ℕ)) (w : ℕ) → 0 < w → Some w ≡ wanted_after pages → is_wanted pages ≡ true
one_wanted [] w lt e = refl
one_wanted (info ∷ rest) w lt e =
    let left : w ≡ number_at 8 info 424 - (length rest + 1) = some_same e in
    lt-ltb (length rest + 1) (number_at 8 info 424) (omega (arith, left))

pub some_pages : (pages : List (List ℕ)) (w : ℕ) → Some w ≡ wanted_after pages → 0 < length pages
some_pages [] w e = absurd (let none : Some w ≡ None = e in cc)
some_pages (info ∷ rest) w e = omega arith

pub fewer_wanted : (pages : List (List ℕ)) (page : List ℕ) (w v : ℕ) → v ≡ w - 1 → Some w ≡ wanted_after pages → Some v ≡ wanted_after (pages ++ page ∷ [])
fewer_wanted [] page w v d e = absurd (let none : Some w ≡ None = e in cc)
fewer_wanted (info ∷ rest) page w v d e =
    let left : w ≡ number_at 8 info 424 - (length rest + 1) = some_same e in
    let fewer : v ≡ number_at 8 info 424 - (length (rest ++ page ∷ []) + 1) = omega (arith, left, length-append rest (page ∷ [])) in
    ap Some fewer
