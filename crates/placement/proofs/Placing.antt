-- One more page put where it waits.
use Rattle.std.proofs.Common.{◌≡◌, ◌≢◌, ℕ, ◌+◌, ◌<◌, List, [], ◌∷◌, ◌++◌, length, map, take, get_or, nat_eq, sym, ap, ap₂, ◌∙◌, arith}
use Rattle.std.proofs.lemmas.Bool.{eqb-false}
use Rattle.std.proofs.lemmas.List.{length-map, length-take-le, get_or-map, get_or-take, map-append, same_lists, take_more, get_or-set_same, get_or-set_other}
use Rattle.std.proofs.lemmas.Map.Keys.{apart_from_distinct}
use Rattle.std.specs.List.{IsDistinct}
use Rattle.definitions.specs.Tables.{frame, with_frame}

-- the pages before the k-th stay
kept : (xs : List ℕ) (k : ℕ) (frames : List (List ℕ)) (page : List ℕ) → IsDistinct nat_eq xs → k < length xs → map (frame (with_frame frames (get_or xs k 0) page)) (take k xs) ≡ map (frame frames) (take k xs)
kept xs k frames page distinct lt =
    let p = get_or xs k 0 in
    let new = with_frame frames p page in
    let front = take k xs in
    let count = length-take-le k xs (omega arith) in
    let of_new = length-map front (frame new) in
    let of_old = length-map front (frame frames) in
    same_lists (map (frame new) front) (map (frame frames) front) (omega arith) (λ j d within.
    let in_front : j < length front = omega arith in
    let before : j < k = omega arith in
    let at : get_or front j 0 ≡ get_or xs j 0 = get_or-take k xs j 0 before in
    let other : get_or front j 0 ≢ p = λ same. eqb-false (get_or xs j 0) p (apart_from_distinct nat_eq xs j k 0 distinct before lt) (sym at ∙ same) in
    get_or-map (frame new) front j 0 d in_front ∙ get_or-set_other frames p (get_or front j 0) page [] other
    ∙ sym (get_or-map (frame frames) front j 0 d in_front))

pub pages_before : (xs : List ℕ) (k p : ℕ) (frames : List (List ℕ)) (page : List ℕ) → IsDistinct nat_eq xs → k < length xs → p ≡ get_or xs k 0 → map (frame (with_frame frames p page)) (take k xs) ≡ map (frame frames) (take k xs)
pages_before xs k p frames page distinct lt is = ap (λ (r : ℕ). map (frame (with_frame frames r page)) (take k xs)) is ∙ kept xs k frames page distinct lt

pub one_more_waits : (xs : List ℕ) (k p : ℕ) (frames : List (List ℕ)) (page : List ℕ) → IsDistinct nat_eq xs → k < length xs → p ≡ get_or xs k 0 → p < length frames → map (frame (with_frame frames p page)) (take (k + 1) xs) ≡ map (frame frames) (take k xs) ++ page ∷ []
one_more_waits xs k p frames page distinct lt is within =
    let q = get_or xs k 0 in
    let new = with_frame frames q page in
    ap (λ (r : ℕ). map (frame (with_frame frames r page)) (take (k + 1) xs)) is
    ∙ ap (map (frame new)) (take_more xs k 0 lt) ∙ map-append (frame new) (take k xs) (q ∷ [])
    ∙ ap₂ (λ (front : List (List ℕ)) (last : List ℕ). front ++ last ∷ []) (kept xs k frames page distinct lt) (get_or-set_same frames q page [] (omega arith))
