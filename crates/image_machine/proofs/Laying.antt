-- Saved pages that are laid over page frames of zeros.
use Rattle.std.proofs.Common.{◌≡◌, ◌<◌, ℕ, Bool, false, cond, List, [], ◌∷◌, ◌++◌, length, replicate, Option, Some, None, eqb, set, refl, sym, ap, subst, ◌∙◌, arith, inl, inr, zero-add}
use Rattle.std.proofs.lemmas.Bool.{cases_eq, eq-eqb, ne_eqb}
use Rattle.std.proofs.lemmas.List.{ext_get_or, get_or-set_same, get_or-set_other, length-set, length-replicate, get_or-replicate}
use Rattle.std.proofs.lemmas.List.FromFn.{length-map-range_with_len, get_or-map-range_with_len}
use Rattle.std.proofs.lemmas.List.Elements.{All-contains}
use Rattle.std.specs.List.{All, Contains}
use Rattle.definitions.specs.Bytes.{zero_page}
use Rattle.definitions.specs.Tables.{frame, with_frame}
use Rattle.definitions.proofs.Ascending.{Contains-head, Contains-tail}
use Rattle.plain_machine.specs.Loader.{page_or, saved_page}
use Rattle.image_machine.specs.Machines.{laid, laid_page, numbers_of}

pub length-laid : (n : ℕ) (saved : List (ℕ × List ℕ)) → length (laid n saved) ≡ n
unfolding laid
length-laid n saved = length-map-range_with_len (laid_page saved) 0 n

pub frame-laid : (n : ℕ) (saved : List (ℕ × List ℕ)) (p : ℕ) → p < n → frame (laid n saved) p ≡ laid_page saved p
unfolding laid
frame-laid n saved p lt = get_or-map-range_with_len (laid_page saved) 0 n p p [] lt (zero-add p)

-- A saved page frame more, which isn't one of those before.

pub numbers-more : (saved : List (ℕ × List ℕ)) (s : ℕ × List ℕ) → numbers_of (saved ++ s ∷ []) ≡ numbers_of saved ++ s.0 ∷ []
numbers-more [] s = refl
numbers-more (r ∷ rest) s = ap (λ (ns : List ℕ). r.0 ∷ ns) (numbers-more rest s)

page-other : (saved : List (ℕ × List ℕ)) (s : ℕ × List ℕ) (p : ℕ) → eqb s.0 p ≡ false → saved_page (saved ++ s ∷ []) p ≡ saved_page saved p
page-other [] s p e = ap (λ (b : Bool). cond b (Some s.1) None) e
page-other (r ∷ rest) s p e = ap (λ (o : Option (List ℕ)). cond (eqb r.0 p) (Some r.1) o) (page-other rest s p e)

page-new : (saved : List (ℕ × List ℕ)) (s : ℕ × List ℕ) → (Contains (numbers_of saved) s.0 → ⊥) → saved_page (saved ++ s ∷ []) s.0 ≡ Some s.1
page-new [] s out = ap (λ (b : Bool). cond b (Some s.1) None) (eq-eqb s.0 s.0 refl)
page-new (r ∷ rest) s out =
    let apart : eqb r.0 s.0 ≡ false =
    ne_eqb r.0 s.0 (λ is. out (subst (Contains (r.0 ∷ numbers_of rest)) is (Contains-head r.0 (numbers_of rest)))) in
    ap (λ (b : Bool). cond b (Some r.1) (saved_page (rest ++ s ∷ []) s.0)) apart
    ∙ page-new rest s (λ in'. out (Contains-tail r.0 (numbers_of rest) s.0 in'))

pub above_all : (numbers : List ℕ) (n : ℕ) → All (λ m. m < n) numbers → Contains numbers n → ⊥
above_all numbers n above in' = let less = All-contains (λ m. m < n) numbers n above in' in omega arith

pub laid_more : (n : ℕ) (saved : List (ℕ × List ℕ)) (s : ℕ × List ℕ) → s.0 < n → (Contains (numbers_of saved) s.0 → ⊥) →
    with_frame (laid n saved) s.0 s.1 ≡ laid n (saved ++ s ∷ [])
laid_more n saved s lt out =
    let before = laid n saved in
    let after = laid n (saved ++ s ∷ []) in
    let size = length-laid n saved in
    let more = length-laid n (saved ++ s ∷ []) in
    let length_set = length-set before s.0 s.1 in
    ext_get_or [] (set before s.0 s.1) after (length_set ∙ size ∙ sym more)
    (λ p within.
    let below : p < n = omega arith in
    elim (cases_eq p s.0) [
      | inl is ↦
          ap (λ (q : ℕ). frame (set before s.0 s.1) q) is
          ∙ get_or-set_same before s.0 s.1 [] (omega arith)
          ∙ sym (ap (λ (o : Option (List ℕ)). page_or o zero_page) (page-new saved s out))
          ∙ sym (frame-laid n (saved ++ s ∷ []) s.0 lt)
          ∙ ap (λ (q : ℕ). frame after q) (sym is)
      | inr ne ↦
          get_or-set_other before s.0 p s.1 [] ne
          ∙ frame-laid n saved p below
          ∙ ap (λ (o : Option (List ℕ)). page_or o zero_page) (sym (page-other saved s p (ne_eqb s.0 p (λ is. ne (sym is)))))
          ∙ sym (frame-laid n (saved ++ s ∷ []) p below)
    ])

pub laid-none : (n : ℕ) → replicate n zero_page ≡ laid n []
laid-none n =
    let size = length-replicate n zero_page in
    ext_get_or [] (replicate n zero_page) (laid n []) (size ∙ sym (length-laid n []))
    (λ p lt.
    let below : p < n = omega arith in
    get_or-replicate n p zero_page [] below ∙ sym (frame-laid n [] p below))
