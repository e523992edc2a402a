-- The page frames of a set set to zero, in order, but for those of another set.
use Rattle.std.proofs.Common.{◌≡◌, ◌≢◌, ℕ, ◌<◌, List, [], ◌∷◌, ◌++◌, length, refl, sym, ap, ◌∙◌, subst, inl, inr, arith}
use Rattle.std.proofs.lemmas.Bool.{cases_eq}
use Rattle.std.proofs.lemmas.List.{get_or-set_same, get_or-set_other, length-set}
use Rattle.std.proofs.lemmas.List.Elements.{Contains-append_cases}
use Rattle.std.specs.List.{Contains}
use Rattle.definitions.specs.Bytes.{zero_page}
use Rattle.definitions.specs.Tables.{frame, with_frame}
use Rattle.definitions.proofs.Ascending.{Contains-nil, Contains-cons_cases}

-- some of the set's are done
pub record IsCleared (set kept done : List ℕ) (old new : List (List ℕ)) : Type 0 where
  pub size : length new ≡ length old
  pub zero : (p : ℕ) → Contains done p → (Contains kept p → ⊥) → frame new p ≡ zero_page
  pub stays : (p : ℕ) → Contains kept p → frame new p ≡ frame old p
  pub others : (p : ℕ) → (Contains set p → ⊥) → frame new p ≡ frame old p

pub none_cleared : (set kept : List ℕ) (frames : List (List ℕ)) → IsCleared set kept [] frames frames
none_cleared set kept frames = record {
  size = refl;
  zero = λ p in' apart. absurd (Contains-nil p in');
  stays = λ p in'. refl;
  others = λ p apart. refl;
}

last_is : (p q : ℕ) → Contains (p ∷ []) q → q ≡ p
last_is p q in' = elim (Contains-cons_cases p [] q in') [ inl e ↦ sym e | inr rest ↦ absurd (Contains-nil q rest) ]

-- one more page frame is set to zero
pub clears_one : (set kept done : List ℕ) (p : ℕ) (old new : List (List ℕ)) → Contains set p → p < length old → (Contains kept p → ⊥) → IsCleared set kept done old new → IsCleared set kept (done ++ p ∷ []) old (with_frame new p zero_page)
clears_one set kept done p old new member within apart cleared =
    let size = cleared.size in
    let here : frame (with_frame new p zero_page) p ≡ zero_page = get_or-set_same new p zero_page [] (omega arith) in
    let beside : (q : ℕ) → q ≢ p → frame (with_frame new p zero_page) q ≡ frame new q = λ q other. get_or-set_other new p q zero_page [] other in
    record {
      size = length-set new p zero_page ∙ size;
      zero = λ q in' free. elim (cases_eq q p) [
        | inl same ↦ ap (frame (with_frame new p zero_page)) same ∙ here
        | inr other ↦ elim (Contains-append_cases done (p ∷ []) q in') [
          | inl before ↦ beside q other ∙ cleared.zero q before free
          | inr last ↦ absurd (other (last_is p q last))
        ]
      ];
      stays = λ q in'. beside q (λ same. apart (subst (λ (r : ℕ). Contains kept r) same in')) ∙ cleared.stays q in';
      others = λ q none. beside q (λ same. none (subst (λ (r : ℕ). Contains set r) (sym same) member)) ∙ cleared.others q none;
    }

-- the next page frame is one to be kept
pub keeps_one : (set kept done : List ℕ) (p : ℕ) (old new : List (List ℕ)) → Contains kept p → IsCleared set kept done old new → IsCleared set kept (done ++ p ∷ []) old new
keeps_one set kept done p old new among cleared = record {
  size = cleared.size;
  zero = λ q in' free. elim (Contains-append_cases done (p ∷ []) q in') [
    | inl before ↦ cleared.zero q before free
    | inr last ↦ absurd (free (subst (λ (r : ℕ). Contains kept r) (sym (last_is p q last)) among))
  ];
  stays = cleared.stays;
  others = cleared.others;
}
