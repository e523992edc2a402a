-- A loop over the members of a set: those that it has yielded, and after them those that are left.
use Rattle.std.proofs.Common.{◌≡◌, ℕ, ◌+◌, ◌<◌, List, [], ◌∷◌, ◌++◌, length, get_or, drop, Option, Some, None, refl, sym, ap, ◌∙◌, subst, inl, inr, arith, Contains}
use Rattle.std.specs.Iterator.{YieldsFirst}
use Rattle.std.specs.List.Sorted.{IsStrictlyIncreasing}
use Rattle.std.proofs.lemmas.List.{append-nil, append_assoc, drop_more, length-drop}
use Rattle.definitions.proofs.Ascending.{Contains-head, Contains-tail, Contains-cons_cases, IsStrictlyIncreasing-tail, head_below}
use Rattle.frame_sets.specs.declared.bitmap.iter.Iter.{Iter}
use Rattle.frame_sets.specs.Left.{left_in}

-- the next member comes after those that were yielded
pub record IsNext (members yielded : List ℕ) (member : ℕ) (left : List ℕ) : Type 0 where
  pub within : Contains members member
  pub above : (p : ℕ) → Contains yielded p → p < member
  pub goes_on : yielded ++ member ∷ [] ++ left ≡ members
  pub at : get_or members (length yielded) 0 ≡ member
  pub few : length yielded < length members

append_next : (yielded left : List ℕ) (member : ℕ) → yielded ++ member ∷ [] ++ left ≡ yielded ++ member ∷ left
append_next yielded left member = append_assoc yielded (member ∷ []) left

next_in_place : (yielded left : List ℕ) (member : ℕ) → (get_or (yielded ++ member ∷ left) (length yielded) 0 ≡ member) × (length yielded < length (yielded ++ member ∷ left))
next_in_place [] left member = (refl, omega arith)
next_in_place (x ∷ yielded) left member = let rest = next_in_place yielded left member in (rest.0, let lt = rest.1 in omega arith)

next_within : (yielded left : List ℕ) (member : ℕ) → Contains (yielded ++ member ∷ left) member
next_within [] left member = Contains-head member left
next_within (x ∷ yielded) left member = Contains-tail x (yielded ++ member ∷ left) member (next_within yielded left member)

next_above : (yielded left : List ℕ) (member : ℕ) → IsStrictlyIncreasing (yielded ++ member ∷ left) → (p : ℕ) → Contains yielded p → p < member
next_above [] left member up p (j, within, is) = absurd (omega arith)
next_above (x ∷ yielded) left member up p in' = elim (Contains-cons_cases x yielded p in') [
  | inl is ↦ let lt = head_below x (yielded ++ member ∷ left) member up (next_within yielded left member) in subst (λ (q : ℕ). q < member) is lt
  | inr rest ↦ next_above yielded left member (IsStrictlyIncreasing-tail x (yielded ++ member ∷ left) up) p rest
]

pub next_member : (members yielded left rest : List ℕ) (member : ℕ) → IsStrictlyIncreasing members → yielded ++ left ≡ members → left ≡ member ∷ rest → IsNext members yielded member rest
next_member members yielded left rest member up all next =
    let is : yielded ++ member ∷ rest ≡ members = ap (λ (zs : List ℕ). yielded ++ zs) (sym next) ∙ all in
    let place = next_in_place yielded rest member in
    record {
      within = subst (λ (zs : List ℕ). Contains zs member) is (next_within yielded rest member);
      above = next_above yielded rest member (subst IsStrictlyIncreasing (sym is) up);
      goes_on = append_next yielded rest member ∙ is;
      at = subst (λ (zs : List ℕ). get_or zs (length yielded) 0 ≡ member) is place.0;
      few = subst (λ (zs : List ℕ). length yielded < length zs) is place.1;
    }

-- all were yielded where none is left
pub all_yielded : (members yielded left : List ℕ) → yielded ++ left ≡ members → left ≡ [] → yielded ≡ members
all_yielded members yielded left all none = sym (append-nil yielded) ∙ ap (λ (zs : List ℕ). yielded ++ zs) (sym none) ∙ all

-- By places: what a call of `next` returns when the members from place k on are left.
pub yields_next : (members : List ℕ) (k : ℕ) (answer : Option ℕ) (old new : Iter) → YieldsFirst left_in old answer new → left_in old ≡ drop k members → k < length members → (answer ≡ Some (get_or members k 0)) × (left_in new ≡ drop (k + 1) members)
yields_next members k None old new yields left lt =
    let e = ap length (sym yields.0 ∙ left) in
    let size = length-drop k members in
    absurd (omega arith)
yields_next members k (Some x) old new yields left lt =
    let is : x ∷ left_in new ≡ get_or members k 0 ∷ drop (k + 1) members = sym yields ∙ left ∙ drop_more members k 0 lt in
    (ap (λ (zs : List ℕ). Some (get_or zs 0 0)) is, ap (drop 1) is)
