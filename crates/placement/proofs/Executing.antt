-- Entries that are performed one after another.
use Rattle.std.proofs.Common.{◌≡◌, ℕ, ◌+◌, ◌<◌, ◌≤◌, ◌⊎◌, List, [], ◌∷◌, ◌++◌, length, take, get_or, slice_get, Contains, Some, refl, sym, ap, ◌∙◌, inl, inr, arith, subst}
use Rattle.std.proofs.lemmas.Bool.{cases_lt}
use Rattle.std.proofs.lemmas.List.{take_more, take_all, get_or_default}
use Rattle.std.proofs.lemmas.List.Sums.{sum_by-cons, sum_by-append}
use Rattle.std.proofs.lemmas.Option.{get_or_from_slice_get}
use Rattle.definitions.specs.Moves.{Entry}
use Rattle.definitions.specs.Tables.{frame}
use Rattle.placement.specs.Listed.{Listed, LiesIn}
use Rattle.placement.specs.Joining.{LiesBelow}
use Rattle.placement.specs.Performing.{performed}
use Rattle.placement.specs.Relocation.{Spares, IsPerformable, IsReady, steps_of}
use Rattle.placement.proofs.Joining.{with_entry, frame-past_entry}

performed-append : (xs ys : List Entry) (frames : List (List ℕ)) → performed frames (xs ++ ys) ≡ performed (performed frames xs) ys
performed-append [] ys frames = refl
performed-append (x ∷ xs) ys frames = performed-append xs ys (with_entry frames x)

-- the next entry of a list that memory holds
next_is : (memory : List (List ℕ)) (list : Listed) (entries : List Entry) (j : ℕ) (e : Entry) → j < list.len → LiesIn memory list entries → slice_get entries j ≡ Some e → take (j + 1) entries ≡ take j entries ++ e ∷ []
next_is memory list entries j e lt lies told =
    let len = lies.len in
    take_more entries j (0, 0, 0) (omega arith)
    ∙ ap (λ (x : Entry). take j entries ++ x ∷ []) (get_or_from_slice_get entries j e (0, 0, 0) told)

pub performed_more : (old before : List (List ℕ)) (list : Listed) (entries : List Entry) (j : ℕ) (e : Entry) → j < list.len → LiesIn before list entries → slice_get entries j ≡ Some e → before ≡ performed old (take j entries) → with_entry before e ≡ performed old (take (j + 1) entries)
performed_more old before list entries j e lt lies told is =
    ap (λ (fs : List (List ℕ)). with_entry fs e) is
    ∙ sym (performed-append (take j entries) (e ∷ []) old)
    ∙ sym (ap (performed old) (next_is before list entries j e lt lies told))

pub steps_more : (before : List (List ℕ)) (list : Listed) (entries : List Entry) (j start steps : ℕ) (e : Entry) → j < list.len → LiesIn before list entries → slice_get entries j ≡ Some e → steps ≡ start + steps_of (take j entries) → steps + e.2 ≡ start + steps_of (take (j + 1) entries)
steps_more before list entries j start steps e lt lies told is =
    let more = ap steps_of (next_is before list entries j e lt lies told) in
    let sum = sum_by-append (λ (x : Entry). x.2) (take j entries) (e ∷ []) in
    let one = sum_by-cons (λ (x : Entry). x.2) e [] in
    omega arith

-- A list that memory holds stays, where its frames stay.
pub lies_still : (before after : List (List ℕ)) (list : Listed) (entries : List Entry) → length after ≡ length before → ((p : ℕ) → Contains list.frames p → frame after p ≡ frame before p) → LiesIn before list entries → LiesIn after list entries
lies_still before after list entries size same lies = record {
  within = λ k d lt. let below = lies.within k d lt in omega arith;
  distinct = lies.distinct;
  len = lies.len;
  room = lies.room;
  fits = lies.fits;
  pages = λ i lt. same (get_or list.frames i 0) (i, lt, get_or_default list.frames i (get_or list.frames i 0) 0 lt) ∙ lies.pages i lt;
}

-- the next entry of a list that may be performed
pub record NextFits (size : ℕ) (list : List ℕ) (e : Entry) : Type 0 where
  pub below : LiesBelow size e
  pub spares : Spares list e

pub next_fits : (memory : List (List ℕ)) (list : Listed) (j : ℕ) (e : Entry) (ready : IsReady memory list) → j < list.len → slice_get ready.entries j ≡ Some e → NextFits (length memory) list.frames e
next_fits memory list j e ready lt told =
    let len = ready.lies.len in
    let within : j < length ready.entries = omega arith in
    let is = get_or_from_slice_get ready.entries j e (0, 0, 0) told in
    record {
      below = subst (LiesBelow (length memory)) is (ready.performable.below j (0, 0, 0) within);
      spares = subst (Spares list.frames) is (ready.performable.spares j (0, 0, 0) within);
    }

pub list_still : (memory : List (List ℕ)) (list : List ℕ) (e : Entry) (p : ℕ) → NextFits (length memory) list e → Contains list p → frame (with_entry memory e) p ≡ frame memory p
list_still memory list e p fits among = frame-past_entry memory e p fits.below (elim (cases_lt p e.1) as (λ _. (p < e.1) ⊎ (e.1 + e.2 ≤ p)) [
  | inl below ↦ inl below
  | inr le ↦ elim (cases_lt p (e.1 + e.2)) [
    | inr above ↦ inr above
    | inl lt ↦ absurd (fits.spares p le lt among)
  ]
])

pub ready_still : (before after : List (List ℕ)) (list : Listed) → length after ≡ length before → ((p : ℕ) → Contains list.frames p → frame after p ≡ frame before p) → IsReady before list → IsReady after list
ready_still before after list size same ready = record {
  entries = ready.entries;
  lies = lies_still before after list ready.entries size same ready.lies;
  performable = subst (λ (n : ℕ). IsPerformable n list.frames ready.entries) (sym size) ready.performable;
}

pub all_performed : (memory : List (List ℕ)) (list : Listed) (entries : List Entry) (j : ℕ) → list.len ≤ j → LiesIn memory list entries → take j entries ≡ entries
all_performed memory list entries j le lies =
    let len = lies.len in
    take_all j entries (omega arith)
