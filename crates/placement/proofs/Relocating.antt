-- What the restore list of a placement does, how many entries it has and how many pages they copy.
use Rattle.std.proofs.Common.{◌≡◌, ◌≢◌, ℕ, ◌+◌, ◌-◌, ◌*◌, ◌<◌, ◌≤◌, ◌⊎◌, cond, eqb, List, [], ◌∷◌, length, All, Contains, Option, Some, None, refl, sym, ap, ap₂, ◌∙◌, inl, inr, zero-add, arith, subst}
use Rattle.std.proofs.lemmas.Bool.{cases_eq, cases_lt, cases_Bool, cond-true, cond-false, eqb-true, and_parts}
use Rattle.std.proofs.lemmas.List.{get_or_past}
use Rattle.std.proofs.lemmas.List.Sums.{sum_by-cons}
use Rattle.std.proofs.lemmas.List.Elements.{All-nil, All-cons}
use Rattle.std.proofs.lemmas.List.FromFn.{length-map-range_with_len, get_or-map-range_with_len}
use Rattle.definitions.specs.Moves.{Move, Entry, move_into, page_from, assigned, goes_up, goes_down, joined, join_all, sequence, order_of_moves}
use Rattle.definitions.specs.Tables.{frame}
use Rattle.definitions.specs.Zones.{top}
use Rattle.placement.specs.Placed.{Placed, IsPlacement}
use Rattle.placement.specs.Joining.{LiesBelow}
use Rattle.placement.specs.Pending.{IsMovable}
use Rattle.placement.specs.Performing.{performed, real_moves}
use Rattle.placement.specs.Relocation.{order_of, Spares, IsPerformable, steps_of, most_steps}
use Rattle.placement.proofs.Pending.{target-move_into}
use Rattle.placement.proofs.Emitting.{InOrder, LieBelow, Meet, none_into, origin, source_or, at_once}
use Rattle.placement.proofs.Joining.{IsTouched, first_entry, frame-moved, performed-join_all}
use Rattle.placement.proofs.Placements.{placement_movable, bounce_below, top_below, target_spared, source_spared}
use Rattle.placement.proofs.Widening.{sequence_wide}
use Rattle.placement.proofs.Sequencing.{real-itself, real-other, sequence_does, sequence_in_order, sequence_below, sequence_meets, sequence_cost}

-- How a move meets the run before it.

abbrev Stops : ℕ → Entry → Move → List Move → Type 0
Stops bounce e m moves = joined bounce e (m ∷ moves) ≡ e ∷ joined bounce (first_entry m) moves

abbrev GoesUp : ℕ → Entry → Move → List Move → Type 0
GoesUp bounce e m moves = (joined bounce e (m ∷ moves) ≡ joined bounce (e.0, e.1, e.2 + 1) moves) × (m.0 ≡ e.0 + e.2) × (m.1 ≡ e.1 + e.2)

abbrev GoesDown : ℕ → Entry → Move → List Move → Type 0
GoesDown bounce e m moves = (joined bounce e (m ∷ moves) ≡ joined bounce (m.0, m.1, e.2 + 1) moves) × (m.0 + 1 ≡ e.0) × (m.1 + 1 ≡ e.1)

meets_run : (bounce : ℕ) (e : Entry) (m : Move) (moves : List Move) → Stops bounce e m moves ⊎ (GoesUp bounce e m moves ⊎ GoesDown bounce e m moves)
meets_run bounce e m moves =
    let stop = e ∷ joined bounce (first_entry m) moves in
    let up = joined bounce (e.0, e.1, e.2 + 1) moves in
    let down = joined bounce (m.0, m.1, e.2 + 1) moves in
    let not_up = cond (goes_down e m) down stop in
    let clear = cond (goes_up e m) up not_up in
    elim (cases_Bool (IsTouched bounce e m)) [
      | inl touched ↦ inl (cond-true (IsTouched bounce e m) stop clear touched)
      | inr free ↦
          let is = cond-false (IsTouched bounce e m) stop clear free in
          elim (cases_Bool (goes_up e m)) [
            | inl goes ↦
                let parts = and_parts (eqb m.0 (e.0 + e.2)) (eqb m.1 (e.1 + e.2)) goes in
                inr (inl (is ∙ cond-true (goes_up e m) up not_up goes, eqb-true m.0 (e.0 + e.2) parts.0, eqb-true m.1 (e.1 + e.2) parts.1))
            | inr other ↦
                let is_not_up = is ∙ cond-false (goes_up e m) up not_up other in
                elim (cases_Bool (goes_down e m)) [
                  | inl goes ↦
                      let parts = and_parts (eqb (m.0 + 1) e.0) (eqb (m.1 + 1) e.1) goes in
                      inr (inr (is_not_up ∙ cond-true (goes_down e m) down stop goes, eqb-true (m.0 + 1) e.0 parts.0, eqb-true (m.1 + 1) e.1 parts.1))
                  | inr neither ↦ inl (is_not_up ∙ cond-false (goes_down e m) down stop neither)
                ]
          ]
    ]

-- Each entry lies below `size` and spares the list frames.

abbrev Fits : ℕ → List ℕ → Entry → Type 0
Fits size list e = LiesBelow size e × Spares list e

fits_first : (size : ℕ) (list : List ℕ) (m : Move) → m.0 < size → m.1 < size → (Contains list m.1 → ⊥) → Fits size list (first_entry m)
fits_first size list m source target spared =
    let below : LiesBelow size (first_entry m) = (omega arith, omega arith) in
    let spares : Spares list (first_entry m) = λ p le lt.
    let at : m.1 ≡ p = omega arith in
    subst (λ (q : ℕ). Contains list q → ⊥) at spared in
    (below, spares)

fits_up : (size : ℕ) (list : List ℕ) (e : Entry) (m : Move) → Fits size list e → m.0 < size → m.1 < size → (Contains list m.1 → ⊥) → m.0 ≡ e.0 + e.2 → m.1 ≡ e.1 + e.2 → Fits size list (e.0, e.1, e.2 + 1)
fits_up size list e m fits source target spared from to =
    let below : LiesBelow size (e.0, e.1, e.2 + 1) = (omega arith, omega arith) in
    let spares : Spares list (e.0, e.1, e.2 + 1) = λ p le lt.
    elim (cases_lt p (e.1 + e.2)) [
      | inl before ↦ fits.1 p le before
      | inr last ↦
          let at : m.1 ≡ p = omega arith in
          subst (λ (q : ℕ). Contains list q → ⊥) at spared
    ] in
    (below, spares)

fits_down : (size : ℕ) (list : List ℕ) (e : Entry) (m : Move) → Fits size list e → m.0 < size → m.1 < size → (Contains list m.1 → ⊥) → m.0 + 1 ≡ e.0 → m.1 + 1 ≡ e.1 → Fits size list (m.0, m.1, e.2 + 1)
fits_down size list e m fits source target spared from to =
    let old = fits.0 in
    let old_source = old.0 in
    let old_target = old.1 in
    let below : LiesBelow size (m.0, m.1, e.2 + 1) = (omega arith, omega arith) in
    let spares : Spares list (m.0, m.1, e.2 + 1) = λ p le lt.
    elim (cases_eq m.1 p) [
      | inl at ↦ subst (λ (q : ℕ). Contains list q → ⊥) at spared
      | inr later ↦ fits.1 p (omega arith) (omega arith)
    ] in
    (below, spares)

abbrev SparesList : List ℕ → ℕ → Type 0
SparesList list p = Contains list p → ⊥

joined_fits : (size : ℕ) (list : List ℕ) (bounce : ℕ) (moves : List Move) (e : Entry) → Fits size list e → LieBelow size moves → Meet (SparesList list) moves → All (Fits size list) (joined bounce e moves)
joined_fits size list bounce [] e fits below meet = All-cons (Fits size list) e [] fits (All-nil (Fits size list))
joined_fits size list bounce (m ∷ moves) e fits below meet = elim (meets_run bounce e m moves) [
  | inl is ↦
      subst (All (Fits size list)) (sym is)
      (All-cons (Fits size list) e (joined bounce (first_entry m) moves) fits
      (joined_fits size list bounce moves (first_entry m) (fits_first size list m below.0 below.1 meet.0) below.2 meet.1))
  | inr (inl up) ↦
      subst (All (Fits size list)) (sym up.0)
      (joined_fits size list bounce moves (e.0, e.1, e.2 + 1) (fits_up size list e m fits below.0 below.1 meet.0 up.1 up.2) below.2 meet.1)
  | inr (inr down) ↦
      subst (All (Fits size list)) (sym down.0)
      (joined_fits size list bounce moves (m.0, m.1, e.2 + 1) (fits_down size list e m fits below.0 below.1 meet.0 down.1 down.2) below.2 meet.1)
]

join_all_fits : (size : ℕ) (list : List ℕ) (bounce : ℕ) (moves : List Move) → LieBelow size moves → Meet (SparesList list) moves → All (Fits size list) (join_all bounce moves)
join_all_fits size list bounce [] below meet = All-nil (Fits size list)
join_all_fits size list bounce (m ∷ moves) below meet =
    joined_fits size list bounce moves (first_entry m) (fits_first size list m below.0 below.1 meet.0) below.2 meet.1

-- There are at most as many entries as moves.

joined_few : (bounce : ℕ) (moves : List Move) (e : Entry) → length (joined bounce e moves) ≤ length moves + 1
joined_few bounce [] e = omega arith
joined_few bounce (m ∷ moves) e = elim (meets_run bounce e m moves) [
  | inl is ↦
      let size = ap length is in
      let rest = joined_few bounce moves (first_entry m) in
      omega arith
  | inr (inl up) ↦
      let size = ap length up.0 in
      let rest = joined_few bounce moves (e.0, e.1, e.2 + 1) in
      omega arith
  | inr (inr down) ↦
      let size = ap length down.0 in
      let rest = joined_few bounce moves (m.0, m.1, e.2 + 1) in
      omega arith
]

pub join_all_few : (bounce : ℕ) (moves : List Move) → length (join_all bounce moves) ≤ length moves
join_all_few bounce [] = omega arith
join_all_few bounce (m ∷ moves) =
    let rest = joined_few bounce moves (first_entry m) in
    omega arith

-- The entries copy a page for each move.

steps-joined : (bounce : ℕ) (moves : List Move) (e : Entry) → steps_of (joined bounce e moves) ≡ e.2 + length moves
steps-joined bounce [] e =
    let one = sum_by-cons (λ (x : Entry). x.2) e [] in
    omega arith
steps-joined bounce (m ∷ moves) e = elim (meets_run bounce e m moves) [
  | inl is ↦
      let same = ap steps_of is in
      let one = sum_by-cons (λ (x : Entry). x.2) e (joined bounce (first_entry m) moves) in
      let rest = steps-joined bounce moves (first_entry m) in
      omega arith
  | inr (inl up) ↦
      let same = ap steps_of up.0 in
      let rest = steps-joined bounce moves (e.0, e.1, e.2 + 1) in
      omega arith
  | inr (inr down) ↦
      let same = ap steps_of down.0 in
      let rest = steps-joined bounce moves (m.0, m.1, e.2 + 1) in
      omega arith
]

steps-join_all : (bounce : ℕ) (moves : List Move) → steps_of (join_all bounce moves) ≡ length moves
steps-join_all bounce [] = refl
steps-join_all bounce (m ∷ moves) =
    let rest = steps-joined bounce moves (first_entry m) in
    omega arith

-- What the moves do at once.

frame-assigned : (frames : List (List ℕ)) (moves : List Move) (p : ℕ) → p < length frames → frame (assigned frames moves) p ≡ frame frames (at_once moves p)
unfolding assigned
frame-assigned frames moves p lt =
    get_or-map-range_with_len (λ q. page_from frames (move_into moves q) (frame frames q)) 0 (length frames) p p [] lt (zero-add p)
    ∙ go (move_into moves p) where
      go : (o : Option Move) → page_from frames o (frame frames p) ≡ frame frames (source_or o p)
      go None = refl
      go (Some m) = refl

frame-assigned_past : (frames : List (List ℕ)) (moves : List Move) (p : ℕ) → length frames ≤ p → frame (assigned frames moves) p ≡ []
unfolding assigned
frame-assigned_past frames moves p le =
    get_or_past (assigned frames moves) p [] (omega (arith, length-map-range_with_len (λ q. page_from frames (move_into moves q) (frame frames q)) 0 (length frames)))

-- The restore list of a placement.

order_is : (p : Placed) → order_of p ≡ join_all p.bounce (sequence (top p.zones) p.bounce p.moves)
unfolding order_of_moves
order_is p = refl

module _ (p : Placed) (is : IsPlacement p) where
  abbrev seq : List Move
  seq = sequence (top p.zones) p.bounce p.moves

  movable : IsMovable (top p.zones) p.bounce p.moves
  movable = placement_movable p (top p.zones) is (omega arith)

  cost : 2 * length seq ≤ 3 * length (real_moves p.moves)
  cost = sequence_cost (SparesList p.list) (top p.zones) (top p.zones) p.bounce p.moves movable (omega arith) (bounce_below p is) (target_spared p is) is.bounce_apart

  real_few : (moves : List Move) → length (real_moves moves) ≤ length moves
  real_few [] = omega arith
  real_few (m ∷ moves) =
      let rest = real_few moves in
      elim (cases_eq m.0 m.1) [
        | inl same ↦ let size = ap length (real-itself m moves same) in omega arith
        | inr other ↦ let size = ap length (real-other m moves other) in omega arith
      ]

  -- the list frames have room for the restore list
  pub order_fits : length (order_of p) ≤ 170 * length p.list
  order_fits =
      let same = ap length (order_is p) in
      let few = join_all_few p.bounce seq in
      let many = cost in
      let real = real_few p.moves in
      let room = is.room in
      omega arith

  pub order_steps : steps_of (order_of p) ≤ most_steps p
  order_steps =
      let same = ap steps_of (order_is p) in
      let all = steps-join_all p.bounce seq in
      let many = cost in
      omega arith

  module _ (size : ℕ) (high : top p.zones ≤ size) where
    bounce_in : p.bounce < size
    bounce_in =
        let below = bounce_below p is in
        omega arith

    pub sequence_lies : LieBelow size seq
    sequence_lies = sequence_below (SparesList p.list) (top p.zones) size p.bounce p.moves movable high bounce_in (target_spared p is) is.bounce_apart

    ordered : InOrder p.bounce seq
    ordered = sequence_in_order (SparesList p.list) (top p.zones) size p.bounce p.moves movable high bounce_in (target_spared p is) is.bounce_apart

    spared : Meet (SparesList p.list) seq
    spared = sequence_meets (SparesList p.list) (top p.zones) size p.bounce p.moves movable high bounce_in (target_spared p is) is.bounce_apart

    does : (q : ℕ) → q ≢ p.bounce → origin seq q ≡ at_once p.moves q
    does = sequence_does (SparesList p.list) (top p.zones) size p.bounce p.moves movable high bounce_in (target_spared p is) is.bounce_apart

    pub order_performable : IsPerformable size p.list (order_of p)
    order_performable =
        let all = subst (All (Fits size p.list)) (sym (order_is p)) (join_all_fits size p.list p.bounce seq sequence_lies spared) in
        record { below = λ k d lt. (all k d lt).0; spares = λ k d lt. (all k d lt).1 }

  pub order_relocates : (old : List (List ℕ)) → top p.zones ≤ length old → (q : ℕ) → q ≢ p.bounce → frame (performed old (order_of p)) q ≡ frame (assigned old p.moves) q
  order_relocates old high q apart =
      let size = length old in
      let below = sequence_lies size high in
      ap (λ (entries : List Entry). frame (performed old entries) q) (order_is p)
      ∙ ap (λ (fs : List (List ℕ)). frame fs q) (performed-join_all seq p.bounce old below (ordered size high))
      ∙ frame-moved seq old q below ∙ ap (frame old) (does size high q apart)
      ∙ elim (cases_lt q size) as (λ _. frame old (at_once p.moves q) ≡ frame (assigned old p.moves) q) [
        | inl within ↦ sym (frame-assigned old p.moves q within)
        | inr past ↦
            let none : move_into p.moves q ≡ None = none_into p.moves q (λ m into.
            let target = target-move_into p.moves q m into in
            let lies = (movable.below q m into).1 in
            absurd (omega arith)) in
            ap (λ (o : Option Move). frame old (source_or o q)) none ∙ get_or_past old q [] past ∙ sym (frame-assigned_past old p.moves q past)
      ]

-- The order that was made over the page frames below a higher top is the same.
pub order_told : (p : Placed) → IsPlacement p → (wide bounce : ℕ) (moves told : List Move) → top p.zones ≤ wide → bounce ≡ p.bounce → moves ≡ p.moves → told ≡ sequence wide bounce moves → told ≡ sequence (top p.zones) p.bounce p.moves
order_told p is wide bounce moves told high same_bounce same_moves order =
    let more = wide - top p.zones in
    let wide_is : wide ≡ top p.zones + more = omega arith in
    order ∙ ap₂ (λ (b : ℕ) (ms : List Move). sequence wide b ms) same_bounce same_moves
    ∙ ap (λ (n : ℕ). sequence n p.bounce p.moves) wide_is
    ∙ sequence_wide (top p.zones) p.bounce more p.moves (placement_movable p (top p.zones) is (omega arith))

pub entries_told : (p : Placed) → (bounce : ℕ) (told : List Move) → bounce ≡ p.bounce → told ≡ sequence (top p.zones) p.bounce p.moves → join_all bounce told ≡ order_of p
entries_told p bounce told same_bounce order = ap₂ (λ (b : ℕ) (ms : List Move). join_all b ms) same_bounce order ∙ sym (order_is p)

lie_all : (size : ℕ) (moves : List Move) → LieBelow size moves → All (λ (m : Move). (m.0 < size) × (m.1 < size)) moves
lie_all size [] below = All-nil (λ (m : Move). (m.0 < size) × (m.1 < size))
lie_all size (m ∷ moves) below = All-cons (λ (m : Move). (m.0 < size) × (m.1 < size)) m moves (below.0, below.1) (lie_all size moves below.2)

pub told_below : (p : Placed) → IsPlacement p → (told : List Move) → told ≡ sequence (top p.zones) p.bounce p.moves → All (λ (m : Move). (m.0 < 65536) × (m.1 < 65536)) told
told_below p is told order = subst (All (λ (m : Move). (m.0 < 65536) × (m.1 < 65536))) (sym order) (lie_all 65536 (sequence (top p.zones) p.bounce p.moves) (sequence_lies p is 65536 (top_below p is)))

-- Where only list frames change, the moves at once do what they did.
pub same_assigned : (p : Placed) → IsPlacement p → (before after : List (List ℕ)) → length after ≡ length before → ((q : ℕ) → (Contains p.list q → ⊥) → frame after q ≡ frame before q) → (q : ℕ) → (Contains p.list q → ⊥) → frame (assigned after p.moves) q ≡ frame (assigned before p.moves) q
same_assigned p is before after size others q apart = elim (cases_lt q (length before)) [
  | inl within ↦
      frame-assigned after p.moves q (omega arith) ∙ others (at_once p.moves q) (spares (move_into p.moves q) refl) ∙ sym (frame-assigned before p.moves q within)
  | inr past ↦ frame-assigned_past after p.moves q (omega arith) ∙ sym (frame-assigned_past before p.moves q past)
] where
  spares : (o : Option Move) → move_into p.moves q ≡ o → Contains p.list (source_or o q) → ⊥
  spares None into = apart
  spares (Some m) into = source_spared p is q m into
