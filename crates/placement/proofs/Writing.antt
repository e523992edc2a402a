-- Runs that are written into the restore list, and the run that is being made.
use Rattle.std.proofs.Common.{◌≡◌, ℕ, ◌+◌, ◌-◌, ◌<◌, ◌≤◌, zero, suc, true, cond, eqb, List, [], ◌∷◌, ◌++◌, length, length-append, length-drop, take, drop, get_or, append_assoc, Option, Some, None, refl, sym, ap, ◌∙◌, inl, inr, arith, subst}
use Rattle.std.proofs.lemmas.Bool.{cases_Bool, cond-true, cond-false, eqb-true, and_parts}
use Rattle.std.proofs.lemmas.List.{drop_more, get_or-take, get_or-drop, length-take-le}
use Rattle.definitions.specs.Moves.{Move, Entry, goes_up, goes_down, joined, join_all}
use Rattle.placement.specs.Listed.{Listed, LiesIn}
use Rattle.placement.specs.Joining.{continued, LiesBelow}
use Rattle.placement.proofs.Pending.{not_none, same_some}
use Rattle.placement.proofs.Joining.{IsTouched, first_entry}

-- A move is joined exactly where it continues the run.

pub record Joins (bounce : ℕ) (e : Entry) (m : Move) (moves : List Move) (o : Option Entry) : Type 0 where
  pub some : (longer : Entry) → o ≡ Some longer → (joined bounce e (m ∷ moves) ≡ joined bounce longer moves) × ((m.0 < 65536) × (m.1 < 65536) → LiesBelow 65536 e → LiesBelow 65536 longer)
  pub none : o ≡ None → joined bounce e (m ∷ moves) ≡ e ∷ joined bounce (first_entry m) moves

abbrev up_run : Entry → Entry
up_run e = (e.0, e.1, e.2 + 1)

abbrev down_run : Entry → Move → Entry
down_run e m = (m.0, m.1, e.2 + 1)

module _ (bounce : ℕ) (e : Entry) (m : Move) (moves : List Move) where
  abbrev stop : List Entry
  stop = e ∷ joined bounce (first_entry m) moves

  abbrev not_up : List Entry
  not_up = cond (goes_down e m) (joined bounce (down_run e m) moves) stop

  abbrev clear : List Entry
  clear = cond (goes_up e m) (joined bounce (up_run e) moves) not_up

  abbrev then_down : Option Entry
  then_down = cond (goes_down e m) (Some (down_run e m)) None

  abbrev then_clear : Option Entry
  then_clear = cond (goes_up e m) (Some (up_run e)) then_down

  stops : (o : Option Entry) → joined bounce e (m ∷ moves) ≡ stop → o ≡ None → Joins bounce e m moves o
  stops o is nothing = record { some = λ longer found. absurd (not_none longer (sym nothing ∙ found)); none = λ _. is }

  goes : (o : Option Entry) (longer : Entry) → joined bounce e (m ∷ moves) ≡ joined bounce longer moves → o ≡ Some longer → ((m.0 < 65536) × (m.1 < 65536) → LiesBelow 65536 e → LiesBelow 65536 longer) → Joins bounce e m moves o
  goes o longer is found below = record {
    some = λ other found_other.
        let same = same_some longer other (sym found ∙ found_other) in
        (is ∙ ap (λ (x : Entry). joined bounce x moves) same, subst (λ (x : Entry). (m.0 < 65536) × (m.1 < 65536) → LiesBelow 65536 e → LiesBelow 65536 x) same below);
    none = λ nothing. absurd (not_none longer (sym nothing ∙ found));
  }

  up_below : goes_up e m ≡ true → (m.0 < 65536) × (m.1 < 65536) → LiesBelow 65536 e → LiesBelow 65536 (up_run e)
  up_below up ends below =
      let parts = and_parts (eqb m.0 (e.0 + e.2)) (eqb m.1 (e.1 + e.2)) up in
      let from = eqb-true m.0 (e.0 + e.2) parts.0 in
      let to = eqb-true m.1 (e.1 + e.2) parts.1 in
      let source = ends.0 in
      let target = ends.1 in
      (omega arith, omega arith)

  down_below : goes_down e m ≡ true → (m.0 < 65536) × (m.1 < 65536) → LiesBelow 65536 e → LiesBelow 65536 (down_run e m)
  down_below down ends below =
      let parts = and_parts (eqb (m.0 + 1) e.0) (eqb (m.1 + 1) e.1) down in
      let from = eqb-true (m.0 + 1) e.0 parts.0 in
      let to = eqb-true (m.1 + 1) e.1 parts.1 in
      let source = below.0 in
      let target = below.1 in
      (omega arith, omega arith)

  pub joins : Joins bounce e m moves (continued bounce e m)
  joins = elim (cases_Bool (IsTouched bounce e m)) [
    | inl touched ↦ stops (continued bounce e m) (cond-true (IsTouched bounce e m) stop clear touched) (cond-true (IsTouched bounce e m) None then_clear touched)
    | inr free ↦
        let is = cond-false (IsTouched bounce e m) stop clear free in
        let found = cond-false (IsTouched bounce e m) None then_clear free in
        elim (cases_Bool (goes_up e m)) [
          | inl up ↦
              goes (continued bounce e m) (up_run e) (is ∙ cond-true (goes_up e m) (joined bounce (up_run e) moves) not_up up)
              (found ∙ cond-true (goes_up e m) (Some (up_run e)) then_down up) (up_below up)
          | inr other ↦
              let is_not_up = is ∙ cond-false (goes_up e m) (joined bounce (up_run e) moves) not_up other in
              let found_not_up = found ∙ cond-false (goes_up e m) (Some (up_run e)) then_down other in
              elim (cases_Bool (goes_down e m)) [
                | inl down ↦
                    goes (continued bounce e m) (down_run e m) (is_not_up ∙ cond-true (goes_down e m) (joined bounce (down_run e m) moves) stop down)
                    (found_not_up ∙ cond-true (goes_down e m) (Some (down_run e m)) None down) (down_below down)
                | inr neither ↦
                    stops (continued bounce e m) (is_not_up ∙ cond-false (goes_down e m) (joined bounce (down_run e m) moves) stop neither)
                    (found_not_up ∙ cond-false (goes_down e m) (Some (down_run e m)) None neither)
              ]
        ]
  ]

-- there is an entry at least
joined_some : (bounce : ℕ) (moves : List Move) (e : Entry) → 1 ≤ length (joined bounce e moves)
joined_some bounce [] e = omega arith
joined_some bounce (m ∷ moves) e = either (continued bounce e m) refl (λ (longer : Entry). joined_some bounce moves longer) where
  either : (o : Option Entry) → continued bounce e m ≡ o → ((longer : Entry) → 1 ≤ length (joined bounce longer moves)) → 1 ≤ length (joined bounce e (m ∷ moves))
  either None nothing rest =
      let same = ap length ((joins bounce e m moves).none nothing) in
      omega arith
  either (Some longer) found rest = subst (λ (xs : List Entry). 1 ≤ length xs) (sym ((joins bounce e m moves).some longer found).0) (rest longer)

-- The first moves are written, but for the run that is being made.
pub record Written (memory : List (List ℕ)) (list : Listed) (bounce : ℕ) (moves : List Move) (run : Entry) (i : ℕ) : Type 0 where
  pub entries : List Entry
  pub lies : LiesIn memory list entries
  pub same : entries ++ joined bounce run (drop (i + 1) moves) ≡ join_all bounce moves

pub written_first : (memory : List (List ℕ)) (list : Listed) (bounce : ℕ) (moves : List Move) (d : Move) → 0 < length moves → LiesIn memory list [] → Written memory list bounce moves (first_entry (get_or moves 0 d)) 0
written_first memory list bounce [] d some lies = absurd (omega arith)
written_first memory list bounce (m ∷ moves) d some lies = record { entries = []; lies = lies; same = refl }

rest_is : (moves : List Move) (i : ℕ) (d : Move) → i + 1 < length moves → drop (i + 1) moves ≡ get_or moves (i + 1) d ∷ drop (i + 1 + 1) moves
rest_is moves i d lt = drop_more moves (i + 1) d lt

pub written_longer : (memory : List (List ℕ)) (list : Listed) (bounce : ℕ) (moves : List Move) (run longer : Entry) (i : ℕ) (d : Move) → i + 1 < length moves → continued bounce run (get_or moves (i + 1) d) ≡ Some longer → Written memory list bounce moves run i → Written memory list bounce moves longer (i + 1)
written_longer memory list bounce moves run longer i d lt found written =
    let m = get_or moves (i + 1) d in
    record {
      entries = written.entries;
      lies = written.lies;
      same =
          ap (λ (xs : List Entry). written.entries ++ xs) (sym (ap (joined bounce run) (rest_is moves i d lt) ∙ ((joins bounce run m (drop (i + 1 + 1) moves)).some longer found).0))
          ∙ written.same;
    }

pub written_next : (before after : List (List ℕ)) (list more : Listed) (bounce : ℕ) (moves : List Move) (run : Entry) (i : ℕ) (d : Move) → i + 1 < length moves → continued bounce run (get_or moves (i + 1) d) ≡ None → ((entries : List Entry) → LiesIn before list entries → LiesIn after more (entries ++ run ∷ [])) → Written before list bounce moves run i → Written after more bounce moves (first_entry (get_or moves (i + 1) d)) (i + 1)
written_next before after list more bounce moves run i d lt nothing pushed written =
    let m = get_or moves (i + 1) d in
    record {
      entries = written.entries ++ run ∷ [];
      lies = pushed written.entries written.lies;
      same =
          append_assoc written.entries (run ∷ []) (joined bounce (first_entry m) (drop (i + 1 + 1) moves))
          ∙ ap (λ (xs : List Entry). written.entries ++ xs) (sym (ap (joined bounce run) (rest_is moves i d lt) ∙ (joins bounce run m (drop (i + 1 + 1) moves)).none nothing))
          ∙ written.same;
    }

past_all : (moves : List Move) (n : ℕ) → length moves ≤ n → drop n moves ≡ []
past_all [] zero le = refl
past_all [] (suc n) le = refl
past_all (m ∷ moves) zero le = absurd (omega arith)
past_all (m ∷ moves) (suc n) le = past_all moves n (omega arith)

-- there is room for the run that is being made
pub written_room : (memory : List (List ℕ)) (list : Listed) (bounce most : ℕ) (moves : List Move) (run : Entry) (i : ℕ) → length (join_all bounce moves) ≤ most → Written memory list bounce moves run i → list.len < most
written_room memory list bounce most moves run i fits written =
    let all = ap length written.same in
    let sum = length-append written.entries (joined bounce run (drop (i + 1) moves)) in
    let one = joined_some bounce (drop (i + 1) moves) run in
    let len = written.lies.len in
    omega arith

pub longer_below : (bounce : ℕ) (run longer : Entry) (m : Move) → continued bounce run m ≡ Some longer → (m.0 < 65536) × (m.1 < 65536) → LiesBelow 65536 run → LiesBelow 65536 longer
longer_below bounce run longer m found = ((joins bounce run m []).some longer found).1

-- the moves after the first
pub length-rest : (moves : List Move) → 0 < length moves → length (take (length moves - 1) (drop 1 moves)) ≡ length moves - 1
length-rest moves some = length-take-le (length moves - 1) (drop 1 moves) (omega (arith, length-drop 1 moves))

pub rest_item : (moves : List Move) (i : ℕ) (d : Move) → i < length moves - 1 → get_or (take (length moves - 1) (drop 1 moves)) i d ≡ get_or moves (i + 1) d
rest_item moves i d lt =
    let at : 1 + i ≡ i + 1 = omega arith in
    get_or-take (length moves - 1) (drop 1 moves) i d lt ∙ get_or-drop 1 moves i d ∙ ap (λ (k : ℕ). get_or moves k d) at

-- written entries under other names
pub written_as : (memory memory' : List (List ℕ)) (list list' : Listed) (bounce : ℕ) (moves : List Move) (run run' : Entry) (i : ℕ) → memory' ≡ memory → list' ≡ list → run' ≡ run → Written memory list bounce moves run i → Written memory' list' bounce moves run' i
written_as memory memory' list list' bounce moves run run' i same_memory same_list same_run written =
    subst (λ (e : Entry). Written memory' list' bounce moves e i) (sym same_run)
    (subst (λ (l : Listed). Written memory' l bounce moves run i) (sym same_list)
    (subst (λ (m : List (List ℕ)). Written m list bounce moves run i) (sym same_memory) written))
