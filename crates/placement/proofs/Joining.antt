-- Joined entries do what their moves do one after another.
use Rattle.std.proofs.Common.{◌≡◌, ◌≢◌, ℕ, ◌+◌, ◌-◌, ◌<◌, ◌≤◌, ◌⊎◌, Bool, cond, eqb, ◌||◌, List, [], ◌∷◌, ◌++◌, length, take, drop, length-set, length-drop, add-one, refl, sym, ap, ap₂, ◌∙◌, inl, inr, arith, subst}
use Rattle.std.proofs.lemmas.Bool.{cases_eq, cases_lt, cases_Bool, cond-true, cond-false, eq-eqb, ne_eqb, eqb-true, eqb-false, and_parts, or_parts}
use Rattle.std.proofs.lemmas.List.{get_or-drop, length-take-le, take_more, drop_more, get_or-set_same, get_or-set_other}
use Rattle.definitions.specs.Moves.{Move, Entry, touches, goes_up, goes_down, joined, join_all}
use Rattle.definitions.specs.Tables.{frame, with_frame}
use Rattle.definitions.specs.FrameRuns.{run_at, with_run}
use Rattle.definitions.proofs.FrameLists.{length-with_run, frame-with_run_below, frame-with_run_above, with_run_none, with_run_push, with_run_cons}
use Rattle.placement.specs.Performing.{performed}
use Rattle.placement.proofs.Emitting.{SparesAll, InOrder, LieBelow, origin, before_move}

-- memory after moves of one page each
abbrev pub moved : List (List ℕ) → List Move → List (List ℕ)
moved frames [] = frames
moved frames (m ∷ moves) = moved (with_frame frames m.1 (frame frames m.0)) moves

pub length-moved : (frames : List (List ℕ)) (moves : List Move) → length (moved frames moves) ≡ length frames
length-moved frames [] = refl
length-moved frames (m ∷ moves) =
    length-moved (with_frame frames m.1 (frame frames m.0)) moves ∙ length-set frames m.1 (frame frames m.0)

pub frame-moved : (moves : List Move) (frames : List (List ℕ)) (p : ℕ) → LieBelow (length frames) moves → frame (moved frames moves) p ≡ frame frames (origin moves p)
frame-moved [] frames p below = refl
frame-moved (m ∷ moves) frames p below =
    let next = with_frame frames m.1 (frame frames m.0) in
    let size : length next ≡ length frames = length-set frames m.1 (frame frames m.0) in
    let q = origin moves p in
    frame-moved moves next p (subst (λ (n : ℕ). LieBelow n moves) (sym size) below.2)
    ∙ elim (cases_eq q m.1) as (λ _. frame next q ≡ frame frames (before_move m q)) [
      | inl is ↦
          ap (frame next) is ∙ get_or-set_same frames m.1 (frame frames m.0) [] below.1
          ∙ ap (frame frames) (sym (cond-true (eqb q m.1) m.0 q (eq-eqb q m.1 is)))
      | inr other ↦
          get_or-set_other frames m.1 q (frame frames m.0) [] other
          ∙ ap (frame frames) (sym (cond-false (eqb q m.1) m.0 q (ne_eqb q m.1 other)))
    ]

-- a run of pages that is moved
abbrev pub with_entry : List (List ℕ) → Entry → List (List ℕ)
with_entry frames e = with_run frames e.1 (run_at e.2 frames e.0)

abbrev pub FitsIn : ℕ → Entry → Type 0
FitsIn size e = (e.0 + e.2 ≤ size) × (e.1 + e.2 ≤ size)

length-run : (frames : List (List ℕ)) (from n : ℕ) → from + n ≤ length frames → length (run_at n frames from) ≡ n
length-run frames from n le = length-take-le n (drop from frames) (omega (arith, length-drop from frames))

pub length-with_entry : (frames : List (List ℕ)) (e : Entry) → FitsIn (length frames) e → length (with_entry frames e) ≡ length frames
length-with_entry frames e fits =
    let size = length-run frames e.0 e.2 fits.0 in
    let target = fits.1 in
    length-with_run frames e.1 (run_at e.2 frames e.0) (omega arith)

pub frame-past_entry : (frames : List (List ℕ)) (e : Entry) (p : ℕ) → FitsIn (length frames) e → ((p < e.1) ⊎ (e.1 + e.2 ≤ p)) → frame (with_entry frames e) p ≡ frame frames p
frame-past_entry frames e p fits (inl below) =
    let size = length-run frames e.0 e.2 fits.0 in
    let target = fits.1 in
    frame-with_run_below frames e.1 (run_at e.2 frames e.0) p (omega arith) below
frame-past_entry frames e p fits (inr above) =
    let size = length-run frames e.0 e.2 fits.0 in
    let target = fits.1 in
    frame-with_run_above frames e.1 (run_at e.2 frames e.0) p (omega arith) (omega arith)

-- one page frame more above the run
run_up : (frames : List (List ℕ)) (e : Entry) → FitsIn (length frames) e → e.0 + e.2 < length frames → e.1 + e.2 < length frames → with_frame (with_entry frames e) (e.1 + e.2) (frame frames (e.0 + e.2)) ≡ with_entry frames (e.0, e.1, e.2 + 1)
run_up frames e fits source target =
    let pages = run_at e.2 frames e.0 in
    let page = frame frames (e.0 + e.2) in
    let size = length-run frames e.0 e.2 fits.0 in
    let more : run_at (e.2 + 1) frames e.0 ≡ pages ++ page ∷ [] =
    take_more (drop e.0 frames) e.2 [] (omega (arith, length-drop e.0 frames)) ∙ ap (λ (x : List ℕ). pages ++ x ∷ []) (get_or-drop e.0 frames e.2 []) in
    ap (λ (n : ℕ). with_frame (with_entry frames e) (e.1 + n) page) (sym size)
    ∙ with_run_push frames e.1 pages page (omega arith)
    ∙ ap (with_run frames e.1) (sym more)

-- one page frame more below the run
run_down : (frames : List (List ℕ)) (from to n : ℕ) → from + 1 + n ≤ length frames → to + 1 + n ≤ length frames → with_frame (with_entry frames (from + 1, to + 1, n)) to (frame frames from) ≡ with_entry frames (from, to, n + 1)
run_down frames from to n source target =
    let pages = run_at n frames (from + 1) in
    let page = frame frames from in
    let size = length-run frames (from + 1) n source in
    let more : run_at (n + 1) frames from ≡ page ∷ pages =
    ap (take (n + 1)) (drop_more frames from [] (omega arith)) ∙ ap (λ (k : ℕ). take k (page ∷ drop (from + 1) frames)) (add-one n) in
    with_run_cons frames to pages page (omega arith) ∙ ap (with_run frames to) (sym more)

-- a run of one page frame
pub run_one : (frames : List (List ℕ)) (m : Move) → m.0 < length frames → m.1 < length frames → with_entry frames (m.0, m.1, 1) ≡ with_frame frames m.1 (frame frames m.0)
run_one frames m source target =
    let none : with_run frames m.1 [] ≡ frames = with_run_none frames m.1 in
    let at : m.1 + 0 ≡ m.1 = omega arith in
    let more : run_at 1 frames m.0 ≡ frame frames m.0 ∷ [] = ap (take 1) (drop_more frames m.0 [] source) in
    ap (with_run frames m.1) more
    ∙ sym (with_run_push frames m.1 [] (frame frames m.0) (omega arith))
    ∙ ap₂ (λ (fs : List (List ℕ)) (p : ℕ). with_frame fs p (frame frames m.0)) none at

-- the moves of a run spare the sources of later moves
abbrev RunSpares : ℕ → Entry → List Move → Type 0
RunSpares bounce e moves = (i : ℕ) → i < e.2 → SparesAll bounce (e.0 + i, e.1 + i) moves

one_spares : (bounce : ℕ) (m : Move) (moves : List Move) → SparesAll bounce m moves → RunSpares bounce (m.0, m.1, 1) moves
one_spares bounce m moves spares i lt =
    let from : m.0 ≡ m.0 + i = omega arith in
    let to : m.1 ≡ m.1 + i = omega arith in
    subst (λ (k : Move). SparesAll bounce k moves) (ap₂ (λ (x y : ℕ). (x, y)) from to) spares

-- a later source lies outside a run that it could be joined to
source_past : (frames : List (List ℕ)) (bounce : ℕ) (e : Entry) (m : Move) (moves : List Move) → FitsIn (length frames) e → RunSpares bounce e (m ∷ moves) → m.0 ≢ bounce → frame (with_entry frames e) m.0 ≡ frame frames m.0
source_past frames bounce e m moves fits spares apart = frame-past_entry frames e m.0 fits (elim (cases_lt m.0 e.1) as (λ _. (m.0 < e.1) ⊎ (e.1 + e.2 ≤ m.0)) [
  | inl below ↦ inl below
  | inr ge ↦ elim (cases_lt m.0 (e.1 + e.2)) [
    | inr above ↦ inr above
    | inl within ↦
        let i = m.0 - e.1 in
        let same : e.1 + i ≡ m.0 = omega arith in
        absurd (apart (sym same ∙ (spares i (omega arith)).0 same))
  ]
])

abbrev pub IsTouched : ℕ → Entry → Move → Bool
IsTouched bounce e m = touches bounce e || touches bounce (m.0, m.1, 1)

abbrev pub first_entry : Move → Entry
first_entry m = (m.0, m.1, 1)

pub performed-joined : (moves : List Move) (bounce : ℕ) (e : Entry) (frames : List (List ℕ)) → FitsIn (length frames) e → LieBelow (length frames) moves → InOrder bounce moves → RunSpares bounce e moves → performed frames (joined bounce e moves) ≡ moved (with_entry frames e) moves
performed-joined [] bounce e frames fits below ordered spares = refl
performed-joined (m ∷ moves) bounce e frames fits below ordered spares =
    let fit = fits in
    let source = below.0 in
    let target = below.1 in
    let after = with_entry frames e in
    let size : length after ≡ length frames = length-with_entry frames e fits in
    let one = first_entry m in
    let up : Entry = (e.0, e.1, e.2 + 1) in
    let down : Entry = (m.0, m.1, e.2 + 1) in
    let stop = e ∷ joined bounce one moves in
    let go_on = cond (goes_up e m) (joined bounce up moves) (cond (goes_down e m) (joined bounce down moves) stop) in
    let stopped : performed frames stop ≡ moved (with_frame after m.1 (frame after m.0)) moves =
    let fits_one : FitsIn (length after) one = (omega arith, omega arith) in
    performed-joined moves bounce one after fits_one (subst (λ (n : ℕ). LieBelow n moves) (sym size) below.2) ordered.1 (one_spares bounce m moves ordered.0)
    ∙ ap (λ (fs : List (List ℕ)). moved fs moves) (run_one after m (omega arith) (omega arith)) in
    elim (cases_Bool (IsTouched bounce e m)) as (λ _. performed frames (cond (IsTouched bounce e m) stop go_on) ≡ moved (with_frame after m.1 (frame after m.0)) moves) [
      | inl touched ↦ ap (performed frames) (cond-true (IsTouched bounce e m) stop go_on touched) ∙ stopped
      | inr clear ↦
          let parts = or_parts (touches bounce e) (touches bounce one) clear in
          let apart : m.0 ≢ bounce = eqb-false m.0 bounce (or_parts (eqb m.0 bounce) (eqb m.1 bounce) parts.1).0 in
          let same = source_past frames bounce e m moves fits spares apart in
          ap (performed frames) (cond-false (IsTouched bounce e m) stop go_on clear)
          ∙ elim (cases_Bool (goes_up e m)) as (λ _. performed frames go_on ≡ moved (with_frame after m.1 (frame after m.0)) moves) [
            | inl goes ↦
                let ends = and_parts (eqb m.0 (e.0 + e.2)) (eqb m.1 (e.1 + e.2)) goes in
                let from = eqb-true m.0 (e.0 + e.2) ends.0 in
                let to = eqb-true m.1 (e.1 + e.2) ends.1 in
                let fits_up : FitsIn (length frames) up = (omega arith, omega arith) in
                let spares_up : RunSpares bounce up moves =
                λ i lt.
                elim (cases_lt i e.2) [
                  | inl before ↦ (spares i before).1
                  | inr last ↦
                      let at : i ≡ e.2 = omega arith in
                      subst (λ (k : Move). SparesAll bounce k moves) (ap₂ (λ (x y : ℕ). (x, y)) (from ∙ ap (λ (j : ℕ). e.0 + j) (sym at)) (to ∙ ap (λ (j : ℕ). e.1 + j) (sym at))) ordered.0
                ] in
                ap (performed frames) (cond-true (goes_up e m) (joined bounce up moves) (cond (goes_down e m) (joined bounce down moves) stop) goes)
                ∙ performed-joined moves bounce up frames fits_up below.2 ordered.1 spares_up
                ∙ ap (λ (fs : List (List ℕ)). moved fs moves) (sym (run_up frames e fits (omega arith) (omega arith)))
                ∙ ap₂ (λ (p : ℕ) (page : List ℕ). moved (with_frame after p page) moves) (sym to) (ap (frame frames) (sym from) ∙ sym same)
            | inr stays ↦
                ap (performed frames) (cond-false (goes_up e m) (joined bounce up moves) (cond (goes_down e m) (joined bounce down moves) stop) stays)
                ∙ elim (cases_Bool (goes_down e m)) as (λ _. performed frames (cond (goes_down e m) (joined bounce down moves) stop) ≡ moved (with_frame after m.1 (frame after m.0)) moves) [
                  | inr ends ↦ ap (performed frames) (cond-false (goes_down e m) (joined bounce down moves) stop ends) ∙ stopped
                  | inl goes ↦
                      let ends = and_parts (eqb (m.0 + 1) e.0) (eqb (m.1 + 1) e.1) goes in
                      let from = eqb-true (m.0 + 1) e.0 ends.0 in
                      let to = eqb-true (m.1 + 1) e.1 ends.1 in
                      let fits_down : FitsIn (length frames) down = (omega arith, omega arith) in
                      let spares_down : RunSpares bounce down moves =
                      λ i lt.
                      elim (cases_eq i 0) [
                        | inl at ↦
                            let left : m.0 ≡ m.0 + i = omega arith in
                            let right : m.1 ≡ m.1 + i = omega arith in
                            subst (λ (k : Move). SparesAll bounce k moves) (ap₂ (λ (x y : ℕ). (x, y)) left right) ordered.0
                        | inr later ↦
                            let j = i - 1 in
                            let left : e.0 + j ≡ m.0 + i = omega arith in
                            let right : e.1 + j ≡ m.1 + i = omega arith in
                            subst (λ (k : Move). SparesAll bounce k moves) {x = (e.0 + j, e.1 + j)} (ap₂ (λ (x y : ℕ). (x, y)) left right) (spares j (omega arith)).1
                      ] in
                      let run : with_entry frames (m.0 + 1, m.1 + 1, e.2) ≡ after = ap₂ (λ (x y : ℕ). with_entry frames (x, y, e.2)) from to in
                      ap (performed frames) (cond-true (goes_down e m) (joined bounce down moves) stop goes)
                      ∙ performed-joined moves bounce down frames fits_down below.2 ordered.1 spares_down
                      ∙ ap (λ (fs : List (List ℕ)). moved fs moves) (sym (run_down frames m.0 m.1 e.2 (omega arith) (omega arith)))
                      ∙ ap₂ (λ (fs : List (List ℕ)) (page : List ℕ). moved (with_frame fs m.1 page) moves) run (sym same)
                ]
          ]
    ]

pub performed-join_all : (moves : List Move) (bounce : ℕ) (frames : List (List ℕ)) → LieBelow (length frames) moves → InOrder bounce moves → performed frames (join_all bounce moves) ≡ moved frames moves
performed-join_all [] bounce frames below ordered = refl
performed-join_all (m ∷ moves) bounce frames below ordered =
    let source = below.0 in
    let target = below.1 in
    let fits : FitsIn (length frames) (first_entry m) = (omega arith, omega arith) in
    performed-joined moves bounce (first_entry m) frames fits below.2 ordered.1 (one_spares bounce m moves ordered.0)
    ∙ ap (λ (fs : List (List ℕ)). moved fs moves) (run_one frames m source target)
