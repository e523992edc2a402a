-- Restore lists that do what their moves do at once.
use Rattle.std.proofs.Common.{◌≡◌, ◌≢◌, ℕ, ◌+◌, ◌-◌, ◌<◌, ◌≤◌, ◌⊎◌, zero, suc, Bool, cond, eqb, List, [], ◌∷◌, length, drop, map, Option, Some, None, refl, sym, ap, ap₂, ◌∙◌, inl, inr, arith, zero-add, length-drop}
use Rattle.std.specs.List.{range_with_len, find}
use Rattle.std.proofs.lemmas.Bool.{cases_eq, cases_lt, cond-true, cond-false, eq-eqb, ne_eqb}
use Rattle.std.proofs.lemmas.List.{get_or-take, get_or-drop, get_or_past, length-take-le}
use Rattle.std.proofs.lemmas.List.FromFn.{length-map-range_with_len, get_or-map-range_with_len}
use Rattle.definitions.specs.Moves.{Move, Entry, assigned, move_into, page_from}
use Rattle.definitions.specs.Tables.{frame}
use Rattle.definitions.specs.FrameRuns.{run_at, with_run}
use Rattle.definitions.proofs.FrameLists.{length-with_run, frame-with_run_below, frame-with_run_within, frame-with_run_above}
use Rattle.definitions.proofs.MoveExamples.{order_of_a_cycle, run_of_moves}
use Rattle.image_laws.specs.Performing.{performed, Realises, RealisesMoves, RealisesSwap, RealisesRun, swap_of_two, run_of_ten, run_of}

-- A run of page frames that is moved.

abbrev moved : List (List ℕ) → ℕ → ℕ → ℕ → List (List ℕ)
moved frames from to n = with_run frames to (run_at n frames from)

length-run : (frames : List (List ℕ)) (from n : ℕ) → from + n ≤ length frames → length (run_at n frames from) ≡ n
length-run frames from n le = length-take-le n (drop from frames) (omega (arith, length-drop from frames))

length-moved : (frames : List (List ℕ)) (from to n : ℕ) → from + n ≤ length frames → to + n ≤ length frames → length (moved frames from to n) ≡ length frames
length-moved frames from to n source target =
    let size = length-run frames from n source in
    length-with_run frames to (run_at n frames from) (omega arith)

frame-moved : (frames : List (List ℕ)) (from to n p : ℕ) → from + n ≤ length frames → to + n ≤ length frames → to ≤ p → p < to + n → frame (moved frames from to n) p ≡ frame frames (from + (p - to))
frame-moved frames from to n p source target le lt =
    let pages = run_at n frames from in
    let size = length-run frames from n source in
    let at : p ≡ to + (p - to) = omega arith in
    ap (frame (with_run frames to pages)) at
    ∙ frame-with_run_within frames to pages (p - to) (omega arith) (omega arith)
    ∙ get_or-take n (drop from frames) (p - to) [] (omega arith) ∙ get_or-drop from frames (p - to) []

frame-not_moved : (frames : List (List ℕ)) (from to n p : ℕ) → from + n ≤ length frames → to + n ≤ length frames → (p < to) ⊎ (to + n ≤ p) → frame (moved frames from to n) p ≡ frame frames p
frame-not_moved frames from to n p source target (inl below) =
    let size = length-run frames from n source in
    frame-with_run_below frames to (run_at n frames from) p (omega arith) below
frame-not_moved frames from to n p source target (inr above) =
    let size = length-run frames from n source in
    frame-with_run_above frames to (run_at n frames from) p (omega arith) (omega arith)

-- What the moves do at once.

frame-assigned : (frames : List (List ℕ)) (moves : List Move) (p : ℕ) (m : Option Move) → p < length frames → move_into moves p ≡ m → frame (assigned frames moves) p ≡ page_from frames m (frame frames p)
unfolding assigned
frame-assigned frames moves p m lt e =
    get_or-map-range_with_len (λ q. page_from frames (move_into moves q) (frame frames q)) 0 (length frames) p p [] lt (zero-add p)
    ∙ ap (λ (o : Option Move). page_from frames o (frame frames p)) e

frame-assigned_past : (frames : List (List ℕ)) (moves : List Move) (p : ℕ) → length frames ≤ p → frame (assigned frames moves) p ≡ []
unfolding assigned
frame-assigned_past frames moves p le =
    get_or_past (assigned frames moves) p [] (omega (arith, length-map-range_with_len (λ q. page_from frames (move_into moves q) (frame frames q)) 0 (length frames)))

beside : (p t : ℕ) → p ≢ t → (p < t) ⊎ (t + 1 ≤ p)
beside p t ne = elim (cases_lt p t) [ inl below ↦ inl below | inr ge ↦ inr (omega arith) ]

-- the one page frame of a move
page-moved : (frames : List (List ℕ)) (from to : ℕ) → from + 1 ≤ length frames → to + 1 ≤ length frames → frame (moved frames from to 1) to ≡ frame frames from
page-moved frames from to source target =
    let at : from + (to - to) ≡ from = omega arith in
    frame-moved frames from to 1 to source target (omega arith) (omega arith) ∙ ap (frame frames) at

-- every other page frame
page-not_moved : (frames : List (List ℕ)) (from to p : ℕ) → from + 1 ≤ length frames → to + 1 ≤ length frames → p ≢ to → frame (moved frames from to 1) p ≡ frame frames p
page-not_moved frames from to p source target apart = frame-not_moved frames from to 1 p source target (beside p to apart)

-- Two page frames change places.

module _ (frames : List (List ℕ)) (a b t : ℕ) (a_in : a < length frames) (b_in : b < length frames) (t_in : t < length frames) (apart : a ≢ b) (t_a : t ≢ a) (t_b : t ≢ b) where
  abbrev swap : List Move
  swap = (a, b) ∷ (b, a) ∷ []

  abbrev one : List (List ℕ)
  one = moved frames a t 1

  abbrev two : List (List ℕ)
  two = moved one b a 1

  abbrev three : List (List ℕ)
  three = moved two t b 1

  length-one : length one ≡ length frames
  length-one = length-moved frames a t 1 (omega arith) (omega arith)

  length-two : length two ≡ length frames
  length-two = length-moved one b a 1 (omega (arith, length-one)) (omega (arith, length-one)) ∙ length-one

  length-three : length three ≡ length frames
  length-three = length-moved two t b 1 (omega (arith, length-two)) (omega (arith, length-two)) ∙ length-two

  into_a : move_into swap a ≡ Some (b, a)
  into_a =
      cond-false (eqb b a) (Some (a, b)) (cond (eqb a a) (Some (b, a)) None) (ne_eqb b a (λ e. apart (sym e)))
      ∙ cond-true (eqb a a) (Some (b, a)) None (eq-eqb a a refl)

  into_b : move_into swap b ≡ Some (a, b)
  into_b = cond-true (eqb b b) (Some (a, b)) (cond (eqb a b) (Some (b, a)) None) (eq-eqb b b refl)

  into_other : (p : ℕ) → p ≢ a → p ≢ b → move_into swap p ≡ None
  into_other p not_a not_b =
      cond-false (eqb b p) (Some (a, b)) (cond (eqb a p) (Some (b, a)) None) (ne_eqb b p (λ e. not_b (sym e)))
      ∙ cond-false (eqb a p) (Some (b, a)) None (ne_eqb a p (λ e. not_a (sym e)))

  at_a : frame three a ≡ frame (assigned frames swap) a
  at_a =
      page-not_moved two t b a (omega (arith, length-two)) (omega (arith, length-two)) apart
      ∙ page-moved one b a (omega (arith, length-one)) (omega (arith, length-one))
      ∙ page-not_moved frames a t b (omega arith) (omega arith) (λ e. t_b (sym e))
      ∙ sym (frame-assigned frames swap a (Some (b, a)) a_in into_a)

  at_b : frame three b ≡ frame (assigned frames swap) b
  at_b =
      page-moved two t b (omega (arith, length-two)) (omega (arith, length-two))
      ∙ page-not_moved one b a t (omega (arith, length-one)) (omega (arith, length-one)) t_a
      ∙ page-moved frames a t (omega arith) (omega arith)
      ∙ sym (frame-assigned frames swap b (Some (a, b)) b_in into_b)

  at_other : (p : ℕ) → p < length frames → p ≢ a → p ≢ b → p ≢ t → frame three p ≡ frame (assigned frames swap) p
  at_other p lt not_a not_b not_t =
      page-not_moved two t b p (omega (arith, length-two)) (omega (arith, length-two)) not_b
      ∙ page-not_moved one b a p (omega (arith, length-one)) (omega (arith, length-one)) not_a
      ∙ page-not_moved frames a t p (omega arith) (omega arith) not_t
      ∙ sym (frame-assigned frames swap p None lt (into_other p not_a not_b))

  three_realises : Realises t ((a, t, 1) ∷ (b, a, 1) ∷ (t, b, 1) ∷ []) swap frames
  three_realises p not_t =
      elim (cases_lt p (length frames)) [
        | inl lt ↦ elim (cases_eq p a) [
          | inl e ↦ ap (frame three) e ∙ at_a ∙ sym (ap (frame (assigned frames swap)) e)
          | inr not_a ↦ elim (cases_eq p b) [
            | inl e ↦ ap (frame three) e ∙ at_b ∙ sym (ap (frame (assigned frames swap)) e)
            | inr not_b ↦ at_other p lt not_a not_b not_t
          ]
        ]
        | inr past ↦ get_or_past three p [] (omega (arith, length-three)) ∙ sym (frame-assigned_past frames swap p past)
      ]

pub realises_swap : (a b bounce : ℕ) → RealisesSwap a b bounce
realises_swap a b bounce frames a_in b_in t_in apart t_a t_b = three_realises frames a b bounce a_in b_in t_in apart t_a t_b

pub swap_realises : RealisesMoves 112 48 41 swap_of_two
swap_realises frames least p apart =
    ap (λ (entries : List Entry). frame (performed frames entries) p) order_of_a_cycle
    ∙ realises_swap 20 21 41 frames (omega arith) (omega arith) (omega arith) (λ e. omega arith) (λ e. omega arith) (λ e. omega arith) p apart

-- A run of page frames moves.

abbrev into : ℕ → Move → Bool
into p m = eqb m.1 p

abbrev by : ℕ → ℕ → ℕ → Move
by from to i = (from + i, to + i)

found : (from to p k n : ℕ) → to + k ≤ p → p < to + k + n → find (into p) (map (by from to) (range_with_len k n)) ≡ Some (from + (p - to), p)
found from to p k zero le lt = absurd (omega arith)
found from to p k (suc n) le lt =
    elim (cases_eq (to + k) p) [
      | inl e ↦
          let source : from + k ≡ from + (p - to) = omega arith in
          cond-true (eqb (to + k) p) (Some (by from to k)) (find (into p) (map (by from to) (range_with_len (k + 1) n))) (eq-eqb (to + k) p e)
          ∙ ap₂ (λ (x y : ℕ). Some (x, y)) source e
      | inr ne ↦
          cond-false (eqb (to + k) p) (Some (by from to k)) (find (into p) (map (by from to) (range_with_len (k + 1) n))) (ne_eqb (to + k) p ne)
          ∙ found from to p (k + 1) n (omega arith) (omega arith)
    ]

not_found : (from to p k n : ℕ) → (p < to + k) ⊎ (to + k + n ≤ p) → find (into p) (map (by from to) (range_with_len k n)) ≡ None
not_found from to p k zero apart = refl
not_found from to p k (suc n) apart =
    cond-false (eqb (to + k) p) (Some (by from to k)) (find (into p) (map (by from to) (range_with_len (k + 1) n))) (ne_eqb (to + k) p (ne apart))
    ∙ not_found from to p (k + 1) n (rest apart) where
      ne : (p < to + k) ⊎ (to + k + suc n ≤ p) → to + k ≡ p → ⊥
      ne (inl below) e = omega arith
      ne (inr above) e = omega arith

      rest : (p < to + k) ⊎ (to + k + suc n ≤ p) → (p < to + (k + 1)) ⊎ (to + (k + 1) + n ≤ p)
      rest (inl below) = inl (omega arith)
      rest (inr above) = inr (omega arith)

run_page : (frames : List (List ℕ)) (from to n p : ℕ) → from + n ≤ length frames → to + n ≤ length frames → p < length frames → frame (moved frames from to n) p ≡ frame (assigned frames (run_of from to n)) p
run_page frames from to n p source target lt =
    elim (cases_lt p to) [
      | inl below ↦
          frame-not_moved frames from to n p source target (inl below)
          ∙ sym (frame-assigned frames (run_of from to n) p None lt (not_found from to p 0 n (inl (omega arith))))
      | inr ge ↦ elim (cases_lt p (to + n)) [
        | inl within ↦
            frame-moved frames from to n p source target ge within
            ∙ sym (frame-assigned frames (run_of from to n) p (Some (from + (p - to), p)) lt (found from to p 0 n (omega arith) (omega arith)))
        | inr above ↦
            frame-not_moved frames from to n p source target (inr above)
            ∙ sym (frame-assigned frames (run_of from to n) p None lt (not_found from to p 0 n (inr (omega arith))))
      ]
    ]

pub realises_run : (from to n : ℕ) → RealisesRun from to n
realises_run from to n frames source target p =
    elim (cases_lt p (length frames)) [
      | inl lt ↦ run_page frames from to n p source target lt
      | inr past ↦
          get_or_past (moved frames from to n) p [] (omega (arith, length-moved frames from to n source target))
          ∙ sym (frame-assigned_past frames (run_of from to n) p past)
    ]

pub run_realises : RealisesMoves 112 120 0 run_of_ten
run_realises frames least p apart =
    ap (λ (entries : List Entry). frame (performed frames entries) p) run_of_moves
    ∙ realises_run 100 102 10 frames (omega arith) (omega arith) p
