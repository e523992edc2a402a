-- Runs of numbers, and the program headers of runs.
use Rattle.std.proofs.Common.{◌≡◌, ◌≢◌, ℕ, ◌+◌, ◌*◌, ◌<◌, ◌≤◌, List, [], ◌∷◌, ◌++◌, length, Option, Some, None, refl, sym, ap, ◌∙◌, subst, inl, inr, arith, append-nil, append_assoc, add_assoc, length-append, add-zero, cond, eqb, sum_by, All, get_or}
use Rattle.std.proofs.lemmas.Bool.{cases_eq, cond-true, cond-false, eq-eqb, ne_eqb}
use Rattle.std.proofs.lemmas.List.Elements.{All-cons, All-head, All-nil, All-same, All-tail}
use Rattle.std.proofs.Math.Seq.{get_or-append_seam}
use Rattle.std.proofs.lemmas.List.Sums.{sum_by-append, sum_by-cons}
use Rattle.definitions.specs.FreeRuns.{in_front, runs_of}
use Rattle.elf_core.specs.Elf.{load_bytes, loads_bytes}
use Rattle.image_show.specs.Runs.{IsUpTo, list_of}
use Rattle.image_show.proofs.RunLaws.{up_to_first, up_to_joined, up_to_parted}
use Rattle.image_core.specs.Listed.{frames_in}

joins : (s : ℕ) (run : ℕ × ℕ) (runs : List (ℕ × ℕ)) → run.0 ≡ s + 1 → in_front s (run ∷ runs) ≡ (s, run.1 + 1) ∷ runs
joins s run runs e = cond-true (eqb run.0 (s + 1)) ((s, run.1 + 1) ∷ runs) ((s, 1) ∷ run ∷ runs) (eq-eqb run.0 (s + 1) e)

parts : (s : ℕ) (run : ℕ × ℕ) (runs : List (ℕ × ℕ)) → run.0 ≢ s + 1 → in_front s (run ∷ runs) ≡ (s, 1) ∷ run ∷ runs
parts s run runs ne = cond-false (eqb run.0 (s + 1)) ((s, run.1 + 1) ∷ runs) ((s, 1) ∷ run ∷ runs) (ne_eqb run.0 (s + 1) ne)

-- The runs have as many page frames as there are numbers.

frames_in_front : (s : ℕ) (runs : List (ℕ × ℕ)) → frames_in (in_front s runs) ≡ 1 + frames_in runs
frames_in_front s [] = refl
frames_in_front s (run ∷ runs) = elim (cases_eq run.0 (s + 1)) [
  | inl e ↦ ap frames_in (joins s run runs e) ∙ omega (arith, sum_by-cons (λ (r : ℕ × ℕ). r.1) (s, run.1 + 1) runs, sum_by-cons (λ (r : ℕ × ℕ). r.1) run runs)
  | inr ne ↦ ap frames_in (parts s run runs ne) ∙ omega (arith, sum_by-cons (λ (r : ℕ × ℕ). r.1) (s, 1) (run ∷ runs))
]

pub frames_in-runs : (numbers : List ℕ) → frames_in (runs_of numbers) ≡ length numbers
unfolding runs_of
frames_in-runs [] = refl
frames_in-runs (s ∷ numbers) = omega (arith, frames_in_front s (runs_of numbers), frames_in-runs numbers)

-- There are no more runs than numbers.

in_front_few : (s : ℕ) (runs : List (ℕ × ℕ)) → length (in_front s runs) ≤ 1 + length runs
in_front_few s [] = omega arith
in_front_few s (run ∷ runs) = elim (cases_eq run.0 (s + 1)) [
  | inl e ↦ omega (arith, ap length (joins s run runs e))
  | inr ne ↦ omega (arith, ap length (parts s run runs ne))
]

pub few_runs : (numbers : List ℕ) → length (runs_of numbers) ≤ length numbers
unfolding runs_of
few_runs [] = omega arith
few_runs (s ∷ numbers) = omega (arith, in_front_few s (runs_of numbers), few_runs numbers)

-- Each run begins at one of the numbers.

abbrev StartsBelow : ℕ → List (ℕ × ℕ) → Type 0
StartsBelow b runs = All (λ (run : ℕ × ℕ). run.0 < b) runs

front_below : (b s : ℕ) (runs : List (ℕ × ℕ)) → s < b → StartsBelow b runs → StartsBelow b (in_front s runs)
front_below b s [] lt below = All-cons (λ (run : ℕ × ℕ). run.0 < b) (s, 1) [] lt below
front_below b s (run ∷ runs) lt below =
    let P : ℕ × ℕ → Type 0 = λ run. run.0 < b in
    elim (cases_eq run.0 (s + 1)) [
      | inl e ↦ All-same P (in_front s (run ∷ runs)) ((s, run.1 + 1) ∷ runs) (joins s run runs e) (All-cons P (s, run.1 + 1) runs lt (All-tail P run runs below))
      | inr ne ↦ All-same P (in_front s (run ∷ runs)) ((s, 1) ∷ run ∷ runs) (parts s run runs ne) (All-cons P (s, 1) (run ∷ runs) lt below)
    ]

runs_below : (b : ℕ) (numbers : List ℕ) → All (λ (n : ℕ). n < b) numbers → StartsBelow b (runs_of numbers)
unfolding runs_of
runs_below b [] below = All-nil (λ (run : ℕ × ℕ). run.0 < b)
runs_below b (s ∷ numbers) below =
    front_below b s (runs_of numbers) (All-head (λ (n : ℕ). n < b) s numbers below) (runs_below b numbers (All-tail (λ (n : ℕ). n < b) s numbers below))

-- a run between others begins at a number, and has its numbers
pub run_first : (b : ℕ) (numbers : List ℕ) (before after : List (ℕ × ℕ)) (run : ℕ × ℕ) → runs_of numbers ≡ before ++ run ∷ after → All (λ (n : ℕ). n < b) numbers → run.0 < b
run_first b numbers before after run e below =
    let at = runs_below b numbers below (length before) (0, 0) (omega (arith, ap length e, length-append before (run ∷ after))) in
    let is : get_or (runs_of numbers) (length before) (0, 0) ≡ run =
    ap (λ (rs : List (ℕ × ℕ)). get_or rs (length before) (0, 0)) e ∙ get_or-append_seam before run after (0, 0) in
    subst (λ (r : ℕ × ℕ). r.0 < b) is at

pub run_few : (numbers : List ℕ) (before after : List (ℕ × ℕ)) (run : ℕ × ℕ) → runs_of numbers ≡ before ++ run ∷ after → frames_in before + run.1 ≤ length numbers
run_few numbers before after run e =
    omega (arith, frames_in-runs numbers, ap frames_in e, sum_by-append (λ (r : ℕ × ℕ). r.1) before (run ∷ after), sum_by-cons (λ (r : ℕ × ℕ). r.1) run after)

pub frames_in-one : (before : List (ℕ × ℕ)) (run : ℕ × ℕ) → frames_in (before ++ run ∷ []) ≡ frames_in before + run.1
frames_in-one before run =
    omega (arith, sum_by-append (λ (r : ℕ × ℕ). r.1) before (run ∷ []), sum_by-cons (λ (r : ℕ × ℕ). r.1) run [])

-- The runs that have ended stay, whichever numbers follow.

pub ended_stay : (numbers : List ℕ) (last : Option (ℕ × ℕ)) (ended : List (ℕ × ℕ)) (more : List ℕ) → IsUpTo numbers last ended → (rest : List (ℕ × ℕ)) × (runs_of (numbers ++ more) ≡ ended ++ rest)
ended_stay numbers last ended [] u = (list_of last, ap runs_of (append-nil numbers) ∙ u.runs)
ended_stay numbers None ended (n ∷ more) u =
    let (rest, e) = ended_stay (numbers ++ n ∷ []) (Some (n, 1)) (ended ++ []) more (up_to_first numbers ended n u) in
    (rest, ap runs_of (sym (append_assoc numbers (n ∷ []) more)) ∙ e ∙ ap (λ (rs : List (ℕ × ℕ)). rs ++ rest) (append-nil ended))
ended_stay numbers (Some (first, count)) ended (n ∷ more) u = elim (cases_eq n (first + count)) [
  | inl e ↦
      let (rest, f) = ended_stay (numbers ++ n ∷ []) (Some (first, count + 1)) (ended ++ []) more (up_to_joined numbers ended first count n e u) in
      (rest, ap runs_of (sym (append_assoc numbers (n ∷ []) more)) ∙ f ∙ ap (λ (rs : List (ℕ × ℕ)). rs ++ rest) (append-nil ended))
  | inr ne ↦
      let (rest, f) = ended_stay (numbers ++ n ∷ []) (Some (n, 1)) (ended ++ (first, count) ∷ []) more (up_to_parted numbers ended first count n ne u) in
      ((first, count) ∷ rest, ap runs_of (sym (append_assoc numbers (n ∷ []) more)) ∙ f ∙ append_assoc ended ((first, count) ∷ []) rest)
]

-- The program headers of runs and of more runs.

pub loads_bytes-append : (start : ℕ) (xs ys : List (ℕ × ℕ)) → loads_bytes start (xs ++ ys) ≡ loads_bytes start xs ++ loads_bytes (start + 4096 * frames_in xs) ys
loads_bytes-append start [] ys = ap (λ (k : ℕ). loads_bytes k ys) (sym (add-zero start))
loads_bytes-append start (run ∷ xs) ys =
    let on : start + 4096 * run.1 + 4096 * frames_in xs ≡ start + 4096 * frames_in (run ∷ xs) = omega (arith, sum_by-cons (λ (r : ℕ × ℕ). r.1) run xs) in
    ap (λ (bytes : List ℕ). load_bytes start run.0 run.1 ++ bytes) (loads_bytes-append (start + 4096 * run.1) xs ys)
    ∙ ap (λ (k : ℕ). load_bytes start run.0 run.1 ++ (loads_bytes (start + 4096 * run.1) xs ++ loads_bytes k ys)) on
    ∙ sym (append_assoc (load_bytes start run.0 run.1) (loads_bytes (start + 4096 * run.1) xs) (loads_bytes (start + 4096 * frames_in (run ∷ xs)) ys))

pub loads_bytes-one : (start : ℕ) (runs : List (ℕ × ℕ)) (run : ℕ × ℕ) → loads_bytes start (runs ++ run ∷ []) ≡ loads_bytes start runs ++ load_bytes (start + 4096 * frames_in runs) run.0 run.1
loads_bytes-one start runs run =
    loads_bytes-append start runs (run ∷ [])
    ∙ ap (λ (bytes : List ℕ). loads_bytes start runs ++ bytes) (append-nil (load_bytes (start + 4096 * frames_in runs) run.0 run.1))
