-- The runs of an ascending list of numbers: with one number more, how many they are, and where they end.
use Rattle.std.proofs.Common.{◌≡◌, ◌≢◌, ℕ, ◌+◌, ◌<◌, ◌≤◌, List, [], ◌∷◌, ◌++◌, Bool, true, false, cond, eqb, length, filter, refl, sym, ap, ◌∙◌, inl, inr, arith, append_assoc, All}
use Rattle.std.proofs.lemmas.Bool.{cases_eq, cond-true, cond-false, eq-eqb, ne_eqb}
use Rattle.std.proofs.lemmas.List.Elements.{All-cons, All-head, All-nil, All-same, All-tail}
use Rattle.std.proofs.lemmas.List.Sums.{count_by-le-length, length-filter}
use Rattle.std.specs.List.{Contains}
use Rattle.definitions.specs.FreeRuns.{in_front, runs_of}
use Rattle.definitions.specs.Zones.{numbers, top, zone_end}
use Rattle.definitions.specs.ZoneFacts.{AreZones}
use Rattle.definitions.proofs.Ascending.{Contains-head, Contains-tail}
use Rattle.definitions.proofs.FrameSets.{Contains-from_filter}
use Rattle.definitions.proofs.ZoneNumbers.{below_top, count_at_most, top_at_most}

-- a number after runs: it joins the last of them where it follows that
abbrev at_end : List (ℕ × ℕ) → ℕ → List (ℕ × ℕ)
at_end [] n = (n, 1) ∷ []
at_end (run ∷ []) n = cond (eqb n (run.0 + run.1)) ((run.0, run.1 + 1) ∷ []) (run ∷ (n, 1) ∷ [])
at_end (run ∷ next ∷ runs) n = run ∷ at_end (next ∷ runs) n

joins : (run : ℕ × ℕ) (n : ℕ) → n ≡ run.0 + run.1 → at_end (run ∷ []) n ≡ (run.0, run.1 + 1) ∷ []
joins run n e = cond-true (eqb n (run.0 + run.1)) ((run.0, run.1 + 1) ∷ []) (run ∷ (n, 1) ∷ []) (eq-eqb n (run.0 + run.1) e)

parts : (run : ℕ × ℕ) (n : ℕ) → n ≢ run.0 + run.1 → at_end (run ∷ []) n ≡ run ∷ (n, 1) ∷ []
parts run n ne = cond-false (eqb n (run.0 + run.1)) ((run.0, run.1 + 1) ∷ []) (run ∷ (n, 1) ∷ []) (ne_eqb n (run.0 + run.1) ne)

front_joins : (s : ℕ) (run : ℕ × ℕ) (runs : List (ℕ × ℕ)) → run.0 ≡ s + 1 → in_front s (run ∷ runs) ≡ (s, run.1 + 1) ∷ runs
front_joins s run runs e = cond-true (eqb run.0 (s + 1)) ((s, run.1 + 1) ∷ runs) ((s, 1) ∷ run ∷ runs) (eq-eqb run.0 (s + 1) e)

front_parts : (s : ℕ) (run : ℕ × ℕ) (runs : List (ℕ × ℕ)) → run.0 ≢ s + 1 → in_front s (run ∷ runs) ≡ (s, 1) ∷ run ∷ runs
front_parts s run runs ne = cond-false (eqb run.0 (s + 1)) ((s, run.1 + 1) ∷ runs) ((s, 1) ∷ run ∷ runs) (ne_eqb run.0 (s + 1) ne)

both_ends : (s n : ℕ) (runs : List (ℕ × ℕ)) → in_front s (at_end runs n) ≡ at_end (in_front s runs) n
both_ends s n [] = refl
both_ends s n (run ∷ []) = elim (cases_eq n (run.0 + run.1)) [
  | inl e ↦ elim (cases_eq run.0 (s + 1)) [
    | inl f ↦
        ap (in_front s) (joins run n e) ∙ front_joins s (run.0, run.1 + 1) [] f
        ∙ sym (joins (s, run.1 + 1) n (omega arith)) ∙ ap (λ (rs : List (ℕ × ℕ)). at_end rs n) (sym (front_joins s run [] f))
    | inr g ↦
        ap (in_front s) (joins run n e) ∙ front_parts s (run.0, run.1 + 1) [] g
        ∙ ap (λ (rs : List (ℕ × ℕ)). (s, 1) ∷ rs) (sym (joins run n e)) ∙ ap (λ (rs : List (ℕ × ℕ)). at_end rs n) (sym (front_parts s run [] g))
  ]
  | inr ne ↦ elim (cases_eq run.0 (s + 1)) [
    | inl f ↦
        ap (in_front s) (parts run n ne) ∙ front_joins s run ((n, 1) ∷ []) f
        ∙ sym (parts (s, run.1 + 1) n (λ e. ne (omega arith))) ∙ ap (λ (rs : List (ℕ × ℕ)). at_end rs n) (sym (front_joins s run [] f))
    | inr g ↦
        ap (in_front s) (parts run n ne) ∙ front_parts s run ((n, 1) ∷ []) g
        ∙ ap (λ (rs : List (ℕ × ℕ)). (s, 1) ∷ rs) (sym (parts run n ne)) ∙ ap (λ (rs : List (ℕ × ℕ)). at_end rs n) (sym (front_parts s run [] g))
  ]
]
both_ends s n (run ∷ next ∷ runs) = go (eqb run.0 (s + 1)) where
  go : (b : Bool) → cond b ((s, run.1 + 1) ∷ at_end (next ∷ runs) n) ((s, 1) ∷ run ∷ at_end (next ∷ runs) n)
      ≡ at_end (cond b ((s, run.1 + 1) ∷ next ∷ runs) ((s, 1) ∷ run ∷ next ∷ runs)) n
  go true = refl
  go false = refl

runs_of-push : (numbers : List ℕ) (n : ℕ) → runs_of (numbers ++ n ∷ []) ≡ at_end (runs_of numbers) n
unfolding runs_of
runs_of-push [] n = refl
runs_of-push (s ∷ numbers) n = ap (in_front s) (runs_of-push numbers n) ∙ both_ends s n (runs_of numbers)

last_only : (ended : List (ℕ × ℕ)) (run : ℕ × ℕ) (n : ℕ) → at_end (ended ++ run ∷ []) n ≡ ended ++ at_end (run ∷ []) n
last_only [] run n = refl
last_only (e ∷ []) run n = refl
last_only (e ∷ f ∷ ended) run n = ap (λ (rs : List (ℕ × ℕ)). e ∷ rs) (last_only (f ∷ ended) run n)

-- One number more: it is the first, joins the last run, or begins one.

pub first_number : (numbers : List ℕ) (n : ℕ) → runs_of numbers ≡ [] → runs_of (numbers ++ n ∷ []) ≡ (n, 1) ∷ []
first_number numbers n e = runs_of-push numbers n ∙ ap (λ (rs : List (ℕ × ℕ)). at_end rs n) e

pub joined_number : (numbers : List ℕ) (ended : List (ℕ × ℕ)) (run : ℕ × ℕ) (n : ℕ) → runs_of numbers ≡ ended ++ run ∷ [] → n ≡ run.0 + run.1 → runs_of (numbers ++ n ∷ []) ≡ ended ++ (run.0, run.1 + 1) ∷ []
joined_number numbers ended run n e follows =
    runs_of-push numbers n ∙ ap (λ (rs : List (ℕ × ℕ)). at_end rs n) e ∙ last_only ended run n
    ∙ ap (λ (rs : List (ℕ × ℕ)). ended ++ rs) (joins run n follows)

pub parted_number : (numbers : List ℕ) (ended : List (ℕ × ℕ)) (run : ℕ × ℕ) (n : ℕ) → runs_of numbers ≡ ended ++ run ∷ [] → n ≢ run.0 + run.1 → runs_of (numbers ++ n ∷ []) ≡ (ended ++ run ∷ []) ++ (n, 1) ∷ []
parted_number numbers ended run n e apart =
    runs_of-push numbers n ∙ ap (λ (rs : List (ℕ × ℕ)). at_end rs n) e ∙ last_only ended run n
    ∙ ap (λ (rs : List (ℕ × ℕ)). ended ++ rs) (parts run n apart) ∙ sym (append_assoc ended (run ∷ []) ((n, 1) ∷ []))

-- There are no more runs than numbers.

in_front_few : (s : ℕ) (runs : List (ℕ × ℕ)) → length (in_front s runs) ≤ 1 + length runs
in_front_few s [] = omega arith
in_front_few s (run ∷ runs) = elim (cases_eq run.0 (s + 1)) [
  | inl e ↦ omega (arith, ap length (front_joins s run runs e))
  | inr ne ↦ omega (arith, ap length (front_parts s run runs ne))
]

few_runs : (numbers : List ℕ) → length (runs_of numbers) ≤ length numbers
unfolding runs_of
few_runs [] = omega arith
few_runs (s ∷ numbers) = omega (arith, in_front_few s (runs_of numbers), few_runs numbers)

-- If all numbers are below b, the runs end by b.

abbrev EndBy : ℕ → List (ℕ × ℕ) → Type 0
EndBy b runs = All (λ (run : ℕ × ℕ). zone_end run ≤ b) runs

front_ends : (b s : ℕ) (runs : List (ℕ × ℕ)) → s < b → EndBy b runs → EndBy b (in_front s runs)
front_ends b s [] lt ends = All-cons (λ (run : ℕ × ℕ). zone_end run ≤ b) (s, 1) [] (omega arith) ends
front_ends b s (run ∷ runs) lt ends =
    let P : ℕ × ℕ → Type 0 = λ run. zone_end run ≤ b in
    let head : run.0 + run.1 ≤ b = All-head P run runs ends in
    elim (cases_eq run.0 (s + 1)) [
      | inl e ↦ All-same P (in_front s (run ∷ runs)) ((s, run.1 + 1) ∷ runs) (front_joins s run runs e) (All-cons P (s, run.1 + 1) runs (omega arith) (All-tail P run runs ends))
      | inr ne ↦ All-same P (in_front s (run ∷ runs)) ((s, 1) ∷ run ∷ runs) (front_parts s run runs ne) (All-cons P (s, 1) (run ∷ runs) (omega arith) ends)
    ]

runs_end : (b : ℕ) (numbers : List ℕ) → ((n : ℕ) → Contains numbers n → n < b) → EndBy b (runs_of numbers)
unfolding runs_of
runs_end b [] below = All-nil (λ (run : ℕ × ℕ). zone_end run ≤ b)
runs_end b (s ∷ numbers) below =
    front_ends b s (runs_of numbers) (below s (Contains-head s numbers)) (runs_end b numbers (λ n in'. below n (Contains-tail s numbers n in')))

-- the runs of what a test picks of the page frames of zones
pub picked_end : (test : ℕ → Bool) (zones : List (ℕ × ℕ)) (b : ℕ) → AreZones zones → top zones ≤ b → All (λ (run : ℕ × ℕ). zone_end run ≤ b) (runs_of (filter test (numbers zones)))
picked_end test zones b h le =
    runs_end b (filter test (numbers zones)) (λ n in'.
    let low = below_top zones n h.apart (Contains-from_filter test (numbers zones) n in').0 in
    omega arith)

pub few_picked_runs : (test : ℕ → Bool) (zones : List (ℕ × ℕ)) → AreZones zones → length (runs_of (filter test (numbers zones))) ≤ 65536
few_picked_runs test zones h =
    omega (arith, few_runs (filter test (numbers zones)), length-filter test (numbers zones), count_by-le-length test (numbers zones), count_at_most zones h, top_at_most zones h)
