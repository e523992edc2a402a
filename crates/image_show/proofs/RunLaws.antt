-- The runs of a list with one number more.
use Rattle.std.proofs.Common.{◌≡◌, ◌≢◌, ℕ, ◌+◌, List, [], ◌∷◌, ◌++◌, Bool, true, false, cond, eqb, Some, None, refl, sym, ap, ◌∙◌, subst, inl, inr, arith, append-nil, append_assoc}
use Rattle.std.proofs.lemmas.Bool.{cases_eq, cond-true, cond-false, eq-eqb, ne_eqb}
use Rattle.definitions.specs.FreeRuns.{in_front, runs_of}
use Rattle.image_show.specs.Runs.{IsUpTo, list_of}

-- a number after runs: it joins the last of them where it follows that
abbrev at_end : List (ℕ × ℕ) → ℕ → List (ℕ × ℕ)
at_end [] n = (n, 1) ∷ []
at_end (run ∷ []) n = cond (eqb n (run.0 + run.1)) ((run.0, run.1 + 1) ∷ []) (run ∷ (n, 1) ∷ [])
at_end (run ∷ next ∷ runs) n = run ∷ at_end (next ∷ runs) n

joins : (run : ℕ × ℕ) (n : ℕ) → n ≡ run.0 + run.1 → at_end (run ∷ []) n ≡ (run.0, run.1 + 1) ∷ []
joins run n e = cond-true (eqb n (run.0 + run.1)) ((run.0, run.1 + 1) ∷ []) (run ∷ (n, 1) ∷ []) (eq-eqb n (run.0 + run.1) e)

parts : (run : ℕ × ℕ) (n : ℕ) → n ≢ run.0 + run.1 → at_end (run ∷ []) n ≡ run ∷ (n, 1) ∷ []
parts run n ne = cond-false (eqb n (run.0 + run.1)) ((run.0, run.1 + 1) ∷ []) (run ∷ (n, 1) ∷ []) (ne_eqb n (run.0 + run.1) ne)

front_joins : (s : ℕ) (run : ℕ × ℕ) (runs : List (ℕ × ℕ)) → run.0 ≡ s + 1 → in_front s (run ∷ runs) ≡ (s, run.1 + 1) ∷ runs
front_joins s run runs e = cond-true (eqb run.0 (s + 1)) ((s, run.1 + 1) ∷ runs) ((s, 1) ∷ run ∷ runs) (eq-eqb run.0 (s + 1) e)

front_parts : (s : ℕ) (run : ℕ × ℕ) (runs : List (ℕ × ℕ)) → run.0 ≢ s + 1 → in_front s (run ∷ runs) ≡ (s, 1) ∷ run ∷ runs
front_parts s run runs ne = cond-false (eqb run.0 (s + 1)) ((s, run.1 + 1) ∷ runs) ((s, 1) ∷ run ∷ runs) (ne_eqb run.0 (s + 1) ne)

both_ends : (s n : ℕ) (runs : List (ℕ × ℕ)) → in_front s (at_end runs n) ≡ at_end (in_front s runs) n
both_ends s n [] = refl
both_ends s n (run ∷ []) = elim (cases_eq n (run.0 + run.1)) [
  | inl e ↦ elim (cases_eq run.0 (s + 1)) [
    | inl f ↦
        ap (in_front s) (joins run n e) ∙ front_joins s (run.0, run.1 + 1) [] f
        ∙ sym (joins (s, run.1 + 1) n (omega arith)) ∙ ap (λ (rs : List (ℕ × ℕ)). at_end rs n) (sym (front_joins s run [] f))
    | inr g ↦
        ap (in_front s) (joins run n e) ∙ front_parts s (run.0, run.1 + 1) [] g
        ∙ ap (λ (rs : List (ℕ × ℕ)). (s, 1) ∷ rs) (sym (joins run n e)) ∙ ap (λ (rs : List (ℕ × ℕ)). at_end rs n) (sym (front_parts s run [] g))
  ]
  | inr ne ↦ elim (cases_eq run.0 (s + 1)) [
    | inl f ↦
        ap (in_front s) (parts run n ne) ∙ front_joins s run ((n, 1) ∷ []) f
        ∙ sym (parts (s, run.1 + 1) n (λ e. ne (omega arith))) ∙ ap (λ (rs : List (ℕ × ℕ)). at_end rs n) (sym (front_joins s run [] f))
    | inr g ↦
        ap (in_front s) (parts run n ne) ∙ front_parts s run ((n, 1) ∷ []) g
        ∙ ap (λ (rs : List (ℕ × ℕ)). (s, 1) ∷ rs) (sym (parts run n ne)) ∙ ap (λ (rs : List (ℕ × ℕ)). at_end rs n) (sym (front_parts s run [] g))
  ]
]
both_ends s n (run ∷ next ∷ runs) = go (eqb run.0 (s + 1)) where
  go : (b : Bool) → cond b ((s, run.1 + 1) ∷ at_end (next ∷ runs) n) ((s, 1) ∷ run ∷ at_end (next ∷ runs) n)
      ≡ at_end (cond b ((s, run.1 + 1) ∷ next ∷ runs) ((s, 1) ∷ run ∷ next ∷ runs)) n
  go true = refl
  go false = refl

runs_of-push : (numbers : List ℕ) (n : ℕ) → runs_of (numbers ++ n ∷ []) ≡ at_end (runs_of numbers) n
unfolding runs_of
runs_of-push [] n = refl
runs_of-push (s ∷ numbers) n = ap (in_front s) (runs_of-push numbers n) ∙ both_ends s n (runs_of numbers)

last_only : (ended : List (ℕ × ℕ)) (run : ℕ × ℕ) (n : ℕ) → at_end (ended ++ run ∷ []) n ≡ ended ++ at_end (run ∷ []) n
last_only [] run n = refl
last_only (e ∷ []) run n = refl
last_only (e ∷ f ∷ ended) run n = ap (λ (rs : List (ℕ × ℕ)). e ∷ rs) (last_only (f ∷ ended) run n)

-- Numbers one after another.

pub up_to_none : IsUpTo [] None []
unfolding runs_of
up_to_none = record { runs = refl; begun = λ e. refl }

none_some : {A : Type 0} {x : A} → Some x ≡ None → ⊥
none_some e = cc

pub up_to_first : (numbers : List ℕ) (ended : List (ℕ × ℕ)) (n : ℕ) → IsUpTo numbers None ended → IsUpTo (numbers ++ n ∷ []) (Some (n, 1)) (ended ++ list_of None)
up_to_first numbers ended n u = record {
  runs =
      runs_of-push numbers n ∙ ap (λ (rs : List (ℕ × ℕ)). at_end rs n) (u.runs ∙ append-nil ended ∙ u.begun refl)
      ∙ ap (λ (rs : List (ℕ × ℕ)). (rs ++ []) ++ (n, 1) ∷ []) (sym (u.begun refl));
  begun = λ e. absurd (none_some e);
}

pub up_to_joined : (numbers : List ℕ) (ended : List (ℕ × ℕ)) (start count n : ℕ) → n ≡ start + count → IsUpTo numbers (Some (start, count)) ended → IsUpTo (numbers ++ n ∷ []) (Some (start, count + 1)) (ended ++ list_of None)
up_to_joined numbers ended start count n e u = record {
  runs =
      runs_of-push numbers n ∙ ap (λ (rs : List (ℕ × ℕ)). at_end rs n) u.runs ∙ last_only ended (start, count) n
      ∙ ap (λ (rs : List (ℕ × ℕ)). ended ++ rs) (joins (start, count) n e)
      ∙ ap (λ (rs : List (ℕ × ℕ)). rs ++ (start, count + 1) ∷ []) (sym (append-nil ended));
  begun = λ f. absurd (none_some f);
}

pub up_to_parted : (numbers : List ℕ) (ended : List (ℕ × ℕ)) (start count n : ℕ) → n ≢ start + count → IsUpTo numbers (Some (start, count)) ended → IsUpTo (numbers ++ n ∷ []) (Some (n, 1)) (ended ++ list_of (Some (start, count)))
up_to_parted numbers ended start count n ne u = record {
  runs =
      runs_of-push numbers n ∙ ap (λ (rs : List (ℕ × ℕ)). at_end rs n) u.runs ∙ last_only ended (start, count) n
      ∙ ap (λ (rs : List (ℕ × ℕ)). ended ++ rs) (parts (start, count) n ne) ∙ sym (append_assoc ended ((start, count) ∷ []) ((n, 1) ∷ []));
  begun = λ f. absurd (none_some f);
}

-- No two neighbouring runs could be joined.

abbrev pub AreApart : List (ℕ × ℕ) → Type 0
AreApart [] = Unit {0}
AreApart (run ∷ []) = Unit {0}
AreApart (run ∷ next ∷ runs) = (next.0 ≢ run.0 + run.1) × AreApart (next ∷ runs)

front_apart : (s : ℕ) (runs : List (ℕ × ℕ)) → AreApart runs → AreApart (in_front s runs)
front_apart s [] h = tt
front_apart s (run ∷ []) h = elim (cases_eq run.0 (s + 1)) [
  | inl e ↦ subst AreApart (sym (front_joins s run [] e)) tt
  | inr ne ↦ subst AreApart (sym (front_parts s run [] ne)) (ne, tt)
]
front_apart s (run ∷ next ∷ runs) h = elim (cases_eq run.0 (s + 1)) [
  | inl e ↦ subst AreApart (sym (front_joins s run (next ∷ runs) e)) ((λ f. h.0 (omega arith)), h.1)
  | inr ne ↦ subst AreApart (sym (front_parts s run (next ∷ runs) ne)) (ne, h)
]

pub runs_apart : (numbers : List ℕ) → AreApart (runs_of numbers)
unfolding runs_of
runs_apart [] = tt
runs_apart (s ∷ numbers) = front_apart s (runs_of numbers) (runs_apart numbers)
