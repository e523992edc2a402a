use Rattle.std.proofs.Common.{rules, arith, ◌≡◌, ◌≢◌, ◌+◌, ◌∷◌, ◌++◌, ◌∙◌, ℕ, List, [], length, refl, sym, ap, append-nil}
use Rattle.definitions.specs.FreeRuns.{runs_of}
use Rattle.dump_core.proofs.Pieces.{on_ok_then}
use Rattle.dump_core.proofs.RunLaws.{first_number, joined_number, parted_number}
use Rattle.dump_core.proofs.runs.add_number.Goals as goal
use Rattle.dump_core.proofs.runs.add_number.Goals.{then-number-start+else-number-start-2, else-number-start}

nothing : {A : Type 0} (xs : List A) → length xs ≡ 0 → xs ≡ []
nothing [] e = refl
nothing (x ∷ xs) e = absurd (omega arith)

pub returns-in-Some : goal.returns-in-Some
returns-in-Some c = λ numbers e.
    let before = c.pop.new.self.items in
    let run : ℕ × ℕ = (c.in-Some.start, c.in-Some.count) in
    let at : runs_of numbers ≡ before ++ run ∷ [] = sym e ∙ c.in-Some.ensures.items in
    let follows : c.args.number ≡ c.in-Some.start + c.in-Some.count = omega (arith, c.if-number-start.true, c.if-number-start-2.true) in
    on_ok_then c.push_run.result
    (λ (new : c.push_run.new.runs.items ≡ before ++ (c.in-Some.start, c.in-Some.count + 1) ∷ []). new ∙ sym (joined_number numbers before run c.args.number at follows))
    c.push_run.ensures

pub returns-in_ok-push_run-in-Some-2 : goal.returns-in_ok-push_run-in-Some-2
returns-in_ok-push_run-in-Some-2 c = λ numbers e.
    let before = c.pop.new.self.items in
    let run : ℕ × ℕ = (c.in-Some.start, c.in-Some.count) in
    let at : runs_of numbers ≡ before ++ run ∷ [] = sym e ∙ c.in-Some.ensures.items in
    let apart : c.args.number ≢ c.in-Some.start + c.in-Some.count =
    λ f. elim c.if-number-start.branch [
      | then-number-start+else-number-start-2 w ↦ w.if-number-start-2.false (omega (arith, f))
      | else-number-start w ↦ omega (arith, f, w.if-number-start.false)
    ] in
    on_ok_then c.push_run-in-Some-2-2.result
    (λ (new : c.push_run-in-Some-2-2.new.runs.items ≡ c.push_run-in-Some-2.new.runs.items ++ (c.args.number, 1) ∷ []).
    new ∙ ap (λ (runs : List (ℕ × ℕ)). runs ++ (c.args.number, 1) ∷ []) c.in_ok-push_run-in-Some-2.ensures
    ∙ sym (parted_number numbers before run c.args.number at apart))
    c.push_run-in-Some-2-2.ensures

pub returns-in-None : goal.returns-in-None
returns-in-None c = λ numbers e.
    let before = c.pop.new.self.items in
    let size : length before ≡ 0 = search rules in
    let none = nothing before size in
    let at : runs_of numbers ≡ [] = sym e ∙ c.in-None.ensures.items ∙ append-nil before ∙ none in
    on_ok_then c.push_run-in-None.result
    (λ (new : c.push_run-in-None.new.runs.items ≡ before ++ (c.args.number, 1) ∷ []).
    new ∙ ap (λ (runs : List (ℕ × ℕ)). runs ++ (c.args.number, 1) ∷ []) none ∙ sym (first_number numbers c.args.number at))
    c.push_run-in-None.ensures
