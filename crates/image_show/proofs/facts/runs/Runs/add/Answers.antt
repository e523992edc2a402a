use Rattle.std.proofs.Common.{◌≡◌, ◌+◌, ℕ, Option, subst, arith}
use Rattle.image_show.specs.Runs.{IsUpTo}
use Rattle.image_show.proofs.RunLaws.{up_to_first, up_to_joined, up_to_parted}
use Rattle.image_show.proofs.facts.runs.Runs.add.Goals.{else-number-start-via-then-number-start+else-number-start-2, else-number-start-via-else-number-start}
use Rattle.image_show.proofs.facts.runs.Runs.add.Goals as goal

pub returns-in_default-clause-runs : goal.returns-in_default-clause-runs
returns-in_default-clause-runs c = λ numbers ended so_far.
    up_to_first numbers ended c.args.number (subst (λ (last : Option (ℕ × ℕ)). IsUpTo numbers last ended) c.in_default.is so_far)

pub returns-then-number-start-2-clause-runs : goal.returns-then-number-start-2-clause-runs
returns-then-number-start-2-clause-runs c = λ numbers ended so_far.
    up_to_joined numbers ended c.in-Some.start c.in-Some.count c.args.number (omega (arith, c.if-number-start.true, c.if-number-start-2.true))
    (subst (λ (last : Option (ℕ × ℕ)). IsUpTo numbers last ended) c.in-Some.is so_far)

pub returns-else-number-start-clause-runs : goal.returns-else-number-start-clause-runs
returns-else-number-start-clause-runs c = λ numbers ended so_far.
    let apart : c.args.number ≡ c.in-Some.start + c.in-Some.count → ⊥ = λ e. elim c.else-number-start.branch [
      | else-number-start-via-then-number-start+else-number-start-2 w ↦ omega (arith, w.if-number-start-2.false, w.if-number-start.true, e)
      | else-number-start-via-else-number-start w ↦ omega (arith, w.if-number-start.false, e)
    ] in
    up_to_parted numbers ended c.in-Some.start c.in-Some.count c.args.number apart (subst (λ (last : Option (ℕ × ℕ)). IsUpTo numbers last ended) c.in-Some.is so_far)
