-- The numbers of a step when an image is given up, and how the functions change them: as `Discard` does.
use Rattle.std.specs.Prelude.{◌≡◌, ℕ, ◌==◌, List, length, Option, Some, None, if◌then◌else◌}
use Rattle.boot_resume.specs.Steps.{Answered, failed_after}
use Rattle.boot_resume.specs.declared.discard.step.Left.{Left}
use Rattle.boot_resume.specs.declared.discard.step.Left.TheVariants as left
use Rattle.boot_resume.specs.declared.discard.step.Step.{Step}
use Rattle.boot_resume.specs.declared.discard.step.Step.TheVariants as step
use Rattle.swsusp_c.specs.Calls.{numbers}
use Rattle.swsusp_c.specs.declared.calls.SwsuspCall.{SwsuspCall}

abbrev pub left_code : Left → ℕ
left_code left.Same = 1
left_code left.Unsure = 2

abbrev pub step_code : Step → SwsuspCall
step_code (step.Read b) = numbers 2 0 b 0
step_code (step.Write b) = numbers 3 0 b 0
step_code step.Sync = numbers 1 0 0 0
step_code step.Discarded = numbers 5 0 0 0
step_code step.NoImage = numbers 6 1 0 0
step_code step.NoOriginal = numbers 6 14 0 0
step_code (step.Failed l) = numbers 7 0 (left_code l) 0

abbrev pub refused_by : ℕ → Option Step
refused_by reason = if reason == 1 then Some step.NoImage else (if reason == 14 then Some step.NoOriginal else None)

abbrev pub failed_by : ℕ → Option Step
failed_by l = if l == 1 then Some (step.Failed left.Same) else (if l == 2 then Some (step.Failed left.Unsure) else None)

abbrev pub step_of : SwsuspCall → Option Step
step_of c =
    if c.kind == 1 then Some step.Sync
    else (if c.kind == 2 then Some (step.Read c.first)
    else (if c.kind == 3 then Some (step.Write c.first)
    else (if c.kind == 5 then Some step.Discarded
    else (if c.kind == 6 then refused_by c.reason else (if c.kind == 7 then failed_by c.first else None)))))

-- one answer: as in `Discard::answer`
pub record Follows (old : Step) (given : List ℕ) (new : SwsuspCall) (page : List ℕ) : Type 0 where
  pub next : Step
  pub is : new ≡ step_code next
  pub answered : Answered old given next page

abbrev pub AnswersStep : SwsuspCall → List ℕ → SwsuspCall → List ℕ → ℕ → Type 0
AnswersStep old given new page code =
    (s : Step) → old ≡ step_code s → length given ≡ 4096 → (code ≡ 0) × Follows s given new page

abbrev pub FailsStep : SwsuspCall → SwsuspCall → ℕ → Type 0
FailsStep old new code = (s : Step) → old ≡ step_code s → (code ≡ 0) × (new ≡ step_code (failed_after s))
