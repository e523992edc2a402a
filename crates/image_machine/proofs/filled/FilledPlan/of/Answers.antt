use Rattle.std.proofs.Common.{ℕ, ap, ◌∙◌, replicate}
use Rattle.definitions.specs.Bytes.{zero_page}
use Rattle.definitions.specs.Zones.{top}
use Rattle.image_machine.proofs.Laying.{laid-none}
use Rattle.image_machine.proofs.filled.FilledPlan.of.Goals as goal

pub returns-clause-filled : goal.returns-clause-filled
returns-clause-filled c = record {
  plan = c.in_ok-plan.ensures.plan;
  members = c.in_ok-plan.ensures.none;
  memory =
      c.in_ok-frames.ensures ∙ ap (λ (n : ℕ). replicate n zero_page) c.top.ensures.top
      ∙ laid-none (top c.in_ok-plan.plan.zones);
}
