use Rattle.std.proofs.Common.{◌≡◌, ◌<◌, ℕ, List, [], ◌∷◌, ◌++◌, length, sym, ap, ◌∙◌, arith}
use Rattle.std.proofs.lemmas.List.Elements.{All-contains}
use Rattle.definitions.specs.FrameSets.{inserted}
use Rattle.definitions.specs.Tables.{with_frame}
use Rattle.definitions.specs.Zones.{top}
use Rattle.definitions.proofs.FrameSets.{inserted_above}
use Rattle.definitions.proofs.ZoneNumbers.{top_at_most}
use Rattle.image_machine.specs.Machines.{laid, numbers_of}
use Rattle.image_machine.proofs.Adding.{plan_zones, valid_below}
use Rattle.image_machine.proofs.Laying.{above_all, laid_more, length-laid, numbers-more}
use Rattle.image_machine.proofs.filled.FilledPlan.add.Goals as goal

pub overflow_cast-number : goal.overflow_cast-number
overflow_cast-number c =
    let (saved, filled) = c.requires in
    let below = valid_below c.args.self.now.plan c.args.number filled.plan c.in_ok-add.ensures.valid in
    let most = top_at_most c.args.self.now.plan.zones (plan_zones c.args.self.now.plan filled.plan) in
    omega arith

pub write-requires : goal.write-requires
write-requires c =
    let (saved, filled) = c.requires in
    let below = valid_below c.args.self.now.plan c.args.number filled.plan c.in_ok-add.ensures.valid in
    let size : length c.args.self.now.frames ≡ top c.args.self.now.plan.zones =
    ap length filled.memory ∙ length-laid (top c.args.self.now.plan.zones) saved in
    omega arith

pub returns-clause-filled : goal.returns-clause-filled
returns-clause-filled c = λ saved filled above.
    let plan = c.args.self.now.plan in
    let number = c.args.number in
    let below = valid_below plan number filled.plan c.in_ok-add.ensures.valid in
    let more = saved ++ (number, c.args.page.now) ∷ [] in
    record {
      plan = c.add.ensures.plan;
      members =
          c.in_ok-add.ensures.added ∙ ap (λ (ms : List ℕ). inserted ms number) filled.members
          ∙ inserted_above (numbers_of saved) number (λ x in'. All-contains (λ (m : ℕ). m < number) (numbers_of saved) x above in')
          ∙ sym (numbers-more saved (number, c.args.page.now));
      memory =
          c.write.ensures ∙ ap (λ (f : List (List ℕ)). with_frame f number c.args.page.now) filled.memory
          ∙ laid_more (top plan.zones) saved (number, c.args.page.now) below (above_all (numbers_of saved) number above)
          ∙ ap (λ (zs : List (ℕ × ℕ)). laid (top zs) more) (sym c.add.ensures.zones);
    }
