use Rattle.std.proofs.Common.{inl, inr, sym, ap, subst, ◌∙◌, ⊎_elim}
use Rattle.plain_machine.specs.Fitting.{IsFittingActor}
use Rattle.plain_machine.specs.declared.event.Event.TheVariants as event
use Rattle.plain_machine.specs.declared.event.Actor.{Actor}
use Rattle.plain_machine.specs.declared.event.Actor.TheVariants as actor
use Rattle.plain_machine.specs.declared.reply.Reply.TheVariants as reply
use Rattle.world_core.specs.Row.{SimulatesWhereTold}
use Rattle.world_core.specs.StandsFor.{is_off}
use Rattle.world_core.specs.World.{World}
use Rattle.world_core.proofs.Rows.{row_refused, idle_core}
use Rattle.world_core.proofs.world.World.step.Goals as goal

pub returns-in-Task-clause-row : goal.returns-in-Task-clause-row
returns-in-Task-clause-row g c =
    subst (λ (x : Actor). SimulatesWhereTold (event.Step x) c.args.self.now c.step_task.new.self c.step_task.result (g.D.Disk.content c.args.disk.now) (g.D.Disk.content c.step_task.new.disk)) (sym c.in-Task.is) c.step_task.ensures.row

pub step_task-requires-clause-task : goal.step_task-requires-clause-task
step_task-requires-clause-task g c = subst IsFittingActor c.in-Task.is c.requires.actor

pub returns-in-Off-clause-row : goal.returns-in-Off-clause-row
returns-in-Off-clause-row g c =
    let still : SimulatesWhereTold (event.Step actor.Core) c.args.self.now c.args.self.now reply.Idle (g.D.Disk.content c.args.disk.now) (g.D.Disk.content c.args.disk.now) = λ k told.
    (k, told, row_refused (event.Step actor.Core) c.args.self.now reply.Idle k (λ a stands. idle_core c.args.self.now k a stands (⊎_elim (λ e. inl (ap is_off (sym (ap (λ (w : World). w.core) c.self.view_is) ∙ e.1))) (λ e. inr (⊎_elim (λ run. inl (sym (ap (λ (w : World). w.core) c.self.view_is) ∙ run)) (λ sleep. inr (sym (ap (λ (w : World). w.core) c.self.view_is) ∙ sleep)) e)) c.in-Off.is))) in
    subst (λ (x : Actor). SimulatesWhereTold (event.Step x) c.args.self.now c.args.self.now reply.Idle (g.D.Disk.content c.args.disk.now) (g.D.Disk.content c.args.disk.now)) (sym c.in-Core.is) still

pub returns-in-BootBegun-clause-row : goal.returns-in-BootBegun-clause-row
returns-in-BootBegun-clause-row g c =
    subst (λ (x : Actor). SimulatesWhereTold (event.Step x) c.args.self.now c.sync_for_boot.new.self c.sync_for_boot.result (g.D.Disk.content c.args.disk.now) (g.D.Disk.content c.sync_for_boot.new.disk)) (sym c.in-Core.is) c.sync_for_boot.ensures.stepped.row

pub returns-in-BootSynced-clause-row : goal.returns-in-BootSynced-clause-row
returns-in-BootSynced-clause-row g c =
    subst (λ (x : Actor). SimulatesWhereTold (event.Step x) c.args.self.now c.finish_boot.new.self c.finish_boot.result (g.D.Disk.content c.args.disk.now) (g.D.Disk.content c.finish_boot.new.disk)) (sym c.in-Core.is) c.finish_boot.ensures.stepped.row

pub returns-in-Hibernating-clause-row : goal.returns-in-Hibernating-clause-row
returns-in-Hibernating-clause-row g c =
    subst (λ (x : Actor). SimulatesWhereTold (event.Step x) c.args.self.now c.step_hibernation.new.self c.step_hibernation.result (g.D.Disk.content c.args.disk.now) (g.D.Disk.content c.step_hibernation.new.disk)) (sym c.in-Core.is) c.step_hibernation.ensures.stepped.row

pub returns-in-Waking-clause-row : goal.returns-in-Waking-clause-row
returns-in-Waking-clause-row g c =
    subst (λ (x : Actor). SimulatesWhereTold (event.Step x) c.args.self.now c.step_wake.new.self c.step_wake.result (g.D.Disk.content c.args.disk.now) (g.D.Disk.content c.step_wake.new.disk)) (sym c.in-Core.is) c.step_wake.ensures.stepped.row

pub returns-in-Loading-clause-row : goal.returns-in-Loading-clause-row
returns-in-Loading-clause-row g c =
    subst (λ (x : Actor). SimulatesWhereTold (event.Step x) c.args.self.now c.step_resume.new.self c.step_resume.result (g.D.Disk.content c.args.disk.now) (g.D.Disk.content c.step_resume.new.disk)) (sym c.in-Core.is) c.step_resume.ensures.stepped.row
