use Rattle.std.proofs.Common.{refl, sym, ap, ◌∙◌, subst}
use Rattle.hib_core.specs.Row.{event_of}
use Rattle.hib_core.proofs.Keeping.{unchanged_keeps}
use Rattle.plain_machine.specs.declared.reply.Reply.TheVariants as reply
use Rattle.world_core.specs.StandsFor.{is_off}
use Rattle.world_core.specs.World.{World}
use Rattle.world_core.proofs.Rows.{row_refused, job_not_on, frozen_job, sleeping_job, is_taken, busy_in, IsTaken}
use Rattle.world_core.proofs.world.World.begin.Goals as goal

pub returns-in-Off-clause-row : goal.returns-in-Off-clause-row
returns-in-Off-clause-row c = λ k.
    row_refused (event_of c.args.job) c.args.self.now reply.NotOn k (λ a stands. job_not_on c.args.self.now k a c.args.job (ap is_off (sym (ap (λ (w : World). w.core) c.self.view_is) ∙ c.in-Off.is)) stands)

pub returns-in-BootBegun : goal.returns-in-BootBegun
returns-in-BootBegun c =
    let core = ap (λ (w : World). w.core) c.self.view_is in
    let taken = is_taken c.self.inside.core c.in-BootBegun.is in
    let busy = busy_in c.self.inside c.args.self.now c.self.view_is c.self.invariant in
    record {
      row = λ k. row_refused (event_of c.args.job) c.args.self.now reply.Frozen k
          (λ a stands. frozen_job c.args.self.now k a c.args.job busy (subst IsTaken core taken) stands);
      cause = λ e. e;
      hardware = refl;
      blocks = refl;
      off = λ e. e;
      refused = λ r. record { machine = refl; frames = refl; core = refl };
      memory = unchanged_keeps c.args.self.now.machine.hw c.args.self.now.frames;
    }

pub returns-in-Off-clause-memory : goal.returns-in-Off-clause-memory
returns-in-Off-clause-memory c = unchanged_keeps c.args.self.now.machine.hw c.args.self.now.frames

pub returns-in-Asleep-clause-row : goal.returns-in-Asleep-clause-row
returns-in-Asleep-clause-row c = λ k. row_refused (event_of c.args.job) c.args.self.now reply.Sleeping k (λ a stands. sleeping_job c.args.self.now k a c.args.job (sym (ap (λ (w : World). w.core) c.self.view_is) ∙ c.in-Asleep.is) stands)

pub returns-in-Asleep-clause-memory : goal.returns-in-Asleep-clause-memory
returns-in-Asleep-clause-memory c = unchanged_keeps c.args.self.now.machine.hw c.args.self.now.frames
