use Rattle.std.proofs.Common.{sym, subst}
use Rattle.plain_machine.specs.declared.event.Event.{Event}
use Rattle.world_core.specs.Row.{Simulates, SimulatesWhereTold, IsNoCut}
use Rattle.sector_disk.proofs.Time.{still, unread, inside}
use Rattle.world_core.proofs.world.World.event.Goals as goal

pub returns-in-Boot-clause-row : goal.returns-in-Boot-clause-row
returns-in-Boot-clause-row g c = λ k told. (k, told, subst (λ (e : Event). Simulates e c.args.self.now c.boot.new.self c.boot.result k k) (sym c.in-Boot.is) (c.boot.ensures.row k))

pub returns-in-Task-clause-row : goal.returns-in-Task-clause-row
returns-in-Task-clause-row g c = λ k told. (k, told, subst (λ (e : Event). Simulates e c.args.self.now c.task.new.self c.task.result k k) (sym c.in-Task.is) (c.task.ensures.row k))

pub returns-in-Step-clause-row : goal.returns-in-Step-clause-row
returns-in-Step-clause-row g c =
    subst (λ (e : Event). SimulatesWhereTold e c.args.self.now c.step.new.self c.step.result (g.D.Disk.content c.args.disk.now) (g.D.Disk.content c.step.new.disk)) (sym c.in-Step.is) c.step.ensures.row

pub returns-in-Hibernate-clause-row : goal.returns-in-Hibernate-clause-row
returns-in-Hibernate-clause-row g c = λ k told. (k, told, subst (λ (e : Event). Simulates e c.args.self.now c.begin.new.self c.begin.result k k) (sym c.in-Hibernate.is) (c.begin.ensures.row k))

pub returns-in-Suspend-clause-row : goal.returns-in-Suspend-clause-row
returns-in-Suspend-clause-row g c = λ k told. (k, told, subst (λ (e : Event). Simulates e c.args.self.now c.begin-in-Suspend.new.self c.begin-in-Suspend.result k k) (sym c.in-Suspend.is) (c.begin-in-Suspend.ensures.row k))

pub returns-in-Wake-clause-row : goal.returns-in-Wake-clause-row
returns-in-Wake-clause-row g c = λ k told. (k, told, subst (λ (e : Event). Simulates e c.args.self.now c.wake.new.self c.wake.result k k) (sym c.in-Wake.is) (c.wake.ensures.row k))

pub returns-in-Settle-clause-row : goal.returns-in-Settle-clause-row
returns-in-Settle-clause-row g c = λ k told. (k, told, subst (λ (e : Event). Simulates e c.args.self.now c.begin-in-Settle.new.self c.begin-in-Settle.result k k) (sym c.in-Settle.is) (c.begin-in-Settle.ensures.row k))

pub returns-in-Shrink-clause-row : goal.returns-in-Shrink-clause-row
returns-in-Shrink-clause-row g c = λ k told. (k, told, subst (λ (e : Event). Simulates e c.args.self.now c.shrink.new.self c.shrink.result k k) (sym c.in-Shrink.is) (c.shrink.ensures.row k))

pub returns-in-Arm-clause-row : goal.returns-in-Arm-clause-row
returns-in-Arm-clause-row g c =
    subst (λ (e : Event). SimulatesWhereTold e c.args.self.now c.args.self.now c.arm.result (g.D.Disk.content c.args.disk.now) (g.D.Disk.content c.arm.new.disk)) (sym c.in-Arm.is) c.arm.ensures.row

pub returns-in-Resume-clause-row : goal.returns-in-Resume-clause-row
returns-in-Resume-clause-row g c = λ k told. (k, told, subst (λ (e : Event). Simulates e c.args.self.now c.resume.new.self c.resume.result k k) (sym c.in-Resume.is) (c.resume.ensures.row k))

pub returns-in-Cut-clause-row : goal.returns-in-Cut-clause-row
returns-in-Cut-clause-row g c =
    subst (λ (e : Event). SimulatesWhereTold e c.args.self.now c.cut.new.self c.cut.result (g.D.Disk.content c.args.disk.now) (g.D.Disk.content c.cut.new.disk)) (sym c.in-Cut.is) c.cut.ensures.row

-- An event that calls no disk leaves what a crash might leave.

pub returns-in-Boot-clause-inside : goal.returns-in-Boot-clause-inside
returns-in-Boot-clause-inside g c = λ no tells v left. unread (g.D.Disk.moment c.args.disk.now) (g.D.Disk.left_since c.args.disk.now) (g.D.Disk.content c.args.disk.now) v (g.met.D.Disk.only_now c.args.disk.now v tells) left

pub returns-in-Task-clause-inside : goal.returns-in-Task-clause-inside
returns-in-Task-clause-inside g c = λ no tells v left. unread (g.D.Disk.moment c.args.disk.now) (g.D.Disk.left_since c.args.disk.now) (g.D.Disk.content c.args.disk.now) v (g.met.D.Disk.only_now c.args.disk.now v tells) left

pub returns-in-Hibernate-clause-inside : goal.returns-in-Hibernate-clause-inside
returns-in-Hibernate-clause-inside g c = λ no tells v left. unread (g.D.Disk.moment c.args.disk.now) (g.D.Disk.left_since c.args.disk.now) (g.D.Disk.content c.args.disk.now) v (g.met.D.Disk.only_now c.args.disk.now v tells) left

pub returns-in-Resume-clause-inside : goal.returns-in-Resume-clause-inside
returns-in-Resume-clause-inside g c = λ no tells v left. unread (g.D.Disk.moment c.args.disk.now) (g.D.Disk.left_since c.args.disk.now) (g.D.Disk.content c.args.disk.now) v (g.met.D.Disk.only_now c.args.disk.now v tells) left

pub returns-in-Suspend-clause-inside : goal.returns-in-Suspend-clause-inside
returns-in-Suspend-clause-inside g c = λ no tells v left. unread (g.D.Disk.moment c.args.disk.now) (g.D.Disk.left_since c.args.disk.now) (g.D.Disk.content c.args.disk.now) v (g.met.D.Disk.only_now c.args.disk.now v tells) left

pub returns-in-Wake-clause-inside : goal.returns-in-Wake-clause-inside
returns-in-Wake-clause-inside g c = λ no tells v left. unread (g.D.Disk.moment c.args.disk.now) (g.D.Disk.left_since c.args.disk.now) (g.D.Disk.content c.args.disk.now) v (g.met.D.Disk.only_now c.args.disk.now v tells) left

pub returns-in-Settle-clause-inside : goal.returns-in-Settle-clause-inside
returns-in-Settle-clause-inside g c = λ no tells v left. unread (g.D.Disk.moment c.args.disk.now) (g.D.Disk.left_since c.args.disk.now) (g.D.Disk.content c.args.disk.now) v (g.met.D.Disk.only_now c.args.disk.now v tells) left

pub returns-in-Shrink-clause-inside : goal.returns-in-Shrink-clause-inside
returns-in-Shrink-clause-inside g c = λ no tells v left. unread (g.D.Disk.moment c.args.disk.now) (g.D.Disk.left_since c.args.disk.now) (g.D.Disk.content c.args.disk.now) v (g.met.D.Disk.only_now c.args.disk.now v tells) left

pub returns-in-Arm-clause-inside : goal.returns-in-Arm-clause-inside
returns-in-Arm-clause-inside g c = λ no tells v left.
    inside (g.D.Disk.moment c.args.disk.now) (g.D.Disk.moment c.arm.new.disk) (g.D.Disk.left_since c.args.disk.now) (g.D.Disk.left_since c.arm.new.disk) (g.D.Disk.content c.args.disk.now) (g.D.Disk.content c.arm.new.disk) v
    (c.arm.ensures.time tells) (g.met.D.Disk.only_now c.args.disk.now v tells) left

pub returns-in-Step-clause-inside : goal.returns-in-Step-clause-inside
returns-in-Step-clause-inside g c = λ no tells v left.
    inside (g.D.Disk.moment c.args.disk.now) (g.D.Disk.moment c.step.new.disk) (g.D.Disk.left_since c.args.disk.now) (g.D.Disk.left_since c.step.new.disk) (g.D.Disk.content c.args.disk.now) (g.D.Disk.content c.step.new.disk) v
    (c.step.ensures.called.time tells) (g.met.D.Disk.only_now c.args.disk.now v tells) left

pub returns-in-Cut-clause-inside : goal.returns-in-Cut-clause-inside
returns-in-Cut-clause-inside g c = λ no. absurd (subst IsNoCut c.in-Cut.is no)

-- Over such an event time goes on as over one call.

pub returns-in-Boot-clause-time : goal.returns-in-Boot-clause-time
returns-in-Boot-clause-time g c = λ no tells. still (g.D.Disk.moment c.args.disk.now) (g.D.Disk.left_since c.args.disk.now) (g.D.Disk.content c.args.disk.now)

pub returns-in-Task-clause-time : goal.returns-in-Task-clause-time
returns-in-Task-clause-time g c = λ no tells. still (g.D.Disk.moment c.args.disk.now) (g.D.Disk.left_since c.args.disk.now) (g.D.Disk.content c.args.disk.now)

pub returns-in-Hibernate-clause-time : goal.returns-in-Hibernate-clause-time
returns-in-Hibernate-clause-time g c = λ no tells. still (g.D.Disk.moment c.args.disk.now) (g.D.Disk.left_since c.args.disk.now) (g.D.Disk.content c.args.disk.now)

pub returns-in-Suspend-clause-time : goal.returns-in-Suspend-clause-time
returns-in-Suspend-clause-time g c = λ no tells. still (g.D.Disk.moment c.args.disk.now) (g.D.Disk.left_since c.args.disk.now) (g.D.Disk.content c.args.disk.now)

pub returns-in-Wake-clause-time : goal.returns-in-Wake-clause-time
returns-in-Wake-clause-time g c = λ no tells. still (g.D.Disk.moment c.args.disk.now) (g.D.Disk.left_since c.args.disk.now) (g.D.Disk.content c.args.disk.now)

pub returns-in-Settle-clause-time : goal.returns-in-Settle-clause-time
returns-in-Settle-clause-time g c = λ no tells. still (g.D.Disk.moment c.args.disk.now) (g.D.Disk.left_since c.args.disk.now) (g.D.Disk.content c.args.disk.now)

pub returns-in-Shrink-clause-time : goal.returns-in-Shrink-clause-time
returns-in-Shrink-clause-time g c = λ no tells. still (g.D.Disk.moment c.args.disk.now) (g.D.Disk.left_since c.args.disk.now) (g.D.Disk.content c.args.disk.now)

pub returns-in-Resume-clause-time : goal.returns-in-Resume-clause-time
returns-in-Resume-clause-time g c = λ no tells. still (g.D.Disk.moment c.args.disk.now) (g.D.Disk.left_since c.args.disk.now) (g.D.Disk.content c.args.disk.now)

pub returns-in-Arm-clause-time : goal.returns-in-Arm-clause-time
returns-in-Arm-clause-time g c = λ no tells. c.arm.ensures.time tells

pub returns-in-Step-clause-time : goal.returns-in-Step-clause-time
returns-in-Step-clause-time g c = λ no tells. c.step.ensures.called.time tells

pub returns-in-Cut-clause-time : goal.returns-in-Cut-clause-time
returns-in-Cut-clause-time g c = λ no. absurd (subst IsNoCut c.in-Cut.is no)
