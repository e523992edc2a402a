use Rattle.std.proofs.Common.{sym, subst}
use Rattle.hib_core.specs.Row.{IsBegun}
use Rattle.hib_core.specs.declared.hib.Job.{Job}
use Rattle.hib_core.proofs.hib.Hib.begin.Goals as goal

pub returns-in-Hibernate-clause-row : goal.returns-in-Hibernate-clause-row
returns-in-Hibernate-clause-row c = λ k.
    subst (λ (j : Job). IsBegun c.args.machine.now c.args.frames.now c.hibernate.new.frames c.hibernate.new.self j c.hibernate.result k) (sym c.in-Hibernate.is) (c.hibernate.ensures.row k)

pub returns-in-Suspend-clause-row : goal.returns-in-Suspend-clause-row
returns-in-Suspend-clause-row c = λ k.
    subst (λ (j : Job). IsBegun c.args.machine.now c.args.frames.now c.hibernate-in-Suspend.new.frames c.hibernate-in-Suspend.new.self j c.hibernate-in-Suspend.result k) (sym c.in-Suspend.is) (c.hibernate-in-Suspend.ensures.row k)

pub returns-in-Settle-clause-row : goal.returns-in-Settle-clause-row
returns-in-Settle-clause-row c = λ k. subst (λ (j : Job). IsBegun c.args.machine.now c.args.frames.now c.args.frames.now c.settle.new.self j c.settle.result k) (sym c.in-Settle.is) (c.settle.ensures.row k)
