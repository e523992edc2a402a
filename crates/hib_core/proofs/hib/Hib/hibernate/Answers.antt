use Rattle.hib_core.proofs.Leaving.{begins_image}
-- A hibernation begins, or is refused, in each state that is stood for.
use Rattle.std.proofs.Common.{◌<◌, ◌^◌, inl, sym, ap, subst, arith}
use Rattle.plain_machine.specs.declared.reply.Reply.{Reply}
use Rattle.hib_core.specs.Ready.{is_busy_at}
use Rattle.hib_core.specs.Row.{IsBegun, saving}
use Rattle.hib_core.specs.declared.hib.Hib.{Hib}
use Rattle.hib_core.proofs.BeginRows.{IsBegin, begun_row, can_step, refused_row}
use Rattle.hib_core.proofs.hib.Hib.hibernate.Goals as goal

pub returns-in-Ok-clause-row : goal.returns-in-Ok-clause-row
returns-in-Ok-clause-row c = λ k.
    let is : IsBegin c.args.machine.now c.args.frames.now c.take.new.frames c.accept.new.self c.take.new.self c.in-Ok.counts c.args.ending = record {
      hardware = c.is_hardware.ensures.hardware;
      size = c.requires.ready.run.size;
      counted = c.in-Ok.ensures.counted;
      taken = c.take.ensures.taken;
    } in
    subst (λ (r : Reply). IsBegun c.args.machine.now c.args.frames.now c.take.new.frames c.take.new.self (saving c.args.ending c.args.format) r k) (sym c.take.ensures.reply)
    (begun_row c.args.machine.now c.args.frames.now c.take.new.frames c.accept.new.self c.take.new.self c.in-Ok.counts c.args.ending c.args.format k is c.in-Ok.ensures.format)

pub returns-in-Ok-clause-ready : goal.returns-in-Ok-clause-ready
returns-in-Ok-clause-ready c = λ busy.
    let is : IsBegin c.args.machine.now c.args.frames.now c.take.new.frames c.accept.new.self c.take.new.self c.in-Ok.counts c.args.ending = record {
      hardware = c.is_hardware.ensures.hardware;
      size = c.requires.ready.run.size;
      counted = c.in-Ok.ensures.counted;
      taken = c.take.ensures.taken;
    } in
    let few : c.args.machine.now.blocks < 2 ^ 32 = omega arith in
    can_step c.args.machine.now c.args.frames.now c.take.new.frames c.take.new.runs c.accept.new.self c.take.new.self c.in-Ok.counts c.args.ending is c.requires.ready.run.usable few c.take.ensures.size c.take.ensures.matches

pub returns-in-Err-clause-row : goal.returns-in-Err-clause-row
returns-in-Err-clause-row c = λ k.
    refused_row c.args.machine.now c.args.frames.now c.accept.new.self c.args.ending c.args.format c.in-Err.reply k c.in-Err.ensures.refused (ap (λ (hib : Hib). hib.stage) c.accept.ensures.hib)

pub returns-in-Err-clause-ready : goal.returns-in-Err-clause-ready
returns-in-Err-clause-ready c = λ busy. absurd (subst is_busy_at (ap (λ (hib : Hib). hib.stage) c.accept.ensures.hib) busy)

pub returns-in-Ok-clause-memory : goal.returns-in-Ok-clause-memory
returns-in-Ok-clause-memory c = inl (begins_image c.args.machine.now c.args.frames.now c.take.new.frames c.accept.new.self c.take.new.self c.in-Ok.counts c.args.ending c.take.ensures.taken)
