use Rattle.std.proofs.Common.{◌≡◌, ◌⊎◌, inl, inr, ◌∙◌, true, arith, refl, sym, ap}
use Rattle.std.proofs.lemmas.Bool.{false≢true}
use Rattle.plain_machine.specs.declared.event.Actor.TheVariants as actor
use Rattle.plain_machine.specs.declared.event.Event.TheVariants as event
use Rattle.protocol_laws.specs.Rows.{TellsNewFault}
use Rattle.command_core.proofs.Playing.{played_one}
use Rattle.command_core.proofs.Counting.{risen_then}
use Rattle.command_core.specs.Runs.{goes_on}
use Rattle.command_core.proofs.Closer.{calls_cost, calls_of_all, work_less}
use Rattle.command_core.proofs.Runs.{goes_first, goes_then, finishes}
use Rattle.command_core.proofs.ending.finish.Goals as goal

pub loop-reply-init : goal.loop-reply-init
loop-reply-init g c = record {
  hardware = refl;
  blocks = c.requires.blocks;
  cause = λ is. absurd (false≢true is);
  faults = omega arith;
  ran = goes_first g.D.Disk c.args.world.now c.args.begun c.args.disk.now;
  orders = refl;
  cost = omega arith;
  none = λ stops. (refl, refl);
}

pub loop-reply-preserved-then-failed : goal.loop-reply-preserved-then-failed
loop-reply-preserved-then-failed g c =
    let inv = c.loop-reply.invariant in
    let row = c.event-reply.ensures in
    let r = c.event-reply.result in
    let going = sym c.goes_on.ensures ∙ c.loop-reply-test.true in
    let later = row.faults in
    let so_far = inv.faults in
    let either : c.loop-reply.failed ≡ true → (c.loop-reply.failed ≡ true) ⊎ TellsNewFault r = λ is. inl is in
    record {
      hardware = row.hardware ∙ inv.hardware;
      blocks = row.blocks;
      cause = λ is. risen_then (c.loop-reply.failed ≡ true) (TellsNewFault r) (g.D.Disk.faults c.args.disk.now) (g.D.Disk.faults c.loop-reply.disk) (g.D.Disk.faults c.event-reply.new.disk) so_far later inv.cause row.cause (either is);
      faults = omega arith;
      ran = goes_then g.D.Disk c.args.world.now c.loop-reply.world c.event-reply.new.self c.args.begun c.loop-reply.reply r c.loop-reply.failed c.loop-reply.failed c.args.disk.now c.loop-reply.disk c.event-reply.new.disk inv.ran
          going (λ is. is) (λ is. c.if-failed.true) either
          (played_one g.D.Disk c.loop-reply.world c.event-reply.new.self (event.Step actor.Core) r c.loop-reply.disk c.event-reply.new.disk (g.met.D.Disk.well_formed c.event-reply.new.disk) tt row.hardware row.row row.restored row.cause row.faults row.calls row.telling row.time);
      orders = row.orders ∙ inv.orders;
      cost = let before = inv.cost in let now = calls_cost c.loop-reply.world c.event-reply.new.self r (g.D.Disk.calls c.loop-reply.disk) (g.D.Disk.calls c.event-reply.new.disk) row.ends row.calls in omega arith;
      none = λ stops. absurd (false≢true (sym (ap goes_on (inv.none stops).0 ∙ stops) ∙ going));
    }

pub loop-reply-preserved : goal.loop-reply-preserved
loop-reply-preserved g c =
    let inv = c.loop-reply.invariant in
    let row = c.event-reply.ensures in
    let r = c.event-reply.result in
    let going = sym c.goes_on.ensures ∙ c.loop-reply-test.true in
    let later = row.faults in
    let so_far = inv.faults in
    let either : c.is_new_fault-failed.result ≡ true → (c.loop-reply.failed ≡ true) ⊎ TellsNewFault r = λ is. inr (c.is_new_fault-failed.ensures.0 is) in
    record {
      hardware = row.hardware ∙ inv.hardware;
      blocks = row.blocks;
      cause = λ is. risen_then (c.loop-reply.failed ≡ true) (TellsNewFault r) (g.D.Disk.faults c.args.disk.now) (g.D.Disk.faults c.loop-reply.disk) (g.D.Disk.faults c.event-reply.new.disk) so_far later inv.cause row.cause (either is);
      faults = omega arith;
      ran = goes_then g.D.Disk c.args.world.now c.loop-reply.world c.event-reply.new.self c.args.begun c.loop-reply.reply r c.loop-reply.failed c.is_new_fault-failed.result c.args.disk.now c.loop-reply.disk c.event-reply.new.disk inv.ran
          going (λ is. absurd (false≢true (sym c.if-failed.false ∙ is))) (λ is. c.is_new_fault-failed.ensures.1 is) either
          (played_one g.D.Disk c.loop-reply.world c.event-reply.new.self (event.Step actor.Core) r c.loop-reply.disk c.event-reply.new.disk (g.met.D.Disk.well_formed c.event-reply.new.disk) tt row.hardware row.row row.restored row.cause row.faults row.calls row.telling row.time);
      orders = row.orders ∙ inv.orders;
      cost = let before = inv.cost in let now = calls_cost c.loop-reply.world c.event-reply.new.self r (g.D.Disk.calls c.loop-reply.disk) (g.D.Disk.calls c.event-reply.new.disk) row.ends row.calls in omega arith;
      none = λ stops. absurd (false≢true (sym (ap goes_on (inv.none stops).0 ∙ stops) ∙ going));
    }

pub loop-reply-smaller : goal.loop-reply-smaller
loop-reply-smaller g c = work_less c.loop-reply.world c.event-reply.new.self c.loop-reply.reply c.event-reply.result (sym c.goes_on.ensures ∙ c.loop-reply-test.true) c.event-reply.ensures.ends

pub loop-reply-smaller-then-failed : goal.loop-reply-smaller-then-failed
loop-reply-smaller-then-failed g c = work_less c.loop-reply.world c.event-reply.new.self c.loop-reply.reply c.event-reply.result (sym c.goes_on.ensures ∙ c.loop-reply-test.true) c.event-reply.ensures.ends

pub returns-clause-ran : goal.returns-clause-ran
returns-clause-ran g c =
    finishes g.D.Disk c.args.world.now c.loop-reply.world c.args.begun (record { reply = c.loop-reply.reply; failed = c.loop-reply.failed }) c.args.disk.now c.loop-reply.disk c.loop-reply.invariant.ran
    (sym c.goes_on.ensures ∙ c.loop-reply-test.false)

pub returns-clause-calls : goal.returns-clause-calls
returns-clause-calls g c = calls_of_all c.args.world.now c.loop-reply.world c.args.begun (g.D.Disk.calls c.args.disk.now) (g.D.Disk.calls c.loop-reply.disk) c.loop-reply.invariant.cost (λ stops. (c.loop-reply.invariant.none stops).1)
