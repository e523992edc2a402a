use Rattle.std.proofs.Common.{◌*◌, sym, subst, ap, arith}
use Rattle.std.proofs.lemmas.List.{with_items_is}
use Rattle.sector_disk.specs.Calls.{TakesTurn}
use Rattle.sector_disk.specs.declared.calls.Calls.{Calls}
use Rattle.sector_disk.proofs.Contents.{on_ok, on_err}
use Rattle.sector_disk.proofs.Padded.{writes_first, fails_first, picked_first}
use Rattle.sector_disk.proofs.mem_disk.MemDiskDisk.write.Goals as goal

pub returns-in-Ok-clause-written : goal.returns-in-Ok-clause-written
returns-in-Ok-clause-written c =
    let d = c.keep_up_to.new.self in
    on_ok c.take_turn-answer.result
    (writes_first (8 * d.blocks) c.args.b c.args.from.now d.durable.items d.live.items c.deref_mut.result.now c.write_block.new.sectors _ _ _ c.deref_mut.ensures.value
    (with_items_is d.live c.write_block.new.sectors (omega (arith, c.write_block.ensures.others.size, c.deref_mut.ensures.len)))
    d.same_length d.within c.keep_up_to.ensures.kept c.keep_up_to.ensures.durable c.keep_up_to.ensures.live c.write_block.ensures.others c.write_block.ensures.within)

pub returns-in-Ok-clause-called : goal.returns-in-Ok-clause-called
returns-in-Ok-clause-called c =
    let turn = subst (λ (x : Calls). TakesTurn x c.take_turn-answer.new.self c.take_turn-answer.result) c.keep_up_to.ensures.calls c.take_turn-answer.ensures.turn in
    record {
      fails = turn.fails;
      later = turn.later;
      pick = turn.pick;
      faults = omega (arith, c.take_turn-answer.ensures.faults, ap (λ (x : Calls). x.faults) c.keep_up_to.ensures.calls);
      fault = turn.fault;
      no_fault = turn.no_fault;
      calls = turn.made;
      orders = c.keep_up_to.ensures.orders;
      blocks = c.keep_up_to.ensures.blocks;
    }

pub returns-in-Err-clause-failed : goal.returns-in-Err-clause-failed
returns-in-Err-clause-failed c =
    let d = c.keep_up_to.new.self in
    on_err c.take_turn-answer.result
    (fails_first (8 * d.blocks) _ c.args.b c.args.from.now d.durable.items d.live.items c.deref_mut-in-Err.result.now c.write_picked.new.sectors _ _ _ c.deref_mut-in-Err.ensures.value
    (with_items_is d.live c.write_picked.new.sectors (omega (arith, c.write_picked.ensures.others.size, c.deref_mut-in-Err.ensures.len)))
    d.same_length d.within c.keep_up_to.ensures.kept c.keep_up_to.ensures.durable c.keep_up_to.ensures.live c.write_picked.ensures.others c.write_picked.ensures.within)

pub returns-in-Err-clause-picked : goal.returns-in-Err-clause-picked
returns-in-Err-clause-picked c =
    let d = c.keep_up_to.new.self in
    let turn = subst (λ (x : Calls). TakesTurn x c.take_turn-answer.new.self c.take_turn-answer.result) c.keep_up_to.ensures.calls c.take_turn-answer.ensures.turn in
    on_err c.take_turn-answer.result
    (rw (sym turn.pick)
    (picked_first (8 * d.blocks) _ c.args.b c.args.from.now d.live.items c.deref_mut-in-Err.result.now c.write_picked.new.sectors _ _ c.deref_mut-in-Err.ensures.value
    (with_items_is d.live c.write_picked.new.sectors (omega (arith, c.write_picked.ensures.others.size, c.deref_mut-in-Err.ensures.len)))
    c.write_picked.ensures.others.size c.keep_up_to.ensures.kept c.keep_up_to.ensures.live c.write_picked.ensures.within))

pub returns-in-Err-clause-called : goal.returns-in-Err-clause-called
returns-in-Err-clause-called c =
    let turn = subst (λ (x : Calls). TakesTurn x c.take_turn-answer.new.self c.take_turn-answer.result) c.keep_up_to.ensures.calls c.take_turn-answer.ensures.turn in
    record {
      fails = turn.fails;
      later = turn.later;
      pick = turn.pick;
      faults = omega (arith, c.take_turn-answer.ensures.faults, ap (λ (x : Calls). x.faults) c.keep_up_to.ensures.calls);
      fault = turn.fault;
      no_fault = turn.no_fault;
      calls = turn.made;
      orders = c.keep_up_to.ensures.orders;
      blocks = c.keep_up_to.ensures.blocks;
    }
