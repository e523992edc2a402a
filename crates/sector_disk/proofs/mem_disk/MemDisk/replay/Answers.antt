use Rattle.std.proofs.Common.{◌∙◌, length, ap, arith, ◌↔◌, sym, subst}
use Rattle.std.proofs.lemmas.List.{with_items_is}
use Rattle.sector_disk.proofs.Recordings.{kept_lent, durable_kept_whole, live_kept_whole, outside_nothing}
use Rattle.sector_disk.proofs.Padded.{all_kept_of}
use Rattle.sector_disk.specs.Calls.{IsDue}
use Rattle.sector_disk.specs.declared.calls.Calls.{Calls}
use Rattle.sector_disk.proofs.mem_disk.MemDisk.replay.Goals as goal

pub returns-clause-kept : goal.returns-clause-kept
returns-clause-kept c =
    all_kept_of c.args.self.now.blocks c.keep_up_to.new.self.blocks c.args.start.now c.args.log.now _ _ c.keep_up_to.ensures.blocks c.requires.start c.requires.pages
    (kept_lent c.args.self.now.blocks c.args.start.now c.args.log.now c.deref_mut.result.now c.deref_mut-2.result.now c.redo_all.new.durable c.redo_all.new.live _ _ c.requires.start c.requires.pages
    (c.deref_mut.ensures.value ∙ c.copy_from_slice.ensures.items) (c.deref_mut-2.ensures.value ∙ c.copy_from_slice-2.ensures.items)
    (with_items_is c.copy_from_slice.new.self c.redo_all.new.durable (omega arith)) (with_items_is c.copy_from_slice-2.new.self c.redo_all.new.live (omega arith)) c.redo_all.ensures)

pub invariant_of-self-clause-durable_whole : goal.invariant_of-self-clause-durable_whole
invariant_of-self-clause-durable_whole c =
    (durable_kept_whole c.args.self.now.blocks c.args.start.now c.args.log.now _ _ c.requires.start c.requires.pages
    (kept_lent c.args.self.now.blocks c.args.start.now c.args.log.now c.deref_mut.result.now c.deref_mut-2.result.now c.redo_all.new.durable c.redo_all.new.live _ _ c.requires.start c.requires.pages
    (c.deref_mut.ensures.value ∙ c.copy_from_slice.ensures.items) (c.deref_mut-2.ensures.value ∙ c.copy_from_slice-2.ensures.items)
    (with_items_is c.copy_from_slice.new.self c.redo_all.new.durable (omega arith)) (with_items_is c.copy_from_slice-2.new.self c.redo_all.new.live (omega arith)) c.redo_all.ensures)).whole

pub invariant_of-self-clause-live_whole : goal.invariant_of-self-clause-live_whole
invariant_of-self-clause-live_whole c =
    (live_kept_whole c.args.self.now.blocks c.args.start.now c.args.log.now _ _ c.requires.start c.requires.pages
    (kept_lent c.args.self.now.blocks c.args.start.now c.args.log.now c.deref_mut.result.now c.deref_mut-2.result.now c.redo_all.new.durable c.redo_all.new.live _ _ c.requires.start c.requires.pages
    (c.deref_mut.ensures.value ∙ c.copy_from_slice.ensures.items) (c.deref_mut-2.ensures.value ∙ c.copy_from_slice-2.ensures.items)
    (with_items_is c.copy_from_slice.new.self c.redo_all.new.durable (omega arith)) (with_items_is c.copy_from_slice-2.new.self c.redo_all.new.live (omega arith)) c.redo_all.ensures)).whole

pub invariant_of-self-clause-synced : goal.invariant_of-self-clause-synced
invariant_of-self-clause-synced c =
    outside_nothing c.len-self.result c.redo_all.new.durable c.redo_all.new.live _ _
    (with_items_is c.copy_from_slice.new.self c.redo_all.new.durable (omega arith)) (with_items_is c.copy_from_slice-2.new.self c.redo_all.new.live (omega arith)) (omega arith) (omega arith)

pub invariant_of-self-clause-whole_blocks : goal.invariant_of-self-clause-whole_blocks
invariant_of-self-clause-whole_blocks c =
    omega (
      arith,
      (live_kept_whole c.args.self.now.blocks c.args.start.now c.args.log.now _ _ c.requires.start c.requires.pages
          (kept_lent c.args.self.now.blocks c.args.start.now c.args.log.now c.deref_mut.result.now c.deref_mut-2.result.now c.redo_all.new.durable c.redo_all.new.live _ _ c.requires.start c.requires.pages
          (c.deref_mut.ensures.value ∙ c.copy_from_slice.ensures.items) (c.deref_mut-2.ensures.value ∙ c.copy_from_slice-2.ensures.items)
          (with_items_is c.copy_from_slice.new.self c.redo_all.new.durable (omega arith)) (with_items_is c.copy_from_slice-2.new.self c.redo_all.new.live (omega arith)) c.redo_all.ensures)).size,
    )

pub invariant_of-self-clause-within : goal.invariant_of-self-clause-within
invariant_of-self-clause-within c =
    omega (
      arith,
      c.keep_up_to.ensures.blocks,
      (live_kept_whole c.args.self.now.blocks c.args.start.now c.args.log.now _ _ c.requires.start c.requires.pages
          (kept_lent c.args.self.now.blocks c.args.start.now c.args.log.now c.deref_mut.result.now c.deref_mut-2.result.now c.redo_all.new.durable c.redo_all.new.live _ _ c.requires.start c.requires.pages
          (c.deref_mut.ensures.value ∙ c.copy_from_slice.ensures.items) (c.deref_mut-2.ensures.value ∙ c.copy_from_slice-2.ensures.items)
          (with_items_is c.copy_from_slice.new.self c.redo_all.new.durable (omega arith)) (with_items_is c.copy_from_slice-2.new.self c.redo_all.new.live (omega arith)) c.redo_all.ensures)).size,
    )

pub invariant_of-self-clause-ends : goal.invariant_of-self-clause-ends
invariant_of-self-clause-ends c =
    omega (arith, c.len-self.ensures, ap length (with_items_is c.copy_from_slice-2.new.self c.redo_all.new.live (omega arith)))

pub returns-clause-armed : goal.returns-clause-armed
returns-clause-armed c = record {
  calls = λ k. subst (λ (x : Calls). IsDue x k ↔ IsDue c.args.self.now.calls k) (sym c.keep_up_to.ensures.calls) (λ h. h, λ h. h);
  pick = ap (λ (x : Calls). x.pick) c.keep_up_to.ensures.calls;
}

pub returns-clause-calls : goal.returns-clause-calls
returns-clause-calls c = ap (λ (x : Calls). x.made) c.keep_up_to.ensures.calls

pub returns-clause-faults : goal.returns-clause-faults
returns-clause-faults c = ap (λ (x : Calls). x.faults) c.keep_up_to.ensures.calls
