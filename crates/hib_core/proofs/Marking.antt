-- The rows of the mark, and of its sync.
use Rattle.protocol_laws.proofs.Unwritten.{block_same, block_synced, unwritten_mark}
use Rattle.std.proofs.Common.{◌≡◌, true, false, ℕ, ◌+◌, List, None, inl, inr, refl, sym, ap, ◌∙◌, subst}
use Rattle.definitions.specs.Disk as disk
use Rattle.definitions.specs.SwapHeader.{marked}
use Rattle.swap_slots.specs.Runs.{SlotRuns}
use Rattle.page_core.specs.declared.format.Format.{Format}
use Rattle.plain_machine.specs.Machine.{Memory, block_of_slot, unused_slots}
use Rattle.plain_machine.specs.Image.{Image, hibernate_steps}
use Rattle.plain_machine.specs.Image.{laid_block}
use Rattle.plain_machine.specs.Shows.{hibernates}
use Rattle.plain_machine.specs.State.{off, hibernating, undoing, asleep, Running, sure, own}
use Rattle.plain_machine.specs.Step.{Step}
use Rattle.plain_machine.specs.declared.event.Event.TheVariants as event
use Rattle.plain_machine.specs.declared.event.Actor.TheVariants as actor
use Rattle.plain_machine.specs.declared.reply.Reply.TheVariants as reply
use Rattle.plain_machine.specs.declared.reply.UndoCall.TheVariants as undo
use Rattle.image_laws.specs.ImageBlocks.{Tries}
use Rattle.protocol_laws.specs.Rows.{IsSameArea}
use Rattle.protocol_laws.specs.Steps.{marked_header}
use Rattle.plain_machine.specs.Mark.{mark_flags}
use Rattle.protocol_laws.proofs.Back.{names_laid}
use Rattle.protocol_laws.proofs.Ending.{ends_asleep, end_leaves, ends, end_fails}
use Rattle.machine.specs.declared.machine.Machine.{Machine}
use Rattle.unmark.specs.Unmarking.{from_write}
use Rattle.hib_core.specs.Hibernation.{shown_by, suspends_at, activity_at, activity_of, header_at}
use Rattle.hib_core.specs.Ready.{CanStep}
use Rattle.hib_core.specs.Row.{HibernationStandsFor, IsOf, Simulates, IsSavingOf}
use Rattle.hib_core.specs.declared.hib.Ending.{Ending}
use Rattle.hib_core.specs.declared.hib.Ending.TheVariants as ending
use Rattle.hib_core.specs.declared.hib.Hib.{Hib}
use Rattle.hib_core.specs.declared.hib.Stage.TheVariants as stage
use Rattle.hib_core.proofs.Facts.{is_over, row_at_hibernation, still_of, numbers_at, after_step, next_at, still_saving}
use Rattle.hib_core.proofs.Plain.{may_mark, mark_may_fail, may_end, may_sleep, end_may_fail}
use Rattle.protocol_laws.proofs.AreaKept.{kept_by_sync, kept_by_mark}
use Rattle.protocol_laws.proofs.Marked.{marks_on, mark_fails}
use Rattle.protocol_laws.proofs.Syncing.{marks_unmarked}
use Rattle.hib_core.proofs.Syncing.{more_of, gone_on}
use Rattle.hib_core.specs.declared.hib.Saving.{Saving}
use Rattle.protocol_laws.proofs.Same.{same_area}

-- the header block with the mark of the hibernation's image
abbrev pub mark_of : Machine → Hib → Saving → List ℕ → List ℕ
mark_of machine hib saving header = marked header saving.first (mark_flags hib.snapshot.format) machine.hw.hw_sig

mark_is : (machine : Machine) (frames : Memory) (hib : Hib) (saving : Saving) (header : List ℕ) (a : Running) (i : Image) → hib.stage ≡ stage.Mark saving header → IsOf machine.hw frames hib a i → mark_of machine hib saving header ≡ marked_header machine.hw a i (header_at hib.stage)
mark_is machine frames hib saving header a i at of =
    let numbers : IsSavingOf machine.hw a i saving = numbers_at machine.hw frames hib a i (stage.Mark saving header) at of in
    ap (λ (n : ℕ). marked header n (mark_flags hib.snapshot.format) machine.hw.hw_sig) numbers.first
    ∙ ap (λ (f : Format). marked header (laid_block machine.hw.extents (unused_slots machine.hw a.memory) 0) (mark_flags f) machine.hw.hw_sig) of.format
    ∙ ap (marked_header machine.hw a i) (sym (ap header_at at))

-- the write of the mark leaves the area, failed or not
mark_keeps : (machine : Machine) (frames : Memory) (runs : SlotRuns) (hib : Hib) (saving : Saving) (header : List ℕ) (c c' : disk.Content) (i : Image) (a : Running) → CanStep machine frames runs hib → hib.stage ≡ stage.Mark saving header → disk.IsContent machine.blocks c → saving.done + 2 ≡ hibernate_steps i →
    HibernationStandsFor machine frames hib c (hibernating (suspends_at saving.ending) i a saving.done) → Tries (block_of_slot machine.hw 0) (mark_of machine hib saving header) c c' → IsSameArea machine.hw (disk.as_it_reads c) (disk.as_it_reads c')
mark_keeps machine frames runs hib saving header c c' i a can at whole place s tries =
    let before = marks_unmarked machine.hw (shown_by machine frames hib) c machine.blocks (suspends_at saving.ending) i a saving.done whole s.stands place in
    kept_by_mark machine.hw machine.blocks saving.first (mark_flags hib.snapshot.format) machine.hw.hw_sig c c' whole can.header before.1
    (subst (λ (p : List ℕ). Tries (block_of_slot machine.hw 0) (marked p saving.first (mark_flags hib.snapshot.format) machine.hw.hw_sig) c c') (sym (ap header_at at) ∙ before.0) tries)

pub marked_row : (machine : Machine) (frames : Memory) (runs : SlotRuns) (hib : Hib) (saving : Saving) (header : List ℕ) (c c' : disk.Content) → CanStep machine frames runs hib → hib.stage ≡ stage.Mark saving header → disk.IsContent machine.blocks c → disk.IsContent machine.blocks c' → disk.Writes (block_of_slot machine.hw 0) (mark_of machine hib saving header) c c' →
    Simulates machine frames hib machine frames (gone_on hib (stage.End (after_step saving) (mark_of machine hib saving header))) (event.Step actor.Core) (reply.More (saving.done + 1) saving.steps) c c'
marked_row machine frames runs hib saving header c c' can at whole whole' writes =
    let new = gone_on hib (stage.End (after_step saving) (mark_of machine hib saving header)) in
    row_at_hibernation machine frames hib machine frames new (event.Step actor.Core) (reply.More (saving.done + 1) saving.steps) c c' (suspends_at saving.ending) saving.done (ap activity_at at)
    (λ i a s.
    let of = s.image in
    let numbers : IsSavingOf machine.hw a i saving = numbers_at machine.hw frames hib a i (stage.Mark saving header) at of in
    let place : saving.done + 2 ≡ hibernate_steps i = next_at machine frames runs hib (stage.Mark saving header) at can ∙ numbers.steps in
    let is = mark_is machine frames hib saving header a i at of in (
      hibernating (suspends_at saving.ending) i a (saving.done + 1),
      record {
        step = more_of machine.hw (disk.as_it_reads c) (suspends_at saving.ending) i a saving.done saving.steps numbers.steps (may_mark machine.hw (disk.as_it_reads c) (suspends_at saving.ending) i a saving.done place);
        stands = record {
          stands = marks_on machine.hw (shown_by machine frames hib) (shown_by machine frames new) c c' machine.blocks (suspends_at saving.ending) i a saving.done (is_over machine frames runs hib c a i can whole of) whole' s.stands place
              (subst (λ (p : List ℕ). disk.Writes (block_of_slot machine.hw 0) p c c') is writes) is refl (record { shows = s.stands.parts.behind.memory; names = s.stands.parts.names; copies = s.stands.parts.written.copies });
          image = still_of machine.hw frames frames hib a i (stage.End (after_step saving) (mark_of machine hib saving header)) (still_saving machine.hw a i saving numbers) of;
        };
        area = mark_keeps machine frames runs hib saving header c c' i a can at whole place s (inl writes);
        unwritten = λ b not. unwritten_mark machine.hw a i saving.done b c c' place writes.others not;
        leaves = tt;
        header = tt;
      },
    ))

pub mark_failed_row : (machine : Machine) (frames : Memory) (runs : SlotRuns) (hib : Hib) (saving : Saving) (header : List ℕ) (c c' : disk.Content) → CanStep machine frames runs hib → hib.stage ≡ stage.Mark saving header → disk.IsContent machine.blocks c → disk.IsContent machine.blocks c' → disk.FailsToWrite (block_of_slot machine.hw 0) (mark_of machine hib saving header) c c' →
    Simulates machine frames hib machine frames (gone_on hib (stage.Undo undo.Write (from_write (mark_of machine hib saving header)))) (event.Step actor.Core) (reply.Undo undo.Write 0) c c'
mark_failed_row machine frames runs hib saving header c c' can at whole whole' fails =
    let new = gone_on hib (stage.Undo undo.Write (from_write (mark_of machine hib saving header))) in
    row_at_hibernation machine frames hib machine frames new (event.Step actor.Core) (reply.Undo undo.Write 0) c c' (suspends_at saving.ending) saving.done (ap activity_at at)
    (λ i a s.
    let of = s.image in
    let numbers : IsSavingOf machine.hw a i saving = numbers_at machine.hw frames hib a i (stage.Mark saving header) at of in
    let place : saving.done + 2 ≡ hibernate_steps i = next_at machine frames runs hib (stage.Mark saving header) at can ∙ numbers.steps in
    let is = mark_is machine frames hib saving header a i at of in (
      undoing i undo.Write a 0,
      record {
        step = mark_may_fail machine.hw (disk.as_it_reads c) (suspends_at saving.ending) i a saving.done place;
        stands = record {
          stands = mark_fails machine.hw (shown_by machine frames hib) (shown_by machine frames new) c c' machine.blocks (suspends_at saving.ending) i a saving.done (is_over machine frames runs hib c a i can whole of) whole' s.stands place
              (subst (λ (p : List ℕ). disk.FailsToWrite (block_of_slot machine.hw 0) p c c') is fails) is refl (record { shows = s.stands.parts.behind.memory; names = s.stands.parts.names; copies = s.stands.parts.written.copies });
          image = still_of machine.hw frames frames hib a i (stage.Undo undo.Write (from_write (mark_of machine hib saving header))) tt of;
        };
        area = mark_keeps machine frames runs hib saving header c c' i a can at whole place s (inr fails);
        unwritten = λ b not. unwritten_mark machine.hw a i saving.done b c c' place fails.others not;
        leaves = tt;
        header = tt;
      },
    ))

-- what a hibernation that ends so is at before its last step
at_last : (hib : Hib) (saving : Saving) (header : List ℕ) (last : Ending) → hib.stage ≡ stage.End saving header → saving.ending ≡ last → activity_of hib ≡ hibernates (suspends_at last) saving.done
at_last hib saving header last at is = ap activity_at at ∙ ap (λ (e : Ending). hibernates (suspends_at e) saving.done) is

pub ended_row : (machine : Machine) (frames : Memory) (runs : SlotRuns) (hib : Hib) (saving : Saving) (header : List ℕ) (c c' : disk.Content) → CanStep machine frames runs hib → hib.stage ≡ stage.End saving header → saving.ending ≡ ending.SwitchesOff → disk.IsContent machine.blocks c → disk.Syncs c c' →
    Simulates machine frames hib machine frames (record hib { stage = stage.Over }) (event.Step actor.Core) (reply.Hibernated saving.saved) c c'
ended_row machine frames runs hib saving header c c' can at off_then whole syncs =
    let new = record hib { stage = stage.Over } in
    row_at_hibernation machine frames hib machine frames new (event.Step actor.Core) (reply.Hibernated saving.saved) c c' false saving.done (at_last hib saving header ending.SwitchesOff at off_then)
    (λ i a s.
    let of = s.image in
    let numbers : IsSavingOf machine.hw a i saving = numbers_at machine.hw frames hib a i (stage.End saving header) at of in
    let place : saving.done + 1 ≡ hibernate_steps i = next_at machine frames runs hib (stage.End saving header) at can ∙ numbers.steps in (
      off (sure (own i)) None,
      record {
        step = subst (λ (n : ℕ). Step machine.hw (disk.as_it_reads c) (hibernating false i a saving.done) (event.Step actor.Core) (reply.Hibernated n) (off (sure (own i)) None)) (sym numbers.saved) (may_end machine.hw (disk.as_it_reads c) i a saving.done place);
        stands = record {
          stands = ends machine.hw (shown_by machine frames hib) (shown_by machine frames new) c c' machine.blocks false i a saving.done (is_over machine frames runs hib c a i can whole of) s.stands place syncs refl refl;
          image = tt;
        };
        area = kept_by_sync machine.hw c c' syncs;
        unwritten = λ b not. block_synced machine.blocks b c c' whole syncs;
        leaves = end_leaves machine.hw (shown_by machine frames hib) c c' machine.blocks false i a saving.done (is_over machine frames runs hib c a i can whole of) s.stands place syncs;
        header = tt;
      },
    ))

-- of a suspend: the machine sleeps, and shows the running state that it had
pub asleep_row : (machine : Machine) (frames : Memory) (runs : SlotRuns) (hib : Hib) (saving : Saving) (header : List ℕ) (c c' : disk.Content) → CanStep machine frames runs hib → hib.stage ≡ stage.End saving header → saving.ending ≡ ending.Sleeps → disk.IsContent machine.blocks c → disk.Syncs c c' →
    Simulates machine frames hib machine frames (record hib { stage = stage.Asleep }) (event.Step actor.Core) (reply.Asleep saving.saved) c c'
asleep_row machine frames runs hib saving header c c' can at sleeps_then whole syncs =
    let new = record hib { stage = stage.Asleep } in
    row_at_hibernation machine frames hib machine frames new (event.Step actor.Core) (reply.Asleep saving.saved) c c' true saving.done (at_last hib saving header ending.Sleeps at sleeps_then)
    (λ i a s.
    let of = s.image in
    let numbers : IsSavingOf machine.hw a i saving = numbers_at machine.hw frames hib a i (stage.End saving header) at of in
    let place : saving.done + 1 ≡ hibernate_steps i = next_at machine frames runs hib (stage.End saving header) at can ∙ numbers.steps in
    let names = names_laid machine.hw (shown_by machine frames new) i a s.stands.parts.accepted s.stands.parts.names in (
      asleep i (sure (own i)) a,
      record {
        step = subst (λ (n : ℕ). Step machine.hw (disk.as_it_reads c) (hibernating true i a saving.done) (event.Step actor.Core) (reply.Asleep n) (asleep i (sure (own i)) a)) (sym numbers.saved) (may_sleep machine.hw (disk.as_it_reads c) i a saving.done place);
        stands = record {
          stands = ends_asleep machine.hw (shown_by machine frames hib) (shown_by machine frames new) c c' machine.blocks true i a saving.done (is_over machine frames runs hib c a i can whole of) s.stands place syncs refl s.stands.parts.behind.memory names;
          image = tt;
        };
        area = kept_by_sync machine.hw c c' syncs;
        unwritten = λ b not. block_synced machine.blocks b c c' whole syncs;
        leaves = end_leaves machine.hw (shown_by machine frames hib) c c' machine.blocks true i a saving.done (is_over machine frames runs hib c a i can whole of) s.stands place syncs;
        header = tt;
      },
    ))

pub end_failed_row : (machine : Machine) (frames : Memory) (runs : SlotRuns) (hib : Hib) (saving : Saving) (header : List ℕ) (c : disk.Content) → CanStep machine frames runs hib → hib.stage ≡ stage.End saving header →
    Simulates machine frames hib machine frames (gone_on hib (stage.Undo undo.Sync (from_write header))) (event.Step actor.Core) (reply.Undo undo.Sync 0) c c
end_failed_row machine frames runs hib saving header c can at =
    let new = gone_on hib (stage.Undo undo.Sync (from_write header)) in
    row_at_hibernation machine frames hib machine frames new (event.Step actor.Core) (reply.Undo undo.Sync 0) c c (suspends_at saving.ending) saving.done (ap activity_at at)
    (λ i a s.
    let of = s.image in
    let numbers : IsSavingOf machine.hw a i saving = numbers_at machine.hw frames hib a i (stage.End saving header) at of in
    let place : saving.done + 1 ≡ hibernate_steps i = next_at machine frames runs hib (stage.End saving header) at can ∙ numbers.steps in (
      undoing i undo.Sync a 0,
      record {
        step = end_may_fail machine.hw (disk.as_it_reads c) (suspends_at saving.ending) i a saving.done place;
        stands = record {
          stands = end_fails machine.hw (shown_by machine frames hib) (shown_by machine frames new) c (suspends_at saving.ending) i a saving.done s.stands place (sym (ap header_at at)) refl (record { shows = s.stands.parts.behind.memory; names = s.stands.parts.names; copies = s.stands.parts.written.copies });
          image = still_of machine.hw frames frames hib a i (stage.Undo undo.Sync (from_write header)) tt of;
        };
        area = same_area machine.hw (disk.as_it_reads c);
        unwritten = λ b not. block_same b _;
        leaves = tt;
        header = tt;
      },
    ))
