-- The rows of an undo.
use Rattle.protocol_laws.proofs.Leaving.{leaves_undoing}
use Rattle.protocol_laws.proofs.Unwritten.{block_same, block_synced, unwritten_header}
use Rattle.protocol_laws.proofs.HeaderLeft.{marks_same, marks_synced}
use Rattle.protocol_laws.proofs.Undone.{undo_adds_no_mark, takes_mark_back, undo_write_fails, undo_syncs, undo_sync_fails}
use Rattle.std.proofs.Common.{◌≡◌, ◌-◌, List, All, [], inl, inr, refl, sym, ap, ◌∙◌, subst, ℕ}
use Rattle.definitions.specs.Bytes.{IsPage}
use Rattle.definitions.specs.Disk as disk
use Rattle.definitions.specs.SwapHeader.{taken_back, unmarked_block}
use Rattle.swap_slots.specs.Runs.{SlotRuns}
use Rattle.plain_machine.specs.Machine.{Hardware, Memory, block_of_slot, raw_slot_entry}
use Rattle.plain_machine.specs.Image.{Image}
use Rattle.plain_machine.specs.Shows.{undoes, RunsAs, ShowsHeld, seen_frames}
use Rattle.plain_machine.specs.State.{on, undoing, Running, nothing, maybe, own}
use Rattle.plain_machine.specs.Stands.{NamesOnly}
use Rattle.plain_machine.specs.Step.{undone_fault}
use Rattle.plain_machine.specs.declared.event.Event.TheVariants as event
use Rattle.plain_machine.specs.declared.event.Actor.TheVariants as actor
use Rattle.plain_machine.specs.declared.held.Held.{Held as HeldFlag}
use Rattle.plain_machine.specs.declared.held.Held.TheVariants.{No, Perhaps}
use Rattle.plain_machine.specs.declared.reply.Left.TheVariants.{Gone, Unsure}
use Rattle.plain_machine.specs.declared.reply.Reply.TheVariants as reply
use Rattle.plain_machine.specs.declared.reply.UndoCall.{UndoCall}
use Rattle.image_laws.specs.ImageBlocks.{Tries}
use Rattle.image_laws.proofs.ImageBlocks.{length-taken_back}
use Rattle.protocol_laws.proofs.Marking.{area_of-marked}
use Rattle.protocol_laws.specs.Rows.{IsSameArea}
use Rattle.protocol_laws.specs.Slots.{IsMemoryOf}
use Rattle.protocol_laws.specs.Undo.{with_held}
use Rattle.machine.specs.declared.machine.Machine.{Machine}
use Rattle.machine.specs.Flights.{flights_in}
use Rattle.machine.specs.Running.{reason_of}
use Rattle.machine.specs.declared.flight.Flight.{Flight}
use Rattle.unmark.specs.Unmarking.{calls_before}
use Rattle.unmark.specs.declared.unmarking.Unmark.{Unmark}
use Rattle.unmark.specs.declared.unmarking.UnmarkCall.{UnmarkCall}
use Rattle.unmark.specs.declared.unmarking.UnmarkCall.TheVariants as unmark_call
use Rattle.hib_core.specs.Hibernation.{shown_by, activity_at, activity_of, header_at}
use Rattle.hib_core.specs.Ready.{CanStep}
use Rattle.hib_core.specs.Row.{HibernationStandsFor, Simulates}
use Rattle.hib_core.specs.declared.hib.Hib.{Hib}
use Rattle.hib_core.specs.declared.hib.Stage.TheVariants as stage
use Rattle.hib_core.proofs.Facts.{is_over, row_at_undo, still_of}
use Rattle.hib_core.proofs.Plain.{may_take_back, take_back_may_fail, may_end_undo, end_undo_may_fail}
use Rattle.protocol_laws.proofs.AreaKept.{kept_by_sync, kept_by_header}
use Rattle.protocol_laws.proofs.Taking.{none_left, runs_given_back}
use Rattle.hib_core.proofs.Syncing.{gone_on}
use Rattle.protocol_laws.proofs.Same.{same_area}

-- the machine where an image may be held, and where none is
abbrev pub unsure : Machine → Machine
unsure machine = record machine { held = Perhaps }

abbrev pub certain : Machine → Machine
certain machine = record machine { held = No }

-- the write of the header block taken back leaves the area, failed or not
back_keeps : (machine : Machine) (frames : Memory) (runs : SlotRuns) (hib : Hib) (c c' : disk.Content) (i : Image) (call : UndoCall) (a : Running) → CanStep machine frames runs hib → disk.IsContent machine.blocks c → IsPage (taken_back (header_at hib.stage)) →
    HibernationStandsFor machine frames hib c (undoing i call a 0) → Tries (block_of_slot machine.hw 0) (taken_back (header_at hib.stage)) c c' → IsSameArea machine.hw (disk.as_it_reads c) (disk.as_it_reads c')
back_keeps machine frames runs hib c c' i call a can whole page s tries =
    let mark = s.stands.parts.before in
    kept_by_header machine.hw machine.blocks (taken_back (header_at hib.stage)) c c' whole can.header page mark.unmarked mark.area tries

-- what an undo is at, by the call that is next
undoing_at : (call : UndoCall) (next this : UnmarkCall) → next ≡ this → undoes call (calls_before next - 1) ≡ undoes call (calls_before this - 1)
undoing_at call next this is = ap (λ (n : UnmarkCall). undoes call (calls_before n - 1)) is

undoes_by : (hib : Hib) (call : UndoCall) (unmark : Unmark) (next : UnmarkCall) → hib.stage ≡ stage.Undo call unmark → unmark.next ≡ next → activity_of hib ≡ undoes call (calls_before next - 1)
undoes_by hib call unmark next at is = ap activity_at at ∙ undoing_at call unmark.next next is

pub back_row : (machine : Machine) (frames : Memory) (runs : SlotRuns) (hib : Hib) (c c' : disk.Content) (call : UndoCall) (old new : Unmark) → CanStep machine frames runs hib → IsPage old.header → hib.stage ≡ stage.Undo call old → old.next ≡ unmark_call.Write → new.next ≡ unmark_call.Sync → disk.IsContent machine.blocks c → disk.IsContent machine.blocks c' →
    disk.Writes (block_of_slot machine.hw 0) (unmarked_block old.header) c c' → Simulates machine frames hib machine frames (gone_on hib (stage.Undo call new)) (event.Step actor.Core) (reply.Undo call 1) c c'
back_row machine frames runs hib c c' call old unmark can header_page at from to whole whole' wrote =
    let new = gone_on hib (stage.Undo call unmark) in
    let kept : old.header ≡ header_at hib.stage = sym (ap header_at at) in
    let page : IsPage (header_at hib.stage) = subst IsPage kept header_page in
    let back : IsPage (taken_back (header_at hib.stage)) = length-taken_back (header_at hib.stage) page in
    row_at_undo machine frames hib machine frames new (event.Step actor.Core) (reply.Undo call 1) c c' call 0 (undoes_by hib call old unmark_call.Write at from)
    (λ i a s.
    let of = s.image in
    let writes = subst (λ (p : List ℕ). disk.Writes (block_of_slot machine.hw 0) p c c') (ap unmarked_block kept ∙ area_of-marked (header_at hib.stage) s.stands.parts.before.marked) wrote in (
      undoing i call a 1,
      record {
        step = may_take_back machine.hw (disk.as_it_reads c) i call a;
        stands = record {
          stands = takes_mark_back machine.hw (shown_by machine frames hib) (shown_by machine frames new) c c' machine.blocks i call a (is_over machine frames runs hib c a i can whole of) page whole' s.stands writes (undoing_at call unmark.next unmark_call.Sync to)
              s.stands.parts.behind.memory s.stands.parts.names;
          image = still_of machine.hw frames frames hib a i (stage.Undo call unmark) tt of;
        };
        area = back_keeps machine frames runs hib c c' i call a can whole back s (inl writes);
        unwritten = λ b not. unwritten_header machine.hw [] b c c' writes.others not;
        leaves = tt;
        header = undo_adds_no_mark machine.hw (shown_by machine frames hib) c c' machine.blocks i call a (is_over machine frames runs hib c a i can whole of) page s.stands (inl writes);
      },
    ))

-- the running state shown with another flag for what is held
with_flag : (h : Hardware) (machine machine' : Machine) (frames : Memory) (a : Running) (i : Image) → machine'.area ≡ machine.area → machine'.held ≡ Perhaps → machine'.flights ≡ machine.flights → RunsAs h machine.held (reason_of machine.area) (flights_in machine.flights) frames a → RunsAs h machine'.held (reason_of machine'.area) (flights_in machine'.flights) frames (with_held a (maybe (own i)))
with_flag h machine machine' frames a i area held flights runs = record {
  held = subst (λ (f : HeldFlag). ShowsHeld f (maybe (own i))) (sym held) tt;
  unusable = runs.unusable ∙ sym (ap reason_of area);
  flights = λ t. runs.flights t ∙ sym (ap (λ (fs : List Flight). flights_in fs t) flights);
  same = runs.same;
  fits = runs.fits;
}

pub back_failed_row : (machine : Machine) (frames : Memory) (runs : SlotRuns) (hib : Hib) (c c' : disk.Content) (call : UndoCall) (old : Unmark) → CanStep machine frames runs hib → IsPage old.header → hib.stage ≡ stage.Undo call old → old.next ≡ unmark_call.Write → disk.IsContent machine.blocks c → disk.IsContent machine.blocks c' →
    disk.FailsToWrite (block_of_slot machine.hw 0) (unmarked_block old.header) c c' → Simulates machine frames hib (unsure machine) frames (record hib { stage = stage.Idle }) (event.Step actor.Core) (undone_fault call Unsure) c c'
back_failed_row machine frames runs hib c c' call old can header_page at from whole whole' failed =
    let new = record hib { stage = stage.Idle } in
    let kept : old.header ≡ header_at hib.stage = sym (ap header_at at) in
    let page : IsPage (header_at hib.stage) = subst IsPage kept header_page in
    let back : IsPage (taken_back (header_at hib.stage)) = length-taken_back (header_at hib.stage) page in
    row_at_undo machine frames hib (unsure machine) frames new (event.Step actor.Core) (undone_fault call Unsure) c c' call 0 (undoes_by hib call old unmark_call.Write at from)
    (λ i a s.
    let fails = subst (λ (p : List ℕ). disk.FailsToWrite (block_of_slot machine.hw 0) p c c') (ap unmarked_block kept ∙ area_of-marked (header_at hib.stage) s.stands.parts.before.marked) failed in (
      on (with_held a (maybe (own i))),
      record {
        step = take_back_may_fail machine.hw (disk.as_it_reads c) i call a;
        stands = record {
          stands = undo_write_fails machine.hw (shown_by machine frames hib) (shown_by (unsure machine) frames new) c c' machine.blocks i call a (is_over machine frames runs hib c a i can whole s.image) page whole' s.stands fails refl
              (with_flag machine.hw machine (unsure machine) frames a i refl refl refl s.stands.parts.behind.memory) s.stands.parts.names;
          image = tt;
        };
        area = back_keeps machine frames runs hib c c' i call a can whole back s (inr fails);
        unwritten = λ b not. unwritten_header machine.hw [] b c c' fails.others not;
        leaves = leaves_undoing machine.hw (undone_fault call Unsure) i call a 0 c';
        header = undo_adds_no_mark machine.hw (shown_by machine frames hib) c c' machine.blocks i call a (is_over machine frames runs hib c a i can whole s.image) page s.stands (inr fails);
      },
    ))

pub undone_row : (machine : Machine) (frames frames' : Memory) (runs : SlotRuns) (hib : Hib) (c c' : disk.Content) (call : UndoCall) (old : Unmark) → CanStep machine frames runs hib → All IsPage frames → hib.stage ≡ stage.Undo call old → old.next ≡ unmark_call.Sync → disk.IsContent machine.blocks c →
    disk.Syncs c c' → frames' ≡ seen_frames machine.hw frames → Simulates machine frames hib (certain machine) frames' (record hib { stage = stage.Idle }) (event.Step actor.Core) (undone_fault call Gone) c c'
undone_row machine frames frames' runs hib c c' call old can pages at from whole syncs given =
    let new = record hib { stage = stage.Idle } in
    row_at_undo machine frames hib (certain machine) frames' new (event.Step actor.Core) (undone_fault call Gone) c c' call 1 (undoes_by hib call old unmark_call.Sync at from)
    (λ i a s.
    let memory : IsMemoryOf machine.hw frames = record { pages = pages; table = can.table } in
    let back : RunsAs machine.hw machine.held (reason_of machine.area) (flights_in machine.flights) frames' a =
    subst (λ (m : Memory). RunsAs machine.hw machine.held (reason_of machine.area) (flights_in machine.flights) m a) (sym given)
    (runs_given_back machine.hw machine.held (reason_of machine.area) (flights_in machine.flights) frames a memory s.stands.parts.behind.memory) in
    let shows : RunsAs machine.hw No (reason_of machine.area) (flights_in machine.flights) frames' (with_held a nothing) =
    record { held = tt; unusable = back.unusable; flights = back.flights; same = back.same; fits = back.fits } in
    let names : NamesOnly machine.hw (shown_by (certain machine) frames' new) [] =
    λ k lt e. absurd (none_left machine.hw frames k memory lt (ap (λ (m : Memory). raw_slot_entry machine.hw m k) (sym given) ∙ e)) in (
      on (with_held a nothing),
      record {
        step = may_end_undo machine.hw (disk.as_it_reads c) i call a;
        stands = record {
          stands = undo_syncs machine.hw (shown_by machine frames hib) (shown_by (certain machine) frames' new) c c' machine.blocks i call a (is_over machine frames runs hib c a i can whole s.image) s.stands syncs refl shows names;
          image = tt;
        };
        area = kept_by_sync machine.hw c c' syncs;
        unwritten = λ b not. block_synced machine.blocks b c c' whole syncs;
        leaves = leaves_undoing machine.hw (undone_fault call Gone) i call a 1 c';
        header = marks_synced machine.hw machine.blocks c c' whole syncs;
      },
    ))

pub end_failed_row : (machine : Machine) (frames : Memory) (runs : SlotRuns) (hib : Hib) (c : disk.Content) (call : UndoCall) (old : Unmark) → CanStep machine frames runs hib → hib.stage ≡ stage.Undo call old → old.next ≡ unmark_call.Sync → disk.IsContent machine.blocks c →
    Simulates machine frames hib (unsure machine) frames (record hib { stage = stage.Idle }) (event.Step actor.Core) (undone_fault call Unsure) c c
end_failed_row machine frames runs hib c call old can at from whole =
    let new = record hib { stage = stage.Idle } in
    row_at_undo machine frames hib (unsure machine) frames new (event.Step actor.Core) (undone_fault call Unsure) c c call 1 (undoes_by hib call old unmark_call.Sync at from)
    (λ i a s. (
      on (with_held a (maybe (own i))),
      record {
        step = end_undo_may_fail machine.hw (disk.as_it_reads c) i call a;
        stands = record {
          stands = undo_sync_fails machine.hw (shown_by machine frames hib) (shown_by (unsure machine) frames new) c machine.blocks i call a (is_over machine frames runs hib c a i can whole s.image) s.stands refl
              (with_flag machine.hw machine (unsure machine) frames a i refl refl refl s.stands.parts.behind.memory) s.stands.parts.names;
          image = tt;
        };
        area = same_area machine.hw (disk.as_it_reads c);
        unwritten = λ b not. block_same b _;
        leaves = leaves_undoing machine.hw (undone_fault call Unsure) i call a 1 c;
        header = marks_same machine.hw c;
      },
    ))
