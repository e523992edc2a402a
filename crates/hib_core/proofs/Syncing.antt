-- The rows of the sync after the writes, and of the read of the header block.
use Rattle.protocol_laws.proofs.Unwritten.{block_same, block_synced}
use Rattle.std.proofs.Common.{◌≡◌, ◌<◌, Bool, All, ℕ, ◌+◌, List, [], Some, refl, sym, ap, ◌∙◌, subst, arith}
use Rattle.definitions.specs.Disk as disk
use Rattle.definitions.specs.Bytes.{IsPage}
use Rattle.swap_slots.specs.Runs.{SlotRuns}
use Rattle.plain_machine.specs.Machine.{Hardware, Memory, raw_slot_entry}
use Rattle.plain_machine.specs.Chain.{header_of}
use Rattle.plain_machine.specs.Image.{Image, hibernate_steps}
use Rattle.plain_machine.specs.Shows.{RunsAs, seen_frames}
use Rattle.plain_machine.specs.State.{on, hibernating, Running}
use Rattle.plain_machine.specs.Stands.{NamesOnly}
use Rattle.plain_machine.specs.Step.{Step}
use Rattle.plain_machine.specs.declared.event.Event.TheVariants as event
use Rattle.plain_machine.specs.declared.event.Actor.TheVariants as actor
use Rattle.plain_machine.specs.declared.reply.Reply.{Reply}
use Rattle.plain_machine.specs.declared.reply.Reply.TheVariants as reply
use Rattle.plain_machine.specs.UsableArea.{kind_fault}
use Rattle.image_format.specs.AreaKind.{area_kind}
use Rattle.std.proofs.lemmas.Option.{none-some}
use Rattle.plain_machine.specs.declared.no_swap.NoSwap.{NoSwap}
use Rattle.plain_machine.specs.declared.reply.Left.TheVariants.{Same}
use Rattle.protocol_laws.specs.Rows.{LeavesImage}
use Rattle.protocol_laws.specs.Slots.{IsMemoryOf}
use Rattle.machine.specs.declared.machine.Machine.{Machine}
use Rattle.machine.specs.Flights.{flights_in}
use Rattle.machine.specs.Running.{reason_of}
use Rattle.hib_core.specs.Hibernation.{shown_by, suspends_at, activity_at, activity_of, activity_saving}
use Rattle.hib_core.specs.Ready.{CanStep}
use Rattle.hib_core.specs.Row.{Simulates, IsSavingOf, IsOf}
use Rattle.hib_core.specs.declared.hib.Hib.{Hib}
use Rattle.hib_core.specs.declared.hib.Stage.{Stage}
use Rattle.hib_core.specs.declared.hib.Stage.TheVariants as stage
use Rattle.hib_core.proofs.Facts.{is_over, row_at_hibernation, still_of, after_step, next_at, numbers_at, still_saving}
use Rattle.protocol_laws.proofs.AreaKept.{kept_by_sync}
use Rattle.protocol_laws.proofs.Syncing.{syncs_on, reads_on, reads_area, call_fails}
use Rattle.protocol_laws.proofs.Taking.{none_left, runs_given_back}
use Rattle.hib_core.proofs.Plain.{may_sync, sync_may_fail, may_read, read_may_fail}
use Rattle.hib_core.specs.declared.hib.Saving.{Saving}
use Rattle.protocol_laws.proofs.Same.{same_area}

abbrev pub gone_on : Hib → Stage → Hib
gone_on hib next = record hib { stage = next }

abbrev pub idle : Hib → Hib
idle hib = record hib { stage = stage.Idle }

pub more_of : (h : Hardware) (v : disk.DiskImage) (suspends : Bool) (i : Image) (a : Running) (k of : ℕ) → of ≡ hibernate_steps i → Step h v (hibernating suspends i a k) (event.Step actor.Core) (reply.More (k + 1) (hibernate_steps i)) (hibernating suspends i a (k + 1)) →
    Step h v (hibernating suspends i a k) (event.Step actor.Core) (reply.More (k + 1) of) (hibernating suspends i a (k + 1))
more_of h v suspends i a k of steps step = subst (λ (n : ℕ). Step h v (hibernating suspends i a k) (event.Step actor.Core) (reply.More (k + 1) n) (hibernating suspends i a (k + 1))) (sym steps) step

pub synced_row : (machine : Machine) (frames : Memory) (runs : SlotRuns) (hib : Hib) (saving : Saving) (c c' : disk.Content) → CanStep machine frames runs hib → hib.stage ≡ stage.Sync saving → disk.IsContent machine.blocks c → disk.Syncs c c' →
    Simulates machine frames hib machine frames (gone_on hib (stage.Read (after_step saving))) (event.Step actor.Core) (reply.More (saving.done + 1) saving.steps) c c'
synced_row machine frames runs hib saving c c' can at whole syncs =
    row_at_hibernation machine frames hib machine frames (gone_on hib (stage.Read (after_step saving))) (event.Step actor.Core) (reply.More (saving.done + 1) saving.steps) c c' (suspends_at saving.ending) saving.done (ap activity_at at)
    (λ i a s.
    let of = s.image in
    let numbers : IsSavingOf machine.hw a i saving = numbers_at machine.hw frames hib a i (stage.Sync saving) at of in
    let place : saving.done + 4 ≡ hibernate_steps i = next_at machine frames runs hib (stage.Sync saving) at can ∙ numbers.steps in (
      hibernating (suspends_at saving.ending) i a (saving.done + 1),
      record {
        step = more_of machine.hw (disk.as_it_reads c) (suspends_at saving.ending) i a saving.done saving.steps numbers.steps (may_sync machine.hw (disk.as_it_reads c) (suspends_at saving.ending) i a saving.done place);
        stands = record {
          stands = syncs_on machine.hw (shown_by machine frames hib) (shown_by machine frames (gone_on hib (stage.Read (after_step saving)))) c c' machine.blocks (suspends_at saving.ending) i a saving.done (is_over machine frames runs hib c a i can whole of) s.stands place syncs refl
              (record { shows = s.stands.parts.behind.memory; names = s.stands.parts.names; copies = s.stands.parts.written.copies });
          image = still_of machine.hw frames frames hib a i (stage.Read (after_step saving)) (still_saving machine.hw a i saving numbers) of;
        };
        area = kept_by_sync machine.hw c c' syncs;
        unwritten = λ b not. block_synced machine.blocks b c c' whole syncs;
        leaves = tt;
        header = tt;
      },
    ))

-- a call that fails, before the mark: the image's slots are given back
pub fails_row : (machine : Machine) (frames frames' : Memory) (runs : SlotRuns) (hib hib' : Hib) (saving : Saving) (c : disk.Content) (r : Reply) → CanStep machine frames runs hib → All IsPage frames → activity_of hib ≡ activity_saving saving → saving.done + 1 < saving.steps →
    ((i : Image) (a : Running) → IsOf machine.hw frames hib a i → saving.steps ≡ hibernate_steps i) →
    ((i : Image) (a : Running) → saving.steps ≡ hibernate_steps i → Step machine.hw (disk.as_it_reads c) (hibernating (suspends_at saving.ending) i a saving.done) (event.Step actor.Core) r (on a)) →
    ((i : Image) (a : Running) → LeavesImage machine.hw (event.Step actor.Core) r (hibernating (suspends_at saving.ending) i a saving.done) c) → frames' ≡ seen_frames machine.hw frames → hib'.stage ≡ stage.Idle → Simulates machine frames hib machine frames' hib' (event.Step actor.Core) r c c
fails_row machine frames frames' runs hib hib' saving c r can pages is more steps may leaves given idle_now =
    row_at_hibernation machine frames hib machine frames' hib' (event.Step actor.Core) r c c (suspends_at saving.ending) saving.done is
    (λ i a s.
    let of = s.image in
    let memory : IsMemoryOf machine.hw frames = record { pages = pages; table = can.table } in
    let back : RunsAs machine.hw machine.held (reason_of machine.area) (flights_in machine.flights) frames' a =
    subst (λ (m : Memory). RunsAs machine.hw machine.held (reason_of machine.area) (flights_in machine.flights) m a) (sym given)
    (runs_given_back machine.hw machine.held (reason_of machine.area) (flights_in machine.flights) frames a memory s.stands.parts.behind.memory) in
    let names : NamesOnly machine.hw (shown_by machine frames' hib') [] =
    λ k lt e. absurd (none_left machine.hw frames k memory lt (ap (λ (m : Memory). raw_slot_entry machine.hw m k) (sym given) ∙ e)) in
    let place : saving.done + 1 < hibernate_steps i = subst (λ (n : ℕ). saving.done + 1 < n) (steps i a of) more in (
      on a,
      record {
        step = may i a (steps i a of);
        stands = record {
          stands = call_fails machine.hw (shown_by machine frames hib) (shown_by machine frames' hib') c (suspends_at saving.ending) i a saving.done s.stands place (ap activity_at idle_now) back names;
          image = tt;
        };
        area = same_area machine.hw (disk.as_it_reads c);
        unwritten = λ b not. block_same b _;
        leaves = leaves i a;
        header = tt;
      },
    ))

pub sync_failed_row : (machine : Machine) (frames frames' : Memory) (runs : SlotRuns) (hib : Hib) (saving : Saving) (c : disk.Content) → CanStep machine frames runs hib → All IsPage frames → hib.stage ≡ stage.Sync saving →
    frames' ≡ seen_frames machine.hw frames → Simulates machine frames hib machine frames' (idle hib) (event.Step actor.Core) (reply.SyncFault Same) c c
sync_failed_row machine frames frames' runs hib saving c can pages at given =
    let place : saving.done + 4 ≡ saving.steps = next_at machine frames runs hib (stage.Sync saving) at can in
    fails_row machine frames frames' runs hib (idle hib) saving c (reply.SyncFault Same) can pages (ap activity_at at) (omega arith)
    (λ i a of. let numbers : IsSavingOf machine.hw a i saving = numbers_at machine.hw frames hib a i (stage.Sync saving) at of in numbers.steps)
    (λ i a steps. sync_may_fail machine.hw (disk.as_it_reads c) (suspends_at saving.ending) i a saving.done (place ∙ steps)) (λ i a. tt) given refl

pub read_failed_row : (machine : Machine) (frames frames' : Memory) (runs : SlotRuns) (hib : Hib) (saving : Saving) (c : disk.Content) → CanStep machine frames runs hib → All IsPage frames → hib.stage ≡ stage.Read saving →
    frames' ≡ seen_frames machine.hw frames → Simulates machine frames hib machine frames' (idle hib) (event.Step actor.Core) (reply.ReadFault Same) c c
read_failed_row machine frames frames' runs hib saving c can pages at given =
    let place : saving.done + 3 ≡ saving.steps = next_at machine frames runs hib (stage.Read saving) at can in
    fails_row machine frames frames' runs hib (idle hib) saving c (reply.ReadFault Same) can pages (ap activity_at at) (omega arith)
    (λ i a of. let numbers : IsSavingOf machine.hw a i saving = numbers_at machine.hw frames hib a i (stage.Read saving) at of in numbers.steps)
    (λ i a steps. read_may_fail machine.hw (disk.as_it_reads c) (suspends_at saving.ending) i a saving.done (place ∙ steps)) (λ i a. tt) given refl

pub read_row : (machine : Machine) (frames : Memory) (runs : SlotRuns) (hib : Hib) (saving : Saving) (header : List ℕ) (c : disk.Content) → CanStep machine frames runs hib → hib.stage ≡ stage.Read saving → disk.IsContent machine.blocks c → header ≡ header_of machine.hw (disk.as_it_reads c) →
    Simulates machine frames hib machine frames (gone_on hib (stage.Mark (after_step saving) header)) (event.Step actor.Core) (reply.More (saving.done + 1) saving.steps) c c
read_row machine frames runs hib saving header c can at whole read =
    let new = gone_on hib (stage.Mark (after_step saving) header) in
    row_at_hibernation machine frames hib machine frames new (event.Step actor.Core) (reply.More (saving.done + 1) saving.steps) c c (suspends_at saving.ending) saving.done (ap activity_at at)
    (λ i a s.
    let of = s.image in
    let numbers : IsSavingOf machine.hw a i saving = numbers_at machine.hw frames hib a i (stage.Read saving) at of in
    let place : saving.done + 3 ≡ hibernate_steps i = next_at machine frames runs hib (stage.Read saving) at can ∙ numbers.steps in (
      hibernating (suspends_at saving.ending) i a (saving.done + 1),
      record {
        step = more_of machine.hw (disk.as_it_reads c) (suspends_at saving.ending) i a saving.done saving.steps numbers.steps (may_read machine.hw (disk.as_it_reads c) (suspends_at saving.ending) i a saving.done place);
        stands = record {
          stands = reads_on machine.hw (shown_by machine frames hib) (shown_by machine frames new) c machine.blocks (suspends_at saving.ending) i a saving.done (is_over machine frames runs hib c a i can whole of) s.stands place read refl
              (record { shows = s.stands.parts.behind.memory; names = s.stands.parts.names; copies = s.stands.parts.written.copies });
          image = still_of machine.hw frames frames hib a i (stage.Mark (after_step saving) header) (still_saving machine.hw a i saving numbers) of;
        };
        area = same_area machine.hw (disk.as_it_reads c);
        unwritten = λ b not. block_same b _;
        leaves = tt;
        header = tt;
      },
    ))

-- a header block that isn't that of an area can't be read
pub not_swap_row : (machine : Machine) (frames frames' : Memory) (runs : SlotRuns) (hib hib' : Hib) (saving : Saving) (c : disk.Content) (why : NoSwap) → CanStep machine frames runs hib → hib.stage ≡ stage.Read saving → disk.IsContent machine.blocks c →
    kind_fault (area_kind (header_of machine.hw (disk.as_it_reads c))) ≡ Some why → Simulates machine frames hib machine frames' hib' (event.Step actor.Core) (reply.NoSwap why) c c
not_swap_row machine frames frames' runs hib hib' saving c why can at whole fault =
    row_at_hibernation machine frames hib machine frames' hib' (event.Step actor.Core) (reply.NoSwap why) c c (suspends_at saving.ending) saving.done (ap activity_at at)
    (λ i a s.
    let numbers : IsSavingOf machine.hw a i saving = numbers_at machine.hw frames hib a i (stage.Read saving) at s.image in
    let place : saving.done + 3 ≡ hibernate_steps i = next_at machine frames runs hib (stage.Read saving) at can ∙ numbers.steps in
    absurd (none-some why (sym (reads_area machine.hw (shown_by machine frames hib) c machine.blocks (suspends_at saving.ending) i a saving.done whole s.stands place) ∙ fault)))
