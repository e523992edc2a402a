-- The rows of a settling's steps.
use Rattle.std.proofs.Common.{◌≡◌, ℕ, List, [], All, Option, inl, inr, refl, sym, ap, ◌∙◌, subst}
use Rattle.definitions.specs.Bytes.{IsPage}
use Rattle.definitions.specs.Disk as disk
use Rattle.swap_slots.specs.Runs.{SlotRuns}
use Rattle.plain_machine.specs.Machine.{Hardware, Memory, block_of_slot, raw_slot_entry}
use Rattle.plain_machine.specs.Chain.{header_of}
use Rattle.plain_machine.specs.Shows.{settles, RunsAs, ShowsHeld, seen_frames}
use Rattle.plain_machine.specs.Stands.{NamesOnly}
use Rattle.plain_machine.specs.State.{on, settling, Running, Held, nothing, sure, maybe, perhaps, Flight}
use Rattle.plain_machine.specs.declared.event.Event.TheVariants as event
use Rattle.plain_machine.specs.declared.event.Actor.TheVariants as actor
use Rattle.plain_machine.specs.declared.held.Held.{Held as HeldFlag}
use Rattle.plain_machine.specs.declared.held.Held.TheVariants.{No, Yes, Perhaps}
use Rattle.plain_machine.specs.declared.no_swap.NoSwap.{NoSwap}
use Rattle.plain_machine.specs.declared.reply.Left.TheVariants.{Same, Unsure}
use Rattle.plain_machine.specs.declared.reply.Reply.TheVariants as reply
use Rattle.definitions.specs.SwapHeader.{unmarked_block}
use Rattle.protocol_laws.specs.Settling.{IsOnDisk}
use Rattle.protocol_laws.specs.Slots.{IsMemoryOf}
use Rattle.protocol_laws.specs.Undo.{with_held}
use Rattle.protocol_laws.proofs.Settling.{settle_reads, settle_read_fails, settle_writes, settle_write_fails, settle_keeps_area, settle_syncs, settle_sync_fails}
use Rattle.protocol_laws.proofs.Unwritten.{block_same, block_synced, unwritten_header}
use Rattle.machine.specs.declared.machine.Machine.{Machine}
use Rattle.machine.specs.Flights.{flights_in}
use Rattle.machine.specs.Running.{reason_of}
use Rattle.unmark.specs.Unmarking.{calls_before}
use Rattle.unmark.specs.declared.unmarking.Unmark.{Unmark}
use Rattle.unmark.specs.declared.unmarking.UnmarkCall.{UnmarkCall}
use Rattle.unmark.specs.declared.unmarking.UnmarkCall.TheVariants as call
use Rattle.hib_core.specs.Hibernation.{shown_by, activity_at, activity_of, perhaps_held, header_at}
use Rattle.hib_core.specs.Ready.{CanStep}
use Rattle.hib_core.specs.Row.{Simulates}
use Rattle.hib_core.specs.declared.hib.Hib.{Hib}
use Rattle.hib_core.specs.declared.hib.Stage.TheVariants as stage
use Rattle.hib_core.proofs.Facts.{row_at_settling}
use Rattle.hib_core.proofs.Plain.{may_settle_read, settle_read_may_fail, may_settle_write, settle_write_may_fail, may_settle, settle_sync_may_fail}
use Rattle.hib_core.proofs.Syncing.{gone_on}
use Rattle.protocol_laws.proofs.AreaKept.{kept_by_sync}
use Rattle.protocol_laws.proofs.Taking.{none_left, runs_given_back}
use Rattle.hib_core.proofs.Undoing.{certain}
use Rattle.protocol_laws.proofs.Named.{names_same}
use Rattle.protocol_laws.proofs.Same.{same_area}

-- the machine where what is held is perhaps held
abbrev pub unsettled : Machine → Machine
unsettled machine = record machine { held = perhaps_held machine.held }

on_disk : (machine : Machine) (frames : Memory) (runs : SlotRuns) (hib : Hib) (c : disk.Content) → CanStep machine frames runs hib → disk.IsContent machine.blocks c → IsOnDisk machine.hw machine.blocks c
on_disk machine frames runs hib c can whole = record { hardware = can.hardware; content = whole; header = can.header }

-- what a settling is at, by the call that is next
settling_at : (next this : UnmarkCall) → next ≡ this → settles (calls_before next) ≡ settles (calls_before this)
settling_at next this is = ap (λ (n : UnmarkCall). settles (calls_before n)) is

settles_by : (hib : Hib) (unmark : Unmark) (next : UnmarkCall) → hib.stage ≡ stage.Settle unmark → unmark.next ≡ next → activity_of hib ≡ settles (calls_before next)
settles_by hib unmark next at is = ap activity_at at ∙ settling_at unmark.next next is

pub settle_read_row : (machine : Machine) (frames : Memory) (hib : Hib) (old new : Unmark) (c : disk.Content) → hib.stage ≡ stage.Settle old → old.next ≡ call.Read → new.next ≡ call.Write → new.header ≡ header_of machine.hw (disk.as_it_reads c) →
    Simulates machine frames hib machine frames (gone_on hib (stage.Settle new)) (event.Step actor.Core) (reply.More 1 3) c c
settle_read_row machine frames hib old unmark c at from to read =
    let new = gone_on hib (stage.Settle unmark) in
    row_at_settling machine frames hib machine frames new (event.Step actor.Core) (reply.More 1 3) c c 0 (settles_by hib old call.Read at from)
    (λ a s. (
      settling a 1,
      record {
        step = may_settle_read machine.hw (disk.as_it_reads c) a;
        stands = record {
          stands = settle_reads machine.hw (shown_by machine frames hib) (shown_by machine frames new) c a s.stands read (settling_at unmark.next call.Write to)
              s.stands.parts.behind.memory (names_same machine.hw (shown_by machine frames hib) (shown_by machine frames new) a.held refl s.stands.parts.names);
          image = tt;
        };
        area = same_area machine.hw (disk.as_it_reads c);
        unwritten = λ b not_in. block_same b _;
        leaves = tt;
        header = tt;
      },
    ))

pub settle_read_failed_row : (machine : Machine) (frames : Memory) (hib : Hib) (old : Unmark) (c : disk.Content) → hib.stage ≡ stage.Settle old → old.next ≡ call.Read →
    Simulates machine frames hib machine frames (record hib { stage = stage.Idle }) (event.Step actor.Core) (reply.ReadFault Same) c c
settle_read_failed_row machine frames hib old c at from =
    let new = record hib { stage = stage.Idle } in
    row_at_settling machine frames hib machine frames new (event.Step actor.Core) (reply.ReadFault Same) c c 0 (settles_by hib old call.Read at from)
    (λ a s. (
      on a,
      record {
        step = settle_read_may_fail machine.hw (disk.as_it_reads c) a;
        stands = record {
          stands = settle_read_fails machine.hw (shown_by machine frames hib) (shown_by machine frames new) c a s.stands refl
              s.stands.parts.behind.memory (names_same machine.hw (shown_by machine frames hib) (shown_by machine frames new) a.held refl s.stands.parts.names);
          image = tt;
        };
        area = same_area machine.hw (disk.as_it_reads c);
        unwritten = λ b not_in. block_same b _;
        leaves = tt;
        header = tt;
      },
    ))

pub settle_write_row : (machine : Machine) (frames : Memory) (runs : SlotRuns) (hib : Hib) (old new : Unmark) (c c' : disk.Content) → CanStep machine frames runs hib → hib.stage ≡ stage.Settle old → old.next ≡ call.Write → new.next ≡ call.Sync → disk.IsContent machine.blocks c → disk.IsContent machine.blocks c' →
    disk.Writes (block_of_slot machine.hw 0) (unmarked_block old.header) c c' → Simulates machine frames hib machine frames (gone_on hib (stage.Settle new)) (event.Step actor.Core) (reply.More 2 3) c c'
settle_write_row machine frames runs hib old unmark c c' can at from to whole whole' wrote =
    let new = gone_on hib (stage.Settle unmark) in
    let writes = subst (λ (p : List ℕ). disk.Writes (block_of_slot machine.hw 0) (unmarked_block p) c c') (sym (ap header_at at)) wrote in
    let over = on_disk machine frames runs hib c can whole in
    row_at_settling machine frames hib machine frames new (event.Step actor.Core) (reply.More 2 3) c c' 1 (settles_by hib old call.Write at from)
    (λ a s. (
      settling a 2,
      record {
        step = may_settle_write machine.hw (disk.as_it_reads c) a;
        stands = record {
          stands = settle_writes machine.hw (shown_by machine frames hib) (shown_by machine frames new) c c' machine.blocks a over whole' s.stands writes (settling_at unmark.next call.Sync to)
              s.stands.parts.behind.memory (names_same machine.hw (shown_by machine frames hib) (shown_by machine frames new) a.held refl s.stands.parts.names);
          image = tt;
        };
        area = settle_keeps_area machine.hw (shown_by machine frames hib) c c' machine.blocks a over s.stands (inl writes);
        unwritten = λ b not_in. unwritten_header machine.hw [] b c c' writes.others not_in;
        leaves = tt;
        header = tt;
      },
    ))

-- what is held is perhaps held

shows_perhaps : (flag : HeldFlag) (held : Held) → ShowsHeld flag held → ShowsHeld (perhaps_held flag) (perhaps held)
shows_perhaps No nothing shows = tt
shows_perhaps No (sure x) shows = absurd shows
shows_perhaps No (maybe x) shows = absurd shows
shows_perhaps Yes nothing shows = absurd shows
shows_perhaps Yes (sure x) shows = tt
shows_perhaps Yes (maybe x) shows = absurd shows
shows_perhaps Perhaps nothing shows = absurd shows
shows_perhaps Perhaps (sure x) shows = absurd shows
shows_perhaps Perhaps (maybe x) shows = tt

runs_unsettled : (h : Hardware) (flag : HeldFlag) (why : Option NoSwap) (operations : ℕ → Option Flight) (frames : Memory) (a : Running) → RunsAs h flag why operations frames a → RunsAs h (perhaps_held flag) why operations frames (with_held a (perhaps a.held))
runs_unsettled h flag why operations frames a runs = record { held = shows_perhaps flag a.held runs.held; unusable = runs.unusable; flights = runs.flights; same = runs.same; fits = runs.fits }

pub settle_write_failed_row : (machine : Machine) (frames : Memory) (runs : SlotRuns) (hib : Hib) (old : Unmark) (c c' : disk.Content) → CanStep machine frames runs hib → hib.stage ≡ stage.Settle old → old.next ≡ call.Write → disk.IsContent machine.blocks c → disk.IsContent machine.blocks c' →
    disk.FailsToWrite (block_of_slot machine.hw 0) (unmarked_block old.header) c c' → Simulates machine frames hib (unsettled machine) frames (record hib { stage = stage.Idle }) (event.Step actor.Core) (reply.WriteFault Unsure) c c'
settle_write_failed_row machine frames runs hib old c c' can at from whole whole' failed =
    let new = record hib { stage = stage.Idle } in
    let fails = subst (λ (p : List ℕ). disk.FailsToWrite (block_of_slot machine.hw 0) (unmarked_block p) c c') (sym (ap header_at at)) failed in
    let over = on_disk machine frames runs hib c can whole in
    row_at_settling machine frames hib (unsettled machine) frames new (event.Step actor.Core) (reply.WriteFault Unsure) c c' 1 (settles_by hib old call.Write at from)
    (λ a s. (
      on (with_held a (perhaps a.held)),
      record {
        step = settle_write_may_fail machine.hw (disk.as_it_reads c) a;
        stands = record {
          stands = settle_write_fails machine.hw (shown_by machine frames hib) (shown_by (unsettled machine) frames new) c c' machine.blocks a over whole' s.stands fails refl
              (runs_unsettled machine.hw machine.held (reason_of machine.area) (flights_in machine.flights) frames a s.stands.parts.behind.memory)
              (names_same machine.hw (shown_by machine frames hib) (shown_by (unsettled machine) frames new) a.held refl s.stands.parts.names);
          image = tt;
        };
        area = settle_keeps_area machine.hw (shown_by machine frames hib) c c' machine.blocks a over s.stands (inr fails);
        unwritten = λ b not_in. unwritten_header machine.hw [] b c c' fails.others not_in;
        leaves = tt;
        header = tt;
      },
    ))

pub settled_row : (machine : Machine) (frames frames' : Memory) (runs : SlotRuns) (hib : Hib) (old : Unmark) (c c' : disk.Content) → CanStep machine frames runs hib → All IsPage frames → hib.stage ≡ stage.Settle old → old.next ≡ call.Sync → disk.IsContent machine.blocks c →
    disk.Syncs c c' → frames' ≡ seen_frames machine.hw frames → Simulates machine frames hib (certain machine) frames' (record hib { stage = stage.Idle }) (event.Step actor.Core) reply.Settled c c'
settled_row machine frames frames' runs hib old c c' can pages at from whole syncs given =
    let new = record hib { stage = stage.Idle } in
    row_at_settling machine frames hib (certain machine) frames' new (event.Step actor.Core) reply.Settled c c' 2 (settles_by hib old call.Sync at from)
    (λ a s.
    let memory : IsMemoryOf machine.hw frames = record { pages = pages; table = can.table } in
    let back : RunsAs machine.hw machine.held (reason_of machine.area) (flights_in machine.flights) frames' a =
    subst (λ (m : Memory). RunsAs machine.hw machine.held (reason_of machine.area) (flights_in machine.flights) m a) (sym given)
    (runs_given_back machine.hw machine.held (reason_of machine.area) (flights_in machine.flights) frames a memory s.stands.parts.behind.memory) in
    let shows : RunsAs machine.hw No (reason_of machine.area) (flights_in machine.flights) frames' (with_held a nothing) =
    record { held = tt; unusable = back.unusable; flights = back.flights; same = back.same; fits = back.fits } in
    let names : NamesOnly machine.hw (shown_by (certain machine) frames' new) [] =
    λ k lt e. absurd (none_left machine.hw frames k memory lt (ap (λ (m : Memory). raw_slot_entry machine.hw m k) (sym given) ∙ e)) in (
      on (with_held a nothing),
      record {
        step = may_settle machine.hw (disk.as_it_reads c) a;
        stands = record {
          stands = settle_syncs machine.hw (shown_by machine frames hib) (shown_by (certain machine) frames' new) c c' machine.blocks a whole s.stands syncs refl shows names;
          image = tt;
        };
        area = kept_by_sync machine.hw c c' syncs;
        unwritten = λ b not_in. block_synced machine.blocks b c c' whole syncs;
        leaves = tt;
        header = tt;
      },
    ))

pub settle_sync_failed_row : (machine : Machine) (frames : Memory) (hib : Hib) (old : Unmark) (c : disk.Content) → hib.stage ≡ stage.Settle old → old.next ≡ call.Sync →
    Simulates machine frames hib (unsettled machine) frames (record hib { stage = stage.Idle }) (event.Step actor.Core) (reply.SyncFault Unsure) c c
settle_sync_failed_row machine frames hib old c at from =
    let new = record hib { stage = stage.Idle } in
    row_at_settling machine frames hib (unsettled machine) frames new (event.Step actor.Core) (reply.SyncFault Unsure) c c 2 (settles_by hib old call.Sync at from)
    (λ a s. (
      on (with_held a (perhaps a.held)),
      record {
        step = settle_sync_may_fail machine.hw (disk.as_it_reads c) a;
        stands = record {
          stands = settle_sync_fails machine.hw (shown_by machine frames hib) (shown_by (unsettled machine) frames new) c a s.stands refl
              (runs_unsettled machine.hw machine.held (reason_of machine.area) (flights_in machine.flights) frames a s.stands.parts.behind.memory)
              (names_same machine.hw (shown_by machine frames hib) (shown_by (unsettled machine) frames new) a.held refl s.stands.parts.names);
          image = tt;
        };
        area = same_area machine.hw (disk.as_it_reads c);
        unwritten = λ b not_in. block_same b _;
        leaves = tt;
        header = tt;
      },
    ))
