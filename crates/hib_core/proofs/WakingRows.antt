-- The rows of a waking's begin and of its steps.
use Rattle.std.proofs.Common.{◌≡◌, ℕ, List, [], inl, inr, refl, sym, ap, ◌∙◌, subst}
use Rattle.definitions.specs.Disk as disk
use Rattle.plain_machine.specs.Machine.{Memory, block_of_slot}
use Rattle.plain_machine.specs.Chain.{header_of}
use Rattle.plain_machine.specs.Image.{Image}
use Rattle.plain_machine.specs.Shows.{RunsAs, wakes, seen_frames}
use Rattle.plain_machine.specs.Stands.{NamesOnly}
use Rattle.plain_machine.specs.State.{State, on, waking, asleep, Running, Held, nothing, perhaps}
use Rattle.plain_machine.specs.Step.{Step}
use Rattle.plain_machine.specs.declared.event.Actor.TheVariants as actor
use Rattle.plain_machine.specs.declared.event.Event.TheVariants as event
use Rattle.plain_machine.specs.declared.held.Held.TheVariants.{No}
use Rattle.plain_machine.specs.declared.reply.Left.TheVariants.{Same, Unsure}
use Rattle.plain_machine.specs.declared.reply.Reply.{Reply}
use Rattle.plain_machine.specs.declared.reply.Reply.TheVariants as reply
use Rattle.protocol_laws.specs.Rows as rows
use Rattle.definitions.specs.SwapHeader.{unmarked_block}
use Rattle.protocol_laws.specs.Settling.{IsOnDisk}
use Rattle.protocol_laws.specs.Slots.{IsMemoryOf}
use Rattle.protocol_laws.specs.Undo.{with_held}
use Rattle.protocol_laws.proofs.HeaderLeft.{left_same}
use Rattle.protocol_laws.proofs.AreaKept.{kept_by_sync}
use Rattle.protocol_laws.proofs.Taking.{none_left, runs_given_back}
use Rattle.protocol_laws.proofs.Unwritten.{block_same, block_synced, unwritten_header}
use Rattle.protocol_laws.proofs.Waking.{wake_begins, wake_reads, wake_read_fails, wake_writes, wake_write_fails, wake_keeps_area, wake_syncs, wake_sync_fails}
use Rattle.machine.specs.Flights.{flights_in}
use Rattle.machine.specs.Running.{reason_of}
use Rattle.machine.specs.declared.machine.Machine.{Machine}
use Rattle.hib_core.specs.WakingRow.{WakingStandsFor, Sleeps, Runs, IsBegun}
use Rattle.unmark.specs.Unmarking.{calls_before}
use Rattle.unmark.specs.declared.unmarking.Unmark.{Unmark}
use Rattle.unmark.specs.declared.unmarking.UnmarkCall.{UnmarkCall}
use Rattle.unmark.specs.declared.unmarking.UnmarkCall.TheVariants as call
use Rattle.hib_core.specs.Waking.{steps_before, activity_of, shown_by, asleep_by, running_by, header_at}
use Rattle.hib_core.specs.declared.waking.waker.Stage.{Stage}
use Rattle.hib_core.specs.declared.waking.waker.Stage.TheVariants as stage
use Rattle.hib_core.specs.declared.waking.waker.Waker.{Waker}
use Rattle.hib_core.proofs.WakingCases.{at_waking, at_sleep}
use Rattle.hib_core.proofs.WakingPlain.{may_wake, may_read, read_may_fail, may_write, write_may_fail, may_end, end_may_fail}
use Rattle.protocol_laws.proofs.Named.{names_same}
use Rattle.protocol_laws.proofs.Same.{same_area}

-- The row of a step, to what stands after it.
abbrev pub IsStepRow : Machine → Memory → Waker → rows.StandsBy → Reply → disk.Content → disk.Content → Type 0
IsStepRow machine frames waker new r c c' = rows.Simulates machine.hw (WakingStandsFor machine frames waker) new (event.Step actor.Core) r c c'

-- the row is that of the machine and the page frames that the caller leaves
pub as_left : (machine : Machine) (frames : Memory) (waker : Waker) (new : Machine → Memory → rows.StandsBy) (last machine' : Machine) (left frames' : Memory) (r : Reply) (c c' : disk.Content) → machine' ≡ last → frames' ≡ left →
    IsStepRow machine frames waker (new last left) r c c' → IsStepRow machine frames waker (new machine' frames') r c c'
as_left machine frames waker new last machine' left frames' r c c' same kept row =
    subst (λ (m : Machine). IsStepRow machine frames waker (new m frames') r c c') (sym same)
    (subst (λ (m : Memory). IsStepRow machine frames waker (new last m) r c c') (sym kept) row)

-- what a waking is at, by the call that is next
wakes_by : (waker : Waker) (unmark : Unmark) (next : UnmarkCall) → waker.stage ≡ stage.Wakes unmark → unmark.next ≡ next → activity_of waker ≡ wakes (calls_before next)
wakes_by waker unmark next at is = ap (λ (t : Stage). wakes (steps_before t)) at ∙ ap (λ (n : UnmarkCall). wakes (calls_before n)) is

row_at : (machine : Machine) (frames : Memory) (waker : Waker) (new : rows.StandsBy) (r : Reply) (c c' : disk.Content) (old : Unmark) (next : UnmarkCall) → waker.stage ≡ stage.Wakes old → old.next ≡ next →
    ((i : Image) (held : Held) (a : Running) → WakingStandsFor machine frames waker c (waking i held a (calls_before next)) → (b : State) × rows.StepsTo machine.hw new (event.Step actor.Core) r c c' (waking i held a (calls_before next)) b) →
    IsStepRow machine frames waker new r c c'
row_at machine frames waker new r c c' old next at from goes s stands =
    let it = at_waking s (calls_before next) (sym (wakes_by waker old next at from) ∙ stands.activity) in
    subst (λ (t : State). (b : State) × rows.StepsTo machine.hw new (event.Step actor.Core) r c c' t b) (sym it.3)
    (goes it.0 it.1 it.2 (subst (WakingStandsFor machine frames waker c) it.3 stands))

-- Wake.
pub begun_row : (waker : Waker) (unmark : Unmark) → waker.stage ≡ stage.Wakes unmark → unmark.next ≡ call.Read → IsBegun waker
begun_row waker unmark at first machine frames c s stands =
    let it = at_sleep s stands.activity in
    let i : Image = it.0 in
    let held : Held = it.1 in
    let a : Running = it.2 in
    let here : Sleeps machine frames c (asleep i held a) = subst (Sleeps machine frames c) it.3 stands in (
      waking i held a 0,
      record {
        step = subst (λ (t : State). Step machine.hw (disk.as_it_reads c) t event.Wake (reply.More 0 3) (waking i held a 0)) (sym it.3) (may_wake machine.hw (disk.as_it_reads c) i held a);
        stands = wake_begins machine.hw (asleep_by machine frames) (shown_by machine frames waker) c i held a here (wakes_by waker unmark call.Read at first)
            here.parts.behind.memory (names_same machine.hw (asleep_by machine frames) (shown_by machine frames waker) held refl here.parts.names);
        area = same_area machine.hw (disk.as_it_reads c);
        unwritten = λ b not_in. block_same b _;
        leaves = tt;
        header = left_same machine.hw s c;
      },
    )

-- The read.
pub read_row : (machine : Machine) (frames : Memory) (waker : Waker) (old unmark : Unmark) (c : disk.Content) → waker.stage ≡ stage.Wakes old → old.next ≡ call.Read → unmark.next ≡ call.Write → unmark.header ≡ header_of machine.hw (disk.as_it_reads c) →
    IsStepRow machine frames waker (WakingStandsFor machine frames (record waker { stage = stage.Wakes unmark })) (reply.More 1 3) c c
read_row machine frames waker old unmark c at from to read =
    let new = record waker { stage = stage.Wakes unmark } in
    row_at machine frames waker (WakingStandsFor machine frames new) (reply.More 1 3) c c old call.Read at from
    (λ i held a stands. (
      waking i held a 1,
      record {
        step = may_read machine.hw (disk.as_it_reads c) i held a;
        stands = wake_reads machine.hw (shown_by machine frames waker) (shown_by machine frames new) c i held a stands read (wakes_by new unmark call.Write refl to)
            stands.parts.behind.memory (names_same machine.hw (shown_by machine frames waker) (shown_by machine frames new) held refl stands.parts.names);
        area = same_area machine.hw (disk.as_it_reads c);
        unwritten = λ b not_in. block_same b _;
        leaves = tt;
        header = tt;
      },
    ))

pub read_failed_row : (machine : Machine) (frames : Memory) (waker : Waker) (old : Unmark) (c : disk.Content) → waker.stage ≡ stage.Wakes old → old.next ≡ call.Read → IsStepRow machine frames waker (Sleeps machine frames) (reply.ReadFault Same) c c
read_failed_row machine frames waker old c at from =
    row_at machine frames waker (Sleeps machine frames) (reply.ReadFault Same) c c old call.Read at from
    (λ i held a stands. (
      asleep i held a,
      record {
        step = read_may_fail machine.hw (disk.as_it_reads c) i held a;
        stands = wake_read_fails machine.hw (shown_by machine frames waker) (asleep_by machine frames) c i held a stands refl
            stands.parts.behind.memory (names_same machine.hw (shown_by machine frames waker) (asleep_by machine frames) held refl stands.parts.names);
        area = same_area machine.hw (disk.as_it_reads c);
        unwritten = λ b not_in. block_same b _;
        leaves = tt;
        header = tt;
      },
    ))

-- The write.
pub write_row : (machine : Machine) (frames : Memory) (waker : Waker) (old unmark : Unmark) (c c' : disk.Content) → IsOnDisk machine.hw machine.blocks c → waker.stage ≡ stage.Wakes old → old.next ≡ call.Write → unmark.next ≡ call.Sync → disk.IsContent machine.blocks c' →
    disk.Writes (block_of_slot machine.hw 0) (unmarked_block old.header) c c' → IsStepRow machine frames waker (WakingStandsFor machine frames (record waker { stage = stage.Wakes unmark })) (reply.More 2 3) c c'
write_row machine frames waker old unmark c c' over at from to whole wrote =
    let new = record waker { stage = stage.Wakes unmark } in
    let writes = subst (λ (p : List ℕ). disk.Writes (block_of_slot machine.hw 0) (unmarked_block p) c c') (sym (ap header_at at)) wrote in
    row_at machine frames waker (WakingStandsFor machine frames new) (reply.More 2 3) c c' old call.Write at from
    (λ i held a stands. (
      waking i held a 2,
      record {
        step = may_write machine.hw (disk.as_it_reads c) i held a;
        stands = wake_writes machine.hw (shown_by machine frames waker) (shown_by machine frames new) c c' machine.blocks i held a over whole stands writes (wakes_by new unmark call.Sync refl to)
            stands.parts.behind.memory (names_same machine.hw (shown_by machine frames waker) (shown_by machine frames new) held refl stands.parts.names);
        area = wake_keeps_area machine.hw (shown_by machine frames waker) c c' machine.blocks i held a over stands (inl writes);
        unwritten = λ b not_in. unwritten_header machine.hw [] b c c' writes.others not_in;
        leaves = tt;
        header = tt;
      },
    ))

pub write_failed_row : (machine : Machine) (frames : Memory) (waker : Waker) (old : Unmark) (c c' : disk.Content) → IsOnDisk machine.hw machine.blocks c → waker.stage ≡ stage.Wakes old → old.next ≡ call.Write → disk.IsContent machine.blocks c' →
    disk.FailsToWrite (block_of_slot machine.hw 0) (unmarked_block old.header) c c' → IsStepRow machine frames waker (Sleeps machine frames) (reply.WriteFault Unsure) c c'
write_failed_row machine frames waker old c c' over at from whole failed =
    let fails = subst (λ (p : List ℕ). disk.FailsToWrite (block_of_slot machine.hw 0) (unmarked_block p) c c') (sym (ap header_at at)) failed in
    row_at machine frames waker (Sleeps machine frames) (reply.WriteFault Unsure) c c' old call.Write at from
    (λ i held a stands. (
      asleep i (perhaps held) a,
      record {
        step = write_may_fail machine.hw (disk.as_it_reads c) i held a;
        stands = wake_write_fails machine.hw (shown_by machine frames waker) (asleep_by machine frames) c c' machine.blocks i held a over whole stands fails refl
            stands.parts.behind.memory (names_same machine.hw (shown_by machine frames waker) (asleep_by machine frames) held refl stands.parts.names);
        area = wake_keeps_area machine.hw (shown_by machine frames waker) c c' machine.blocks i held a over stands (inr fails);
        unwritten = λ b not_in. unwritten_header machine.hw [] b c c' fails.others not_in;
        leaves = tt;
        header = tt;
      },
    ))

-- The sync.
abbrev pub woken : Machine → Machine
woken machine = record machine { held = No }

runs_woken : (machine : Machine) (frames : Memory) (a : Running) → IsMemoryOf machine.hw frames → RunsAs machine.hw machine.held (reason_of machine.area) (flights_in machine.flights) frames a →
    RunsAs machine.hw No (reason_of machine.area) (flights_in machine.flights) (seen_frames machine.hw frames) (with_held a nothing)
runs_woken machine frames a memory shows =
    let back = runs_given_back machine.hw machine.held (reason_of machine.area) (flights_in machine.flights) frames a memory shows in
    record { held = tt; unusable = back.unusable; flights = back.flights; same = back.same; fits = back.fits }

pub woken_row : (machine : Machine) (frames : Memory) (waker : Waker) (old : Unmark) (c c' : disk.Content) → IsMemoryOf machine.hw frames → waker.stage ≡ stage.Wakes old → old.next ≡ call.Sync → disk.IsContent machine.blocks c → disk.Syncs c c' →
    IsStepRow machine frames waker (Runs (woken machine) (seen_frames machine.hw frames)) reply.Woken c c'
woken_row machine frames waker old c c' memory at from whole syncs =
    let frames' = seen_frames machine.hw frames in
    let names : NamesOnly machine.hw (running_by (woken machine) frames') [] = λ k lt e. absurd (none_left machine.hw frames k memory lt e) in
    row_at machine frames waker (Runs (woken machine) frames') reply.Woken c c' old call.Sync at from
    (λ i held a stands. (
      on (with_held a nothing),
      record {
        step = may_end machine.hw (disk.as_it_reads c) i held a;
        stands = wake_syncs machine.hw (shown_by machine frames waker) (running_by (woken machine) frames') c c' machine.blocks i held a whole stands syncs refl
            (runs_woken machine frames a memory stands.parts.behind.memory) names;
        area = kept_by_sync machine.hw c c' syncs;
        unwritten = λ b not_in. block_synced machine.blocks b c c' whole syncs;
        leaves = tt;
        header = tt;
      },
    ))

pub sync_failed_row : (machine : Machine) (frames : Memory) (waker : Waker) (old : Unmark) (c : disk.Content) → waker.stage ≡ stage.Wakes old → old.next ≡ call.Sync → IsStepRow machine frames waker (Sleeps machine frames) (reply.SyncFault Unsure) c c
sync_failed_row machine frames waker old c at from =
    row_at machine frames waker (Sleeps machine frames) (reply.SyncFault Unsure) c c old call.Sync at from
    (λ i held a stands. (
      asleep i (perhaps held) a,
      record {
        step = end_may_fail machine.hw (disk.as_it_reads c) i held a;
        stands = wake_sync_fails machine.hw (shown_by machine frames waker) (asleep_by machine frames) c i held a stands refl
            stands.parts.behind.memory (names_same machine.hw (shown_by machine frames waker) (asleep_by machine frames) held refl stands.parts.names);
        area = same_area machine.hw (disk.as_it_reads c);
        unwritten = λ b not_in. block_same b _;
        leaves = tt;
        header = tt;
      },
    ))
