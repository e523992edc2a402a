-- Which events are refused, and why: the first of an event's tests that refuses it, in the order in which they stand
-- here. A refused event changes nothing. In Linux: freeze_processes, kernel/power/process.c; enough_free_mem,
-- kernel/power/snapshot.c; enough_swap, kernel/power/swap.c. The order is this project's.
use Rattle.std.specs.Prelude.{ℕ, ◌+◌, ◌==◌, ◌&&◌, Bool, true, false, not, nat_lt, length, Option, Some, None}
use Rattle.std.specs.Prelude.{if◌then◌else◌, is_none, is_some}
use Rattle.std.specs.List.{range_with_len, find}
use Rattle.page_core.specs.declared.format.Format.{Format}
use Rattle.definitions.specs.Tables.{owner_of}
use Rattle.plain_machine.specs.Machine.{Hardware, Memory, is_valid, frame_entry, slot_entry, is_slot_of, unused}
use Rattle.plain_machine.specs.Machine.{unused_slots}
use Rattle.plain_machine.specs.Image.{Image, image_of_memory, n_of, pages_of}
use Rattle.plain_machine.specs.Chain.{or_else}
use Rattle.plain_machine.specs.State.{State, off, on, booting, hibernating, undoing, settling, waking, loading, asleep}
use Rattle.plain_machine.specs.State.{Running, Held, nothing, sure, maybe}
use Rattle.plain_machine.specs.declared.event.Event.{Event}
use Rattle.plain_machine.specs.declared.event.Event.TheVariants as event
use Rattle.plain_machine.specs.declared.event.TaskOp.{TaskOp}
use Rattle.plain_machine.specs.declared.event.TaskOp.TheVariants as op
use Rattle.plain_machine.specs.declared.event.Actor.{Actor}
use Rattle.plain_machine.specs.declared.event.Actor.TheVariants as actor
use Rattle.plain_machine.specs.declared.event.BootFrom.{BootFrom}
use Rattle.plain_machine.specs.declared.event.BootFrom.TheVariants.{Fresh, Kept}
use Rattle.plain_machine.specs.declared.event.Loader.{Loader}
use Rattle.plain_machine.specs.declared.event.Loader.TheVariants as loader
use Rattle.plain_machine.specs.declared.no_swap.NoSwap.{NoSwap}
use Rattle.plain_machine.specs.declared.reply.Reply.{Reply}
use Rattle.plain_machine.specs.declared.reply.Reply.TheVariants as reply
use Rattle.definitions.specs.declared.counts.TheConstants.{SPARE_FRAMES, SPARE_SLOTS}

-- refused with this reply, if the test holds
abbrev pub refused_if : Bool → Reply → Option Reply
refused_if test r = if test then Some r else None

abbrev pub is_held : Held → Bool
is_held nothing = false
is_held (sure x) = true
is_held (maybe x) = true

-- the refusal by a test of the running machine, or why the machine doesn't run
abbrev pub refusal_if_running : State → (Running → Option Reply) → Option Reply
refusal_if_running (off held kept) test = Some reply.NotOn
refusal_if_running (on a) test = test a
refusal_if_running (booting from dump held k) test = Some reply.Frozen
refusal_if_running (hibernating suspends i a k) test = Some reply.Frozen
refusal_if_running (undoing i call a k) test = Some reply.Frozen
refusal_if_running (settling a k) test = Some reply.Frozen
refusal_if_running (waking i held a k) test = Some reply.Frozen
refusal_if_running (loading load k) test = Some reply.Frozen
refusal_if_running (asleep i held a) test = Some reply.Sleeping

-- Boot and Resume need a machine that is off and, if they ask for a dump's memory, one that is kept.
abbrev pub no_dump : Bool → Option Memory → Option Reply
no_dump asks kept = refused_if (asks && is_none kept) reply.NoDump

abbrev pub start_refusal : State → Bool → Option Reply
start_refusal (off held kept) asks = no_dump asks kept
start_refusal (on a) asks = Some reply.NotOff
start_refusal (booting from dump held k) asks = Some reply.NotOff
start_refusal (hibernating suspends i a k) asks = Some reply.NotOff
start_refusal (undoing i call a k) asks = Some reply.NotOff
start_refusal (settling a k) asks = Some reply.NotOff
start_refusal (waking i held a k) asks = Some reply.NotOff
start_refusal (loading load k) asks = Some reply.NotOff
start_refusal (asleep i held a) asks = Some reply.NotOff

abbrev pub asks_dump_to_boot : BootFrom → Bool
asks_dump_to_boot Fresh = false
asks_dump_to_boot Kept = true

abbrev pub asks_dump_to_load : Loader → Bool
asks_dump_to_load (loader.Ranges ranges) = false
asks_dump_to_load loader.Table = true

-- the lowest task with an operation in flight
abbrev pub busy_task : Running → Option ℕ
busy_task a = find (λ t. is_some (a.flights t)) (range_with_len 1 64)

abbrev pub busy_reply : Option ℕ → Option Reply
busy_reply None = None
busy_reply (Some t) = Some (reply.Busy t)

abbrev pub busy : Running → Option Reply
busy a = busy_reply (busy_task a)

abbrev pub closed : Running → Option Reply
closed a = refused_if (is_held a.held) reply.Closed

abbrev pub no_swap : Option NoSwap → Option Reply
no_swap None = None
no_swap (Some why) = Some (reply.NoSwap why)

-- enough_free_mem: page frames for the copies, and PAGES_FOR_IO
abbrev pub no_frames : Hardware → Running → Image → Option Reply
no_frames h a i =
    refused_if (nat_lt (length (unused h a.memory)) (n_of i + SPARE_FRAMES))
    (reply.NoFrames (length (unused h a.memory)) (n_of i + SPARE_FRAMES))

-- enough_swap: slots for the stream, after the first map has taken one, and PAGES_FOR_IO
abbrev pub no_slots : Hardware → Running → Image → Option Reply
no_slots h a i =
    refused_if (nat_lt (length (unused_slots h a.memory)) (pages_of i + SPARE_SLOTS))
    (reply.NoSlots (length (unused_slots h a.memory)) (pages_of i + SPARE_SLOTS))

abbrev pub hibernate_refusal : Hardware → Format → Running → Option Reply
hibernate_refusal h f a =
    let i = image_of_memory h a.memory a.slots f in
    or_else (busy a) (or_else (closed a) (or_else (no_swap a.unusable) (or_else (no_frames h a i) (no_slots h a i))))

-- the tests of a task's request
abbrev pub not_owner : Hardware → Running → ℕ → ℕ → Option Reply
not_owner h a t p = refused_if (not (owner_of (frame_entry h a.memory p) == t)) reply.NotOwner

-- in an area that can't be used every slot counts as bad
abbrev pub free_slots_of : Hardware → Running → Option ℕ
free_slots_of h a =
    if is_some a.unusable then None else find (λ s. slot_entry h a.memory s == 0) (range_with_len 0 h.slots)

abbrev pub owns_slot : Hardware → Running → ℕ → ℕ → Bool
owns_slot h a t s = is_none a.unusable && is_slot_of h a.memory t s

abbrev pub op_refusal : Hardware → Running → ℕ → TaskOp → Option Reply
op_refusal h a t (op.Claim p) =
    or_else (refused_if (not (is_valid h p)) reply.NoFrame)
    (refused_if (not (frame_entry h a.memory p == 1)) reply.NotFree)
op_refusal h a t (op.Release p) = or_else (refused_if (not (is_valid h p)) reply.NoFrame) (not_owner h a t p)
op_refusal h a t (op.Store p k v) = or_else (refused_if (not (is_valid h p)) reply.NoFrame) (not_owner h a t p)
op_refusal h a t (op.Show p k) = or_else (refused_if (not (is_valid h p)) reply.NoFrame) (not_owner h a t p)
op_refusal h a t (op.Cache p) = or_else (refused_if (not (is_valid h p)) reply.NoFrame) (not_owner h a t p)
op_refusal h a t (op.Out p) =
    or_else (refused_if (not (is_valid h p)) reply.NoFrame) (or_else (not_owner h a t p)
    (or_else (closed a) (refused_if (is_none (free_slots_of h a)) reply.NoSlot)))
op_refusal h a t (op.TakeIn s p) =
    or_else (refused_if (not (is_valid h p)) reply.NoFrame) (or_else (not_owner h a t p)
    (refused_if (not (owns_slot h a t s)) reply.NoSlotHere))

abbrev pub task_refusal : Hardware → ℕ → TaskOp → Running → Option Reply
task_refusal h t o a = or_else (refused_if (is_some (a.flights t)) reply.InFlight) (op_refusal h a t o)

-- whether the actor has a step to make
abbrev pub has_step : State → Actor → Bool
has_step (off held kept) x = false
has_step (on a) actor.Core = false
has_step (on a) (actor.Task t) = is_some (a.flights t)
has_step (booting from dump held k) actor.Core = true
has_step (booting from dump held k) (actor.Task t) = false
has_step (hibernating suspends i a k) actor.Core = true
has_step (hibernating suspends i a k) (actor.Task t) = false
has_step (undoing i call a k) actor.Core = true
has_step (undoing i call a k) (actor.Task t) = false
has_step (settling a k) actor.Core = true
has_step (settling a k) (actor.Task t) = false
has_step (waking i held a k) actor.Core = true
has_step (waking i held a k) (actor.Task t) = false
has_step (loading load k) actor.Core = true
has_step (loading load k) (actor.Task t) = false
has_step (asleep i held a) x = false

abbrev pub not_asleep : State → Option Reply
not_asleep (off held kept) = Some reply.NotAsleep
not_asleep (on a) = Some reply.NotAsleep
not_asleep (booting from dump held k) = Some reply.NotAsleep
not_asleep (hibernating suspends i a k) = Some reply.NotAsleep
not_asleep (undoing i call a k) = Some reply.NotAsleep
not_asleep (settling a k) = Some reply.NotAsleep
not_asleep (waking i held a k) = Some reply.NotAsleep
not_asleep (loading load k) = Some reply.NotAsleep
not_asleep (asleep i held a) = None

-- The refusal of an event, if it is refused.
unfoldable pub refusal : Hardware → State → Event → Option Reply
refusal h a (event.Boot from) = start_refusal a (asks_dump_to_boot from)
refusal h a (event.Resume loader check) = start_refusal a (asks_dump_to_load loader)
refusal h a (event.Hibernate f) = refusal_if_running a (hibernate_refusal h f)
refusal h a (event.Suspend f) = refusal_if_running a (hibernate_refusal h f)
refusal h a event.Settle =
    refusal_if_running a (λ r. or_else (busy r) (refused_if (not (is_held r.held)) reply.NothingHeld))
refusal h a (event.Shrink want) = refusal_if_running a busy
refusal h a event.Wake = not_asleep a
refusal h a (event.Task t o) = refusal_if_running a (task_refusal h t o)
refusal h a (event.Step x) = refused_if (not (has_step a x)) reply.Idle
refusal h a (event.Cut pick) = None
refusal h a (event.Arm first count pick) = None
