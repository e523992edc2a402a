-- [step]: what the machine may answer, and the state after it. Only the outcomes listed are possible. In Linux:
-- hibernation_snapshot, create_image and software_resume, kernel/power/hibernate.c; swsusp_write, mark_swapfiles,
-- swsusp_check and swsusp_unmark, kernel/power/swap.c.
use Rattle.std.specs.Prelude.{◌≡◌, ℕ, ◌+◌, ◌-◌, ◌*◌, ◌==◌, ◌&&◌, ◌||◌, Bool, true, false, not, nat_lt, nat_le, List, []}
use Rattle.std.specs.Prelude.{◌∷◌, ◌++◌, length, filter, take, Option, Some, None, if◌then◌else◌, is_none, is_some}
use Rattle.std.specs.Prelude.{unwrap_or, slice_get, slice_set, Contains}
use Rattle.page_core.specs.declared.format.Format.{Format}
use Rattle.definitions.specs.Bytes.{zero_page, word, with_word}
use Rattle.definitions.specs.Disk as disk
use Rattle.definitions.specs.Zones.{numbers}
use Rattle.definitions.specs.Tables.{frame, with_entry, with_entries, page_flags}
use Rattle.definitions.specs.NumberPages.{meta_of}
use Rattle.image_format.specs.AreaKind.{area_kind}
use Rattle.plain_machine.specs.Machine.{Hardware, Memory, frame_entry, is_table_frame, saveable, bad_slot}
use Rattle.plain_machine.specs.Image.{Image, SlotPages, image_of_memory, n_of, d_of, hibernate_steps, resume_steps}
use Rattle.plain_machine.specs.Loader.{has, left_free, need, restored}
use Rattle.plain_machine.specs.Trace.{trace, restored_in, slots_in}
use Rattle.plain_machine.specs.UsableArea.{area_fault, dump_area_fault, area_block, bad_slots_in}
use Rattle.plain_machine.specs.Chain.{is_marked_disk}
use Rattle.plain_machine.specs.State.{State, off, on, booting, hibernating, undoing, settling, waking, loading, asleep}
use Rattle.plain_machine.specs.State.{Running, Held, nothing, sure, maybe, perhaps, own, other, Flight, goes_out}
use Rattle.plain_machine.specs.State.{comes_in, Load, Found, not_yet, found_own, found_other, held_in, kept_in}
use Rattle.plain_machine.specs.State.{saved_found}
use Rattle.plain_machine.specs.Calls.{BootCall, syncs_disk, reads_area, boot_call, HibernationCall, writes_page}
use Rattle.plain_machine.specs.Calls.{syncs_pages, reads_header, writes_mark, syncs_mark, hibernation_call, BackCall}
use Rattle.plain_machine.specs.Calls.{reads_mark, takes_back, syncs_back, back_call, undo_call, LoadCall, syncs_first}
use Rattle.plain_machine.specs.Calls.{of_mark, reads_image, load_call}
use Rattle.plain_machine.specs.FreshMemory.{fresh_memory}
use Rattle.plain_machine.specs.Refusals.{refusal, free_slots_of}
use Rattle.plain_machine.specs.declared.event.Event.{Event}
use Rattle.plain_machine.specs.declared.event.Event.TheVariants as event
use Rattle.plain_machine.specs.declared.event.TaskOp.{TaskOp}
use Rattle.plain_machine.specs.declared.event.TaskOp.TheVariants as op
use Rattle.plain_machine.specs.declared.event.Actor.TheVariants as actor
use Rattle.plain_machine.specs.declared.event.BootFrom.{BootFrom}
use Rattle.plain_machine.specs.declared.event.BootFrom.TheVariants.{Fresh, Kept}
use Rattle.plain_machine.specs.declared.event.Loader.{Loader}
use Rattle.plain_machine.specs.declared.event.Loader.TheVariants as loader
use Rattle.plain_machine.specs.declared.reply.Reply.{Reply}
use Rattle.plain_machine.specs.declared.reply.Reply.TheVariants as reply
use Rattle.plain_machine.specs.declared.reply.Left.{Left}
use Rattle.plain_machine.specs.declared.reply.Left.TheVariants.{Same, Gone, Unsure}
use Rattle.plain_machine.specs.declared.reply.UndoCall.{UndoCall}
use Rattle.plain_machine.specs.declared.reply.UndoCall.TheVariants as undo

-- a reply, and the state after it
abbrev pub Outcome : Type 0
Outcome = Reply × State

-- the only outcome
abbrev pub only : Reply → State → List Outcome
only r b = (r, b) ∷ []

-- the outcomes of a device call: it succeeds, or it fails
abbrev pub done_or : Reply → State → Reply → State → List Outcome
done_or r b fault c = (r, b) ∷ (fault, c) ∷ []

-- Memory and slots after a task's operation.

abbrev pub with_frame : Memory → ℕ → List ℕ → Memory
with_frame m p page = slice_set m p page

abbrev pub with_frame_entry : Hardware → Memory → ℕ → ℕ → Memory
with_frame_entry h m p entry = with_entry m h.frame_table p entry

abbrev pub with_slot_entry : Hardware → Memory → ℕ → ℕ → Memory
with_slot_entry h m s entry = with_entry m h.slot_table s entry

-- an entry of a task's page frame: the owner in the high 16 bits
abbrev pub owned_by : ℕ → ℕ
owned_by t = 65536 * t

abbrev pub with_flight : (ℕ → Option Flight) → ℕ → Option Flight → ℕ → Option Flight
with_flight flights t flight = λ u. if u == t then flight else flights u

abbrev pub with_slot : SlotPages → ℕ → Option (List ℕ) → SlotPages
with_slot slots s page = λ q. if q == s then page else slots q

-- the outcome of a task's request to a running machine that doesn't refuse it
abbrev pub requested : Hardware → Running → ℕ → TaskOp → List Outcome
requested h a t (op.Claim p) =
    only reply.Done (on (record a { memory = with_frame_entry h (with_frame a.memory p zero_page) p (owned_by t) }))
requested h a t (op.Release p) = only reply.Done (on (record a { memory = with_frame_entry h a.memory p 1 }))
requested h a t (op.Store p k v) =
    only reply.Done (on (record a { memory = with_frame a.memory p (with_word (frame a.memory p) k v) }))
requested h a t (op.Show p k) = only (reply.Word (word (frame a.memory p) k)) (on a)
requested h a t (op.Cache p) =
    only reply.Done (on (record a { memory = with_frame_entry h a.memory p (owned_by t + 64) }))
requested h a t (op.Out p) =
    let s = unwrap_or (free_slots_of h a) 0 in
    only (reply.Slot s) (on (record a {
      memory = with_slot_entry h a.memory s t;
      flights = with_flight a.flights t (Some (goes_out s p));
    }))
requested h a t (op.TakeIn s p) =
    only (reply.Reading s) (on (record a { flights = with_flight a.flights t (Some (comes_in s p)) }))

-- the step that ends a task's operation
abbrev pub finished : Hardware → Running → ℕ → Flight → List Outcome
finished h a t (goes_out s p) =
    let landed = record a { flights = with_flight a.flights t None } in
    done_or (reply.Written s) (on (record landed { slots = with_slot a.slots s (Some (frame a.memory p)) }))
    (reply.WriteFault Same) (on (record landed { memory = with_slot_entry h a.memory s 0 }))
finished h a t (comes_in s p) =
    let landed = record a { flights = with_flight a.flights t None } in
    done_or (reply.Fetched s)
    (on (record landed {
      memory = with_frame (with_slot_entry h a.memory s 0) p (unwrap_or (a.slots s) (frame a.memory p));
      slots = with_slot a.slots s None;
    }))
    (reply.ReadFault Same) (on landed)

abbrev pub task_step : Hardware → Running → ℕ → Option Flight → List Outcome
task_step h a t None = []
task_step h a t (Some flight) = finished h a t flight

-- Booting.

abbrev pub fresh_slot : Hardware → disk.DiskImage → ℕ → ℕ
fresh_slot h v s =
    if is_some (area_fault h v) || has (bad_slots_in (area_kind (area_block h v))) s then bad_slot else 0

abbrev pub no_slots : SlotPages
no_slots s = None

abbrev pub no_flights : ℕ → Option Flight
no_flights t = None

abbrev pub booted : Hardware → disk.DiskImage → BootFrom → Memory → Held → Running
booted h v Fresh dump held = record {
  memory = fresh_memory h (fresh_slot h v);
  slots = no_slots;
  flights = no_flights;
  unusable = area_fault h v;
  held = held;
}
booted h v Kept dump held = record {
  memory = dump;
  slots = if is_none (dump_area_fault h v dump) then slots_in h v dump else no_slots;
  flights = no_flights;
  unusable = dump_area_fault h v dump;
  held = held;
}

-- The reply says whether an image is on the disk, by what is held; if that is a perhaps, the disk decides.
abbrev pub boot_outcomes : Hardware → disk.DiskImage → BootFrom → Memory → Held → List Outcome
boot_outcomes h v from dump nothing = only (reply.Booted false) (on (booted h v from dump nothing))
boot_outcomes h v from dump (sure x) = only (reply.Booted true) (on (booted h v from dump (sure x)))
boot_outcomes h v from dump (maybe x) =
    (reply.Booted false, on (booted h v from dump nothing)) ∷ (reply.Booted true, on (booted h v from dump (sure x)))
    ∷ []

abbrev pub boot_step : Hardware → disk.DiskImage → BootFrom → Memory → Held → ℕ → List Outcome
boot_step h v from dump held k = by_call (boot_call k) where
  by_call : Option BootCall → List Outcome
  by_call None = []
  by_call (Some syncs_disk) = done_or (reply.More 1 2) (booting from dump held 1) (reply.SyncFault Same) (off held None)
  by_call (Some reads_area) = boot_outcomes h v from dump held ++ only (reply.ReadFault Same) (off held None)

-- Hibernating.

abbrev pub hibernated : Bool → Image → Running → Outcome
hibernated false i a = (reply.Hibernated (n_of i), off (sure (own i)) None)
hibernated true i a = (reply.Asleep (n_of i), asleep i (sure (own i)) a)

-- step k + 1 was made, and more steps follow
abbrev pub hibernates_on : Bool → Image → Running → ℕ → Outcome
hibernates_on suspends i a k = (reply.More (k + 1) (hibernate_steps i), hibernating suspends i a (k + 1))

-- the outcomes of step k + 1, by the call that it makes
abbrev pub hibernation_outcomes : Bool → Image → Running → ℕ → Option HibernationCall → List Outcome
hibernation_outcomes suspends i a k None = []
hibernation_outcomes suspends i a k (Some writes_page) =
    hibernates_on suspends i a k ∷ (reply.WriteFault Same, on a) ∷ []
hibernation_outcomes suspends i a k (Some syncs_pages) =
    hibernates_on suspends i a k ∷ (reply.SyncFault Same, on a) ∷ []
hibernation_outcomes suspends i a k (Some reads_header) =
    hibernates_on suspends i a k ∷ (reply.ReadFault Same, on a) ∷ []
hibernation_outcomes suspends i a k (Some writes_mark) =
    hibernates_on suspends i a k ∷ (reply.Undo undo.Write 0, undoing i undo.Write a 0) ∷ []
hibernation_outcomes suspends i a k (Some syncs_mark) =
    hibernated suspends i a ∷ (reply.Undo undo.Sync 0, undoing i undo.Sync a 0) ∷ []

abbrev pub hibernate_step : Bool → Image → Running → ℕ → List Outcome
hibernate_step suspends i a k = hibernation_outcomes suspends i a k (hibernation_call i k)

abbrev pub undone_fault : UndoCall → Left → Reply
undone_fault undo.Write left = reply.WriteFault left
undone_fault undo.Sync left = reply.SyncFault left

abbrev pub undo_step : Image → UndoCall → Running → ℕ → List Outcome
undo_step i call a k = by_call (undo_call k) where
  failed : Outcome
  failed = (undone_fault call Unsure, on (record a { held = maybe (own i) }))

  by_call : Option BackCall → List Outcome
  by_call (Some takes_back) = (reply.Undo call 1, undoing i call a 1) ∷ failed ∷ []
  by_call (Some syncs_back) = (undone_fault call Gone, on (record a { held = nothing })) ∷ failed ∷ []
  by_call _ = []

-- Settling and waking.

abbrev pub settle_step : Running → ℕ → List Outcome
settle_step a k = by_call (back_call k) where
  uncertain : State
  uncertain = on (record a { held = perhaps a.held })

  by_call : Option BackCall → List Outcome
  by_call None = []
  by_call (Some reads_mark) = done_or (reply.More 1 3) (settling a 1) (reply.ReadFault Same) (on a)
  by_call (Some takes_back) = done_or (reply.More 2 3) (settling a 2) (reply.WriteFault Unsure) uncertain
  by_call (Some syncs_back) =
      done_or reply.Settled (on (record a { held = nothing })) (reply.SyncFault Unsure) uncertain

abbrev pub wake_step : Image → Held → Running → ℕ → List Outcome
wake_step i held a k = by_call (back_call k) where
  uncertain : State
  uncertain = asleep i (perhaps held) a

  by_call : Option BackCall → List Outcome
  by_call None = []
  by_call (Some reads_mark) = done_or (reply.More 1 3) (waking i held a 1) (reply.ReadFault Same) (asleep i held a)
  by_call (Some takes_back) = done_or (reply.More 2 3) (waking i held a 2) (reply.WriteFault Unsure) uncertain
  by_call (Some syncs_back) = done_or reply.Woken (on (record a { held = nothing })) (reply.SyncFault Unsure) uncertain

-- Resuming.

-- the machine after a resume: with a scripted loader it runs, after a dump's loader it is off
abbrev pub resumed : Memory → SlotPages → Loader → State
resumed m slots (loader.Ranges ranges) =
    on (record { memory = m; slots = slots; flights = no_flights; unusable = None; held = nothing })
resumed m slots loader.Table = off nothing None

-- the outcome of a resume's step if its call fails
abbrev pub fault_of_load : Load → LoadCall → Outcome
fault_of_load load syncs_first = (reply.SyncFault Same, off load.held None)
fault_of_load load (of_mark reads_mark) = (reply.ReadFault Same, off load.held None)
fault_of_load load (of_mark takes_back) =
    (reply.WriteFault Unsure, off (perhaps (saved_found load.found load.held)) None)
fault_of_load load (of_mark syncs_back) =
    (reply.SyncFault Unsure, off (perhaps (saved_found load.found load.held)) None)
fault_of_load load reads_image = (reply.ReadFault Gone, off nothing None)

abbrev pub load_fault : Load → ℕ → Outcome
load_fault load k = fault_of_load load (load_call k)

abbrev pub has_room : Hardware → Load → ℕ → Bool
has_room h load d = nat_le (need d) (length (left_free h load.dump load.loader))

abbrev pub too_few : Hardware → Load → ℕ → Outcome
too_few h load d =
    (reply.TooFewLoaderFrames (length (left_free h load.dump load.loader)) (need d), off nothing None)

-- step k + 1 over an own image
abbrev pub own_step : Hardware → Load → Image → ℕ → Outcome
own_step h load i k =
    if (k + 1 == 6 + meta_of (n_of i)) && not (has_room h load (d_of i)) then too_few h load (d_of i)
    else (if k + 1 == resume_steps i
    then (reply.Resumed (n_of i), resumed (restored h load.dump load.loader i) i.slots load.loader)
    else (reply.Loading (k + 1), loading load (k + 1)))

-- step k + 1 over another's image: the replies are those of the trace over the disk that step 2 read
abbrev pub other_state : Hardware → Load → disk.DiskImage → ℕ → Reply → State
other_state h load v k (reply.Loading j) = loading load j
other_state h load v k (reply.Resumed n) =
    let m = restored_in h load.dump v load.loader in resumed m (slots_in h v m) load.loader
other_state h load v k (reply.Compressed flags) = off (sure other) None
other_state h load v k r = off nothing None

abbrev pub other_step : Hardware → Load → disk.DiskImage → ℕ → List Outcome
other_step h load v k = outcome (slice_get (trace h load.dump v load.loader load.check) k) where
  outcome : Option Reply → List Outcome
  outcome None = []
  outcome (Some r) = only r (other_state h load v k r)

-- step 2: what is found
abbrev pub no_image : List Outcome
no_image = only reply.NoImage (off nothing None)

abbrev pub find_step : Hardware → disk.DiskImage → Load → Held → List Outcome
find_step h v load nothing = no_image
find_step h v load (sure (own i)) = only (reply.Loading 2) (loading (record load { found = found_own i }) 2)
find_step h v load (maybe (own i)) = (reply.Loading 2, loading (record load { found = found_own i }) 2) ∷ no_image
find_step h v load (sure other) =
    if is_marked_disk h v then other_step h (record load { found = found_other v }) v 1 else []
find_step h v load (maybe other) = other_step h (record load { found = found_other v }) v 1

abbrev pub loaded_step : Hardware → Load → Found → ℕ → List Outcome
loaded_step h load not_yet k = []
loaded_step h load (found_own i) k = own_step h load i k ∷ []
loaded_step h load (found_other v) k = other_step h load v k

-- whether there is a step k + 1 after the four at block(0)
abbrev pub has_place : Hardware → Load → Found → ℕ → Bool
has_place h load not_yet k = false
has_place h load (found_own i) k = nat_lt k (resume_steps i)
has_place h load (found_other v) k = nat_lt k (length (trace h load.dump v load.loader load.check))

abbrev pub load_answers : Hardware → disk.DiskImage → Load → ℕ → List Outcome
load_answers h v load k = by_call (load_call k) where
  by_call : LoadCall → List Outcome
  by_call syncs_first = only (reply.Loading 1) (loading load 1)
  by_call (of_mark reads_mark) = find_step h v load load.held
  by_call call = loaded_step h load load.found k

abbrev pub load_step : Hardware → disk.DiskImage → Load → ℕ → List Outcome
load_step h v load k =
    if nat_lt k 4 || has_place h load load.found k then load_fault load k ∷ load_answers h v load k else []

-- Shrinking: [drop]. Page frames whose only flag is CACHE are dropped, from the lowest on, until `want` saveable ones
-- are left.
abbrev pub droppable : Hardware → Memory → List ℕ
droppable h m = filter (λ p. (frame_flags p == 64) && not (is_table_frame h p)) (numbers h.zones) where
  frame_flags : ℕ → ℕ
  frame_flags p = page_flags (frame_entry h m p)

abbrev pub dropped_by : Hardware → Memory → ℕ → List ℕ
dropped_by h m want = take (length (saveable h m) - want) (droppable h m)

abbrev pub drop_memory : Hardware → Memory → ℕ → Memory
drop_memory h m want = with_entries m h.frame_table (dropped_by h m want) 1

-- The outcomes of each event that isn't refused.

abbrev pub core_step : Hardware → disk.DiskImage → State → List Outcome
core_step h v (off held kept) = []
core_step h v (on a) = []
core_step h v (booting from dump held k) = boot_step h v from dump held k
core_step h v (hibernating suspends i a k) = hibernate_step suspends i a k
core_step h v (undoing i call a k) = undo_step i call a k
core_step h v (settling a k) = settle_step a k
core_step h v (waking i held a k) = wake_step i held a k
core_step h v (loading load k) = load_step h v load k
core_step h v (asleep i held a) = []

-- the outcomes given by f if the machine runs
abbrev pub if_running : State → (Running → List Outcome) → List Outcome
if_running (on a) f = f a
if_running (off held kept) f = []
if_running (booting from dump held k) f = []
if_running (hibernating suspends i a k) f = []
if_running (undoing i call a k) f = []
if_running (settling a k) f = []
if_running (waking i held a k) f = []
if_running (loading load k) f = []
if_running (asleep i held a) f = []

abbrev pub begun : Hardware → Bool → Format → Running → List Outcome
begun h suspends f a =
    let i = image_of_memory h a.memory a.slots f in
    only (reply.More 0 (hibernate_steps i)) (hibernating suspends i a 0)

abbrev pub woken : State → List Outcome
woken (asleep i held a) = only (reply.More 0 3) (waking i held a 0)
woken (off held kept) = []
woken (on a) = []
woken (booting from dump held k) = []
woken (hibernating suspends i a k) = []
woken (undoing i call a k) = []
woken (settling a k) = []
woken (waking i held a k) = []
woken (loading load k) = []

abbrev pub accepted : Hardware → disk.DiskImage → State → Event → List Outcome
accepted h v a (event.Boot from) = only (reply.More 0 2) (booting from (unwrap_or (kept_in a) []) (held_in a) 0)
accepted h v a (event.Resume l check) =
    only (reply.Loading 0)
    (loading (record {
      held = held_in a;
      found = not_yet;
      loader = l;
      dump = unwrap_or (kept_in a) [];
      check = check;
    }) 0)
accepted h v a (event.Hibernate f) = if_running a (begun h false f)
accepted h v a (event.Suspend f) = if_running a (begun h true f)
accepted h v a event.Settle = if_running a (λ r. only (reply.More 0 3) (settling r 0))
accepted h v a (event.Shrink want) =
    if_running a (λ r. only
    (reply.Shrunk (length (dropped_by h r.memory want))
    (length (saveable h r.memory) - length (dropped_by h r.memory want)))
    (on (record r { memory = drop_memory h r.memory want })))
accepted h v a event.Wake = woken a
accepted h v a (event.Task t o) = if_running a (λ r. requested h r t o)
accepted h v a (event.Step actor.Core) = core_step h v a
accepted h v a (event.Step (actor.Task t)) = if_running a (λ r. task_step h r t (r.flights t))
accepted h v a (event.Cut pick) = only reply.WasCut (off (held_in a) (kept_in a))
accepted h v a (event.Arm first count pick) = only reply.Done a

abbrev pub refused_or : State → Option Reply → List Outcome → List Outcome
refused_or a (Some r) outcomes = only r a
refused_or a None outcomes = outcomes

-- the outcomes of an event, over the disk v as it reads at the event
unfoldable pub outcomes : Hardware → disk.DiskImage → State → Event → List Outcome
outcomes h v a e = refused_or a (refusal h a e) (accepted h v a e)

-- the machine may give this reply to the event and go on to b
abbrev pub Step : Hardware → disk.DiskImage → State → Event → Reply → State → Type 0
Step h v a e r b = Contains (outcomes h v a e) (r, b)

-- The machine may give these replies to these events, one after another. Over a formatted area no image is another
-- machine's, so no step depends on the disk except for the area's own block: v is a disk that reads as the formatted
-- area.
abbrev pub Run : Hardware → disk.DiskImage → State → List Event → List Reply → State → Type 0
Run h v a [] [] b = b ≡ a
Run h v a [] (r ∷ replies) b = ⊥
Run h v a (e ∷ events) [] b = ⊥
Run h v a (e ∷ events) (r ∷ replies) b = (mid : State) × Step h v a e r mid × Run h v mid events replies b
