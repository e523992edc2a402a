-- Whole rows of a resume: what each disk call and its answer lead to, in one form for an image that the machine made
-- and for another's (swsusp_check and swsusp_read, kernel/power/swap.c; swsusp_unmark).
use Rattle.std.specs.Prelude.{◌≡◌, ◌≤◌, ◌<◌, ℕ, ◌+◌, false, [], Some, None, Contains, ⊤}
use Rattle.definitions.specs.Disk as disk
use Rattle.definitions.specs.Disk.{Content, IsContent, Writes, FailsToWrite, Syncs, as_it_reads}
use Rattle.definitions.specs.SwapHeader.{taken_back}
use Rattle.definitions.specs.Tables.{frame}
use Rattle.definitions.specs.Zones.{top}
use Rattle.plain_machine.specs.Machine.{Hardware, IsHardware, block_of_slot}
use Rattle.plain_machine.specs.Chain.{Holds}
use Rattle.plain_machine.specs.Image.{SlotPages}
use Rattle.plain_machine.specs.Loader.{left_free, loader_frame}
use Rattle.plain_machine.specs.Shows.{WorldView, rests, runs, loads, ShowsRunning}
use Rattle.plain_machine.specs.Stands.{Stands, NamesOnly, IsOwn}
use Rattle.plain_machine.specs.State.{State, off, on, loading, Running, nothing, sure, other, perhaps, Load, Found}
use Rattle.plain_machine.specs.State.{not_yet, found_own, found_other, held_while_loading}
use Rattle.plain_machine.specs.Step.{no_flights, no_slots}
use Rattle.plain_machine.specs.Trace.{info_in, place_count, header_cause, taken_back_cause, cause_at, tables_cause}
use Rattle.plain_machine.specs.Trace.{restored_in}
use Rattle.plain_machine.specs.declared.event.Actor.TheVariants as actor
use Rattle.plain_machine.specs.declared.event.Event.TheVariants as event
use Rattle.plain_machine.specs.declared.event.Loader.TheVariants as loader
use Rattle.plain_machine.specs.declared.event.Ranges.{Ranges}
use Rattle.plain_machine.specs.declared.reply.Left.TheVariants.{Same, Gone, Unsure}
use Rattle.plain_machine.specs.declared.reply.Reply.{Reply}
use Rattle.plain_machine.specs.declared.reply.Reply.TheVariants as reply
use Rattle.protocol_laws.specs.Loads.{ShowsLoad}
use Rattle.protocol_laws.specs.Rows.{StepsTo}
use Rattle.protocol_laws.specs.TraceAt.{reply_at}

-- The disk v on which the second step found an image: v holds an image that the machine made, or v is the disk with
-- another's.
abbrev pub IsFoundOn : Hardware → disk.DiskImage → Found → Type 0
IsFoundOn h v not_yet = ⊥
IsFoundOn h v (found_own i) = Holds h v i × IsOwn h v i
IsFoundOn h v (found_other w) = v ≡ w

abbrev pub IsFoundIn : Hardware → Load → disk.DiskImage → Type 0
IsFoundIn h load v = IsFoundOn h v load.found

-- the resume with what it has found
abbrev pub with_finding : Load → Found → Load
with_finding load found =
    record { held = load.held; found = found; loader = load.loader; dump = load.dump; check = load.check }

-- A step of the core with this reply: what is shown afterwards and the disk stand for the state that the plain machine
-- goes on to. The area on the disk stays the same.
abbrev pub Goes : Hardware → WorldView → Reply → Content → Content → State → State → Type 0
Goes h shown' r c c' a b = StepsTo h (Stands h shown') (event.Step actor.Core) r c c' a b

-- the machine is off, and keeps no memory
abbrev pub ShowsRest : WorldView → Type 0
ShowsRest shown' = (shown'.activity ≡ rests) × (shown'.keeps_dump ≡ false)

-- each step from the second to step k has replied Loading over the disk v
abbrev pub HaveGoneOn : Hardware → Load → disk.DiskImage → ℕ → Type 0
HaveGoneOn h load v k =
    (j : ℕ) → 1 ≤ j → j < k → reply_at h load.dump v load.loader load.check j ≡ reply.Loading (j + 1)

-- the machine that runs after the resume; its tasks' slots are a parameter, as what is shown doesn't depend on them
abbrev pub running_with : Hardware → Load → disk.DiskImage → SlotPages → Running
running_with h load v slots = record {
  memory = restored_in h load.dump v load.loader;
  slots = slots;
  flights = no_flights;
  unusable = None;
  held = nothing;
}

-- A reply that ends a resume early.
abbrev pub IsStop : Reply → Type 0
IsStop (reply.Loading k) = ⊥
IsStop (reply.Resumed n) = ⊥
IsStop _ = ⊤

-- The first sync.
abbrev pub LoadSyncRow : Type 0
LoadSyncRow =
    (h : Hardware) (shown shown' : WorldView) (c c' : Content) (blocks : ℕ) (load : Load) → IsContent blocks c →
    Stands h shown c (loading load 0) →
    Syncs c c' → ShowsLoad h shown' load 1 → Goes h shown' (reply.Loading 1) c c' (loading load 0) (loading load 1)

abbrev pub LoadSyncFaultRow : Type 0
LoadSyncFaultRow =
    (h : Hardware) (shown shown' : WorldView) (c : Content) (load : Load) → Stands h shown c (loading load 0) →
    ShowsRest shown' →
    Goes h shown' (reply.SyncFault Same) c c (loading load 0) (off load.held None)

-- The read of block(0). Without a mark nothing is held. A compressed image, which is another's, stays. Otherwise the
-- image is found.
abbrev pub FindNoneRow : Type 0
FindNoneRow =
    (h : Hardware) (shown shown' : WorldView) (c : Content) (blocks : ℕ) (load : Load) → IsContent blocks c →
    Stands h shown c (loading load 1) →
    header_cause h (as_it_reads c) ≡ Some reply.NoImage → ShowsRest shown' →
    Goes h shown' reply.NoImage c c (loading load 1) (off nothing None)

abbrev pub FindCompressedRow : Type 0
FindCompressedRow =
    (h : Hardware) (shown shown' : WorldView) (c : Content) (blocks flags : ℕ) (load : Load) → IsContent blocks c →
    Stands h shown c (loading load 1) →
    header_cause h (as_it_reads c) ≡ Some (reply.Compressed flags) → ShowsRest shown' →
    Goes h shown' (reply.Compressed flags) c c (loading load 1) (off (sure other) None)

abbrev pub FindFaultRow : Type 0
FindFaultRow =
    (h : Hardware) (shown shown' : WorldView) (c : Content) (load : Load) → Stands h shown c (loading load 1) →
    ShowsRest shown' →
    Goes h shown' (reply.ReadFault Same) c c (loading load 1) (off load.held None)

-- The write of block(0) with the mark taken back. If it fails, the image may or may not exist.
abbrev pub TakeBackRow : Type 0
TakeBackRow =
    (h : Hardware) (shown shown' : WorldView) (c c' : Content) (blocks : ℕ) (load : Load) (v : disk.DiskImage) →
    IsHardware h → IsContent blocks c → IsContent blocks c' → Stands h shown c (loading load 2) →
    IsFoundIn h load v → HaveGoneOn h load v 2 → Writes (block_of_slot h 0) (taken_back shown.header) c c' →
    ShowsLoad h shown' load 3 →
    Goes h shown' (reply.Loading 3) c c' (loading load 2) (loading load 3)

abbrev pub TakeBackFaultRow : Type 0
TakeBackFaultRow =
    (h : Hardware) (shown shown' : WorldView) (c c' : Content) (blocks : ℕ) (load : Load) (v : disk.DiskImage) →
    IsHardware h → IsContent blocks c → IsContent blocks c' → Stands h shown c (loading load 2) →
    IsFoundIn h load v → FailsToWrite (block_of_slot h 0) (taken_back shown.header) c c' → ShowsRest shown' →
    Goes h shown' (reply.WriteFault Unsure) c c' (loading load 2) (off (perhaps (held_while_loading load 2)) None)

-- The sync of the cleared mark: from then on no image exists. Another's image may have been made on other hardware, or
-- have no chain.
abbrev pub BackSyncRow : Type 0
BackSyncRow =
    (h : Hardware) (shown shown' : WorldView) (c c' : Content) (blocks : ℕ) (load : Load) (v : disk.DiskImage) →
    IsHardware h → IsContent blocks c → Stands h shown c (loading load 3) →
    IsFoundIn h load v → HaveGoneOn h load v 3 → Syncs c c' → taken_back_cause h v ≡ None → ShowsLoad h shown' load 4 →
    Goes h shown' (reply.Loading 4) c c' (loading load 3) (loading load 4)

abbrev pub BackSyncStopRow : Type 0
BackSyncStopRow =
    (h : Hardware) (shown shown' : WorldView) (c c' : Content) (blocks : ℕ) (load : Load) (v : disk.DiskImage)
    (r : Reply) → IsHardware h → IsContent blocks c → Stands h shown c (loading load 3) →
    IsFoundIn h load v → HaveGoneOn h load v 3 → Syncs c c' → taken_back_cause h v ≡ Some r → ShowsRest shown' →
    Goes h shown' r c c' (loading load 3) (off nothing None)

abbrev pub BackSyncFaultRow : Type 0
BackSyncFaultRow =
    (h : Hardware) (shown shown' : WorldView) (c : Content) (load : Load) → Stands h shown c (loading load 3) →
    ShowsRest shown' →
    Goes h shown' (reply.SyncFault Unsure) c c (loading load 3) (off (perhaps (held_while_loading load 2)) None)

-- A read of the chain: the image was found on the disk v, and each step from the second on has replied Loading.
pub record IsBeforeRead (h : Hardware) (shown : WorldView) (c : Content) (load : Load) (v : disk.DiskImage)
    (k : ℕ) : Type 0 where
  pub hardware : IsHardware h
  pub late : 4 ≤ k
  pub within : k < 4 + place_count (info_in h v).pages
  pub stands : Stands h shown c (loading load k)
  pub found : IsFoundIn h load v
  pub gone_on : HaveGoneOn h load v k

abbrev pub ReadRow : Type 0
ReadRow =
    (h : Hardware) (shown shown' : WorldView) (c : Content) (load : Load) (v : disk.DiskImage) (k : ℕ) →
    IsBeforeRead h shown c load v k →
    reply_at h load.dump v load.loader load.check k ≡ reply.Loading (k + 1) → ShowsLoad h shown' load (k + 1) →
    Goes h shown' (reply.Loading (k + 1)) c c (loading load k) (loading load (k + 1))

abbrev pub ReadStopRow : Type 0
ReadStopRow =
    (h : Hardware) (shown shown' : WorldView) (c : Content) (load : Load) (v : disk.DiskImage) (k : ℕ) (r : Reply) →
    IsBeforeRead h shown c load v k →
    reply_at h load.dump v load.loader load.check k ≡ r → IsStop r → ShowsRest shown' →
    Goes h shown' r c c (loading load k) (off nothing None)

-- After a scripted loader the machine runs.
abbrev pub ReadResumedRow : Type 0
ReadResumedRow =
    (h : Hardware) (shown shown' : WorldView) (c : Content) (blocks : ℕ) (load : Load) (ranges : Ranges)
    (v : disk.DiskImage) (k n : ℕ) → IsContent blocks c → IsBeforeRead h shown c load v k →
    load.loader ≡ loader.Ranges ranges →
    reply_at h load.dump v load.loader load.check k ≡ reply.Resumed n → shown'.activity ≡ runs →
    ShowsRunning h shown' (running_with h load v no_slots) → NamesOnly h shown' [] →
    (slots : SlotPages) × Goes h shown' (reply.Resumed n) c c (loading load k) (on (running_with h load v slots))

-- After a dump's loader the machine is off.
abbrev pub ReadResumedOffRow : Type 0
ReadResumedOffRow =
    (h : Hardware) (shown shown' : WorldView) (c : Content) (load : Load) (v : disk.DiskImage) (k n : ℕ) →
    IsBeforeRead h shown c load v k → load.loader ≡ loader.Table →
    reply_at h load.dump v load.loader load.check k ≡ reply.Resumed n → ShowsRest shown' →
    Goes h shown' (reply.Resumed n) c c (loading load k) (off nothing None)

abbrev pub ReadFaultRow : Type 0
ReadFaultRow =
    (h : Hardware) (shown shown' : WorldView) (c : Content) (load : Load) (v : disk.DiskImage) (k : ℕ) →
    IsBeforeRead h shown c load v k → ShowsRest shown' →
    Goes h shown' (reply.ReadFault Gone) c c (loading load k) (off nothing None)

-- What the rows ask for.

-- up to the info page no data page is read
abbrev pub ShowsNoneRead : Type 0
ShowsNoneRead =
    (h : Hardware) (shown : WorldView) (load : Load) (k : ℕ) → k ≤ 6 → shown.activity ≡ loads k →
    shown.resume ≡ Some (load.loader, load.check) →
    ((p : ℕ) → p < top h.zones → (Contains (left_free h load.dump load.loader) p → ⊥) →
    frame shown.frames p ≡ loader_frame load.dump load.loader p) → shown.loaded ≡ [] → ShowsLoad h shown load k

-- up to the fourth step only the header's tests have to be passed
abbrev pub GoneOnEarly : Type 0
GoneOnEarly =
    (h : Hardware) (load : Load) (v : disk.DiskImage) (k : ℕ) → k ≤ 3 → header_cause h v ≡ None → HaveGoneOn h load v k

abbrev pub GoneOnNext : Type 0
GoneOnNext =
    (h : Hardware) (load : Load) (v : disk.DiskImage) (k : ℕ) → HaveGoneOn h load v k →
    reply_at h load.dump v load.loader load.check k ≡ reply.Loading (k + 1) → HaveGoneOn h load v (k + 1)

-- a fault of a place, or of the restored tables, ends the resume
abbrev pub CauseStops : Type 0
CauseStops =
    (h : Hardware) (load : Load) (v : disk.DiskImage) (t : ℕ) (r : Reply) →
    cause_at h load.dump v load.loader load.check t ≡ Some r → IsStop r

abbrev pub TablesStop : Type 0
TablesStop =
    (h : Hardware) (load : Load) (v : disk.DiskImage) (r : Reply) →
    tables_cause h v (restored_in h load.dump v load.loader) ≡ Some r → IsStop r
