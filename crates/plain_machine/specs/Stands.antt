-- [stands]: when a world and a disk stand for a state of the plain machine. Each part is a definition of its own.
-- It has no counterpart in Linux: it is what the promises are about.
use Rattle.std.specs.Prelude.{◌≡◌, ◌≢◌, ◌<◌, ◌≤◌, ◌⊎◌, ℕ, ◌+◌, ◌-◌, ◌/◌, true, List, [], length, map, take, Option}
use Rattle.std.specs.Prelude.{Some, None, IsSome, Contains, All, bit_and, ⊤}
use Rattle.std.specs.List.{zip}
use Rattle.definitions.specs.Disk as disk
use Rattle.definitions.specs.Bytes.{bytes_at}
use Rattle.definitions.specs.SwapHeader.{IsMarked, taken_back, flags_of, hw_sig_of}
use Rattle.definitions.specs.Tables.{frame, owner_of}
use Rattle.definitions.specs.Zones.{top}
use Rattle.image_format.specs.AreaKind.{area_kind}
use Rattle.plain_machine.specs.Machine.{Hardware, Memory, block_of_slot, raw_slot_entry, slot_entry, frame_entry}
use Rattle.plain_machine.specs.Machine.{image_slot, is_slot_of, is_valid, Fits, unused_slots}
use Rattle.definitions.specs.NumberPages.{meta_of}
use Rattle.plain_machine.specs.Image.{Image, SlotPages, n_of, with_data, maps_of, pages_of, stream_of, image_of_memory}
use Rattle.plain_machine.specs.Image.{laid, laid_block}
use Rattle.plain_machine.specs.Chain.{Holds, Marked, header_of, blocks_of}
use Rattle.plain_machine.specs.Mark.{HasMark}
use Rattle.plain_machine.specs.Machine.{IsTask}
use Rattle.plain_machine.specs.Loader.{left_free, loader_frame}
use Rattle.plain_machine.specs.UsableArea.{area_block, area_fault, bad_set_fault, dump_area_fault}
use Rattle.plain_machine.specs.State.{State, off, on, booting, hibernating, undoing, settling, waking, loading, asleep}
use Rattle.plain_machine.specs.State.{Running, Flight, goes_out, comes_in, Held, nothing, sure, maybe, Saved, own}
use Rattle.plain_machine.specs.State.{other, Load, Found, not_yet, found_own, found_other, held_while_loading}
use Rattle.plain_machine.specs.State.{held_hibernating, held_back}
use Rattle.plain_machine.specs.Calls.{BootCall, reads_area, boot_call, HibernationCall, reads_header, writes_mark}
use Rattle.plain_machine.specs.Calls.{syncs_mark, hibernation_call, are_synced_before, BackCall, reads_mark, takes_back}
use Rattle.plain_machine.specs.Calls.{syncs_back, back_call, undo_call, LoadCall, of_mark, load_call}
use Rattle.plain_machine.specs.Shows.{WorldView, activity_in, ShowsRunning, ShowsKept}
use Rattle.plain_machine.specs.FreshMemory.{fresh_frames}
use Rattle.plain_machine.specs.Step.{no_flights}
use Rattle.plain_machine.specs.Trace.{meta_in, data_frames, data_pages}
use Rattle.plain_machine.specs.declared.no_swap.NoSwap.{NoSwap}
use Rattle.plain_machine.specs.declared.event.BootFrom.{BootFrom}
use Rattle.plain_machine.specs.declared.event.BootFrom.TheVariants.{Fresh, Kept}
use Rattle.plain_machine.specs.declared.event.Loader.TheVariants.{Table}
use Rattle.definitions.specs.declared.counts.TheConstants.{BLOCKS_PER_MAP}

-- every image of the disk has P
abbrev pub EachImage : disk.Content → (disk.DiskImage → Type 0) → Type 0
EachImage c P = (v : disk.DiskImage) → disk.IsImage c v → P v

-- 1. Held.

-- the table gives slot s to a task
abbrev pub IsTaskSlot : Hardware → Memory → ℕ → Type 0
IsTaskSlot h m s = (s < h.slots) × (1 ≤ slot_entry h m s) × (slot_entry h m s ≤ 64)

-- slot s is the target of an unfinished out
abbrev pub IsTarget : (ℕ → Option Flight) → ℕ → Type 0
IsTarget flights s = (t : ℕ) × (p : ℕ) × (flights t ≡ Some (goes_out s p))

-- The slots that have a page are exactly those that the table gives to tasks, except the targets of unfinished outs. In
-- an area that can't be used, for the reason `why`, every slot counts as bad, and none has a page.
pub record AreTaskSlots (h : Hardware) (why : Option NoSwap) (m : Memory) (flights : ℕ →
    Option Flight) (slots : SlotPages) : Type 0 where
  pub usable : (s : ℕ) (page : List ℕ) → slots s ≡ Some page → why ≡ None
  pub tasks : (s : ℕ) (page : List ℕ) → slots s ≡ Some page → IsTaskSlot h m s
  pub landed : (s : ℕ) (page : List ℕ) → slots s ≡ Some page → IsTarget flights s → ⊥
  pub paged : why ≡ None → (s : ℕ) → IsTaskSlot h m s → (IsTarget flights s → ⊥) → IsSome (slots s)

-- A task's unfinished operation owns its slot and its page frame, so no two operations share a slot. A task has a slot
-- only in an area that can be used.
pub record IsFlight (h : Hardware) (a : Running) (t s p : ℕ) : Type 0 where
  pub task : IsTask t
  pub usable : a.unusable ≡ None
  pub slot : is_slot_of h a.memory t s ≡ true
  pub valid : is_valid h p ≡ true
  pub owner : owner_of (frame_entry h a.memory p) ≡ t

-- An out begins only while no image is held, and no image is made before it ends.
pub record HasFlights (h : Hardware) (a : Running) : Type 0 where
  pub outs : (t s p : ℕ) → a.flights t ≡ Some (goes_out s p) → IsFlight h a t s p
  pub unheld : (t s p : ℕ) → a.flights t ≡ Some (goes_out s p) → a.held ≡ nothing
  pub ins : (t s p : ℕ) → a.flights t ≡ Some (comes_in s p) → IsFlight h a t s p

-- the area of the disk v can be used by a machine with this memory
pub record FitsArea (h : Hardware) (v : disk.DiskImage) (m : Memory) : Type 0 where
  pub area : area_fault h v ≡ None
  pub bad_slots : bad_set_fault h m (area_kind (area_block h v)) ≡ None

-- An own image is the image of a memory that fits and whose slot table fits the area, made under the machine's
-- signature.
pub record IsImageOf (h : Hardware) (v : disk.DiskImage) (i : Image) (m : Memory) : Type 0 where
  pub fits : Fits h m
  pub task_slots : AreTaskSlots h None m no_flights i.slots
  pub fits_area : FitsArea h v m
  pub image : i ≡ image_of_memory h m i.slots i.format

pub record IsOwn (h : Hardware) (v : disk.DiskImage) (i : Image) : Type 0 where
  pub of_memory : (m : Memory) × IsImageOf h v i m
  pub signature : Marked h v → (bit_and (flags_of (header_of h v)) 8 ≡ 0) ⊎ (hw_sig_of (header_of h v) ≡ h.hw_sig)

abbrev pub IsHeld : Hardware → disk.Content → Held → Type 0
IsHeld h c nothing = EachImage c (λ v. Marked h v → ⊥)
IsHeld h c (sure (own i)) = EachImage c (λ v. Holds h v i × IsOwn h v i)
IsHeld h c (maybe (own i)) = EachImage c (λ v. ((Marked h v → ⊥) ⊎ Holds h v i) × IsOwn h v i)
IsHeld h c (sure other) = EachImage c (Marked h)
IsHeld h c (maybe other) = ⊤

-- 2. Memory: what the world shows of it is in Shows.antt; a slot that has a page is a task's, and reads as that page.
abbrev pub HaveSlotPages : Hardware → disk.Content → SlotPages → Type 0
HaveSlotPages h c slots =
    (s : ℕ) (page : List ℕ) → slots s ≡ Some page → disk.block (disk.as_it_reads c) (block_of_slot h s) ≡ page

-- the slots that the table gives to the image lie on these blocks
abbrev pub NamesOnly : Hardware → WorldView → List ℕ → Type 0
NamesOnly h shown blocks =
    (s : ℕ) → s < h.slots → raw_slot_entry h shown.frames s ≡ image_slot → Contains blocks (block_of_slot h s)

-- the blocks that an image is laid on: those of the slots that were free in the memory that it was made from
abbrev pub blocks_laid : Hardware → Memory → Image → List ℕ
blocks_laid h m i = map (λ written. written.0) (laid h.extents (unused_slots h m) (stream_of i))

abbrev pub laid_blocks : Hardware → Running → Image → List ℕ
laid_blocks h a i = blocks_laid h a.memory i

-- The slots that the table gives to an image: they lie on the blocks of the held image, even if that is only perhaps on
-- the disk. If no image is held, or one that the machine didn't make, the table gives it no slot.
pub record NamesOwn (h : Hardware) (shown : WorldView) (i : Image) : Type 0 where
  pub memory : Memory
  pub image : i ≡ image_of_memory h memory i.slots i.format
  pub names : NamesOnly h shown (blocks_laid h memory i)

abbrev pub NamesSaved : Hardware → WorldView → Saved → Type 0
NamesSaved h shown (own i) = NamesOwn h shown i
NamesSaved h shown other = NamesOnly h shown []

abbrev pub NamesHeld : Hardware → WorldView → Held → Type 0
NamesHeld h shown nothing = NamesOnly h shown []
NamesHeld h shown (sure x) = NamesSaved h shown x
NamesHeld h shown (maybe x) = NamesSaved h shown x

-- 3. Header: block(0), taken back if it is marked, is the same in every image, except for bytes 4056 to 4085.
pub record AgreeOnArea (a b : List ℕ) : Type 0 where
  pub front : take 4056 a ≡ take 4056 b
  pub signature : bytes_at 10 a 4086 ≡ bytes_at 10 b 4086

pub record IsHeader (h : Hardware) (c : disk.Content) : Type 0 where
  pub unmarked : EachImage c (λ v. IsMarked (area_block h v) → ⊥)
  pub one : EachImage c (λ v. AgreeOnArea (area_block h v) (area_block h (disk.as_it_reads c)))

-- A running machine's area is that block's: it can't be used for exactly the reason that the block gives, and if it can
-- be used its bad slots are the table's.
abbrev pub HasArea : Hardware → disk.Content → Running → Type 0
HasArea h c a = a.unusable ≡ dump_area_fault h (disk.as_it_reads c) a.memory

-- 4. Hibernating.

-- A hibernation that was accepted: the image is that of the memory, no task has an unfinished operation, no image is
-- held, and the area can be used and has the slots.
pub record IsAccepted (h : Hardware) (a : Running) (i : Image) : Type 0 where
  pub idle : (t : ℕ) → IsTask t → a.flights t ≡ None
  pub image : i ≡ image_of_memory h a.memory a.slots i.format
  pub unheld : a.held ≡ nothing
  pub usable : a.unusable ≡ None
  pub room : pages_of i + maps_of (pages_of i) ≤ length (unused_slots h a.memory)

-- what the hibernation writes, except the mark, in the order of its steps
abbrev pub laid_writes : Hardware → Running → Image → List (ℕ × List ℕ)
laid_writes h a i = laid h.extents (unused_slots h a.memory) (stream_of i)

-- the block of the lowest free slot, where the first map lies
abbrev pub first_map_block : Hardware → Running → ℕ
first_map_block h a = laid_block h.extents (unused_slots h a.memory) 0

abbrev pub Reads : disk.DiskImage → ℕ × List ℕ → Type 0
Reads v written = disk.block v written.0 ≡ written.1

-- Every image of the disk has the blocks of the hibernation and the pages of the tasks' slots. If it is marked, the
-- mark names the chain that was laid: its first map lies in the slot that was the lowest free one.
pub record HasLaid (h : Hardware) (c : disk.Content) (i : Image) (a : Running) : Type 0 where
  pub blocks : EachImage c (λ v. All (Reads v) (laid_writes h a i))
  pub slots : (s : ℕ) (page : List ℕ) → i.slots s ≡ Some page →
      EachImage c (λ v. disk.block v (block_of_slot h s) ≡ page)
  pub mark : EachImage c (λ v. Marked h v → HasMark h i.format (first_map_block h a) (header_of h v))

-- The blocks of the first k writes read as laid, and the copies are the image's pages. After the first sync every image
-- of the disk has all the blocks.
pub record IsWritten (h : Hardware) (shown : WorldView) (c : disk.Content) (i : Image) (a : Running)
    (k : ℕ) : Type 0 where
  pub laid : All (Reads (disk.as_it_reads c)) (take k (laid_writes h a i))
  pub copies : map (frame shown.frames) shown.copies ≡ map (λ saved. saved.1) i.frames
  pub durable : are_synced_before (hibernation_call i k) ≡ true → HasLaid h c i a

-- 5. Loading.

-- w is the disk v, except for block(0), which is as it was or taken back
pub record IsSameOrTakenBack (h : Hardware) (v w : disk.DiskImage) : Type 0 where
  pub size : length w ≡ length v
  pub others : (b : ℕ) → b < blocks_of v → b ≢ block_of_slot h 0 → disk.block w b ≡ disk.block v b
  pub header : (header_of h w ≡ header_of h v) ⊎ (header_of h w ≡ taken_back (header_of h v))

-- how many pages of the stream are read after k steps: after the four steps at block(0) every 512th step, beginning
-- with the first, reads a map; and how many of them are data pages, which follow the info page and the number pages
abbrev pub pages_read : ℕ → ℕ
pages_read k = k - 4 - (k - 4 + 511) / BLOCKS_PER_MAP

abbrev pub data_read : Image → ℕ → ℕ
data_read i k = pages_read k - (meta_of (n_of i) + 1)

-- how many data pages of another machine's image on the disk v are read after k steps
abbrev pub data_read_in : Hardware → disk.DiskImage → ℕ → ℕ
data_read_in h v k = pages_read k - (meta_in h v + 1)

-- What a resume shows after k steps: its loader and its check, the page frames that the loader holds, and the pages
-- with data that were read, by page frame.
pub record ShowsResume (h : Hardware) (shown : WorldView) (load : Load) (k : ℕ) : Type 0 where
  pub told : shown.resume ≡ Some (load.loader, load.check)
  pub kept : (p : ℕ) → p < top h.zones → (Contains (left_free h load.dump load.loader) p → ⊥) →
      frame shown.frames p ≡ loader_frame load.dump load.loader p
  pub read : (i : Image) → load.found ≡ found_own i → shown.loaded ≡ take (data_read i k) (with_data i)
  pub read_other : (v : disk.DiskImage) → load.found ≡ found_other v →
      shown.loaded ≡ zip (data_frames h v) (data_pages h v (data_read_in h v k))

-- a dump's loader has a memory that fits
abbrev pub FitsLoader : Hardware → Load → Type 0
FitsLoader h load = load.loader ≡ Table → Fits h load.dump

abbrev pub IsFound : Found → Type 0
IsFound not_yet = ⊥
IsFound (found_own i) = ⊤
IsFound (found_other v) = ⊤

-- After the second step it is known which image is read, and every image of the disk is the one that this step found,
-- except for block(0). After the fourth step none is marked.
pub record IsLoading (h : Hardware) (shown : WorldView) (c : disk.Content) (load : Load) (k : ℕ) : Type 0 where
  pub shows : ShowsResume h shown load k
  pub fits : FitsLoader h load
  pub found : 2 ≤ k → IsFound load.found
  pub own : (i : Image) → load.found ≡ found_own i → (v : disk.DiskImage) × Holds h v i × IsOwn h v i
      × EachImage c (IsSameOrTakenBack h v)
  pub others : (v : disk.DiskImage) → load.found ≡ found_other v → EachImage c (IsSameOrTakenBack h v)
  pub taken_back : 4 ≤ k → EachImage c (λ v. Marked h v → ⊥)

-- 6. Between two calls: a restart or a sync has left one image, and the block that is kept is the disk's, or the
-- marked page.
abbrev pub HasOneImage : disk.Content → Type 0
HasOneImage c = (v w : disk.DiskImage) → disk.IsImage c v → disk.IsImage c w → v ≡ w

abbrev pub KeepsHeader : Hardware → WorldView → disk.Content → Type 0
KeepsHeader h shown c = shown.header ≡ header_of h (disk.as_it_reads c)

pub record KeepsMark (h : Hardware) (shown : WorldView) (c : disk.Content) (i : Image) (a : Running) : Type 0 where
  pub marked : IsMarked shown.header
  pub mark : HasMark h i.format (first_map_block h a) shown.header
  pub unmarked : IsMarked (taken_back shown.header) → ⊥
  pub area : AgreeOnArea (taken_back shown.header) (area_block h (disk.as_it_reads c))

-- What holds before the next call, by that call.

abbrev pub IsBeforeBoot : disk.Content → Option BootCall → Type 0
IsBeforeBoot c (Some reads_area) = HasOneImage c
IsBeforeBoot c call = ⊤

pub record IsBeforeMark (h : Hardware) (shown : WorldView) (c : disk.Content) : Type 0 where
  pub one : HasOneImage c
  pub header : KeepsHeader h shown c

pub record IsBeforeLastSync (h : Hardware) (shown : WorldView) (c : disk.Content) (i : Image)
    (a : Running) : Type 0 where
  pub mark : KeepsMark h shown c i a
  pub holds : Holds h (disk.as_it_reads c) i

abbrev pub IsBeforeCall : Hardware → WorldView → disk.Content → Image → Running → Option HibernationCall → Type 0
IsBeforeCall h shown c i a (Some reads_header) = HasOneImage c
IsBeforeCall h shown c i a (Some writes_mark) = IsBeforeMark h shown c
IsBeforeCall h shown c i a (Some syncs_mark) = IsBeforeLastSync h shown c i a
IsBeforeCall h shown c i a call = ⊤

abbrev pub ReadsUnmarked : Hardware → disk.Content → Type 0
ReadsUnmarked h c = Marked h (disk.as_it_reads c) → ⊥

abbrev pub IsBeforeUndo : Hardware → WorldView → disk.Content → Image → Running → Option BackCall → Type 0
IsBeforeUndo h shown c i a (Some takes_back) = KeepsMark h shown c i a
IsBeforeUndo h shown c i a (Some syncs_back) = ReadsUnmarked h c
IsBeforeUndo h shown c i a call = ⊤

abbrev pub IsBeforeBack : Hardware → WorldView → disk.Content → Option BackCall → Type 0
IsBeforeBack h shown c (Some takes_back) = KeepsHeader h shown c
IsBeforeBack h shown c (Some syncs_back) = ReadsUnmarked h c
IsBeforeBack h shown c call = ⊤

abbrev pub IsBeforeLoad : Hardware → WorldView → disk.Content → LoadCall → Type 0
IsBeforeLoad h shown c (of_mark reads_mark) = HasOneImage c
IsBeforeLoad h shown c (of_mark takes_back) = IsBeforeMark h shown c
IsBeforeLoad h shown c (of_mark syncs_back) = ReadsUnmarked h c
IsBeforeLoad h shown c call = ⊤

-- 7. Asleep and waking: the image is the one that is held, and the one made of the memory that is kept.
pub record IsSaved (h : Hardware) (i : Image) (held : Held) (a : Running) : Type 0 where
  pub image : i ≡ image_of_memory h a.memory a.slots i.format
  pub is_held : (held ≡ sure (own i)) ⊎ (held ≡ maybe (own i))

-- Stands, by the state: what the world shows is the state's, and what the disk may hold is as its parts say.

pub record StandsOff (h : Hardware) (shown : WorldView) (c : disk.Content) (image : Held)
    (kept : Option Memory) : Type 0 where
  pub memory : ShowsKept h shown kept
  pub held : IsHeld h c image
  pub header : IsHeader h c

-- what a running state says of the disk
pub record StandsOn (h : Hardware) (shown : WorldView) (c : disk.Content) (a : Running) : Type 0 where
  pub held : IsHeld h c a.held
  pub task_slots : AreTaskSlots h a.unusable a.memory a.flights a.slots
  pub flights : HasFlights h a
  pub slot_pages : HaveSlotPages h c a.slots
  pub names : NamesHeld h shown a.held
  pub header : IsHeader h c
  pub area : HasArea h c a

pub record StandsRunning (h : Hardware) (shown : WorldView) (c : disk.Content) (a : Running) : Type 0 where
  pub memory : ShowsRunning h shown a
  pub disk : StandsOn h shown c a

-- an operation during which the running state `a` waits and `image` is held
pub record StandsBehind (h : Hardware) (shown : WorldView) (c : disk.Content) (a : Running)
    (image : Held) : Type 0 where
  pub memory : ShowsRunning h shown a
  pub held : IsHeld h c image
  pub task_slots : AreTaskSlots h a.unusable a.memory a.flights a.slots
  pub flights : HasFlights h a
  pub slot_pages : HaveSlotPages h c a.slots
  pub header : IsHeader h c
  pub area : HasArea h c a

-- a boot from fresh memory has fresh page frames from its start; a boot from a dump's memory has that memory
abbrev pub ShowsBoot : Hardware → WorldView → BootFrom → Memory → Type 0
ShowsBoot h shown Fresh dump = shown.frames ≡ fresh_frames h
ShowsBoot h shown Kept dump = (shown.frames ≡ dump) × Fits h dump

pub record StandsBooting (h : Hardware) (shown : WorldView) (c : disk.Content) (from : BootFrom) (dump : Memory)
    (image : Held) (k : ℕ) : Type 0 where
  pub memory : ShowsBoot h shown from dump
  pub held : IsHeld h c image
  pub header : IsHeader h c
  pub before : IsBeforeBoot c (boot_call k)

pub record StandsHibernating (h : Hardware) (shown : WorldView) (c : disk.Content) (i : Image) (a : Running)
    (k : ℕ) : Type 0 where
  pub behind : StandsBehind h shown c a (held_hibernating i (hibernation_call i k))
  pub accepted : IsAccepted h a i
  pub names : NamesOnly h shown (laid_blocks h a i)
  pub written : IsWritten h shown c i a k
  pub before : IsBeforeCall h shown c i a (hibernation_call i k)

pub record StandsUndoing (h : Hardware) (shown : WorldView) (c : disk.Content) (i : Image) (a : Running)
    (k : ℕ) : Type 0 where
  pub behind : StandsBehind h shown c a (maybe (own i))
  pub accepted : IsAccepted h a i
  pub names : NamesOnly h shown (laid_blocks h a i)
  pub laid : HasLaid h c i a
  pub before : IsBeforeUndo h shown c i a (undo_call k)

pub record StandsSettling (h : Hardware) (shown : WorldView) (c : disk.Content) (a : Running) (k : ℕ) : Type 0 where
  pub behind : StandsBehind h shown c a (held_back a.held (back_call k))
  pub names : NamesHeld h shown a.held
  pub before : IsBeforeBack h shown c (back_call k)

pub record StandsWaking (h : Hardware) (shown : WorldView) (c : disk.Content) (i : Image) (held : Held) (a : Running)
    (k : ℕ) : Type 0 where
  pub behind : StandsBehind h shown c a (held_back held (back_call k))
  pub names : NamesHeld h shown held
  pub saved : IsSaved h i held a
  pub before : IsBeforeBack h shown c (back_call k)

pub record StandsLoading (h : Hardware) (shown : WorldView) (c : disk.Content) (load : Load) (k : ℕ) : Type 0 where
  pub held : IsHeld h c (held_while_loading load k)
  pub header : IsHeader h c
  pub resume : IsLoading h shown c load k
  pub before : IsBeforeLoad h shown c (load_call k)

pub record StandsAsleep (h : Hardware) (shown : WorldView) (c : disk.Content) (i : Image) (held : Held)
    (a : Running) : Type 0 where
  pub behind : StandsBehind h shown c a held
  pub names : NamesHeld h shown held
  pub saved : IsSaved h i held a

abbrev pub HasParts : Hardware → WorldView → disk.Content → State → Type 0
HasParts h shown c (off held kept) = StandsOff h shown c held kept
HasParts h shown c (on a) = StandsRunning h shown c a
HasParts h shown c (booting from dump held k) = StandsBooting h shown c from dump held k
HasParts h shown c (hibernating suspends i a k) = StandsHibernating h shown c i a k
HasParts h shown c (undoing i call a k) = StandsUndoing h shown c i a k
HasParts h shown c (settling a k) = StandsSettling h shown c a k
HasParts h shown c (waking i held a k) = StandsWaking h shown c i held a k
HasParts h shown c (loading load k) = StandsLoading h shown c load k
HasParts h shown c (asleep i held a) = StandsAsleep h shown c i held a

-- A world that shows `shown` and a disk with the content `c` stand for the state `a`: the world is doing what the state
-- says, and the state's parts hold.
pub record Stands (h : Hardware) (shown : WorldView) (c : disk.Content) (a : State) : Type 0 where
  pub activity : shown.activity ≡ activity_in a
  pub parts : HasParts h shown c a
