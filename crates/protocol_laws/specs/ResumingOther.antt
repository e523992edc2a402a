-- What a resume's disk calls do to the state that a world and its disk stand for, when the image is another's: a mark
-- that the disk had before the program began (swsusp_check and swsusp_read, kernel/power/swap.c; swsusp_unmark).
use Rattle.std.specs.Prelude.{◌≡◌, ◌≤◌, ◌⊎◌, ℕ, ◌+◌, false, [], None}
use Rattle.definitions.specs.Disk as disk
use Rattle.definitions.specs.Disk.{Content, IsContent, Writes, FailsToWrite, Syncs, as_it_reads}
use Rattle.definitions.specs.SwapHeader.{taken_back}
use Rattle.plain_machine.specs.Machine.{Hardware, IsHardware, block_of_slot}
use Rattle.plain_machine.specs.Chain.{header_of, Marked}
use Rattle.plain_machine.specs.Shows.{WorldView, rests, runs, ShowsRunning}
use Rattle.plain_machine.specs.Stands.{Stands, NamesOnly}
use Rattle.plain_machine.specs.State.{off, on, loading, Running, Held, nothing, sure, maybe, other, Load, found_other}
use Rattle.plain_machine.specs.Step.{no_flights}
use Rattle.plain_machine.specs.Trace.{restored_in, slots_in, tables_cause}
use Rattle.protocol_laws.specs.Loads.{ShowsLoad}

-- another's image is held, surely or perhaps
abbrev pub IsHeldOther : Held → Type 0
IsHeldOther held = (held ≡ sure other) ⊎ (held ≡ maybe other)

-- the resume, once it has found the image on the disk v
abbrev pub with_found_other : Load → disk.DiskImage → Load
with_found_other load v =
    record { held = load.held; found = found_other v; loader = load.loader; dump = load.dump; check = load.check }

-- the machine that runs after the resume: its tasks' slots are those of the restored memory, as the disk v has them
abbrev pub other_running : Hardware → Load → disk.DiskImage → Running
other_running h load v = record {
  memory = restored_in h load.dump v load.loader;
  slots = slots_in h v (restored_in h load.dump v load.loader);
  flights = no_flights;
  unusable = None;
  held = nothing;
}

-- The read of block(0): if it has a mark, an image exists. If that is compressed, the resume stops and leaves it.
abbrev pub FindsOther : Type 0
FindsOther =
    (h : Hardware) (shown shown' : WorldView) (c : Content) (blocks : ℕ) (load : Load) → IsContent blocks c →
    Stands h shown c (loading load 1) → IsHeldOther load.held → Marked h (as_it_reads c) →
    shown'.header ≡ header_of h (as_it_reads c) → ShowsLoad h shown' (with_found_other load (as_it_reads c)) 2 →
    Stands h shown' c (loading (with_found_other load (as_it_reads c)) 2)

abbrev pub StopsAtOther : Type 0
StopsAtOther =
    (h : Hardware) (shown shown' : WorldView) (c : Content) (blocks : ℕ) (load : Load) → IsContent blocks c →
    Stands h shown c (loading load 1) → IsHeldOther load.held → Marked h (as_it_reads c) →
    shown'.activity ≡ rests → shown'.keeps_dump ≡ false → Stands h shown' c (off (sure other) None)

-- The write of block(0) with the mark taken back. If it fails, a mark may or may not exist, and the machine is off.
abbrev pub TakesBackOther : Type 0
TakesBackOther =
    (h : Hardware) (shown shown' : WorldView) (c c' : Content) (blocks : ℕ) (load : Load) (v : disk.DiskImage) →
    IsHardware h → IsContent blocks c → IsContent blocks c' → Stands h shown c (loading (with_found_other load v) 2) →
    Writes (block_of_slot h 0) (taken_back shown.header) c c' → ShowsLoad h shown' (with_found_other load v) 3 →
    Stands h shown' c' (loading (with_found_other load v) 3)

abbrev pub TakeBackOtherFails : Type 0
TakeBackOtherFails =
    (h : Hardware) (shown shown' : WorldView) (c c' : Content) (blocks : ℕ) (load : Load) (v : disk.DiskImage) →
    IsHardware h → IsContent blocks c → IsContent blocks c' → Stands h shown c (loading (with_found_other load v) 2) →
    FailsToWrite (block_of_slot h 0) (taken_back shown.header) c c' → shown'.activity ≡ rests →
    shown'.keeps_dump ≡ false → Stands h shown' c' (off (maybe other) None)

-- The sync of the cleared mark: no image is marked any more.
abbrev pub BackSyncsOther : Type 0
BackSyncsOther =
    (h : Hardware) (shown shown' : WorldView) (c c' : Content) (blocks : ℕ) (load : Load) (v : disk.DiskImage) →
    IsContent blocks c → Stands h shown c (loading (with_found_other load v) 3) → Syncs c c' →
    ShowsLoad h shown' (with_found_other load v) 4 → Stands h shown' c' (loading (with_found_other load v) 4)

abbrev pub BackSyncOtherFails : Type 0
BackSyncOtherFails =
    (h : Hardware) (shown shown' : WorldView) (c : Content) (load : Load) (v : disk.DiskImage) →
    Stands h shown c (loading (with_found_other load v) 3) → shown'.activity ≡ rests → shown'.keeps_dump ≡ false →
    Stands h shown' c (off (maybe other) None)

-- A page is read; or it was the last one, and the machine runs, if the restored tables fit the machine and the area. As
-- the disk v was marked, its area is that of block(0) taken back.
abbrev pub ReadsPageOther : Type 0
ReadsPageOther =
    (h : Hardware) (shown shown' : WorldView) (c : Content) (load : Load) (v : disk.DiskImage) (k : ℕ) → 4 ≤ k →
    Stands h shown c (loading (with_found_other load v) k) → ShowsLoad h shown' (with_found_other load v) (k + 1) →
    Stands h shown' c (loading (with_found_other load v) (k + 1))

abbrev pub ResumesOther : Type 0
ResumesOther =
    (h : Hardware) (shown shown' : WorldView) (c : Content) (blocks : ℕ) (load : Load) (v : disk.DiskImage) (k : ℕ) →
    IsHardware h → IsContent blocks c → 4 ≤ k → Stands h shown c (loading (with_found_other load v) k) →
    Marked h v → tables_cause h v (restored_in h load.dump v load.loader) ≡ None →
    shown'.activity ≡ runs → ShowsRunning h shown' (other_running h load v) → NamesOnly h shown' [] →
    Stands h shown' c (on (other_running h load v))
