-- What a resume's disk calls do to the state that a world and its disk stand for, when the machine made the image
-- (swsusp_check and swsusp_read, kernel/power/swap.c; swsusp_unmark).
use Rattle.std.specs.Prelude.{◌≡◌, ◌≤◌, ◌⊎◌, ℕ, ◌+◌, false, [], Option, None}
use Rattle.definitions.specs.Disk.{Content, IsContent, Writes, FailsToWrite, Syncs, as_it_reads}
use Rattle.definitions.specs.SwapHeader.{taken_back}
use Rattle.plain_machine.specs.Machine.{Hardware, Memory, IsHardware, block_of_slot}
use Rattle.plain_machine.specs.Chain.{header_of, Marked}
use Rattle.plain_machine.specs.Image.{Image}
use Rattle.plain_machine.specs.Loader.{restored}
use Rattle.plain_machine.specs.Shows.{WorldView, rests, runs, ShowsRunning}
use Rattle.plain_machine.specs.Stands.{Stands, NamesOnly, FitsLoader}
use Rattle.plain_machine.specs.State.{off, on, loading, Running, Held, nothing, sure, maybe, own, Load, not_yet}
use Rattle.plain_machine.specs.State.{found_own, held_while_loading}
use Rattle.plain_machine.specs.Step.{no_flights}
use Rattle.protocol_laws.specs.Loads.{ShowsLoad}

-- the image is held, surely or perhaps
abbrev pub IsHeldOwn : Held → Image → Type 0
IsHeldOwn held i = (held ≡ sure (own i)) ⊎ (held ≡ maybe (own i))

-- the resume, once it has found the image
abbrev pub with_found : Load → Image → Load
with_found load i =
    record { held = load.held; found = found_own i; loader = load.loader; dump = load.dump; check = load.check }

-- the machine that runs after the resume
abbrev pub resumed_running : Hardware → Load → Image → Running
resumed_running h load i = record {
  memory = restored h load.dump load.loader i;
  slots = i.slots;
  flights = no_flights;
  unusable = None;
  held = nothing;
}

-- The begin, and the first sync.
abbrev pub LoadBegins : Type 0
LoadBegins =
    (h : Hardware) (shown shown' : WorldView) (c : Content) (held : Held) (kept : Option Memory) (load : Load) →
    Stands h shown c (off held kept) → load.held ≡ held → load.found ≡ not_yet → FitsLoader h load →
    ShowsLoad h shown' load 0 → Stands h shown' c (loading load 0)

abbrev pub LoadSyncs : Type 0
LoadSyncs =
    (h : Hardware) (shown shown' : WorldView) (c c' : Content) (blocks : ℕ) (load : Load) → IsContent blocks c →
    Stands h shown c (loading load 0) → Syncs c c' → ShowsLoad h shown' load 1 → Stands h shown' c' (loading load 1)

-- As long as what is held hasn't changed, a failed call leaves the machine off with that.
abbrev pub LoadFails : Type 0
LoadFails =
    (h : Hardware) (shown shown' : WorldView) (c : Content) (load : Load) (k : ℕ) →
    held_while_loading load k ≡ load.held → Stands h shown c (loading load k) → shown'.activity ≡ rests →
    shown'.keeps_dump ≡ false → Stands h shown' c (off load.held None)

-- The read of block(0): without a mark no image is held; with one, the image that was held exists.
abbrev pub FindsNone : Type 0
FindsNone =
    (h : Hardware) (shown shown' : WorldView) (c : Content) (blocks : ℕ) (load : Load) → IsContent blocks c →
    Stands h shown c (loading load 1) → (Marked h (as_it_reads c) → ⊥) → shown'.activity ≡ rests →
    shown'.keeps_dump ≡ false → Stands h shown' c (off nothing None)

abbrev pub FindsOwn : Type 0
FindsOwn =
    (h : Hardware) (shown shown' : WorldView) (c : Content) (blocks : ℕ) (load : Load) (i : Image) →
    IsContent blocks c → Stands h shown c (loading load 1) → IsHeldOwn load.held i → Marked h (as_it_reads c) →
    shown'.header ≡ header_of h (as_it_reads c) → ShowsLoad h shown' (with_found load i) 2 →
    Stands h shown' c (loading (with_found load i) 2)

-- The write of block(0) with the mark taken back. If it fails, the image may or may not exist, and the machine is off.
abbrev pub TakesBack : Type 0
TakesBack =
    (h : Hardware) (shown shown' : WorldView) (c c' : Content) (blocks : ℕ) (load : Load) (i : Image) → IsHardware h →
    IsContent blocks c → IsContent blocks c' → Stands h shown c (loading (with_found load i) 2) →
    Writes (block_of_slot h 0) (taken_back shown.header) c c' → ShowsLoad h shown' (with_found load i) 3 →
    Stands h shown' c' (loading (with_found load i) 3)

abbrev pub TakeBackFails : Type 0
TakeBackFails =
    (h : Hardware) (shown shown' : WorldView) (c c' : Content) (blocks : ℕ) (load : Load) (i : Image) → IsHardware h →
    IsContent blocks c → IsContent blocks c' → Stands h shown c (loading (with_found load i) 2) →
    FailsToWrite (block_of_slot h 0) (taken_back shown.header) c c' → shown'.activity ≡ rests →
    shown'.keeps_dump ≡ false → Stands h shown' c' (off (maybe (own i)) None)

-- The sync of the cleared mark: no image is marked any more. So a machine resumes an image at most once.
abbrev pub BackSyncs : Type 0
BackSyncs =
    (h : Hardware) (shown shown' : WorldView) (c c' : Content) (blocks : ℕ) (load : Load) (i : Image) →
    IsContent blocks c → Stands h shown c (loading (with_found load i) 3) → Syncs c c' →
    ShowsLoad h shown' (with_found load i) 4 → Stands h shown' c' (loading (with_found load i) 4)

abbrev pub BackSyncFails : Type 0
BackSyncFails =
    (h : Hardware) (shown shown' : WorldView) (c : Content) (load : Load) (i : Image) →
    Stands h shown c (loading (with_found load i) 3) → shown'.activity ≡ rests → shown'.keeps_dump ≡ false →
    Stands h shown' c (off (maybe (own i)) None)

-- A page is read; the resume stops there, with a fault or a refusal; or it was the last one, and the machine runs.
abbrev pub ReadsPage : Type 0
ReadsPage =
    (h : Hardware) (shown shown' : WorldView) (c : Content) (load : Load) (i : Image) (k : ℕ) → 4 ≤ k →
    Stands h shown c (loading (with_found load i) k) → ShowsLoad h shown' (with_found load i) (k + 1) →
    Stands h shown' c (loading (with_found load i) (k + 1))

abbrev pub LoadStops : Type 0
LoadStops =
    (h : Hardware) (shown shown' : WorldView) (c : Content) (load : Load) (k : ℕ) → 4 ≤ k →
    Stands h shown c (loading load k) → shown'.activity ≡ rests → shown'.keeps_dump ≡ false →
    Stands h shown' c (off nothing None)

abbrev pub Resumes : Type 0
Resumes =
    (h : Hardware) (shown shown' : WorldView) (c : Content) (blocks : ℕ) (load : Load) (i : Image) (k : ℕ) →
    IsHardware h → IsContent blocks c → 4 ≤ k → Stands h shown c (loading (with_found load i) k) →
    shown'.activity ≡ runs → ShowsRunning h shown' (resumed_running h load i) → NamesOnly h shown' [] →
    Stands h shown' c (on (resumed_running h load i))
