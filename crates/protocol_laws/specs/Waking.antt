-- What a waking's disk calls do to the state: block(0) is read, written with its mark taken back if it has one, and
-- synced, before the machine that slept runs again (hibernation mode "suspend", kernel/power/hibernate.c;
-- swsusp_unmark, kernel/power/swap.c). The held image is part of the state `waking`; the running state in it is the one
-- from before the suspend, in which nothing was held.
use Rattle.std.specs.Prelude.{◌≡◌, ℕ, []}
use Rattle.definitions.specs.Disk.{Content, IsContent, Writes, FailsToWrite, Syncs, as_it_reads}
use Rattle.image_laws.specs.ImageBlocks.{Tries}
use Rattle.plain_machine.specs.Machine.{Hardware, block_of_slot}
use Rattle.plain_machine.specs.Chain.{header_of}
use Rattle.plain_machine.specs.Image.{Image}
use Rattle.plain_machine.specs.Shows.{WorldView, runs, sleeps, wakes, ShowsRunning}
use Rattle.plain_machine.specs.Stands.{Stands, NamesOnly, NamesHeld}
use Rattle.plain_machine.specs.State.{on, asleep, waking, Running, Held, nothing, perhaps}
use Rattle.protocol_laws.specs.Rows.{IsSameArea}
use Rattle.definitions.specs.SwapHeader.{unmarked_block}
use Rattle.protocol_laws.specs.Settling.{IsOnDisk}
use Rattle.protocol_laws.specs.Undo.{with_held}

-- The waking begins,
abbrev pub WakeBegins : Type 0
WakeBegins =
    (h : Hardware) (shown shown' : WorldView) (c : Content) (i : Image) (held : Held) (a : Running) →
    Stands h shown c (asleep i held a) →
    shown'.activity ≡ wakes 0 → ShowsRunning h shown' a → NamesHeld h shown' held →
    Stands h shown' c (waking i held a 0)

-- and reads the header block, which is kept. If the read fails, the machine sleeps as it slept.
abbrev pub WakeReads : Type 0
WakeReads =
    (h : Hardware) (shown shown' : WorldView) (c : Content) (i : Image) (held : Held) (a : Running) →
    Stands h shown c (waking i held a 0) →
    shown'.header ≡ header_of h (as_it_reads c) → shown'.activity ≡ wakes 1 → ShowsRunning h shown' a →
    NamesHeld h shown' held → Stands h shown' c (waking i held a 1)

abbrev pub WakeReadFails : Type 0
WakeReadFails =
    (h : Hardware) (shown shown' : WorldView) (c : Content) (i : Image) (held : Held) (a : Running) →
    Stands h shown c (waking i held a 0) →
    shown'.activity ≡ sleeps → ShowsRunning h shown' a → NamesHeld h shown' held → Stands h shown' c (asleep i held a)

-- The write: from then on the disk reads as unmarked, but a cut may still find the image. If the write fails, the
-- machine sleeps, and the image may or may not exist.
abbrev pub WakeWrites : Type 0
WakeWrites =
    (h : Hardware) (shown shown' : WorldView) (c c' : Content) (blocks : ℕ) (i : Image) (held : Held) (a : Running) →
    IsOnDisk h blocks c → IsContent blocks c' → Stands h shown c (waking i held a 1) →
    Writes (block_of_slot h 0) (unmarked_block shown.header) c c' → shown'.activity ≡ wakes 2 →
    ShowsRunning h shown' a → NamesHeld h shown' held → Stands h shown' c' (waking i held a 2)

abbrev pub WakeWriteFails : Type 0
WakeWriteFails =
    (h : Hardware) (shown shown' : WorldView) (c c' : Content) (blocks : ℕ) (i : Image) (held : Held) (a : Running) →
    IsOnDisk h blocks c → IsContent blocks c' → Stands h shown c (waking i held a 1) →
    FailsToWrite (block_of_slot h 0) (unmarked_block shown.header) c c' → shown'.activity ≡ sleeps →
    ShowsRunning h shown' a → NamesHeld h shown' held → Stands h shown' c' (asleep i (perhaps held) a)

-- The write leaves the area the same, failed or not.
abbrev pub WakeKeepsArea : Type 0
WakeKeepsArea =
    (h : Hardware) (shown : WorldView) (c c' : Content) (blocks : ℕ) (i : Image) (held : Held) (a : Running) →
    IsOnDisk h blocks c → Stands h shown c (waking i held a 1) →
    Tries (block_of_slot h 0) (unmarked_block shown.header) c c' → IsSameArea h (as_it_reads c) (as_it_reads c')

-- The sync: from then on no image exists, and the machine runs. If the sync fails, the machine sleeps, and the image
-- may or may not exist.
abbrev pub WakeSyncs : Type 0
WakeSyncs =
    (h : Hardware) (shown shown' : WorldView) (c c' : Content) (blocks : ℕ) (i : Image) (held : Held) (a : Running) →
    IsContent blocks c → Stands h shown c (waking i held a 2) → Syncs c c' →
    shown'.activity ≡ runs → ShowsRunning h shown' (with_held a nothing) → NamesOnly h shown' [] →
    Stands h shown' c' (on (with_held a nothing))

abbrev pub WakeSyncFails : Type 0
WakeSyncFails =
    (h : Hardware) (shown shown' : WorldView) (c : Content) (i : Image) (held : Held) (a : Running) →
    Stands h shown c (waking i held a 2) →
    shown'.activity ≡ sleeps → ShowsRunning h shown' a → NamesHeld h shown' held →
    Stands h shown' c (asleep i (perhaps held) a)
