-- What a settling's disk calls do to the state: block(0) is read, written with its mark taken back if it has one, and
-- synced (swsusp_unmark, kernel/power/swap.c; that a machine does it while it runs is own). It doesn't matter whose the
-- image was.
use Rattle.std.specs.Prelude.{◌≡◌, ◌<◌, ℕ, List, []}
use Rattle.definitions.specs.Disk.{Content, IsContent, Writes, FailsToWrite, Syncs, as_it_reads}
use Rattle.definitions.specs.SwapHeader.{unmarked_block}
use Rattle.image_laws.specs.ImageBlocks.{Tries}
use Rattle.plain_machine.specs.Machine.{Hardware, IsHardware, block_of_slot}
use Rattle.plain_machine.specs.Chain.{header_of}
use Rattle.plain_machine.specs.Shows.{WorldView, runs, settles, ShowsRunning}
use Rattle.plain_machine.specs.Stands.{Stands, NamesOnly, NamesHeld}
use Rattle.plain_machine.specs.State.{on, settling, Running, nothing, perhaps}
use Rattle.protocol_laws.specs.Rows.{IsSameArea}
use Rattle.protocol_laws.specs.Undo.{with_held}

-- the machine, and a disk of `blocks` blocks that has the header block
pub record IsOnDisk (h : Hardware) (blocks : ℕ) (c : Content) : Type 0 where
  pub hardware : IsHardware h
  pub content : IsContent blocks c
  pub header : block_of_slot h 0 < blocks

-- The settling begins,
abbrev pub SettleBegins : Type 0
SettleBegins =
    (h : Hardware) (shown shown' : WorldView) (c : Content) (a : Running) → Stands h shown c (on a) →
    shown'.activity ≡ settles 0 → ShowsRunning h shown' a → NamesHeld h shown' a.held → Stands h shown' c (settling a 0)

-- and reads the header block, which is kept. If the read fails, the machine runs as it ran.
abbrev pub SettleReads : Type 0
SettleReads =
    (h : Hardware) (shown shown' : WorldView) (c : Content) (a : Running) → Stands h shown c (settling a 0) →
    shown'.header ≡ header_of h (as_it_reads c) → shown'.activity ≡ settles 1 → ShowsRunning h shown' a →
    NamesHeld h shown' a.held → Stands h shown' c (settling a 1)

abbrev pub SettleReadFails : Type 0
SettleReadFails =
    (h : Hardware) (shown shown' : WorldView) (c : Content) (a : Running) → Stands h shown c (settling a 0) →
    shown'.activity ≡ runs → ShowsRunning h shown' a → NamesHeld h shown' a.held → Stands h shown' c (on a)

-- The write: from then on the disk reads as unmarked, but a cut may still find the image. If the write fails, the
-- machine runs, and the image may or may not exist.
abbrev pub SettleWrites : Type 0
SettleWrites =
    (h : Hardware) (shown shown' : WorldView) (c c' : Content) (blocks : ℕ) (a : Running) → IsOnDisk h blocks c →
    IsContent blocks c' → Stands h shown c (settling a 1) →
    Writes (block_of_slot h 0) (unmarked_block shown.header) c c' → shown'.activity ≡ settles 2 →
    ShowsRunning h shown' a → NamesHeld h shown' a.held → Stands h shown' c' (settling a 2)

abbrev pub SettleWriteFails : Type 0
SettleWriteFails =
    (h : Hardware) (shown shown' : WorldView) (c c' : Content) (blocks : ℕ) (a : Running) → IsOnDisk h blocks c →
    IsContent blocks c' → Stands h shown c (settling a 1) →
    FailsToWrite (block_of_slot h 0) (unmarked_block shown.header) c c' → shown'.activity ≡ runs →
    ShowsRunning h shown' (with_held a (perhaps a.held)) → NamesHeld h shown' a.held →
    Stands h shown' c' (on (with_held a (perhaps a.held)))

-- The write leaves the area the same, failed or not.
abbrev pub SettleKeepsArea : Type 0
SettleKeepsArea =
    (h : Hardware) (shown : WorldView) (c c' : Content) (blocks : ℕ) (a : Running) → IsOnDisk h blocks c →
    Stands h shown c (settling a 1) →
    Tries (block_of_slot h 0) (unmarked_block shown.header) c c' → IsSameArea h (as_it_reads c) (as_it_reads c')

-- The sync: from then on no image exists. If the sync fails, the image may or may not exist.
abbrev pub SettleSyncs : Type 0
SettleSyncs =
    (h : Hardware) (shown shown' : WorldView) (c c' : Content) (blocks : ℕ) (a : Running) → IsContent blocks c →
    Stands h shown c (settling a 2) → Syncs c c' →
    shown'.activity ≡ runs → ShowsRunning h shown' (with_held a nothing) → NamesOnly h shown' [] →
    Stands h shown' c' (on (with_held a nothing))

abbrev pub SettleSyncFails : Type 0
SettleSyncFails =
    (h : Hardware) (shown shown' : WorldView) (c : Content) (a : Running) → Stands h shown c (settling a 2) →
    shown'.activity ≡ runs → ShowsRunning h shown' (with_held a (perhaps a.held)) → NamesHeld h shown' a.held →
    Stands h shown' c (on (with_held a (perhaps a.held)))
