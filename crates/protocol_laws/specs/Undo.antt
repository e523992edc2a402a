-- What an undo's disk calls do to the state: block(0) is written with the mark taken back, and synced. An undo follows
-- a hibernation's mark or last sync that failed, and the machine runs again (swsusp_unmark, kernel/power/swap.c).
use Rattle.std.specs.Prelude.{◌≡◌, ℕ, []}
use Rattle.definitions.specs.Bytes.{IsPage}
use Rattle.definitions.specs.Disk.{Content, IsContent, Writes, FailsToWrite, Syncs}
use Rattle.definitions.specs.SwapHeader.{taken_back}
use Rattle.plain_machine.specs.Machine.{Hardware, block_of_slot}
use Rattle.plain_machine.specs.Image.{Image}
use Rattle.plain_machine.specs.Shows.{WorldView, runs, undoes, ShowsRunning}
use Rattle.plain_machine.specs.Stands.{Stands, NamesOnly, laid_blocks}
use Rattle.plain_machine.specs.State.{on, undoing, Running, Held, nothing, maybe, own}
use Rattle.plain_machine.specs.declared.reply.UndoCall.{UndoCall}
use Rattle.protocol_laws.specs.Steps.{IsOverDisk}

-- the running machine with `held` as what is held
abbrev pub with_held : Running → Held → Running
with_held a held = record a { held = held }

-- The write: from then on the disk reads as unmarked, but a cut may still find the image. If the write fails, the
-- machine runs, and the image may or may not exist; its slots stay its own.
abbrev pub UndoWrites : Type 0
UndoWrites =
    (h : Hardware) (shown shown' : WorldView) (c c' : Content) (blocks : ℕ) (i : Image) (call : UndoCall)
    (a : Running) → IsOverDisk h i blocks c → IsPage shown.header → IsContent blocks c' →
    Stands h shown c (undoing i call a 0) →
    Writes (block_of_slot h 0) (taken_back shown.header) c c' → shown'.activity ≡ undoes call 1 →
    ShowsRunning h shown' a → NamesOnly h shown' (laid_blocks h a i) → Stands h shown' c' (undoing i call a 1)

abbrev pub UndoWriteFails : Type 0
UndoWriteFails =
    (h : Hardware) (shown shown' : WorldView) (c c' : Content) (blocks : ℕ) (i : Image) (call : UndoCall)
    (a : Running) → IsOverDisk h i blocks c → IsPage shown.header → IsContent blocks c' →
    Stands h shown c (undoing i call a 0) →
    FailsToWrite (block_of_slot h 0) (taken_back shown.header) c c' → shown'.activity ≡ runs →
    ShowsRunning h shown' (with_held a (maybe (own i))) → NamesOnly h shown' (laid_blocks h a i) →
    Stands h shown' c' (on (with_held a (maybe (own i))))

-- The sync: from then on no image exists. If the sync fails, the image may or may not exist.
abbrev pub UndoSyncs : Type 0
UndoSyncs =
    (h : Hardware) (shown shown' : WorldView) (c c' : Content) (blocks : ℕ) (i : Image) (call : UndoCall)
    (a : Running) → IsOverDisk h i blocks c → Stands h shown c (undoing i call a 1) → Syncs c c' →
    shown'.activity ≡ runs → ShowsRunning h shown' (with_held a nothing) → NamesOnly h shown' [] →
    Stands h shown' c' (on (with_held a nothing))

abbrev pub UndoSyncFails : Type 0
UndoSyncFails =
    (h : Hardware) (shown shown' : WorldView) (c : Content) (blocks : ℕ) (i : Image) (call : UndoCall) (a : Running) →
    IsOverDisk h i blocks c → Stands h shown c (undoing i call a 1) →
    shown'.activity ≡ runs → ShowsRunning h shown' (with_held a (maybe (own i))) →
    NamesOnly h shown' (laid_blocks h a i) → Stands h shown' c (on (with_held a (maybe (own i))))
