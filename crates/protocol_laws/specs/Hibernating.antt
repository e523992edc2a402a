-- What a hibernation's disk calls do to the state that a world and its disk stand for: after each step of the plain
-- machine they stand for its next state (save_image, swap_writer_finish and mark_swapfiles, kernel/power/swap.c).
use Rattle.std.specs.Prelude.{◌≡◌, ◌≢◌, ◌<◌, ℕ, ◌+◌, Bool, false, [], None}
use Rattle.page_core.specs.declared.format.Format.{Format}
use Rattle.definitions.specs.Disk.{Content, IsContent, Writes, FailsToWrite, Syncs, as_it_reads}
use Rattle.image_format.specs.AreaKind.{area_kind}
use Rattle.plain_machine.specs.Machine.{Hardware, IsHardware, block_of_slot}
use Rattle.plain_machine.specs.UsableArea.{kind_fault}
use Rattle.plain_machine.specs.Chain.{header_of, Marked}
use Rattle.plain_machine.specs.Image.{Image, image_of_memory, hibernate_steps}
use Rattle.plain_machine.specs.Refusals.{refusal}
use Rattle.plain_machine.specs.Shows.{WorldView, rests, runs, hibernates, undoes, sleeps, ShowsRunning}
use Rattle.plain_machine.specs.Stands.{Stands, EachImage, IsAccepted, NamesOnly, NamesHeld}
use Rattle.plain_machine.specs.State.{off, on, hibernating, undoing, asleep, Running, sure, own}
use Rattle.plain_machine.specs.declared.event.Event.TheVariants.{Hibernate}
use Rattle.plain_machine.specs.declared.reply.UndoCall.TheVariants as undo
use Rattle.protocol_laws.specs.Rows.{HasImage}
use Rattle.protocol_laws.specs.Steps.{marked_header, IsOverDisk, ShowsCopies}
use Rattle.protocol_laws.specs.Rows.{write_of_step}

-- A hibernation that isn't refused has its image, its area and its slots,
abbrev pub IsAcceptedUnlessRefused : Type 0
IsAcceptedUnlessRefused =
    (h : Hardware) (a : Running) (f : Format) → IsHardware h → refusal h (on a) (Hibernate f) ≡ None →
    IsAccepted h a (image_of_memory h a.memory a.slots f)

-- and begins, once the world has made its copies.
abbrev pub Begins : Type 0
Begins =
    (h : Hardware) (shown shown' : WorldView) (c : Content) (a : Running) (f : Format) (suspends : Bool) →
    IsHardware h → Stands h shown c (on a) → refusal h (on a) (Hibernate f) ≡ None →
    shown'.activity ≡ hibernates suspends 0 → ShowsCopies h shown' a (image_of_memory h a.memory a.slots f) →
    Stands h shown' c (hibernating suspends (image_of_memory h a.memory a.slots f) a 0)

-- The write of a page or map is a step. If it fails, the machine runs again.
abbrev pub WritesOn : Type 0
WritesOn =
    (h : Hardware) (shown shown' : WorldView) (c c' : Content) (blocks : ℕ) (suspends : Bool) (i : Image) (a : Running)
    (k : ℕ) → IsOverDisk h i blocks c → Stands h shown c (hibernating suspends i a k) → k + 4 < hibernate_steps i →
    Writes (write_of_step h a i k).0 (write_of_step h a i k).1 c c' → shown'.activity ≡ hibernates suspends (k + 1) →
    ShowsCopies h shown' a i → Stands h shown' c' (hibernating suspends i a (k + 1))

abbrev pub WriteFails : Type 0
WriteFails =
    (h : Hardware) (shown shown' : WorldView) (c c' : Content) (blocks : ℕ) (suspends : Bool) (i : Image) (a : Running)
    (k : ℕ) → IsOverDisk h i blocks c → Stands h shown c (hibernating suspends i a k) → k + 4 < hibernate_steps i →
    FailsToWrite (write_of_step h a i k).0 (write_of_step h a i k).1 c c' → shown'.activity ≡ runs →
    ShowsRunning h shown' a → NamesOnly h shown' [] → Stands h shown' c' (on a)

-- No page or map is written to the header block.
abbrev pub WritesElsewhere : Type 0
WritesElsewhere =
    (h : Hardware) (shown : WorldView) (c : Content) (blocks : ℕ) (suspends : Bool) (i : Image) (a : Running) (k : ℕ) →
    IsOverDisk h i blocks c → Stands h shown c (hibernating suspends i a k) → k + 4 < hibernate_steps i →
    (write_of_step h a i k).0 ≢ block_of_slot h 0

-- The sync after the writes is a step, and so is the read of block(0) after it. If one fails, the machine runs again.
abbrev pub SyncsOn : Type 0
SyncsOn =
    (h : Hardware) (shown shown' : WorldView) (c c' : Content) (blocks : ℕ) (suspends : Bool) (i : Image) (a : Running)
    (k : ℕ) → IsOverDisk h i blocks c → Stands h shown c (hibernating suspends i a k) → k + 4 ≡ hibernate_steps i →
    Syncs c c' → shown'.activity ≡ hibernates suspends (k + 1) → ShowsCopies h shown' a i →
    Stands h shown' c' (hibernating suspends i a (k + 1))

abbrev pub ReadsOn : Type 0
ReadsOn =
    (h : Hardware) (shown shown' : WorldView) (c : Content) (blocks : ℕ) (suspends : Bool) (i : Image) (a : Running)
    (k : ℕ) → IsOverDisk h i blocks c → Stands h shown c (hibernating suspends i a k) → k + 3 ≡ hibernate_steps i →
    shown'.header ≡ header_of h (as_it_reads c) → shown'.activity ≡ hibernates suspends (k + 1) →
    ShowsCopies h shown' a i → Stands h shown' c (hibernating suspends i a (k + 1))

-- The block read is the header block of an unmarked version 1 area.
abbrev pub ReadsArea : Type 0
ReadsArea =
    (h : Hardware) (shown : WorldView) (c : Content) (blocks : ℕ) (suspends : Bool) (i : Image) (a : Running) (k : ℕ) →
    IsContent blocks c → Stands h shown c (hibernating suspends i a k) → k + 3 ≡ hibernate_steps i →
    kind_fault (area_kind (header_of h (as_it_reads c))) ≡ None

abbrev pub CallFails : Type 0
CallFails =
    (h : Hardware) (shown shown' : WorldView) (c : Content) (suspends : Bool) (i : Image) (a : Running) (k : ℕ) →
    Stands h shown c (hibernating suspends i a k) → k + 1 < hibernate_steps i →
    shown'.activity ≡ runs → ShowsRunning h shown' a → NamesOnly h shown' [] → Stands h shown' c (on a)

-- The header block is kept as the disk reads it, and it isn't marked.
abbrev pub MarksUnmarked : Type 0
MarksUnmarked =
    (h : Hardware) (shown : WorldView) (c : Content) (blocks : ℕ) (suspends : Bool) (i : Image) (a : Running) (k : ℕ) →
    IsContent blocks c → Stands h shown c (hibernating suspends i a k) → k + 2 ≡ hibernate_steps i →
    (shown.header ≡ header_of h (as_it_reads c)) × (Marked h (as_it_reads c) → ⊥)

-- The write of the mark is a step. From then on each image of the disk is unmarked or holds the image, and the disk as
-- it reads holds it. If the write fails, an undo begins.
abbrev pub MarksOn : Type 0
MarksOn =
    (h : Hardware) (shown shown' : WorldView) (c c' : Content) (blocks : ℕ) (suspends : Bool) (i : Image) (a : Running)
    (k : ℕ) → IsOverDisk h i blocks c → IsContent blocks c' → Stands h shown c (hibernating suspends i a k) →
    k + 2 ≡ hibernate_steps i →
    Writes (block_of_slot h 0) (marked_header h a i shown.header) c c' →
    shown'.header ≡ marked_header h a i shown.header → shown'.activity ≡ hibernates suspends (k + 1) →
    ShowsCopies h shown' a i → Stands h shown' c' (hibernating suspends i a (k + 1))

abbrev pub MarkFails : Type 0
MarkFails =
    (h : Hardware) (shown shown' : WorldView) (c c' : Content) (blocks : ℕ) (suspends : Bool) (i : Image) (a : Running)
    (k : ℕ) → IsOverDisk h i blocks c → IsContent blocks c' → Stands h shown c (hibernating suspends i a k) →
    k + 2 ≡ hibernate_steps i →
    FailsToWrite (block_of_slot h 0) (marked_header h a i shown.header) c c' →
    shown'.header ≡ marked_header h a i shown.header → shown'.activity ≡ undoes undo.Write 0 →
    ShowsCopies h shown' a i → Stands h shown' c' (undoing i undo.Write a 0)

-- The last sync ends the hibernation: the machine is off, and every image of the disk holds the image. If the sync
-- fails, an undo begins.
abbrev pub Ends : Type 0
Ends =
    (h : Hardware) (shown shown' : WorldView) (c c' : Content) (blocks : ℕ) (suspends : Bool) (i : Image) (a : Running)
    (k : ℕ) → IsOverDisk h i blocks c → Stands h shown c (hibernating suspends i a k) → k + 1 ≡ hibernate_steps i →
    Syncs c c' → shown'.activity ≡ rests → shown'.keeps_dump ≡ false → Stands h shown' c' (off (sure (own i)) None)

-- After the last sync of a suspend the machine sleeps, in the state that it ran in, and the image's slots stay named.
abbrev pub EndsAsleep : Type 0
EndsAsleep =
    (h : Hardware) (shown shown' : WorldView) (c c' : Content) (blocks : ℕ) (suspends : Bool) (i : Image) (a : Running)
    (k : ℕ) → IsOverDisk h i blocks c → Stands h shown c (hibernating suspends i a k) → k + 1 ≡ hibernate_steps i →
    Syncs c c' → shown'.activity ≡ sleeps → ShowsRunning h shown' a → NamesHeld h shown' (sure (own i)) →
    Stands h shown' c' (asleep i (sure (own i)) a)

-- The last sync has left the mark and the image's blocks in every image of the disk.
abbrev pub EndLeaves : Type 0
EndLeaves =
    (h : Hardware) (shown : WorldView) (c c' : Content) (blocks : ℕ) (suspends : Bool) (i : Image) (a : Running)
    (k : ℕ) → IsOverDisk h i blocks c → Stands h shown c (hibernating suspends i a k) → k + 1 ≡ hibernate_steps i →
    Syncs c c' → EachImage c' (HasImage h i a)

abbrev pub EndFails : Type 0
EndFails =
    (h : Hardware) (shown shown' : WorldView) (c : Content) (suspends : Bool) (i : Image) (a : Running) (k : ℕ) →
    Stands h shown c (hibernating suspends i a k) → k + 1 ≡ hibernate_steps i →
    shown'.header ≡ shown.header → shown'.activity ≡ undoes undo.Sync 0 → ShowsCopies h shown' a i →
    Stands h shown' c (undoing i undo.Sync a 0)
