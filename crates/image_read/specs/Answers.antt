-- What a step of a reader returns, over a disk.
use Rattle.std.specs.Prelude.{◌≡◌, ◌<◌, ℕ, ◌+◌, List, Option, Some, None, Result, Ok, Err, is_none, if◌then◌else◌}
use Rattle.definitions.specs.Disk as disk
use Rattle.definitions.specs.declared.info.Ident.{Ident}
use Rattle.plain_machine.specs.Machine.{Hardware, block_of_slot}
use Rattle.plain_machine.specs.Chain.{blocks_of}
use Rattle.plain_machine.specs.Trace.{place, read_cause, cause_with}
use Rattle.plain_machine.specs.declared.event.IdentCheck.{IdentCheck}
use Rattle.plain_machine.specs.declared.event.IdentCheck.TheVariants.{Compare, Skip}
use Rattle.image_read.specs.Causes.{reply_of}
use Rattle.image_read.specs.Reading.{Reading, HasReadAll, IsReady, places_left}
use Rattle.image_read.specs.Stream.{HasReadPlaces, AreListed, place_block, frame_at, told, pages_read}
use Rattle.image_read.specs.declared.cause.Cause.{Cause}
use Rattle.image_read.specs.declared.reader.ReadStep.{ReadStep}
use Rattle.image_read.specs.declared.reader.ReadStep.TheVariants.{More, Page, Done, Fault, Refused}

-- the identity that an image is compared with: the machine's, or none
abbrev pub Compares : Hardware → IdentCheck → Option Ident → Type 0
Compares h Compare own = own ≡ Some h.ident
Compares h Skip own = own ≡ None

-- the disk tells its content and reads like v, except for block(0)
abbrev pub Reads : Hardware → disk.DiskImage → Option disk.Content → Type 0
Reads h v None = ⊥
Reads h v (Some held) =
    (b : ℕ) → b < blocks_of v → (b ≡ block_of_slot h 0 → ⊥) → disk.block (disk.as_it_reads held) b ≡ disk.block v b

-- the number of saved page frames, known from the last number page on, even if the next block is at fault
abbrev pub told_after : Hardware → disk.DiskImage → IdentCheck → ℕ → Option ℕ
told_after h v check t =
    if is_none (read_cause h v check (place t)) then told h v (pages_read (t + 1)) else told h v (pages_read t)

-- What place t gives: the first cause of that place or of the next block; or else the page frame whose page is there,
-- if any. If there is a cause but the number of saved page frames is known, the sets hold all of them.
abbrev pub Gives : Hardware → disk.DiskImage → IdentCheck → ℕ → Result (Option ℕ) Cause → Reading → List ℕ → List ℕ →
    Type 0
Gives h v check t (Err cause) new origs zeros =
    (cause_with h v check None t ≡ Some (reply_of cause)) × (new.listed ≡ told_after h v check t)
    × ((n : ℕ) → new.listed ≡ Some n → AreListed h v n origs zeros)
Gives h v check t (Ok frame) new origs zeros =
    (cause_with h v check None t ≡ None) × HasReadPlaces h v check new (t + 1) origs zeros
    × (frame ≡ frame_at h v (place t))

-- What the step that reads place t returns and leaves: the first cause of that place or of the next block, with full
-- sets if the number of saved page frames is known; or else the page of a page frame, or how many steps were made.
abbrev pub Answers : Hardware → disk.DiskImage → IdentCheck → ℕ → ReadStep → Reading → Reading → List ℕ → List ℕ →
    List ℕ → Type 0
Answers h v check t (Refused cause) old new origs zeros page =
    (cause_with h v check None t ≡ Some (reply_of cause)) × (new.listed ≡ told_after h v check t)
    × ((n : ℕ) → new.listed ≡ Some n → AreListed h v n origs zeros)
Answers h v check t (Page pfn) old new origs zeros page =
    (cause_with h v check None t ≡ None) × HasReadPlaces h v check new (t + 1) origs zeros
    × (frame_at h v (place t) ≡ Some pfn) × (page ≡ disk.block v (place_block h v (place t)))
Answers h v check t (More k) old new origs zeros page =
    (cause_with h v check None t ≡ None) × HasReadPlaces h v check new (t + 1) origs zeros
    × (frame_at h v (place t) ≡ None) × (k ≡ t + 1)
Answers h v check t Done old new origs zeros page = HasReadAll old × (new ≡ old)
Answers h v check t Fault old new origs zeros page = Unit {0}

-- unless it was refused or the disk failed, the reader may go on, with one block less to read
abbrev pub GoesOn : ReadStep → Reading → Reading → List ℕ → List ℕ → Type 0
GoesOn (Refused cause) old r origs zeros = Unit {0}
GoesOn Fault old r origs zeros = Unit {0}
GoesOn Done old r origs zeros = IsReady r origs zeros
GoesOn (More k) old r origs zeros = IsReady r origs zeros × (places_left r + 1 ≡ places_left old)
GoesOn (Page pfn) old r origs zeros = IsReady r origs zeros × (places_left r + 1 ≡ places_left old)
