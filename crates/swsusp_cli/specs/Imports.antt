-- How `import` may end: it opens the area, writes the input's bytes into it as they are read, and marks it.
use Rattle.std.specs.Prelude.{◌≡◌, ◌≤◌, ◌<◌, ◌⊎◌, ℕ, ◌+◌, ◌*◌, ◌/◌, List, [], ◌∷◌, ◌++◌, length, codes, decimal, Option}
use Rattle.std.specs.Prelude.{Some, None, Result, Ok, Err, IfSome, Contains}
use Rattle.definitions.specs.Disk.{Changes, Content, HasRisen, DiskImage, IsImage, as_it_reads, block, sector, settled}
use Rattle.definitions.specs.Streams.{HandsOut, IsUsedUp}
use Rattle.definitions.specs.SwapHeader.{marked, IsMarked}
use Rattle.image_format.specs.AreaKind.{area_kind}
use Rattle.image_format.specs.declared.signature.area.Area.{Area}
use Rattle.image_format.specs.declared.signature.area.AreaKind.TheVariants as kind
use Rattle.plain_machine.specs.Image.{maps_of}
use Rattle.plain_machine.specs.Image.{laid_block}
use Rattle.plain_machine.specs.Replies.{line_of}
use Rattle.plain_machine.specs.UsableArea.{bad_slots_of}
use Rattle.plain_machine.specs.declared.no_swap.NoSwap.{NoSwap}
use Rattle.plain_machine.specs.declared.reply.Left.TheVariants.{Same}
use Rattle.plain_machine.specs.declared.reply.Reply.TheVariants as reply
use Rattle.stream_in.specs.Grammar.{image_pages, all_pages, first_fault, short_fault, most_bytes}
use Rattle.stream_in.specs.declared.checking.fault.Kind.{Kind}
use Rattle.stream_in.specs.declared.checking.fault.Kind.TheVariants as fault
use Rattle.stream_in.specs.declared.checking.fault.StreamFault.{StreamFault}
use Rattle.stream_in.specs.Area.{AreUsable, first_block, open_fault, HasTooFewFor, SufficeFor}
use Rattle.stream_in.specs.Holding.{HasComeIn}
use Rattle.stream_in.specs.Marking.{LeavesAt}
use Rattle.stream_in.specs.Holding.{AreWritten, ReadAsMade, page_at}
use Rattle.stream_in.specs.declared.stop.InStop.{InStop}
use Rattle.stream_in.specs.declared.stop.InStop.TheVariants as stop
use Rattle.command_kit.specs.Told.{RunResult, line, memory_told}
use Rattle.swsusp_cli.specs.Outcome.{Tells}
use Rattle.swsusp_cli.specs.Replay.{unread_note}
use Rattle.command_kit.specs.Told.{IsTried}
use Rattle.command_kit.specs.View.{DiskView, View}
use Rattle.swsusp_cli.specs.declared.importing.ImportStop.{ImportStop}
use Rattle.swsusp_cli.specs.declared.importing.ImportStop.TheVariants.{Source, Session}
use Rattle.command_kit.specs.declared.status.Status.{Status}
use Rattle.command_kit.specs.declared.status.Status.TheVariants.{Done, Refused, Input, Stream, Device}
use Rattle.definitions.specs.declared.counts.TheConstants.{SPARE_SLOTS}

-- How often an import calls the disk.

-- The disk was called at most `most` times, its count of failures didn't fall, and it got no orders.
pub record IsCalledAtMost (most : ℕ) (d d' : DiskView) : Type 0 where
  pub calls : d'.calls ≤ d.calls + most
  pub faults : d.faults ≤ d'.faults
  pub orders : d'.orders ≡ d.orders
  pub blocks : d'.blocks ≡ d.blocks

-- What is printed.

abbrev pub kind_text : Kind → List ℕ
kind_text fault.Counts = codes "Counts byte "
kind_text fault.Pfn = codes "Pfn byte "
kind_text fault.Order = codes "Order byte "
kind_text fault.End = codes "End byte "
kind_text fault.Extra = codes "Extra byte "
kind_text fault.Short = codes "Short byte "

abbrev pub stream_note : StreamFault → List ℕ
stream_note fault = line (codes "stream " ++ kind_text fault.kind ++ decimal fault.at)

abbrev pub stream_told : StreamFault → RunResult
stream_told fault = record { status = Input; out = []; note = stream_note fault }

abbrev pub imported_told : ℕ → RunResult
imported_told n = record { status = Done; out = line (codes "imported " ++ decimal n); note = [] }

-- why an image isn't imported: the reply that says so, or the stream's fault
abbrev pub stop_told : InStop → RunResult
stop_told stop.NoMemory = memory_told
stop_told (stop.NoSwap why) = record { status = Refused; out = []; note = line_of (reply.NoSwap why) }
stop_told (stop.NoSlots free need) = record { status = Refused; out = []; note = line_of (reply.NoSlots free need) }
stop_told (stop.Stream fault) = stream_told fault
stop_told (stop.ReadFault left) = record { status = Device; out = []; note = line_of (reply.ReadFault left) }
stop_told (stop.WriteFault left) = record { status = Device; out = []; note = line_of (reply.WriteFault left) }
stop_told (stop.SyncFault left) = record { status = Device; out = []; note = line_of (reply.SyncFault left) }

-- The disk, with its area at the first blocks: slot s lies on block s.

abbrev pub whole_map : Area → List (ℕ × ℕ × ℕ)
whole_map area = (0, area.last + 1, 0) ∷ []

-- a slot that the area can give: neither the header's nor a bad page
abbrev pub IsUsable : Area → ℕ → Type 0
IsUsable area s = (s ≤ area.last) × (Contains (bad_slots_of area) s → ⊥)

-- Each sector of a block on which no usable slot of the area lies is as before, whatever a crash may leave of it. Block
-- 0 is such a block.
pub record KeepsUnusable (area : Area) (old new : Content) : Type 0 where
  pub size : length new ≡ length old
  pub sectors : (b j : ℕ) → j < 8 → (IsUsable area b → ⊥) → sector new (8 * b + j) ≡ sector old (8 * b + j)

-- The disk is as before. Or it had one image, the one that it read as, before the first block was written, and each of
-- those sectors is as it was then: so in every image block 0 is what was read of it.
abbrev pub LeavesUnusable : Area → Content → Content → Type 0
LeavesUnusable area old new = (new ≡ old) ⊎ KeepsUnusable area (settled (as_it_reads old)) new

-- and the whole pages of these bytes, with the maps that they fill, read as they were written, to the lowest free slots
pub record HasWritten (area : Area) (free bs : List ℕ) (old new : Content) : Type 0 where
  pub leaves : LeavesUnusable area old new
  pub written : AreWritten (whole_map area) free bs (as_it_reads new)

-- The disk has one image. Block 0 is as before, but marked with the flags 2 and the block of the first map, which lies
-- on the lowest free slot. The pages of the stream and the maps read as they are laid. So for each machine whose swap
-- area lies there, the chain is the stream, byte for byte, and the disk holds the image that the stream is of. Each
-- other block on which no usable slot of the area lies reads as before.
pub record Stores (area : Area) (free bs : List ℕ) (old new : Content) : Type 0 where
  pub size : length new ≡ length old
  pub one_image : new ≡ settled (as_it_reads new)
  pub header : block (as_it_reads new) 0 ≡ marked (block (as_it_reads old) 0) (laid_block (whole_map area) free 0) 2 0
  pub laid : ReadAsMade (whole_map area) free (all_pages bs) (page_at bs) (all_pages bs + maps_of (all_pages bs))
      (as_it_reads new)
  pub comes_in : (v : DiskImage) → IsImage new v → HasComeIn area bs v
  pub others : (b : ℕ) → 0 < b → (IsUsable area b → ⊥) → block (as_it_reads new) b ≡ block (as_it_reads old) b

-- Everything was written, and then a call that marks the area failed; what the stop says is left of the image.
abbrev pub MarksNot : InStop → Area → List ℕ → List ℕ → Content → Content → Type 0
MarksNot why area free bs old new = (mid : Content) × HasWritten area free bs old mid × LeavesAt why mid new

-- The area at the disk's first blocks, and its usable slots, ascending.
pub record IsArea (d : DiskView) (area : Area) (free : List ℕ) : Type 0 where
  pub kind_is : IfSome d.content (λ held. area_kind (first_block d.blocks (as_it_reads held)) ≡ kind.Swap area)
  pub room : IfSome d.content (λ held. open_fault d.blocks (kind.Swap area) ≡ None)
  pub slots : AreUsable area free

-- The bytes that were read: at most one more than the longest stream has.
pub record AreRead (bs : List ℕ) (left left' : Option (List ℕ)) : Type 0 where
  pub handed : HandsOut (length bs) bs left left'
  pub few : length bs ≤ most_bytes + 1

-- a whole stream in which there is no fault
abbrev pub IsStream : List ℕ → Type 0
IsStream bs = (first_fault bs ≡ None) × (short_fault bs ≡ None)

-- the first fault of the bytes so far; or the input ends with them, and they are no whole stream
abbrev pub HasStreamFault : List ℕ → StreamFault → Option (List ℕ) → Type 0
HasStreamFault bs fault left' =
    (first_fault bs ≡ Some fault) ⊎ ((first_fault bs ≡ None) × (short_fault bs ≡ Some fault) × IsUsedUp left')

-- What was done. The disk is called once to open the area, three times at most for each page that is read whole, and
-- six times at most to mark it.

-- the whole stream was read, the slots suffice, and its image is on the disk
pub record IsImported (n : ℕ) (area : Area) (free bs : List ℕ) (left left' : Option (List ℕ))
    (d d' : DiskView) : Type 0 where
  pub area_is : IsArea d area free
  pub bytes : AreRead bs left left'
  pub over : IsUsedUp left'
  pub stream : IsStream bs
  pub pages : n ≡ image_pages bs
  pub enough : all_pages bs + SPARE_SLOTS ≤ length free
  pub content : Changes (Stores area free bs) d.content d'.content
  pub called : IsCalledAtMost (7 + 3 * (length bs / 4096)) d d'

-- memory was refused before the disk was called or a byte was read
abbrev pub IsUntouched : Option (List ℕ) → Option (List ℕ) → DiskView → DiskView → Type 0
IsUntouched left left' d d' = (left' ≡ left) × (d' ≡ d)

-- block 0 isn't the header of an area that can be used, and no byte was read
pub record HasNoArea (why : NoSwap) (left left' : Option (List ℕ)) (d d' : DiskView) : Type 0 where
  pub says : IfSome d.content (λ held. open_fault d.blocks (area_kind (first_block d.blocks (as_it_reads held))) ≡ Some
      why)
  pub unread : left' ≡ left
  pub content : d'.content ≡ d.content
  pub called : IsCalledAtMost 1 d d'

-- or the header is no longer the area's when it is to be marked, which can't be over a disk that tells its content
pub record HasNoMore (left left' : Option (List ℕ)) (d d' : DiskView) : Type 0 where
  pub bs : List ℕ
  pub bytes : AreRead bs left left'
  pub over : IsUsedUp left'
  pub stream : IsStream bs
  pub untold : d.content ≡ None
  pub called : IsCalledAtMost (7 + 3 * (length bs / 4096)) d d'

-- fewer slots are free than the image may need
pub record HasTooFewSlots (told need : ℕ) (area : Area) (free bs : List ℕ) (left left' : Option (List ℕ))
    (d d' : DiskView) : Type 0 where
  pub area_is : IsArea d area free
  pub bytes : AreRead bs left left'
  pub too_few : HasTooFewFor free bs told need
  pub content : Changes (LeavesUnusable area) d.content d'.content
  pub called : IsCalledAtMost (1 + 3 * (length bs / 4096)) d d'

-- the input is no stream, and the free slots suffice for what was read
pub record IsNoStream (fault : StreamFault) (area : Area) (free bs : List ℕ) (left left' : Option (List ℕ))
    (d d' : DiskView) : Type 0 where
  pub area_is : IsArea d area free
  pub bytes : AreRead bs left left'
  pub says : HasStreamFault bs fault left'
  pub suffice : SufficeFor free bs
  pub content : Changes (LeavesUnusable area) d.content d'.content
  pub called : IsCalledAtMost (1 + 3 * (length bs / 4096)) d d'

-- the source failed after these bytes, which have no fault
pub record FailsAfter (area : Area) (free bs : List ℕ) (left left' : Option (List ℕ)) (d d' : DiskView) : Type 0 where
  pub area_is : IsArea d area free
  pub bytes : AreRead bs left left'
  pub sound : first_fault bs ≡ None
  pub content : Changes (HasWritten area free bs) d.content d'.content
  pub called : IsCalledAtMost (1 + 3 * (length bs / 4096)) d d'

-- the header block couldn't be read, and no byte was read
pub record IsUnopened (left left' : Option (List ℕ)) (d d' : DiskView) : Type 0 where
  pub unread : left' ≡ left
  pub content : d'.content ≡ d.content
  pub called : IsCalledAtMost 1 d d'
  pub risen : HasRisen d.faults d'.faults

-- the disk couldn't be synced before the first page, or a page or a map couldn't be written
pub record IsUnwritten (area : Area) (free bs : List ℕ) (left left' : Option (List ℕ)) (d d' : DiskView) : Type 0 where
  pub area_is : IsArea d area free
  pub bytes : AreRead bs left left'
  pub content : Changes (LeavesUnusable area) d.content d'.content
  pub called : IsCalledAtMost (1 + 3 * (length bs / 4096)) d d'
  pub risen : HasRisen d.faults d'.faults

-- the whole stream was written, but a call that marks the area failed
pub record IsUnmarked (why : InStop) (area : Area) (free bs : List ℕ) (left left' : Option (List ℕ))
    (d d' : DiskView) : Type 0 where
  pub area_is : IsArea d area free
  pub bytes : AreRead bs left left'
  pub over : IsUsedUp left'
  pub stream : IsStream bs
  pub content : Changes (MarksNot why area free bs) d.content d'.content
  pub called : IsCalledAtMost (7 + 3 * (length bs / 4096)) d d'
  pub risen : HasRisen d.faults d'.faults

-- so for some area, its usable slots and the bytes that were read
abbrev pub OfSome : (Area → List ℕ → List ℕ → Type 0) → Type 0
OfSome P = (area : Area) × (free : List ℕ) × (bs : List ℕ) × P area free bs

-- what was done, by the result of the import
abbrev pub Ends : Option (List ℕ) → Option (List ℕ) → DiskView → DiskView → Result ℕ ImportStop → Type 0
Ends left left' d d' (Ok n) = OfSome (λ area free bs. IsImported n area free bs left left' d d')
Ends left left' d d' (Err Source) = OfSome (λ area free bs. FailsAfter area free bs left left' d d')
Ends left left' d d' (Err (Session stop.NoMemory)) = IsUntouched left left' d d'
Ends left left' d d' (Err (Session (stop.NoSwap why))) = HasNoArea why left left' d d' ⊎ HasNoMore left left' d d'
Ends left left' d d' (Err (Session (stop.NoSlots told need))) =
    OfSome (λ area free bs. HasTooFewSlots told need area free bs left left' d d')
Ends left left' d d' (Err (Session (stop.Stream fault))) =
    OfSome (λ area free bs. IsNoStream fault area free bs left left' d d')
Ends left left' d d' (Err (Session (stop.ReadFault what))) =
    ((what ≡ Same) × IsUnopened left left' d d')
    ⊎ OfSome (λ area free bs. IsUnmarked (stop.ReadFault what) area free bs left left' d d')
Ends left left' d d' (Err (Session (stop.WriteFault what))) =
    ((what ≡ Same) × OfSome (λ area free bs. IsUnwritten area free bs left left' d d'))
    ⊎ OfSome (λ area free bs. IsUnmarked (stop.WriteFault what) area free bs left left' d d')
Ends left left' d d' (Err (Session (stop.SyncFault what))) =
    ((what ≡ Same) × OfSome (λ area free bs. IsUnwritten area free bs left left' d d'))
    ⊎ OfSome (λ area free bs. IsUnmarked (stop.SyncFault what) area free bs left left' d d')

-- the source failed: that is noted, and out is as before
pub record ImportFailsAtSource (x x' : View) (status : Status) : Type 0 where
  pub ends : Ends x.left x'.left x.disk x'.disk (Err Source)
  pub status_is : status ≡ Stream
  pub risen : HasRisen x.read_faults x'.read_faults
  pub out : x'.out ≡ x.out
  pub note : IsTried unread_note x.note x'.note

-- How an import may end, by the view of the outside before and after it.
pub data Imports (x x' : View) (status : Status) : Type 0 where
  imported : (n : ℕ) → Ends x.left x'.left x.disk x'.disk (Ok n) → Tells (imported_told n) status x x' →
      Imports x x' status
  stopped : (why : InStop) → Ends x.left x'.left x.disk x'.disk (Err (Session why)) →
      Tells (stop_told why) status x x' → Imports x x' status
  unread : ImportFailsAtSource x x' status → Imports x x' status

-- What a crash inside an import may leave, if the disk tells moments. `past` and `since` are the images that a crash
-- since a moment might have left, seen before the import and after it.

-- All that the source had left was handed out, and it has come into an area of this image, after its mark.
abbrev pub HasWhole : (left left' : Option (List ℕ)) → DiskImage → Type 0
HasWhole left left' w =
    (area : Area) × (bs : List ℕ) × HandsOut (length bs) bs left left' × IsUsedUp left' × HasComeIn area bs w

-- The clock hasn't gone back. A marked header block that a crash may leave is one that it might have left before the
-- import, or the whole stream is on the disk.
pub record ImportsInside (left left' : Option (List ℕ)) (before now : ℕ) (past since : ℕ → DiskImage →
    Type 0) : Type 0 where
  pub later : before ≤ now
  pub marks : (t : ℕ) (w : DiskImage) → t ≤ before → since t w → IsMarked (block w 0) →
      ((u : DiskImage) × past t u × (block w 0 ≡ block u 0)) ⊎ HasWhole left left' w
