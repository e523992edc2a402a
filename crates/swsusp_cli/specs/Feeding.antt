-- A session that is fed what a source hands out.
use Rattle.std.specs.Prelude.{◌≡◌, ◌≤◌, ℕ, ◌+◌, ◌*◌, ◌/◌, List, [], length, Option, Some, Result, Ok, Err, ⊤}
use Rattle.definitions.specs.Disk.{Content, Changes, DiskImage, HasRisen, as_it_reads}
use Rattle.definitions.specs.Streams.{HandsOut, IsUsedUp}
use Rattle.plain_machine.specs.declared.reply.Left.TheVariants.{Same}
use Rattle.stream_in.specs.Grammar.{first_fault}
use Rattle.stream_in.specs.Grammar.{most_bytes}
use Rattle.image_format.specs.declared.signature.area.Area.{Area}
use Rattle.stream_in.specs.Holding.{StaysReady}
use Rattle.stream_in.specs.Moments.{AddsNoHeader}
use Rattle.stream_in.specs.Outside.{StopsAtRest, WritesAtRest}
use Rattle.stream_in.specs.Session.{IsFed, TakesInto}
use Rattle.stream_in.specs.Area.{HasTooFewFor, SufficeFor}
use Rattle.stream_in.specs.Stops.{IsDiskStop}
use Rattle.stream_in.specs.Holding.{AreWritten}
use Rattle.stream_in.specs.declared.session.StreamIn.{StreamIn}
use Rattle.stream_in.specs.declared.stop.InStop.{InStop}
use Rattle.stream_in.specs.declared.stop.InStop.TheVariants as stop
use Rattle.command_kit.specs.View.{DiskView}
use Rattle.swsusp_cli.specs.Imports.{IsCalledAtMost}
use Rattle.swsusp_cli.specs.declared.importing.ImportStop.{ImportStop}
use Rattle.swsusp_cli.specs.declared.importing.ImportStop.TheVariants.{Source, Session}

-- The whole pages of these bytes read as the import lays them out. The disk had one image when the first was written,
-- and blocks that belong to no free slot are as they were then.
pub record HoldsFed (extents : List (ℕ × ℕ × ℕ)) (free bs : List ℕ) (old new : Content) : Type 0 where
  pub outside : WritesAtRest extents free 0 (length bs) old new
  pub written : AreWritten extents free bs (as_it_reads new)

-- A session has taken exactly these bytes, which the source handed out.
pub record HasFed (free bs : List ℕ) (s s' : StreamIn) (left left' : Option (List ℕ)) (d d' : DiskView) : Type 0 where
  pub fed : IsFed free bs s'
  pub handed : HandsOut (length bs) bs left left'
  pub content : Changes (HoldsFed s.map free bs) d.content d'.content
  pub called : IsCalledAtMost (3 * (length bs / 4096)) d d'
  pub map : s'.map ≡ s.map
  pub blocks : s'.blocks ≡ s.blocks

-- why a session may stop with the last of these bytes
abbrev pub IsStopFor : List ℕ → List ℕ → InStop → Type 0
IsStopFor free bs stop.NoMemory = ⊥
IsStopFor free bs (stop.NoSwap why) = ⊥
IsStopFor free bs (stop.NoSlots told need) = HasTooFewFor free bs told need
IsStopFor free bs (stop.Stream fault) = (first_fault bs ≡ Some fault) × SufficeFor free bs
IsStopFor free bs (stop.ReadFault left) = ⊥
IsStopFor free bs (stop.WriteFault left) = left ≡ Same
IsStopFor free bs (stop.SyncFault left) = left ≡ Same

-- The session stopped with the last of these bytes.
pub record HasStopped (free bs : List ℕ) (why : InStop) (s : StreamIn) (left left' : Option (List ℕ))
    (d d' : DiskView) : Type 0 where
  pub why_is : IsStopFor free bs why
  pub handed : HandsOut (length bs) bs left left'
  pub few : length bs ≤ most_bytes + 1
  pub content : Changes (StopsAtRest s.map free 0) d.content d'.content
  pub called : IsCalledAtMost (3 * (length bs / 4096)) d d'
  pub risen : IsDiskStop why → HasRisen d.faults d'.faults

-- whether the disk failed; whether the source failed
abbrev pub IsOfDisk : ImportStop → Type 0
IsOfDisk Source = ⊥
IsOfDisk (Session why) = IsDiskStop why

abbrev pub IsOfSource : ImportStop → Type 0
IsOfSource Source = ⊤
IsOfSource (Session why) = ⊥

-- The input came to its end, or the source failed, or the session stopped.
abbrev pub Feeds : List ℕ → StreamIn → StreamIn → Option (List ℕ) → Option (List ℕ) → DiskView → DiskView →
    Result (Unit {0}) ImportStop → Type 0
Feeds free s s' left left' d d' (Ok u) = (bs : List ℕ) × HasFed free bs s s' left left' d d' × IsUsedUp left'
Feeds free s s' left left' d d' (Err Source) = (bs : List ℕ) × HasFed free bs s s' left left' d d'
Feeds free s s' left left' d d' (Err (Session why)) = (bs : List ℕ) × HasStopped free bs why s left left' d d'

-- The clock hasn't gone back, and a crash since an earlier moment leaves no header block that it might not have left
-- before.
pub record KeepsHeaders (before now : ℕ) (past since : ℕ → DiskImage → Type 0) : Type 0 where
  pub later : before ≤ now
  pub adds_none : AddsNoHeader before past since

-- The input came to its end, and a disk that was ready for a stream in this area is ready for the bytes read.
pub record TakesToEnd (area : Area) (free : List ℕ) (s' : StreamIn) (left left' : Option (List ℕ))
    (old new : Option Content) : Type 0 where
  pub bs : List ℕ
  pub handed : HandsOut (length bs) bs left left'
  pub over : IsUsedUp left'
  pub takes : TakesInto area free bs s'
  pub ready : Changes (StaysReady area free [] bs) old new
