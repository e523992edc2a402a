-- What a piece of the stream does to a session and to its disk.
use Rattle.std.specs.Prelude.{◌≡◌, ◌≤◌, ℕ, ◌+◌, ◌-◌, ◌*◌, ◌/◌, ◌++◌, List, length, Option, Some, Result}
use Rattle.std.specs.Prelude.{Err, OnOk, OnErr}
use Rattle.definitions.specs.Disk.{Content, DiskImage, Changes}
use Rattle.image_format.specs.declared.signature.area.Area.{Area}
use Rattle.stream_in.specs.Grammar.{first_fault}
use Rattle.stream_in.specs.declared.checking.fault.StreamFault.{StreamFault}
use Rattle.stream_in.specs.Area.{HasTooFewFor, SufficeFor}
use Rattle.stream_in.specs.Holding.{AreOfMap, WritesOn, StaysReady}
use Rattle.stream_in.specs.Moments.{ElapsesOutside, AddsNoHeader}
use Rattle.stream_in.specs.Outside.{WritesAtRest, StopsAtRest}
use Rattle.stream_in.specs.Session.{IsFed, TakesInto}
use Rattle.stream_in.specs.declared.session.StreamIn.{StreamIn}
use Rattle.stream_in.specs.declared.stop.InStop.{InStop}
use Rattle.stream_in.specs.declared.stop.InStop.TheVariants as stop

-- What the answer says of a session that had taken these bytes: it has taken the piece too, or the bytes and the piece
-- together have this fault. A fault is reported only if the free slots suffice; else their number is.
pub record AnswersPiece (piece : List ℕ) (answer : Result (Unit {0}) InStop) (s s' : StreamIn) : Type 0 where
  pub taken : (free bs : List ℕ) → IsFed free bs s → OnOk answer (IsFed free (bs ++ piece) s')
  pub stream : (free bs : List ℕ) → IsFed free bs s → (fault : StreamFault) →
      answer ≡ Err (stop.Stream fault) → first_fault (bs ++ piece) ≡ Some fault
  pub suffice : (free bs : List ℕ) → IsFed free bs s → (fault : StreamFault) →
      answer ≡ Err (stop.Stream fault) → SufficeFor free (bs ++ piece)
  pub too_few : (free bs : List ℕ) → IsFed free bs s → (told need : ℕ) →
      answer ≡ Err (stop.NoSlots told need) → HasTooFewFor free (bs ++ piece) told need

-- What is written: the pages that the piece fills, and only to blocks of the slots that were free.
pub record WritesPiece (piece : List ℕ) (answer : Result (Unit {0}) InStop) (s : StreamIn)
    (old new : Option Content) : Type 0 where
  pub done : (free bs : List ℕ) → IsFed free bs s → AreOfMap s.map free →
      OnOk answer (Changes (WritesOn s.map free bs piece) old new)
  pub outside : (free bs : List ℕ) → IsFed free bs s →
      OnOk answer (Changes (WritesAtRest s.map free (length bs) (length (bs ++ piece))) old new)
  pub stopped : (free bs : List ℕ) → IsFed free bs s →
      OnErr answer (Changes (StopsAtRest s.map free (length bs)) old new)

-- The same for an area that the stream is taken into: the session takes the piece, and the disk stays ready for it.
pub record FillsArea (piece : List ℕ) (answer : Result (Unit {0}) InStop) (s s' : StreamIn)
    (old new : Option Content) : Type 0 where
  pub into : (area : Area) (free bs : List ℕ) → TakesInto area free bs s →
      OnOk answer (TakesInto area free (bs ++ piece) s')
  pub ready : (area : Area) (free bs : List ℕ) → TakesInto area free bs s →
      OnOk answer (Changes (StaysReady area free bs piece) old new)

-- What a cut may leave now but not before, on a disk that tells moments: other bytes in blocks of the free slots, and
-- no other header block.
pub record LeavesMoments (s : StreamIn) (before now : ℕ) (past since : ℕ → DiskImage → Type 0) : Type 0 where
  pub time : (free bs : List ℕ) → IsFed free bs s → ElapsesOutside s.map free before now past since
  pub header : (area : Area) (free bs : List ℕ) → TakesInto area free bs s → AddsNoHeader before past since

-- the session still has the same blocks of the same disk
pub record StaysOn (s s' : StreamIn) : Type 0 where
  pub blocks : s'.blocks ≡ s.blocks
  pub map : s'.map ≡ s.map

-- the piece takes at most three calls for each page that it fills
abbrev pub AtMostByPages : StreamIn → List ℕ → ℕ → ℕ → Type 0
AtMostByPages s piece before after =
    (free bs : List ℕ) → IsFed free bs s → after ≤ before + 3 * (length (bs ++ piece) / 4096 - length bs / 4096)
