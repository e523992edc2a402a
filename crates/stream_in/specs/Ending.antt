-- What the end of a stream does: it marks the image.
use Rattle.std.specs.Prelude.{◌≡◌, ◌↔◌, ℕ, List, Option, Some, Result, Err, IfOk, IfErr, IfSome, OnOk}
use Rattle.definitions.specs.Disk.{Content, DiskImage, Changes, as_it_reads, block}
use Rattle.plain_machine.specs.Image.{laid_block}
use Rattle.plain_machine.specs.UsableArea.{kind_fault}
use Rattle.image_format.specs.AreaKind.{area_kind}
use Rattle.image_format.specs.declared.signature.area.Area.{Area}
use Rattle.stream_in.specs.Grammar.{image_pages, short_fault}
use Rattle.stream_in.specs.declared.checking.fault.StreamFault.{StreamFault}
use Rattle.stream_in.specs.Holding.{ComesIn}
use Rattle.stream_in.specs.Marked.{Marks}
use Rattle.stream_in.specs.Marking.{LeavesAt}
use Rattle.stream_in.specs.Moments.{ElapsesOverMark, LeavesWhole, MarksWhole}
use Rattle.stream_in.specs.Session.{IsFed, TakesInto}
use Rattle.stream_in.specs.Stops.{IfNoSwap}
use Rattle.stream_in.specs.declared.session.StreamIn.{StreamIn}
use Rattle.stream_in.specs.declared.stop.InStop.{InStop}
use Rattle.stream_in.specs.declared.stop.InStop.TheVariants as stop

-- What the answer says of the bytes that the session has taken: that they end early, or how many pages were saved.
pub record EndsStream (s : StreamIn) (answer : Result ℕ InStop) : Type 0 where
  pub short : (free bs : List ℕ) → IsFed free bs s → (fault : StreamFault) →
      (answer ≡ Err (stop.Stream fault)) ↔ (short_fault bs ≡ Some fault)
  pub saved : (free bs : List ℕ) → IsFed free bs s → IfOk answer (λ n. n ≡ image_pages bs)

-- The image has come in and is marked. Even after a failure, an image of the disk that is marked only now is whole.
pub record MarksStream (s : StreamIn) (answer : Result ℕ InStop) (old new : Option Content) : Type 0 where
  pub marked : (free bs : List ℕ) → IsFed free bs s → OnOk answer (Changes (Marks (laid_block s.map free 0)) old new)
  pub holds : (area : Area) (free bs : List ℕ) → TakesInto area free bs s →
      OnOk answer (Changes (ComesIn area free bs) old new)
  pub whole : (area : Area) (free bs : List ℕ) → TakesInto area free bs s →
      IfSome old (λ held. IfSome new (LeavesWhole area free bs held))

-- If the image isn't marked, the reason is one of these, and it says correctly what is left of the image.
pub record StopsMark {T : Type 0} (reasons : InStop → Type 0) (answer : Result T InStop)
    (old new : Option Content) : Type 0 where
  pub leaves : IfErr answer (λ why. Changes (LeavesAt why) old new)
  pub stops : IfErr answer (λ why. reasons why)
  pub no_swap : IfErr answer (λ why. IfNoSwap why (λ reason. IfSome old
      (λ held. kind_fault (area_kind (block (as_it_reads held) 0)) ≡ Some reason)))

-- What a cut may leave now but not before, on a disk that tells moments: the marked header block of a whole image.
pub record LeavesMark (s : StreamIn) (before now : ℕ) (past since : ℕ → DiskImage → Type 0)
    (old : Option Content) : Type 0 where
  pub time : (free bs : List ℕ) → IsFed free bs s →
      IfSome old (λ held. ElapsesOverMark (laid_block s.map free 0) before now past since held)
  pub cut : (area : Area) (free bs : List ℕ) → TakesInto area free bs s →
      IfSome old (MarksWhole area free bs before past since)
