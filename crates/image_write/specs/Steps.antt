-- The effects of a write: on the disk, on the slot table in memory, and on the writer.
use Rattle.std.specs.Prelude.{◌≡◌, ◌+◌, ℕ, List, length, Option}
use Rattle.definitions.specs.Disk.{Content, Changes}
use Rattle.definitions.specs.Tables.{with_entries}
use Rattle.definitions.specs.declared.info.Info.{Info}
use Rattle.swap_slots.specs.Runs.{SlotRuns}
use Rattle.swap_slots.specs.Table.{LiesIn, Matches}
use Rattle.swap_slots.specs.declared.table.SlotTable.{SlotTable}
use Rattle.image_write.specs.Answers.{Succeeds, GoesOn}
use Rattle.image_write.specs.Writing.{Writing, IsWriting, IsSameImage, Makes, FailsToMake, write_next, slots_of_write}
use Rattle.image_write.specs.Writing.{HasReadCopies}
use Rattle.image_write.specs.declared.write_step.WriteStep.{WriteStep}
use Rattle.image_write.specs.declared.write_step.WriteStep.TheVariants.{Fault}

-- a slot table in memory, and the runs of its free slots
pub record HasSlots (frames : List (List ℕ)) (table : SlotTable) (runs : SlotRuns) : Type 0 where
  pub lies : LiesIn frames table
  pub matches : Matches frames table runs

-- Memory is as large as before, and the runs are still those of the free slots.
pub record KeepsSlots (table : SlotTable) (old new : List (List ℕ)) (was now : SlotRuns) : Type 0 where
  pub len : length new ≡ length old
  pub runs : Matches new table now
  pub room : now.room ≡ was.room

-- The next write's slots now belong to the image.
pub record TakesSlots (w : Writing) (old new : List (List ℕ)) (was now : SlotRuns) : Type 0 where
  pub taken : (free : List ℕ) → IsWriting free old w →
      new ≡ with_entries old w.table.first (slots_of_write w.info free w.written) 65536
  pub kept : KeepsSlots w.table old new was now

-- The next write is made, or fails: that of this page, or that of a map.
pub record WritesPage (page : List ℕ) (answer : WriteStep) (frames : List (List ℕ)) (w : Writing)
    (old new : Option Content) : Type 0 where
  pub written : (free : List ℕ) → IsWriting free frames w → Succeeds answer →
      Changes (Makes (write_next free w page)) old new
  pub failed : (free : List ℕ) → IsWriting free frames w → answer ≡ Fault →
      Changes (FailsToMake (write_next free w page)) old new

-- A writer that begins an image while these slots are free.
pub record HasBegun (info : Info) (extents : List (ℕ × ℕ × ℕ)) (table : SlotTable) (free : List ℕ)
    (frames : List (List ℕ)) (w : Writing) : Type 0 where
  pub info_is : w.info ≡ info
  pub extents_are : w.extents ≡ extents
  pub table_is : w.table ≡ table
  pub written : w.written ≡ 0
  pub writing : IsWriting free frames w

-- A successful step makes one more write; `frames` is memory before it, `after` after it. `moves` says what becomes of
-- the cursor.
pub record Advances (moves : Writing → Writing → Type 0) (answer : WriteStep) (frames after : List (List ℕ))
    (old new : Writing) : Type 0 where
  pub image : IsSameImage old new
  pub made : Succeeds answer → new.written ≡ old.written + 1
  pub writing : (free : List ℕ) → IsWriting free frames old → GoesOn answer → IsWriting free after new
  pub cursor : moves old new

-- if more is to be written, the copies are read as far as they are written
abbrev pub ReadsOn : List ℕ → List ℕ → List ℕ → WriteStep → Writing → Writing → Type 0
ReadsOn origs copies zeros answer old new = GoesOn answer → HasReadCopies origs copies zeros new
