-- What a step of a hibernation's writer does, whatever the disk tells.
use Rattle.std.specs.Prelude.{◌≡◌, ℕ, List, Option}
use Rattle.definitions.specs.Disk.{Content, Changes}
use Rattle.definitions.specs.Tables.{with_entries}
use Rattle.plain_machine.specs.Machine.{Memory}
use Rattle.image_write.specs.Writing.{Writing, IsWriting, IsSameImage, page_next, write_next, stream_of_sets}
use Rattle.image_write.specs.Writing.{slots_of_write}
use Rattle.snapshot.specs.Taken.{Taken}

-- The writer makes its next write, or fails to, from these page frames and a snapshot's sets. The slots that it takes
-- are then marked as the image's in the slot table.
pub record Writes (R : ℕ × List ℕ → Content → Content →
    Type 0) (frames frames' : Memory) (sets : Taken) (writer writer' : Writing)
    (before now : Option Content) : Type 0 where
  pub made : (free : List ℕ) → IsWriting free frames writer →
      Changes (R (write_next free writer
      (page_next (stream_of_sets writer.info frames sets.origs sets.copies sets.zeros) writer))) before now
  pub taken : (free : List ℕ) → IsWriting free frames writer →
      frames' ≡ with_entries frames writer.table.first (slots_of_write writer.info free writer.written) 65536
  pub same : IsSameImage writer writer'
