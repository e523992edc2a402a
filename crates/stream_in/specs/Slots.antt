-- The memory of an import's slots: a slot table in page frames, and the runs of its free slots.
use Rattle.std.specs.Prelude.{◌≡◌, ℕ, ◌+◌, List, replicate}
use Rattle.definitions.specs.Bytes.{zero_page}
use Rattle.image_format.specs.declared.signature.area.Area.{Area}
use Rattle.swap_slots.specs.Table.{free_in}
use Rattle.stream_in.specs.Area.{AreUsable}
use Rattle.stream_in.specs.declared.slots.SlotMemory.{SlotMemory}

-- the free slots, ascending
abbrev pub free_of : SlotMemory → List ℕ
free_of memory = free_in memory.frames memory.table

-- Memory for the largest slot table, in which nothing is written yet.
pub record IsUnused (memory : SlotMemory) : Type 0 where
  pub frames : memory.frames ≡ replicate 128 zero_page
  pub room : memory.runs.room ≡ 131072

-- The slots are those of this area. Each one that the area can give is free.
pub record HasSlotsOf (area : Area) (memory : SlotMemory) : Type 0 where
  pub table : memory.table ≡ record { first = 0; slots = area.last + 1 }
  pub usable : AreUsable area (free_of memory)
