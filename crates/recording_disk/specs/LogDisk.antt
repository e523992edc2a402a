-- What contracts say of a disk in memory that records its calls, besides what they say of every disk.
use Rattle.std.specs.Prelude.{◌≡◌, ℕ, ◌+◌, ◌*◌, ◌<◌, ◌≤◌, ◌↔◌, List, [], ◌∷◌, ◌++◌, length, replicate, Result, OnOk}
use Rattle.std.specs.Prelude.{OnErr}
use Rattle.definitions.specs.Disk.{Content, DiskImage, raised}
use Rattle.sector_disk.specs.MemDisk as memory
use Rattle.sector_disk.specs.Recorded.{held_after}
use Rattle.recording_disk.specs.Moments.{WasLeft}
use Rattle.recording_disk.specs.declared.log_disk.LogDisk.{LogDisk}
use Rattle.sector_disk.specs.declared.orders.Order.{Order}
use Rattle.sector_disk.specs.declared.recorded.Recorded.{Recorded}
use Rattle.definitions.specs.declared.counts.TheConstants.{SECTOR_SIZE}

-- how many blocks the disk has
abbrev pub block_count : LogDisk → ℕ
block_count d = memory.block_count d.disk

-- how many calls failed
abbrev pub fault_count : LogDisk → ℕ
fault_count d = memory.fault_count d.disk

-- how many reads, writes and syncs there were
abbrev pub call_count : LogDisk → ℕ
call_count d = memory.call_count d.disk

-- the restarts and arms that it was asked for
abbrev pub orders_got : LogDisk → List Order
orders_got d = memory.orders_got d.disk

-- the sectors as the last restart left them
abbrev pub first_sectors : LogDisk → DiskImage
first_sectors d = d.start.items

-- the disk's writes and syncs since the last restart
abbrev pub recorded : LogDisk → List Recorded
recorded d = d.log.items

-- how many writes and syncs the disk may record
abbrev pub room : LogDisk → ℕ
room d = d.room

-- the disk has no room for another write or sync
abbrev pub IsFull : LogDisk → Type 0
IsFull d = room d ≤ length (recorded d)

-- the sectors as the last sync or restart left them
abbrev pub durable_sectors : LogDisk → DiskImage
durable_sectors d = memory.durable_sectors d.disk

-- the sectors as a read gives them
abbrev pub live_sectors : LogDisk → DiskImage
live_sectors d = memory.live_sectors d.disk

-- what the disk tells of its content
abbrev pub content : LogDisk → Content
content d = held_after (first_sectors d) (recorded d)

-- how many calls are recorded since the last restart
abbrev pub moment : LogDisk → ℕ
moment d = length (recorded d)

-- what a power cut since a moment might have left
abbrev pub left_since : LogDisk → ℕ → DiskImage → Type 0
left_since d = WasLeft (first_sectors d) (recorded d)

-- call number k from now will fail; the next call has number 1
abbrev pub IsArmed : LogDisk → ℕ → Type 0
IsArmed d k = memory.IsArmed d.disk k

-- the pick of the sectors that an armed write still writes
abbrev pub armed_pick : LogDisk → ℕ
armed_pick d = memory.armed_pick d.disk

-- A read, a write or a sync: the armed calls come one nearer, and a failure is a fault.
pub record IsRecordedCall {T E : Type 0} (old new : LogDisk) (result : Result T E) : Type 0 where
  pub later : (k : ℕ) → 0 < k → IsArmed new k ↔ IsArmed old (k + 1)
  pub pick : armed_pick new ≡ armed_pick old
  pub faults : fault_count old ≤ fault_count new
  pub fault : OnErr result (fault_count new ≡ raised (fault_count old))
  pub no_fault : OnOk result (fault_count new ≡ fault_count old)
  pub calls : call_count new ≡ raised (call_count old)
  pub orders : orders_got new ≡ orders_got old
  pub blocks : block_count new ≡ block_count old
  pub first : first_sectors new ≡ first_sectors old
  pub room_is : room new ≡ room old

-- every sector is as before, and nothing is recorded
pub record LeavesAll (old new : LogDisk) : Type 0 where
  pub durable : durable_sectors new ≡ durable_sectors old
  pub live : live_sectors new ≡ live_sectors old
  pub first : first_sectors new ≡ first_sectors old
  pub calls : recorded new ≡ recorded old
  pub room_is : room new ≡ room old

-- the same calls stay armed, with the same pick
pub record KeepsArmed (old new : LogDisk) : Type 0 where
  pub calls : (k : ℕ) → IsArmed new k ↔ IsArmed old k
  pub pick : armed_pick new ≡ armed_pick old

-- A restart or an arm: the disk was asked for it, and nothing is counted.
pub record IsOrdered (order : Order) (old new : LogDisk) : Type 0 where
  pub orders : orders_got new ≡ orders_got old ++ order ∷ []
  pub calls : call_count new ≡ call_count old
  pub faults : fault_count new ≡ fault_count old
  pub blocks : block_count new ≡ block_count old
  pub room_is : room new ≡ room old

-- a new disk: zeros, nothing counted, nothing armed, and room for the given number of calls
pub record IsNewLogDisk (blocks calls : ℕ) (d : LogDisk) : Type 0 where
  pub blocks_are : block_count d ≡ blocks
  pub durable : durable_sectors d ≡ replicate (8 * blocks) (replicate SECTOR_SIZE 0)
  pub live : live_sectors d ≡ replicate (8 * blocks) (replicate SECTOR_SIZE 0)
  pub first : first_sectors d ≡ replicate (8 * blocks) (replicate SECTOR_SIZE 0)
  pub nothing_recorded : recorded d ≡ []
  pub room_is : room d ≡ calls
  pub no_calls : call_count d ≡ 0
  pub faults : fault_count d ≡ 0
  pub orders : orders_got d ≡ []
  pub unarmed : (k : ℕ) → IsArmed d k → ⊥
