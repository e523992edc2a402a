-- What contracts say of a disk in memory beyond the clauses of a disk.
use Rattle.std.specs.Prelude.{◌≡◌, ℕ, ◌+◌, ◌*◌, ◌<◌, ◌≤◌, ◌↔◌, List, [], ◌∷◌, ◌++◌, replicate, Result, IsErr, OnOk}
use Rattle.std.specs.Prelude.{OnErr}
use Rattle.definitions.specs.Disk.{Content, DiskImage, raised}
use Rattle.sector_disk.specs.Calls.{IsDue}
use Rattle.sector_disk.specs.Sectors.{content_of, padded}
use Rattle.sector_disk.specs.declared.mem_disk.MemDisk.{MemDisk}
use Rattle.sector_disk.specs.declared.orders.Order.{Order}
use Rattle.definitions.specs.declared.counts.TheConstants.{SECTOR_SIZE}

-- how many blocks the disk has
abbrev pub block_count : MemDisk → ℕ
block_count d = d.blocks

-- how many calls failed
abbrev pub fault_count : MemDisk → ℕ
fault_count d = d.calls.faults

-- how many reads, writes and syncs there were
abbrev pub call_count : MemDisk → ℕ
call_count d = d.calls.made

-- the restarts and arms that the disk was asked for
abbrev pub orders_got : MemDisk → List Order
orders_got d = d.orders.list

-- the sectors as the last sync or restart left them
abbrev pub durable_sectors : MemDisk → DiskImage
durable_sectors d = padded (8 * d.blocks) d.durable.items

-- the sectors as a read gives them
abbrev pub live_sectors : MemDisk → DiskImage
live_sectors d = padded (8 * d.blocks) d.live.items

-- the content of the disk
abbrev pub content : MemDisk → Content
content d = content_of (durable_sectors d) (live_sectors d)

-- the call number k from now is to fail; the next one has number 1
abbrev pub IsArmed : MemDisk → ℕ → Type 0
IsArmed d k = IsDue d.calls k

-- the pick of the sectors that a write takes if it fails
abbrev pub armed_pick : MemDisk → ℕ
armed_pick d = d.calls.pick

-- A read, a write or a sync: it fails exactly if it is armed, and the armed calls move up by one.
pub record IsCalled {T E : Type 0} (old new : MemDisk) (result : Result T E) : Type 0 where
  pub fails : IsErr result ↔ IsArmed old 1
  pub later : (k : ℕ) → 0 < k → IsArmed new k ↔ IsArmed old (k + 1)
  pub pick : armed_pick new ≡ armed_pick old
  pub faults : fault_count old ≤ fault_count new
  pub fault : OnErr result (fault_count new ≡ raised (fault_count old))
  pub no_fault : OnOk result (fault_count new ≡ fault_count old)
  pub calls : call_count new ≡ raised (call_count old)
  pub orders : orders_got new ≡ orders_got old
  pub blocks : block_count new ≡ block_count old

-- A read, a write or a sync that fails, whether or not it is armed: it counts as a fault, the armed calls move up by
-- one, and every sector is as before.
pub record IsRefused (old new : MemDisk) : Type 0 where
  pub later : (k : ℕ) → 0 < k → IsArmed new k ↔ IsArmed old (k + 1)
  pub pick : armed_pick new ≡ armed_pick old
  pub faults : fault_count old ≤ fault_count new
  pub fault : fault_count new ≡ raised (fault_count old)
  pub calls : call_count new ≡ raised (call_count old)
  pub orders : orders_got new ≡ orders_got old
  pub blocks : block_count new ≡ block_count old
  pub durable : durable_sectors new ≡ durable_sectors old
  pub live : live_sectors new ≡ live_sectors old

-- the same calls stay armed, with the same pick
pub record KeepsArmed (old new : MemDisk) : Type 0 where
  pub calls : (k : ℕ) → IsArmed new k ↔ IsArmed old k
  pub pick : armed_pick new ≡ armed_pick old

-- A restart or an arm: the disk was asked for it, and nothing is counted.
pub record IsOrdered (order : Order) (old new : MemDisk) : Type 0 where
  pub orders : orders_got new ≡ orders_got old ++ order ∷ []
  pub calls : call_count new ≡ call_count old
  pub faults : fault_count new ≡ fault_count old
  pub blocks : block_count new ≡ block_count old

-- a new disk: zeros, nothing counted and nothing armed
pub record IsNew (blocks : ℕ) (d : MemDisk) : Type 0 where
  pub blocks_are : block_count d ≡ blocks
  pub durable : durable_sectors d ≡ replicate (8 * blocks) (replicate SECTOR_SIZE 0)
  pub live : live_sectors d ≡ replicate (8 * blocks) (replicate SECTOR_SIZE 0)
  pub calls : call_count d ≡ 0
  pub faults : fault_count d ≡ 0
  pub orders : orders_got d ≡ []
  pub unarmed : (k : ℕ) → IsArmed d k → ⊥
