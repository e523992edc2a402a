-- A disk on which nothing was written.
use Rattle.std.proofs.Common.{◌≡◌, ◌/◌, ℕ, arith}
use Rattle.definitions.specs.Disk as disk
use Rattle.definitions.proofs.DiskLaws.{IsImage-as_it_reads, IsImage-settled, length-as_it_reads, length-settled}
use Rattle.plain_machine.specs.Chain.{blocks_of}
use Rattle.protocol_laws.specs.Rows.{LeavesBlock}

-- Where no block is written, the one image stays.

pub each_same : (blocks now : ℕ) (v w : disk.DiskImage) (c : disk.Content) → disk.IsContent blocks (disk.settled v) → disk.IsContent now c → blocks_of (disk.as_it_reads c) ≡ blocks_of v → ((b : ℕ) → LeavesBlock b (disk.settled v) c) → disk.IsImage c w → w ≡ v
each_same blocks now v w c whole whole' same leaves is =
    let size = length-settled v in
    let reads = length-as_it_reads c in
    let was = whole.size in
    let has = whole'.size in
    let chosen = is.size in
    IsImage-settled v w (record {
      size = omega arith;
      chosen = λ s lt. (leaves (s / 8)).leaves w s is (omega arith) (omega arith) (omega arith);
    })

pub reads_same : (blocks now : ℕ) (v : disk.DiskImage) (c : disk.Content) → disk.IsContent blocks (disk.settled v) → disk.IsContent now c → blocks_of (disk.as_it_reads c) ≡ blocks_of v → ((b : ℕ) → LeavesBlock b (disk.settled v) c) → disk.as_it_reads c ≡ v
reads_same blocks now v c whole whole' same leaves = each_same blocks now v (disk.as_it_reads c) c whole whole' same leaves (IsImage-as_it_reads now c whole')
