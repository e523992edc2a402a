-- A disk with an image, the block of its header, and the report of its findings, at a moment.
use Rattle.std.specs.Prelude.{◌≡◌, ℕ, ◌≤◌, List, Option}
use Rattle.definitions.specs.Disk.{Content}
use Rattle.image_check.specs.Told.{Told}
use Rattle.image_check.specs.declared.report.Report as report
use Rattle.image_differ.specs.declared.side.Side.{Side}
use Rattle.sector_disk.specs.declared.disk.Disk as disk
use Rattle.sector_disk.specs.declared.orders.Order.{Order}

pub record SideView : Type 0 where
  pub content : Option Content
  pub blocks : ℕ
  pub faults : ℕ
  pub orders : List Order
  pub header : ℕ
  pub told : Told

abbrev pub side_view : {D R : Type 0} → disk.Ghosts D → report.Ghosts R → Side D R → SideView
side_view of_disk of_report s = record {
  content = of_disk.content s.disk;
  blocks = of_disk.block_count s.disk;
  faults = of_disk.faults s.disk;
  orders = of_disk.orders s.disk;
  header = s.header;
  told = of_report.told s.report;
}

-- the disk holds what it held, the header lies in the same block, and faults don't fall
pub record OnlyReads (old new : SideView) : Type 0 where
  pub content : new.content ≡ old.content
  pub blocks : new.blocks ≡ old.blocks
  pub faults : old.faults ≤ new.faults
  pub orders : new.orders ≡ old.orders
  pub header : new.header ≡ old.header
