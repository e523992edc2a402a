-- What the disk, the sinks and the source tell of themselves at a moment. What they don't tell is `None`.
use Rattle.std.specs.Prelude.{ℕ, List, Option}
use Rattle.definitions.specs.Disk.{Content}
use Rattle.byte_streams.specs.declared.sink.Sink as sink
use Rattle.byte_streams.specs.declared.source.Source as source
use Rattle.sector_disk.specs.declared.disk.Disk as disk
use Rattle.sector_disk.specs.declared.orders.Order.{Order}

-- a disk: its number of blocks, its content, how many calls failed and were made, and the restarts and arms that it was
-- asked for
pub record DiskView : Type 0 where
  pub blocks : ℕ
  pub content : Option Content
  pub faults : ℕ
  pub calls : ℕ
  pub orders : List Order

abbrev pub disk_view : {D : Type 0} → disk.Ghosts D → D → DiskView
disk_view told d =
    record {
      blocks = told.block_count d;
      content = told.content d;
      faults = told.faults d;
      calls = told.calls d;
      orders = told.orders d;
    }

-- a sink: the bytes taken, how many of them were flushed, and how often it has failed
pub record SinkView : Type 0 where
  pub taken : Option (List ℕ)
  pub flushed : Option ℕ
  pub faults : ℕ

abbrev pub sink_view : {K : Type 0} → sink.Ghosts K → K → SinkView
sink_view told k = record { taken = told.taken k; flushed = told.flushed k; faults = told.faults k }

-- the bytes that a source has left, and how often it has failed; a disk, and two sinks
pub record View : Type 0 where
  pub left : Option (List ℕ)
  pub read_faults : ℕ
  pub disk : DiskView
  pub out : SinkView
  pub note : SinkView

abbrev pub view : {I O N D : Type 0} → source.Ghosts I → sink.Ghosts O → sink.Ghosts N → disk.Ghosts D → I → O → N →
    D → View
view source_told out_told note_told disk_told input out note disk =
    record {
      left = source_told.remaining input;
      read_faults = source_told.faults input;
      disk = disk_view disk_told disk;
      out = sink_view out_told out;
      note = sink_view note_told note;
    }
