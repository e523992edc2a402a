-- What the streams of a command tell of themselves at a moment, if it uses no disk.
use Rattle.byte_streams.specs.declared.sink.Sink as sink
use Rattle.byte_streams.specs.declared.source.Source as source
use Rattle.command_kit.specs.View.{DiskView, View, sink_view}

-- an input and two outputs, beside a disk of which this is told
abbrev pub streams_view : {I O N : Type 0} → source.Ghosts I → sink.Ghosts O → sink.Ghosts N → DiskView → I → O → N →
    View
streams_view source_told out_told note_told disk input out note =
    record {
      left = source_told.remaining input;
      read_faults = source_told.faults input;
      disk = disk;
      out = sink_view out_told out;
      note = sink_view note_told note;
    }
