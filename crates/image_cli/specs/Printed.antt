-- What was reported to a printer.
use Rattle.std.specs.Prelude.{List, false}
use Rattle.byte_streams.specs.declared.sink.Sink as sink
use Rattle.command_kit.specs.View.{SinkView}
use Rattle.image_check.specs.Told.{Told, Tells}
use Rattle.image_check.specs.declared.finding.Finding.{Finding}
use Rattle.image_check.specs.declared.report.Printer.{Printer}

abbrev pub printer_view : {O : Type 0} → sink.Ghosts O → Printer O → Told
printer_view told p =
    record { text = told.taken p.sink; count = p.count; failed = p.failed; faults = told.faults p.sink }

-- exactly these findings, since nothing was reported and its sink was in this state
abbrev pub IsSoFar : List Finding → SinkView → Told → Type 0
IsSoFar found start told =
    Tells found (record { text = start.taken; count = 0; failed = false; faults = start.faults }) told
