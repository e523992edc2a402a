-- How `export` may end: it reads a dump, and the image of its memory goes to out.
use Rattle.std.specs.Prelude.{◌≡◌, ℕ, [], ◌++◌, codes, decimal}
use Rattle.dump_file.specs.Dump.{DumpValue}
use Rattle.dump_file.specs.declared.dump.DumpFault.{DumpFault}
use Rattle.plain_machine.specs.Machine.{Hardware, Memory}
use Rattle.stream_out.specs.Bytes.{bytes_of, plain_image}
use Rattle.stream_out.specs.Bytes.{HasNoTaskSlot, IsFirstTaskSlot}
use Rattle.command_kit.specs.Told.{RunResult, line}
use Rattle.swsusp_cli.specs.Dumps.{IsDump, IsNoDump}
use Rattle.swsusp_cli.specs.Outcome.{IsOutOfMemory, FailsAtSource, Tells}
use Rattle.command_kit.specs.View.{View}
use Rattle.command_kit.specs.declared.status.Status.{Status}
use Rattle.command_kit.specs.declared.status.Status.TheVariants.{Done, Refused}

-- the refusal because tasks have slots, of which this is the lowest
abbrev pub slots_told : ℕ → RunResult
slots_told slot = record { status = Refused; out = []; note = line (codes "slots in use " ++ decimal slot) }

-- the bytes of the image of a memory, and nothing else
abbrev pub stream_told : Hardware → Memory → RunResult
stream_told h m = record { status = Done; out = bytes_of (plain_image h m); note = [] }

-- a task has a slot in the dump; the lowest such slot is reported
pub record IsInUse (x x' : View) (status : Status) (dump : DumpValue) (slot : ℕ) : Type 0 where
  pub dump_is : IsDump x x' dump
  pub first : IsFirstTaskSlot dump.hw dump.memory slot
  pub told : Tells (slots_told slot) status x x'
  pub untouched : x'.disk ≡ x.disk

-- no task has a slot, and the image of the dump's memory is written
pub record IsExported (x x' : View) (status : Status) (dump : DumpValue) : Type 0 where
  pub dump_is : IsDump x x' dump
  pub none : HasNoTaskSlot dump.hw dump.memory
  pub told : Tells (stream_told dump.hw dump.memory) status x x'
  pub untouched : x'.disk ≡ x.disk

-- How an export may end, by the view of the outside before and after it.
pub data Exports (x x' : View) (status : Status) : Type 0 where
  no_dump : (fault : DumpFault) → IsNoDump x x' status fault → Exports x x' status
  out_of_memory : IsOutOfMemory x x' status → Exports x x' status
  unread : FailsAtSource x x' status → Exports x x' status
  in_use : (dump : DumpValue) (slot : ℕ) → IsInUse x x' status dump slot → Exports x x' status
  exported : (dump : DumpValue) → IsExported x x' status dump → Exports x x' status
