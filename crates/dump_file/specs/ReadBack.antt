-- What reading a machine's dump gives back.
use Rattle.std.specs.Prelude.{◌≡◌, ℕ, List, map, Ok, if◌then◌else◌}
use Rattle.std.specs.List.{range_with_len}
use Rattle.definitions.specs.Bytes.{zero_page}
use Rattle.definitions.specs.Tables.{frame}
use Rattle.definitions.specs.Zones.{top}
use Rattle.plain_machine.specs.Machine.{is_valid, Hardware, Memory}
use Rattle.dump_file.specs.Dump.{dump_of}

-- the memory that a dump carries: each valid page frame as it is, and zeros in the others below the zones' top
abbrev pub carried_frame : Hardware → Memory → ℕ → List ℕ
carried_frame h m p = if is_valid h p then frame m p else zero_page

unfoldable pub carried_memory : Hardware → Memory → Memory
carried_memory h m = map (carried_frame h m) (range_with_len 0 (top h.zones))

-- These bytes are a dump of this hardware and the memory that it carries.
abbrev pub ReadsBack : Hardware → Memory → List ℕ → Type 0
ReadsBack h m bytes = dump_of bytes ≡ Ok (record { hw = h; memory = carried_memory h m })
