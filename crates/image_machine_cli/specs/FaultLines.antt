-- The lines that say why a core file is refused.
use Rattle.std.specs.Prelude.{ℕ, List, ◌++◌, codes, decimal}
use Rattle.command_kit.specs.Told.{line}
use Rattle.core_machine.specs.declared.segments.fault.Fault.{Fault}
use Rattle.core_machine.specs.declared.segments.fault.Fault.TheVariants as fault

abbrev pub fault_text : Fault → List ℕ
fault_text (fault.Short at) = codes "core file ends at byte " ++ decimal at
fault_text fault.Magic = codes "no ELF file"
fault_text (fault.Class class) = codes "ELF class " ++ decimal class
fault_text (fault.Order order) = codes "ELF byte order " ++ decimal order
fault_text (fault.Version version) = codes "ELF version " ++ decimal version
fault_text (fault.Type kind) = codes "ELF type " ++ decimal kind
fault_text (fault.EntrySize size) = codes "program headers of " ++ decimal size ++ codes " bytes"
fault_text (fault.Entries count) = codes "program headers " ++ decimal count
fault_text (fault.Table place) = codes "program headers at byte " ++ decimal place
fault_text fault.NoSegment = codes "no segment"
fault_text (fault.Sizes address) =
    codes "segment at address " ++ decimal address ++ codes ": more bytes in the file than in memory"
fault_text (fault.Wraps address) = codes "segment at address " ++ decimal address ++ codes ": ends beyond 2^64"
fault_text (fault.Limit address) = codes "limit page frames 65536: address " ++ decimal address
fault_text (fault.Overlap address) =
    codes "segment at address " ++ decimal address ++ codes ": not above the one before"
fault_text (fault.Place address) =
    codes "segment at address " ++ decimal address ++ codes ": its bytes lie before others"
fault_text (fault.Far place) = codes "segment at byte " ++ decimal place

abbrev pub fault_line : Fault → List ℕ
fault_line refused = line (fault_text refused)
