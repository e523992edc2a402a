-- The lines that say which limit keeps an image from having a machine.
use Rattle.std.specs.Prelude.{ℕ, List, ◌++◌, codes, decimal}
use Rattle.command_kit.specs.Told.{line}
use Rattle.machine.specs.declared.hardware.HardFault.{HardFault}
use Rattle.machine.specs.declared.hardware.HardFault.TheVariants as hard
use Rattle.image_machine.specs.declared.limit.Limit.{Limit}
use Rattle.image_machine.specs.declared.limit.Limit.TheVariants as limit

-- Zones, slots and regions were checked before, and so were tables unless they should be in the image.
abbrev pub hardware_text : HardFault → List ℕ
hardware_text hard.Zones = codes "hardware refused"
hardware_text hard.Slots = codes "hardware refused"
hardware_text hard.Tables = codes "tables refused"
hardware_text hard.Regions = codes "hardware refused"
hardware_text hard.Extents = codes "extents refused"

abbrev pub limit_text : Limit → List ℕ
limit_text (limit.Memory pages) = codes "limit page frames 65536: memory pages " ++ decimal pages
limit_text (limit.Slots last) = codes "limit slots 131072: last page " ++ decimal last
limit_text (limit.Zones fault) = codes "zones refused"
limit_text (limit.Count count pages) =
    codes "page frames in zones " ++ decimal count ++ codes ": memory pages " ++ decimal pages
limit_text (limit.Offset block offset) =
    codes "block of slot 0 " ++ decimal block ++ codes ": offset " ++ decimal offset
limit_text (limit.Outside number) = codes "page frame " ++ decimal number ++ codes " lies in no zone"
limit_text limit.NoRoom = codes "no room for the tables"
limit_text (limit.Hardware fault) = hardware_text fault
limit_text (limit.TooFew have need) = codes "free page frames " ++ decimal have ++ codes ": needed " ++ decimal need
limit_text (limit.Tables number) = codes "tables: page frame " ++ decimal number

abbrev pub limit_line : Limit → List ℕ
limit_line passed = line (limit_text passed)
