-- The last reply of a resume over a scripted loader's memory.
use Rattle.std.specs.Prelude.{◌≡◌, ◌↔◌, ℕ, true, false, length, All, Some, None}
use Rattle.definitions.specs.Bytes.{IsPage}
use Rattle.definitions.specs.Disk as disk
use Rattle.definitions.specs.Zones.{top}
use Rattle.plain_machine.specs.Machine.{Hardware, Memory, IsHardware, Fits, tables_fault}
use Rattle.plain_machine.specs.Trace.{info_in, restored_in, tables_cause, last_reply}
use Rattle.plain_machine.specs.UsableArea.{area_block, area_fault, dump_area_fault, has_bad_slots_of}
use Rattle.plain_machine.specs.declared.event.Loader.TheVariants as loaders
use Rattle.plain_machine.specs.declared.event.Ranges.{Ranges}
use Rattle.plain_machine.specs.declared.no_swap.NoSwap.{NoSwap}
use Rattle.plain_machine.specs.declared.no_swap.NoSwap.TheVariants as no_swap
use Rattle.plain_machine.specs.declared.reply.Reply.{Reply}
use Rattle.plain_machine.specs.declared.reply.Reply.TheVariants as reply
use Rattle.image_format.specs.AreaKind.{area_kind}
use Rattle.image_format.specs.declared.signature.area.Area.{Area}
use Rattle.image_format.specs.declared.signature.area.AreaKind.TheVariants.{Swap}

-- the last reply is Resumed, unless the restored tables are at fault
abbrev pub LastResumed : Type 0
LastResumed =
    (h : Hardware) (dump : Memory) (v : disk.DiskImage) (ranges : Ranges) →
    tables_cause h v (restored_in h dump v (loaders.Ranges ranges)) ≡ None →
    last_reply h dump v (loaders.Ranges ranges) ≡ reply.Resumed (info_in h v).image_pages

abbrev pub LastRefused : Type 0
LastRefused =
    (h : Hardware) (dump : Memory) (v : disk.DiskImage) (ranges : Ranges) (r : Reply) →
    tables_cause h v (restored_in h dump v (loaders.Ranges ranges)) ≡ Some r →
    last_reply h dump v (loaders.Ranges ranges) ≡ r

-- Tables at fault in themselves: their page frame is named. If they don't fit the area: the slot table's first one.
abbrev pub TableAtFault : Type 0
TableAtFault =
    (h : Hardware) (v : disk.DiskImage) (m : Memory) (f : ℕ) → tables_fault h m ≡ Some f →
    tables_cause h v m ≡ Some (reply.BadTables f)

abbrev pub TablesFit : Type 0
TablesFit =
    (h : Hardware) (v : disk.DiskImage) (m : Memory) → tables_fault h m ≡ None → dump_area_fault h v m ≡ None →
    tables_cause h v m ≡ None

abbrev pub AreaMisfits : Type 0
AreaMisfits =
    (h : Hardware) (v : disk.DiskImage) (m : Memory) (why : NoSwap) → tables_fault h m ≡ None →
    dump_area_fault h v m ≡ Some why →
    tables_cause h v m ≡ Some (reply.BadTables h.slot_table)

-- a usable area fits a memory exactly if its bad slots are bad in the slot table
abbrev pub AreaFits : Type 0
AreaFits =
    (h : Hardware) (v : disk.DiskImage) (m : Memory) (area : Area) → area_fault h v ≡ None →
    area_kind (area_block h v) ≡ Swap area →
    (dump_area_fault h v m ≡ None) ↔ (has_bad_slots_of h m area ≡ true)

abbrev pub BadSetDiffers : Type 0
BadSetDiffers =
    (h : Hardware) (v : disk.DiskImage) (m : Memory) (area : Area) → area_fault h v ≡ None →
    area_kind (area_block h v) ≡ Swap area →
    has_bad_slots_of h m area ≡ false → dump_area_fault h v m ≡ Some no_swap.BadSet

-- an area that can't be used fits no memory
abbrev pub AreaUnusable : Type 0
AreaUnusable =
    (h : Hardware) (v : disk.DiskImage) (m : Memory) (why : NoSwap) → area_fault h v ≡ Some why →
    dump_area_fault h v m ≡ Some why

-- tables without a fault are well formed
abbrev pub SoundTablesFit : Type 0
SoundTablesFit =
    (h : Hardware) (m : Memory) → IsHardware h → All IsPage m → length m ≡ top h.zones → tables_fault h m ≡ None →
    Fits h m
