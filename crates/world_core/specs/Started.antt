-- The end of a boot.
use Rattle.std.specs.Prelude.{◌≡◌, ℕ, Bool, nat_lt, if◌then◌else◌, List, Option, Some, None, Result, MatchResult}
use Rattle.std.specs.Prelude.{replicate}
use Rattle.std.specs.List.{range_with_len}
use Rattle.definitions.specs.Bytes.{zero_page}
use Rattle.definitions.specs.Disk as disk
use Rattle.definitions.specs.SwapHeader.{taken_back}
use Rattle.image_format.specs.AreaKind.{area_kind}
use Rattle.image_format.specs.declared.signature.area.AreaKind.{AreaKind}
use Rattle.image_format.specs.declared.signature.area.AreaKind.TheVariants.{Swap}
use Rattle.plain_machine.specs.FreshMemory.{with_each_entry}
use Rattle.plain_machine.specs.Machine.{Hardware, Memory}
use Rattle.plain_machine.specs.UsableArea.{kind_or_fit_fault, bad_set_fault, first_fault}
use Rattle.plain_machine.specs.declared.event.BootFrom.{BootFrom}
use Rattle.plain_machine.specs.declared.event.BootFrom.TheVariants.{Fresh, Kept}
use Rattle.plain_machine.specs.declared.no_swap.NoSwap.{NoSwap}
use Rattle.image_format.specs.declared.signature.area.Area.{Area}
use Rattle.plain_machine.specs.declared.held.Held.TheVariants.{No, Yes}
use Rattle.protocol_laws.specs.Headers.{is_image}
use Rattle.machine.specs.FreshSlots.{slot_of_area}
use Rattle.machine.specs.declared.flight.Flight.TheVariants.{Nothing}
use Rattle.world_core.specs.declared.world.Core.TheVariants.{Running}
use Rattle.world_core.specs.World.{World}
use Rattle.world_core.specs.StandsFor.{hardware_of, blocks_of}

-- block b of a disk of `blocks` blocks, or zeros if the disk has no such block
abbrev pub header_at : ℕ → ℕ → disk.DiskImage → List ℕ
header_at b blocks v = if nat_lt b blocks then disk.block v b else zero_page

-- what a header block says of the area, once a mark on it is taken back
abbrev pub area_kind_of : List ℕ → AreaKind
area_kind_of header = if is_image (area_kind header) then area_kind (taken_back header) else area_kind header

-- why the area can't be used, with fresh memory or a dump's
abbrev pub fault_at_start : BootFrom → Hardware → ℕ → Memory → AreaKind → Option NoSwap
fault_at_start Fresh h blocks m kind = kind_or_fit_fault h blocks kind
fault_at_start Kept h blocks m kind = first_fault (kind_or_fit_fault h blocks kind) (bad_set_fault h m kind)

-- the slot table is fresh, or all memory is as the dump has it
abbrev pub memory_at_start : BootFrom → Hardware → Result Area NoSwap → Memory → Memory
memory_at_start Fresh h area m = with_each_entry (slot_of_area area) (range_with_len 0 h.slots) h.slot_table m
memory_at_start Kept h area m = m

-- A world runs as a header block says: its area and `held` are those of the block, and no task has an unfinished
-- operation.
pub record IsStarted (from : BootFrom) (old new : World) (header : List ℕ) (image : Bool) : Type 0 where
  pub marked : image ≡ is_image (area_kind header)
  pub area : MatchResult new.machine.area
      (λ area. (area_kind_of header ≡ Swap area)
      × (fault_at_start from (hardware_of old) (blocks_of old) old.frames (area_kind_of header) ≡ None))
      (λ why. fault_at_start from (hardware_of old) (blocks_of old) old.frames (area_kind_of header) ≡ Some why)
  pub frames : new.frames ≡ memory_at_start from (hardware_of old) new.machine.area old.frames
  pub held : new.machine.held ≡ (if image then Yes else No)
  pub flights : new.machine.flights ≡ replicate 64 Nothing
  pub core : new.core ≡ Running
  pub hardware : hardware_of new ≡ hardware_of old
  pub blocks : blocks_of new ≡ blocks_of old
