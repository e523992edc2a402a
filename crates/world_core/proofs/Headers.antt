-- What a header block says, as the world reads it and as the definitions have it.
use Rattle.std.proofs.Common.{◌≡◌, ℕ, Bool, true, false, cond, Option, Some, None, Result, Ok, Err, refl, sym, ap, ◌∙◌, arith, nat_lt, is_some, ◌||◌}
use Rattle.definitions.specs.Bytes.{zero_page}
use Rattle.definitions.specs.Disk as disk
use Rattle.definitions.specs.SwapHeader.{taken_back}
use Rattle.definitions.proofs.DiskLaws.{length-as_it_reads}
use Rattle.image_format.specs.AreaKind.{area_kind}
use Rattle.image_format.specs.declared.signature.area.Area.{Area}
use Rattle.image_format.specs.declared.signature.area.AreaKind.{AreaKind}
use Rattle.image_format.specs.declared.signature.area.AreaKind.TheVariants.{Swap}
use Rattle.plain_machine.specs.Machine.{Hardware, Memory, block_of_slot, bad_slot}
use Rattle.plain_machine.specs.Chain.{header_of, blocks_of}
use Rattle.plain_machine.specs.Loader.{has}
use Rattle.plain_machine.specs.UsableArea.{area_block, area_fault, dump_area_fault, bad_slots_in}
use Rattle.plain_machine.specs.declared.event.BootFrom.{BootFrom}
use Rattle.plain_machine.specs.declared.event.BootFrom.TheVariants.{Fresh, Kept}
use Rattle.plain_machine.specs.Step.{fresh_slot}
use Rattle.plain_machine.specs.declared.no_swap.NoSwap.{NoSwap}
use Rattle.machine.specs.FreshSlots.{slot_of_area}
use Rattle.protocol_laws.specs.Headers.{is_image}
use Rattle.protocol_laws.proofs.Signatures.{image_by_signature}
use Rattle.world_core.specs.Started.{header_at, area_kind_of}
use Rattle.machine.specs.Running.{reason_of}

pub blocks_told : (blocks : ℕ) (c : disk.Content) → disk.IsContent blocks c → blocks_of (disk.as_it_reads c) ≡ blocks
blocks_told blocks c whole = let size = length-as_it_reads c in let all = whole.size in omega arith

-- the block that is read is the header
pub header_read : (h : Hardware) (blocks : ℕ) (c : disk.Content) → disk.IsContent blocks c → header_at (block_of_slot h 0) blocks (disk.as_it_reads c) ≡ header_of h (disk.as_it_reads c)
header_read h blocks c whole =
    ap (λ (n : ℕ). cond (nat_lt (block_of_slot h 0) n) (disk.block (disk.as_it_reads c) (block_of_slot h 0)) zero_page) (sym (blocks_told blocks c whole))

pub kind_read : (h : Hardware) (v : disk.DiskImage) → area_kind_of (header_of h v) ≡ area_kind (area_block h v)
kind_read h v =
    by_test (is_image (area_kind (header_of h v))) ∙ ap (λ (b : Bool). area_kind (cond b (taken_back (header_of h v)) (header_of h v))) (image_by_signature (header_of h v)) where
      by_test : (b : Bool) → cond b (area_kind (taken_back (header_of h v))) (area_kind (header_of h v)) ≡ area_kind (cond b (taken_back (header_of h v)) (header_of h v))
      by_test true = refl
      by_test false = refl

-- The area that a world uses, and why it doesn't.

-- the area is the block's, and usable; or the world gives the reason why it isn't
abbrev pub IsAreaOf : Hardware → disk.DiskImage → Result Area NoSwap → Type 0
IsAreaOf h v (Ok area) = (area_kind (area_block h v) ≡ Swap area) × (area_fault h v ≡ None)
IsAreaOf h v (Err why) = area_fault h v ≡ Some why

pub reason_read : (h : Hardware) (v : disk.DiskImage) (area : Result Area NoSwap) → IsAreaOf h v area → area_fault h v ≡ reason_of area
reason_read h v (Ok area) is = is.1
reason_read h v (Err why) is = is

pub slot_read : (h : Hardware) (v : disk.DiskImage) (area : Result Area NoSwap) (s : ℕ) → IsAreaOf h v area → slot_of_area area s ≡ fresh_slot h v s
slot_read h v (Ok area) s is =
    ap (λ (kind : AreaKind). cond (has (bad_slots_in kind) s) bad_slot 0) (sym is.0)
    ∙ ap (λ (fault : Option NoSwap). cond (is_some fault || has (bad_slots_in (area_kind (area_block h v))) s) bad_slot 0) (sym is.1)
slot_read h v (Err why) s is = ap (λ (fault : Option NoSwap). cond (is_some fault || has (bad_slots_in (area_kind (area_block h v))) s) bad_slot 0) (sym is)

-- over a dump's memory the area is the block's too, and its bad slots are exactly those of the memory
abbrev pub IsKeptAreaOf : Hardware → disk.DiskImage → Memory → Result Area NoSwap → Type 0
IsKeptAreaOf h v m (Ok area) = (area_kind (area_block h v) ≡ Swap area) × (dump_area_fault h v m ≡ None)
IsKeptAreaOf h v m (Err why) = dump_area_fault h v m ≡ Some why

abbrev pub StartsOver : BootFrom → Hardware → disk.DiskImage → Memory → Result Area NoSwap → Type 0
StartsOver Fresh h v m area = IsAreaOf h v area
StartsOver Kept h v m area = IsKeptAreaOf h v m area
