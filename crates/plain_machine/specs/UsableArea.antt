-- Which swap areas a machine can use.
-- In Linux: swsusp_swap_check, kernel/power/swap.c; read_swap_header, mm/swapfile.c.
use Rattle.std.specs.Prelude.{ℕ, ◌+◌, ◌==◌, List, [], ◌∷◌, Bool, not, nat_eq, nat_lt, Option, Some, None, if◌then◌else◌}
use Rattle.std.specs.Prelude.{take}
use Rattle.std.specs.List.{list_any, list_all, range_with_len}
use Rattle.std.specs.Cmp.Lexicographic.{pointwise}
use Rattle.definitions.specs.Disk as disk
use Rattle.definitions.specs.SwapHeader.{image_signature, sig_of, taken_back, IsMarked}
use Rattle.image_format.specs.declared.signature.area.Area.{Area}
use Rattle.image_format.specs.declared.signature.area.AreaKind.{AreaKind}
use Rattle.image_format.specs.declared.signature.area.AreaKind.TheVariants.{Image, Old, Other, BadArea, Swap}
use Rattle.image_format.specs.AreaKind.{area_kind}
use Rattle.plain_machine.specs.Machine.{Hardware, Memory, block_of_slot, raw_slot_entry, bad_slot}
use Rattle.plain_machine.specs.Chain.{header_of, blocks_of}
use Rattle.plain_machine.specs.Loader.{has}
use Rattle.plain_machine.specs.declared.no_swap.NoSwap.{NoSwap}
use Rattle.plain_machine.specs.declared.no_swap.NoSwap.TheVariants as no_swap
use Rattle.image_format.specs.declared.signature.area.AreaFault.{AreaFault}
use Rattle.image_format.specs.declared.signature.area.AreaFault.TheVariants.{Version, BadCount, LastZero, BadEntry}

-- Why an area can't be used.

-- the reason that a version 1 area with this fault can't be used
abbrev pub no_swap_at : AreaFault → NoSwap
no_swap_at (Version v) = no_swap.Version v
no_swap_at (BadCount n) = no_swap.BadCount n
no_swap_at LastZero = no_swap.LastZero
no_swap_at (BadEntry slot) = no_swap.BadEntry slot

-- block(0), taken back if it is marked
abbrev pub area_block : Hardware → disk.DiskImage → List ℕ
area_block h v =
    if pointwise nat_eq (sig_of (header_of h v)) image_signature then taken_back (header_of h v) else header_of h v

-- why an area of this kind can't be used by any machine
abbrev pub kind_fault : AreaKind → Option NoSwap
kind_fault (Image mark) = Some no_swap.Image
kind_fault Old = Some no_swap.Old
kind_fault (Other sig) = Some (no_swap.Signature sig)
kind_fault (BadArea why) = Some (no_swap_at why)
kind_fault (Swap area) = None

-- why the machine can't use a version 1 area: a slot lies on no block of the disk, or the machine has another number of
-- slots
abbrev pub fit_fault : Hardware → ℕ → Area → Option NoSwap
fit_fault h blocks area =
    if list_any (λ s. not (nat_lt (block_of_slot h s) blocks)) (range_with_len 0 (area.last + 1))
    then Some (no_swap.Short area.last blocks)
    else (if area.last + 1 == h.slots then None else Some (no_swap.Misfit area.last h.slots))

-- the bad slots of an area: the header's, and its bad pages
abbrev pub bad_slots_of : Area → List ℕ
bad_slots_of area = 0 ∷ take area.count area.bad

-- whether the bad slots of a slot table are exactly the area's
abbrev pub has_bad_slots_of : Hardware → Memory → Area → Bool
has_bad_slots_of h m area =
    list_all (λ s. if raw_slot_entry h m s == bad_slot then has (bad_slots_of area) s
    else not (has (bad_slots_of area) s)) (range_with_len 0 h.slots)

abbrev pub kind_or_fit_fault : Hardware → ℕ → AreaKind → Option NoSwap
kind_or_fit_fault h blocks (Swap area) = fit_fault h blocks area
kind_or_fit_fault h blocks (Image mark) = kind_fault (Image mark)
kind_or_fit_fault h blocks Old = kind_fault Old
kind_or_fit_fault h blocks (Other sig) = kind_fault (Other sig)
kind_or_fit_fault h blocks (BadArea why) = kind_fault (BadArea why)

-- Why the area of the disk can't be used by a machine with fresh memory, and by one with a dump's memory.
unfoldable pub area_fault : Hardware → disk.DiskImage → Option NoSwap
area_fault h v = kind_or_fit_fault h (blocks_of v) (area_kind (area_block h v))

abbrev pub bad_set_fault : Hardware → Memory → AreaKind → Option NoSwap
bad_set_fault h m (Swap area) = if has_bad_slots_of h m area then None else Some no_swap.BadSet
bad_set_fault h m (Image mark) = None
bad_set_fault h m Old = None
bad_set_fault h m (Other sig) = None
bad_set_fault h m (BadArea why) = None

abbrev pub first_fault : Option NoSwap → Option NoSwap → Option NoSwap
first_fault None b = b
first_fault (Some why) b = Some why

unfoldable pub dump_area_fault : Hardware → disk.DiskImage → Memory → Option NoSwap
dump_area_fault h v m = first_fault (area_fault h v) (bad_set_fault h m (area_kind (area_block h v)))

-- the bad slots of a version 1 area that can be used; for the other kinds none
abbrev pub bad_slots_in : AreaKind → List ℕ
bad_slots_in (Swap area) = bad_slots_of area
bad_slots_in (Image mark) = []
bad_slots_in Old = []
bad_slots_in (Other sig) = []
bad_slots_in (BadArea why) = []

-- The premises of the headline, over a disk that tells its content.

-- [honest disk] The disk tells its content and starts with one image: a promise assumes that the disk is settled on
-- that image. That the disk keeps the rules is the contract of its calls.

-- [sole writer] Nobody else writes the disk: its content before a call is its content after the last one. The program's
-- type ensures this: it holds the disk by an exclusive reference.

-- [one hardware] One hardware, with its signature, serves the whole script: `Step` and `Run` take it once.

-- [telling ends] The source, out and note tell their bytes: each promise on bytes is for ends that do.

-- [memory] The status isn't 6: `Memory` of the program's `Status`.

-- [no marked original] A marked block(0) that the program is given doesn't have the signature of an image as its
-- original signature: taken back, it isn't marked.
abbrev pub HasOriginal : Hardware → disk.DiskImage → Type 0
HasOriginal h v = IsMarked (area_block h v) → ⊥
