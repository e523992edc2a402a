-- When a resume of an image without findings comes to its end.
use Rattle.std.specs.Prelude.{◌≡◌, ◌≤◌, ◌<◌, ◌⊎◌, ℕ, ◌+◌, ◌*◌, true, List, [], ◌∷◌, ◌++◌, length, map}
use Rattle.std.specs.Prelude.{Some, None, ⊤}
use Rattle.std.specs.List.{range_with_len}
use Rattle.definitions.specs.Disk.{Content, DiskImage, IsContent, as_it_reads, block}
use Rattle.definitions.specs.InfoPage.{mismatch}
use Rattle.definitions.specs.SwapHeader.{flags_of, hw_sig_of, last_page_of, taken_back}
use Rattle.image_format.specs.AreaKind.{area_kind}
use Rattle.plain_machine.specs.Chain.{blocks_of, entry_block, map_block}
use Rattle.plain_machine.specs.Loader.{left_free, need}
use Rattle.plain_machine.specs.Machine.{Hardware, Memory, IsHardware, block_of_slot, is_valid, valid_count}
use Rattle.plain_machine.specs.Trace.{d_in, first_map, info_in, is_set, number_in, place_count, trace}
use Rattle.plain_machine.specs.declared.event.IdentCheck.{IdentCheck}
use Rattle.plain_machine.specs.declared.event.IdentCheck.TheVariants.{Compare, Skip}
use Rattle.plain_machine.specs.declared.event.Loader.TheVariants as loader
use Rattle.plain_machine.specs.declared.reply.Reply.TheVariants as reply
use Rattle.image_walk.specs.Names.{fault_of}
use Rattle.image_walk.specs.declared.limits.Limits.{Limits}
use Rattle.image_check.specs.Checked.{Finds}
use Rattle.image_check.specs.Header.{limits_of}
use Rattle.definitions.specs.declared.counts.TheConstants.{MAP_PAGE_ENTRIES}

-- a block that an image may name first: one of the file and of the area, and neither a bad page nor the header's
abbrev pub MayName : Limits → ℕ → Type 0
MayName l b = fault_of l [] b ≡ None

-- the blocks that an image may name if its area has the given header block
abbrev pub limits_in : DiskImage → ℕ → Limits
limits_in v header = limits_of (blocks_of v) header (area_kind (taken_back (block v header)))

-- the blocks that an image names: those of its maps, and those of its pages
abbrev pub IsNamed : Hardware → DiskImage → ℕ → Type 0
IsNamed h v b =
    ((j : ℕ) × (MAP_PAGE_ENTRIES * j < (info_in h v).pages) × (map_block v (first_map h v) j ≡ b))
    ⊎ ((k : ℕ) × (k < (info_in h v).pages) × (entry_block v (first_map h v) k ≡ b))

-- a block is that of a slot from 1 to the last page of the area that the header block describes
pub record IsSlotBlock (h : Hardware) (page : List ℕ) (b : ℕ) : Type 0 where
  pub slot : ℕ
  pub from : 1 ≤ slot
  pub to : slot ≤ last_page_of page
  pub lies : block_of_slot h slot ≡ b

-- the blocks that the image of the area with this header block names, and may name, are blocks of the machine's slots
abbrev pub NamesSlots : Hardware → DiskImage → ℕ → Type 0
NamesSlots h v header =
    (b : ℕ) → IsNamed h v b → MayName (limits_in v header) b → IsSlotBlock h (block v header) b

-- A loader of the image of the area with the given header block on the disk v: a machine with this memory. Slot 0 lies
-- on that block, and what the image names and may name are blocks of other slots. The machine has the image's hardware
-- signature, if the image has one (SF_HW_SIG, which is 8), as many page frames as the image says, each of those that
-- were saved, and as many free ones as a resume needs.
pub record IsLoaderOf (v : DiskImage) (header : ℕ) (h : Hardware) (m : Memory) : Type 0 where
  pub hardware : IsHardware h
  pub first_slot : block_of_slot h 0 ≡ header
  pub slots : NamesSlots h v header
  pub signature : is_set (flags_of (block v header)) 8 ≡ true → hw_sig_of (block v header) ≡ h.hw_sig
  pub pages : (info_in h v).physpages ≡ valid_count h
  pub valid : (j : ℕ) → j < (info_in h v).image_pages → is_valid h (number_in h v j) ≡ true
  pub room : need (d_in h v) ≤ length (left_free h m loader.Table)

-- the image's identity is the loader's, if it is compared
abbrev pub IsIdentified : Hardware → DiskImage → IdentCheck → Type 0
IsIdentified h v Compare = mismatch (info_in h v).ident h.ident ≡ None
IsIdentified h v Skip = ⊤

-- The trace of a resume comes to its end: each step but the last answers Loading, and the last one Resumed, with the
-- number of saved page frames. There are four steps, and one more for each map and each page of the image.
abbrev pub IsResumed : Hardware → Memory → DiskImage → IdentCheck → Type 0
IsResumed h m v check =
    trace h m v loader.Table check
    ≡ map reply.Loading (range_with_len 1 (3 + place_count (info_in h v).pages))
    ++ reply.Resumed (info_in h v).image_pages ∷ []

-- An image without findings, on a disk with the given number of blocks, is resumed by each loader of it.
abbrev pub WholeIsResumed : Type 0
WholeIsResumed =
    (blocks header before now : ℕ) (held : Content) (h : Hardware) (m : Memory) (check : IdentCheck) →
    IsContent blocks held → Finds (Some held) blocks header before now (Some []) →
    IsLoaderOf (as_it_reads held) header h m → IsIdentified h (as_it_reads held) check →
    IsResumed h m (as_it_reads held) check

-- The area lies in one piece, from block 0 on: slot s is block s.
abbrev pub IsOnePiece : Hardware → Type 0
IsOnePiece h = h.extents ≡ (0, h.slots, 0) ∷ []

-- Then slot 0 lies on the header's block, and an image without findings names only blocks of later slots.
abbrev pub OnePieceNamesSlots : Type 0
OnePieceNamesSlots =
    (blocks before now : ℕ) (held : Content) (h : Hardware) → IsContent blocks held → IsOnePiece h →
    Finds (Some held) blocks 0 before now (Some []) →
    (block_of_slot h 0 ≡ 0) × NamesSlots h (as_it_reads held) 0
