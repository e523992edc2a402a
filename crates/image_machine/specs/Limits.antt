-- The limits that keep an image from having a machine.
use Rattle.std.specs.Prelude.{◌≡◌, ◌≢◌, ◌<◌, ◌⊎◌, ℕ, List, length, Some, None, Ok, ⊤}
use Rattle.definitions.specs.Slots.{extent_at}
use Rattle.definitions.specs.Zones.{numbers}
use Rattle.machine.specs.FreshSlots.{slot_of_area}
use Rattle.machine.specs.HardFault.{hard_fault}
use Rattle.plain_machine.specs.FreshMemory.{fresh_memory}
use Rattle.plain_machine.specs.Loader.{need}
use Rattle.plain_machine.specs.Machine.{Hardware, unused}
use Rattle.frame_sets.specs.Faults.{Refuses}
use Rattle.image_machine.specs.Layouts.{extents_of, frame_row, slot_row, slots_of, zones_of}
use Rattle.image_machine.specs.Loaders.{hardware_with}
use Rattle.image_machine.specs.declared.heading.Heading.{Heading}
use Rattle.image_machine.specs.declared.heading.Layout.{Layout}
use Rattle.image_machine.specs.declared.limit.Limit.{Limit}
use Rattle.image_machine.specs.declared.limit.Limit.TheVariants as limit
use Rattle.image_machine.specs.declared.limit.Stop.{Stop}
use Rattle.image_machine.specs.declared.limit.Stop.TheVariants as stop

-- the tables begin at these page frames, the lowest that are possible
pub record AreTables (heading : Heading) (layout : Layout) (saved : List ℕ) (frame_table slot_table : ℕ) : Type 0 where
  pub frame_row : frame_row (zones_of heading layout) saved ≡ Some frame_table
  pub slot_row : slot_row (zones_of heading layout) saved (slots_of heading) frame_table ≡ Some slot_table

-- one of the tables has no room
abbrev pub HasNoRoom : Heading → Layout → List ℕ → Type 0
HasNoRoom heading layout saved =
    (frame_row (zones_of heading layout) saved ≡ None)
    ⊎ ((frame_table : ℕ) × ((frame_row (zones_of heading layout) saved ≡ Some frame_table)
    × (slot_row (zones_of heading layout) saved (slots_of heading) frame_table ≡ None)))

-- the machine with these tables has `free` free page frames, fewer than the `needed` ones of a resume
pub record HasTooFew (heading : Heading) (saved : List ℕ) (h : Hardware) (free needed : ℕ) : Type 0 where
  pub counted : free ≡ length (unused h (fresh_memory h (slot_of_area (Ok heading.area))))
  pub needs : needed ≡ need (length saved)
  pub fewer : free < needed

-- The limit that the image and the layout violate, whatever page frames were saved.
abbrev pub PassesAtOnce : Heading → Layout → Limit → Type 0
PassesAtOnce heading layout (limit.Memory pages) = (pages ≡ heading.physpages) × (65536 < pages)
PassesAtOnce heading layout (limit.Slots last) = (last ≡ heading.area.last) × (131071 < last)
PassesAtOnce heading layout (limit.Zones fault) = Refuses (zones_of heading layout) fault
PassesAtOnce heading layout (limit.Count count pages) =
    (count ≡ length (numbers (zones_of heading layout))) × (pages ≡ heading.physpages) × (count ≢ pages)
PassesAtOnce heading layout (limit.Offset block offset) =
    (block ≡ (extent_at (extents_of heading layout) 0).2) × (offset ≡ layout.offset) × (block ≢ offset)
PassesAtOnce heading layout (limit.Outside number) = ⊥
PassesAtOnce heading layout limit.NoRoom = ⊥
PassesAtOnce heading layout (limit.Hardware fault) = ⊥
PassesAtOnce heading layout (limit.TooFew have need) = ⊥
PassesAtOnce heading layout (limit.Tables number) = ⊥

-- The limit that they violate if exactly these page frames were saved and each is valid.
abbrev pub PassesAtLast : Heading → Layout → List ℕ → Limit → Type 0
PassesAtLast heading layout saved (limit.Memory pages) = ⊥
PassesAtLast heading layout saved (limit.Slots last) = ⊥
PassesAtLast heading layout saved (limit.Zones fault) = ⊥
PassesAtLast heading layout saved (limit.Count count pages) = ⊥
PassesAtLast heading layout saved (limit.Offset block offset) = ⊥
PassesAtLast heading layout saved (limit.Outside number) = ⊥
PassesAtLast heading layout saved limit.NoRoom = HasNoRoom heading layout saved
PassesAtLast heading layout saved (limit.Hardware fault) =
    (f : ℕ) × ((s : ℕ) × (AreTables heading layout saved f s
    × (hard_fault (hardware_with heading layout f s) ≡ Some fault)))
PassesAtLast heading layout saved (limit.TooFew have need) =
    (f : ℕ) × ((s : ℕ) × (AreTables heading layout saved f s
    × HasTooFew heading saved (hardware_with heading layout f s) have need))
PassesAtLast heading layout saved (limit.Tables number) = ⊥

-- nothing was made, because a limit is violated or memory was refused
abbrev pub StopsAtOnce : Heading → Layout → Stop → Type 0
StopsAtOnce heading layout (stop.Limit limit) = PassesAtOnce heading layout limit
StopsAtOnce heading layout stop.Memory = ⊤

abbrev pub StopsAtLast : Heading → Layout → List ℕ → Stop → Type 0
StopsAtLast heading layout saved (stop.Limit limit) = PassesAtLast heading layout saved limit
StopsAtLast heading layout saved stop.Memory = ⊤
