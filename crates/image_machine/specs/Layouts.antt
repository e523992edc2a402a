-- The parts of an image's machine that the image doesn't say.
use Rattle.std.specs.Prelude.{ℕ, ◌+◌, List, [], ◌∷◌, Option}
use Rattle.definitions.specs.Zones.{top}
use Rattle.plain_machine.specs.Machine.{table_len}
use Rattle.image_machine.specs.Rows.{lowest_row}
use Rattle.image_machine.specs.declared.heading.Heading.{Heading}
use Rattle.image_machine.specs.declared.heading.Layout.{Layout}

-- the given zones, or, without any, one of the given number of page frames from page frame 0 on
abbrev pub zones_or_one : List (ℕ × ℕ) → ℕ → List (ℕ × ℕ)
zones_or_one [] pages = (0, pages) ∷ []
zones_or_one (zone ∷ zones) pages = zone ∷ zones

-- the given extents, or, without any, one of the given number of slots from block 0 on
abbrev pub extents_or_one : List (ℕ × ℕ × ℕ) → ℕ → List (ℕ × ℕ × ℕ)
extents_or_one [] slots = (0, slots, 0) ∷ []
extents_or_one (extent ∷ extents) slots = extent ∷ extents

abbrev pub zones_of : Heading → Layout → List (ℕ × ℕ)
zones_of heading layout = zones_or_one layout.zones.now heading.physpages

abbrev pub slots_of : Heading → ℕ
slots_of heading = heading.area.last + 1

abbrev pub extents_of : Heading → Layout → List (ℕ × ℕ × ℕ)
extents_of heading layout = extents_or_one layout.extents.now (slots_of heading)

-- The frame table lies in the lowest row of unsaved page frames, and the slot table in the lowest one apart from it.
abbrev pub frame_row : List (ℕ × ℕ) → List ℕ → Option ℕ
frame_row zones saved = lowest_row zones saved (table_len (top zones)) (0, 0)

abbrev pub slot_row : List (ℕ × ℕ) → List ℕ → ℕ → ℕ → Option ℕ
slot_row zones saved slots frame_table = lowest_row zones saved (table_len slots) (frame_table, table_len (top zones))
