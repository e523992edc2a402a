-- What is counted in a machine's memory.
use Rattle.std.specs.Prelude.{ℕ, ◌==◌, ◌&&◌, Bool, not, List, filter}
use Rattle.std.specs.List.{range_with_len}
use Rattle.definitions.specs.Tables.{frame, owner_of}
use Rattle.definitions.specs.Zones.{numbers}
use Rattle.plain_machine.specs.Image.{is_zeros}
use Rattle.plain_machine.specs.Machine.{Hardware, Memory, frame_entry, slot_entry}
use Rattle.frame_table.specs.Tests.{saveable_by_entry}
use Rattle.swap_slots.specs.declared.entry.SlotEntry.{SlotEntry}
use Rattle.swap_slots.specs.declared.entry.SlotEntry.TheVariants.{Free, Task, Image, Bad}
use Rattle.dump_tools.specs.declared.facts.counting.Kind.{Kind}
use Rattle.dump_tools.specs.declared.facts.counting.Kind.TheVariants.{Saveable, WithData, OwnedBy}

-- whether page frame p is of a kind
abbrev pub is_of : Hardware → Memory → Kind → ℕ → Bool
is_of h m Saveable p = saveable_by_entry h.frame_table m p
is_of h m WithData p = saveable_by_entry h.frame_table m p && not (is_zeros (frame m p))
is_of h m (OwnedBy t) p = owner_of (frame_entry h m p) == t

-- the page frames of a kind
abbrev pub frames_of : Hardware → Memory → Kind → List ℕ
frames_of h m kind = filter (is_of h m kind) (numbers h.zones)

-- a slot's entry as it is counted: a slot of the image counts as free
abbrev pub seen : SlotEntry → SlotEntry
seen Free = Free
seen (Task t) = Task t
seen Image = Free
seen Bad = Bad

-- the slots with this entry
abbrev pub slots_of : Hardware → Memory → ℕ → List ℕ
slots_of h m entry = filter (λ s. slot_entry h m s == entry) (range_with_len 0 h.slots)
