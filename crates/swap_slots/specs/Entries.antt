-- What the words of a slot table mean: 0 if the slot is free, the number of the task that has it, 65536 if the image
-- has it, and 131072 if it is bad.
use Rattle.std.specs.Prelude.{◌==◌, ℕ, if◌then◌else◌}
use Rattle.swap_slots.specs.declared.entry.SlotEntry.{SlotEntry}
use Rattle.swap_slots.specs.declared.entry.SlotEntry.TheVariants.{Free, Task, Image, Bad}

-- the word of an entry
abbrev pub word_of : SlotEntry → ℕ
word_of Free = 0
word_of (Task t) = t
word_of Image = 65536
word_of Bad = 131072

-- the entry with a word; a word that is none of the others is a task's number
unfoldable pub entry_of_word : ℕ → SlotEntry
entry_of_word word =
    if word == 0 then Free else (if word == 65536 then Image else (if word == 131072 then Bad else Task word))
