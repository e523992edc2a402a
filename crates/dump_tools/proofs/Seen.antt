-- A slot's entry as it is seen, and its word.
use Rattle.std.proofs.Common.{◌≡◌, ◌↔◌, ℕ, eqb, sym, ap, ◌∙◌, refl, inl, inr}
use Rattle.std.proofs.lemmas.Bool.{cases_eq, ne_eqb, cond-false}
use Rattle.plain_machine.specs.Machine.{Hardware, Memory, raw_slot_entry, slot_entry}
use Rattle.swap_slots.specs.Entries.{entry_of_word, word_of}
use Rattle.swap_slots.specs.declared.entry.SlotEntry.{SlotEntry}
use Rattle.swap_slots.specs.declared.entry.SlotEntry.TheVariants.{Free, Task, Image, Bad}
use Rattle.swap_slots.proofs.Entries.{entry_of_word-is, entry_of_word-is_image}
use Rattle.dump_tools.specs.Counts.{seen}

seen_other : (e : SlotEntry) → (e ≡ Image → ⊥) → seen e ≡ e
seen_other Free other = refl
seen_other (Task t) other = refl
seen_other Image other = absurd (other refl)
seen_other Bad other = refl

seen_word : (h : Hardware) (m : Memory) (s : ℕ) → seen (entry_of_word (raw_slot_entry h m s)) ≡ entry_of_word (slot_entry h m s)
unfolding entry_of_word
seen_word h m s =
    let word = raw_slot_entry h m s in
    elim (cases_eq word 65536) [
      | inl e ↦ rw e refl
      | inr ne ↦ seen_other (entry_of_word word) (λ e. ne ((entry_of_word-is_image word).0 e)) ∙ ap entry_of_word (sym (cond-false (eqb word 65536) 0 word (ne_eqb word 65536 ne)))
    ]

-- a slot is seen to have an entry if and only if the word that is seen is the entry's
pub seen_as : (h : Hardware) (m : Memory) (s : ℕ) (had other : SlotEntry) → had ≡ entry_of_word (raw_slot_entry h m s) → entry_of_word (word_of other) ≡ other → (seen had ≡ other) ↔ (slot_entry h m s ≡ word_of other)
seen_as h m s had other is own =
    let told = entry_of_word-is (slot_entry h m s) other own in
    let same = ap seen is ∙ seen_word h m s in
    (λ e. told.0 (sym same ∙ e), λ e. same ∙ told.1 e)
