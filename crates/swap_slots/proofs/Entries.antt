-- The words and the entries of a slot table.
use Rattle.std.proofs.Common.{◌≡◌, ◌≢◌, ◌↔◌, ℕ, refl, sym, ap, ◌∙◌, inl, inr}
use Rattle.std.proofs.lemmas.Bool.{cases_eq, ne_eqb}
use Rattle.swap_slots.specs.Entries.{word_of, entry_of_word}
use Rattle.swap_slots.specs.declared.entry.SlotEntry.{SlotEntry}
use Rattle.swap_slots.specs.declared.entry.SlotEntry.TheVariants.{Free, Task, Image, Bad}

pub entry_of_word-task : (t : ℕ) → t ≢ 0 → t ≢ 65536 → t ≢ 131072 → entry_of_word t ≡ Task t
unfolding entry_of_word
entry_of_word-task t free image bad = rw (ne_eqb t 0 free, ne_eqb t 65536 image, ne_eqb t 131072 bad) refl

pub word_of-entry_of_word : (word : ℕ) → word_of (entry_of_word word) ≡ word
unfolding entry_of_word
word_of-entry_of_word word =
    elim (cases_eq word 0) [
      | inl e ↦ rw e refl
      | inr free ↦ elim (cases_eq word 65536) [
        | inl e ↦ rw e refl
        | inr image ↦ elim (cases_eq word 131072) [
          | inl e ↦ rw e refl
          | inr bad ↦ ap word_of (entry_of_word-task word free image bad)
        ]
      ]
    ]

-- If an entry's own word reads back as the entry, a word reads as the entry if and only if it is the entry's own word.
pub entry_of_word-is : (word : ℕ) (e : SlotEntry) → entry_of_word (word_of e) ≡ e → (entry_of_word word ≡ e) ↔ (word ≡ word_of e)
entry_of_word-is word e own =
    (λ same. sym (word_of-entry_of_word word) ∙ ap word_of same, λ same. ap entry_of_word same ∙ own)

pub entry_of_word-is_free : (word : ℕ) → (entry_of_word word ≡ Free) ↔ (word ≡ 0)
unfolding entry_of_word
entry_of_word-is_free word = entry_of_word-is word Free refl

pub entry_of_word-is_image : (word : ℕ) → (entry_of_word word ≡ Image) ↔ (word ≡ 65536)
unfolding entry_of_word
entry_of_word-is_image word = entry_of_word-is word Image refl

pub entry_of_word-is_bad : (word : ℕ) → (entry_of_word word ≡ Bad) ↔ (word ≡ 131072)
unfolding entry_of_word
entry_of_word-is_bad word = entry_of_word-is word Bad refl
