-- The pages with data stay while slots are taken, since no copy frame is one of the slot table.
use Rattle.std.proofs.Common.{◌≡◌, ℕ, ◌+◌, ◌<◌, ◌≤◌, ◌⊎◌, suc, List, [], ◌∷◌, length, get_or, map, refl, sym, ap, ap₂, ◌∙◌, inl, inr, arith}
use Rattle.std.proofs.lemmas.Bool.{cases_Bool, cond-true, cond-false}
use Rattle.std.specs.List.{All, Contains}
use Rattle.definitions.specs.Tables.{frame, with_entries, table_frame_count}
use Rattle.definitions.proofs.TableEntries.{frame-with_entries_other}
use Rattle.swap_slots.specs.declared.table.SlotTable.{SlotTable}
use Rattle.image_write.specs.Copies.{has_data, with_data, data_pages}

same_pages : (f g : ℕ → List ℕ) (origs copies zeros : List ℕ) → ((k : ℕ) → k < length copies → f (get_or copies k 0) ≡ g (get_or copies k 0)) →
    map (λ pair. f pair.1) (with_data origs copies zeros) ≡ map (λ pair. g pair.1) (with_data origs copies zeros)
same_pages f g [] copies zeros same = refl
same_pages f g (o ∷ origs) [] zeros same = refl
same_pages f g (o ∷ origs) (c ∷ copies) zeros same =
    let rest = same_pages f g origs copies zeros (λ k lt. same (suc k) (omega arith)) in
    let read_f : List (ℕ × ℕ) → List (List ℕ) = λ pairs. map (λ pair. f pair.1) pairs in
    let read_g : List (ℕ × ℕ) → List (List ℕ) = λ pairs. map (λ pair. g pair.1) pairs in
    let kept : List (ℕ × ℕ) = (o, c) ∷ with_data origs copies zeros in
    let left = with_data origs copies zeros in
    elim (cases_Bool (has_data zeros (o, c))) [
      | inl e ↦
          let is = cond-true (has_data zeros (o, c)) kept left e in
          ap read_f is ∙ ap₂ ◌∷◌ (same 0 (omega arith)) rest ∙ sym (ap read_g is)
      | inr e ↦
          let is = cond-false (has_data zeros (o, c)) kept left e in
          ap read_f is ∙ rest ∙ sym (ap read_g is)
    ]

-- a page frame that isn't one of the table
abbrev pub LiesOutside : SlotTable → ℕ → Type 0
LiesOutside table p = (p < table.first) ⊎ (table.first + table_frame_count table.slots ≤ p)

pub data_stays : (frames : List (List ℕ)) (table : SlotTable) (slots origs copies zeros : List ℕ) → ((s : ℕ) → Contains slots s → s < table.slots) → All (LiesOutside table) copies →
    data_pages (with_entries frames table.first slots 65536) origs copies zeros ≡ data_pages frames origs copies zeros
data_stays frames table slots origs copies zeros below outside =
    same_pages (frame (with_entries frames table.first slots 65536)) (frame frames) origs copies zeros
    (λ k lt. frame-with_entries_other frames table.first table.slots slots 65536 (get_or copies k 0) below (outside k 0 lt))
