-- What a hibernation of an image's machine saves: the page frames that the image saved, each with its page, and those of
-- tables that the machine was given.
use Rattle.std.proofs.Common.{◌≡◌, ◌+◌, ◌<◌, ◌≤◌, ◌⊎◌, ◌&&◌, ◌||◌, ℕ, Bool, true, false, not, cond, inl, inr, List, Option, Some, None, refl, sym, ap, ◌∙◌}
use Rattle.std.proofs.lemmas.Bool.{and_parts, cases_lt, false≢true, leb-true, ltb-true}
use Rattle.std.specs.Prelude.{Ok, nat_le, nat_lt, ◌↔◌}
use Rattle.std.specs.List.{Contains}
use Rattle.definitions.specs.Bytes.{zero_page}
use Rattle.definitions.specs.Tables.{saveable_frames}
use Rattle.definitions.specs.Tables.{entry_at, frame, is_saveable, page_flags, table_frame_count}
use Rattle.definitions.specs.Zones.{numbers, top}
use Rattle.definitions.proofs.FrameSets.{Contains-filter, Contains-from_filter}
use Rattle.definitions.proofs.ZoneNumbers.{below_top}
use Rattle.machine.specs.FreshSlots.{slot_of_area}
use Rattle.machine.proofs.Rows.{any_Contains, any_true}
use Rattle.plain_machine.specs.Loader.{has, page_or, saved_page}
use Rattle.plain_machine.specs.Machine.{Hardware, IsOfTable, IsTableFrame, Memory, frame_entry, is_of_table, is_table_frame, saveable, table_len}
use Rattle.plain_machine.proofs.Fresh.{table_frame-test}
use Rattle.plain_machine.proofs.SameMemory.{table_frame_valid}
use Rattle.image_machine.specs.Machines.{IsMachineFor, entry_with, laid, numbers_of}
use Rattle.image_machine.specs.declared.heading.Heading.{Heading}
use Rattle.image_machine.specs.declared.heading.Layout.{Layout}
use Rattle.image_machine.proofs.Filling.{entry-table, entry-tabled, frame-tabled}
use Rattle.image_machine.proofs.Laying.{frame-laid, length-laid}

used_by : (valid saved table : Bool) → valid ≡ true → is_saveable (page_flags (cond ((valid && not saved) && not table) 1 0)) ≡ true →
    (saved ≡ true) ⊎ (table ≡ true)
used_by true true table v e = inl refl
used_by true false true v e = inr refl
used_by true false false v e = absurd (false≢true e)
used_by false saved table v e = absurd (false≢true v)

saved_used : (valid saved table : Bool) → saved ≡ true → is_saveable (page_flags (cond ((valid && not saved) && not table) 1 0)) ≡ true
saved_used true true table e = refl
saved_used false true table e = refl
saved_used valid false table e = absurd (false≢true e)

or_cases : (b c : Bool) → (b || c) ≡ true → (b ≡ true) ⊎ (c ≡ true)
or_cases true c e = inl refl
or_cases false c e = inr e

of_table : (first entries p : ℕ) → is_of_table first entries p ≡ true → IsOfTable first entries p
of_table first entries p is =
    let both = and_parts (nat_le first p) (nat_lt p (first + table_len entries)) is in
    record { from = leb-true first p both.0; below = ltb-true p (first + table_len entries) both.1 }

table_frame : (h : Hardware) (p : ℕ) → is_table_frame h p ≡ true → IsTableFrame h p
table_frame h p is = elim (or_cases (is_of_table h.frame_table (top h.zones) p) (is_of_table h.slot_table h.slots p) is) [
  | inl of ↦ inl (of_table h.frame_table (top h.zones) p of)
  | inr of ↦ inr (of_table h.slot_table h.slots p of)
]

not_of : (first entries p : ℕ) → (IsOfTable first entries p → ⊥) → (p < first) ⊎ (first + table_frame_count entries ≤ p)
not_of first entries p out = elim (cases_lt p first) [
  | inl low ↦ inl low
  | inr from ↦ elim (cases_lt p (first + table_len entries)) [
    | inl below ↦ absurd (out (record { from = from; below = below }))
    | inr past ↦ inr past
  ]
]

module _ (heading : Heading) (layout : Layout) (saved : List (ℕ × List ℕ)) (h : Hardware) (m : Memory) (is : IsMachineFor heading layout None saved h m) where
  entry_is : (p : ℕ) → Contains (numbers h.zones) p → frame_entry h m p ≡ entry_with h (numbers_of saved) p
  entry_is p in' =
      ap (λ (n : Memory). frame_entry h n p) is.memory.1
      ∙ entry-tabled h (slot_of_area (Ok heading.area)) (numbers_of saved) (laid (top h.zones) saved) is.hardware is.whole (length-laid (top h.zones) saved) p in'

  used : (p : ℕ) → Contains (numbers h.zones) p → is_saveable (page_flags (entry_with h (numbers_of saved) p)) ≡ true → Contains (numbers_of saved) p ⊎ IsTableFrame h p
  unfolding entry_with
  used p in' e = elim (used_by (has (numbers h.zones) p) (has (numbers_of saved) p) (is_table_frame h p) (any_true (numbers h.zones) p in') e) [
    | inl there ↦ inl (any_Contains (numbers_of saved) p there)
    | inr of ↦ inr (table_frame h p of)
  ]

  in_use : (p : ℕ) → Contains (numbers_of saved) p → is_saveable (page_flags (entry_with h (numbers_of saved) p)) ≡ true
  unfolding entry_with
  in_use p there = saved_used (has (numbers h.zones) p) (has (numbers_of saved) p) (is_table_frame h p) (any_true (numbers_of saved) p there)

  saves_by : (p : ℕ) → Contains (numbers h.zones) p → is_saveable (page_flags (entry_with h (numbers_of saved) p)) ≡ true → Contains (saveable h m) p
  unfolding saveable_frames
  saves_by p in' e =
      Contains-filter (λ q. is_saveable (page_flags (entry_at m h.frame_table q))) (numbers h.zones) p in'
      (ap (λ (v : ℕ). is_saveable (page_flags v)) (entry_is p in') ∙ e)

  saved_by : (p : ℕ) → Contains (saveable h m) p → Contains (numbers_of saved) p ⊎ IsTableFrame h p
  unfolding saveable_frames
  saved_by p in' =
      let both = Contains-from_filter (λ q. is_saveable (page_flags (entry_at m h.frame_table q))) (numbers h.zones) p in' in
      used p both.0 (sym (ap (λ (v : ℕ). is_saveable (page_flags v)) (entry_is p both.0)) ∙ both.1)

  -- the saveable page frames are exactly the saved ones and those of the tables
  pub saves_saved_and_tables : (p : ℕ) → Contains (saveable h m) p ↔ (Contains (numbers_of saved) p ⊎ IsTableFrame h p)
  saves_saved_and_tables p = (
    saved_by p,
    λ which. elim which [
      | inl there ↦ saves_by p (is.inside p there) (in_use p there)
      | inr of ↦ let valid = table_frame_valid h p is.hardware of in saves_by p valid (ap (λ (v : ℕ). is_saveable (page_flags v)) (entry-table h (numbers_of saved) p (table_frame-test h p of)))
    ],
  )

  -- each saved page frame has its page
  pub saved_has_page : (p : ℕ) (page : List ℕ) → Contains (numbers_of saved) p → saved_page saved p ≡ Some page → frame m p ≡ page
  saved_has_page p page there e =
      let unsaved = is.memory.2 in
      ap (λ (n : Memory). frame n p) is.memory.1
      ∙ frame-tabled h (slot_of_area (Ok heading.area)) (numbers_of saved) (laid (top h.zones) saved) is.hardware is.whole (length-laid (top h.zones) saved) p
      (not_of h.frame_table (top h.zones) p (λ of. unsaved p (inl of) there))
      (not_of h.slot_table h.slots p (λ of. unsaved p (inr of) there))
      ∙ frame-laid (top h.zones) saved p (below_top h.zones p is.hardware.zones.apart (is.inside p there))
      ∙ ap (λ (o : Option (List ℕ)). page_or o zero_page) e

-- each saved page frame has its page with the tables of the image too
pub saved_has_page-own : (heading : Heading) (layout : Layout) (tables : ℕ × ℕ) (saved : List (ℕ × List ℕ)) (h : Hardware) (m : Memory) →
    IsMachineFor heading layout (Some tables) saved h m → (p : ℕ) (page : List ℕ) → Contains (numbers_of saved) p → saved_page saved p ≡ Some page → frame m p ≡ page
saved_has_page-own heading layout tables saved h m is p page there e =
    ap (λ (n : Memory). frame n p) is.memory.1
    ∙ frame-laid (top h.zones) saved p (below_top h.zones p is.hardware.zones.apart (is.inside p there))
    ∙ ap (λ (o : Option (List ℕ)). page_or o zero_page) e

-- a saveable page frame is valid
pub saveable_valid : (h : Hardware) (m : Memory) (p : ℕ) → Contains (saveable h m) p → Contains (numbers h.zones) p
unfolding saveable_frames
saveable_valid h m p in' =
    (Contains-from_filter (λ q. is_saveable (page_flags (entry_at m h.frame_table q))) (numbers h.zones) p in').0
