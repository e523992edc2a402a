-- The machine of a plan with its pages.
use Rattle.std.proofs.Common.{◌≡◌, ℕ, List, length, Option, Some, None, Ok, refl, sym, ap, subst, ◌∙◌, ⊎_elim}
use Rattle.std.proofs.lemmas.List.Elements.{All-contains}
use Rattle.std.specs.List.{All, Contains, range_with_len}
use Rattle.definitions.specs.Bytes.{IsPage}
use Rattle.definitions.specs.Slots.{extent_at}
use Rattle.definitions.specs.Zones.{numbers, top}
use Rattle.machine.specs.FreshSlots.{slot_of_area}
use Rattle.plain_machine.specs.FreshMemory.{with_each_entry}
use Rattle.plain_machine.specs.Machine.{Fits, Hardware, IsHardware, Memory, table_len}
use Rattle.image_machine.specs.Filled.{IsFilled}
use Rattle.image_machine.specs.Layouts.{frame_row, slot_row, slots_of, zones_of}
use Rattle.image_machine.specs.Limits.{AreTables}
use Rattle.image_machine.specs.Loaders.{hardware_with}
use Rattle.image_machine.specs.Machines.{HasMemory, IsMachineFor, SavesJust, entry_with, laid, memory_with, numbers_of}
use Rattle.image_machine.specs.declared.filled.FilledPlan.{FilledPlan}
use Rattle.image_machine.proofs.Filling.{fits-tabled}
use Rattle.image_machine.proofs.Laying.{length-laid}
use Rattle.image_machine.proofs.RowLaws.{row_unsaved}

module _ (f : FilledPlan) (saved : List (ℕ × List ℕ)) (h : Hardware) (frame_table slot_table : ℕ) (filled : IsFilled f saved) (is : h ≡ hardware_with f.plan.heading f.plan.layout frame_table slot_table) where
  zones_are : f.plan.zones ≡ h.zones
  zones_are = filled.plan.zones ∙ sym (ap (λ (k : Hardware). k.zones) is)

  memory_is : f.frames ≡ laid (top h.zones) saved
  memory_is = filled.memory ∙ ap (λ (zs : List (ℕ × ℕ)). laid (top zs) saved) zones_are

  pub filled_size : length f.frames ≡ top h.zones
  filled_size = ap length memory_is ∙ length-laid (top h.zones) saved

  inside : (p : ℕ) → Contains (numbers_of saved) p → Contains (numbers h.zones) p
  inside p in' =
      subst (λ (zs : List (ℕ × ℕ)). Contains (numbers zs) p) (filled.plan.same ∙ zones_are)
      (All-contains (Contains (numbers f.plan.saved.zones)) f.plan.saved.members p filled.plan.set.valid
      (subst (λ (ms : List ℕ). Contains ms p) (sym filled.members) in'))

  machine_of : (m : Memory) (tables : Option (ℕ × ℕ)) → IsHardware h → Fits h m → All IsPage f.frames →
      h ≡ hardware_with f.plan.heading f.plan.layout h.frame_table h.slot_table →
      HasMemory f.plan.heading f.plan.layout tables saved h m → IsMachineFor f.plan.heading f.plan.layout tables saved h m
  machine_of m tables hardware fits pages same memory = record {
    is = same;
    hardware = hardware;
    fits = fits;
    pages = ap (λ (zs : List (ℕ × ℕ)). length (numbers zs)) (sym zones_are) ∙ filled.plan.pages;
    header = ap (λ (k : Hardware). (extent_at k.extents 0).2) is ∙ filled.plan.header;
    inside = inside;
    whole = subst (All IsPage) memory_is pages;
    memory = memory;
  }

-- with the tables that it is given
pub given_tables : (f : FilledPlan) (saved : List (ℕ × List ℕ)) (h : Hardware) (m : Memory) → IsFilled f saved →
    h ≡ hardware_with f.plan.heading f.plan.layout h.frame_table h.slot_table →
    AreTables f.plan.heading f.plan.layout f.plan.saved.members h.frame_table h.slot_table → IsHardware h → All IsPage f.frames →
    (framed : Memory) → framed ≡ with_each_entry (entry_with h f.plan.saved.members) (range_with_len 0 (top h.zones)) h.frame_table f.frames →
    m ≡ with_each_entry (slot_of_area (Ok f.plan.heading.area)) (range_with_len 0 h.slots) h.slot_table framed →
    IsMachineFor f.plan.heading f.plan.layout None saved h m
given_tables f saved h m filled is tables hardware pages framed set set_slots =
    let F = h.frame_table in
    let S = h.slot_table in
    let ns = numbers_of saved in
    let zones : h.zones ≡ zones_of f.plan.heading f.plan.layout = ap (λ (k : Hardware). k.zones) is in
    let slots : h.slots ≡ slots_of f.plan.heading = ap (λ (k : Hardware). k.slots) is in
    let fresh = slot_of_area (Ok f.plan.heading.area) in
    let same : m ≡ memory_with h fresh saved =
    set_slots
    ∙ ap (with_each_entry fresh (range_with_len 0 h.slots) S)
    (set
    ∙ ap (λ (ms : List ℕ). with_each_entry (entry_with h ms) (range_with_len 0 (top h.zones)) F f.frames) filled.members
    ∙ ap (with_each_entry (entry_with h ns) (range_with_len 0 (top h.zones)) F) (memory_is f saved h F S filled is)) in
    let whole : All IsPage (laid (top h.zones) saved) = subst (All IsPage) (memory_is f saved h F S filled is) pages in
    let rows = subst (λ (ms : List ℕ). AreTables f.plan.heading f.plan.layout ms F S) filled.members tables in
    let first : frame_row h.zones ns ≡ Some F = ap (λ (zs : List (ℕ × ℕ)). frame_row zs ns) zones ∙ rows.frame_row in
    let second : slot_row h.zones ns h.slots F ≡ Some S =
    ap (λ (zs : List (ℕ × ℕ)). slot_row zs ns h.slots F) zones
    ∙ ap (λ (n : ℕ). slot_row (zones_of f.plan.heading f.plan.layout) ns n F) slots
    ∙ rows.slot_row in
    machine_of f saved h F S filled is m None hardware
    (subst (Fits h) (sym same) (fits-tabled h fresh ns (laid (top h.zones) saved) hardware whole (length-laid (top h.zones) saved) f.plan.heading.area refl))
    pages is (
      rows,
      same,
      λ p of in'.
          ⊎_elim
          (λ frame. row_unsaved h.zones ns (table_len (top h.zones)) (0, 0) F first p frame.from frame.below in')
          (λ slot. row_unsaved h.zones ns (table_len h.slots) (F, table_len (top h.zones)) S second p slot.from slot.below in')
          of,
    )

-- with the tables that are in the image
pub own_tables : (f : FilledPlan) (saved : List (ℕ × List ℕ)) (h : Hardware) (F S : ℕ) → IsFilled f saved →
    h ≡ hardware_with f.plan.heading f.plan.layout F S → IsHardware h → All IsPage f.frames → Fits h f.frames →
    SavesJust h f.frames f.plan.saved.members → IsMachineFor f.plan.heading f.plan.layout (Some (F, S)) saved h f.frames
own_tables f saved h F S filled is hardware pages fits just =
    let frame_table : F ≡ h.frame_table = sym (ap (λ (k : Hardware). k.frame_table) is) in
    let slot_table : S ≡ h.slot_table = sym (ap (λ (k : Hardware). k.slot_table) is) in
    machine_of f saved h F S filled is f.frames (Some (F, S)) hardware fits pages
    (is ∙ ap (λ (n : ℕ). hardware_with f.plan.heading f.plan.layout n S) frame_table
    ∙ ap (λ (n : ℕ). hardware_with f.plan.heading f.plan.layout h.frame_table n) slot_table)
    (is, memory_is f saved h F S filled is, subst (SavesJust h f.frames) filled.members just)
