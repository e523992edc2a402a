-- What a plan that is followed makes.
use Rattle.std.proofs.Common.{◌≡◌, ◌≤◌, ℕ, List, length, Some, Ok, sym, ap, subst, ◌∙◌, ⊎_elim}
use Rattle.std.proofs.lemmas.List.Elements.{All-contains}
use Rattle.std.specs.List.{Contains}
use Rattle.definitions.specs.Slots.{extent_at}
use Rattle.definitions.specs.Zones.{numbers, top}
use Rattle.machine.specs.FreshSlots.{slot_of_area}
use Rattle.plain_machine.specs.FreshMemory.{fresh_memory}
use Rattle.plain_machine.specs.Loader.{need}
use Rattle.plain_machine.specs.Machine.{Fits, Hardware, IsHardware, Memory, table_len, unused}
use Rattle.image_machine.specs.Layouts.{frame_row, slot_row, slots_of, zones_of}
use Rattle.image_machine.specs.Limits.{AreTables}
use Rattle.image_machine.specs.Loaders.{IsLoaderFor, hardware_with}
use Rattle.image_machine.specs.Plans.{IsPlan}
use Rattle.image_machine.specs.declared.plan.Plan.{Plan}
use Rattle.image_machine.proofs.RowLaws.{row_unsaved}

pub made : (plan : Plan) (h : Hardware) (m : Memory) → IsPlan plan →
    h ≡ hardware_with plan.heading plan.layout h.frame_table h.slot_table →
    AreTables plan.heading plan.layout plan.saved.members h.frame_table h.slot_table → IsHardware h →
    m ≡ fresh_memory h (slot_of_area (Ok plan.heading.area)) → Fits h m →
    need (length plan.saved.members) ≤ length (unused h m) →
    IsLoaderFor plan.heading plan.layout plan.saved.members h m
made plan h m is same tables hardware fresh fits room =
    let members = plan.saved.members in
    let zones : h.zones ≡ zones_of plan.heading plan.layout = ap (λ (k : Hardware). k.zones) same in
    let slots : h.slots ≡ slots_of plan.heading = ap (λ (k : Hardware). k.slots) same in
    let plan_zones : plan.zones ≡ h.zones = is.zones ∙ sym zones in
    let first : frame_row h.zones members ≡ Some h.frame_table =
    ap (λ (zs : List (ℕ × ℕ)). frame_row zs members) zones ∙ tables.frame_row in
    let second : slot_row h.zones members h.slots h.frame_table ≡ Some h.slot_table =
    ap (λ (zs : List (ℕ × ℕ)). slot_row zs members h.slots h.frame_table) zones
    ∙ ap (λ (n : ℕ). slot_row (zones_of plan.heading plan.layout) members n h.frame_table) slots
    ∙ tables.slot_row in
    record {
      is = same;
      frame_table = first;
      slot_table = second;
      hardware = hardware;
      memory = fresh;
      fits = fits;
      pages = ap (λ (zs : List (ℕ × ℕ)). length (numbers zs)) (sym plan_zones) ∙ is.pages;
      header = ap (λ (k : Hardware). (extent_at k.extents 0).2) same ∙ is.header;
      inside = λ p in'. subst (λ (zs : List (ℕ × ℕ)). Contains (numbers zs) p) (is.same ∙ plan_zones) (All-contains (Contains (numbers plan.saved.zones)) members p is.set.valid in');
      unsaved = λ p of in'.
          ⊎_elim
          (λ frame. row_unsaved h.zones members (table_len (top h.zones)) (0, 0) h.frame_table first p frame.from frame.below in')
          (λ slot. row_unsaved h.zones members (table_len h.slots) (h.frame_table, table_len (top h.zones)) h.slot_table second p slot.from slot.below in')
          of;
      room = room;
    }
