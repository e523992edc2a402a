-- What stands before the records: the hardware, and the number of records.
use Rattle.std.proofs.Common.{◌≡◌, ℕ, ◌+◌, ◌≤◌, true, false, leb, List, [], length, Some, None, refl, sym, ap, ◌∙◌, inl, inr, arith}
use Rattle.std.proofs.lemmas.Bool.{cases_Bool}
use Rattle.std.proofs.lemmas.Option.{none-some}
use Rattle.definitions.specs.FileMaps.{IsFileMap}
use Rattle.definitions.specs.Zones.{numbers}
use Rattle.definitions.specs.ZoneFacts.{AreZones}
use Rattle.definitions.specs.declared.info.Ident.{Ident}
use Rattle.machine.specs.HardFault.{hard_fault, has_regions, has_tables}
use Rattle.machine.specs.declared.hardware.HardFault.{HardFault}
use Rattle.machine.specs.declared.hardware.HardFault.TheVariants as part
use Rattle.machine.proofs.HardFaults.{fault_tables, no_fault}
use Rattle.machine.proofs.PartTests.{decides_extents, decides_regions_by, decides_slots, decides_zones}
use Rattle.plain_machine.specs.Chain.{or_else}
use Rattle.plain_machine.specs.Machine.{Hardware}
use Rattle.dump_file.specs.Dump.{count_fault, front_fault, head_fault, layout_fault, unless, wanted, zones_fault}
use Rattle.dump_file.specs.Fields.{count_byte, extents, hardware, ident, number, record_count, slots, zones}
use Rattle.dump_file.specs.Reading.{hardware_by}
use Rattle.dump_file.specs.declared.front.Front.{Front}
use Rattle.dump_file.specs.declared.dump.DumpKind.TheVariants.{Frame, Header}
use Rattle.dump_file.proofs.Chains.{or_else-none}

-- the hardware of its parts
make : List (ℕ × ℕ) → ℕ → ℕ → ℕ → Ident → ℕ → List (ℕ × ℕ × ℕ) → Hardware
make zs s f t i g es = record { zones = zs; slots = s; frame_table = f; slot_table = t; regions = []; ident = i; hw_sig = g; extents = es }

pub hardware_is : (bytes : List ℕ) (zs : List (ℕ × ℕ)) (s f t : ℕ) (i : Ident) (g : ℕ) (es : List (ℕ × ℕ × ℕ)) → zs ≡ zones bytes → s ≡ slots bytes → f ≡ number bytes 16 → t ≡ number bytes 20 → i ≡ ident bytes → g ≡ number bytes 24 → es ≡ extents bytes → ◌≡◌ {A = Hardware} (record { zones = zs; slots = s; frame_table = f; slot_table = t; regions = []; ident = i; hw_sig = g; extents = es }) (hardware bytes)
unfolding make hardware
hardware_is bytes zs s f t i g es zs_is s_is f_is t_is i_is g_is es_is =
    ap (λ (x : List (ℕ × ℕ)). make x s f t i g es) zs_is
    ∙ ap (λ (x : ℕ). make (zones bytes) x f t i g es) s_is
    ∙ ap (λ (x : ℕ). make (zones bytes) (slots bytes) x t i g es) f_is
    ∙ ap (λ (x : ℕ). make (zones bytes) (slots bytes) (number bytes 16) x i g es) t_is
    ∙ ap (λ (x : Ident). make (zones bytes) (slots bytes) (number bytes 16) (number bytes 20) x g es) i_is
    ∙ ap (λ (x : ℕ). make (zones bytes) (slots bytes) (number bytes 16) (number bytes 20) (ident bytes) x es) g_is
    ∙ ap (λ (x : List (ℕ × ℕ × ℕ)). make (zones bytes) (slots bytes) (number bytes 16) (number bytes 20) (ident bytes) (number bytes 24) x) es_is

-- parts that fit but for the tables
pub record IsBut (h : Hardware) : Type 0 where
  pub zones_are : AreZones h.zones
  pub some : 2 ≤ h.slots
  pub few : h.slots ≤ 131072
  pub none : h.regions ≡ []
  pub map : IsFileMap h.extents h.slots

pub but_tables : (front : Front) (zs : List (ℕ × ℕ)) (es : List (ℕ × ℕ × ℕ)) → AreZones zs → (2 ≤ front.slots) × (front.slots ≤ 131072) → IsFileMap es front.slots → IsBut (hardware_by front zs es)
but_tables front zs es z bounds map = record { zones_are = z; some = bounds.0; few = bounds.1; none = refl; map = map }

no_regions : (h : Hardware) → IsBut h → has_regions h ≡ true
no_regions h but =
    let size : length h.regions ≡ 0 = ap length but.none in
    (decides_regions_by h).1 (omega (arith, size), λ k lt. absurd (omega (arith, lt, size)))

pub tables_fit : (h : Hardware) → IsBut h → hard_fault h ≡ None → has_tables h ≡ true
tables_fit h but e = elim (cases_Bool (has_tables h)) [
  | inl is ↦ is
  | inr not ↦ absurd (none-some part.Tables (sym e ∙ fault_tables h ((decides_zones h).1 but.zones_are) ((decides_slots h).1 (but.some, but.few)) not))
]

pub tables_wrong : (h : Hardware) (f : HardFault) → IsBut h → hard_fault h ≡ Some f → has_tables h ≡ false
tables_wrong h f but e = elim (cases_Bool (has_tables h)) [
  | inr not ↦ not
  | inl is ↦ absurd (none-some f (sym (no_fault h ((decides_zones h).1 but.zones_are) ((decides_slots h).1 (but.some, but.few)) is (no_regions h but) ((decides_extents h).1 but.map)) ∙ e))
]

-- up to the number of records nothing is wrong
pub last_fault : (bytes : List ℕ) → front_fault bytes ≡ None → zones_fault bytes ≡ None → layout_fault bytes ≡ None → unless (has_tables (hardware bytes)) Header 16 ≡ None → wanted bytes (count_byte bytes + 4) ≡ None → head_fault bytes ≡ or_else (unless (leb (record_count bytes) (length (numbers (zones bytes)))) Frame (count_byte bytes)) None
unfolding head_fault count_fault
last_fault bytes a b c d e =
    or_else-none (front_fault bytes) _ a ∙ or_else-none (zones_fault bytes) _ b ∙ or_else-none (layout_fault bytes) _ c
    ∙ or_else-none (unless (has_tables (hardware bytes)) Header 16) _ d ∙ or_else-none (wanted bytes (count_byte bytes + 4)) _ e
