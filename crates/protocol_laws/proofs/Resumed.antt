-- The end of a resume.
use Rattle.std.proofs.Common.{◌≡◌, ℕ, ◌+◌, ◌/◌, ◌<◌, inl, inr, None, refl, sym, ap, ◌∙◌, subst, arith, Contains}
use Rattle.definitions.specs.Disk as disk
use Rattle.definitions.specs.Tables.{saveable_frames}
use Rattle.definitions.specs.SwapHeader.{IsMarked}
use Rattle.definitions.specs.Tables.{frame, entry_at, page_flags, is_saveable}
use Rattle.definitions.specs.Zones.{numbers}
use Rattle.definitions.proofs.DiskLaws.{IsImage-as_it_reads}
use Rattle.definitions.proofs.FrameSets.{Contains-filter}
use Rattle.definitions.proofs.ZoneNumbers.{below_top}
use Rattle.image_format.specs.AreaKind.{area_kind}
use Rattle.plain_machine.specs.Machine.{Hardware, Memory, IsHardware, Fits, block_of_slot, saveable}
use Rattle.plain_machine.specs.Chain.{blocks_of, Marked}
use Rattle.plain_machine.specs.Image.{Image, image_of_memory}
use Rattle.plain_machine.specs.Loader.{restored}
use Rattle.plain_machine.specs.Stands.{IsHeld, IsSameOrTakenBack}
use Rattle.plain_machine.specs.Step.{no_flights}
use Rattle.plain_machine.specs.UsableArea.{area_block}
use Rattle.plain_machine.specs.declared.event.Loader.{Loader}
use Rattle.plain_machine.proofs.BadSlots.{SameSlots, bad_set-same, task_slots-same, no_flights-owned, has_area}
use Rattle.plain_machine.proofs.Restoring.{restored-saveable}
use Rattle.plain_machine.proofs.SameMemory.{entry-same, of_slot_table}
use Rattle.protocol_laws.proofs.Places.{usable_area, task_not_header}
use Rattle.protocol_laws.proofs.Marking.{area_block-marked, area_block-unmarked}
use Rattle.protocol_laws.specs.Resuming.{with_found, resumed_running, LoadFails, LoadStops, Resumes}
use Rattle.protocol_laws.proofs.TakingBack.{held_later, fits_by_area}

-- a resume that ends early: with a fault or a refusal after its fourth step
pub load_stops : LoadStops
load_stops h shown shown' c load k le stands activity kept = record { activity = activity; parts = record { memory = kept; held = subst (IsHeld h c) (held_later load k le) stands.parts.held; header = stands.parts.header } }

-- before block(0) was read
pub load_fails : LoadFails
load_fails h shown shown' c load k held stands activity kept = record { activity = activity; parts = record { memory = kept; held = subst (IsHeld h c) held stands.parts.held; header = stands.parts.header } }

-- The restored memory has the slot table of the image's.

pub table_saved : (h : Hardware) (m : Memory) (s : ℕ) → IsHardware h → Fits h m → s < h.slots → Contains (saveable h m) (h.slot_table + s / 1024)
unfolding saveable_frames
table_saved h m s hw fits lt =
    let f = h.slot_table + s / 1024 in
    let of = of_slot_table h s lt in
    let in' = hw.slot_table (s / 1024) (let below = of.below in omega arith) in
    Contains-filter (λ p. is_saveable (page_flags (entry_at m h.frame_table p))) (numbers h.zones) f in' (fits.tables f (inr of)).0

pub restored_slots : (h : Hardware) (dump m : Memory) (loader : Loader) (i : Image) → IsHardware h → Fits h m → i ≡ image_of_memory h m i.slots i.format → SameSlots h m (restored h dump loader i)
restored_slots h dump m loader i hw fits is s lt =
    let f = h.slot_table + s / 1024 in
    let saved = table_saved h m s hw fits lt in
    let of = of_slot_table h s lt in
    let in' = hw.slot_table (s / 1024) (let below = of.below in omega arith) in
    let back = restored-saveable h dump m loader i.slots i.format f saved (below_top h.zones f hw.zones.apart in') in
    let same : frame (restored h dump loader i) f ≡ frame m f = subst (λ (x : Image). frame (restored h dump loader x) f ≡ frame m f) (sym is) back in
    entry-same m (restored h dump loader i) h.slot_table s same

-- The area is the one that the image was made in.

pub area_taken_back : (h : Hardware) (v w : disk.DiskImage) → Marked h v → (Marked h w → ⊥) → IsSameOrTakenBack h v w → area_block h w ≡ area_block h v
area_taken_back h v w marked unmarked taken = elim taken.header [
  | inl same ↦ absurd (unmarked (subst IsMarked (sym same) marked))
  | inr back ↦ area_block-unmarked h w unmarked ∙ back ∙ sym (area_block-marked h v marked)
]

pub resumes : Resumes
resumes h shown shown' c blocks load i k hw whole le stands activity shows names =
    let found = stands.parts.resume.own i refl in
    let v = found.0 in
    let holds = found.1 in
    let m = found.2.of_memory.0 in
    let is = found.2.of_memory.1 in
    let w = disk.as_it_reads c in
    let here = IsImage-as_it_reads blocks c whole in
    let taken = found.3 w here in
    let unmarked = stands.parts.resume.taken_back le w here in
    let page = area_taken_back h v w holds.marked unmarked taken in
    let count : blocks_of w ≡ blocks_of v = ap (λ (n : ℕ). n / 8) taken.size in
    let fits_area = fits_by_area h m w v count page is.fits_area in
    let slots = restored_slots h load.dump m load.loader i hw is.fits is.image in
    let usable = usable_area h v is.fits_area.area in
    record {
      activity = activity;
      parts = record {
        memory = shows;
        disk = record {
          held = subst (IsHeld h c) (held_later (with_found load i) k le) stands.parts.held;
          task_slots = task_slots-same h None m (restored h load.dump load.loader i) no_flights i.slots slots is.task_slots;
          flights = no_flights-owned h (resumed_running h load i) (λ t. refl);
          slot_pages = λ s old e.
              let task = is.task_slots.tasks s old e in
              taken.others (block_of_slot h s) (usable.on_disk s task.0) (task_not_header h m s hw is.fits task.0 task.2) ∙ holds.slots s old e;
          names = names;
          header = stands.parts.header;
          area = has_area h c (resumed_running h load i) refl
              (record {
                area = fits_area.area;
                bad_slots = bad_set-same h m (restored h load.dump load.loader i) (area_kind (area_block h w)) slots ∙ fits_area.bad_slots;
              });
        };
      };
    }
