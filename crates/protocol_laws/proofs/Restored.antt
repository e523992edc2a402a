-- The memory restored from an own image has well formed tables, which fit the area.
use Rattle.std.proofs.Common.{◌≡◌, ℕ, ◌+◌, ◌/◌, ◌<◌, ◌⊎◌, inl, inr, suc, zero-add, Bool, true, false, cond, eqb, ltb, not, ◌&&◌, ◌||◌, List, [], ◌∷◌, ◌++◌, length, get_or, map, Option, Some, None, refl, sym, ap, ◌∙◌, subst, arith, Contains}
use Rattle.std.specs.List.{range_with_len, list_any, find}
use Rattle.std.proofs.lemmas.Bool.{cases_Bool, cond-true, cond-false, eq-eqb, false≢true}
use Rattle.std.proofs.lemmas.Option.{none-some}
use Rattle.std.proofs.lemmas.List.{length-map, get_or-map, length-replicate}
use Rattle.std.proofs.lemmas.List.FromFn.{length-map-range_with_len, get_or-map-range_with_len}
use Rattle.definitions.specs.Bytes.{IsPage, zero_page}
use Rattle.definitions.specs.Disk as disk
use Rattle.definitions.specs.Tables.{saveable_frames}
use Rattle.definitions.specs.Tables.{frame, entry_at, page_flags, owner_of, is_saveable}
use Rattle.definitions.specs.Zones.{numbers, top}
use Rattle.definitions.proofs.Ascending.{Contains-head, Contains-tail, Contains-cons_cases}
use Rattle.definitions.proofs.FrameSets.{Contains-filter}
use Rattle.definitions.proofs.PageBytes.{length-zero_page}
use Rattle.definitions.proofs.ZoneNumbers.{below_top, range-bounds}
use Rattle.image_format.specs.AreaKind.{area_kind}
use Rattle.plain_machine.specs.Machine.{Hardware, Memory, IsHardware, Fits, IsTableFrame, IsOfTable, frame_entry, raw_slot_entry, saveable, is_well_formed, is_slot_entry, is_table_at_fault, tables_fault, table_frames, table_len, frame_table_frames, slot_table_frames}
use Rattle.plain_machine.specs.Image.{Image, image_of_memory}
use Rattle.plain_machine.specs.Loader.{restored, restored_page, saved_page, page_or, left_free, loader_page, has}
use Rattle.plain_machine.specs.Stands.{IsImageOf}
use Rattle.plain_machine.specs.UsableArea.{dump_area_fault, area_block, bad_set_fault, first_fault}
use Rattle.plain_machine.specs.declared.no_swap.NoSwap.{NoSwap}
use Rattle.plain_machine.specs.declared.event.Loader.{Loader}
use Rattle.plain_machine.specs.declared.event.Loader.TheVariants.{Ranges}
use Rattle.plain_machine.specs.declared.event.Ranges.{Ranges as RangeList}
use Rattle.plain_machine.proofs.BadSlots.{bad_set-same}
use Rattle.plain_machine.proofs.Restoring.{restored-saveable}
use Rattle.plain_machine.proofs.SameMemory.{entry-same, of_frame_table, table_frame_valid}
use Rattle.protocol_laws.proofs.Laid.{saveable_page}
use Rattle.protocol_laws.proofs.Resumed.{restored_slots}

-- The frame table of restored memory is the image's.

frame_saved : (h : Hardware) (m : Memory) (f : ℕ) → IsHardware h → Fits h m → IsTableFrame h f → Contains (saveable h m) f
unfolding saveable_frames
frame_saved h m f hw fits of = Contains-filter (λ p. is_saveable (page_flags (entry_at m h.frame_table p))) (numbers h.zones) f (table_frame_valid h f hw of) (fits.tables f of).0

pub restored_entry : (h : Hardware) (dump m : Memory) (loader : Loader) (i : Image) (p : ℕ) → IsHardware h → Fits h m → i ≡ image_of_memory h m i.slots i.format → Contains (numbers h.zones) p → frame_entry h (restored h dump loader i) p ≡ frame_entry h m p
restored_entry h dump m loader i p hw fits is in' =
    let f = h.frame_table + p / 1024 in
    let of = of_frame_table h p hw in' in
    let saved = frame_saved h m f hw fits (inl of) in
    let back = restored-saveable h dump m loader i.slots i.format f saved (below_top h.zones f hw.zones.apart (table_frame_valid h f hw (inl of))) in
    entry-same m (restored h dump loader i) h.frame_table p (subst (λ (x : Image). frame (restored h dump loader x) f ≡ frame m f) (sym is) back)

-- The pages of restored memory.

length-loader_page : IsPage loader_page
unfolding loader_page
length-loader_page = length-replicate {A = ℕ} 4096 165

page_or-page : (found : Option (List ℕ)) (page : List ℕ) → ((saved : List ℕ) → found ≡ Some saved → IsPage saved) → IsPage page → IsPage (page_or found page)
page_or-page None page each whole = whole
page_or-page (Some saved) page each whole = each saved refl

abbrev value_or : Option (List ℕ) → List ℕ
value_or None = []
value_or (Some page) = page

saved_page-page : (frames : List (ℕ × List ℕ)) (p : ℕ) (saved : List ℕ) → ((s : ℕ × List ℕ) → Contains frames s → IsPage s.1) → saved_page frames p ≡ Some saved → IsPage saved
saved_page-page [] p saved each e = absurd (none-some saved e)
saved_page-page (x ∷ frames) p saved each e = elim (cases_Bool (eqb x.0 p)) [
  | inl here ↦ subst IsPage (ap value_or (sym (cond-true (eqb x.0 p) (Some x.1) (saved_page frames p) here) ∙ e)) (each x (0, omega arith, refl))
  | inr later ↦ saved_page-page frames p saved (λ s in'. each s (behind x frames s in')) (sym (cond-false (eqb x.0 p) (Some x.1) (saved_page frames p) later) ∙ e)
] where
  behind : (x : ℕ × List ℕ) (xs : List (ℕ × List ℕ)) (s : ℕ × List ℕ) → Contains xs s → Contains (x ∷ xs) s
  behind x xs s (k, lt, e) = (suc k, omega arith, e)

image_pages : (h : Hardware) (m : Memory) (i : Image) (s : ℕ × List ℕ) → IsHardware h → Fits h m → i ≡ image_of_memory h m i.slots i.format → Contains i.frames s → IsPage s.1
image_pages h m i s hw fits is (k, lt, e) =
    let pair : ℕ → ℕ × List ℕ = λ p. (p, frame m p) in
    let frames : i.frames ≡ map pair (saveable h m) = ap (λ (x : Image). x.frames) is in
    let size = length-map (saveable h m) pair in
    let count = ap length frames in
    let at : get_or i.frames k s ≡ pair (get_or (saveable h m) k 0) = ap (λ (xs : List (ℕ × List ℕ)). get_or xs k s) frames ∙ get_or-map pair (saveable h m) k 0 s (omega arith) in
    subst (λ (x : ℕ × List ℕ). IsPage x.1) (sym at ∙ e) (saveable_page h m k 0 hw fits (omega arith))

zero_or_loader : (b : Bool) → IsPage (cond b zero_page loader_page)
zero_or_loader true = length-zero_page
zero_or_loader false = length-loader_page

pub restored_fits : (h : Hardware) (dump m : Memory) (ranges : RangeList) (i : Image) → IsHardware h → Fits h m → i ≡ image_of_memory h m i.slots i.format → Fits h (restored h dump (Ranges ranges) i)
unfolding restored
restored_fits h dump m ranges i hw fits is =
    let page : ℕ → List ℕ = restored_page h dump (Ranges ranges) i in
    let size = length-map-range_with_len page 0 (top h.zones) in
    record {
      pages = λ k d lt. (let here : k < top h.zones = omega arith in
          subst IsPage (sym (get_or-map-range_with_len page 0 (top h.zones) k k d here (zero-add k)))
          (page_or-page (saved_page i.frames k) (cond (has (left_free h dump (Ranges ranges)) k) zero_page loader_page)
          (λ saved e. saved_page-page i.frames k saved (λ s in'. image_pages h m i s hw fits is in') e) (zero_or_loader (has (left_free h dump (Ranges ranges)) k))));
      size = size;
      entries = λ p in'. ap is_well_formed (restored_entry h dump m (Ranges ranges) i p hw fits is in') ∙ fits.entries p in';
      tables = λ f of.
          let e = restored_entry h dump m (Ranges ranges) i f hw fits is (table_frame_valid h f hw of) in
          (ap (λ (x : ℕ). is_saveable (page_flags x)) e ∙ (fits.tables f of).0, ap owner_of e ∙ (fits.tables f of).1);
      slots = λ s lt. ap (is_slot_entry s) (restored_slots h dump m (Ranges ranges) i hw fits is s lt) ∙ fits.slots s lt;
    }

-- No table frame is at fault where the tables fit.

none_found : (test : ℕ → Bool) (xs : List ℕ) → ((x : ℕ) → Contains xs x → test x ≡ false) → find test xs ≡ None
none_found test [] each = refl
none_found test (x ∷ xs) each = cond-false (test x) (Some x) (find test xs) (each x (Contains-head x xs)) ∙ none_found test xs (λ y in'. each y (Contains-tail x xs y in'))

none_of : (test : ℕ → Bool) (xs : List ℕ) → ((x : ℕ) → Contains xs x → test x ≡ false) → list_any test xs ≡ false
none_of test [] each = refl
none_of test (x ∷ xs) each = ap (λ (b : Bool). b || list_any test xs) (each x (Contains-head x xs)) ∙ none_of test xs (λ y in'. each y (Contains-tail x xs y in'))

or-none : (a b : Bool) → a ≡ false → b ≡ false → (a || b) ≡ false
or-none true b e f = absurd (false≢true (sym e))
or-none false b e f = f

and-false : (a b : Bool) → b ≡ false → (a && b) ≡ false
and-false true b e = e
and-false false b e = refl

not_true : (b : Bool) → b ≡ true → not b ≡ false
not_true true e = refl
not_true false e = absurd (false≢true e)

good_frame : (h : Hardware) (m : Memory) (f : ℕ) → Fits h m → IsTableFrame h f → is_table_at_fault h m f ≡ false
good_frame h m f fits of =
    let saved = fits.tables f of in
    or-none (not (is_saveable (page_flags (frame_entry h m f))) || not (eqb (owner_of (frame_entry h m f)) 0) || list_any (λ p. eqb (h.frame_table + p / 1024) f && not (is_well_formed (frame_entry h m p))) (numbers h.zones))
    (list_any (λ s. eqb (h.slot_table + s / 1024) f && not (is_slot_entry s (raw_slot_entry h m s))) (range_with_len 0 h.slots))
    (or-none (not (is_saveable (page_flags (frame_entry h m f))) || not (eqb (owner_of (frame_entry h m f)) 0)) (list_any (λ p. eqb (h.frame_table + p / 1024) f && not (is_well_formed (frame_entry h m p))) (numbers h.zones))
    (or-none (not (is_saveable (page_flags (frame_entry h m f)))) (not (eqb (owner_of (frame_entry h m f)) 0)) (not_true (is_saveable (page_flags (frame_entry h m f))) saved.0) (not_true (eqb (owner_of (frame_entry h m f)) 0) (eq-eqb (owner_of (frame_entry h m f)) 0 saved.1)))
    (none_of (λ p. eqb (h.frame_table + p / 1024) f && not (is_well_formed (frame_entry h m p))) (numbers h.zones) (λ p in'. and-false (eqb (h.frame_table + p / 1024) f) (not (is_well_formed (frame_entry h m p))) (not_true (is_well_formed (frame_entry h m p)) (fits.entries p in')))))
    (none_of (λ s. eqb (h.slot_table + s / 1024) f && not (is_slot_entry s (raw_slot_entry h m s))) (range_with_len 0 h.slots)
    (λ s in'. let bounds = range-bounds 0 h.slots s in' in let below = bounds.1 in and-false (eqb (h.slot_table + s / 1024) f) (not (is_slot_entry s (raw_slot_entry h m s))) (not_true (is_slot_entry s (raw_slot_entry h m s)) (fits.slots s (omega arith)))))

in_table : (first entries f : ℕ) → Contains (range_with_len first (table_len entries)) f → IsOfTable first entries f
in_table first entries f in' = let bounds = range-bounds first (table_len entries) f in' in record { from = bounds.0; below = bounds.1 }

either_part : (xs ys : List ℕ) (f : ℕ) → Contains (xs ++ ys) f → Contains xs f ⊎ Contains ys f
either_part [] ys f in' = inr in'
either_part (x ∷ xs) ys f in' = elim (Contains-cons_cases x (xs ++ ys) f in') [
  | inl e ↦ inl (subst (Contains (x ∷ xs)) e (Contains-head x xs))
  | inr rest ↦ elim (either_part xs ys f rest) [ inl left ↦ inl (Contains-tail x xs f left) | inr right ↦ inr right ]
]

of_tables : (h : Hardware) (b : Bool) (f : ℕ) → Contains (cond b (frame_table_frames h ++ slot_table_frames h) (slot_table_frames h ++ frame_table_frames h)) f → IsTableFrame h f
of_tables h true f in' = elim (either_part (frame_table_frames h) (slot_table_frames h) f in') [
  | inl left ↦ inl (in_table h.frame_table (top h.zones) f left)
  | inr right ↦ inr (in_table h.slot_table h.slots f right)
]
of_tables h false f in' = elim (either_part (slot_table_frames h) (frame_table_frames h) f in') [
  | inl left ↦ inr (in_table h.slot_table h.slots f left)
  | inr right ↦ inl (in_table h.frame_table (top h.zones) f right)
]

pub fits_no_fault : (h : Hardware) (m : Memory) → Fits h m → tables_fault h m ≡ None
fits_no_fault h m fits = none_found (is_table_at_fault h m) (table_frames h) (λ f in'. good_frame h m f fits (of_tables h (ltb h.frame_table h.slot_table) f in'))

-- The area fits the restored memory.
pub restored_area : (h : Hardware) (v : disk.DiskImage) (dump m : Memory) (loader : Loader) (i : Image) → IsHardware h → IsImageOf h v i m → dump_area_fault h v (restored h dump loader i) ≡ None
unfolding dump_area_fault
restored_area h v dump m loader i hw is =
    ap (λ (o : Option NoSwap). first_fault o (bad_set_fault h (restored h dump loader i) (area_kind (area_block h v)))) is.fits_area.area
    ∙ bad_set-same h m (restored h dump loader i) (area_kind (area_block h v)) (restored_slots h dump m loader i hw is.fits is.image) ∙ is.fits_area.bad_slots
