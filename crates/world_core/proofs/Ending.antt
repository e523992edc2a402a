-- The row of a boot's end.
use Rattle.protocol_laws.proofs.Unwritten.{block_same}
use Rattle.std.proofs.Common.{◌≡◌, ◌⊎◌, inl, inr, ℕ, replicate, ◌<◌, ◌≤◌, ◌^◌, Bool, true, false, cond, not, ◌&&◌, List, [], ◌∷◌, ◌++◌, Option, Some, None, is_none, Result, Ok, Err, refl, sym, ap, ◌∙◌, arith, subst, eqb, ⊎_elim}
use Rattle.std.proofs.lemmas.Bool.{cases_eq, eqb-true, false≢true}
use Rattle.std.proofs.lemmas.Option.{none-some}
use Rattle.std.specs.List.{Contains, range_with_len, list_all}
use Rattle.definitions.specs.Disk as disk
use Rattle.definitions.proofs.Ascending.{Contains-head, Contains-tail}
use Rattle.definitions.proofs.DiskLaws.{IsImage-as_it_reads}
use Rattle.definitions.proofs.ZoneNumbers.{range-bounds}
use Rattle.image_format.specs.AreaKind.{area_kind}
use Rattle.image_format.specs.declared.signature.area.Area.{Area}
use Rattle.plain_machine.specs.Machine.{Hardware, Memory, IsHardware, IsSameMemory, Fits, block_of_slot, is_slot_entry, raw_slot_entry, bad_slot, image_slot}
use Rattle.plain_machine.specs.Chain.{Marked}
use Rattle.plain_machine.specs.Loader.{has}
use Rattle.plain_machine.specs.UsableArea.{area_block, area_fault, bad_set_fault, bad_slots_of, dump_area_fault}
use Rattle.plain_machine.specs.Trace.{slots_in}
use Rattle.plain_machine.specs.State.{off, on, booting, Held, nothing, sure, maybe, own, other}
use Rattle.plain_machine.specs.Stands.{Stands, AreTaskSlots, IsHeld, IsHeader, IsOwn, IsTaskSlot, HasOneImage, NamesOwn, NamesHeld, ShowsBoot}
use Rattle.plain_machine.specs.Image.{Image}
use Rattle.plain_machine.proofs.BadSlots.{no_target, no_flights-owned, dump_area-of}
use Rattle.protocol_laws.proofs.OtherResumed.{has_page, is_paged}
use Rattle.restore_laws.proofs.BroughtBack.{no_image_slot}
use Rattle.plain_machine.specs.Step.{fresh_slot, booted, boot_outcomes, no_slots, no_flights}
use Rattle.plain_machine.specs.FreshMemory.{fresh_frames, fresh_memory, with_each_entry}
use Rattle.plain_machine.specs.Shows.{WorldView, seen_frames, ShowsHeld, ShowsRunning}
use Rattle.plain_machine.specs.declared.event.BootFrom.{BootFrom}
use Rattle.plain_machine.specs.declared.event.BootFrom.TheVariants.{Fresh, Kept}
use Rattle.plain_machine.specs.declared.event.Event.TheVariants as event
use Rattle.plain_machine.specs.declared.event.Actor.TheVariants as actor
use Rattle.plain_machine.specs.declared.held.Held.{Held as HeldFlag}
use Rattle.plain_machine.specs.declared.held.Held.TheVariants.{No, Yes}
use Rattle.plain_machine.specs.declared.no_swap.NoSwap.{NoSwap}
use Rattle.plain_machine.specs.declared.no_swap.NoSwap.TheVariants as no_swap
use Rattle.plain_machine.specs.declared.reply.Left.TheVariants.{Same}
use Rattle.plain_machine.specs.declared.reply.Reply.TheVariants as reply
use Rattle.plain_machine.proofs.EachEntry.{each-same}
use Rattle.plain_machine.proofs.Fresh.{slots_filled, slot_entry-fresh_memory, fits-fresh_memory, seen-plain}
use Rattle.plain_machine.proofs.SameMemory.{same_refl}
use Rattle.machine.specs.FreshSlots.{slot_of_area}
use Rattle.world_core.specs.declared.world.Core.TheVariants.{Off, Running as Runs, BootSynced, Loading}
use Rattle.world_core.specs.World.{World}
use Rattle.world_core.specs.StandsFor.{StandsFor, hardware_of, shown}
use Rattle.world_core.specs.declared.world.Core.{Core}
use Rattle.world_core.specs.Row.{Simulates, TellsMark}
use Rattle.world_core.proofs.Cases.{activity_by}
use Rattle.world_core.proofs.Rows.{area_of_same, accepted_step, row_at_boot}
use Rattle.world_core.proofs.Booting.{accepts_step, failed_stands}
use Rattle.world_core.proofs.Headers.{IsAreaOf, StartsOver, reason_read, slot_read}
use Rattle.machine.specs.Flights.{flights_in}
use Rattle.machine.specs.Running.{reason_of}
use Rattle.machine.specs.declared.flight.Flight.{Flight}
use Rattle.machine.specs.declared.flight.Flight.TheVariants.{Nothing}
use Rattle.machine.proofs.Readiness.{flights-none}
use Rattle.world_core.specs.Started.{memory_at_start}

-- The slots of fresh memory.

one_of_two : (b : Bool) (x y : ℕ) → (cond b x y ≡ x) ⊎ (cond b x y ≡ y)
one_of_two true x y = inl refl
one_of_two false x y = inr refl

slot_value : (area : Result Area NoSwap) (s : ℕ) → (slot_of_area area s ≡ bad_slot) ⊎ (slot_of_area area s ≡ 0)
slot_value (Ok area) s = one_of_two (has (bad_slots_of area) s) bad_slot 0
slot_value (Err why) s = inl refl

slot_zero : (area : Result Area NoSwap) → slot_of_area area 0 ≡ bad_slot
slot_zero (Ok area) = refl
slot_zero (Err why) = refl

slot_well : (area : Result Area NoSwap) (s : ℕ) → is_slot_entry s (slot_of_area area s) ≡ true
slot_well area s =
    elim (cases_eq s 0) [
      | inl e ↦ ap (λ (k : ℕ). is_slot_entry k (slot_of_area area k)) e ∙ ap (is_slot_entry 0) (slot_zero area)
      | inr ne ↦ ⊎_elim (λ e. ap (is_slot_entry s) e) (λ e. ap (is_slot_entry s) e ∙ ap (λ (b : Bool). not b && true) (not_true (eqb s 0) (λ t. ne (eqb-true s 0 t)))) (slot_value area s)
    ] where
      not_true : (b : Bool) → (b ≡ true → ⊥) → b ≡ false
      not_true true never = absurd (never refl)
      not_true false never = refl

all_true : (test : ℕ → Bool) (xs : List ℕ) → ((x : ℕ) → Contains xs x → test x ≡ true) → list_all test xs ≡ true
all_true test [] each = refl
all_true test (x ∷ xs) each = ap (λ (b : Bool). b && list_all test xs) (each x (Contains-head x xs)) ∙ all_true test xs (λ y in'. each y (Contains-tail x xs y in'))

-- What is held after a boot.

abbrev pub SettlesHeld : Hardware → disk.Content → BootFrom → Memory → Held → Bool → Type 0
SettlesHeld h c from dump held image =
    (now : Held) × Contains (boot_outcomes h (disk.as_it_reads c) from dump held ++ (reply.ReadFault Same, off held None) ∷ []) (reply.Booted image, on (booted h (disk.as_it_reads c) from dump now))
    × ShowsHeld (cond image Yes No) now × IsHeld h c now

settles_held : (h : Hardware) (c : disk.Content) (from : BootFrom) (dump : Memory) (held : Held) (image : Bool) → disk.IsImage c (disk.as_it_reads c) → HasOneImage c → IsHeld h c held →
    (image ≡ true → Marked h (disk.as_it_reads c)) → (image ≡ false → Marked h (disk.as_it_reads c) → ⊥) → SettlesHeld h c from dump held image
settles_held h c from dump nothing true here one is marked unmarked = absurd (is (disk.as_it_reads c) here (marked refl))
settles_held h c from dump nothing false here one is marked unmarked = (nothing, (0, omega arith, refl), tt, is)
settles_held h c from dump (sure (own i)) true here one is marked unmarked = (sure (own i), (0, omega arith, refl), tt, is)
settles_held h c from dump (sure (own i)) false here one is marked unmarked = absurd (unmarked refl (is (disk.as_it_reads c) here).0.marked)
settles_held h c from dump (sure other) true here one is marked unmarked = (sure other, (0, omega arith, refl), tt, is)
settles_held h c from dump (sure other) false here one is marked unmarked = absurd (unmarked refl (is (disk.as_it_reads c) here))
settles_held h c from dump (maybe (own i)) true here one is marked unmarked = (
  sure (own i),
  (1, omega arith, refl),
  tt,
  λ w in'. (elim (is w in').0 [ inl never ↦ absurd (never (subst (Marked h) (one (disk.as_it_reads c) w here in') (marked refl))) | inr holds ↦ holds ], (is w in').1),
)
settles_held h c from dump (maybe (own i)) false here one is marked unmarked =
    (nothing, (0, omega arith, refl), tt, λ w in' m. unmarked refl (subst (Marked h) (one w (disk.as_it_reads c) in' here) m))
settles_held h c from dump (maybe other) true here one is marked unmarked =
    (sure other, (1, omega arith, refl), tt, λ w in'. subst (Marked h) (one (disk.as_it_reads c) w here in') (marked refl))
settles_held h c from dump (maybe other) false here one is marked unmarked =
    (nothing, (0, omega arith, refl), tt, λ w in' m. unmarked refl (subst (Marked h) (one w (disk.as_it_reads c) in' here) m))

-- What has come about at the end of a boot, over a disk that reads v.
pub record Ends (from : BootFrom) (old new : World) (v : disk.DiskImage) (image : Bool) : Type 0 where
  pub core : new.core ≡ Runs
  pub hardware : hardware_of new ≡ hardware_of old
  pub area : StartsOver from (hardware_of old) v old.frames new.machine.area
  pub frames : new.frames ≡ memory_at_start from (hardware_of old) new.machine.area old.frames
  pub held : new.machine.held ≡ cond image Yes No
  pub flights : new.machine.flights ≡ replicate 64 Nothing
  pub marked : image ≡ true → Marked (hardware_of old) v
  pub unmarked : image ≡ false → Marked (hardware_of old) v → ⊥

frames_fresh : (old new : World) (v : disk.DiskImage) (image : Bool) → Ends Fresh old new v image → IsHardware (hardware_of old) → old.frames ≡ fresh_frames (hardware_of old) → new.frames ≡ fresh_memory (hardware_of old) (fresh_slot (hardware_of old) v)
frames_fresh old new v image ends hw fresh =
    let h = hardware_of old in
    ends.frames ∙ ap (with_each_entry (slot_of_area new.machine.area) (range_with_len 0 h.slots) h.slot_table) fresh
    ∙ each-same (slot_of_area new.machine.area) (fresh_slot h v) (range_with_len 0 h.slots) h.slot_table (fresh_frames h) (λ s. slot_read h v new.machine.area s ends.area)
    ∙ slots_filled h (fresh_slot h v) hw

-- no slot of fresh memory is an image's
fresh_value : (h : Hardware) (v : disk.DiskImage) (area : Result Area NoSwap) (s : ℕ) → IsAreaOf h v area → (fresh_slot h v s ≡ bad_slot) ⊎ (fresh_slot h v s ≡ 0)
fresh_value h v area s is = let e = slot_read h v area s is in ⊎_elim (λ bad. inl (sym e ∙ bad)) (λ free. inr (sym e ∙ free)) (slot_value area s)

fresh_small : (h : Hardware) (v : disk.DiskImage) (area : Result Area NoSwap) (s : ℕ) → IsAreaOf h v area → fresh_slot h v s < 2 ^ 32
fresh_small h v area s is =
    ⊎_elim (λ (e : fresh_slot h v s ≡ bad_slot). let r : fresh_slot h v s < 2 ^ 32 = omega arith in r) (λ (e : fresh_slot h v s ≡ 0). let r : fresh_slot h v s < 2 ^ 32 = omega arith in r) (fresh_value h v area s is)

fresh_plain : (h : Hardware) (v : disk.DiskImage) (area : Result Area NoSwap) (s : ℕ) → IsHardware h → IsAreaOf h v area → s < h.slots → raw_slot_entry h (fresh_memory h (fresh_slot h v)) s ≡ image_slot → ⊥
fresh_plain h v area s hw is lt e =
    let at = slot_entry-fresh_memory h (fresh_slot h v) s hw (λ k. fresh_small h v area k is) lt in
    ⊎_elim (λ (b : fresh_slot h v s ≡ bad_slot). let r : ⊥ = omega arith in r) (λ (f : fresh_slot h v s ≡ 0). let r : ⊥ = omega arith in r) (fresh_value h v area s is)

no_operation : (flights : List Flight) (t : ℕ) → flights ≡ replicate 64 Nothing → None ≡ flights_in flights t
no_operation flights t none = sym (ap (λ (fs : List Flight). flights_in fs t) none ∙ flights-none 64 t)

shows_running : (old new : World) (v : disk.DiskImage) (image : Bool) (dump : Memory) (now : Held) → Ends Fresh old new v image → IsHardware (hardware_of old) → old.frames ≡ fresh_frames (hardware_of old) → ShowsHeld new.machine.held now →
    ShowsRunning (hardware_of old) (shown new) (booted (hardware_of old) v Fresh dump now)
shows_running old new v image dump now ends hw fresh flag =
    let h = hardware_of old in
    let m = fresh_memory h (fresh_slot h v) in
    let seen : seen_frames h new.frames ≡ m = ap (seen_frames h) (frames_fresh old new v image ends hw fresh) ∙ seen-plain h m (λ s lt. fresh_plain h v new.machine.area s hw ends.area lt) in
    record {
      held = flag;
      unusable = reason_read h v new.machine.area ends.area;
      flights = λ t. no_operation new.machine.flights t ends.flights;
      same = subst (IsSameMemory h m) (sym seen) (same_refl h m);
      fits = fits-fresh_memory h (fresh_slot h v) hw (λ s. fresh_small h v new.machine.area s ends.area)
          (λ s. ap (is_slot_entry s) (sym (slot_read h v new.machine.area s ends.area)) ∙ slot_well new.machine.area s);
    }

names_own : (h : Hardware) (s : WorldView) (v : disk.DiskImage) (i : Image) → ((k : ℕ) → k < h.slots → raw_slot_entry h s.frames k ≡ image_slot → ⊥) → IsOwn h v i → NamesOwn h s i
names_own h s v i plain is = record { memory = is.of_memory.0; image = is.of_memory.1.image; names = λ k lt e. absurd (plain k lt e) }

names_none : (h : Hardware) (s : WorldView) (c : disk.Content) (held : Held) → disk.IsImage c (disk.as_it_reads c) → ((k : ℕ) → k < h.slots → raw_slot_entry h s.frames k ≡ image_slot → ⊥) → IsHeld h c held → NamesHeld h s held
names_none h s c nothing here plain is = λ k lt e. absurd (plain k lt e)
names_none h s c (sure (own i)) here plain is = names_own h s (disk.as_it_reads c) i plain (is (disk.as_it_reads c) here).1
names_none h s c (sure other) here plain is = λ k lt e. absurd (plain k lt e)
names_none h s c (maybe (own i)) here plain is = names_own h s (disk.as_it_reads c) i plain (is (disk.as_it_reads c) here).1
names_none h s c (maybe other) here plain is = λ k lt e. absurd (plain k lt e)

-- no slot of fresh memory is a task's
not_a_tasks : (e : ℕ) → (e ≡ bad_slot) ⊎ (e ≡ 0) → 1 ≤ cond (eqb e image_slot) 0 e → cond (eqb e image_slot) 0 e ≤ 64 → ⊥
not_a_tasks e (inl bad) some few =
    let is : cond (eqb e image_slot) 0 e ≡ bad_slot = ap (λ (x : ℕ). cond (eqb x image_slot) 0 x) bad in omega arith
not_a_tasks e (inr free) some few =
    let is : cond (eqb e image_slot) 0 e ≡ 0 = ap (λ (x : ℕ). cond (eqb x image_slot) 0 x) free in omega arith

fresh_unowned : (h : Hardware) (v : disk.DiskImage) (area : Result Area NoSwap) (s : ℕ) → IsHardware h → IsAreaOf h v area → IsTaskSlot h (fresh_memory h (fresh_slot h v)) s → ⊥
fresh_unowned h v area s hw is task =
    let at = slot_entry-fresh_memory h (fresh_slot h v) s hw (λ k. fresh_small h v area k is) task.0 in
    not_a_tasks (raw_slot_entry h (fresh_memory h (fresh_slot h v)) s) (⊎_elim (λ bad. inl (at ∙ bad)) (λ free. inr (at ∙ free)) (fresh_value h v area s is)) task.1 task.2

-- the bad slots of the table are the area's
bad_slots_are : (h : Hardware) (v : disk.DiskImage) (area : Result Area NoSwap) → IsHardware h → IsAreaOf h v area → area_fault h v ≡ None → bad_set_fault h (fresh_memory h (fresh_slot h v)) (area_kind (area_block h v)) ≡ None
bad_slots_are h v (Err why) hw is none = absurd (none-some why (sym none ∙ is))
bad_slots_are h v (Ok area) hw is none =
    let m = fresh_memory h (fresh_slot h v) in
    let test : ℕ → Bool = λ s. cond (eqb (raw_slot_entry h m s) bad_slot) (has (bad_slots_of area) s) (not (has (bad_slots_of area) s)) in
    let each : (s : ℕ) → Contains (range_with_len 0 h.slots) s → test s ≡ true = λ s in'.
    let bounds = range-bounds 0 h.slots s in' in
    let below = bounds.1 in
    let at : raw_slot_entry h m s ≡ cond (has (bad_slots_of area) s) bad_slot 0 = slot_entry-fresh_memory h (fresh_slot h v) s hw (λ k. fresh_small h v (Ok area) k is) (omega arith) ∙ sym (slot_read h v (Ok area) s is) in
    ap (λ (entry : ℕ). cond (eqb entry bad_slot) (has (bad_slots_of area) s) (not (has (bad_slots_of area) s))) at ∙ agree (has (bad_slots_of area) s) in
    ap (bad_set_fault h m) is.0 ∙ ap (λ (b : Bool). cond b None (Some no_swap.BadSet)) (all_true test (range_with_len 0 h.slots) each) where
      agree : (b : Bool) → cond (eqb (cond b bad_slot 0) bad_slot) b (not b) ≡ true
      agree true = refl
      agree false = refl

stands_on : (old new : World) (c : disk.Content) (image : Bool) (dump : Memory) (now : Held) → disk.IsImage c (disk.as_it_reads c) → Ends Fresh old new (disk.as_it_reads c) image → IsHardware (hardware_of old) → old.frames ≡ fresh_frames (hardware_of old) →
    ShowsHeld new.machine.held now → IsHeld (hardware_of old) c now → IsHeader (hardware_of old) c → StandsFor new c (on (booted (hardware_of old) (disk.as_it_reads c) Fresh dump now))
stands_on old new c image dump now here ends hw fresh flag held header =
    let h = hardware_of old in
    let v = disk.as_it_reads c in
    let frames = frames_fresh old new v image ends hw fresh in
    let stands : Stands (hardware_of new) (shown new) c (on (booted h v Fresh dump now)) =
    subst (λ (g : Hardware). Stands g (shown new) c (on (booted h v Fresh dump now))) (sym ends.hardware)
    (record {
      activity = activity_by new Runs ends.core;
      parts = record {
        memory = shows_running old new v image dump now ends hw fresh flag;
        disk = record {
          held = held;
          task_slots = record {
            usable = λ s page e. absurd (none-some page e);
            tasks = λ s page e. absurd (none-some page e);
            landed = λ s page e. absurd (none-some page e);
            paged = λ usable s is not. absurd (fresh_unowned h v new.machine.area s hw ends.area is);
          };
          flights = no_flights-owned h (booted h v Fresh dump now) (λ t. refl);
          slot_pages = λ s page e. absurd (none-some page e);
          names = names_none h (shown new) c now here (λ s lt e. fresh_plain h v new.machine.area s hw ends.area lt (ap (λ (n : Memory). raw_slot_entry h n s) (sym frames) ∙ e)) held;
          header = header;
          area = dump_area-of h v (fresh_memory h (fresh_slot h v)) (bad_slots_are h v new.machine.area hw ends.area);
        };
      };
    }) in
    record { stands = stands; image = tt; resume = tt }

-- A dump's memory runs as it is.

-- the tasks' slots of the dump, where the area can be used
kept_slots : (h : Hardware) (v : disk.DiskImage) (m : Memory) (fault : Option NoSwap) → AreTaskSlots h fault m no_flights (cond (is_none fault) (slots_in h v m) no_slots)
kept_slots h v m None = record {
  usable = λ s page e. refl;
  tasks = λ s page e. (has_page h v m s page e).0;
  landed = λ s page e. no_target no_flights (λ t. refl) s;
  paged = λ none s is not. is_paged h v m s is;
}
kept_slots h v m (Some why) = record {
  usable = λ s page e. absurd (none-some page e);
  tasks = λ s page e. absurd (none-some page e);
  landed = λ s page e. absurd (none-some page e);
  paged = λ none s is not. absurd (none-some why (sym none));
}

kept_pages : (h : Hardware) (v : disk.DiskImage) (m : Memory) (fault : Option NoSwap) (s : ℕ) (page : List ℕ) → cond (is_none fault) (slots_in h v m) no_slots s ≡ Some page → disk.block v (block_of_slot h s) ≡ page
kept_pages h v m None s page e = (has_page h v m s page e).1
kept_pages h v m (Some why) s page e = absurd (none-some page e)

kept_reason : (h : Hardware) (v : disk.DiskImage) (m : Memory) (area : Result Area NoSwap) → StartsOver Kept h v m area → dump_area_fault h v m ≡ reason_of area
kept_reason h v m (Ok area) is = is.1
kept_reason h v m (Err why) is = is

shows_kept : (old new : World) (v : disk.DiskImage) (image : Bool) (dump : Memory) (now : Held) → Ends Kept old new v image → old.frames ≡ dump → Fits (hardware_of old) dump → ShowsHeld new.machine.held now →
    ShowsRunning (hardware_of old) (shown new) (booted (hardware_of old) v Kept dump now)
shows_kept old new v image dump now ends is fits flag =
    let h = hardware_of old in
    let frames : new.frames ≡ dump = ends.frames ∙ is in
    let seen : seen_frames h new.frames ≡ dump = ap (seen_frames h) frames ∙ seen-plain h dump (no_image_slot h dump fits) in
    record {
      held = flag;
      unusable = kept_reason h v dump new.machine.area (subst (λ (m : Memory). StartsOver Kept h v m new.machine.area) is ends.area);
      flights = λ t. no_operation new.machine.flights t ends.flights;
      same = subst (IsSameMemory h dump) (sym seen) (same_refl h dump);
      fits = fits;
    }

stands_kept : (old new : World) (c : disk.Content) (image : Bool) (dump : Memory) (now : Held) → disk.IsImage c (disk.as_it_reads c) → Ends Kept old new (disk.as_it_reads c) image → old.frames ≡ dump → Fits (hardware_of old) dump →
    ShowsHeld new.machine.held now → IsHeld (hardware_of old) c now → IsHeader (hardware_of old) c → StandsFor new c (on (booted (hardware_of old) (disk.as_it_reads c) Kept dump now))
stands_kept old new c image dump now here ends is fits flag held header =
    let h = hardware_of old in
    let v = disk.as_it_reads c in
    let frames : new.frames ≡ dump = ends.frames ∙ is in
    let stands : Stands (hardware_of new) (shown new) c (on (booted h v Kept dump now)) =
    subst (λ (g : Hardware). Stands g (shown new) c (on (booted h v Kept dump now))) (sym ends.hardware)
    (record {
      activity = activity_by new Runs ends.core;
      parts = record {
        memory = shows_kept old new v image dump now ends is fits flag;
        disk = record {
          held = held;
          task_slots = kept_slots h v dump (dump_area_fault h v dump);
          flights = no_flights-owned h (booted h v Kept dump now) (λ t. refl);
          slot_pages = λ s page e. kept_pages h v dump (dump_area_fault h v dump) s page e;
          names = names_none h (shown new) c now here (λ s lt e. no_image_slot h dump fits s lt (ap (λ (n : Memory). raw_slot_entry h n s) (sym frames) ∙ e)) held;
          header = header;
          area = refl;
        };
      };
    }) in
    record { stands = stands; image = tt; resume = tt }

-- The end, from either memory.

pub record BootsAt (w : World) (c : disk.Content) (from : BootFrom) (dump : Memory) (held : Held) : Type 0 where
  pub shows : ShowsBoot (hardware_of w) (shown w) from dump
  pub held_is : IsHeld (hardware_of w) c held
  pub header : IsHeader (hardware_of w) c
  pub one : HasOneImage c

booting_parts : (w : World) (c : disk.Content) (from : BootFrom) (dump : Memory) (held : Held) → StandsFor w c (booting from dump held 1) → BootsAt w c from dump held
booting_parts w c from dump held stands = record { shows = stands.stands.parts.memory; held_is = stands.stands.parts.held; header = stands.stands.parts.header; one = stands.stands.parts.before }

stands_started : (old new : World) (c : disk.Content) (from : BootFrom) (image : Bool) (dump : Memory) (before now : Held) → disk.IsImage c (disk.as_it_reads c) → Ends from old new (disk.as_it_reads c) image → IsHardware (hardware_of old) → BootsAt old c from dump before →
    ShowsHeld new.machine.held now → IsHeld (hardware_of old) c now → StandsFor new c (on (booted (hardware_of old) (disk.as_it_reads c) from dump now))
stands_started old new c Fresh image dump before now here ends hw at flag held = stands_on old new c image dump now here ends hw at.shows flag held at.header
stands_started old new c Kept image dump before now here ends hw at flag held = stands_kept old new c image dump now here ends at.shows.0 at.shows.1 flag held at.header

pub boot_ends : (old new : World) (blocks : ℕ) (c : disk.Content) (from : BootFrom) (image : Bool) → disk.IsContent blocks c → old.core ≡ BootSynced from → Ends from old new (disk.as_it_reads c) image → IsHardware (hardware_of old) → Simulates (event.Step actor.Core) old new (reply.Booted image) c c
boot_ends old new blocks c from image whole core ends hw =
    row_at_boot (event.Step actor.Core) old new (reply.Booted image) c c from 1 (activity_by old (BootSynced from) core)
    (λ dump held stands.
    let h = hardware_of old in
    let v = disk.as_it_reads c in
    let here = IsImage-as_it_reads blocks c whole in
    let at = booting_parts old c from dump held stands in
    let settled = settles_held h c from dump held image here at.one at.held_is ends.marked ends.unmarked in (
      on (booted h v from dump settled.0),
      record {
        step = accepted_step h v (booting from dump held 1) (event.Step actor.Core) (reply.Booted image) (on (booted h v from dump settled.0)) (accepts_step h from dump held 1) settled.1;
        stands = stands_started old new c from image dump held settled.0 here ends hw at (subst (λ (f : HeldFlag). ShowsHeld f settled.0) (sym ends.held) settled.2) settled.3;
        area = area_of_same (hardware_of old) (disk.as_it_reads c) (disk.as_it_reads c) refl;
        unwritten = λ b not. block_same b _;
        leaves = tt;
        header = tt;
      },
    ))

read_fault_in : (h : Hardware) (v : disk.DiskImage) (from : BootFrom) (dump : Memory) (held : Held) → Contains (boot_outcomes h v from dump held ++ (reply.ReadFault Same, off held None) ∷ []) (reply.ReadFault Same, off held None)
read_fault_in h v from dump nothing = (1, omega arith, refl)
read_fault_in h v from dump (sure x) = (1, omega arith, refl)
read_fault_in h v from dump (maybe x) = (2, omega arith, refl)

pub boot_read_fails : (old new : World) (c : disk.Content) (from : BootFrom) → old.core ≡ BootSynced from → new.core ≡ Off false → hardware_of new ≡ hardware_of old → Simulates (event.Step actor.Core) old new (reply.ReadFault Same) c c
boot_read_fails old new c from core core' hw =
    row_at_boot (event.Step actor.Core) old new (reply.ReadFault Same) c c from 1 (activity_by old (BootSynced from) core)
    (λ dump held stands. (
      off held None,
      record {
        step = accepted_step (hardware_of old) (disk.as_it_reads c) (booting from dump held 1) (event.Step actor.Core) (reply.ReadFault Same) (off held None) (accepts_step (hardware_of old) from dump held 1) (read_fault_in (hardware_of old) (disk.as_it_reads c) from dump held);
        stands = failed_stands old new c from dump held 1 core' hw stands;
        area = area_of_same (hardware_of old) (disk.as_it_reads c) (disk.as_it_reads c) refl;
        unwritten = λ b not. block_same b _;
        leaves = tt;
        header = tt;
      },
    ))

-- What the end says of an image.

abbrev is_loading : Core → Bool
is_loading Loading = true
is_loading _ = false

when_marked : (b : Bool) (M : Type 0) → (b ≡ false → M → ⊥) → M → b ≡ true
when_marked true M un m = refl
when_marked false M un m = absurd (un refl m)

pub tells_mark : (from : BootFrom) (old new : World) (v : disk.DiskImage) (image : Bool) → old.core ≡ BootSynced from → Ends from old new v image → TellsMark old (reply.Booted image) v
tells_mark from old new v image core ends = record {
  boots = λ other is. (ends.marked, when_marked image (Marked (hardware_of old) v) ends.unmarked);
  finds = λ loads at. absurd (false≢true (sym (ap is_loading core) ∙ ap is_loading loads));
}
