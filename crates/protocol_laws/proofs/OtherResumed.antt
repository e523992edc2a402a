-- The end of a resume of another's image.
use Rattle.std.proofs.Common.{◌≡◌, ℕ, ◌/◌, ◌<◌, ◌≤◌, Bool, true, false, cond, ltb, leb, ◌&&◌, List, Option, Some, None, IsSome, is_none, refl, sym, ap, ap₂, ◌∙◌, subst, arith}
use Rattle.std.proofs.lemmas.Bool.{false≢true, cond-true, ltb-true, leb-true, lt-ltb, le-leb}
use Rattle.std.proofs.lemmas.Option.{none-some, cond_some}
use Rattle.definitions.specs.Disk as disk
use Rattle.definitions.proofs.DiskLaws.{IsImage-as_it_reads}
use Rattle.image_format.specs.AreaKind.{area_kind}
use Rattle.plain_machine.specs.Machine.{Hardware, Memory, block_of_slot, slot_entry, tables_fault}
use Rattle.plain_machine.specs.Chain.{blocks_of, or_else}
use Rattle.plain_machine.specs.Stands.{IsHeld, IsTaskSlot, FitsArea}
use Rattle.plain_machine.specs.Step.{no_flights}
use Rattle.plain_machine.proofs.BadSlots.{no_target, no_flights-owned, has_area}
use Rattle.plain_machine.specs.Trace.{tables_cause, restored_in, slots_in}
use Rattle.plain_machine.specs.UsableArea.{area_block, area_fault, bad_set_fault, dump_area_fault, first_fault}
use Rattle.plain_machine.specs.declared.no_swap.NoSwap.{NoSwap}
use Rattle.plain_machine.specs.declared.reply.Reply.{Reply}
use Rattle.plain_machine.specs.declared.reply.Reply.TheVariants as reply
use Rattle.protocol_laws.specs.ResumingOther.{with_found_other, other_running, ResumesOther}
use Rattle.protocol_laws.proofs.Places.{usable_area, task_not_header}
use Rattle.protocol_laws.proofs.TakingBack.{held_later, fits_by_area}
use Rattle.protocol_laws.proofs.Resumed.{area_taken_back}

-- What no fault of the tables says of the area.

abbrev tables_reply : Option ℕ → Option Reply
tables_reply o = elim o as (λ x. Option Reply) [ None ↦ None | Some f ↦ Some (reply.BadTables f) ]

no_reply : (o : Option ℕ) → tables_reply o ≡ None → o ≡ None
no_reply None e = refl
no_reply (Some f) e = absurd (none-some (reply.BadTables f) (sym e))

second_none : (o p : Option ℕ) → or_else o p ≡ None → p ≡ None
second_none None p e = e
second_none (Some f) p e = absurd (none-some f (sym e))

none_of : (o : Option NoSwap) (f : ℕ) → cond (is_none o) None (Some f) ≡ None → o ≡ None
none_of None f e = refl
none_of (Some why) f e = absurd (none-some f (sym e))

both_none : (o p : Option NoSwap) → first_fault o p ≡ None → (o ≡ None) × (p ≡ None)
both_none None p e = (refl, e)
both_none (Some why) p e = absurd (none-some why (sym e))

area_fits : (h : Hardware) (v : disk.DiskImage) (m : Memory) → tables_cause h v m ≡ None → FitsArea h v m
unfolding dump_area_fault
area_fits h v m none =
    let area = none_of (dump_area_fault h v m) h.slot_table (second_none (tables_fault h m) (cond (is_none (dump_area_fault h v m)) None (Some h.slot_table))
    (no_reply (or_else (tables_fault h m) (cond (is_none (dump_area_fault h v m)) None (Some h.slot_table))) none)) in
    let both = both_none (area_fault h v) (bad_set_fault h m (area_kind (area_block h v))) area in
    record { area = both.0; bad_slots = both.1 }

-- A slot that has a page is a task's.

all_three : (b c d : Bool) → (b && c && d) ≡ true → (b ≡ true) × (c ≡ true) × (d ≡ true)
all_three true true true e = (refl, refl, refl)
all_three true true false e = absurd (false≢true e)
all_three true false d e = absurd (false≢true e)
all_three false c d e = absurd (false≢true e)

pub has_page : (h : Hardware) (v : disk.DiskImage) (m : Memory) (s : ℕ) (page : List ℕ) → slots_in h v m s ≡ Some page → ((s < h.slots) × (1 ≤ slot_entry h m s) × (slot_entry h m s ≤ 64)) × (disk.block v (block_of_slot h s) ≡ page)
has_page h v m s page e =
    let entry = slot_entry h m s in
    let is = cond_some (ltb s h.slots && ltb 0 entry && leb entry 64) (disk.block v (block_of_slot h s)) page e in
    let each = all_three (ltb s h.slots) (ltb 0 entry) (leb entry 64) is.0 in
    let some = ltb-true 0 entry each.1 in
    ((ltb-true s h.slots each.0, omega arith, leb-true entry 64 each.2), is.1)

-- and each task's slot has a page
pub is_paged : (h : Hardware) (v : disk.DiskImage) (m : Memory) (s : ℕ) → IsTaskSlot h m s → IsSome (slots_in h v m s)
is_paged h v m s is =
    let entry = slot_entry h m s in
    let test : (ltb s h.slots && ltb 0 entry && leb entry 64) ≡ true =
    ap₂ (λ (a b : Bool). a && b) (ap₂ (λ (a b : Bool). a && b) (lt-ltb s h.slots is.0) (let some = is.1 in lt-ltb 0 entry (omega arith))) (le-leb entry 64 is.2) in
    let page : Option (List ℕ) = Some (disk.block v (block_of_slot h s)) in
    subst IsSome (sym (cond-true (ltb s h.slots && ltb 0 entry && leb entry 64) page None test)) refl

pub resumes_other : ResumesOther
resumes_other h shown shown' c blocks load v k hw whole le stands marked none activity shows names =
    let m = restored_in h load.dump v load.loader in
    let w = disk.as_it_reads c in
    let here = IsImage-as_it_reads blocks c whole in
    let taken = stands.parts.resume.others v refl w here in
    let unmarked = stands.parts.resume.taken_back le w here in
    let fits = area_fits h v m none in
    let usable = usable_area h v fits.area in
    let count : blocks_of w ≡ blocks_of v = ap (λ (n : ℕ). n / 8) taken.size in
    let now = fits_by_area h m w v count (area_taken_back h v w marked unmarked taken) fits in
    record {
      activity = activity;
      parts = record {
        memory = shows;
        disk = record {
          held = subst (IsHeld h c) (held_later (with_found_other load v) k le) stands.parts.held;
          task_slots = record {
            usable = λ s page e. refl;
            tasks = λ s page e. (has_page h v m s page e).0;
            landed = λ s page e. no_target no_flights (λ t. refl) s;
            paged = λ none s is not. is_paged h v m s is;
          };
          flights = no_flights-owned h (other_running h load v) (λ t. refl);
          slot_pages = λ s page e.
              let has = has_page h v m s page e in
              taken.others (block_of_slot h s) (usable.on_disk s has.0.0) (task_not_header h m s hw shows.fits has.0.0 has.0.2) ∙ has.1;
          names = names;
          header = stands.parts.header;
          area = has_area h c (other_running h load v) refl now;
        };
      };
    }
