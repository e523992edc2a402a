-- Tasks that swap: a state stands on after the step that ends a task's operation.
use Rattle.std.proofs.Common.{◌≡◌, ◌≢◌, inl, inr, ℕ, ◌+◌, ◌*◌, ◌<◌, ◌≤◌, Bool, true, cond, List, length, Option, Some, None, unwrap_or, Contains, refl, sym, ap, ◌∙◌, arith, subst}
use Rattle.std.specs.Option.{IsSome}
use Rattle.std.proofs.lemmas.Bool.{cases_eq, eq-eqb, ne_eqb}
use Rattle.std.proofs.lemmas.Option.{none-some, same_Some}
use Rattle.definitions.specs.Bytes.{IsPage}
use Rattle.definitions.specs.Disk as disk
use Rattle.definitions.specs.Tables.{frame}
use Rattle.definitions.specs.Zones.{numbers}
use Rattle.image_laws.specs.ImageBlocks.{Tries}
use Rattle.plain_machine.specs.Chain.{blocks_of}
use Rattle.plain_machine.specs.Image.{SlotPages}
use Rattle.plain_machine.specs.Loader.{has}
use Rattle.plain_machine.specs.Machine.{Hardware, Memory, IsHardware, Fits, frame_entry, slot_entry, is_slot_of, block_of_slot}
use Rattle.plain_machine.specs.Shows.{WorldView}
use Rattle.plain_machine.specs.Stands.{StandsOn, IsTaskSlot, IsTarget, IsFlight, HasFlights, HaveSlotPages, IsHeld}
use Rattle.plain_machine.specs.State.{on, Running, Flight, goes_out, comes_in}
use Rattle.plain_machine.specs.Step.{Outcome, finished, with_frame, with_slot_entry, with_flight, with_slot}
use Rattle.plain_machine.specs.declared.reply.Left.TheVariants.{Same}
use Rattle.plain_machine.specs.declared.reply.Reply.{Reply}
use Rattle.plain_machine.specs.declared.reply.Reply.TheVariants as reply
use Rattle.definitions.proofs.DiskLaws.{length-as_it_reads}
use Rattle.plain_machine.proofs.BadSlots.{fits_area}
use Rattle.plain_machine.proofs.DiskBlocks.{block-written}
use Rattle.protocol_laws.proofs.Back.{slots_read}
use Rattle.protocol_laws.proofs.Places.{blocks_differ, task_not_header, usable_area}
use Rattle.protocol_laws.proofs.Places.{blocks_differ, task_not_header, usable_area}
use Rattle.protocol_laws.proofs.Same.{KeepsHeader, header_kept, area_kept, nothing_kept, by_other_write, reads_kept}
use Rattle.protocol_laws.proofs.SwapRequests.{Flies, NamesNoMore, dump_area-by, one_of_two, same_on, valid_in, no_table, names_fewer, flight_of, slot_within, flight_stays, task_slot_by, flight_other, flight_own, same_task, target_of_other, other_target, slot_out, same_slot, comes_not_out, reslots, reslots_page}

-- An operation ends: the other slots are as they were.

-- the others' operations, where slot s was the task's
record Lands (h : Hardware) (a : Running) (t s : ℕ) (n : Memory) : Type 0 where
  slot : is_slot_of h a.memory t s ≡ true
  others : (q : ℕ) → q < h.slots → q ≢ s → slot_entry h n q ≡ slot_entry h a.memory q
  frames : (p : ℕ) → Contains (numbers h.zones) p → frame_entry h n p ≡ frame_entry h a.memory p

landed_flights : (h : Hardware) (a b : Running) (t s : ℕ) → HasFlights h a → Lands h a t s b.memory → b.flights ≡ with_flight a.flights t None → b.unusable ≡ a.unusable → b.held ≡ a.held → HasFlights h b
landed_flights h a b t s has lands flights usable held =
    let before : (u : ℕ) (f : Flight) → b.flights u ≡ Some f → (u ≢ t) × (a.flights u ≡ Some f) = λ u f e.
    let here : with_flight a.flights t None u ≡ Some f = ap (λ (fs : ℕ → Option Flight). fs u) (sym flights) ∙ e in
    elim (cases_eq u t) [
      | inl is ↦ absurd (none-some f (sym (flight_own a.flights t None) ∙ ap (with_flight a.flights t None) (sym is) ∙ here))
      | inr ne ↦ (ne, sym (flight_other a.flights t u None ne) ∙ here)
    ] in
    let stays : (u q r : ℕ) → u ≢ t → Flies a u q r → IsFlight h b u q r = λ u q r ne flies.
    let is = flight_of h a u q r has flies in
    let apart : q ≢ s = λ e. ne (sym (same_task h a.memory t u q (subst (λ (x : ℕ). is_slot_of h a.memory t x ≡ true) (sym e) lands.slot) is.slot)) in
    flight_stays h a b u q r is usable (lands.others q (slot_within h a.memory u q is.slot).0 apart) (lands.frames r (valid_in h r is.valid)) in
    record {
      outs = λ u q r e. let was = before u (goes_out q r) e in stays u q r was.0 (inl was.1);
      unheld = λ u q r e. let was = before u (goes_out q r) e in held ∙ has.unheld u q r was.1;
      ins = λ u q r e. let was = before u (comes_in q r) e in stays u q r was.0 (inr was.1);
    }

-- no other out has the slot for its target
no_other_target : (h : Hardware) (a : Running) (t s : ℕ) → HasFlights h a → is_slot_of h a.memory t s ≡ true → IsTarget (with_flight a.flights t None) s → ⊥
no_other_target h a t s has slot target = elim (cases_eq target.0 t) [
  | inl is ↦ none-some (goes_out s target.1) (sym (flight_own a.flights t None) ∙ ap (with_flight a.flights t None) (sym is) ∙ target.2)
  | inr ne ↦
      let before : a.flights target.0 ≡ Some (goes_out s target.1) = sym (flight_other a.flights t target.0 None ne) ∙ target.2 in
      ne (sym (same_task h a.memory t target.0 s slot (has.outs target.0 s target.1 before).slot))
]

-- and the targets of the others stay
old_target : (a : Running) (t s q : ℕ) (f : Flight) → a.flights t ≡ Some f → slot_out f ≡ s → q ≢ s → IsTarget a.flights q → IsTarget (with_flight a.flights t None) q
old_target a t s q f flight slot ne target =
    other_target a.flights t q target.0 target.1 None
    (λ e. ne (sym (same_slot q target.1 f (sym flight ∙ ap a.flights (sym e) ∙ target.2)) ∙ slot)) target.2

new_target : (a : Running) (t q : ℕ) → IsTarget (with_flight a.flights t None) q → IsTarget a.flights q
new_target a t q target = elim (cases_eq target.0 t) [
  | inl is ↦ absurd (none-some (goes_out q target.1) (sym (flight_own a.flights t None) ∙ ap (with_flight a.flights t None) (sym is) ∙ target.2))
  | inr ne ↦ target_of_other a.flights t q target.0 target.1 None ne target.2
]

page_other : (slots : SlotPages) (s q : ℕ) (page : Option (List ℕ)) → q ≢ s → with_slot slots s page q ≡ slots q
page_other slots s q page ne = ap (λ (b : Bool). cond b page (slots q)) (ne_eqb q s ne)

page_own : (slots : SlotPages) (s : ℕ) (page : Option (List ℕ)) → with_slot slots s page s ≡ page
page_own slots s page = ap (λ (b : Bool). cond b page (slots s)) (eq-eqb s s refl)

-- the slot of an operation, one of a task's
task_slot : (h : Hardware) (a : Running) (t s p : ℕ) → IsFlight h a t s p → IsTaskSlot h a.memory s
task_slot h a t s p is =
    let at = slot_within h a.memory t s is.slot in
    let some = is.task.some in
    let few = is.task.few in
    let entry = at.1 in
    (at.0, (omega arith), (omega arith))

-- An out is written.

-- the block of the slot that an out goes to isn't the header's, and the disk has it
pub record IsOutBlock (h : Hardware) (a : Running) (c : disk.Content) (s : ℕ) : Type 0 where
  pub not_header : block_of_slot h 0 ≢ block_of_slot h s
  pub within : 8 * block_of_slot h s + 8 ≤ length c
  pub apart : (q : ℕ) → q < h.slots → q ≢ s → block_of_slot h q ≢ block_of_slot h s

pub out_block : (h : Hardware) (shown : WorldView) (c : disk.Content) (a : Running) (t s p : ℕ) → IsHardware h → Fits h a.memory → StandsOn h shown c a → IsFlight h a t s p → IsOutBlock h a c s
out_block h shown c a t s p hw fits on' is =
    let at = task_slot h a t s p is in
    let v = disk.as_it_reads c in
    let usable = usable_area h v (fits_area h c a on'.area is.usable).area in
    let below : block_of_slot h s < blocks_of v = usable.on_disk s at.0 in
    let reads = length-as_it_reads c in
    record {
      not_header = λ e. task_not_header h a.memory s hw fits at.0 at.2 (sym e);
      within = omega arith;
      apart = λ q lt ne. blocks_differ h q s hw lt at.0 ne;
    }

-- a write of it leaves the header, and the slots that have a page
pub tries_out : (h : Hardware) (c c' : disk.Content) (blocks s : ℕ) (page : List ℕ) (a : Running) → disk.IsContent blocks c → IsOutBlock h a c s → Tries (block_of_slot h s) page c c' → KeepsHeader h c c'
tries_out h c c' blocks s page a whole is tries = by_other_write h blocks (block_of_slot h s) page c c' whole tries is.not_header

pub out_written : (h : Hardware) (shown shown' : WorldView) (c c' : disk.Content) (blocks : ℕ) (a : Running) (t s p : ℕ) → IsHardware h → disk.IsContent blocks c → Fits h a.memory → StandsOn h shown c a → a.flights t ≡ Some (goes_out s p) →
    IsPage (frame a.memory p) → disk.Writes (block_of_slot h s) (frame a.memory p) c c' → NamesNoMore h shown.frames shown'.frames →
    StandsOn h shown' c' (record a { flights = with_flight a.flights t None; slots = with_slot a.slots s (Some (frame a.memory p)) })
out_written h shown shown' c c' blocks a t s p hw content fits on' flight whole wrote fewer =
    let page = frame a.memory p in
    let is = on'.flights.outs t s p flight in
    let unheld = on'.flights.unheld t s p flight in
    let at = out_block h shown c a t s p hw fits on' is in
    let keeps = tries_out h c c' blocks s page a content at (inl wrote) in
    let slots = with_slot a.slots s (Some page) in
    let b : Running = record a { flights = with_flight a.flights t None; slots = slots } in
    let task = task_slot h a t s p is in
    let lands : Lands h a t s a.memory = record { slot = is.slot; others = λ q lt ne. refl; frames = λ q in'. refl } in
    let same_page : (q : ℕ) (x : List ℕ) → q ≢ s → slots q ≡ Some x → a.slots q ≡ Some x = λ q x ne e. sym (page_other a.slots s q (Some page) ne) ∙ e in
    record {
      held = subst (IsHeld h c') (sym unheld) (nothing_kept h c c' keeps (subst (IsHeld h c) unheld on'.held));
      task_slots = record {
        usable = λ q x e. is.usable;
        tasks = λ q x e. elim (cases_eq q s) [
          | inl here ↦ subst (IsTaskSlot h a.memory) (sym here) task
          | inr ne ↦ on'.task_slots.tasks q x (same_page q x ne e)
        ];
        landed = λ q x e target. elim (cases_eq q s) [
          | inl here ↦ no_other_target h a t s on'.flights is.slot (subst (IsTarget (with_flight a.flights t None)) here target)
          | inr ne ↦ on'.task_slots.landed q x (same_page q x ne e) (new_target a t q target)
        ];
        paged = λ usable q is_task out. elim (cases_eq q s) [
          | inl here ↦ subst (λ (o : Option (List ℕ)). IsSome o) (sym (ap slots here ∙ page_own a.slots s (Some page))) refl
          | inr ne ↦ subst (λ (o : Option (List ℕ)). IsSome o) (sym (page_other a.slots s q (Some page) ne))
              (on'.task_slots.paged usable q is_task (λ target. out (old_target a t s q (goes_out s p) flight refl ne target)))
        ];
      };
      flights = landed_flights h a b t s on'.flights lands refl refl refl;
      slot_pages = λ q x e. elim (cases_eq q s) [
        | inl here ↦
            let same : page ≡ x = same_Some page x (sym (ap slots here ∙ page_own a.slots s (Some page)) ∙ e) in
            ap (λ (y : ℕ). disk.block (disk.as_it_reads c') (block_of_slot h y)) here ∙ block-written (block_of_slot h s) page c c' whole at.within wrote ∙ same
        | inr ne ↦
            let old = same_page q x ne e in
            let lt = (on'.task_slots.tasks q x old).0 in
            reads_kept (block_of_slot h s) (block_of_slot h q) page c c' (inl wrote) (at.apart q lt ne) ∙ on'.slot_pages q x old
      ];
      names = names_fewer h shown shown' a.held fewer on'.names;
      header = header_kept h c c' keeps on'.header;
      area = area_kept h c c' a keeps on'.area;
    }

-- An out that fails gives the slot back.
pub out_fails : (h : Hardware) (shown shown' : WorldView) (c c' : disk.Content) (blocks : ℕ) (a : Running) (t s p : ℕ) (page : List ℕ) → IsHardware h → disk.IsContent blocks c → Fits h a.memory → StandsOn h shown c a → a.flights t ≡ Some (goes_out s p) →
    disk.FailsToWrite (block_of_slot h s) page c c' → NamesNoMore h shown.frames shown'.frames →
    StandsOn h shown' c' (record a { flights = with_flight a.flights t None; memory = with_slot_entry h a.memory s 0 })
out_fails h shown shown' c c' blocks a t s p page hw content fits on' flight failed fewer =
    let is = on'.flights.outs t s p flight in
    let unheld = on'.flights.unheld t s p flight in
    let at = out_block h shown c a t s p hw fits on' is in
    let keeps = tries_out h c c' blocks s page a content at (inr failed) in
    let m = a.memory in
    let n = with_slot_entry h m s 0 in
    let b : Running = record a { flights = with_flight a.flights t None; memory = n } in
    let task = task_slot h a t s p is in
    let re = reslots h m s 0 hw fits task.0 task.2 (omega arith) in
    let lands : Lands h a t s n = record { slot = is.slot; others = re.others; frames = re.frames } in
    let not_s : (q : ℕ) (x : List ℕ) → a.slots q ≡ Some x → q ≢ s = λ q x e here. on'.task_slots.landed q x e (subst (IsTarget a.flights) (sym here) (t, p, flight)) in
    let slots_kept : HaveSlotPages h c' a.slots =
    slots_read h c c' a.slots
    (λ q x e. reads_kept (block_of_slot h s) (block_of_slot h q) page c c' (inr failed) (at.apart q (on'.task_slots.tasks q x e).0 (not_s q x e))) on'.slot_pages in
    record {
      held = subst (IsHeld h c') (sym unheld) (nothing_kept h c c' keeps (subst (IsHeld h c) unheld on'.held));
      task_slots = record {
        usable = on'.task_slots.usable;
        tasks = λ q x e. let old = on'.task_slots.tasks q x e in task_slot_by h m n q (re.others q old.0 (not_s q x e)) old;
        landed = λ q x e target. on'.task_slots.landed q x e (new_target a t q target);
        paged = λ usable q now out. elim (cases_eq q s) [
          | inl here ↦ (let zero_here : slot_entry h n q ≡ 0 = ap (slot_entry h n) here ∙ re.here in let some = now.1 in absurd (omega arith))
          | inr ne ↦ on'.task_slots.paged usable q (task_slot_by h n m q (sym (re.others q now.0 ne)) now) (λ target. out (old_target a t s q (goes_out s p) flight refl ne target))
        ];
      };
      flights = landed_flights h a b t s on'.flights lands refl refl refl;
      slot_pages = slots_kept;
      names = names_fewer h shown shown' a.held fewer on'.names;
      header = header_kept h c c' keeps on'.header;
      area = area_kept h c c' a keeps on'.area ∙ sym (dump_area-by h (disk.as_it_reads c') m n re.bad);
    }

-- A page comes in, and its slot is free.
pub in_read : (h : Hardware) (shown shown' : WorldView) (c : disk.Content) (a : Running) (t s p : ℕ) (page : List ℕ) → IsHardware h → Fits h a.memory → StandsOn h shown c a → a.flights t ≡ Some (comes_in s p) → NamesNoMore h shown.frames shown'.frames →
    StandsOn h shown' c (record a { flights = with_flight a.flights t None; memory = with_frame (with_slot_entry h a.memory s 0) p page; slots = with_slot a.slots s None })
in_read h shown shown' c a t s p page hw fits on' flight fewer =
    let is = on'.flights.ins t s p flight in
    let m = a.memory in
    let n = with_frame (with_slot_entry h m s 0) p page in
    let slots = with_slot a.slots s None in
    let b : Running = record a { flights = with_flight a.flights t None; memory = n; slots = slots } in
    let task = task_slot h a t s p is in
    let apart = no_table h a t p fits is.task (record { valid = is.valid; owner = is.owner }) in
    let re = reslots_page h m (with_slot_entry h m s 0) s 0 p page hw apart task.0 (reslots h m s 0 hw fits task.0 task.2 (omega arith)) in
    let lands : Lands h a t s n = record { slot = is.slot; others = re.others; frames = re.frames } in
    let not_s : (q : ℕ) (x : List ℕ) → slots q ≡ Some x → q ≢ s = λ q x e here. none-some x (sym (ap slots here ∙ page_own a.slots s None) ∙ e) in
    let old : (q : ℕ) (x : List ℕ) → slots q ≡ Some x → a.slots q ≡ Some x = λ q x e. sym (page_other a.slots s q None (not_s q x e)) ∙ e in
    record {
      held = on'.held;
      task_slots = record {
        usable = λ q x e. is.usable;
        tasks = λ q x e. let was = on'.task_slots.tasks q x (old q x e) in task_slot_by h m n q (re.others q was.0 (not_s q x e)) was;
        landed = λ q x e target. on'.task_slots.landed q x (old q x e) (new_target a t q target);
        paged = λ usable q now out. elim (cases_eq q s) [
          | inl here ↦ (let zero_here : slot_entry h n q ≡ 0 = ap (slot_entry h n) here ∙ re.here in let some = now.1 in absurd (omega arith))
          | inr ne ↦ subst (λ (o : Option (List ℕ)). IsSome o) (sym (page_other a.slots s q None ne))
              (on'.task_slots.paged usable q (task_slot_by h n m q (sym (re.others q now.0 ne)) now) (λ target. out (old_target a t s q (comes_in s p) flight refl ne target)))
        ];
      };
      flights = landed_flights h a b t s on'.flights lands refl refl refl;
      slot_pages = λ q x e. on'.slot_pages q x (old q x e);
      names = names_fewer h shown shown' a.held fewer on'.names;
      header = on'.header;
      area = on'.area ∙ sym (dump_area-by h (disk.as_it_reads c) m n re.bad);
    }

-- A page that can't be read stays in its slot.
pub in_fails : (h : Hardware) (shown shown' : WorldView) (c : disk.Content) (a : Running) (t s p : ℕ) → StandsOn h shown c a → a.flights t ≡ Some (comes_in s p) → NamesNoMore h shown.frames shown'.frames →
    StandsOn h shown' c (record a { flights = with_flight a.flights t None })
in_fails h shown shown' c a t s p on' flight fewer =
    let is = on'.flights.ins t s p flight in
    let b : Running = record a { flights = with_flight a.flights t None } in
    let lands : Lands h a t s a.memory = record { slot = is.slot; others = λ q lt ne. refl; frames = λ q in'. refl } in
    record {
      held = on'.held;
      task_slots = record {
        usable = on'.task_slots.usable;
        tasks = on'.task_slots.tasks;
        landed = λ q x e target. on'.task_slots.landed q x e (new_target a t q target);
        paged = λ usable q now out. on'.task_slots.paged usable q now
            (λ target. out (other_target a.flights t q target.0 target.1 None (λ e. comes_not_out s p q target.1 (sym flight ∙ ap a.flights (sym e) ∙ target.2)) target.2));
      };
      flights = landed_flights h a b t s on'.flights lands refl refl refl;
      slot_pages = on'.slot_pages;
      names = names_fewer h shown shown' a.held fewer on'.names;
      header = on'.header;
      area = on'.area;
    }

-- The page that an in brings is the one that the task's slot has.
pub in_page : (h : Hardware) (shown : WorldView) (c : disk.Content) (a : Running) (t s p : ℕ) → Fits h a.memory → StandsOn h shown c a → a.flights t ≡ Some (comes_in s p) → IsSome (a.slots s)
in_page h shown c a t s p fits on' flight =
    let is = on'.flights.ins t s p flight in
    on'.task_slots.paged is.usable s (task_slot h a t s p is)
    (λ target.
    let same = same_task h a.memory t target.0 s is.slot (on'.flights.outs target.0 s target.1 target.2).slot in
    comes_not_out s p s target.1 (sym flight ∙ ap a.flights same ∙ target.2))

-- Which state an operation's end leads to, by its reply.

pub written_is : (h : Hardware) (a b : Running) (t s p : ℕ) (r : Reply) → Contains (finished h a t (goes_out s p)) (r, on b) → r ≡ reply.Written s →
    record a { flights = with_flight a.flights t None; slots = with_slot a.slots s (Some (frame a.memory p)) } ≡ b
written_is h a b t s p r in' e =
    let done : Running = record a { flights = with_flight a.flights t None; slots = with_slot a.slots s (Some (frame a.memory p)) } in
    let failed : Running = record a { flights = with_flight a.flights t None; memory = with_slot_entry h a.memory s 0 } in
    elim (one_of_two (reply.Written s, on done) (reply.WriteFault Same, on failed) (r, on b) in') [
      | inl is ↦ same_on done b (ap (λ (o : Outcome). o.1) is)
      | inr is ↦ absurd (write_fault_differs s (ap (λ (o : Outcome). o.0) is ∙ e))
    ] where
      write_fault_differs : (q : ℕ) → reply.WriteFault Same ≡ reply.Written q → ⊥
      write_fault_differs q f = absurd (cc)

pub write_failed_is : (h : Hardware) (a b : Running) (t s p : ℕ) (r : Reply) → Contains (finished h a t (goes_out s p)) (r, on b) → r ≡ reply.WriteFault Same →
    record a { flights = with_flight a.flights t None; memory = with_slot_entry h a.memory s 0 } ≡ b
write_failed_is h a b t s p r in' e =
    let done : Running = record a { flights = with_flight a.flights t None; slots = with_slot a.slots s (Some (frame a.memory p)) } in
    let failed : Running = record a { flights = with_flight a.flights t None; memory = with_slot_entry h a.memory s 0 } in
    elim (one_of_two (reply.Written s, on done) (reply.WriteFault Same, on failed) (r, on b) in') [
      | inl is ↦ absurd (written_differs s (ap (λ (o : Outcome). o.0) is ∙ e))
      | inr is ↦ same_on failed b (ap (λ (o : Outcome). o.1) is)
    ] where
      written_differs : (q : ℕ) → reply.Written q ≡ reply.WriteFault Same → ⊥
      written_differs q f = absurd (cc)

pub fetched_is : (h : Hardware) (a b : Running) (t s p : ℕ) (r : Reply) → Contains (finished h a t (comes_in s p)) (r, on b) → r ≡ reply.Fetched s →
    record a { flights = with_flight a.flights t None; memory = with_frame (with_slot_entry h a.memory s 0) p (unwrap_or (a.slots s) (frame a.memory p)); slots = with_slot a.slots s None } ≡ b
fetched_is h a b t s p r in' e =
    let done : Running = record a { flights = with_flight a.flights t None; memory = with_frame (with_slot_entry h a.memory s 0) p (unwrap_or (a.slots s) (frame a.memory p)); slots = with_slot a.slots s None } in
    let failed : Running = record a { flights = with_flight a.flights t None } in
    elim (one_of_two (reply.Fetched s, on done) (reply.ReadFault Same, on failed) (r, on b) in') [
      | inl is ↦ same_on done b (ap (λ (o : Outcome). o.1) is)
      | inr is ↦ absurd (read_fault_differs s (ap (λ (o : Outcome). o.0) is ∙ e))
    ] where
      read_fault_differs : (q : ℕ) → reply.ReadFault Same ≡ reply.Fetched q → ⊥
      read_fault_differs q f = absurd (cc)

pub read_failed_is : (h : Hardware) (a b : Running) (t s p : ℕ) (r : Reply) → Contains (finished h a t (comes_in s p)) (r, on b) → r ≡ reply.ReadFault Same → record a { flights = with_flight a.flights t None } ≡ b
read_failed_is h a b t s p r in' e =
    let done : Running = record a { flights = with_flight a.flights t None; memory = with_frame (with_slot_entry h a.memory s 0) p (unwrap_or (a.slots s) (frame a.memory p)); slots = with_slot a.slots s None } in
    let failed : Running = record a { flights = with_flight a.flights t None } in
    elim (one_of_two (reply.Fetched s, on done) (reply.ReadFault Same, on failed) (r, on b) in') [
      | inl is ↦ absurd (fetched_differs s (ap (λ (o : Outcome). o.0) is ∙ e))
      | inr is ↦ same_on failed b (ap (λ (o : Outcome). o.1) is)
    ] where
      fetched_differs : (q : ℕ) → reply.Fetched q ≡ reply.ReadFault Same → ⊥
      fetched_differs q f = absurd (cc)
