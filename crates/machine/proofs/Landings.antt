-- Rows of the plain machine for the end of a task's operation.
use Rattle.std.proofs.Common.{◌≡◌, ℕ, ◌<◌, inl, inr, Bool, true, false, not, nat_lt, List, [], ◌∷◌, length, Option, Some, None, is_some, IsSome, IfSome, unwrap_or, ◌&&◌, refl, sym, ap, ◌∙◌, arith, cond, eqb, subst}
use Rattle.std.proofs.lemmas.Bool.{eqb-true, ltb-true, false≢true}
use Rattle.std.specs.List.{Contains}
use Rattle.definitions.specs.Bytes.{IsPage}
use Rattle.definitions.specs.Disk as disk
use Rattle.definitions.specs.Tables.{frame, with_entry, with_frame}
use Rattle.definitions.specs.Zones.{numbers, top}
use Rattle.plain_machine.specs.Machine.{Hardware, Memory, IsHardware, Fits, frame_entry, raw_slot_entry, slot_entry, is_slot_of, block_of_slot}
use Rattle.plain_machine.specs.State.{State, on, Running, Flight, goes_out, comes_in}
use Rattle.plain_machine.specs.Refusals.{refused_if, refusal}
use Rattle.plain_machine.specs.Stands.{IsFlight, HaveSlotPages}
use Rattle.plain_machine.specs.Step.{Step, Outcome, outcomes, refused_or, finished, task_step, with_flight, with_slot}
use Rattle.plain_machine.specs.declared.event.Actor.TheVariants as actor
use Rattle.plain_machine.specs.declared.event.Event.TheVariants as event
use Rattle.plain_machine.specs.declared.reply.Left.TheVariants.{Same}
use Rattle.plain_machine.specs.declared.reply.Reply.{Reply}
use Rattle.plain_machine.specs.declared.reply.Reply.TheVariants as reply
use Rattle.plain_machine.proofs.SameMemory.{entry-set_other, slot_entry-set_other}
use Rattle.machine.specs.Flights.{flights_in}
use Rattle.machine.specs.Landing.{Answers, CallsDisk, Ends, HasEnd}
use Rattle.machine.specs.Running.{AreReserved, IsInFlight, AreInFlight}
use Rattle.machine.specs.TaskRow.{ShowsAs}
use Rattle.machine.specs.declared.machine.Machine.{Machine}
use Rattle.machine.proofs.Requests.{owned_apart}
use Rattle.machine.proofs.Rows.{Mirrors, mirrors_page}
use Rattle.machine.proofs.SlotWrites.{HasSlots, frame_entry-slot_set}
use Rattle.machine.proofs.Swaps.{entry_of_task, mirrors_slot, mirrors-taken, named_slot, shows-mirrors, slot_entry-plain}

-- Steps that end a task's operation.

end_allowed : (h : Hardware) (a : Running) (t : ℕ) (flight : Flight) → a.flights t ≡ Some flight → refusal h (on a) (event.Step (actor.Task t)) ≡ None
unfolding refusal
end_allowed h a t flight e = ap (λ (o : Option Flight). refused_if (not (is_some o)) reply.Idle) e

step_end : (h : Hardware) (v : disk.DiskImage) (a : Running) (t : ℕ) (flight : Flight) (r : Reply) (b : State) → a.flights t ≡ Some flight → Contains {X = Outcome} (finished h a t flight) (r, b) → Step h v (on a) (event.Step (actor.Task t)) r b
unfolding outcomes
step_end h v a t flight r b e in' =
    subst (λ (why : Option Reply). Contains {X = Outcome} (refused_or (on a) why (task_step h a t (a.flights t))) (r, b)) (sym (end_allowed h a t flight e))
    (subst (λ (o : Option Flight). Contains {X = Outcome} (task_step h a t o) (r, b)) (sym e) in')

-- The slot of an operation is its task's.

both_true : (b c : Bool) → (b && c) ≡ true → (b ≡ true) × (c ≡ true)
both_true true true e = (refl, refl)
both_true true false e = absurd (false≢true e)
both_true false c e = absurd (false≢true e)

own_entry : (h : Hardware) (m : Memory) (t s : ℕ) → Fits h m → is_slot_of h m t s ≡ true → (s < h.slots) × (raw_slot_entry h m s ≡ t)
own_entry h m t s fits is =
    let both = both_true (nat_lt s h.slots) (eqb (slot_entry h m s) t) is in
    let lt = ltb-true s h.slots both.0 in
    (lt, sym (slot_entry-plain h m s fits lt) ∙ eqb-true (slot_entry h m s) t both.1)

-- the slot is given back in the memory and in the page frames
freed : (machine : Machine) (frames : Memory) (a : Running) (t s p : ℕ) → IsHardware machine.hw → HasSlots machine.hw frames → length frames ≡ top machine.hw.zones → ShowsAs machine frames a → IsFlight machine.hw a t s p →
    Mirrors machine.hw (with_entry frames machine.hw.slot_table s 0) (with_entry a.memory machine.hw.slot_table s 0) × (s < machine.hw.slots)
freed machine frames a t s p hw has size shows is =
    let h = machine.hw in
    let some = is.task.some in
    let few = is.task.few in
    let mirrors = shows-mirrors machine frames a shows size in
    let own = own_entry h a.memory t s mirrors.fits is.slot in
    let lt = own.0 in
    let entry = own.1 in
    let there = mirrors-taken h frames a.memory s hw has mirrors lt (omega arith) in
    (mirrors_slot h frames a.memory s 0 hw has mirrors lt (omega arith) (entry_of_task s (raw_slot_entry h a.memory s) 0 (mirrors.fits.slots s lt) (omega arith) (omega arith)) there.0, lt)

-- What is shown afterwards.

landed : (machine machine' : Machine) (a : Running) (t : ℕ) → ((u : ℕ) → a.flights u ≡ flights_in machine.flights u) → ((u : ℕ) → flights_in machine'.flights u ≡ with_flight (flights_in machine.flights) t None u) →
    (u : ℕ) → with_flight a.flights t None u ≡ flights_in machine'.flights u
landed machine machine' a t was now = λ u. ap (λ (f : Option Flight). cond (eqb u t) None f) (was u) ∙ sym (now u)

abbrev Landed : Machine → Machine → ℕ → Type 0
Landed machine machine' t = (u : ℕ) → flights_in machine'.flights u ≡ with_flight (flights_in machine.flights) t None u

-- Rows.

written_row : (machine machine' : Machine) (frames : Memory) (t s p : ℕ) (content : Option disk.Content) → flights_in machine.flights t ≡ Some (goes_out s p) → Landed machine machine' t → HasEnd machine frames t machine' frames (reply.Written s) content
written_row machine machine' frames t s p content flies now = λ none c tells a shows flights pages source.
    let b : Running = record a { flights = with_flight a.flights t None; slots = with_slot a.slots s (Some (frame a.memory p)) } in (
      b,
      record {
        step = λ v. step_end machine.hw v a t (goes_out s p) (reply.Written s) (on b) (shows.flights t ∙ flies) (0, omega arith, refl);
        runs = record { held = shows.held; unusable = shows.unusable; flights = landed machine machine' a t shows.flights now; same = shows.same; fits = shows.fits };
        held = refl;
        unusable = refl;
        named = λ k lt e. e;
      },
    )

write_fault_row : (machine machine' : Machine) (frames : Memory) (t s p : ℕ) (content : Option disk.Content) → IsHardware machine.hw → HasSlots machine.hw frames → length frames ≡ top machine.hw.zones → flights_in machine.flights t ≡ Some (goes_out s p) → Landed machine machine' t →
    HasEnd machine frames t machine' (with_entry frames machine.hw.slot_table s 0) (reply.WriteFault Same) content
write_fault_row machine machine' frames t s p content hw has size flies now = λ none c tells a shows flights pages source.
    let h = machine.hw in
    let e = shows.flights t ∙ flies in
    let given = freed machine frames a t s p hw has size shows (flights.outs t s p e) in
    let b : Running = record a { flights = with_flight a.flights t None; memory = with_entry a.memory h.slot_table s 0 } in (
      b,
      record {
        step = λ v. step_end h v a t (goes_out s p) (reply.WriteFault Same) (on b) e (1, omega arith, refl);
        runs = record { held = shows.held; unusable = shows.unusable; flights = landed machine machine' a t shows.flights now; same = given.0.same; fits = given.0.fits };
        held = refl;
        unusable = refl;
        named = named_slot h frames s 0 has given.1 (omega arith);
      },
    )

read_fault_row : (machine machine' : Machine) (frames : Memory) (t s p : ℕ) (content : Option disk.Content) → flights_in machine.flights t ≡ Some (comes_in s p) → Landed machine machine' t → HasEnd machine frames t machine' frames (reply.ReadFault Same) content
read_fault_row machine machine' frames t s p content flies now = λ none c tells a shows flights pages source.
    let b : Running = record a { flights = with_flight a.flights t None } in (
      b,
      record {
        step = λ v. step_end machine.hw v a t (comes_in s p) (reply.ReadFault Same) (on b) (shows.flights t ∙ flies) (1, omega arith, refl);
        runs = record { held = shows.held; unusable = shows.unusable; flights = landed machine machine' a t shows.flights now; same = shows.same; fits = shows.fits };
        held = refl;
        unusable = refl;
        named = λ k lt e. e;
      },
    )

-- the page that a slot has is the one that is read
some_is : (o : Option (List ℕ)) → IsSome o → (page : List ℕ) × (o ≡ Some page)
some_is None is = absurd (false≢true is)
some_is (Some page) is = (page, refl)

source_page : (h : Hardware) (content : Option disk.Content) (c : disk.Content) (a : Running) (s : ℕ) (page : List ℕ) → content ≡ Some c → IfSome content (λ it. page ≡ disk.block (disk.as_it_reads it) (block_of_slot h s)) → HaveSlotPages h c a.slots → IsSome (a.slots s) → a.slots s ≡ Some page
source_page h content c a s page tells read pages some =
    let it = some_is (a.slots s) some in
    let is = subst (λ (o : Option disk.Content). IfSome o (λ it. page ≡ disk.block (disk.as_it_reads it) (block_of_slot h s))) tells read in
    it.1 ∙ ap (λ (x : List ℕ). Some x) (sym (pages s it.0 it.1) ∙ sym is)

fetched_row : (machine machine' : Machine) (frames : Memory) (t s p : ℕ) (page : List ℕ) (content : Option disk.Content) → IsHardware machine.hw → HasSlots machine.hw frames → AreReserved machine.hw frames → length frames ≡ top machine.hw.zones → flights_in machine.flights t ≡ Some (comes_in s p) → Landed machine machine' t →
    IsInFlight machine.hw machine.blocks frames t s p → IsPage page → IfSome content (λ it. page ≡ disk.block (disk.as_it_reads it) (block_of_slot machine.hw s)) →
    HasEnd machine frames t machine' (with_frame (with_entry frames machine.hw.slot_table s 0) p page) (reply.Fetched s) content
fetched_row machine machine' frames t s p page content hw has reserved size flies now is whole read = λ none c tells a shows flights pages source.
    let h = machine.hw in
    let e = shows.flights t ∙ flies in
    let flight = flights.ins t s p e in
    let given = freed machine frames a t s p hw has size shows flight in
    let there = source_page h content c a s page tells read pages (source s p e) in
    let apart = owned_apart h frames t p reserved is.owner is.task.some in
    let brought = mirrors_page h (with_entry frames h.slot_table s 0) (with_entry a.memory h.slot_table s 0) p page hw given.0 is.valid apart whole in
    let b : Running = record a { flights = with_flight a.flights t None; memory = with_frame (with_entry a.memory h.slot_table s 0) p page; slots = with_slot a.slots s None } in (
      b,
      record {
        step = λ v. step_end h v a t (comes_in s p) (reply.Fetched s) (on b) e
            (subst (λ (o : Option (List ℕ)). Contains {X = Outcome} ((reply.Fetched s, on (record a { flights = with_flight a.flights t None; memory = with_frame (with_entry a.memory h.slot_table s 0) p (unwrap_or o (frame a.memory p)); slots = with_slot a.slots s None }))
            ∷ (reply.ReadFault Same, on (record a { flights = with_flight a.flights t None })) ∷ []) (reply.Fetched s, on b)) (sym there) (0, omega arith, refl));
        runs = record { held = shows.held; unusable = shows.unusable; flights = landed machine machine' a t shows.flights now; same = brought.same; fits = brought.fits };
        held = refl;
        unusable = refl;
        named = λ k lt at. named_slot h frames s 0 has given.1 (omega arith) k lt (sym (slot_entry-set_other h (with_entry frames h.slot_table s 0) p k page (λ of. apart (inr of)) lt) ∙ at);
      },
    )

-- The row by what the end made.

pub row_of_end : (machine machine' : Machine) (frames new : Memory) (t : ℕ) (flight : Option Flight) (r : Reply) (before now : Option disk.Content) → IsHardware machine.hw → HasSlots machine.hw frames → AreReserved machine.hw frames → length frames ≡ top machine.hw.zones →
    AreInFlight machine.hw machine.blocks frames machine.flights → Landed machine machine' t → flights_in machine.flights t ≡ flight → Ends machine.hw flight frames new r before now → HasEnd machine frames t machine' new r before
row_of_end machine machine' frames new t None r before now hw has reserved size are land flies ends = absurd ends
row_of_end machine machine' frames new t (Some (goes_out s p)) r before now hw has reserved size are land flies ends = elim ends [
  | inl done ↦
      subst (λ (m : Memory). HasEnd machine frames t machine' m r before) (sym done.1)
      (subst (λ (q : Reply). HasEnd machine frames t machine' frames q before) (sym done.0) (written_row machine machine' frames t s p before flies land))
  | inr failed ↦
      subst (λ (m : Memory). HasEnd machine frames t machine' m r before) (sym failed.1)
      (subst (λ (q : Reply). HasEnd machine frames t machine' (with_entry frames machine.hw.slot_table s 0) q before) (sym failed.0) (write_fault_row machine machine' frames t s p before hw has size flies land))
]
row_of_end machine machine' frames new t (Some (comes_in s p)) r before now hw has reserved size are land flies ends = elim (ends.0) [
  | inl done ↦
      subst (λ (m : Memory). HasEnd machine frames t machine' m r before) (sym done.1.2)
      (subst (λ (q : Reply). HasEnd machine frames t machine' (with_frame (with_entry frames machine.hw.slot_table s 0) p done.1.0) q before) (sym done.0)
      (fetched_row machine machine' frames t s p done.1.0 before hw has reserved size flies land (are.ins t s p flies) done.1.1 done.1.3))
  | inr failed ↦
      subst (λ (m : Memory). HasEnd machine frames t machine' m r before) (sym failed.1)
      (subst (λ (q : Reply). HasEnd machine frames t machine' frames q before) (sym failed.0) (read_fault_row machine machine' frames t s p before flies land))
]

-- the reply of the end of an operation, and its call of the disk
pub answer_of_end : (h : Hardware) (flight : Option Flight) (frames new : Memory) (r : Reply) (before now : Option disk.Content) → Ends h flight frames new r before now → Answers flight r
answer_of_end h None frames new r before now ends = ends
answer_of_end h (Some (goes_out s p)) frames new r before now ends = elim ends [ inl done ↦ inl done.0 | inr failed ↦ inr failed.0 ]
answer_of_end h (Some (comes_in s p)) frames new r before now ends = elim (ends.0) [ inl done ↦ inl done.0 | inr failed ↦ inr failed.0 ]

not_both : (s : ℕ) → reply.Written s ≡ reply.WriteFault Same → ⊥
not_both s e = cc

pub call_of_end : (h : Hardware) (flight : Option Flight) (frames new : Memory) (r : Reply) (before now : Option disk.Content) → Ends h flight frames new r before now → CallsDisk h frames flight r before now
call_of_end h None frames new r before now ends = absurd ends
call_of_end h (Some (goes_out s p)) frames new r before now ends = elim ends [
  | inl done ↦ (λ e. done.2, λ e. absurd (not_both s (sym done.0 ∙ e)))
  | inr failed ↦ (λ e. absurd (not_both s (sym e ∙ failed.0)), λ e. failed.2)
]
call_of_end h (Some (comes_in s p)) frames new r before now ends = ends.1

-- the end of an operation leaves the frame table's entries
pub entries_of_end : (h : Hardware) (blocks : ℕ) (flight : Option Flight) (frames new : Memory) (t : ℕ) (r : Reply) (before now : Option disk.Content) → IsHardware h → AreReserved h frames →
    ((s p : ℕ) → flight ≡ Some (goes_out s p) → IsInFlight h blocks frames t s p) → ((s p : ℕ) → flight ≡ Some (comes_in s p) → IsInFlight h blocks frames t s p) → Ends h flight frames new r before now →
    (q : ℕ) → Contains (numbers h.zones) q → frame_entry h new q ≡ frame_entry h frames q
entries_of_end h blocks None frames new t r before now hw reserved outs ins ends = absurd ends
entries_of_end h blocks (Some (goes_out s p)) frames new t r before now hw reserved outs ins ends = elim ends [
  | inl done ↦ λ q in'. ap (λ (m : Memory). frame_entry h m q) done.1
  | inr failed ↦ λ q in'. ap (λ (m : Memory). frame_entry h m q) failed.1 ∙ frame_entry-slot_set h frames s 0 q hw (outs s p refl).slot in'
]
entries_of_end h blocks (Some (comes_in s p)) frames new t r before now hw reserved outs ins ends =
    let is = ins s p refl in
    let apart = owned_apart h frames t p reserved is.owner is.task.some in
    elim (ends.0) [
      | inl done ↦ λ q in'. ap (λ (m : Memory). frame_entry h m q) done.1.2 ∙ entry-set_other h (with_entry frames h.slot_table s 0) p q done.1.0 hw apart in' ∙ frame_entry-slot_set h frames s 0 q hw is.slot in'
      | inr failed ↦ λ q in'. ap (λ (m : Memory). frame_entry h m q) failed.1
    ]
