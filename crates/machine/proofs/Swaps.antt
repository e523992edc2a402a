-- Rows of the plain machine for page frames that go out to slots and come in from there.
use Rattle.std.proofs.Common.{◌≡◌, ◌≢◌, ℕ, ◌+◌, ◌*◌, ◌/◌, ◌%◌, ◌<◌, ◌≤◌, inl, inr, Bool, true, false, not, nat_lt, nat_le, List, [], ◌∷◌, length, Option, Some, None, is_some, is_none, unwrap_or, Result, Ok, Err, is_ok, ◌&&◌, ◌||◌, refl, sym, ap, ap₂, ◌∙◌, arith, cond, eqb, filter, set, subst}
use Rattle.std.proofs.lemmas.Bool.{cases_Bool, cases_eq, cond-false, ne_eqb, le-leb, ltb-true, false≢true}
use Rattle.std.proofs.lemmas.Option.{same_Some, none-some}
use Rattle.std.specs.List.{All, Contains, find, range_with_len, slice_get}
use Rattle.definitions.specs.Bytes.{IsPage, with_number}
use Rattle.definitions.specs.Disk as disk
use Rattle.definitions.specs.Tables.{free_slots}
use Rattle.definitions.specs.Tables.{frame, with_entry, page_flags, owner_of, is_saveable}
use Rattle.definitions.specs.Zones.{top}
use Rattle.definitions.proofs.TableEntries.{length-with_entry, IsPage-with_entry}
use Rattle.definitions.proofs.FreeSlots.{free_slot}
use Rattle.definitions.proofs.ZoneNumbers.{range-bounds}
use Rattle.image_format.specs.declared.signature.area.Area.{Area}
use Rattle.plain_machine.specs.Machine.{Hardware, Memory, IsHardware, IsSameMemory, Fits, frame_entry, raw_slot_entry, slot_entry, is_slot_entry, is_valid, is_well_formed, bad_slot}
use Rattle.plain_machine.specs.State.{on, Running, Flight, goes_out, comes_in, Held, nothing, sure, maybe}
use Rattle.plain_machine.specs.Chain.{or_else}
use Rattle.plain_machine.specs.Machine.{IsTask}
use Rattle.plain_machine.specs.Refusals.{refused_if, refusal, op_refusal, is_held, closed, free_slots_of, owns_slot}
use Rattle.plain_machine.specs.Shows.{ShowsHeld, seen_frames}
use Rattle.plain_machine.specs.Step.{Step, Outcome, outcomes, refused_or, requested, with_flight}
use Rattle.plain_machine.specs.declared.event.Event.TheVariants as event
use Rattle.plain_machine.specs.declared.event.TaskOp.{TaskOp}
use Rattle.plain_machine.specs.declared.event.TaskOp.TheVariants as op
use Rattle.plain_machine.specs.declared.held.Held.{Held as HeldFlag}
use Rattle.plain_machine.specs.declared.held.Held.TheVariants.{No, Yes, Perhaps}
use Rattle.plain_machine.specs.declared.no_swap.NoSwap.{NoSwap}
use Rattle.plain_machine.specs.declared.reply.Reply.{Reply}
use Rattle.plain_machine.specs.declared.reply.Reply.TheVariants as reply
use Rattle.plain_machine.proofs.SameMemory.{filter_agree_within, same_table, same_set, same_slot_entry, table_frame_valid, of_slot_table}
use Rattle.plain_machine.proofs.Seen.{length-seen}
use Rattle.machine.specs.Flights.{flights_in}
use Rattle.machine.specs.Running.{reason_of}
use Rattle.machine.specs.TaskRow.{HasFrameRow, SimulatesRequest, ShowsAs, NamesNone, own_refusal}
use Rattle.machine.specs.declared.machine.Machine.{Machine}
use Rattle.machine.proofs.Rows.{Mirrors, mirrors_of, own_shown, slot_table_fits, step_done, step_refused}
use Rattle.machine.proofs.SlotWrites.{HasSlots, seen_slot, slot_entry-seen, slot_entry-image, slot_entry-set_same, slot_entry-set_apart, frame_entry-slot_set}

-- Slot entries.

-- a slot that may be a task's may be free, and another task's
pub entry_of_task : (s e v : ℕ) → is_slot_entry s e ≡ true → e ≤ 64 → v ≤ 64 → is_slot_entry s v ≡ true
entry_of_task s e v is few few' = elim (cases_eq s 0) [
  | inl zero_is ↦ absurd (never (subst (λ (k : ℕ). is_slot_entry k e ≡ true) zero_is is))
  | inr some ↦
      ap₂ (λ (b : Bool) (c : Bool). b || (not c && nat_le v 64)) (ne_eqb v bad_slot (λ at. let r : ⊥ = omega arith in r)) (ne_eqb s 0 some)
      ∙ le-leb v 64 few'
] where
  never : is_slot_entry 0 e ≡ true → ⊥
  never at = false≢true (sym (ap (λ (b : Bool). b || false) (ne_eqb e bad_slot (λ bad. let r : ⊥ = omega arith in r))) ∙ at)

-- no slot of a memory is the image's
entry_not_image : (s e : ℕ) → is_slot_entry s e ≡ true → e ≢ 65536
entry_not_image s e is image = false≢true (sym (none (eqb s 0)) ∙ subst (λ (x : ℕ). is_slot_entry s x ≡ true) image is) where
  none : (b : Bool) → (false || (not b && false)) ≡ false
  none true = refl
  none false = refl

pub slot_entry-plain : (h : Hardware) (m : Memory) (s : ℕ) → Fits h m → s < h.slots → slot_entry h m s ≡ raw_slot_entry h m s
slot_entry-plain h m s fits lt = cond-false (eqb (raw_slot_entry h m s) 65536) 0 (raw_slot_entry h m s) (ne_eqb (raw_slot_entry h m s) 65536 (entry_not_image s (raw_slot_entry h m s) (fits.slots s lt)))

pub has_slots : (h : Hardware) (m : Memory) → IsHardware h → All IsPage m → length m ≡ top h.zones → HasSlots h m
has_slots h m hw pages size = let fits = slot_table_fits h hw in record { pages = pages; table = omega arith }

-- the entry that memory has is the one that is seen
mirrors-slot_entry : (h : Hardware) (frames m : Memory) (s : ℕ) → IsHardware h → Mirrors h frames m → s < h.slots → raw_slot_entry h m s ≡ raw_slot_entry h (seen_frames h frames) s
mirrors-slot_entry h frames m s hw mirrors lt = sym (same_slot_entry h m (seen_frames h frames) s hw mirrors.fits mirrors.same lt)

-- an entry that isn't 0 in memory is the page frames'
pub mirrors-taken : (h : Hardware) (frames m : Memory) (s : ℕ) → IsHardware h → HasSlots h frames → Mirrors h frames m → s < h.slots → 1 ≤ raw_slot_entry h m s → (raw_slot_entry h frames s ≢ 65536) × (raw_slot_entry h frames s ≡ raw_slot_entry h m s)
mirrors-taken h frames m s hw has mirrors lt some =
    let is = mirrors-slot_entry h frames m s hw mirrors lt in
    let ne : raw_slot_entry h frames s ≢ 65536 = λ image. let none = slot_entry-image h frames s has lt image in let r : ⊥ = omega arith in r in
    (ne, sym (slot_entry-seen h frames s has ne) ∙ sym is)

-- An entry of a slot that is set, in a memory and in page frames.

fits_slot : (h : Hardware) (m : Memory) (s v : ℕ) → IsHardware h → Fits h m → s < h.slots → v ≤ 64 → is_slot_entry s v ≡ true → Fits h (with_entry m h.slot_table s v)
fits_slot h m s v hw fits lt few ok =
    let has = has_slots h m hw fits.pages fits.size in record {
      pages = IsPage-with_entry m h.slot_table s v fits.pages;
      size = length-with_entry m h.slot_table s v ∙ fits.size;
      entries = λ p in'. ap is_well_formed (frame_entry-slot_set h m s v p hw lt in') ∙ fits.entries p in';
      tables = λ f of.
          let e = frame_entry-slot_set h m s v f hw lt (table_frame_valid h f hw of) in
          (ap (λ (entry : ℕ). is_saveable (page_flags entry)) e ∙ (fits.tables f of).0, ap owner_of e ∙ (fits.tables f of).1);
      slots = λ k lt'. elim (cases_eq k s) [
        | inl e ↦ ap₂ is_slot_entry e (ap (raw_slot_entry h (with_entry m h.slot_table s v)) e ∙ slot_entry-set_same h m s v has lt (omega arith)) ∙ ok
        | inr ne ↦ ap (is_slot_entry k) (slot_entry-set_apart h m s v k has lt ne) ∙ fits.slots k lt'
      ];
    }

same_slot : (h : Hardware) (m n : Memory) (s v : ℕ) → IsHardware h → Fits h m → IsSameMemory h m n → length n ≡ length m → s < h.slots → IsSameMemory h (with_entry m h.slot_table s v) (with_entry n h.slot_table s v)
unfolding with_entry
same_slot h m n s v hw fits same size lt =
    let f = h.slot_table + s / 1024 in
    let of = of_slot_table h s lt in
    let x = with_number 4 (frame m f) (4 * (s % 1024)) v in
    let equal : with_number 4 (frame n f) (4 * (s % 1024)) v ≡ x = ap (λ (page : List ℕ). with_number 4 page (4 * (s % 1024)) v) (same_table h m n f hw fits same (inr of)) in
    let fit = slot_table_fits h hw in
    let long = fits.size in
    subst (λ (y : List ℕ). IsSameMemory h (set m f x) (set n f y)) (sym equal)
    (same_set h m n f x hw fits same size (omega arith) (λ q in_q ne not_free. inl (λ free. not_free (frame_entry-slot_set h m s v q hw lt in_q ∙ free))))

pub mirrors_slot : (h : Hardware) (frames m : Memory) (s v : ℕ) → IsHardware h → HasSlots h frames → Mirrors h frames m → s < h.slots → v ≤ 64 → is_slot_entry s v ≡ true → raw_slot_entry h frames s ≢ 65536 → Mirrors h (with_entry frames h.slot_table s v) (with_entry m h.slot_table s v)
mirrors_slot h frames m s v hw has mirrors lt few ok ne =
    let n = seen_frames h frames in
    let size = mirrors.fits.size in
    let same_size : length n ≡ length m = let a = length-seen h frames in let b = mirrors.size in omega arith in
    record {
      same = subst (IsSameMemory h (with_entry m h.slot_table s v)) (sym (seen_slot h frames s v has lt (omega arith) (λ e. let r : ⊥ = omega arith in r) ne)) (same_slot h m n s v hw mirrors.fits mirrors.same same_size lt);
      fits = fits_slot h m s v hw mirrors.fits lt few ok;
      size = length-with_entry frames h.slot_table s v ∙ mirrors.size;
    }

-- no slot is named as the image's that wasn't
pub named_slot : (h : Hardware) (frames : Memory) (s v : ℕ) → HasSlots h frames → s < h.slots → v ≤ 64 → (k : ℕ) → k < h.slots → raw_slot_entry h (with_entry frames h.slot_table s v) k ≡ 65536 → raw_slot_entry h frames k ≡ 65536
named_slot h frames s v has lt few k lt' e = elim (cases_eq k s) [
  | inl same ↦
      let is : raw_slot_entry h (with_entry frames h.slot_table s v) s ≡ v = slot_entry-set_same h frames s v has lt (omega arith) in
      let at : raw_slot_entry h (with_entry frames h.slot_table s v) s ≡ 65536 = subst (λ (j : ℕ). raw_slot_entry h (with_entry frames h.slot_table s v) j ≡ 65536) same e in
      absurd (omega arith)
  | inr apart ↦ sym (slot_entry-set_apart h frames s v k has lt apart) ∙ e
]

-- Rows of requests.

-- a task without an unfinished operation
pub not_in_flight : (o : Option Flight) → is_some o ≡ false → o ≡ None
not_in_flight None e = refl
not_in_flight (Some flight) e = absurd (false≢true (sym e))

-- a request that looks at page frames alone
pub row_of_frames : (machine : Machine) (frames new : Memory) (t : ℕ) (o : TaskOp) (r : Reply) → flights_in machine.flights t ≡ None → HasFrameRow machine.hw t o frames new r → SimulatesRequest machine frames t o machine new r
row_of_frames machine frames new t o r idle row = λ none a shows. row machine.held (reason_of machine.area) (flights_in machine.flights) idle a shows

-- a request of a task whose operation isn't finished

why_in_flight : (h : Hardware) (t : ℕ) (o : TaskOp) (a : Running) → is_some (a.flights t) ≡ true → refusal h (on a) (event.Task t o) ≡ Some reply.InFlight
unfolding refusal
why_in_flight h t o a e = ap (λ (b : Bool). or_else (refused_if b reply.InFlight) (op_refusal h a t o)) e

step_in_flight : (h : Hardware) (v : disk.DiskImage) (t : ℕ) (o : TaskOp) (a : Running) → is_some (a.flights t) ≡ true → Step h v (on a) (event.Task t o) reply.InFlight (on a)
unfolding outcomes
step_in_flight h v t o a e = subst (λ (w : Option Reply). Contains (refused_or (on a) w (requested h a t o)) (reply.InFlight, on a)) (sym (why_in_flight h t o a e)) (0, omega arith, refl)

pub row_in_flight : (machine : Machine) (frames : Memory) (t : ℕ) (o : TaskOp) → is_some (flights_in machine.flights t) ≡ true → SimulatesRequest machine frames t o machine frames reply.InFlight
row_in_flight machine frames t o flies = λ none a shows. (
  a,
  record {
    step = λ v. step_in_flight machine.hw v t o a (ap (λ (f : Option Flight). is_some f) (shows.flights t) ∙ flies);
    runs = shows;
    held = refl;
    unusable = refl;
    named = λ s lt e. e;
  },
  refl,
)

pub swap_refused : (machine : Machine) (frames : Memory) (t : ℕ) (o : TaskOp) (r : Reply) → flights_in machine.flights t ≡ None → (NamesNone machine frames → (a : Running) → ShowsAs machine frames a → op_refusal machine.hw a t o ≡ Some r) → SimulatesRequest machine frames t o machine frames r
swap_refused machine frames t o r idle why = λ none a shows. (
  a,
  record {
    step = λ v. step_refused machine.hw v t o a r (shows.flights t ∙ idle) (why none a shows);
    runs = shows;
    held = refl;
    unusable = refl;
    named = λ s lt e. e;
  },
  refl,
)

-- the operation begins, and the memory changes as the page frames
pub swap_begun : (machine machine' : Machine) (frames new : Memory) (t : ℕ) (o : TaskOp) (r : Reply) (next : Memory → Memory) (flight : Flight) → flights_in machine.flights t ≡ None →
    ((u : ℕ) → flights_in machine'.flights u ≡ with_flight (flights_in machine.flights) t (Some flight) u) →
    (NamesNone machine frames → (a : Running) → ShowsAs machine frames a → (op_refusal machine.hw a t o ≡ None) × Contains (requested machine.hw a t o) (r, on (record a { memory = next a.memory; flights = with_flight a.flights t (Some flight) })) × Mirrors machine.hw new (next a.memory)) →
    ((s : ℕ) → s < machine.hw.slots → raw_slot_entry machine.hw new s ≡ 65536 → raw_slot_entry machine.hw frames s ≡ 65536) → SimulatesRequest machine frames t o machine' new r
swap_begun machine machine' frames new t o r next flight idle now asked named = λ none a shows.
    let it = asked none a shows in
    let b : Running = record a { memory = next a.memory; flights = with_flight a.flights t (Some flight) } in (
      b,
      record {
        step = λ v. step_done machine.hw v t o a r (on b) (shows.flights t ∙ idle) it.0 it.1;
        runs = record {
          held = shows.held;
          unusable = shows.unusable;
          flights = λ u. ap (λ (f : Option Flight). cond (eqb u t) (Some flight) f) (shows.flights u) ∙ sym (now u);
          same = it.2.same;
          fits = it.2.fits;
        };
        held = refl;
        unusable = refl;
        named = named;
      },
      refl,
    )

-- What comes after the page frame's owner.

first_refusal : (x y z : Option Reply) (r : Reply) → or_else x y ≡ Some r → or_else x (or_else y z) ≡ Some r
first_refusal None None z r e = absurd (none-some r e)
first_refusal None (Some q) z r e = e
first_refusal (Some q) y z r e = e

later_refusal : (x y z : Option Reply) → or_else x y ≡ None → or_else x (or_else y z) ≡ z
later_refusal None None z e = refl
later_refusal None (Some q) z e = absurd (none-some q (sym e))
later_refusal (Some q) y z e = absurd (none-some q (sym e))

-- the machine's page frames show its memory
pub shows-mirrors : (machine : Machine) (frames : Memory) (a : Running) → ShowsAs machine frames a → length frames ≡ top machine.hw.zones → Mirrors machine.hw frames a.memory
shows-mirrors machine frames a shows size = mirrors_of machine.hw machine.held (reason_of machine.area) (flights_in machine.flights) frames a shows size

-- the rest of an out's refusals, and of an in's
abbrev out_rest : Hardware → Running → Option Reply
out_rest h a = or_else (closed a) (refused_if (is_none (free_slots_of h a)) reply.NoSlot)

abbrev in_rest : Hardware → Running → ℕ → ℕ → Option Reply
in_rest h a t s = refused_if (not (owns_slot h a t s)) reply.NoSlotHere

-- not the task's page frame
pub out_not_own : (machine : Machine) (frames : Memory) (t p : ℕ) (r : Reply) → IsHardware machine.hw → length frames ≡ top machine.hw.zones → flights_in machine.flights t ≡ None → own_refusal machine.hw frames t p ≡ Some r → SimulatesRequest machine frames t (op.Out p) machine frames r
out_not_own machine frames t p r hw size idle refused =
    swap_refused machine frames t (op.Out p) r idle (λ none a shows.
    let mirrors = shows-mirrors machine frames a shows size in
    first_refusal (refused_if (not (is_valid machine.hw p)) reply.NoFrame) (refused_if (not (eqb (owner_of (frame_entry machine.hw a.memory p)) t)) reply.NotOwner) (out_rest machine.hw a) r
    (own_shown machine.hw frames a.memory t p hw mirrors ∙ refused))

pub in_not_own : (machine : Machine) (frames : Memory) (t s p : ℕ) (r : Reply) → IsHardware machine.hw → length frames ≡ top machine.hw.zones → flights_in machine.flights t ≡ None → own_refusal machine.hw frames t p ≡ Some r → SimulatesRequest machine frames t (op.TakeIn s p) machine frames r
in_not_own machine frames t s p r hw size idle refused =
    swap_refused machine frames t (op.TakeIn s p) r idle (λ none a shows.
    let mirrors = shows-mirrors machine frames a shows size in
    first_refusal (refused_if (not (is_valid machine.hw p)) reply.NoFrame) (refused_if (not (eqb (owner_of (frame_entry machine.hw a.memory p)) t)) reply.NotOwner) (in_rest machine.hw a t s) r
    (own_shown machine.hw frames a.memory t p hw mirrors ∙ refused))

out_owned : (machine : Machine) (frames : Memory) (t p : ℕ) (a : Running) → IsHardware machine.hw → length frames ≡ top machine.hw.zones → own_refusal machine.hw frames t p ≡ None → ShowsAs machine frames a → op_refusal machine.hw a t (op.Out p) ≡ out_rest machine.hw a
out_owned machine frames t p a hw size owned shows =
    let mirrors = shows-mirrors machine frames a shows size in
    later_refusal (refused_if (not (is_valid machine.hw p)) reply.NoFrame) (refused_if (not (eqb (owner_of (frame_entry machine.hw a.memory p)) t)) reply.NotOwner) (out_rest machine.hw a)
    (own_shown machine.hw frames a.memory t p hw mirrors ∙ owned)

in_owned : (machine : Machine) (frames : Memory) (t s p : ℕ) (a : Running) → IsHardware machine.hw → length frames ≡ top machine.hw.zones → own_refusal machine.hw frames t p ≡ None → ShowsAs machine frames a → op_refusal machine.hw a t (op.TakeIn s p) ≡ in_rest machine.hw a t s
in_owned machine frames t s p a hw size owned shows =
    let mirrors = shows-mirrors machine frames a shows size in
    later_refusal (refused_if (not (is_valid machine.hw p)) reply.NoFrame) (refused_if (not (eqb (owner_of (frame_entry machine.hw a.memory p)) t)) reply.NotOwner) (in_rest machine.hw a t s)
    (own_shown machine.hw frames a.memory t p hw mirrors ∙ owned)

-- an image is held, or is none

held_image : (flag : HeldFlag) (x : Held) → flag ≢ No → ShowsHeld flag x → is_held x ≡ true
held_image flag (sure i) some shows = refl
held_image flag (maybe i) some shows = refl
held_image No nothing some shows = absurd (some refl)
held_image Yes nothing some shows = absurd shows
held_image Perhaps nothing some shows = absurd shows

held_none : (flag : HeldFlag) (x : Held) → flag ≡ No → ShowsHeld flag x → is_held x ≡ false
held_none flag nothing none shows = refl
held_none flag (sure i) none shows = absurd (subst (λ (f : HeldFlag). ShowsHeld f (sure i)) none shows)
held_none flag (maybe i) none shows = absurd (subst (λ (f : HeldFlag). ShowsHeld f (maybe i)) none shows)

pub out_closed : (machine : Machine) (frames : Memory) (t p : ℕ) → IsHardware machine.hw → length frames ≡ top machine.hw.zones → flights_in machine.flights t ≡ None → own_refusal machine.hw frames t p ≡ None → machine.held ≢ No → SimulatesRequest machine frames t (op.Out p) machine frames reply.Closed
out_closed machine frames t p hw size idle owned held =
    swap_refused machine frames t (op.Out p) reply.Closed idle (λ none a shows.
    out_owned machine frames t p a hw size owned shows
    ∙ ap (λ (b : Bool). or_else (refused_if b reply.Closed) (refused_if (is_none (free_slots_of machine.hw a)) reply.NoSlot)) (held_image machine.held a.held held shows.held))

-- The least free slot.

find_first : (p : ℕ → Bool) (xs : List ℕ) → find p xs ≡ slice_get (filter p xs) 0
find_first p [] = refl
find_first p (x ∷ xs) = by_test (p x) (find_first p xs) where
  by_test : (b : Bool) → find p xs ≡ slice_get (filter p xs) 0 → cond b (Some x) (find p xs) ≡ slice_get (cond b (x ∷ filter p xs) (filter p xs)) 0
  by_test true rest = refl
  by_test false rest = rest

shown_free : (h : Hardware) (frames m : Memory) → IsHardware h → HasSlots h frames → Mirrors h frames m → ((s : ℕ) → s < h.slots → raw_slot_entry h frames s ≢ 65536) → filter (λ s. eqb (slot_entry h m s) 0) (range_with_len 0 h.slots) ≡ free_slots h.slots h.slot_table frames
unfolding free_slots
shown_free h frames m hw has mirrors none =
    filter_agree_within (λ s. eqb (slot_entry h m s) 0) (λ s. eqb (raw_slot_entry h frames s) 0) (range_with_len 0 h.slots)
    (λ s in'.
    let bounds = range-bounds 0 h.slots s in' in
    let below = bounds.1 in
    let lt : s < h.slots = omega arith in
    ap (λ (e : ℕ). eqb e 0) (slot_entry-plain h m s mirrors.fits lt ∙ mirrors-slot_entry h frames m s hw mirrors lt ∙ slot_entry-seen h frames s has (none s lt)))

usable_slots : (h : Hardware) (a : Running) → a.unusable ≡ None → free_slots_of h a ≡ find (λ s. eqb (slot_entry h a.memory s) 0) (range_with_len 0 h.slots)
usable_slots h a e = ap (λ (o : Option NoSwap). cond (is_some o) None (find (λ s. eqb (slot_entry h a.memory s) 0) (range_with_len 0 h.slots))) e

reason_none : (area : Result Area NoSwap) → is_ok area ≡ true → reason_of area ≡ None
reason_none (Ok area) e = refl
reason_none (Err why) e = absurd (false≢true e)

reason_some : (area : Result Area NoSwap) → is_ok area ≡ false → is_some (reason_of area) ≡ true
reason_some (Ok area) e = absurd (false≢true (sym e))
reason_some (Err why) e = refl

-- the least free slot is a slot, and free
pub first_free : (h : Hardware) (frames : Memory) (s : ℕ) → slice_get (free_slots h.slots h.slot_table frames) 0 ≡ Some s → (s < h.slots) × (raw_slot_entry h frames s ≡ 0)
first_free h frames s e = free_slot h.slots h.slot_table frames s (first_in (free_slots h.slots h.slot_table frames) s e) where
  first_in : (xs : List ℕ) (s : ℕ) → slice_get xs 0 ≡ Some s → Contains xs s
  first_in [] s e = absurd (none-some s e)
  first_in (x ∷ xs) s e = (0, omega arith, same_Some x s e)

-- the free slot that an out takes, where an image isn't held
out_slot : (machine : Machine) (frames : Memory) (a : Running) → IsHardware machine.hw → HasSlots machine.hw frames → length frames ≡ top machine.hw.zones → machine.held ≡ No → NamesNone machine frames → ShowsAs machine frames a → is_ok machine.area ≡ true →
    free_slots_of machine.hw a ≡ slice_get (free_slots machine.hw.slots machine.hw.slot_table frames) 0
out_slot machine frames a hw has size held none shows ok =
    usable_slots machine.hw a (shows.unusable ∙ reason_none machine.area ok)
    ∙ find_first (λ s. eqb (slot_entry machine.hw a.memory s) 0) (range_with_len 0 machine.hw.slots)
    ∙ ap (λ (xs : List ℕ). slice_get xs 0) (shown_free machine.hw frames a.memory hw has (shows-mirrors machine frames a shows size) (none held))

out_unheld : (machine : Machine) (frames : Memory) (t p : ℕ) (a : Running) → IsHardware machine.hw → length frames ≡ top machine.hw.zones → own_refusal machine.hw frames t p ≡ None → machine.held ≡ No → ShowsAs machine frames a →
    op_refusal machine.hw a t (op.Out p) ≡ refused_if (is_none (free_slots_of machine.hw a)) reply.NoSlot
out_unheld machine frames t p a hw size owned held shows =
    out_owned machine frames t p a hw size owned shows
    ∙ ap (λ (b : Bool). or_else (refused_if b reply.Closed) (refused_if (is_none (free_slots_of machine.hw a)) reply.NoSlot)) (held_none machine.held a.held held shows.held)

pub out_no_slot : (machine : Machine) (frames : Memory) (t p : ℕ) → IsHardware machine.hw → HasSlots machine.hw frames → length frames ≡ top machine.hw.zones → flights_in machine.flights t ≡ None → own_refusal machine.hw frames t p ≡ None → machine.held ≡ No →
    (is_ok machine.area ≡ true → slice_get (free_slots machine.hw.slots machine.hw.slot_table frames) 0 ≡ None) → SimulatesRequest machine frames t (op.Out p) machine frames reply.NoSlot
out_no_slot machine frames t p hw has size idle owned held full =
    swap_refused machine frames t (op.Out p) reply.NoSlot idle (λ none a shows.
    out_unheld machine frames t p a hw size owned held shows
    ∙ ap (λ (o : Option ℕ). refused_if (is_none o) reply.NoSlot) (elim (cases_Bool (is_ok machine.area)) [
      | inl ok ↦ out_slot machine frames a hw has size held none shows ok ∙ full ok
      | inr unusable ↦ ap (λ (b : Bool). cond b None (find (λ s. eqb (slot_entry machine.hw a.memory s) 0) (range_with_len 0 machine.hw.slots))) (ap (λ (o : Option NoSwap). is_some o) shows.unusable ∙ reason_some machine.area unusable)
    ]))

requested_out : (h : Hardware) (a : Running) (t p s : ℕ) → free_slots_of h a ≡ Some s → Contains (requested h a t (op.Out p)) (reply.Slot s, on (record a { memory = with_entry a.memory h.slot_table s t; flights = with_flight a.flights t (Some (goes_out s p)) }))
requested_out h a t p s e =
    subst (λ (o : Option ℕ). Contains {X = Outcome} ((reply.Slot (unwrap_or o 0), on (record a { memory = with_entry a.memory h.slot_table (unwrap_or o 0) t; flights = with_flight a.flights t (Some (goes_out (unwrap_or o 0) p)) })) ∷ []) (reply.Slot s, on (record a { memory = with_entry a.memory h.slot_table s t; flights = with_flight a.flights t (Some (goes_out s p)) })))
    (sym e) (0, omega arith, refl)

pub out_begun : (machine machine' : Machine) (frames : Memory) (t p s : ℕ) → IsHardware machine.hw → HasSlots machine.hw frames → IsTask t → length frames ≡ top machine.hw.zones → flights_in machine.flights t ≡ None → own_refusal machine.hw frames t p ≡ None → machine.held ≡ No → is_ok machine.area ≡ true →
    slice_get (free_slots machine.hw.slots machine.hw.slot_table frames) 0 ≡ Some s → s < machine.hw.slots → raw_slot_entry machine.hw frames s ≡ 0 →
    ((u : ℕ) → flights_in machine'.flights u ≡ with_flight (flights_in machine.flights) t (Some (goes_out s p)) u) → SimulatesRequest machine frames t (op.Out p) machine' (with_entry frames machine.hw.slot_table s t) (reply.Slot s)
out_begun machine machine' frames t p s hw has task size idle owned held ok least lt free now =
    let h = machine.hw in
    let few = task.few in
    swap_begun machine machine' frames (with_entry frames h.slot_table s t) t (op.Out p) (reply.Slot s) (λ m. with_entry m h.slot_table s t) (goes_out s p) idle now
    (λ none a shows.
    let mirrors = shows-mirrors machine frames a shows size in
    let slot = out_slot machine frames a hw has size held none shows ok ∙ least in
    let ne = none held s lt in
    let entry : raw_slot_entry h a.memory s ≡ 0 = mirrors-slot_entry h frames a.memory s hw mirrors lt ∙ slot_entry-seen h frames s has ne ∙ free in (
      out_unheld machine frames t p a hw size owned held shows ∙ ap (λ (o : Option ℕ). refused_if (is_none o) reply.NoSlot) slot,
      requested_out h a t p s slot,
      mirrors_slot h frames a.memory s t hw has mirrors lt few (entry_of_task s (raw_slot_entry h a.memory s) t (mirrors.fits.slots s lt) (omega arith) few) ne,
    ))
    (named_slot h frames s t has lt few)

-- The task's own slot.

owner_same : (t e m : ℕ) → IsTask t → (e ≡ 65536 → m ≡ 0) → (e ≢ 65536 → m ≡ e) → eqb m t ≡ eqb e t
owner_same t e m task image plain =
    let some = task.some in
    let few = task.few in
    elim (cases_eq e 65536) [
      | inl is ↦ ne_eqb m t (λ same. let zero_is = image is in let r : ⊥ = omega arith in r) ∙ sym (ne_eqb e t (λ same. let r : ⊥ = omega arith in r))
      | inr ne ↦ ap (λ (x : ℕ). eqb x t) (plain ne)
    ]

owns_shown : (area : Result Area NoSwap) (why : Option NoSwap) (b c d : Bool) → why ≡ reason_of area → (b ≡ true → c ≡ d) → (is_none why && (b && c)) ≡ (is_ok area && b && d)
owns_shown area None b c d e same = usable area b (sym e) same where
  usable : (area : Result Area NoSwap) (b : Bool) → reason_of area ≡ None → (b ≡ true → c ≡ d) → (b && c) ≡ (is_ok area && b && d)
  usable (Ok it) true e same = same refl
  usable (Ok it) false e same = refl
  usable (Err it) b e same = absurd (none-some it (sym e))
owns_shown (Ok it) (Some w) b c d e same = absurd (none-some w (sym e))
owns_shown (Err it) (Some w) b c d e same = refl

in_owns : (machine : Machine) (frames : Memory) (t s : ℕ) (a : Running) → IsHardware machine.hw → HasSlots machine.hw frames → IsTask t → length frames ≡ top machine.hw.zones → ShowsAs machine frames a →
    owns_slot machine.hw a t s ≡ (is_ok machine.area && nat_lt s machine.hw.slots && eqb (raw_slot_entry machine.hw frames s) t)
in_owns machine frames t s a hw has task size shows =
    let h = machine.hw in
    let mirrors = shows-mirrors machine frames a shows size in
    owns_shown machine.area a.unusable (nat_lt s h.slots) (eqb (slot_entry h a.memory s) t) (eqb (raw_slot_entry h frames s) t) shows.unusable
    (λ below.
    let lt = ltb-true s h.slots below in
    let entry = slot_entry-plain h a.memory s mirrors.fits lt ∙ mirrors-slot_entry h frames a.memory s hw mirrors lt in
    owner_same t (raw_slot_entry h frames s) (slot_entry h a.memory s) task (λ image. entry ∙ slot_entry-image h frames s has lt image) (λ ne. entry ∙ slot_entry-seen h frames s has ne))

pub in_no_slot : (machine : Machine) (frames : Memory) (t s p : ℕ) → IsHardware machine.hw → HasSlots machine.hw frames → IsTask t → length frames ≡ top machine.hw.zones → flights_in machine.flights t ≡ None → own_refusal machine.hw frames t p ≡ None →
    (is_ok machine.area && nat_lt s machine.hw.slots && eqb (raw_slot_entry machine.hw frames s) t) ≡ false → SimulatesRequest machine frames t (op.TakeIn s p) machine frames reply.NoSlotHere
in_no_slot machine frames t s p hw has task size idle owned other =
    swap_refused machine frames t (op.TakeIn s p) reply.NoSlotHere idle (λ none a shows.
    in_owned machine frames t s p a hw size owned shows ∙ ap (λ (b : Bool). refused_if (not b) reply.NoSlotHere) (in_owns machine frames t s a hw has task size shows ∙ other))

pub in_begun : (machine machine' : Machine) (frames : Memory) (t s p : ℕ) → IsHardware machine.hw → HasSlots machine.hw frames → IsTask t → length frames ≡ top machine.hw.zones → flights_in machine.flights t ≡ None → own_refusal machine.hw frames t p ≡ None →
    (is_ok machine.area && nat_lt s machine.hw.slots && eqb (raw_slot_entry machine.hw frames s) t) ≡ true →
    ((u : ℕ) → flights_in machine'.flights u ≡ with_flight (flights_in machine.flights) t (Some (comes_in s p)) u) → SimulatesRequest machine frames t (op.TakeIn s p) machine' frames (reply.Reading s)
in_begun machine machine' frames t s p hw has task size idle owned own now =
    swap_begun machine machine' frames frames t (op.TakeIn s p) (reply.Reading s) (λ m. m) (comes_in s p) idle now
    (λ none a shows. (
      in_owned machine frames t s p a hw size owned shows ∙ ap (λ (b : Bool). refused_if (not b) reply.NoSlotHere) (in_owns machine frames t s a hw has task size shows ∙ own),
      (0, omega arith, refl),
      shows-mirrors machine frames a shows size,
    ))
    (λ k lt e. e)
