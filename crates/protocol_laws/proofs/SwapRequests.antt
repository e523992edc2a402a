-- Tasks that swap: a state stands on after a task's request.
use Rattle.std.proofs.Common.{◌≡◌, ◌≢◌, ◌⊎◌, inl, inr, ℕ, zero, suc, ◌+◌, ◌/◌, ◌^◌, ◌<◌, ◌≤◌, Bool, true, false, cond, not, eqb, ◌&&◌, ◌||◌, List, [], ◌∷◌, length, Option, Some, None, is_some, is_none, unwrap_or, Contains, refl, sym, ap, ap₂, ◌∙◌, arith, set, subst}
use Rattle.std.specs.List.{find, range_with_len, list_all}
use Rattle.std.specs.Prelude.{nat_le, nat_lt}
use Rattle.std.proofs.lemmas.Bool.{cases_eq, eqb-true, eq-eqb, lt-ltb, ne_eqb, false≢true, ltb-true, and_parts}
use Rattle.std.proofs.lemmas.Option.{none-some, same_Some}
use Rattle.definitions.specs.Bytes.{IsPage, zero_page, word, with_word}
use Rattle.definitions.specs.Disk as disk
use Rattle.definitions.specs.Tables.{frame, owner_of}
use Rattle.definitions.specs.Zones.{numbers}
use Rattle.definitions.proofs.Ascending.{Contains-head, Contains-tail}
use Rattle.definitions.proofs.PageBytes.{length-zero_page}
use Rattle.definitions.proofs.TableEntries.{entry_at-with_entry_same, entry_at-with_entry_other, frame-with_entry_other}
use Rattle.definitions.proofs.ZoneNumbers.{below_top, range-bounds}
use Rattle.image_format.specs.AreaKind.{area_kind}
use Rattle.image_format.specs.declared.signature.area.AreaKind.{AreaKind}
use Rattle.image_format.specs.declared.signature.area.AreaKind.TheVariants.{Image as Marks, Old, Other, BadArea, Swap}
use Rattle.image_laws.proofs.NumberWords.{has_from_any}
use Rattle.plain_machine.specs.Chain.{or_else}
use Rattle.plain_machine.specs.Machine.{IsTask}
use Rattle.plain_machine.specs.Loader.{has}
use Rattle.plain_machine.specs.Machine.{Hardware, Memory, IsHardware, Fits, IsOfTable, IsTableFrame, is_valid, frame_entry, raw_slot_entry, slot_entry, image_slot, bad_slot, is_slot_entry, is_slot_of}
use Rattle.plain_machine.specs.Refusals.{refused_if, refusal, task_refusal, op_refusal, not_owner, free_slots_of, owns_slot, closed, is_held}
use Rattle.plain_machine.specs.Shows.{WorldView}
use Rattle.plain_machine.specs.Stands.{StandsOn, IsTaskSlot, IsTarget, IsFlight, HasFlights, NamesHeld}
use Rattle.plain_machine.specs.State.{State, off, on, booting, hibernating, undoing, settling, waking, loading, asleep, Running, Flight, goes_out, comes_in, Held, nothing, sure, maybe, own, other}
use Rattle.plain_machine.specs.Step.{Step, Outcome, outcomes, refused_or, requested, task_step, finished, with_frame, with_frame_entry, with_slot_entry, with_flight, owned_by}
use Rattle.plain_machine.specs.UsableArea.{area_fault, area_block, bad_set_fault, bad_slots_of, dump_area_fault, first_fault}
use Rattle.plain_machine.specs.declared.event.Actor.TheVariants as actor
use Rattle.plain_machine.specs.declared.event.Event.TheVariants as event
use Rattle.plain_machine.specs.declared.event.TaskOp.{TaskOp}
use Rattle.plain_machine.specs.declared.event.TaskOp.TheVariants as op
use Rattle.plain_machine.specs.declared.no_swap.NoSwap.{NoSwap}
use Rattle.plain_machine.specs.declared.no_swap.NoSwap.TheVariants as no_swap
use Rattle.plain_machine.specs.declared.reply.Reply.{Reply}
use Rattle.plain_machine.specs.declared.reply.Reply.TheVariants as reply
use Rattle.plain_machine.proofs.SameMemory.{of_slot_table, table_frame_valid, table_frame_used, table_frame_not_owned, tables_apart, of_frame_table, entry-same, entry-set_other, slot_entry-set_other, fits_set, frame_entry-set_other, slot_entry-frame_entry_set}

-- Slots of a table.

-- whether a slot is bad, in one memory as in another
abbrev pub SameBad : Hardware → Memory → Memory → Type 0
SameBad h m n = (s : ℕ) → s < h.slots → eqb (raw_slot_entry h n s) bad_slot ≡ eqb (raw_slot_entry h m s) bad_slot

list_all-same : (p q : ℕ → Bool) (xs : List ℕ) → ((x : ℕ) → Contains xs x → p x ≡ q x) → list_all p xs ≡ list_all q xs
list_all-same p q [] same = refl
list_all-same p q (x ∷ xs) same = ap₂ (λ (a b : Bool). a && b) (same x (Contains-head x xs)) (list_all-same p q xs (λ y in'. same y (Contains-tail x xs y in')))

bad_set-by : (h : Hardware) (m n : Memory) (kind : AreaKind) → SameBad h m n → bad_set_fault h n kind ≡ bad_set_fault h m kind
bad_set-by h m n (Marks mark) same = refl
bad_set-by h m n Old same = refl
bad_set-by h m n (Other sig) same = refl
bad_set-by h m n (BadArea why) same = refl
bad_set-by h m n (Swap area) same =
    ap (λ (b : Bool). cond b None (Some no_swap.BadSet))
    (list_all-same (λ s. cond (eqb (raw_slot_entry h n s) bad_slot) (has (bad_slots_of area) s) (not (has (bad_slots_of area) s)))
    (λ s. cond (eqb (raw_slot_entry h m s) bad_slot) (has (bad_slots_of area) s) (not (has (bad_slots_of area) s))) (range_with_len 0 h.slots)
    (λ s in'. let bounds = range-bounds 0 h.slots s in' in let below = bounds.1 in ap (λ (b : Bool). cond b (has (bad_slots_of area) s) (not (has (bad_slots_of area) s))) (same s (omega arith))))

pub dump_area-by : (h : Hardware) (v : disk.DiskImage) (m n : Memory) → SameBad h m n → dump_area_fault h v n ≡ dump_area_fault h v m
unfolding dump_area_fault
dump_area-by h v m n same = ap (first_fault (area_fault h v)) (bad_set-by h m n (area_kind (area_block h v)) same)

-- an entry as it is seen, by the entry
seen_by : (e f : ℕ) → e ≡ f → cond (eqb e image_slot) 0 e ≡ cond (eqb f image_slot) 0 f
seen_by e f same = ap (λ (x : ℕ). cond (eqb x image_slot) 0 x) same

-- one that isn't an image's is seen as it is
seen_as : (e : ℕ) → e ≢ image_slot → cond (eqb e image_slot) 0 e ≡ e
seen_as e ne = ap (λ (b : Bool). cond b 0 e) (ne_eqb e image_slot ne)

-- in a memory that fits no entry is an image's
pub no_image_entry : (h : Hardware) (m : Memory) (s : ℕ) → Fits h m → s < h.slots → raw_slot_entry h m s ≢ image_slot
no_image_entry h m s fits lt e =
    let at : is_slot_entry s image_slot ≡ true = subst (λ (n : ℕ). is_slot_entry s n ≡ true) e (fits.slots s lt) in
    never (eqb s 0) at where
      never : (b : Bool) → (eqb image_slot bad_slot || (not b && nat_le image_slot 64)) ≡ true → ⊥
      never true f = false≢true f
      never false f = false≢true f

pub entry_seen : (h : Hardware) (m : Memory) (s : ℕ) → Fits h m → s < h.slots → slot_entry h m s ≡ raw_slot_entry h m s
entry_seen h m s fits lt = seen_as (raw_slot_entry h m s) (no_image_entry h m s fits lt)

-- the slot table's page frame of a slot is a page of memory
table_place : (h : Hardware) (m : Memory) (s : ℕ) → IsHardware h → Fits h m → s < h.slots → (h.slot_table + s / 1024 < length m) × IsPage (frame m (h.slot_table + s / 1024))
table_place h m s hw fits lt =
    let valid = table_frame_valid h (h.slot_table + s / 1024) hw (inr (of_slot_table h s lt)) in
    let below = below_top h.zones (h.slot_table + s / 1024) hw.zones.apart valid in
    let size = fits.size in
    let within : h.slot_table + s / 1024 < length m = omega arith in
    (within, fits.pages (h.slot_table + s / 1024) [] within)

pub slot_entry-set_same : (h : Hardware) (m : Memory) (s v : ℕ) → IsHardware h → Fits h m → s < h.slots → v < 2 ^ 32 → raw_slot_entry h (with_slot_entry h m s v) s ≡ v
slot_entry-set_same h m s v hw fits lt small = let at = table_place h m s hw fits lt in entry_at-with_entry_same m h.slot_table s v at.0 at.1 small

pub slot_entry-set_another : (h : Hardware) (m : Memory) (s v q : ℕ) → IsHardware h → Fits h m → s < h.slots → q ≢ s → raw_slot_entry h (with_slot_entry h m s v) q ≡ raw_slot_entry h m q
slot_entry-set_another h m s v q hw fits lt ne = let at = table_place h m s hw fits lt in entry_at-with_entry_other m h.slot_table s v q at.0 at.1 ne

-- page frames' entries don't change with a slot's
pub frame_entry-slot_entry_set : (h : Hardware) (m : Memory) (s v p : ℕ) → IsHardware h → s < h.slots → Contains (numbers h.zones) p → frame_entry h (with_slot_entry h m s v) p ≡ frame_entry h m p
frame_entry-slot_entry_set h m s v p hw lt in' =
    entry-same m (with_slot_entry h m s v) h.frame_table p
    (frame-with_entry_other m h.slot_table s v (h.frame_table + p / 1024)
    (λ e. tables_apart h (h.frame_table + p / 1024) hw (of_frame_table h p hw in') (subst (λ (f : ℕ). IsOfTable h.slot_table h.slots f) (sym e) (of_slot_table h s lt))))

-- What a step of a task says.

-- a list of one
only_one : (x y : Outcome) → Contains (x ∷ []) y → x ≡ y
only_one x y (zero, lt, e) = e
only_one x y (suc k, lt, e) = absurd (omega arith)

-- and of two
pub one_of_two : (x z y : Outcome) → Contains (x ∷ z ∷ []) y → (x ≡ y) ⊎ (z ≡ y)
one_of_two x z y (zero, lt, e) = inl e
one_of_two x z y (suc zero, lt, e) = inr e
one_of_two x z y (suc (suc k), lt, e) = absurd (omega arith)

by_refusal : (a b : State) (r : Reply) (why : Option Reply) (outs : List Outcome) → Contains (refused_or a why outs) (r, b) → (a ≡ b) ⊎ ((why ≡ None) × Contains outs (r, b))
by_refusal a b r None outs in' = inr (refl, in')
by_refusal a b r (Some x) outs in' = inl (ap (λ (o : Outcome). o.1) (only_one (x, a) (r, b) in'))

-- a request is refused, or made
request_cases : (h : Hardware) (v : disk.DiskImage) (a : Running) (t : ℕ) (o : TaskOp) (r : Reply) (b : State) → Step h v (on a) (event.Task t o) r b → (on a ≡ b) ⊎ ((task_refusal h t o a ≡ None) × Contains (requested h a t o) (r, b))
unfolding outcomes refusal
request_cases h v a t o r b step = by_refusal (on a) b r (task_refusal h t o a) (requested h a t o) step

-- a step of a task that has an operation ends the operation
pub ends : (h : Hardware) (v : disk.DiskImage) (a : Running) (t : ℕ) (f : Flight) (r : Reply) (b : State) → a.flights t ≡ Some f → Step h v (on a) (event.Step (actor.Task t)) r b → Contains (finished h a t f) (r, b)
unfolding outcomes refusal
ends h v a t f r b flight step =
    subst (λ (o : Option Flight). Contains (refused_or (on a) (refused_if (not (is_some o)) reply.Idle) (task_step h a t o)) (r, b)) flight step

abbrev running_in : Running → State → Running
running_in d (on a) = a
running_in d (off held kept) = d
running_in d (booting from dump held k) = d
running_in d (hibernating suspends i a k) = d
running_in d (undoing i call a k) = d
running_in d (settling a k) = d
running_in d (waking i held a k) = d
running_in d (loading load k) = d
running_in d (asleep i held a) = d

pub same_on : (a b : Running) → on a ≡ on b → a ≡ b
same_on a b e = ap (running_in a) e

-- What a request was tested for.

first_none : (x y : Option Reply) → or_else x y ≡ None → (x ≡ None) × (y ≡ None)
first_none None y e = (refl, e)
first_none (Some r) y e = absurd (none-some r (sym e))

passed : (b : Bool) (r : Reply) → refused_if b r ≡ None → b ≡ false
passed true r e = absurd (none-some r (sym e))
passed false r e = refl

not_not : (b : Bool) → not b ≡ false → b ≡ true
not_not true e = refl
not_not false e = absurd (false≢true (sym e))

none_of : (o : Option Flight) → is_some o ≡ false → o ≡ None
none_of None e = refl
none_of (Some f) e = absurd (false≢true (sym e))

-- the task has no operation, and its own tests are passed
pub tests : (h : Hardware) (t : ℕ) (o : TaskOp) (a : Running) → task_refusal h t o a ≡ None → (a.flights t ≡ None) × (op_refusal h a t o ≡ None)
tests h t o a none =
    let parts = first_none (refused_if (is_some (a.flights t)) reply.InFlight) (op_refusal h a t o) none in
    (none_of (a.flights t) (passed (is_some (a.flights t)) reply.InFlight parts.0), parts.1)

-- the page frame is valid and the task's
pub record IsOwnFrame (h : Hardware) (a : Running) (t p : ℕ) : Type 0 where
  pub valid : is_valid h p ≡ true
  pub owner : owner_of (frame_entry h a.memory p) ≡ t

own_frame : (h : Hardware) (a : Running) (t p : ℕ) (rest : Option Reply) → or_else (refused_if (not (is_valid h p)) reply.NoFrame) (or_else (not_owner h a t p) rest) ≡ None → IsOwnFrame h a t p × (rest ≡ None)
own_frame h a t p rest none =
    let outer = first_none (refused_if (not (is_valid h p)) reply.NoFrame) (or_else (not_owner h a t p) rest) none in
    let inner = first_none (not_owner h a t p) rest outer.1 in (
      record {
        valid = not_not (is_valid h p) (passed (not (is_valid h p)) reply.NoFrame outer.0);
        owner = eqb-true (owner_of (frame_entry h a.memory p)) t (not_not (eqb (owner_of (frame_entry h a.memory p)) t) (passed (not (eqb (owner_of (frame_entry h a.memory p)) t)) reply.NotOwner inner.0));
      },
      inner.1,
    )

own_alone : (h : Hardware) (a : Running) (t p : ℕ) → or_else (refused_if (not (is_valid h p)) reply.NoFrame) (not_owner h a t p) ≡ None → IsOwnFrame h a t p
own_alone h a t p none =
    let outer = first_none (refused_if (not (is_valid h p)) reply.NoFrame) (not_owner h a t p) none in
    record {
      valid = not_not (is_valid h p) (passed (not (is_valid h p)) reply.NoFrame outer.0);
      owner = eqb-true (owner_of (frame_entry h a.memory p)) t (not_not (eqb (owner_of (frame_entry h a.memory p)) t) (passed (not (eqb (owner_of (frame_entry h a.memory p)) t)) reply.NotOwner outer.1));
    }

pub valid_in : (h : Hardware) (p : ℕ) → is_valid h p ≡ true → Contains (numbers h.zones) p
valid_in h p is = has_from_any (numbers h.zones) p is

pub no_table : (h : Hardware) (a : Running) (t p : ℕ) → Fits h a.memory → IsTask t → IsOwnFrame h a t p → IsTableFrame h p → ⊥
no_table h a t p fits task its = table_frame_not_owned h a.memory p t fits its.owner task.some

-- Parts of a running state.

-- page frames in which no slot is named an image's that wasn't
abbrev pub NamesNoMore : Hardware → Memory → Memory → Type 0
NamesNoMore h old new = (s : ℕ) → s < h.slots → raw_slot_entry h new s ≡ image_slot → raw_slot_entry h old s ≡ image_slot

pub names_fewer : (h : Hardware) (s s' : WorldView) (held : Held) → NamesNoMore h s.frames s'.frames → NamesHeld h s held → NamesHeld h s' held
names_fewer h s s' nothing fewer names = λ k lt e. names k lt (fewer k lt e)
names_fewer h s s' (sure (own i)) fewer names = record { memory = names.memory; image = names.image; names = λ k lt e. names.names k lt (fewer k lt e) }
names_fewer h s s' (sure other) fewer names = λ k lt e. names k lt (fewer k lt e)
names_fewer h s s' (maybe (own i)) fewer names = record { memory = names.memory; image = names.image; names = λ k lt e. names.names k lt (fewer k lt e) }
names_fewer h s s' (maybe other) fewer names = λ k lt e. names k lt (fewer k lt e)

-- the task of an unfinished operation, with its slot and page frame
abbrev pub Flies : Running → ℕ → ℕ → ℕ → Type 0
Flies a u s p = (a.flights u ≡ Some (goes_out s p)) ⊎ (a.flights u ≡ Some (comes_in s p))

pub flight_of : (h : Hardware) (a : Running) (u s p : ℕ) → HasFlights h a → Flies a u s p → IsFlight h a u s p
flight_of h a u s p has (inl e) = has.outs u s p e
flight_of h a u s p has (inr e) = has.ins u s p e

pub slot_within : (h : Hardware) (m : Memory) (t s : ℕ) → is_slot_of h m t s ≡ true → (s < h.slots) × (slot_entry h m s ≡ t)
slot_within h m t s is =
    let parts = and_parts (nat_lt s h.slots) (eqb (slot_entry h m s) t) is in
    (ltb-true s h.slots parts.0, eqb-true (slot_entry h m s) t parts.1)

is_slot_by : (h : Hardware) (m n : Memory) (t s : ℕ) → slot_entry h n s ≡ slot_entry h m s → is_slot_of h m t s ≡ true → is_slot_of h n t s ≡ true
is_slot_by h m n t s same is = ap (λ (e : ℕ). nat_lt s h.slots && eqb e t) same ∙ is

-- An operation stays where its slot's and its page frame's entries stay.
pub flight_stays : (h : Hardware) (a b : Running) (u s p : ℕ) → IsFlight h a u s p → b.unusable ≡ a.unusable → slot_entry h b.memory s ≡ slot_entry h a.memory s → frame_entry h b.memory p ≡ frame_entry h a.memory p → IsFlight h b u s p
flight_stays h a b u s p is usable slot entry = record {
  task = is.task;
  usable = usable ∙ is.usable;
  slot = is_slot_by h a.memory b.memory u s slot is.slot;
  valid = is.valid;
  owner = ap owner_of entry ∙ is.owner;
}

-- What a request that isn't an out's makes of memory: slots' entries stay, and those of the page frames of other operations.
pub record Keeps (h : Hardware) (a : Running) (m : Memory) : Type 0 where
  pub slots : (s : ℕ) → s < h.slots → raw_slot_entry h m s ≡ raw_slot_entry h a.memory s
  pub frames : (u s p : ℕ) → Flies a u s p → frame_entry h m p ≡ frame_entry h a.memory p

seen_slot : (h : Hardware) (a : Running) (m : Memory) (s : ℕ) → Keeps h a m → s < h.slots → slot_entry h m s ≡ slot_entry h a.memory s
seen_slot h a m s keeps lt = seen_by (raw_slot_entry h m s) (raw_slot_entry h a.memory s) (keeps.slots s lt)

pub task_slot_by : (h : Hardware) (m n : Memory) (s : ℕ) → slot_entry h n s ≡ slot_entry h m s → IsTaskSlot h m s → IsTaskSlot h n s
task_slot_by h m n s same is = (is.0, subst (λ (k : ℕ). 1 ≤ k) (sym same) is.1, subst (λ (k : ℕ). k ≤ 64) (sym same) is.2)

pub with_memory : (h : Hardware) (shown shown' : WorldView) (c : disk.Content) (a : Running) (m : Memory) → StandsOn h shown c a → Keeps h a m → NamesNoMore h shown.frames shown'.frames → StandsOn h shown' c (record a { memory = m })
with_memory h shown shown' c a m on' keeps fewer =
    let b : Running = record a { memory = m } in
    let flies : (u s p : ℕ) → Flies a u s p → IsFlight h b u s p =
    λ u s p f. let is = flight_of h a u s p on'.flights f in flight_stays h a b u s p is refl (seen_slot h a m s keeps (slot_within h a.memory u s is.slot).0) (keeps.frames u s p f) in
    record {
      held = on'.held;
      task_slots = record {
        usable = on'.task_slots.usable;
        tasks = λ s page e. let is = on'.task_slots.tasks s page e in task_slot_by h a.memory m s (seen_slot h a m s keeps is.0) is;
        landed = on'.task_slots.landed;
        paged = λ usable s is out. on'.task_slots.paged usable s (task_slot_by h m a.memory s (sym (seen_slot h a m s keeps is.0)) is) out;
      };
      flights = record { outs = λ u s p e. flies u s p (inl e); unheld = on'.flights.unheld; ins = λ u s p e. flies u s p (inr e) };
      slot_pages = on'.slot_pages;
      names = names_fewer h shown shown' a.held fewer on'.names;
      header = on'.header;
      area = on'.area ∙ sym (dump_area-by h (disk.as_it_reads c) a.memory m (λ s lt. ap (λ (e : ℕ). eqb e bad_slot) (keeps.slots s lt)));
    }

-- Requests that leave the slots.

-- an operation's page frame is neither a free one nor one of a task that has no operation
not_free : (h : Hardware) (a : Running) (u s q p : ℕ) → IsFlight h a u s q → frame_entry h a.memory p ≡ 1 → q ≢ p
not_free h a u s q p is free e =
    let some = is.task.some in
    let owner : u ≡ owner_of 1 = sym is.owner ∙ ap (λ (x : ℕ). owner_of (frame_entry h a.memory x)) e ∙ ap owner_of free in
    let r : ⊥ = omega arith in r

not_idle : (h : Hardware) (a : Running) (u s q t p : ℕ) → HasFlights h a → Flies a u s q → a.flights t ≡ None → owner_of (frame_entry h a.memory p) ≡ t → q ≢ p
not_idle h a u s q t p has flies idle owner e =
    let is = flight_of h a u s q has flies in
    let same : u ≡ t = sym is.owner ∙ ap (λ (x : ℕ). owner_of (frame_entry h a.memory x)) e ∙ owner in
    let none : a.flights u ≡ None = ap a.flights same ∙ idle in
    elim flies [
      | inl out ↦ none-some (goes_out s q) (sym none ∙ out)
      | inr in' ↦ none-some (comes_in s q) (sym none ∙ in')
    ]

keeps_claim : (h : Hardware) (a : Running) (t p : ℕ) → IsHardware h → Fits h a.memory → HasFlights h a → is_valid h p ≡ true → frame_entry h a.memory p ≡ 1 → Keeps h a (with_frame_entry h (with_frame a.memory p zero_page) p (owned_by t))
keeps_claim h a t p hw fits has valid free =
    let m = a.memory in
    let in' = valid_in h p valid in
    let apart : IsTableFrame h p → ⊥ = λ of. table_frame_used h m p fits of free in
    record {
      slots = λ s lt. slot_entry-frame_entry_set h (set m p zero_page) p s (owned_by t) hw in' lt ∙ slot_entry-set_other h m p s zero_page (λ of. apart (inr of)) lt;
      frames = λ u s q flies.
          let is = flight_of h a u s q has flies in
          frame_entry-set_other h (set m p zero_page) p q (owned_by t) hw (fits_set h m p zero_page hw fits apart length-zero_page) in' (not_free h a u s q p is free)
          ∙ entry-set_other h m p q zero_page hw apart (valid_in h q is.valid);
    }

keeps_entry : (h : Hardware) (a : Running) (t p v : ℕ) → IsHardware h → Fits h a.memory → HasFlights h a → a.flights t ≡ None → IsOwnFrame h a t p → Keeps h a (with_frame_entry h a.memory p v)
keeps_entry h a t p v hw fits has idle its =
    let in' = valid_in h p its.valid in
    record {
      slots = λ s lt. slot_entry-frame_entry_set h a.memory p s v hw in' lt;
      frames = λ u s q flies. frame_entry-set_other h a.memory p q v hw fits in' (not_idle h a u s q t p has flies idle its.owner);
    }

keeps_page : (h : Hardware) (a : Running) (t p : ℕ) (x : List ℕ) → IsHardware h → Fits h a.memory → IsTask t → HasFlights h a → IsOwnFrame h a t p → Keeps h a (with_frame a.memory p x)
keeps_page h a t p x hw fits task has its =
    let apart = no_table h a t p fits task its in
    record {
      slots = λ s lt. slot_entry-set_other h a.memory p s x (λ of. apart (inr of)) lt;
      frames = λ u s q flies. entry-set_other h a.memory p q x hw apart (valid_in h q (flight_of h a u s q has flies).valid);
    }

-- Operations.

-- of another task an operation is as it was
pub flight_other : (flights : ℕ → Option Flight) (t u : ℕ) (f : Option Flight) → u ≢ t → with_flight flights t f u ≡ flights u
flight_other flights t u f ne = ap (λ (b : Bool). cond b f (flights u)) (ne_eqb u t ne)

pub flight_own : (flights : ℕ → Option Flight) (t : ℕ) (f : Option Flight) → with_flight flights t f t ≡ f
flight_own flights t f = ap (λ (b : Bool). cond b f (flights t)) (eq-eqb t t refl)

-- two tasks have no slot in common
pub same_task : (h : Hardware) (m : Memory) (t u s : ℕ) → is_slot_of h m t s ≡ true → is_slot_of h m u s ≡ true → t ≡ u
same_task h m t u s first second = sym (slot_within h m t s first).1 ∙ (slot_within h m u s second).1

-- the target of an out, with an operation more or less
pub target_of_other : (flights : ℕ → Option Flight) (t q u p : ℕ) (f : Option Flight) → u ≢ t → with_flight flights t f u ≡ Some (goes_out q p) → IsTarget flights q
target_of_other flights t q u p f ne e = (u, p, sym (flight_other flights t u f ne) ∙ e)

pub other_target : (flights : ℕ → Option Flight) (t q u p : ℕ) (f : Option Flight) → u ≢ t → flights u ≡ Some (goes_out q p) → IsTarget (with_flight flights t f) q
other_target flights t q u p f ne e = (u, p, flight_other flights t u f ne ∙ e)

abbrev pub slot_out : Flight → ℕ
slot_out (goes_out s p) = s
slot_out (comes_in s p) = s

pub same_slot : (s p : ℕ) (f : Flight) → Some f ≡ Some (goes_out s p) → slot_out f ≡ s
same_slot s p f e = ap slot_out (same_Some f (goes_out s p) e)

abbrev frame_out : Flight → ℕ
frame_out (goes_out s p) = p
frame_out (comes_in s p) = p

same_out : (s p q r : ℕ) → ◌≡◌ {A = Option Flight} (Some (goes_out s p)) (Some (goes_out q r)) → (s ≡ q) × (p ≡ r)
same_out s p q r e = let same = same_Some (goes_out s p) (goes_out q r) e in (ap slot_out same, ap frame_out same)

same_in : (s p q r : ℕ) → ◌≡◌ {A = Option Flight} (Some (comes_in s p)) (Some (comes_in q r)) → (s ≡ q) × (p ≡ r)
same_in s p q r e = let same = same_Some (comes_in s p) (comes_in q r) e in (ap slot_out same, ap frame_out same)

out_not_in : (s p q r : ℕ) → ◌≡◌ {A = Option Flight} (Some (goes_out s p)) (Some (comes_in q r)) → ⊥
out_not_in s p q r e = goes_nowhere (same_Some (goes_out s p) (comes_in q r) e) where
  goes_nowhere : goes_out s p ≡ comes_in q r → ⊥
  goes_nowhere f = absurd (cc)

-- an in is no out
pub comes_not_out : (s p q r : ℕ) → ◌≡◌ {A = Option Flight} (Some (comes_in s p)) (Some (goes_out q r)) → ⊥
comes_not_out s p q r e = goes_nowhere (same_Some (comes_in s p) (goes_out q r) e) where
  goes_nowhere : comes_in s p ≡ goes_out q r → ⊥
  goes_nowhere f = absurd (cc)

-- Memory in which slot s has another entry, free or a task's, as it was free or a task's before.
pub record Reslots (h : Hardware) (m n : Memory) (s e : ℕ) : Type 0 where
  pub here : slot_entry h n s ≡ e
  pub others : (q : ℕ) → q < h.slots → q ≢ s → slot_entry h n q ≡ slot_entry h m q
  pub frames : (p : ℕ) → Contains (numbers h.zones) p → frame_entry h n p ≡ frame_entry h m p
  pub bad : SameBad h m n

small_entry : (e : ℕ) → e ≤ 64 → (e ≢ image_slot) × (eqb e bad_slot ≡ false)
small_entry e le = (λ is. omega arith, ne_eqb e bad_slot (λ is. omega arith))

pub reslots : (h : Hardware) (m : Memory) (s e : ℕ) → IsHardware h → Fits h m → s < h.slots → slot_entry h m s ≤ 64 → e ≤ 64 → Reslots h m (with_slot_entry h m s e) s e
reslots h m s e hw fits lt was le =
    let raw = slot_entry-set_same h m s e hw fits lt (omega arith) in
    let seen = entry_seen h m s fits lt in
    let few : raw_slot_entry h m s ≤ 64 = omega arith in
    record {
      here = seen_by (raw_slot_entry h (with_slot_entry h m s e) s) e raw ∙ seen_as e (small_entry e le).0;
      others = λ q q_lt ne. seen_by (raw_slot_entry h (with_slot_entry h m s e) q) (raw_slot_entry h m q) (slot_entry-set_another h m s e q hw fits lt ne);
      frames = λ p in'. frame_entry-slot_entry_set h m s e p hw lt in';
      bad = λ q q_lt. elim (cases_eq q s) [
        | inl is ↦
            ap (λ (x : ℕ). eqb (raw_slot_entry h (with_slot_entry h m s e) x) bad_slot) is ∙ ap (λ (x : ℕ). eqb x bad_slot) raw ∙ (small_entry e le).1
            ∙ sym (ap (λ (x : ℕ). eqb (raw_slot_entry h m x) bad_slot) is ∙ (small_entry (raw_slot_entry h m s) few).1)
        | inr ne ↦ ap (λ (x : ℕ). eqb x bad_slot) (slot_entry-set_another h m s e q hw fits lt ne)
      ];
    }

-- and a page of a page frame that is no table's
pub reslots_page : (h : Hardware) (m n : Memory) (s e p : ℕ) (x : List ℕ) → IsHardware h → (IsTableFrame h p → ⊥) → s < h.slots → Reslots h m n s e → Reslots h m (with_frame n p x) s e
reslots_page h m n s e p x hw apart lt is =
    let entry : (q : ℕ) → q < h.slots → raw_slot_entry h (set n p x) q ≡ raw_slot_entry h n q = λ q q_lt. slot_entry-set_other h n p q x (λ of. apart (inr of)) q_lt in
    record {
      here = seen_by (raw_slot_entry h (set n p x) s) (raw_slot_entry h n s) (entry s lt) ∙ is.here;
      others = λ q q_lt ne. seen_by (raw_slot_entry h (set n p x) q) (raw_slot_entry h n q) (entry q q_lt) ∙ is.others q q_lt ne;
      frames = λ q in'. entry-set_other h n p q x hw apart in' ∙ is.frames q in';
      bad = λ q q_lt. ap (λ (y : ℕ). eqb y bad_slot) (entry q q_lt) ∙ is.bad q q_lt;
    }

-- a running state is unchanged, and the world shows no further slot as the image's
still_on : (h : Hardware) (shown shown' : WorldView) (c : disk.Content) (a : Running) → StandsOn h shown c a → NamesNoMore h shown.frames shown'.frames → StandsOn h shown' c a
still_on h shown shown' c a on' fewer = record {
  held = on'.held;
  task_slots = on'.task_slots;
  flights = on'.flights;
  slot_pages = on'.slot_pages;
  names = names_fewer h shown shown' a.held fewer on'.names;
  header = on'.header;
  area = on'.area;
}

becomes : (x b : Running) (q r : Reply) → Contains {X = Outcome} ((q, on x) ∷ []) (r, on b) → x ≡ b
becomes x b q r in' = same_on x b (ap (λ (o : Outcome). o.1) (only_one (q, on x) (r, on b) in'))

open_held : (held : Held) → is_held held ≡ false → held ≡ nothing
open_held nothing e = refl
open_held (sure x) e = absurd (false≢true (sym e))
open_held (maybe x) e = absurd (false≢true (sym e))

slot_there : (o : Option ℕ) → is_none o ≡ false → (s : ℕ) × (o ≡ Some s)
slot_there None e = absurd (false≢true (sym e))
slot_there (Some s) e = (s, refl)

-- An out begins.

found_at : (test : ℕ → Bool) (x : ℕ) (xs : List ℕ) (k : ℕ) (b : Bool) → test x ≡ b → cond b (Some x) (find test xs) ≡ Some k → (find test xs ≡ Some k → Contains xs k × (test k ≡ true)) → Contains (x ∷ xs) k × (test k ≡ true)
found_at test x xs k true is f rest = let same = same_Some x k f in (subst (λ (y : ℕ). Contains (x ∷ xs) y) same (Contains-head x xs), ap test (sym same) ∙ is)
found_at test x xs k false is f rest = let later = rest f in (Contains-tail x xs k later.0, later.1)

found_in : (test : ℕ → Bool) (xs : List ℕ) (k : ℕ) → find test xs ≡ Some k → Contains xs k × (test k ≡ true)
found_in test [] k e = absurd (none-some k e)
found_in test (x ∷ xs) k e = found_at test x xs k (test x) refl e (λ f. found_in test xs k f)

no_reason : (o : Option NoSwap) (x : Option ℕ) (k : ℕ) → cond (is_some o) None x ≡ Some k → (o ≡ None) × (x ≡ Some k)
no_reason None x k e = (refl, e)
no_reason (Some why) x k e = absurd (none-some k e)

-- the slot that an out takes
pub record IsFreeSlot (h : Hardware) (a : Running) (s : ℕ) : Type 0 where
  pub usable : a.unusable ≡ None
  pub within : s < h.slots
  pub free : slot_entry h a.memory s ≡ 0

pub free_slot : (h : Hardware) (a : Running) (s : ℕ) → free_slots_of h a ≡ Some s → IsFreeSlot h a s
free_slot h a s e =
    let test : ℕ → Bool = λ q. eqb (slot_entry h a.memory q) 0 in
    let parts = no_reason a.unusable (find test (range_with_len 0 h.slots)) s e in
    let found = found_in test (range_with_len 0 h.slots) s parts.1 in
    let bounds = range-bounds 0 h.slots s found.0 in
    let below = bounds.1 in
    record { usable = parts.0; within = omega arith; free = eqb-true (slot_entry h a.memory s) 0 found.1 }

out_begins : (h : Hardware) (shown shown' : WorldView) (c : disk.Content) (a : Running) (t s p : ℕ) → IsHardware h → Fits h a.memory → IsTask t → StandsOn h shown c a → a.flights t ≡ None → IsOwnFrame h a t p → a.held ≡ nothing → IsFreeSlot h a s → NamesNoMore h shown.frames shown'.frames →
    StandsOn h shown' c (record a { memory = with_slot_entry h a.memory s t; flights = with_flight a.flights t (Some (goes_out s p)) })
out_begins h shown shown' c a t s p hw fits task on' idle its unheld slot fewer =
    let m = a.memory in
    let n = with_slot_entry h m s t in
    let flights = with_flight a.flights t (Some (goes_out s p)) in
    let b : Running = record a { memory = n; flights = flights } in
    let few = task.few in
    let some = task.some in
    let free = slot.free in
    let re = reslots h m s t hw fits slot.within (omega arith) few in
    let not_s : (q : ℕ) → 1 ≤ slot_entry h m q → q ≢ s = λ q ge e. let zero_here : slot_entry h m q ≡ 0 = ap (slot_entry h m) e ∙ free in omega arith in
    let old_other : (u q r : ℕ) → Flies a u q r → u ≢ t = λ u q r flies e.
    let none : a.flights u ≡ None = ap a.flights e ∙ idle in
    elim flies [ inl out ↦ none-some (goes_out q r) (sym none ∙ out) | inr in' ↦ none-some (comes_in q r) (sym none ∙ in') ] in
    let stays : (u q r : ℕ) → Flies a u q r → IsFlight h b u q r = λ u q r flies.
    let is = flight_of h a u q r on'.flights flies in
    let it = slot_within h m u q is.slot in
    let u_some = is.task.some in
    let entry = it.1 in
    flight_stays h a b u q r is refl (re.others q it.0 (not_s q (omega arith))) (re.frames r (valid_in h r is.valid)) in
    let mine : IsFlight h b t s p = record {
      task = task;
      usable = slot.usable;
      slot = ap₂ (λ (x y : Bool). x && y) (lt-ltb s h.slots slot.within) (eq-eqb (slot_entry h n s) t re.here);
      valid = its.valid;
      owner = ap owner_of (re.frames p (valid_in h p its.valid)) ∙ its.owner;
    } in
    record {
      held = on'.held;
      task_slots = record {
        usable = on'.task_slots.usable;
        tasks = λ q page e. let is = on'.task_slots.tasks q page e in task_slot_by h m n q (re.others q is.0 (not_s q is.1)) is;
        landed = λ q page e target. elim (cases_eq target.0 t) [
          | inl mine ↦
              let here : Some (goes_out s p) ≡ Some (goes_out q target.1) = sym (flight_own a.flights t (Some (goes_out s p))) ∙ ap flights (sym mine) ∙ target.2 in
              not_s q (on'.task_slots.tasks q page e).1 (sym (same_slot q target.1 (goes_out s p) here))
          | inr ne ↦ on'.task_slots.landed q page e (target_of_other a.flights t q target.0 target.1 (Some (goes_out s p)) ne target.2)
        ];
        paged = λ usable q is out. elim (cases_eq q s) [
          | inl here ↦ absurd (out (subst (IsTarget flights) (sym here) (t, p, flight_own a.flights t (Some (goes_out s p)))))
          | inr ne ↦ on'.task_slots.paged usable q (task_slot_by h n m q (sym (re.others q is.0 ne)) is)
              (λ target. out (other_target a.flights t q target.0 target.1 (Some (goes_out s p)) (old_other target.0 q target.1 (inl target.2)) target.2))
        ];
      };
      flights = record {
        outs = λ u q r e. elim (cases_eq u t) [
          | inl is ↦
              let here : Some (goes_out s p) ≡ Some (goes_out q r) = sym (flight_own a.flights t (Some (goes_out s p))) ∙ ap flights (sym is) ∙ e in
              let parts = same_out s p q r here in
              subst (λ (x : ℕ). IsFlight h b x q r) (sym is) (subst (λ (x : ℕ). IsFlight h b t x r) parts.0 (subst (λ (x : ℕ). IsFlight h b t s x) parts.1 mine))
          | inr ne ↦ stays u q r (inl (sym (flight_other a.flights t u (Some (goes_out s p)) ne) ∙ e))
        ];
        unheld = λ u q r e. unheld;
        ins = λ u q r e. elim (cases_eq u t) [
          | inl is ↦ absurd (out_not_in s p q r (sym (flight_own a.flights t (Some (goes_out s p))) ∙ ap flights (sym is) ∙ e))
          | inr ne ↦ stays u q r (inr (sym (flight_other a.flights t u (Some (goes_out s p)) ne) ∙ e))
        ];
      };
      slot_pages = on'.slot_pages;
      names = names_fewer h shown shown' a.held fewer on'.names;
      header = on'.header;
      area = on'.area ∙ sym (dump_area-by h (disk.as_it_reads c) m n re.bad);
    }

-- An in begins.

owned_slot : (h : Hardware) (a : Running) (t s : ℕ) → owns_slot h a t s ≡ true → (a.unusable ≡ None) × (is_slot_of h a.memory t s ≡ true)
owned_slot h a t s is =
    let parts = and_parts (is_none a.unusable) (is_slot_of h a.memory t s) is in
    (no_why a.unusable parts.0, parts.1) where
      no_why : (o : Option NoSwap) → is_none o ≡ true → o ≡ None
      no_why None e = refl
      no_why (Some why) e = absurd (false≢true e)

in_begins : (h : Hardware) (shown shown' : WorldView) (c : disk.Content) (a : Running) (t s p : ℕ) → IsTask t → StandsOn h shown c a → a.flights t ≡ None → IsOwnFrame h a t p → a.unusable ≡ None → is_slot_of h a.memory t s ≡ true → NamesNoMore h shown.frames shown'.frames →
    StandsOn h shown' c (record a { flights = with_flight a.flights t (Some (comes_in s p)) })
in_begins h shown shown' c a t s p task on' idle its usable slot fewer =
    let flights = with_flight a.flights t (Some (comes_in s p)) in
    let b : Running = record a { flights = flights } in
    let stays : (u q r : ℕ) → Flies a u q r → IsFlight h b u q r = λ u q r flies.
    let is = flight_of h a u q r on'.flights flies in flight_stays h a b u q r is refl refl refl in
    let mine : IsFlight h b t s p = record { task = task; usable = usable; slot = slot; valid = its.valid; owner = its.owner } in
    let out_of : (u q r : ℕ) → flights u ≡ Some (goes_out q r) → a.flights u ≡ Some (goes_out q r) = λ u q r e.
    elim (cases_eq u t) [
      | inl is ↦ absurd (comes_not_out s p q r (sym (flight_own a.flights t (Some (comes_in s p))) ∙ ap flights (sym is) ∙ e))
      | inr ne ↦ sym (flight_other a.flights t u (Some (comes_in s p)) ne) ∙ e
    ] in
    record {
      held = on'.held;
      task_slots = record {
        usable = on'.task_slots.usable;
        tasks = on'.task_slots.tasks;
        landed = λ q page e target. on'.task_slots.landed q page e (target.0, target.1, out_of target.0 q target.1 target.2);
        paged = λ usable q is out. on'.task_slots.paged usable q is
            (λ target. out (other_target a.flights t q target.0 target.1 (Some (comes_in s p)) (λ e. none-some (goes_out q target.1) (sym (ap a.flights e ∙ idle) ∙ target.2)) target.2));
      };
      flights = record {
        outs = λ u q r e. stays u q r (inl (out_of u q r e));
        unheld = λ u q r e. on'.flights.unheld u q r (out_of u q r e);
        ins = λ u q r e. elim (cases_eq u t) [
          | inl is ↦
              let parts = same_in s p q r (sym (flight_own a.flights t (Some (comes_in s p))) ∙ ap flights (sym is) ∙ e) in
              subst (λ (x : ℕ). IsFlight h b x q r) (sym is) (subst (λ (x : ℕ). IsFlight h b t x r) parts.0 (subst (λ (x : ℕ). IsFlight h b t s x) parts.1 mine))
          | inr ne ↦ stays u q r (inr (sym (flight_other a.flights t u (Some (comes_in s p)) ne) ∙ e))
        ];
      };
      slot_pages = on'.slot_pages;
      names = names_fewer h shown shown' a.held fewer on'.names;
      header = on'.header;
      area = on'.area;
    }

-- A request that isn't refused.

requested_on : (h : Hardware) (shown shown' : WorldView) (c : disk.Content) (a b : Running) (t : ℕ) (o : TaskOp) (r : Reply) → IsHardware h → Fits h a.memory → IsTask t → StandsOn h shown c a → a.flights t ≡ None → op_refusal h a t o ≡ None → Contains (requested h a t o) (r, on b) → NamesNoMore h shown.frames shown'.frames → StandsOn h shown' c b
requested_on h shown shown' c a b t (op.Claim p) r hw fits task on' idle none in' fewer =
    let parts = first_none (refused_if (not (is_valid h p)) reply.NoFrame) (refused_if (not (eqb (frame_entry h a.memory p) 1)) reply.NotFree) none in
    let valid = not_not (is_valid h p) (passed (not (is_valid h p)) reply.NoFrame parts.0) in
    let free = eqb-true (frame_entry h a.memory p) 1 (not_not (eqb (frame_entry h a.memory p) 1) (passed (not (eqb (frame_entry h a.memory p) 1)) reply.NotFree parts.1)) in
    let m = with_frame_entry h (with_frame a.memory p zero_page) p (owned_by t) in
    subst (StandsOn h shown' c) (becomes (record a { memory = m }) b reply.Done r in')
    (with_memory h shown shown' c a m on' (keeps_claim h a t p hw fits on'.flights valid free) fewer)
requested_on h shown shown' c a b t (op.Release p) r hw fits task on' idle none in' fewer =
    let m = with_frame_entry h a.memory p 1 in
    subst (StandsOn h shown' c) (becomes (record a { memory = m }) b reply.Done r in')
    (with_memory h shown shown' c a m on' (keeps_entry h a t p 1 hw fits on'.flights idle (own_alone h a t p none)) fewer)
requested_on h shown shown' c a b t (op.Store p k v) r hw fits task on' idle none in' fewer =
    let m = with_frame a.memory p (with_word (frame a.memory p) k v) in
    subst (StandsOn h shown' c) (becomes (record a { memory = m }) b reply.Done r in')
    (with_memory h shown shown' c a m on' (keeps_page h a t p (with_word (frame a.memory p) k v) hw fits task on'.flights (own_alone h a t p none)) fewer)
requested_on h shown shown' c a b t (op.Show p k) r hw fits task on' idle none in' fewer =
    subst (StandsOn h shown' c) (becomes a b (reply.Word (word (frame a.memory p) k)) r in') (still_on h shown shown' c a on' fewer)
requested_on h shown shown' c a b t (op.Cache p) r hw fits task on' idle none in' fewer =
    let m = with_frame_entry h a.memory p (owned_by t + 64) in
    subst (StandsOn h shown' c) (becomes (record a { memory = m }) b reply.Done r in')
    (with_memory h shown shown' c a m on' (keeps_entry h a t p (owned_by t + 64) hw fits on'.flights idle (own_alone h a t p none)) fewer)
requested_on h shown shown' c a b t (op.Out p) r hw fits task on' idle none in' fewer =
    let its = own_frame h a t p (or_else (closed a) (refused_if (is_none (free_slots_of h a)) reply.NoSlot)) none in
    let rest = first_none (closed a) (refused_if (is_none (free_slots_of h a)) reply.NoSlot) its.1 in
    let unheld = open_held a.held (passed (is_held a.held) reply.Closed rest.0) in
    let some = slot_there (free_slots_of h a) (passed (is_none (free_slots_of h a)) reply.NoSlot rest.1) in
    let s = some.0 in
    let taken = λ (x : ℕ). record a { memory = with_slot_entry h a.memory x t; flights = with_flight a.flights t (Some (goes_out x p)) } in
    let is : unwrap_or (free_slots_of h a) 0 ≡ s = ap (λ (x : Option ℕ). unwrap_or x 0) some.1 in
    subst (StandsOn h shown' c) (ap taken (sym is) ∙ becomes (taken (unwrap_or (free_slots_of h a) 0)) b (reply.Slot (unwrap_or (free_slots_of h a) 0)) r in')
    (out_begins h shown shown' c a t s p hw fits task on' idle its.0 unheld (free_slot h a s some.1) fewer)
requested_on h shown shown' c a b t (op.TakeIn s p) r hw fits task on' idle none in' fewer =
    let its = own_frame h a t p (refused_if (not (owns_slot h a t s)) reply.NoSlotHere) none in
    let slot = owned_slot h a t s (not_not (owns_slot h a t s) (passed (not (owns_slot h a t s)) reply.NoSlotHere its.1)) in
    subst (StandsOn h shown' c) (becomes (record a { flights = with_flight a.flights t (Some (comes_in s p)) }) b (reply.Reading s) r in')
    (in_begins h shown shown' c a t s p task on' idle its.0 slot.0 slot.1 fewer)

-- A task's request leaves a running state, over the same disk.
pub request_stands : (h : Hardware) (shown shown' : WorldView) (c : disk.Content) (v : disk.DiskImage) (a b : Running) (t : ℕ) (o : TaskOp) (r : Reply) → IsHardware h → Fits h a.memory → IsTask t → StandsOn h shown c a → Step h v (on a) (event.Task t o) r (on b) → NamesNoMore h shown.frames shown'.frames → StandsOn h shown' c b
request_stands h shown shown' c v a b t o r hw fits task on' step fewer =
    elim (request_cases h v a t o r (on b) step) [
      | inl e ↦ subst (StandsOn h shown' c) (same_on a b e) (still_on h shown shown' c a on' fewer)
      | inr made ↦ let tested = tests h t o a made.0 in requested_on h shown shown' c a b t o r hw fits task on' tested.0 tested.1 made.1 fewer
    ]
