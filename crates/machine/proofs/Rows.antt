-- Rows of the plain machine for what a task asks.
use Rattle.std.proofs.Common.{◌≡◌, ◌≢◌, ℕ, ◌+◌, ◌-◌, ◌/◌, ◌^◌, ◌<◌, ◌≤◌, ◌⊎◌, inl, inr, Bool, true, false, not, List, [], ◌∷◌, length, Option, Some, None, is_some, ◌||◌, refl, sym, ap, ◌∙◌, arith, eqb, set, subst}
use Rattle.std.proofs.lemmas.Bool.{eqb-true, eq-eqb, false≢true}
use Rattle.std.proofs.lemmas.List.{length-set}
use Rattle.std.specs.List.{Contains, list_any}
use Rattle.definitions.specs.Disk as disk
use Rattle.definitions.specs.Bytes.{IsPage}
use Rattle.definitions.specs.Zones.{numbers, top}
use Rattle.definitions.specs.Tables.{frame, with_entry, owner_of}
use Rattle.definitions.proofs.Ascending.{Contains-nil, Contains-tail, Contains-cons_cases}
use Rattle.definitions.proofs.ZoneNumbers.{below_top, top_at_most, top_is_next}
use Rattle.definitions.proofs.TableEntries.{length-with_entry}
use Rattle.plain_machine.specs.Machine.{Hardware, Memory, IsHardware, Fits, IsSameMemory, IsTableFrame, is_valid, is_well_formed, frame_entry, raw_slot_entry, table_len}
use Rattle.plain_machine.specs.State.{State, on, Running, Flight}
use Rattle.plain_machine.specs.Chain.{or_else}
use Rattle.plain_machine.specs.Refusals.{refused_if, refusal, op_refusal}
use Rattle.plain_machine.specs.Shows.{RunsAs, seen_frames}
use Rattle.plain_machine.specs.Step.{Step, outcomes, refused_or, requested}
use Rattle.plain_machine.specs.declared.event.Event.TheVariants.{Task}
use Rattle.plain_machine.specs.declared.event.TaskOp.{TaskOp}
use Rattle.plain_machine.specs.declared.held.Held.{Held}
use Rattle.plain_machine.specs.declared.no_swap.NoSwap.{NoSwap}
use Rattle.plain_machine.specs.declared.reply.Reply.{Reply}
use Rattle.plain_machine.specs.declared.reply.Reply.TheVariants as reply
use Rattle.plain_machine.proofs.SameMemory.{table_frame_valid, table_frame_not_owned, same_entry, same_used, same_set, same_entry_set, fits_set, fits_entry, entry-same, entry-set_other, of_frame_table, tables_apart}
use Rattle.plain_machine.proofs.Seen.{seen_set, seen_entry, frame-seen, length-seen}
use Rattle.machine.specs.TaskRow.{HasFrameRow, own_refusal}

-- Steps of a running state for a task's request.

step_by : (h : Hardware) (v : disk.DiskImage) (t : ℕ) (o : TaskOp) (a : Running) (r : Reply) (c : State) → refusal h (on a) (Task t o) ≡ None → Contains (requested h a t o) (r, c) → Step h v (on a) (Task t o) r c
unfolding outcomes
step_by h v t o a r c none in' = subst (λ (why : Option Reply). Contains (refused_or (on a) why (requested h a t o)) (r, c)) (sym none) in'

no_refusal : (h : Hardware) (t : ℕ) (o : TaskOp) (a : Running) (why : Option Reply) → a.flights t ≡ None → op_refusal h a t o ≡ why → refusal h (on a) (Task t o) ≡ why
unfolding refusal
no_refusal h t o a why flight e =
    ap (λ (f : Option Flight). or_else (refused_if (is_some f) reply.InFlight) (op_refusal h a t o)) flight ∙ e

pub step_done : (h : Hardware) (v : disk.DiskImage) (t : ℕ) (o : TaskOp) (a : Running) (r : Reply) (c : State) → a.flights t ≡ None → op_refusal h a t o ≡ None → Contains (requested h a t o) (r, c) → Step h v (on a) (Task t o) r c
step_done h v t o a r c flight none in' = step_by h v t o a r c (no_refusal h t o a None flight none) in'

pub step_refused : (h : Hardware) (v : disk.DiskImage) (t : ℕ) (o : TaskOp) (a : Running) (r : Reply) → a.flights t ≡ None → op_refusal h a t o ≡ Some r → Step h v (on a) (Task t o) r (on a)
unfolding outcomes
step_refused h v t o a r flight e =
    subst (λ (why : Option Reply). Contains (refused_or (on a) why (requested h a t o)) (r, on a)) (sym (no_refusal h t o a (Some r) flight e)) (0, omega arith, refl)

-- Which page frames are valid.

or_right : (b c : Bool) → c ≡ true → (b || c) ≡ true
or_right true c e = refl
or_right false c e = e

pub any_true : (xs : List ℕ) (p : ℕ) → Contains xs p → list_any (λ q. eqb q p) xs ≡ true
any_true [] p in' = absurd (Contains-nil p in')
any_true (x ∷ xs) p in' =
    elim (Contains-cons_cases x xs p in') [
      | inl e ↦ ap (λ (b : Bool). b || list_any (λ q. eqb q p) xs) (eq-eqb x p e)
      | inr rest ↦ or_right (eqb x p) (list_any (λ q. eqb q p) xs) (any_true xs p rest)
    ]

-- a page frame is valid if and only if the test says so
pub valid_true : (h : Hardware) (p : ℕ) → Contains (numbers h.zones) p → is_valid h p ≡ true
valid_true h p in' = any_true (numbers h.zones) p in'

or_cases : (b c : Bool) → (b || c) ≡ true → (b ≡ true) ⊎ (c ≡ true)
or_cases true c e = inl refl
or_cases false c e = inr e

pub any_Contains : (xs : List ℕ) (p : ℕ) → list_any (λ q. eqb q p) xs ≡ true → Contains xs p
any_Contains [] p e = absurd (false≢true e)
any_Contains (x ∷ xs) p e =
    elim (or_cases (eqb x p) (list_any (λ q. eqb q p) xs) e) [
      | inl here ↦ (0, omega arith, eqb-true x p here)
      | inr rest ↦ Contains-tail x xs p (any_Contains xs p rest)
    ]

not_true : (b : Bool) → (b ≡ true → ⊥) → b ≡ false
not_true true never = absurd (never refl)
not_true false never = refl

pub valid_false : (h : Hardware) (p : ℕ) → (Contains (numbers h.zones) p → ⊥) → is_valid h p ≡ false
valid_false h p out = not_true (is_valid h p) (λ e. out (any_Contains (numbers h.zones) p e))

-- what a memory shows, and what is seen of its page frames
pub record Mirrors (h : Hardware) (frames m : Memory) : Type 0 where
  pub same : IsSameMemory h m (seen_frames h frames)
  pub fits : Fits h m
  pub size : length frames ≡ top h.zones

pub mirrors_page : (h : Hardware) (frames m : Memory) (p : ℕ) (x : List ℕ) → IsHardware h → Mirrors h frames m → Contains (numbers h.zones) p → (IsTableFrame h p → ⊥) → IsPage x → Mirrors h (set frames p x) (set m p x)
mirrors_page h frames m p x hw mirrors in' no_table page =
    let n = seen_frames h frames in
    let size = mirrors.fits.size in
    let same_size : length n ≡ length m = let a = length-seen h frames in let b = mirrors.size in omega arith in
    let lt = below_top h.zones p hw.zones.apart in' in
    record {
      same = subst (IsSameMemory h (set m p x)) (sym (seen_set h frames p x (λ of. no_table (inr of))))
          (same_set h m n p x hw mirrors.fits mirrors.same same_size (omega arith)
          (λ q in_q ne used. inl (λ free. used (entry-set_other h m p q x hw no_table in_q ∙ free))));
      fits = fits_set h m p x hw mirrors.fits no_table page;
      size = length-set frames p x ∙ mirrors.size;
    }

pub mirrors_entry : (h : Hardware) (frames m : Memory) (p v : ℕ) → IsHardware h → Mirrors h frames m → Contains (numbers h.zones) p → (IsTableFrame h p → ⊥) → is_well_formed v ≡ true → v < 2 ^ 32 →
    (v ≢ 1 → (frame_entry h m p ≢ 1) ⊎ (frame (seen_frames h frames) p ≡ frame m p)) → Mirrors h (with_entry frames h.frame_table p v) (with_entry m h.frame_table p v)
mirrors_entry h frames m p v hw mirrors in' no_table well small used =
    let n = seen_frames h frames in
    let size = mirrors.fits.size in
    let same_size : length n ≡ length m = let a = length-seen h frames in let b = mirrors.size in omega arith in
    record {
      same = subst (IsSameMemory h (with_entry m h.frame_table p v)) (sym (seen_entry h frames p v hw in'))
          (same_entry_set h m n p v hw mirrors.fits mirrors.same same_size in' small used);
      fits = fits_entry h m p v hw mirrors.fits in' no_table well small;
      size = length-with_entry frames h.frame_table p v ∙ mirrors.size;
    }

-- an entry of the frame table as memory and page frames have it
pub mirrors-frame_entry : (h : Hardware) (frames m : Memory) (p : ℕ) → IsHardware h → Mirrors h frames m → Contains (numbers h.zones) p → frame_entry h m p ≡ frame_entry h frames p
mirrors-frame_entry h frames m p hw mirrors in' =
    sym (same_entry h m (seen_frames h frames) p hw mirrors.fits mirrors.same in')
    ∙ entry-same frames (seen_frames h frames) h.frame_table p
    (frame-seen h frames (h.frame_table + p / 1024) (tables_apart h (h.frame_table + p / 1024) hw (of_frame_table h p hw in')))

-- a page frame that isn't a table's or free
pub mirrors-frame : (h : Hardware) (frames m : Memory) (p : ℕ) → IsHardware h → Mirrors h frames m → Contains (numbers h.zones) p → (IsTableFrame h p → ⊥) → frame_entry h m p ≢ 1 → frame m p ≡ frame frames p
mirrors-frame h frames m p hw mirrors in' apart used =
    sym (same_used h m (seen_frames h frames) p mirrors.same in' used) ∙ frame-seen h frames p (λ of. apart (inr of))

pub mirrors_of : (h : Hardware) (flag : Held) (why : Option NoSwap) (ops : ℕ → Option Flight) (frames : Memory) (a : Running) → RunsAs h flag why ops frames a → length frames ≡ top h.zones → Mirrors h frames a.memory
mirrors_of h flag why ops frames a runs size = record { same = runs.same; fits = runs.fits; size = size }

-- Refusals, as the page frames show them.

invalid : (b : Bool) → b ≡ false → (x y : Option Reply) → or_else (refused_if (not b) reply.NoFrame) x ≡ or_else (refused_if (not b) reply.NoFrame) y
invalid true e x y = absurd (false≢true (sym e))
invalid false e x y = refl

pub own_shown : (h : Hardware) (frames m : Memory) (t p : ℕ) → IsHardware h → Mirrors h frames m → own_refusal h m t p ≡ own_refusal h frames t p
own_shown h frames m t p hw mirrors =
    by_valid (is_valid h p) refl where
      by_valid : (b : Bool) → is_valid h p ≡ b → own_refusal h m t p ≡ own_refusal h frames t p
      by_valid true e = ap (λ (entry : ℕ). or_else (refused_if (not (is_valid h p)) reply.NoFrame) (refused_if (not (eqb (owner_of entry) t)) reply.NotOwner))
          (mirrors-frame_entry h frames m p hw mirrors (any_Contains (numbers h.zones) p e))
      by_valid false e = invalid (is_valid h p) e (refused_if (not (eqb (owner_of (frame_entry h m p)) t)) reply.NotOwner) (refused_if (not (eqb (owner_of (frame_entry h frames p)) t)) reply.NotOwner)

-- a task's own page frame is no table's and not free
pub owned_is_own : (h : Hardware) (m : Memory) (t p : ℕ) → Fits h m → owner_of (frame_entry h m p) ≡ t → 1 ≤ t → (IsTableFrame h p → ⊥) × (frame_entry h m p ≢ 1)
owned_is_own h m t p fits owner some = (table_frame_not_owned h m p t fits owner some, λ free. let zero_owner : owner_of (frame_entry h m p) ≡ 0 = ap owner_of free in let r : ⊥ = omega arith in r)

-- A refused request leaves all as it was.
pub row_refused : (h : Hardware) (t : ℕ) (o : TaskOp) (frames : Memory) (r : Reply) → length frames ≡ top h.zones → ((a : Running) → Mirrors h frames a.memory → op_refusal h a t o ≡ Some r) → HasFrameRow h t o frames frames r
row_refused h t o frames r size why flag reason ops idle a runs = (
  a,
  record {
    step = λ v. step_refused h v t o a r (runs.flights t ∙ idle) (why a (mirrors_of h flag reason ops frames a runs size));
    runs = runs;
    held = refl;
    unusable = refl;
    named = λ s lt e. e;
  },
  refl,
)

-- One that isn't refused changes the memory, and the page frames as the memory. In those the entries of slots are as before.
pub row_done : (h : Hardware) (t : ℕ) (o : TaskOp) (old new : Memory) (r : Reply) (next : Memory → Memory) → length old ≡ top h.zones →
    ((a : Running) → Mirrors h old a.memory → (op_refusal h a t o ≡ None) × Contains (requested h a t o) (r, on (record a { memory = next a.memory }))) →
    ((m : Memory) → Mirrors h old m → Mirrors h new (next m)) → ((s : ℕ) → s < h.slots → raw_slot_entry h new s ≡ raw_slot_entry h old s) → HasFrameRow h t o old new r
row_done h t o old new r next size asked becomes slots flag reason ops idle a runs =
    let mirrors = mirrors_of h flag reason ops old a runs size in
    let done = asked a mirrors in
    let now = becomes a.memory mirrors in (
      record a { memory = next a.memory },
      record {
        step = λ v. step_done h v t o a r (on (record a { memory = next a.memory })) (runs.flights t ∙ idle) done.0 done.1;
        runs = record { held = runs.held; unusable = runs.unusable; flights = runs.flights; same = now.same; fits = now.fits };
        held = refl;
        unusable = refl;
        named = λ s lt e. sym (slots s lt) ∙ e;
      },
      refl,
    )

-- why a page frame isn't the task's, by what is known of the page frame
pub own_no_frame : (h : Hardware) (m : Memory) (t p : ℕ) → (Contains (numbers h.zones) p → ⊥) → own_refusal h m t p ≡ Some reply.NoFrame
own_no_frame h m t p out = ap (λ (b : Bool). or_else (refused_if (not b) reply.NoFrame) (refused_if (not (eqb (owner_of (frame_entry h m p)) t)) reply.NotOwner)) (valid_false h p out)

pub own_valid : (h : Hardware) (m : Memory) (t p : ℕ) → Contains (numbers h.zones) p → own_refusal h m t p ≡ refused_if (not (eqb (owner_of (frame_entry h m p)) t)) reply.NotOwner
own_valid h m t p in' = ap (λ (b : Bool). or_else (refused_if (not b) reply.NoFrame) (refused_if (not (eqb (owner_of (frame_entry h m p)) t)) reply.NotOwner)) (valid_true h p in')

-- the page frame of an entry is one of memory's
pub entry_within : (h : Hardware) (frames : Memory) (p : ℕ) → IsHardware h → length frames ≡ top h.zones → Contains (numbers h.zones) p → h.frame_table + p / 1024 < length frames
entry_within h frames p hw size in' =
    let valid = below_top h.zones (h.frame_table + p / 1024) hw.zones.apart (table_frame_valid h (h.frame_table + p / 1024) hw (inl (of_frame_table h p hw in'))) in
    omega arith

pub valid_is : (h : Hardware) (p : ℕ) (b : Bool) → (b ≡ true → Contains (numbers h.zones) p) → (Contains (numbers h.zones) p → b ≡ true) → b ≡ is_valid h p
valid_is h p true sound whole = sym (valid_true h p (sound refl))
valid_is h p false sound whole = sym (valid_false h p (λ in'. false≢true (whole in')))

-- both tables begin at a page frame number
pub table_below : (h : Hardware) → IsHardware h → (h.frame_table < 65536) × (h.slot_table < 65536)
table_below h hw =
    let high = top_at_most h.zones hw.zones in
    let slots = hw.some_slots in
    let first = below_top h.zones (h.frame_table + 0) hw.zones.apart (hw.frame_table 0 (let some = top_is_next h.zones hw.zones in let low = below_top h.zones (top h.zones - 1) hw.zones.apart some in omega arith)) in
    let second = below_top h.zones (h.slot_table + 0) hw.zones.apart (hw.slot_table 0 (omega arith)) in
    (omega arith, omega arith)

-- memory has the frame table's page frames
pub frame_table_fits : (h : Hardware) (n : ℕ) → IsHardware h → n ≤ top h.zones → h.frame_table + table_len n ≤ top h.zones
frame_table_fits h n hw le =
    let some = top_is_next h.zones hw.zones in
    let low = below_top h.zones (top h.zones - 1) hw.zones.apart some in
    let last = below_top h.zones (h.frame_table + (table_len (top h.zones) - 1)) hw.zones.apart (hw.frame_table (table_len (top h.zones) - 1) (omega arith)) in
    omega arith

pub slot_table_fits : (h : Hardware) → IsHardware h → h.slot_table + table_len h.slots ≤ top h.zones
slot_table_fits h hw =
    let some = hw.some_slots in
    let last = below_top h.zones (h.slot_table + (table_len h.slots - 1)) hw.zones.apart (hw.slot_table (table_len h.slots - 1) (omega arith)) in
    omega arith
