-- When a machine can run, and goes on to.
use Rattle.std.proofs.Common.{◌≡◌, ◌≢◌, ℕ, zero, suc, ◌+◌, ◌-◌, ◌/◌, ◌<◌, ◌≤◌, ◌⊎◌, inl, inr, Bool, true, false, cond, not, ◌||◌, nat_lt, is_ok, Result, Ok, Err, IfOk, List, [], ◌∷◌, length, Option, Some, None, is_some, refl, sym, ap, ◌∙◌, arith, eqb, set, get_or, subst, replicate}
use Rattle.std.proofs.lemmas.Bool.{cases_eq, eq-eqb, eqb-true, ltb-true, ne_eqb, cond-true, cond-false, false≢true}
use Rattle.std.proofs.lemmas.List.{length-set, get_or-set_same, get_or-set_other}
use Rattle.std.proofs.lemmas.Option.{none-some, same_Some}
use Rattle.std.specs.List.{All, Contains, find, list_any, range_with_len}
use Rattle.definitions.specs.Bytes.{IsPage}
use Rattle.definitions.specs.Tables.{with_entry, owner_of}
use Rattle.definitions.specs.Zones.{numbers, top}
use Rattle.definitions.proofs.Ascending.{Contains-nil, Contains-cons_cases}
use Rattle.definitions.proofs.ZoneNumbers.{Contains-range}
use Rattle.image_format.specs.declared.signature.area.Area.{Area}
use Rattle.plain_machine.specs.UsableArea.{fit_fault}
use Rattle.plain_machine.specs.declared.no_swap.NoSwap.{NoSwap}
use Rattle.plain_machine.specs.declared.no_swap.NoSwap.TheVariants as no_swap
use Rattle.definitions.proofs.TableEntries.{entry_at-with_entry_other}
use Rattle.plain_machine.specs.Machine.{Hardware, Memory, IsHardware, IsOfTable, IsTableFrame, IsSameMemory, Fits, block_of_slot, frame_entry}
use Rattle.plain_machine.specs.Machine.{IsTask}
use Rattle.plain_machine.specs.Shows.{seen_frames}
use Rattle.plain_machine.specs.State as plain
use Rattle.plain_machine.specs.Step.{with_flight}
use Rattle.plain_machine.proofs.SameMemory.{table_frame_used, table_frame_valid, entry-set_other, slot_entry-set_other, slot_entry-frame_entry_set, entry-same, of_frame_table, tables_apart, same_entry}
use Rattle.plain_machine.proofs.Seen.{frame-seen}
use Rattle.swap_slots.specs.Runs.{SlotRuns}
use Rattle.swap_slots.specs.Table.{Matches}
use Rattle.machine.specs.Flights.{flight_in, flights_in}
use Rattle.machine.specs.Running.{AreReserved, IsInFlight, AreInFlight, CanRun, slot_table_of}
use Rattle.machine.specs.OwnFrames.{ChangesFrame, ChangesOwn}
use Rattle.machine.specs.declared.flight.Flight.{Flight}
use Rattle.machine.specs.declared.flight.Flight.TheVariants.{Nothing}
use Rattle.machine.specs.declared.machine.Machine.{Machine}
use Rattle.machine.proofs.Rows.{entry_within}
use Rattle.machine.proofs.SlotWrites.{matches-same}

-- Page frames of the tables are nobody's in a memory that fits, and in page frames that show it.

pub reserved-fits : (h : Hardware) (m : Memory) → Fits h m → AreReserved h m
reserved-fits h m fits = λ p of. ((fits.tables p of).1, λ free. table_frame_used h m p fits of free)

pub reserved-same : (h : Hardware) (m n : Memory) → IsHardware h → ((p : ℕ) → Contains (numbers h.zones) p → frame_entry h n p ≡ frame_entry h m p) → AreReserved h m → AreReserved h n
reserved-same h m n hw same reserved = λ p of.
    let e = same p (table_frame_valid h p hw of) in
    (ap owner_of e ∙ (reserved p of).0, λ free. (reserved p of).1 (sym e ∙ free))

frame_entry-seen : (h : Hardware) (frames : Memory) (p : ℕ) → IsHardware h → Contains (numbers h.zones) p → frame_entry h (seen_frames h frames) p ≡ frame_entry h frames p
frame_entry-seen h frames p hw in' =
    entry-same frames (seen_frames h frames) h.frame_table p
    (frame-seen h frames (h.frame_table + p / 1024) (tables_apart h (h.frame_table + p / 1024) hw (of_frame_table h p hw in')))

pub reserved-seen : (h : Hardware) (frames : Memory) → IsHardware h → Fits h (seen_frames h frames) → AreReserved h frames
reserved-seen h frames hw fits =
    reserved-same h (seen_frames h frames) frames hw (λ p in'. sym (frame_entry-seen h frames p hw in')) (reserved-fits h (seen_frames h frames) fits)

pub reserved-shown : (h : Hardware) (m frames : Memory) → IsHardware h → Fits h m → IsSameMemory h m (seen_frames h frames) → AreReserved h frames
reserved-shown h m frames hw fits same =
    reserved-same h m frames hw (λ p in'. sym (frame_entry-seen h frames p hw in') ∙ same_entry h m (seen_frames h frames) p hw fits same in') (reserved-fits h m fits)

-- Unfinished operations.

-- if there is no unfinished operation, each has what it needs
pub in_flight-none : (h : Hardware) (blocks : ℕ) (frames : Memory) (flights : List Flight) → ((t : ℕ) → flights_in flights t ≡ None) → AreInFlight h blocks frames flights
in_flight-none h blocks frames flights none = record {
  outs = λ t s p e. absurd (none-some (plain.goes_out s p) (sym (none t) ∙ e));
  ins = λ t s p e. absurd (none-some (plain.comes_in s p) (sym (none t) ∙ e));
}

nothing_at : (n k : ℕ) → flight_in (get_or (replicate n Nothing) k Nothing) ≡ None
nothing_at zero k = refl
nothing_at (suc n) zero = refl
nothing_at (suc n) (suc k) = nothing_at n k

-- a list of nothing
pub flights-none : (n t : ℕ) → flights_in (replicate n Nothing) t ≡ None
flights-none n zero = refl
flights-none n (suc t) = nothing_at n t

find_none : (p : ℕ → Bool) (xs : List ℕ) (x : ℕ) → find p xs ≡ None → Contains xs x → p x ≡ false
find_none p [] x e in' = absurd (Contains-nil x in')
find_none p (y ∷ xs) x e in' =
    let both = by_test (p y) e in
    elim (Contains-cons_cases y xs x in') [ inl same ↦ ap p (sym same) ∙ both.0 | inr rest ↦ find_none p xs x both.1 rest ] where
      by_test : (b : Bool) → cond b (Some y) (find p xs) ≡ None → (b ≡ false) × (find p xs ≡ None)
      by_test true e = absurd (none-some y (sym e))
      by_test false e = (refl, e)

none_there : (o : Option plain.Flight) → is_some o ≡ false → o ≡ None
none_there None e = refl
none_there (Some f) e = absurd (false≢true (sym e))

-- if no task has an unfinished operation, there is none
pub flights-idle : (h : Hardware) (blocks : ℕ) (frames : Memory) (flights : List Flight) → AreInFlight h blocks frames flights → find (λ u. is_some (flights_in flights u)) (range_with_len 1 64) ≡ None → (t : ℕ) → flights_in flights t ≡ None
flights-idle h blocks frames flights are none t = by_task (flights_in flights t) refl where
  of_task : IsTask t → flights_in flights t ≡ None
  of_task task =
      let some = task.some in
      let few = task.few in
      none_there (flights_in flights t) (find_none (λ u. is_some (flights_in flights u)) (range_with_len 1 64) t none (Contains-range 1 64 t (omega arith) (omega arith)))

  by_task : (o : Option plain.Flight) → flights_in flights t ≡ o → flights_in flights t ≡ None
  by_task None e = e
  by_task (Some (plain.goes_out s p)) e = of_task (are.outs t s p e).task
  by_task (Some (plain.comes_in s p)) e = of_task (are.ins t s p e).task

in_flight_as : (h : Hardware) (blocks : ℕ) (frames new : Memory) (t s p : ℕ) → frame_entry h new p ≡ frame_entry h frames p → IsInFlight h blocks frames t s p → IsInFlight h blocks new t s p
in_flight_as h blocks frames new t s p e is = record { task = is.task; slot = is.slot; below = is.below; valid = is.valid; owner = ap owner_of e ∙ is.owner }

-- the entries of their page frames stay
pub in_flight-same : (h : Hardware) (blocks : ℕ) (frames new : Memory) (flights : List Flight) → ((p : ℕ) → Contains (numbers h.zones) p → frame_entry h new p ≡ frame_entry h frames p) → AreInFlight h blocks frames flights → AreInFlight h blocks new flights
in_flight-same h blocks frames new flights same are = record {
  outs = λ t s p e. let is = are.outs t s p e in in_flight_as h blocks frames new t s p (same p is.valid) is;
  ins = λ t s p e. let is = are.ins t s p e in in_flight_as h blocks frames new t s p (same p is.valid) is;
}

-- the operation of a task is set
pub flights-set : (flights : List Flight) (t : ℕ) (f : Flight) (u : ℕ) → IsTask t → length flights ≡ 64 → flights_in (set flights (t - 1) f) u ≡ with_flight (flights_in flights) t (flight_in f) u
flights-set flights t f zero task size =
    let some = task.some in
    sym (cond-false (eqb 0 t) (flight_in f) None (ne_eqb 0 t (λ e. let r : ⊥ = omega arith in r)))
flights-set flights t f (suc j) task size =
    let some = task.some in
    let few = task.few in
    elim (cases_eq j (t - 1)) [
      | inl e ↦
          let here : suc j ≡ t = omega arith in
          ap (λ (k : ℕ). flight_in (get_or (set flights (t - 1) f) k Nothing)) e ∙ ap flight_in (get_or-set_same flights (t - 1) f Nothing (omega arith))
          ∙ sym (cond-true (eqb (suc j) t) (flight_in f) (flights_in flights (suc j)) (eq-eqb (suc j) t here))
      | inr ne ↦
          ap flight_in (get_or-set_other flights (t - 1) j f Nothing ne)
          ∙ sym (cond-false (eqb (suc j) t) (flight_in f) (flights_in flights (suc j)) (ne_eqb (suc j) t (λ e. ne (omega arith))))
    ]

-- what is said of a task's new operation, and was said of the others', is said of all
pub in_flight-set : (h : Hardware) (blocks : ℕ) (frames : Memory) (flights : List Flight) (t : ℕ) (f : Flight) → IsTask t → length flights ≡ 64 → AreInFlight h blocks frames flights →
    ((s p : ℕ) → flight_in f ≡ Some (plain.goes_out s p) → IsInFlight h blocks frames t s p) → ((s p : ℕ) → flight_in f ≡ Some (plain.comes_in s p) → IsInFlight h blocks frames t s p) → AreInFlight h blocks frames (set flights (t - 1) f)
in_flight-set h blocks frames flights t f task size are out in' = record {
  outs = λ u s p e. at u s p (plain.goes_out s p) (flights-set flights t f u task size) e (λ same. out s p same) (λ same. are.outs u s p same);
  ins = λ u s p e. at u s p (plain.comes_in s p) (flights-set flights t f u task size) e (λ same. in' s p same) (λ same. are.ins u s p same);
} where
  at : (u s p : ℕ) (flight : plain.Flight) → flights_in (set flights (t - 1) f) u ≡ with_flight (flights_in flights) t (flight_in f) u → flights_in (set flights (t - 1) f) u ≡ Some flight →
      (flight_in f ≡ Some flight → IsInFlight h blocks frames t s p) → (flights_in flights u ≡ Some flight → IsInFlight h blocks frames u s p) → IsInFlight h blocks frames u s p
  at u s p flight is e this other = elim (cases_eq u t) [
    | inl same ↦ subst (λ (x : ℕ). IsInFlight h blocks frames x s p) (sym same) (this (sym (cond-true (eqb u t) (flight_in f) (flights_in flights u) (eq-eqb u t same)) ∙ sym is ∙ e))
    | inr ne ↦ other (sym (cond-false (eqb u t) (flight_in f) (flights_in flights u) (ne_eqb u t ne)) ∙ sym is ∙ e)
  ]

pub in_flight-landed : (h : Hardware) (blocks : ℕ) (frames : Memory) (flights : List Flight) (t : ℕ) → IsTask t → length flights ≡ 64 → AreInFlight h blocks frames flights → AreInFlight h blocks frames (set flights (t - 1) Nothing)
in_flight-landed h blocks frames flights t task size are =
    in_flight-set h blocks frames flights t Nothing task size are (λ s p e. absurd (none-some (plain.goes_out s p) e)) (λ s p e. absurd (none-some (plain.comes_in s p) e))

-- One page frame that is free or the task's changes.

pub changes_page : (h : Hardware) (t : ℕ) (m : Memory) (p : ℕ) (x : List ℕ) → IsHardware h → (IsTableFrame h p → ⊥) → Contains (numbers h.zones) p → (frame_entry h m p ≡ 1) ⊎ (owner_of (frame_entry h m p) ≡ t) → ChangesFrame h t m (set m p x) p
changes_page h t m p x hw apart in' own = record {
  valid = in';
  own = own;
  others = λ q in_q ne. entry-set_other h m p q x hw apart in_q;
  slots = λ s lt. slot_entry-set_other h m p s x (λ of. apart (inr of)) lt;
}

pub changes_entry : (h : Hardware) (t : ℕ) (m : Memory) (p v : ℕ) → IsHardware h → All IsPage m → length m ≡ top h.zones → Contains (numbers h.zones) p → (frame_entry h m p ≡ 1) ⊎ (owner_of (frame_entry h m p) ≡ t) → ChangesFrame h t m (with_entry m h.frame_table p v) p
changes_entry h t m p v hw pages size in' own =
    let within = entry_within h m p hw size in' in record {
      valid = in';
      own = own;
      others = λ q in_q ne. entry_at-with_entry_other m h.frame_table p v q within (pages (h.frame_table + p / 1024) [] within) ne;
      slots = λ s lt. slot_entry-frame_entry_set h m p s v hw in' lt;
    }

-- a page frame is claimed: its page is set and then its entry
pub changes_claimed : (h : Hardware) (t : ℕ) (m : Memory) (p : ℕ) (x : List ℕ) (v : ℕ) → IsHardware h → All IsPage m → length m ≡ top h.zones → AreReserved h m → Contains (numbers h.zones) p → frame_entry h m p ≡ 1 → ChangesFrame h t m (with_entry (set m p x) h.frame_table p v) p
changes_claimed h t m p x v hw pages size reserved in' free =
    let apart : IsTableFrame h p → ⊥ = λ of. (reserved p of).1 free in
    let zeroed = changes_page h t m p x hw apart in' (inl free) in
    let within = entry_within h m p hw size in' in
    let longer = length-set m p x in
    let whole : IsPage (get_or (set m p x) (h.frame_table + p / 1024) []) =
    subst IsPage (sym (get_or-set_other m p (h.frame_table + p / 1024) x [] (λ e. apart (inl (subst (λ (f : ℕ). IsOfTable h.frame_table (top h.zones) f) e (of_frame_table h p hw in')))))) (pages (h.frame_table + p / 1024) [] within) in record {
      valid = in';
      own = inl free;
      others = λ q in_q ne. entry_at-with_entry_other (set m p x) h.frame_table p v q (omega arith) whole ne ∙ zeroed.others q in_q ne;
      slots = λ s lt. slot_entry-frame_entry_set h (set m p x) p s v hw in' lt ∙ zeroed.slots s lt;
    }

-- The machine can run on.

reserved-changes : (h : Hardware) (t : ℕ) (m n : Memory) (p : ℕ) → IsHardware h → 1 ≤ t → ChangesFrame h t m n p → AreReserved h m → AreReserved h n
reserved-changes h t m n p hw some changes reserved = λ q of.
    let ne : q ≢ p = λ e.
    let of_p = subst (IsTableFrame h) e of in
    elim changes.own [ inl free ↦ (reserved p of_p).1 free | inr owner ↦ let none = (reserved p of_p).0 in let r : ⊥ = omega arith in r ] in
    let same = changes.others q (table_frame_valid h q hw of) ne in
    (ap owner_of same ∙ (reserved q of).0, λ free. (reserved q of).1 (sym same ∙ free))

in_flight-changes : (h : Hardware) (blocks t : ℕ) (m n : Memory) (p : ℕ) (flights : List Flight) → flights_in flights t ≡ None → ChangesFrame h t m n p → AreInFlight h blocks m flights → AreInFlight h blocks n flights
in_flight-changes h blocks t m n p flights idle changes are = record {
  outs = λ u s q e. another u s q (plain.goes_out s q) e (are.outs u s q e);
  ins = λ u s q e. another u s q (plain.comes_in s q) e (are.ins u s q e);
} where
  another : (u s q : ℕ) (flight : plain.Flight) → flights_in flights u ≡ Some flight → IsInFlight h blocks m u s q → IsInFlight h blocks n u s q
  another u s q flight e is =
      let some = is.task.some in
      let owner = is.owner in
      let ne : q ≢ p = λ same. elim changes.own [
        | inl free ↦ let none : owner_of (frame_entry h m q) ≡ 0 = ap (λ (x : ℕ). owner_of (frame_entry h m x)) same ∙ ap owner_of free in let r : ⊥ = omega arith in r
        | inr own ↦
            let us : u ≡ t = sym owner ∙ ap (λ (x : ℕ). owner_of (frame_entry h m x)) same ∙ own in
            none-some flight (sym (ap (flights_in flights) us ∙ idle) ∙ e)
      ] in
      in_flight_as h blocks m n u s q (changes.others q is.valid ne) is

pub can_run-changes : (machine : Machine) (frames new : Memory) (runs : SlotRuns) (t : ℕ) → IsHardware machine.hw → IsTask t → flights_in machine.flights t ≡ None → length new ≡ length frames → ChangesOwn machine.hw t frames new → CanRun machine frames runs → CanRun machine new runs
can_run-changes machine frames new runs t hw task idle size changes can = elim changes [
  | inl same ↦ subst (λ (m : Memory). CanRun machine m runs) (sym same) can
  | inr at ↦ record {
    size = size ∙ can.size;
    matches = matches-same machine.hw frames new runs at.1.slots can.matches;
    usable = can.usable;
    reserved = reserved-changes machine.hw t frames new at.0 hw task.some at.1 can.reserved;
    flights = in_flight-changes machine.hw machine.blocks t frames new at.0 machine.flights idle at.1 can.flights;
  }
]

-- Each slot of an area that can be used lies on a block of the disk.

or_false : (b c : Bool) → (b || c) ≡ false → (b ≡ false) × (c ≡ false)
or_false true c e = absurd (false≢true (sym e))
or_false false c e = (refl, e)

none_of : (test : ℕ → Bool) (xs : List ℕ) (x : ℕ) → list_any test xs ≡ false → Contains xs x → test x ≡ false
none_of test [] x e in' = absurd (Contains-nil x in')
none_of test (y ∷ xs) x e in' =
    let both = or_false (test y) (list_any test xs) e in
    elim (Contains-cons_cases y xs x in') [ inl same ↦ ap test (sym same) ∙ both.0 | inr rest ↦ none_of test xs x both.1 rest ]

fits_both : (short misfit : Bool) (a b : NoSwap) → cond short (Some a) (cond misfit None (Some b)) ≡ None → (short ≡ false) × (misfit ≡ true)
fits_both true misfit a b e = absurd (none-some a (sym e))
fits_both false true a b e = (refl, refl)
fits_both false false a b e = absurd (none-some b (sym e))

not_false : (b : Bool) → not b ≡ false → b ≡ true
not_false true e = refl
not_false false e = absurd (false≢true (sym e))

fits_disk : (h : Hardware) (blocks : ℕ) (area : Area) (s : ℕ) → fit_fault h blocks area ≡ None → s < h.slots → block_of_slot h s < blocks
fits_disk h blocks area s none lt =
    let both = fits_both (list_any (λ k. not (nat_lt (block_of_slot h k) blocks)) (range_with_len 0 (area.last + 1))) (eqb (area.last + 1) h.slots) (no_swap.Short area.last blocks) (no_swap.Misfit area.last h.slots) none in
    let slots : area.last + 1 ≡ h.slots = eqb-true (area.last + 1) h.slots both.1 in
    ltb-true (block_of_slot h s) blocks
    (not_false (nat_lt (block_of_slot h s) blocks)
    (none_of (λ k. not (nat_lt (block_of_slot h k) blocks)) (range_with_len 0 (area.last + 1)) s both.0 (Contains-range 0 (area.last + 1) s (omega arith) (omega arith))))

pub on_disk : (h : Hardware) (blocks : ℕ) (area : Result Area NoSwap) (s : ℕ) → is_ok area ≡ true → IfOk area (λ it. fit_fault h blocks it ≡ None) → s < h.slots → block_of_slot h s < blocks
on_disk h blocks (Ok area) s ok fits lt = fits_disk h blocks area s fits lt
on_disk h blocks (Err why) s ok fits lt = absurd (false≢true ok)

-- A task's operation begins, or ends.

-- of a slot and the task's page frame
pub can_run-begun : (machine : Machine) (frames new : Memory) (runs runs' : SlotRuns) (t s p : ℕ) (f : Flight) → IsTask t → length machine.flights ≡ 64 → is_ok machine.area ≡ true → s < machine.hw.slots → Contains (numbers machine.hw.zones) p → owner_of (frame_entry machine.hw frames p) ≡ t →
    (flight_in f ≡ Some (plain.goes_out s p)) ⊎ (flight_in f ≡ Some (plain.comes_in s p)) → ((q : ℕ) → Contains (numbers machine.hw.zones) q → frame_entry machine.hw new q ≡ frame_entry machine.hw frames q) → IsHardware machine.hw →
    length new ≡ length frames → Matches new (slot_table_of machine.hw) runs' → CanRun machine frames runs → CanRun (record machine { flights = set machine.flights (t - 1) f }) new runs'
can_run-begun machine frames new runs runs' t s p f task tasks ok lt valid owner which entries hw size matches can =
    let h = machine.hw in
    let this : IsInFlight h machine.blocks new t s p = record {
      task = task;
      slot = lt;
      below = on_disk h machine.blocks machine.area s ok can.usable lt;
      valid = valid;
      owner = ap owner_of (entries p valid) ∙ owner;
    } in
    record {
      size = size ∙ can.size;
      matches = matches;
      usable = can.usable;
      reserved = reserved-same h frames new hw entries can.reserved;
      flights = in_flight-set h machine.blocks new machine.flights t f task tasks (in_flight-same h machine.blocks frames new machine.flights entries can.flights)
          (λ s' p' e. elim which [
            | inl out ↦ let same = same_Some (plain.goes_out s p) (plain.goes_out s' p') (sym out ∙ e) in subst (λ (q : ℕ). IsInFlight h machine.blocks new t s' q) (out_frame same) (subst (λ (k : ℕ). IsInFlight h machine.blocks new t k p) (out_slot same) this)
            | inr in' ↦ absurd (other (same_Some (plain.goes_out s' p') (plain.comes_in s p) (sym e ∙ in')))
          ])
          (λ s' p' e. elim which [
            | inl out ↦ absurd (other (same_Some (plain.goes_out s p) (plain.comes_in s' p') (sym out ∙ e)))
            | inr in' ↦ let same = same_Some (plain.comes_in s p) (plain.comes_in s' p') (sym in' ∙ e) in subst (λ (q : ℕ). IsInFlight h machine.blocks new t s' q) (in_frame same) (subst (λ (k : ℕ). IsInFlight h machine.blocks new t k p) (in_slot same) this)
          ]);
    } where
      out_slot : {a b c d : ℕ} → plain.goes_out a b ≡ plain.goes_out c d → a ≡ c
      out_slot e = cc

      out_frame : {a b c d : ℕ} → plain.goes_out a b ≡ plain.goes_out c d → b ≡ d
      out_frame e = cc

      in_slot : {a b c d : ℕ} → plain.comes_in a b ≡ plain.comes_in c d → a ≡ c
      in_slot e = cc

      in_frame : {a b c d : ℕ} → plain.comes_in a b ≡ plain.comes_in c d → b ≡ d
      in_frame e = cc

      other : {a b c d : ℕ} → plain.goes_out a b ≡ plain.comes_in c d → ⊥
      other e = cc

pub can_run-ended : (machine : Machine) (frames new : Memory) (runs runs' : SlotRuns) (t : ℕ) → IsTask t → length machine.flights ≡ 64 → ((q : ℕ) → Contains (numbers machine.hw.zones) q → frame_entry machine.hw new q ≡ frame_entry machine.hw frames q) → IsHardware machine.hw →
    length new ≡ length frames → Matches new (slot_table_of machine.hw) runs' → CanRun machine frames runs → CanRun (record machine { flights = set machine.flights (t - 1) Nothing }) new runs'
can_run-ended machine frames new runs runs' t task tasks entries hw size matches can =
    let h = machine.hw in record {
      size = size ∙ can.size;
      matches = matches;
      usable = can.usable;
      reserved = reserved-same h frames new hw entries can.reserved;
      flights = in_flight-landed h machine.blocks new machine.flights t task tasks (in_flight-same h machine.blocks frames new machine.flights entries can.flights);
    }
