-- The rows of the begin of a hibernation, and what its next step needs.
use Rattle.protocol_laws.proofs.HeaderLeft.{left_same}
use Rattle.protocol_laws.proofs.Unwritten.{block_same}
use Rattle.std.proofs.Common.{◌≡◌, ◌<◌, ◌^◌, ℕ, ◌+◌, inl, inr, true, false, List, [], ◌∷◌, length, get_or, map, take, refl, sym, ap, ap₂, ◌∙◌, subst, arith, All, Contains, Some, None, IfOk}
use Rattle.page_core.specs.declared.format.Format.{Format}
use Rattle.definitions.specs.Disk as disk
use Rattle.definitions.specs.Tables.{frame}
use Rattle.definitions.specs.Zones.{top}
use Rattle.definitions.specs.declared.info.Info.{Info}
use Rattle.definitions.proofs.Ascending.{Contains-nil, Contains-head, Contains-tail, Contains-cons_cases}
use Rattle.definitions.proofs.FreeSlots.{free_slot}
use Rattle.frame_table.proofs.Picks.{Contains-from_take}
use Rattle.snapshot.specs.Taken.{Taken}
use Rattle.snapshot.specs.declared.Counts.{Counts}
use Rattle.swap_slots.specs.Runs.{SlotRuns}
use Rattle.swap_slots.specs.Table.{Matches, free_in}
use Rattle.image_write.specs.Writing.{IsWriting, AreOfImage, BlocksBelow, writes_of, Writing}
use Rattle.plain_machine.specs.Machine.{Hardware, Memory, IsHardware, unused, unused_slots, raw_slot_entry, block_of_slot}
use Rattle.plain_machine.specs.Image.{image_of_memory, hibernate_steps, maps_of, Image}
use Rattle.plain_machine.specs.Image.{laid_block}
use Rattle.plain_machine.specs.Refusals.{refusal}
use Rattle.plain_machine.specs.Shows.{RunsAs}
use Rattle.plain_machine.specs.Stands.{Stands, laid_blocks}
use Rattle.plain_machine.specs.State.{State, on, hibernating, Running}
use Rattle.plain_machine.specs.Step.{Step, no_slots}
use Rattle.plain_machine.specs.UsableArea.{fit_fault}
use Rattle.plain_machine.specs.declared.event.Event.TheVariants as event
use Rattle.plain_machine.specs.declared.reply.Reply.{Reply}
use Rattle.plain_machine.specs.declared.reply.Reply.TheVariants as reply
use Rattle.protocol_laws.specs.Rows.{LeavesImage}
use Rattle.protocol_laws.proofs.Leaving.{leaves_refused}
use Rattle.protocol_laws.specs.Slots.{IsMemoryOf, AreFree, taken, HasSets}
use Rattle.protocol_laws.specs.Snapshots.{NamesNone}
use Rattle.protocol_laws.specs.Steps.{ShowsCopies}
use Rattle.protocol_laws.specs.Writers.{IsWriterOf}
use Rattle.protocol_laws.proofs.Places.{usable_fits}
use Rattle.machine.specs.declared.machine.Machine.{Machine}
use Rattle.hib_core.specs.Begin.{IsRefused, IsCounted, IsTaken, info_of}
use Rattle.hib_core.specs.Begin as begin
use Rattle.machine.specs.Flights.{flights_in}
use Rattle.machine.specs.Running.{reason_of, slot_table_of}
use Rattle.hib_core.specs.Hibernation.{running_by, shown_by, suspends_at, activity_at}
use Rattle.hib_core.specs.Ready.{CanStep, CanWrite, CanMake}
use Rattle.hib_core.specs.Row.{HibernationStandsFor, IsOf, IsBegun, event_of, saving, IsSavingOf, IsStageOf}
use Rattle.hib_core.specs.declared.hib.Ending.{Ending}
use Rattle.hib_core.specs.declared.hib.Ending.TheVariants as ending
use Rattle.hib_core.specs.declared.hib.Hib.{Hib}
use Rattle.hib_core.specs.declared.hib.Stage.{Stage}
use Rattle.hib_core.specs.declared.hib.Stage.TheVariants as stage
use Rattle.hib_core.proofs.BeginImage.{IsCountOf, counts_are, info_is, first_in_laid, taken_from_frames}
use Rattle.hib_core.proofs.BeginRefusals.{AreCounts, IsSeen, seen, not_refused}
use Rattle.hib_core.proofs.BeginTables.{area_of, copies_apart, free_slots_stay, image_on_disk, slot_table_lies}
use Rattle.hib_core.proofs.Cases.{at_run}
use Rattle.hib_core.proofs.Facts.{numbers_at}
use Rattle.hib_core.proofs.Plain.{accepted_step, refused_step}
use Rattle.image_laws.proofs.Decoding.{memories_are_sayable}
use Rattle.protocol_laws.proofs.Beginning.{begins}
use Rattle.protocol_laws.proofs.Taking.{frame_taken, names_taken, runs_taken}
use Rattle.protocol_laws.proofs.Sets.{writes_stream}
use Rattle.protocol_laws.proofs.Snapshots.{runs_over_copies, slots_over_copies}
use Rattle.hib_core.specs.declared.hib.Saving.{Saving}
use Rattle.protocol_laws.proofs.Named.{names_same}
use Rattle.protocol_laws.proofs.Same.{same_area}

-- A refused hibernation.

pub idle_stands : (machine : Machine) (frames : Memory) (hib : Hib) (c : disk.Content) (a : Running) → hib.stage ≡ stage.Idle → Stands machine.hw (running_by machine frames) c (on a) → Stands machine.hw (shown_by machine frames hib) c (on a)
idle_stands machine frames hib c a idle stands = record {
  activity = ap activity_at idle;
  parts = record {
    memory = stands.parts.memory;
    disk = record {
      held = stands.parts.disk.held;
      task_slots = stands.parts.disk.task_slots;
      flights = stands.parts.disk.flights;
      slot_pages = stands.parts.disk.slot_pages;
      names = names_same machine.hw (running_by machine frames) (shown_by machine frames hib) a.held refl stands.parts.disk.names;
      header = stands.parts.disk.header;
      area = stands.parts.disk.area;
    };
  };
}

-- a suspend is refused as a hibernation is
refusal_same : (h : Hardware) (a : State) (last : Ending) (f : Format) → refusal h a (event_of (saving last f)) ≡ refusal h a (event.Hibernate f)
unfolding refusal
refusal_same h a ending.SwitchesOff f = refl
refusal_same h a ending.Sleeps f = refl

pub refused_row : (machine : Machine) (frames : Memory) (hib : Hib) (last : Ending) (f : Format) (r : Reply) (c : disk.Content) → IsRefused machine frames f r → hib.stage ≡ stage.Idle → IsBegun machine frames frames hib (saving last f) r c
refused_row machine frames hib last f r c refused idle s stands =
    let at = at_run s stands.activity in
    let a : Running = at.0 in
    let here : Stands machine.hw (running_by machine frames) c (on a) = subst (Stands machine.hw (running_by machine frames) c) at.1 stands in
    let why : refusal machine.hw (on a) (event_of (saving last f)) ≡ Some r = refusal_same machine.hw (on a) last f ∙ refused c a here in (
      s,
      record {
        step = subst (λ (t : State). Step machine.hw (disk.as_it_reads c) t (event_of (saving last f)) r t) (sym at.1) (refused_step machine.hw (disk.as_it_reads c) (on a) (event_of (saving last f)) r why);
        stands = subst (HibernationStandsFor machine frames hib c) (sym at.1) (record { stands = idle_stands machine frames hib c a idle here; image = tt });
        area = same_area machine.hw (disk.as_it_reads c);
        unwritten = λ b not. block_same b _;
        leaves = subst (λ (t : State). LeavesImage machine.hw (event_of (saving last f)) r t c) (sym at.1) (leaves_refused machine.hw (event_of (saving last f)) r (on a) c why);
        header = left_same machine.hw s c;
      },
    )

-- A hibernation that begins.

-- the machine, and a hibernation that has counted and taken
pub record IsBegin (machine : Machine) (frames frames' : Memory) (hib hib' : Hib) (counts : Counts) (last : Ending) : Type 0 where
  pub hardware : IsHardware machine.hw
  pub size : length frames ≡ top machine.hw.zones
  pub counted : IsCounted machine frames hib counts
  pub taken : IsTaken machine frames frames' hib hib' counts last

-- the image whose first write is next
abbrev begun_saving : Counts → Writing → Ending → Saving
begun_saving counts writer last = record { ending = last; saved = counts.n; first = writer.first; done = 0; steps = begin.steps_of counts }

copies_are : (machine : Machine) (frames frames' : Memory) (hib hib' : Hib) (counts : Counts) (last : Ending) → IsTaken machine frames frames' hib hib' counts last → hib'.snapshot.copies ≡ take (length hib.snapshot.origs) (unused machine.hw frames)
copies_are machine frames frames' hib hib' counts last is = ap (λ (s : Taken). s.copies) is.snapshot

free_stays : (machine : Machine) (frames frames' : Memory) (hib hib' : Hib) (counts : Counts) (last : Ending) (is : IsBegin machine frames frames' hib hib' counts last) → free_in is.taken.copied (slot_table_of machine.hw) ≡ free_in frames (slot_table_of machine.hw)
free_stays machine frames frames' hib hib' counts last is =
    free_slots_stay machine frames is.taken.copied hib counts (length hib.snapshot.origs) hib'.snapshot.copies is.counted (copies_are machine frames frames' hib hib' counts last is.taken) is.taken.others

in_one : (xs : List ℕ) (x : ℕ) → Contains (take 1 xs) x → get_or xs 0 0 ≡ x
in_one [] x in' = absurd (Contains-nil x in')
in_one (y ∷ xs) x in' = elim (Contains-cons_cases y (take 0 xs) x in') [ inl e ↦ e | inr rest ↦ absurd (Contains-nil x rest) ]

copies_stay : (m n : Memory) (ps : List ℕ) → ((p : ℕ) → Contains ps p → frame n p ≡ frame m p) → map (frame n) ps ≡ map (frame m) ps
copies_stay m n [] same = refl
copies_stay m n (p ∷ ps) same = ap₂ (λ (x : List ℕ) (xs : List (List ℕ)). x ∷ xs) (same p (Contains-head p ps)) (copies_stay m n ps (λ q in'. same q (Contains-tail p ps q in')))

shows_copies : (machine : Machine) (frames frames' : Memory) (hib hib' : Hib) (counts : Counts) (last : Ending) (f : Format) (c : disk.Content) (a : Running) → IsBegin machine frames frames' hib hib' counts last → Stands machine.hw (running_by machine frames) c (on a) → IsSeen machine.hw frames f a →
    ShowsCopies machine.hw (shown_by machine frames' hib') a (image_of_memory machine.hw a.memory a.slots f)
shows_copies machine frames frames' hib hib' counts last f c a is stands seen =
    let h = machine.hw in
    let i = image_of_memory h a.memory a.slots f in
    let t = is.taken in
    let why = reason_of machine.area in
    let free = free_in t.copied (slot_table_of h) in
    let was : RunsAs h machine.held why (flights_in machine.flights) frames a = stands.parts.memory in
    let others : (p : ℕ) → (Contains (unused h frames) p → ⊥) → frame t.copied p ≡ frame frames p =
    λ p out. t.others p (λ in'. out (Contains-from_take (length hib.snapshot.origs) (unused h frames) p (subst (λ (xs : List ℕ). Contains xs p) (copies_are machine frames frames' hib hib' counts last t) in'))) in
    let over : RunsAs h machine.held why (flights_in machine.flights) t.copied a = runs_over_copies h machine.held why (flights_in machine.flights) frames t.copied a is.hardware was seen.none others in
    let memory : IsMemoryOf h t.copied = record { pages = t.pages; table = slot_table_lies h t.copied is.hardware (t.size ∙ is.size) } in
    let first : AreFree h t.copied (take 1 free) = λ s in'. free_slot h.slots h.slot_table t.copied s (Contains-from_take 1 free s in') in
    let given : taken h t.copied (take 1 free) ≡ frames' = sym t.slots in
    let none : NamesNone h t.copied = slots_over_copies h a.memory frames t.copied is.hardware seen.fits was.same seen.none others in
    let laid : (k : ℕ) → Contains (take 1 free) k → Contains (laid_blocks h a i) (block_of_slot h k) = λ k in'.
    subst (λ (b : ℕ). Contains (laid_blocks h a i) b)
    (ap (λ (xs : List ℕ). laid_block h.extents xs 0) (sym (free_stays machine frames frames' hib hib' counts last is ∙ seen.slots)) ∙ ap (block_of_slot h) (in_one free k in'))
    (first_in_laid h a i) in
    record {
      shows = subst (λ (m : Memory). RunsAs h machine.held why (flights_in machine.flights) m a) given (runs_taken h machine.held why (flights_in machine.flights) t.copied (take 1 free) a memory first over);
      names = λ k lt e. names_taken h t.copied (take 1 free) (laid_blocks h a i) memory first (λ j j_lt j_e. absurd (none j j_lt j_e)) laid k lt (ap (λ (m : Memory). raw_slot_entry h m k) given ∙ e);
      copies = ap (λ (m : Memory). map (frame m) hib'.snapshot.copies) (sym given)
          ∙ copies_stay t.copied (taken h t.copied (take 1 free)) hib'.snapshot.copies
          (λ p in'. frame_taken h t.copied (take 1 free) p first
          (λ of. copies_apart machine frames hib counts (length hib.snapshot.origs) hib'.snapshot.copies is.counted (copies_are machine frames frames' hib hib' counts last t) p in' of))
          ∙ t.copies ∙ ap (map (frame frames)) is.counted.origs ∙ seen.image.pages;
    }

-- the numbers and sets are the image's
is_of : (machine : Machine) (frames frames' : Memory) (hib hib' : Hib) (counts : Counts) (last : Ending) (f : Format) (a : Running) → IsBegin machine frames frames' hib hib' counts last → hib.snapshot.format ≡ f → IsSeen machine.hw frames f a →
    IsOf machine.hw frames' hib' a (image_of_memory machine.hw a.memory a.slots f)
is_of machine frames frames' hib hib' counts last f a is format seen =
    let h = machine.hw in
    let i = image_of_memory h a.memory a.slots f in
    let t = is.taken in
    let free : free_in t.copied (slot_table_of h) ≡ unused_slots h a.memory = free_stays machine frames frames' hib hib' counts last is ∙ seen.slots in
    let count : IsCountOf hib counts i = counts_are machine frames hib counts i is.counted (sym format) seen.image in
    let writer : IsWriterOf h a i 0 frames' t.writer = record {
      info = t.info ∙ info_is h hib counts a.memory a.slots f count;
      extents = t.extents;
      table = t.table;
      made = t.written;
      writing = subst (λ (xs : List ℕ). IsWriting xs frames' t.writer) free t.writing;
    } in
    let numbers : IsSavingOf h a i (begun_saving counts t.writer last) = record {
      saved = count.saved;
      steps = ap (λ (p : ℕ). p + maps_of p + 4) count.pages;
      first = t.writing.first ∙ ap₂ (λ (es : List (ℕ × ℕ × ℕ)) (xs : List ℕ). laid_block es xs 0) t.extents free;
    } in
    record {
      sayable = memories_are_sayable h a.memory a.slots f is.hardware;
      format = ap (λ (s : Taken). s.format) t.snapshot ∙ format;
      origs = ap (λ (s : Taken). s.origs) t.snapshot ∙ count.origs;
      zeros = ap (λ (s : Taken). s.zeros) t.snapshot ∙ count.zeros;
      apart = copies_apart machine frames hib counts (length hib.snapshot.origs) hib'.snapshot.copies is.counted (copies_are machine frames frames' hib hib' counts last t);
      numbers = subst (λ (s : Stage). IsStageOf s h frames' a i) (sym t.next) (numbers, writer);
    }

-- the hibernation is accepted, and leaves no image yet
begun_step : (h : Hardware) (v : disk.DiskImage) (last : Ending) (f : Format) (a : Running) → refusal h (on a) (event.Hibernate f) ≡ None →
    Step h v (on a) (event_of (saving last f)) (reply.More 0 (hibernate_steps (image_of_memory h a.memory a.slots f))) (hibernating (suspends_at last) (image_of_memory h a.memory a.slots f) a 0)
begun_step h v ending.SwitchesOff f a goes =
    accepted_step h v (on a) (event.Hibernate f) (reply.More 0 (hibernate_steps (image_of_memory h a.memory a.slots f))) (hibernating false (image_of_memory h a.memory a.slots f) a 0) goes (0, omega arith, refl)
begun_step h v ending.Sleeps f a goes =
    accepted_step h v (on a) (event.Suspend f) (reply.More 0 (hibernate_steps (image_of_memory h a.memory a.slots f))) (hibernating true (image_of_memory h a.memory a.slots f) a 0)
    (refusal_same h (on a) ending.Sleeps f ∙ goes) (0, omega arith, refl)

leaves_begun : (h : Hardware) (last : Ending) (f : Format) (r : Reply) (s : State) (c : disk.Content) → LeavesImage h (event_of (saving last f)) r s c
leaves_begun h ending.SwitchesOff f r s c = tt
leaves_begun h ending.Sleeps f r s c = tt

steps_are : (h : Hardware) (frames : Memory) (hib : Hib) (a : Running) (i : Image) (counts : Counts) (w : Writing) (last : Ending) → hib.stage ≡ stage.Write (begun_saving counts w last) w → IsOf h frames hib a i → begin.steps_of counts ≡ hibernate_steps i
steps_are h frames hib a i counts w last next of =
    let numbers : IsSavingOf h a i (begun_saving counts w last) × IsWriterOf h a i 0 frames w = numbers_at h frames hib a i (stage.Write (begun_saving counts w last) w) next of in
    numbers.0.steps

pub begun_row : (machine : Machine) (frames frames' : Memory) (hib hib' : Hib) (counts : Counts) (last : Ending) (f : Format) (c : disk.Content) → IsBegin machine frames frames' hib hib' counts last → hib.snapshot.format ≡ f →
    IsBegun machine frames frames' hib' (saving last f) (reply.More 0 (begin.steps_of counts)) c
begun_row machine frames frames' hib hib' counts last f c is format s stands =
    let h = machine.hw in
    let at = at_run s stands.activity in
    let a : Running = at.0 in
    let i = image_of_memory h a.memory a.slots f in
    let here : Stands h (running_by machine frames) c (on a) = subst (Stands h (running_by machine frames) c) at.1 stands in
    let sees : IsSeen h frames f a = seen machine frames f c a is.hardware is.counted.held here in
    let counted : AreCounts h frames hib counts = record { origs = is.counted.origs; zeros = is.counted.zeros; saved = is.counted.saved; with_pages = is.counted.with_pages } in
    let goes = not_refused machine frames f hib counts c a is.hardware is.counted.idle is.counted.held is.counted.area counted format is.counted.copies is.counted.slots here in
    let of : IsOf h frames' hib' a i = is_of machine frames frames' hib hib' counts last f a is format sees in
    let stepped : Step h (disk.as_it_reads c) (on a) (event_of (saving last f)) (reply.More 0 (hibernate_steps i)) (hibernating (suspends_at last) i a 0) = begun_step h (disk.as_it_reads c) last f a goes in (
      hibernating (suspends_at last) i a 0,
      record {
        step = subst (λ (t : State). Step h (disk.as_it_reads c) t (event_of (saving last f)) (reply.More 0 (begin.steps_of counts)) (hibernating (suspends_at last) i a 0)) (sym at.1)
            (subst (λ (n : ℕ). Step h (disk.as_it_reads c) (on a) (event_of (saving last f)) (reply.More 0 n) (hibernating (suspends_at last) i a 0)) (sym (steps_are h frames' hib' a i counts is.taken.writer last is.taken.next of)) stepped);
        stands = record {
          stands = begins h (running_by machine frames) (shown_by machine frames' hib') c a f (suspends_at last) is.hardware here goes (ap activity_at is.taken.next) (shows_copies machine frames frames' hib hib' counts last f c a is here sees);
          image = of;
        };
        area = same_area h (disk.as_it_reads c);
        unwritten = λ b not. block_same b _;
        leaves = leaves_begun h last f (reply.More 0 (begin.steps_of counts)) s c;
        header = left_same h s c;
      },
    )

-- What the first write needs.

are_of_image : (machine : Machine) (frames frames' : Memory) (hib hib' : Hib) (counts : Counts) (last : Ending) → (is : IsBegin machine frames frames' hib hib' counts last) → AreOfImage is.taken.writer.info hib'.snapshot.origs hib'.snapshot.copies hib'.snapshot.zeros
are_of_image machine frames frames' hib hib' counts last is =
    let h = machine.hw in
    let f = hib.snapshot.format in
    let i = image_of_memory h frames no_slots f in
    let t = is.taken in
    let from = taken_from_frames h frames no_slots f in
    let count : IsCountOf hib counts i = counts_are machine frames hib counts i is.counted refl from in
    let sets : HasSets i t.copied hib'.snapshot.origs hib'.snapshot.copies hib'.snapshot.zeros = record {
      origs = ap (λ (s : Taken). s.origs) t.snapshot ∙ count.origs;
      zeros = ap (λ (s : Taken). s.zeros) t.snapshot ∙ count.zeros;
      copies = t.copies ∙ ap (map (frame frames)) is.counted.origs ∙ from.pages;
    } in
    subst (λ (info : Info). AreOfImage info hib'.snapshot.origs hib'.snapshot.copies hib'.snapshot.zeros) (sym (t.info ∙ info_is h hib counts frames no_slots f count))
    (writes_stream i t.copied hib'.snapshot.origs hib'.snapshot.copies hib'.snapshot.zeros (memories_are_sayable h frames no_slots f is.hardware) sets).1

can_write : (machine : Machine) (frames frames' : Memory) (hib hib' : Hib) (counts : Counts) (last : Ending) (is : IsBegin machine frames frames' hib hib' counts last) → IfOk machine.area (λ area. fit_fault machine.hw machine.blocks area ≡ None) → length frames' ≡ length frames →
    CanWrite machine.hw machine.blocks frames' hib'.snapshot (begun_saving counts is.taken.writer last) is.taken.writer
can_write machine frames frames' hib hib' counts last is usable size =
    let h = machine.hw in
    let t = is.taken in
    let free = free_in t.copied (slot_table_of h) in
    let below : BlocksBelow h.extents (free_in frames (slot_table_of h)) (writes_of (info_of h counts)) machine.blocks = image_on_disk machine frames hib counts is.hardware is.counted usable in
    let blocks : BlocksBelow t.writer.extents free (writes_of t.writer.info) machine.blocks =
    subst (λ (info : Info). BlocksBelow t.writer.extents free (writes_of info) machine.blocks) (sym t.info)
    (subst (λ (es : List (ℕ × ℕ × ℕ)). BlocksBelow es free (writes_of (info_of h counts)) machine.blocks) (sym t.extents)
    (subst (λ (xs : List ℕ). BlocksBelow h.extents xs (writes_of (info_of h counts)) machine.blocks) (sym (free_stays machine frames frames' hib hib' counts last is)) below)) in
    record {
      table = t.table;
      done = t.written;
      steps = ap (λ (info : Info). writes_of info + 4) t.info;
      ready = (free, t.writing, blocks);
      image = are_of_image machine frames frames' hib hib' counts last is;
      copies = subst (λ (n : ℕ). All (λ p. p < n) hib'.snapshot.copies) (t.size ∙ sym size) t.below;
      reading = t.reading hib'.snapshot.origs hib'.snapshot.copies hib'.snapshot.zeros;
    }

first_place : (pages : ℕ) → 0 + 4 < pages + maps_of pages + 4
first_place pages = omega arith

pub can_step : (machine : Machine) (frames frames' : Memory) (runs : SlotRuns) (hib hib' : Hib) (counts : Counts) (last : Ending) → IsBegin machine frames frames' hib hib' counts last → IfOk machine.area (λ area. fit_fault machine.hw machine.blocks area ≡ None) →
    machine.blocks < 2 ^ 32 → length frames' ≡ length frames → Matches frames' (slot_table_of machine.hw) runs → CanStep machine frames' runs hib'
can_step machine frames frames' runs hib hib' counts last is usable few size matches =
    let h = machine.hw in
    let t = is.taken in
    let area = area_of machine is.counted.area usable in
    let some = is.hardware.some_slots in
    record {
      hardware = is.hardware;
      few = few;
      size = size ∙ is.size;
      table = slot_table_lies h frames' is.hardware (size ∙ is.size);
      matches = matches;
      header = (usable_fits h machine.blocks area.0 area.1).1 0 (omega arith);
      next = subst (λ (s : Stage). CanMake s h machine.blocks frames' hib'.snapshot) (sym t.next) (first_place (begin.pages_of counts), can_write machine frames frames' hib hib' counts last is usable size);
    }
