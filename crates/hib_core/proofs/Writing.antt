-- The rows of a write of a page or a map.
use Rattle.protocol_laws.proofs.Unwritten.{unwritten_slot}
use Rattle.std.proofs.Common.{◌≡◌, ◌<◌, All, ℕ, ◌+◌, length, List, [], Option, Some, inl, inr, refl, sym, ap, ◌∙◌, subst, arith}
use Rattle.hib_core.proofs.Facts.{next_at, numbers_at, after_step, still_of, still_saving}
use Rattle.definitions.specs.Bytes.{IsPage}
use Rattle.definitions.specs.Disk as disk
use Rattle.definitions.specs.Tables.{with_entries}
use Rattle.snapshot.specs.Taken.{Taken}
use Rattle.swap_slots.specs.Runs.{SlotRuns}
use Rattle.swap_slots.specs.Table.{LiesIn}
use Rattle.swap_slots.specs.declared.table.SlotTable.{SlotTable}
use Rattle.plain_machine.specs.Machine.{Hardware, Memory, raw_slot_entry, unused_slots, image_slot}
use Rattle.plain_machine.specs.Image.{Image, hibernate_steps}
use Rattle.plain_machine.specs.Shows.{RunsAs, seen_frames}
use Rattle.plain_machine.specs.State.{on, hibernating, Running}
use Rattle.plain_machine.specs.Stands.{NamesOnly}
use Rattle.plain_machine.specs.declared.event.Event.TheVariants as event
use Rattle.plain_machine.specs.declared.event.Actor.TheVariants as actor
use Rattle.plain_machine.specs.declared.reply.Reply.TheVariants as reply
use Rattle.plain_machine.specs.declared.reply.Left.TheVariants.{Same}
use Rattle.image_write.specs.Writing.{Writing, IsWriting, IsSameImage, Makes, FailsToMake, page_next, write_next, stream_of_sets, slots_of_write, IsReady}
use Rattle.protocol_laws.specs.Slots.{IsMemoryOf, HasSets}
use Rattle.protocol_laws.specs.Steps.{ShowsCopies}
use Rattle.protocol_laws.specs.Rows.{write_of_step}
use Rattle.protocol_laws.specs.Writers.{IsWriterOf}
use Rattle.machine.specs.declared.machine.Machine.{Machine}
use Rattle.machine.specs.Flights.{flights_in}
use Rattle.machine.specs.Running.{reason_of, slot_table_of}
use Rattle.hib_core.specs.Hibernation.{shown_by, suspends_at, activity_at, activity_saving}
use Rattle.hib_core.specs.Ready.{CanStep, CanWrite}
use Rattle.hib_core.specs.Writes.{Writes}
use Rattle.hib_core.specs.Row.{HibernationStandsFor, IsOf, Simulates, IsSavingOf, IsStageOf}
use Rattle.hib_core.specs.declared.hib.Hib.{Hib}
use Rattle.hib_core.specs.declared.hib.Stage.{Stage}
use Rattle.hib_core.specs.declared.hib.Stage.TheVariants as stage
use Rattle.hib_core.proofs.Facts.{is_over, row_at_hibernation}
use Rattle.hib_core.proofs.Plain.{may_write, write_may_fail}
use Rattle.protocol_laws.proofs.AreaKept.{kept_by_other_write}
use Rattle.protocol_laws.proofs.Writers.{writes_next, shows_still}
use Rattle.protocol_laws.proofs.Writing.{writes_on, write_fails, elsewhere}
use Rattle.protocol_laws.proofs.Taking.{none_left, runs_given_back}
use Rattle.hib_core.proofs.Syncing.{more_of}
use Rattle.hib_core.specs.declared.hib.Saving.{Saving}
use Rattle.protocol_laws.proofs.Told.{changed}

-- What a write makes: that of the writer's next page or map, from these page frames, which have the slots that it takes afterwards.
pub record HasWritten (R : ℕ × List ℕ → disk.Content → disk.Content → Type 0) (frames frames' : Memory) (sets : Taken) (w : Writing) (c c' : disk.Content) : Type 0 where
  pub made : (free : List ℕ) → IsWriting free frames w → R (write_next free w (page_next (stream_of_sets w.info frames sets.origs sets.copies sets.zeros) w)) c c'
  pub taken : (free : List ℕ) → IsWriting free frames w → frames' ≡ with_entries frames w.table.first (slots_of_write w.info free w.written) 65536

-- the writer of the image before a write
writer_of : (machine : Machine) (frames : Memory) (hib : Hib) (saving : Saving) (w : Writing) (i : Image) (a : Running) → hib.stage ≡ stage.Write saving w → IsOf machine.hw frames hib a i → IsWriterOf machine.hw a i saving.done frames w
writer_of machine frames hib saving w i a at of =
    let numbers : IsSavingOf machine.hw a i saving × IsWriterOf machine.hw a i saving.done frames w = numbers_at machine.hw frames hib a i (stage.Write saving w) at of in
    numbers.1

-- what the writer writes is the write of the next step
wrote : (R : ℕ × List ℕ → disk.Content → disk.Content → Type 0) (machine : Machine) (frames frames' : Memory) (hib : Hib) (saving : Saving) (c c' : disk.Content) (i : Image) (a : Running) (w : Writing) → hib.stage ≡ stage.Write saving w → HasWritten R frames frames' hib.snapshot w c c' →
    HibernationStandsFor machine frames hib c (hibernating (suspends_at saving.ending) i a saving.done) → R (write_of_step machine.hw a i saving.done) c c'
wrote R machine frames frames' hib saving c c' i a w at written s =
    let of = s.image in
    let writer = writer_of machine frames hib saving w i a at s.image in
    let sets : HasSets i frames hib.snapshot.origs hib.snapshot.copies hib.snapshot.zeros = record { origs = of.origs; zeros = of.zeros; copies = s.stands.parts.written.copies } in
    subst (λ (x : ℕ × List ℕ). R x c c') (writes_next machine.hw a i saving.done frames w hib.snapshot.origs hib.snapshot.copies hib.snapshot.zeros writer of.sayable sets)
    (written.made (unused_slots machine.hw a.memory) writer.writing)

-- the page frames with the slots of the write taken
took : (machine : Machine) (frames frames' : Memory) (hib : Hib) (saving : Saving) (i : Image) (a : Running) (w : Writing) (R : ℕ × List ℕ → disk.Content → disk.Content → Type 0) (c c' : disk.Content) → IsWriterOf machine.hw a i saving.done frames w → HasWritten R frames frames' hib.snapshot w c c' →
    frames' ≡ with_entries frames machine.hw.slot_table (slots_of_write w.info (unused_slots machine.hw a.memory) saving.done) image_slot
took machine frames frames' hib saving i a w R c c' writer written =
    written.taken (unused_slots machine.hw a.memory) writer.writing
    ∙ ap (λ (t : SlotTable). with_entries frames t.first (slots_of_write w.info (unused_slots machine.hw a.memory) w.written) image_slot) writer.table
    ∙ ap (λ (k : ℕ). with_entries frames machine.hw.slot_table (slots_of_write w.info (unused_slots machine.hw a.memory) k) image_slot) writer.made

-- what is shown afterwards, at any stage
shows_after : (R : ℕ × List ℕ → disk.Content → disk.Content → Type 0) (machine : Machine) (frames frames' : Memory) (runs : SlotRuns) (hib hib' : Hib) (saving : Saving) (c c' : disk.Content) (i : Image) (a : Running) (w : Writing) → CanStep machine frames runs hib → All IsPage frames →
    hib.stage ≡ stage.Write saving w → hib'.snapshot ≡ hib.snapshot → HasWritten R frames frames' hib.snapshot w c c' → HibernationStandsFor machine frames hib c (hibernating (suspends_at saving.ending) i a saving.done) → ShowsCopies machine.hw (shown_by machine frames' hib') a i
shows_after R machine frames frames' runs hib hib' saving c c' i a w can pages at same written s =
    let writer = writer_of machine frames hib saving w i a at s.image in
    shows_still machine.hw a i saving.done w (shown_by machine frames hib) (shown_by machine frames' hib') can.hardware s.stands.parts.accepted writer (record { pages = pages; table = can.table }) s.image.apart
    (record {
      held = refl;
      unusable = refl;
      flights = λ t. refl;
      copies = ap (λ (t : Taken). t.copies) same;
      frames = took machine frames frames' hib saving i a w R c c' writer written;
    })
    (record { shows = s.stands.parts.behind.memory; names = s.stands.parts.names; copies = s.stands.parts.written.copies })

-- the writer afterwards, where it has more to write
writer_after : (h : Hardware) (frames frames' : Memory) (i : Image) (a : Running) (k : ℕ) (w w' : Writing) → IsSameImage w w' → w'.written ≡ w.written + 1 → ((free : List ℕ) → IsWriting free frames w → IsWriting free frames' w') →
    IsWriterOf h a i k frames w → IsWriterOf h a i (k + 1) frames' w'
writer_after h frames frames' i a k w w' same made writing writer = record {
  info = same.info ∙ writer.info;
  extents = same.extents ∙ writer.extents;
  table = same.table ∙ writer.table;
  made = made ∙ ap (λ (n : ℕ). n + 1) writer.made;
  writing = writing (unused_slots h a.memory) writer.writing;
}

pub written_row : (machine : Machine) (frames frames' : Memory) (runs : SlotRuns) (hib : Hib) (saving : Saving) (c c' : disk.Content) (w : Writing) (next : Stage) → CanStep machine frames runs hib → All IsPage frames → hib.stage ≡ stage.Write saving w → disk.IsContent machine.blocks c →
    ((a : Running) (i : Image) → IsSavingOf machine.hw a i saving → IsWriterOf machine.hw a i saving.done frames w → IsStageOf next machine.hw frames' a i) → activity_at next ≡ activity_saving (after_step saving) →
    HasWritten Makes frames frames' hib.snapshot w c c' → Simulates machine frames hib machine frames' (record hib { stage = next }) (event.Step actor.Core) (reply.More (saving.done + 1) saving.steps) c c'
written_row machine frames frames' runs hib saving c c' w next can pages at whole numbers_after goes written =
    let new = record hib { stage = next } in
    row_at_hibernation machine frames hib machine frames' new (event.Step actor.Core) (reply.More (saving.done + 1) saving.steps) c c' (suspends_at saving.ending) saving.done (ap activity_at at)
    (λ i a s.
    let of = s.image in
    let numbers : IsSavingOf machine.hw a i saving × IsWriterOf machine.hw a i saving.done frames w = numbers_at machine.hw frames hib a i (stage.Write saving w) at of in
    let ready : (saving.done + 4 < saving.steps) × CanWrite machine.hw machine.blocks frames hib.snapshot saving w = next_at machine frames runs hib (stage.Write saving w) at can in
    let place : saving.done + 4 < hibernate_steps i = subst (λ (n : ℕ). saving.done + 4 < n) numbers.0.steps ready.0 in
    let over = is_over machine frames runs hib c a i can whole of in
    let made_it = wrote Makes machine frames frames' hib saving c c' i a w at written s in (
      hibernating (suspends_at saving.ending) i a (saving.done + 1),
      record {
        step = more_of machine.hw (disk.as_it_reads c) (suspends_at saving.ending) i a saving.done saving.steps numbers.0.steps (may_write machine.hw (disk.as_it_reads c) (suspends_at saving.ending) i a saving.done place);
        stands = record {
          stands = writes_on machine.hw (shown_by machine frames hib) (shown_by machine frames' new) c c' machine.blocks (suspends_at saving.ending) i a saving.done over s.stands place made_it goes
              (shows_after Makes machine frames frames' runs hib new saving c c' i a w can pages at refl written s);
          image = still_of machine.hw frames frames' hib a i next (numbers_after a i numbers.0 numbers.1) of;
        };
        area = kept_by_other_write machine.hw machine.blocks (write_of_step machine.hw a i saving.done).0 (write_of_step machine.hw a i saving.done).1 c c' whole
            (elsewhere machine.hw (shown_by machine frames hib) c machine.blocks (suspends_at saving.ending) i a saving.done over s.stands place) (inl made_it);
        unwritten = λ b not. unwritten_slot machine.hw a i saving.done b c c' place made_it.others not;
        leaves = tt;
        header = tt;
      },
    ))

pub write_failed_row : (machine : Machine) (frames mid frames' : Memory) (runs : SlotRuns) (hib hib' : Hib) (saving : Saving) (c c' : disk.Content) (w : Writing) → CanStep machine frames runs hib → All IsPage frames → All IsPage mid → LiesIn mid (slot_table_of machine.hw) →
    hib.stage ≡ stage.Write saving w → disk.IsContent machine.blocks c → HasWritten FailsToMake frames mid hib.snapshot w c c' → frames' ≡ seen_frames machine.hw mid → hib'.stage ≡ stage.Idle → hib'.snapshot ≡ hib.snapshot →
    Simulates machine frames hib machine frames' hib' (event.Step actor.Core) (reply.WriteFault Same) c c'
write_failed_row machine frames mid frames' runs hib hib' saving c c' w can pages mid_pages lies at whole written given idle_now kept =
    row_at_hibernation machine frames hib machine frames' hib' (event.Step actor.Core) (reply.WriteFault Same) c c' (suspends_at saving.ending) saving.done (ap activity_at at)
    (λ i a s.
    let of = s.image in
    let numbers : IsSavingOf machine.hw a i saving × IsWriterOf machine.hw a i saving.done frames w = numbers_at machine.hw frames hib a i (stage.Write saving w) at of in
    let ready : (saving.done + 4 < saving.steps) × CanWrite machine.hw machine.blocks frames hib.snapshot saving w = next_at machine frames runs hib (stage.Write saving w) at can in
    let place : saving.done + 4 < hibernate_steps i = subst (λ (n : ℕ). saving.done + 4 < n) numbers.0.steps ready.0 in
    let over = is_over machine frames runs hib c a i can whole of in
    let failed = wrote FailsToMake machine frames mid hib saving c c' i a w at written s in
    let memory : IsMemoryOf machine.hw mid = record { pages = mid_pages; table = lies } in
    let shows = shows_after FailsToMake machine frames mid runs hib hib' saving c c' i a w can pages at kept written s in
    let back : RunsAs machine.hw machine.held (reason_of machine.area) (flights_in machine.flights) frames' a =
    subst (λ (m : Memory). RunsAs machine.hw machine.held (reason_of machine.area) (flights_in machine.flights) m a) (sym given)
    (runs_given_back machine.hw machine.held (reason_of machine.area) (flights_in machine.flights) mid a memory shows.shows) in
    let names : NamesOnly machine.hw (shown_by machine frames' hib') [] =
    λ k lt e. absurd (none_left machine.hw mid k memory lt (ap (λ (m : Memory). raw_slot_entry machine.hw m k) (sym given) ∙ e)) in (
      on a,
      record {
        step = write_may_fail machine.hw (disk.as_it_reads c) (suspends_at saving.ending) i a saving.done place;
        stands = record {
          stands = write_fails machine.hw (shown_by machine frames hib) (shown_by machine frames' hib') c c' machine.blocks (suspends_at saving.ending) i a saving.done over s.stands place failed (ap activity_at idle_now) back names;
          image = tt;
        };
        area = kept_by_other_write machine.hw machine.blocks (write_of_step machine.hw a i saving.done).0 (write_of_step machine.hw a i saving.done).1 c c' whole
            (elsewhere machine.hw (shown_by machine frames hib) c machine.blocks (suspends_at saving.ending) i a saving.done over s.stands place) (inr failed);
        unwritten = λ b not. unwritten_slot machine.hw a i saving.done b c c' place failed.others not;
        leaves = tt;
        header = tt;
      },
    ))

-- Over a disk that tells its content.

-- what a step of the writer makes of the content
told_write : (R : ℕ × List ℕ → disk.Content → disk.Content → Type 0) (blocks : ℕ) (frames frames' : Memory) (sets : Taken) (w w' : Writing) (before now : Option disk.Content) (c : disk.Content) → IsReady blocks frames w → Writes R frames frames' sets w w' before now → before ≡ Some c →
    (c' : disk.Content) × (now ≡ Some c') × HasWritten R frames frames' sets w c c'
told_write R blocks frames frames' sets w w' before now c ready writes told =
    let after = changed (R (write_next ready.0 w (page_next (stream_of_sets w.info frames sets.origs sets.copies sets.zeros) w))) before now c told (writes.made ready.0 ready.1) in (
      after.0,
      after.1,
      record {
        made = λ any any_is. both_told (R (write_next any w (page_next (stream_of_sets w.info frames sets.origs sets.copies sets.zeros) w))) before now c after.0 told after.1 (writes.made any any_is);
        taken = writes.taken;
      },
    ) where
      both_told : (P : disk.Content → disk.Content → Type 0) (b n : Option disk.Content) (x y : disk.Content) → b ≡ Some x → n ≡ Some y → disk.Changes P b n → P x y
      both_told P b n x y be ne ch = subst (λ (o : Option disk.Content). disk.Changes P (Some x) o) ne (subst (λ (o : Option disk.Content). disk.Changes P o n) be ch)

-- the numbers at the stage after a write
pub numbers_on : (h : Hardware) (frames frames' : Memory) (saving : Saving) (w w' : Writing) → IsSameImage w w' → w'.written ≡ w.written + 1 → ((free : List ℕ) → IsWriting free frames w → IsWriting free frames' w') →
    (a : Running) (i : Image) → IsSavingOf h a i saving → IsWriterOf h a i saving.done frames w → IsStageOf (stage.Write (after_step saving) w') h frames' a i
numbers_on h frames frames' saving w w' same made writing a i numbers writer = (still_saving h a i saving numbers, writer_after h frames frames' i a saving.done w w' same made writing writer)

pub numbers_done : (h : Hardware) (frames frames' : Memory) (saving : Saving) (w : Writing) (a : Running) (i : Image) → IsSavingOf h a i saving → IsWriterOf h a i saving.done frames w → IsStageOf (stage.Sync (after_step saving)) h frames' a i
numbers_done h frames frames' saving w a i numbers writer = still_saving h a i saving numbers

pub row_made : (machine : Machine) (frames frames' : Memory) (runs : SlotRuns) (hib : Hib) (saving : Saving) (w w' : Writing) (next : Stage) (before now : Option disk.Content) (c : disk.Content) → CanStep machine frames runs hib → All IsPage frames → hib.stage ≡ stage.Write saving w → disk.IsContent machine.blocks c →
    Writes Makes frames frames' hib.snapshot w w' before now → ((a : Running) (i : Image) → IsSavingOf machine.hw a i saving → IsWriterOf machine.hw a i saving.done frames w → IsStageOf next machine.hw frames' a i) → activity_at next ≡ activity_saving (after_step saving) → before ≡ Some c →
    (c' : disk.Content) × (now ≡ Some c') × Simulates machine frames hib machine frames' (record hib { stage = next }) (event.Step actor.Core) (reply.More (saving.done + 1) saving.steps) c c'
row_made machine frames frames' runs hib saving w w' next before now c can pages at whole writes numbers goes told =
    let ready : (saving.done + 4 < saving.steps) × CanWrite machine.hw machine.blocks frames hib.snapshot saving w = next_at machine frames runs hib (stage.Write saving w) at can in
    let after = told_write Makes machine.blocks frames frames' hib.snapshot w w' before now c ready.1.ready writes told in
    (after.0, after.1, written_row machine frames frames' runs hib saving c after.0 w next can pages at whole numbers goes after.2)

pub row_failed : (machine : Machine) (frames mid frames' : Memory) (runs : SlotRuns) (hib end : Hib) (saving : Saving) (w w' : Writing) (before now : Option disk.Content) (c : disk.Content) → CanStep machine frames runs hib → All IsPage frames → All IsPage mid → length mid ≡ length frames → hib.stage ≡ stage.Write saving w →
    disk.IsContent machine.blocks c → Writes FailsToMake frames mid hib.snapshot w w' before now → end ≡ record hib { stage = stage.Idle } → frames' ≡ seen_frames machine.hw mid → before ≡ Some c →
    (c' : disk.Content) × (now ≡ Some c') × Simulates machine frames hib machine frames' end (event.Step actor.Core) (reply.WriteFault Same) c c'
row_failed machine frames mid frames' runs hib end saving w w' before now c can pages mid_pages size at whole writes ends given told =
    let ready : (saving.done + 4 < saving.steps) × CanWrite machine.hw machine.blocks frames hib.snapshot saving w = next_at machine frames runs hib (stage.Write saving w) at can in
    let after = told_write FailsToMake machine.blocks frames mid hib.snapshot w w' before now c ready.1.ready writes told in
    let lies : LiesIn mid (slot_table_of machine.hw) = let in' = can.table in omega arith in (
      after.0,
      after.1,
      write_failed_row machine frames mid frames' runs hib end saving c after.0 w can pages mid_pages lies at whole after.2 given
          (ap (λ (x : Hib). x.stage) ends) (ap (λ (x : Hib). x.snapshot) ends),
    )
