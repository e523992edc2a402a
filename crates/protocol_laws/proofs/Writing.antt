-- The writes of a hibernation's pages and maps.
use Rattle.std.proofs.Common.{ap, ℕ, ◌+◌, ◌*◌, ◌<◌, ◌≤◌, inl, inr, Bool, List, length, sym, ◌∙◌, subst, arith}
use Rattle.definitions.specs.Disk as disk
use Rattle.definitions.proofs.DiskLaws.{length-as_it_reads}
use Rattle.plain_machine.specs.Machine.{Hardware, block_of_slot, unused_slots}
use Rattle.plain_machine.specs.Chain.{blocks_of}
use Rattle.plain_machine.specs.Image.{Image, stream_of}
use Rattle.plain_machine.specs.Shows.{WorldView}
use Rattle.plain_machine.specs.Stands.{Stands, IsHeld}
use Rattle.plain_machine.specs.State.{hibernating, Running}
use Rattle.image_laws.specs.ImageBlocks.{Tries}
use Rattle.image_write.proofs.Done.{write_at, one_more_done}
use Rattle.plain_machine.proofs.BadSlots.{fits_area}
use Rattle.protocol_laws.specs.Steps.{IsOverDisk}
use Rattle.protocol_laws.proofs.Same.{KeepsHeader, header_kept, area_kept, nothing_kept, by_other_write, reads_kept}
use Rattle.protocol_laws.proofs.Places.{usable_area, free_not_header, free_not_used}
use Rattle.protocol_laws.proofs.Laid.{count_of, count_is, are_slots, pages_are, write_is, slot_of_write, done_of_take, take_of_done}
use Rattle.protocol_laws.proofs.Back.{held_before, unheld, early_call, ReadsSlots, slots_read, goes_back}
use Rattle.plain_machine.proofs.Calls.{synced_at}
use Rattle.protocol_laws.specs.Hibernating.{WriteFails, WritesElsewhere, WritesOn}

-- what the write of step k + 1 is
abbrev step_write : Hardware → Running → Image → ℕ → ℕ × List ℕ
step_write h a i k = write_at h.extents (unused_slots h a.memory) (stream_of i) k

-- the state before the write
pub record IsWriting (h : Hardware) (shown : WorldView) (c : disk.Content) (blocks : ℕ) (suspends : Bool) (i : Image) (a : Running) (k : ℕ) : Type 0 where
  pub over : IsOverDisk h i blocks c
  pub stands : Stands h shown c (hibernating suspends i a k)
  pub more : k < count_of i

tries_header : (h : Hardware) (shown : WorldView) (c c' : disk.Content) (blocks : ℕ) (suspends : Bool) (i : Image) (a : Running) (k : ℕ) (page : List ℕ) → IsWriting h shown c blocks suspends i a k → Tries (step_write h a i k).0 page c c' → KeepsHeader h c c'
tries_header h shown c c' blocks suspends i a k page is tries =
    let at = slot_of_write h a i k is.stands.parts.accepted is.more in
    let fits = is.stands.parts.behind.memory.fits in
    by_other_write h blocks (step_write h a i k).0 page c c' is.over.content tries
    (λ e. free_not_header h a.memory at.slot is.over.hardware fits at.free (e ∙ at.is))

tries_slots : (h : Hardware) (shown : WorldView) (c c' : disk.Content) (blocks : ℕ) (suspends : Bool) (i : Image) (a : Running) (k : ℕ) (page : List ℕ) → IsWriting h shown c blocks suspends i a k → Tries (step_write h a i k).0 page c c' → ReadsSlots h c c' a.slots
tries_slots h shown c c' blocks suspends i a k page is tries s old e =
    let at = slot_of_write h a i k is.stands.parts.accepted is.more in
    let task = is.stands.parts.behind.task_slots.tasks s old e in
    reads_kept (step_write h a i k).0 (block_of_slot h s) page c c' tries
    (λ same. free_not_used h a.memory at.slot s is.over.hardware at.free task.0 task.1 (same ∙ at.is))

-- the disk has the block
has_block : (h : Hardware) (shown : WorldView) (c : disk.Content) (blocks : ℕ) (suspends : Bool) (i : Image) (a : Running) (k : ℕ) → IsWriting h shown c blocks suspends i a k → 8 * (step_write h a i k).0 + 8 ≤ length c
has_block h shown c blocks suspends i a k is =
    let v = disk.as_it_reads c in
    let at = slot_of_write h a i k is.stands.parts.accepted is.more in
    let usable = usable_area h v (fits_area h c a is.stands.parts.behind.area is.stands.parts.accepted.usable).area in
    let below : block_of_slot h at.slot < blocks_of v = usable.on_disk at.slot at.free.within in
    let here = at.is in
    let size = is.over.content.size in
    let reads = length-as_it_reads c in
    omega arith

-- A write that is made is a step of the hibernation.
pub writes_on : WritesOn
writes_on h shown shown' c c' blocks suspends i a k over stands lt wrote activity shows =
    let steps = count_is i in
    let more : k < count_of i = omega arith in
    let is : IsWriting h shown c blocks suspends i a k = record { over = over; stands = stands; more = more } in
    let made : disk.Writes (step_write h a i k).0 (step_write h a i k).1 c c' = subst (λ (w : ℕ × List ℕ). disk.Writes w.0 w.1 c c') (write_is h a i k more) wrote in
    let keeps = tries_header h shown c c' blocks suspends i a k (step_write h a i k).1 is (inl made) in
    let reads = tries_slots h shown c c' blocks suspends i a k (step_write h a i k).1 is (inl made) in
    let behind = stands.parts.behind in
    let accepted = stands.parts.accepted in
    let written = stands.parts.written in
    record {
      activity = activity;
      parts = record {
        behind = record {
          memory = shows.shows;
          held = subst (IsHeld h c') (sym (held_before suspends i a (k + 1) (omega arith))) (nothing_kept h c c' keeps (unheld h shown c suspends i a k (omega arith) stands));
          task_slots = behind.task_slots;
          flights = behind.flights;
          slot_pages = slots_read h c c' a.slots reads behind.slot_pages;
          header = header_kept h c c' keeps behind.header;
          area = area_kept h c c' a keeps behind.area;
        };
        accepted = accepted;
        names = shows.names;
        written = record {
          laid = take_of_done h a i (disk.as_it_reads c') (k + 1) (omega arith)
              (one_more_done h.extents (unused_slots h a.memory) (stream_of i) k c c' (are_slots h a i over.hardware accepted) more
              (pages_are h a i over.hardware behind.memory.fits accepted over.info) (has_block h shown c blocks suspends i a k is) made
              (done_of_take h a i (disk.as_it_reads c) k (omega arith) written.laid));
          copies = shows.copies;
          durable = λ synced. absurd (let few = synced_at i (k + 1) synced in omega arith);
        };
        before = early_call h shown' c' i a (k + 1) (omega arith);
      };
    }

-- A write that fails lets the machine run again.
pub write_fails : WriteFails
write_fails h shown shown' c c' blocks suspends i a k over stands lt failed activity shows names =
    let steps = count_is i in
    let more : k < count_of i = omega arith in
    let is : IsWriting h shown c blocks suspends i a k = record { over = over; stands = stands; more = more } in
    let tried : disk.FailsToWrite (step_write h a i k).0 (step_write h a i k).1 c c' = subst (λ (w : ℕ × List ℕ). disk.FailsToWrite w.0 w.1 c c') (write_is h a i k more) failed in
    goes_back h shown shown' c c' suspends i a k (omega arith) stands (tries_header h shown c c' blocks suspends i a k (step_write h a i k).1 is (inr tried))
    (tries_slots h shown c c' blocks suspends i a k (step_write h a i k).1 is (inr tried)) activity shows names

-- The block that is written isn't the header's.
pub elsewhere : WritesElsewhere
elsewhere h shown c blocks suspends i a k over stands lt e =
    let steps = count_is i in
    let more : k < count_of i = omega arith in
    let at = slot_of_write h a i k stands.parts.accepted more in
    free_not_header h a.memory at.slot over.hardware stands.parts.behind.memory.fits at.free (sym e ∙ ap (λ (w : ℕ × List ℕ). w.0) (write_is h a i k more) ∙ at.is)
