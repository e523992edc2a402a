-- The steps that undo a hibernation.
use Rattle.std.proofs.Common.{◌≡◌, ℕ, ◌/◌, ◌⊎◌, inl, inr, List, Some, All, sym, ap, ◌∙◌, subst, arith}
use Rattle.std.proofs.lemmas.List.Elements.{All-take}
use Rattle.definitions.specs.Bytes.{IsPage}
use Rattle.definitions.specs.Disk as disk
use Rattle.definitions.specs.SwapHeader.{IsMarked, taken_back}
use Rattle.definitions.proofs.DiskLaws.{as_it_reads-settled, IsImage-after_sync, IsImage-as_it_reads}
use Rattle.plain_machine.specs.Machine.{Hardware, block_of_slot, unused_slots}
use Rattle.plain_machine.specs.Chain.{header_of, blocks_of, Marked, Holds}
use Rattle.plain_machine.specs.Image.{Image, stream_of}
use Rattle.plain_machine.specs.Mark.{HasMark}
use Rattle.plain_machine.proofs.BadSlots.{fits_area}
use Rattle.plain_machine.specs.Shows.{WorldView}
use Rattle.plain_machine.specs.Stands.{Stands, HasLaid, KeepsMark, IsHeld, IsOwn, Reads, laid_writes, first_map_block}
use Rattle.plain_machine.proofs.BadSlots.{no_flights-owned}
use Rattle.plain_machine.proofs.Flights.{no_flights_in}
use Rattle.plain_machine.specs.State.{undoing, Running, nothing, maybe, own}
use Rattle.plain_machine.specs.UsableArea.{area_block}
use Rattle.plain_machine.specs.declared.reply.UndoCall.{UndoCall}
use Rattle.image_laws.specs.ImageBlocks.{Tries}
use Rattle.image_laws.proofs.ImageBlocks.{length-taken_back}
use Rattle.image_write.proofs.Done.{write_at, all_done}
use Rattle.protocol_laws.specs.Steps.{IsOverDisk}
use Rattle.protocol_laws.specs.Undo.{with_held, UndoSyncFails, UndoSyncs, UndoWriteFails, UndoWrites}
use Rattle.protocol_laws.specs.Rows.{AddsNoMark}
use Rattle.protocol_laws.proofs.HeaderLeft.{marks_written}
use Rattle.protocol_laws.proofs.Same.{header_kept, area_kept, by_sync}
use Rattle.protocol_laws.proofs.Places.{IsUsable, usable_area, free_not_header, task_not_header}
use Rattle.protocol_laws.proofs.Laid.{count_of, slot_of_write, done_of_take}
use Rattle.protocol_laws.proofs.Marking.{image_blocks}
use Rattle.protocol_laws.proofs.Back.{slots_read, names_laid}
use Rattle.protocol_laws.proofs.Unmarking.{IsUnmarking, Torn, still, back, torn, kind_torn, own_torn, header_still, area_still, slots_still, reads_unmarked}

-- The state: the world keeps the marked page.
record IsUndoing (h : Hardware) (shown : WorldView) (c : disk.Content) (blocks : ℕ) (i : Image) (call : UndoCall) (a : Running) : Type 0 where
  pub over : IsOverDisk h i blocks c
  pub page : IsPage shown.header
  pub stands : Stands h shown c (undoing i call a 0)

keeps : (h : Hardware) (shown : WorldView) (c : disk.Content) (blocks : ℕ) (i : Image) (call : UndoCall) (a : Running) → IsUndoing h shown c blocks i call a → KeepsMark h shown c i a
keeps h shown c blocks i call a is = is.stands.parts.before

usable : (h : Hardware) (shown : WorldView) (c : disk.Content) (blocks : ℕ) (i : Image) (call : UndoCall) (a : Running) → IsUndoing h shown c blocks i call a → IsUsable h (blocks_of (disk.as_it_reads c)) (area_block h (disk.as_it_reads c))
usable h shown c blocks i call a is = usable_area h (disk.as_it_reads c) (fits_area h c a is.stands.parts.behind.area is.stands.parts.accepted.usable).area

unmarking : (h : Hardware) (shown : WorldView) (c : disk.Content) (blocks : ℕ) (i : Image) (call : UndoCall) (a : Running) → IsUndoing h shown c blocks i call a → IsUnmarking h (taken_back shown.header) c blocks
unmarking h shown c blocks i call a is =
    let mark = keeps h shown c blocks i call a is in
    let some = is.over.hardware.some_slots in
    let on_it = (usable h shown c blocks i call a is).on_disk 0 (omega arith) in
    let n = image_blocks blocks c (disk.as_it_reads c) is.over.content (IsImage-as_it_reads blocks c is.over.content) in
    record {
      content = is.over.content;
      on_disk = omega arith;
      whole = length-taken_back shown.header is.page;
      unmarked = mark.unmarked;
      area = mark.area;
      header = is.stands.parts.behind.header;
    }

-- a tried undo
record IsTried (h : Hardware) (shown : WorldView) (c c' : disk.Content) (blocks : ℕ) (i : Image) (call : UndoCall) (a : Running) : Type 0 where
  pub undoing_is : IsUndoing h shown c blocks i call a
  pub after : disk.IsContent blocks c'
  pub tries : Tries (block_of_slot h 0) (taken_back shown.header) c c'

abbrev TornUndo : Hardware → WorldView → disk.Content → disk.DiskImage → Type 0
TornUndo h shown c v = Torn h (taken_back shown.header) c v

each_torn : (h : Hardware) (shown : WorldView) (c c' : disk.Content) (blocks : ℕ) (i : Image) (call : UndoCall) (a : Running) (v : disk.DiskImage) → IsTried h shown c c' blocks i call a → disk.IsImage c' v → TornUndo h shown c v
each_torn h shown c c' blocks i call a v is in' = torn h (taken_back shown.header) c c' blocks v (unmarking h shown c blocks i call a is.undoing_is) is.tries in'

-- What is held: where the block is taken back the image isn't marked.
held_torn : (h : Hardware) (shown : WorldView) (c : disk.Content) (blocks : ℕ) (i : Image) (call : UndoCall) (a : Running) (v : disk.DiskImage) → IsUndoing h shown c blocks i call a → TornUndo h shown c v → ((Marked h v → ⊥) ⊎ Holds h v i) × IsOwn h v i
held_torn h shown c blocks i call a v is (still was) = is.stands.parts.behind.held v was
held_torn h shown c blocks i call a v is (back w in_w same header) =
    let page = taken_back shown.header in
    let un = unmarking h shown c blocks i call a is in
    let never : Marked h v → ⊥ = λ m. un.unmarked (subst IsMarked header m) in
    let kind = kind_torn h page c blocks v un (back w in_w same header) ∙ sym (kind_torn h page c blocks w un (still in_w)) in
    (inl never, own_torn h i v w (is.stands.parts.behind.held w in_w).1 (ap (λ (n : ℕ). n / 8) same.size) kind never)

laid_torn : (h : Hardware) (shown : WorldView) (c : disk.Content) (blocks : ℕ) (i : Image) (call : UndoCall) (a : Running) (v : disk.DiskImage) → IsUndoing h shown c blocks i call a → TornUndo h shown c v → All (Reads v) (laid_writes h a i)
laid_torn h shown c blocks i call a v is (still was) = is.stands.parts.laid.blocks v was
laid_torn h shown c blocks i call a v is (back w in_w same header) =
    let free = unused_slots h a.memory in
    let stream = stream_of i in
    let done = done_of_take h a i w (count_of i) (omega arith) (All-take (Reads w) (count_of i) (laid_writes h a i) (is.stands.parts.laid.blocks w in_w)) in
    all_done h.extents free stream v (λ j lt.
    let at = slot_of_write h a i j is.stands.parts.accepted lt in
    same.others (write_at h.extents free stream j).0 (λ e. free_not_header h a.memory at.slot is.over.hardware is.stands.parts.behind.memory.fits at.free (sym e ∙ at.is)) ∙ done j lt)

slots_torn : (h : Hardware) (shown : WorldView) (c : disk.Content) (blocks : ℕ) (i : Image) (call : UndoCall) (a : Running) (v : disk.DiskImage) (s : ℕ) (page : List ℕ) → IsUndoing h shown c blocks i call a → i.slots s ≡ Some page → TornUndo h shown c v → disk.block v (block_of_slot h s) ≡ page
slots_torn h shown c blocks i call a v s page is e (still was) = is.stands.parts.laid.slots s page e v was
slots_torn h shown c blocks i call a v s page is e (back w in_w same header) =
    let task = is.stands.parts.behind.task_slots.tasks s page (sym (ap (λ (x : Image). x.slots s) is.stands.parts.accepted.image) ∙ e) in
    same.others (block_of_slot h s) (task_not_header h a.memory s is.over.hardware is.stands.parts.behind.memory.fits task.0 task.2) ∙ is.stands.parts.laid.slots s page e w in_w

says_torn : (h : Hardware) (shown : WorldView) (c : disk.Content) (blocks : ℕ) (i : Image) (call : UndoCall) (a : Running) (v : disk.DiskImage) → IsUndoing h shown c blocks i call a → TornUndo h shown c v → Marked h v → HasMark h i.format (first_map_block h a) (header_of h v)
says_torn h shown c blocks i call a v is (still was) marked = is.stands.parts.laid.mark v was marked
says_torn h shown c blocks i call a v is (back w in_w same header) marked = absurd ((keeps h shown c blocks i call a is).unmarked (subst IsMarked header marked))

still_laid : (h : Hardware) (shown : WorldView) (c c' : disk.Content) (blocks : ℕ) (i : Image) (call : UndoCall) (a : Running) → IsTried h shown c c' blocks i call a → HasLaid h c' i a
still_laid h shown c c' blocks i call a is = record {
  blocks = λ v in'. laid_torn h shown c blocks i call a v is.undoing_is (each_torn h shown c c' blocks i call a v is in');
  slots = λ s page e v in'. slots_torn h shown c blocks i call a v s page is.undoing_is e (each_torn h shown c c' blocks i call a v is in');
  mark = λ v in' marked. says_torn h shown c blocks i call a v is.undoing_is (each_torn h shown c c' blocks i call a v is in') marked;
}

-- A mark that a crash may leave afterwards it might have left before.
pub undo_adds_no_mark : (h : Hardware) (shown : WorldView) (c c' : disk.Content) (blocks : ℕ) (i : Image) (call : UndoCall) (a : Running) → IsOverDisk h i blocks c → IsPage shown.header → Stands h shown c (undoing i call a 0) →
    Tries (block_of_slot h 0) (taken_back shown.header) c c' → AddsNoMark h c c'
undo_adds_no_mark h shown c c' blocks i call a over page stands =
    marks_written h (taken_back shown.header) c c' blocks (unmarking h shown c blocks i call a (record { over = over; page = page; stands = stands }))

pub takes_mark_back : UndoWrites
takes_mark_back h shown shown' c c' blocks i call a over page after stands writes activity shows names =
    let is : IsTried h shown c c' blocks i call a = record { undoing_is = record { over = over; page = page; stands = stands }; after = after; tries = inl writes } in
    let behind = stands.parts.behind in
    let back_page = taken_back shown.header in
    let un = unmarking h shown c blocks i call a is.undoing_is in
    record {
      activity = activity;
      parts = record {
        behind = record {
          memory = shows;
          held = λ v in'. held_torn h shown c blocks i call a v is.undoing_is (each_torn h shown c c' blocks i call a v is in');
          task_slots = behind.task_slots;
          flights = behind.flights;
          slot_pages = slots_read h c c' a.slots (slots_still h back_page c c' a over.hardware behind.memory.fits behind.task_slots is.tries) behind.slot_pages;
          header = header_still h back_page c c' blocks un after is.tries;
          area = area_still h back_page c c' blocks a un after is.tries behind.area;
        };
        accepted = stands.parts.accepted;
        names = names;
        laid = still_laid h shown c c' blocks i call a is;
        before = reads_unmarked h back_page c c' blocks un after writes;
      };
    }

-- The write fails: the machine runs, and the image is there or not.
pub undo_write_fails : UndoWriteFails
undo_write_fails h shown shown' c c' blocks i call a over page after stands fails activity shows names =
    let is : IsTried h shown c c' blocks i call a = record { undoing_is = record { over = over; page = page; stands = stands }; after = after; tries = inr fails } in
    let behind = stands.parts.behind in
    let back_page = taken_back shown.header in
    let un = unmarking h shown c blocks i call a is.undoing_is in
    let held : IsHeld h c' (maybe (own i)) = λ v in'. held_torn h shown c blocks i call a v is.undoing_is (each_torn h shown c c' blocks i call a v is in') in
    let area = area_still h back_page c c' blocks a un after is.tries behind.area in
    record {
      activity = activity;
      parts = record {
        memory = shows;
        disk = record {
          held = held;
          task_slots = behind.task_slots;
          flights = no_flights-owned h (with_held a (maybe (own i))) (no_flights_in h a behind.flights stands.parts.accepted.idle);
          slot_pages = slots_read h c c' a.slots (slots_still h back_page c c' a over.hardware behind.memory.fits behind.task_slots is.tries) behind.slot_pages;
          names = names_laid h shown' i a stands.parts.accepted names;
          header = header_still h back_page c c' blocks un after is.tries;
          area = area;
        };
      };
    }

-- The sync: no image is marked any more. Where it fails the disk is as it was.
pub undo_syncs : UndoSyncs
undo_syncs h shown shown' c c' blocks i call a over stands syncs activity shows names =
    let behind = stands.parts.behind in
    let keeps = by_sync h blocks c c' over.content syncs in
    let unmarked : Marked h (disk.as_it_reads c) → ⊥ = stands.parts.before in
    let reads : disk.as_it_reads c' ≡ disk.as_it_reads c = ap disk.as_it_reads syncs ∙ as_it_reads-settled (disk.as_it_reads c) in
    let area = area_kept h c c' a keeps behind.area in
    record {
      activity = activity;
      parts = record {
        memory = shows;
        disk = record {
          held = λ v in' marked. unmarked (subst (Marked h) (IsImage-after_sync c c' v syncs in') marked);
          task_slots = behind.task_slots;
          flights = no_flights-owned h (with_held a nothing) (no_flights_in h a behind.flights stands.parts.accepted.idle);
          slot_pages = slots_read h c c' a.slots (λ s page e. ap (λ (v : disk.DiskImage). disk.block v (block_of_slot h s)) reads) behind.slot_pages;
          names = names;
          header = header_kept h c c' keeps behind.header;
          area = area;
        };
      };
    }

pub undo_sync_fails : UndoSyncFails
undo_sync_fails h shown shown' c blocks i call a over stands activity shows names =
    let behind = stands.parts.behind in
    let area = behind.area in
    record {
      activity = activity;
      parts = record {
        memory = shows;
        disk = record {
          held = behind.held;
          task_slots = behind.task_slots;
          flights = no_flights-owned h (with_held a (maybe (own i))) (no_flights_in h a behind.flights stands.parts.accepted.idle);
          slot_pages = behind.slot_pages;
          names = names_laid h shown' i a stands.parts.accepted names;
          header = behind.header;
          area = area;
        };
      };
    }
