-- A machine that waits while a mark is taken back, and its disk: block(0) is read, written taken back and synced, whichever state waits.
use Rattle.std.proofs.Common.{◌≡◌, ℕ, ◌/◌, ◌⊎◌, inl, inr, List, [], take, refl, sym, ap, ◌∙◌, subst, arith}
use Rattle.definitions.specs.Bytes.{IsPage}
use Rattle.definitions.specs.Disk as disk
use Rattle.definitions.specs.SwapHeader.{IsMarked, sig_of, unmarked_block}
use Rattle.definitions.proofs.DiskLaws.{as_it_reads-settled, IsImage-after_sync, IsImage-as_it_reads}
use Rattle.image_laws.specs.ImageBlocks.{Tries}
use Rattle.plain_machine.specs.Machine.{Hardware, IsHardware, block_of_slot}
use Rattle.plain_machine.specs.Chain.{header_of, Marked, Holds}
use Rattle.plain_machine.specs.Image.{Image}
use Rattle.plain_machine.specs.Shows.{WorldView, ShowsRunning}
use Rattle.plain_machine.specs.Stands.{StandsBehind, StandsOn, KeepsHeader, IsHeld, IsOwn, IsFlight, HasFlights, NamesOnly, NamesHeld}
use Rattle.plain_machine.specs.State.{Running, Held, nothing, sure, maybe, own, other, perhaps}
use Rattle.protocol_laws.specs.Rows.{IsSameArea}
use Rattle.protocol_laws.specs.Settling.{IsOnDisk}
use Rattle.protocol_laws.specs.Undo.{with_held}
use Rattle.protocol_laws.proofs.AreaKept.{kept_by_header}
use Rattle.protocol_laws.proofs.Back.{slots_read}
use Rattle.protocol_laws.proofs.Marking.{header_is, length-block, image_blocks}
use Rattle.protocol_laws.proofs.Same.{header_kept, area_kept, by_sync}
use Rattle.protocol_laws.proofs.Unmarking.{IsUnmarking, Torn, still, back, torn, kind_torn, own_torn, area_page, header_still, area_still, slots_still}

-- The machine waits over the same disk.
pub waits_on : (h : Hardware) (shown shown' : WorldView) (c : disk.Content) (a : Running) (held : Held) → StandsBehind h shown c a held → ShowsRunning h shown' a → StandsBehind h shown' c a held
waits_on h shown shown' c a held was shows = record {
  held = was.held;
  memory = shows;
  task_slots = was.task_slots;
  flights = was.flights;
  slot_pages = was.slot_pages;
  header = was.header;
  area = was.area;
}

-- What is written is the block that says of the area what each image says.
pub unmarking : (h : Hardware) (shown : WorldView) (c : disk.Content) (blocks : ℕ) (a : Running) (held : Held) → IsOnDisk h blocks c → StandsBehind h shown c a held → KeepsHeader h shown c → IsUnmarking h (unmarked_block shown.header) c blocks
unmarking h shown c blocks a held over was keeps =
    let v = disk.as_it_reads c in
    let here = IsImage-as_it_reads blocks c over.content in
    let n = image_blocks blocks c v over.content here in
    let lt = over.header in
    let header : IsPage (header_of h v) = subst IsPage (sym (header_is h v (omega arith))) (length-block blocks c v (block_of_slot h 0) over.content here lt) in
    let block = ap unmarked_block keeps in
    record {
      content = over.content;
      on_disk = lt;
      whole = subst IsPage (sym block) (area_page h v header);
      unmarked = λ m. was.header.unmarked v here (subst IsMarked block m);
      area = record { front = ap (λ (p : List ℕ). take 4056 p) block; signature = ap sig_of block };
      header = was.header;
    }

-- Writing that block leaves the area, failed or not.
pub area_tried : (h : Hardware) (page : List ℕ) (c c' : disk.Content) (blocks : ℕ) → IsUnmarking h page c blocks → Tries (block_of_slot h 0) page c c' → IsSameArea h (disk.as_it_reads c) (disk.as_it_reads c')
area_tried h page c c' blocks un tries = kept_by_header h blocks page c c' un.content un.on_disk un.whole un.unmarked un.area tries

-- What is held is perhaps there from then on.

own_held : (h : Hardware) (page : List ℕ) (c : disk.Content) (blocks : ℕ) (i : Image) (v : disk.DiskImage) → IsUnmarking h page c blocks → IsHeld h c (maybe (own i)) → Torn h page c v → ((Marked h v → ⊥) ⊎ Holds h v i) × IsOwn h v i
own_held h page c blocks i v un held (still was) = held v was
own_held h page c blocks i v un held (back w in_w same header) =
    let never : Marked h v → ⊥ = λ m. un.unmarked (subst IsMarked header m) in
    let kind = kind_torn h page c blocks v un (back w in_w same header) ∙ sym (kind_torn h page c blocks w un (still in_w)) in
    (inl never, own_torn h i v w (held w in_w).1 (ap (λ (n : ℕ). n / 8) same.size) kind never)

none_held : (h : Hardware) (page : List ℕ) (c : disk.Content) (blocks : ℕ) (v : disk.DiskImage) → IsUnmarking h page c blocks → IsHeld h c nothing → Torn h page c v → Marked h v → ⊥
none_held h page c blocks v un held (still was) = held v was
none_held h page c blocks v un held (back w in_w same header) = λ m. un.unmarked (subst IsMarked header m)

held_tried : (h : Hardware) (page : List ℕ) (c c' : disk.Content) (blocks : ℕ) (held : Held) → IsUnmarking h page c blocks → Tries (block_of_slot h 0) page c c' → IsHeld h c held → IsHeld h c' (perhaps held)
held_tried h page c c' blocks nothing un tries is = λ v in'. none_held h page c blocks v un is (torn h page c c' blocks v un tries in')
held_tried h page c c' blocks (sure (own i)) un tries is =
    λ v in'. own_held h page c blocks i v un (λ w in_w. let it = is w in_w in (inr it.0, it.1)) (torn h page c c' blocks v un tries in')
held_tried h page c c' blocks (maybe (own i)) un tries is = λ v in'. own_held h page c blocks i v un is (torn h page c c' blocks v un tries in')
held_tried h page c c' blocks (sure other) un tries is = tt
held_tried h page c c' blocks (maybe other) un tries is = tt

pub names_perhaps : (h : Hardware) (shown : WorldView) (held : Held) → NamesHeld h shown held → NamesHeld h shown (perhaps held)
names_perhaps h shown nothing names = names
names_perhaps h shown (sure x) names = names
names_perhaps h shown (maybe x) names = names

-- an operation is unfinished as before, whatever is held; an out only where none is
flight_still : (h : Hardware) (a : Running) (held : Held) (t s p : ℕ) → IsFlight h a t s p → IsFlight h (with_held a held) t s p
flight_still h a held t s p is = record { task = is.task; usable = is.usable; slot = is.slot; valid = is.valid; owner = is.owner }

flights_still : (h : Hardware) (a : Running) (held : Held) → (a.held ≡ nothing → held ≡ nothing) → HasFlights h a → HasFlights h (with_held a held)
flights_still h a held none has = record {
  outs = λ t s p e. flight_still h a held t s p (has.outs t s p e);
  unheld = λ t s p e. none (has.unheld t s p e);
  ins = λ t s p e. flight_still h a held t s p (has.ins t s p e);
}

-- After the write, failed or not, the machine waits, or runs.
pub waits_tried : (h : Hardware) (shown shown' : WorldView) (page : List ℕ) (c c' : disk.Content) (blocks : ℕ) (a : Running) (held : Held) → IsHardware h → IsUnmarking h page c blocks → disk.IsContent blocks c' → Tries (block_of_slot h 0) page c c' →
    StandsBehind h shown c a held → ShowsRunning h shown' a → StandsBehind h shown' c' a (perhaps held)
waits_tried h shown shown' page c c' blocks a held hardware un after tries was shows = record {
  held = held_tried h page c c' blocks held un tries was.held;
  memory = shows;
  task_slots = was.task_slots;
  flights = was.flights;
  slot_pages = slots_read h c c' a.slots (slots_still h page c c' a hardware was.memory.fits was.task_slots tries) was.slot_pages;
  header = header_still h page c c' blocks un after tries;
  area = area_still h page c c' blocks a un after tries was.area;
}

pub runs_unsure : (h : Hardware) (shown shown' : WorldView) (c : disk.Content) (a : Running) → StandsBehind h shown c a (perhaps a.held) → NamesHeld h shown' a.held → StandsOn h shown' c (with_held a (perhaps a.held))
runs_unsure h shown shown' c a was names = record {
  held = was.held;
  task_slots = was.task_slots;
  flights = flights_still h a (perhaps a.held) (λ none. ap perhaps none) was.flights;
  slot_pages = was.slot_pages;
  names = names_perhaps h shown' a.held names;
  header = was.header;
  area = was.area;
}

-- After the sync no image is on the disk, and the machine runs.
pub runs_synced : (h : Hardware) (shown shown' : WorldView) (c c' : disk.Content) (blocks : ℕ) (a : Running) (held : Held) → disk.IsContent blocks c → disk.Syncs c c' → (Marked h (disk.as_it_reads c) → ⊥) →
    StandsBehind h shown c a held → NamesOnly h shown' [] → StandsOn h shown' c' (with_held a nothing)
runs_synced h shown shown' c c' blocks a held whole syncs unmarked was names =
    let keeps = by_sync h blocks c c' whole syncs in
    let reads : disk.as_it_reads c' ≡ disk.as_it_reads c = ap disk.as_it_reads syncs ∙ as_it_reads-settled (disk.as_it_reads c) in
    record {
      held = λ v in' marked. unmarked (subst (Marked h) (IsImage-after_sync c c' v syncs in') marked);
      task_slots = was.task_slots;
      flights = flights_still h a nothing (λ none. refl) was.flights;
      slot_pages = slots_read h c c' a.slots (λ s page e. ap (λ (v : disk.DiskImage). disk.block v (block_of_slot h s)) reads) was.slot_pages;
      names = names;
      header = header_kept h c c' keeps was.header;
      area = area_kept h c c' a keeps was.area;
    }
