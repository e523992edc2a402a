-- The state after the mark's write, failed or not.
use Rattle.std.proofs.Common.{◌≡◌, ℕ, ◌+◌, ◌⊎◌, inl, inr, Bool, bit_and, List, Some, All, refl, sym, ap, ap₂, ◌∙◌, subst, arith}
use Rattle.std.proofs.lemmas.List.Elements.{All-take}
use Rattle.definitions.specs.Bytes.{AgreeBut}
use Rattle.definitions.specs.Disk as disk
use Rattle.definitions.specs.SwapHeader.{IsMarked, taken_back, flags_of, hw_sig_of}
use Rattle.definitions.proofs.DiskLaws.{IsImage-as_it_reads}
use Rattle.image_format.specs.AreaKind.{area_kind}
use Rattle.image_format.specs.declared.signature.area.AreaKind.{AreaKind}
use Rattle.plain_machine.specs.Machine.{Hardware, block_of_slot, unused_slots}
use Rattle.plain_machine.specs.Chain.{header_of, blocks_of, Marked, Holds}
use Rattle.plain_machine.specs.Image.{Image, SlotPages, image_of_memory, stream_of}
use Rattle.plain_machine.specs.Shows.{WorldView, ShowsRunning}
use Rattle.plain_machine.specs.Stands.{Stands, StandsBehind, HasLaid, IsHeld, IsOwn, FitsArea, AgreeOnArea, KeepsMark, Reads, laid_writes, first_map_block, IsBeforeCall}
use Rattle.plain_machine.specs.Mark.{HasMark}
use Rattle.plain_machine.proofs.BadSlots.{fits_area, has_area}
use Rattle.plain_machine.specs.State.{hibernating, Running, maybe, own}
use Rattle.plain_machine.specs.UsableArea.{area_block, area_fault, bad_set_fault, kind_or_fit_fault}
use Rattle.image_laws.specs.ImageBlocks.{Tries}
use Rattle.image_laws.proofs.Images.{earlier_image}
use Rattle.image_write.proofs.Done.{all_done}
use Rattle.plain_machine.proofs.DiskBlocks.{block-written}
use Rattle.protocol_laws.specs.Steps.{marked_header}
use Rattle.protocol_laws.proofs.Same.{reads_kept}
use Rattle.protocol_laws.proofs.Places.{task_not_header}
use Rattle.protocol_laws.proofs.Areas.{agree_on_area, area_kind_same, sig_same}
use Rattle.plain_machine.proofs.Calls.{call_last, synced_from}
use Rattle.protocol_laws.proofs.Back.{own_task_slots, ReadsSlots, slots_read, held_behind, unheld, before_mark}
use Rattle.protocol_laws.proofs.Marking.{IsReady, HasPage, is_kept, the_mark, mark_torn, marked_holds, marked_reads, header_on_disk, image_blocks, header_of_marked, area_block-unmarked, area_block-marked}
use Rattle.protocol_laws.specs.Hibernating.{MarkFails, MarksOn}

-- Each image is the one of before, or has the mark.
pub data Torn (h : Hardware) (c : disk.Content) (page : List ℕ) (v : disk.DiskImage) : Type 0 where
  as_before : disk.IsImage c v → Torn h c page v
  with_mark : HasPage h c page v → Torn h c page v

pub record IsTried (h : Hardware) (shown : WorldView) (c c' : disk.Content) (blocks : ℕ) (suspends : Bool) (i : Image) (a : Running) (k : ℕ) : Type 0 where
  pub ready : IsReady h shown c blocks suspends i a k
  pub after : disk.IsContent blocks c'
  pub tries : Tries (block_of_slot h 0) (marked_header h a i shown.header) c c'

torn : (h : Hardware) (shown : WorldView) (c c' : disk.Content) (blocks : ℕ) (suspends : Bool) (i : Image) (a : Running) (k : ℕ) (v : disk.DiskImage) → IsTried h shown c c' blocks suspends i a k → disk.IsImage c' v → Torn h c (marked_header h a i shown.header) v
torn h shown c c' blocks suspends i a k v is in' =
    elim (mark_torn h shown c c' blocks suspends i a k v is.ready is.tries in') [
      | inl was ↦ as_before was
      | inr marked ↦ with_mark (record { here = marked.0; from = marked.1.0; was = marked.1.1; same = marked.1.2 })
    ]

-- what the header block says of the area
pub record SaysArea (h : Hardware) (header : List ℕ) (v : disk.DiskImage) : Type 0 where
  pub agrees : AgreeOnArea (area_block h v) header
  pub unmarked : IsMarked (area_block h v) → ⊥
  pub kind : area_kind (area_block h v) ≡ area_kind header

back_unmarked : (page header : List ℕ) → AgreeBut 4056 4086 (taken_back page) header → (IsMarked header → ⊥) → IsMarked (taken_back page) → ⊥
back_unmarked page header agree unmarked m = unmarked (sym (sig_same (taken_back page) header agree) ∙ m)

says_area_by : (h : Hardware) (header page : List ℕ) (v : disk.DiskImage) → area_block h v ≡ page → AgreeOnArea page header → (IsMarked page → ⊥) → area_kind page ≡ area_kind header → SaysArea h header v
says_area_by h header page v e agrees unmarked kind = record {
  agrees = subst (λ (p : List ℕ). AgreeOnArea p header) (sym e) agrees;
  unmarked = λ m. unmarked (subst IsMarked e m);
  kind = ap area_kind e ∙ kind;
}

says_area : (h : Hardware) (shown : WorldView) (c c' : disk.Content) (blocks : ℕ) (suspends : Bool) (i : Image) (a : Running) (k : ℕ) (v : disk.DiskImage) → IsTried h shown c c' blocks suspends i a k → Torn h c (marked_header h a i shown.header) v → SaysArea h shown.header v
says_area h shown c c' blocks suspends i a k v is (as_before was) =
    let kept = is_kept h shown c blocks suspends i a k is.ready in
    let last = is.ready.last in
    let one = (before_mark h shown c suspends i a k last is.ready.stands).one in
    let here = IsImage-as_it_reads blocks c is.ready.over.content in
    let same : header_of h v ≡ shown.header = ap (header_of h) (one v (disk.as_it_reads c) was here) ∙ sym kept.is in
    says_area_by h shown.header shown.header v (area_block-unmarked h v (λ m. kept.unmarked (subst IsMarked same m)) ∙ same) (record { front = refl; signature = refl }) kept.unmarked refl
says_area h shown c c' blocks suspends i a k v is (with_mark has) =
    let kept = is_kept h shown c blocks suspends i a k is.ready in
    let mark = the_mark h shown c blocks suspends i a k is.ready in
    let lt = header_on_disk h shown c blocks suspends i a k is.ready.over is.ready.stands in
    let page = marked_header h a i shown.header in
    let header = header_of_marked h c blocks page v is.ready.over.content lt has in
    let unmarked = back_unmarked page shown.header mark.back kept.unmarked in
    says_area_by h shown.header (taken_back page) v (area_block-marked h v (subst IsMarked (sym header) mark.is_marked) ∙ ap taken_back header) (agree_on_area (taken_back page) shown.header mark.back) unmarked
    (area_kind_same (taken_back page) shown.header mark.back unmarked)

pub agree_both : (p q r : List ℕ) → AgreeOnArea p r → AgreeOnArea q r → AgreeOnArea p q
agree_both p q r a b = record { front = a.front ∙ sym b.front; signature = a.signature ∙ sym b.signature }

each_says : (h : Hardware) (shown : WorldView) (c c' : disk.Content) (blocks : ℕ) (suspends : Bool) (i : Image) (a : Running) (k : ℕ) (v : disk.DiskImage) → IsTried h shown c c' blocks suspends i a k → disk.IsImage c' v → SaysArea h shown.header v
each_says h shown c c' blocks suspends i a k v is in' = says_area h shown c c' blocks suspends i a k v is (torn h shown c c' blocks suspends i a k v is in')

-- An own image.

pub slots_are : (h : Hardware) (a : Running) (i : Image) → i ≡ image_of_memory h a.memory a.slots i.format → i.slots ≡ a.slots
slots_are h a i is = ap (λ (x : Image). x.slots) is

pub is_own : (h : Hardware) (shown : WorldView) (c : disk.Content) (suspends : Bool) (i : Image) (a : Running) (k : ℕ) (v : disk.DiskImage) → Stands h shown c (hibernating suspends i a k) → FitsArea h v a.memory →
    (Marked h v → (bit_and (flags_of (header_of h v)) 8 ≡ 0) ⊎ (hw_sig_of (header_of h v) ≡ h.hw_sig)) → IsOwn h v i
is_own h shown c suspends i a k v stands area signature =
    let slots = slots_are h a i stands.parts.accepted.image in
    record {
      of_memory = (
        a.memory,
        record {
          fits = stands.parts.behind.memory.fits;
          task_slots = own_task_slots h a i stands.parts.accepted stands.parts.behind.flights stands.parts.behind.task_slots;
          fits_area = area;
          image = subst (λ (u : SlotPages). i ≡ image_of_memory h a.memory u i.format) (sym slots) stands.parts.accepted.image;
        },
      );
      signature = signature;
    }

area_by_kind : (h : Hardware) (v w : disk.DiskImage) → blocks_of v ≡ blocks_of w → area_kind (area_block h v) ≡ area_kind (area_block h w) → area_fault h v ≡ area_fault h w
unfolding area_fault
area_by_kind h v w blocks kind = ap₂ (λ (n : ℕ) (x : AreaKind). kind_or_fit_fault h n x) blocks kind

-- the area is the one that the running state has
area_torn : (h : Hardware) (shown : WorldView) (c c' : disk.Content) (blocks : ℕ) (suspends : Bool) (i : Image) (a : Running) (k : ℕ) (v : disk.DiskImage) → IsTried h shown c c' blocks suspends i a k → disk.IsImage c' v → FitsArea h v a.memory
area_torn h shown c c' blocks suspends i a k v is in' =
    let stands = is.ready.stands in
    let usable = fits_area h c a stands.parts.behind.area stands.parts.accepted.usable in
    let w = disk.as_it_reads c in
    let says = each_says h shown c c' blocks suspends i a k v is in' in
    let kept = is_kept h shown c blocks suspends i a k is.ready in
    let old : area_block h w ≡ shown.header = area_block-unmarked h w (λ m. kept.unmarked (subst IsMarked (sym kept.is) m)) ∙ sym kept.is in
    let kind : area_kind (area_block h v) ≡ area_kind (area_block h w) = says.kind ∙ ap area_kind (sym old) in
    let n = image_blocks blocks c w is.ready.over.content (IsImage-as_it_reads blocks c is.ready.over.content) in
    let m = image_blocks blocks c' v is.after in' in
    record {
      area = area_by_kind h v w (m ∙ sym n) kind ∙ usable.area;
      bad_slots = ap (bad_set_fault h a.memory) kind ∙ usable.bad_slots;
    }

held_torn : (h : Hardware) (shown : WorldView) (c c' : disk.Content) (blocks : ℕ) (suspends : Bool) (i : Image) (a : Running) (k : ℕ) (v : disk.DiskImage) → IsTried h shown c c' blocks suspends i a k → FitsArea h v a.memory → Torn h c (marked_header h a i shown.header) v → ((Marked h v → ⊥) ⊎ Holds h v i) × IsOwn h v i
held_torn h shown c c' blocks suspends i a k v is area (as_before was) =
    let stands = is.ready.stands in
    let last = is.ready.last in
    let never : Marked h v → ⊥ = unheld h shown c suspends i a k (omega arith) stands v was in
    (inl never, is_own h shown c suspends i a k v stands area (λ m. absurd (never m)))
held_torn h shown c c' blocks suspends i a k v is area (with_mark has) =
    let stands = is.ready.stands in
    let mark = the_mark h shown c blocks suspends i a k is.ready in
    let lt = header_on_disk h shown c blocks suspends i a k is.ready.over is.ready.stands in
    let page = marked_header h a i shown.header in
    let header = header_of_marked h c blocks page v is.ready.over.content lt has in (
      inr (marked_holds h shown c blocks suspends i a k v is.ready has),
      is_own h shown c suspends i a k v stands area (λ m. subst (λ (p : List ℕ). (bit_and (flags_of p) 8 ≡ 0) ⊎ (hw_sig_of p ≡ h.hw_sig)) (sym header) mark.signature),
    )

tried_slots : (h : Hardware) (shown : WorldView) (c c' : disk.Content) (blocks : ℕ) (suspends : Bool) (i : Image) (a : Running) (k : ℕ) → IsTried h shown c c' blocks suspends i a k → ReadsSlots h c c' a.slots
tried_slots h shown c c' blocks suspends i a k is s old e =
    let behind = is.ready.stands.parts.behind in
    let task = behind.task_slots.tasks s old e in
    reads_kept (block_of_slot h 0) (block_of_slot h s) (marked_header h a i shown.header) c c' is.tries (task_not_header h a.memory s is.ready.over.hardware behind.memory.fits task.0 task.2)

-- what is after the mark's write
pub behind_mark : (h : Hardware) (shown shown' : WorldView) (c c' : disk.Content) (blocks : ℕ) (suspends : Bool) (i : Image) (a : Running) (k : ℕ) → IsTried h shown c c' blocks suspends i a k → ShowsRunning h shown' a → StandsBehind h shown' c' a (maybe (own i))
behind_mark h shown shown' c c' blocks suspends i a k is shows =
    let behind = is.ready.stands.parts.behind in
    let v' = disk.as_it_reads c' in
    let here' = IsImage-as_it_reads blocks c' is.after in
    let says = each_says h shown c c' blocks suspends i a k v' is here' in
    let area = area_torn h shown c c' blocks suspends i a k v' is here' in
    record {
      held = λ w in_w. held_torn h shown c c' blocks suspends i a k w is (area_torn h shown c c' blocks suspends i a k w is in_w) (torn h shown c c' blocks suspends i a k w is in_w);
      memory = shows;
      task_slots = behind.task_slots;
      flights = behind.flights;
      slot_pages = slots_read h c c' a.slots (tried_slots h shown c c' blocks suspends i a k is) behind.slot_pages;
      header = record {
        unmarked = λ w in_w. (each_says h shown c c' blocks suspends i a k w is in_w).unmarked;
        one = λ w in_w. agree_both (area_block h w) (area_block h v') shown.header (each_says h shown c c' blocks suspends i a k w is in_w).agrees says.agrees;
      };
      area = has_area h c' a is.ready.stands.parts.accepted.usable area;
    }

keeps_mark : (h : Hardware) (shown shown' : WorldView) (c c' : disk.Content) (blocks : ℕ) (suspends : Bool) (i : Image) (a : Running) (k : ℕ) → IsTried h shown c c' blocks suspends i a k → shown'.header ≡ marked_header h a i shown.header → KeepsMark h shown' c' i a
keeps_mark h shown shown' c c' blocks suspends i a k is header =
    let mark = the_mark h shown c blocks suspends i a k is.ready in
    let kept = is_kept h shown c blocks suspends i a k is.ready in
    let page = marked_header h a i shown.header in
    let says = each_says h shown c c' blocks suspends i a k (disk.as_it_reads c') is (IsImage-as_it_reads blocks c' is.after) in
    record {
      marked = subst IsMarked (sym header) mark.is_marked;
      mark = subst (HasMark h i.format (first_map_block h a)) (sym header) mark.own;
      unmarked = λ m. back_unmarked page shown.header mark.back kept.unmarked (subst (λ (p : List ℕ). IsMarked (taken_back p)) header m);
      area = subst (λ (p : List ℕ). AgreeOnArea (taken_back p) (area_block h (disk.as_it_reads c'))) (sym header)
          (agree_both (taken_back page) (area_block h (disk.as_it_reads c')) shown.header (agree_on_area (taken_back page) shown.header mark.back) says.agrees);
    }

-- Every image has what was laid.

written_torn : (h : Hardware) (shown : WorldView) (c c' : disk.Content) (blocks : ℕ) (suspends : Bool) (i : Image) (a : Running) (k : ℕ) (v : disk.DiskImage) → IsTried h shown c c' blocks suspends i a k → Torn h c (marked_header h a i shown.header) v → All (Reads v) (laid_writes h a i)
written_torn h shown c c' blocks suspends i a k v is (as_before was) = let last = is.ready.last in (is.ready.stands.parts.written.durable (synced_from i k (omega arith))).blocks v was
written_torn h shown c c' blocks suspends i a k v is (with_mark has) =
    all_done h.extents (unused_slots h a.memory) (stream_of i) v (marked_reads h shown c blocks suspends i a k (marked_header h a i shown.header) v is.ready has)

slots_torn : (h : Hardware) (shown : WorldView) (c c' : disk.Content) (blocks : ℕ) (suspends : Bool) (i : Image) (a : Running) (k : ℕ) (v : disk.DiskImage) (s : ℕ) (page : List ℕ) → IsTried h shown c c' blocks suspends i a k → i.slots s ≡ Some page → Torn h c (marked_header h a i shown.header) v → disk.block v (block_of_slot h s) ≡ page
slots_torn h shown c c' blocks suspends i a k v s page is e (as_before was) = let last = is.ready.last in (is.ready.stands.parts.written.durable (synced_from i k (omega arith))).slots s page e v was
slots_torn h shown c c' blocks suspends i a k v s page is e (with_mark has) = (marked_holds h shown c blocks suspends i a k v is.ready has).slots s page e

says_torn : (h : Hardware) (shown : WorldView) (c c' : disk.Content) (blocks : ℕ) (suspends : Bool) (i : Image) (a : Running) (k : ℕ) (v : disk.DiskImage) → IsTried h shown c c' blocks suspends i a k → Torn h c (marked_header h a i shown.header) v → Marked h v → HasMark h i.format (first_map_block h a) (header_of h v)
says_torn h shown c c' blocks suspends i a k v is (as_before was) marked = let last = is.ready.last in absurd (unheld h shown c suspends i a k (omega arith) is.ready.stands v was marked)
says_torn h shown c c' blocks suspends i a k v is (with_mark has) marked =
    let lt = header_on_disk h shown c blocks suspends i a k is.ready.over is.ready.stands in
    subst (HasMark h i.format (first_map_block h a)) (sym (header_of_marked h c blocks (marked_header h a i shown.header) v is.ready.over.content lt has)) (the_mark h shown c blocks suspends i a k is.ready).own

has_laid : (h : Hardware) (shown : WorldView) (c c' : disk.Content) (blocks : ℕ) (suspends : Bool) (i : Image) (a : Running) (k : ℕ) → IsTried h shown c c' blocks suspends i a k → HasLaid h c' i a
has_laid h shown c c' blocks suspends i a k is = record {
  blocks = λ v in'. written_torn h shown c c' blocks suspends i a k v is (torn h shown c c' blocks suspends i a k v is in');
  slots = λ s page e v in'. slots_torn h shown c c' blocks suspends i a k v s page is e (torn h shown c c' blocks suspends i a k v is in');
  mark = λ v in' marked. says_torn h shown c c' blocks suspends i a k v is (torn h shown c c' blocks suspends i a k v is in') marked;
}

-- a mark that fails begins an undo
pub mark_fails : MarkFails
mark_fails h shown shown' c c' blocks suspends i a k over after stands last tries header activity shows =
    let is : IsTried h shown c c' blocks suspends i a k = record { ready = record { over = over; stands = stands; last = last }; after = after; tries = inr tries } in
    record {
      activity = activity;
      parts = record {
        behind = behind_mark h shown shown' c c' blocks suspends i a k is shows.shows;
        accepted = stands.parts.accepted;
        names = shows.names;
        laid = has_laid h shown c c' blocks suspends i a k is;
        before = keeps_mark h shown shown' c c' blocks suspends i a k is header;
      };
    }

-- a mark that is made is a step of the hibernation
pub marks_on : MarksOn
marks_on h shown shown' c c' blocks suspends i a k over after stands last writes header activity shows =
    let is : IsTried h shown c c' blocks suspends i a k = record { ready = record { over = over; stands = stands; last = last }; after = after; tries = inl writes } in
    let page = marked_header h a i shown.header in
    let mark = the_mark h shown c blocks suspends i a k is.ready in
    let v' = disk.as_it_reads c' in
    let here' = IsImage-as_it_reads blocks c' after in
    let lt = header_on_disk h shown c blocks suspends i a k over stands in
    let size = over.content.size in
    let was = earlier_image blocks (block_of_slot h 0) page c c' v' over.content (inl writes) here' in
    let has : HasPage h c page v' = record { here = block-written (block_of_slot h 0) page c c' mark.whole (omega arith) writes; from = was.0; was = was.1; same = was.2 } in
    let behind = behind_mark h shown shown' c c' blocks suspends i a k is shows.shows in
    record {
      activity = activity;
      parts = record {
        behind = record {
          memory = behind.memory;
          held = subst (IsHeld h c') (sym (held_behind suspends i a (k + 1) (omega arith))) behind.held;
          task_slots = behind.task_slots;
          flights = behind.flights;
          slot_pages = behind.slot_pages;
          header = behind.header;
          area = behind.area;
        };
        accepted = stands.parts.accepted;
        names = shows.names;
        written = record {
          laid = All-take (Reads v') (k + 1) (laid_writes h a i) (written_torn h shown c c' blocks suspends i a k v' is (with_mark has));
          copies = shows.copies;
          durable = λ synced. has_laid h shown c c' blocks suspends i a k is;
        };
        before = subst (IsBeforeCall h shown' c' i a) (sym (call_last i (k + 1) (omega arith)))
            (record { mark = keeps_mark h shown shown' c c' blocks suspends i a k is header; holds = marked_holds h shown c blocks suspends i a k v' is.ready has });
      };
    }
