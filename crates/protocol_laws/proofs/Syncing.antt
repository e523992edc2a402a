-- The first sync of a hibernation, and the read of the header block after it.
use Rattle.std.proofs.Common.{◌≡◌, ℕ, ◌+◌, ◌≤◌, Bool, true, false, nat_eq, List, None, length, All, refl, sym, ap, ◌∙◌, subst, arith}
use Rattle.std.specs.Cmp.Lexicographic.{pointwise, same_text}
use Rattle.std.proofs.lemmas.Bool.{cond-false}
use Rattle.std.proofs.lemmas.List.{take_all}
use Rattle.std.proofs.lemmas.List.Elements.{All-take}
use Rattle.std.proofs.lemmas.List.FromFn.{length-map-range_with_len}
use Rattle.definitions.specs.Disk as disk
use Rattle.definitions.proofs.DiskLaws.{as_it_reads-settled, IsImage-after_sync, IsImage-as_it_reads}
use Rattle.plain_machine.specs.Machine.{Hardware, block_of_slot, unused_slots}
use Rattle.definitions.specs.SwapHeader.{image_signature, sig_of, taken_back}
use Rattle.image_format.specs.AreaKind.{area_kind}
use Rattle.image_format.specs.declared.signature.area.AreaKind.{AreaKind}
use Rattle.image_format.specs.declared.signature.area.AreaKind.TheVariants.{Image as Marks, Old, Other, BadArea, Swap}
use Rattle.plain_machine.specs.Chain.{Marked, header_of, blocks_of}
use Rattle.plain_machine.specs.UsableArea.{area_fault, area_block, kind_fault, kind_or_fit_fault}
use Rattle.plain_machine.specs.Image.{Image, stream_of, hibernate_steps}
use Rattle.plain_machine.specs.Image.{laid}
use Rattle.plain_machine.specs.Shows.{WorldView}
use Rattle.plain_machine.specs.Stands.{Stands, IsBeforeCall, IsHeld, HaveSlotPages, Reads, laid_writes}
use Rattle.plain_machine.specs.State.{hibernating, Running, nothing}
use Rattle.image_write.proofs.Done.{write_at}
use Rattle.plain_machine.proofs.BadSlots.{fits_area}
use Rattle.protocol_laws.proofs.Same.{header_kept, area_kept, nothing_kept, by_sync, by_nothing}
use Rattle.protocol_laws.proofs.Laid.{count_of, count_is}
use Rattle.protocol_laws.proofs.Back.{held_before, unheld, before_read, before_mark, slots_read, goes_back}
use Rattle.plain_machine.proofs.Calls.{call_reads, call_marks, synced_from}
use Rattle.protocol_laws.specs.Hibernating.{CallFails, MarksUnmarked, ReadsArea, SyncsOn, ReadsOn}

pub length-laid : (h : Hardware) (a : Running) (i : Image) → length (laid_writes h a i) ≡ count_of i
unfolding laid
length-laid h a i = length-map-range_with_len (write_at h.extents (unused_slots h a.memory) (stream_of i)) 0 (count_of i)

-- all writes are made
pub all_laid : (h : Hardware) (shown : WorldView) (c : disk.Content) (suspends : Bool) (i : Image) (a : Running) (k : ℕ) → hibernate_steps i ≤ k + 4 → Stands h shown c (hibernating suspends i a k) → All (Reads (disk.as_it_reads c)) (laid_writes h a i)
all_laid h shown c suspends i a k le stands =
    let size = length-laid h a i in
    let steps = count_is i in
    subst (All (Reads (disk.as_it_reads c))) (take_all k (laid_writes h a i) (omega arith)) stands.parts.written.laid

pub slots_of_image : (h : Hardware) (a : Running) (i : Image) (shown : WorldView) (c : disk.Content) (suspends : Bool) (k : ℕ) → Stands h shown c (hibernating suspends i a k) → HaveSlotPages h c i.slots
slots_of_image h a i shown c suspends k stands = subst (HaveSlotPages h c) (sym (ap (λ (x : Image). x.slots) stands.parts.accepted.image)) stands.parts.behind.slot_pages

pub syncs_on : SyncsOn
syncs_on h shown shown' c c' blocks suspends i a k over stands last syncs activity shows =
    let behind = stands.parts.behind in
    let keeps = by_sync h blocks c c' over.content syncs in
    let reads : disk.as_it_reads c' ≡ disk.as_it_reads c = ap disk.as_it_reads syncs ∙ as_it_reads-settled (disk.as_it_reads c) in
    let all = all_laid h shown c suspends i a k (omega arith) stands in
    let image : (v : disk.DiskImage) → disk.IsImage c' v → disk.as_it_reads c ≡ v = λ v in'. sym (IsImage-after_sync c c' v syncs in') in
    let slots = slots_of_image h a i shown c suspends k stands in
    let none : IsHeld h c' nothing = nothing_kept h c c' keeps (unheld h shown c suspends i a k (omega arith) stands) in
    record {
      activity = activity;
      parts = record {
        behind = record {
          held = subst (IsHeld h c') (sym (held_before suspends i a (k + 1) (omega arith))) none;
          memory = shows.shows;
          task_slots = behind.task_slots;
          flights = behind.flights;
          slot_pages = slots_read h c c' a.slots (λ s page e. ap (λ (v : disk.DiskImage). disk.block v (block_of_slot h s)) reads) behind.slot_pages;
          header = header_kept h c c' keeps behind.header;
          area = area_kept h c c' a keeps behind.area;
        };
        accepted = stands.parts.accepted;
        names = shows.names;
        written = record {
          laid = All-take (Reads (disk.as_it_reads c')) (k + 1) (laid_writes h a i) (subst (λ (v : disk.DiskImage). All (Reads v) (laid_writes h a i)) (sym reads) all);
          copies = shows.copies;
          durable = λ synced. record {
            blocks = λ v in'. subst (λ (w : disk.DiskImage). All (Reads w) (laid_writes h a i)) (image v in') all;
            slots = λ s page e v in'. subst (λ (w : disk.DiskImage). disk.block w (block_of_slot h s) ≡ page) (image v in') (slots s page e);
            mark = λ v in' marked. absurd (none v in' marked);
          };
        };
        before = subst (IsBeforeCall h shown' c' i a) (sym (call_reads i (k + 1) (omega arith)))
            (λ v w in_v in_w. IsImage-after_sync c c' v syncs in_v ∙ sym (IsImage-after_sync c c' w syncs in_w));
      };
    }

-- the read changes nothing, and the block is kept
pub reads_on : ReadsOn
reads_on h shown shown' c blocks suspends i a k over stands last header activity shows =
    let behind = stands.parts.behind in
    let written = stands.parts.written in
    let v = disk.as_it_reads c in
    let here = IsImage-as_it_reads blocks c over.content in
    record {
      activity = activity;
      parts = record {
        behind = record {
          held = subst (IsHeld h c) (sym (held_before suspends i a (k + 1) (omega arith))) (unheld h shown c suspends i a k (omega arith) stands);
          memory = shows.shows;
          task_slots = behind.task_slots;
          flights = behind.flights;
          slot_pages = behind.slot_pages;
          header = behind.header;
          area = behind.area;
        };
        accepted = stands.parts.accepted;
        names = shows.names;
        written = record {
          laid = All-take (Reads v) (k + 1) (laid_writes h a i) ((written.durable (synced_from i k (omega arith))).blocks v here);
          copies = shows.copies;
          durable = λ synced. written.durable (synced_from i k (omega arith));
        };
        before = subst (IsBeforeCall h shown' c i a) (sym (call_marks i (k + 1) (omega arith)))
            (record { one = before_read h shown c suspends i a k last stands; header = header });
      };
    }

-- a sync or a read that fails changes nothing, and the machine runs again
pub call_fails : CallFails
call_fails h shown shown' c suspends i a k stands lt activity shows names =
    goes_back h shown shown' c c suspends i a k (omega arith) stands (by_nothing h c) (λ s page e. refl) activity shows names

-- What is read is the header block of an area.

swap_kind : (h : Hardware) (blocks : ℕ) (kind : AreaKind) → kind_or_fit_fault h blocks kind ≡ None → kind_fault kind ≡ None
swap_kind h blocks (Swap area) e = refl
swap_kind h blocks (Marks mark) e = e
swap_kind h blocks Old e = e
swap_kind h blocks (Other sig) e = e
swap_kind h blocks (BadArea why) e = e

unmarked_block : (h : Hardware) (v : disk.DiskImage) → (Marked h v → ⊥) → area_block h v ≡ header_of h v
unmarked_block h v unmarked = cond-false (pointwise nat_eq (sig_of (header_of h v)) image_signature) (taken_back (header_of h v)) (header_of h v) (differs (pointwise nat_eq (sig_of (header_of h v)) image_signature) refl) where
  differs : (b : Bool) → pointwise nat_eq (sig_of (header_of h v)) image_signature ≡ b → pointwise nat_eq (sig_of (header_of h v)) image_signature ≡ false
  differs true e = absurd (unmarked (same_text (sig_of (header_of h v)) image_signature (sym e)))
  differs false e = e

pub reads_area : ReadsArea
unfolding area_fault
reads_area h shown c blocks suspends i a k whole stands at =
    let v = disk.as_it_reads c in
    let unmarked = unheld h shown c suspends i a k (omega arith) stands v (IsImage-as_it_reads blocks c whole) in
    let usable : kind_or_fit_fault h (blocks_of v) (area_kind (area_block h v)) ≡ None = (fits_area h c a stands.parts.behind.area stands.parts.accepted.usable).area in
    swap_kind h (blocks_of v) (area_kind (header_of h v)) (subst (λ (p : List ℕ). kind_or_fit_fault h (blocks_of v) (area_kind p) ≡ None) (unmarked_block h v unmarked) usable)

-- Before the mark the header block that is kept is the disk's, unmarked.
pub marks_unmarked : MarksUnmarked
marks_unmarked h shown c blocks suspends i a k whole stands at =
    ((before_mark h shown c suspends i a k at stands).header, unheld h shown c suspends i a k (omega arith) stands (disk.as_it_reads c) (IsImage-as_it_reads blocks c whole))
