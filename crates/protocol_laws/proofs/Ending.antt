-- The last sync of a hibernation: the machine is off or sleeps, and every image of the disk holds the image.
use Rattle.std.proofs.Common.{◌≡◌, ℕ, ◌+◌, inl, Bool, List, refl, sym, ap, ◌∙◌, subst, arith}
use Rattle.definitions.specs.Disk as disk
use Rattle.definitions.proofs.DiskLaws.{IsImage-after_sync, IsImage-as_it_reads, as_it_reads-settled}
use Rattle.plain_machine.specs.Machine.{Hardware, block_of_slot}
use Rattle.plain_machine.specs.Chain.{Holds}
use Rattle.plain_machine.specs.Image.{Image, hibernate_steps}
use Rattle.plain_machine.specs.Shows.{WorldView}
use Rattle.plain_machine.specs.Stands.{Stands, IsHeld, IsOwn, AgreeOnArea, first_map_block}
use Rattle.plain_machine.specs.Mark.{HasMark}
use Rattle.plain_machine.specs.State.{hibernating, Running, sure, maybe, own}
use Rattle.plain_machine.specs.UsableArea.{area_block}
use Rattle.definitions.specs.SwapHeader.{IsMarked, taken_back}
use Rattle.protocol_laws.specs.Rows.{HasImage}
use Rattle.protocol_laws.specs.Steps.{IsOverDisk}
use Rattle.protocol_laws.proofs.Same.{header_kept, area_kept, by_sync}
use Rattle.plain_machine.proofs.Calls.{synced_from}
use Rattle.protocol_laws.proofs.Back.{held_behind, before_last, slots_read}
use Rattle.protocol_laws.specs.Hibernating.{EndFails, EndLeaves, EndsAsleep, Ends}

pub held_at_end : (h : Hardware) (shown : WorldView) (c : disk.Content) (suspends : Bool) (i : Image) (a : Running) (k : ℕ) → k + 1 ≡ hibernate_steps i → Stands h shown c (hibernating suspends i a k) → IsHeld h c (maybe (own i))
held_at_end h shown c suspends i a k last stands = subst (IsHeld h c) (held_behind suspends i a k (omega arith)) stands.parts.behind.held

-- after the last sync the image is certainly on the disk
held_sure : (h : Hardware) (shown : WorldView) (c c' : disk.Content) (blocks : ℕ) (suspends : Bool) (i : Image) (a : Running) (k : ℕ) → IsOverDisk h i blocks c → Stands h shown c (hibernating suspends i a k) → k + 1 ≡ hibernate_steps i → disk.Syncs c c' → IsHeld h c' (sure (own i))
held_sure h shown c c' blocks suspends i a k over stands last syncs v in' =
    let here = IsImage-as_it_reads blocks c over.content in
    let holds : Holds h (disk.as_it_reads c) i = (before_last h shown c suspends i a k last stands).holds in
    let own_is : IsOwn h (disk.as_it_reads c) i = (held_at_end h shown c suspends i a k last stands (disk.as_it_reads c) here).1 in
    let same = sym (IsImage-after_sync c c' v syncs in') in
    (subst (λ (w : disk.DiskImage). Holds h w i) same holds, subst (λ (w : disk.DiskImage). IsOwn h w i) same own_is)

pub ends : Ends
ends h shown shown' c c' blocks suspends i a k over stands last syncs activity kept = record {
  activity = activity;
  parts = record {
    memory = kept;
    held = held_sure h shown c c' blocks suspends i a k over stands last syncs;
    header = header_kept h c c' (by_sync h blocks c c' over.content syncs) stands.parts.behind.header;
  };
}

-- of a suspend: the machine sleeps
pub ends_asleep : EndsAsleep
ends_asleep h shown shown' c c' blocks suspends i a k over stands last syncs activity shows names =
    let behind = stands.parts.behind in
    let keeps = by_sync h blocks c c' over.content syncs in
    let reads : disk.as_it_reads c' ≡ disk.as_it_reads c = ap disk.as_it_reads syncs ∙ as_it_reads-settled (disk.as_it_reads c) in
    record {
      activity = activity;
      parts = record {
        behind = record {
          memory = shows;
          held = held_sure h shown c c' blocks suspends i a k over stands last syncs;
          task_slots = behind.task_slots;
          flights = behind.flights;
          slot_pages = slots_read h c c' a.slots (λ s page e. ap (λ (v : disk.DiskImage). disk.block v (block_of_slot h s)) reads) behind.slot_pages;
          header = header_kept h c c' keeps behind.header;
          area = area_kept h c c' a keeps behind.area;
        };
        names = names;
        saved = record { image = stands.parts.accepted.image; is_held = inl refl };
      };
    }

-- the last sync has left the mark and the blocks in every image
pub end_leaves : EndLeaves
end_leaves h shown c c' blocks suspends i a k over stands last syncs v in' =
    let here = IsImage-as_it_reads blocks c over.content in
    let holds : Holds h (disk.as_it_reads c) i = (before_last h shown c suspends i a k last stands).holds in
    let laid = stands.parts.written.durable (synced_from i k (omega arith)) in
    subst (HasImage h i a) (sym (IsImage-after_sync c c' v syncs in'))
    (record { marked = holds.marked; mark = laid.mark (disk.as_it_reads c) here holds.marked; laid = laid.blocks (disk.as_it_reads c) here })

-- a sync that fails begins an undo
pub end_fails : EndFails
end_fails h shown shown' c suspends i a k stands last header activity shows =
    let behind = stands.parts.behind in
    let mark = (before_last h shown c suspends i a k last stands).mark in
    record {
      activity = activity;
      parts = record {
        behind = record {
          memory = shows.shows;
          held = held_at_end h shown c suspends i a k last stands;
          task_slots = behind.task_slots;
          flights = behind.flights;
          slot_pages = behind.slot_pages;
          header = behind.header;
          area = behind.area;
        };
        accepted = stands.parts.accepted;
        names = shows.names;
        laid = stands.parts.written.durable (synced_from i k (omega arith));
        before = record {
          marked = subst IsMarked (sym header) mark.marked;
          mark = subst (HasMark h i.format (first_map_block h a)) (sym header) mark.mark;
          unmarked = λ m. mark.unmarked (subst (λ (p : List ℕ). IsMarked (taken_back p)) header m);
          area = subst (λ (p : List ℕ). AgreeOnArea (taken_back p) (area_block h (disk.as_it_reads c))) (sym header) mark.area;
        };
      };
    }
