-- What steps leave of the page frames: no page frame's entry ever changes.
use Rattle.std.proofs.Common.{◌≡◌, ℕ, ◌+◌, ◌/◌, ◌%◌, ◌<◌, inl, inr, Bool, true, false, cond, eqb, List, [], length, take, drop, Contains, Option, refl, sym, ap, ◌∙◌, subst, arith}
use Rattle.definitions.specs.Disk.{Content}
use Rattle.definitions.specs.Tables.{with_entries}
use Rattle.definitions.specs.Zones.{numbers}
use Rattle.definitions.specs.Tables.{image_slots}
use Rattle.definitions.proofs.Ascending.{Contains-nil}
use Rattle.definitions.proofs.FreeSlots.{free_slot, image_slot as named}
use Rattle.definitions.proofs.TableEntries.{with_entries-none, frame-with_entries_other}
use Rattle.definitions.proofs.ZoneLists.{Contains-from_free_frames}
use Rattle.frame_table.proofs.Picks.{Contains-from_take}
use Rattle.swap_slots.specs.Table.{free_in}
use Rattle.swap_slots.specs.declared.table.SlotTable.{SlotTable}
use Rattle.image_write.specs.Writing.{Writing, IsWriting, slots_of_write, taken_after}
use Rattle.plain_machine.specs.Image.{is_map_write}
use Rattle.plain_machine.specs.Machine.{Hardware, Memory, IsHardware, unused, frame_entry, image_slot}
use Rattle.plain_machine.specs.Shows.{seen_frames}
use Rattle.plain_machine.specs.Step.{undone_fault}
use Rattle.plain_machine.specs.declared.reply.Left.TheVariants.{Gone, Unsure}
use Rattle.plain_machine.specs.declared.reply.Reply.{Reply}
use Rattle.plain_machine.specs.declared.reply.UndoCall.{UndoCall}
use Rattle.plain_machine.specs.declared.reply.UndoCall.TheVariants as undo
use Rattle.plain_machine.proofs.SameMemory.{entry-same, of_frame_table}
use Rattle.machine.specs.Running.{AreReserved, slot_table_of}
use Rattle.machine.specs.declared.machine.Machine.{Machine}
use Rattle.snapshot.specs.Taken.{Taken}
use Rattle.snapshot.specs.declared.Counts.{Counts}
use Rattle.hib_core.specs.Begin.{IsTaken}
use Rattle.hib_core.specs.Leaving.{TakesSlots, GivesBack, BeginsImage, Change, stays, takes, gives, Leaves, change_of, change_at_read}
use Rattle.hib_core.specs.Ready.{CanWrite}
use Rattle.hib_core.specs.Writes.{Writes}
use Rattle.hib_core.specs.declared.hib.Hib.{Hib}
use Rattle.hib_core.specs.declared.hib.Stage.{Stage}
use Rattle.hib_core.specs.declared.hib.Ending.{Ending}
use Rattle.hib_core.specs.declared.hib.Saving.{Saving}

-- no slot is taken
pub takes_none : (h : Hardware) (m : Memory) → TakesSlots h m m
takes_none h m = record { slots = []; free = λ s in'. absurd (Contains-nil s in'); taken = sym (with_entries-none m h.slot_table image_slot) }

pub gives_back : (h : Hardware) (old new : Memory) → new ≡ seen_frames h old → GivesBack h old new
gives_back h old new given = record { before = old; takes = takes_none h old; given = given }

-- A write takes the next slots that are free.
next_free : (free : List ℕ) (k s : ℕ) (b : Bool) (n : ℕ) → Contains (cond b [] (take n (drop (taken_after k) free))) s → Contains (drop (taken_after k) free) s
next_free free k s true n in' = absurd (Contains-nil s in')
next_free free k s false n in' = Contains-from_take n (drop (taken_after k) free) s in'

pub takes_next : (h : Hardware) (blocks : ℕ) (frames frames' : Memory) (sets : Taken) (saving : Saving) (w w' : Writing) (R : ℕ × List ℕ → Content → Content → Type 0) (before now : Option Content) → CanWrite h blocks frames sets saving w → Writes R frames frames' sets w w' before now → TakesSlots h frames frames'
takes_next h blocks frames frames' sets saving w w' R before now can writes =
    let free : List ℕ = can.ready.0 in
    let writing : IsWriting free frames w = can.ready.1 in
    let left : free_in frames (slot_table_of h) ≡ drop (taken_after w.written) free = sym (ap (free_in frames) can.table) ∙ writing.slots.left in
    record {
      slots = slots_of_write w.info free w.written;
      free = λ s in'.
          free_slot h.slots h.slot_table frames s
          (subst (λ (xs : List ℕ). Contains xs s) (sym left) (next_free free w.written s (is_map_write w.info.pages w.written) (cond (eqb (w.written % 512) 510) 2 1) in'));
      taken = writes.taken free writing ∙ ap (λ (t : SlotTable). with_entries frames t.first (slots_of_write w.info free w.written) image_slot) can.table;
    }

-- No page frame's entry changes.

-- every valid page frame has the entry that it had
abbrev pub SameEntries : Hardware → Memory → Memory → Type 0
SameEntries h old new = (p : ℕ) → Contains (numbers h.zones) p → frame_entry h new p ≡ frame_entry h old p

entries_of_slots : (h : Hardware) (m : Memory) (slots : List ℕ) (v : ℕ) → IsHardware h → ((s : ℕ) → Contains slots s → s < h.slots) → SameEntries h m (with_entries m h.slot_table slots v)
entries_of_slots h m slots v hw small p in' =
    let at = of_frame_table h p hw in' in
    let from = at.from in
    let below = at.below in
    entry-same m (with_entries m h.slot_table slots v) h.frame_table p
    (frame-with_entries_other m h.slot_table h.slots slots v (h.frame_table + p / 1024) small
    (elim hw.apart [ inl lower ↦ inl (omega arith) | inr upper ↦ inr (omega arith) ]))

entries_taken : (h : Hardware) (old new : Memory) → IsHardware h → TakesSlots h old new → SameEntries h old new
entries_taken h old new hw is p in' = ap (λ (m : Memory). frame_entry h m p) is.taken ∙ entries_of_slots h old is.slots image_slot hw (λ s s_in. (is.free s s_in).0) p in'

pub entries_seen : (h : Hardware) (m : Memory) → IsHardware h → SameEntries h m (seen_frames h m)
entries_seen h m hw = entries_of_slots h m (image_slots h.slots h.slot_table m) 0 hw (λ s in'. (named h.slots h.slot_table m s in').0)

pub entries_given : (h : Hardware) (old new : Memory) → IsHardware h → GivesBack h old new → SameEntries h old new
entries_given h old new hw is p in' = ap (λ (m : Memory). frame_entry h m p) is.given ∙ entries_seen h is.before hw p in' ∙ entries_taken h old is.before hw is.takes p in'

pub entries_left : (h : Hardware) (change : Change) (old new : Memory) → IsHardware h → Leaves change h old new → SameEntries h old new
entries_left h stays old new hw same p in' = ap (λ (m : Memory). frame_entry h m p) same
entries_left h takes old new hw taken p in' = entries_taken h old new hw taken p in'
entries_left h gives old new hw given p in' = entries_given h old new hw given p in'

-- making the copies changes no entry either, since they lie in free page frames
pub entries_copied : (h : Hardware) (old new : Memory) → IsHardware h → AreReserved h old → (begins : BeginsImage h old new) → SameEntries h old begins.copied
entries_copied h old new hw reserved begins p in' =
    entry-same old begins.copied h.frame_table p
    (begins.others (h.frame_table + p / 1024)
    (λ free. (reserved (h.frame_table + p / 1024) (inl (of_frame_table h p hw in'))).1 (Contains-from_free_frames h.zones h.frame_table old (h.frame_table + p / 1024) free).1))

pub entries_begun : (h : Hardware) (old new : Memory) → IsHardware h → AreReserved h old → BeginsImage h old new → SameEntries h old new
entries_begun h old new hw reserved begins p in' = entries_taken h begins.copied new hw begins.takes p in' ∙ entries_copied h old new hw reserved begins p in'

-- What a hibernation's begin leaves.
pub begins_image : (machine : Machine) (frames frames' : Memory) (hib hib' : Hib) (counts : Counts) (last : Ending) → IsTaken machine frames frames' hib hib' counts last → BeginsImage machine.hw frames frames'
begins_image machine frames frames' hib hib' counts last is =
    let copies : hib'.snapshot.copies ≡ take (length hib.snapshot.origs) (unused machine.hw frames) = ap (λ (s : Taken). s.copies) is.snapshot in
    let free = free_in is.copied (slot_table_of machine.hw) in
    record {
      copied = is.copied;
      pages = is.pages;
      size = is.size;
      others = λ p out. is.others p (λ in'. out (Contains-from_take (length hib.snapshot.origs) (unused machine.hw frames) p (subst (λ (xs : List ℕ). Contains xs p) copies in')));
      takes = record {
        slots = take 1 free;
        free = λ s in'. free_slot machine.hw.slots machine.hw.slot_table is.copied s (Contains-from_take 1 free s in');
        taken = is.slots;
      };
    }

-- By the reply.

pub leaves_by : (r r' : Reply) (next : Stage) (h : Hardware) (old new : Memory) → r ≡ r' → Leaves (change_of r' next) h old new → Leaves (change_of r next) h old new
leaves_by r r' next h old new is leaves = subst (λ (x : Reply). Leaves (change_of x next) h old new) (sym is) leaves

pub gone_gives : (call : UndoCall) (next : Stage) (h : Hardware) (old new : Memory) → GivesBack h old new → Leaves (change_of (undone_fault call Gone) next) h old new
gone_gives undo.Write next h old new given = given
gone_gives undo.Sync next h old new given = given

pub unsure_stays : (call : UndoCall) (next : Stage) (h : Hardware) (m : Memory) → Leaves (change_of (undone_fault call Unsure) next) h m m
unsure_stays undo.Write next h m = refl
unsure_stays undo.Sync next h m = refl

-- a read that fails, by the step that it was to be
pub read_fails : (s next : Stage) (h : Hardware) (old new : Memory) → next ≡ s → Leaves (change_at_read s) h old new → Leaves (change_at_read next) h old new
read_fails s next h old new at leaves = subst (λ (x : Stage). Leaves (change_at_read x) h old new) (sym at) leaves
