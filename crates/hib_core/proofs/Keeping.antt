-- Page frames that aren't free stay: what a call of a hibernation or a settling leaves, with the image's slots given back.
use Rattle.std.proofs.Common.{◌≡◌, ◌⊎◌, ◌<◌, ◌≤◌, ◌+◌, ◌/◌, ◌*◌, ◌%◌, ℕ, inl, inr, List, [], ◌∷◌, length, Contains, eqb, sym, ap, ◌∙◌, subst, arith, set}
use Rattle.std.specs.List.{range_with_len}
use Rattle.std.proofs.lemmas.Bool.{cases_lt}
use Rattle.definitions.specs.Bytes.{with_number}
use Rattle.definitions.specs.Tables.{image_slots}
use Rattle.definitions.specs.Tables.{frame, entry_at, with_entry, with_entries}
use Rattle.definitions.specs.Zones.{top}
use Rattle.definitions.proofs.Ascending.{Contains-head, Contains-tail}
use Rattle.definitions.proofs.FreeSlots.{image_slot as named}
use Rattle.definitions.proofs.TableEntries.{length-with_entry}
use Rattle.definitions.proofs.ZoneLists.{Contains-from_free_frames}
use Rattle.definitions.proofs.ZoneNumbers.{range-bounds}
use Rattle.plain_machine.specs.Machine.{Hardware, Memory, IsHardware, IsSameMemory, IsOfTable, table_len}
use Rattle.plain_machine.specs.Shows.{seen_frames}
use Rattle.plain_machine.proofs.SameMemory.{filter_agree_within, entry-same, of_slot_table, frame-set_both, same_by, same_refl}
use Rattle.plain_machine.proofs.Seen.{frame-seen}
use Rattle.protocol_laws.specs.Slots.{IsMemoryOf}
use Rattle.protocol_laws.proofs.Taking.{is_memory-taken, seen_taken, seen_seen}
use Rattle.machine.specs.Running.{AreReserved}
use Rattle.hib_core.specs.Leaving.{KeepsUsed, TakesSlots, GivesBack, BeginsImage, Change, stays, takes, gives, Leaves, LeavesAtBegin}
use Rattle.hib_core.specs.declared.hib.Job.{Job}
use Rattle.hib_core.specs.declared.hib.Job.TheVariants as job
use Rattle.hib_core.proofs.BeginTables.{slot_table_lies}
use Rattle.hib_core.proofs.Leaving.{entries_seen, entries_copied}

-- Two memories with the same slot table are seen with the same one.

-- the slot tables have the same pages
abbrev SameSlots : Hardware → Memory → Memory → Type 0
SameSlots h m n = (f : ℕ) → IsOfTable h.slot_table h.slots f → frame n f ≡ frame m f

entry_in_both : (h : Hardware) (m n : Memory) (k v : ℕ) → length n ≡ length m → h.slot_table + table_len h.slots ≤ length m → k < h.slots → SameSlots h m n → SameSlots h (with_entry m h.slot_table k v) (with_entry n h.slot_table k v)
unfolding with_entry
entry_in_both h m n k v size room lt same f of =
    let q = h.slot_table + k / 1024 in
    let page = ap (λ (old : List ℕ). with_number 4 old (4 * (k % 1024)) v) (same q (of_slot_table h k lt)) in
    ap (λ (x : List ℕ). frame (set n q x) f) page ∙ frame-set_both m n q f (with_number 4 (frame m q) (4 * (k % 1024)) v) size (omega arith) (inr (same f of))

entries_in_both : (h : Hardware) (m n : Memory) (ks : List ℕ) (v : ℕ) → length n ≡ length m → h.slot_table + table_len h.slots ≤ length m → ((k : ℕ) → Contains ks k → k < h.slots) → SameSlots h m n → SameSlots h (with_entries m h.slot_table ks v) (with_entries n h.slot_table ks v)
unfolding with_entries
entries_in_both h m n [] v size room small same = same
entries_in_both h m n (k ∷ ks) v size room small same =
    let long = length-with_entry m h.slot_table k v in
    let long' = length-with_entry n h.slot_table k v in
    entries_in_both h (with_entry m h.slot_table k v) (with_entry n h.slot_table k v) ks v (long' ∙ size ∙ sym long) (omega arith)
    (λ j in'. small j (Contains-tail k ks j in')) (entry_in_both h m n k v size room (small k (Contains-head k ks)) same)

image_slots-same : (h : Hardware) (m n : Memory) → SameSlots h m n → image_slots h.slots h.slot_table n ≡ image_slots h.slots h.slot_table m
unfolding image_slots
image_slots-same h m n same =
    filter_agree_within (λ s. eqb (entry_at n h.slot_table s) 65536) (λ s. eqb (entry_at m h.slot_table s) 65536) (range_with_len 0 h.slots)
    (λ s in'.
    let bounds = range-bounds 0 h.slots s in' in
    let below = bounds.1 in
    let lt : s < h.slots = omega arith in
    ap (λ (e : ℕ). eqb e 65536) (entry-same m n h.slot_table s (same (h.slot_table + s / 1024) (of_slot_table h s lt))))

seen_in_both : (h : Hardware) (m n : Memory) → length n ≡ length m → h.slot_table + table_len h.slots ≤ length m → SameSlots h m n → SameSlots h (seen_frames h m) (seen_frames h n)
seen_in_both h m n size room same f of =
    ap (λ (ks : List ℕ). frame (with_entries n h.slot_table ks 0) f) (image_slots-same h m n same)
    ∙ entries_in_both h m n (image_slots h.slots h.slot_table m) 0 size room (λ k in'. (named h.slots h.slot_table m k in').0) same f of

-- Where slots are taken or given back.

seen_takes : (h : Hardware) (old new : Memory) → IsMemoryOf h old → TakesSlots h old new → seen_frames h new ≡ seen_frames h old
seen_takes h old new is taking = ap (seen_frames h) taking.taken ∙ seen_taken h old taking.slots is taking.free

after_takes : (h : Hardware) (old new : Memory) → IsMemoryOf h old → TakesSlots h old new → IsMemoryOf h new
after_takes h old new is taking = subst (IsMemoryOf h) (sym taking.taken) (is_memory-taken h old taking.slots is)

seen_gives : (h : Hardware) (old new : Memory) → IsMemoryOf h old → GivesBack h old new → seen_frames h new ≡ seen_frames h old
seen_gives h old new is giving =
    ap (seen_frames h) giving.given ∙ seen_seen h giving.before (after_takes h old giving.before is giving.takes) ∙ seen_takes h old giving.before is giving.takes

same_memory : (h : Hardware) (m n : Memory) → n ≡ m → IsSameMemory h m n
same_memory h m n e = subst (IsSameMemory h m) (sym e) (same_refl h m)

-- What a step leaves.
pub step_keeps : (h : Hardware) (change : Change) (old new : Memory) → IsMemoryOf h old → Leaves change h old new → KeepsUsed h old new
step_keeps h stays old new is same = same_memory h (seen_frames h old) (seen_frames h new) (ap (seen_frames h) same)
step_keeps h takes old new is taken = same_memory h (seen_frames h old) (seen_frames h new) (seen_takes h old new is taken)
step_keeps h gives old new is given = same_memory h (seen_frames h old) (seen_frames h new) (seen_gives h old new is given)

-- Where the image's slots are given back none is left.
pub given_back : (h : Hardware) (change : Change) (old new : Memory) → IsMemoryOf h old → Leaves change h old new → change ≡ gives → seen_frames h new ≡ new
given_back h change old new is left e =
    let back : GivesBack h old new = subst (λ (x : Change). Leaves x h old new) e left in
    ap (seen_frames h) back.given ∙ seen_seen h back.before (after_takes h old back.before is back.takes) ∙ sym back.given

-- If the image's slots stay, all of memory does.
pub stayed : (h : Hardware) (change : Change) (old new : Memory) → Leaves change h old new → change ≡ stays → new ≡ old
stayed h change old new left e = subst (λ (x : Change). Leaves x h old new) e left

-- What a begin leaves: the copies lie in free page frames.
pub begin_keeps : (h : Hardware) (old new : Memory) → IsHardware h → length old ≡ top h.zones → AreReserved h old → BeginsImage h old new → KeepsUsed h old new
begin_keeps h old new hw size reserved begins =
    let copied = begins.copied in
    let room : h.slot_table + table_len h.slots ≤ length old = slot_table_lies h old hw size in
    let memory : IsMemoryOf h copied = record { pages = begins.pages; table = slot_table_lies h copied hw (begins.size ∙ size) } in
    let slots : SameSlots h old copied = λ f of.
    begins.others f (λ free. (reserved f (inr of)).1 (Contains-from_free_frames h.zones h.frame_table old f free).1) in
    subst (IsSameMemory h (seen_frames h old)) (sym (seen_takes h copied new memory begins.takes))
    (same_by h (seen_frames h old) (seen_frames h copied)
    (λ p in'. entries_seen h copied hw p in' ∙ entries_copied h old new hw reserved begins p in' ∙ sym (entries_seen h old hw p in'))
    (λ p in' used. elim (of_or_not h p) [
      | inl of ↦ seen_in_both h old copied begins.size room slots p of
      | inr out ↦
          frame-seen h copied p out
          ∙ begins.others p (λ free. used (entries_seen h old hw p in' ∙ (Contains-from_free_frames h.zones h.frame_table old p free).1))
          ∙ sym (frame-seen h old p out)
    ])) where
      of_or_not : (h : Hardware) (p : ℕ) → IsOfTable h.slot_table h.slots p ⊎ (IsOfTable h.slot_table h.slots p → ⊥)
      of_or_not h p = elim (cases_lt p h.slot_table) [
        | inl lt ↦ inr (λ of. let from = of.from in let r : ⊥ = omega arith in r)
        | inr le ↦ elim (cases_lt p (h.slot_table + table_len h.slots)) [
          | inl lt ↦ inl (record { from = le; below = lt })
          | inr past ↦ inr (λ of. let below = of.below in let r : ⊥ = omega arith in r)
        ]
      ]

pub unchanged_keeps : (h : Hardware) (m : Memory) → KeepsUsed h m m
unchanged_keeps h m = same_refl h (seen_frames h m)

pub at_begin_keeps : (h : Hardware) (begun : Job) (old new : Memory) → IsHardware h → length old ≡ top h.zones → AreReserved h old → LeavesAtBegin begun h old new ⊎ (new ≡ old) → KeepsUsed h old new
at_begin_keeps h begun old new hw size reserved (inr same) = same_memory h (seen_frames h old) (seen_frames h new) (ap (seen_frames h) same)
at_begin_keeps h (job.Hibernate format) old new hw size reserved (inl begins) = begin_keeps h old new hw size reserved begins
at_begin_keeps h (job.Suspend format) old new hw size reserved (inl begins) = begin_keeps h old new hw size reserved begins
at_begin_keeps h job.Settle old new hw size reserved (inl same) = same_memory h (seen_frames h old) (seen_frames h new) (ap (seen_frames h) same)
