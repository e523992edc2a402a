-- What a finish makes of the disk that a session wrote to.
use Rattle.std.proofs.Common.{◌≡◌, ℕ, ◌+◌, ◌*◌, ◌/◌, ◌<◌, ◌≤◌, Bool, true, false, cond, eqb, leb, List, length, get_or, Option, Some, None, IfSome, refl, sym, ap, ◌∙◌, subst, inl, inr, arith}
use Rattle.std.proofs.lemmas.Bool.{and_parts, leb-true, cond-true, eq-eqb}
use Rattle.std.proofs.lemmas.List.Elements.{Contains-get_or}
use Rattle.definitions.specs.Disk as disk
use Rattle.definitions.specs.SwapHeader.{IsMarked, marked, taken_back}
use Rattle.definitions.proofs.DiskLaws.{IsImage-settled, IsImage-as_it_reads, length-as_it_reads}
use Rattle.definitions.proofs.Marks.{taken_back-marked}
use Rattle.image_format.specs.declared.signature.area.Area.{Area}
use Rattle.plain_machine.specs.Image.{maps_of}
use Rattle.plain_machine.specs.Image.{laid_block, laid_write, page_of_write}
use Rattle.stream_in.specs.declared.slots.SlotMemory.{SlotMemory}
use Rattle.image_write.specs.Writing.{Writing, BlocksBelow}
use Rattle.image_write.proofs.Done.{place_of, block_of_write, place_below}
use Rattle.protocol_laws.proofs.Areas.{last_of_swap}
use Rattle.protocol_laws.proofs.Marking.{length-block}
use Rattle.stream_in.specs.Grammar.{all_pages, is_whole, short_fault, fault}
use Rattle.stream_in.specs.declared.checking.fault.Kind.TheVariants.{Short}
use Rattle.stream_in.specs.declared.checking.fault.StreamFault.{StreamFault}
use Rattle.stream_in.proofs.Steps.{sound_from}
use Rattle.stream_in.specs.declared.session.StreamIn.{StreamIn}
use Rattle.stream_in.specs.Holding.{first_blocks, HasComeIn, IsReadyFor, ComesIn}
use Rattle.stream_in.specs.Marked.{Marks}
use Rattle.stream_in.specs.Moments.{ElapsesOverMark, IsTried, TriesMark, MarksWhole, LeavesWhole}
use Rattle.stream_in.specs.Session.{IsOutput, TakesInto}
use Rattle.stream_in.specs.Holding.{page_at, AreOfMap, ReadAsMade, writes_after}
use Rattle.stream_in.proofs.Contents.{changes_from}
use Rattle.stream_in.proofs.Undoing.{unmarked}
use Rattle.stream_in.proofs.Holding.{IsWholeFor, not_zero, has_come_in}

no_short : (b : Bool) (x : StreamFault) → cond b None (Some x) ≡ None → b ≡ true
no_short true x e = refl
no_short false x e = cc

-- once the info page is whole, enough slots are free
pub has_room : (free bs : List ℕ) (memory : SlotMemory) (extents : List (ℕ × ℕ × ℕ)) (w : Option Writing) → IsOutput free bs memory extents w → 4096 ≤ length bs → all_pages bs + 1026 ≤ length free
has_room free bs memory extents None out late = let early = out.early in absurd (omega arith)
has_room free bs memory extents (Some w) out late = out.room

-- the writer's first block
pub first_block_of : (free bs : List ℕ) (memory : SlotMemory) (extents : List (ℕ × ℕ × ℕ)) (o : Option Writing) (first : ℕ) → IsOutput free bs memory extents o → short_fault bs ≡ None →
    ((w : Writing) → o ≡ Some w → first ≡ w.first) → first ≡ laid_block extents free 0
first_block_of free bs memory extents None first out whole is =
    let parts = and_parts (leb 4096 (length bs)) (leb (4096 * all_pages bs) (length bs)) (no_short (is_whole bs) (fault Short (length bs)) whole) in
    let late = leb-true 4096 (length bs) parts.0 in
    let early = out.early in
    absurd (omega arith)
first_block_of free bs memory extents (Some w) first out whole is = is w refl ∙ out.first

pub whole_for : (area : Area) (free bs : List ℕ) (s : StreamIn) → TakesInto area free bs s → short_fault bs ≡ None → IsWholeFor area free bs s.blocks
whole_for area free bs s into whole =
    let fed = into.fed in
    let parts = and_parts (leb 4096 (length bs)) (leb (4096 * all_pages bs) (length bs)) (no_short (is_whole bs) (fault Short (length bs)) whole) in
    let late = leb-true 4096 (length bs) parts.0 in
    let all = leb-true (4096 * all_pages bs) (length bs) parts.1 in
    let sound = sound_from bs late fed.taken.read.sound in
    let within = sound.within in
    let counts = sound.are.all in
    let few = sound.are.few in
    record {
      size = omega arith;
      some = omega arith;
      few = omega arith;
      room = has_room free bs s.memory s.map s.writer fed.output late;
      on_disk = subst (λ (x : List (ℕ × ℕ × ℕ)). BlocksBelow x free (length free) s.blocks) into.map_is fed.on_disk;
      count = fed.count;
      of_map = subst (λ (x : List (ℕ × ℕ × ℕ)). AreOfMap x free) into.map_is into.of_map;
      usable = into.usable;
    }

-- the writes are of blocks after the header's
block_some : (area : Area) (free bs : List ℕ) (blocks k : ℕ) (page : List ℕ) → IsWholeFor area free bs blocks → k < all_pages bs + maps_of (all_pages bs) → 0 < (laid_write (first_blocks area) free (all_pages bs) page k).0
block_some area free bs blocks k page stream lt =
    let n = all_pages bs in
    let place = place_of n k in
    let below = place_below n k lt in
    let room = stream.room in
    let few = stream.few in
    let within : place < length free = omega arith in
    let at = block_of_write (first_blocks area) free n k page in
    let some = not_zero area (get_or free place 0) (stream.usable.each (get_or free place 0) (Contains-get_or free place 0 within)).1 in
    omega arith

-- an image that reads as the disk did, but for the header block
pub record DiffersInHeader (u v : disk.DiskImage) : Type 0 where
  pub size : length v ≡ length u
  pub others : (b : ℕ) → 0 < b → disk.block v b ≡ disk.block u b

all_read : (area : Area) (free bs : List ℕ) (blocks : ℕ) (u v : disk.DiskImage) → IsWholeFor area free bs blocks → IsReadyFor area free bs u → DiffersInHeader u v → ReadAsMade (first_blocks area) free (all_pages bs) (page_at bs) (all_pages bs + maps_of (all_pages bs)) v
all_read area free bs blocks u v stream ready over k lt =
    let n = all_pages bs in
    let size = stream.size in
    let some = stream.some in
    let count : length bs / 4096 ≡ n = omega arith in
    let all : writes_after n (length bs / 4096) ≡ n + maps_of n = ap (writes_after n) count ∙ cond-true (eqb n n) (n + maps_of n) (n + n / 511) (eq-eqb n n refl) in
    let page = page_at bs (page_of_write k) in
    over.others (laid_write (first_blocks area) free n page k).0 (block_some area free bs blocks k page stream lt) ∙ ready.written (omega arith) k (subst (λ (m : ℕ). k < m) (sym all) lt)

-- if that image is marked, the stream has come in
pub come_in : (area : Area) (free bs : List ℕ) (blocks : ℕ) (x : disk.Content) (v : disk.DiskImage) → IsWholeFor area free bs blocks → disk.IsContent blocks x → IsReadyFor area free bs (disk.as_it_reads x) → DiffersInHeader (disk.as_it_reads x) v →
    disk.block v 0 ≡ marked (disk.block (disk.as_it_reads x) 0) (laid_block (first_blocks area) free 0) 2 0 → HasComeIn area bs v
come_in area free bs blocks x v stream is ready over header =
    let u = disk.as_it_reads x in
    let page = disk.block u 0 in
    let room = stream.room in
    let some : 0 < blocks = (let below = stream.on_disk 0 (omega arith) in omega arith) in
    has_come_in area free bs page blocks v stream (record {
      size = over.size ∙ length-as_it_reads x ∙ is.size;
      some = some;
      whole = length-block blocks x u 0 is (IsImage-as_it_reads blocks x is) some;
      last = last_of_swap page area ready.header;
      header = header;
      written = all_read area free bs blocks u v stream ready over;
    })

comes_in : (area : Area) (free bs : List ℕ) (s : StreamIn) (x y : disk.Content) → TakesInto area free bs s → short_fault bs ≡ None → disk.IsContent s.blocks x → Marks (laid_block s.map free 0) x y → ComesIn area free bs x y
comes_in area free bs s x y into whole is marks ready v in' =
    let stream = whole_for area free bs s into whole in
    let w = disk.as_it_reads y in
    let has = marks.marked in
    let one : v ≡ w = IsImage-settled w v (subst (λ (c : disk.Content). disk.IsImage c v) has.one_image in') in
    let first : laid_block s.map free 0 ≡ laid_block (first_blocks area) free 0 = ap (λ m. laid_block m free 0) into.map_is in
    let over : DiffersInHeader (disk.as_it_reads x) w = record { size = length-as_it_reads y ∙ has.size ∙ sym (length-as_it_reads x); others = has.others } in
    subst (λ (z : disk.DiskImage). HasComeIn area bs z) (sym one)
    (come_in area free bs s.blocks x w stream is ready over (has.header ∙ ap (λ f. marked (disk.block (disk.as_it_reads x) 0) f 2 0) first))

pub told_comes_in : (area : Area) (free bs : List ℕ) (s : StreamIn) (blocks : ℕ) (a b : Option disk.Content) → TakesInto area free bs s → short_fault bs ≡ None → blocks ≡ s.blocks → IfSome a (disk.IsContent blocks) →
    disk.Changes (Marks (laid_block s.map free 0)) a b → disk.Changes (ComesIn area free bs) a b
told_comes_in area free bs s blocks a b into whole count is marks =
    changes_from (disk.IsContent s.blocks) (Marks (laid_block s.map free 0)) (ComesIn area free bs) a b (λ x y c m. comes_in area free bs s x y into whole c m)
    (subst (λ (n : ℕ). IfSome a (disk.IsContent n)) count is) marks

-- A power cut in the midst of a finish.

-- an image that a cut might leave, and not before, has the whole stream if it is marked
tried_whole : (area : Area) (free bs : List ℕ) (blocks first : ℕ) (x : disk.Content) (v : disk.DiskImage) → IsWholeFor area free bs blocks → disk.IsContent blocks x → IsReadyFor area free bs (disk.as_it_reads x) → first ≡ laid_block (first_blocks area) free 0 →
    IsTried (marked (disk.block (disk.as_it_reads x) 0) first 2 0) (disk.as_it_reads x) v → IsMarked (disk.block v 0) → HasComeIn area bs v
tried_whole area free bs blocks first x v stream is ready first_is tried is_marked =
    let u = disk.as_it_reads x in
    let page = disk.block u 0 in
    let room = stream.room in
    let some : 0 < blocks = (let below = stream.on_disk 0 (omega arith) in omega arith) in
    let whole = length-block blocks x u 0 is (IsImage-as_it_reads blocks x is) some in
    elim tried.header [
      | inl with_mark ↦ come_in area free bs blocks x v stream is ready (record { size = tried.size; others = tried.others }) (with_mark ∙ ap (λ f. marked page f 2 0) first_is)
      | inr back ↦ absurd (unmarked page (taken_back (marked page first 2 0)) tried.area (taken_back-marked page first 2 0 whole) (subst IsMarked back is_marked))
    ]

pub told_whole : (area : Area) (free bs : List ℕ) (s : StreamIn) (blocks m n : ℕ) (past since : ℕ → disk.DiskImage → Type 0) (a : Option disk.Content) → TakesInto area free bs s → short_fault bs ≡ None → blocks ≡ s.blocks →
    IfSome a (disk.IsContent blocks) → IfSome a (λ held. ElapsesOverMark (laid_block s.map free 0) m n past since held) → IfSome a (MarksWhole area free bs m past since)
told_whole area free bs s blocks m n past since None into whole count is elapses = tt
told_whole area free bs s blocks m n past since (Some x) into whole count is elapses = λ ready t v le left is_marked.
    let stream = whole_for area free bs s into whole in
    elim (elapses.nothing_else t v le left) [
      | inl before ↦ inl before
      | inr tried ↦ inr (tried_whole area free bs s.blocks (laid_block s.map free 0) x v stream (subst (λ (k : ℕ). disk.IsContent k x) count is) ready (ap (λ m. laid_block m free 0) into.map_is) tried is_marked)
    ]

-- where no call was made
pub none_whole : (area : Area) (free bs : List ℕ) (m : ℕ) (past : ℕ → disk.DiskImage → Type 0) (a : Option disk.Content) → IfSome a (MarksWhole area free bs m past past)
none_whole area free bs m past None = tt
none_whole area free bs m past (Some x) = λ ready t v le left is_marked. inl left

-- What the mark's write and sync leave, successful or not.

leaves_whole : (area : Area) (free bs : List ℕ) (s : StreamIn) (x y : disk.Content) → TakesInto area free bs s → short_fault bs ≡ None → disk.IsContent s.blocks x → TriesMark (laid_block s.map free 0) x y → LeavesWhole area free bs x y
leaves_whole area free bs s x y into whole is tries ready v in' is_marked =
    let stream = whole_for area free bs s into whole in
    elim (tries v in') [
      | inl before ↦ inl before
      | inr tried ↦ inr (tried_whole area free bs s.blocks (laid_block s.map free 0) x v stream is ready (ap (λ m. laid_block m free 0) into.map_is) tried is_marked)
    ]

pub told_leaves_whole : (area : Area) (free bs : List ℕ) (s : StreamIn) (blocks : ℕ) (a b : Option disk.Content) → TakesInto area free bs s → short_fault bs ≡ None → blocks ≡ s.blocks → IfSome a (disk.IsContent blocks) →
    IfSome a (λ held. IfSome b (TriesMark (laid_block s.map free 0) held)) → IfSome a (λ held. IfSome b (LeavesWhole area free bs held))
told_leaves_whole area free bs s blocks None b into whole count is tries = tt
told_leaves_whole area free bs s blocks (Some x) None into whole count is tries = tt
told_leaves_whole area free bs s blocks (Some x) (Some y) into whole count is tries = leaves_whole area free bs s x y into whole (subst (λ (k : ℕ). disk.IsContent k x) count is) tries

pub none_leaves_whole : (area : Area) (free bs : List ℕ) (a : Option disk.Content) → IfSome a (λ held. IfSome a (LeavesWhole area free bs held))
none_leaves_whole area free bs None = tt
none_leaves_whole area free bs (Some x) = λ ready v in' is_marked. inl in'
