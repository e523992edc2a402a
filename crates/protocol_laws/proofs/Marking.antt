-- The write of the mark.
use Rattle.std.proofs.Common.{◌≡◌, ◌≢◌, ◌↔◌, ℕ, ◌+◌, ◌*◌, ◌<◌, ◌≤◌, ◌^◌, ◌⊎◌, inl, inr, Bool, true, false, cond, eqb, ltb, bit_and, bit_or, List, [], length, get_or, take, drop, Some, All, refl, sym, ap, ap₂, ◌∙◌, subst, arith, nat_eq}
use Rattle.std.specs.Cmp.Lexicographic.{pointwise, same_text, other_text}
use Rattle.std.proofs.lemmas.Bool.{cases_Bool, eqb-true, false_from_ne_true, cond-true, cond-false, lt-ltb, false≢true}
use Rattle.std.proofs.lemmas.List.{get_or_default, get_or-take, get_or-drop, length-take-le, length-drop}
use Rattle.std.proofs.lemmas.List.Elements.{All-take}
use Rattle.page_core.specs.declared.format.Format.{Format}
use Rattle.page_core.specs.declared.format.Format.TheVariants.{Plain, SkipZeros}
use Rattle.definitions.specs.Bytes.{IsPage, AgreeBut, zero_page}
use Rattle.definitions.specs.Disk as disk
use Rattle.definitions.specs.Disk.{block}
use Rattle.definitions.specs.SwapHeader.{IsMarked, image_signature, sig_of, image_of, flags_of, hw_sig_of, last_page_of, marked, marked_flags, taken_back}
use Rattle.definitions.proofs.DiskLaws.{IsImage-as_it_reads}
use Rattle.definitions.proofs.Marks.{length-marked, taken_back-marked}
use Rattle.image_format.specs.AreaKind.{area_kind}
use Rattle.plain_machine.specs.Machine.{Hardware, block_of_slot, slot_entry, unused_slots}
use Rattle.plain_machine.specs.Chain.{header_of, blocks_of, Holds, chain, map_block, entry_block}
use Rattle.plain_machine.specs.Image.{Image, stream_of, maps_of, hibernate_steps}
use Rattle.plain_machine.specs.Image.{laid_entries, map_place, page_place}
use Rattle.plain_machine.specs.Shows.{WorldView}
use Rattle.plain_machine.specs.Mark.{mark_flags, HasMark}
use Rattle.plain_machine.proofs.BadSlots.{fits_area}
use Rattle.plain_machine.specs.Stands.{Stands, Reads, laid_writes, first_map_block}
use Rattle.plain_machine.specs.State.{hibernating, Running}
use Rattle.plain_machine.specs.UsableArea.{area_block}
use Rattle.plain_machine.proofs.LaidChain.{ReadsLaid, AreUsable, IsLaid, map_block-laid, entry_block-laid, chain-laid, blocks-laid}
use Rattle.image_laws.specs.ImageBlocks.{Tries}
use Rattle.image_laws.proofs.ImageBlocks.{marked_within, long}
use Rattle.image_laws.proofs.Images.{SameBut, torn_image}
use Rattle.image_write.proofs.Done.{write_at}
use Rattle.image_write.proofs.Heads.{length-concat}
use Rattle.protocol_laws.specs.Steps.{IsOverDisk, marked_header}
use Rattle.protocol_laws.proofs.Places.{IsUsable, usable_area, free_place, free_not_0, free_not_header, free_not_used, task_not_header}
use Rattle.protocol_laws.proofs.Laid.{count_of, length-stream_of, slot_of_write, done_of_take}
use Rattle.protocol_laws.proofs.Areas.{last_of_swap}
use Rattle.protocol_laws.proofs.MarkFields.{marked-is_marked, image_of-marked, flags_of-marked, hw_sig_of-marked, last_page_of-marked}
use Rattle.plain_machine.proofs.Calls.{synced_from}
use Rattle.protocol_laws.proofs.Back.{unheld, before_mark}

-- The flags of a mark.

pub record AreFlags (f : Format) (flags : ℕ) : Type 0 where
  pub fit : flags < 2 ^ 32
  pub uncompressed : bit_and flags 2 ≢ 0
  pub format : (bit_and flags 256 ≢ 0) ↔ (f ≡ SkipZeros)

abbrev is_zeros_format : Format → Bool
is_zeros_format Plain = false
is_zeros_format SkipZeros = true

flags_by : (f : Format) (b : Bool) → AreFlags f (cond b (mark_flags f) (bit_or (mark_flags f) 8))
flags_by Plain true = record { fit = omega arith; uncompressed = λ e. omega arith; format = (λ ne. absurd (ne refl), λ e. absurd (false≢true (ap is_zeros_format e))) }
flags_by Plain false = record { fit = omega arith; uncompressed = λ e. omega arith; format = (λ ne. absurd (ne refl), λ e. absurd (false≢true (ap is_zeros_format e))) }
flags_by SkipZeros true = record { fit = omega arith; uncompressed = λ e. omega arith; format = (λ ne. refl, λ e z. omega arith) }
flags_by SkipZeros false = record { fit = omega arith; uncompressed = λ e. omega arith; format = (λ ne. refl, λ e z. omega arith) }

pub are_flags : (f : Format) (hw : ℕ) → AreFlags f (marked_flags (mark_flags f) hw)
are_flags f hw = flags_by f (eqb hw 0)

no_signature : (f : Format) → bit_and (mark_flags f) 8 ≡ 0
no_signature Plain = refl
no_signature SkipZeros = refl

unsigned : (f : Format) (hw : ℕ) → eqb hw 0 ≡ true → bit_and (marked_flags (mark_flags f) hw) 8 ≡ 0
unsigned f hw e = ap (λ (b : Bool). bit_and (cond b (mark_flags f) (bit_or (mark_flags f) 8)) 8) e ∙ no_signature f

-- Before the mark.

pub record IsReady (h : Hardware) (shown : WorldView) (c : disk.Content) (blocks : ℕ) (suspends : Bool) (i : Image) (a : Running) (k : ℕ) : Type 0 where
  pub over : IsOverDisk h i blocks c
  pub stands : Stands h shown c (hibernating suspends i a k)
  pub last : k + 2 ≡ hibernate_steps i

-- what the disk reads
abbrev now : disk.Content → disk.DiskImage
now c = disk.as_it_reads c

blocks_now : (blocks : ℕ) (c : disk.Content) (v : disk.DiskImage) → disk.IsContent blocks c → length v ≡ length c → blocks_of v ≡ blocks
blocks_now blocks c v whole size = let all = whole.size in omega arith

pub image_blocks : (blocks : ℕ) (c : disk.Content) (v : disk.DiskImage) → disk.IsContent blocks c → disk.IsImage c v → blocks_of v ≡ blocks
image_blocks blocks c v whole is = blocks_now blocks c v whole is.size

-- block(0) is one that the disk has
is_usable : (h : Hardware) (shown : WorldView) (c : disk.Content) (suspends : Bool) (i : Image) (a : Running) (k : ℕ) → Stands h shown c (hibernating suspends i a k) → IsUsable h (blocks_of (now c)) (area_block h (now c))
is_usable h shown c suspends i a k stands = usable_area h (now c) (fits_area h c a stands.parts.behind.area stands.parts.accepted.usable).area

pub header_on_disk : (h : Hardware) (shown : WorldView) (c : disk.Content) (blocks : ℕ) (suspends : Bool) (i : Image) (a : Running) (k : ℕ) → IsOverDisk h i blocks c → Stands h shown c (hibernating suspends i a k) → block_of_slot h 0 < blocks
header_on_disk h shown c blocks suspends i a k over stands =
    let some = over.hardware.some_slots in
    let on = (is_usable h shown c suspends i a k stands).on_disk 0 (omega arith) in
    let is = image_blocks blocks c (now c) over.content (IsImage-as_it_reads blocks c over.content) in
    omega arith

pub header_is : (h : Hardware) (v : disk.DiskImage) → block_of_slot h 0 < blocks_of v → header_of h v ≡ disk.block v (block_of_slot h 0)
header_is h v lt = cond-true (ltb (block_of_slot h 0) (blocks_of v)) (disk.block v (block_of_slot h 0)) zero_page (lt-ltb (block_of_slot h 0) (blocks_of v) lt)

-- a block has 4096 bytes
pub length-block : (blocks : ℕ) (c : disk.Content) (v : disk.DiskImage) (b : ℕ) → disk.IsContent blocks c → disk.IsImage c v → b < blocks → IsPage (disk.block v b)
unfolding block
length-block blocks c v b whole is lt =
    let all = whole.size in
    let size = is.size in
    let part = take 8 (drop (8 * b) v) in
    let eight : length part ≡ 8 = length-take-le 8 (drop (8 * b) v) (omega (arith, length-drop (8 * b) v)) in
    let each : All (λ xs. length xs ≡ 512) part = λ j d j_lt.
    (let few : j < 8 = omega arith in
    ap length (get_or_default part j d [] j_lt ∙ get_or-take 8 (drop (8 * b) v) j [] few ∙ get_or-drop (8 * b) v j []) ∙ long blocks c v (8 * b + j) whole is (omega arith)) in
    length-concat 512 part each ∙ ap (λ (n : ℕ). 512 * n) eight

-- The header that the world keeps is unmarked, and every image's.

pub record IsKept (h : Hardware) (c : disk.Content) (header : List ℕ) : Type 0 where
  pub is : header ≡ header_of h (now c)
  pub page : IsPage header
  pub block : disk.block (now c) (block_of_slot h 0) ≡ header
  pub unmarked : IsMarked header → ⊥

pub is_kept : (h : Hardware) (shown : WorldView) (c : disk.Content) (blocks : ℕ) (suspends : Bool) (i : Image) (a : Running) (k : ℕ) → IsReady h shown c blocks suspends i a k → IsKept h c shown.header
is_kept h shown c blocks suspends i a k ready =
    let stands = ready.stands in
    let last = ready.last in
    let whole = ready.over.content in
    let here = IsImage-as_it_reads blocks c whole in
    let is : shown.header ≡ header_of h (now c) = (before_mark h shown c suspends i a k last stands).header in
    let lt = header_on_disk h shown c blocks suspends i a k ready.over stands in
    let at = header_is h (now c) (let n = image_blocks blocks c (now c) whole here in omega arith) in
    record {
      is = is;
      page = subst IsPage (sym (is ∙ at)) (length-block blocks c (now c) (block_of_slot h 0) whole here lt);
      block = sym (is ∙ at);
      unmarked = λ m. unheld h shown c suspends i a k (omega arith) stands (now c) here (subst IsMarked is m);
    }

false_of : (b : Bool) → (b ≡ true → ⊥) → b ≡ false
false_of true never = absurd (never refl)
false_of false never = refl

-- a block, taken back where it is marked
abbrev pub area_of : List ℕ → List ℕ
area_of page = cond (pointwise nat_eq (sig_of page) image_signature) (taken_back page) page

pub area_of-unmarked : (page : List ℕ) → (IsMarked page → ⊥) → area_of page ≡ page
area_of-unmarked page unmarked =
    cond-false (pointwise nat_eq (sig_of page) image_signature) (taken_back page) page
    (false_of (pointwise nat_eq (sig_of page) image_signature) (λ e. unmarked (same_text (sig_of page) image_signature (sym e))))

true_of : (b : Bool) → (b ≡ false → ⊥) → b ≡ true
true_of true never = refl
true_of false never = absurd (never refl)

pub area_of-marked : (page : List ℕ) → IsMarked page → area_of page ≡ taken_back page
area_of-marked page marked =
    cond-true (pointwise nat_eq (sig_of page) image_signature) (taken_back page) page
    (true_of (pointwise nat_eq (sig_of page) image_signature) (λ e. other_text (sig_of page) image_signature (sym e) marked))

pub area_block-unmarked : (h : Hardware) (v : disk.DiskImage) → (IsMarked (header_of h v) → ⊥) → area_block h v ≡ header_of h v
area_block-unmarked h v unmarked = area_of-unmarked (header_of h v) unmarked

pub area_block-marked : (h : Hardware) (v : disk.DiskImage) → IsMarked (header_of h v) → area_block h v ≡ taken_back (header_of h v)
area_block-marked h v marked = area_of-marked (header_of h v) marked

-- The marked page.

abbrev first_block : Hardware → Running → ℕ
first_block h a = first_map_block h a

first_fits : (h : Hardware) (shown : WorldView) (c : disk.Content) (blocks : ℕ) (suspends : Bool) (i : Image) (a : Running) (k : ℕ) → IsOverDisk h i blocks c → Stands h shown c (hibernating suspends i a k) → first_block h a < 2 ^ 64
first_fits h shown c blocks suspends i a k over stands =
    let free = free_place h a.memory 0 (let room = stands.parts.accepted.room in omega arith) in
    let on = (is_usable h shown c suspends i a k stands).on_disk (get_or (unused_slots h a.memory) 0 0) free.within in
    let n = image_blocks blocks c (now c) over.content (IsImage-as_it_reads blocks c over.content) in
    let few = over.few in
    omega arith

-- What its mark says, over a page.
pub record IsMarkOf (h : Hardware) (a : Running) (i : Image) (header page : List ℕ) : Type 0 where
  pub whole : IsPage page
  pub is_marked : IsMarked page
  pub own : HasMark h i.format (first_block h a) page
  pub image : image_of page ≡ first_block h a
  pub flags : AreFlags i.format (flags_of page)
  pub signature : (bit_and (flags_of page) 8 ≡ 0) ⊎ (hw_sig_of page ≡ h.hw_sig)
  pub last : last_page_of page ≡ last_page_of header
  pub within : AgreeBut 3584 4096 header page
  pub back : AgreeBut 4056 4086 (taken_back page) header

pub is_mark_of : (h : Hardware) (a : Running) (i : Image) (header : List ℕ) → IsPage header → first_block h a < 2 ^ 64 → h.hw_sig < 2 ^ 32 → IsMarkOf h a i header (marked_header h a i header)
is_mark_of h a i header whole first hw =
    let flags = are_flags i.format h.hw_sig in
    let f = first_block h a in
    let m = mark_flags i.format in
    let is = flags_of-marked header f m h.hw_sig whole first flags.fit in
    record {
      whole = length-marked header f m h.hw_sig whole;
      is_marked = marked-is_marked header f m h.hw_sig whole;
      own = record {
        first_map = image_of-marked header f m h.hw_sig whole first flags.fit;
        flags = is;
        signature = λ some. hw_sig_of-marked header f m h.hw_sig whole (false_from_ne_true (eqb h.hw_sig 0) (λ e. some (eqb-true h.hw_sig 0 e))) hw;
      };
      image = image_of-marked header f m h.hw_sig whole first flags.fit;
      flags = subst (AreFlags i.format) (sym is) flags;
      signature = elim (cases_Bool (eqb h.hw_sig 0)) [
        | inl none ↦ inl (ap (λ (n : ℕ). bit_and n 8) is ∙ unsigned i.format h.hw_sig none)
        | inr some ↦ inr (hw_sig_of-marked header f m h.hw_sig whole some hw)
      ];
      last = last_page_of-marked header f m h.hw_sig whole;
      within = marked_within header f m h.hw_sig whole;
      back = taken_back-marked header f m h.hw_sig whole;
    }

pub the_mark : (h : Hardware) (shown : WorldView) (c : disk.Content) (blocks : ℕ) (suspends : Bool) (i : Image) (a : Running) (k : ℕ) → IsReady h shown c blocks suspends i a k → IsMarkOf h a i shown.header (marked_header h a i shown.header)
the_mark h shown c blocks suspends i a k ready =
    let kept = is_kept h shown c blocks suspends i a k ready in
    is_mark_of h a i shown.header kept.page (first_fits h shown c blocks suspends i a k ready.over ready.stands) ready.over.hardware.signature

-- An image after the mark's write, failed or not.

-- is one of before, or has the marked page, and all else as one of before
pub mark_torn : (h : Hardware) (shown : WorldView) (c c' : disk.Content) (blocks : ℕ) (suspends : Bool) (i : Image) (a : Running) (k : ℕ) (v : disk.DiskImage) → IsReady h shown c blocks suspends i a k →
    Tries (block_of_slot h 0) (marked_header h a i shown.header) c c' → disk.IsImage c' v → disk.IsImage c v ⊎ ((disk.block v (block_of_slot h 0) ≡ marked_header h a i shown.header) × ((w : disk.DiskImage) × disk.IsImage c w × SameBut (block_of_slot h 0) v w))
mark_torn h shown c c' blocks suspends i a k v ready tries is =
    let kept = is_kept h shown c blocks suspends i a k ready in
    let mark = the_mark h shown c blocks suspends i a k ready in
    let lt = header_on_disk h shown c blocks suspends i a k ready.over ready.stands in
    let last = ready.last in
    let one = (before_mark h shown c suspends i a k last ready.stands).one in
    let here = IsImage-as_it_reads blocks c ready.over.content in
    torn_image blocks (block_of_slot h 0) (marked_header h a i shown.header) c c' v ready.over.content lt mark.whole tries
    (λ w in_w. subst (λ (page : List ℕ). AgreeBut 3584 4096 page (marked_header h a i shown.header)) (sym kept.block ∙ ap (λ (u : disk.DiskImage). disk.block u (block_of_slot h 0)) (one (now c) w here in_w)) mark.within) is

-- A disk image with the marked page: what it has is the saved image.
pub record HasPage (h : Hardware) (c : disk.Content) (page : List ℕ) (v : disk.DiskImage) : Type 0 where
  pub here : disk.block v (block_of_slot h 0) ≡ page
  pub from : disk.DiskImage
  pub was : disk.IsImage c from
  pub same : SameBut (block_of_slot h 0) v from

blocks_of_marked : (h : Hardware) (c : disk.Content) (blocks : ℕ) (page : List ℕ) (v : disk.DiskImage) → disk.IsContent blocks c → HasPage h c page v → blocks_of v ≡ blocks
blocks_of_marked h c blocks page v whole has = let size = has.same.size in let is = has.was.size in blocks_now blocks c v whole (omega arith)

pub header_of_marked : (h : Hardware) (c : disk.Content) (blocks : ℕ) (page : List ℕ) (v : disk.DiskImage) → disk.IsContent blocks c → block_of_slot h 0 < blocks → HasPage h c page v → header_of h v ≡ page
header_of_marked h c blocks page v whole lt has = header_is h v (let n = blocks_of_marked h c blocks page v whole has in omega arith) ∙ has.here

-- a disk image with the marked page reads as laid
pub marked_reads : (h : Hardware) (shown : WorldView) (c : disk.Content) (blocks : ℕ) (suspends : Bool) (i : Image) (a : Running) (k : ℕ) (page : List ℕ) (v : disk.DiskImage) → IsReady h shown c blocks suspends i a k → HasPage h c page v → ReadsLaid h (unused_slots h a.memory) (stream_of i) v
marked_reads h shown c blocks suspends i a k page v ready has j lt =
    let stands = ready.stands in
    let last = ready.last in
    let free = unused_slots h a.memory in
    let all = (stands.parts.written.durable (synced_from i k (omega arith))).blocks has.from has.was in
    let done = done_of_take h a i has.from (count_of i) (omega arith) (All-take (Reads has.from) (count_of i) (laid_writes h a i) all) in
    let at = slot_of_write h a i j stands.parts.accepted lt in
    let apart : (write_at h.extents free (stream_of i) j).0 ≢ block_of_slot h 0 = λ e. free_not_header h a.memory at.slot ready.over.hardware stands.parts.behind.memory.fits at.free (sym e ∙ at.is) in
    has.same.others (write_at h.extents free (stream_of i) j).0 apart ∙ done j lt

slot_within : (f slots last : ℕ) → f < slots → last + 1 ≡ slots → f ≤ last
slot_within f slots last lt e = omega arith

last_of_header : (h : Hardware) (shown : WorldView) (c : disk.Content) (blocks : ℕ) (suspends : Bool) (i : Image) (a : Running) (k : ℕ) → IsReady h shown c blocks suspends i a k → last_page_of shown.header + 1 ≡ h.slots
last_of_header h shown c blocks suspends i a k ready =
    let kept = is_kept h shown c blocks suspends i a k ready in
    let usable = is_usable h shown c suspends i a k ready.stands in
    let page : area_block h (now c) ≡ shown.header = area_block-unmarked h (now c) (λ m. kept.unmarked (subst IsMarked (sym kept.is) m)) ∙ sym kept.is in
    let last = last_of_swap shown.header usable.area (ap area_kind (sym page) ∙ usable.is) in
    let slots = usable.slots in
    omega arith

marked_usable : (h : Hardware) (shown : WorldView) (c : disk.Content) (blocks : ℕ) (suspends : Bool) (i : Image) (a : Running) (k : ℕ) (v : disk.DiskImage) → IsReady h shown c blocks suspends i a k → HasPage h c (marked_header h a i shown.header) v → AreUsable h v (unused_slots h a.memory) (count_of i)
marked_usable h shown c blocks suspends i a k v ready has =
    let stands = ready.stands in
    let whole = ready.over.content in
    let hw = ready.over.hardware in
    let fits = stands.parts.behind.memory.fits in
    let size = length-stream_of i in
    let maps = ap maps_of size in
    let room = stands.parts.accepted.room in
    let usable = is_usable h shown c suspends i a k stands in
    let lt = header_on_disk h shown c blocks suspends i a k ready.over stands in
    let mark = the_mark h shown c blocks suspends i a k ready in
    let header = header_of_marked h c blocks (marked_header h a i shown.header) v whole lt has in
    let last : last_page_of (header_of h v) ≡ last_page_of shown.header = ap last_page_of header ∙ mark.last in
    let slots = last_of_header h shown c blocks suspends i a k ready in
    let n = blocks_of_marked h c blocks (marked_header h a i shown.header) v whole has in
    let m = image_blocks blocks c (now c) whole (IsImage-as_it_reads blocks c whole) in
    let few = ready.over.few in
    record {
      file_map = (h.slots, hw.map, λ place p_lt. (free_place h a.memory place (omega arith)).within);
      behind_header = λ place p_lt. free_not_0 h a.memory (get_or (unused_slots h a.memory) place 0) hw fits (free_place h a.memory place (omega arith));
      in_area = λ place p_lt.
          let f = free_place h a.memory place (omega arith) in
          slot_within (get_or (unused_slots h a.memory) place 0) h.slots (last_page_of (header_of h v)) f.within (omega arith);
      on_disk = λ place p_lt.
          let f = free_place h a.memory place (omega arith) in
          let on = usable.on_disk (get_or (unused_slots h a.memory) place 0) f.within in
          omega arith;
      fits = omega arith;
    }

-- a disk image with the marked page holds the saved image
pub marked_holds : (h : Hardware) (shown : WorldView) (c : disk.Content) (blocks : ℕ) (suspends : Bool) (i : Image) (a : Running) (k : ℕ) (v : disk.DiskImage) → IsReady h shown c blocks suspends i a k → HasPage h c (marked_header h a i shown.header) v → Holds h v i
marked_holds h shown c blocks suspends i a k v ready has =
    let stands = ready.stands in
    let whole = ready.over.content in
    let hw = ready.over.hardware in
    let last = ready.last in
    let free = unused_slots h a.memory in
    let stream = stream_of i in
    let size = length-stream_of i in
    let maps = ap maps_of size in
    let room = stands.parts.accepted.room in
    let lt = header_on_disk h shown c blocks suspends i a k ready.over stands in
    let mark = the_mark h shown c blocks suspends i a k ready in
    let header = header_of_marked h c blocks (marked_header h a i shown.header) v whole lt has in
    let first : image_of (header_of h v) ≡ first_block h a = ap image_of header ∙ mark.image in
    let laid : IsLaid h free stream v = record {
      reads = marked_reads h shown c blocks suspends i a k (marked_header h a i shown.header) v ready has;
      usable = marked_usable h shown c blocks suspends i a k v ready has;
    } in
    let task : (s : ℕ) (page : List ℕ) → i.slots s ≡ Some page → (s < h.slots) × (1 ≤ slot_entry h a.memory s) × (slot_entry h a.memory s ≤ 64) =
    λ s page e. stands.parts.behind.task_slots.tasks s page (sym (ap (λ (x : Image). x.slots s) stands.parts.accepted.image) ∙ e) in
    record {
      marked = subst IsMarked (sym header) mark.is_marked;
      uncompressed = subst (λ (p : List ℕ). bit_and (flags_of p) 2 ≢ 0) (sym header) mark.flags.uncompressed;
      format = subst (λ (p : List ℕ). (bit_and (flags_of p) 256 ≢ 0) ↔ (i.format ≡ SkipZeros)) (sym header) mark.flags.format;
      whole = (
        laid_entries h.extents free 0 (length stream),
        ap₂ (λ (b n : ℕ). chain h v b n) first (sym size) ∙ chain-laid h free stream v laid,
        blocks-laid h free stream v laid,
      );
      slots = λ s page e.
          let t = task s page e in
          has.same.others (block_of_slot h s) (task_not_header h a.memory s hw stands.parts.behind.memory.fits t.0 t.2) ∙ (stands.parts.written.durable (synced_from i k (omega arith))).slots s page e has.from has.was;
      maps_apart = λ s j page e j_lt same.
          let t = task s page e in
          let f = free_place h a.memory (map_place j) (omega arith) in
          free_not_used h a.memory (get_or free (map_place j) 0) s hw f t.0 t.1
          (sym same ∙ ap (λ (b : ℕ). map_block v b j) first ∙ map_block-laid h free stream v j laid (omega arith));
      pages_apart = λ s n page e n_lt same.
          let t = task s page e in
          let f = free_place h a.memory (page_place n) (omega arith) in
          free_not_used h a.memory (get_or free (page_place n) 0) s hw f t.0 t.1
          (sym same ∙ ap (λ (b : ℕ). entry_block v b n) first ∙ entry_block-laid h free stream v n laid (omega arith));
    }
