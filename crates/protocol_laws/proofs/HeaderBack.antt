-- Block(0) taken back on a disk that has one image, which is marked.
use Rattle.std.proofs.Common.{◌≡◌, ℕ, ◌<◌, inl, inr, ltb, List, length, get_or, drop, refl, sym, ap, ◌∙◌, subst, arith}
use Rattle.std.proofs.lemmas.Bool.{cases_lt, cases_Bool, cond-false, ltb-true}
use Rattle.std.proofs.lemmas.List.{get_or-take, get_or-drop}
use Rattle.definitions.specs.Bytes.{IsPage, AgreeBut, zero_page}
use Rattle.definitions.specs.Disk as disk
use Rattle.definitions.specs.SwapHeader.{IsMarked, taken_back}
use Rattle.definitions.proofs.DiskLaws.{length-as_it_reads, IsImage-as_it_reads}
use Rattle.definitions.proofs.PageBytes.{get_or-zero_page}
use Rattle.plain_machine.specs.Machine.{Hardware, block_of_slot}
use Rattle.plain_machine.specs.Chain.{header_of, blocks_of, Marked}
use Rattle.plain_machine.specs.Shows.{WorldView}
use Rattle.plain_machine.specs.Stands.{IsHeader, IsSameOrTakenBack, AgreeOnArea, HasOneImage}
use Rattle.plain_machine.specs.UsableArea.{area_block}
use Rattle.plain_machine.proofs.DiskBlocks.{block-written}
use Rattle.image_laws.specs.ImageBlocks.{Tries}
use Rattle.image_laws.proofs.ImageBlocks.{taken_back_within, length-taken_back}
use Rattle.image_laws.proofs.Images.{SameBut, torn_image}
use Rattle.protocol_laws.proofs.Marking.{header_is, length-block, image_blocks, area_block-marked, area_block-unmarked}

-- A marked block(0) is a block of the disk.

first_of_mark : (page : List ℕ) → IsMarked page → get_or page 4086 0 ≡ 83
first_of_mark page marked =
    sym (get_or-take 10 (drop 4086 page) 0 0 (omega arith) ∙ get_or-drop 4086 page 0 0) ∙ ap (λ (sig : List ℕ). get_or sig 0 0) marked

pub zeros_unmarked : IsMarked zero_page → ⊥
zeros_unmarked marked =
    let mark = first_of_mark zero_page marked in
    let none = get_or-zero_page 4086 (omega arith) in
    let r : ⊥ = omega arith in r

pub marked_on_disk : (h : Hardware) (v : disk.DiskImage) → Marked h v → block_of_slot h 0 < blocks_of v
marked_on_disk h v marked = elim (cases_lt (block_of_slot h 0) (blocks_of v)) [
  | inl lt ↦ lt
  | inr past ↦
      absurd (zeros_unmarked (subst IsMarked
      (cond-false (ltb (block_of_slot h 0) (blocks_of v)) (disk.block v (block_of_slot h 0)) zero_page (elim (cases_Bool (ltb (block_of_slot h 0) (blocks_of v))) [ inl lt ↦ (let less = ltb-true (block_of_slot h 0) (blocks_of v) lt in absurd (omega arith)) | inr isn't ↦ isn't ])) marked))
]

-- Before the write: one image, and block(0) as the world keeps it.
pub record IsBefore (h : Hardware) (shown : WorldView) (c : disk.Content) (blocks : ℕ) : Type 0 where
  pub content : disk.IsContent blocks c
  pub one : HasOneImage c
  pub on_disk : block_of_slot h 0 < blocks
  pub is : shown.header ≡ disk.block (disk.as_it_reads c) (block_of_slot h 0)
  pub header : header_of h (disk.as_it_reads c) ≡ shown.header
  pub page : IsPage shown.header
  pub marked : IsMarked shown.header
  pub back_unmarked : IsMarked (taken_back shown.header) → ⊥

pub is_before : (h : Hardware) (shown : WorldView) (c : disk.Content) (blocks : ℕ) → disk.IsContent blocks c → HasOneImage c → shown.header ≡ header_of h (disk.as_it_reads c) → Marked h (disk.as_it_reads c) → IsHeader h c → IsBefore h shown c blocks
is_before h shown c blocks whole one keeps marked is =
    let v = disk.as_it_reads c in
    let here = IsImage-as_it_reads blocks c whole in
    let on = marked_on_disk h v marked in
    let n = image_blocks blocks c v whole here in
    let lt : block_of_slot h 0 < blocks = omega arith in
    let at = header_is h v on in
    record {
      content = whole;
      one = one;
      on_disk = lt;
      is = keeps ∙ at;
      header = sym keeps;
      page = subst IsPage (sym (keeps ∙ at)) (length-block blocks c v (block_of_slot h 0) whole here lt);
      marked = subst IsMarked (sym keeps) marked;
      back_unmarked = λ m. is.unmarked v here (subst IsMarked (ap taken_back keeps ∙ sym (area_block-marked h v marked)) m);
    }

-- An image after the write, failed or not: the one of before, or with the block taken back.
pub data TornBack (h : Hardware) (shown : WorldView) (c : disk.Content) (v : disk.DiskImage) : Type 0 where
  still : disk.IsImage c v → TornBack h shown c v
  back : (w : disk.DiskImage) → disk.IsImage c w → SameBut (block_of_slot h 0) v w → disk.block v (block_of_slot h 0) ≡ taken_back shown.header → TornBack h shown c v

pub torn_back : (h : Hardware) (shown : WorldView) (c c' : disk.Content) (blocks : ℕ) (v : disk.DiskImage) → IsBefore h shown c blocks → Tries (block_of_slot h 0) (taken_back shown.header) c c' → disk.IsImage c' v → TornBack h shown c v
torn_back h shown c c' blocks v before tries in' =
    let here = IsImage-as_it_reads blocks c before.content in
    elim (torn_image blocks (block_of_slot h 0) (taken_back shown.header) c c' v before.content before.on_disk (length-taken_back shown.header before.page) tries
    (λ w in_w. subst (λ (page : List ℕ). AgreeBut 3584 4096 page (taken_back shown.header)) (before.is ∙ ap (λ (u : disk.DiskImage). disk.block u (block_of_slot h 0)) (before.one (disk.as_it_reads c) w here in_w)) (taken_back_within shown.header before.page)) in') [
      | inl was ↦ still was
      | inr taken ↦ back taken.1.0 taken.1.1 taken.1.2 taken.0
    ]

pub header_back : (h : Hardware) (shown : WorldView) (c : disk.Content) (blocks : ℕ) (v w : disk.DiskImage) → IsBefore h shown c blocks → disk.IsImage c w → SameBut (block_of_slot h 0) v w → disk.block v (block_of_slot h 0) ≡ taken_back shown.header → header_of h v ≡ taken_back shown.header
header_back h shown c blocks v w before in_w same taken =
    let lt = before.on_disk in
    let n = image_blocks blocks c w before.content in_w in
    let size = same.size in
    header_is h v (omega arith) ∙ taken

-- what each says of the area: the block taken back
pub area_back : (h : Hardware) (shown : WorldView) (c : disk.Content) (blocks : ℕ) (v : disk.DiskImage) → IsBefore h shown c blocks → TornBack h shown c v → area_block h v ≡ taken_back shown.header
area_back h shown c blocks v before (still was) =
    let here = IsImage-as_it_reads blocks c before.content in
    let same : header_of h v ≡ shown.header = ap (header_of h) (before.one v (disk.as_it_reads c) was here) ∙ before.header in
    area_block-marked h v (subst IsMarked (sym same) before.marked) ∙ ap taken_back same
area_back h shown c blocks v before (back w in_w same taken) =
    let header = header_back h shown c blocks v w before in_w same taken in
    area_block-unmarked h v (λ m. before.back_unmarked (subst IsMarked header m)) ∙ header

pub taken_from : (h : Hardware) (shown : WorldView) (c : disk.Content) (blocks : ℕ) (v : disk.DiskImage) → IsBefore h shown c blocks → TornBack h shown c v → IsSameOrTakenBack h (disk.as_it_reads c) v
taken_from h shown c blocks v before (still was) =
    let e = before.one v (disk.as_it_reads c) was (IsImage-as_it_reads blocks c before.content) in
    record { size = ap length e; others = λ b lt apart. ap (λ (u : disk.DiskImage). disk.block u b) e; header = inl (ap (header_of h) e) }
taken_from h shown c blocks v before (back w in_w same taken) =
    let e : w ≡ disk.as_it_reads c = before.one w (disk.as_it_reads c) in_w (IsImage-as_it_reads blocks c before.content) in
    record {
      size = same.size ∙ ap length e;
      others = λ b lt apart. same.others b apart ∙ ap (λ (u : disk.DiskImage). disk.block u b) e;
      header = inr (header_back h shown c blocks v w before in_w same taken ∙ ap taken_back (sym before.header));
    }

-- What is there after the write.

pub still_header : (h : Hardware) (shown : WorldView) (c c' : disk.Content) (blocks : ℕ) → IsBefore h shown c blocks → disk.IsContent blocks c' → Tries (block_of_slot h 0) (taken_back shown.header) c c' → IsHeader h c'
still_header h shown c c' blocks before after tries =
    let page : (v : disk.DiskImage) → disk.IsImage c' v → area_block h v ≡ taken_back shown.header = λ v in'. area_back h shown c blocks v before (torn_back h shown c c' blocks v before tries in') in
    record {
      unmarked = λ v in' m. before.back_unmarked (subst IsMarked (page v in') m);
      one = λ v in'. let e = page v in' ∙ sym (page (disk.as_it_reads c') (IsImage-as_it_reads blocks c' after)) in subst (AgreeOnArea (area_block h v)) e (record { front = refl; signature = refl });
    }

pub each_taken_back : (h : Hardware) (shown : WorldView) (c c' : disk.Content) (blocks : ℕ) (v : disk.DiskImage) → IsBefore h shown c blocks → Tries (block_of_slot h 0) (taken_back shown.header) c c' → disk.IsImage c' v → IsSameOrTakenBack h (disk.as_it_reads c) v
each_taken_back h shown c c' blocks v before tries in' = taken_from h shown c blocks v before (torn_back h shown c c' blocks v before tries in')

pub reads_unmarked : (h : Hardware) (shown : WorldView) (c c' : disk.Content) (blocks : ℕ) → IsBefore h shown c blocks → disk.IsContent blocks c' → disk.Writes (block_of_slot h 0) (taken_back shown.header) c c' → Marked h (disk.as_it_reads c') → ⊥
reads_unmarked h shown c c' blocks before after writes marked =
    let v' = disk.as_it_reads c' in
    let lt = before.on_disk in
    let size = before.content.size in
    let size' = after.size in
    let reads' = length-as_it_reads c' in
    let here' : header_of h v' ≡ taken_back shown.header = header_is h v' (omega arith) ∙ block-written (block_of_slot h 0) (taken_back shown.header) c c' (length-taken_back shown.header before.page) (omega arith) writes in
    before.back_unmarked (subst IsMarked here' marked)
