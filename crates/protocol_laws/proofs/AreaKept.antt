-- What the disk reads of its swap area after a call.
use Rattle.std.proofs.Common.{◌≡◌, ◌≢◌, ℕ, ◌+◌, ◌*◌, ◌/◌, ◌<◌, ◌⊎◌, inl, inr, zero, suc, Bool, true, false, cond, List, [], ◌∷◌, length, get_or, refl, sym, ap, ◌∙◌, subst, arith, nat_eq}
use Rattle.std.specs.Cmp.Lexicographic.{pointwise}
use Rattle.std.proofs.lemmas.Bool.{cases_eq}
use Rattle.std.proofs.lemmas.List.{get_or_past, get_or-take}
use Rattle.definitions.specs.Bytes.{IsPage, AgreeBut}
use Rattle.definitions.specs.Disk as disk
use Rattle.definitions.specs.Disk.{sector, sector_bytes}
use Rattle.definitions.specs.SwapHeader.{IsMarked, image_signature, sig_of, marked, taken_back}
use Rattle.definitions.proofs.DiskLaws.{length-as_it_reads, IsImage-as_it_reads, block-same, as_it_reads-settled}
use Rattle.definitions.proofs.Marks.{length-marked, taken_back-marked}
use Rattle.plain_machine.specs.Machine.{Hardware, block_of_slot}
use Rattle.plain_machine.specs.Chain.{header_of, blocks_of}
use Rattle.plain_machine.specs.Stands.{AgreeOnArea}
use Rattle.plain_machine.specs.UsableArea.{area_block}
use Rattle.image_laws.specs.ImageBlocks.{Tries}
use Rattle.image_laws.proofs.ImageBlocks.{failed, long, sector_of_block, block_of_sectors, same_sector, taken_back_within, length-taken_back, marked_within}
use Rattle.protocol_laws.specs.Rows.{IsSameArea}
use Rattle.protocol_laws.proofs.Areas.{agree_on_area}
use Rattle.protocol_laws.proofs.HeaderBack.{marked_on_disk}
use Rattle.protocol_laws.proofs.MarkFields.{marked-is_marked}
use Rattle.protocol_laws.proofs.Marking.{header_is, length-block, image_blocks, area_of, area_of-unmarked, area_of-marked, area_block-marked, area_block-unmarked}
use Rattle.protocol_laws.proofs.Same.{SameHeader, same_header, same_area_block, by_other_write}
use Rattle.protocol_laws.specs.AreaKept.{KeptByHeader, KeptByMark, KeptByOtherWrite, KeptByTakingBack, KeptBySync}

agree_itself : (page : List ℕ) → AgreeOnArea page page
agree_itself page = record { front = refl; signature = refl }

by_same_header : (h : Hardware) (v w : disk.DiskImage) → SameHeader h w v → IsSameArea h v w
by_same_header h v w same = record { blocks = same.blocks; header = subst (AgreeOnArea (area_block h w)) (same_area_block h w v same) (agree_itself (area_block h w)) }

-- Calls that leave block(0).

pub kept_by_other_write : KeptByOtherWrite
kept_by_other_write h blocks b page c c' whole apart tries =
    by_same_header h (disk.as_it_reads c) (disk.as_it_reads c') (by_other_write h blocks b page c c' whole tries (λ e. apart (sym e))).reads

pub kept_by_sync : KeptBySync
kept_by_sync h c c' syncs =
    let e : disk.as_it_reads c' ≡ disk.as_it_reads c = ap disk.as_it_reads syncs ∙ as_it_reads-settled (disk.as_it_reads c) in
    by_same_header h (disk.as_it_reads c) (disk.as_it_reads c') (record { blocks = ap blocks_of e; header = ap (header_of h) e })

-- A write of block b within sector 7, failed or not: the disk reads the block as before, or as the page.

live_at : (c : disk.Content) (s : ℕ) → get_or (disk.as_it_reads c) s [] ≡ (sector c s).live
live_at [] s = refl
live_at (x ∷ c) zero = refl
live_at (x ∷ c) (suc s) = live_at c s

record IsWithin (blocks b : ℕ) (page : List ℕ) (c c' : disk.Content) : Type 0 where
  content : disk.IsContent blocks c
  on_disk : b < blocks
  whole : IsPage page
  within : AgreeBut 3584 4096 (disk.block (disk.as_it_reads c) b) page
  tries : Tries b page c c'

size_before : (blocks : ℕ) (c : disk.Content) → disk.IsContent blocks c → length (disk.as_it_reads c) ≡ 8 * blocks
size_before blocks c whole = length-as_it_reads c ∙ whole.size

size_after : (blocks b : ℕ) (page : List ℕ) (c c' : disk.Content) → IsWithin blocks b page c c' → length (disk.as_it_reads c') ≡ length (disk.as_it_reads c)
size_after blocks b page c c' is = length-as_it_reads c' ∙ (failed b page c c' is.tries).others.size ∙ sym (length-as_it_reads c)

-- a sector other than the last has the page's bytes already
front_reads : (blocks b : ℕ) (page : List ℕ) (c c' : disk.Content) (j : ℕ) → IsWithin blocks b page c c' → j < 8 → j ≢ 7 → get_or (disk.as_it_reads c) (8 * b + j) [] ≡ sector_bytes page j
front_reads blocks b page c c' j is few front =
    let v = disk.as_it_reads c in
    let size = is.content.size in
    let reads = size_before blocks c is.content in
    let lt = is.on_disk in
    let here = IsImage-as_it_reads blocks c is.content in
    sym (sector_of_block v b j (omega arith) (λ i i_lt. long blocks c v (8 * b + i) is.content here (omega arith)) few) ∙ same_sector (disk.block v b) page 7 j is.within front

sector_reads : (blocks b : ℕ) (page : List ℕ) (c c' : disk.Content) (j : ℕ) → IsWithin blocks b page c c' → j < 8 → (get_or (disk.as_it_reads c') (8 * b + j) [] ≡ get_or (disk.as_it_reads c) (8 * b + j) []) ⊎ (get_or (disk.as_it_reads c') (8 * b + j) [] ≡ sector_bytes page j)
sector_reads blocks b page c c' j is few = elim ((failed b page c c' is.tries).within j few) [
  | inl same ↦ inl (live_at c' (8 * b + j) ∙ ap (λ (s : disk.Sector). s.live) same ∙ sym (live_at c (8 * b + j)))
  | inr takes ↦ inr (live_at c' (8 * b + j) ∙ takes.live)
]

front_written : (blocks b : ℕ) (page : List ℕ) (c c' : disk.Content) (j : ℕ) → IsWithin blocks b page c c' → j < 8 → j ≢ 7 → get_or (disk.as_it_reads c') (8 * b + j) [] ≡ sector_bytes page j
front_written blocks b page c c' j is few front = elim (sector_reads blocks b page c c' j is few) [
  | inl same ↦ same ∙ front_reads blocks b page c c' j is few front
  | inr written ↦ written
]

block_reads : (blocks b : ℕ) (page : List ℕ) (c c' : disk.Content) → IsWithin blocks b page c c' → (disk.block (disk.as_it_reads c') b ≡ disk.block (disk.as_it_reads c) b) ⊎ (disk.block (disk.as_it_reads c') b ≡ page)
block_reads blocks b page c c' is =
    let v = disk.as_it_reads c in
    let v' = disk.as_it_reads c' in
    let size = size_after blocks b page c c' is in
    let reads = size_before blocks c is.content in
    let lt = is.on_disk in
    elim (sector_reads blocks b page c c' 7 is (omega arith)) [
      | inl same ↦ inl (block-same v' v b size (λ j few. elim (cases_eq j 7) [
        | inl end ↦ subst (λ (i : ℕ). get_or v' (8 * b + i) [] ≡ get_or v (8 * b + i) []) (sym end) same
        | inr front ↦ front_written blocks b page c c' j is few front ∙ sym (front_reads blocks b page c c' j is few front)
      ]))
      | inr written ↦ inr (block_of_sectors v' b page is.whole (omega arith) (λ j few. elim (cases_eq j 7) [
        | inl end ↦ subst (λ (i : ℕ). get_or v' (8 * b + i) [] ≡ sector_bytes page i) (sym end) written
        | inr front ↦ front_written blocks b page c c' j is few front
      ]))
    ]

-- Block(0).

by_page : (h : Hardware) (blocks : ℕ) (page : List ℕ) (c c' : disk.Content) → IsWithin blocks (block_of_slot h 0) page c c' → AgreeOnArea (area_of page) (area_block h (disk.as_it_reads c)) → IsSameArea h (disk.as_it_reads c) (disk.as_it_reads c')
by_page h blocks page c c' is agree =
    let v = disk.as_it_reads c in
    let v' = disk.as_it_reads c' in
    let size = size_after blocks (block_of_slot h 0) page c c' is in
    let reads = size_before blocks c is.content in
    let lt = is.on_disk in
    elim (block_reads blocks (block_of_slot h 0) page c c' is) [
      | inl same ↦ by_same_header h v v' (same_header h v' v size same)
      | inr written ↦ record {
        blocks = ap (λ (n : ℕ). n / 8) size;
        header = subst (λ (p : List ℕ). AgreeOnArea (area_of p) (area_block h v)) (sym (header_is h v' (omega arith) ∙ written)) agree;
      }
    ]

-- the block as it reads
record IsHere (h : Hardware) (c : disk.Content) : Type 0 where
  is : header_of h (disk.as_it_reads c) ≡ disk.block (disk.as_it_reads c) (block_of_slot h 0)
  page : IsPage (header_of h (disk.as_it_reads c))

is_here : (h : Hardware) (blocks : ℕ) (c : disk.Content) → disk.IsContent blocks c → block_of_slot h 0 < blocks → IsHere h c
is_here h blocks c whole lt =
    let v = disk.as_it_reads c in
    let here = IsImage-as_it_reads blocks c whole in
    let n = image_blocks blocks c v whole here in
    let at = header_is h v (omega arith) in
    record { is = at; page = subst IsPage (sym at) (length-block blocks c v (block_of_slot h 0) whole here lt) }

-- taking back keeps the other sectors
area_of_front : (page : List ℕ) (b : Bool) (i : ℕ) → IsPage page → i < 3584 → get_or (cond b (taken_back page) page) i 0 ≡ get_or page i 0
area_of_front page true i whole lt = sym ((taken_back_within page whole).before i lt)
area_of_front page false i whole lt = refl

within_by_area : (header page : List ℕ) → IsPage header → IsPage page → AgreeOnArea page (area_of header) → AgreeBut 3584 4096 header page
within_by_area header page whole whole' agree = record {
  size = whole ∙ sym whole';
  before = λ i lt.
      sym (get_or-take 4056 (area_of header) i 0 (omega arith) ∙ area_of_front header (pointwise nat_eq (sig_of header) image_signature) i whole lt)
      ∙ ap (λ (front : List ℕ). get_or front i 0) (sym agree.front) ∙ get_or-take 4056 page i 0 (omega arith);
  after = λ i le. get_or_past header i 0 (omega arith) ∙ sym (get_or_past page i 0 (omega arith));
}

pub kept_by_header : KeptByHeader
kept_by_header h blocks page c c' whole lt is_page unmarked agree tries =
    let v = disk.as_it_reads c in
    let here = is_here h blocks c whole lt in
    by_page h blocks page c c' (record {
      content = whole;
      on_disk = lt;
      whole = is_page;
      within = subst (λ (p : List ℕ). AgreeBut 3584 4096 p page) here.is (within_by_area (header_of h v) page here.page is_page agree);
      tries = tries;
    }) (subst (λ (p : List ℕ). AgreeOnArea p (area_block h v)) (sym (area_of-unmarked page unmarked)) agree)

pub kept_by_taking_back : KeptByTakingBack
kept_by_taking_back h blocks c c' whole header is_marked tries =
    let v = disk.as_it_reads c in
    let image = IsImage-as_it_reads blocks c whole in
    let n = image_blocks blocks c v whole image in
    let on = marked_on_disk h v is_marked in
    let lt : block_of_slot h 0 < blocks = omega arith in
    let here = is_here h blocks c whole lt in
    let area = area_block-marked h v is_marked in
    kept_by_header h blocks (taken_back (header_of h v)) c c' whole lt (length-taken_back (header_of h v) here.page) (λ m. header.unmarked v image (subst IsMarked (sym area) m))
    (subst (AgreeOnArea (taken_back (header_of h v))) (sym area) (agree_itself (taken_back (header_of h v)))) tries

pub kept_by_mark : KeptByMark
kept_by_mark h blocks first flags hw c c' whole lt unmarked tries =
    let v = disk.as_it_reads c in
    let header = header_of h v in
    let here = is_here h blocks c whole lt in
    let page = marked header first flags hw in
    let back = agree_on_area (taken_back page) header (taken_back-marked header first flags hw here.page) in
    by_page h blocks page c c' (record {
      content = whole;
      on_disk = lt;
      whole = length-marked header first flags hw here.page;
      within = subst (λ (p : List ℕ). AgreeBut 3584 4096 p page) here.is (marked_within header first flags hw here.page);
      tries = tries;
    }) (subst (λ (p : List ℕ). AgreeOnArea p (area_block h v)) (sym (area_of-marked page (marked-is_marked header first flags hw here.page)))
    (subst (AgreeOnArea (taken_back page)) (sym (area_block-unmarked h v unmarked)) back))
