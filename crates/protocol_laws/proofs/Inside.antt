-- What a crash inside a call of the disk may leave: sector by sector what the disk held before the call, or after it.
use Rattle.std.proofs.Common.{◌≡◌, ◌≢◌, ◌⊎◌, inl, inr, ◌<◌, ◌≤◌, ℕ, ◌+◌, ◌*◌, ◌/◌, ◌%◌, All, Contains, List, [], length, get_or, set, take, drop, ltb, sym, ap, ◌∙◌, subst, arith}
use Rattle.std.proofs.lemmas.Bool.{cases_eq, cases_lt, cond-false, le-ltb}
use Rattle.std.proofs.lemmas.List.{ext_get_or, get_or-take, get_or-drop, get_or_default, get_or-set_same, length-set, length-take-le, length-drop}
use Rattle.std.proofs.lemmas.List.Elements.{All-contains}
use Rattle.definitions.specs.Bytes.{IsPage, AgreeBut, zero_page}
use Rattle.definitions.specs.Disk as disk
use Rattle.definitions.specs.Disk.{block, sector_bytes, no_sector}
use Rattle.definitions.specs.SwapHeader.{sig_of, taken_back}
use Rattle.definitions.proofs.DiskLaws.{IsImage-as_it_reads, length-as_it_reads, length-settled, as_it_reads-settled, block-same}
use Rattle.plain_machine.specs.Machine.{Hardware, block_of_slot}
use Rattle.plain_machine.specs.Chain.{header_of, blocks_of, Marked, Holds}
use Rattle.plain_machine.specs.Image.{Image}
use Rattle.plain_machine.specs.Stands.{EachImage, IsHeader, HasOneImage, IsSameOrTakenBack}
use Rattle.plain_machine.specs.UsableArea.{area_block}
use Rattle.image_laws.proofs.ImageBlocks.{changed_image, candidate_of_image, sector_of_block, long, same_sector, either_whole, taken_back_within, length-taken_back}
use Rattle.image_write.proofs.Heads.{length-concat}
use Rattle.protocol_laws.specs.Rows.{LeavesBlock, IsSameArea, AddsNoMark, KeepsHeaderOrTakesBack}
use Rattle.protocol_laws.proofs.HeaderBack.{marked_on_disk}
use Rattle.protocol_laws.proofs.Marking.{header_is, length-block, image_blocks}
use Rattle.protocol_laws.proofs.Unmarking.{area_front, same_front}

-- A candidate of a sector in a block that is left was one before.
pub left_candidate : (blocks b s : ℕ) (c c' : disk.Content) (x : List ℕ) → disk.IsContent blocks c' → LeavesBlock b c c' → 8 * b ≤ s → s < 8 * b + 8 → s < length c' → Contains (disk.sector c' s).candidates x → Contains (disk.sector c s).candidates x
left_candidate blocks b s c c' x whole leaves low high lt in' =
    let v = disk.as_it_reads c' in
    let is : disk.IsImage c' (set v s x) = changed_image c' v s x (IsImage-as_it_reads blocks c' whole) lt in' in
    let reads = length-as_it_reads c' in
    let size = length-set v s x in
    subst (Contains (disk.sector c s).candidates) (get_or-set_same v s x [] (omega arith)) (leaves.leaves (set v s x) s is (omega arith) low high)

-- Where every block is left, a crash leaves what it might have left before.
pub image_left : (blocks : ℕ) (c c' : disk.Content) (w : disk.DiskImage) → disk.IsContent blocks c → disk.IsContent blocks c' → ((b : ℕ) → LeavesBlock b c c') → disk.IsMixture c c' w → disk.IsImage c w
image_left blocks c c' w whole after leaves mixed =
    let size = mixed.size in
    let n = whole.size in
    let m = after.size in
    record {
      size = mixed.size;
      chosen = λ s lt. elim (mixed.each s (omega arith)) [
        | inl was ↦ was
        | inr now ↦ left_candidate blocks (s / 8) s c c' (get_or w s []) after (leaves (s / 8)) (omega arith) (omega arith) (omega arith) now
      ];
    }

-- each image afterwards is one of the images before
pub images_left : (blocks : ℕ) (c c' : disk.Content) (w : disk.DiskImage) → disk.IsContent blocks c → disk.IsContent blocks c' → ((b : ℕ) → LeavesBlock b c c') → disk.IsImage c' w → disk.IsImage c w
images_left blocks c c' w whole after leaves in' =
    let size = in'.size in
    let n = whole.size in
    let m = after.size in
    record { size = omega arith; chosen = λ s lt. (leaves (s / 8)).leaves w s in' (omega arith) (omega arith) (omega arith) }

-- Sectors of a mixture.

pub mixed_long : (blocks : ℕ) (c c' : disk.Content) (w : disk.DiskImage) (s : ℕ) → disk.IsContent blocks c → disk.IsContent blocks c' → disk.IsMixture c c' w → s < 8 * blocks → length (get_or w s []) ≡ 512
mixed_long blocks c c' w s whole after mixed lt =
    let size = mixed.size in
    let n = whole.size in
    let m = after.size in
    elim (mixed.each s (omega arith)) [
      | inl was ↦ All-contains (λ (bytes : List ℕ). length bytes ≡ 512) (disk.sector c s).candidates (get_or w s []) (whole.sectors s no_sector (omega arith)).each was
      | inr now ↦ All-contains (λ (bytes : List ℕ). length bytes ≡ 512) (disk.sector c' s).candidates (get_or w s []) (after.sectors s no_sector (omega arith)).each now
    ]

-- eight sectors are a page
page_of_sectors : (v : disk.DiskImage) (b : ℕ) → 8 * b + 8 ≤ length v → ((j : ℕ) → j < 8 → length (get_or v (8 * b + j) []) ≡ 512) → IsPage (block v b)
unfolding block
page_of_sectors v b within each =
    let part = take 8 (drop (8 * b) v) in
    let size : length part ≡ 8 = length-take-le 8 (drop (8 * b) v) (omega (arith, length-drop (8 * b) v)) in
    let all : All (λ xs. length xs ≡ 512) part = λ j d j_lt.
    (let few : j < 8 = omega arith in
    ap length (get_or_default part j d [] j_lt ∙ get_or-take 8 (drop (8 * b) v) j [] few ∙ get_or-drop (8 * b) v j []) ∙ each j few) in
    length-concat 512 part all ∙ ap (λ (n : ℕ). 512 * n) size

-- The signature of a block lies in its last sector.

sig_in_sector : (p : List ℕ) → IsPage p → sig_of p ≡ take 10 (drop 502 (sector_bytes p 7))
sig_in_sector p whole =
    let last = drop 3584 p in
    let tail = length-drop 3584 p in
    let size : length (take 512 last) ≡ 512 = length-take-le 512 last (omega arith) in
    let rest = length-drop 502 (take 512 last) in
    let a : length (take 10 (drop 4086 p)) ≡ 10 = length-take-le 10 (drop 4086 p) (omega (arith, length-drop 4086 p)) in
    let b : length (take 10 (drop 502 (take 512 last))) ≡ 10 = length-take-le 10 (drop 502 (take 512 last)) (omega arith) in
    ext_get_or 0 (take 10 (drop 4086 p)) (take 10 (drop 502 (take 512 last))) (a ∙ sym b)
    (λ i lt.
    let few : i < 10 = omega arith in
    let at : 3584 + (502 + i) ≡ 4086 + i = omega arith in
    get_or-take 10 (drop 4086 p) i 0 few ∙ get_or-drop 4086 p i 0
    ∙ sym (get_or-take 10 (drop 502 (take 512 last)) i 0 few ∙ get_or-drop 502 (take 512 last) i 0 ∙ get_or-take 512 last (502 + i) 0 (omega arith) ∙ get_or-drop 3584 p (502 + i) 0 ∙ ap (λ (k : ℕ). get_or p k 0) at))

-- two images of disks with as many blocks
record AreImages (blocks : ℕ) (w u : disk.DiskImage) : Type 0 where
  pub size : length w ≡ 8 * blocks
  pub size_of : length u ≡ 8 * blocks
  pub long_one : (s : ℕ) → s < 8 * blocks → length (get_or w s []) ≡ 512
  pub long_other : (s : ℕ) → s < 8 * blocks → length (get_or u s []) ≡ 512

-- block(0) is marked in the one where it is in the other, if its last sector is the same
same_mark : (h : Hardware) (blocks : ℕ) (w u : disk.DiskImage) → block_of_slot h 0 < blocks → AreImages blocks w u → get_or w (8 * block_of_slot h 0 + 7) [] ≡ get_or u (8 * block_of_slot h 0 + 7) [] → Marked h w → Marked h u
same_mark h blocks w u lt are same marked =
    let b = block_of_slot h 0 in
    let size = are.size in
    let size' = are.size_of in
    let page : IsPage (block w b) = page_of_sectors w b (omega arith) (λ j few. are.long_one (8 * b + j) (omega arith)) in
    let page' : IsPage (block u b) = page_of_sectors u b (omega arith) (λ j few. are.long_other (8 * b + j) (omega arith)) in
    let at : sector_bytes (block w b) 7 ≡ get_or w (8 * b + 7) [] = sector_of_block w b 7 (omega arith) (λ j few. are.long_one (8 * b + j) (omega arith)) (omega arith) in
    let at' : sector_bytes (block u b) 7 ≡ get_or u (8 * b + 7) [] = sector_of_block u b 7 (omega arith) (λ j few. are.long_other (8 * b + j) (omega arith)) (omega arith) in
    ap sig_of (header_is h u (omega arith)) ∙ sig_in_sector (block u b) page' ∙ ap (λ (x : List ℕ). take 10 (drop 502 x)) (at' ∙ sym same ∙ sym at) ∙ sym (sig_in_sector (block w b) page)
    ∙ sym (ap sig_of (header_is h w (omega arith))) ∙ marked

-- with the last sector of a mixture's block(0) an image of the disk is marked as the mixture is
moved_mark : (h : Hardware) (blocks : ℕ) (c c' d : disk.Content) (w : disk.DiskImage) → disk.IsContent blocks c → disk.IsContent blocks c' → disk.IsContent blocks d → block_of_slot h 0 < blocks → disk.IsMixture c c' w →
    Contains (disk.sector d (8 * block_of_slot h 0 + 7)).candidates (get_or w (8 * block_of_slot h 0 + 7) []) → Marked h w → (u : disk.DiskImage) × disk.IsImage d u × (get_or u (8 * block_of_slot h 0 + 7) [] ≡ get_or w (8 * block_of_slot h 0 + 7) []) × Marked h u
moved_mark h blocks c c' d w whole after content lt mixed candidate marked =
    let s = 8 * block_of_slot h 0 + 7 in
    let v = disk.as_it_reads d in
    let x = get_or w s [] in
    let n = content.size in
    let m = whole.size in
    let size = mixed.size in
    let reads = length-as_it_reads d in
    let is : disk.IsImage d (set v s x) = changed_image d v s x (IsImage-as_it_reads blocks d content) (omega arith) candidate in
    let here : get_or (set v s x) s [] ≡ x = get_or-set_same v s x [] (omega arith) in
    let long_size = is.size in (
      set v s x,
      is,
      here,
      same_mark h blocks w (set v s x) lt
          (record {
            size = omega arith;
            size_of = omega arith;
            long_one = λ k k_lt. mixed_long blocks c c' w k whole after mixed k_lt;
            long_other = λ k k_lt. long blocks d (set v s x) k content is (omega arith);
          }) (sym here) marked,
    )

-- Where no image is marked before or after, a crash leaves none that is.
pub none_marked : (h : Hardware) (blocks : ℕ) (c c' : disk.Content) (w : disk.DiskImage) → disk.IsContent blocks c → disk.IsContent blocks c' → EachImage c (λ v. Marked h v → ⊥) → EachImage c' (λ v. Marked h v → ⊥) → disk.IsMixture c c' w → Marked h w → ⊥
none_marked h blocks c c' w whole after unmarked unmarked' mixed marked =
    let b = block_of_slot h 0 in
    let on = marked_on_disk h w marked in
    let n = whole.size in
    let size = mixed.size in
    let lt : b < blocks = omega arith in
    elim (mixed.each (8 * b + 7) (omega arith)) [
      | inl was ↦ (let moved = moved_mark h blocks c c' c w whole after whole lt mixed was marked in unmarked moved.0 moved.1 moved.3)
      | inr now ↦ (let moved = moved_mark h blocks c c' c' w whole after after lt mixed now marked in unmarked' moved.0 moved.1 moved.3)
    ]

-- A call that may write block(0) alone, over a disk whose images agree on the area.
pub record IsInside (h : Hardware) (blocks : ℕ) (c c' : disk.Content) (w : disk.DiskImage) : Type 0 where
  pub whole : disk.IsContent blocks c
  pub after : disk.IsContent blocks c'
  pub header : IsHeader h c
  pub header_after : IsHeader h c'
  pub area : IsSameArea h (disk.as_it_reads c) (disk.as_it_reads c')
  pub others : (b : ℕ) → b ≢ block_of_slot h 0 → LeavesBlock b c c'
  pub mixed : disk.IsMixture c c' w

at_header : (h : Hardware) (blocks : ℕ) (c : disk.Content) (v : disk.DiskImage) → disk.IsContent blocks c → block_of_slot h 0 < blocks → disk.IsImage c v → header_of h v ≡ block v (block_of_slot h 0)
at_header h blocks c v whole lt in' = let n = image_blocks blocks c v whole in' in header_is h v (omega arith)

-- The first seven sectors of block(0) are one in every image.

front_of : (h : Hardware) (c c' : disk.Content) (blocks : ℕ) (v w : disk.DiskImage) → disk.IsContent blocks c → disk.IsContent blocks c' → block_of_slot h 0 < blocks → disk.IsImage c v → disk.IsImage c' w → take 4056 (area_block h v) ≡ take 4056 (area_block h w) →
    AgreeBut 3584 4096 (block v (block_of_slot h 0)) (block w (block_of_slot h 0))
front_of h c c' blocks v w whole after lt in_v in_w front =
    let b = block_of_slot h 0 in
    let at = at_header h blocks c v whole lt in_v in
    let at' = at_header h blocks c' w after lt in_w in
    let page = length-block blocks c v b whole in_v lt in
    let page' = length-block blocks c' w b after in_w lt in
    same_front (block v b) (block w b) page page'
    (ap (take 4056) (sym at) ∙ sym (area_front h v (subst IsPage (sym at) page)) ∙ front ∙ area_front h w (subst IsPage (sym at') page') ∙ ap (take 4056) at')

front_sector : (h : Hardware) (blocks : ℕ) (c c' : disk.Content) (w : disk.DiskImage) (j : ℕ) → IsInside h blocks c c' w → block_of_slot h 0 < blocks → j < 7 →
    (get_or w (8 * block_of_slot h 0 + j) [] ≡ get_or (disk.as_it_reads c) (8 * block_of_slot h 0 + j) []) × (get_or w (8 * block_of_slot h 0 + j) [] ≡ get_or (disk.as_it_reads c') (8 * block_of_slot h 0 + j) [])
front_sector h blocks c c' w j is lt few =
    let b = block_of_slot h 0 in
    let v = disk.as_it_reads c in
    let v' = disk.as_it_reads c' in
    let here = IsImage-as_it_reads blocks c is.whole in
    let there = IsImage-as_it_reads blocks c' is.after in
    let n = is.whole.size in
    let m = is.after.size in
    let size = is.mixed.size in
    let reads = length-as_it_reads c in
    let reads' = length-as_it_reads c' in
    let apart : j ≢ 7 = λ e. omega arith in
    let x = get_or w (8 * b + j) [] in
    let mine : sector_bytes (block v b) j ≡ get_or v (8 * b + j) [] = sector_of_block v b j (omega arith) (λ k below. long blocks c v (8 * b + k) is.whole here (omega arith)) (omega arith) in
    let its : sector_bytes (block v' b) j ≡ get_or v' (8 * b + j) [] = sector_of_block v' b j (omega arith) (λ k below. long blocks c' v' (8 * b + k) is.after there (omega arith)) (omega arith) in
    let both : sector_bytes (block v' b) j ≡ sector_bytes (block v b) j = same_sector (block v' b) (block v b) 7 j (front_of h c' c blocks v' v is.after is.whole lt there here is.area.header.front) apart in
    let at : x ≡ sector_bytes (block v b) j = elim (is.mixed.each (8 * b + j) (omega arith)) [
      | inl was ↦
          let from = candidate_of_image blocks c b j x is.whole lt (omega arith) was in
          from.2 ∙ same_sector (block from.0 b) (block v b) 7 j (front_of h c c blocks from.0 v is.whole is.whole lt from.1 here (is.header.one from.0 from.1).front) apart
      | inr now ↦
          let from = candidate_of_image blocks c' b j x is.after lt (omega arith) now in
          from.2 ∙ same_sector (block from.0 b) (block v' b) 7 j (front_of h c' c' blocks from.0 v' is.after is.after lt from.1 there (is.header_after.one from.0 from.1).front) apart ∙ both
    ] in
    (at ∙ mine, at ∙ sym both ∙ its)

other_before : (h : Hardware) (blocks : ℕ) (c c' : disk.Content) (w : disk.DiskImage) (s : ℕ) → IsInside h blocks c c' w → s < 8 * blocks → s / 8 ≢ block_of_slot h 0 → Contains (disk.sector c s).candidates (get_or w s [])
other_before h blocks c c' w s is lt apart =
    let n = is.whole.size in
    let m = is.after.size in
    let size = is.mixed.size in
    elim (is.mixed.each s (omega arith)) [
      | inl was ↦ was
      | inr now ↦ left_candidate blocks (s / 8) s c c' (get_or w s []) is.after (is.others (s / 8) apart) (omega arith) (omega arith) (omega arith) now
    ]

-- With the last sector from before, the whole is an image of before.
before_image : (h : Hardware) (blocks : ℕ) (c c' : disk.Content) (w : disk.DiskImage) → IsInside h blocks c c' w → block_of_slot h 0 < blocks → Contains (disk.sector c (8 * block_of_slot h 0 + 7)).candidates (get_or w (8 * block_of_slot h 0 + 7) []) → disk.IsImage c w
before_image h blocks c c' w is lt last =
    let b = block_of_slot h 0 in
    let n = is.whole.size in
    let here = IsImage-as_it_reads blocks c is.whole in
    record {
      size = is.mixed.size;
      chosen = λ s s_lt. elim (cases_eq (s / 8) b) [
        | inr apart ↦ other_before h blocks c c' w s is (omega arith) apart
        | inl at ↦
            let place : 8 * b + s % 8 ≡ s = omega arith in
            subst (λ (k : ℕ). Contains (disk.sector c k).candidates (get_or w k [])) place (elim (cases_eq (s % 8) 7) [
              | inl end ↦ subst (λ (j : ℕ). Contains (disk.sector c (8 * b + j)).candidates (get_or w (8 * b + j) [])) (sym end) last
              | inr front ↦
                  subst (λ (x : List ℕ). Contains (disk.sector c (8 * b + s % 8)).candidates x) (sym (front_sector h blocks c c' w (s % 8) is lt (omega arith)).0) (here.chosen (8 * b + s % 8) (omega arith))
            ])
      ];
    }

-- a disk with one image has one candidate for each sector
only_one : (blocks s : ℕ) (c : disk.Content) (x : List ℕ) → disk.IsContent blocks c → HasOneImage c → s < length c → Contains (disk.sector c s).candidates x → x ≡ get_or (disk.as_it_reads c) s []
only_one blocks s c x whole one lt candidate =
    let v = disk.as_it_reads c in
    let here = IsImage-as_it_reads blocks c whole in
    let reads = length-as_it_reads c in
    sym (get_or-set_same v s x [] (omega arith)) ∙ ap (λ (u : disk.DiskImage). get_or u s []) (one (set v s x) v (changed_image c v s x here lt candidate) here)

-- With the last sector from after, over a disk that had one image, the whole is an image of after.
after_image : (h : Hardware) (blocks : ℕ) (c c' : disk.Content) (w : disk.DiskImage) → IsInside h blocks c c' w → block_of_slot h 0 < blocks → HasOneImage c → Contains (disk.sector c' (8 * block_of_slot h 0 + 7)).candidates (get_or w (8 * block_of_slot h 0 + 7) []) → disk.IsImage c' w
after_image h blocks c c' w is lt one last =
    let b = block_of_slot h 0 in
    let n = is.whole.size in
    let m = is.after.size in
    let there = IsImage-as_it_reads blocks c' is.after in
    let v' = disk.as_it_reads c' in
    record {
      size = is.mixed.size ∙ n ∙ sym m;
      chosen = λ s s_lt. elim (cases_eq (s / 8) b) [
        | inr apart ↦
            let w_is = only_one blocks s c (get_or w s []) is.whole one (omega arith) (other_before h blocks c c' w s is (omega arith) apart) in
            let v_is = only_one blocks s c (get_or v' s []) is.whole one (omega arith) (left_candidate blocks (s / 8) s c c' (get_or v' s []) is.after (is.others (s / 8) apart) (omega arith) (omega arith) (omega arith) (there.chosen s s_lt)) in
            subst (λ (x : List ℕ). Contains (disk.sector c' s).candidates x) (v_is ∙ sym w_is) (there.chosen s s_lt)
        | inl at ↦
            let place : 8 * b + s % 8 ≡ s = omega arith in
            subst (λ (k : ℕ). Contains (disk.sector c' k).candidates (get_or w k [])) place (elim (cases_eq (s % 8) 7) [
              | inl end ↦ subst (λ (j : ℕ). Contains (disk.sector c' (8 * b + j)).candidates (get_or w (8 * b + j) [])) (sym end) last
              | inr front ↦
                  subst (λ (x : List ℕ). Contains (disk.sector c' (8 * b + s % 8)).candidates x) (sym (front_sector h blocks c c' w (s % 8) is lt (omega arith)).1) (there.chosen (8 * b + s % 8) (omega arith))
            ])
      ];
    }

either_holds : (h : Hardware) (i : Image) (w : disk.DiskImage) → Marked h w → (Marked h w → ⊥) ⊎ Holds h w i → Holds h w i
either_holds h i w marked (inl never) = absurd (never marked)
either_holds h i w marked (inr holds) = holds

mixed_on_disk : (h : Hardware) (blocks : ℕ) (c c' : disk.Content) (w : disk.DiskImage) → IsInside h blocks c c' w → Marked h w → block_of_slot h 0 < blocks
mixed_on_disk h blocks c c' w is marked =
    let on = marked_on_disk h w marked in
    let n = is.whole.size in
    let size = is.mixed.size in
    omega arith

-- Inside the write of a mark over a disk with one image, which wasn't marked, a crash leaves that one, or an image of after.
pub mark_inside : (h : Hardware) (blocks : ℕ) (c c' : disk.Content) (i : Image) (w : disk.DiskImage) → IsInside h blocks c c' w → HasOneImage c → EachImage c (λ v. Marked h v → ⊥) → EachImage c' (λ v. (Marked h v → ⊥) ⊎ Holds h v i) → Marked h w → Holds h w i
mark_inside h blocks c c' i w is one unmarked held marked =
    let b = block_of_slot h 0 in
    let lt = mixed_on_disk h blocks c c' w is marked in
    let n = is.whole.size in
    let size = is.mixed.size in
    elim (is.mixed.each (8 * b + 7) (omega arith)) [
      | inl was ↦ absurd (unmarked w (before_image h blocks c c' w is lt was) marked)
      | inr now ↦ either_holds h i w marked (held w (after_image h blocks c c' w is lt one now))
    ]

-- Inside a write by which no mark is added, a crash leaves marked what it might have left before.
pub undo_inside : (h : Hardware) (blocks : ℕ) (c c' : disk.Content) (i : Image) (w : disk.DiskImage) → IsInside h blocks c c' w → AddsNoMark h c c' → EachImage c (λ v. (Marked h v → ⊥) ⊎ Holds h v i) → Marked h w → Holds h w i
undo_inside h blocks c c' i w is adds held marked =
    let b = block_of_slot h 0 in
    let lt = mixed_on_disk h blocks c c' w is marked in
    let n = is.whole.size in
    let m = is.after.size in
    let size = is.mixed.size in
    let last : Contains (disk.sector c (8 * b + 7)).candidates (get_or w (8 * b + 7) []) = elim (is.mixed.each (8 * b + 7) (omega arith)) [
      | inl was ↦ was
      | inr now ↦
          let moved = moved_mark h blocks c c' c' w is.whole is.after is.after lt is.mixed now marked in
          let u = moved.0 in
          let had = adds u moved.1 moved.3 in
          let v = had.0 in
          let u_size = moved.1.size in
          let v_size = had.1.size in
          let same : block u b ≡ block v b = sym (at_header h blocks c' u is.after lt moved.1) ∙ had.2 ∙ at_header h blocks c v is.whole lt had.1 in
          let at_u : sector_bytes (block u b) 7 ≡ get_or u (8 * b + 7) [] = sector_of_block u b 7 (omega arith) (λ j few. long blocks c' u (8 * b + j) is.after moved.1 (omega arith)) (omega arith) in
          let at_v : sector_bytes (block v b) 7 ≡ get_or v (8 * b + 7) [] = sector_of_block v b 7 (omega arith) (λ j few. long blocks c v (8 * b + j) is.whole had.1 (omega arith)) (omega arith) in
          subst (λ (x : List ℕ). Contains (disk.sector c (8 * b + 7)).candidates x) (sym at_v ∙ ap (λ (p : List ℕ). sector_bytes p 7) (sym same) ∙ at_u ∙ moved.2) (had.1.chosen (8 * b + 7) (omega arith))
    ] in
    either_holds h i w marked (held w (before_image h blocks c c' w is lt last))

-- A disk whose every image is v, but for block(0), which is as it was or taken back.

abbrev pub AreTakenBack : Hardware → disk.DiskImage → disk.Content → Type 0
AreTakenBack h v c = EachImage c (IsSameOrTakenBack h v)

-- a sector of another block
taken_sector : (h : Hardware) (blocks : ℕ) (c : disk.Content) (v : disk.DiskImage) (b j : ℕ) (x : List ℕ) → disk.IsContent blocks c → disk.IsContent blocks (disk.settled v) → AreTakenBack h v c → b < blocks → b ≢ block_of_slot h 0 → j < 8 → Contains (disk.sector c (8 * b + j)).candidates x → x ≡ get_or v (8 * b + j) []
taken_sector h blocks c v b j x whole first all lt apart few candidate =
    let from = candidate_of_image blocks c b j x whole lt few candidate in
    let m = first.size in
    let v_size = length-settled v in
    let itself = subst (disk.IsImage (disk.settled v)) (as_it_reads-settled v) (IsImage-as_it_reads blocks (disk.settled v) first) in
    from.2 ∙ ap (λ (p : List ℕ). sector_bytes p j) ((all from.0 from.1).others b (omega arith) apart)
    ∙ sector_of_block v b j (omega arith) (λ k below. long blocks (disk.settled v) v (8 * b + k) first itself (omega arith)) few

-- sector j of block(0)
taken_header : (h : Hardware) (blocks : ℕ) (c : disk.Content) (v : disk.DiskImage) (j : ℕ) (x : List ℕ) → disk.IsContent blocks c → AreTakenBack h v c → block_of_slot h 0 < blocks → j < 8 → Contains (disk.sector c (8 * block_of_slot h 0 + j)).candidates x →
    (x ≡ sector_bytes (header_of h v) j) ⊎ (x ≡ sector_bytes (taken_back (header_of h v)) j)
taken_header h blocks c v j x whole all lt few candidate =
    let from = candidate_of_image blocks c (block_of_slot h 0) j x whole lt few candidate in
    let at = at_header h blocks c from.0 whole lt from.1 in
    elim (all from.0 from.1).header [
      | inl same ↦ inl (from.2 ∙ ap (λ (p : List ℕ). sector_bytes p j) (sym at ∙ same))
      | inr back ↦ inr (from.2 ∙ ap (λ (p : List ℕ). sector_bytes p j) (sym at ∙ back))
    ]

no_header : (h : Hardware) (v : disk.DiskImage) → blocks_of v ≤ block_of_slot h 0 → header_of h v ≡ zero_page
no_header h v past = cond-false (ltb (block_of_slot h 0) (blocks_of v)) (block v (block_of_slot h 0)) zero_page (le-ltb (block_of_slot h 0) (blocks_of v) past)

off_disk : (h : Hardware) (v w : disk.DiskImage) → blocks_of v ≤ block_of_slot h 0 → length w ≡ length v → header_of h w ≡ header_of h v
off_disk h v w past size = no_header h w (omega arith) ∙ sym (no_header h v past)

-- Inside a call between two such disks a crash leaves such an image.
pub taken_inside : (h : Hardware) (blocks : ℕ) (c c' : disk.Content) (v w : disk.DiskImage) → disk.IsContent blocks c → disk.IsContent blocks c' → disk.IsContent blocks (disk.settled v) → AreTakenBack h v c → AreTakenBack h v c' → disk.IsMixture c c' w → IsSameOrTakenBack h v w
taken_inside h blocks c c' v w whole after first all all' mixed =
    let n = whole.size in
    let m = first.size in
    let size = mixed.size in
    let v_size = length-settled v in
    record {
      size = omega arith;
      others = λ b lt apart. block-same w v b (omega arith)
          (λ j few. elim (mixed.each (8 * b + j) (omega arith)) [
            | inl was ↦ taken_sector h blocks c v b j (get_or w (8 * b + j) []) whole first all (omega arith) apart few was
            | inr now ↦ taken_sector h blocks c' v b j (get_or w (8 * b + j) []) after first all' (omega arith) apart few now
          ]);
      header = elim (cases_lt (block_of_slot h 0) blocks) [
        | inr past ↦ inl (off_disk h v w (omega arith) (omega arith))
        | inl lt ↦
            let b = block_of_slot h 0 in
            let p = header_of h v in
            let itself = subst (disk.IsImage (disk.settled v)) (as_it_reads-settled v) (IsImage-as_it_reads blocks (disk.settled v) first) in
            let page : IsPage p = subst IsPage (sym (at_header h blocks (disk.settled v) v first lt itself)) (length-block blocks (disk.settled v) v b first itself lt) in
            let at : header_of h w ≡ block w b = header_is h w (omega arith) in
            elim (either_whole w b 7 p (taken_back p) page (length-taken_back p page) (omega arith) (taken_back_within p page) (omega arith)
            (λ j few. elim (mixed.each (8 * b + j) (omega arith)) [
              | inl was ↦ taken_header h blocks c v j (get_or w (8 * b + j) []) whole all lt few was
              | inr now ↦ taken_header h blocks c' v j (get_or w (8 * b + j) []) after all' lt few now
            ])) [
              | inl same ↦ inl (at ∙ same)
              | inr back ↦ inr (at ∙ back)
            ]
      ];
    }

-- the image itself
pub taken_itself : (h : Hardware) (v w : disk.DiskImage) → w ≡ v → IsSameOrTakenBack h v w
taken_itself h v w e = record { size = ap length e; others = λ b lt apart. ap (λ (u : disk.DiskImage). block u b) e; header = inl (ap (header_of h) e) }

-- After a call over a disk whose every image is v, by which block(0) alone is written, and taken back at most.
pub taken_after : (h : Hardware) (blocks : ℕ) (c c' : disk.Content) (v : disk.DiskImage) → disk.IsContent blocks c → disk.IsContent blocks c' → disk.IsContent blocks (disk.settled v) → EachImage c (λ u. u ≡ v) → ((b : ℕ) → b ≢ block_of_slot h 0 → LeavesBlock b c c') → KeepsHeaderOrTakesBack h c c' → AreTakenBack h v c'
taken_after h blocks c c' v whole after first one others header = λ w in'.
    let n = whole.size in
    let m = first.size in
    let n' = after.size in
    let size = in'.size in
    let v_size = length-settled v in
    let left = header w in' in
    let same : left.0 ≡ v = one left.0 left.1 in
    record {
      size = omega arith;
      others = λ b lt apart. block-same w v b (omega arith)
          (λ j few. taken_sector h blocks c v b j (get_or w (8 * b + j) []) whole first (λ u in_u. taken_itself h v u (one u in_u)) (omega arith) apart few
          (left_candidate blocks b (8 * b + j) c c' (get_or w (8 * b + j) []) after (others b apart) (omega arith) (omega arith) (omega arith) (in'.chosen (8 * b + j) (omega arith))));
      header = elim left.2 [
        | inl is ↦ inl (is ∙ ap (header_of h) same)
        | inr back ↦ inr (back ∙ ap (λ (u : disk.DiskImage). taken_back (header_of h u)) same)
      ];
    }
