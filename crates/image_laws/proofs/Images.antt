-- Images after a write: those of the disk before, but for the written block.
use Rattle.std.proofs.Common.{◌≡◌, ◌≢◌, ℕ, ◌+◌, ◌*◌, ◌/◌, ◌%◌, ◌<◌, ◌≤◌, ◌⊎◌, inl, inr, zero-add, Bool, true, false, cond, eqb, Contains, List, [], length, get_or, map, refl, sym, ap, ◌∙◌, subst, arith}
use Rattle.std.specs.List.{range_with_len}
use Rattle.std.proofs.lemmas.Bool.{cases_eq, cases_lt, cond-true, cond-false, eq-eqb, ne_eqb}
use Rattle.std.proofs.lemmas.List.{get_or_past}
use Rattle.std.proofs.lemmas.List.FromFn.{length-map-range_with_len, get_or-map-range_with_len}
use Rattle.definitions.specs.Bytes.{IsPage, AgreeBut}
use Rattle.definitions.specs.Disk.{Content, DiskImage, Sector, no_sector, IsContent, IsImage, as_it_reads, block, sector, sector_bytes, SameOutside}
use Rattle.definitions.proofs.DiskLaws.{length-as_it_reads, IsImage-as_it_reads, block-same}
use Rattle.image_laws.specs.ImageBlocks.{Tries}
use Rattle.image_laws.proofs.ImageBlocks.{failed, earlier_or_written, candidate_of_image, same_sector, sector_of_block, block_of_sectors, long}

-- the two have the same blocks but x
pub record SameBut (x : ℕ) (v w : DiskImage) : Type 0 where
  pub size : length v ≡ length w
  pub others : (b : ℕ) → b ≢ x → block v b ≡ block w b

-- an image with the sectors of block x as the disk reads
abbrev with_live : Content → ℕ → DiskImage → DiskImage
with_live c x v = map (λ s. cond (eqb (s / 8) x) (sector c s).live (get_or v s [])) (range_with_len 0 (length v))

length-with_live : (c : Content) (x : ℕ) (v : DiskImage) → length (with_live c x v) ≡ length v
length-with_live c x v = length-map-range_with_len (λ s. cond (eqb (s / 8) x) (sector c s).live (get_or v s [])) 0 (length v)

get_or-with_live : (c : Content) (x : ℕ) (v : DiskImage) (s : ℕ) → s < length v → get_or (with_live c x v) s [] ≡ cond (eqb (s / 8) x) (sector c s).live (get_or v s [])
get_or-with_live c x v s lt = get_or-map-range_with_len (λ i. cond (eqb (i / 8) x) (sector c i).live (get_or v i [])) 0 (length v) s s [] lt (zero-add s)

with_live-here : (c : Content) (x : ℕ) (v : DiskImage) (s : ℕ) → s < length v → s / 8 ≡ x → get_or (with_live c x v) s [] ≡ (sector c s).live
with_live-here c x v s lt here = get_or-with_live c x v s lt ∙ cond-true (eqb (s / 8) x) (sector c s).live (get_or v s []) (eq-eqb (s / 8) x here)

with_live-other : (c : Content) (x : ℕ) (v : DiskImage) (s : ℕ) → s / 8 ≢ x → get_or (with_live c x v) s [] ≡ get_or v s []
with_live-other c x v s apart = elim (cases_lt s (length v)) [
  | inl lt ↦ get_or-with_live c x v s lt ∙ cond-false (eqb (s / 8) x) (sector c s).live (get_or v s []) (ne_eqb (s / 8) x apart)
  | inr past ↦ get_or_past (with_live c x v) s [] (let size = length-with_live c x v in omega arith) ∙ sym (get_or_past v s [] (omega arith))
]

-- a sector of another block is as before
sector_outside : (x s : ℕ) (old new : Content) → SameOutside x old new → s / 8 ≢ x → sector new s ≡ sector old s
sector_outside x s old new others apart = elim (cases_lt s (8 * x)) [
  | inl below ↦ others.below s below
  | inr above ↦ others.above s (omega arith)
]

with_live-image : (blocks x : ℕ) (old new : Content) (v : DiskImage) → IsContent blocks old → SameOutside x old new → IsImage new v → IsImage old (with_live old x v)
with_live-image blocks x old new v whole others is =
    let size = is.size in
    let same = others.size in
    record {
      size = length-with_live old x v ∙ size ∙ same;
      chosen = λ s lt. elim (cases_eq (s / 8) x) [
        | inl here ↦ subst (λ (y : List ℕ). Contains (sector old s).candidates y) (sym (with_live-here old x v s (omega arith) here)) (whole.sectors s no_sector lt).live
        | inr apart ↦
            subst (λ (y : List ℕ). Contains (sector old s).candidates y) (sym (with_live-other old x v s apart))
            (subst (λ (t : Sector). Contains t.candidates (get_or v s [])) (sector_outside x s old new others apart) (is.chosen s (omega arith)))
      ];
    }

-- Each image after a write of block x, failed or not, has the other blocks as some image before it.
pub earlier_image : (blocks x : ℕ) (page : List ℕ) (old new : Content) (v : DiskImage) → IsContent blocks old → Tries x page old new → IsImage new v → (w : DiskImage) × IsImage old w × SameBut x v w
earlier_image blocks x page old new v whole tries is =
    let others = (failed x page old new tries).others in (
      with_live old x v,
      with_live-image blocks x old new v whole others is,
      record {
        size = sym (length-with_live old x v);
        others = λ b apart. block-same v (with_live old x v) b (sym (length-with_live old x v))
            (λ j few. sym (with_live-other old x v (8 * b + j) (λ e. apart (omega arith))));
      },
    )

-- A write within sector 7, over blocks that differ from the page in that sector alone.

abbrev AgreeIn : Content → ℕ → List ℕ → Type 0
AgreeIn c b page = (w : DiskImage) → IsImage c w → AgreeBut 3584 4096 (block w b) page

-- each candidate of another sector has the page's bytes
front_candidate : (blocks b : ℕ) (page : List ℕ) (c : Content) (j : ℕ) (x : List ℕ) → IsContent blocks c → b < blocks → AgreeIn c b page → j < 8 → j ≢ 7 → Contains (sector c (8 * b + j)).candidates x → x ≡ sector_bytes page j
front_candidate blocks b page c j x whole lt agree few apart candidate =
    let from = candidate_of_image blocks c b j x whole lt few candidate in
    from.2 ∙ same_sector (block from.0 b) page 7 j (agree from.0 from.1) apart

front_written : (blocks b : ℕ) (page : List ℕ) (old new : Content) (v : DiskImage) (j : ℕ) → IsContent blocks old → b < blocks → Tries b page old new → AgreeIn old b page → IsImage new v → j < 8 → j ≢ 7 → get_or v (8 * b + j) [] ≡ sector_bytes page j
front_written blocks b page old new v j whole lt tries agree is few apart =
    let fails = failed b page old new tries in
    let size = whole.size in
    let same = fails.others.size in
    elim (earlier_or_written (sector old (8 * b + j)) (sector new (8 * b + j)) (sector_bytes page j) (get_or v (8 * b + j) []) (fails.within j few) (is.chosen (8 * b + j) (omega arith))) [
      | inl earlier ↦ front_candidate blocks b page old j (get_or v (8 * b + j) []) whole lt agree few apart earlier
      | inr written ↦ written
    ]

-- an image whose sector 7 of the block is an earlier candidate is an image of before
still_image : (blocks b : ℕ) (page : List ℕ) (old new : Content) (v : DiskImage) → IsContent blocks old → b < blocks → Tries b page old new → AgreeIn old b page → IsImage new v → Contains (sector old (8 * b + 7)).candidates (get_or v (8 * b + 7) []) → IsImage old v
still_image blocks b page old new v whole lt tries agree is last =
    let others = (failed b page old new tries).others in
    let size = whole.size in
    let same = others.size in
    let v_size = is.size in
    record {
      size = v_size ∙ same;
      chosen = λ s s_lt. elim (cases_eq (s / 8) b) [
        | inr apart ↦ subst (λ (t : Sector). Contains t.candidates (get_or v s [])) (sector_outside b s old new others apart) (is.chosen s (omega arith))
        | inl here ↦
            let place : 8 * b + s % 8 ≡ s = omega arith in
            subst (λ (k : ℕ). Contains (sector old k).candidates (get_or v k [])) place (elim (cases_eq (s % 8) 7) [
              | inl end ↦ subst (λ (j : ℕ). Contains (sector old (8 * b + j)).candidates (get_or v (8 * b + j) [])) (sym end) last
              | inr front ↦
                  let live : Contains (sector old (8 * b + s % 8)).candidates (sector old (8 * b + s % 8)).live = (whole.sectors (8 * b + s % 8) no_sector (omega arith)).live in
                  let written = front_written blocks b page old new v (s % 8) whole lt tries agree is (omega arith) front in
                  let reads = front_candidate blocks b page old (s % 8) (sector old (8 * b + s % 8)).live whole lt agree (omega arith) front live in
                  subst (λ (y : List ℕ). Contains (sector old (8 * b + s % 8)).candidates y) (reads ∙ sym written) live
            ])
      ];
    }

-- Each image after the write, failed or not, is one of before, or has the page there and the other blocks as one of before.
pub torn_image : (blocks b : ℕ) (page : List ℕ) (old new : Content) (v : DiskImage) → IsContent blocks old → b < blocks → IsPage page → Tries b page old new → ((w : DiskImage) → IsImage old w → AgreeBut 3584 4096 (block w b) page) → IsImage new v →
    IsImage old v ⊎ ((block v b ≡ page) × ((w : DiskImage) × IsImage old w × SameBut b v w))
torn_image blocks b page old new v whole lt is_page tries agree is =
    let fails = failed b page old new tries in
    let size = whole.size in
    let same = fails.others.size in
    let v_size = is.size in
    elim (earlier_or_written (sector old (8 * b + 7)) (sector new (8 * b + 7)) (sector_bytes page 7) (get_or v (8 * b + 7) []) (fails.within 7 (omega arith)) (is.chosen (8 * b + 7) (omega arith))) [
      | inl earlier ↦ inl (still_image blocks b page old new v whole lt tries agree is earlier)
      | inr written ↦ inr (
        block_of_sectors v b page is_page (omega arith)
            (λ j few. elim (cases_eq j 7) [
              | inl end ↦ subst (λ (i : ℕ). get_or v (8 * b + i) [] ≡ sector_bytes page i) (sym end) written
              | inr front ↦ front_written blocks b page old new v j whole lt tries agree is few front
            ]),
        earlier_image blocks b page old new v whole tries is,
      )
    ]
