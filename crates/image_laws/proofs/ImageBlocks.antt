-- Laws of a block in the images of a disk, after each of the disk's calls.
use Rattle.std.proofs.Common.{◌≡◌, ◌≢◌, ℕ, ◌+◌, ◌-◌, ◌*◌, ◌<◌, ◌≤◌, ◌⊎◌, min, zero, suc, All, Contains, List, [], ◌∷◌, ◌++◌, length, get_or, set, take, drop, map, refl, sym, ap, ap₂, ◌∙◌, inl, inr, subst, arith, zero-add, mul-zero, mul-suc, append-nil, length-drop, length-set, get_or-set_same, get_or-set_other}
use Rattle.std.specs.List.{concat, range_with_len}
use Rattle.std.proofs.Math.Seq.{take-add}
use Rattle.std.proofs.lemmas.Bool.{cases_eq, cases_order}
use Rattle.std.proofs.lemmas.List.{ext_get_or, get_or-drop, get_or-take, get_or_default, get_or_past, take_all, take_at, drop_at, drop-drop, length-take, length-take-le}
use Rattle.std.proofs.lemmas.Grind.{same_number_lists}
use Rattle.std.proofs.lemmas.List.Elements.{All-contains}
use Rattle.std.proofs.lemmas.List.Folds.{concat-append}
use Rattle.std.proofs.lemmas.List.FromFn.{length-map-range_with_len, get_or-map-range_with_len, map-range_with_len_more}
use Rattle.definitions.specs.Bytes.{IsPage, AgreeBut}
use Rattle.definitions.specs.SwapHeader.{marked, taken_back, orig_sig_of}
use Rattle.definitions.specs.Disk.{Content, DiskImage, Sector, no_sector, IsContent, IsImage, as_it_reads, block, sector, sector_bytes, SameOutside, TakesBytes, Writes, FailsToWrite}
use Rattle.definitions.proofs.DiskLaws.{length-as_it_reads, IsImage-as_it_reads, IsImage-after_sync, IsImage-after_restart}
use Rattle.definitions.proofs.Marks.{get_or-marked_before, length-marked, length-bytes_at}
use Rattle.definitions.proofs.PageBytes.{bytes_at-same, length-with_bytes, get_or-with_bytes_below}
use Rattle.plain_machine.proofs.DiskBlocks.{block-written}
use Rattle.image_laws.specs.ImageBlocks.{AllHave, AllHaveEither, HaveEarlierOr, WrittenBlock, Tries, TornIsEither, CutIsEither, StaysEither, KeptByWrites, KeptInCuts, KeptBySync, KeptByRestart, DurableAfterSync}

-- A block and its eight sectors.

part_of_concat : (n : ℕ) (xss : List (List ℕ)) (j : ℕ) → All (λ xs. length xs ≡ n) xss → j < length xss → take n (drop (n * j) (concat xss)) ≡ get_or xss j []
part_of_concat n [] j each lt = absurd (omega arith)
part_of_concat n (xs ∷ xss) zero each lt = rw mul-zero (take_at xs (concat xss) n (each 0 [] lt))
part_of_concat n (xs ∷ xss) (suc j) each lt =
    let next : n * suc j ≡ n + n * j = omega (arith, mul-suc n j) in
    rw next
    (ap (take n) (sym (drop-drop (n * j) n (xs ++ concat xss)) ∙ ap (drop (n * j)) (drop_at xs (concat xss) n (each 0 [] (omega arith))))
    ∙ part_of_concat n xss j (λ k d below. each (suc k) d (omega arith)) (omega arith))

-- a sector of 512 bytes is its part of the block
pub sector_of_block : (v : DiskImage) (b j : ℕ) → 8 * b + 8 ≤ length v → ((i : ℕ) → i < 8 → length (get_or v (8 * b + i) []) ≡ 512) → j < 8 → sector_bytes (block v b) j ≡ get_or v (8 * b + j) []
unfolding block
sector_of_block v b j within each few =
    let part = take 8 (drop (8 * b) v) in
    let size : length part ≡ 8 = length-take-le 8 (drop (8 * b) v) (omega (arith, length-drop (8 * b) v)) in
    let whole : All (λ xs. length xs ≡ 512) part = λ k d lt.
    (let below : k < 8 = omega arith in
    ap length (get_or_default part k d [] lt ∙ get_or-take 8 (drop (8 * b) v) k [] below ∙ get_or-drop (8 * b) v k []) ∙ each k below) in
    part_of_concat 512 part j whole (omega arith) ∙ get_or-take 8 (drop (8 * b) v) j [] few ∙ get_or-drop (8 * b) v j []

pieces : (page : List ℕ) (n : ℕ) → concat (map (sector_bytes page) (range_with_len 0 n)) ≡ take (512 * n) page
pieces page zero = refl
pieces page (suc n) =
    let one_more : suc n ≡ n + 1 = omega arith in
    let bytes : 512 * n + 512 ≡ 512 * suc n = omega arith in
    ap (λ (k : ℕ). concat (map (sector_bytes page) (range_with_len 0 k))) one_more
    ∙ ap concat (map-range_with_len_more (sector_bytes page) 0 n n (zero-add n))
    ∙ concat-append (map (sector_bytes page) (range_with_len 0 n)) (sector_bytes page n ∷ [])
    ∙ ap₂ (λ (xs ys : List ℕ). xs ++ ys) (pieces page n) (append-nil (sector_bytes page n))
    ∙ sym (take-add (512 * n) 512 page)
    ∙ ap (λ (k : ℕ). take k page) bytes

-- a block whose sectors are a page's is that page
pub block_of_sectors : (v : DiskImage) (b : ℕ) (page : List ℕ) → IsPage page → 8 * b + 8 ≤ length v → ((j : ℕ) → j < 8 → get_or v (8 * b + j) [] ≡ sector_bytes page j) → block v b ≡ page
unfolding block
block_of_sectors v b page whole within each =
    let part = take 8 (drop (8 * b) v) in
    let size : length part ≡ 8 = length-take-le 8 (drop (8 * b) v) (omega (arith, length-drop (8 * b) v)) in
    let parts : part ≡ map (sector_bytes page) (range_with_len 0 8) =
    ext_get_or [] part (map (sector_bytes page) (range_with_len 0 8)) (size ∙ sym (length-map-range_with_len (sector_bytes page) 0 8))
    (λ j lt.
    let few : j < 8 = omega arith in
    get_or-take 8 (drop (8 * b) v) j [] few ∙ get_or-drop (8 * b) v j [] ∙ each j few
    ∙ sym (get_or-map-range_with_len (sector_bytes page) 0 8 j j [] few (zero-add j))) in
    ap concat parts ∙ pieces page 8 ∙ take_all 4096 page (omega arith)

-- Candidates of a sector that every image has so.

pub long : (blocks : ℕ) (c : Content) (v : DiskImage) (s : ℕ) → IsContent blocks c → IsImage c v → s < length c → length (get_or v s []) ≡ 512
long blocks c v s whole is lt =
    All-contains (λ bytes. length bytes ≡ 512) (sector c s).candidates (get_or v s []) (whole.sectors s no_sector lt).each (is.chosen s lt)

-- an image with another candidate in one sector is an image
pub changed_image : (c : Content) (v : DiskImage) (s : ℕ) (x : List ℕ) → IsImage c v → s < length c → Contains (sector c s).candidates x → IsImage c (set v s x)
changed_image c v s x is lt candidate = record {
  size = length-set v s x ∙ is.size;
  chosen = λ i i_lt. elim (cases_eq i s) [
    | inl same ↦
        let here : get_or (set v s x) i [] ≡ x = ap (λ (k : ℕ). get_or (set v s x) k []) same ∙ get_or-set_same v s x [] (let size = is.size in omega arith) in
        let at : Contains (sector c i).candidates x = subst (λ (k : ℕ). Contains (sector c k).candidates x) (sym same) candidate in
        subst (λ (y : List ℕ). Contains (sector c i).candidates y) (sym here) at
    | inr apart ↦ subst (λ (y : List ℕ). Contains (sector c i).candidates y) (sym (get_or-set_other v s i x [] apart)) (is.chosen i i_lt)
  ];
}

-- a candidate of a sector is that sector of the block of some image
pub candidate_of_image : (blocks : ℕ) (c : Content) (b j : ℕ) (x : List ℕ) → IsContent blocks c → b < blocks → j < 8 → Contains (sector c (8 * b + j)).candidates x → (v : DiskImage) × IsImage c v × (x ≡ sector_bytes (block v b) j)
candidate_of_image blocks c b j x whole lt few candidate =
    let v = as_it_reads c in
    let size = whole.size in
    let reads = length-as_it_reads c in
    let inside : 8 * b + j < length c = omega arith in
    let w = set v (8 * b + j) x in
    let is : IsImage c w = changed_image c v (8 * b + j) x (IsImage-as_it_reads blocks c whole) inside candidate in
    let w_size = is.size in (
      w,
      is,
      sym (get_or-set_same v (8 * b + j) x [] (omega arith))
          ∙ sym (sector_of_block w b j (omega arith) (λ i below. long blocks c w (8 * b + i) whole is (omega arith)) few),
    )

-- where every image has the page in a block, each candidate is the page's bytes
only_candidate : (blocks : ℕ) (c : Content) (b : ℕ) (page : List ℕ) (j : ℕ) (x : List ℕ) → IsContent blocks c → b < blocks → AllHave c b page → j < 8 → Contains (sector c (8 * b + j)).candidates x → x ≡ sector_bytes page j
only_candidate blocks c b page j x whole lt all few candidate =
    let from = candidate_of_image blocks c b j x whole lt few candidate in
    from.2 ∙ ap (λ (p : List ℕ). sector_bytes p j) (all from.0 from.1)

either_candidate : (blocks : ℕ) (c : Content) (b : ℕ) (p q : List ℕ) (j : ℕ) (x : List ℕ) → IsContent blocks c → b < blocks → AllHaveEither c b p q → j < 8 → Contains (sector c (8 * b + j)).candidates x → (x ≡ sector_bytes p j) ⊎ (x ≡ sector_bytes q j)
either_candidate blocks c b p q j x whole lt all few candidate =
    let from = candidate_of_image blocks c b j x whole lt few candidate in
    elim (all from.0 from.1) [
      | inl is ↦ inl (from.2 ∙ ap (λ (y : List ℕ). sector_bytes y j) is)
      | inr is ↦ inr (from.2 ∙ ap (λ (y : List ℕ). sector_bytes y j) is)
    ]

-- [written]

earlier_or : (blocks b : ℕ) (page : List ℕ) (old new : Content) → IsContent blocks old → b < blocks → Writes b page old new → HaveEarlierOr old new b page
earlier_or blocks b page old new whole lt writes v is j few =
    let size = whole.size in
    let same = writes.others.size in
    (writes.within j few).candidates (get_or v (8 * b + j) []) (is.chosen (8 * b + j) (omega arith))

pub written_block : (b : ℕ) (page : List ℕ) → IsPage page → WrittenBlock b page
written_block b page whole blocks old new content lt writes =
    let size = content.size in
    record { reads = block-written b page old new whole (omega arith) writes; images = earlier_or blocks b page old new content lt writes }

-- [torn]

pub failed : (b : ℕ) (page : List ℕ) (old new : Content) → Tries b page old new → FailsToWrite b page old new
failed b page old new (inl writes) = record { others = writes.others; within = λ j few. inr (writes.within j few) }
failed b page old new (inr fails) = fails

pub earlier_or_written : (old new : Sector) (bytes x : List ℕ) → (new ≡ old) ⊎ TakesBytes bytes old new → Contains new.candidates x → Contains old.candidates x ⊎ (x ≡ bytes)
earlier_or_written old new bytes x (inl same) candidate = inl (subst (λ (s : Sector). Contains s.candidates x) same candidate)
earlier_or_written old new bytes x (inr takes) candidate = takes.candidates x candidate

-- the bytes of a sector that are p's or q's
abbrev AreEither : DiskImage → ℕ → List ℕ → List ℕ → ℕ → Type 0
AreEither v b p q j = (get_or v (8 * b + j) [] ≡ sector_bytes p j) ⊎ (get_or v (8 * b + j) [] ≡ sector_bytes q j)

-- a candidate of a sector after a write of q over p
written_candidate : (blocks b : ℕ) (p q : List ℕ) (old new : Content) (j : ℕ) (x : List ℕ) → IsContent blocks old → b < blocks → AllHave old b p → FailsToWrite b q old new → j < 8 → Contains (sector new (8 * b + j)).candidates x → (x ≡ sector_bytes p j) ⊎ (x ≡ sector_bytes q j)
written_candidate blocks b p q old new j x whole lt all fails few candidate =
    elim (earlier_or_written (sector old (8 * b + j)) (sector new (8 * b + j)) (sector_bytes q j) x (fails.within j few) candidate) [
      | inl earlier ↦ inl (only_candidate blocks old b p j x whole lt all few earlier)
      | inr written ↦ inr written
    ]

pub same_sector : (p q : List ℕ) (k j : ℕ) → AgreeBut (512 * k) (512 * k + 512) p q → j ≢ k → sector_bytes p j ≡ sector_bytes q j
same_sector p q k j agree apart =
    bytes_at-same 512 p q (512 * j) agree.size (λ i le lt. elim (cases_order j k) [
      | inl same ↦ absurd (apart same)
      | inr order ↦ elim order [
        | inl below ↦ agree.before i (omega arith)
        | inr above ↦ agree.after i (omega arith)
      ]
    ])

-- Where p and q differ within sector k alone, a block whose sectors are p's or q's is p or q.
pub either_whole : (v : DiskImage) (b k : ℕ) (p q : List ℕ) → IsPage p → IsPage q → k < 8 → AgreeBut (512 * k) (512 * k + 512) p q → 8 * b + 8 ≤ length v → ((j : ℕ) → j < 8 → AreEither v b p q j) → (block v b ≡ p) ⊎ (block v b ≡ q)
either_whole v b k p q p_whole q_whole k_lt agree within each =
    let apart_p : (j : ℕ) → j < 8 → j ≢ k → get_or v (8 * b + j) [] ≡ sector_bytes p j = λ j few apart.
    elim (each j few) [ inl old_bytes ↦ old_bytes | inr new_bytes ↦ new_bytes ∙ sym (same_sector p q k j agree apart) ] in
    elim (each k k_lt) [
      | inl old_bytes ↦ inl (block_of_sectors v b p p_whole within (λ j few. elim (cases_eq j k) [
        | inl here ↦ subst (λ (i : ℕ). get_or v (8 * b + i) [] ≡ sector_bytes p i) (sym here) old_bytes
        | inr apart ↦ apart_p j few apart
      ]))
      | inr new_bytes ↦ inr (block_of_sectors v b q q_whole within (λ j few. elim (cases_eq j k) [
        | inl here ↦ subst (λ (i : ℕ). get_or v (8 * b + i) [] ≡ sector_bytes q i) (sym here) new_bytes
        | inr apart ↦ apart_p j few apart ∙ same_sector p q k j agree apart
      ]))
    ]

-- a page that differs within one sector is written whole or not at all
pub torn_is_either : (p q : List ℕ) (k : ℕ) → IsPage p → IsPage q → k < 8 → AgreeBut (512 * k) (512 * k + 512) p q → TornIsEither p q
torn_is_either p q k p_whole q_whole k_lt agree blocks b old new whole lt all wrote v is =
    let fails = failed b q old new wrote in
    let size = whole.size in
    let same = fails.others.size in
    let v_size = is.size in
    either_whole v b k p q p_whole q_whole k_lt agree (omega arith)
    (λ j few. written_candidate blocks b p q old new j (get_or v (8 * b + j) []) whole lt all fails few (is.chosen (8 * b + j) (omega arith)))

pub cut_is_either : (p q : List ℕ) (k : ℕ) → IsPage p → IsPage q → k < 8 → AgreeBut (512 * k) (512 * k + 512) p q → CutIsEither p q
cut_is_either p q k p_whole q_whole k_lt agree blocks b old new whole lt all wrote v is =
    let fails = failed b q old new wrote in
    let size = whole.size in
    let v_size = is.size in
    either_whole v b k p q p_whole q_whole k_lt agree (omega arith)
    (λ j few. elim (is.each (8 * b + j) (omega arith)) [
      | inl before ↦ inl (only_candidate blocks old b p j (get_or v (8 * b + j) []) whole lt all few before)
      | inr after ↦ written_candidate blocks b p q old new j (get_or v (8 * b + j) []) whole lt all fails few after
    ])

-- the bytes of a sector in an image after another write of p or of q
tried_sector : (blocks b : ℕ) (p q : List ℕ) (old new : Content) (j : ℕ) (x : List ℕ) → IsContent blocks old → b < blocks → AllHaveEither old b p q → Tries b p old new ⊎ Tries b q old new → j < 8 → Contains (sector new (8 * b + j)).candidates x → (x ≡ sector_bytes p j) ⊎ (x ≡ sector_bytes q j)
tried_sector blocks b p q old new j x whole lt all (inl tries) few candidate =
    elim (earlier_or_written (sector old (8 * b + j)) (sector new (8 * b + j)) (sector_bytes p j) x ((failed b p old new tries).within j few) candidate) [
      | inl earlier ↦ either_candidate blocks old b p q j x whole lt all few earlier
      | inr written ↦ inl written
    ]
tried_sector blocks b p q old new j x whole lt all (inr tries) few candidate =
    elim (earlier_or_written (sector old (8 * b + j)) (sector new (8 * b + j)) (sector_bytes q j) x ((failed b q old new tries).within j few) candidate) [
      | inl earlier ↦ either_candidate blocks old b p q j x whole lt all few earlier
      | inr written ↦ inr written
    ]

size_kept : (b : ℕ) (p q : List ℕ) (old new : Content) → Tries b p old new ⊎ Tries b q old new → length new ≡ length old
size_kept b p q old new (inl tries) = (failed b p old new tries).others.size
size_kept b p q old new (inr tries) = (failed b q old new tries).others.size

pub stays_either : (p q : List ℕ) (k : ℕ) → IsPage p → IsPage q → k < 8 → AgreeBut (512 * k) (512 * k + 512) p q → StaysEither p q
stays_either p q k p_whole q_whole k_lt agree blocks b old new whole lt all tries v is =
    let size = whole.size in
    let same = size_kept b p q old new tries in
    let v_size = is.size in
    either_whole v b k p q p_whole q_whole k_lt agree (omega arith)
    (λ j few. tried_sector blocks b p q old new j (get_or v (8 * b + j) []) whole lt all tries few (is.chosen (8 * b + j) (omega arith)))

-- the mark's fields lie in the last sector
pub marked_within : (page : List ℕ) (first flags hw : ℕ) → IsPage page → AgreeBut 3584 4096 page (marked page first flags hw)
marked_within page first flags hw whole =
    let size = length-marked page first flags hw whole in
    record {
      size = whole ∙ sym size;
      before = λ i lt. sym (get_or-marked_before page first flags hw i whole (omega arith));
      after = λ i le. get_or_past page i 0 (omega arith) ∙ sym (get_or_past (marked page first flags hw) i 0 (omega arith));
    }

pub torn_mark : (page : List ℕ) (first flags hw : ℕ) → IsPage page → TornIsEither page (marked page first flags hw)
torn_mark page first flags hw whole =
    torn_is_either page (marked page first flags hw) 7 whole (length-marked page first flags hw whole) (omega arith) (marked_within page first flags hw whole)

pub cut_mark : (page : List ℕ) (first flags hw : ℕ) → IsPage page → CutIsEither page (marked page first flags hw)
cut_mark page first flags hw whole =
    cut_is_either page (marked page first flags hw) 7 whole (length-marked page first flags hw whole) (omega arith) (marked_within page first flags hw whole)

pub mark_stays : (page : List ℕ) (first flags hw : ℕ) → IsPage page → StaysEither page (marked page first flags hw)
mark_stays page first flags hw whole =
    stays_either page (marked page first flags hw) 7 whole (length-marked page first flags hw whole) (omega arith) (marked_within page first flags hw whole)

pub length-taken_back : (page : List ℕ) → IsPage page → IsPage (taken_back page)
unfolding taken_back
length-taken_back page whole =
    let sig = length-bytes_at 10 page 4076 (omega arith) in
    length-with_bytes page 4086 (orig_sig_of page) (omega arith) ∙ whole

taken_back_before : (page : List ℕ) (i : ℕ) → IsPage page → i < 3584 → get_or (taken_back page) i 0 ≡ get_or page i 0
unfolding taken_back
taken_back_before page i whole lt =
    let sig = length-bytes_at 10 page 4076 (omega arith) in
    get_or-with_bytes_below page 4086 (orig_sig_of page) i 0 (omega arith) (omega arith)

pub taken_back_within : (page : List ℕ) → IsPage page → AgreeBut 3584 4096 page (taken_back page)
taken_back_within page whole =
    let size = length-taken_back page whole in
    record {
      size = whole ∙ sym size;
      before = λ i lt. sym (taken_back_before page i whole lt);
      after = λ i le. get_or_past page i 0 (omega arith) ∙ sym (get_or_past (taken_back page) i 0 (omega arith));
    }

pub torn_take_back : (page : List ℕ) → IsPage page → TornIsEither page (taken_back page)
torn_take_back page whole = torn_is_either page (taken_back page) 7 whole (length-taken_back page whole) (omega arith) (taken_back_within page whole)

pub cut_take_back : (page : List ℕ) → IsPage page → CutIsEither page (taken_back page)
cut_take_back page whole = cut_is_either page (taken_back page) 7 whole (length-taken_back page whole) (omega arith) (taken_back_within page whole)

pub take_back_stays : (page : List ℕ) → IsPage page → StaysEither page (taken_back page)
take_back_stays page whole = stays_either page (taken_back page) 7 whole (length-taken_back page whole) (omega arith) (taken_back_within page whole)

-- [kept]

other_sector : (b c j : ℕ) (old new : Content) → SameOutside b old new → b ≢ c → j < 8 → sector new (8 * c + j) ≡ sector old (8 * c + j)
other_sector b c j old new same apart few =
    elim (cases_order b c) [
      | inl e ↦ absurd (apart e)
      | inr order ↦ elim order [
        | inl above ↦ same.above (8 * c + j) (omega arith)
        | inr below ↦ same.below (8 * c + j) (omega arith)
      ]
    ]

-- a candidate of a sector of a block, after a write of another one
kept_candidate : (blocks b other : ℕ) (page : List ℕ) (old new : Content) (j : ℕ) (x : List ℕ) → IsContent blocks old → b < blocks → other ≢ b → AllHave old b page → SameOutside other old new → j < 8 → Contains (sector new (8 * b + j)).candidates x → x ≡ sector_bytes page j
kept_candidate blocks b other page old new j x whole lt apart all same few candidate =
    only_candidate blocks old b page j x whole lt all few
    (subst (λ (s : Sector). Contains s.candidates x) (other_sector other b j old new same apart few) candidate)

pub kept_by_writes : (b : ℕ) (page : List ℕ) → IsPage page → KeptByWrites b page
kept_by_writes b page p_whole blocks other written old new whole lt apart all wrote v is =
    let fails = failed other written old new wrote in
    let size = whole.size in
    let same = fails.others.size in
    let v_size = is.size in
    block_of_sectors v b page p_whole (omega arith) (λ j few.
    kept_candidate blocks b other page old new j (get_or v (8 * b + j) []) whole lt apart all fails.others few (is.chosen (8 * b + j) (omega arith)))

pub kept_in_cuts : (b : ℕ) (page : List ℕ) → IsPage page → KeptInCuts b page
kept_in_cuts b page p_whole blocks other written old new whole lt apart all wrote v is =
    let fails = failed other written old new wrote in
    let size = whole.size in
    let v_size = is.size in
    block_of_sectors v b page p_whole (omega arith) (λ j few. elim (is.each (8 * b + j) (omega arith)) [
      | inl before ↦ only_candidate blocks old b page j (get_or v (8 * b + j) []) whole lt all few before
      | inr after ↦ kept_candidate blocks b other page old new j (get_or v (8 * b + j) []) whole lt apart all fails.others few after
    ])

pub kept_by_sync : (b : ℕ) (page : List ℕ) → KeptBySync b page
kept_by_sync b page blocks old new whole all syncs v is =
    ap (λ (w : DiskImage). block w b) (IsImage-after_sync old new v syncs is) ∙ all (as_it_reads old) (IsImage-as_it_reads blocks old whole)

pub kept_by_restart : (b : ℕ) (page : List ℕ) → KeptByRestart b page
kept_by_restart b page old new all restarts v is =
    let left = IsImage-after_restart old new restarts in
    ap (λ (w : DiskImage). block w b) (left.2 v is) ∙ all left.0 left.1

-- [durable]

pub durable_after_sync : (b : ℕ) (page : List ℕ) → IsPage page → DurableAfterSync b page
durable_after_sync b page p_whole blocks old written synced whole lt writes syncs v is =
    let size = whole.size in
    ap (λ (w : DiskImage). block w b) (IsImage-after_sync written synced v syncs is) ∙ block-written b page old written p_whole (omega arith) writes
