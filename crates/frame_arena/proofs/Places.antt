-- Page frames whose pages lie in places: what is seen of them after each write, and that what holds of the places stays.
use Rattle.std.proofs.Common.{◌≡◌, ◌≢◌, ◌<◌, ◌≤◌, ◌+◌, ◌^◌, ℕ, zero, suc, nat_le, cond, List, [], ◌∷◌, ◌++◌, length, take, get_or, set, replicate, refl, sym, ap, subst, ◌∙◌, inl, inr, arith}
use Rattle.std.proofs.lemmas.List.{ext_get_or, get_or-map, get_or_default, length-map, length-set, get_or-set_same, get_or-set_other, set-get_or, get_or_append_left, get_or_push, length-append, get_or-replicate, length-replicate, get_or-take, length-take-le}
use Rattle.std.proofs.lemmas.List.Sums.{sum_by-set, count_by-le-length}
use Rattle.std.proofs.lemmas.Bool.{cases_eq}
use Rattle.std.proofs.lemmas.Bool.Decides.{nat_tests}
use Rattle.std.specs.List.{All, sum_by}
use Rattle.definitions.specs.Bytes.{IsPage, zero_page, filled_page}
use Rattle.definitions.specs.Tables.{frame, with_frame}
use Rattle.frame_arena.specs.Whole.{whole}
use Rattle.frame_arena.specs.Places.{page_in, contents, shared_page, own_count, AreKept}
use Rattle.frame_arena.proofs.Whole.{whole_of_page, page_of_whole, page_of_shared}

-- What is seen of the page frames.

pub length-contents : (places : List ℕ) (pages : List (List ℕ)) → length (contents places pages) ≡ length places
unfolding contents
length-contents places pages = length-map places (page_in pages)

pub frame-contents : (places : List ℕ) (pages : List (List ℕ)) (p : ℕ) → p < length places → frame (contents places pages) p ≡ page_in pages (get_or places p 0)
unfolding contents
frame-contents places pages p lt = get_or-map (page_in pages) places p 0 [] lt

pub contents_pages : (places : List ℕ) (pages : List (List ℕ)) → All IsPage (contents places pages)
unfolding contents
contents_pages places pages k d lt =
    let inside : k < length places = subst (λ (n : ℕ). k < n) (length-map places (page_in pages)) lt in
    subst IsPage (sym (get_or-map (page_in pages) places k 0 d inside)) (page_of_whole (get_or pages (get_or places k 0) []))

-- Two that have the same in each page frame are the same.
same_contents : (frames others : List (List ℕ)) (n : ℕ) → length frames ≡ n → length others ≡ n → ((p : ℕ) → p < n → frame frames p ≡ frame others p) → frames ≡ others
same_contents frames others n size same each = ext_get_or [] frames others (size ∙ sym same) (λ p lt. each p (subst (λ (m : ℕ). p < m) size lt))

-- how much a page frame counts among those with a page of their own
mark : ℕ → ℕ
mark place = cond (nat_le 2 place) 1 0

mark_own : (place : ℕ) → 2 ≤ place → mark place ≡ 1
unfolding mark
mark_own place le = grind (arith, nat_tests)

mark_shared : (place : ℕ) → place < 2 → mark place ≡ 0
unfolding mark
mark_shared place lt = grind (arith, nat_tests)

marks : (places : List ℕ) → own_count places ≡ sum_by mark places
unfolding mark
marks places = refl

none_own : (n : ℕ) → own_count (replicate n 0) ≡ 0
none_own zero = refl
none_own (suc n) = none_own n

-- a shared page is whole
pub whole_of_shared : (place : ℕ) → whole (shared_page place) ≡ shared_page place
whole_of_shared place = whole_of_page (shared_page place) (page_of_shared place)

module _ (places : List ℕ) (pages : List (List ℕ)) (capacity : ℕ) (kept : AreKept places pages capacity) where
  pub some : 2 ≤ length pages
  some = let counted = kept.counted in omega arith

  pub shared_inside : (place : ℕ) → place < 2 → place < length pages
  shared_inside place lt = let two = some in omega arith

  -- a shared place as it is read
  pub shared_in : (place : ℕ) → place < 2 → (page : List ℕ) → page ≡ get_or pages place page → page ≡ shared_page place
  shared_in place lt page is = is ∙ get_or_default pages place page [] (shared_inside place lt) ∙ kept.shared place lt

  page_in-shared : (place : ℕ) → place < 2 → page_in pages place ≡ shared_page place
  page_in-shared place lt = ap whole (kept.shared place lt) ∙ whole_of_shared place

  -- a page frame in a shared place is seen as the page there
  pub seen_shared : (p : ℕ) → p < length places → (place : ℕ) → place < 2 → get_or places p 0 ≡ place → frame (contents places pages) p ≡ shared_page place
  seen_shared p lt place shared at = frame-contents places pages p lt ∙ ap (page_in pages) at ∙ page_in-shared place shared

  -- there is room for the page of a page frame that shares one
  pub room_for_one : (p : ℕ) → p < length places → get_or places p 0 < 2 → length pages < capacity
  room_for_one p lt at =
      let counted = kept.counted in
      let room = kept.room in
      let more : sum_by mark (set places p 2) + mark (get_or places p 0) ≡ sum_by mark places + mark 2 = sum_by-set mark places p 2 0 lt in
      let all : own_count (set places p 2) ≤ length (set places p 2) = count_by-le-length (nat_le 2) (set places p 2) in
      let size : length (set places p 2) ≡ length places = length-set places p 2 in
      let none : mark (get_or places p 0) ≡ 0 = mark_shared (get_or places p 0) at in
      let one : mark 2 ≡ 1 = mark_own 2 (omega arith) in
      let same = marks places in
      let then_same = marks (set places p 2) in
      omega arith

  -- the place of a page frame that gets a page of its own fits a number of the table
  pub few_pages : (p : ℕ) → p < length places → get_or places p 0 < 2 → length pages < 2 ^ 32
  few_pages p lt at =
      let below = room_for_one p lt at in
      let room = kept.room in
      let few = kept.few in
      omega arith

  -- The page of a page frame is written over in its own place.

  other_place : (p q : ℕ) → p < length places → q < length places → 2 ≤ get_or places p 0 → q ≢ p → get_or places q 0 ≢ get_or places p 0
  other_place p q lt below own apart same = apart (sym (kept.apart p q lt below (sym same) own))

  pub contents_written : (p : ℕ) (page : List ℕ) → p < length places → 2 ≤ get_or places p 0
      → contents places (set pages (get_or places p 0) page) ≡ with_frame (contents places pages) p (whole page)
  contents_written p page lt own =
      let k = get_or places p 0 in
      let now = contents places (set pages k page) in
      let then = with_frame (contents places pages) p (whole page) in
      same_contents now then (length places) (length-contents places (set pages k page)) (length-set (contents places pages) p (whole page) ∙ length-contents places pages) (λ q below.
      elim (cases_eq q p) [
        | inl same ↦ frame-contents places (set pages k page) q below
            ∙ ap (λ (n : ℕ). page_in (set pages k page) (get_or places n 0)) same
            ∙ ap whole (get_or-set_same pages k page [] (kept.inside p lt))
            ∙ sym (get_or-set_same (contents places pages) p (whole page) [] (subst (λ (n : ℕ). p < n) (sym (length-contents places pages)) lt))
            ∙ ap (frame then) (sym same)
        | inr apart ↦ frame-contents places (set pages k page) q below
            ∙ ap whole (get_or-set_other pages k (get_or places q 0) page [] (other_place p q lt below own apart))
            ∙ sym (frame-contents places pages q below)
            ∙ sym (get_or-set_other (contents places pages) p q (whole page) [] apart)
      ])

  -- A page is added for a page frame in place 0.

  pub contents_added : (p : ℕ) (page : List ℕ) → p < length places
      → contents (set places p (length pages)) (pages ++ page ∷ []) ≡ with_frame (contents places pages) p (whole page)
  contents_added p page lt =
      let moved = set places p (length pages) in
      let more = pages ++ page ∷ [] in
      let now = contents moved more in
      let then = with_frame (contents places pages) p (whole page) in
      let size : length moved ≡ length places = length-set places p (length pages) in
      same_contents now then (length places) (length-contents moved more ∙ size) (length-set (contents places pages) p (whole page) ∙ length-contents places pages) (λ q below.
      let seen : frame now q ≡ page_in more (get_or moved q 0) = frame-contents moved more q (subst (λ (n : ℕ). q < n) (sym size) below) in
      elim (cases_eq q p) [
        | inl same ↦ seen
            ∙ ap (λ (n : ℕ). page_in more (get_or moved n 0)) same
            ∙ ap (page_in more) (get_or-set_same places p (length pages) 0 lt)
            ∙ ap whole (get_or_push pages page [] (length pages) refl)
            ∙ sym (get_or-set_same (contents places pages) p (whole page) [] (subst (λ (n : ℕ). p < n) (sym (length-contents places pages)) lt))
            ∙ ap (frame then) (sym same)
        | inr apart ↦ seen
            ∙ ap (page_in more) (get_or-set_other places p q (length pages) 0 apart)
            ∙ ap whole (get_or_append_left pages (page ∷ []) [] (get_or places q 0) (kept.inside q below))
            ∙ sym (frame-contents places pages q below)
            ∙ sym (get_or-set_other (contents places pages) p q (whole page) [] apart)
      ])

  -- the page that is added is the one that was seen before
  pub contents_same : (p : ℕ) → p < length places → contents (set places p (length pages)) (pages ++ get_or pages (get_or places p 0) [] ∷ []) ≡ contents places pages
  contents_same p lt =
      contents_added p (get_or pages (get_or places p 0) []) lt ∙ ap (with_frame (contents places pages) p) (sym (frame-contents places pages p lt)) ∙ set-get_or (contents places pages) p []

  -- A page frame is moved to a shared place from another one.

  pub contents_shared : (p shared : ℕ) → p < length places → shared < 2 → contents (set places p shared) pages ≡ with_frame (contents places pages) p (shared_page shared)
  contents_shared p shared lt in_shared =
      let moved = set places p shared in
      let now = contents moved pages in
      let then = with_frame (contents places pages) p (shared_page shared) in
      let size : length moved ≡ length places = length-set places p shared in
      same_contents now then (length places) (length-contents moved pages ∙ size) (length-set (contents places pages) p (shared_page shared) ∙ length-contents places pages) (λ q below.
      let seen : frame now q ≡ page_in pages (get_or moved q 0) = frame-contents moved pages q (subst (λ (n : ℕ). q < n) (sym size) below) in
      elim (cases_eq q p) [
        | inl same ↦ seen
            ∙ ap (λ (n : ℕ). page_in pages (get_or moved n 0)) same
            ∙ ap (page_in pages) (get_or-set_same places p shared 0 lt)
            ∙ page_in-shared shared in_shared
            ∙ sym (get_or-set_same (contents places pages) p (shared_page shared) [] (subst (λ (n : ℕ). p < n) (sym (length-contents places pages)) lt))
            ∙ ap (frame then) (sym same)
        | inr apart ↦ seen
            ∙ ap (page_in pages) (get_or-set_other places p q shared 0 apart)
            ∙ sym (frame-contents places pages q below)
            ∙ sym (get_or-set_other (contents places pages) p q (shared_page shared) [] apart)
      ])

  counted_shared : (p shared : ℕ) → p < length places → shared < 2 → get_or places p 0 < 2 → length pages ≡ 2 + own_count (set places p shared)
  counted_shared p shared lt in_shared at =
      let counted = kept.counted in
      let set_one : sum_by mark (set places p shared) + mark (get_or places p 0) ≡ sum_by mark places + mark shared = sum_by-set mark places p shared 0 lt in
      let none : mark (get_or places p 0) ≡ 0 = mark_shared (get_or places p 0) at in
      let neither : mark shared ≡ 0 = mark_shared shared in_shared in
      let same = marks places in
      let then_same = marks (set places p shared) in
      omega arith

  pub kept_shared : (p shared : ℕ) → p < length places → shared < 2 → get_or places p 0 < 2 → AreKept (set places p shared) pages capacity
  kept_shared p shared lt in_shared at =
      let moved = set places p shared in
      let size : length moved ≡ length places = length-set places p shared in
      let here : get_or moved p 0 ≡ shared = get_or-set_same places p shared 0 lt in
      let there : (q : ℕ) → q ≢ p → get_or moved q 0 ≡ get_or places q 0 = λ q apart. get_or-set_other places p q shared 0 apart in
      let below : (q : ℕ) → q < length moved → q < length places = λ q lt. subst (λ (n : ℕ). q < n) size lt in
      let more = some in
      record {
        few = subst (λ (n : ℕ). 2 + n < 2 ^ 32) (sym size) kept.few;
        shared = kept.shared;
        inside = λ q lt. elim (cases_eq q p) [
          | inl same ↦ (let at = ap (λ (n : ℕ). get_or moved n 0) same ∙ here in omega arith)
          | inr apart ↦ (let at = there q apart in let old = kept.inside q (below q lt) in omega arith)
        ];
        apart = λ q r lt less same own. elim (cases_eq q p) [
          | inl first ↦ (let at = ap (λ (n : ℕ). get_or moved n 0) first ∙ here in absurd (omega arith))
          | inr apart ↦ elim (cases_eq r p) [
            | inl second ↦ (let at = ap (λ (n : ℕ). get_or moved n 0) second ∙ here in absurd (omega arith))
            | inr differs ↦ kept.apart q r (below q lt) (below r less) (sym (there q apart) ∙ same ∙ there r differs) (subst (λ (n : ℕ). 2 ≤ n) (there q apart) own)
          ]
        ];
        counted = counted_shared p shared lt in_shared at;
        room = kept.room ∙ ap (λ (n : ℕ). 2 + n) (sym size);
      }

  counted_added : (p : ℕ) (page : List ℕ) → p < length places → get_or places p 0 < 2 → length (pages ++ page ∷ []) ≡ 2 + own_count (set places p (length pages))
  counted_added p page lt at =
      let counted = kept.counted in
      let new = length pages in
      let more : length (pages ++ page ∷ []) ≡ new + 1 = length-append pages (page ∷ []) in
      let set_one : sum_by mark (set places p new) + mark (get_or places p 0) ≡ sum_by mark places + mark new = sum_by-set mark places p new 0 lt in
      let none : mark (get_or places p 0) ≡ 0 = mark_shared (get_or places p 0) at in
      let some = some in
      let one : mark new ≡ 1 = mark_own new (omega arith) in
      let same = marks places in
      let then_same = marks (set places p new) in
      omega arith

  pub kept_added : (p : ℕ) (page : List ℕ) → p < length places → get_or places p 0 < 2 → AreKept (set places p (length pages)) (pages ++ page ∷ []) capacity
  kept_added p page lt at =
      let new = length pages in
      let moved = set places p new in
      let size : length moved ≡ length places = length-set places p new in
      let more : length (pages ++ page ∷ []) ≡ new + 1 = length-append pages (page ∷ []) in
      let here : get_or moved p 0 ≡ new = get_or-set_same places p new 0 lt in
      let there : (q : ℕ) → q ≢ p → get_or moved q 0 ≡ get_or places q 0 = λ q apart. get_or-set_other places p q new 0 apart in
      let below : (q : ℕ) → q < length moved → q < length places = λ q lt. subst (λ (n : ℕ). q < n) size lt in
      record {
        few = subst (λ (n : ℕ). 2 + n < 2 ^ 32) (sym size) kept.few;
        shared = λ place lt. get_or_append_left pages (page ∷ []) [] place (let some = some in omega arith) ∙ kept.shared place lt;
        inside = λ q lt. elim (cases_eq q p) [
          | inl same ↦ (let at = ap (λ (n : ℕ). get_or moved n 0) same ∙ here in omega arith)
          | inr apart ↦ (let at = there q apart in let old = kept.inside q (below q lt) in omega arith)
        ];
        apart = λ q r lt less same own. elim (cases_eq q p) [
          | inl first ↦ elim (cases_eq r p) [
            | inl second ↦ first ∙ sym second
            | inr apart ↦
                (let at = ap (λ (n : ℕ). get_or moved n 0) first ∙ here in let old = there r apart in let under = kept.inside r (below r less) in absurd (omega arith))
          ]
          | inr apart ↦ elim (cases_eq r p) [
            | inl second ↦
                (let at = ap (λ (n : ℕ). get_or moved n 0) second ∙ here in let old = there q apart in let under = kept.inside q (below q lt) in absurd (omega arith))
            | inr differs ↦ kept.apart q r (below q lt) (below r less) (sym (there q apart) ∙ same ∙ there r differs) (subst (λ (n : ℕ). 2 ≤ n) (there q apart) own)
          ]
        ];
        counted = counted_added p page lt at;
        room = kept.room ∙ ap (λ (n : ℕ). 2 + n) (sym size);
      }

-- Each page frame is in place 0.

pub contents_zeros : (n : ℕ) (pages : List (List ℕ)) → get_or pages 0 [] ≡ shared_page 0 → contents (replicate n 0) pages ≡ replicate n zero_page
unfolding shared_page
contents_zeros n pages zeros =
    let places : List ℕ = replicate n 0 in
    let size : length places ≡ n = length-replicate n 0 in
    same_contents (contents places pages) (replicate n zero_page) n (length-contents places pages ∙ size) (length-replicate n zero_page) (λ p lt.
    frame-contents places pages p (subst (λ (m : ℕ). p < m) (sym size) lt)
    ∙ ap (page_in pages) (get_or-replicate n p 0 0 lt) ∙ ap whole zeros ∙ whole_of_shared 0 ∙ sym (get_or-replicate n p zero_page [] lt))

pub kept_zeros : (n : ℕ) (pages : List (List ℕ)) (capacity : ℕ) → 2 + n < 2 ^ 32 → ((place : ℕ) → place < 2 → get_or pages place [] ≡ shared_page place) → length pages ≡ 2 → capacity ≡ 2 + n → AreKept (replicate n 0) pages capacity
kept_zeros n pages capacity few shared two room =
    let places : List ℕ = replicate n 0 in
    let size : length places ≡ n = length-replicate n 0 in
    let at : (p : ℕ) → p < length places → get_or places p 0 ≡ 0 = λ p lt. get_or-replicate n p 0 0 (subst (λ (m : ℕ). p < m) size lt) in
    record {
      few = subst (λ (m : ℕ). 2 + m < 2 ^ 32) (sym size) few;
      shared = shared;
      inside = λ p lt. let zero = at p lt in omega arith;
      apart = λ p q lt below same own. (let zero = at p lt in absurd (omega arith));
      counted = two ∙ ap (λ (m : ℕ). 2 + m) (sym (none_own n));
      room = room ∙ ap (λ (m : ℕ). 2 + m) (sym size);
    }

pub shared_zeros : shared_page 0 ≡ zero_page
unfolding shared_page
shared_zeros = refl

pub shared_filled : shared_page 1 ≡ filled_page 165
unfolding shared_page
shared_filled = refl

-- the two pages that new page frames share
pub shared_pages : (pages : List (List ℕ)) → pages ≡ zero_page ∷ filled_page 165 ∷ [] → (place : ℕ) → place < 2 → get_or pages place [] ≡ shared_page place
unfolding shared_page
shared_pages pages is zero lt = ap (λ (all : List (List ℕ)). get_or all 0 []) is
shared_pages pages is (suc zero) lt = ap (λ (all : List (List ℕ)). get_or all 1 []) is
shared_pages pages is (suc (suc place)) lt = absurd (omega arith)

-- Page frame p of the page frames that are seen, in a place that was read.
module _ (places : List ℕ) (pages : List (List ℕ)) (capacity : ℕ) (kept : AreKept places pages capacity) (frames : List (List ℕ)) (seen : contents places pages ≡ frames) (p : ℕ) (lt : p < length frames) where
  pub within : p < length places
  within = subst (λ (n : ℕ). p < n) (ap length (sym seen) ∙ length-contents places pages) lt

  module _ (place : ℕ) (at : place ≡ get_or places p place) where
    pub place_of : get_or places p 0 ≡ place
    place_of = get_or_default places p 0 place within ∙ sym at

    pub place_inside : place < length pages
    place_inside = subst (λ (k : ℕ). k < length pages) place_of (kept.inside p within)

    pub page_of : (page : List ℕ) → page ≡ get_or pages place page → IsPage page → page ≡ frame frames p
    page_of page is whole_page =
        sym (whole_of_page page whole_page) ∙ ap whole (is ∙ get_or_default pages place page [] place_inside) ∙ ap (page_in pages) (sym place_of)
        ∙ sym (frame-contents places pages p within) ∙ ap (λ (all : List (List ℕ)). frame all p) seen

    pub shared_of : place < 2 → frame frames p ≡ shared_page place
    shared_of shared = ap (λ (all : List (List ℕ)). frame all p) (sym seen) ∙ seen_shared places pages capacity kept p within place shared place_of

    pub moved_over : (shared : ℕ) → shared < 2 → contents (set places p shared) pages ≡ with_frame frames p (shared_page shared)
    moved_over shared in_shared = contents_shared places pages capacity kept p shared within in_shared ∙ ap (λ (all : List (List ℕ)). with_frame all p (shared_page shared)) seen

    pub kept_over : (shared : ℕ) → shared < 2 → place < 2 → AreKept (set places p shared) pages capacity
    kept_over shared in_shared at = kept_shared places pages capacity kept p shared within in_shared (subst (λ (k : ℕ). k < 2) (sym place_of) at)

    -- the page in the place is what is seen
    pub seen_in : whole (get_or pages place []) ≡ frame frames p
    seen_in = ap (page_in pages) (sym place_of) ∙ sym (frame-contents places pages p within) ∙ ap (λ (all : List (List ℕ)). frame all p) seen

    -- a page is added for it, if it shares one
    pub added_over : (page : List ℕ) → contents (set places p (length pages)) (pages ++ page ∷ []) ≡ with_frame frames p (whole page)
    added_over page = contents_added places pages capacity kept p page within ∙ ap (λ (all : List (List ℕ)). with_frame all p (whole page)) seen

    pub kept_added_over : (page : List ℕ) → place < 2 → AreKept (set places p (length pages)) (pages ++ page ∷ []) capacity
    kept_added_over page at = kept_added places pages capacity kept p page within (subst (λ (k : ℕ). k < 2) (sym place_of) at)

    pub room_over : place < 2 → length pages < capacity
    room_over at = room_for_one places pages capacity kept p within (subst (λ (k : ℕ). k < 2) (sym place_of) at)

    pub lent_over : (page : List ℕ) → 2 ≤ place → contents places (set pages place page) ≡ with_frame frames p (whole page)
    lent_over page own =
        ap (λ (k : ℕ). contents places (set pages k page)) (sym place_of)
        ∙ contents_written places pages capacity kept p page within (subst (λ (k : ℕ). 2 ≤ k) (sym place_of) own)
        ∙ ap (λ (all : List (List ℕ)). with_frame all p (whole page)) seen

    pub written_over : (page : List ℕ) → 2 ≤ place → IsPage page → contents places (set pages place page) ≡ with_frame frames p page
    written_over page own whole_page = lent_over page own ∙ ap (with_frame frames p) (whole_of_page page whole_page)

-- all but the shared pages are forgotten
module _ (places : List ℕ) (pages : List (List ℕ)) (capacity : ℕ) (kept : AreKept places pages capacity) where
  shared_left : (place : ℕ) → place < 2 → get_or (take 2 pages) place [] ≡ shared_page place
  shared_left place lt = get_or-take 2 pages place [] lt ∙ kept.shared place lt

  pub kept_forgotten : AreKept (replicate (length places) 0) (take 2 pages) capacity
  kept_forgotten = let counted = kept.counted in kept_zeros (length places) (take 2 pages) capacity kept.few shared_left (length-take-le 2 pages (omega arith)) kept.room

  pub contents_forgotten : contents (replicate (length places) 0) (take 2 pages) ≡ replicate (length places) zero_page
  contents_forgotten = contents_zeros (length places) (take 2 pages) (shared_left 0 (omega arith))

-- what has been there is written anew
pub same_frame : (frames : List (List ℕ)) (p : ℕ) (page : List ℕ) → frame frames p ≡ page → frames ≡ with_frame frames p page
same_frame frames p page is = sym (set-get_or frames p []) ∙ ap (with_frame frames p) is
