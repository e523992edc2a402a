-- The numbers that were read of an image ascend.
use Rattle.std.proofs.Common.{◌≡◌, ℕ, ◌+◌, ◌*◌, ◌-◌, ◌/◌, ◌%◌, ◌<◌, ◌≤◌, List, [], ◌∷◌, ◌++◌, length, Option, Some, None, Ok, Err, eqb, leb, zero, suc, get_or, sym, ap, subst, ◌∙◌, inl, inr, arith, append-nil, length-append}
use Rattle.std.proofs.lemmas.Bool.{cases_lt, le-leb, lt-leb, ne_eqb}
use Rattle.std.proofs.Math.ListN.{get_or-append}
use Rattle.std.proofs.Math.Seq.{get_or-append_seam}
use Rattle.page_core.specs.declared.format.Format.{Format}
use Rattle.definitions.specs.Bytes.{word}
use Rattle.definitions.specs.Disk.{Content}
use Rattle.definitions.specs.NumberPages.{meta_of, word_at}
use Rattle.image_walk.specs.declared.limits.Limits.{Limits}
use Rattle.image_walk.specs.Names.{Name, map_at, page_at as entry_at, maps_in, IsReading}
use Rattle.image_check.specs.Entries.{counts_of, data_findings, data_of, entry_fault, is_unused, listed_findings}
use Rattle.image_check.specs.Entries.{page_findings, place_of, position_of, previous_of, read_findings}
use Rattle.image_check.specs.Image.{history_findings, name_findings}
use Rattle.image_check.specs.Info.{counts_in, counts_fault, info_findings}
use Rattle.image_check.specs.Numbers.{frame_of, number_findings, word_before}
use Rattle.image_check.specs.Told.{list_of}
use Rattle.image_check.specs.declared.finding.Counts.{Counts}
use Rattle.image_check.specs.declared.finding.Finding.{Finding}
use Rattle.image_pages.specs.Clean.{counts_by, pages_in}
use Rattle.image_pages.specs.Stands.{Stands}
use Rattle.image_pages.specs.declared.pages.Pages.{Pages}
use Rattle.image_pages.proofs.Counting.{Counted, IsCounted, counted_of, next_page, the_same}
use Rattle.image_pages.proofs.Findings.{left_none, right_none}
use Rattle.image_pages.specs.Found.{page_at}
use Rattle.image_pages.specs.Saved.{number_in, word_in}
use Rattle.image_pages.proofs.Data.{word_behind}
use Rattle.image_pages.proofs.Begun.{begun_of, counts_still, few_read, unless, when}
use Rattle.image_pages.proofs.Searching.{counts_room}
use Rattle.image_pages.proofs.NumberPage.{IsNumber, page_clean, before_first, before_later}

-- the last word of the newest page is known, where that is no info page
last_known : (format : Format) (l : Limits) (first : ℕ) (h : List Name) → IsReading l first h → history_findings format h ≡ [] → position_of h ≡ length (pages_in h) → 1 < length (pages_in h) → previous_of h ≡ Some (word (page_at (pages_in h) (length (pages_in h) - 1)) 511)
last_known format l first [] reading clean at more = absurd (omega arith)
last_known format l first (map_at b (Ok page) ∷ h) reading clean at more =
    let before = left_none (history_findings format h) (name_findings format h (map_at b (Ok page))) clean in
    let c = counted_of format l first h reading.0 before in
    let none = append-nil (pages_in h) in
    let size = ap length none in
    let some : 0 < maps_in h = elim (cases_lt 0 (maps_in h)) [ inl lt ↦ lt | inr none_yet ↦ absurd (let e = ap length (c.unmapped (omega arith)).1 in omega arith) ] in
    last_known format l first h reading.0 before (omega (arith, reading.1.0)) (omega arith)
    ∙ ap (λ (x : List (List ℕ)). Some (word (page_at x (length x - 1)) 511)) (sym none)
last_known format l first (map_at b (Err why) ∷ h) reading clean at more =
    let before = left_none (history_findings format h) (name_findings format h (map_at b (Err why))) clean in
    let c = counted_of format l first h reading.0 before in
    let few = few_read format h c in
    let size = ap length (append-nil (pages_in h)) in
    let some : 0 < maps_in h = elim (cases_lt 0 (maps_in h)) [ inl lt ↦ lt | inr none_yet ↦ absurd (let e = ap length (c.unmapped (omega arith)).1 in omega arith) ] in
    absurd (omega (arith, reading.1.0))
last_known format l first (entry_at b (Err why) ∷ h) reading clean at more =
    let before = left_none (history_findings format h) (name_findings format h (entry_at b (Err why))) clean in
    let c = counted_of format l first h reading.0 before in
    let few = few_read format h c in
    let size = ap length (append-nil (pages_in h)) in
    absurd (omega (arith, reading.1.0, c.few))
last_known format l first (entry_at b (Ok page) ∷ h) reading clean at more =
    let before = left_none (history_findings format h) (name_findings format h (entry_at b (Ok page))) clean in
    let size = length-append (pages_in h) (page ∷ []) in
    let placed : length (pages_in h) ≡ position_of h =
    next_page format h b page (counted_of format l first h reading.0 before) (counted_of format l first (entry_at b (Ok page) ∷ h) reading clean) reading.1.0 in
    let same : length (pages_in h ++ page ∷ []) - 1 ≡ length (pages_in h) = omega arith in
    unless (eqb (position_of h) 0) None (Some (word page 511)) (ne_eqb (position_of h) 0 (λ e. omega arith))
    ∙ ap (λ (p : List ℕ). Some (word p 511)) (sym (get_or-append_seam (pages_in h) page [] []) ∙ ap (page_at (pages_in h ++ page ∷ [])) (sym same))

-- the numbers in pages that were read
pub record Ascends (format : Format) (n : ℕ) (pages : List (List ℕ)) : Type 0 where
  pub small : (i : ℕ) → i < n → 1 + i / 512 < length pages → number_in format (page_at pages) i < 4503599627370496
  pub order : (i : ℕ) → i + 1 < n → 1 + (i + 1) / 512 < length pages → number_in format (page_at pages) i < number_in format (page_at pages) (i + 1)

same_ascends : (format : Format) (n : ℕ) (a b : List (List ℕ)) → a ≡ b → Ascends format n a → Ascends format n b
same_ascends format n a b e s = subst (λ (x : List (List ℕ)). Ascends format n x) e s

few_ascend : (format : Format) (n : ℕ) (pages : List (List ℕ)) → length pages ≤ 1 → Ascends format n pages
few_ascend format n pages few = record { small = λ i lt inside. absurd (omega arith); order = λ i lt inside. absurd (omega arith) }

-- a page after those before
at_old : (pages : List (List ℕ)) (page : List ℕ) (i : ℕ) → 1 + i / 512 < length pages → word_in (page_at (pages ++ page ∷ [])) i ≡ word_in (page_at pages) i
at_old pages page i lt = ap (λ (p : List ℕ). word p (i % 512)) (get_or-append pages (page ∷ []) [] (1 + i / 512) lt)

at_new : (pages : List (List ℕ)) (page : List ℕ) (i : ℕ) → 1 + i / 512 ≡ length pages → word_in (page_at (pages ++ page ∷ [])) i ≡ word page (i % 512)
at_new pages page i at =
    ap (λ (k : ℕ). word (get_or (pages ++ page ∷ []) k []) (i % 512)) at
    ∙ ap (λ (p : List ℕ). word p (i % 512)) (get_or-append_seam pages page [] [])

number_old : (format : Format) (pages : List (List ℕ)) (page : List ℕ) (i : ℕ) → 1 + i / 512 < length pages → number_in format (page_at (pages ++ page ∷ [])) i ≡ number_in format (page_at pages) i
number_old format pages page i lt = ap (frame_of format) (at_old pages page i lt)

number_new : (format : Format) (pages : List (List ℕ)) (page : List ℕ) (i : ℕ) → 1 + i / 512 ≡ length pages → number_in format (page_at (pages ++ page ∷ [])) i ≡ frame_of format (word page (i % 512))
number_new format pages page i at = ap (frame_of format) (at_new pages page i at)

page_ascends : (format : Format) (n : ℕ) (pages : List (List ℕ)) (page : List ℕ) (previous : Option ℕ) → Ascends format n pages → (1 < length pages → previous ≡ Some (word (page_at pages (length pages - 1)) 511)) → ((j : ℕ) → j < 512 → 512 * (length pages - 1) + j < n → 0 < length pages → IsNumber format (word page j) (word_before previous page j)) → Ascends format n (pages ++ page ∷ [])
page_ascends format n pages page previous s last fresh =
    let size = length-append pages (page ∷ []) in
    let all = page_at (pages ++ page ∷ []) in
    record {
      small = λ i lt inside. elim (cases_lt (1 + i / 512) (length pages)) [
        | inl old ↦ subst (λ (w : ℕ). w < 4503599627370496) (sym (number_old format pages page i old)) (s.small i lt old)
        | inr new ↦
            let at : 1 + i / 512 ≡ length pages = omega arith in
            subst (λ (w : ℕ). w < 4503599627370496) (sym (number_new format pages page i at)) (fresh (i % 512) (omega arith) (omega arith) (omega arith)).small
      ];
      order = λ i lt inside. elim (cases_lt (1 + (i + 1) / 512) (length pages)) [
        | inl old ↦
            let older : 1 + i / 512 < length pages = omega arith in
            subst (λ (w : ℕ). w < number_in format all (i + 1)) (sym (number_old format pages page i older))
            (subst (λ (w : ℕ). number_in format (page_at pages) i < w) (sym (number_old format pages page (i + 1) old)) (s.order i lt old))
        | inr new ↦
            let at : 1 + (i + 1) / 512 ≡ length pages = omega arith in
            let j = (i + 1) % 512 in
            let number = fresh j (omega arith) (omega arith) (omega arith) in
            subst (λ (w : ℕ). number_in format all i < w) (sym (number_new format pages page (i + 1) at))
            (elim (cases_lt 0 j) [
              | inl later ↦
                  let same : 1 + i / 512 ≡ length pages = omega arith in
                  let one : j - 1 ≡ i % 512 = omega arith in
                  number.above (word_in all i)
                  (before_later previous page j later ∙ ap (λ (k : ℕ). Some (word page k)) one ∙ ap Some (sym (at_new pages page i same)))
              | inr start ↦
                  let older : 1 + i / 512 ≡ length pages - 1 = omega arith in
                  let lastly : i % 512 ≡ 511 = omega arith in
                  let inner : 1 + i / 512 < length pages = omega arith in
                  number.above (word_in all i)
                  (before_first previous page j (omega arith)
                  ∙ last (omega arith)
                  ∙ ap (λ (k : ℕ). Some (word (page_at pages k) 511)) (sym older)
                  ∙ ap (λ (k : ℕ). Some (word (page_at pages (1 + i / 512)) k)) (sym lastly)
                  ∙ ap Some (sym (at_old pages page i inner)))
            ])
      ];
    }

-- nothing is wrong with a number page whose count is known
number_page : (format : Format) (known : Option Counts) (c : Counts) (position b : ℕ) (previous : Option ℕ) (page : List ℕ) (head more : List Finding) → head ++ (read_findings format known position b previous (Ok page) ++ more) ≡ [] → known ≡ Some c → meta_of c.image_pages + 1 ≤ c.pages → 0 < position → position ≤ meta_of c.image_pages → number_findings format c.image_pages position previous page ≡ []
number_page format known c position b previous page head more clean is room some le =
    let read : read_findings format (Some c) position b previous (Ok page) ≡ [] =
    subst (λ (x : Option Counts). read_findings format x position b previous (Ok page) ≡ []) is (left_none (read_findings format known position b previous (Ok page)) more (right_none head (read_findings format known position b previous (Ok page) ++ more) clean)) in
    sym (when (leb position (meta_of c.image_pages)) (number_findings format c.image_pages position previous page) [] (le-leb position (meta_of c.image_pages) le))
    ∙ sym (unless (eqb position 0) (info_findings format page) (listed_findings format (Some c) position previous page) (ne_eqb position 0 (λ e. omega arith)))
    ∙ sym (unless (is_unused (Some c) position b) [] (page_findings format (Some c) position previous page) (lt-leb c.pages position (omega arith)))
    ∙ read

pub ascends_of : (format : Format) (l : Limits) (first : ℕ) (h : List Name) (c : Counts) → IsReading l first h → history_findings format h ≡ [] → counts_by (pages_in h) ≡ Some c → Ascends format c.image_pages (pages_in h)
ascends_of format l first [] c reading clean said = cc
ascends_of format l first (map_at b answer ∷ h) c reading clean said =
    let none = append-nil (pages_in h) in
    same_ascends format c.image_pages (pages_in h) (pages_in h ++ []) (sym none)
    (ascends_of format l first h c reading.0 (left_none (history_findings format h) (name_findings format h (map_at b answer)) clean) (ap counts_by (sym none) ∙ said))
ascends_of format l first (entry_at b (Err why) ∷ h) c reading clean said =
    let none = append-nil (pages_in h) in
    same_ascends format c.image_pages (pages_in h) (pages_in h ++ []) (sym none)
    (ascends_of format l first h c reading.0 (left_none (history_findings format h) (name_findings format h (entry_at b (Err why))) clean) (ap counts_by (sym none) ∙ said))
ascends_of format l first (entry_at b (Ok page) ∷ h) c reading clean said =
    let x : Name = entry_at b (Ok page) in
    let before = left_none (history_findings format h) (name_findings format h x) clean in
    let now = right_none (history_findings format h) (name_findings format h x) clean in
    let placed : length (pages_in h) ≡ position_of h = next_page format h b page (counted_of format l first h reading.0 before) (counted_of format l first (x ∷ h) reading clean) reading.1.0 in
    elim (cases_lt 0 (length (pages_in h))) [
      | inr none ↦ few_ascend format c.image_pages (pages_in h ++ page ∷ []) (omega (arith, length-append (pages_in h) (page ∷ [])))
      | inl some ↦
          let still = counts_still (pages_in h) page c some said in
          let begun = begun_of format l first h c reading.0 before still in
          page_ascends format c.image_pages (pages_in h) page (previous_of h)
          (ascends_of format l first h c reading.0 before still)
          (λ more. last_known format l first h reading.0 before (sym placed) more)
          (λ j lt inside more.
          page_clean format c.image_pages (length (pages_in h)) (previous_of h) page
          (subst (λ (k : ℕ). number_findings format c.image_pages k (previous_of h) page ≡ []) (sym placed)
          (number_page format (counts_of h) c (position_of h) b (previous_of h) page (list_of (entry_fault (counts_of h) (position_of h) (place_of h) b (Ok page)))
          (data_findings format (counts_of h) (position_of h) (data_of (x ∷ h)) (Ok page)) now begun.known
          (counts_room format c begun.fine) (omega arith) (omega arith)))
          j lt inside)
    ]

-- the numbers of number pages after an info page
pub ascends_by : (content : Option Content) (blocks header : ℕ) (p : Pages) (info : List ℕ) (listed : List (List ℕ)) → Stands content blocks header p (info ∷ listed) → Ascends p.format (counts_in info).image_pages (info ∷ listed)
ascends_by content blocks header p info listed s =
    same_ascends p.format (counts_in info).image_pages (pages_in s.history) (info ∷ listed) s.pages
    (ascends_of p.format s.start.limits s.start.first s.history (counts_in info) s.clean.reading
    (subst (λ (f : Format). history_findings f s.history ≡ []) (sym s.format) s.clean.clean) (ap counts_by s.pages))

-- no more pages than the info page says
pub few_pages : (content : Option Content) (blocks header : ℕ) (p : Pages) (info : List ℕ) (rest : List (List ℕ)) → Stands content blocks header p (info ∷ rest) → length (info ∷ rest) ≤ (counts_in info).pages
few_pages content blocks header p info rest s =
    subst (λ (x : List (List ℕ)). length x ≤ (counts_in info).pages) s.pages
    (begun_of s.start.format s.start.limits s.start.first s.history (counts_in info) s.clean.reading s.clean.clean (ap counts_by s.pages)).few

pub number_behind : (format : Format) (info : List ℕ) (listed : List (List ℕ)) (i : ℕ) → number_in format (page_at (info ∷ listed)) i ≡ frame_of format (word_at listed i)
number_behind format info listed i = ap (frame_of format) (word_behind info listed i)

pub word_small : (format : Format) (n : ℕ) (info : List ℕ) (listed : List (List ℕ)) → Ascends format n (info ∷ listed) → (i : ℕ) → i < n → i / 512 < length listed → frame_of format (word_at listed i) < 4503599627370496
word_small format n info listed s i lt inside = subst (λ (w : ℕ). w < 4503599627370496) (number_behind format info listed i) (s.small i lt (omega arith))

pub word_ascends : (format : Format) (n : ℕ) (info : List ℕ) (listed : List (List ℕ)) → Ascends format n (info ∷ listed) → (i j : ℕ) → i < j → j < n → j / 512 < length listed → frame_of format (word_at listed i) < frame_of format (word_at listed j)
word_ascends format n info listed s i zero less lt inside = absurd (omega arith)
word_ascends format n info listed s i (suc m) less lt inside =
    let next : frame_of format (word_at listed m) < frame_of format (word_at listed (suc m)) =
    subst (λ (w : ℕ). w < frame_of format (word_at listed (suc m))) (number_behind format info listed m)
    (subst (λ (w : ℕ). number_in format (page_at (info ∷ listed)) m < w) (ap (number_in format (page_at (info ∷ listed))) (one_more m) ∙ number_behind format info listed (suc m)) (s.order m (omega arith) (omega arith))) in
    elim (cases_lt i m) [
      | inl earlier ↦ let first = word_ascends format n info listed s i m earlier (omega arith) (omega arith) in omega (arith, first, next)
      | inr last ↦ let same : i ≡ m = omega arith in subst (λ (k : ℕ). frame_of format (word_at listed k) < frame_of format (word_at listed (suc m))) (sym same) next
    ] where
      one_more : (k : ℕ) → k + 1 ≡ suc k
      one_more k = omega arith
