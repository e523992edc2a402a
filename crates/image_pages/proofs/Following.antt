-- How many data pages an image has, by its number pages.
use Rattle.std.proofs.Common.{◌≡◌, ℕ, ◌+◌, ◌-◌, ◌*◌, ◌/◌, ◌%◌, ◌<◌, ◌≤◌, ◌&&◌, ◌||◌, Bool, true, false, zero, suc, List, [], ◌∷◌, ◌++◌, length, cond, eqb, leb, ltb, not, Option, Some, None, Result, Ok, Err, sym, ap, subst, ◌∙◌, inl, inr, arith, refl, append-nil, length-append}
use Rattle.std.specs.Prelude.{min}
use Rattle.std.specs.List.{filter, range_with_len}
use Rattle.std.proofs.lemmas.Bool.{cases_lt, eq-eqb, eqb-true, le-leb, lt-leb, lt-ltb, le-ltb}
use Rattle.std.proofs.lemmas.List.Sums.{length-filter}
use Rattle.std.proofs.Math.Nat.{min-eq_left}
use Rattle.std.proofs.Math.ListN.{get_or-append}
use Rattle.std.proofs.Math.Seq.{get_or-append_seam}
use Rattle.page_core.specs.declared.format.Format.{Format}
use Rattle.page_core.specs.declared.format.Format.TheVariants.{Plain, SkipZeros}
use Rattle.definitions.specs.Bytes.{word}
use Rattle.definitions.specs.Disk.{Content, last_count}
use Rattle.definitions.specs.NumberPages.{meta_of, zero_bit}
use Rattle.image_walk.specs.declared.limits.Limits.{Limits}
use Rattle.image_walk.specs.declared.visit.BlockFault.{BlockFault}
use Rattle.image_walk.specs.Names.{Name, map_at, page_at as entry_at, IsReading}
use Rattle.image_check.specs.Entries.{counts_of, counted_with, data_after, data_fault, data_findings, data_of, data_seen, entry_fault, place_of, position_of, previous_of, read_findings}
use Rattle.image_check.specs.Image.{history_findings, name_findings}
use Rattle.image_check.specs.Info.{counts_in, counts_fault}
use Rattle.image_check.specs.Numbers.{data_words as words_with_data}
use Rattle.image_check.specs.Told.{list_of}
use Rattle.image_check.specs.declared.finding.Counts.{Counts}
use Rattle.image_check.specs.declared.finding.Finding.{Finding}
use Rattle.image_check.specs.declared.finding.Finding.TheVariants as finding
use Rattle.image_pages.specs.Clean.{counts_by, pages_in}
use Rattle.image_pages.specs.Stands.{Stands}
use Rattle.image_pages.specs.declared.pages.Pages.{Pages}
use Rattle.image_pages.proofs.Counting.{counted_of, counts_read, next_page}
use Rattle.image_pages.proofs.Findings.{left_none, right_none, no_finding, plain_counts, entry_clean}
use Rattle.image_pages.specs.Ahead.{listed, listed_data}
use Rattle.image_pages.specs.Found.{page_at}
use Rattle.image_pages.specs.Saved.{has_page, word_in}
use Rattle.image_pages.proofs.Begun.{begun_of, counts_still, few_read, unless, when}
use Rattle.image_pages.proofs.Data.{counted, counted_few, counted_join, counted_more, counted_same, data_plain, once, word_behind}
use Rattle.image_pages.proofs.Searching.{counts_room, fine_counts}

-- word j is one of n numbers, and has a data page
abbrev is_data : (n : ℕ) → List (List ℕ) → ℕ → Bool
is_data n pages j = ltb j n && has_page SkipZeros (word_in (page_at pages) j)

-- how many of the first m words after the info page are one of n numbers and have a data page
abbrev data_in : (n : ℕ) → List (List ℕ) → ℕ → ℕ
data_in n pages m = counted (is_data n pages) m

-- words from n on aren't
guard : (n m : ℕ) (p : ℕ → Bool) → n ≤ m → counted (λ j. ltb j n && p j) m ≡ counted p n
guard n zero p le = let e : n ≡ 0 = omega arith in sym (ap (counted p) e)
guard n (suc m) p le = elim (cases_lt n (suc m)) [
  | inr same ↦
      let e : suc m ≡ n = omega arith in
      counted_same (λ j. ltb j n && p j) p (suc m) (λ j lt. ap (λ (t : Bool). t && p j) (lt-ltb j n (omega arith))) ∙ ap (counted p) e
  | inl less ↦
      let before = guard n m p (omega arith) in
      let none : once (ltb m n && p m) ≡ 0 = ap (λ (t : Bool). once (t && p m)) (le-ltb m n (omega arith)) in
      omega (arith, counted_more (λ j. ltb j n && p j) m, before, none)
]

guarded_few : (n m : ℕ) (p : ℕ → Bool) → counted (λ j. ltb j n && p j) m ≤ n
guarded_few n m p = elim (cases_lt n m) [
  | inl less ↦ omega (arith, guard n m p (omega arith), counted_few p n)
  | inr le ↦ omega (arith, counted_few (λ j. ltb j n && p j) m)
]

-- a page after those before changes nothing at their words
in_old : (n : ℕ) (pages : List (List ℕ)) (page : List ℕ) (m : ℕ) → m ≤ 512 * (length pages - 1) → data_in n (pages ++ page ∷ []) m ≡ data_in n pages m
in_old n pages page m le =
    counted_same (is_data n (pages ++ page ∷ [])) (is_data n pages) m
    (λ j lt. ap (λ (p : List ℕ). ltb j n && has_page SkipZeros (word p (j % 512))) (get_or-append pages (page ∷ []) [] (1 + j / 512) (omega arith)))

in_new : (n k : ℕ) (pages : List (List ℕ)) (page : List ℕ) (j : ℕ) → length pages ≡ k → 0 < k → j < 512 → is_data n (pages ++ page ∷ []) (512 * (k - 1) + j) ≡ (ltb (512 * (k - 1) + j) n && has_page SkipZeros (word page j))
in_new n k pages page j size some lt =
    let at : 1 + (512 * (k - 1) + j) / 512 ≡ length pages = omega arith in
    let rest : (512 * (k - 1) + j) % 512 ≡ j = omega arith in
    ap (λ (w : ℕ). ltb (512 * (k - 1) + j) n && has_page SkipZeros w)
    (ap (λ (i : ℕ). word (page_at (pages ++ page ∷ []) i) ((512 * (k - 1) + j) % 512)) at
    ∙ ap (λ (p : List ℕ). word p ((512 * (k - 1) + j) % 512)) (get_or-append_seam pages page [] [])
    ∙ ap (word page) rest)

one_page : (k : ℕ) → 0 < k → 512 * k ≡ 512 * (k - 1) + 512
one_page k some = omega arith

words_before : (k l : ℕ) → l ≡ k → 512 * (k - 1) ≤ 512 * (l - 1)
words_before k l e = omega arith

in_page : (n k : ℕ) (pages : List (List ℕ)) (page : List ℕ) → length pages ≡ k → 0 < k → data_in n (pages ++ page ∷ []) (512 * k) ≡ data_in n pages (512 * (k - 1)) + words_with_data n k page
in_page n k pages page size some =
    let all = is_data n (pages ++ page ∷ []) in
    let both : counted all (512 * (k - 1) + 512) ≡ counted all (512 * (k - 1)) + counted (λ j. all (512 * (k - 1) + j)) 512 = counted_join all (512 * (k - 1)) 512 in
    let old = in_old n pages page (512 * (k - 1)) (words_before k (length pages) size) in
    let new : counted (λ j. all (512 * (k - 1) + j)) 512 ≡ words_with_data n k page =
    counted_same (λ j. all (512 * (k - 1) + j)) (λ j. ltb (512 * (k - 1) + j) n && has_page SkipZeros (word page j)) 512 (λ j lt. in_new n k pages page j size some lt)
    ∙ sym (length-filter (λ j. ltb (512 * (k - 1) + j) n && has_page SkipZeros (word page j)) (range_with_len 0 512)) in
    ap (counted all) (one_page k some) ∙ both ∙ ap (λ (d : ℕ). d + counted (λ j. all (512 * (k - 1) + j)) 512) old ∙ ap (λ (d : ℕ). data_in n pages (512 * (k - 1)) + d) new

-- what is known of the count of data pages
pub record IsTold (h : List Name) (c : Counts) : Type 0 where
  pub so_far : length (pages_in h) ≤ meta_of c.image_pages + 1 → data_of h ≡ Some (data_in c.image_pages (pages_in h) (512 * (length (pages_in h) - 1)))
  pub all : meta_of c.image_pages + 1 ≤ length (pages_in h) → c.pages ≡ data_in c.image_pages (pages_in h) (512 * meta_of c.image_pages) + (meta_of c.image_pages + 1)

none_by : (pages : List (List ℕ)) (known : Option Counts) → known ≡ counts_by pages → pages ≡ [] → known ≡ None
none_by pages known e f = e ∙ ap counts_by f

not_empty : (pages : List (List ℕ)) (page : List ℕ) → pages ++ page ∷ [] ≡ [] → ⊥
not_empty [] page e = cc
not_empty (x ∷ xs) page e = cc

-- none are counted before the info page was read
none_yet : (l : Limits) (first : ℕ) (h : List Name) → IsReading l first h → history_findings SkipZeros h ≡ [] → pages_in h ≡ [] → data_of h ≡ Some 0
none_yet l first [] reading clean none = refl
none_yet l first (map_at b answer ∷ h) reading clean none =
    none_yet l first h reading.0 (left_none (history_findings SkipZeros h) (name_findings SkipZeros h (map_at b answer)) clean) (sym (append-nil (pages_in h)) ∙ none)
none_yet l first (entry_at b (Err why) ∷ h) reading clean none =
    let before = left_none (history_findings SkipZeros h) (name_findings SkipZeros h (entry_at b (Err why))) clean in
    let empty = sym (append-nil (pages_in h)) ∙ none in
    let known = none_by (pages_in h) (counts_of h) (counts_read SkipZeros h (counted_of SkipZeros l first h reading.0 before)) empty in
    ap (λ (k : Option Counts). data_after k (position_of h) (data_of h) (Err why)) known ∙ none_yet l first h reading.0 before empty
none_yet l first (entry_at b (Ok page) ∷ h) reading clean none = absurd (not_empty (pages_in h) page none)

-- a smaller number
least : (a : ℕ) → a ≤ last_count → min a last_count ≡ a
least a le = min-eq_left le

told_none : (h : List Name) (b : ℕ) (answer : BlockFault) (c : Counts) → IsTold h c → data_of (entry_at b (Err answer) ∷ h) ≡ data_of h → IsTold (entry_at b (Err answer) ∷ h) c
told_none h b answer c t same =
    let none = append-nil (pages_in h) in
    record {
      so_far = λ few. subst (λ (x : List (List ℕ)). data_of (entry_at b (Err answer) ∷ h) ≡ Some (data_in c.image_pages x (512 * (length x - 1)))) (sym none) (same ∙ t.so_far (omega (arith, few, ap length none)));
      all = λ many. subst (λ (x : List (List ℕ)). c.pages ≡ data_in c.image_pages x (512 * meta_of c.image_pages) + (meta_of c.image_pages + 1)) (sym none) (t.all (omega (arith, many, ap length none)));
    }

told_map : (h : List Name) (b : ℕ) (answer : Result (List ℕ) BlockFault) (c : Counts) → IsTold h c → IsTold (map_at b answer ∷ h) c
told_map h b answer c t =
    let none = append-nil (pages_in h) in
    record {
      so_far = λ few. subst (λ (x : List (List ℕ)). data_of h ≡ Some (data_in c.image_pages x (512 * (length x - 1)))) (sym none) (t.so_far (omega (arith, few, ap length none)));
      all = λ many. subst (λ (x : List (List ℕ)). c.pages ≡ data_in c.image_pages x (512 * meta_of c.image_pages) + (meta_of c.image_pages + 1)) (sym none) (t.all (omega (arith, many, ap length none)));
    }

-- after the last number page the pages are those that were counted
fine_data : (c : Counts) (position d : ℕ) (known : Option Counts) (counted_now : Option ℕ) (page : List ℕ) → data_findings SkipZeros known position counted_now (Ok page) ≡ [] → known ≡ Some c → counted_now ≡ Some d → position ≡ meta_of c.image_pages → c.pages ≡ d + (meta_of c.image_pages + 1)
fine_data c position d known counted_now page clean is e at =
    let none : data_fault SkipZeros known position counted_now ≡ None = no_finding (data_fault SkipZeros known position counted_now) clean in
    let here : data_fault SkipZeros (Some c) position (Some d) ≡ None =
    subst (λ (x : Option ℕ). data_fault SkipZeros (Some c) position x ≡ None) e
    (subst (λ (x : Option Counts). data_fault SkipZeros x position counted_now ≡ None) is none) in
    go (eqb position (meta_of c.image_pages)) (eqb c.pages (d + (meta_of c.image_pages + 1))) (eq-eqb position (meta_of c.image_pages) at) refl here where
      go : (a b : Bool) → a ≡ true → b ≡ eqb c.pages (d + (meta_of c.image_pages + 1)) → cond (a && not b) (Some (finding.DataPages d c.pages)) None ≡ None → c.pages ≡ d + (meta_of c.image_pages + 1)
      go true true s is_b x = eqb-true c.pages (d + (meta_of c.image_pages + 1)) (sym is_b)
      go true false s is_b x = cc
      go false b s is_b x = cc

-- the first number pages, and the ones after them
told_first : (h : List Name) (b : ℕ) (page : List ℕ) → counts_of h ≡ None → data_of h ≡ Some 0 → data_of (entry_at b (Ok page) ∷ h) ≡ Some 0
told_first h b page unknown zero_yet =
    ap (λ (k : Option Counts). data_after k (position_of h) (data_of h) (Ok page)) unknown ∙ zero_yet

told_next : (h : List Name) (b : ℕ) (page : List ℕ) (c : Counts) (k : ℕ) → c.image_pages ≤ last_count → counts_of h ≡ Some c → length (pages_in h) ≡ k → position_of h ≡ k → 0 < k → k ≤ meta_of c.image_pages → data_of h ≡ Some (data_in c.image_pages (pages_in h) (512 * (k - 1))) → data_of (entry_at b (Ok page) ∷ h) ≡ Some (data_in c.image_pages (pages_in h ++ page ∷ []) (512 * k))
told_next h b page c k fits known size at some few before =
    let n = c.image_pages in
    let all = pages_in h ++ page ∷ [] in
    let more = in_page n k (pages_in h) page size some in
    let total = guarded_few n (512 * k) (λ j. has_page SkipZeros (word_in (page_at all) j)) in
    let le : leb (position_of h) (meta_of n) ≡ true = le-leb (position_of h) (meta_of n) (omega (arith, at, few)) in
    ap (λ (x : Option Counts). data_after x (position_of h) (data_of h) (Ok page)) known
    ∙ when (leb (position_of h) (meta_of n)) (counted_with (data_of h) (data_seen n (position_of h) (Ok page))) (data_of h) le
    ∙ ap (λ (x : Option ℕ). counted_with x (data_seen n (position_of h) (Ok page))) before
    ∙ ap (λ (p : ℕ). Some (min (data_in n (pages_in h) (512 * (k - 1)) + words_with_data n p page) last_count)) at
    ∙ ap (λ (d : ℕ). Some (min d last_count)) (sym more)
    ∙ ap Some (least (data_in n all (512 * k)) (omega (arith, total, fits)))

no_list : (l : List (List ℕ)) → length l ≡ 0 → l ≡ []
no_list [] e = refl
no_list (x ∷ xs) e = cc

eqb_some : (n : ℕ) → eqb n 0 ≡ false → 0 < n
eqb_some zero e = cc
eqb_some (suc n) e = omega arith

-- an image has some page frame
some_numbers : (c : Counts) → counts_fault SkipZeros c ≡ None → 0 < c.image_pages
some_numbers c e = go (eqb c.image_pages 0) (leb (meta_of c.image_pages + 1) c.pages && leb c.pages (c.image_pages + (meta_of c.image_pages + 1))) refl e where
  go : (z t : Bool) → z ≡ eqb c.image_pages 0 → cond (z || not t) (Some (finding.Counts c.image_pages c.pages)) None ≡ None → 0 < c.image_pages
  go true t is e = cc
  go false t is e = eqb_some c.image_pages (sym is)

pub told_of : (l : Limits) (first : ℕ) (h : List Name) (c : Counts) → c.image_pages ≤ last_count → IsReading l first h → history_findings SkipZeros h ≡ [] → counts_by (pages_in h) ≡ Some c → IsTold h c
told_of l first [] c fits reading clean said = cc
told_of l first (map_at b answer ∷ h) c fits reading clean said =
    told_map h b answer c (told_of l first h c fits reading.0 (left_none (history_findings SkipZeros h) (name_findings SkipZeros h (map_at b answer)) clean) (ap counts_by (sym (append-nil (pages_in h))) ∙ said))
told_of l first (entry_at b (Err why) ∷ h) c fits reading clean said =
    let before = left_none (history_findings SkipZeros h) (name_findings SkipZeros h (entry_at b (Err why))) clean in
    let now = right_none (history_findings SkipZeros h) (name_findings SkipZeros h (entry_at b (Err why))) clean in
    let still = ap counts_by (sym (append-nil (pages_in h))) ∙ said in
    let begun = begun_of SkipZeros l first h c reading.0 before still in
    let room = counts_room SkipZeros c begun.fine in
    let answer : Result (List ℕ) BlockFault = Err why in
    let late : meta_of c.image_pages < position_of h = elim (entry_clean SkipZeros l h c (position_of h) (place_of h) b (previous_of h) answer (data_findings SkipZeros (counts_of h) (position_of h) (data_of (entry_at b answer ∷ h)) answer)
    (subst (λ (x : Option Counts). list_of (entry_fault x (position_of h) (place_of h) b answer) ++ (read_findings SkipZeros x (position_of h) b (previous_of h) answer ++ data_findings SkipZeros (counts_of h) (position_of h) (data_of (entry_at b answer ∷ h)) answer) ≡ []) begun.known now) reading.1.2) [
      | inl (wanted, is) ↦ omega (arith, wanted, room)
      | inr (wanted, (page, is)) ↦ absurd (no_page why page is)
    ] in
    told_none h b why c (told_of l first h c fits reading.0 before still)
    (ap (λ (x : Option Counts). data_after x (position_of h) (data_of h) (Err why)) begun.known
    ∙ unless (leb (position_of h) (meta_of c.image_pages)) (counted_with (data_of h) (data_seen c.image_pages (position_of h) (Err why))) (data_of h) (lt-leb (position_of h) (meta_of c.image_pages) late)) where
      no_page : (fault : BlockFault) (page : List ℕ) → Err fault ≡ Ok page → ⊥
      no_page fault page e = cc
told_of l first (entry_at b (Ok page) ∷ h) c fits reading clean said =
    let x : Name = entry_at b (Ok page) in
    let n = c.image_pages in
    let before = left_none (history_findings SkipZeros h) (name_findings SkipZeros h x) clean in
    let now = right_none (history_findings SkipZeros h) (name_findings SkipZeros h x) clean in
    let counts = counted_of SkipZeros l first h reading.0 before in
    let size = length-append (pages_in h) (page ∷ []) in
    let placed : length (pages_in h) ≡ position_of h = next_page SkipZeros h b page counts (counted_of SkipZeros l first (x ∷ h) reading clean) reading.1.0 in
    let k = length (pages_in h) in
    elim (cases_lt 0 k) [
      | inr none ↦
          let empty = no_list (pages_in h) (omega (arith, none)) in
          let fine = (begun_of SkipZeros l first (x ∷ h) c reading clean said).fine in
          let one = ap (λ (p : List (List ℕ)). length (p ++ page ∷ [])) empty in
          let known = none_by (pages_in h) (counts_of h) (counts_read SkipZeros h counts) empty in
          record {
            so_far = λ few.
                told_first h b page known (none_yet l first h reading.0 before empty)
                ∙ ap (λ (m : ℕ). Some (data_in n (pages_in h ++ page ∷ []) (512 * m))) (let e : 0 ≡ length (pages_in h ++ page ∷ []) - 1 = omega (arith, one) in e);
            all = λ many. absurd (omega (arith, many, one, some_numbers c fine));
          }
      | inl some ↦
          let still = counts_still (pages_in h) page c some said in
          let begun = begun_of SkipZeros l first h c reading.0 before still in
          let t = told_of l first h c fits reading.0 before still in
          elim (cases_lt (meta_of n) k) [
            | inl late ↦ record {
              so_far = λ few. absurd (omega (arith, few, size, late));
              all = λ many. t.all (omega (arith, late)) ∙ ap (λ (d : ℕ). d + (meta_of n + 1)) (sym (in_old n (pages_in h) page (512 * meta_of n) (omega (arith, late))));
            }
            | inr early ↦
                let next = told_next h b page c k fits begun.known refl (sym placed) some early (t.so_far (omega (arith, early))) in
                record {
                  so_far = λ few. next ∙ ap (λ (m : ℕ). Some (data_in n (pages_in h ++ page ∷ []) (512 * m))) (let e : k ≡ length (pages_in h ++ page ∷ []) - 1 = omega (arith, size) in e);
                  all = λ many.
                      let last : k ≡ meta_of n = omega (arith, many, size, early) in
                      let rest = right_none (read_findings SkipZeros (counts_of h) (position_of h) b (previous_of h) (Ok page)) (data_findings SkipZeros (counts_of h) (position_of h) (data_of (x ∷ h)) (Ok page))
                      (right_none (list_of (entry_fault (counts_of h) (position_of h) (place_of h) b (Ok page))) (read_findings SkipZeros (counts_of h) (position_of h) b (previous_of h) (Ok page) ++ data_findings SkipZeros (counts_of h) (position_of h) (data_of (x ∷ h)) (Ok page)) now) in
                      fine_data c (position_of h) (data_in n (pages_in h ++ page ∷ []) (512 * k)) (counts_of h) (data_of (x ∷ h)) page rest begun.known next (sym placed ∙ last)
                      ∙ ap (λ (m : ℕ). data_in n (pages_in h ++ page ∷ []) (512 * m) + (meta_of n + 1)) last;
                }
          ]
    ]

by_format : (content : Option Content) (blocks header : ℕ) (p : Pages) (format : Format) (info : List ℕ) (rest : List (List ℕ)) → p.format ≡ format → Stands content blocks header p (info ∷ rest) → (counts_in info).image_pages ≤ last_count → meta_of (counts_in info).image_pages ≤ length rest → (counts_in info).pages ≡ listed_data format rest (counts_in info).image_pages + (meta_of (counts_in info).image_pages + 1)
by_format content blocks header p Plain info rest e s fits le =
    let fine : counts_fault Plain (counts_in info) ≡ None = subst (λ (f : Format). counts_fault f (counts_in info) ≡ None) e (fine_counts content blocks header p info rest s) in
    omega (arith, plain_counts (counts_in info) fine, data_plain rest (counts_in info).image_pages)
by_format content blocks header p SkipZeros info rest e s fits le =
    let c = counts_in info in
    let n = c.image_pages in
    let t = told_of s.start.limits s.start.first s.history c fits s.clean.reading
    (subst (λ (f : Format). history_findings f s.history ≡ []) (sym s.format ∙ e) s.clean.clean) (ap counts_by s.pages) in
    let all = t.all (omega (arith, ap length s.pages, le)) in
    let same : data_in n (pages_in s.history) (512 * meta_of n) ≡ data_in n (info ∷ rest) (512 * meta_of n) = ap (λ (x : List (List ℕ)). data_in n x (512 * meta_of n)) s.pages in
    let open_guard = guard n (512 * meta_of n) (λ j. has_page SkipZeros (word_in (page_at (info ∷ rest)) j)) (omega arith) in
    let words = counted_same (λ j. has_page SkipZeros (word_in (page_at (info ∷ rest)) j)) (λ j. has_page SkipZeros (listed rest j)) n (λ j lt. ap (has_page SkipZeros) (word_behind info rest j)) in
    omega (arith, all, same, open_guard, words)

-- the pages are the info page, the number pages, and the data pages of the numbers that have one
pub data_follows : (content : Option Content) (blocks header : ℕ) (p : Pages) (info : List ℕ) (rest : List (List ℕ)) → Stands content blocks header p (info ∷ rest) → (counts_in info).image_pages ≤ last_count → meta_of (counts_in info).image_pages ≤ length rest → (counts_in info).pages ≡ listed_data p.format rest (counts_in info).image_pages + (meta_of (counts_in info).image_pages + 1)
data_follows content blocks header p info rest s fits le = by_format content blocks header p p.format info rest refl s fits le
