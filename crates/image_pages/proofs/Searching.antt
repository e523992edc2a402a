-- Number pages that are searched, one after another.
use Rattle.std.proofs.Common.{◌≡◌, ◌≢◌, ℕ, ◌+◌, ◌-◌, ◌*◌, ◌/◌, ◌%◌, ◌<◌, ◌≤◌, ◌&&◌, ◌||◌, Bool, true, false, List, [], ◌∷◌, ◌++◌, length, Option, Some, None, cond, eqb, leb, not, inl, inr, sym, ap, subst, ◌∙◌, arith, refl, get_or, length-append, append-nil, append_assoc}
use Rattle.std.proofs.lemmas.Bool.{cases_lt, leb-true}
use Rattle.std.proofs.Math.Seq.{get_or-append_seam}
use Rattle.page_core.specs.declared.format.Format.TheVariants.{Plain, SkipZeros}
use Rattle.page_core.specs.declared.format.Format.{Format}
use Rattle.definitions.specs.Bytes.{word}
use Rattle.definitions.specs.Disk.{Content, last_count}
use Rattle.definitions.specs.NumberPages.{meta_of}
use Rattle.image_walk.specs.Names.{maps_in}
use Rattle.image_check.specs.Entries.{counts_of, position_of}
use Rattle.image_check.specs.Info.{counts_in, counts_fault}
use Rattle.image_check.specs.Numbers.{frame_of}
use Rattle.image_check.specs.Told.{Told}
use Rattle.image_check.specs.declared.finding.Counts.{Counts}
use Rattle.image_check.specs.declared.finding.Finding.{Finding}
use Rattle.image_check.specs.declared.finding.Finding.TheVariants as finding
use Rattle.image_pages.specs.Clean.{counts_by, pages_in}
use Rattle.image_pages.specs.Stands.{Stands}
use Rattle.image_pages.specs.declared.pages.Pages.{Pages}
use Rattle.image_pages.proofs.Counting.{IsCounted, counted_of, the_same}
use Rattle.image_pages.proofs.Findings.{plain_counts}
use Rattle.image_pages.specs.Ahead.{HasInfo, HasMore, HasRead, IsAhead, IsListed, IsMarked, Seeks, SeeksAt, data_words, listed, listed_data}
use Rattle.image_pages.specs.Found.{page_at}
use Rattle.image_pages.specs.Saved.{has_page}
use Rattle.image_pages.specs.declared.saved.finding.Search.{Search}
use Rattle.image_pages.specs.declared.saved.finding.Search.TheVariants as search
use Rattle.image_pages.proofs.Data.{data_added, data_kept, listed_before, listed_last}

none_some : (pages : List (List ℕ)) (info : List ℕ) (rest : List (List ℕ)) → pages ≡ info ∷ rest → pages ≡ [] → ⊥
none_some pages info rest e f = cc

-- nothing is wrong with the numbers of an info page that was read
pub fine_counts : (content : Option Content) (blocks header : ℕ) (p : Pages) (info : List ℕ) (rest : List (List ℕ)) → Stands content blocks header p (info ∷ rest) → counts_fault p.format (counts_in info) ≡ None
fine_counts content blocks header p info rest s =
    let h = s.history in
    let c = counted_of s.start.format s.start.limits s.start.first h s.clean.reading s.clean.clean in
    let k : IsCounted s.start.format (position_of h) (counts_of h) (pages_in h) = elim (cases_lt 0 (maps_in h)) [
      | inr none ↦ absurd (none_some (pages_in h) info rest s.pages (c.unmapped (omega arith)).1)
      | inl some ↦ elim (cases_lt 0 (position_of h)) [
        | inr start ↦ absurd (none_some (pages_in h) info rest s.pages (c.begun some (omega arith)).0)
        | inl later ↦ c.counted some later
      ]
    ] in
    let same : k.counts ≡ counts_in info = the_same k.counts (counts_in info) (sym k.said ∙ ap counts_by s.pages) in
    subst (λ (x : Counts). counts_fault p.format x ≡ None) same
    (subst (λ (f : Format). counts_fault f k.counts ≡ None) (sym s.format) k.fine)

-- the image has its number pages
pub counts_room : (format : Format) (c : Counts) → counts_fault format c ≡ None → meta_of c.image_pages + 1 ≤ c.pages
counts_room Plain c e = let k = plain_counts c e in omega arith
counts_room SkipZeros c e = go (eqb c.image_pages 0) (leb (meta_of c.image_pages + 1) c.pages) (leb c.pages (c.image_pages + (meta_of c.image_pages + 1))) refl e where
  go : (z s t : Bool) → s ≡ leb (meta_of c.image_pages + 1) c.pages → cond (z || not (s && t)) (Some (finding.Counts c.image_pages c.pages)) None ≡ None → meta_of c.image_pages + 1 ≤ c.pages
  go true s t is e = cc
  go false false t is e = cc
  go false true false is e = cc
  go false true true is e = leb-true (meta_of c.image_pages + 1) c.pages (sym is)

-- The first k number pages don't have the number of the page frame, and `earlier` of their words have a data page.
pub record Searched (content : Option Content) (blocks header : ℕ) (q : Pages) (format : Format) (info : List ℕ) (n frame k earlier : ℕ) : Type 0 where
  pub pages : List (List ℕ)
  pub stands : Stands content blocks header q (info ∷ pages)
  pub size : length pages ≡ k
  pub none : (i : ℕ) → i < 512 * k → i < n → frame_of format (listed pages i) ≢ frame
  pub counted : 512 * k ≤ n → earlier ≡ listed_data format pages (512 * k)

pub searched_none : (content : Option Content) (blocks header : ℕ) (q : Pages) (format : Format) (info : List ℕ) (n frame : ℕ) → Stands content blocks header q (info ∷ []) → Searched content blocks header q format info n frame 0 0
searched_none content blocks header q format info n frame s = record {
  pages = [];
  stands = s;
  size = refl;
  none = λ i lt inside. absurd (omega arith);
  counted = λ le. refl;
}

-- a word after those of the pages before stands among the first ones of the page
placed : (i n k count : ℕ) → 512 * k ≤ i → i < 512 * (k + 1) → i < n → (n - 512 * k ≤ 512 → count ≡ n - 512 * k) → (512 ≤ n - 512 * k → count ≡ 512) → i % 512 < count
placed i n k count late lt within few full = elim (cases_lt (n - 512 * k) 512) [
  | inl less ↦ on_page i k count (n - 512 * k) late lt (omega arith) (few (omega arith))
  | inr more ↦ full_page i count (full more)
] where
  full_page : (j c : ℕ) → c ≡ 512 → j % 512 < c
  full_page j c e = omega arith

  on_page : (j m c left : ℕ) → 512 * m ≤ j → j < 512 * (m + 1) → j < 512 * m + left → c ≡ left → j % 512 < c
  on_page j m c left from to inside e =
      let rest : j % 512 ≡ j - 512 * m = omega (arith, from, to) in
      omega (arith, rest, inside, e, from)

one_page : (k : ℕ) → 512 * k + 512 ≡ 512 * (k + 1)
one_page k = omega arith

pub searched_more : (content : Option Content) (blocks header : ℕ) (p q : Pages) (format : Format) (info page : List ℕ) (n frame k count earlier : ℕ) (s : Searched content blocks header p format info n frame k earlier) → Stands content blocks header q ((info ∷ s.pages) ++ page ∷ []) → 512 * k < n → (n - 512 * k ≤ 512 → count ≡ n - 512 * k) → (512 ≤ n - 512 * k → count ≡ 512) → ((i : ℕ) → i < count → frame_of format (word page i) ≢ frame) → Searched content blocks header q format info n frame (k + 1) (earlier + data_words format page count)
searched_more content blocks header p q format info page n frame k count earlier s t inside few full fresh =
    let size = s.size in
    record {
      pages = s.pages ++ page ∷ [];
      stands = t;
      size = omega (arith, length-append s.pages (page ∷ []), size);
      none = λ i lt within. elim (cases_lt i (512 * k)) [
        | inl early ↦ λ is. s.none i early within (ap (frame_of format) (sym (listed_before s.pages (page ∷ []) i (omega arith))) ∙ is)
        | inr late ↦ λ is.
            fresh (i % 512) (placed i n k count late lt within few full) (ap (frame_of format) (sym (listed_last s.pages page i (omega arith))) ∙ is)
      ];
      counted = λ le.
          let all : count ≡ 512 = full (omega arith) in
          let before : earlier ≡ listed_data format s.pages (512 * k) = s.counted (omega arith) in
          let added = data_added format s.pages page k 512 size (omega arith) in
          let words : data_words format page count ≡ data_words format page 512 = ap (data_words format page) all in
          ap (λ (d : ℕ). d + data_words format page count) before
          ∙ ap (λ (d : ℕ). listed_data format s.pages (512 * k) + d) words
          ∙ sym added
          ∙ ap (listed_data format (s.pages ++ page ∷ [])) (one_page k);
    }

-- word i of the page that was read last is that of the page frame
listed_here : (format : Format) (pages : List (List ℕ)) (page : List ℕ) (n frame k i : ℕ) → length pages ≡ k → 512 * k + i < n → i < 512 → frame_of format (word page i) ≡ frame → (l : IsListed format (pages ++ page ∷ []) n frame) × (l.index ≡ 512 * k + i) × (listed (pages ++ page ∷ []) l.index ≡ word page i)
listed_here format pages page n frame k i size inside small is =
    let at : (512 * k + i) / 512 ≡ k = omega arith in
    let rest : (512 * k + i) % 512 ≡ i = omega arith in
    let same : listed (pages ++ page ∷ []) (512 * k + i) ≡ word page i = listed_last pages page (512 * k + i) (at ∙ sym size) ∙ ap (word page) rest in (
      record {
        index = 512 * k + i;
        inside = inside;
        newest = omega (arith, length-append pages (page ∷ []), at, size);
        number = ap (frame_of format) same ∙ is;
      },
      refl,
      same,
    )

pub searched_found : (content : Option Content) (blocks header before now : ℕ) (told then : Told) (q : Pages) (format : Format) (counts : Counts) (info page : List ℕ) (pages : List (List ℕ)) (frame k i lists earlier : ℕ) (search : Search) → then ≡ told → Stands content blocks header q (info ∷ (pages ++ page ∷ [])) → length pages ≡ k → 512 * k + i < counts.image_pages → i < 512 → frame_of format (word page i) ≡ frame → k + 1 + lists ≡ meta_of counts.image_pages → counts.image_pages ≤ last_count → earlier ≡ listed_data format pages (512 * k) → SeeksAt format page i lists earlier search → Seeks content blocks header before now told then format counts info frame q search
searched_found content blocks header before now told then q format counts info page pages frame k i lists earlier search.Refused same s size inside small is further fits count seeks = absurd seeks
searched_found content blocks header before now told then q format counts info page pages frame k i lists earlier search.Nowhere same s size inside small is further fits count seeks = absurd seeks
searched_found content blocks header before now told then q format counts info page pages frame k i lists earlier search.Zeros same s size inside small is further fits count seeks =
    let (l, at, word_is) = listed_here format pages page counts.image_pages frame k i size inside small is in
    (same, (pages ++ page ∷ [], (s, record { at = l; marked = ap (has_page format) word_is ∙ seeks })))
searched_found content blocks header before now told then q format counts info page pages frame k i lists earlier (search.Ahead later wanted) same s size inside small is further fits count (has, more, less) =
    let (l, at, word_is) = listed_here format pages page counts.image_pages frame k i size inside small is in (
      same,
      (
        pages ++ page ∷ [],
        (
          s,
          record {
            at = l;
            has = ap (has_page format) word_is ∙ has;
            further = omega (arith, length-append pages (page ∷ []), size, further, more);
            small = fits;
            count = less ∙ ap (λ (d : ℕ). d + data_words format page i + 1) count ∙ ap (λ (d : ℕ). d + 1) (sym (data_added format pages page k i size (omega arith)) ∙ ap (listed_data format (pages ++ page ∷ [])) (sym at));
          },
        ),
      ),
    )

-- where more pages are wanted
pub has_more : (info : List ℕ) (rest : List (List ℕ)) (n : ℕ) → n ≤ (counts_in info).pages → length (info ∷ rest) < n → HasMore (info ∷ rest)
has_more info rest n le lt = omega arith

pub has_read_none : (content : Option Content) (blocks header : ℕ) (given : List (List ℕ)) (q : Pages) (page : List ℕ) → Stands content blocks header q given → HasRead content blocks header given q page 0
has_read_none content blocks header given q page s = record {
  more = [];
  stands = subst (λ (g : List (List ℕ)). Stands content blocks header q g) (sym (append-nil given)) s;
  size = refl;
  last = λ lt. absurd (omega arith);
}

pub has_read_more : (content : Option Content) (blocks header : ℕ) (given : List (List ℕ)) (p q : Pages) (old page : List ℕ) (k : ℕ) (r : HasRead content blocks header given p old k) → Stands content blocks header q ((given ++ r.more) ++ page ∷ []) → HasRead content blocks header given q page (k + 1)
has_read_more content blocks header given p q old page k r s =
    let size = r.size in
    record {
      more = r.more ++ page ∷ [];
      stands = subst (λ (g : List (List ℕ)). Stands content blocks header q g) (append_assoc given r.more (page ∷ [])) s;
      size = omega (arith, length-append r.more (page ∷ []));
      last = λ lt. sym (get_or-append_seam r.more page [] []) ∙ ap (page_at (r.more ++ page ∷ [])) (size ∙ back k);
    } where
      back : (j : ℕ) → j ≡ j + 1 - 1
      back j = omega arith

-- pages that are wanted ahead
pub more_ahead : (info : List ℕ) (rest more : List (List ℕ)) (k count : ℕ) → length more ≡ k → k < count → length (info ∷ rest) + count ≤ (counts_in info).pages → HasMore ((info ∷ rest) ++ more)
more_ahead info rest more k count size lt le = omega (arith, length-append rest more)

-- the info page, and what it says
pub info_has : (c d : Option Content) (m n header : ℕ) (p : Pages) (info : List ℕ) (known : Option Counts) (counts : Counts) → ((x : Option Content) (b h : ℕ) (given : List (List ℕ)) → Stands x b h p given → known ≡ counts_by given) → known ≡ Some counts → d ≡ c → n ≡ m → Stands c m header p (info ∷ []) → HasInfo d n header p counts info
info_has c d m n header p info known counts said is e f s =
    let same : counts_in info ≡ counts = the_same (counts_in info) counts (sym (said c m header (info ∷ []) s) ∙ is) in
    record {
      stands = subst (λ (x : Option Content). Stands x n header p (info ∷ [])) (sym e) (subst (λ (k : ℕ). Stands c k header p (info ∷ [])) (sym f) s);
      said = same;
      room = subst (λ (x : Counts). meta_of x.image_pages + 1 ≤ x.pages) same (counts_room p.format (counts_in info) (fine_counts c m header p info [] s));
    }
