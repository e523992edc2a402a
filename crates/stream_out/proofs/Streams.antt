-- What is left of a stream after a cursor, and the pages of a stream by their number.
use Rattle.std.proofs.Common.{◌≡◌, ◌≤◌, ◌<◌, inl, inr, ℕ, ◌+◌, ◌-◌, List, [], ◌∷◌, ◌++◌, length, get_or, map, filter, not, take, drop, suc, refl, sym, ap, ap₂, ◌∙◌, arith, length-append}
use Rattle.std.proofs.lemmas.Bool.{cases_lt}
use Rattle.std.proofs.lemmas.List.{drop_more, drop_all, drop-drop, drop-append-le, take-append-le, get_or_append_left, get_or-append-add, length-map, length-drop}
use Rattle.std.proofs.lemmas.List.FromFn.{length-map-range_with_len, get_or-map-range_with_len}
use Rattle.std.specs.List.{concat, All, Contains}
use Rattle.definitions.specs.InfoPage.{info_page}
use Rattle.definitions.specs.NumberPages.{meta_of, marked_numbers, number_page, number_pages}
use Rattle.definitions.specs.Tables.{frame}
use Rattle.definitions.proofs.Ascending.{length-between}
use Rattle.definitions.proofs.ZoneNumbers.{below_top, top_at_most}
use Rattle.frame_sets.specs.FrameSet.{FrameSet, IsFrameSet}
use Rattle.frame_sets.proofs.Filling.{length-marked}
use Rattle.plain_machine.specs.Image.{stream_of, stream_pages, has_data, n_of, d_of, pages_of, info_of_image, numbers_of, with_data, without_data}
use Rattle.page_core.specs.declared.format.Format.TheVariants.{Plain}
use Rattle.definitions.specs.declared.info.Info.{Info}
use Rattle.definitions.specs.Zones.{numbers, top}
use Rattle.std.proofs.lemmas.List.Elements.{All-contains}
use Rattle.plain_machine.specs.Machine.{Hardware, Memory, saveable, valid_count}
use Rattle.stream_out.specs.Bytes.{plain_image}
use Rattle.stream_out.specs.Cursor.{left_behind, IsPart}
use Rattle.stream_out.specs.Pages.{stream_over, info_over}
use Rattle.stream_out.specs.declared.cursor.Cursor.{Cursor}

-- The bytes that are left.

left_here : (pages : List (List ℕ)) (c : Cursor) → c.page < length pages → left_behind pages c ≡ drop c.at (get_or pages c.page [] ++ concat (drop (c.page + 1) pages))
unfolding left_behind
left_here pages c lt = ap (λ (xss : List (List ℕ)). drop c.at (concat xss)) (drop_more pages c.page [] lt)

-- the rest of the cursor's page, and the pages after it
left_in_page : (pages : List (List ℕ)) (c : Cursor) → c.page < length pages → c.at ≤ length (get_or pages c.page []) → left_behind pages c ≡ drop c.at (get_or pages c.page []) ++ concat (drop (c.page + 1) pages)
left_in_page pages c lt le = left_here pages c lt ∙ drop-append-le c.at (get_or pages c.page []) (concat (drop (c.page + 1) pages)) le

pub all_left : (pages : List (List ℕ)) (c : Cursor) → c.page ≡ 0 → c.at ≡ 0 → left_behind pages c ≡ concat pages
unfolding left_behind
all_left pages c page at = ap₂ (λ (i k : ℕ). drop i (concat (drop k pages))) at page

pub nothing_left : (pages : List (List ℕ)) (c : Cursor) → length pages ≤ c.page → left_behind pages c ≡ []
unfolding left_behind
nothing_left pages c le = ap (λ (xss : List (List ℕ)). drop c.at (concat xss)) (drop_all c.page pages le) ∙ drop_all c.at [] (omega arith)

module _ (pages : List (List ℕ)) (old new : Cursor) (before after : List ℕ) (count : ℕ) (lt : old.page < length pages) (part : IsPart (get_or pages old.page []) old new before after count) where
  abbrev page : List ℕ
  page = get_or pages old.page []

  abbrev rest : List ℕ
  rest = concat (drop (old.page + 1) pages)

  within : old.at ≤ length page
  within = let whole = part.whole in let fits = part.of_page in omega arith

  room : count ≤ length (drop old.at page)
  room = let whole = part.whole in let fits = part.of_page in omega (arith, length-drop old.at page)

  pub part_fits : count ≤ length (left_behind pages old)
  part_fits = let fits = room in omega (arith, ap length (left_in_page pages old lt within), length-append (drop old.at page) rest)

  pub part_bytes : after ≡ take count (left_behind pages old) ++ drop count before
  part_bytes =
      part.bytes
      ∙ ap (λ (xs : List ℕ). xs ++ drop count before) (sym (ap (take count) (left_in_page pages old lt within) ∙ take-append-le count (drop old.at page) rest room))

  left_of_page : drop count (left_behind pages old) ≡ drop (old.at + count) page ++ rest
  left_of_page =
      ap (drop count) (left_in_page pages old lt within)
      ∙ drop-append-le count (drop old.at page) rest room
      ∙ ap (λ (xs : List ℕ). xs ++ rest) (drop-drop count old.at page)

  in_page : new.page ≡ old.page → new.at ≡ old.at + count → left_behind pages new ≡ drop (old.at + count) page ++ rest
  unfolding left_behind
  in_page same at =
      ap₂ (λ (i k : ℕ). drop i (concat (drop k pages))) at same
      ∙ ap (λ (xss : List (List ℕ)). drop (old.at + count) (concat xss)) (drop_more pages old.page [] lt)
      ∙ drop-append-le (old.at + count) page rest (let whole = part.whole in let fits = part.of_page in omega arith)

  at_next : new.page ≡ old.page + 1 → new.at ≡ 0 → left_behind pages new ≡ rest
  unfolding left_behind
  at_next next at = ap₂ (λ (i k : ℕ). drop i (concat (drop k pages))) at next

  pub part_left : left_behind pages new ≡ drop count (left_behind pages old)
  part_left = elim (cases_lt (old.at + count) 4096) [
    | inl below ↦ let is = part.same_page below in in_page is.0 is.1 ∙ sym left_of_page
    | inr above ↦
        let fits = part.of_page in
        let full : old.at + count ≡ 4096 = omega arith in
        let is = part.next_page full in
        let whole = part.whole in
        at_next is.0 is.1 ∙ sym (left_of_page ∙ ap (λ (xs : List ℕ). xs ++ rest) (drop_all (old.at + count) page (omega arith)))
  ]

-- The pages by their number.

pub first_page : (h : Hardware) (frames : List ℕ) (saved : List (List ℕ)) → get_or (stream_over h frames saved) 0 [] ≡ info_page (info_over h (length frames))
unfolding stream_pages
first_page h frames saved = refl

behind_first : (h : Hardware) (frames : List ℕ) (saved : List (List ℕ)) (j : ℕ) → get_or (stream_over h frames saved) (suc j) [] ≡ get_or (number_pages (marked_numbers frames []) ++ saved) j []
unfolding stream_pages
behind_first h frames saved j = refl

length-number_pages : (frames : List ℕ) → length (number_pages (marked_numbers frames [])) ≡ meta_of (length frames)
length-number_pages frames =
    length-map-range_with_len (number_page (marked_numbers frames [])) 0 (meta_of (length (marked_numbers frames []))) ∙ ap meta_of (length-marked frames [])

pub number_page_at : (h : Hardware) (frames : List ℕ) (saved : List (List ℕ)) (j : ℕ) → j < meta_of (length frames) → get_or (stream_over h frames saved) (suc j) [] ≡ number_page (marked_numbers frames []) j
number_page_at h frames saved j lt =
    let size = length-number_pages frames in
    let count : j < meta_of (length (marked_numbers frames [])) = omega (arith, length-marked frames []) in
    behind_first h frames saved j
    ∙ get_or_append_left (number_pages (marked_numbers frames [])) saved [] j (omega arith)
    ∙ get_or-map-range_with_len (number_page (marked_numbers frames [])) 0 (meta_of (length (marked_numbers frames []))) j j [] count (omega arith)

pub data_page_at : (h : Hardware) (frames : List ℕ) (saved : List (List ℕ)) (k : ℕ) → meta_of (length frames) + 1 ≤ k → get_or (stream_over h frames saved) k [] ≡ get_or saved (k - (meta_of (length frames) + 1)) []
data_page_at h frames saved k le =
    let size = length-number_pages frames in
    let j = k - (meta_of (length frames) + 1) in
    let at : k ≡ suc (length (number_pages (marked_numbers frames [])) + j) = omega arith in
    ap (λ (i : ℕ). get_or (stream_over h frames saved) i []) at
    ∙ behind_first h frames saved (length (number_pages (marked_numbers frames [])) + j)
    ∙ get_or-append-add (number_pages (marked_numbers frames [])) saved j []

pub length-stream_over : (h : Hardware) (frames : List ℕ) (saved : List (List ℕ)) → length (stream_over h frames saved) ≡ meta_of (length frames) + 1 + length saved
unfolding stream_pages
length-stream_over h frames saved = let size = length-number_pages frames in omega (arith, length-append (number_pages (marked_numbers frames [])) saved)

-- The pages are those of the image.

abbrev Saved : Type 0
Saved = ℕ × List ℕ

numbers_are : (f : ℕ → List ℕ) (ps : List ℕ) → map (λ (s : Saved). s.0) (map (λ p. (p, f p)) ps) ≡ ps
numbers_are f [] = refl
numbers_are f (p ∷ ps) = ap (λ (qs : List ℕ). p ∷ qs) (numbers_are f ps)

pages_are : (f : ℕ → List ℕ) (ps : List ℕ) → map (λ (s : Saved). s.1) (filter (has_data Plain) (map (λ p. (p, f p)) ps)) ≡ map f ps
pages_are f [] = refl
pages_are f (p ∷ ps) = ap (λ (qs : List (List ℕ)). f p ∷ qs) (pages_are f ps)

none_without : (f : ℕ → List ℕ) (ps : List ℕ) → map (λ (s : Saved). s.0) (filter (λ s. not (has_data Plain s)) (map (λ p. (p, f p)) ps)) ≡ []
none_without f [] = refl
none_without f (p ∷ ps) = none_without f ps

counted : (f : ℕ → List ℕ) (ps : List ℕ) → length (filter (has_data Plain) (map (λ p. (p, f p)) ps)) ≡ length ps
counted f [] = refl
counted f (p ∷ ps) = ap suc (counted f ps)

pub stream_is : (h : Hardware) (m : Memory) → stream_of (plain_image h m) ≡ stream_over h (saveable h m) (map (frame m) (saveable h m))
stream_is h m =
    let ps = saveable h m in
    let i = plain_image h m in
    let n : n_of i ≡ length ps = length-map ps (λ (p : ℕ). let s : Saved = (p, frame m p) in s) in
    let d : d_of i ≡ length ps = counted (frame m) ps in
    let pages : pages_of i ≡ length ps + (meta_of (length ps) + 1) = omega (arith, ap meta_of n) in
    let info : info_of_image i ≡ info_over h (length ps) =
    ap₂ (λ (k all : ℕ). let info : Info = record { ident = h.ident; physpages = valid_count h; image_pages = k; pages = all } in info) n pages in
    let numbers : marked_numbers (numbers_of i) (without_data i) ≡ marked_numbers ps [] = ap₂ marked_numbers (numbers_are (frame m) ps) (none_without (frame m) ps) in
    ap₂ (λ (info : Info) (numbers : List ℕ). stream_pages info numbers (map (λ (s : Saved). s.1) (with_data i))) info numbers
    ∙ ap (stream_pages (info_over h (length ps)) (marked_numbers ps [])) (pages_are (frame m) ps)

-- the memory has the members of a set
pub all_within : (set : FrameSet) (n : ℕ) → IsFrameSet set → n ≡ top set.zones → All (λ p. p < n) set.members
all_within set n h size k d lt =
    let apart = h.zones.apart in
    let below = below_top set.zones (get_or set.members k d) apart (h.valid k d lt) in
    omega arith
