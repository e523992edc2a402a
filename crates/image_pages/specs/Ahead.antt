-- What is read on the way to the page of a page frame.
use Rattle.std.specs.Prelude.{◌≡◌, ◌≢◌, ℕ, ◌+◌, ◌-◌, ◌/◌, ◌%◌, ◌<◌, ◌≤◌, Bool, true, false, List, [], ◌∷◌, ◌++◌, length}
use Rattle.std.specs.Prelude.{Option, ⊤, count_by}
use Rattle.std.specs.List.{range_with_len}
use Rattle.page_core.specs.declared.format.Format.{Format}
use Rattle.definitions.specs.Bytes.{word}
use Rattle.definitions.specs.Disk.{Content, last_count}
use Rattle.definitions.specs.NumberPages.{meta_of}
use Rattle.image_check.specs.Info.{counts_in}
use Rattle.image_check.specs.Numbers.{frame_of}
use Rattle.image_check.specs.Told.{Told}
use Rattle.image_check.specs.declared.finding.Counts.{Counts}
use Rattle.image_pages.specs.Ends.{IsRefused}
use Rattle.image_pages.specs.Stands.{Stands}
use Rattle.image_pages.specs.declared.pages.Pages.{Pages}
use Rattle.image_pages.specs.Found.{page_at}
use Rattle.image_pages.specs.Saved.{has_page}
use Rattle.image_pages.specs.declared.saved.finding.Search.{Search}
use Rattle.image_pages.specs.declared.saved.finding.Search.TheVariants as search
use Rattle.definitions.specs.declared.counts.TheConstants.{WORDS_PER_PAGE}

-- the image has more pages than these
abbrev pub HasMore : List (List ℕ) → Type 0
HasMore [] = ⊤
HasMore (info ∷ rest) = length (info ∷ rest) < (counts_in info).pages

-- the next page was read, or the reading was refused at the first name with findings
abbrev pub GivesOne : Option Content → (blocks header before now : ℕ) → (told then : Told) → List (List ℕ) → Pages →
    List ℕ → Bool → Type 0
GivesOne content blocks header before now told then given q page true =
    (then ≡ told) × Stands content blocks header q (given ++ page ∷ [])
GivesOne content blocks header before now told then given q page false =
    IsRefused content blocks header before now told then given

-- the given number of further pages was read, and this is the last of them
pub record HasRead (content : Option Content) (blocks header : ℕ) (given : List (List ℕ)) (q : Pages) (page : List ℕ)
    (count : ℕ) : Type 0 where
  pub more : List (List ℕ)
  pub stands : Stands content blocks header q (given ++ more)
  pub size : length more ≡ count
  pub last : 0 < count → page ≡ page_at more (count - 1)

abbrev pub GivesMore : Option Content → (blocks header before now : ℕ) → (told then : Told) → List (List ℕ) → Pages →
    List ℕ → ℕ → Bool → Type 0
GivesMore content blocks header before now told then given q page count true =
    (then ≡ told) × HasRead content blocks header given q page count
GivesMore content blocks header before now told then given q page count false =
    (pages : List (List ℕ)) × IsRefused content blocks header before now told then pages

-- only the info page was read, and the image has its number pages
pub record HasInfo (content : Option Content) (blocks header : ℕ) (p : Pages) (counts : Counts)
    (info : List ℕ) : Type 0 where
  pub stands : Stands content blocks header p (info ∷ [])
  pub said : counts_in info ≡ counts
  pub room : meta_of counts.image_pages + 1 ≤ counts.pages

-- word i in these number pages, and how many of those before it have a data page
abbrev pub listed : List (List ℕ) → ℕ → ℕ
listed pages i = word (page_at pages (i / WORDS_PER_PAGE)) (i % WORDS_PER_PAGE)

abbrev pub listed_data : Format → List (List ℕ) → ℕ → ℕ
listed_data format pages i = count_by (λ j. has_page format (listed pages j)) (range_with_len 0 i)

-- how many of the first i words of a page have a data page
abbrev pub data_words : Format → List ℕ → ℕ → ℕ
data_words format page i = count_by (λ j. has_page format (word page j)) (range_with_len 0 i)

-- word i, on the last of these number pages, is that of the page frame
pub record IsListed (format : Format) (pages : List (List ℕ)) (n frame : ℕ) : Type 0 where
  pub index : ℕ
  pub inside : index < n
  pub newest : length pages ≡ index / WORDS_PER_PAGE + 1
  pub number : frame_of format (listed pages index) ≡ frame

-- the page frame has no data page
pub record IsMarked (format : Format) (pages : List (List ℕ)) (n frame : ℕ) : Type 0 where
  pub at : IsListed format pages n frame
  pub marked : has_page format (listed pages at.index) ≡ false

-- the page frame has a data page: `lists` more number pages come first, then it is data page `wanted`, counted from 1
pub record IsAhead (format : Format) (pages : List (List ℕ)) (n frame lists wanted : ℕ) : Type 0 where
  pub at : IsListed format pages n frame
  pub has : has_page format (listed pages at.index) ≡ true
  pub further : length pages + lists ≡ meta_of n
  pub count : wanted ≡ listed_data format pages at.index + 1
  pub small : n ≤ last_count

-- the result of a search on the number pages
abbrev pub Seeks : Option Content → (blocks header before now : ℕ) → (told then : Told) → Format → Counts → List ℕ →
    ℕ → Pages → Search → Type 0
Seeks content blocks header before now told then format counts info frame q search.Refused =
    (pages : List (List ℕ)) × IsRefused content blocks header before now told then pages
Seeks content blocks header before now told then format counts info frame q search.Nowhere =
    (then ≡ told) × ((pages : List (List ℕ)) × (Stands content blocks header q (info ∷ pages)
    × (length pages ≡ meta_of counts.image_pages)
    × ((i : ℕ) → i < counts.image_pages → frame_of format (listed pages i) ≢ frame)))
Seeks content blocks header before now told then format counts info frame q search.Zeros =
    (then ≡ told) × ((pages : List (List ℕ)) × (Stands content blocks header q (info ∷ pages)
    × IsMarked format pages counts.image_pages frame))
Seeks content blocks header before now told then format counts info frame q (search.Ahead lists wanted) =
    (then ≡ told) × ((pages : List (List ℕ)) × (Stands content blocks header q (info ∷ pages)
    × IsAhead format pages counts.image_pages frame lists wanted))

-- the same for word i of the newest page; the number pages before it have `earlier` data pages
abbrev pub SeeksAt : Format → List ℕ → (i lists earlier : ℕ) → Search → Type 0
SeeksAt format page i lists earlier search.Refused = ⊥
SeeksAt format page i lists earlier search.Nowhere = ⊥
SeeksAt format page i lists earlier search.Zeros = has_page format (word page i) ≡ false
SeeksAt format page i lists earlier (search.Ahead later wanted) =
    (has_page format (word page i) ≡ true) × (later ≡ lists) × (wanted ≡ earlier + data_words format page i + 1)
