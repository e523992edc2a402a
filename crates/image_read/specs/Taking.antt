-- What a reader takes from a block, by its place.
use Rattle.std.specs.Prelude.{◌≡◌, ◌<◌, ◌⊎◌, ℕ, ◌+◌, ◌/◌, ◌%◌, ◌==◌, List, ◌++◌, length, filter, not, Option, Some}
use Rattle.std.specs.Prelude.{None, Result, Ok, Err, if◌then◌else◌}
use Rattle.std.specs.List.{list_any}
use Rattle.definitions.specs.Zones.{numbers, first_from}
use Rattle.definitions.specs.InfoPage.{info_of}
use Rattle.definitions.specs.declared.info.Ident.{Ident}
use Rattle.definitions.specs.declared.info.Info.{Info}
use Rattle.frame_sets.specs.Numbers.{page_fault, wanted, numbers_in, marked_in, after_page}
use Rattle.frame_sets.specs.declared.packing.unpack.PfnFault.{PfnFault}
use Rattle.plain_machine.specs.Chain.{or_else}
use Rattle.plain_machine.specs.Trace.{place_count}
use Rattle.image_read.specs.Causes.{cause_of_numbers}
use Rattle.image_read.specs.Reading.{Reading}
use Rattle.image_read.specs.Faults.{info_fault, pages_fault, named_fault, named_block}
use Rattle.image_read.specs.declared.cause.Cause.{Cause}
use Rattle.definitions.specs.declared.counts.TheConstants.{BLOCKS_PER_MAP}

-- The info page.

abbrev pub with_info : Reading → Info → Reading
with_info r info = record r {
  pages = info.pages;
  saved = info.image_pages;
  numbers = record { n = info.image_pages; format = r.format; read = 0; last = None };
}

abbrev pub TakesInfo : Option Ident → ℕ → Reading → Info → Result (Option ℕ) Cause → Reading → Type 0
TakesInfo own valid r info (Err cause) new = (info_fault own valid r.format info ≡ Some cause) × (new.listed ≡ r.listed)
TakesInfo own valid r info (Ok frame) new =
    (info_fault own valid r.format info ≡ None) × (frame ≡ None) × (new ≡ with_info r info)

-- A number page.

abbrev pub pfn_cause : Option PfnFault → Option Cause
pfn_cause None = None
pfn_cause (Some fault) = Some (cause_of_numbers fault)

abbrev pub all_read : Reading → Option ℕ
all_read r = if r.numbers.read + wanted r.numbers == r.saved then Some r.saved else r.listed

abbrev pub listing_fault : Reading → ℕ → Option Cause
listing_fault r zeros = if r.numbers.read + wanted r.numbers == r.saved then pages_fault r.saved r.pages zeros else None

abbrev pub numbers_fault : List (ℕ × ℕ) → Reading → List ℕ → List ℕ → Option Cause
numbers_fault zones r zeros page =
    or_else (pfn_cause (page_fault zones r.numbers page)) (listing_fault r (length (zeros
    ++ marked_in r.numbers page (wanted r.numbers))))

abbrev pub with_numbers : Reading → List ℕ → Reading
with_numbers r page = record r { numbers = after_page r.numbers page; listed = all_read r }

abbrev pub TakesNumbers : List (ℕ × ℕ) → Reading → List ℕ → List ℕ → List ℕ → Result (Option ℕ) Cause → Reading →
    List ℕ → List ℕ → Type 0
TakesNumbers zones r page origs zeros (Err cause) new new_origs new_zeros =
    (numbers_fault zones r zeros page ≡ Some cause) × (new.listed ≡ r.listed)
TakesNumbers zones r page origs zeros (Ok frame) new new_origs new_zeros =
    (numbers_fault zones r zeros page ≡ None) × (frame ≡ None) × (new ≡ with_numbers r page)
    × (new_origs ≡ origs ++ numbers_in r.numbers page (wanted r.numbers))
    × (new_zeros ≡ zeros ++ marked_in r.numbers page (wanted r.numbers))

-- A data page: the next page frame of those that have one.

unfoldable pub with_data : List ℕ → List ℕ → List ℕ
with_data origs zeros = filter (λ p. not (list_any (λ q. q == p) zeros)) origs

abbrev pub after_frame : ℕ → Option ℕ → ℕ
after_frame from None = from
after_frame from (Some p) = p + 1

-- A block, by its place.
pub record Takes (own : Option Ident) (zones : List (ℕ
    × ℕ)) (page : List ℕ) (r : Reading) (origs zeros : List ℕ) (result : Result (Option ℕ) Cause) (new : Reading)
    (new_origs new_zeros : List ℕ) : Type 0 where
  pub map : r.steps % BLOCKS_PER_MAP ≡ 0 → (result ≡ Ok None)
      × (new ≡ record r { map = record { page = page; map = r.steps / BLOCKS_PER_MAP + 1 } }) × (new_origs ≡ origs)
      × (new_zeros ≡ zeros)
  pub info : r.steps ≡ 1 → TakesInfo own (length (numbers zones)) r (info_of page) result new × (new_origs ≡ origs)
      × (new_zeros ≡ zeros)
  pub numbers : (r.steps % BLOCKS_PER_MAP ≡ 0 → ⊥) → (r.steps ≡ 1 → ⊥) → r.listed ≡ None →
      TakesNumbers zones r page origs zeros result new new_origs new_zeros
  pub saved_page : (n : ℕ) → (r.steps % BLOCKS_PER_MAP ≡ 0 → ⊥) → (r.steps ≡ 1 → ⊥) → r.listed ≡ Some n →
      (result ≡ Ok (first_from (with_data origs zeros) r.frame))
      × (new ≡ record r { frame = after_frame r.frame (first_from (with_data origs zeros) r.frame) })
      × (new_origs ≡ origs) × (new_zeros ≡ zeros)

-- The step is counted, and the next block found.
abbrev pub Advances : Reading → Result (Unit {0}) Cause → Reading → Type 0
Advances r (Ok x) new =
    ((r.steps + 1 < place_count r.pages → ⊥) × (new ≡ record r { steps = r.steps + 1 }))
    ⊎ ((r.steps + 1 < place_count r.pages) × (named_fault r (r.steps + 1) ≡ None)
    × (new ≡ record r { steps = r.steps + 1; block = named_block r (r.steps + 1) }))
Advances r (Err cause) new =
    (r.steps + 1 < place_count r.pages) × (named_fault r (r.steps + 1) ≡ Some cause) × (new.listed ≡ r.listed)
