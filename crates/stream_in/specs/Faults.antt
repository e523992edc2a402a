-- What each fault of a stream says, and which of the faults is the first.
use Rattle.std.specs.Prelude.{◌≡◌, ◌≢◌, ◌≤◌, ◌<◌, ℕ, suc, ◌+◌, ◌*◌, ◌%◌, List, ◌++◌, length, Some, IsTrue}
use Rattle.definitions.specs.NumberPages.{end_value}
use Rattle.stream_in.specs.declared.checking.fault.Kind.{Kind}
use Rattle.stream_in.specs.declared.checking.fault.Kind.TheVariants.{Counts, Pfn, Order, End, Extra, Short}
use Rattle.stream_in.specs.declared.checking.fault.StreamFault.{StreamFault}
use Rattle.stream_in.specs.Grammar.{image_pages, all_pages, place, number, are_counts, first_fault}
use Rattle.definitions.specs.declared.counts.TheConstants.{WORDS_PER_PAGE}

-- the info page is whole, and its counts are those of an image
pub record HasCounts (bs : List ℕ) : Type 0 where
  pub info : 4096 ≤ length bs
  pub counts : IsTrue (are_counts (image_pages bs) (all_pages bs))

-- word j is whole
abbrev pub HasWord : List ℕ → ℕ → Type 0
HasWord bs j = place j + 8 ≤ length bs

-- A fault of this kind is at this place. Short is no fault of the bytes so far, as more may come.
abbrev pub HasFault : List ℕ → Kind → ℕ → Type 0
HasFault bs Counts at = (at ≡ 416) × (4096 ≤ length bs) × (IsTrue (are_counts (image_pages bs) (all_pages bs)) → ⊥)
HasFault bs Pfn at =
    HasCounts bs × ((j : ℕ) × (at ≡ place j) × HasWord bs j × (j < image_pages bs) × (65536 ≤ number bs j))
HasFault bs Order at = HasCounts bs × ((j : ℕ) × (at ≡ place (suc j)) × HasWord bs (suc j) × (suc j < image_pages bs)
    × (number bs (suc j) < 65536) × (number bs (suc j) ≤ number bs j))
HasFault bs End at =
    HasCounts bs × (at ≡ place (image_pages bs)) × HasWord bs (image_pages bs) × (image_pages bs % WORDS_PER_PAGE ≢ 0)
    × (number bs (image_pages bs) ≢ end_value)
HasFault bs Extra at = HasCounts bs × (at ≡ 4096 * all_pages bs) × (at < length bs)
HasFault bs Short at = ⊥

-- The first fault is one of the bytes so far, and no other fault lies before it.
pub record IsFirst (bs : List ℕ) (fault : StreamFault) : Type 0 where
  pub there : HasFault bs fault.kind fault.at
  pub least : (kind : Kind) (at : ℕ) → HasFault bs kind at → fault.at ≤ at

-- the bytes so far have no fault
abbrev pub HasNoFault : List ℕ → Type 0
HasNoFault bs = (kind : Kind) (at : ℕ) → HasFault bs kind at → ⊥

-- the first fault stays the first, whatever comes after
abbrev pub StaysFirst : List ℕ → Type 0
StaysFirst bs =
    (fault : StreamFault) (more : List ℕ) → first_fault bs ≡ Some fault → first_fault (bs ++ more) ≡ Some fault
