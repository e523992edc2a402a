-- Where a resume stands in its calls, over a disk that reads as v.
use Rattle.std.specs.Prelude.{◌≡◌, ℕ, ◌+◌, ◌*◌, ◌/◌, ◌%◌, ◌-◌, ◌<◌, ◌⊎◌, List, [], ◌∷◌, drop, false, Option, Some}
use Rattle.std.specs.Prelude.{None, Result, Ok, Err}
use Rattle.definitions.specs.Disk.{DiskImage, block}
use Rattle.boot_resume.specs.OnDisk.{mark_in, map_at, page_at, stream_page, info_in, saved_in, meta_in}
use Rattle.boot_resume.specs.OnDisk.{number_in, number_before, has_no_data, data_before, data_place}
use Rattle.boot_resume.specs.OnDisk.{hardware_cause, content_cause, number_cause}
use Rattle.boot_resume.specs.Calls.{Turn, asks, unless, entry_then, data_then, places, handed_from, listed_from}
use Rattle.boot_resume.specs.Calls.{settled_then, marked_then, calls}
use Rattle.boot_resume.specs.Ends.{IsEnd}
use Rattle.boot_resume.specs.Wanted.{HasMapBefore, IsMap}
use Rattle.boot_resume.specs.declared.call.Call.{Call}
use Rattle.boot_resume.specs.declared.call.Call.TheVariants.{Sync, Read, Write, Page, Done, Refused, Failed}
use Rattle.boot_resume.specs.declared.cause.Cause.{Cause}
use Rattle.boot_resume.specs.declared.machine.Machine.{Machine}
use Rattle.boot_resume.specs.declared.resume.Resume.{Resume}
use Rattle.boot_resume.specs.declared.stage.Move.{Move}
use Rattle.boot_resume.specs.declared.reading.Reading.{Reading}
use Rattle.boot_resume.specs.declared.stage.Stage.{Stage}
use Rattle.boot_resume.specs.declared.stage.Stage.TheVariants as stage
use Rattle.definitions.specs.declared.counts.TheConstants.{MAP_PAGE_ENTRIES, WORDS_PER_PAGE}

-- what the disk answers to a call: a read gives the block as the disk reads
abbrev pub IsAnswer : DiskImage → Call → List ℕ → Type 0
IsAnswer v (Read b) page = page ≡ block v b
IsAnswer v Sync page = Unit {0}
IsAnswer v (Write b) page = Unit {0}
IsAnswer v (Page p) page = Unit {0}
IsAnswer v (Done n) page = Unit {0}
IsAnswer v (Refused why) page = Unit {0}
IsAnswer v (Failed call left) page = Unit {0}

-- the buffer holds the page, if the call has one
abbrev pub Fits : List ℕ → Option (List ℕ) → Type 0
Fits page None = Unit {0}
Fits page (Some wanted) = page ≡ wanted

-- number i and what follows it, once its number page was read again
abbrev pub from_number : Machine → DiskImage → ℕ → List Turn
from_number m v i = unless (number_cause m v i) (data_then m v i (places m v i ∷ handed_from m v (i + 1)))

-- the turns after the pending one
abbrev pub behind : Machine → DiskImage → Reading → Stage → List Turn
behind m v r stage.FirstSync = asks (Read m.header) ∷ marked_then m v
behind m v r stage.Header = marked_then m v
behind m v r stage.TakeBack = settled_then m v
behind m v r stage.SettleBack = unless (hardware_cause m (mark_in m v)) (listed_from m v 0)
behind m v r stage.ListMap = entry_then m v r.page (unless (content_cause m v r.page) (listed_from m v (r.page + 1)))
behind m v r stage.ListPage = unless (content_cause m v r.page) (listed_from m v (r.page + 1))
behind m v r stage.NumberMap = entry_then m v (1 + r.given / WORDS_PER_PAGE) (from_number m v r.given)
behind m v r stage.NumberPage = from_number m v r.given
behind m v r stage.DataMap = entry_then m v r.page (places m v r.given ∷ handed_from m v (r.given + 1))
behind m v r stage.DataPage = places m v r.given ∷ handed_from m v (r.given + 1)
behind m v r stage.Place = handed_from m v (r.given + 1)
behind m v r stage.Ended = []

-- the counts of the info page
pub record Counted (m : Machine) (v : DiskImage) (r : Reading) : Type 0 where
  pub saved : r.saved ≡ saved_in m v
  pub pages : r.pages ≡ (info_in m v).pages
  pub some : 0 < r.saved

-- the numbers of the number pages before page k of the stream were listed
pub record ListsNumbers (m : Machine) (v : DiskImage) (r : Reading) : Type 0 where
  pub counted : Counted m v r
  pub begun : 0 < r.page
  pub given : r.given ≡ WORDS_PER_PAGE * (r.page - 1)
  pub more : r.given < r.saved
  pub last : r.last ≡ number_before m v r.given
  pub with_data : r.with_data ≡ data_before m v r.given

pub record Listing (m : Machine) (v : DiskImage) (r : Reading) : Type 0 where
  pub mark : r.mark ≡ mark_in m v
  pub numbers : (r.page ≡ 0) ⊎ ListsNumbers m v r

-- all numbers were listed
pub record HasListed (m : Machine) (v : DiskImage) (r : Reading) : Type 0 where
  pub mark : r.mark ≡ mark_in m v
  pub map : HasMapBefore m v r.map r.page
  pub counted : Counted m v r
  pub page : r.page ≡ meta_in m v + 1
  pub given : r.given ≡ r.saved

-- before the page of number i is handed out; the data pages before it were read
pub record Handing (m : Machine) (v : DiskImage) (r : Reading) : Type 0 where
  pub mark : r.mark ≡ mark_in m v
  pub counted : Counted m v r
  pub last : r.last ≡ number_before m v r.given
  pub page : r.page ≡ data_place m v r.given

-- the number page of number i was read again, and the next one's map is known
pub record HasNumbers (m : Machine) (v : DiskImage) (r : Reading) : Type 0 where
  pub numbers : r.numbers ≡ stream_page m v (1 + r.given / WORDS_PER_PAGE)
  pub again : r.again ≡ map_at m v ((2 + r.given / WORDS_PER_PAGE) / MAP_PAGE_ENTRIES)

-- number i has a data page, and its page frame is the pending one
pub record Numbered (m : Machine) (v : DiskImage) (r : Reading) : Type 0 where
  pub handing : Handing m v r
  pub more : r.given < r.saved
  pub numbers : HasNumbers m v r
  pub frame : r.frame ≡ number_in m v r.given
  pub has : has_no_data m v r.given ≡ false

-- the page of number i is in the buffer
pub record Placing (m : Machine) (v : DiskImage) (r : Reading) : Type 0 where
  pub mark : r.mark ≡ mark_in m v
  pub counted : Counted m v r
  pub more : r.given < r.saved
  pub numbers : HasNumbers m v r
  pub frame : r.frame ≡ number_in m v r.given
  pub page : r.page ≡ data_place m v (r.given + 1)
  pub map : HasMapBefore m v r.map r.page

pub record WantsNumberMap (m : Machine) (v : DiskImage) (r : Reading) (c : Call) : Type 0 where
  pub handing : Handing m v r
  pub map : HasMapBefore m v r.map r.page
  pub more : r.given < r.saved
  pub first : r.given % WORDS_PER_PAGE ≡ 0
  pub again : r.again ≡ map_at m v ((1 + r.given / WORDS_PER_PAGE) / MAP_PAGE_ENTRIES)
  pub call : c ≡ Read (map_at m v ((1 + r.given / WORDS_PER_PAGE) / MAP_PAGE_ENTRIES))

pub record WantsNumberPage (m : Machine) (v : DiskImage) (r : Reading) (c : Call) : Type 0 where
  pub handing : Handing m v r
  pub map : HasMapBefore m v r.map r.page
  pub more : r.given < r.saved
  pub first : r.given % WORDS_PER_PAGE ≡ 0
  pub again : r.again ≡ map_at m v ((2 + r.given / WORDS_PER_PAGE) / MAP_PAGE_ENTRIES)
  pub call : c ≡ Read (page_at m v (1 + r.given / WORDS_PER_PAGE))

-- what a resume knows of the disk
abbrev pub Knows : Machine → DiskImage → Reading → Stage → Call → Type 0
Knows m v r stage.FirstSync c = Unit {0}
Knows m v r stage.Header c = c ≡ Read m.header
Knows m v r stage.TakeBack c = r.mark ≡ mark_in m v
Knows m v r stage.SettleBack c = r.mark ≡ mark_in m v
Knows m v r stage.ListMap c = Listing m v r × (c ≡ Read (map_at m v (r.page / MAP_PAGE_ENTRIES)))
Knows m v r stage.ListPage c =
    Listing m v r × ((c ≡ Read (page_at m v r.page)) × IsMap m v r.map (r.page / MAP_PAGE_ENTRIES))
Knows m v r stage.NumberMap c = WantsNumberMap m v r c
Knows m v r stage.NumberPage c = WantsNumberPage m v r c
Knows m v r stage.DataMap c = Numbered m v r × (c ≡ Read (map_at m v (r.page / MAP_PAGE_ENTRIES)))
Knows m v r stage.DataPage c =
    Numbered m v r × ((c ≡ Read (page_at m v r.page)) × IsMap m v r.map (r.page / MAP_PAGE_ENTRIES))
Knows m v r stage.Place c = Placing m v r × (c ≡ Page r.frame)
Knows m v r stage.Ended c = IsEnd c

-- these turns are the pending call with the buffer's page, and the turns after it
pub record Goes (m : Machine) (v : DiskImage) (r : Reading) (page : List ℕ) (turns : List Turn)
    (s : Stage) (c : Call) : Type 0 where
  pub turn : Turn
  pub left : turns ≡ turn ∷ behind m v r s
  pub call : turn.call ≡ c
  pub fits : Fits page turn.page
  pub knows : Knows m v r s c

-- the resume stands before call k
abbrev pub IsAt : Machine → DiskImage → Resume → List ℕ → ℕ → Type 0
IsAt m v r page k = Goes m v r.reading page (drop k (calls m v)) r.pending.stage r.pending.call

-- either a move to the first of these turns, or the cause, if these turns are only its refusal
abbrev pub Leads : Machine → DiskImage → Reading → List ℕ → List Turn → Result Move Cause → Type 0
Leads m v r page turns (Ok to) = Goes m v r page turns to.stage to.call
Leads m v r page turns (Err why) = turns ≡ asks (Refused why) ∷ []

abbrev pub first_turn : List Turn → Option Turn
first_turn [] = None
first_turn (turn ∷ rest) = Some turn

-- this is call k, with the buffer's page
pub record IsTurn (m : Machine) (v : DiskImage) (k : ℕ) (c : Call) (page : List ℕ) : Type 0 where
  pub turn : Turn
  pub here : first_turn (drop k (calls m v)) ≡ Some turn
  pub call : turn.call ≡ c
  pub fits : Fits page turn.page
