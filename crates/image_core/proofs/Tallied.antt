-- Readings of an image whose page frames were counted before.
use Rattle.std.proofs.Common.{◌≡◌, ◌≢◌, ℕ, ◌+◌, ◌≤◌, ◌<◌, ◌^◌, List, [], ◌∷◌, ◌++◌, length, map, take, drop, Option, Some, None, IfSome, refl, sym, ap, subst, ◌∙◌, arith, length-append, All}
use Rattle.std.specs.List.{range_with_len}
use Rattle.std.proofs.lemmas.List.{length-map, take-append-drop}
use Rattle.std.proofs.lemmas.List.Elements.{All-nil, All-push}
use Rattle.std.proofs.lemmas.List.FromFn.{length-map-range_with_len, take-map-range_with_len}
use Rattle.definitions.specs.Disk.{Content, as_it_reads}
use Rattle.definitions.specs.FreeRuns.{runs_of}
use Rattle.definitions.specs.Streams.{TakesAll, TakesFront}
use Rattle.elf_core.specs.Elf.{loads_bytes, page_offset}
use Rattle.image_check.specs.Info.{counts_in}
use Rattle.image_pages.specs.Chain.{chain_page}
use Rattle.image_pages.specs.Formats.{chain_format}
use Rattle.image_pages.specs.Saved.{count_in, number_in}
use Rattle.image_pages.specs.Numbered.{HasNumbered}
use Rattle.image_pages.specs.SaysNumber.{IsNextNumber}
use Rattle.image_pages.specs.SavedNumbers.{AreAllNumbers, AreFirstNumbers, first_numbers, saved_numbers}
use Rattle.image_pages.specs.declared.frames.numbers.Numbers.{Numbers}
use Rattle.image_core.specs.Counted.{HasTallied}
use Rattle.image_core.specs.Listed.{AreListed, CanList, IsListFront}
use Rattle.image_core.specs.Parts.{HasLoads, loads_of, loads_over}
use Rattle.image_core.specs.declared.counting.Tally.{Tally}
use Rattle.image_core.specs.declared.loads.Loads.{Loads}
use Rattle.image_core.proofs.Numbering.{first_none}
use Rattle.image_core.proofs.RunCounts.{listed_front}
use Rattle.image_core.proofs.Since.{info_in_chain, over}

-- what is said of a disk that doesn't tell what it holds
pub if_none : (content : Option Content) (P : Content → Type 0) → content ≡ None → IfSome content P
if_none content P e = subst (λ (x : Option Content). IfSome x P) (sym e) tt

-- how many page frames the chain has, as they were counted
pub count_by_tally : (held : Content) (header : ℕ) (tally : Tally) → HasTallied (Some held) header tally → count_in (chain_page (as_it_reads held) header) ≡ tally.frames
count_by_tally held header tally t =
    let at = chain_page (as_it_reads held) header in
    let format = chain_format (as_it_reads held) header in
    let size = t.counted.size in
    omega (arith, ap length t.counted.all, length-map-range_with_len (number_in format at) 0 (count_in at))

pub runs_of_chain : (held : Content) (header : ℕ) (tally : Tally) → HasTallied (Some held) header tally → tally.runs ≡ length (runs_of (saved_numbers (chain_format (as_it_reads held) header) (chain_page (as_it_reads held) header)))
runs_of_chain held header tally t = t.counted.count ∙ ap (λ (xs : List ℕ). length (runs_of xs)) t.counted.all

-- as many numbers as the tally has page frames are all numbers
pub all_by_tally : (content : Option Content) (header : ℕ) (tally : Tally) (given : List ℕ) → HasTallied content header tally → AreFirstNumbers content header given → length given ≡ tally.frames → AreAllNumbers content header given
all_by_tally None header tally given t first size = tt
all_by_tally (Some held) header tally given t first size =
    first ∙ ap (first_numbers (chain_format (as_it_reads held) header) (chain_page (as_it_reads held) header)) (size ∙ sym (count_by_tally held header tally t))

-- the numbers end earlier, or have other runs, only on a disk that doesn't tell what it holds
pub early_by_tally : (content : Option Content) (header : ℕ) (tally : Tally) (given : List ℕ) → HasTallied content header tally → AreAllNumbers content header given → length given < tally.frames → content ≡ None
early_by_tally None header tally given t all lt = refl
early_by_tally (Some held) header tally given t all lt =
    let at = chain_page (as_it_reads held) header in
    let format = chain_format (as_it_reads held) header in
    absurd (omega (arith, ap length all, length-map-range_with_len (number_in format at) 0 (count_in at), count_by_tally held header tally t))

pub other_by_tally : (content : Option Content) (header : ℕ) (tally : Tally) (given : List ℕ) → HasTallied content header tally → AreAllNumbers content header given → length (runs_of given) ≢ tally.runs → content ≡ None
other_by_tally None header tally given t all ne = refl
other_by_tally (Some held) header tally given t all ne =
    absurd (ne (ap (λ (xs : List ℕ). length (runs_of xs)) all ∙ sym (runs_of_chain held header tally t)))

-- numbers that were given are the first ones of the chain
pub first_of_chain : (held : Content) (blocks header : ℕ) (n : Numbers) (given : List ℕ) → HasNumbered (Some held) blocks header n given → AreFirstNumbers (Some held) header given → (more : List ℕ) × (saved_numbers (chain_format (as_it_reads held) header) (chain_page (as_it_reads held) header) ≡ given ++ more)
first_of_chain held blocks header n given h first =
    let at = chain_page (as_it_reads held) header in
    let format = chain_format (as_it_reads held) header in
    let count : count_in at ≡ (counts_in n.info).image_pages =
    ap (λ (page : List ℕ). (counts_in page).image_pages) (sym (info_in_chain (Some held) blocks header n.pages n.info h.listed h.stands)) in
    let few : length given ≤ count_in at = omega (arith, h.size, h.few, h.count, count) in
    let front : take (length given) (saved_numbers format at) ≡ given =
    take-map-range_with_len (number_in format at) 0 (count_in at) (length given) few ∙ sym first in
    (drop (length given) (saved_numbers format at), sym (take-append-drop (length given) (saved_numbers format at)) ∙ ap (λ (xs : List ℕ). xs ++ drop (length given) (saved_numbers format at)) front)

-- Program headers of numbers that are given one after another.

pub record Lists (content : Option Content) (blocks header : ℕ) (n : Numbers) (start : ℕ) (loads : Loads) (i : ℕ) (old new : Option (List ℕ)) : Type 0 where
  pub given : List ℕ
  pub stands : HasNumbered content blocks header n given
  pub first : AreFirstNumbers content header given
  pub size : length given ≡ i
  pub small : All (λ (n : ℕ). n < 2 ^ 52) given
  pub listed : AreListed start given loads old new

pub lists_none : (content : Option Content) (blocks header : ℕ) (n : Numbers) (start : ℕ) (loads : Loads) (old : Option (List ℕ)) → HasNumbered content blocks header n [] → AreListed start [] loads old old → Lists content blocks header n start loads 0 old old
lists_none content blocks header n start loads old h listed = record {
  given = [];
  stands = h;
  first = first_none content header;
  size = refl;
  small = All-nil (λ (n : ℕ). n < 2 ^ 52);
  listed = listed;
}

pub lists_more : (c d : Option Content) (m k header : ℕ) (p q : Numbers) (start : ℕ) (loads next : Loads) (i number : ℕ) (old mid new : Option (List ℕ)) → c ≡ d → m ≡ k → (s : Lists c m header p start loads i old mid) → IsNextNumber c m header s.given q number → AreListed start (s.given ++ number ∷ []) next old new → Lists d k header q start next (i + 1) old new
lists_more c d m k header p q start loads next i number old mid new e f s given listed =
    let size = s.size in
    record {
      given = s.given ++ number ∷ [];
      stands = over (λ (x : Option Content) (j : ℕ). HasNumbered x j header q (s.given ++ number ∷ [])) c d m k e f given.stands;
      first = subst (λ (x : Option Content). AreFirstNumbers x header (s.given ++ number ∷ [])) e given.first;
      size = omega (arith, length-append s.given (number ∷ []), size);
      small = All-push (λ (n : ℕ). n < 2 ^ 52) s.given number s.small given.small;
      listed = listed;
    }

-- one number more can be listed
pub can_list : (start : ℕ) (given : List ℕ) (number frames : ℕ) → start < 2 ^ 40 → length given < frames → frames < 4294967295 → All (λ (n : ℕ). n < 2 ^ 52) given → number < 2 ^ 52 → CanList start (given ++ number ∷ [])
can_list start given number frames place lt few small less = record {
  place = place;
  few = omega (arith, length-append given (number ∷ []));
  small = All-push (λ (n : ℕ). n < 2 ^ 52) given number small less;
}

pub can_list_all : (start : ℕ) (given : List ℕ) (frames : ℕ) → start < 2 ^ 40 → length given ≤ frames → frames < 4294967295 → All (λ (n : ℕ). n < 2 ^ 52) given → CanList start given
can_list_all start given frames place le few small = record { place = place; few = omega arith; small = small }

-- what is a front whichever numbers follow is one of the program headers of the image
pub front_of_chain : (content : Option Content) (blocks header : ℕ) (n : Numbers) (given : List ℕ) (tally : Tally) (start : ℕ) (old new : Option (List ℕ)) → HasTallied content header tally → start ≡ page_offset tally.runs → HasNumbered content blocks header n given → AreFirstNumbers content header given → IsListFront start given old new → IfSome content (λ held. TakesFront (loads_of (chain_format (as_it_reads held) header) (chain_page (as_it_reads held) header)) old new)
front_of_chain None blocks header n given tally start old new t place h first front = tt
front_of_chain (Some held) blocks header n given tally start old new t place h first front =
    let all = saved_numbers (chain_format (as_it_reads held) header) (chain_page (as_it_reads held) header) in
    let (more, e) = first_of_chain held blocks header n given h first in
    let same : start ≡ page_offset (length (runs_of all)) = place ∙ ap page_offset (runs_of_chain held header tally t) in
    subst (λ (k : ℕ). TakesFront (loads_bytes k (runs_of all)) old new) same
    (subst (λ (xs : List ℕ). TakesFront (loads_bytes start (runs_of xs)) old new) (sym e) (front more))

pub whole_of_chain : (content : Option Content) (header : ℕ) (given : List ℕ) (tally : Tally) (start : ℕ) (old new : Option (List ℕ)) → HasTallied content header tally → start ≡ page_offset tally.runs → AreAllNumbers content header given → TakesFront (loads_bytes start (runs_of given)) old new → IfSome content (λ held. TakesFront (loads_of (chain_format (as_it_reads held) header) (chain_page (as_it_reads held) header)) old new)
whole_of_chain None header given tally start old new t place all front = tt
whole_of_chain (Some held) header given tally start old new t place all front =
    let chain = saved_numbers (chain_format (as_it_reads held) header) (chain_page (as_it_reads held) header) in
    let same : start ≡ page_offset (length (runs_of chain)) = place ∙ ap page_offset (runs_of_chain held header tally t) in
    subst (λ (k : ℕ). TakesFront (loads_bytes k (runs_of chain)) old new) same
    (subst (λ (xs : List ℕ). TakesFront (loads_bytes start (runs_of xs)) old new) all front)

pub has_loads : (content : Option Content) (header : ℕ) (given : List ℕ) (tally : Tally) (start : ℕ) (old new : Option (List ℕ)) → start ≡ page_offset tally.runs → length (runs_of given) ≡ tally.runs → length given ≡ tally.frames → AreAllNumbers content header given → TakesAll (loads_bytes start (runs_of given)) old new → HasLoads content header tally old new
has_loads content header given tally start old new place runs size all taken = record {
  numbers = given;
  taken = subst (λ (k : ℕ). TakesAll (loads_bytes k (runs_of given)) old new) (place ∙ ap page_offset (sym runs)) taken;
  runs = runs;
  size = size;
  all = all;
}
