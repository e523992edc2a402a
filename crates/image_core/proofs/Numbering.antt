-- Numbers of an image that are read one after another.
use Rattle.std.proofs.Common.{◌≡◌, ℕ, ◌+◌, ◌≤◌, ◌<◌, List, [], ◌∷◌, ◌++◌, length, map, Option, Some, None, IfSome, refl, sym, ap, subst, ◌∙◌, arith, length-append}
use Rattle.std.specs.List.{range_with_len}
use Rattle.std.proofs.lemmas.List.FromFn.{length-map-range_with_len}
use Rattle.definitions.specs.Disk.{Content, as_it_reads}
use Rattle.definitions.specs.FreeRuns.{runs_of}
use Rattle.image_check.specs.Info.{counts_in}
use Rattle.image_show.specs.Runs.{list_of}
use Rattle.image_pages.specs.Chain.{chain_page}
use Rattle.image_pages.specs.Formats.{chain_format}
use Rattle.image_pages.specs.Saved.{count_in, number_in}
use Rattle.image_pages.specs.Numbered.{HasNumbered}
use Rattle.image_pages.specs.SaysNumber.{IsNextNumber}
use Rattle.image_pages.specs.SavedNumbers.{AreAllNumbers, AreFirstNumbers, first_numbers, saved_numbers}
use Rattle.image_pages.specs.declared.frames.numbers.Numbers.{Numbers}
use Rattle.image_core.specs.Counted.{HasCounted, WillGive}
use Rattle.image_core.specs.Runs.{HasEnded}
use Rattle.image_core.specs.declared.counter.RunCounter.{RunCounter}
use Rattle.image_core.proofs.Since.{info_in_chain, over}

pub first_none : (content : Option Content) (header : ℕ) → AreFirstNumbers content header []
first_none None header = tt
first_none (Some held) header = refl

-- how many numbers the chain has, by the info page that was read
count_in_chain : (held : Content) (blocks header : ℕ) (n : Numbers) (given : List ℕ) (frames : ℕ) → HasNumbered (Some held) blocks header n given → WillGive n frames → count_in (chain_page (as_it_reads held) header) ≡ frames
count_in_chain held blocks header n given frames h will =
    ap (λ (page : List ℕ). (counts_in page).image_pages) (sym (info_in_chain (Some held) blocks header n.pages n.info h.listed h.stands)) ∙ will

-- as many numbers as the info page counts are all numbers
pub all_numbers : (content : Option Content) (blocks header : ℕ) (n : Numbers) (given : List ℕ) (frames : ℕ) → HasNumbered content blocks header n given → WillGive n frames → AreFirstNumbers content header given → length given ≡ frames → AreAllNumbers content header given
all_numbers None blocks header n given frames h will first size = tt
all_numbers (Some held) blocks header n given frames h will first size =
    first ∙ ap (first_numbers (chain_format (as_it_reads held) header) (chain_page (as_it_reads held) header)) (size ∙ sym (count_in_chain held blocks header n given frames h will))

-- fewer numbers than the info page counts are all numbers only on a disk that doesn't tell what it holds
pub ends_early : (content : Option Content) (blocks header : ℕ) (n : Numbers) (given : List ℕ) (frames : ℕ) → HasNumbered content blocks header n given → WillGive n frames → AreAllNumbers content header given → length given < frames → content ≡ None
ends_early None blocks header n given frames h will all lt = refl
ends_early (Some held) blocks header n given frames h will all lt =
    let at = chain_page (as_it_reads held) header in
    let format = chain_format (as_it_reads held) header in
    absurd (omega (arith, ap length all, length-map-range_with_len (number_in format at) 0 (count_in at), count_in_chain held blocks header n given frames h will))

-- the first i numbers were given, and their runs counted
pub record Counts (content : Option Content) (blocks header : ℕ) (n : Numbers) (runs : RunCounter) (i : ℕ) : Type 0 where
  pub given : List ℕ
  pub ended : List (ℕ × ℕ)
  pub stands : HasNumbered content blocks header n given
  pub first : AreFirstNumbers content header given
  pub size : length given ≡ i
  pub has : HasEnded given runs ended

pub counts_none : (content : Option Content) (blocks header : ℕ) (n : Numbers) (runs : RunCounter) → HasNumbered content blocks header n [] → HasEnded [] runs [] → Counts content blocks header n runs 0
counts_none content blocks header n runs h has =
    record { given = []; ended = []; stands = h; first = first_none content header; size = refl; has = has }

pub counts_more : (c d : Option Content) (m k header : ℕ) (p q : Numbers) (old new : RunCounter) (i number : ℕ) (run : Option (ℕ × ℕ)) → c ≡ d → m ≡ k → (s : Counts c m header p old i) → IsNextNumber c m header s.given q number → HasEnded (s.given ++ number ∷ []) new (s.ended ++ list_of run) → Counts d k header q new (i + 1)
counts_more c d m k header p q old new i number run e f s next has =
    let size = s.size in
    record {
      given = s.given ++ number ∷ [];
      ended = s.ended ++ list_of run;
      stands = over (λ (x : Option Content) (j : ℕ). HasNumbered x j header q (s.given ++ number ∷ [])) c d m k e f next.stands;
      first = subst (λ (x : Option Content). AreFirstNumbers x header (s.given ++ number ∷ [])) e next.first;
      size = omega (arith, length-append s.given (number ∷ []), size);
      has = has;
    }

pub counts_all : (c d : Option Content) (m k header : ℕ) (n : Numbers) (runs : RunCounter) (frames count : ℕ) → c ≡ d → m ≡ k → WillGive n frames → (s : Counts c m header n runs frames) → count ≡ length (runs_of s.given) → HasCounted d header frames count
counts_all c d m k header n runs frames count e f will s is = record {
  numbers = s.given;
  all = subst (λ (x : Option Content). AreAllNumbers x header s.given) e (all_numbers c m header n s.given frames s.stands will s.first s.size);
  size = s.size;
  count = is;
}
