-- The parts of a core file make the whole.
use Rattle.std.proofs.Common.{◌≡◌, ℕ, ◌≤◌, List, [], ◌∷◌, ◌++◌, length, map, Option, Some, None, IfSome, refl, sym, ap, subst, ◌∙◌, arith}
use Rattle.std.specs.List.{concat, range_with_len}
use Rattle.page_core.specs.declared.format.Format.{Format}
use Rattle.definitions.specs.Disk.{Content, as_it_reads}
use Rattle.definitions.specs.FreeRuns.{runs_of}
use Rattle.definitions.specs.Streams.{TakesAll, TakesFront}
use Rattle.byte_streams.proofs.Taken.{TakesAll-both, TakesFront-first, TakesFront-second}
use Rattle.elf_core.specs.Elf.{back_bytes, core_bytes, front_bytes, head_bytes}
use Rattle.image_pages.specs.Chain.{IsChainPage, chain_page}
use Rattle.image_pages.specs.Formats.{chain_format}
use Rattle.image_pages.specs.Saved.{count_in, number_in}
use Rattle.image_pages.specs.SavedFrames.{SavedFrame, saved_at, saved_frames}
use Rattle.image_pages.specs.SavedNumbers.{saved_numbers}
use Rattle.definitions.proofs.Pieces.{Takes-none}
use Rattle.image_pages.proofs.Earlier.{ended_earlier}
use Rattle.image_core.specs.declared.stop.Stop.{Stop}
use Rattle.image_core.specs.declared.stop.Stop.TheVariants.{NoImage, Refused, TooMany, Changed, Sink, Memory}
use Rattle.image_core.proofs.Since.{over}
use Rattle.image_core.specs.Cores.{IsFront, IsUnwritten, IsWritten, core_of, numbers_in, pages_of}
use Rattle.image_core.specs.Counted.{HasTallied}
use Rattle.image_core.specs.Identity.{identity_of, machine_of}
use Rattle.image_core.specs.Parts.{HasLoads, HasPages, loads_of, loads_over}
use Rattle.image_core.specs.declared.counting.Tally.{Tally}
use Rattle.image_core.proofs.Tallied.{runs_of_chain}

numbers_of_each : (format : Format) (at : ℕ → List ℕ) (places : List ℕ) → numbers_in (map (saved_at format at) places) ≡ map (number_in format at) places
numbers_of_each format at [] = refl
numbers_of_each format at (i ∷ places) = ap (λ (xs : List ℕ). number_in format at i ∷ xs) (numbers_of_each format at places)

numbers_saved : (format : Format) (at : ℕ → List ℕ) → numbers_in (saved_frames format at) ≡ saved_numbers format at
numbers_saved format at = numbers_of_each format at (range_with_len 0 (count_in at))

-- the parts of the core file of page frames
abbrev Parts : ℕ → List ℕ → ℕ → List ℕ → List (List ℕ) → List ℕ
Parts machine identity runs numbers pages =
    front_bytes machine runs ++ loads_over numbers ++ back_bytes identity runs ++ concat pages

parts_of : (machine : ℕ) (identity : List ℕ) (runs : ℕ) (numbers : List ℕ) (pages : List (List ℕ)) → length (runs_of numbers) ≡ runs → core_bytes machine identity numbers pages ≡ Parts machine identity runs numbers pages
parts_of machine identity runs numbers pages e = ap (λ (n : ℕ). Parts machine identity n numbers pages) e

parts_of_chain : (held : Content) (header : ℕ) (tally : Tally) (info : List ℕ) → HasTallied (Some held) header tally → IsChainPage (Some held) header 0 info
    → core_of (chain_format (as_it_reads held) header) (chain_page (as_it_reads held) header) ≡ Parts (machine_of info) (identity_of info) tally.runs (saved_numbers (chain_format (as_it_reads held) header) (chain_page (as_it_reads held) header)) (pages_of (saved_frames (chain_format (as_it_reads held) header) (chain_page (as_it_reads held) header)))
parts_of_chain held header tally info t first =
    let at = chain_page (as_it_reads held) header in
    let format = chain_format (as_it_reads held) header in
    let frames = saved_frames format at in
    ap (λ (page : List ℕ). core_bytes (machine_of page) (identity_of page) (numbers_in frames) (pages_of frames)) (sym first)
    ∙ ap (λ (numbers : List ℕ). core_bytes (machine_of info) (identity_of info) numbers (pages_of frames)) (numbers_saved format at)
    ∙ parts_of (machine_of info) (identity_of info) tally.runs (saved_numbers format at) (pages_of frames) (sym (runs_of_chain held header tally t))

-- A front of the core file, part by part.

pub front_cut : (content : Option Content) (header : ℕ) (tally : Tally) (info : List ℕ) (old new : Option (List ℕ)) → HasTallied content header tally → IsChainPage content header 0 info
    → TakesFront (front_bytes (machine_of info) tally.runs) old new → IsFront content header old new
front_cut None header tally info old new t first front = tt
front_cut (Some held) header tally info old new t first front =
    let at = chain_page (as_it_reads held) header in
    let format = chain_format (as_it_reads held) header in
    let a = front_bytes (machine_of info) tally.runs in
    let b = loads_of format at in
    let z = back_bytes (identity_of info) tally.runs in
    subst (λ (x : List ℕ). TakesFront x old new) (sym (parts_of_chain held header tally info t first))
    (TakesFront-first ((a ++ b) ++ z) (concat (pages_of (saved_frames format at))) old new (TakesFront-first (a ++ b) z old new (TakesFront-first a b old new front)))

pub loads_cut : (content : Option Content) (header : ℕ) (tally : Tally) (info : List ℕ) (old mid new : Option (List ℕ)) → HasTallied content header tally → IsChainPage content header 0 info
    → TakesAll (front_bytes (machine_of info) tally.runs) old mid → IfSome content (λ held. TakesFront (loads_of (chain_format (as_it_reads held) header) (chain_page (as_it_reads held) header)) mid new) → IsFront content header old new
loads_cut None header tally info old mid new t first whole front = tt
loads_cut (Some held) header tally info old mid new t first whole front =
    let at = chain_page (as_it_reads held) header in
    let format = chain_format (as_it_reads held) header in
    let a = front_bytes (machine_of info) tally.runs in
    let b = loads_of format at in
    let z = back_bytes (identity_of info) tally.runs in
    subst (λ (x : List ℕ). TakesFront x old new) (sym (parts_of_chain held header tally info t first))
    (TakesFront-first ((a ++ b) ++ z) (concat (pages_of (saved_frames format at))) old new (TakesFront-first (a ++ b) z old new (TakesFront-second a b old mid new whole front)))

loads_taken : (held : Content) (header : ℕ) (tally : Tally) (old new : Option (List ℕ)) → HasLoads (Some held) header tally old new → TakesAll (loads_of (chain_format (as_it_reads held) header) (chain_page (as_it_reads held) header)) old new
loads_taken held header tally old new l = subst (λ (xs : List ℕ). TakesAll (loads_over xs) old new) l.all l.taken

pub back_cut : (content : Option Content) (header : ℕ) (tally : Tally) (info : List ℕ) (old one mid new : Option (List ℕ)) → HasTallied content header tally → IsChainPage content header 0 info
    → TakesAll (front_bytes (machine_of info) tally.runs) old one → HasLoads content header tally one mid → TakesFront (back_bytes (identity_of info) tally.runs) mid new → IsFront content header old new
back_cut None header tally info old one mid new t first whole loads front = tt
back_cut (Some held) header tally info old one mid new t first whole loads front =
    let at = chain_page (as_it_reads held) header in
    let format = chain_format (as_it_reads held) header in
    let a = front_bytes (machine_of info) tally.runs in
    let b = loads_of format at in
    let z = back_bytes (identity_of info) tally.runs in
    subst (λ (x : List ℕ). TakesFront x old new) (sym (parts_of_chain held header tally info t first))
    (TakesFront-first ((a ++ b) ++ z) (concat (pages_of (saved_frames format at))) old new
    (TakesFront-second (a ++ b) z old mid new (TakesAll-both a b old one mid whole (loads_taken held header tally one mid loads)) front))

pub pages_cut : (content : Option Content) (header : ℕ) (tally : Tally) (info : List ℕ) (old one two mid new : Option (List ℕ)) → HasTallied content header tally → IsChainPage content header 0 info
    → TakesAll (front_bytes (machine_of info) tally.runs) old one → HasLoads content header tally one two → TakesAll (back_bytes (identity_of info) tally.runs) two mid
    → IfSome content (λ held. TakesFront (concat (pages_of (saved_frames (chain_format (as_it_reads held) header) (chain_page (as_it_reads held) header)))) mid new) → IsFront content header old new
pages_cut None header tally info old one two mid new t first whole loads back front = tt
pages_cut (Some held) header tally info old one two mid new t first whole loads back front =
    let at = chain_page (as_it_reads held) header in
    let format = chain_format (as_it_reads held) header in
    let a = front_bytes (machine_of info) tally.runs in
    let b = loads_of format at in
    let z = back_bytes (identity_of info) tally.runs in
    subst (λ (x : List ℕ). TakesFront x old new) (sym (parts_of_chain held header tally info t first))
    (TakesFront-second ((a ++ b) ++ z) (concat (pages_of (saved_frames format at))) old mid new
    (TakesAll-both (a ++ b) z old two mid (TakesAll-both a b old one two whole (loads_taken held header tally one two loads)) back) front)

-- The whole dump is taken.

all_taken : (tally : Tally) (info numbers : List ℕ) (pages : List (List ℕ)) (old one two mid new : Option (List ℕ)) → length (runs_of numbers) ≡ tally.runs
    → TakesAll (front_bytes (machine_of info) tally.runs) old one → TakesAll (loads_over numbers) one two → TakesAll (back_bytes (identity_of info) tally.runs) two mid
    → TakesAll (concat pages) mid new → TakesAll (core_bytes (machine_of info) (identity_of info) numbers pages) old new
all_taken tally info numbers pages old one two mid new e whole loads back last =
    let a = front_bytes (machine_of info) tally.runs in
    let b = loads_over numbers in
    let z = back_bytes (identity_of info) tally.runs in
    subst (λ (x : List ℕ). TakesAll x old new) (sym (parts_of (machine_of info) (identity_of info) tally.runs numbers pages e))
    (TakesAll-both ((a ++ b) ++ z) (concat pages) old mid new (TakesAll-both (a ++ b) z old two mid (TakesAll-both a b old one two whole loads) back) last)

chain_taken : (content : Option Content) (blocks header before now : ℕ) (tally : Tally) (info : List ℕ) (old one two mid new : Option (List ℕ)) → HasTallied content header tally → IsChainPage content header 0 info
    → TakesAll (front_bytes (machine_of info) tally.runs) old one → HasLoads content header tally one two → TakesAll (back_bytes (identity_of info) tally.runs) two mid → HasPages content blocks header before now tally mid new
    → IfSome content (λ held. TakesAll (core_of (chain_format (as_it_reads held) header) (chain_page (as_it_reads held) header)) old new)
chain_taken None blocks header before now tally info old one two mid new t first whole loads back pages = tt
chain_taken (Some held) blocks header before now tally info old one two mid new t first whole loads back pages =
    let at = chain_page (as_it_reads held) header in
    let format = chain_format (as_it_reads held) header in
    let a = front_bytes (machine_of info) tally.runs in
    let b = loads_of format at in
    let z = back_bytes (identity_of info) tally.runs in
    subst (λ (x : List ℕ). TakesAll x old new) (sym (parts_of_chain held header tally info t first))
    (TakesAll-both ((a ++ b) ++ z) (concat (pages_of (saved_frames format at))) old mid new
    (TakesAll-both (a ++ b) z old two mid (TakesAll-both a b old one two whole (loads_taken held header tally one two loads)) back)
    (subst (λ (frames : List SavedFrame). TakesAll (concat (pages_of frames)) mid new) pages.all pages.taken))

pub written : (content : Option Content) (blocks header before now : ℕ) (tally : Tally) (info : List ℕ) (old one two mid new : Option (List ℕ)) → HasTallied content header tally → IsChainPage content header 0 info
    → TakesAll (front_bytes (machine_of info) tally.runs) old one → HasLoads content header tally one two → TakesAll (back_bytes (identity_of info) tally.runs) two mid → HasPages content blocks header before now tally mid new
    → IsWritten content blocks header before now old new
written content blocks header before now tally info old one two mid new t first whole loads back pages = record {
  info = info;
  numbers = loads.numbers;
  frames = pages.frames;
  taken = all_taken tally info loads.numbers (pages_of pages.frames) old one two mid new loads.runs whole loads.taken back pages.taken;
  first = first;
  numbered = loads.all;
  saved = pages.all;
  same = pages.size ∙ sym loads.size;
  pages = pages.pages;
  ended = pages.ended;
  whole = pages.whole;
  core = chain_taken content blocks header before now tally info old one two mid new t first whole loads back pages;
}

-- Nothing was written yet.

pub front_none : (content : Option Content) (header : ℕ) (old : Option (List ℕ)) → IsFront content header old old
front_none None header old = tt
front_none (Some held) header old =
    let core = core_of (chain_format (as_it_reads held) header) (chain_page (as_it_reads held) header) in
    (0, omega arith, Takes-none core old)

pub unwritten_yet : (old : Option (List ℕ)) (s : Stop) → IsUnwritten old old s
unwritten_yet old NoImage = refl
unwritten_yet old TooMany = refl
unwritten_yet old Memory = refl
unwritten_yet old Refused = tt
unwritten_yet old Changed = tt
unwritten_yet old Sink = tt

-- what was written after other calls of the disk
pub written_earlier : (c d : Option Content) (m k header before then now : ℕ) (old new : Option (List ℕ)) → c ≡ d → m ≡ k → before ≤ then → IsWritten c m header then now old new → IsWritten d k header before now old new
written_earlier c d m k header before then now old new e g le w =
    over (λ (x : Option Content) (j : ℕ). IsWritten x j header before now old new) c d m k e g (record {
      info = w.info;
      numbers = w.numbers;
      frames = w.frames;
      taken = w.taken;
      first = w.first;
      numbered = w.numbered;
      saved = w.saved;
      same = w.same;
      pages = w.pages;
      ended = ended_earlier c m header before then now w.pages le w.ended;
      whole = w.whole;
      core = w.core;
    })
