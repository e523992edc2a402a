-- What is checked of the pages of a reading.
use Rattle.std.proofs.Common.{◌≡◌, ℕ, ◌+◌, ◌-◌, ◌*◌, ◌<◌, ◌≤◌, inl, inr, Bool, true, false, cond, eqb, leb, ltb, ◌||◌, List, [], ◌∷◌, ◌++◌, length, Option, Some, None, Ok, Err, append-nil, sym, ap, ap₂, subst, ◌∙◌, refl, arith}
use Rattle.std.proofs.lemmas.Bool.{cases_lt, cond-true, cond-false, le-leb, ne_eqb}
use Rattle.std.proofs.lemmas.List.{length-append}
use Rattle.page_core.specs.declared.format.Format.{Format}
use Rattle.definitions.specs.Bytes.{word}
use Rattle.page_core.specs.declared.format.Format.TheVariants.{SkipZeros}
use Rattle.definitions.specs.Disk.{Content, DiskImage, as_it_reads, block, last_count}
use Rattle.definitions.specs.NumberPages.{meta_of}
use Rattle.plain_machine.specs.Chain.{entry_block}
use Rattle.image_walk.specs.declared.limits.Limits.{Limits}
use Rattle.image_walk.specs.declared.visit.BlockFault.{BlockFault}
use Rattle.image_walk.specs.declared.visit.BlockFault.TheVariants as fault
use Rattle.image_walk.specs.Names.{Name, map_at, page_at, maps_in, left_in, is_over, is_bad, is_named, fault_of, AreReadFrom, IsAnswer, IsReading}
use Rattle.image_check.specs.Entries.{counts_of, data_fault, data_of, entry_fault, place_of, position_of, previous_of, read_findings}
use Rattle.image_check.specs.Image.{history_findings, name_findings}
use Rattle.image_check.specs.Info.{counts_in, info_findings}
use Rattle.image_check.specs.Numbers.{number_findings}
use Rattle.image_check.specs.Told.{list_of}
use Rattle.image_check.specs.declared.finding.Counts.{Counts}
use Rattle.image_check.specs.declared.finding.Finding.{Finding}
use Rattle.image_check.specs.declared.finding.Finding.TheVariants as finding
use Rattle.image_check.specs.declared.finding.Place.{Place}
use Rattle.image_pages.specs.Clean.{pages_in}
use Rattle.image_pages.proofs.Blocks.{each_in_chain, entry_named}
use Rattle.image_pages.proofs.Counting.{counted_of, counts_read, next_page}
use Rattle.image_pages.proofs.Findings.{left_none, right_none, no_finding}
use Rattle.image_machine.proofs.Data.{data_found, data_is, has_page}
use Rattle.image_machine.proofs.Tallies.{tally}
use Rattle.image_machine.proofs.Chains.{chain_at, few_pages, mapped, said_by}

-- Nothing is wrong with page k of the chain: where it is the info page, or a number page, after the last word of the one before.
pub record IsPageClean (format : Format) (v : DiskImage) (first k : ℕ) : Type 0 where
  pub info : k ≡ 0 → info_findings format (chain_at v first 0) ≡ []
  pub previous : Option ℕ
  pub before : 1 < k → previous ≡ Some (word (chain_at v first (k - 1)) 511)
  pub numbers : 0 < k → k ≤ meta_of (counts_in (chain_at v first 0)).image_pages →
      number_findings format (counts_in (chain_at v first 0)).image_pages k previous (chain_at v first k) ≡ []
  pub listed : format ≡ SkipZeros → (counts_in (chain_at v first 0)).image_pages ≤ last_count → 0 < k → k ≡ meta_of (counts_in (chain_at v first 0)).image_pages →
      (counts_in (chain_at v first 0)).pages ≡ tally (has_page v first (counts_in (chain_at v first 0)).image_pages) 0 (512 * k) + (k + 1)

-- what is kept of the page before
previous_is : (format : Format) (l : Limits) (held : Content) (first : ℕ) (h : List Name) → IsReading l first h → AreReadFrom (Some held) h → history_findings format h ≡ [] → is_over h ≡ false → 0 < maps_in h → length (pages_in h) ≡ position_of h → 1 < position_of h →
    previous_of h ≡ Some (word (chain_at (as_it_reads held) first (position_of h - 1)) 511)
previous_is format l held first [] reading read clean on some all later = absurd (omega arith)
previous_is format l held first (map_at b (Ok page) ∷ h) reading read clean on some all later =
    let left = reading.1.0 in
    let size = ap length (append-nil (pages_in h)) in
    let more : 0 < maps_in h = omega arith in
    let same : position_of h ≡ position_of (map_at b (Ok page) ∷ h) = omega arith in
    previous_is format l held first h reading.0 read.0 (left_none (history_findings format h) (name_findings format h (map_at b (Ok page))) clean) reading.1.1 more (omega arith) (omega arith)
    ∙ ap (λ (p : ℕ). Some (word (chain_at (as_it_reads held) first (p - 1)) 511)) same
previous_is format l held first (map_at b (Err why) ∷ h) reading read clean on some all later = cc
previous_is format l held first (page_at b (Err why) ∷ h) reading read clean on some all later =
    let c = counted_of format l first h reading.0 (left_none (history_findings format h) (name_findings format h (page_at b (Err why))) clean) in
    let few = c.few in
    let size = ap length (append-nil (pages_in h)) in
    let less = few_pages format h c some in
    absurd (omega (arith, reading.1.0))
previous_is format l held first (page_at b (Ok page) ∷ h) reading read clean on some all later =
    let v = as_it_reads held in
    let c = counted_of format l first h reading.0 (left_none (history_findings format h) (name_findings format h (page_at b (Ok page))) clean) in
    let few = c.few in
    let left = reading.1.0 in
    let at : position_of h ≡ position_of (page_at b (Ok page) ∷ h) - 1 = omega arith in
    let is : page ≡ chain_at v first (position_of (page_at b (Ok page) ∷ h) - 1) =
    read.1 ∙ ap (block v) (reading.1.1 ∙ entry_named l held first h reading.0 read.0 reading.1.0 ∙ ap (entry_block v first) at) in
    cond-false (eqb (position_of h) 0) None (Some (word page 511)) (ne_eqb (position_of h) 0 (λ e. omega arith))
    ∙ ap (λ (p : List ℕ). Some (word p 511)) is

-- why a block other than 0 isn't read
abbrev other_fault : Limits → List Name → ℕ → Option BlockFault
other_fault l h b =
    cond (leb l.blocks b) (Some (fault.BeyondFile b))
    (cond (ltb l.last b) (Some (fault.BeyondLast b))
    (cond (is_bad l b) (Some (fault.Bad b))
    (cond (eqb b l.header || is_named b h) (Some (fault.Again b)) None)))

-- what is found of an entry that names a page, by its parts
entry_parts : (format : Format) (h : List Name) (b : ℕ) (page : List ℕ) → name_findings format h (page_at b (Ok page)) ≡ [] →
    (list_of (entry_fault (counts_of h) (position_of h) (place_of h) b (Ok page)) ≡ []) × (read_findings format (counts_of h) (position_of h) b (previous_of h) (Ok page) ≡ [])
    × (data_fault format (counts_of h) (position_of h) (data_of (page_at b (Ok page) ∷ h)) ≡ None)
entry_parts format h b page clean =
    let fault = list_of (entry_fault (counts_of h) (position_of h) (place_of h) b (Ok page)) in
    let read = read_findings format (counts_of h) (position_of h) b (previous_of h) (Ok page) in
    let more = data_fault format (counts_of h) (position_of h) (data_of (page_at b (Ok page) ∷ h)) in
    let rest = right_none fault (read ++ list_of more) clean in
    (left_none fault (read ++ list_of more) clean, left_none read (list_of more) rest, no_finding more (right_none read (list_of more) rest))

wanted : (unused none : Bool) (f : Finding) (rest : Option BlockFault) (b : ℕ) (page : List ℕ) → list_of (cond unused (cond none None (Some f)) None) ≡ [] → IsAnswer (cond none (Some fault.Zero) rest) b (Ok page) → unused ≡ false
wanted true true f rest b page clean is = cc
wanted true false f rest b page clean is = cc
wanted false none f rest b page clean is = refl

-- a number page in which nothing is wrong
later_page : (format : Format) (l : Limits) (h : List Name) (c : Counts) (position : ℕ) (place : Place) (b : ℕ) (previous : Option ℕ) (page : List ℕ) → list_of (entry_fault (Some c) position place b (Ok page)) ≡ [] → read_findings format (Some c) position b previous (Ok page) ≡ [] → IsAnswer (fault_of l h b) b (Ok page) → 0 < position → position ≤ meta_of c.image_pages →
    number_findings format c.image_pages position previous page ≡ []
later_page format l h c position place b previous page fault clean is some le =
    let unused = wanted (leb c.pages position) (eqb b 0) (finding.AfterPages place b) (other_fault l h b) b page fault is in
    let numbers = number_findings format c.image_pages position previous page in
    let listed : List Finding = cond (leb position (meta_of c.image_pages)) numbers [] in
    let checked : List Finding = cond (eqb position 0) (info_findings format page) listed in
    sym (cond-true (leb position (meta_of c.image_pages)) numbers [] (le-leb position (meta_of c.image_pages) le))
    ∙ sym (cond-false (eqb position 0) (info_findings format page) listed (ne_eqb position 0 (λ e. omega arith)))
    ∙ sym (cond-false (leb c.pages position) [] checked unused)
    ∙ clean

-- what the info page says is known at each later page
known_later : (format : Format) (l : Limits) (held : Content) (first : ℕ) (h : List Name) → IsReading l first h → AreReadFrom (Some held) h → history_findings format h ≡ [] → 0 < length (pages_in h) → counts_of h ≡ Some (counts_in (chain_at (as_it_reads held) first 0))
known_later format l held first h reading read clean some =
    counts_read format h (counted_of format l first h reading clean) ∙ said_by (pages_in h) some
    ∙ ap (λ (p : List ℕ). Some (counts_in p)) (each_in_chain format l held first h reading read clean 0 some)

skipping_fault : (format : Format) (said known : Option Counts) (position : ℕ) (counted : Option ℕ) → format ≡ SkipZeros → said ≡ known → data_fault format said position counted ≡ None → data_fault SkipZeros known position counted ≡ None
skipping_fault format said known position counted skips is none =
    ap₂ (λ (f : Format) (c : Option Counts). data_fault f c position counted) (sym skips) (sym is) ∙ none

-- the page that the newest entry names
newest_clean : (format : Format) (l : Limits) (held : Content) (first : ℕ) (h : List Name) (b : ℕ) (page : List ℕ) → IsReading l first (page_at b (Ok page) ∷ h) → AreReadFrom (Some held) (page_at b (Ok page) ∷ h) → history_findings format (page_at b (Ok page) ∷ h) ≡ [] → length (pages_in h) ≡ position_of h → is_over h ≡ false →
    IsPageClean format (as_it_reads held) first (position_of h)
newest_clean format l held first h b page reading read clean all on =
    let v = as_it_reads held in
    let said = counts_in (chain_at v first 0) in
    let before = left_none (history_findings format h) (name_findings format h (page_at b (Ok page))) clean in
    let here = entry_parts format h b page (right_none (history_findings format h) (name_findings format h (page_at b (Ok page))) clean) in
    let c = counted_of format l first h reading.0 before in
    let some = mapped format h c reading.1.0 in
    let is : page ≡ chain_at v first (position_of h) = read.1 ∙ ap (block v) (reading.1.1 ∙ entry_named l held first h reading.0 read.0 reading.1.0) in
    record {
      info = λ begun.
          let unknown = (c.begun some begun).1 in
          ap (info_findings format) (sym (is ∙ ap (chain_at v first) begun))
          ∙ subst (λ (k : ℕ). read_findings format None k b (previous_of h) (Ok page) ≡ []) begun
          (subst (λ (x : Option Counts). read_findings format x (position_of h) b (previous_of h) (Ok page) ≡ []) unknown here.1);
      previous = previous_of h;
      before = λ later. previous_is format l held first h reading.0 read.0 before on some all later;
      numbers = λ later le.
          let known = known_later format l held first h reading.0 read.0 before (omega arith) in
          ap (number_findings format said.image_pages (position_of h) (previous_of h)) (sym is)
          ∙ later_page format l h said (position_of h) (place_of h) b (previous_of h) page
          (subst (λ (x : Option Counts). list_of (entry_fault x (position_of h) (place_of h) b (Ok page)) ≡ []) known here.0)
          (subst (λ (x : Option Counts). read_findings format x (position_of h) b (previous_of h) (Ok page) ≡ []) known here.1)
          reading.1.2 later le;
      listed = λ skips fits later last.
          let few = c.few in
          let left = reading.1.0 in
          let size = length-append (pages_in h) (page ∷ []) in
          let known = known_later format l held first h reading.0 read.0 before (omega arith) in
          let counted = data_is format l held first (page_at b (Ok page) ∷ h) reading read clean on some (omega arith) fits (position_of h) (omega arith) (omega arith) in
          let found = data_found said (position_of h) (tally (has_page v first said.image_pages) 0 (512 * position_of h)) (data_of (page_at b (Ok page) ∷ h)) last counted
          (skipping_fault format (counts_of h) (Some said) (position_of h) (data_of (page_at b (Ok page) ∷ h)) skips known here.2) in
          omega arith;
    }

-- an entry is left of a map that has a page
never_over : (l : Limits) (first : ℕ) (h : List Name) → IsReading l first h → 0 < left_in h → is_over h ≡ false
never_over l first [] reading left = refl
never_over l first (map_at b (Ok page) ∷ h) reading left = refl
never_over l first (map_at b (Err why) ∷ h) reading left = absurd (omega arith)
never_over l first (page_at b answer ∷ h) reading left = never_over l first h reading.0 reading.1.0

-- each page that was read
pub page_checked : (format : Format) (l : Limits) (held : Content) (first : ℕ) (h : List Name) → IsReading l first h → AreReadFrom (Some held) h → history_findings format h ≡ [] → (k : ℕ) → k < length (pages_in h) → IsPageClean format (as_it_reads held) first k
page_checked format l held first [] reading read clean k lt = absurd (omega arith)
page_checked format l held first (map_at b answer ∷ h) reading read clean k lt =
    page_checked format l held first h reading.0 read.0 (left_none (history_findings format h) (name_findings format h (map_at b answer)) clean) k (omega (arith, ap length (append-nil (pages_in h))))
page_checked format l held first (page_at b (Err why) ∷ h) reading read clean k lt =
    page_checked format l held first h reading.0 read.0 (left_none (history_findings format h) (name_findings format h (page_at b (Err why))) clean) k (omega (arith, ap length (append-nil (pages_in h))))
page_checked format l held first (page_at b (Ok page) ∷ h) reading read clean k lt =
    let before = left_none (history_findings format h) (name_findings format h (page_at b (Ok page))) clean in
    let size = length-append (pages_in h) (page ∷ []) in
    elim (cases_lt k (length (pages_in h))) [
      | inl inside ↦ page_checked format l held first h reading.0 read.0 before k inside
      | inr last ↦
          let placed = next_page format h b page (counted_of format l first h reading.0 before) (counted_of format l first (page_at b (Ok page) ∷ h) reading clean) reading.1.0 in
          let at : position_of h ≡ k = omega arith in
          subst (IsPageClean format (as_it_reads held) first) at
          (newest_clean format l held first h b page reading read clean placed (never_over l first h reading.0 reading.1.0))
    ]
