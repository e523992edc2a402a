-- The maps and the pages of an image in which nothing is found.
use Rattle.std.proofs.Common.{◌≡◌, ℕ, ◌+◌, ◌-◌, ◌*◌, ◌<◌, ◌≤◌, ◌&&◌, true, List, [], ◌∷◌, length, get_or, Option, Some, Ok, Err, cond, eqb, ltb, refl, arith, sym, ap, subst, ◌∙◌}
use Rattle.page_core.specs.declared.format.Format.{Format}
use Rattle.definitions.specs.Disk.{Content, DiskImage, as_it_reads}
use Rattle.plain_machine.specs.Chain.{entry_block, map_block}
use Rattle.image_walk.specs.declared.limits.Limits.{Limits}
use Rattle.image_walk.specs.Names.{Name, map_at, page_at, maps_in, left_in, is_over, AreReadFrom, IsReading}
use Rattle.image_check.specs.Entries.{counts_of, ends_fault}
use Rattle.image_check.specs.Image.{history_findings, name_findings}
use Rattle.image_check.specs.Info.{counts_in}
use Rattle.image_check.specs.Told.{list_of}
use Rattle.image_check.specs.declared.finding.Counts.{Counts}
use Rattle.image_check.specs.declared.finding.Finding.TheVariants as finding
use Rattle.image_pages.specs.Clean.{counts_by, pages_in}
use Rattle.image_pages.proofs.Blocks.{each_in_chain}
use Rattle.image_pages.proofs.Counting.{counted_of, the_same}
use Rattle.image_pages.proofs.Findings.{right_none, counts_some, end_wanted, end_mapped}
use Rattle.image_machine.specs.Resumable.{MayName}
use Rattle.image_machine.proofs.Chains.{chain_at}
use Rattle.image_machine.proofs.Checked.{IsPageClean, page_checked}
use Rattle.image_machine.proofs.Named.{map_named, page_named}

-- An image may name each map and each of its pages, in whose pages nothing is wrong.
pub record IsReadWhole (l : Limits) (format : Format) (v : DiskImage) (first pages : ℕ) : Type 0 where
  pub some : 0 < pages
  pub said : (counts_in (chain_at v first 0)).pages ≡ pages
  pub maps : (j : ℕ) → 511 * j < pages → MayName l (map_block v first j)
  pub entries : (k : ℕ) → k < pages → MayName l (entry_block v first k)
  pub clean : (k : ℕ) → k < pages → IsPageClean format v first k

over_left : (l : Limits) (first : ℕ) (h : List Name) → IsReading l first h → is_over h ≡ true → left_in h ≡ 0
over_left l first [] reading over = cc
over_left l first (map_at b (Ok page) ∷ h) reading over = cc
over_left l first (map_at b (Err why) ∷ h) reading over = refl
over_left l first (page_at b answer ∷ h) reading over = let none = over_left l first h reading.0 over in absurd (omega (arith, reading.1.0))

first_said : (pages : List (List ℕ)) (c : Counts) → counts_by pages ≡ Some c → c ≡ counts_in (get_or pages 0 [])
first_said [] c said = cc
first_said (info ∷ pages) c said = sym (the_same (counts_in info) c said)

-- after the last map as many pages were read as the info page says
pub read_whole : (format : Format) (l : Limits) (held : Content) (first : ℕ) (h : List Name) → IsReading l first h → AreReadFrom (Some held) h → history_findings format h ≡ [] → is_over h ≡ true →
    IsReadWhole l format (as_it_reads held) first (counts_in (chain_at (as_it_reads held) first 0)).pages
read_whole format l held first [] reading read clean over = cc
read_whole format l held first (map_at b (Ok page) ∷ h) reading read clean over = cc
read_whole format l held first (page_at b answer ∷ h) reading read clean over = let none = over_left l first h reading.0 over in absurd (omega (arith, reading.1.0))
read_whole format l held first (map_at b (Err why) ∷ h) reading read clean over =
    let v = as_it_reads held in
    let x = map_at b (Err why) in
    let fine = right_none (history_findings format h) (name_findings format h x) clean in
    let left = reading.1.0 in
    let some : 0 < maps_in h = end_mapped (eqb b 0) (maps_in h) (ends_fault (counts_of h) (maps_in h + 1 - 1)) (finding.Map (maps_in h + 1) why) fine in
    let c = (counted_of format l first (x ∷ h) reading clean).counted (omega arith) (omega arith) in
    let wanted : c.counts.pages ≤ 511 * (maps_in h + 1 - 1) =
    end_wanted (eqb b 0) (ltb 1 (maps_in h + 1)) (maps_in h + 1 - 1) c.counts (finding.Map (maps_in h + 1) why)
    (subst (λ (k : Option Counts). list_of (cond (eqb b 0 && ltb 1 (maps_in h + 1)) (ends_fault k (maps_in h + 1 - 1)) (Some (finding.Map (maps_in h + 1) why))) ≡ []) c.is_known fine) in
    let size : length (pages_in (x ∷ h)) ≡ c.counts.pages = c.after (omega arith) in
    let more = counts_some format c.counts c.fine in
    let info = each_in_chain format l held first (x ∷ h) reading read clean 0 (omega arith) in
    let same : c.counts.pages ≡ (counts_in (chain_at v first 0)).pages =
    ap (λ (k : Counts). k.pages) (first_said (pages_in (x ∷ h)) c.counts c.said ∙ ap counts_in info) in
    record {
      some = omega arith;
      said = refl;
      maps = λ j lt. map_named l held first h reading.0 read.0 reading.1.1 j (omega arith);
      entries = λ k lt. page_named format l held first (x ∷ h) reading read clean k (omega arith);
      clean = λ k lt. page_checked format l held first (x ∷ h) reading read clean k (omega arith);
    }
