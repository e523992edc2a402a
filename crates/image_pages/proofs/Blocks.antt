-- The blocks that a reading names are those of the chain of the disk.
use Rattle.std.proofs.Common.{◌≡◌, ℕ, ◌+◌, ◌-◌, ◌*◌, ◌/◌, ◌%◌, ◌<◌, ◌≤◌, false, List, [], ◌∷◌, ◌++◌, length, Some, Ok, Err, refl, arith, sym, ap, ◌∙◌, inl, inr, get_or, map, add-one}
use Rattle.std.specs.List.{range_with_len}
use Rattle.std.proofs.Math.Seq.{get_or-append_seam}
use Rattle.std.proofs.Math.ListN.{get_or-append}
use Rattle.std.proofs.lemmas.Bool.{cases_lt}
use Rattle.std.proofs.lemmas.List.{append-nil, length-append}
use Rattle.std.proofs.lemmas.List.FromFn.{fill_by_all}
use Rattle.page_core.specs.declared.format.Format.{Format}
use Rattle.definitions.specs.Disk.{Content, DiskImage, as_it_reads, block}
use Rattle.definitions.specs.SwapMap.{map_entry, map_link}
use Rattle.plain_machine.specs.Chain.{entry_block, map_block}
use Rattle.image_walk.specs.declared.limits.Limits.{Limits}
use Rattle.image_walk.specs.Names.{Name, map_at, page_at, maps_in, left_in, newest_page, next_map, is_over, AreReadFrom, IsReading}
use Rattle.image_check.specs.Entries.{position_of}
use Rattle.image_check.specs.Image.{history_findings, name_findings}
use Rattle.image_pages.specs.Clean.{pages_in}
use Rattle.image_pages.proofs.Findings.{left_none}
use Rattle.image_pages.proofs.Counting.{counted_of, next_page}

-- the newest map is one of the chain's, and the next one too
pub record IsChained (v : DiskImage) (first : ℕ) (h : List Name) : Type 0 where
  pub few : left_in h ≤ 511
  pub mapped : 0 < left_in h → 0 < maps_in h
  pub page : 0 < left_in h → newest_page h ≡ block v (map_block v first (maps_in h - 1))
  pub next : is_over h ≡ false → next_map first h ≡ map_block v first (maps_in h)

pub chained_of : (l : Limits) (held : Content) (first : ℕ) (h : List Name) → IsReading l first h → AreReadFrom (Some held) h → IsChained (as_it_reads held) first h
chained_of l held first [] reading read = record {
  few = omega arith;
  mapped = λ lt. absurd (omega arith);
  page = λ lt. absurd (omega arith);
  next = λ on. refl;
}
chained_of l held first (map_at b (Ok page) ∷ h) reading read =
    let v = as_it_reads held in
    let c = chained_of l held first h reading.0 read.0 in
    let there : b ≡ map_block v first (maps_in h) = reading.1.2 ∙ c.next reading.1.1 in
    let is : page ≡ block v (map_block v first (maps_in h)) = read.1 ∙ ap (block v) there in
    record {
      few = omega arith;
      mapped = λ lt. omega arith;
      page = λ lt. is ∙ ap (λ (k : ℕ). block v (map_block v first k)) (same_less (maps_in h));
      next = λ on. ap map_link is ∙ ap (map_block v first) (sym (add-one (maps_in h)));
    } where
      same_less : (m : ℕ) → m ≡ m + 1 - 1
      same_less m = omega arith
chained_of l held first (map_at b (Err why) ∷ h) reading read = record {
  few = omega arith;
  mapped = λ lt. absurd (omega arith);
  page = λ lt. absurd (omega arith);
  next = λ on. cc;
}
chained_of l held first (page_at b answer ∷ h) reading read =
    let c = chained_of l held first h reading.0 read.0 in
    record {
      few = omega (arith, c.few);
      mapped = λ lt. c.mapped (omega arith);
      page = λ lt. c.page (omega arith);
      next = c.next;
    }

place : (m e : ℕ) → e < 511 → ((511 * m + e) / 511 ≡ m) × ((511 * m + e) % 511 ≡ e)
place m e lt = (omega arith, omega arith)

-- the block that an entry names
pub entry_named : (l : Limits) (held : Content) (first : ℕ) (h : List Name) → IsReading l first h → AreReadFrom (Some held) h → 0 < left_in h → map_entry (newest_page h) (511 - left_in h) ≡ entry_block (as_it_reads held) first (position_of h)
entry_named l held first h reading read left =
    let v = as_it_reads held in
    let c = chained_of l held first h reading read in
    let few = c.few in
    let at = place (maps_in h - 1) (511 - left_in h) (omega arith) in
    ap (λ (p : List ℕ). map_entry p (511 - left_in h)) (c.page left)
    ∙ ap (λ (k : ℕ). map_entry (block v (map_block v first k)) (511 - left_in h)) (sym at.0)
    ∙ ap (λ (k : ℕ). map_entry (block v (map_block v first (position_of h / 511))) k) (sym at.1)

-- each of the pages that were read is one of the chain's
pub each_in_chain : (format : Format) (l : Limits) (held : Content) (first : ℕ) (h : List Name) → IsReading l first h → AreReadFrom (Some held) h → history_findings format h ≡ [] → (k : ℕ) → k < length (pages_in h) → get_or (pages_in h) k [] ≡ block (as_it_reads held) (entry_block (as_it_reads held) first k)
each_in_chain format l held first [] reading read clean k lt = absurd (omega arith)
each_in_chain format l held first (map_at b answer ∷ h) reading read clean k lt =
    let none = append-nil (pages_in h) in
    ap (λ (x : List (List ℕ)). get_or x k []) none
    ∙ each_in_chain format l held first h reading.0 read.0 (left_none (history_findings format h) (name_findings format h (map_at b answer)) clean) k (omega (arith, ap length none))
each_in_chain format l held first (page_at b (Err why) ∷ h) reading read clean k lt =
    let none = append-nil (pages_in h) in
    ap (λ (x : List (List ℕ)). get_or x k []) none
    ∙ each_in_chain format l held first h reading.0 read.0 (left_none (history_findings format h) (name_findings format h (page_at b (Err why))) clean) k (omega (arith, ap length none))
each_in_chain format l held first (page_at b (Ok page) ∷ h) reading read clean k lt =
    let v = as_it_reads held in
    let before = left_none (history_findings format h) (name_findings format h (page_at b (Ok page))) clean in
    let size = length-append (pages_in h) (page ∷ []) in
    elim (cases_lt k (length (pages_in h))) [
      | inl inside ↦ get_or-append (pages_in h) (page ∷ []) [] k inside ∙ each_in_chain format l held first h reading.0 read.0 before k inside
      | inr last ↦
          let at : length (pages_in h) ≡ k = omega arith in
          let placed = next_page format h b page (counted_of format l first h reading.0 before) (counted_of format l first (page_at b (Ok page) ∷ h) reading clean) reading.1.0 in
          ap (λ (j : ℕ). get_or (pages_in h ++ page ∷ []) j []) (sym at)
          ∙ get_or-append_seam (pages_in h) page [] []
          ∙ read.1
          ∙ ap (block v) (reading.1.1 ∙ entry_named l held first h reading.0 read.0 reading.1.0)
          ∙ ap (λ (j : ℕ). block v (entry_block v first j)) (sym placed ∙ at)
    ]

-- the pages that were read are the first ones of the chain
pub all_in_chain : (format : Format) (l : Limits) (held : Content) (first : ℕ) (h : List Name) → IsReading l first h → AreReadFrom (Some held) h → history_findings format h ≡ [] → pages_in h ≡ map (λ k. block (as_it_reads held) (entry_block (as_it_reads held) first k)) (range_with_len 0 (length (pages_in h)))
all_in_chain format l held first h reading read clean =
    fill_by_all (λ k. block (as_it_reads held) (entry_block (as_it_reads held) first k)) (pages_in h) (length (pages_in h)) [] refl (each_in_chain format l held first h reading read clean)
