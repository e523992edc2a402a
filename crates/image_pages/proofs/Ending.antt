-- The pages of a whole reading in which nothing is wrong.
use Rattle.std.proofs.Common.{◌≡◌, ℕ, ◌+◌, ◌-◌, ◌*◌, ◌<◌, ◌≤◌, ◌&&◌, true, List, [], ◌∷◌, ◌++◌, length, Option, Some, None, Ok, Err, IfSome, cond, eqb, ltb, map, get_or, refl, arith, sym, ap, subst, ◌∙◌}
use Rattle.std.specs.List.{range_with_len}
use Rattle.std.proofs.Math.Seq.{get_or-append_seam}
use Rattle.std.proofs.lemmas.List.{length-append}
use Rattle.page_core.specs.declared.format.Format.{Format}
use Rattle.definitions.specs.Disk.{Content, as_it_reads, block}
use Rattle.plain_machine.specs.Chain.{entry_block}
use Rattle.image_walk.specs.declared.limits.Limits.{Limits}
use Rattle.image_walk.specs.Names.{Name, map_at, page_at, maps_in, left_in, is_over, IsReading}
use Rattle.image_check.specs.Entries.{counts_of, ends_fault}
use Rattle.image_check.specs.Image.{history_findings, name_findings}
use Rattle.image_check.specs.Info.{counts_in}
use Rattle.image_check.specs.Told.{list_of}
use Rattle.image_check.specs.declared.finding.Counts.{Counts}
use Rattle.image_check.specs.declared.finding.Finding.TheVariants as finding
use Rattle.image_pages.specs.Chain.{chain_page, chain_pages, AreFirst, IsChainPage, IsSized, IsWholeStream}
use Rattle.image_pages.specs.Clean.{Start, IsStart, IsClean, counts_by, pages_in}
use Rattle.image_pages.proofs.Blocks.{all_in_chain, each_in_chain}
use Rattle.image_pages.proofs.Counting.{counted_of, the_same}
use Rattle.image_pages.proofs.Findings.{right_none, end_wanted, end_mapped}
use Rattle.image_pages.proofs.Marks.{start_first}

over_left : (l : Limits) (first : ℕ) (h : List Name) → IsReading l first h → is_over h ≡ true → left_in h ≡ 0
over_left l first [] reading over = cc
over_left l first (map_at b (Ok page) ∷ h) reading over = cc
over_left l first (map_at b (Err why) ∷ h) reading over = refl
over_left l first (page_at b answer ∷ h) reading over = let none = over_left l first h reading.0 over in absurd (omega (arith, reading.1.0))

-- as many pages were read as the info page says
all_read : (format : Format) (l : Limits) (first : ℕ) (h : List Name) → IsReading l first h → history_findings format h ≡ [] → is_over h ≡ true → (c : Counts) × (counts_by (pages_in h) ≡ Some c) × (length (pages_in h) ≡ c.pages)
all_read format l first [] reading clean over = cc
all_read format l first (map_at b (Ok page) ∷ h) reading clean over = cc
all_read format l first (page_at b answer ∷ h) reading clean over = let none = over_left l first h reading.0 over in absurd (omega (arith, reading.1.0))
all_read format l first (map_at b (Err why) ∷ h) reading clean over =
    let x = map_at b (Err why) in
    let fine = right_none (history_findings format h) (name_findings format h x) clean in
    let left = reading.1.0 in
    let some : 0 < maps_in h = end_mapped (eqb b 0) (maps_in h) (ends_fault (counts_of h) (maps_in h + 1 - 1)) (finding.Map (maps_in h + 1) why) fine in
    let c = (counted_of format l first (x ∷ h) reading clean).counted (omega arith) (omega arith) in
    let wanted : c.counts.pages ≤ 511 * (maps_in h + 1 - 1) =
    end_wanted (eqb b 0) (ltb 1 (maps_in h + 1)) (maps_in h + 1 - 1) c.counts (finding.Map (maps_in h + 1) why)
    (subst (λ (k : Option Counts). list_of (cond (eqb b 0 && ltb 1 (maps_in h + 1)) (ends_fault k (maps_in h + 1 - 1)) (Some (finding.Map (maps_in h + 1) why))) ≡ []) c.is_known fine) in
    (c.counts, c.said, c.after (omega arith))

sized : (pages : List (List ℕ)) (c : Counts) → counts_by pages ≡ Some c → length pages ≡ c.pages → IsSized pages
sized [] c said size = cc
sized (info ∷ pages) c said size = size ∙ ap (λ (x : Counts). x.pages) (the_same c (counts_in info) (sym said))

-- the first page says how many there are
size_by : (pages : List (List ℕ)) → IsSized pages → (0 < length pages) × (length pages ≡ (counts_in (get_or pages 0 [])).pages)
size_by [] s = absurd s
size_by (info ∷ pages) s = (omega arith, s)

-- a page that was read is that of the chain
at_chain : (held : Content) (blocks header : ℕ) (start : Start) (h : List Name) → IsStart (Some held) blocks header start → IsClean (Some held) start h → (k : ℕ) → k < length (pages_in h) → get_or (pages_in h) k [] ≡ chain_page (as_it_reads held) header k
at_chain held blocks header start h begins clean k lt =
    let v = as_it_reads held in
    each_in_chain start.format start.limits held start.first h clean.reading clean.pages clean.clean k lt
    ∙ ap (λ (b : ℕ). block v (entry_block v b k)) (start_first held blocks header start begins)

pub newest_in_chain : (content : Option Content) (blocks header : ℕ) (start : Start) (h : List Name) (given : List (List ℕ)) (page : List ℕ) → IsStart content blocks header start → IsClean content start h → pages_in h ≡ given ++ page ∷ [] → IsChainPage content header (length given) page
newest_in_chain None blocks header start h given page begins clean is = tt
newest_in_chain (Some held) blocks header start h given page begins clean is =
    let size = ap length is in
    sym (get_or-append_seam given page [] [])
    ∙ ap (λ (x : List (List ℕ)). get_or x (length given) []) (sym is)
    ∙ at_chain held blocks header start h begins clean (length given) (omega (arith, length-append given (page ∷ [])))

pub first_in_chain : (content : Option Content) (blocks header : ℕ) (start : Start) (h : List Name) (given : List (List ℕ)) → IsStart content blocks header start → IsClean content start h → pages_in h ≡ given → AreFirst content header given
first_in_chain None blocks header start h given begins clean is = tt
first_in_chain (Some held) blocks header start h given begins clean is =
    let v = as_it_reads held in
    subst (λ (x : List (List ℕ)). x ≡ map (chain_page v header) (range_with_len 0 (length x))) is
    (all_in_chain start.format start.limits held start.first h clean.reading clean.pages clean.clean
    ∙ ap (λ (b : ℕ). map (λ k. block v (entry_block v b k)) (range_with_len 0 (length (pages_in h)))) (start_first held blocks header start begins))

in_chain : (content : Option Content) (blocks header : ℕ) (start : Start) (h : List Name) → IsStart content blocks header start → IsClean content start h → IsSized (pages_in h) → IfSome content (λ held. pages_in h ≡ chain_pages (as_it_reads held) header)
in_chain None blocks header start h begins clean s = tt
in_chain (Some held) blocks header start h begins clean s =
    let v = as_it_reads held in
    let size = size_by (pages_in h) s in
    let info = at_chain held blocks header start h begins clean 0 size.0 in
    first_in_chain (Some held) blocks header start h (pages_in h) begins clean refl
    ∙ ap (λ (n : ℕ). map (chain_page v header) (range_with_len 0 n)) (size.1 ∙ ap (λ (p : List ℕ). (counts_in p).pages) info)

pub whole_stream : (content : Option Content) (blocks header : ℕ) (start : Start) (h : List Name) (given : List (List ℕ)) → IsStart content blocks header start → IsClean content start h → is_over h ≡ true → pages_in h ≡ given → IsWholeStream content header given
whole_stream content blocks header start h given begins clean over is =
    let (c, said, size) = all_read start.format start.limits start.first h clean.reading clean.clean over in
    let s = sized (pages_in h) c said size in
    subst (λ (x : List (List ℕ)). IsWholeStream content header x) is (record { sized = s; chain = in_chain content blocks header start h begins clean s })
