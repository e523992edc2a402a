-- The blocks that a reading names.
use Rattle.std.proofs.Common.{◌≡◌, ℕ, ◌<◌, ◌||◌, inl, inr, Bool, true, false, cond, eqb, leb, ltb, List, [], ◌∷◌, length, Option, Some, None, Ok, Err, append-nil, ap, subst, ◌∙◌, refl, arith}
use Rattle.std.proofs.lemmas.Bool.{cases_lt}
use Rattle.std.proofs.lemmas.List.{length-append}
use Rattle.page_core.specs.declared.format.Format.{Format}
use Rattle.definitions.specs.Disk.{Content, as_it_reads}
use Rattle.plain_machine.specs.Chain.{entry_block, map_block}
use Rattle.image_walk.specs.declared.limits.Limits.{Limits}
use Rattle.image_walk.specs.declared.visit.BlockFault.{BlockFault}
use Rattle.image_walk.specs.declared.visit.BlockFault.TheVariants as fault
use Rattle.image_walk.specs.Names.{Name, map_at, page_at, maps_in, is_over, is_named, is_bad, fault_of, AreReadFrom, IsAnswer, IsReading}
use Rattle.image_check.specs.Entries.{position_of}
use Rattle.image_check.specs.Image.{history_findings, name_findings}
use Rattle.image_pages.specs.Clean.{pages_in}
use Rattle.image_pages.proofs.Blocks.{chained_of, entry_named}
use Rattle.image_pages.proofs.Counting.{counted_of, next_page}
use Rattle.image_pages.proofs.Findings.{left_none}
use Rattle.image_machine.specs.Resumable.{MayName}

pub no_fault : (f : Option BlockFault) (b : ℕ) (page : List ℕ) → IsAnswer f b (Ok page) → f ≡ None
no_fault None b page answer = refl
no_fault (Some why) b page answer = cc

unnamed : {X : Type 0} (a b c d e f : Bool) (v w x y z : X) → cond a (Some v) (cond b (Some w) (cond c (Some x) (cond d (Some y) (cond (e || f) (Some z) None)))) ≡ None →
    cond a (Some v) (cond b (Some w) (cond c (Some x) (cond d (Some y) (cond (e || false) (Some z) None)))) ≡ None
unnamed true b c d e f v w x y z is = is
unnamed false true c d e f v w x y z is = is
unnamed false false true d e f v w x y z is = is
unnamed false false false true e f v w x y z is = is
unnamed false false false false true f v w x y z is = is
unnamed false false false false false f v w x y z is = refl

-- a block without a fault after some names has none before them
pub may_name : (l : Limits) (h : List Name) (b : ℕ) → fault_of l h b ≡ None → MayName l b
may_name l h b is = unnamed (eqb b 0) (leb l.blocks b) (ltb l.last b) (is_bad l b) (eqb b l.header) (is_named b h) fault.Zero (fault.BeyondFile b) (fault.BeyondLast b) (fault.Bad b) (fault.Again b) is

-- each map that was read
pub map_named : (l : Limits) (held : Content) (first : ℕ) (h : List Name) → IsReading l first h → AreReadFrom (Some held) h → is_over h ≡ false → (j : ℕ) → j < maps_in h → MayName l (map_block (as_it_reads held) first j)
map_named l held first [] reading read on j lt = absurd (omega arith)
map_named l held first (map_at b (Ok page) ∷ h) reading read on j lt = elim (cases_lt j (maps_in h)) [
  | inl before ↦ map_named l held first h reading.0 read.0 reading.1.1 j before
  | inr last ↦
      let same : maps_in h ≡ j = omega arith in
      let there : b ≡ map_block (as_it_reads held) first j =
      reading.1.2 ∙ (chained_of l held first h reading.0 read.0).next reading.1.1 ∙ ap (map_block (as_it_reads held) first) same in
      subst (MayName l) there (may_name l h b (no_fault (fault_of l h b) b page reading.1.3))
]
map_named l held first (map_at b (Err why) ∷ h) reading read on j lt = cc
map_named l held first (page_at b answer ∷ h) reading read on j lt = map_named l held first h reading.0 read.0 on j lt

-- each entry that has a page
pub page_named : (format : Format) (l : Limits) (held : Content) (first : ℕ) (h : List Name) → IsReading l first h → AreReadFrom (Some held) h → history_findings format h ≡ [] → (k : ℕ) → k < length (pages_in h) → MayName l (entry_block (as_it_reads held) first k)
page_named format l held first [] reading read clean k lt = absurd (omega arith)
page_named format l held first (map_at b answer ∷ h) reading read clean k lt =
    page_named format l held first h reading.0 read.0 (left_none (history_findings format h) (name_findings format h (map_at b answer)) clean) k (omega (arith, ap length (append-nil (pages_in h))))
page_named format l held first (page_at b (Err why) ∷ h) reading read clean k lt =
    page_named format l held first h reading.0 read.0 (left_none (history_findings format h) (name_findings format h (page_at b (Err why))) clean) k (omega (arith, ap length (append-nil (pages_in h))))
page_named format l held first (page_at b (Ok page) ∷ h) reading read clean k lt =
    let v = as_it_reads held in
    let before = left_none (history_findings format h) (name_findings format h (page_at b (Ok page))) clean in
    let size = length-append (pages_in h) (page ∷ []) in
    elim (cases_lt k (length (pages_in h))) [
      | inl inside ↦ page_named format l held first h reading.0 read.0 before k inside
      | inr last ↦
          let placed = next_page format h b page (counted_of format l first h reading.0 before) (counted_of format l first (page_at b (Ok page) ∷ h) reading clean) reading.1.0 in
          let at : position_of h ≡ k = omega arith in
          subst (MayName l) (reading.1.1 ∙ entry_named l held first h reading.0 read.0 reading.1.0 ∙ ap (entry_block v first) at)
          (may_name l h b (no_fault (fault_of l h b) b page reading.1.2))
    ]
