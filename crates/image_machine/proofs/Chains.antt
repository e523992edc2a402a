-- The pages of a chain, and how many of them a reading has read.
use Rattle.std.proofs.Common.{◌≡◌, ℕ, ◌<◌, ◌≤◌, inl, inr, List, [], ◌∷◌, length, get_or, Some, ap, refl, arith}
use Rattle.std.proofs.lemmas.Bool.{cases_lt}
use Rattle.page_core.specs.declared.format.Format.{Format}
use Rattle.definitions.specs.Disk.{DiskImage, block}
use Rattle.plain_machine.specs.Chain.{entry_block}
use Rattle.image_walk.specs.Names.{Name, left_in, maps_in}
use Rattle.image_check.specs.Entries.{position_of}
use Rattle.image_check.specs.Info.{counts_in}
use Rattle.image_pages.specs.Clean.{counts_by, pages_in}
use Rattle.image_pages.proofs.Counting.{Counted}

-- page k of the chain
abbrev pub chain_at : DiskImage → (first k : ℕ) → List ℕ
chain_at v first k = block v (entry_block v first k)

-- there are no more pages than entries were read
pub few_pages : (format : Format) (h : List Name) → Counted format h → 0 < maps_in h → length (pages_in h) ≤ position_of h
few_pages format h c some = elim (cases_lt 0 (position_of h)) [
  | inl later ↦
      let k = c.counted some later in
      elim (cases_lt (position_of h) k.counts.pages) [
        | inl lt ↦ let is = k.before (omega arith) in omega arith
        | inr le ↦ let is = k.after le in omega arith
      ]
  | inr start ↦ let none = ap length (c.begun some (omega arith)).0 in omega arith
]

pub mapped : (format : Format) (h : List Name) → Counted format h → 0 < left_in h → 0 < maps_in h
mapped format h c left = elim (cases_lt 0 (maps_in h)) [ inl lt ↦ lt | inr none ↦ let z = (c.unmapped (omega arith)).0 in absurd (omega arith) ]

-- what the info page says is kept
pub said_by : (pages : List (List ℕ)) → 0 < length pages → counts_by pages ≡ Some (counts_in (get_or pages 0 []))
said_by [] some = absurd (omega arith)
said_by (info ∷ pages) some = refl
