-- A step of the reader of a chain.
use Rattle.std.proofs.Common.{◌≡◌, ℕ, ◌+◌, ◌-◌, ◌*◌, ◌/◌, ◌%◌, ◌<◌, ◌≤◌, Bool, true, false, cond, List, [], ◌∷◌, ◌++◌, length, get_or, Option, Some, Ok, Err, refl, sym, ap, subst, ◌∙◌, inl, inr, arith, leb, eqb, below_more}
use Rattle.std.proofs.Math.Seq.{get_or-append_seam}
use Rattle.std.proofs.Math.ListN.{get_or-append}
use Rattle.std.proofs.lemmas.Bool.{cases_lt}
use Rattle.std.proofs.lemmas.List.{length-append}
use Rattle.std.proofs.lemmas.Bool.{leb-false}
use Rattle.definitions.specs.Disk.{Content, DiskImage, as_it_reads}
use Rattle.plain_machine.specs.Chain.{entry_block, map_block}
use Rattle.image_walk.specs.declared.limits.Limits.{Limits}
use Rattle.image_walk.specs.declared.visit.BlockFault.{BlockFault}
use Rattle.image_walk.specs.Names.{Name, map_at, page_at, maps_in, left_in, newest_map, is_over, fault_of, IsAnswer, IsNext, IsReading, AreReadFrom}
use Rattle.image_pages.proofs.Blocks.{chained_of, entry_named}
use Rattle.expanded_disk.specs.Names.{AreAllRead, HasRead, entries_in}
use Rattle.expanded_disk.specs.Chains.{IsChain}

-- the entries that were named and those that are left are those of the maps
pub counted : (l : Limits) (first : ℕ) (h : List Name) → IsReading l first h → AreAllRead h → entries_in h + left_in h ≡ 511 * maps_in h
counted l first [] reading all = refl
counted l first (map_at b (Ok page) ∷ h) reading all = let i = counted l first h reading.0 all in omega (arith, reading.1.0)
counted l first (map_at b (Err why) ∷ h) reading all = absurd all
counted l first (page_at b (Ok page) ∷ h) reading all = let i = counted l first h reading.0 all in omega (arith, reading.1.0)
counted l first (page_at b (Err why) ∷ h) reading all = absurd all

-- the chain goes on
pub goes_on : (h : List Name) → AreAllRead h → is_over h ≡ false
goes_on [] all = refl
goes_on (map_at b (Ok page) ∷ h) all = refl
goes_on (map_at b (Err why) ∷ h) all = absurd all
goes_on (page_at b (Ok page) ∷ h) all = goes_on h all
goes_on (page_at b (Err why) ∷ h) all = absurd all

-- a block that was read is one of the disk
not_beyond : (z beyond : Bool) (x y : BlockFault) (rest : Option BlockFault) (b : ℕ) (page : List ℕ) → IsAnswer (cond z (Some x) (cond beyond (Some y) rest)) b (Ok page) → beyond ≡ false
not_beyond true beyond x y rest b page h = cc
not_beyond false true x y rest b page h = cc
not_beyond false false x y rest b page h = refl

pub inside : (l : Limits) (h : List Name) (b : ℕ) (page : List ℕ) → IsAnswer (fault_of l h b) b (Ok page) → b < l.blocks
inside l h b page answer = leb-false l.blocks b (not_beyond (eqb b 0) (leb l.blocks b) _ _ _ b page answer)

-- the newest map's block
newest_mapped : (l : Limits) (held : Content) (first : ℕ) (h : List Name) → IsReading l first h → AreReadFrom (Some held) h → AreAllRead h → 0 < maps_in h → newest_map h ≡ map_block (as_it_reads held) first (maps_in h - 1)
newest_mapped l held first [] reading read all some = absurd (omega arith)
newest_mapped l held first (map_at b (Ok page) ∷ h) reading read all some =
    let c = chained_of l held first h reading.0 read.0 in
    let same : maps_in h ≡ maps_in h + 1 - 1 = omega arith in
    reading.1.2 ∙ c.next reading.1.1 ∙ ap (map_block (as_it_reads held) first) same
newest_mapped l held first (map_at b (Err why) ∷ h) reading read all some = absurd all
newest_mapped l held first (page_at b (Ok page) ∷ h) reading read all some = newest_mapped l held first h reading.0 read.0 all some
newest_mapped l held first (page_at b (Err why) ∷ h) reading read all some = absurd all

-- a map more
pub chain_map : (blocks : ℕ) (v : DiskImage) (first count : ℕ) (maps : List ℕ) (b : ℕ) → IsChain blocks v first count maps → b ≡ map_block v first (length maps) → b < blocks → IsChain blocks v first count (maps ++ b ∷ [])
chain_map blocks v first count maps b c is lt = record {
  maps_are = λ m below.
      elim (cases_lt m (length maps)) [
        | inl old ↦ get_or-append maps (b ∷ []) 0 m old ∙ c.maps_are m old
        | inr new ↦
            let at : length maps ≡ m = omega (arith, length-append maps (b ∷ [])) in
            ap (λ (j : ℕ). get_or (maps ++ b ∷ []) j 0) (sym at) ∙ get_or-append_seam maps b [] 0 ∙ is ∙ ap (map_block v first) at
      ];
  maps_inside = λ m below.
      elim (cases_lt m (length maps)) [
        | inl old ↦ c.maps_inside m old
        | inr new ↦
            let at : length maps ≡ m = omega (arith, length-append maps (b ∷ [])) in
            subst (λ (x : ℕ). x < blocks) (is ∙ ap (map_block v first) at) lt
      ];
  pages_inside = c.pages_inside;
}

-- a page more
pub chain_page : (blocks : ℕ) (v : DiskImage) (first count : ℕ) (maps : List ℕ) → IsChain blocks v first count maps → entry_block v first count < blocks → IsChain blocks v first (count + 1) maps
chain_page blocks v first count maps c lt = record {
  maps_are = c.maps_are;
  maps_inside = c.maps_inside;
  pages_inside = below_more _ _ c.pages_inside lt;
}

-- the next map
pub next_mapped : (l : Limits) (held : Content) (first : ℕ) (h : List Name) (b : ℕ) (page : List ℕ) → IsReading l first h → AreReadFrom (Some held) h → AreAllRead h → IsNext l first h (map_at b (Ok page)) → b ≡ map_block (as_it_reads held) first (maps_in h)
next_mapped l held first h b page reading read all next = next.2 ∙ (chained_of l held first h reading read).next (goes_on h all)

pub place_of_count : (m left count : ℕ) → 0 < left → left ≤ 511 → count + left ≡ 511 * m → (count / 511 ≡ m - 1) × (count % 511 ≡ 511 - left) × (count ≡ 511 * (m - 1) + (511 - left))
place_of_count m left count some few is = (omega arith, omega arith, omega arith)

-- the next entry
pub record IsEntryOf (v : DiskImage) (first count : ℕ) (h : List Name) (b : ℕ) : Type 0 where
  pub block : b ≡ entry_block v first count
  pub map : maps_in h ≡ count / 511 + 1
  pub at : newest_map h ≡ map_block v first (count / 511)
  pub entry : 511 - left_in h ≡ count % 511

pub next_entry : (l : Limits) (held : Content) (first count : ℕ) (h : List Name) (b : ℕ) (page : List ℕ) → HasRead l first (Some held) count h → IsNext l first h (page_at b (Ok page)) → IsEntryOf (as_it_reads held) first count h b
next_entry l held first count h b page r next =
    let v = as_it_reads held in
    let c = chained_of l held first h r.reading r.pages in
    let all = counted l first h r.reading r.all in
    let sum : count + left_in h ≡ 511 * maps_in h = ap (λ (k : ℕ). k + left_in h) (sym r.count) ∙ all in
    let some : 0 < maps_in h = c.mapped next.0 in
    let place = place_of_count (maps_in h) (left_in h) count next.0 c.few sum in
    record {
      block = next.1 ∙ entry_named l held first h r.reading r.pages next.0 ∙ ap (entry_block v first) (sym place.2);
      map = omega (arith, place.0);
      at = newest_mapped l held first h r.reading r.pages r.all some ∙ ap (map_block v first) (sym place.0);
      entry = sym place.1;
    }
