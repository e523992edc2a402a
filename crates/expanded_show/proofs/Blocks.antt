-- Blocks that are put into runs, map after map.
use Rattle.std.proofs.Common.{◌≡◌, ℕ, ◌+◌, ◌-◌, ◌*◌, ◌/◌, ◌<◌, ◌≤◌, List, [], ◌∷◌, ◌++◌, length, map, min, Option, Some, None, IfSome, inl, inr, refl, sym, ap, ap₂, subst, ◌∙◌, arith, add-one, append_assoc}
use Rattle.std.proofs.lemmas.Bool.{false≢true}
use Rattle.std.specs.Prelude.{slice_index}
use Rattle.std.specs.List.{range_with_len}
use Rattle.std.specs.Option.{ForSome}
use Rattle.std.proofs.lemmas.List.{map-append}
use Rattle.std.proofs.lemmas.List.FromFn.{map-range_with_len_more}
use Rattle.definitions.specs.Bytes.{word}
use Rattle.definitions.specs.Disk.{Content, DiskImage, HasRisen, as_it_reads, block}
use Rattle.definitions.specs.FreeRuns.{runs_of}
use Rattle.plain_machine.specs.Chain.{map_block}
use Rattle.image_show.specs.Runs.{IsUpTo, list_of}
use Rattle.image_show.specs.Told.{block_run}
use Rattle.image_show.specs.declared.facts.fact.Fact.{Fact}
use Rattle.image_show.specs.declared.facts.fact.Fact.TheVariants as fact
use Rattle.expanded_disk.specs.Units.{units_of}
use Rattle.expanded_disk.specs.declared.units.index.Index.{Index}
use Rattle.expanded_disk.proofs.Loads.{IsIndexIn}
use Rattle.expanded_show.specs.Blocks.{AreBlockFacts, FailsToRead, HasGathered, chain_blocks, chain_length, named_by}
use Rattle.expanded_show.specs.declared.gathered.Gathered.{Gathered}

-- a block more
pub gathered_one : (numbers : List ℕ) (block : ℕ) (old new : Gathered) (last : List (ℕ × ℕ)) →
    ((ended : List (ℕ × ℕ)) → IsUpTo numbers old.runs.last ended → IsUpTo (numbers ++ block ∷ []) new.runs.last (ended ++ last)) →
    new.facts.items ≡ old.facts.items ++ map block_run last → HasGathered numbers old → HasGathered (numbers ++ block ∷ []) new
gathered_one numbers block old new last runs facts g = record {
  ended = g.ended ++ last;
  runs = runs g.ended g.runs;
  facts = facts ∙ ap (λ (fs : List Fact). fs ++ map block_run last) g.facts ∙ sym (map-append block_run g.ended last);
}

-- an entry more of a map
pub entries_more : (numbers : List ℕ) (at : ℕ) (page : List ℕ) (i : ℕ) (x : ℕ) → x ≡ word page i → (numbers ++ at ∷ map (word page) (range_with_len 0 i)) ++ x ∷ [] ≡ numbers ++ at ∷ map (word page) (range_with_len 0 (i + 1))
entries_more numbers at page i x is =
    append_assoc numbers (at ∷ map (word page) (range_with_len 0 i)) (x ∷ [])
    ∙ ap (λ (xs : List ℕ). numbers ++ at ∷ xs)
    (ap (λ (y : ℕ). map (word page) (range_with_len 0 i) ++ y ∷ []) is ∙ sym (map-range_with_len_more (word page) 0 i i (omega arith)))

-- all facts
pub gathered_all : (numbers : List ℕ) (g : Gathered) (last : Option (ℕ × ℕ)) (facts : List Fact) → last ≡ g.runs.last → HasGathered numbers g → facts ≡ g.facts.items ++ map block_run (list_of last) → facts ≡ map block_run (runs_of numbers)
gathered_all numbers g last facts is h all =
    all ∙ ap₂ (λ (xs : List Fact) (l : Option (ℕ × ℕ)). xs ++ map block_run (list_of l)) h.facts is
    ∙ sym (map-append block_run h.ended (list_of g.runs.last)) ∙ ap (map block_run) (sym h.runs.runs)

-- the blocks of a map more
pub chain_more : (v : DiskImage) (first count m : ℕ) → chain_blocks v first count (m + 1) ≡ chain_blocks v first count m ++ named_by (map_block v first m) (block v (map_block v first m)) (min 511 (count - 511 * m))
unfolding chain_blocks
chain_more v first count m = ap (chain_blocks v first count) (add-one m)

pub chain_none : (v : DiskImage) (first count : ℕ) → chain_blocks v first count 0 ≡ []
unfolding chain_blocks
chain_none v first count = refl

-- the blocks of the first maps were put together
pub record GatheredMaps (content : Option Content) (index : Index) (maps : ℕ) (g : Gathered) : Type 0 where
  pub blocks : List ℕ
  pub gathered : HasGathered blocks g
  pub are : IfSome content (λ held. blocks ≡ chain_blocks (as_it_reads held) index.first (chain_length (as_it_reads held) index) maps)

pub maps_none : (content : Option Content) (index : Index) (g : Gathered) → HasGathered [] g → GatheredMaps content index 0 g
maps_none content index g h = record { blocks = []; gathered = h; are = are content } where
  are : (content : Option Content) → IfSome content (λ held. [] ≡ chain_blocks (as_it_reads held) index.first (chain_length (as_it_reads held) index) 0)
  are None = tt
  are (Some held) = sym (chain_none (as_it_reads held) index.first (chain_length (as_it_reads held) index))

-- the chain has `count` pages
abbrev pub HasPages : Option Content → Index → ℕ → Type 0
HasPages content index count = ForSome content (λ held. count ≡ chain_length (as_it_reads held) index)

-- a map that was read
abbrev pub IsMapRead : Option Content → Index → (map at : ℕ) → List ℕ → Type 0
IsMapRead content index m at page = IfSome content (λ held. (at ≡ map_block (as_it_reads held) index.first m) × (page ≡ block (as_it_reads held) at))

pub maps_more : (content : Option Content) (index : Index) (m count entries at : ℕ) (page : List ℕ) (old new : Gathered) → HasPages content index count → IsMapRead content index m at page → entries ≡ min 511 (count - 511 * m)
    → ((numbers : List ℕ) → HasGathered numbers old → HasGathered (numbers ++ at ∷ map (word page) (range_with_len 0 entries)) new) → GatheredMaps content index m old → GatheredMaps content index (m + 1) new
maps_more content index m count entries at page old new pages read few added g = record {
  blocks = g.blocks ++ named_by at page entries;
  gathered = added g.blocks g.gathered;
  are = are content pages read g.are;
} where
  are : (content : Option Content) → HasPages content index count → IsMapRead content index m at page → IfSome content (λ held. g.blocks ≡ chain_blocks (as_it_reads held) index.first (chain_length (as_it_reads held) index) m)
      → IfSome content (λ held. g.blocks ++ named_by at page entries ≡ chain_blocks (as_it_reads held) index.first (chain_length (as_it_reads held) index) (m + 1))
  are None pages read before = tt
  are (Some held) pages read before =
      let v = as_it_reads held in
      let first = index.first in
      let all = chain_length v index in
      let same : entries ≡ min 511 (all - 511 * m) = few ∙ ap (λ (n : ℕ). min 511 (n - 511 * m)) (pages held refl) in
      let page_is : page ≡ block v (map_block v first m) = read.1 ∙ ap (block v) read.0 in
      ap₂ (λ (xs ys : List ℕ). xs ++ ys) before
      (ap₂ (λ (a n : ℕ). named_by a page n) read.0 same ∙ ap (λ (p : List ℕ). named_by (map_block v first m) p (min 511 (all - 511 * m))) page_is)
      ∙ sym (chain_more v first all m)

-- what can't happen over a disk that tells its content

none_some : (held : Content) → Some held ≡ None → ⊥
none_some held e = cc

pub reads_none : (content : Option Content) (before now : ℕ) → content ≡ None → FailsToRead content before now
reads_none None before now is = λ tells. absurd (false≢true tells)
reads_none (Some held) before now is = λ tells. absurd (none_some held is)

pub none_past_blocks : (content : Option Content) (b blocks : ℕ) → ForSome content (λ held. b < blocks) → blocks ≤ b → content ≡ None
none_past_blocks None b blocks inside past = refl
none_past_blocks (Some held) b blocks inside past = let lt : b < blocks = inside held refl in absurd (omega arith)

-- how many pages the chain has

pub has_pages : (content : Option Content) (blocks : ℕ) (index : Index) (count : ℕ) → IsIndexIn content blocks index → (length index.starts.items ≡ units_of index.pages + 1 → count ≡ slice_index index.starts.items (units_of index.pages)) → HasPages content index count
has_pages content blocks index count indexed is = λ held tells. is (indexed held tells).starts_count ∙ (indexed held tells).starts (units_of index.pages) (omega arith)

-- calls before

pub fails_earlier : (content mid : Option Content) (before then now : ℕ) → mid ≡ content → before ≤ then → FailsToRead mid then now → FailsToRead content before now
fails_earlier content mid before then now same le fails = λ tells.
    elim (subst (λ (x : Option Content). FailsToRead x then now) same fails tells) [ inl lt ↦ inl (omega arith) | inr last ↦ inr last ]

pub none_left : (content : Option Content) (before now maps count : ℕ) → maps ≡ (count + 510) / 511 → 511 * maps < count → FailsToRead content before now
none_left content before now maps count is lt = absurd (omega (arith, is, lt))

-- where the image lies

pub lie_so : (content : Option Content) (before now : ℕ) (index : Index) (maps count : ℕ) (g : Gathered) (facts : List Fact) → HasPages content index count → maps ≤ (count + 510) / 511 → (511 * maps < count → FailsToRead content before now) →
    (all : GatheredMaps content index maps g) → facts ≡ map block_run (runs_of all.blocks) ++ fact.Maps maps ∷ [] → AreBlockFacts content before now index facts
lie_so content before now index maps count g facts pages most unread all says = record {
  maps = maps;
  blocks = all.blocks;
  unread = left content pages unread;
  are = are content pages all.are;
  says = says;
} where
  left : (content : Option Content) → HasPages content index count → (511 * maps < count → FailsToRead content before now) → IfSome content (λ held. 511 * maps < chain_length (as_it_reads held) index → HasRisen before now)
  left None pages unread = tt
  left (Some held) pages unread = λ lt. unread (subst (λ (n : ℕ). 511 * maps < n) (sym (pages held refl)) lt) refl

  are : (content : Option Content) → HasPages content index count → IfSome content (λ held. all.blocks ≡ chain_blocks (as_it_reads held) index.first (chain_length (as_it_reads held) index) maps) →
      IfSome content (λ held. (maps ≤ (chain_length (as_it_reads held) index + 510) / 511) × (all.blocks ≡ chain_blocks (as_it_reads held) index.first (chain_length (as_it_reads held) index) maps))
  are None pages blocks = tt
  are (Some held) pages blocks = (subst (λ (n : ℕ). maps ≤ (n + 510) / 511) (pages held refl) most, blocks)
