-- What the reader of a chain gives.
use Rattle.std.proofs.Common.{◌≡◌, ℕ, ◌+◌, ◌-◌, ◌*◌, ◌/◌, ◌%◌, ◌<◌, ◌≤◌, List, [], ◌∷◌, ◌++◌, length, Option, None, Some, IfSome, Ok, Err, sym, ap, subst, ◌∙◌, inl, inr, arith}
use Rattle.std.proofs.lemmas.List.{length-append}
use Rattle.definitions.specs.Disk.{Content, as_it_reads, block, HasRisen}
use Rattle.plain_machine.specs.Chain.{map_block}
use Rattle.image_walk.specs.declared.limits.Limits.{Limits}
use Rattle.image_walk.specs.declared.visit.BlockFault.{BlockFault}
use Rattle.image_walk.specs.declared.visit.Visit.TheVariants as visit
use Rattle.image_walk.specs.Names.{Name, map_at, page_at, maps_in, left_in, newest_map, IsNext, IsReading}
use Rattle.image_walk.specs.Walking.{Follows, IsPlaced, StepsTo}
use Rattle.image_check.specs.declared.finding.Finding.TheVariants as finding
use Rattle.image_check.specs.declared.finding.Place.{Place}
use Rattle.expanded_disk.specs.Names.{AreAllRead, HasRead, found_map}
use Rattle.expanded_disk.specs.Chains.{Gives, Goes, IsChain, IsNextPage, IsSameChain, StandsAt}
use Rattle.expanded_disk.specs.declared.units.chain.Chain.{Chain}
use Rattle.expanded_disk.specs.declared.units.chain.Read.TheVariants.{Page, Wrong}
use Rattle.expanded_disk.proofs.ChainSteps.{chain_map, chain_page, counted, inside, next_entry, next_mapped, place_of_count}

-- a reader's record of what it has read, by the limits and the first map of the one before
along : (content : Option Content) (old new : Chain) (k : ℕ) (h : List Name) → IsSameChain old new → HasRead old.walker.limits old.first content k h → HasRead new.walker.limits new.first content k h
along content old new k h same r =
    subst (λ (l : Limits). HasRead l new.first content k h) (sym same.limits)
    (subst (λ (f : ℕ). HasRead old.walker.limits f content k h) (sym same.first) r)

chain_along : (content : Option Content) (old new : Chain) (k : ℕ) (maps : List ℕ) → IsSameChain old new → IfSome content (λ held. IsChain old.walker.limits.blocks (as_it_reads held) old.first k maps) → IfSome content (λ held. IsChain new.walker.limits.blocks (as_it_reads held) new.first k maps)
chain_along None old new k maps same c = tt
chain_along (Some held) old new k maps same c =
    subst (λ (l : Limits). IsChain l.blocks (as_it_reads held) new.first k maps) (sym same.limits)
    (subst (λ (f : ℕ). IsChain old.walker.limits.blocks (as_it_reads held) f k maps) (sym same.first) c)

more_maps : (content : Option Content) (old : Chain) (s : StandsAt content old) (b : ℕ) (page : List ℕ) → IsNext old.walker.limits old.first s.history (map_at b (Ok page)) → IfSome content (λ held. IsChain old.walker.limits.blocks (as_it_reads held) old.first old.count (old.maps.items ++ b ∷ []))
more_maps None old s b page next = tt
more_maps (Some held) old s b page next =
    let v = as_it_reads held in
    chain_map old.walker.limits.blocks v old.first old.count old.maps.items b s.chain
    (next_mapped old.walker.limits held old.first s.history b page s.read.reading s.read.pages s.read.all next ∙ ap (λ (m : ℕ). map_block v old.first m) (sym s.mapped))
    (inside old.walker.limits s.history b page next.3)

-- a map was read
pub goes_map : (content : Option Content) (pages before then now : ℕ) (old new : Chain) (s : StandsAt content old) (m b : ℕ) (done : Unit {0}) (page : List ℕ) → IsSameChain old new → new.count ≡ old.count → new.maps.items ≡ old.maps.items ++ b ∷ [] → StepsTo old.first content then now s.history old.walker new.walker (visit.Map m b (Ok done)) page → Goes content pages before now old new page None
goes_map content pages before then now old new s m b done page same count maps step =
    let x = map_at b (Ok page) in (
      record {
        history = x ∷ s.history;
        follows = subst (λ (f : ℕ). Follows f new.walker (x ∷ s.history)) (sym same.first) step.follows;
        read = along content old new new.count (x ∷ s.history) same (record {
          reading = (s.read.reading, step.seen.next);
          pages = (s.read.pages, step.seen.page);
          all = s.read.all;
          count = s.read.count ∙ sym count;
        });
        mapped = ap length maps ∙ length-append old.maps.items (b ∷ []) ∙ ap (λ (n : ℕ). n + 1) s.mapped;
        enough = omega (arith, s.enough, count, ap length maps, length-append old.maps.items (b ∷ []));
        chain = subst (λ (k : ℕ). IfSome content (λ held. IsChain new.walker.limits.blocks (as_it_reads held) new.first k new.maps.items)) (sym count)
            (subst (λ (ms : List ℕ). IfSome content (λ held. IsChain new.walker.limits.blocks (as_it_reads held) new.first old.count ms)) (sym maps)
            (chain_along content old new old.count (old.maps.items ++ b ∷ []) same (more_maps content old s b page step.seen.next)));
      },
      count,
      step.fewer,
    )

one_more : (content : Option Content) (old : Chain) (s : StandsAt content old) (b : ℕ) (page : List ℕ) → IsNext old.walker.limits old.first s.history (page_at b (Ok page)) → IfSome content (λ held. IsChain old.walker.limits.blocks (as_it_reads held) old.first (old.count + 1) old.maps.items)
one_more None old s b page next = tt
one_more (Some held) old s b page next =
    let v = as_it_reads held in
    let named = next_entry old.walker.limits held old.first old.count s.history b page s.read next in
    chain_page old.walker.limits.blocks v old.first old.count old.maps.items s.chain
    (subst (λ (x : ℕ). x < old.walker.limits.blocks) named.block (inside old.walker.limits s.history b page next.2))

next_page : (content : Option Content) (old : Chain) (s : StandsAt content old) (m at i b : ℕ) (page : List ℕ) → IsNext old.walker.limits old.first s.history (page_at b (Ok page)) → IfSome content (λ held. page ≡ block (as_it_reads held) b) → IsPlaced s.history (visit.Entry m at i b (Ok tt)) → IsNextPage content old page (record { map = m; at = at; entry = i })
next_page None old s m at i b page next read placed = tt
next_page (Some held) old s m at i b page next read placed =
    let v = as_it_reads held in
    let named = next_entry old.walker.limits held old.first old.count s.history b page s.read next in (
      read ∙ ap (block v) named.block,
      same_place m at i (old.count / 511 + 1) (map_block v old.first (old.count / 511)) (old.count % 511)
          (placed.0 ∙ named.map) (placed.1 ∙ named.at) (placed.2 ∙ named.entry),
    ) where
      same_place : (m at i n bt j : ℕ) → m ≡ n → at ≡ bt → i ≡ j → (let p : Place = record { map = m; at = at; entry = i } in p) ≡ (let q : Place = record { map = n; at = bt; entry = j } in q)
      same_place m at i n bt j e f g = cc

few_left : (l : Limits) (first : ℕ) (h : List Name) → IsReading l first h → AreAllRead h → left_in h ≤ 511
few_left l first [] reading all = omega arith
few_left l first (map_at b (Ok page) ∷ h) reading all = omega arith
few_left l first (map_at b (Err why) ∷ h) reading all = absurd all
few_left l first (page_at b (Ok page) ∷ h) reading all = let few = few_left l first h reading.0 all in omega arith
few_left l first (page_at b (Err why) ∷ h) reading all = absurd all

-- how many pages were read, by the place of the last one
pub count_by : (content : Option Content) (old : Chain) (s : StandsAt content old) (m i : ℕ) → 0 < left_in s.history → m ≡ maps_in s.history → i ≡ 511 - left_in s.history → 511 * (m - 1) + i + 1 ≡ old.count + 1
count_by content old s m i some e f =
    let all = counted old.walker.limits old.first s.history s.read.reading s.read.all in
    let few = few_left old.walker.limits old.first s.history s.read.reading s.read.all in
    let known = s.read.count in
    let place = place_of_count (maps_in s.history) (left_in s.history) old.count some few (ap (λ (k : ℕ). k + left_in s.history) (sym known) ∙ all) in
    omega (arith, e, f, place.2)

-- a page was read
pub gives_page : (content : Option Content) (pages before then now : ℕ) (old new : Chain) (s : StandsAt content old) (m at i b : ℕ) (done : Unit {0}) (page : List ℕ) → IsSameChain old new → new.count ≡ old.count + 1 → new.maps.items ≡ old.maps.items → StepsTo old.first content then now s.history old.walker new.walker (visit.Entry m at i b (Ok done)) page → Gives content pages before now old new page (Page (record { map = m; at = at; entry = i }))
gives_page content pages before then now old new s m at i b done page same count maps step =
    let x = page_at b (Ok page) in
    let all = counted old.walker.limits old.first s.history s.read.reading s.read.all in (
      record {
        history = x ∷ s.history;
        follows = subst (λ (f : ℕ). Follows f new.walker (x ∷ s.history)) (sym same.first) step.follows;
        read = along content old new new.count (x ∷ s.history) same (record {
          reading = (s.read.reading, step.seen.next);
          pages = (s.read.pages, step.seen.page);
          all = s.read.all;
          count = ap (λ (n : ℕ). n + 1) s.read.count ∙ sym count;
        });
        mapped = ap length maps ∙ s.mapped;
        enough = omega (arith, count, all, s.read.count, s.mapped, step.seen.next.0, ap length maps);
        chain = subst (λ (k : ℕ). IfSome content (λ held. IsChain new.walker.limits.blocks (as_it_reads held) new.first k new.maps.items)) (sym count)
            (subst (λ (ms : List ℕ). IfSome content (λ held. IsChain new.walker.limits.blocks (as_it_reads held) new.first (old.count + 1) ms)) (sym maps)
            (chain_along content old new (old.count + 1) old.maps.items same (one_more content old s b page step.seen.next)));
      },
      count,
      next_page content old s m at i b page step.seen.next step.seen.page step.place,
    )

risen : (first before now : ℕ) → first ≤ before → HasRisen before now → HasRisen first now
risen first before now le (inl lt) = inl (omega arith)
risen first before now le (inr last) = inr last

-- a map wasn't read
pub wrong_map : (content : Option Content) (pages before then now : ℕ) (old new : Chain) (s : StandsAt content old) (m b : ℕ) (why : BlockFault) (page : List ℕ) → before ≤ then → StepsTo old.first content then now s.history old.walker new.walker (visit.Map m b (Err why)) page → Gives content pages before now old new page (Wrong (found_map m b why pages))
wrong_map content pages before then now old new s m b why page le step = record {
  history = s.history;
  name = map_at b (Err why);
  read = s.read;
  next = step.seen.next;
  page = tt;
  wrong = ap (λ (n : ℕ). Some (found_map n b why pages)) (sym step.place);
  unread = λ u. risen before then now le (step.seen.unread u);
}

-- an entry wasn't read
pub wrong_entry : (content : Option Content) (pages before then now : ℕ) (old new : Chain) (s : StandsAt content old) (m at i b : ℕ) (why : BlockFault) (page : List ℕ) → before ≤ then → StepsTo old.first content then now s.history old.walker new.walker (visit.Entry m at i b (Err why)) page → Gives content pages before now old new page (Wrong (finding.Entry (record { map = m; at = at; entry = i }) why))
wrong_entry content pages before then now old new s m at i b why page le step = record {
  history = s.history;
  name = page_at b (Err why);
  read = s.read;
  next = step.seen.next;
  page = tt;
  wrong = placed m at i (maps_in s.history) (newest_map s.history) (511 - left_in s.history) step.place.0 step.place.1 step.place.2;
  unread = λ u. risen before then now le (step.seen.unread u);
} where
  placed : (m at i n bt j : ℕ) → m ≡ n → at ≡ bt → i ≡ j → Some (finding.Entry (record { map = n; at = bt; entry = j }) why) ≡ Some (finding.Entry (record { map = m; at = at; entry = i }) why)
  placed m at i n bt j e f g = cc
