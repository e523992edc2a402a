-- A loop that has come to the end of a history, and has printed the runs of its blocks that have ended.
use Rattle.std.proofs.Common.{◌≡◌, ℕ, ◌+◌, ◌-◌, ◌<◌, ◌≤◌, List, [], ◌∷◌, ◌++◌, length, map, Bool, true, false, cond, leb, Option, Some, None, Ok, Err, refl, sym, ap, ◌∙◌, subst, inl, inr, arith, append-nil, append_assoc, length-append}
use Rattle.std.proofs.lemmas.Bool.{cases_lt, le-leb}
use Rattle.std.proofs.lemmas.List.{map-append, nil_from_length, take_at}
use Rattle.definitions.specs.Disk.{Content}
use Rattle.definitions.specs.FreeRuns.{runs_of}
use Rattle.image_walk.specs.Names.{Name, map_at, page_at, block_of, fault_of, maps_in, AreReadFrom, IsAnswer, IsReading}
use Rattle.image_walk.specs.Walking.{IsSeen}
use Rattle.image_walk.specs.declared.limits.Limits.{Limits}
use Rattle.image_walk.specs.declared.visit.BlockFault.{BlockFault}
use Rattle.image_walk.specs.declared.visit.BlockFault.TheVariants as fault
use Rattle.image_show.specs.Reads.{block_of_part, name_of_part, IsPart, Reads, ReadsOn}
use Rattle.image_show.specs.Runs.{end_of, list_of, IsUpTo}
use Rattle.image_show.specs.Told.{blocks_in, block_run, facts_of_first, pages_in, AreTold, IsEnd}
use Rattle.image_show.specs.declared.facts.fact.Fact.{Fact}
use Rattle.image_show.specs.declared.facts.fact.Fact.TheVariants as fact
use Rattle.image_show.specs.declared.facts.part.Part.{Part}
use Rattle.image_show.specs.declared.facts.part.Part.TheVariants as part
use Rattle.image_show.specs.declared.facts.reading.Reading.{Reading}
use Rattle.image_show.specs.Parts.{maps_after, part_facts}
use Rattle.image_show.specs.Shown.{but_last, block_facts, ShowsBlocks}
use Rattle.image_show.specs.Forms.{Puts, PutsFront, Style, Written}
use Rattle.image_show.proofs.Putting.{front_then, puts_none, whole_then}

false_true : false ≡ true → ⊥
false_true e = cc

-- a block that was read is one of the file's

ok_err : {x : List ℕ} {why : BlockFault} → Ok x ≡ Err why → ⊥
ok_err e = cc

not_beyond : (z y : Bool) (rest : Option BlockFault) (b : ℕ) (page : List ℕ) → y ≡ true → IsAnswer (cond z (Some fault.Zero) (cond y (Some (fault.BeyondFile b)) rest)) b (Ok page) → ⊥
not_beyond true y rest b page e a = ok_err a
not_beyond false true rest b page e a = ok_err a
not_beyond false false rest b page e a = false_true e

below : (l : Limits) (h : List Name) (b : ℕ) (page : List ℕ) → IsAnswer (fault_of l h b) b (Ok page) → b < l.blocks
below l h b page a = elim (cases_lt b l.blocks) [
  | inl lt ↦ lt
  | inr ge ↦ absurd (not_beyond _ (leb l.blocks b) _ b page (le-leb l.blocks b ge) a)
]

pub read_below : (l : Limits) (first : ℕ) (content : Option Content) (before now : ℕ) (h : List Name) (p : Part) (page : List ℕ) → IsSeen l first content before now h (name_of_part p page) → block_of_part p < l.blocks
read_below l first content before now h (part.Map m b) page s = below l h b page s.next.3
read_below l first content before now h (part.Info b) page s = below l h b page s.next.2
read_below l first content before now h (part.Page b) page s = below l h b page s.next.2

pub same_block : (p : Part) (page : List ℕ) → block_of (name_of_part p page) ≡ block_of_part p
same_block (part.Map m b) page = refl
same_block (part.Info b) page = refl
same_block (part.Page b) page = refl

-- the end of a reading that began earlier
pub end_earlier : (l : Limits) (first : ℕ) (content : Option Content) (before then now : ℕ) (h : List Name) → before ≤ then → IsEnd l first content then now h → IsEnd l first content before now h
end_earlier l first content before then now h le (x, (seen, told)) = (
  x,
  (
    record {
      next = seen.next;
      page = seen.page;
      unread = λ e. elim (seen.unread e) [ inl lt ↦ inl (omega arith) | inr last ↦ inr last ];
    },
    told,
  ),
)

-- Runs that have ended.

pub all_but_last : (numbers : List ℕ) (last : Option (ℕ × ℕ)) (ended : List (ℕ × ℕ)) → IsUpTo numbers last ended → but_last (runs_of numbers) ≡ ended
all_but_last numbers None ended u =
    let none : runs_of numbers ≡ [] = u.runs ∙ append-nil ended ∙ u.begun refl in
    ap but_last none ∙ sym (u.begun refl)
all_but_last numbers (Some run) ended u =
    let size : length ended ≡ length (ended ++ run ∷ []) - 1 = omega (arith, length-append ended (run ∷ [])) in
    ap but_last u.runs ∙ take_at ended (run ∷ []) (length (ended ++ run ∷ []) - 1) size

pages_some : (ps : List (List ℕ)) (page : List ℕ) → ps ++ page ∷ [] ≡ [] → ⊥
pages_some ps page e = let none : length (ps ++ page ∷ []) ≡ 0 = ap length e in omega (arith, none, length-append ps (page ∷ []))

-- before the info page there is no more than the first map
few_names : (l : Limits) (first : ℕ) (h : List Name) → IsReading l first h → AreTold h → pages_in h ≡ [] → length h ≤ 1
few_names l first [] r t none = omega arith
few_names l first (map_at b (Err why) ∷ h) r t none = absurd (false_true t.1)
few_names l first (page_at b (Ok page) ∷ h) r t none = absurd (pages_some (pages_in h) page none)
few_names l first (page_at b (Err why) ∷ h) r t none = absurd (false_true t.1)
few_names l first (map_at b (Ok page) ∷ []) r t none = omega arith
few_names l first (map_at b (Ok page) ∷ map_at c (Ok other) ∷ h) r t none = absurd (let left : 511 ≡ 0 = r.1.0 in omega (arith, left))
few_names l first (map_at b (Ok page) ∷ map_at c (Err why) ∷ h) r t none = absurd (false_true t.0.1)
few_names l first (map_at b (Ok page) ∷ page_at c (Ok other) ∷ h) r t none = absurd (pages_some (pages_in h) other none)
few_names l first (map_at b (Ok page) ∷ page_at c (Err why) ∷ h) r t none = absurd (false_true t.0.1)

one_run : (runs ended : List (ℕ × ℕ)) (run : ℕ × ℕ) → length runs ≤ 1 → runs ≡ ended ++ run ∷ [] → ended ≡ []
one_run runs ended run few e =
    let size : length runs ≡ length (ended ++ run ∷ []) = ap length e in
    nil_from_length ended (omega (arith, size, few, length-append ended (run ∷ [])))

few_runs : (h : List Name) → length h ≤ 1 → length (runs_of (blocks_in h)) ≤ 1
unfolding runs_of
few_runs [] le = omega arith
few_runs (x ∷ []) le = omega arith
few_runs (x ∷ y ∷ h) le = absurd (omega arith)

none_ended : (h : List Name) (last : Option (ℕ × ℕ)) (ended : List (ℕ × ℕ)) → length h ≤ 1 → IsUpTo (blocks_in h) last ended → ended ≡ []
none_ended h None ended le u = u.begun refl
none_ended h (Some run) ended le u = one_run (runs_of (blocks_in h)) ended run (few_runs h le) u.runs

-- What a part adds.

more_runs : (facts : List Fact) (ended runs : List (ℕ × ℕ)) → facts ++ map block_run (ended ++ runs) ≡ (facts ++ map block_run ended) ++ map block_run runs
more_runs facts ended runs =
    ap (λ (fs : List Fact). facts ++ fs) (map-append block_run ended runs) ∙ sym (append_assoc facts (map block_run ended) (map block_run runs))

same_first : (ps : List (List ℕ)) (page : List ℕ) → 0 < length ps → facts_of_first (ps ++ page ∷ []) ≡ facts_of_first ps
same_first [] page lt = absurd (omega arith)
same_first (info ∷ rest) page lt = refl

part_more : (h : List Name) (p : Part) (page : List ℕ) (ended : List (ℕ × ℕ)) (e : Option (ℕ × ℕ)) → IsPart h p → (pages_in h ≡ [] → ended ≡ [])
    → facts_of_first (pages_in (name_of_part p page ∷ h)) ++ map block_run (ended ++ list_of e) ≡ (facts_of_first (pages_in h) ++ map block_run ended) ++ part_facts p page e
part_more h (part.Map m b) page ended e place none = more_runs (facts_of_first (pages_in h)) ended (list_of e)
part_more h (part.Info b) page ended e place none =
    let empty : ended ≡ [] = none place in
    ap (λ (ps : List (List ℕ)). facts_of_first (ps ++ page ∷ []) ++ map block_run (ended ++ list_of e)) place
    ∙ ap (λ (rs : List (ℕ × ℕ)). facts_of_first (page ∷ []) ++ map block_run (rs ++ list_of e)) empty
    ∙ ap (λ (rs : List (ℕ × ℕ)). map block_run rs ++ part_facts (part.Info b) page e) (sym empty)
    ∙ ap (λ (ps : List (List ℕ)). (facts_of_first ps ++ map block_run ended) ++ part_facts (part.Info b) page e) (sym place)
part_more h (part.Page b) page ended e place none =
    ap (λ (fs : List Fact). fs ++ map block_run (ended ++ list_of e)) (same_first (pages_in h) page place)
    ∙ more_runs (facts_of_first (pages_in h)) ended (list_of e)

counted_more : (h : List Name) (p : Part) (page : List ℕ) (maps : ℕ) → IsPart h p → maps ≡ maps_in h → maps_after maps p ≡ maps_in (name_of_part p page ∷ h)
counted_more h (part.Map m b) page maps place e = place
counted_more h (part.Info b) page maps place e = e
counted_more h (part.Page b) page maps place e = e

pub record BlocksSoFar (style : Style) (l : Limits) (first : ℕ) (content : Option Content) (before now : ℕ) (old new : Written) (r : Reading) (last : Option (ℕ × ℕ)) (maps : ℕ) : Type 0 where
  pub names : List Name
  pub limits : r.walker.limits ≡ l
  pub few : l.blocks < 4294967296
  pub rises : before ≤ now
  pub reads : Reads first r names
  pub pages : AreReadFrom content names
  pub ended : List (ℕ × ℕ)
  pub runs : IsUpTo (blocks_in names) last ended
  pub room : end_of last ≤ 4294967296
  pub counted : maps ≡ maps_in names
  pub taken : Puts style (facts_of_first (pages_in names) ++ map block_run ended) old new

none_last : (last : Option (ℕ × ℕ)) → IsUpTo [] last [] → last ≡ None
unfolding runs_of
none_last None u = refl
none_last (Some run) u = absurd (let size : 0 ≡ 1 = ap length u.runs in omega (arith, size))

pub blocks_start : (style : Style) (first : ℕ) (content : Option Content) (before : ℕ) (old : Written) (r : Reading) (last : Option (ℕ × ℕ)) → r.walker.limits.blocks < 4294967296 → Reads first r [] → IsUpTo [] last [] → BlocksSoFar style r.walker.limits first content before before old old r last 0
blocks_start style first content before old r last few reads runs = record {
  names = [];
  limits = refl;
  few = few;
  rises = omega arith;
  reads = reads;
  pages = tt;
  ended = [];
  runs = runs;
  room = let e : end_of last ≡ 0 = ap end_of (none_last last runs) in omega (arith, e);
  counted = refl;
  taken = puts_none style old;
}

abbrev pub Adds : Option (ℕ × ℕ) → ℕ → Option (ℕ × ℕ) → Option (ℕ × ℕ) → Type 0
Adds old n new e = (numbers : List ℕ) (ended : List (ℕ × ℕ)) → IsUpTo numbers old ended → IsUpTo (numbers ++ n ∷ []) new (ended ++ list_of e)

module _ (style : Style) (l : Limits) (first : ℕ) (content : Option Content) (before then now : ℕ) (old mid new : Written) (r s : Reading) (last next e : Option (ℕ × ℕ)) (maps : ℕ) (p : Part) (page : List ℕ) where
  upto : (b : BlocksSoFar style l first content before then old mid r last maps) → Adds last (block_of_part p) next e → IsUpTo (blocks_in (name_of_part p page ∷ b.names)) next (b.ended ++ list_of e)
  upto b adds =
      subst (λ n. IsUpTo (blocks_in b.names ++ n ∷ []) next (b.ended ++ list_of e)) (sym (same_block p page)) (adds (blocks_in b.names) b.ended b.runs)

  text : (b : BlocksSoFar style l first content before then old mid r last maps) → ReadsOn first content then now b.names r s p page
      → facts_of_first (pages_in (name_of_part p page ∷ b.names)) ++ map block_run (b.ended ++ list_of e) ≡ (facts_of_first (pages_in b.names) ++ map block_run b.ended) ++ part_facts p page e
  text b on = part_more b.names p page b.ended e on.place
      (λ none. none_ended b.names last b.ended (few_names r.walker.limits first b.names b.reads.follows.reading b.reads.told none) b.runs)

  pub blocks_more : (b : BlocksSoFar style l first content before then old mid r last maps) → then ≤ now → s.walker.limits ≡ r.walker.limits → ReadsOn first content then now b.names r s p page → Adds last (block_of_part p) next e → end_of next ≡ block_of_part p + 1
      → Puts style (part_facts p page e) mid new → BlocksSoFar style l first content before now old new s next (maps_after maps p)
  blocks_more b le limits on adds end takes = record {
    names = name_of_part p page ∷ b.names;
    limits = limits ∙ b.limits;
    few = b.few;
    rises = omega (arith, b.rises);
    reads = on.reads;
    pages = (b.pages, on.seen.page);
    ended = b.ended ++ list_of e;
    runs = upto b adds;
    room =
        let lt = read_below r.walker.limits first content then now b.names p page on.seen in
        let same : r.walker.limits.blocks ≡ l.blocks = ap (λ (x : Limits). x.blocks) b.limits in
        omega (arith, lt, same, b.few, end);
    counted = counted_more b.names p page maps on.place b.counted;
    taken = subst (λ (fs : List Fact). Puts style fs old new) (sym (text b on))
        (whole_then style (facts_of_first (pages_in b.names) ++ map block_run b.ended) (part_facts p page e) old mid new b.taken takes);
  }

  -- a write has failed
  pub blocks_cut : (b : BlocksSoFar style l first content before then old mid r last maps) → s.walker.limits ≡ r.walker.limits → ReadsOn first content then now b.names r s p page → Adds last (block_of_part p) next e
      → PutsFront style (part_facts p page e) mid new → (facts : List Fact) × (ShowsBlocks false l first content before now facts × PutsFront style facts old new)
  blocks_cut b limits on adds takes =
      let names : List Name = name_of_part p page ∷ b.names in
      let all : facts_of_first (pages_in names) ++ map block_run (b.ended ++ list_of e) ≡ block_facts false names =
      ap (λ (rs : List (ℕ × ℕ)). facts_of_first (pages_in names) ++ map block_run rs) (sym (all_but_last (blocks_in names) next (b.ended ++ list_of e) (upto b adds))) in (
        block_facts false names,
        (
          record {
            names = names;
            front = record {
              reading = subst (λ (x : Limits). IsReading x first names) (limits ∙ b.limits) on.reads.follows.reading;
              told = on.reads.told;
              pages = (b.pages, on.seen.page);
            };
            end = λ f. absurd (false_true f);
            says = refl;
          },
          subst (λ (fs : List Fact). PutsFront style fs old new) (sym (text b on) ∙ all)
              (front_then style (facts_of_first (pages_in b.names) ++ map block_run b.ended) (part_facts p page e) old mid new b.taken takes),
        ),
      )

module _ (style : Style) (l : Limits) (first : ℕ) (content : Option Content) (before then now : ℕ) (old mid : Written) (r : Reading) (last : Option (ℕ × ℕ)) (maps : ℕ) where
  shows_all : (b : BlocksSoFar style l first content before then old mid r last maps) → IsEnd r.walker.limits first content then now b.names → ShowsBlocks true l first content before now (block_facts true b.names)
  shows_all b end = record {
    names = b.names;
    front = record {
      reading = subst (λ (x : Limits). IsReading x first b.names) b.limits b.reads.follows.reading;
      told = b.reads.told;
      pages = b.pages;
    };
    end = λ e. subst (λ (x : Limits). IsEnd x first content before now b.names) b.limits (end_earlier r.walker.limits first content before then now b.names b.rises end);
    says = refl;
  }

  text_at_end : (b : BlocksSoFar style l first content before then old mid r last maps)
      → (facts_of_first (pages_in b.names) ++ map block_run b.ended) ++ (map block_run (list_of last) ++ fact.Maps maps ∷ []) ≡ block_facts true b.names
  text_at_end b =
      let first_facts : List Fact = facts_of_first (pages_in b.names) in
      append_assoc first_facts (map block_run b.ended) (map block_run (list_of last) ++ fact.Maps maps ∷ [])
      ∙ ap (λ (fs : List Fact). first_facts ++ fs) (
      sym (append_assoc (map block_run b.ended) (map block_run (list_of last)) (fact.Maps maps ∷ []))
      ∙ ap (λ (fs : List Fact). fs ++ fact.Maps maps ∷ []) (sym (map-append block_run b.ended (list_of last)) ∙ ap (map block_run) (sym b.runs.runs))
      ∙ ap (λ n. map block_run (runs_of (blocks_in b.names)) ++ fact.Maps n ∷ []) b.counted
      )

  pub blocks_whole : (new : Written) (b : BlocksSoFar style l first content before then old mid r last maps) → IsEnd r.walker.limits first content then now b.names → Puts style (map block_run (list_of last) ++ fact.Maps maps ∷ []) mid new
      → (facts : List Fact) × (ShowsBlocks true l first content before now facts × Puts style facts old new)
  blocks_whole new b end takes = (
    block_facts true b.names,
    (
      shows_all b end,
      subst (λ (fs : List Fact). Puts style fs old new) (text_at_end b)
          (whole_then style (facts_of_first (pages_in b.names) ++ map block_run b.ended) (map block_run (list_of last) ++ fact.Maps maps ∷ []) old mid new b.taken takes),
    ),
  )

  pub blocks_end_cut : (new : Written) (b : BlocksSoFar style l first content before then old mid r last maps) → IsEnd r.walker.limits first content then now b.names → PutsFront style (map block_run (list_of last) ++ fact.Maps maps ∷ []) mid new
      → (whole : Bool) × ((facts : List Fact) × (ShowsBlocks whole l first content before now facts × PutsFront style facts old new))
  blocks_end_cut new b end takes = (
    true,
    (
      block_facts true b.names,
      (
        shows_all b end,
        subst (λ (fs : List Fact). PutsFront style fs old new) (text_at_end b)
            (front_then style (facts_of_first (pages_in b.names) ++ map block_run b.ended) (map block_run (list_of last) ++ fact.Maps maps ∷ []) old mid new b.taken takes),
      ),
    ),
  )
