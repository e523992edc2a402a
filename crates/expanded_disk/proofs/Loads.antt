-- What the reading of a page of the expanded image gives, by the index.
use Rattle.std.proofs.lemmas.Bool.{false≢true}
use Rattle.std.proofs.Common.{◌≡◌, ℕ, zero, suc, ◌+◌, ◌-◌, ◌*◌, ◌/◌, ◌%◌, ◌<◌, ◌≤◌, true, false, List, ◌++◌, length, take, drop, Option, Some, None, IfSome, Result, Ok, Err, OnOk, OnErr, refl, sym, ap, subst, ◌∙◌, arith}
use Rattle.std.specs.Prelude.{slice_index}
use Rattle.std.specs.Option.{ForSome}
use Rattle.definitions.specs.Bytes.{word}
use Rattle.definitions.specs.Disk.{Content, as_it_reads}
use Rattle.compression.specs.Expansion.{Outcome, expansion, told}
use Rattle.compression.specs.declared.lzo.fault.LzoFault.{LzoFault}
use Rattle.expanded_disk.specs.Index.{IsIndexOf, first_of}
use Rattle.expanded_disk.specs.Names.{chain_of}
use Rattle.expanded_disk.specs.Units.{bytes_from, bytes_of, is_length, length_at, outcome_of, pages_with, size_of, start_of, units_of}
use Rattle.expanded_disk.specs.declared.units.index.Index.{Index}
use Rattle.expanded_disk.proofs.UnitSteps.{outcome-packed, pages-packed, start_of-next}
use Rattle.expanded_disk.specs.Keeps.{FailsBelow, HasIndex, IsJust}
use Rattle.expanded_disk.specs.Laid.{expanded_page}
use Rattle.expanded_disk.proofs.ExpandedReads.{page-info, page-of_unit}

abbrev pub IsIndexIn : Option Content → ℕ → Index → Type 0
IsIndexIn content blocks index = ForSome content (λ held. IsIndexOf blocks (as_it_reads held) index.first index.header index)

pub index_in : (content : Option Content) (blocks header : ℕ) (index : Index) → HasIndex content blocks header index → IsIndexIn content blocks index
index_in content blocks header index indexed = λ held tells.
    let v = as_it_reads held in
    let i = indexed held tells in
    subst (λ (f : ℕ). IsIndexOf blocks v f index.header index) (sym i.first_is)
    (subst (λ (h : List ℕ). IsIndexOf blocks v (first_of v header) h index) (sym i.header_is) i)

-- what holds of the content that is told
pub for_some : (P : Content → Type 0) (content : Option Content) → IfSome content P → ForSome content P
for_some P None h = λ held is. absurd (none_some held is) where
  none_some : (held : Content) → None ≡ Some held → ⊥
  none_some held is = cc
for_some P (Some x) h = λ held is. let e : x ≡ held = cc in subst P e h

-- a disk that doesn't tell its content may fail in any way
pub fails_none : (content : Option Content) (before now : ℕ) → content ≡ None → FailsBelow content before now
fails_none None before now is = λ tells. absurd (false≢true tells)
fails_none (Some held) before now is = λ tells. absurd (not_none is) where
  not_none : Some held ≡ None → ⊥
  not_none is = cc

pub on_err_map : {T E P Q : Type 0} (r : Result T E) → (P → Q) → OnErr r P → OnErr r Q
on_err_map (Ok x) f h = tt
on_err_map (Err e) f h = f h

pub on_ok_map : {T E P Q : Type 0} (r : Result T E) → (P → Q) → OnOk r P → OnOk r Q
on_ok_map (Ok x) f h = f h
on_ok_map (Err e) f h = tt

-- the map that has page k was read
pub none_past_maps : (content : Option Content) (blocks : ℕ) (index : Index) (k at : ℕ) → IsIndexIn content blocks index → ForSome content (λ held. k < start_of (chain_of (as_it_reads held) index.first) (units_of index.pages)) → at ≡ k / 511 → length index.maps.items ≤ at → content ≡ None
none_past_maps None blocks index k at indexed inside is past = refl
none_past_maps (Some held) blocks index k at indexed inside is past =
    let i = indexed held refl in
    let lt : k < start_of (chain_of (as_it_reads held) index.first) (units_of index.pages) = inside held refl in
    absurd (omega (arith, i.enough))

pub map_inside : (content : Option Content) (blocks : ℕ) (index : Index) (at b : ℕ) → IsIndexIn content blocks index → at < length index.maps.items → b ≡ slice_index index.maps.items at → ForSome content (λ held. b < blocks)
map_inside content blocks index at b indexed few is = for_some (λ held. b < blocks) content (inside content indexed) where
  inside : (content : Option Content) → IsIndexIn content blocks index → IfSome content (λ held. b < blocks)
  inside None indexed = tt
  inside (Some held) indexed =
      let i = indexed held refl in
      subst (λ (n : ℕ). n < blocks) (sym (is ∙ i.maps.maps_are at few)) (i.maps.maps_inside at few)

-- the units begin one after the other
start_of-later : (chain : ℕ → List ℕ) (j d : ℕ) → start_of chain j ≤ start_of chain (j + d)
start_of-later chain j zero = let e : j + zero ≡ j = omega arith in rw e (omega arith)
start_of-later chain j (suc d) =
    let e : j + suc d ≡ j + d + 1 = omega arith in
    rw e (omega (arith, start_of-later chain j d, start_of-next chain (j + d)))

start_of-before : (chain : ℕ → List ℕ) (j n : ℕ) → j ≤ n → start_of chain j ≤ start_of chain n
start_of-before chain j n le =
    let e : j + (n - j) ≡ n = omega arith in
    subst (λ (m : ℕ). start_of chain j ≤ start_of chain m) e (start_of-later chain j (n - j))

-- a unit ends before the next one, and in the chain
unit_inside : (chain : ℕ → List ℕ) (j n : ℕ) → j < n → start_of chain j + pages_with (length_at chain (start_of chain j)) ≤ start_of chain n
unit_inside chain j n lt = omega (arith, start_of-next chain j, start_of-before chain (j + 1) n (omega arith))

-- where a unit begins
abbrev pub StartsAt : Option Content → Index → (number start : ℕ) → Type 0
StartsAt content index number start = ForSome content (λ held. start ≡ start_of (chain_of (as_it_reads held) index.first) number)

abbrev pub BeginsWith : Option Content → Index → (start : ℕ) → List ℕ → Type 0
BeginsWith content index start page = ForSome content (λ held. page ≡ chain_of (as_it_reads held) index.first start)

abbrev pub IsInside : Option Content → Index → ℕ → Type 0
IsInside content index k = ForSome content (λ held. k < start_of (chain_of (as_it_reads held) index.first) (units_of index.pages))

pub none_past_starts : (content : Option Content) (blocks : ℕ) (index : Index) (number : ℕ) → IsIndexIn content blocks index → number < units_of index.pages → length index.starts.items ≤ number → content ≡ None
none_past_starts None blocks index number indexed few past = refl
none_past_starts (Some held) blocks index number indexed few past = absurd (omega (arith, (indexed held refl).starts_count))

pub starts_at : (content : Option Content) (blocks : ℕ) (index : Index) (number start : ℕ) → IsIndexIn content blocks index → number < units_of index.pages → start ≡ slice_index index.starts.items number → StartsAt content index number start
starts_at content blocks index number start indexed few is = λ held tells. is ∙ (indexed held tells).starts number (omega arith)

pub first_inside : (content : Option Content) (index : Index) (number start : ℕ) → number < units_of index.pages → StartsAt content index number start → IsInside content index start
first_inside content index number start few at = λ held tells.
    let chain = chain_of (as_it_reads held) index.first in
    let here : start ≡ start_of chain number = at held tells in
    omega (arith, unit_inside chain number (units_of index.pages) few)

same_length : (chain : ℕ → List ℕ) (number start len : ℕ) (page : List ℕ) → start ≡ start_of chain number → page ≡ chain start → len ≡ word page 0 → len ≡ length_at chain (start_of chain number)
same_length chain number start len page at first is = is ∙ ap (λ (p : List ℕ). word p 0) first ∙ ap (length_at chain) at

pub none_length : (content : Option Content) (blocks : ℕ) (index : Index) (number start len : ℕ) (page : List ℕ) → IsIndexIn content blocks index → number < units_of index.pages → StartsAt content index number start → BeginsWith content index start page → len ≡ word page 0 → is_length len ≡ false → content ≡ None
none_length None blocks index number start len page indexed few at first is no_length = refl
none_length (Some held) blocks index number start len page indexed few at first is no_length =
    let chain = chain_of (as_it_reads held) index.first in
    let is_one : is_length len ≡ true = ap is_length (same_length chain number start len page (at held refl) (first held refl) is) ∙ ((indexed held refl).units number few).len in
    cc

-- the pages after the first page of a unit
pub rest_inside : (content : Option Content) (index : Index) (number start len count : ℕ) (page : List ℕ) → number < units_of index.pages → StartsAt content index number start → BeginsWith content index start page → len ≡ word page 0 → 0 < count → count ≡ pages_with len → ForSome content (λ held. start + 1 + (count - 1) ≤ start_of (chain_of (as_it_reads held) index.first) (units_of index.pages))
rest_inside content index number start len count page few at first is some count_is = λ held tells.
    let chain = chain_of (as_it_reads held) index.first in
    let here : start ≡ start_of chain number = at held tells in
    let same : pages_with len ≡ pages_with (length_at chain (start_of chain number)) = ap pages_with (same_length chain number start len page here (first held tells) is) in
    omega (arith, unit_inside chain number (units_of index.pages) few)

-- the whole unit, put together
pub unit_packed : (chain : ℕ → List ℕ) (pages number start len count : ℕ) (page old put packed : List ℕ) → start ≡ start_of chain number → page ≡ chain start → len ≡ word page 0 → 0 < count → count ≡ pages_with len → take (4096 * 0 + 4096) put ≡ take (4096 * 0) old ++ page → take (4096 * (count - 1 + 1)) packed ≡ take 4096 put ++ bytes_from chain (start + 1) (count - 1) → expansion (size_of pages number) (take len (drop 8 packed)) ≡ outcome_of chain pages number
unit_packed chain pages number start len count page old put packed at first is some count_is added filled =
    let whole = pages-packed chain start (count - 1) page put packed added first filled in
    let same : len ≡ length_at chain start = is ∙ ap (λ (p : List ℕ). word p 0) first in
    let all : count - 1 + 1 ≡ pages_with (length_at chain start) = omega (arith, ap pages_with same) in
    ap (λ (n : ℕ). expansion (size_of pages number) (take n (drop 8 packed))) same
    ∙ outcome-packed chain pages number start packed at (subst (λ (n : ℕ). take (4096 * n) packed ≡ bytes_from chain start n) all whole)

abbrev pub IsPacked : Option Content → Index → (number len : ℕ) → List ℕ → Type 0
IsPacked content index number len packed = IfSome content (λ held. expansion (size_of index.pages number) (take len (drop 8 packed)) ≡ outcome_of (chain_of (as_it_reads held) index.first) index.pages number)

pub is_packed : (content : Option Content) (index : Index) (number start len count : ℕ) (page old put packed : List ℕ) → StartsAt content index number start → BeginsWith content index start page → len ≡ word page 0 → 0 < count → count ≡ pages_with len → take (4096 * 0 + 4096) put ≡ take (4096 * 0) old ++ page → IfSome content (λ held. take (4096 * (count - 1 + 1)) packed ≡ take 4096 put ++ bytes_from (chain_of (as_it_reads held) index.first) (start + 1) (count - 1)) → IsPacked content index number len packed
is_packed None index number start len count page old put packed at first is some count_is added filled = tt
is_packed (Some held) index number start len count page old put packed at first is some count_is added filled =
    unit_packed (chain_of (as_it_reads held) index.first) index.pages number start len count page old put packed (at held refl) (first held refl) is some count_is added filled

-- what the whole unit expands to
abbrev pub IsUnitOf : Option Content → (first pages number : ℕ) → List ℕ → Type 0
IsUnitOf content first pages number bytes = IfSome content (λ held. take (size_of pages number) bytes ≡ bytes_of (chain_of (as_it_reads held) first) pages number)

pub unit_expanded : (content : Option Content) (index : Index) (number len size : ℕ) (packed bytes : List ℕ) → size ≡ size_of index.pages number → IsPacked content index number len packed → take size bytes ≡ (expansion size (take len (drop 8 packed))).written → IsUnitOf content index.first index.pages number bytes
unit_expanded None index number len size packed bytes is all expanded = tt
unit_expanded (Some held) index number len size packed bytes is all expanded =
    subst (λ (n : ℕ). take n bytes ≡ (expansion n (take len (drop 8 packed))).written) is expanded ∙ ap (λ (o : Outcome). o.written) all

pub none_expanded : (content : Option Content) (blocks : ℕ) (index : Index) (number len size : ℕ) (packed : List ℕ) → IsIndexIn content blocks index → number < units_of index.pages → size ≡ size_of index.pages number → IsPacked content index number len packed → (IsJust size (expansion size (take len (drop 8 packed))) → ⊥) → content ≡ None
none_expanded None blocks index number len size packed indexed few is all other = refl
none_expanded (Some held) blocks index number len size packed indexed few is all other =
    let unit = (indexed held refl).units number few in
    let just : IsJust (size_of index.pages number) (expansion (size_of index.pages number) (take len (drop 8 packed))) = record {
      fault = ap (λ (o : Outcome). o.fault) all ∙ unit.fault;
      written = ap (λ (o : Outcome). length o.written) all ∙ unit.size;
    } in
    absurd (other (subst (λ (n : ℕ). IsJust n (expansion n (take len (drop 8 packed)))) (sym is) just))

-- a page of the expanded image
abbrev pub IsExpandedPage : Option Content → Index → ℕ → List ℕ → Type 0
IsExpandedPage content index k page = IfSome content (λ held. page ≡ expanded_page (chain_of (as_it_reads held) index.first) index.pages k)

pub info_read : (content : Option Content) (blocks : ℕ) (index : Index) (k : ℕ) (page : List ℕ) → IsIndexIn content blocks index → k ≡ 0 → page ≡ index.info → IsExpandedPage content index k page
info_read None blocks index k page indexed zero_k is = tt
info_read (Some held) blocks index k page indexed zero_k is =
    is ∙ (indexed held refl).info_is ∙ sym (page-info (chain_of (as_it_reads held) index.first) index.pages k zero_k)

pub unit_page : (content : Option Content) (index : Index) (k number : ℕ) (bytes page : List ℕ) → 0 < k → k < index.pages → number ≡ (k - 1) / 32 → IsUnitOf content index.first index.pages number bytes → page ≡ take 4096 (drop (4096 * ((k - 1) % 32)) bytes) → IsExpandedPage content index k page
unit_page None index k number bytes page some lt at is taken = tt
unit_page (Some held) index k number bytes page some lt at is taken =
    let chain = chain_of (as_it_reads held) index.first in
    let room : 4096 * ((k - 1) % 32) + 4096 ≤ size_of index.pages ((k - 1) / 32) = omega arith in
    taken
    ∙ page-of_unit chain index.pages k (size_of index.pages ((k - 1) / 32)) bytes some room
    (subst (λ (n : ℕ). take (size_of index.pages n) bytes ≡ bytes_of chain index.pages n) at is)

-- what an expansion returns
written_all : (w n : ℕ) (fault : Option LzoFault) → Ok w ≡ told n fault → n ≡ w
written_all w n None is = cc
written_all w n (Some why) is = cc

pub just_written : (w size : ℕ) (o : Outcome) (bytes : List ℕ) → Ok w ≡ told (length o.written) o.fault → w ≡ size → take (length o.written) bytes ≡ o.written → take size bytes ≡ o.written
just_written w size o bytes is same taken =
    subst (λ (n : ℕ). take n bytes ≡ o.written) (written_all w (length o.written) o.fault is ∙ same) taken

pub not_just : (w size : ℕ) (o : Outcome) → Ok w ≡ told (length o.written) o.fault → (w ≡ size → ⊥) → IsJust size o → ⊥
not_just w size o is other just = other (sym (written_all w (length o.written) o.fault is) ∙ just.written)

faulty : (why : LzoFault) (n : ℕ) → Err why ≡ Ok n → ⊥
faulty why n is = cc

pub not_just_err : (why : LzoFault) (size : ℕ) (o : Outcome) → Err why ≡ told (length o.written) o.fault → IsJust size o → ⊥
not_just_err why size o is just = faulty why (length o.written) (is ∙ ap (told (length o.written)) just.fault)
