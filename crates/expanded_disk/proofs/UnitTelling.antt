-- What is told of a unit.
use Rattle.std.proofs.Common.{◌≡◌, ℕ, ◌+◌, ◌-◌, ◌*◌, Bool, true, false, cond, List, ◌++◌, length, take, drop, Option, None, Some, IfSome, refl, sym, ap, ap₂, subst, ◌∙◌, inl, inr, arith}
use Rattle.definitions.specs.Bytes.{word}
use Rattle.definitions.specs.Disk.{Content, DiskImage, as_it_reads}
use Rattle.compression.specs.Expansion.{Outcome, expansion}
use Rattle.image_walk.specs.declared.limits.Limits.{Limits}
use Rattle.image_walk.specs.Names.{Name}
use Rattle.image_check.specs.declared.finding.Finding.{Finding}
use Rattle.image_check.specs.declared.finding.Finding.TheVariants as finding
use Rattle.image_check.specs.declared.finding.Place.{Place}
use Rattle.expanded_disk.specs.Chains.{IsNextPage, IsSameChain, StandsAt}
use Rattle.expanded_disk.specs.Names.{HasRead, IsNameFault, chain_of, place_in}
use Rattle.expanded_disk.specs.Units.{bytes_from, is_length, length_at, outcome_of, pages_with, size_of, start_of, stream_fault, unit_fault}
use Rattle.expanded_disk.specs.Faults.{FillSays, IsExpanded, StandsBefore, UnitSays, pages_before}
use Rattle.expanded_disk.specs.declared.units.chain.Chain.{Chain}
use Rattle.expanded_disk.proofs.UnitSteps.{faulty_length, no_fault, outcome-packed, pages-packed, start_of-next, unread_behind, unread_first}

-- a fault told by a later place of the same chain
fault_along : (content : Option Content) (old new : Chain) (k pages before now : ℕ) (f : Finding) → IsSameChain old new → IsNameFault new.walker.limits new.first content k pages before now f → IsNameFault old.walker.limits old.first content k pages before now f
fault_along content old new k pages before now f same fault =
    subst (λ (l : Limits). IsNameFault l old.first content k pages before now f) same.limits
    (subst (λ (n : ℕ). IsNameFault new.walker.limits n content k pages before now f) same.first fault)

read_along : (content : Option Content) (old new : Chain) (k : ℕ) (h : List Name) → IsSameChain old new → HasRead new.walker.limits new.first content k h → HasRead old.walker.limits old.first content k h
read_along content old new k h same r =
    subst (λ (l : Limits). HasRead l old.first content k h) same.limits
    (subst (λ (n : ℕ). HasRead new.walker.limits n content k h) same.first r)

pub says_unread : (content : Option Content) (pages unit before now : ℕ) (old new : Chain) (bytes : List ℕ) (f : Finding) → StandsBefore content unit old → IsNameFault old.walker.limits old.first content old.count pages before now f → UnitSays content pages unit before now old new bytes (Some f)
says_unread content pages unit before now old new bytes f at fault =
    inl (unread_first old.walker.limits old.first content pages unit before now old.count f fault at)

only_page : (content : Option Content) (c : Chain) (page : List ℕ) (place : Place) → IsNextPage content c page place → IfSome content (λ held. page ≡ chain_of (as_it_reads held) c.first c.count)
only_page None c page place next = tt
only_page (Some held) c page place next = next.0

pub says_unread_behind : (content : Option Content) (pages unit before now : ℕ) (old mid new : Chain) (page : List ℕ) (place : Place) (bytes packed filled : List ℕ) (f : Finding) → StandsBefore content unit old → IsSameChain old mid → mid.count ≡ old.count + 1 → IsNextPage content old page place → is_length (word page 0) ≡ true → FillSays content pages (pages_with (word page 0) - 1) before now mid new packed filled (Some f) → UnitSays content pages unit before now old new bytes (Some f)
says_unread_behind content pages unit before now old mid new page place bytes packed filled f at same count next len (i, lt, fault) =
    inl (unread_behind old.walker.limits old.first content pages unit before now old.count i page f
    (subst (λ (k : ℕ). IsNameFault old.walker.limits old.first content (k + i) pages before now f) count (fault_along content old mid (mid.count + i) pages before now f same fault))
    lt len at (only_page content old page place next))

pub says_length : (content : Option Content) (pages unit before now : ℕ) (old new : Chain) (page : List ℕ) (place : Place) (bytes : List ℕ) → StandsBefore content unit old → IsSameChain old new → StandsAt content new → new.count ≡ old.count + 1 → IsNextPage content old page place → is_length (word page 0) ≡ false → UnitSays content pages unit before now old new bytes (Some (finding.UnitLength (unit + 1) place (word page 0)))
says_length content pages unit before now old new page place bytes at same stands count next none =
    inr (faulty_length old.walker.limits old.first content pages unit old.count stands.history page place
    (subst (λ (k : ℕ). HasRead old.walker.limits old.first content k stands.history) count (read_along content old new new.count stands.history same stands.read))
    none at next)

-- the pages of a unit that was read, put together
record IsPacked (v : DiskImage) (first pages unit count : ℕ) (page filled : List ℕ) (behind : ℕ) : Type 0 where
  len : is_length (length_at (chain_of v first) (start_of (chain_of v first) unit)) ≡ true
  same : word page 0 ≡ length_at (chain_of v first) (start_of (chain_of v first) unit)
  outcome : expansion (size_of pages unit) (take (word page 0) (drop 8 filled)) ≡ outcome_of (chain_of v first) pages unit
  next : behind ≡ start_of (chain_of v first) (unit + 1)

packed : (v : DiskImage) (first pages unit count mid now : ℕ) (page before filled : List ℕ) → count ≡ start_of (chain_of v first) unit → page ≡ chain_of v first count → is_length (word page 0) ≡ true → take 4096 before ≡ page → mid ≡ count + 1 → now ≡ mid + (pages_with (word page 0) - 1) → take (4096 * (pages_with (word page 0) - 1 + 1)) filled ≡ take 4096 before ++ bytes_from (chain_of v first) mid (pages_with (word page 0) - 1) → IsPacked v first pages unit count page filled now
packed v first pages unit count mid now page before filled at is len put one behind rest =
    let chain = chain_of v first in
    let k = start_of chain unit in
    let n = pages_with (word page 0) in
    let same : word page 0 ≡ length_at chain k = ap (λ (p : List ℕ). word p 0) is ∙ ap (length_at chain) at in
    let more : n ≡ pages_with (length_at chain k) = ap pages_with same in
    let some : n - 1 + 1 ≡ n = omega arith in
    let here : mid ≡ count + 1 = one in
    let whole : take (4096 * (n - 1 + 1)) filled ≡ bytes_from chain count (n - 1 + 1) =
    pages-packed chain count (n - 1) page before filled put is (rest ∙ ap (λ (m : ℕ). take 4096 before ++ bytes_from chain m (n - 1)) one) in
    let all : take (4096 * pages_with (length_at chain k)) filled ≡ bytes_from chain k (pages_with (length_at chain k)) =
    ap (λ (m : ℕ). take (4096 * m) filled) (sym (some ∙ more)) ∙ whole ∙ ap₂ (λ (a b : ℕ). bytes_from chain a b) at (some ∙ more) in
    record {
      len = ap is_length (sym same) ∙ len;
      same = same;
      outcome = ap (λ (m : ℕ). expansion (size_of pages unit) (take m (drop 8 filled))) same ∙ outcome-packed chain pages unit k filled refl all;
      next = omega (arith, behind, one, at, more, some, start_of-next chain unit);
    }

of_length : (t : Bool) (a b : Option Finding) → t ≡ true → cond t a b ≡ a
of_length t a b e = ap (λ (u : Bool). cond u a b) e

of_count : (t : Bool) (a b : ℕ) → t ≡ true → cond t a b ≡ a
of_count t a b e = ap (λ (u : Bool). cond u a b) e

whole_unit : (v : DiskImage) (first pages unit count : ℕ) (page filled bytes : List ℕ) (behind : ℕ) → IsPacked v first pages unit count page filled behind → (let all = expansion (size_of pages unit) (take (word page 0) (drop 8 filled)) in (stream_fault (unit + 1) (size_of pages unit) (length all.written) all.fault ≡ None) → take (length all.written) bytes ≡ all.written → IsExpanded v first pages unit bytes)
whole_unit v first pages unit count page filled bytes behind p fine took =
    let chain = chain_of v first in
    let all = expansion (size_of pages unit) (take (word page 0) (drop 8 filled)) in
    let none = no_fault (unit + 1) (size_of pages unit) (length all.written) all.fault fine in
    record {
      whole = record {
        len = p.len;
        fault = ap (λ (o : Outcome). o.fault) (sym p.outcome) ∙ none.0;
        size = ap (λ (o : Outcome). length o.written) (sym p.outcome) ∙ none.1;
      };
      bytes_are = ap (λ (n : ℕ). take n bytes) (sym none.1) ∙ took ∙ ap (λ (o : Outcome). o.written) p.outcome;
    }

faulty_unit : (v : DiskImage) (first pages unit count : ℕ) (page filled : List ℕ) (behind : ℕ) (f : Finding) → IsPacked v first pages unit count page filled behind → (let all = expansion (size_of pages unit) (take (word page 0) (drop 8 filled)) in (stream_fault (unit + 1) (size_of pages unit) (length all.written) all.fault ≡ Some f) → (unit_fault (chain_of v first) (place_in v first) pages unit ≡ Some f) × (behind ≡ pages_before (chain_of v first) unit))
faulty_unit v first pages unit count page filled behind f p wrong =
    let chain = chain_of v first in (
      of_length _ _ _ p.len ∙ ap (λ (o : Outcome). stream_fault (unit + 1) (size_of pages unit) (length o.written) o.fault) (sym p.outcome) ∙ wrong,
      p.next ∙ sym (of_count _ _ _ p.len),
    )

pub says_expanded : (content : Option Content) (pages unit before now : ℕ) (old mid new : Chain) (page : List ℕ) (place : Place) (bytes start filled : List ℕ) (o : Option Finding) → StandsBefore content unit old → IsSameChain old mid → IsSameChain mid new → mid.count ≡ old.count + 1 → IsNextPage content old page place → is_length (word page 0) ≡ true → take 4096 start ≡ page → FillSays content pages (pages_with (word page 0) - 1) before now mid new start filled None → (let all = expansion (size_of pages unit) (take (word page 0) (drop 8 filled)) in o ≡ stream_fault (unit + 1) (size_of pages unit) (length all.written) all.fault → take (length all.written) bytes ≡ all.written → UnitSays content pages unit before now old new bytes o)
says_expanded None pages unit before now old mid new page place bytes start filled None at first second one next len put (stands, count, rest) is took = (stands, tt, tt)
says_expanded None pages unit before now old mid new page place bytes start filled (Some f) at first second one next len put (stands, count, rest) is took =
    inr (record {
      count = new.count;
      history = stands.history;
      read = read_along None old mid new.count stands.history first (read_along None mid new new.count stands.history second stands.read);
      fault = tt;
    })
says_expanded (Some held) pages unit before now old mid new page place bytes start filled None at first second one next len put (stands, count, rest) is took =
    let v = as_it_reads held in
    let p = packed v old.first pages unit old.count mid.count new.count page start filled at next.0 len put one count
    (subst (λ (n : ℕ). take (4096 * (pages_with (word page 0) - 1 + 1)) filled ≡ take 4096 start ++ bytes_from (chain_of v n) mid.count (pages_with (word page 0) - 1)) first.first rest) in (
      stands,
      p.next ∙ ap (λ (n : ℕ). start_of (chain_of v n) (unit + 1)) (sym (second.first ∙ first.first)),
      whole_unit v old.first pages unit old.count page filled bytes new.count p (sym is) took,
    )
says_expanded (Some held) pages unit before now old mid new page place bytes start filled (Some f) at first second one next len put (stands, count, rest) is took =
    let v = as_it_reads held in
    let p = packed v old.first pages unit old.count mid.count new.count page start filled at next.0 len put one count
    (subst (λ (n : ℕ). take (4096 * (pages_with (word page 0) - 1 + 1)) filled ≡ take 4096 start ++ bytes_from (chain_of v n) mid.count (pages_with (word page 0) - 1)) first.first rest) in
    inr (record {
      count = new.count;
      history = stands.history;
      read = read_along (Some held) old mid new.count stands.history first (read_along (Some held) mid new new.count stands.history second stands.read);
      fault = faulty_unit v old.first pages unit old.count page filled new.count f p (sym is);
    })

-- a unit that was read, under the names that a call has for its size and length
pub expanded_by : (number size size' len len' : ℕ) (filled bytes : List ℕ) (o : Option Finding) → size ≡ size' → len ≡ len' → (let all = expansion size (take len (drop 8 filled)) in o ≡ stream_fault (number + 1) size (length all.written) all.fault) → (let all = expansion size (take len (drop 8 filled)) in take (length all.written) bytes ≡ all.written) → (let all = expansion size' (take len' (drop 8 filled)) in (o ≡ stream_fault (number + 1) size' (length all.written) all.fault) × (take (length all.written) bytes ≡ all.written))
expanded_by number size size' len len' filled bytes o e f is took =
    let at : ℕ → ℕ → Outcome = λ s l. expansion s (take l (drop 8 filled)) in (
      subst (λ (s : ℕ). o ≡ stream_fault (number + 1) s (length (at s len').written) (at s len').fault) e
          (subst (λ (l : ℕ). o ≡ stream_fault (number + 1) size (length (at size l).written) (at size l).fault) f is),
      subst (λ (s : ℕ). take (length (at s len').written) bytes ≡ (at s len').written) e
          (subst (λ (l : ℕ). take (length (at size l).written) bytes ≡ (at size l).written) f took),
    )

-- a chain that is read further
pub same_along : (old mid new : Chain) → IsSameChain old mid → IsSameChain mid new → IsSameChain old new
same_along old mid new first second = record { limits = second.limits ∙ first.limits; first = second.first ∙ first.first }

pub page_along : (content : Option Content) (old mid : Chain) (page : List ℕ) (place : Place) (i : ℕ) → IsSameChain old mid → mid.count ≡ old.count + i → IsNextPage content mid page place → IfSome content (λ held. page ≡ chain_of (as_it_reads held) old.first (old.count + i))
page_along None old mid page place i same count next = tt
page_along (Some held) old mid page place i same count next =
    next.0 ∙ ap₂ (λ (f k : ℕ). chain_of (as_it_reads held) f k) same.first count
