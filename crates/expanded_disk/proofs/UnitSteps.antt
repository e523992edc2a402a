-- A unit that is read.
use Rattle.std.proofs.Common.{◌≡◌, ℕ, zero, suc, ◌+◌, ◌-◌, ◌*◌, ◌<◌, ◌≤◌, Bool, true, false, cond, List, [], ◌∷◌, ◌++◌, length, take, drop, map, Option, None, Some, IfSome, refl, sym, ap, ap₂, ◌∙◌, arith, add-one, append-nil, append_assoc, eqb}
use Rattle.std.proofs.lemmas.Bool.{eqb-true}
use Rattle.std.specs.List.{concat, range_with_len}
use Rattle.std.proofs.lemmas.List.{drop-take, take-take}
use Rattle.std.proofs.lemmas.List.Folds.{concat-append}
use Rattle.std.proofs.lemmas.List.FromFn.{map-range_with_len_more}
use Rattle.definitions.specs.Bytes.{word}
use Rattle.definitions.specs.Disk.{Content, as_it_reads}
use Rattle.compression.specs.Expansion.{expansion}
use Rattle.compression.specs.declared.lzo.fault.LzoFault.{LzoFault}
use Rattle.image_walk.specs.declared.limits.Limits.{Limits}
use Rattle.image_walk.specs.Names.{Name}
use Rattle.image_check.specs.declared.finding.Finding.{Finding}
use Rattle.image_check.specs.declared.finding.Finding.TheVariants as finding
use Rattle.image_check.specs.declared.finding.Place.{Place}
use Rattle.expanded_disk.specs.Names.{HasRead, IsNameFault, chain_of, place_in}
use Rattle.expanded_disk.specs.Units.{bytes_from, bytes_of, is_length, length_at, outcome_of, pages_with, size_of, start_of, stream_at, stream_fault, unit_fault}
use Rattle.expanded_disk.specs.Faults.{IsFaulty, IsUnread, IsWithin, pages_before}

-- the page after a unit
pub start_of-next : (chain : ℕ → List ℕ) (j : ℕ) → start_of chain (j + 1) ≡ start_of chain j + pages_with (length_at chain (start_of chain j))
unfolding start_of
start_of-next chain j = ap (start_of chain) (add-one j)

pub start_of-zero : (chain : ℕ → List ℕ) → start_of chain 0 ≡ 1
unfolding start_of
start_of-zero chain = refl

-- one page more
pub bytes_from-more : (chain : ℕ → List ℕ) (k n : ℕ) → bytes_from chain k (n + 1) ≡ bytes_from chain k n ++ chain (k + n)
bytes_from-more chain k n =
    ap concat (map-range_with_len_more chain k n (k + n) refl)
    ∙ concat-append (map chain (range_with_len k n)) (chain (k + n) ∷ [])
    ∙ ap (λ (x : List ℕ). bytes_from chain k n ++ x) (append-nil (chain (k + n)))

-- the first page, and those after it
pub bytes_from-first : (chain : ℕ → List ℕ) (k n : ℕ) → bytes_from chain k (n + 1) ≡ chain k ++ bytes_from chain (k + 1) n
bytes_from-first chain k zero = refl
bytes_from-first chain k (suc n) =
    let one : suc n ≡ n + 1 = omega arith in
    let last : k + (n + 1) ≡ k + 1 + n = omega arith in
    ap (λ (m : ℕ). bytes_from chain k (m + 1)) one
    ∙ bytes_from-more chain k (n + 1)
    ∙ ap₂ (λ (xs ys : List ℕ). xs ++ ys) (bytes_from-first chain k n) (ap chain last)
    ∙ append_assoc (chain k) (bytes_from chain (k + 1) n) (chain (k + 1 + n))
    ∙ ap (λ (x : List ℕ). chain k ++ x) (sym (bytes_from-more chain (k + 1) n))
    ∙ ap (λ (m : ℕ). chain k ++ bytes_from chain (k + 1) m) (sym one)

-- a page that isn't the unit's first
abbrev some_pages : (len : ℕ) → 0 < pages_with len
some_pages len = omega arith

pub unread_first : (l : Limits) (first : ℕ) (content : Option Content) (pages unit before now count : ℕ) (f : Finding) → IsNameFault l first content count pages before now f → IfSome content (λ held. count ≡ start_of (chain_of (as_it_reads held) first) unit) → IsUnread l first content pages unit before now f
unread_first l first content pages unit before now count f fault at = record { page = count; fault = fault; within = within content at } where
  within : (content : Option Content) → IfSome content (λ held. count ≡ start_of (chain_of (as_it_reads held) first) unit) → IfSome content (λ held. IsWithin (chain_of (as_it_reads held) first) unit count)
  within None at = tt
  within (Some held) at =
      let chain = chain_of (as_it_reads held) first in
      record {
        low = omega (arith, at);
        high = omega (arith, at, start_of-next chain unit, some_pages (length_at chain (start_of chain unit)));
        len = λ lt. absurd (omega (arith, at, lt));
      }

pub unread_behind : (l : Limits) (first : ℕ) (content : Option Content) (pages unit before now count i : ℕ) (page : List ℕ) (f : Finding) → IsNameFault l first content (count + 1 + i) pages before now f → i < pages_with (word page 0) - 1 → is_length (word page 0) ≡ true → IfSome content (λ held. count ≡ start_of (chain_of (as_it_reads held) first) unit) → IfSome content (λ held. page ≡ chain_of (as_it_reads held) first count) → IsUnread l first content pages unit before now f
unread_behind l first content pages unit before now count i page f fault few len at is = record { page = count + 1 + i; fault = fault; within = within content at is } where
  within : (content : Option Content) → IfSome content (λ held. count ≡ start_of (chain_of (as_it_reads held) first) unit) → IfSome content (λ held. page ≡ chain_of (as_it_reads held) first count) → IfSome content (λ held. IsWithin (chain_of (as_it_reads held) first) unit (count + 1 + i))
  within None at is = tt
  within (Some held) at is =
      let chain = chain_of (as_it_reads held) first in
      let same : word page 0 ≡ length_at chain (start_of chain unit) = ap (λ (p : List ℕ). word p 0) is ∙ ap (length_at chain) at in
      let more : pages_with (word page 0) ≡ pages_with (length_at chain (start_of chain unit)) = ap pages_with same in
      record {
        low = omega (arith, at);
        high = omega (arith, at, start_of-next chain unit, few, more);
        len = λ lt. ap is_length (sym same) ∙ len;
      }

-- the length in the first page of a unit is no length
pub faulty_length : (l : Limits) (first : ℕ) (content : Option Content) (pages unit count : ℕ) (h : List Name) (page : List ℕ) (place : Place) → HasRead l first content (count + 1) h → is_length (word page 0) ≡ false → IfSome content (λ held. count ≡ start_of (chain_of (as_it_reads held) first) unit) → IfSome content (λ held. (page ≡ chain_of (as_it_reads held) first count) × (place ≡ place_in (as_it_reads held) first count)) → IsFaulty l first content pages unit (finding.UnitLength (unit + 1) place (word page 0))
faulty_length l first content pages unit count h page place read none at is = record { count = count + 1; history = h; read = read; fault = fault content at is } where
  fault : (content : Option Content) → IfSome content (λ held. count ≡ start_of (chain_of (as_it_reads held) first) unit) → IfSome content (λ held. (page ≡ chain_of (as_it_reads held) first count) × (place ≡ place_in (as_it_reads held) first count)) → IfSome content (λ held. let v = as_it_reads held in (unit_fault (chain_of v first) (place_in v first) pages unit ≡ Some (finding.UnitLength (unit + 1) place (word page 0))) × (count + 1 ≡ pages_before (chain_of v first) unit))
  fault None at is = tt
  fault (Some held) at is =
      let v = as_it_reads held in
      let chain = chain_of v first in
      let same : word page 0 ≡ length_at chain (start_of chain unit) = ap (λ (p : List ℕ). word p 0) is.0 ∙ ap (length_at chain) at in
      let none_there : is_length (length_at chain (start_of chain unit)) ≡ false = ap is_length (sym same) ∙ none in
      let there : place ≡ place_in v first (start_of chain unit) = is.1 ∙ ap (place_in v first) at in (
        ap (λ (t : Bool). cond t (stream_fault (unit + 1) (size_of pages unit) (length (bytes_of chain pages unit)) (outcome_of chain pages unit).fault)
            (Some (finding.UnitLength (unit + 1) (place_in v first (start_of chain unit)) (length_at chain (start_of chain unit))))) none_there
            ∙ ap₂ (λ (p : Place) (n : ℕ). Some (finding.UnitLength (unit + 1) p n)) (sym there) (sym same),
        ap (λ (n : ℕ). n + 1) at ∙ ap (λ (t : Bool). cond t (start_of chain (unit + 1)) (start_of chain unit + 1)) (sym none_there),
      )

-- the stream in the pages that were put together
pub stream-packed : (chain : ℕ → List ℕ) (k : ℕ) (packed : List ℕ) → take (4096 * pages_with (length_at chain k)) packed ≡ bytes_from chain k (pages_with (length_at chain k)) → take (length_at chain k) (drop 8 packed) ≡ stream_at chain k
stream-packed chain k packed is =
    let len = length_at chain k in
    let room = 4096 * pages_with len - 8 in
    let fits : len ≤ room = omega arith in
    let whole : 8 + room ≡ 4096 * pages_with len = omega arith in
    sym (take-take len room (drop 8 packed) fits)
    ∙ ap (take len) (sym (drop-take 8 room packed) ∙ ap (λ (n : ℕ). drop 8 (take n packed)) whole ∙ ap (drop 8) is)

-- the whole unit: its pages are those of the first one and of those after it
pub pages-packed : (chain : ℕ → List ℕ) (k n : ℕ) (page before packed : List ℕ) → take 4096 before ≡ page → page ≡ chain k → take (4096 * (n + 1)) packed ≡ take 4096 before ++ bytes_from chain (k + 1) n → take (4096 * (n + 1)) packed ≡ bytes_from chain k (n + 1)
pages-packed chain k n page before packed first is rest =
    rest ∙ ap (λ (x : List ℕ). x ++ bytes_from chain (k + 1) n) (first ∙ is) ∙ sym (bytes_from-first chain k n)

-- what the whole unit expands to
pub outcome-packed : (chain : ℕ → List ℕ) (pages unit k : ℕ) (packed : List ℕ) → k ≡ start_of chain unit → take (4096 * pages_with (length_at chain k)) packed ≡ bytes_from chain k (pages_with (length_at chain k)) → expansion (size_of pages unit) (take (length_at chain k) (drop 8 packed)) ≡ outcome_of chain pages unit
unfolding outcome_of
outcome-packed chain pages unit k packed at is =
    ap (expansion (size_of pages unit)) (stream-packed chain k packed is ∙ ap (stream_at chain) at)

-- a stream without a fault
pub no_fault : (unit size written : ℕ) (fault : Option LzoFault) → stream_fault unit size written fault ≡ None → (fault ≡ None) × (written ≡ size)
no_fault unit size written (Some why) e = cc
no_fault unit size written None e = (refl, same (eqb written size) refl e) where
  same : (t : Bool) → t ≡ eqb written size → cond t None (Some (finding.UnitSize unit written size)) ≡ None → written ≡ size
  same true is e = eqb-true written size (sym is)
  same false is e = cc

-- a page more after the first one
pub filled-more : (content : Option Content) (first count i : ℕ) (page before old new : List ℕ) → take (4096 * (i + 1) + 4096) new ≡ take (4096 * (i + 1)) old ++ page → IfSome content (λ held. take (4096 * (i + 1)) old ≡ take 4096 before ++ bytes_from (chain_of (as_it_reads held) first) count i) → IfSome content (λ held. page ≡ chain_of (as_it_reads held) first (count + i)) → IfSome content (λ held. take (4096 * (i + 1 + 1)) new ≡ take 4096 before ++ bytes_from (chain_of (as_it_reads held) first) count (i + 1))
filled-more None first count i page before old new added filled is = tt
filled-more (Some held) first count i page before old new added filled is =
    let chain = chain_of (as_it_reads held) first in
    let size : 4096 * (i + 1 + 1) ≡ 4096 * (i + 1) + 4096 = omega arith in
    ap (λ (n : ℕ). take n new) size ∙ added
    ∙ ap₂ (λ (x y : List ℕ). x ++ y) filled is
    ∙ append_assoc (take 4096 before) (bytes_from chain count i) (chain (count + i))
    ∙ ap (λ (x : List ℕ). take 4096 before ++ x) (sym (bytes_from-more chain count i))
