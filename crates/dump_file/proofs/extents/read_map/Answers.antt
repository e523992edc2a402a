use Rattle.std.proofs.Common.{◌≡◌, ◌+◌, ◌-◌, ◌*◌, ◌≤◌, ℕ, true, false, eqb, List, Err, take, get_or, refl, sym, ap, ap₂, ◌∙◌, arith}
use Rattle.std.proofs.lemmas.Bool.{eq-eqb, ne_eqb}
use Rattle.std.proofs.lemmas.List.{get_or-take}
use Rattle.std.proofs.lemmas.Result.{err_from_is_err_and}
use Rattle.definitions.specs.Slots as slot
use Rattle.dump_file.specs.Dump.{cover_fault, extents_fault}
use Rattle.dump_file.specs.Fields.{count_byte, number}
use Rattle.dump_file.specs.Reading.{HasExtents}
use Rattle.dump_file.specs.declared.dump.DumpKind.TheVariants.{Extent}
use Rattle.dump_file.proofs.Chains.{or_else-none, or_else-some, unless-false, unless-true}
use Rattle.dump_file.proofs.HeadExtents.{cover_is, map_count, map_extents, map_list, map_short, offset_is}
use Rattle.dump_file.proofs.Refused.{at_place, count_second, goes_on, refuses, stops, told_extent, told_extents, told_offset}
use Rattle.dump_file.proofs.extents.read_map.Goals as goal

pub returns-in_err-offset-clause-read : goal.returns-in_err-offset-clause-read
returns-in_err-offset-clause-read g c bytes h has =
    let p = err_from_is_err_and c.from_residual.result c.from_residual.ensures.1 in
    stops _ _ _ (c.in_err-offset.ensures.read bytes h) (p.1 ∙ ap Err p.2) (λ f e. map_short bytes c.args.map c.args.slots f has e)

-- the number of extents, as it was read
len_is : (bytes : List ℕ) (k : ℕ) (pair : ℕ × ℕ) → pair ≡ (number bytes k, number bytes (k + 4)) → pair.1 ≡ number bytes (k + 4)
len_is bytes k pair is = ap (λ (p : ℕ × ℕ). p.1) is

start_is : (bytes : List ℕ) (k : ℕ) (pair : ℕ × ℕ) → pair ≡ (number bytes k, number bytes (k + 4)) → pair.0 ≡ number bytes k
start_is bytes k pair is = ap (λ (p : ℕ × ℕ). p.0) is

pub returns-then-not-is_extent_count-clause-read : goal.returns-then-not-is_extent_count-clause-read
returns-then-not-is_extent_count-clause-read g c bytes h has =
    let map = c.args.map in
    let front = (c.in_ok-offset.ensures.read bytes h).right refl in
    let len = len_is bytes map (c.in_ok-offset.offset, c.in_ok-offset.count) (c.in_ok-offset.ensures.pair bytes h) in
    refuses bytes _ _ (map + 4 + 4) (record { kind = Extent; at = map + 4 }) c.fault.result _ c.fault.ensures
    (map_count bytes map c.args.slots c.in_ok-offset.count has len front.0 (sym c.is_extent_count.ensures.is ∙ c.if-not-is_extent_count.true))
    (told_extents bytes (map + 4) (ap (λ (k : ℕ). k + 4) has.map_is))
    (let place : map + 8 ≡ map + 4 + 4 = omega arith in at_place bytes (map + 8) (map + 4 + 4) _ place front.1)

pub returns-in_err-list-clause-read : goal.returns-in_err-list-clause-read
returns-in_err-list-clause-read g c bytes h has =
    let p = err_from_is_err_and c.from_residual-in_err-list.result c.from_residual-in_err-list.ensures.1 in
    let map = c.args.map in
    let front = (c.in_ok-offset.ensures.read bytes h).right refl in
    let len = len_is bytes map (c.in_ok-offset.offset, c.in_ok-offset.count) (c.in_ok-offset.ensures.pair bytes h) in
    let rest = map_list bytes map c.args.slots c.in_ok-offset.count has len front.0 (sym c.is_extent_count.ensures.is ∙ c.if-not-is_extent_count.false) in
    stops _ _ _ (c.in_err-list.ensures.read bytes front.1 (map_extents bytes map c.args.slots c.in_ok-offset.count has len)) (p.1 ∙ ap Err p.2)
    (λ f e. rest ∙ or_else-some (extents_fault bytes) _ f e)

pub returns-then-not-covers-clause-read : goal.returns-then-not-covers-clause-read
returns-then-not-covers-clause-read g c bytes h has =
    let map = c.args.map in
    let n = c.in_ok-offset.count in
    let list = take n c.in_ok-list.list in
    let front = (c.in_ok-offset.ensures.read bytes h).right refl in
    let len = len_is bytes map (c.in_ok-offset.offset, c.in_ok-offset.count) (c.in_ok-offset.ensures.pair bytes h) in
    let extents = map_extents bytes map c.args.slots n has len in
    let rest = map_list bytes map c.args.slots n has len front.0 (sym c.is_extent_count.ensures.is ∙ c.if-not-is_extent_count.false) in
    let whole = (c.in_ok-list.ensures.read bytes front.1 extents).right refl in
    let some : 1 ≤ n = (c.is_extent_count.ensures.bounds c.if-not-is_extent_count.false).0 in
    let at = map + 8 + 12 * n - 12 in
    let last : at ≡ map + 8 + 12 * (n - 1) = omega (arith, some) in
    let end : map + 8 + 12 * n ≡ at + 12 = omega (arith, some) in
    refuses bytes _ _ (at + 12) (record { kind = Extent; at = at }) c.fault-then-not-covers.result _ c.fault-then-not-covers.ensures
    (rest ∙ or_else-none (extents_fault bytes) _ whole.0
    ∙ or_else-some (cover_fault bytes) _ (record { kind = Extent; at = at })
    (cover_is bytes list map c.args.slots n at c.covers.result has len (c.in_ok-list.ensures.list bytes front.1 extents) c.covers.ensures.covers last
    ∙ unless-false c.covers.result Extent at c.if-not-covers.true))
    (told_extent bytes at (omega (arith, some, has.map_is)))
    (at_place bytes (map + 8 + 12 * n) (at + 12) _ end whole.1)

-- the first extent, in the part of the list that was read
start_at : (n : ℕ) (list : List (ℕ × ℕ × ℕ)) → 1 ≤ n → slot.extent_at (take n list) 0 ≡ get_or list 0 (0, 0, 0)
start_at n list some = get_or-take n list 0 (0, 0, 0) (omega (arith, some))

-- the end of the extents
end_is : (bytes : List ℕ) (first len : ℕ) → HasExtents bytes first len → first + 12 * len ≡ count_byte bytes
end_is bytes first len h = ap₂ (λ (k n : ℕ). k + 12 * n) h.first_is h.len_is ∙ sym (count_second bytes h.second)

pub returns-then-offset-start-clause-read : goal.returns-then-offset-start-clause-read
returns-then-offset-start-clause-read g c bytes h has =
    let map = c.args.map in
    let pair : ℕ × ℕ = (c.in_ok-offset.offset, c.in_ok-offset.count) in
    let n = pair.1 in
    let list = take n c.in_ok-list.list in
    let front = (c.in_ok-offset.ensures.read bytes h).right refl in
    let len = len_is bytes map pair (c.in_ok-offset.ensures.pair bytes h) in
    let extents = map_extents bytes map c.args.slots n has len in
    let rest = map_list bytes map c.args.slots n has len front.0 (sym c.is_extent_count.ensures.is ∙ c.if-not-is_extent_count.false) in
    let whole = (c.in_ok-list.ensures.read bytes front.1 extents).right refl in
    let some : 1 ≤ n = (c.is_extent_count.ensures.bounds c.if-not-is_extent_count.false).0 in
    let list_is = c.in_ok-list.ensures.list bytes front.1 extents in
    let start = start_at n c.in_ok-list.list some in
    let other : eqb pair.0 (slot.extent_at list 0).2 ≡ false = ne_eqb pair.0 (slot.extent_at list 0).2 (λ e. c.if-offset-start.true (e ∙ ap (λ (x : ℕ × ℕ × ℕ). x.2) start)) in
    refuses bytes _ _ (count_byte bytes) (record { kind = Extent; at = map }) c.fault-then-offset-start.result _ c.fault-then-offset-start.ensures
    (rest ∙ or_else-none (extents_fault bytes) _ whole.0
    ∙ or_else-none (cover_fault bytes) _
    (cover_is bytes list map c.args.slots n (map + 8 + 12 * (n - 1)) c.covers.result has len list_is c.covers.ensures.covers refl ∙ unless-true c.covers.result Extent _ c.if-not-covers.false)
    ∙ offset_is bytes list map c.args.slots pair.0 has (start_is bytes map pair (c.in_ok-offset.ensures.pair bytes h)) list_is
    ∙ unless-false (eqb pair.0 (slot.extent_at list 0).2) Extent map other)
    (told_offset bytes map has.map_is)
    (at_place bytes (map + 8 + 12 * n) (count_byte bytes) _ (end_is bytes (map + 8) n extents) whole.1)

pub returns-clause-read : goal.returns-clause-read
returns-clause-read g c bytes h has =
    let map = c.args.map in
    let pair : ℕ × ℕ = (c.in_ok-offset.offset, c.in_ok-offset.count) in
    let n = pair.1 in
    let list = take n c.in_ok-list.list in
    let front = (c.in_ok-offset.ensures.read bytes h).right refl in
    let len = len_is bytes map pair (c.in_ok-offset.ensures.pair bytes h) in
    let extents = map_extents bytes map c.args.slots n has len in
    let rest = map_list bytes map c.args.slots n has len front.0 (sym c.is_extent_count.ensures.is ∙ c.if-not-is_extent_count.false) in
    let whole = (c.in_ok-list.ensures.read bytes front.1 extents).right refl in
    let some : 1 ≤ n = (c.is_extent_count.ensures.bounds c.if-not-is_extent_count.false).0 in
    let list_is = c.in_ok-list.ensures.list bytes front.1 extents in
    let start = start_at n c.in_ok-list.list some in
    let same : eqb pair.0 (slot.extent_at list 0).2 ≡ true = eq-eqb pair.0 (slot.extent_at list 0).2 (c.if-offset-start.false ∙ ap (λ (x : ℕ × ℕ × ℕ). x.2) (sym start)) in
    goes_on _ _ _ _ _
    (rest ∙ or_else-none (extents_fault bytes) _ whole.0
    ∙ or_else-none (cover_fault bytes) _
    (cover_is bytes list map c.args.slots n (map + 8 + 12 * (n - 1)) c.covers.result has len list_is c.covers.ensures.covers refl ∙ unless-true c.covers.result Extent _ c.if-not-covers.false)
    ∙ offset_is bytes list map c.args.slots pair.0 has (start_is bytes map pair (c.in_ok-offset.ensures.pair bytes h)) list_is
    ∙ unless-true (eqb pair.0 (slot.extent_at list 0).2) Extent map same)
    (at_place bytes (map + 8 + 12 * n) (count_byte bytes) _ (end_is bytes (map + 8) n extents) whole.1)

pub returns-clause-extents : goal.returns-clause-extents
returns-clause-extents g c bytes h has =
    let map = c.args.map in
    let n = c.in_ok-offset.count in
    let front = (c.in_ok-offset.ensures.read bytes h).right refl in
    let extents = map_extents bytes map c.args.slots n has (len_is bytes map (c.in_ok-offset.offset, c.in_ok-offset.count) (c.in_ok-offset.ensures.pair bytes h)) in
    (c.in_ok-list.ensures.list bytes front.1 extents, end_is bytes (map + 8) n extents)

pub returns-clause-is_map : goal.returns-clause-is_map
returns-clause-is_map g c = c.covers.ensures.map c.if-not-covers.false
