use Rattle.std.proofs.Common.{◌≡◌, ◌+◌, ◌*◌, ℕ, false, [], ◌∷◌, Result, Ok, Err, sym, ap, ◌∙◌}
use Rattle.std.specs.Prelude.{IfOk}
use Rattle.dump_file.specs.Fields.{count_byte, map_byte, is_second}
use Rattle.dump_file.specs.declared.dump.DumpStop.{DumpStop}
use Rattle.dump_file.proofs.HeadExtents.{extents_first}
use Rattle.dump_file.proofs.Heads.{front_map, front_second, front_slot_count, has_map, layout_first, layout_second}
use Rattle.dump_file.proofs.Refused.{at_place, count_first, goes_on, same_fault}
use Rattle.dump_file.proofs.extents.read_extents.Goals as goal

pub returns-then-front-clause-read : goal.returns-then-front-clause-read
returns-then-front-clause-read g c bytes h is =
    let front = c.args.front.now in
    let n = c.from.result in
    let place = front_map bytes front n is c.from.ensures in
    same_fault _ (sym (layout_second bytes front is c.if-front.true))
    (c.read_map.ensures.read bytes (at_place bytes (map_byte bytes) (424 + 8 * n) _ (sym place) h) (has_map bytes front n is c.from.ensures c.if-front.true))

on_ok : {A : Type 0} {P Q : A → Type 0} (r : Result A DumpStop) → IfOk r P → ((x : A) → P x → Q x) → IfOk r Q
on_ok (Ok x) h f = f x h
on_ok (Err e) h f = h

pub returns-then-front-clause-extents : goal.returns-then-front-clause-extents
returns-then-front-clause-extents g c =
    on_ok c.read_map.result c.read_map.ensures.extents
    (λ e its bytes h is.
    let front = c.args.front.now in
    let n = c.from.result in
    let place = front_map bytes front n is c.from.ensures in
    its bytes (at_place bytes (map_byte bytes) (424 + 8 * n) _ (sym place) h) (has_map bytes front n is c.from.ensures c.if-front.true))

pub returns-clause-read : goal.returns-clause-read
returns-clause-read g c bytes h is =
    let front = c.args.front.now in
    let first : is_second bytes ≡ false = sym (front_second bytes front is) ∙ c.if-front.false in
    goes_on _ _ _ _ _ (layout_first bytes front is c.if-front.false) (at_place bytes (map_byte bytes) (count_byte bytes) _ (sym (count_first bytes first)) h)

pub returns-clause-extents : goal.returns-clause-extents
returns-clause-extents g c bytes h is =
    let front = c.args.front.now in
    let first : is_second bytes ≡ false = sym (front_second bytes front is) ∙ c.if-front.false in (
      c.plain_map.ensures.list ∙ ap (λ (s : ℕ). (0, s, 0) ∷ []) (front_slot_count bytes front is) ∙ sym (extents_first bytes first),
      c.plain_map.ensures.end ∙ front_map bytes front c.from.result is c.from.ensures ∙ sym (count_first bytes first),
    )
