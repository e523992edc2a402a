use Rattle.std.proofs.Common.{◌≡◌, ◌<◌, ◌+◌, ◌*◌, ℕ, true, Err, length, take, refl, sym, ap, ◌∙◌, subst, arith}
use Rattle.std.proofs.Math.ListN.{set}
use Rattle.std.proofs.lemmas.List.{length-set, length-take-le}
use Rattle.std.proofs.lemmas.Result.{err_from_is_err_and}
use Rattle.machine.specs.HardFault.{is_extent}
use Rattle.dump_file.specs.Fields.{extent_at}
use Rattle.dump_file.specs.declared.dump.DumpKind.TheVariants.{Extent}
use Rattle.dump_file.proofs.HeadExtents.{extent_short, extent_wrong, extents_right, whole_list}
use Rattle.dump_file.proofs.Items.{grown}
use Rattle.dump_file.proofs.Refused.{at_place, goes_on, refuses, stops, told_extent}
use Rattle.dump_file.proofs.extents.read_list.Goals as goal

pub returns-in_err-extent-clause-read : goal.returns-in_err-extent-clause-read
returns-in_err-extent-clause-read g c bytes h has =
    let p = err_from_is_err_and c.from_residual.result c.from_residual.ensures.1 in
    let inv = c.loop-i.invariant in
    let i = c.loop-i.i in
    let here = inv.read bytes h in
    stops _ _ _ (c.in_err-extent.ensures.read bytes here) (p.1 ∙ ap Err p.2)
    (λ f e. extent_short bytes c.args.first c.args.len i (take i c.loop-i.list) f has (inv.so_far bytes h) c.loop-i-test.true here.within inv.each e)

pub returns-then-not-are_in_order-clause-read : goal.returns-then-not-are_in_order-clause-read
returns-then-not-are_in_order-clause-read g c bytes h has =
    let inv = c.loop-i.invariant in
    let i = c.loop-i.i in
    let list = c.loop-i.list in
    let v = c.in_ok-extent.extent in
    let at = c.args.first + 12 * i in
    let here = inv.read bytes h in
    let next = (c.in_ok-extent.ensures.read bytes here).right refl in
    let more = grown (extent_at bytes c.args.first) list i v (omega (arith, inv.long, c.requires.few, c.loop-i-test.true)) (inv.so_far bytes h) (c.in_ok-extent.ensures.triple bytes here) in
    refuses bytes _ _ (at + 12) (record { kind = Extent; at = at }) c.fault.result _ c.fault.ensures
    (extent_wrong bytes c.args.first c.args.len i (take i list) (take (i + 1) (set list i v)) has (inv.so_far bytes h) more c.loop-i-test.true next.1.within inv.each
    (c.are_in_order.ensures.wrong c.if-not-are_in_order.true))
    (told_extent bytes at (omega (arith, has.first_is))) next.1

pub loop-i-preserved : goal.loop-i-preserved
loop-i-preserved g c =
    let inv = c.loop-i.invariant in
    let i = c.loop-i.i in
    let list = c.loop-i.list in
    let v = c.in_ok-extent.extent in
    let within : i < length list = omega (arith, inv.long, c.requires.few, c.loop-i-test.true) in
    let size : length (take (i + 1) (set list i v)) ≡ i + 1 = length-take-le (i + 1) (set list i v) (omega (arith, within, length-set list i v)) in
    record {
      long = length-set list i v ∙ inv.long;
      each = λ k lt. c.are_in_order.ensures.each c.if-not-are_in_order.false k (omega (arith, lt, size));
      read =
          λ bytes h.
          let place : c.args.first + 12 * i + 12 ≡ c.args.first + 12 * (i + 1) = omega arith in
          at_place bytes (c.args.first + 12 * i + 12) (c.args.first + 12 * (i + 1)) (g.S.Source.remaining c.read_triple.new.source) place ((c.in_ok-extent.ensures.read bytes (inv.read bytes h)).right refl).1;
      so_far = λ bytes h. grown (extent_at bytes c.args.first) list i v within (inv.so_far bytes h) (c.in_ok-extent.ensures.triple bytes (inv.read bytes h));
      counted = omega (arith, inv.counted, c.read_triple.ensures.counted);
    }

pub returns-clause-read : goal.returns-clause-read
returns-clause-read g c bytes h has =
    let inv = c.loop-i.invariant in
    let i = c.loop-i.i in
    let here = inv.read bytes h in
    let all : i ≡ c.args.len = omega (arith, c.loop-i-test.false, c.loop-i.auto.i-end) in
    goes_on _ _ _ _ _ (extents_right bytes c.args.first c.args.len i (take i c.loop-i.list) has (inv.so_far bytes h) all here.within inv.each)
    (at_place bytes (c.args.first + 12 * i) (c.args.first + 12 * c.args.len) (g.S.Source.remaining c.loop-i.source) (ap (λ (n : ℕ). c.args.first + 12 * n) all) here)

pub returns-clause-list : goal.returns-clause-list
returns-clause-list g c bytes h has =
    let i = c.loop-i.i in
    let all : i ≡ c.args.len = omega (arith, c.loop-i-test.false, c.loop-i.auto.i-end) in
    ap (λ (n : ℕ). take n c.loop-i.list) (sym all)
    ∙ whole_list bytes c.args.first c.args.len i (take i c.loop-i.list) has all (c.loop-i.invariant.so_far bytes h)

pub returns-clause-each : goal.returns-clause-each
returns-clause-each g c k lt =
    let all : c.loop-i.i ≡ c.args.len = omega (arith, c.loop-i-test.false, c.loop-i.auto.i-end) in
    subst (λ (n : ℕ). is_extent (take n c.loop-i.list) k ≡ true) all (c.loop-i.invariant.each k (omega (arith, lt, all)))
