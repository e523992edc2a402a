use Rattle.std.proofs.Common.{refl, ap, arith}
use Rattle.definitions.specs.Zones.{top}
use Rattle.plain_machine.specs.Machine.{Hardware}
use Rattle.dump_tools.proofs.Agreeing.{at_next, past_last, agree_to_next, agree_with, agree_behind, first_at}
use Rattle.dump_tools.proofs.difference.first_in_frames.Goals as goal

pub difference_at-requires-clause-first : goal.difference_at-requires-clause-first
difference_at-requires-clause-first c =
    let at = at_next c.args.first.now.hw.zones c.zones-zones.result.now c.loop-p.from c.in-Some.p c.zones-zones.ensures.hardware.zones c.zones-zones.ensures.zones c.in-Some.ensures.next in
    omega (arith, at.low, c.requires.first)

pub difference_at-requires-clause-second : goal.difference_at-requires-clause-second
difference_at-requires-clause-second c =
    let at = at_next c.args.first.now.hw.zones c.zones-zones.result.now c.loop-p.from c.in-Some.p c.zones-zones.ensures.hardware.zones c.zones-zones.ensures.zones c.in-Some.ensures.next in
    omega (arith, at.low, c.requires.second, ap (λ (h : Hardware). top h.zones) c.requires.hardware)

pub returns-in-Some-difference_at-clause-difference : goal.returns-in-Some-difference_at-clause-difference
returns-in-Some-difference_at-clause-difference c =
    let a = c.args.first.now in
    let b = c.args.second.now in
    let at = at_next a.hw.zones c.zones-zones.result.now c.loop-p.from c.in-Some.p c.zones-zones.ensures.hardware.zones c.zones-zones.ensures.zones c.in-Some.ensures.next in
    first_at a b c.in-Some.p c.in-Some-difference_at.difference c.requires.hardware
    (agree_to_next a b c.loop-p.from c.in-Some.p c.requires.hardware c.loop-p.invariant.below at.next) c.in-Some-difference_at.ensures.difference

pub overflow_add-from : goal.overflow_add-from
overflow_add-from c =
    let at = at_next c.args.first.now.hw.zones c.zones-zones.result.now c.loop-p.from c.in-Some.p c.zones-zones.ensures.hardware.zones c.zones-zones.ensures.zones c.in-Some.ensures.next in
    omega (arith, at.low, at.few)

pub loop-p-smaller : goal.loop-p-smaller
loop-p-smaller c =
    let at = at_next c.args.first.now.hw.zones c.zones-zones.result.now c.loop-p.from c.in-Some.p c.zones-zones.ensures.hardware.zones c.zones-zones.ensures.zones c.in-Some.ensures.next in
    omega (arith, at.low, at.next.above)

pub loop-p-preserved : goal.loop-p-preserved
loop-p-preserved c =
    let a = c.args.first.now in
    let b = c.args.second.now in
    let at = at_next a.hw.zones c.zones-zones.result.now c.loop-p.from c.in-Some.p c.zones-zones.ensures.hardware.zones c.zones-zones.ensures.zones c.in-Some.ensures.next in
    record {
      within = omega (arith, at.low);
      below = agree_with a b c.in-Some.p (agree_to_next a b c.loop-p.from c.in-Some.p c.requires.hardware c.loop-p.invariant.below at.next) (c.in_default-difference_at.ensures.none refl);
    }

pub returns-clause-none : goal.returns-clause-none
returns-clause-none c = λ _.
    agree_behind c.args.first.now c.args.second.now c.loop-p.from c.requires.hardware c.loop-p.invariant.below
    (past_last c.args.first.now.hw.zones c.zones-zones.result.now c.loop-p.from c.zones-zones.ensures.hardware.zones c.zones-zones.ensures.zones c.in_default.ensures.next)
