use Rattle.std.proofs.Common.{ℕ, List, refl, sym, ap, ◌∙◌, subst, arith}
use Rattle.std.specs.List.{Contains}
use Rattle.definitions.specs.Zones.{numbers}
use Rattle.definitions.proofs.ZoneNumbers.{below_top, top_at_most}
use Rattle.frame_sets.specs.FrameSet.{FrameSet}
use Rattle.resume_core.proofs.First.{is_first, all_below}
use Rattle.resume_core.proofs.Clearing.{without_none, without_next, without_all, run_valid, run_ascending, set_is}
use Rattle.resume_core.proofs.begin.clear_between.Goals as goal

pub loop-p-init : goal.loop-p-init
loop-p-init c = record { zones = refl; above = omega arith; within = omega arith; members = without_none c.args.set.now.members c.args.first c.requires.ascending }

pub clear-requires : goal.clear-requires
clear-requires c =
    let i = c.loop-p.invariant in
    let ups = run_ascending c.args.set.now.members c.loop-p.set.members c.args.first c.loop-p.from c.requires.ascending i.members in
    let next = is_first c.loop-p.set.members c.loop-p.from c.in-Some.p ups (sym c.in-Some.ensures) in
    run_valid c.args.set.now c.loop-p.set c.args.first c.loop-p.from c.in-Some.p c.requires i.zones i.members next.member

pub overflow_add-from : goal.overflow_add-from
overflow_add-from c =
    let i = c.loop-p.invariant in
    let ups = run_ascending c.args.set.now.members c.loop-p.set.members c.args.first c.loop-p.from c.requires.ascending i.members in
    let next = is_first c.loop-p.set.members c.loop-p.from c.in-Some.p ups (sym c.in-Some.ensures) in
    let valid = run_valid c.args.set.now c.loop-p.set c.args.first c.loop-p.from c.in-Some.p c.requires i.zones i.members next.member in
    let same = subst (λ (zs : List (ℕ × ℕ)). Contains (numbers zs) c.in-Some.p) c.loop-p.invariant.zones valid in
    let low = below_top c.args.set.now.zones c.in-Some.p c.requires.zones.apart same in
    let most = top_at_most c.args.set.now.zones c.requires.zones in
    record { fits = omega arith }

pub loop-p-smaller : goal.loop-p-smaller
loop-p-smaller c =
    let i = c.loop-p.invariant in
    let ups = run_ascending c.args.set.now.members c.loop-p.set.members c.args.first c.loop-p.from c.requires.ascending i.members in
    let next = is_first c.loop-p.set.members c.loop-p.from c.in-Some.p ups (sym c.in-Some.ensures) in
    let low = next.above in
    let last = c.if-p-last.false in
    omega arith

pub loop-p-preserved : goal.loop-p-preserved
loop-p-preserved c =
    let i = c.loop-p.invariant in
    let ups = run_ascending c.args.set.now.members c.loop-p.set.members c.args.first c.loop-p.from c.requires.ascending i.members in
    let is = sym c.in-Some.ensures in
    let next = is_first c.loop-p.set.members c.loop-p.from c.in-Some.p ups is in
    let low = next.above in
    let above = i.above in
    let last = c.if-p-last.false in
    record {
      zones = ap (λ (s : FrameSet). s.zones) c.clear.ensures ∙ i.zones;
      above = omega arith;
      within = omega arith;
      members = ap (λ (s : FrameSet). s.members) c.clear.ensures ∙ without_next c.args.set.now.members c.loop-p.set.members c.args.first c.loop-p.from c.in-Some.p c.requires.ascending i.members i.above is;
    }

pub returns-then-p-last : goal.returns-then-p-last
returns-then-p-last c =
    let i = c.loop-p.invariant in
    let ups = run_ascending c.args.set.now.members c.loop-p.set.members c.args.first c.loop-p.from c.requires.ascending i.members in
    let next = is_first c.loop-p.set.members c.loop-p.from c.in-Some.p ups (sym c.in-Some.ensures) in
    let past = c.if-p-last.true in
    set_is c.loop-p.set c.args.set.now.zones i.zones
    (without_all c.args.set.now.members c.loop-p.set.members c.args.first c.loop-p.from c.args.last c.requires.ascending i.members i.within
    (λ q in' ge. let least = next.least q in' ge in omega arith))

pub returns-in_default : goal.returns-in_default
returns-in_default c =
    let i = c.loop-p.invariant in
    let ups = run_ascending c.args.set.now.members c.loop-p.set.members c.args.first c.loop-p.from c.requires.ascending i.members in
    set_is c.loop-p.set c.args.set.now.zones i.zones
    (without_all c.args.set.now.members c.loop-p.set.members c.args.first c.loop-p.from c.args.last c.requires.ascending i.members i.within
    (λ q in' ge. absurd (let below = all_below c.loop-p.set.members c.loop-p.from ups (sym c.in_default.ensures) q in' in omega arith)))
