use Rattle.std.proofs.Common.{rules, tests, ◌≡◌, ◌+◌, ◌≤◌, ◌/◌, ℕ, List, inl, inr, length, sym, ap, subst, arith}
use Rattle.std.proofs.lemmas.Bool.{cases_lt}
use Rattle.std.specs.Prelude.{◌↔◌, IsTrue}
use Rattle.std.specs.List.{Contains}
use Rattle.definitions.specs.Tables.{saveable_frames}
use Rattle.definitions.specs.Zones.{numbers, top}
use Rattle.definitions.proofs.ZoneNumbers.{below_top}
use Rattle.machine.proofs.Rows.{frame_table_fits}
use Rattle.plain_machine.specs.Machine.{saveable}
use Rattle.image_machine.proofs.FrameTests.{same_tests}
use Rattle.image_machine.proofs.Adding.{valid_member}
use Rattle.image_machine.proofs.Hibernated.{saveable_valid}
use Rattle.image_machine.proofs.filled.saves_just.Goals as goal

pub saveable-requires : goal.saveable-requires
saveable-requires c =
    let h = c.args.hw.now in
    let size = c.requires.size in
    let fits = frame_table_fits h (top h.zones) c.frame_table.ensures.hardware (omega arith) in
    let within : c.frame_table.result + (top h.zones + 1023) / 1024 ≤ length c.args.frames.now = omega (arith, c.frame_table.ensures.frame) in
    subst (λ (zones : List (ℕ × ℕ)). c.frame_table.result + (top zones + 1023) / 1024 ≤ length c.args.frames.now) (sym c.zones.ensures.zones) within

pub loop-p-preserved : goal.loop-p-preserved
loop-p-preserved c = λ p lt.
    let h = c.args.hw.now in
    elim (cases_lt p c.loop-p.p) [
      | inl before ↦ c.loop-p.invariant p before
      | inr from ↦
          let is : p ≡ c.loop-p.p = omega arith in
          let e : c.saveable.result ≡ c.has.result = search (rules, tests, c.if-saveable-has.false) in
          let there =
          subst (λ (zs : List (ℕ × ℕ)). IsTrue c.saveable.result ↔ Contains (saveable_frames zs h.frame_table c.args.frames.now) c.loop-p.p) c.zones.ensures.zones
          (subst (λ (t : ℕ). IsTrue c.saveable.result ↔ Contains (saveable_frames c.zones.result.now t c.args.frames.now) c.loop-p.p) c.frame_table.ensures.frame c.saveable.ensures) in
          subst (λ (q : ℕ). Contains (saveable h c.args.frames.now) q ↔ Contains c.args.saved.now.members q) (sym is)
          (same_tests c.saveable.result c.has.result (Contains (saveable h c.args.frames.now) c.loop-p.p) (Contains c.args.saved.now.members c.loop-p.p) there c.has.ensures e)
    ]

pub returns-clause-just : goal.returns-clause-just
returns-clause-just c = λ p.
    let h = c.args.hw.now in
    let past = c.loop-p-test.false in
    let low = c.loop-p.auto.p-end in
    let end = c.top-p-end.ensures.top in
    let zones = ap top c.zones-2.ensures.zones in
    let above : top h.zones ≤ c.loop-p.p = omega arith in
    elim (cases_lt p c.loop-p.p) [
      | inl before ↦ c.loop-p.invariant p before
      | inr from ↦
          let apart = c.zones.ensures.hardware.zones.apart in
          let out : Contains (numbers h.zones) p → ⊥ = λ valid. let below = below_top h.zones p apart valid in omega arith in (
            λ in'. absurd (out (saveable_valid h c.args.frames.now p in')),
            λ in'. absurd (out (valid_member c.args.saved.now h p c.requires.set c.requires.zones in')),
          )
    ]
