use Rattle.std.proofs.Common.{◌≡◌, ℕ, true, inl, inr, arith, subst}
use Rattle.std.proofs.lemmas.Bool.{cases_lt}
use Rattle.std.specs.List.{Contains}
use Rattle.definitions.specs.Zones.{numbers}
use Rattle.plain_machine.specs.Machine.{frame_entry, is_well_formed}
use Rattle.machine.proofs.tables.entries_fit.Goals as goal

pub loop-p-preserved : goal.loop-p-preserved
loop-p-preserved c p from below in' =
    elim (cases_lt p c.loop-p.p) [
      | inl before ↦ c.loop-p.invariant p from before in'
      | inr here ↦
          let h = c.args.hw.now in
          let m = c.args.frames.now in
          let same : c.loop-p.p ≡ p = omega arith in
          let P : ℕ → Type 0 = λ q. Contains (numbers h.zones) q → is_well_formed (frame_entry h m q) ≡ true in
          subst P same (c.entry_fits.ensures.0 c.if-not-entry_fits.false) in'
    ]
