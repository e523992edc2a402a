use Rattle.std.proofs.Common.{◌≡◌, ℕ, List, ◌++◌, sym, ap, ◌∙◌, subst, arith}
use Rattle.std.specs.List.{Contains}
use Rattle.definitions.specs.Zones.{numbers}
use Rattle.definitions.specs.Tables.{is_saveable}
use Rattle.frame_sets.specs.FrameSet.{FrameSet}
use Rattle.frame_table.specs.Tests.{saveable_by_entry}
use Rattle.definitions.proofs.Picks.{picks_none, inserted_picked}
use Rattle.frame_table.proofs.view.mark_zone.Goals as goal
use Rattle.frame_table.proofs.view.mark_zone.Goals.{then-is_saveable, else-is_saveable}

pub set-requires : goal.set-requires
set-requires c =
    subst (λ (zones : List (ℕ × ℕ)). Contains (numbers zones) c.loop-p.p) (sym c.loop-p.invariant.zones) (c.requires.valid c.loop-p.p c.loop-p.auto.p (omega arith))

pub loop-p-preserved : goal.loop-p-preserved
loop-p-preserved c =
    let view = c.args.view.now in
    let test = saveable_by_entry view.table view.frames.now in
    let old = c.args.set.now.members in
    let p = c.loop-p.p in
    let start = c.args.zone.0 in
    let is : c.is_saveable.result ≡ test p = c.is_saveable.ensures ∙ ap is_saveable c.entry.ensures.flags in
    let members : FrameSet → List ℕ = λ set. set.members in
    elim c.if-is_saveable.branch [
      | then-is_saveable w ↦
          let set_is = w.set-is ∙ w.set.ensures in
          record {
            zones = ap (λ (set : FrameSet). set.zones) set_is ∙ c.loop-p.invariant.zones;
            members = ap members set_is ∙ inserted_picked test old c.loop-p.set.members start p c.loop-p.auto.p c.requires.above c.loop-p.invariant.members (sym is ∙ w.if-is_saveable.true);
          }
      | else-is_saveable w ↦ record {
        zones = ap (λ (set : FrameSet). set.zones) w.set-is ∙ c.loop-p.invariant.zones;
        members = ap members w.set-is ∙ c.loop-p.invariant.members ∙ ap (λ t. old ++ t) (sym (picks_none test start p c.loop-p.auto.p (sym is ∙ w.if-is_saveable.false)));
      }
    ]
