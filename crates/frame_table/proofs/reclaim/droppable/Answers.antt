use Rattle.std.proofs.Common.{sym, ◌∙◌, arith}
use Rattle.std.proofs.lemmas.Bool.{both_ways}
use Rattle.definitions.specs.Zones.{numbers}
use Rattle.definitions.proofs.FrameSets.{Contains-filter, Contains-from_filter}
use Rattle.definitions.proofs.ZoneNumbers.{below_top}
use Rattle.frame_table.specs.Drop.{may_drop}
use Rattle.frame_table.proofs.reclaim.droppable.Goals as goal

pub may_drop-requires : goal.may_drop-requires
may_drop-requires c =
    let v = c.args.view.now in
    let low = below_top v.zones.now c.args.p c.valid.ensures.zones.apart (c.valid.ensures.valid.0 c.if-valid.true) in
    let table = c.requires in
    omega arith

pub returns-then-valid : goal.returns-then-valid
returns-then-valid c =
    let v = c.args.view.now in
    let test = may_drop c.args.keep.now v.table v.frames.now in (
      λ is. Contains-filter test (numbers v.zones.now) c.args.p (c.valid.ensures.valid.0 c.if-valid.true) (sym c.may_drop.ensures ∙ is),
      λ in'. c.may_drop.ensures ∙ (Contains-from_filter test (numbers v.zones.now) c.args.p in').1,
    )

pub returns-else-valid : goal.returns-else-valid
returns-else-valid c =
    let v = c.args.view.now in
    let test = may_drop c.args.keep.now v.table v.frames.now in (
      λ is. absurd (both_ways c.valid.result c.if-valid.false is),
      λ in'. c.valid.ensures.valid.1 (Contains-from_filter test (numbers v.zones.now) c.args.p in').0,
    )
