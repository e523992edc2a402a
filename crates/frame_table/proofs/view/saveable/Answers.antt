use Rattle.std.proofs.Common.{sym, ap, ◌∙◌, arith}
use Rattle.std.proofs.lemmas.Bool.{both_ways}
use Rattle.definitions.specs.Tables.{is_saveable}
use Rattle.definitions.proofs.ZoneNumbers.{below_top}
use Rattle.definitions.proofs.ZoneLists.{Contains-saveable_frames, Contains-from_saveable_frames}
use Rattle.frame_table.proofs.view.saveable.Goals as goal

pub entry-requires : goal.entry-requires
entry-requires c =
    let v = c.args.view.now in
    let low = below_top v.zones.now c.args.p c.valid.ensures.zones.apart (c.valid.ensures.valid.0 c.if-valid.true) in
    let table = c.requires in
    omega arith

pub returns-then-valid : goal.returns-then-valid
returns-then-valid c =
    let v = c.args.view.now in
    let is = c.is_saveable.ensures ∙ ap is_saveable c.entry.ensures.flags in (
      λ test. Contains-saveable_frames v.zones.now v.table v.frames.now c.args.p (c.valid.ensures.valid.0 c.if-valid.true) (sym is ∙ test),
      λ in'. is ∙ (Contains-from_saveable_frames v.zones.now v.table v.frames.now c.args.p in').1,
    )

pub returns-else-valid : goal.returns-else-valid
returns-else-valid c =
    let v = c.args.view.now in (
      λ test. absurd (both_ways c.valid.result c.if-valid.false test),
      λ in'. c.valid.ensures.valid.1 (Contains-from_saveable_frames v.zones.now v.table v.frames.now c.args.p in').0,
    )
