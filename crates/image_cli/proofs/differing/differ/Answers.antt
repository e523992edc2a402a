use Rattle.std.proofs.Common.{[], sym, subst, inl, inr}
use Rattle.command_kit.specs.Told.{RunResult}
use Rattle.command_kit.specs.Told.{IsTold}
use Rattle.command_kit.specs.View.{sink_view}
use Rattle.image_differ.specs.Compares.{Opens}
use Rattle.image_differ.specs.Sides.{side_view}
use Rattle.image_differ.proofs.Sides.{compared_after}
use Rattle.image_cli.proofs.Telling.{compares_since}
use Rattle.image_cli.proofs.differing.differ.Goals as goal

pub compare-requires : goal.compare-requires
compare-requires g c =
    let a = side_view g.D.Disk g.R.Report c.args.first.now in
    let x = side_view g.D.Disk g.R.Report c.open.new.first in
    let b = side_view g.E.Disk g.Q.Report c.args.second.now in
    let y = side_view g.E.Disk g.Q.Report c.open.new.second in
    let opened = subst (Opens a x b y) c.in-Ok-Open.field-0-is c.in-Ok-Open.ensures.opened in
    let f = c.open.ensures.first in
    let e = c.open.ensures.second in
    compared_after a x b y c.in-Ok-Open.comparison [] f e opened.1

pub returns-in-Ok-Open-clause-outcome : goal.returns-in-Ok-Open-clause-outcome
returns-in-Ok-Open-clause-outcome g c =
    let a = side_view g.D.Disk g.R.Report c.args.first.now in
    let x = side_view g.D.Disk g.R.Report c.open.new.first in
    let b = side_view g.E.Disk g.Q.Report c.args.second.now in
    let y = side_view g.E.Disk g.Q.Report c.open.new.second in
    let opened = subst (Opens a x b y) c.in-Ok-Open.field-0-is c.in-Ok-Open.ensures.opened in
    let f = c.open.ensures.first in
    let e = c.open.ensures.second in
    inr (inr (compares_since c.args.first_only a x (side_view g.D.Disk g.R.Report c.compare.new.first) b y (side_view g.E.Disk g.Q.Report c.compare.new.second) c.in-Ok-Open.comparison c.compare.result
    (sink_view g.O.Sink c.args.out.now) (sink_view g.O.Sink c.compare.new.out) (sink_view g.N.Sink c.args.note.now) (sink_view g.N.Sink c.compare.new.note)
    f e opened.0.0 opened.0.1 c.compare.ensures.outcome))

pub returns-in-Err-clause-outcome : goal.returns-in-Err-clause-outcome
returns-in-Err-clause-outcome g c =
    inl (c.in-Err.ensures.untold, subst (λ (r : RunResult). IsTold r c.tell-in-Err.result (sink_view g.O.Sink c.args.out.now) (sink_view g.O.Sink c.tell-in-Err.new.out) (sink_view g.N.Sink c.args.note.now) (sink_view g.N.Sink c.tell-in-Err.new.note)) c.no_memory.ensures.told c.tell-in-Err.ensures.told)
