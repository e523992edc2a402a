use Rattle.std.proofs.Common.{◌≡◌, IsTrue, sym, ap, subst, ◌∙◌, rules}
use Rattle.definitions.specs.Disk.{Changes}
use Rattle.definitions.specs.SwapHeader.{marked}
use Rattle.stream_in.specs.Marking.{LeavesAt}
use Rattle.stream_in.specs.Marked.{HasHeader, Marks, FailsToMark}
use Rattle.stream_in.proofs.Contents.{on_ok, if_err}
use Rattle.stream_in.proofs.Undoing.{told_marks, told_leaves}
use Rattle.stream_in.proofs.Trying.{told_marking, told_alike_mark, told_tries, told_tries_none}
use Rattle.stream_in.proofs.header.mark_image.Goals as goal

pub returns-clause-marked : goal.returns-clause-marked
returns-clause-marked g c =
    let page = c.in_ok-header.header in
    let a = g.D.Disk.content c.args.disk.now in
    let b = g.D.Disk.content c.header_to_mark.new.disk in
    let d = g.D.Disk.content c.write_mark.new.disk in
    let over : c.mark-marked.result ≡ marked page c.args.first 2 0 = c.mark-marked.ensures.marked ∙ ap (λ first. marked page first 2 0) c.from.ensures in
    on_ok c.write_mark.result (Changes (HasHeader c.mark-marked.result) b d) (Changes (Marks c.args.first) a d)
    (told_marks page c.mark-marked.result c.args.first a b d c.in_ok-header.ensures.area over c.in_ok-header.ensures.header c.in_ok-header.ensures.synced)
    c.write_mark.ensures.marked

pub returns-clause-stopped : goal.returns-clause-stopped
returns-clause-stopped g c = record {
  leaves =
      let page = c.in_ok-header.header in
      let over = c.mark-marked.result in
      let a = g.D.Disk.content c.args.disk.now in
      let b = g.D.Disk.content c.header_to_mark.new.disk in
      let d = g.D.Disk.content c.write_mark.new.disk in
      if_err c.write_mark.result (λ why. Changes (FailsToMark over why) b d) (λ why. Changes (LeavesAt why) a d)
      (λ why h. told_leaves page over why a b d c.in_ok-header.ensures.area c.mark-marked.ensures.undone c.in_ok-header.ensures.synced h)
      c.write_mark.ensures.leaves;
  stops = search rules;
  no_swap = search rules;
}

pub returns-clause-time : goal.returns-clause-time
returns-clause-time g c = λ tells.
    let page = c.in_ok-header.header in
    let d = c.args.disk.now in
    let e = c.header_to_mark.new.disk in
    let f = c.write_mark.new.disk in
    let over : c.mark-marked.result ≡ marked page c.args.first 2 0 = c.mark-marked.ensures.marked ∙ ap (λ first. marked page first 2 0) c.from.ensures in
    told_marking (g.D.Disk.block_count d) c.args.first page c.mark-marked.result (g.D.Disk.moment d) (g.D.Disk.moment e) (g.D.Disk.moment f) (g.D.Disk.left_since d) (g.D.Disk.left_since e) (g.D.Disk.left_since f)
    (g.D.Disk.content d) (g.D.Disk.content e) (g.met.D.Disk.well_formed d) c.requires c.in_ok-header.ensures.area over c.in_ok-header.ensures.header c.in_ok-header.ensures.synced
    (c.header_to_mark.ensures.time tells) (c.write_mark.ensures.time (subst IsTrue (sym c.header_to_mark.ensures.called.telling) tells)) (λ t v le. g.met.D.Disk.counts_now d t v tells le)

pub returns-in_err-header-clause-time : goal.returns-in_err-header-clause-time
returns-in_err-header-clause-time g c = λ tells.
    let d = c.args.disk.now in
    let e = c.header_to_mark.new.disk in
    told_alike_mark c.args.first (g.D.Disk.moment d) (g.D.Disk.moment e) (g.D.Disk.left_since d) (g.D.Disk.left_since e) (g.D.Disk.content d) (c.header_to_mark.ensures.time tells)

pub returns-clause-tried : goal.returns-clause-tried
returns-clause-tried g c =
    let page = c.in_ok-header.header in
    let d = c.args.disk.now in
    let over : c.mark-marked.result ≡ marked page c.args.first 2 0 = c.mark-marked.ensures.marked ∙ ap (λ first. marked page first 2 0) c.from.ensures in
    told_tries (g.D.Disk.block_count d) c.args.first page c.mark-marked.result (g.D.Disk.content d) (g.D.Disk.content c.header_to_mark.new.disk) (g.D.Disk.content c.write_mark.new.disk)
    (g.met.D.Disk.well_formed d) c.requires c.in_ok-header.ensures.area over c.in_ok-header.ensures.header c.in_ok-header.ensures.synced c.write_mark.ensures.lies

pub returns-in_err-header-clause-tried : goal.returns-in_err-header-clause-tried
returns-in_err-header-clause-tried g c = told_tries_none c.args.first (g.D.Disk.content c.args.disk.now) (g.D.Disk.content c.header_to_mark.new.disk) c.header_to_mark.ensures.images
