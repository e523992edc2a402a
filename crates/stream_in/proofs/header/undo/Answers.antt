use Rattle.std.proofs.Common.{IsTrue, inr, sym, subst}
use Rattle.definitions.specs.SwapHeader.{taken_back}
use Rattle.stream_in.proofs.Undoing.{told_header}
use Rattle.stream_in.proofs.Trying.{told_lies_written, told_lies_failed, told_lies_synced, told_lies_same, trying_call, trying_then}
use Rattle.stream_in.proofs.header.undo.Goals as goal

pub returns-in-Ok-sync-clause-gone : goal.returns-in-Ok-sync-clause-gone
returns-in-Ok-sync-clause-gone g c = λ is.
    told_header (g.D.Disk.block_count c.args.disk.now) c.take_back-back.result (taken_back c.args.marked.now)
    (g.D.Disk.content c.args.disk.now) (g.D.Disk.content c.write.new.self) (g.D.Disk.content c.sync.new.self)
    (g.met.D.Disk.well_formed c.args.disk.now) c.requires c.is_page.ensures.page c.take_back-back.ensures c.in-Ok.ensures.written c.in-Ok-sync.ensures.synced

-- Moments.

pub returns-in-Err-clause-time : goal.returns-in-Err-clause-time
returns-in-Err-clause-time g c = λ tells u lies.
    let d = c.args.disk.now in
    let e = c.write.new.self in
    let page = c.args.marked.now in
    let behind = told_lies_failed page c.take_back-back.result u (g.D.Disk.content d) (g.D.Disk.content e) (inr c.take_back-back.ensures) lies c.in-Err.ensures.failed in
    trying_call page u (g.D.Disk.moment d) (g.D.Disk.moment e) (g.D.Disk.left_since d) (g.D.Disk.left_since e) (g.D.Disk.content d) (g.D.Disk.content e) (g.met.D.Disk.tells_content d tells) (c.write.ensures.time tells) lies behind

pub returns-in-Ok-sync-clause-time : goal.returns-in-Ok-sync-clause-time
returns-in-Ok-sync-clause-time g c = λ tells u lies.
    let d = c.args.disk.now in
    let e = c.write.new.self in
    let f = c.sync.new.self in
    let page = c.args.marked.now in
    let behind = told_lies_written page c.take_back-back.result u (g.D.Disk.content d) (g.D.Disk.content e) (inr c.take_back-back.ensures) lies c.in-Ok.ensures.written in
    let synced = told_lies_synced (g.D.Disk.block_count e) page u (g.D.Disk.content e) (g.D.Disk.content f) (g.met.D.Disk.well_formed e) behind c.in-Ok-sync.ensures.synced in
    let tells' = subst IsTrue (sym c.write.ensures.telling) tells in
    let first = trying_call page u (g.D.Disk.moment d) (g.D.Disk.moment e) (g.D.Disk.left_since d) (g.D.Disk.left_since e) (g.D.Disk.content d) (g.D.Disk.content e) (g.met.D.Disk.tells_content d tells) (c.write.ensures.time tells) lies behind in
    let second = trying_call page u (g.D.Disk.moment e) (g.D.Disk.moment f) (g.D.Disk.left_since e) (g.D.Disk.left_since f) (g.D.Disk.content e) (g.D.Disk.content f) (g.met.D.Disk.tells_content e tells') (c.sync.ensures.time tells') behind synced in
    trying_then page u (g.D.Disk.moment d) (g.D.Disk.moment e) (g.D.Disk.moment f) (g.D.Disk.left_since d) (g.D.Disk.left_since e) (g.D.Disk.left_since f) first second

pub returns-in-Err-sync-clause-time : goal.returns-in-Err-sync-clause-time
returns-in-Err-sync-clause-time g c = λ tells u lies.
    let d = c.args.disk.now in
    let e = c.write.new.self in
    let f = c.sync.new.self in
    let page = c.args.marked.now in
    let behind = told_lies_written page c.take_back-back.result u (g.D.Disk.content d) (g.D.Disk.content e) (inr c.take_back-back.ensures) lies c.in-Ok.ensures.written in
    let same = told_lies_same page u (g.D.Disk.content e) (g.D.Disk.content f) c.in-Err-sync.ensures.failed behind in
    let tells' = subst IsTrue (sym c.write.ensures.telling) tells in
    let first = trying_call page u (g.D.Disk.moment d) (g.D.Disk.moment e) (g.D.Disk.left_since d) (g.D.Disk.left_since e) (g.D.Disk.content d) (g.D.Disk.content e) (g.met.D.Disk.tells_content d tells) (c.write.ensures.time tells) lies behind in
    let second = trying_call page u (g.D.Disk.moment e) (g.D.Disk.moment f) (g.D.Disk.left_since e) (g.D.Disk.left_since f) (g.D.Disk.content e) (g.D.Disk.content f) (g.met.D.Disk.tells_content e tells') (c.sync.ensures.time tells') behind same in
    trying_then page u (g.D.Disk.moment d) (g.D.Disk.moment e) (g.D.Disk.moment f) (g.D.Disk.left_since d) (g.D.Disk.left_since e) (g.D.Disk.left_since f) first second

-- The images.

pub returns-in-Err-clause-lies : goal.returns-in-Err-clause-lies
returns-in-Err-clause-lies g c = λ u lies.
    told_lies_failed c.args.marked.now c.take_back-back.result u (g.D.Disk.content c.args.disk.now) (g.D.Disk.content c.write.new.self) (inr c.take_back-back.ensures) lies c.in-Err.ensures.failed

pub returns-in-Ok-sync-clause-lies : goal.returns-in-Ok-sync-clause-lies
returns-in-Ok-sync-clause-lies g c = λ u lies.
    let e = c.write.new.self in
    let behind = told_lies_written c.args.marked.now c.take_back-back.result u (g.D.Disk.content c.args.disk.now) (g.D.Disk.content e) (inr c.take_back-back.ensures) lies c.in-Ok.ensures.written in
    told_lies_synced (g.D.Disk.block_count e) c.args.marked.now u (g.D.Disk.content e) (g.D.Disk.content c.sync.new.self) (g.met.D.Disk.well_formed e) behind c.in-Ok-sync.ensures.synced

pub returns-in-Err-sync-clause-lies : goal.returns-in-Err-sync-clause-lies
returns-in-Err-sync-clause-lies g c = λ u lies.
    let e = c.write.new.self in
    let behind = told_lies_written c.args.marked.now c.take_back-back.result u (g.D.Disk.content c.args.disk.now) (g.D.Disk.content e) (inr c.take_back-back.ensures) lies c.in-Ok.ensures.written in
    told_lies_same c.args.marked.now u (g.D.Disk.content e) (g.D.Disk.content c.sync.new.self) c.in-Err-sync.ensures.failed behind
