use Rattle.std.proofs.Common.{◌≡◌, IsTrue, inl, refl, sym, subst}
use Rattle.definitions.specs.Disk.{Changes, Writes, FailsToWrite, SameOutside}
use Rattle.stream_in.proofs.Contents.{changes_as}
use Rattle.stream_in.proofs.Undoing.{told_header, left_over}
use Rattle.stream_in.proofs.Trying.{told_lies_written, told_lies_failed, told_lies_synced, told_lies_same, trying_call, trying_then}
use Rattle.stream_in.proofs.header.write_mark.Goals as goal

pub returns-in-Err-clause-leaves : goal.returns-in-Err-clause-leaves
returns-in-Err-clause-leaves g c =
    let a = g.D.Disk.content c.args.disk.now in
    let b = g.D.Disk.content c.write.new.self in
    left_over c.args.marked.now c.undo.result a b (g.D.Disk.content c.undo.new.disk)
    (changes_as (FailsToWrite 0 c.args.marked.now) (SameOutside 0) a b (λ x y w. w.others) c.in-Err.ensures.failed)
    c.undo.ensures.left c.undo.ensures.gone c.undo.ensures.unsure

pub returns-in-Ok-sync-clause-marked : goal.returns-in-Ok-sync-clause-marked
returns-in-Ok-sync-clause-marked g c =
    told_header (g.D.Disk.block_count c.args.disk.now) c.args.marked.now c.args.marked.now
    (g.D.Disk.content c.args.disk.now) (g.D.Disk.content c.write.new.self) (g.D.Disk.content c.sync.new.self)
    (g.met.D.Disk.well_formed c.args.disk.now) c.requires c.is_page.ensures.page refl c.in-Ok.ensures.written c.in-Ok-sync.ensures.synced

pub returns-in-Err-sync-clause-leaves : goal.returns-in-Err-sync-clause-leaves
returns-in-Err-sync-clause-leaves g c =
    let a = g.D.Disk.content c.args.disk.now in
    let b = g.D.Disk.content c.write.new.self in
    let d = g.D.Disk.content c.sync.new.self in
    let only : Changes (SameOutside 0) a b = changes_as (Writes 0 c.args.marked.now) (SameOutside 0) a b (λ x y w. w.others) c.in-Ok.ensures.written in
    let same : b ≡ d = sym c.in-Err-sync.ensures.failed in
    left_over c.args.marked.now c.undo-in-Err-sync.result a d (g.D.Disk.content c.undo-in-Err-sync.new.disk)
    (subst (λ o. Changes (SameOutside 0) a o) same only)
    c.undo-in-Err-sync.ensures.left c.undo-in-Err-sync.ensures.gone c.undo-in-Err-sync.ensures.unsure

-- Moments.

pub returns-in-Err-clause-time : goal.returns-in-Err-clause-time
returns-in-Err-clause-time g c = λ tells u lies.
    let d = c.args.disk.now in
    let e = c.write.new.self in
    let f = c.undo.new.disk in
    let page = c.args.marked.now in
    let behind = told_lies_failed page page u (g.D.Disk.content d) (g.D.Disk.content e) (inl refl) lies c.in-Err.ensures.failed in
    let first = trying_call page u (g.D.Disk.moment d) (g.D.Disk.moment e) (g.D.Disk.left_since d) (g.D.Disk.left_since e) (g.D.Disk.content d) (g.D.Disk.content e) (g.met.D.Disk.tells_content d tells) (c.write.ensures.time tells) lies behind in
    trying_then page u (g.D.Disk.moment d) (g.D.Disk.moment e) (g.D.Disk.moment f) (g.D.Disk.left_since d) (g.D.Disk.left_since e) (g.D.Disk.left_since f) first
    (c.undo.ensures.time (subst IsTrue (sym c.write.ensures.telling) tells) u behind)

pub returns-in-Ok-sync-clause-time : goal.returns-in-Ok-sync-clause-time
returns-in-Ok-sync-clause-time g c = λ tells u lies.
    let d = c.args.disk.now in
    let e = c.write.new.self in
    let f = c.sync.new.self in
    let page = c.args.marked.now in
    let behind = told_lies_written page page u (g.D.Disk.content d) (g.D.Disk.content e) (inl refl) lies c.in-Ok.ensures.written in
    let synced = told_lies_synced (g.D.Disk.block_count e) page u (g.D.Disk.content e) (g.D.Disk.content f) (g.met.D.Disk.well_formed e) behind c.in-Ok-sync.ensures.synced in
    let tells' = subst IsTrue (sym c.write.ensures.telling) tells in
    let first = trying_call page u (g.D.Disk.moment d) (g.D.Disk.moment e) (g.D.Disk.left_since d) (g.D.Disk.left_since e) (g.D.Disk.content d) (g.D.Disk.content e) (g.met.D.Disk.tells_content d tells) (c.write.ensures.time tells) lies behind in
    let second = trying_call page u (g.D.Disk.moment e) (g.D.Disk.moment f) (g.D.Disk.left_since e) (g.D.Disk.left_since f) (g.D.Disk.content e) (g.D.Disk.content f) (g.met.D.Disk.tells_content e tells') (c.sync.ensures.time tells') behind synced in
    trying_then page u (g.D.Disk.moment d) (g.D.Disk.moment e) (g.D.Disk.moment f) (g.D.Disk.left_since d) (g.D.Disk.left_since e) (g.D.Disk.left_since f) first second

pub returns-in-Err-sync-clause-time : goal.returns-in-Err-sync-clause-time
returns-in-Err-sync-clause-time g c = λ tells u lies.
    let d = c.args.disk.now in
    let e = c.write.new.self in
    let f = c.sync.new.self in
    let h = c.undo-in-Err-sync.new.disk in
    let page = c.args.marked.now in
    let behind = told_lies_written page page u (g.D.Disk.content d) (g.D.Disk.content e) (inl refl) lies c.in-Ok.ensures.written in
    let same = told_lies_same page u (g.D.Disk.content e) (g.D.Disk.content f) c.in-Err-sync.ensures.failed behind in
    let tells' = subst IsTrue (sym c.write.ensures.telling) tells in
    let first = trying_call page u (g.D.Disk.moment d) (g.D.Disk.moment e) (g.D.Disk.left_since d) (g.D.Disk.left_since e) (g.D.Disk.content d) (g.D.Disk.content e) (g.met.D.Disk.tells_content d tells) (c.write.ensures.time tells) lies behind in
    let second = trying_call page u (g.D.Disk.moment e) (g.D.Disk.moment f) (g.D.Disk.left_since e) (g.D.Disk.left_since f) (g.D.Disk.content e) (g.D.Disk.content f) (g.met.D.Disk.tells_content e tells') (c.sync.ensures.time tells') behind same in
    trying_then page u (g.D.Disk.moment d) (g.D.Disk.moment e) (g.D.Disk.moment h) (g.D.Disk.left_since d) (g.D.Disk.left_since e) (g.D.Disk.left_since h) first
    (trying_then page u (g.D.Disk.moment e) (g.D.Disk.moment f) (g.D.Disk.moment h) (g.D.Disk.left_since e) (g.D.Disk.left_since f) (g.D.Disk.left_since h) second
    (c.undo-in-Err-sync.ensures.time (subst IsTrue (sym c.sync.ensures.telling) tells') u same))

-- The images.

pub returns-in-Err-clause-lies : goal.returns-in-Err-clause-lies
returns-in-Err-clause-lies g c = λ u lies.
    c.undo.ensures.lies u (told_lies_failed c.args.marked.now c.args.marked.now u (g.D.Disk.content c.args.disk.now) (g.D.Disk.content c.write.new.self) (inl refl) lies c.in-Err.ensures.failed)

pub returns-in-Ok-sync-clause-lies : goal.returns-in-Ok-sync-clause-lies
returns-in-Ok-sync-clause-lies g c = λ u lies.
    let e = c.write.new.self in
    let behind = told_lies_written c.args.marked.now c.args.marked.now u (g.D.Disk.content c.args.disk.now) (g.D.Disk.content e) (inl refl) lies c.in-Ok.ensures.written in
    told_lies_synced (g.D.Disk.block_count e) c.args.marked.now u (g.D.Disk.content e) (g.D.Disk.content c.sync.new.self) (g.met.D.Disk.well_formed e) behind c.in-Ok-sync.ensures.synced

pub returns-in-Err-sync-clause-lies : goal.returns-in-Err-sync-clause-lies
returns-in-Err-sync-clause-lies g c = λ u lies.
    let e = c.write.new.self in
    let behind = told_lies_written c.args.marked.now c.args.marked.now u (g.D.Disk.content c.args.disk.now) (g.D.Disk.content e) (inl refl) lies c.in-Ok.ensures.written in
    c.undo-in-Err-sync.ensures.lies u (told_lies_same c.args.marked.now u (g.D.Disk.content e) (g.D.Disk.content c.sync.new.self) c.in-Err-sync.ensures.failed behind)
