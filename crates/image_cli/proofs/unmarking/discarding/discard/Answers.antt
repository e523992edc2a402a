use Rattle.std.proofs.Common.{◌≡◌, List, ℕ, ◌<◌, Bool, true, false, IsTrue, Option, Result, Ok, Err, OnOk, OnErr, inr, subst, sym, ap, ◌∙◌, refl, arith}
use Rattle.std.specs.Result.{is_err}
use Rattle.definitions.specs.Bytes.{IsPage}
use Rattle.definitions.specs.Disk.{Content, Changes, Writes, FailsToWrite, Syncs}
use Rattle.definitions.specs.SwapHeader.{IsMarked, taken_back}
use Rattle.image_cli.proofs.Blocks.{leaves_none, takes_back}
use Rattle.image_cli.proofs.Crashes.{AreWithin, at_begin, after_call, after_failed_write, after_sync, after_write, nothing_yet, time_goes_on}
use Rattle.image_cli.proofs.unmarking.discarding.discard.Goals as goal

on_ok : {T E P : Type 0} (r : Result T E) (b : Bool) → b ≡ false → b ≡ is_err r → OnOk r P → P
on_ok (Ok v) b f e h = h
on_ok (Err w) b f e h = cc

on_err : {T E P : Type 0} (r : Result T E) (b : Bool) → b ≡ true → b ≡ is_err r → OnErr r P → P
on_err (Ok v) b f e h = cc
on_err (Err w) b f e h = h

no : (b : Bool) → b ≡ false → IsTrue b → ⊥
no b f h = let e : b ≡ true = h in cc

pub returns-then-not-is_marked-clause-ends : goal.returns-then-not-is_marked-clause-ends
returns-then-not-is_marked-clause-ends g c =
    let read = on_ok c.read.result c.is_err.result c.if-is_err.false c.is_err.ensures.value c.read.ensures.bytes in
    (c.read.ensures.content, inr (c.read.new.into, (read, λ m. no c.is_marked.result c.if-not-is_marked.true (c.is_marked.ensures.marked.1 m))))

pub returns-then-is_marked-clause-ends : goal.returns-then-is_marked-clause-ends
returns-then-is_marked-clause-ends g c =
    let read = on_ok c.read.result c.is_err.result c.if-is_err.false c.is_err.ensures.value c.read.ensures.bytes in
    let back : IsMarked c.take_back-back.result = c.is_marked-2.ensures.marked.0 c.if-is_marked.true in
    (c.read.ensures.content, (c.read.new.into, (read, c.is_marked.ensures.marked.0 c.if-not-is_marked.false, subst IsMarked c.take_back-back.ensures back)))

pub returns-then-is_err-2-clause-fails : goal.returns-then-is_err-2-clause-fails
returns-then-is_err-2-clause-fails g c =
    let read = on_ok c.read.result c.is_err.result c.if-is_err.false c.is_err.ensures.value c.read.ensures.bytes in
    let tried = on_err c.write.result c.is_err-2.result c.if-is_err-2.true c.is_err-2.ensures.value c.write.ensures.failed in
    let new = g.D.Disk.content c.write.new.self in
    let back = subst (λ (page : List ℕ). Changes (FailsToWrite c.args.header page) (g.D.Disk.content c.read.new.self) new) c.take_back-back.ensures tried in (
      c.read.new.into,
      (
        read,
        c.is_marked.ensures.marked.0 c.if-not-is_marked.false,
        subst (λ (old : Option Content). Changes (FailsToWrite c.args.header (taken_back c.read.new.into)) old new) c.read.ensures.content back,
      ),
    )

pub returns-in-Ok-clause-ends : goal.returns-in-Ok-clause-ends
returns-in-Ok-clause-ends g c =
    let read = on_ok c.read.result c.is_err.result c.if-is_err.false c.is_err.ensures.value c.read.ensures.bytes in
    let written = on_ok c.write.result c.is_err-2.result c.if-is_err-2.false c.is_err-2.ensures.value c.write.ensures.written in
    let middle = g.D.Disk.content c.write.new.self in
    let back = subst (λ (page : List ℕ). Changes (Writes c.args.header page) (g.D.Disk.content c.read.new.self) middle) c.take_back-back.ensures written in
    let from_old = subst (λ (old : Option Content). Changes (Writes c.args.header (taken_back c.read.new.into)) old middle) c.read.ensures.content back in (
      c.read.new.into,
      (
        read,
        c.is_marked.ensures.marked.0 c.if-not-is_marked.false,
        takes_back c.args.header c.read.new.into (g.D.Disk.content c.args.disk.now) middle (g.D.Disk.content c.sync.new.self) from_old c.in-Ok.ensures.synced,
      ),
    )

pub returns-in-Ok-clause-unmarked : goal.returns-in-Ok-clause-unmarked
returns-in-Ok-clause-unmarked g c = λ done.
    let written = on_ok c.write.result c.is_err-2.result c.if-is_err-2.false c.is_err-2.ensures.value c.write.ensures.written in
    let inside : c.args.header < g.D.Disk.block_count c.read.new.self = omega (arith, c.read.ensures.blocks, c.blocks-2.ensures) in
    leaves_none (g.D.Disk.block_count c.read.new.self) c.args.header c.take_back-back.result (g.D.Disk.content c.read.new.self) (g.D.Disk.content c.write.new.self) (g.D.Disk.content c.sync.new.self)
    (g.met.D.Disk.well_formed c.read.new.self) inside c.is_marked-2.ensures.page (λ m. no c.is_marked-2.result c.if-is_marked.false (c.is_marked-2.ensures.marked.1 m)) written c.in-Ok.ensures.synced

pub returns-in-Err-clause-fails : goal.returns-in-Err-clause-fails
returns-in-Err-clause-fails g c =
    let read = on_ok c.read.result c.is_err.result c.if-is_err.false c.is_err.ensures.value c.read.ensures.bytes in
    let written = on_ok c.write.result c.is_err-2.result c.if-is_err-2.false c.is_err-2.ensures.value c.write.ensures.written in
    let new = g.D.Disk.content c.sync.new.self in
    let back = subst (λ (page : List ℕ). Changes (Writes c.args.header page) (g.D.Disk.content c.read.new.self) (g.D.Disk.content c.write.new.self)) c.take_back-back.ensures written in
    let from_old = subst (λ (old : Option Content). Changes (Writes c.args.header (taken_back c.read.new.into)) old (g.D.Disk.content c.write.new.self)) c.read.ensures.content back in (
      c.read.new.into,
      (
        read,
        c.is_marked.ensures.marked.0 c.if-not-is_marked.false,
        subst (λ (x : Option Content). Changes (Writes c.args.header (taken_back c.read.new.into)) (g.D.Disk.content c.args.disk.now) x) (sym c.in-Err.ensures.failed) from_old,
      ),
    )

-- What a crash may leave.

pub returns-then-header-blocks-clause-crash : goal.returns-then-header-blocks-clause-crash
returns-then-header-blocks-clause-crash g c = λ tells.
    let d = c.args.disk.now in
    at_begin c.args.header (g.D.Disk.content d) (g.D.Disk.left_since d (g.D.Disk.moment d)) (λ v left. g.met.D.Disk.only_now d v tells left)

pub returns-then-is_err-clause-crash : goal.returns-then-is_err-clause-crash
returns-then-is_err-clause-crash g c = λ tells.
    let d = c.args.disk.now in
    let e = c.read.new.self in
    let old = g.D.Disk.content d in
    let t = g.D.Disk.moment d in
    let begin = at_begin c.args.header old (g.D.Disk.left_since d t) (λ v left. g.met.D.Disk.only_now d v tells left) in
    after_call c.args.header t t (g.D.Disk.moment e) (g.D.Disk.left_since d) (g.D.Disk.left_since e) old old (g.D.Disk.content e) (g.met.D.Disk.tells_content d tells)
    (c.read.ensures.time tells) (omega arith) (nothing_yet c.args.header old old refl) (nothing_yet c.args.header old (g.D.Disk.content e) c.read.ensures.content) begin

pub returns-then-not-is_marked-clause-crash : goal.returns-then-not-is_marked-clause-crash
returns-then-not-is_marked-clause-crash g c = λ tells.
    let d = c.args.disk.now in
    let e = c.read.new.self in
    let old = g.D.Disk.content d in
    let t = g.D.Disk.moment d in
    let begin = at_begin c.args.header old (g.D.Disk.left_since d t) (λ v left. g.met.D.Disk.only_now d v tells left) in
    after_call c.args.header t t (g.D.Disk.moment e) (g.D.Disk.left_since d) (g.D.Disk.left_since e) old old (g.D.Disk.content e) (g.met.D.Disk.tells_content d tells)
    (c.read.ensures.time tells) (omega arith) (nothing_yet c.args.header old old refl) (nothing_yet c.args.header old (g.D.Disk.content e) c.read.ensures.content) begin

pub returns-then-is_marked-clause-crash : goal.returns-then-is_marked-clause-crash
returns-then-is_marked-clause-crash g c = λ tells.
    let d = c.args.disk.now in
    let e = c.read.new.self in
    let old = g.D.Disk.content d in
    let t = g.D.Disk.moment d in
    let begin = at_begin c.args.header old (g.D.Disk.left_since d t) (λ v left. g.met.D.Disk.only_now d v tells left) in
    after_call c.args.header t t (g.D.Disk.moment e) (g.D.Disk.left_since d) (g.D.Disk.left_since e) old old (g.D.Disk.content e) (g.met.D.Disk.tells_content d tells)
    (c.read.ensures.time tells) (omega arith) (nothing_yet c.args.header old old refl) (nothing_yet c.args.header old (g.D.Disk.content e) c.read.ensures.content) begin

pub returns-then-is_err-2-clause-crash : goal.returns-then-is_err-2-clause-crash
returns-then-is_err-2-clause-crash g c = λ tells.
    let header = c.args.header in
    let d = c.args.disk.now in
    let e = c.read.new.self in
    let f = c.write.new.self in
    let old = g.D.Disk.content d in
    let t = g.D.Disk.moment d in
    let told = g.met.D.Disk.tells_content d tells in
    let read = on_ok c.read.result c.is_err.result c.if-is_err.false c.is_err.ensures.value c.read.ensures.bytes in
    let marked = c.is_marked.ensures.marked.0 c.if-not-is_marked.false in
    let tried = on_err c.write.result c.is_err-2.result c.if-is_err-2.true c.is_err-2.ensures.value c.write.ensures.failed in
    let begin = at_begin header old (g.D.Disk.left_since d t) (λ v left. g.met.D.Disk.only_now d v tells left) in
    let same = nothing_yet header old (g.D.Disk.content e) c.read.ensures.content in
    let first = after_call header t t (g.D.Disk.moment e) (g.D.Disk.left_since d) (g.D.Disk.left_since e) old old (g.D.Disk.content e) told (c.read.ensures.time tells) (omega arith)
    (nothing_yet header old old refl) same begin in
    let telling = subst IsTrue (sym c.read.ensures.telling) tells in
    let later = time_goes_on t (g.D.Disk.moment e) (g.D.Disk.left_since d) (g.D.Disk.left_since e) old (g.D.Disk.content e) told (c.read.ensures.time tells) in
    after_call header t (g.D.Disk.moment e) (g.D.Disk.moment f) (g.D.Disk.left_since e) (g.D.Disk.left_since f) old (g.D.Disk.content e) (g.D.Disk.content f)
    (g.met.D.Disk.tells_content e telling) (c.write.ensures.time telling) later same
    (after_failed_write header c.read.new.into c.take_back-back.result old (g.D.Disk.content e) (g.D.Disk.content f) c.take_back-back.ensures marked read same tried) first

pub returns-in-Ok-clause-crash : goal.returns-in-Ok-clause-crash
returns-in-Ok-clause-crash g c = λ tells.
    let header = c.args.header in
    let d = c.args.disk.now in
    let e = c.read.new.self in
    let f = c.write.new.self in
    let h = c.sync.new.self in
    let old = g.D.Disk.content d in
    let t = g.D.Disk.moment d in
    let told = g.met.D.Disk.tells_content d tells in
    let read = on_ok c.read.result c.is_err.result c.if-is_err.false c.is_err.ensures.value c.read.ensures.bytes in
    let marked = c.is_marked.ensures.marked.0 c.if-not-is_marked.false in
    let written = on_ok c.write.result c.is_err-2.result c.if-is_err-2.false c.is_err-2.ensures.value c.write.ensures.written in
    let begin = at_begin header old (g.D.Disk.left_since d t) (λ v left. g.met.D.Disk.only_now d v tells left) in
    let same = nothing_yet header old (g.D.Disk.content e) c.read.ensures.content in
    let first = after_call header t t (g.D.Disk.moment e) (g.D.Disk.left_since d) (g.D.Disk.left_since e) old old (g.D.Disk.content e) told (c.read.ensures.time tells) (omega arith)
    (nothing_yet header old old refl) same begin in
    let telling = subst IsTrue (sym c.read.ensures.telling) tells in
    let telling-2 = subst IsTrue (sym c.write.ensures.telling) telling in
    let later = time_goes_on t (g.D.Disk.moment e) (g.D.Disk.left_since d) (g.D.Disk.left_since e) old (g.D.Disk.content e) told (c.read.ensures.time tells) in
    let later-2 = time_goes_on (g.D.Disk.moment e) (g.D.Disk.moment f) (g.D.Disk.left_since e) (g.D.Disk.left_since f) (g.D.Disk.content e) (g.D.Disk.content f)
    (g.met.D.Disk.tells_content e telling) (c.write.ensures.time telling) in
    let over = after_write header c.read.new.into c.take_back-back.result old (g.D.Disk.content e) (g.D.Disk.content f) c.take_back-back.ensures marked read same written in
    let second = after_call header t (g.D.Disk.moment e) (g.D.Disk.moment f) (g.D.Disk.left_since e) (g.D.Disk.left_since f) old (g.D.Disk.content e) (g.D.Disk.content f)
    (g.met.D.Disk.tells_content e telling) (c.write.ensures.time telling) later same over first in
    after_call header t (g.D.Disk.moment f) (g.D.Disk.moment h) (g.D.Disk.left_since f) (g.D.Disk.left_since h) old (g.D.Disk.content f) (g.D.Disk.content h)
    (g.met.D.Disk.tells_content f telling-2) (c.sync.ensures.time telling-2) (omega (arith, later, later-2)) over
    (after_sync header (g.D.Disk.block_count f) old (g.D.Disk.content f) (g.D.Disk.content h) (g.met.D.Disk.well_formed f) over c.in-Ok.ensures.synced) second

pub returns-in-Err-clause-crash : goal.returns-in-Err-clause-crash
returns-in-Err-clause-crash g c = λ tells.
    let header = c.args.header in
    let d = c.args.disk.now in
    let e = c.read.new.self in
    let f = c.write.new.self in
    let h = c.sync.new.self in
    let old = g.D.Disk.content d in
    let t = g.D.Disk.moment d in
    let told = g.met.D.Disk.tells_content d tells in
    let read = on_ok c.read.result c.is_err.result c.if-is_err.false c.is_err.ensures.value c.read.ensures.bytes in
    let marked = c.is_marked.ensures.marked.0 c.if-not-is_marked.false in
    let written = on_ok c.write.result c.is_err-2.result c.if-is_err-2.false c.is_err-2.ensures.value c.write.ensures.written in
    let begin = at_begin header old (g.D.Disk.left_since d t) (λ v left. g.met.D.Disk.only_now d v tells left) in
    let same = nothing_yet header old (g.D.Disk.content e) c.read.ensures.content in
    let first = after_call header t t (g.D.Disk.moment e) (g.D.Disk.left_since d) (g.D.Disk.left_since e) old old (g.D.Disk.content e) told (c.read.ensures.time tells) (omega arith)
    (nothing_yet header old old refl) same begin in
    let telling = subst IsTrue (sym c.read.ensures.telling) tells in
    let telling-2 = subst IsTrue (sym c.write.ensures.telling) telling in
    let later = time_goes_on t (g.D.Disk.moment e) (g.D.Disk.left_since d) (g.D.Disk.left_since e) old (g.D.Disk.content e) told (c.read.ensures.time tells) in
    let later-2 = time_goes_on (g.D.Disk.moment e) (g.D.Disk.moment f) (g.D.Disk.left_since e) (g.D.Disk.left_since f) (g.D.Disk.content e) (g.D.Disk.content f)
    (g.met.D.Disk.tells_content e telling) (c.write.ensures.time telling) in
    let over = after_write header c.read.new.into c.take_back-back.result old (g.D.Disk.content e) (g.D.Disk.content f) c.take_back-back.ensures marked read same written in
    let second = after_call header t (g.D.Disk.moment e) (g.D.Disk.moment f) (g.D.Disk.left_since e) (g.D.Disk.left_since f) old (g.D.Disk.content e) (g.D.Disk.content f)
    (g.met.D.Disk.tells_content e telling) (c.write.ensures.time telling) later same over first in
    after_call header t (g.D.Disk.moment f) (g.D.Disk.moment h) (g.D.Disk.left_since f) (g.D.Disk.left_since h) old (g.D.Disk.content f) (g.D.Disk.content h)
    (g.met.D.Disk.tells_content f telling-2) (c.sync.ensures.time telling-2) (omega (arith, later, later-2)) over
    (subst (λ (x : Option Content). AreWithin header old x) (sym c.in-Err.ensures.failed) over) second
