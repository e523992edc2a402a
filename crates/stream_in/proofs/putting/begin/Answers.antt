use Rattle.std.proofs.Common.{◌+◌, ap, ap₂, arith}
use Rattle.stream_in.specs.declared.stop.InStop.TheVariants as stop
use Rattle.stream_in.proofs.Counts.{AreFew, are_few}
use Rattle.stream_in.proofs.putting.begin.Goals as goal

few : (c : goal.After-decode-info) → AreFew c.args.page.now c.decode-info.result
few c = are_few c.args.page.now c.decode-info.result c.decode-info.ensures c.requires.counts

pub overflow_cast-need : goal.overflow_cast-need
overflow_cast-need c = let f = few c in let most = f.few in omega arith

pub overflow_add-need : goal.overflow_add-need
overflow_add-need c = let f = few c in let most = f.few in omega arith

pub returns-then-free-need-clause-too_few : goal.returns-then-free-need-clause-too_few
returns-then-free-need-clause-too_few c =
    let f = are_few c.args.page.now c.decode-info.result c.decode-info.ensures c.requires.counts in
    ap₂ stop.NoSlots c.free_count-free.ensures (ap (λ n. n + 1026) f.pages)

pub returns-then-free-need-clause-fewer : goal.returns-then-free-need-clause-fewer
returns-then-free-need-clause-fewer c =
    let f = are_few c.args.page.now c.decode-info.result c.decode-info.ensures c.requires.counts in
    let pages = f.pages in omega arith

pub begin-requires-clause-room : goal.begin-requires-clause-room
begin-requires-clause-room c =
    let f = are_few c.args.page.now c.decode-info.result c.decode-info.ensures c.requires.counts in
    let writes = f.writes in omega arith

pub begin-requires-clause-blocks : goal.begin-requires-clause-blocks
begin-requires-clause-blocks c = λ place lt.
    let f = are_few c.args.page.now c.decode-info.result c.decode-info.ensures c.requires.counts in
    let writes = f.writes in c.requires.named place (omega arith)

pub returns-clause-enough : goal.returns-clause-enough
returns-clause-enough c =
    let f = are_few c.args.page.now c.decode-info.result c.decode-info.ensures c.requires.counts in
    let pages = f.pages in omega arith
