use Rattle.std.proofs.Common.{◌≡◌, length, arith}
use Rattle.dump_file.proofs.Dumps.{over_is}
use Rattle.dump_file.proofs.Refused.{asked}
use Rattle.dump_file.proofs.Handed.{told}
use Rattle.dump_file.proofs.read.is_over.Goals as goal

pub returns-in-Ok-clause-at : goal.returns-in-Ok-clause-at
returns-in-Ok-clause-at g c bytes k h =
    let remaining = g.S.Source.remaining in
    let size : length c.fill.new.piece ≡ 1 = c.fill.auto.piece in
    let next = told bytes k c.in-Ok.count c.fill.new.piece (remaining c.args.source.now) (remaining c.fill.new.source) h (omega (arith, size, c.in-Ok.ensures.count)) c.in-Ok.ensures.bytes in
    over_is bytes k c.in-Ok.count (remaining c.fill.new.source) next.0 (λ less. c.in-Ok.ensures.end less)

pub returns-in-Ok-clause-left : goal.returns-in-Ok-clause-left
returns-in-Ok-clause-left g c bytes k h =
    let remaining = g.S.Source.remaining in
    let size : length c.fill.new.piece ≡ 1 = c.fill.auto.piece in
    let next = told bytes k c.in-Ok.count c.fill.new.piece (remaining c.args.source.now) (remaining c.fill.new.source) h (omega (arith, size, c.in-Ok.ensures.count)) c.in-Ok.ensures.bytes in
    asked bytes k c.in-Ok.count (remaining c.fill.new.source) c.in-Ok.ensures.count next.0
