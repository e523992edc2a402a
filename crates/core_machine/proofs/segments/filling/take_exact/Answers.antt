use Rattle.std.proofs.Common.{◌≡◌, ◌<◌, ◌+◌, ℕ, Some, arith, length, subst, ap, ◌∙◌}
use Rattle.core_machine.specs.Reading.{IsReadTo}
use Rattle.core_machine.specs.declared.segments.fault.Fault.TheVariants.{Short}
use Rattle.core_machine.proofs.Faults.{wanted-short}
use Rattle.core_machine.proofs.Handed.{told, read_to_end}
use Rattle.core_machine.proofs.segments.filling.take_exact.Goals as goal

pub returns-in-Ok-clause-whole : goal.returns-in-Ok-clause-whole
returns-in-Ok-clause-whole g c = λ bytes h.
    let size : length c.fill.new.piece ≡ length c.args.piece.now = c.fill.auto.piece in
    let next = told bytes c.args.at c.in-Ok.count c.fill.new.piece (g.S.Source.remaining c.args.source.now) (g.S.Source.remaining c.fill.new.source) h (omega (arith, size, c.in-Ok.ensures.count)) c.in-Ok.ensures.bytes in
    let within = next.0.within in
    omega (arith, within, size, c.if-count-piece.true)

pub returns-in-Ok-clause-left : goal.returns-in-Ok-clause-left
returns-in-Ok-clause-left g c = λ bytes h.
    let size : length c.fill.new.piece ≡ length c.args.piece.now = c.fill.auto.piece in
    let next = told bytes c.args.at c.in-Ok.count c.fill.new.piece (g.S.Source.remaining c.args.source.now) (g.S.Source.remaining c.fill.new.source) h (omega (arith, size, c.in-Ok.ensures.count)) c.in-Ok.ensures.bytes in
    let all : c.in-Ok.count ≡ length c.args.piece.now = c.if-count-piece.true ∙ size in
    subst (λ (n : ℕ). IsReadTo bytes (c.args.at + n) (g.S.Source.remaining c.fill.new.source)) all next.0

pub returns-in-Ok-2-clause-stopped : goal.returns-in-Ok-2-clause-stopped
returns-in-Ok-2-clause-stopped g c = λ bytes h.
    let size : length c.fill.new.piece ≡ length c.args.piece.now = c.fill.auto.piece in
    let count = c.in-Ok.count in
    let next = told bytes c.args.at count c.fill.new.piece (g.S.Source.remaining c.args.source.now) (g.S.Source.remaining c.fill.new.source) h (omega (arith, size, c.in-Ok.ensures.count)) c.in-Ok.ensures.bytes in
    let less : count < length c.args.piece.now = omega (arith, size, c.in-Ok.ensures.count, c.if-count-piece.false) in
    let all : length bytes ≡ c.args.at + count = read_to_end bytes (c.args.at + count) (g.S.Source.remaining c.fill.new.source) next.0 (c.in-Ok.ensures.end less) in
    wanted-short bytes (c.args.at + length c.args.piece.now) (omega (arith, all, less))
    ∙ ap (λ (n : ℕ). Some (Short n)) all
