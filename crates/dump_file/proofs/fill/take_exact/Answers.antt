use Rattle.std.proofs.Common.{◌≡◌, ◌<◌, ◌+◌, ℕ, Some, refl, arith, length, subst, ap, ◌∙◌}
use Rattle.dump_file.specs.Reading.{IsReadTo}
use Rattle.dump_file.specs.declared.dump.DumpKind.TheVariants.{Short}
use Rattle.dump_file.proofs.Chains.{wanted-there, wanted-short}
use Rattle.dump_file.proofs.Handed.{told, read_to_end}
use Rattle.dump_file.proofs.Refused.{goes_on, refuses}
use Rattle.dump_file.proofs.fill.take_exact.Goals as goal

pub returns-in-Ok-clause-read : goal.returns-in-Ok-clause-read
returns-in-Ok-clause-read g c bytes h =
    let size : length c.fill.new.piece ≡ length c.args.piece.now = c.fill.auto.piece in
    let next = told bytes c.args.at c.in-Ok.count c.fill.new.piece (g.S.Source.remaining c.args.source.now) (g.S.Source.remaining c.fill.new.source) h (omega (arith, size, c.in-Ok.ensures.count)) c.in-Ok.ensures.bytes in
    let all : c.in-Ok.count ≡ length c.args.piece.now = c.if-count-piece.true ∙ size in
    let within = next.0.within in
    goes_on _ _ _ _ _ (wanted-there bytes (c.args.at + length c.args.piece.now) (omega (arith, within, all)))
    (subst (λ (n : ℕ). IsReadTo bytes (c.args.at + n) (g.S.Source.remaining c.fill.new.source)) all next.0)

pub returns-in-Ok-2-clause-read : goal.returns-in-Ok-2-clause-read
returns-in-Ok-2-clause-read g c bytes h =
    let size : length c.fill.new.piece ≡ length c.args.piece.now = c.fill.auto.piece in
    let count = c.in-Ok.count in
    let next = told bytes c.args.at count c.fill.new.piece (g.S.Source.remaining c.args.source.now) (g.S.Source.remaining c.fill.new.source) h (omega (arith, size, c.in-Ok.ensures.count)) c.in-Ok.ensures.bytes in
    let less : count < length c.args.piece.now = omega (arith, size, c.in-Ok.ensures.count, c.if-count-piece.false) in
    let all : length bytes ≡ c.args.at + count = read_to_end bytes (c.args.at + count) (g.S.Source.remaining c.fill.new.source) next.0 (c.in-Ok.ensures.end less) in
    refuses bytes _ _ (c.args.at + count) (record { kind = Short; at = c.args.at + count }) c.fault.result _ c.fault.ensures
    (wanted-short bytes (c.args.at + length c.args.piece.now) (omega (arith, all, less)) ∙ ap (λ (n : ℕ). Some (record { kind = Short; at = n })) all)
    refl next.0
