use Rattle.std.proofs.Common.{ap, ◌∙◌}
use Rattle.core_machine.specs.Heads.{entry_count, machine_of, table_place}
use Rattle.core_machine.proofs.Handed.{at_start}
use Rattle.core_machine.proofs.segments.opening.read_header.Goals as goal

pub returns-clause-machine : goal.returns-clause-machine
returns-clause-machine g c = λ bytes e.
    c.in_ok-file_header_of.ensures.machine
    ∙ ap machine_of (c.in_ok-take_exact.ensures.piece bytes (at_start bytes (g.S.Source.remaining c.args.source.now) e))

pub returns-clause-place : goal.returns-clause-place
returns-clause-place g c = λ bytes e.
    c.in_ok-file_header_of.ensures.place
    ∙ ap table_place (c.in_ok-take_exact.ensures.piece bytes (at_start bytes (g.S.Source.remaining c.args.source.now) e))

pub returns-clause-count : goal.returns-clause-count
returns-clause-count g c = λ bytes e.
    c.in_ok-file_header_of.ensures.count
    ∙ ap entry_count (c.in_ok-take_exact.ensures.piece bytes (at_start bytes (g.S.Source.remaining c.args.source.now) e))

pub returns-clause-left : goal.returns-clause-left
returns-clause-left g c = λ bytes e.
    c.in_ok-take_exact.ensures.left bytes (at_start bytes (g.S.Source.remaining c.args.source.now) e)
