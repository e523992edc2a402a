use Rattle.std.proofs.Common.{◌∙◌, sym, subst}
use Rattle.command_kit.specs.Told.{RunResult, memory_told}
use Rattle.command_kit.specs.Told.{IsTold}
use Rattle.command_kit.specs.View.{sink_view}
use Rattle.image_cli.specs.Json.{PrintsCheck}
use Rattle.image_cli.proofs.Causes.{memory_cause}
use Rattle.expanded_disk.specs.Keeps.{FailsWith}
use Rattle.image_cli.specs.Runs.{lacks}
use Rattle.image_cli.proofs.Running.{over_expanded}
use Rattle.image_cli.proofs.expanded.checking.check_expanded_json.Goals as goal

pub returns-in-Ok-clause-outcome : goal.returns-in-Ok-clause-outcome
returns-in-Ok-clause-outcome g c =
    let state = g.K.Original.state in
    let first = sink_view g.O.Sink c.args.out.now in
    let last = sink_view g.O.Sink c.check_json-status.new.out in
    let note = sink_view g.N.Sink c.args.note.now in
    let noted = sink_view g.N.Sink c.check_json-status.new.note in
    let status = c.check_json-status.result in
    over_expanded (λ c n h b f. PrintsCheck c n h b f status first last note noted) (IsTold memory_told status first last note noted)
    state.content _ c.args.image.header _ _ _ state.faults (g.B.ReadOnly.state c.into_below.result).faults c.args.image.index
    c.in-Ok.ensures.content c.in-Ok.ensures.blocks c.in-Ok.ensures.faults
    (subst (λ below. FailsWith state.content state.faults (g.B.ReadOnly.state below).faults c.check_json-status.new.disk.faults) (sym c.into_below.ensures.below)
    (c.into_source.ensures.cause c.args.image.header (c.check_json-status.ensures.disk.content ∙ c.in-Ok.ensures.content) (c.check_json-status.ensures.disk.orders ∙ c.in-Ok.ensures.orders)))
    c.check_json-status.ensures.outcome

pub returns-in-Err-clause-outcome : goal.returns-in-Err-clause-outcome
returns-in-Err-clause-outcome g c =
    lacks (subst (λ (r : RunResult). IsTold r c.tell-status.result (sink_view g.O.Sink c.args.out.now) (sink_view g.O.Sink c.tell-status.new.out)
    (sink_view g.N.Sink c.args.note.now) (sink_view g.N.Sink c.tell-status.new.note)) c.no_memory.ensures.told c.tell-status.ensures.told)

pub returns-in-Err-clause-cause : goal.returns-in-Err-clause-cause
returns-in-Err-clause-cause g c =
    memory_cause c.no_memory.result.status c.tell-status.result c.no_memory.ensures.status c.tell-status.ensures.stream c.tell-status.ensures.status
