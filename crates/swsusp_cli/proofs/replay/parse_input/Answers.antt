use Rattle.std.proofs.Common.{Result, Ok, Err, ap, sym, ◌∙◌, subst}
use Rattle.std.proofs.lemmas.Result.{err_from_is_err_and}
use Rattle.script.specs.Grammar.{ScriptValue, script_of}
use Rattle.swsusp_cli.specs.Readied.{IsReadied}
use Rattle.swsusp_cli.specs.declared.stop.Stop.{Stop}
use Rattle.swsusp_cli.proofs.Inputs.{script_lacking}
use Rattle.swsusp_cli.proofs.Scripts.{script_read, read_over}
use Rattle.swsusp_cli.proofs.replay.parse_input.Goals as goal

pub returns-clause-ready : goal.returns-clause-ready
returns-clause-ready g c =
    let before = g.I.Source.remaining c.args.input.now in
    let after = g.I.Source.remaining c.read_script.new.input in
    let items = c.in_ok-bytes.bytes.items in
    let script = c.in_ok-parse.field-0 in
    let says = ap script_of (sym c.as_slice.ensures.value) ∙ c.in_ok-parse.ensures.script in
    (λ bytes e. script_read before after items bytes (Ok script) c.in_ok-bytes.ensures.read says e, read_over before after items script c.in_ok-bytes.ensures.read says)

pub returns-in_err-parse-clause-ready : goal.returns-in_err-parse-clause-ready
returns-in_err-parse-clause-ready g c =
    let before = g.I.Source.remaining c.args.input.now in
    let after = g.I.Source.remaining c.read_script.new.input in
    let p = err_from_is_err_and c.from_residual-in_err-parse.result c.from_residual-in_err-parse.ensures.1 in
    let why = c.in_err-parse.field-0.0 in
    let lacks = script_lacking before why (λ bytes fault e is.
    script_read before after c.in_ok-bytes.bytes.items bytes (Err fault) c.in_ok-bytes.ensures.read
    (ap script_of (sym c.as_slice.ensures.value) ∙ c.in_err-parse.ensures.fault fault (ap Err is)) e) in
    subst (λ (r : Result ScriptValue Stop). IsReadied before after r) (sym (p.1 ∙ ap Err p.2)) lacks
