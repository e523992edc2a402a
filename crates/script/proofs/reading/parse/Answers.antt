use Rattle.std.proofs.Common.{◌≡◌, ◌+◌, ◌≤◌, length, Ok, Err, None, arith, refl, sym, ap, ◌∙◌, below_more}
use Rattle.std.proofs.lemmas.List.{length-drop}
use Rattle.script.specs.declared.fault.FaultKind.TheVariants as kind
use Rattle.script.specs.Grammar.{events_in, fault_at, first_line, first_of, line_count, lines_in, lines_of, script_by}
use Rattle.script.proofs.LineLaws.{line_here, lines_behind, few_lines, fewer_lines}
use Rattle.script.proofs.ScriptLaws.{events_in-turn, settings_in-nil, settings_in-turn, value_of-read, script_of-lines, script_of-long, value_of-stop, fault_at-none}
use Rattle.script.proofs.SettingsLaws.{few_bad, bad_within}
use Rattle.script.proofs.reading.parse.Goals as goal

pub returns-then-bytes-gt-MAX_BYTES-clause-fault :
    goal.returns-then-bytes-gt-MAX_BYTES-clause-fault
returns-then-bytes-gt-MAX_BYTES-clause-fault c =
    λ fault e. let long = script_of-long c.args.bytes.now c.if-bytes-gt-MAX_BYTES.true in cc

pub loop-left-init : goal.loop-left-init
unfolding events_in
loop-left-init c = record {
  left = refl;
  few = omega arith;
  settings = c.new-reader.ensures.settings ∙ sym settings_in-nil;
  events = c.new-reader.ensures.events;
  reading = c.new-reader.ensures.reading;
  no_fault = λ j less. absurd (omega arith);
}

pub overflow_add-number : goal.overflow_add-number
overflow_add-number c = omega (arith, few_lines c.args.bytes.now, c.loop-left.invariant.few, c.if-bytes-gt-MAX_BYTES.false)

pub returns-in-Err-clause-fault : goal.returns-in-Err-clause-fault
returns-in-Err-clause-fault c =
    let lines = lines_of c.args.bytes.now in
    let k = c.loop-left.number in
    let line = first_line c.in-Some.text.now in
    let inv = c.loop-left.invariant in
    let here = line_here c.args.bytes.now c.in-Some.text.now k (ap lines_in (sym c.in-Some.is) ∙ inv.left) in
    λ fault e. script_of-lines c.args.bytes.now (Err fault) (omega arith)
    (value_of-stop (line_count c.args.bytes.now + 1) lines k line c.loop-left.reader.settings c.loop-left.reader.events c.in-Err.stop fault here inv.settings inv.events c.in-Err.ensures.fault (cc) inv.no_fault)

pub loop-left-smaller : goal.loop-left-smaller
loop-left-smaller c = omega (arith, fewer_lines c.in-Some.text.now, ap length c.in-Ok.ensures.behind, ap (λ left. length (lines_in left)) c.in-Some.is)

pub loop-left-preserved : goal.loop-left-preserved
loop-left-preserved c =
    let lines = lines_of c.args.bytes.now in
    let k = c.loop-left.number in
    let line = first_line c.in-Some.text.now in
    let inv = c.loop-left.invariant in
    let left = ap lines_in (sym c.in-Some.is) ∙ inv.left in
    let here = line_here c.args.bytes.now c.in-Some.text.now k left in
    record {
      left = c.in-Ok.ensures.behind ∙ lines_behind c.args.bytes.now c.in-Some.text.now k left;
      few = omega (arith, here.0);
      settings = c.in-Ok.ensures.settings ∙ settings_in-turn lines k line c.loop-left.reader.settings here inv.settings;
      events = c.in-Ok.ensures.events ∙ events_in-turn lines k line c.loop-left.reader.events here inv.events;
      reading = c.in-Ok.ensures.reading;
      no_fault = below_more (λ j. fault_at lines j ≡ None) k inv.no_fault (fault_at-none lines k line c.loop-left.reader.settings c.loop-left.reader.events here inv.settings inv.events c.in-Ok.ensures.none);
    }

pub returns-in-Some-finish-clause-script : goal.returns-in-Some-finish-clause-script
returns-in-Some-finish-clause-script c =
    let lines = lines_of c.args.bytes.now in
    let inv = c.loop-left.invariant in
    let none_left = ap lines_in (sym c.in_default.is) ∙ inv.left in
    let all : length lines ≤ c.loop-left.number = omega (arith, ap length none_left, length-drop c.loop-left.number lines) in
    let read = value_of-read (line_count c.args.bytes.now + 1) lines c.loop-left.reader.settings c.loop-left.reader.events c.loop-left.number all inv.settings inv.events inv.no_fault in
    let none = c.in-Some-finish.ensures.no_fault (line_count c.args.bytes.now + 1) in
    script_of-lines c.args.bytes.now (Ok c.in-Some-finish.script) (omega arith)
    (read ∙ ap (λ faults. first_of faults (script_by c.loop-left.reader.settings c.loop-left.reader.events)) none ∙ ap (λ x. Ok x) (sym c.in-Some-finish.ensures.script))

pub returns-in-Some-finish-clause-few_bad : goal.returns-in-Some-finish-clause-few_bad
returns-in-Some-finish-clause-few_bad c = rw c.in-Some-finish.ensures.script (few_bad c.loop-left.reader.settings c.in-Some-finish.ensures.sound)

pub returns-in-Some-finish-clause-bad : goal.returns-in-Some-finish-clause-bad
returns-in-Some-finish-clause-bad c = rw c.in-Some-finish.ensures.script (bad_within c.loop-left.reader.settings c.loop-left.invariant.reading.settings c.in-Some-finish.ensures.sound)

pub returns-in-None-clause-fault : goal.returns-in-None-clause-fault
returns-in-None-clause-fault c =
    let lines = lines_of c.args.bytes.now in
    let inv = c.loop-left.invariant in
    let none_left = ap lines_in (sym c.in_default.is) ∙ inv.left in
    let all : length lines ≤ c.loop-left.number = omega (arith, ap length none_left, length-drop c.loop-left.number lines) in
    let behind = line_count c.args.bytes.now + 1 in
    let read = value_of-read behind lines c.loop-left.reader.settings c.loop-left.reader.events c.loop-left.number all inv.settings inv.events inv.no_fault in
    let at_end = c.in-None.ensures.fault refl behind in
    let told = c.at-in-None.ensures in
    let count = c.line_count.ensures.count in
    λ fault e.
    let same : record { line = behind; kind = kind.Hardware } ≡ fault = cc in
    script_of-lines c.args.bytes.now (Err fault) (omega arith)
    (read ∙ ap (λ faults. first_of faults (script_by c.loop-left.reader.settings c.loop-left.reader.events)) at_end ∙ ap (λ x. Err x) same)
