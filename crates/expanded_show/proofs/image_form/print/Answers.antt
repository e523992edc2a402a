use Rattle.std.proofs.Common.{arith}
use Rattle.image_show.proofs.Putting.{front_more, one_more, puts_none}
use Rattle.expanded_show.proofs.image_form.print.Goals as goal

pub loop-fact-init : goal.loop-fact-init
loop-fact-init g c = record { so_far = puts_none g.F.Form.style (g.F.Form.written c.args.form.now); counted = omega arith }

pub returns-in_err-put-clause-front : goal.returns-in_err-put-clause-front
returns-in_err-put-clause-front g c =
    let written = g.F.Form.written in
    front_more g.F.Form.style c.args.facts.now c.loop-fact.fact-index _ (written c.args.form.now) (written c.loop-fact.form) (written c.put.new.self) c.loop-fact-test.true
    c.loop-fact.invariant.so_far c.put.ensures.front

pub loop-fact-preserved : goal.loop-fact-preserved
loop-fact-preserved g c =
    let written = g.F.Form.written in
    record {
      so_far = one_more g.F.Form.style c.args.facts.now c.loop-fact.fact-index _ (written c.args.form.now) (written c.loop-fact.form) (written c.put.new.self) c.loop-fact-test.true
          c.loop-fact.invariant.so_far c.in_ok-put.ensures.whole;
      counted = omega (arith, c.loop-fact.invariant.counted, c.in_ok-put.ensures.counted);
    }
