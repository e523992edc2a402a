use Rattle.std.proofs.Common.{ℕ, List, ◌∙◌, subst, arith}
use Rattle.definitions.specs.Streams.{TakesAll, TakesFront}
use Rattle.dump_tools.specs.Texts.{line_text}
use Rattle.byte_streams.proofs.Items.{all_of_more, front_of_more}
use Rattle.dump_tools.proofs.shown.printing.print.Goals as goal

pub returns-in_err-put_all-clause-front : goal.returns-in_err-put_all-clause-front
returns-in_err-put_all-clause-front g c =
    let taken = g.S.Sink.taken in
    let old = taken c.args.sink.now in
    let mid = taken c.loop-fact.sink in
    let new = taken c.put_all.new.sink in
    front_of_more line_text c.args.facts.now c.loop-fact.fact-index _ old mid new c.loop-fact-test.true c.loop-fact.invariant.so_far
    (subst (λ (text : List ℕ). TakesFront text mid new) (c.as_bytes.ensures.bytes ∙ c.line_of.ensures) c.put_all.ensures.front)

pub loop-fact-preserved : goal.loop-fact-preserved
loop-fact-preserved g c =
    let taken = g.S.Sink.taken in
    let old = taken c.args.sink.now in
    let mid = taken c.loop-fact.sink in
    let new = taken c.put_all.new.sink in
    record {
      so_far = all_of_more line_text c.args.facts.now c.loop-fact.fact-index _ old mid new c.loop-fact-test.true c.loop-fact.invariant.so_far
          (subst (λ (text : List ℕ). TakesAll text mid new) (c.as_bytes.ensures.bytes ∙ c.line_of.ensures) c.in_ok-put_all.ensures.whole);
      counted = omega (arith, c.loop-fact.invariant.counted, c.in_ok-put_all.ensures.counted);
    }
