use Rattle.std.proofs.Common.{ℕ, List, subst, arith}
use Rattle.std.proofs.lemmas.List.{take_all}
use Rattle.byte_streams.proofs.Taken.{TakesFront-all}
use Rattle.definitions.specs.Streams.{TakesAll}
use Rattle.definitions.specs.Zones.{numbers}
use Rattle.dump_core.proofs.PageRuns.{all_runs_more, front_of_runs, page_bytes}
use Rattle.dump_core.proofs.pages.put_pages.Goals as goal

pub put_run-requires-clause-within : goal.put_run-requires-clause-within
put_run-requires-clause-within g c = c.requires.within c.loop-run.run-index (0, 0) c.loop-run-test.true

pub put_run-requires-clause-few : goal.put_run-requires-clause-few
put_run-requires-clause-few g c = c.requires.few c.loop-run.run-index (0, 0) c.loop-run-test.true

pub returns-in_err-put_run-clause-front : goal.returns-in_err-put_run-clause-front
returns-in_err-put_run-clause-front g c =
    let taken = g.K.Sink.taken in
    front_of_runs c.args.frames.now c.args.runs.now c.loop-run.run-index (taken c.args.out.now) (taken c.loop-run.out) (taken c.put_run.new.out)
    c.loop-run-test.true c.loop-run.invariant.so_far c.put_run.ensures.front

pub loop-run-preserved : goal.loop-run-preserved
loop-run-preserved g c =
    let taken = g.K.Sink.taken in
    record {
      so_far = all_runs_more c.args.frames.now c.args.runs.now c.loop-run.run-index (taken c.args.out.now) (taken c.loop-run.out) (taken c.put_run.new.out) c.loop-run-test.true c.loop-run.invariant.so_far c.in_ok-put_run.ensures.whole;
      counted = omega (arith, c.loop-run.invariant.counted, c.put_run.ensures.counted);
    }

pub returns-clause-whole : goal.returns-clause-whole
returns-clause-whole g c =
    subst (λ (runs : List (ℕ × ℕ)). TakesAll (page_bytes c.args.frames.now (numbers runs)) (g.K.Sink.taken c.args.out.now) (g.K.Sink.taken c.loop-run.out))
    (take_all c.loop-run.run-index c.args.runs.now c.loop-run-test.false) c.loop-run.invariant.so_far

pub returns-clause-front : goal.returns-clause-front
returns-clause-front g c =
    TakesFront-all (page_bytes c.args.frames.now (numbers c.args.runs.now)) (g.K.Sink.taken c.args.out.now) (g.K.Sink.taken c.loop-run.out)
    (subst (λ (runs : List (ℕ × ℕ)). TakesAll (page_bytes c.args.frames.now (numbers runs)) (g.K.Sink.taken c.args.out.now) (g.K.Sink.taken c.loop-run.out))
    (take_all c.loop-run.run-index c.args.runs.now c.loop-run-test.false) c.loop-run.invariant.so_far)
