use Rattle.std.proofs.Common.{◌∙◌, arith}
use Rattle.dump_core.proofs.PageRuns.{all_pages_more, front_of_pages}
use Rattle.dump_core.proofs.pages.put_run.Goals as goal

pub returns-in_err-put_all-clause-front : goal.returns-in_err-put_all-clause-front
returns-in_err-put_all-clause-front g c =
    let taken = g.K.Sink.taken in
    front_of_pages c.args.frames.now c.args.run.0 c.loop-i.i c.args.run.1 c.as_bytes.result.now (taken c.args.out.now) (taken c.loop-i.out) (taken c.put_all.new.sink)
    (omega arith) (c.as_bytes.ensures.bytes ∙ c.page.ensures.content) c.loop-i.invariant.so_far c.in_err-put_all.ensures.front

pub loop-i-preserved : goal.loop-i-preserved
loop-i-preserved g c =
    let taken = g.K.Sink.taken in
    record {
      so_far =
          all_pages_more c.args.frames.now c.args.run.0 c.loop-i.i c.as_bytes.result.now (taken c.args.out.now) (taken c.loop-i.out) (taken c.put_all.new.sink)
          (c.as_bytes.ensures.bytes ∙ c.page.ensures.content) c.loop-i.invariant.so_far c.in_ok-put_all.ensures.whole;
      counted = omega (arith, c.loop-i.invariant.counted, c.put_all.ensures.counted);
    }
