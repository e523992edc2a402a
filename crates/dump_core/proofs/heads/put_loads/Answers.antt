use Rattle.std.proofs.Common.{◌+◌, ◌≤◌, ℕ, List, get_or, subst, arith}
use Rattle.std.proofs.lemmas.List.{take_all}
use Rattle.byte_streams.proofs.Taken.{TakesFront-all}
use Rattle.definitions.specs.Streams.{TakesAll}
use Rattle.elf_core.specs.Elf.{loads_bytes}
use Rattle.dump_core.proofs.Loads.{all_loads_more, frames_in_more, front_of_loads}
use Rattle.dump_core.proofs.heads.put_loads.Goals as goal

pub put_load-requires : goal.put_load-requires
put_load-requires g c =
    let run = get_or c.args.runs.now c.loop-run.run-index (0, 0) in
    let ends : run.0 + run.1 ≤ 65536 = c.requires.each c.loop-run.run-index (0, 0) c.loop-run-test.true in
    omega (arith, ends, c.loop-run.invariant.far, c.requires.place, c.requires.few, c.loop-run-test.true)

pub returns-in_err-put_load-clause-front : goal.returns-in_err-put_load-clause-front
returns-in_err-put_load-clause-front g c =
    let taken = g.K.Sink.taken in
    let i = c.loop-run.invariant in
    front_of_loads c.args.start c.args.runs.now c.loop-run.run-index c.loop-run.offset (taken c.args.out.now) (taken c.loop-run.out) (taken c.put_load.new.out)
    c.loop-run-test.true i.place i.so_far c.put_load.ensures.front

pub loop-run-preserved : goal.loop-run-preserved
loop-run-preserved g c =
    let taken = g.K.Sink.taken in
    let i = c.loop-run.invariant in
    let run = get_or c.args.runs.now c.loop-run.run-index (0, 0) in
    let ends : run.0 + run.1 ≤ 65536 = c.requires.each c.loop-run.run-index (0, 0) c.loop-run-test.true in
    let more = frames_in_more c.args.runs.now c.loop-run.run-index c.loop-run-test.true in
    record {
      place = omega (arith, i.place, c.put_load.ensures.moved, more);
      far = omega (arith, i.far, c.put_load.ensures.moved, ends);
      so_far = all_loads_more c.args.start c.args.runs.now c.loop-run.run-index c.loop-run.offset (taken c.args.out.now) (taken c.loop-run.out) (taken c.put_load.new.out) c.loop-run-test.true i.place i.so_far c.in_ok-put_load.ensures.whole;
      counted = omega (arith, i.counted, c.put_load.ensures.counted);
    }

pub returns-clause-whole : goal.returns-clause-whole
returns-clause-whole g c =
    subst (λ (runs : List (ℕ × ℕ)). TakesAll (loads_bytes c.args.start runs) (g.K.Sink.taken c.args.out.now) (g.K.Sink.taken c.loop-run.out))
    (take_all c.loop-run.run-index c.args.runs.now c.loop-run-test.false) c.loop-run.invariant.so_far

pub returns-clause-front : goal.returns-clause-front
returns-clause-front g c =
    TakesFront-all (loads_bytes c.args.start c.args.runs.now) (g.K.Sink.taken c.args.out.now) (g.K.Sink.taken c.loop-run.out)
    (subst (λ (runs : List (ℕ × ℕ)). TakesAll (loads_bytes c.args.start runs) (g.K.Sink.taken c.args.out.now) (g.K.Sink.taken c.loop-run.out))
    (take_all c.loop-run.run-index c.args.runs.now c.loop-run-test.false) c.loop-run.invariant.so_far)
