use Rattle.std.proofs.Common.{◌≡◌, ℕ, ◌∷◌, ◌++◌, [], List, subst, sym}
use Rattle.definitions.specs.Streams.{TakesAll, TakesFront}
use Rattle.elf_core.specs.Elf.{load_bytes, loads_bytes}
use Rattle.image_core.proofs.RunCounts.{load_count, load_first, load_front, load_offset, load_whole}
use Rattle.image_core.proofs.Outcomes.{on_ok_then}
use Rattle.image_core.proofs.loads.Loads.end.Goals as goal

pub put_load-requires-clause-first : goal.put_load-requires-clause-first
put_load-requires-clause-first g c =
    let (start, (numbers, (old, (listed, can)))) = c.requires in
    load_first start numbers listed.ended [] c.in-Some.run' (c.in-Some.ensures numbers listed.ended listed.has) can

pub put_load-requires-clause-count : goal.put_load-requires-clause-count
put_load-requires-clause-count g c =
    let (start, (numbers, (old, (listed, can)))) = c.requires in
    load_count start numbers listed.ended [] c.in-Some.run' (c.in-Some.ensures numbers listed.ended listed.has) can

pub put_load-requires-clause-offset : goal.put_load-requires-clause-offset
put_load-requires-clause-offset g c =
    let (start, (numbers, (old, (listed, can)))) = c.requires in
    load_offset start numbers listed.ended [] c.in-Some.run' c.args.self.now.offset (c.in-Some.ensures numbers listed.ended listed.has) can listed.offset

pub returns-in-Some-clause-listed : goal.returns-in-Some-clause-listed
returns-in-Some-clause-listed g c = λ start numbers old listed.
    let all = c.in-Some.ensures numbers listed.ended listed.has in
    on_ok_then c.put_load.result
    (λ (whole : TakesAll (load_bytes c.args.self.now.offset c.in-Some.run'.0 c.in-Some.run'.1) (g.S.Sink.taken c.args.out.now) (g.S.Sink.taken c.put_load.new.out)).
    subst (λ (runs : List (ℕ × ℕ)). TakesAll (loads_bytes start runs) old (g.S.Sink.taken c.put_load.new.out)) (sym all)
    (load_whole start listed.ended c.in-Some.run' c.args.self.now.offset old (g.S.Sink.taken c.args.out.now) (g.S.Sink.taken c.put_load.new.out) listed.offset listed.taken whole))
    c.put_load.ensures.whole

pub returns-in-Some-clause-front : goal.returns-in-Some-clause-front
returns-in-Some-clause-front g c = λ start numbers old listed.
    let all = c.in-Some.ensures numbers listed.ended listed.has in
    subst (λ (runs : List (ℕ × ℕ)). TakesFront (loads_bytes start runs) old (g.S.Sink.taken c.put_load.new.out)) (sym all)
    (load_front start listed.ended c.in-Some.run' c.args.self.now.offset old (g.S.Sink.taken c.args.out.now) (g.S.Sink.taken c.put_load.new.out) listed.offset listed.taken c.put_load.ensures.front)
