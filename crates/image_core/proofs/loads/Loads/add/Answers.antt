use Rattle.std.proofs.Common.{◌≡◌, ℕ, ◌∷◌, ◌++◌, [], List, subst, append-nil, arith}
use Rattle.definitions.specs.Streams.{TakesAll}
use Rattle.elf_core.specs.Elf.{load_bytes}
use Rattle.image_core.specs.Runs.{HasEnded}
use Rattle.image_core.proofs.RunLaws.{frames_in-one}
use Rattle.image_core.proofs.RunCounts.{front_stays, load_count, load_first, load_front, load_offset, load_whole, run_ends}
use Rattle.image_core.proofs.Outcomes.{on_err_of, on_ok_then}
use Rattle.image_core.proofs.loads.Loads.add.Goals as goal

pub put_load-requires-clause-first : goal.put_load-requires-clause-first
put_load-requires-clause-first g c =
    let (start, (numbers, (old, (listed, can)))) = c.requires in
    load_first start (numbers ++ c.args.number ∷ []) listed.ended _ c.in-Some.run' (run_ends numbers c.args.number c.add.new.self listed.ended c.in-Some.run' (c.in-Some.ensures numbers listed.ended listed.has)) can

pub put_load-requires-clause-count : goal.put_load-requires-clause-count
put_load-requires-clause-count g c =
    let (start, (numbers, (old, (listed, can)))) = c.requires in
    load_count start (numbers ++ c.args.number ∷ []) listed.ended _ c.in-Some.run' (run_ends numbers c.args.number c.add.new.self listed.ended c.in-Some.run' (c.in-Some.ensures numbers listed.ended listed.has)) can

pub put_load-requires-clause-offset : goal.put_load-requires-clause-offset
put_load-requires-clause-offset g c =
    let (start, (numbers, (old, (listed, can)))) = c.requires in
    load_offset start (numbers ++ c.args.number ∷ []) listed.ended _ c.in-Some.run' c.args.self.now.offset (run_ends numbers c.args.number c.add.new.self listed.ended c.in-Some.run' (c.in-Some.ensures numbers listed.ended listed.has)) can listed.offset

pub returns-in-Some-clause-listed : goal.returns-in-Some-clause-listed
returns-in-Some-clause-listed g c = λ start numbers old listed.
    let has = c.in-Some.ensures numbers listed.ended listed.has in
    on_ok_then c.put_load.result
    (λ (whole : TakesAll (load_bytes c.args.self.now.offset c.in-Some.run'.0 c.in-Some.run'.1) (g.S.Sink.taken c.args.out.now) (g.S.Sink.taken c.put_load.new.out)). record {
      ended = listed.ended ++ c.in-Some.run' ∷ [];
      has = has;
      offset = omega (arith, c.put_load.ensures.moved, listed.offset, frames_in-one listed.ended c.in-Some.run');
      taken = load_whole start listed.ended c.in-Some.run' c.args.self.now.offset old (g.S.Sink.taken c.args.out.now) (g.S.Sink.taken c.put_load.new.out) listed.offset listed.taken whole;
    })
    c.put_load.ensures.whole

pub returns-in-Some-clause-front : goal.returns-in-Some-clause-front
returns-in-Some-clause-front g c = λ start numbers old listed.
    let has = c.in-Some.ensures numbers listed.ended listed.has in
    on_err_of c.put_load.result
    (front_stays start (numbers ++ c.args.number ∷ []) c.add.new.self.runs.last (listed.ended ++ c.in-Some.run' ∷ []) old (g.S.Sink.taken c.put_load.new.out) has.runs
    (load_front start listed.ended c.in-Some.run' c.args.self.now.offset old (g.S.Sink.taken c.args.out.now) (g.S.Sink.taken c.put_load.new.out) listed.offset listed.taken c.put_load.ensures.front))

pub returns-in-None-clause-listed : goal.returns-in-None-clause-listed
returns-in-None-clause-listed g c = λ start numbers old listed.
    let same = append-nil listed.ended in
    record {
      ended = listed.ended;
      has = subst (λ (ended : List (ℕ × ℕ)). HasEnded (numbers ++ c.args.number ∷ []) c.add.new.self ended) same (c.in-None.ensures numbers listed.ended listed.has);
      offset = listed.offset;
      taken = listed.taken;
    }
