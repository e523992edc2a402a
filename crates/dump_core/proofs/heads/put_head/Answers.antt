use Rattle.std.proofs.Common.{◌≡◌, ◌++◌, ℕ, List, length, ap, subst}
use Rattle.definitions.specs.Streams.{TakesAll, TakesFront}
use Rattle.byte_streams.proofs.Taken.{TakesAll-both, TakesFront-first, TakesFront-second}
use Rattle.elf_core.specs.Elf.{back_bytes, front_bytes, head_bytes, loads_bytes, page_offset}
use Rattle.dump_core.specs.Cores.{identity_bytes, machine_of}
use Rattle.dump_core.proofs.Pieces.{on_ok_then}
use Rattle.dump_core.proofs.heads.put_head.Goals as goal

-- the parts of the head, which says that there are `count` runs
abbrev Parts : ℕ → List ℕ → List (ℕ × ℕ) → ℕ → List ℕ
Parts machine identity runs count =
    (front_bytes machine count ++ loads_bytes (page_offset count) runs) ++ back_bytes identity count

parts_are : (machine : ℕ) (identity : List ℕ) (runs : List (ℕ × ℕ)) (count : ℕ) → count ≡ length runs → Parts machine identity runs count ≡ head_bytes machine identity runs
parts_are machine identity runs count e = ap (Parts machine identity runs) e

pub returns-in_err-put_front-clause-front : goal.returns-in_err-put_front-clause-front
returns-in_err-put_front-clause-front g c =
    let m = machine_of c.args.ident.now in
    let i = identity_bytes c.args.ident.now in
    let runs = c.args.runs.now in
    let n = c.count_runs-count.result in
    let old = g.K.Sink.taken c.args.out.now in
    let new = g.K.Sink.taken c.put_front.new.out in
    subst (λ (text : List ℕ). TakesFront text old new) (parts_are m i runs n c.count_runs-count.ensures)
    (TakesFront-first (front_bytes m n ++ loads_bytes (page_offset n) runs) (back_bytes i n) old new
    (TakesFront-first (front_bytes m n) (loads_bytes (page_offset n) runs) old new c.put_front.ensures.front))

pub returns-in_err-put_loads-clause-front : goal.returns-in_err-put_loads-clause-front
returns-in_err-put_loads-clause-front g c =
    let m = machine_of c.args.ident.now in
    let i = identity_bytes c.args.ident.now in
    let runs = c.args.runs.now in
    let n = c.count_runs-count.result in
    let old = g.K.Sink.taken c.args.out.now in
    let mid = g.K.Sink.taken c.put_front.new.out in
    let new = g.K.Sink.taken c.put_loads.new.out in
    let loads = subst (λ (k : ℕ). TakesFront (loads_bytes k runs) mid new) c.page_offset.ensures.place c.put_loads.ensures.front in
    subst (λ (text : List ℕ). TakesFront text old new) (parts_are m i runs n c.count_runs-count.ensures)
    (TakesFront-first (front_bytes m n ++ loads_bytes (page_offset n) runs) (back_bytes i n) old new
    (TakesFront-second (front_bytes m n) (loads_bytes (page_offset n) runs) old mid new c.in_ok-put_front.ensures.whole loads))

pub returns-clause-whole : goal.returns-clause-whole
returns-clause-whole g c =
    let m = machine_of c.args.ident.now in
    let i = identity_bytes c.args.ident.now in
    let runs = c.args.runs.now in
    let n = c.count_runs-count.result in
    let old = g.K.Sink.taken c.args.out.now in
    let mid = g.K.Sink.taken c.put_front.new.out in
    let then = g.K.Sink.taken c.put_loads.new.out in
    let new = g.K.Sink.taken c.put_back.new.out in
    let loads = subst (λ (k : ℕ). TakesAll (loads_bytes k runs) mid then) c.page_offset.ensures.place c.in_ok-put_loads.ensures.whole in
    let both = TakesAll-both (front_bytes m n) (loads_bytes (page_offset n) runs) old mid then c.in_ok-put_front.ensures.whole loads in
    on_ok_then c.put_back.result
    (λ (back : TakesAll (back_bytes i n) then new). subst (λ (text : List ℕ). TakesAll text old new) (parts_are m i runs n c.count_runs-count.ensures)
    (TakesAll-both (front_bytes m n ++ loads_bytes (page_offset n) runs) (back_bytes i n) old then new both back))
    c.put_back.ensures.whole

pub returns-clause-front : goal.returns-clause-front
returns-clause-front g c =
    let m = machine_of c.args.ident.now in
    let i = identity_bytes c.args.ident.now in
    let runs = c.args.runs.now in
    let n = c.count_runs-count.result in
    let old = g.K.Sink.taken c.args.out.now in
    let mid = g.K.Sink.taken c.put_front.new.out in
    let then = g.K.Sink.taken c.put_loads.new.out in
    let new = g.K.Sink.taken c.put_back.new.out in
    let loads = subst (λ (k : ℕ). TakesAll (loads_bytes k runs) mid then) c.page_offset.ensures.place c.in_ok-put_loads.ensures.whole in
    let both = TakesAll-both (front_bytes m n) (loads_bytes (page_offset n) runs) old mid then c.in_ok-put_front.ensures.whole loads in
    subst (λ (text : List ℕ). TakesFront text old new) (parts_are m i runs n c.count_runs-count.ensures)
    (TakesFront-second (front_bytes m n ++ loads_bytes (page_offset n) runs) (back_bytes i n) old then new both c.put_back.ensures.front)
