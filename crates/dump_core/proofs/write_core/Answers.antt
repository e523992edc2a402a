use Rattle.std.proofs.Common.{◌≡◌, ◌≤◌, ◌∙◌, ℕ, List, All, length, sym, ap, ap₂, subst, arith}
use Rattle.std.specs.List.{concat}
use Rattle.definitions.specs.Streams.{TakesAll}
use Rattle.definitions.specs.Zones.{numbers, zone_end}
use Rattle.definitions.specs.declared.info.Ident.{Ident}
use Rattle.definitions.proofs.SlotRuns.{numbers-runs_of}
use Rattle.definitions.proofs.ZoneNumbers.{top_at_most}
use Rattle.elf_core.specs.Elf.{head_bytes}
use Rattle.dump_core.specs.Cores.{identity_bytes, is_told, machine_of, pages_of, told_frames, told_runs}
use Rattle.dump_core.proofs.Pieces.{both_all, first_front, on_ok_then, second_front}
use Rattle.dump_core.proofs.RunLaws.{few_picked_runs, picked_end}
use Rattle.dump_core.proofs.write_core.Goals as goal

abbrev head_of : Ident → List (ℕ × ℕ) → List ℕ
head_of ident runs = head_bytes (machine_of ident) (identity_bytes ident) runs

pub put_head-requires-clause-few : goal.put_head-requires-clause-few
put_head-requires-clause-few g c =
    let d = c.args.dump.now in
    omega (arith, ap length c.requires.runs, few_picked_runs (is_told d.hw d.frames) d.hw.zones c.is_hardware.ensures.hardware.zones)

pub put_head-requires-clause-each : goal.put_head-requires-clause-each
put_head-requires-clause-each g c =
    let d = c.args.dump.now in
    let zones = c.is_hardware.ensures.hardware.zones in
    subst (λ (runs : List (ℕ × ℕ)). All (λ (run : ℕ × ℕ). zone_end run ≤ 65536) runs) (sym c.requires.runs)
    (picked_end (is_told d.hw d.frames) d.hw.zones 65536 zones (top_at_most d.hw.zones zones))

pub put_pages-requires-clause-within : goal.put_pages-requires-clause-within
put_pages-requires-clause-within g c =
    let d = c.args.dump.now in
    subst (λ (runs : List (ℕ × ℕ)). All (λ (run : ℕ × ℕ). zone_end run ≤ length d.frames) runs) (sym c.requires.runs)
    (picked_end (is_told d.hw d.frames) d.hw.zones (length d.frames) c.is_hardware.ensures.hardware.zones (omega (arith, c.requires.frames)))

pub put_pages-requires-clause-few : goal.put_pages-requires-clause-few
put_pages-requires-clause-few g c =
    let d = c.args.dump.now in
    let zones = c.is_hardware.ensures.hardware.zones in
    subst (λ (runs : List (ℕ × ℕ)). All (λ (run : ℕ × ℕ). zone_end run ≤ 65536) runs) (sym c.requires.runs)
    (picked_end (is_told d.hw d.frames) d.hw.zones 65536 zones (top_at_most d.hw.zones zones))

pub returns-in_err-put_head-clause-front : goal.returns-in_err-put_head-clause-front
returns-in_err-put_head-clause-front g c =
    let d = c.args.dump.now in
    let head : head_of c.ident.result.now c.args.runs.now ≡ head_of d.hw.ident (told_runs d.hw d.frames) = ap₂ head_of c.ident.ensures.ident c.requires.runs in
    first_front (head_of d.hw.ident (told_runs d.hw d.frames)) (concat (pages_of d.frames (told_frames d.hw d.frames)))
    (head_of c.ident.result.now c.args.runs.now) (g.K.Sink.taken c.args.out.now) (g.K.Sink.taken c.put_head.new.out) head c.put_head.ensures.front

pub returns-clause-whole : goal.returns-clause-whole
returns-clause-whole g c =
    let d = c.args.dump.now in
    let told = told_frames d.hw d.frames in
    let old = g.K.Sink.taken c.args.out.now in
    let mid = g.K.Sink.taken c.put_head.new.out in
    let new = g.K.Sink.taken c.put_pages.new.out in
    let head : head_of c.ident.result.now c.args.runs.now ≡ head_of d.hw.ident (told_runs d.hw d.frames) = ap₂ head_of c.ident.ensures.ident c.requires.runs in
    let body : concat (pages_of d.frames (numbers c.args.runs.now)) ≡ concat (pages_of d.frames told) =
    ap (λ (ns : List ℕ). concat (pages_of d.frames ns)) (ap numbers c.requires.runs ∙ numbers-runs_of told) in
    on_ok_then c.put_pages.result
    (λ (pages : TakesAll (concat (pages_of d.frames (numbers c.args.runs.now))) mid new).
    both_all (head_of d.hw.ident (told_runs d.hw d.frames)) (concat (pages_of d.frames told)) (head_of c.ident.result.now c.args.runs.now)
    (concat (pages_of d.frames (numbers c.args.runs.now))) old mid new head body c.in_ok-put_head.ensures.whole pages)
    c.put_pages.ensures.whole

pub returns-clause-front : goal.returns-clause-front
returns-clause-front g c =
    let d = c.args.dump.now in
    let told = told_frames d.hw d.frames in
    let old = g.K.Sink.taken c.args.out.now in
    let mid = g.K.Sink.taken c.put_head.new.out in
    let new = g.K.Sink.taken c.put_pages.new.out in
    let head : head_of c.ident.result.now c.args.runs.now ≡ head_of d.hw.ident (told_runs d.hw d.frames) = ap₂ head_of c.ident.ensures.ident c.requires.runs in
    let body : concat (pages_of d.frames (numbers c.args.runs.now)) ≡ concat (pages_of d.frames told) =
    ap (λ (ns : List ℕ). concat (pages_of d.frames ns)) (ap numbers c.requires.runs ∙ numbers-runs_of told) in
    second_front (head_of d.hw.ident (told_runs d.hw d.frames)) (concat (pages_of d.frames told)) (head_of c.ident.result.now c.args.runs.now)
    (concat (pages_of d.frames (numbers c.args.runs.now))) old mid new head body c.in_ok-put_head.ensures.whole c.put_pages.ensures.front
