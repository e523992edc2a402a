use Rattle.std.proofs.Common.{ℕ, List, refl, subst, sym, ◌∙◌}
use Rattle.std.proofs.lemmas.Bool.{false≢true, iff_false}
use Rattle.plain_machine.specs.Machine.{table_len}
use Rattle.machine.specs.HardFault.{hardware_of}
use Rattle.machine.proofs.PartRuns.{HasRun, frames-runs, has_run-frames, runs-frames, table_runs}
use Rattle.machine.proofs.parts.has_frames.Goals as goal

pub returns-then-not-has_run : goal.returns-then-not-has_run
returns-then-not-has_run c =
    let h = hardware_of c.args.parts.now in
    let run = c.args.run in
    let Valid : List (ℕ × ℕ) → Type 0 = λ zones. HasRun zones run in (
      λ e. absurd (false≢true e),
      λ all. absurd (iff_false c.has_run.ensures c.if-not-has_run.true (subst Valid (sym c.requires.zones) (has_run-frames h run all))),
    )

pub returns-then-lie_apart : goal.returns-then-lie_apart
returns-then-lie_apart c =
    let h = hardware_of c.args.parts.now in
    let run = c.args.run in
    let a = c.frame_table.result in
    let b = c.slot_table.result in
    let Valid : List (ℕ × ℕ) → Type 0 = λ zones. HasRun zones run in
    let runs = table_runs h a b c.frame_table.ensures.first c.frame_table.ensures.len c.slot_table.ensures.first c.slot_table.ensures.len c.frame_table.ensures.zones c.requires.slots in
    let valid : HasRun h.zones run = subst Valid c.requires.zones (c.has_run.ensures.0 c.if-not-has_run.false) in (
      λ e. frames-runs h a b run runs valid (c.lie_apart.ensures.0 c.if-lie_apart.true) (c.lie_apart-then-lie_apart.ensures.0 e),
      λ all. c.lie_apart-then-lie_apart.ensures.1 (runs-frames h a b run runs c.requires.some all).1,
    )

pub returns-else-lie_apart : goal.returns-else-lie_apart
returns-else-lie_apart c =
    let h = hardware_of c.args.parts.now in
    let run = c.args.run in
    let a = c.frame_table.result in
    let b : ℕ × ℕ = (h.slot_table, table_len h.slots) in
    let runs = table_runs h a b c.frame_table.ensures.first c.frame_table.ensures.len refl refl c.frame_table.ensures.zones c.requires.slots in (
      λ e. absurd (false≢true (sym c.if-lie_apart.false ∙ e)),
      λ all. absurd (iff_false c.lie_apart.ensures c.if-lie_apart.false (runs-frames h a b run runs c.requires.some all).0),
    )
