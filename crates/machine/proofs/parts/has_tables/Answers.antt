use Rattle.std.proofs.Common.{ℕ, false, List, subst, sym, ◌∙◌}
use Rattle.std.proofs.lemmas.Bool.{false≢true, iff_false}
use Rattle.std.proofs.lemmas.Bool.Decides.{same_from_decides}
use Rattle.machine.specs.HardFault.{hardware_of, has_tables}
use Rattle.machine.proofs.PartRuns.{HasRun, runs-tables, table_runs, tables-runs}
use Rattle.machine.proofs.PartTests.{decides_tables}
use Rattle.machine.proofs.parts.has_tables.Goals as goal

pub returns-then-not-lie_apart : goal.returns-then-not-lie_apart
returns-then-not-lie_apart c =
    let h = hardware_of c.args.parts.now in
    let a = c.frame_table-frame_table in
    let b = c.slot_table-slot_table in
    let runs = table_runs h a.result b.result a.ensures.first a.ensures.len b.ensures.first b.ensures.len a.ensures.zones c.requires.slots in
    same_from_decides false (has_tables h)
    (λ e. absurd (false≢true e), λ has. absurd (iff_false c.lie_apart.ensures c.if-not-lie_apart.true (runs-tables h a.result b.result runs has).2))
    (decides_tables h runs.some_frames runs.some_slots)

pub returns-then-has_run : goal.returns-then-has_run
returns-then-has_run c =
    let h = hardware_of c.args.parts.now in
    let a = c.frame_table-frame_table in
    let b = c.slot_table-slot_table in
    let runs = table_runs h a.result b.result a.ensures.first a.ensures.len b.ensures.first b.ensures.len a.ensures.zones c.requires.slots in
    let First : List (ℕ × ℕ) → Type 0 = λ zones. HasRun zones a.result in
    let Second : List (ℕ × ℕ) → Type 0 = λ zones. HasRun zones b.result in
    let one : HasRun h.zones a.result = subst First c.requires.zones (c.has_run.ensures.0 c.if-has_run.true) in
    let other = c.has_run-then-has_run in
    same_from_decides other.result (has_tables h) (
      λ e. tables-runs h a.result b.result runs one (subst Second c.requires.zones (other.ensures.0 e)) (c.lie_apart.ensures.0 c.if-not-lie_apart.false),
      λ has. other.ensures.1 (subst Second (sym c.requires.zones) (runs-tables h a.result b.result runs has).1),
    )
    (decides_tables h runs.some_frames runs.some_slots)

pub returns-else-has_run : goal.returns-else-has_run
returns-else-has_run c =
    let h = hardware_of c.args.parts.now in
    let a = c.frame_table-frame_table in
    let b = c.slot_table-slot_table in
    let runs = table_runs h a.result b.result a.ensures.first a.ensures.len b.ensures.first b.ensures.len a.ensures.zones c.requires.slots in
    let First : List (ℕ × ℕ) → Type 0 = λ zones. HasRun zones a.result in
    same_from_decides c.has_run.result (has_tables h) (
      λ e. absurd (false≢true (sym c.if-has_run.false ∙ e)),
      λ has. c.has_run.ensures.1 (subst First (sym c.requires.zones) (runs-tables h a.result b.result runs has).0),
    )
    (decides_tables h runs.some_frames runs.some_slots)
