use Rattle.std.proofs.Common.{arith}
use Rattle.definitions.specs.Disk.{as_it_reads}
use Rattle.world_core.specs.StandsFor.{hardware_of, shown}
use Rattle.command_core.proofs.Resumed.{has_resumed}
use Rattle.machine_cli.proofs.Foretelling.{told_over, foretells}
use Rattle.machine_cli.proofs.dry.check.resume_over.Goals as goal

pub returns-in-Ok-clause-resumed : goal.returns-in-Ok-clause-resumed
returns-in-Ok-clause-resumed g c = λ held told original.
    let world = c.args.world.now in
    let ran = c.resume-ended.ensures.ran in
    let v = as_it_reads held in
    let holds = told_over _ (g.B.ReadOnly.state c.args.below) g.K.Original.state held c.over-overlay.ensures.content c.requires.original told in
    foretells (hardware_of world) world.frames c.args.check v c.resume-ended.new.world.frames c.resume-ended.result _ (has_resumed _ (hardware_of world) world.frames v c.args.check c.resume-ended.result ran.0 ran.1 (shown c.resume-ended.new.world) _ _ (ran.3.over v holds original) ran.2)

pub returns-in-Ok-clause-calls : goal.returns-in-Ok-clause-calls
returns-in-Ok-clause-calls g c =
    let calls = c.resume-ended.ensures.calls in
    let none = c.over-overlay.ensures.calls in
    let all = c.into_below-below.ensures.calls in
    omega arith

pub returns-in-Err-clause-calls : goal.returns-in-Err-clause-calls
returns-in-Err-clause-calls g c =
    let calls = c.resume-ended.ensures.calls in
    let none = c.over-overlay.ensures.calls in
    let all = c.into_below-below.ensures.calls in
    omega arith
