-- How many steps a resume has left at most.
use Rattle.std.proofs.Common.{◌≤◌, arith}
use Rattle.unmark.specs.Unmarking.{calls_left}
use Rattle.unmark.specs.declared.unmarking.UnmarkCall.{UnmarkCall}
use Rattle.unmark.specs.declared.unmarking.UnmarkCall.TheVariants as call
use Rattle.resume_core.specs.StepsLeft.{loading_steps_left_at}
use Rattle.resume_core.specs.declared.load.Stage.{Stage}
use Rattle.resume_core.specs.declared.load.Stage.TheVariants as stage

few_calls : (next : UnmarkCall) → calls_left next ≤ 3
few_calls call.Read = omega arith
few_calls call.Write = omega arith
few_calls call.Sync = omega arith

pub loading_few : (s : Stage) → loading_steps_left_at s ≤ 65800
loading_few stage.Rest = omega arith
loading_few stage.Runs = omega arith
loading_few stage.Sync = omega arith
loading_few stage.Find = omega arith
loading_few (stage.Back unmark mark) = let few = few_calls unmark.next in omega arith
loading_few (stage.List chain) = omega arith
loading_few (stage.Read chain) = omega arith
