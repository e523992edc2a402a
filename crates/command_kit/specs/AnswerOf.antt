-- The result that an answer stands for.
use Rattle.command_kit.specs.Told.{RunResult}
use Rattle.command_kit.specs.declared.answer.Answer.{Answer}

abbrev pub told_by : Answer → RunResult
told_by answer = record { status = answer.status; out = answer.out; note = answer.note }
