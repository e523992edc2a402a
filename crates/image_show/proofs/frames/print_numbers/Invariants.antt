use Rattle.std.proofs.Common.{◌+◌, ◌≤◌, map, take}
use Rattle.image_check.specs.Numbers.{frame_of}
use Rattle.image_show.specs.Runs.{count_of}
use Rattle.image_show.specs.Told.{words_of}
use Rattle.image_show.proofs.FrameSteps.{NumbersSoFar}
use Rattle.image_show.proofs.frames.print_numbers.Given as goal

abbrev pub invariant-loop-i : goal.invariant-loop-i
invariant-loop-i g l = record {
  so_far : NumbersSoFar g.F.Form.style l.fn.runs.last l.runs.last (map (frame_of l.format) (take l.i (words_of l.page))) (g.F.Form.written l.fn.form) (g.F.Form.written l.form);
  count : count_of l.runs.last ≤ count_of l.fn.runs.last + l.i;
  counted : g.F.Form.faults l.fn.form ≤ g.F.Form.faults l.form;
}
