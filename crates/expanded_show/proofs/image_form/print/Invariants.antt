use Rattle.std.proofs.Common.{◌≤◌, take}
use Rattle.image_show.specs.Forms.{Puts}
use Rattle.expanded_show.proofs.image_form.print.Given as goal

abbrev pub invariant-loop-fact : goal.invariant-loop-fact
invariant-loop-fact g l = record {
  so_far : Puts g.F.Form.style (take l.fact-index l.facts) (g.F.Form.written l.fn.form) (g.F.Form.written l.form);
  counted : g.F.Form.faults l.fn.form ≤ g.F.Form.faults l.form;
}
