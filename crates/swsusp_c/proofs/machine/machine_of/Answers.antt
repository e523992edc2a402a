use Rattle.std.proofs.Common.{refl, ◌∙◌}
use Rattle.swsusp_c.proofs.Faults.{fault_told, right_code}
use Rattle.swsusp_c.proofs.machine.machine_of.Goals as goal

pub returns-in-Ok-clause-ok : goal.returns-in-Ok-clause-ok
returns-in-Ok-clause-ok c =
    let can : _ = c.in-Ok.ensures.ok.0 refl in
    right_code c.args.told.now c.args.memory.now
    (record {
      identity = c.in_ok-identity.ensures.ok.0 refl;
      ranges = can.0;
      some = can.1;
      few = can.2;
      header = can.3;
    })

pub returns-in-Err-clause-code : goal.returns-in-Err-clause-code
returns-in-Err-clause-code c =
    c.fault_code.ensures ∙ fault_told c.args.told.now c.args.memory.now (c.in_ok-identity.ensures.ok.0 refl) c.in-Err.fault c.in-Err.ensures.fault
