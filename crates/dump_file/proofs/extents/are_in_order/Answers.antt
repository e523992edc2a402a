use Rattle.std.proofs.Common.{◌≡◌, ◌<◌, length, true, false, refl, sym, ◌∙◌, arith}
use Rattle.std.proofs.lemmas.Bool.{leb-false, leb-true}
use Rattle.dump_file.proofs.ExtentFaults.{fault_behind, fault_within, map_in_order}
use Rattle.dump_file.proofs.extents.are_in_order.Goals as goal

pub returns-in_default-clause-each : goal.returns-in_default-clause-each
returns-in_default-clause-each c ok = map_in_order c.args.extents.now c.args.slots (c.in_default.ensures.ok.0 refl)

pub returns-clause-each : goal.returns-clause-each
returns-clause-each c behind =
    fault_behind c.args.extents.now c.args.slots c.in-Err.at c.requires (leb-true (length c.args.extents.now) c.in-Err.at behind) ((c.in-Err.ensures.refused c.in-Err.at).0 refl)

pub returns-clause-wrong : goal.returns-clause-wrong
returns-clause-wrong c wrong each =
    let within : c.in-Err.at < length c.args.extents.now = leb-false (length c.args.extents.now) c.in-Err.at wrong in
    let both : true ≡ false =
    sym (each c.in-Err.at within) ∙ fault_within c.args.extents.now c.args.slots c.in-Err.at c.requires within ((c.in-Err.ensures.refused c.in-Err.at).0 refl) in
    absurd (grind (arith, both))
