use Rattle.machine.proofs.KeptParts.{kept_regions_of}
use Rattle.machine.proofs.regions.Regions.of.Goals as goal

pub invariant_of-result : goal.invariant_of-result
invariant_of-result c = kept_regions_of c.args.regions.now c.copy_from_slice.new.self c.requires c.copy_from_slice.ensures.after
