use Rattle.std.proofs.Common.{refl, ap}
use Rattle.image_read.specs.Faults.{field_fault}
use Rattle.image_read.proofs.reader.test_ident.Goals as goal

pub returns-in-Err-clause-fault : goal.returns-in-Err-clause-fault
returns-in-Err-clause-fault c = ap field_fault ((c.in-Err.ensures.differs _).0 refl)
