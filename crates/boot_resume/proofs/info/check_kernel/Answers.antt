use Rattle.std.proofs.Common.{refl, ap}
use Rattle.boot_resume.specs.OnDisk.{field_cause}
use Rattle.boot_resume.proofs.info.check_kernel.Goals as goal

pub returns-in-Err : goal.returns-in-Err
returns-in-Err c = ap field_cause ((c.in-Err.ensures.differs c.in-Err.field).0 refl)
