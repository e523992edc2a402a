use Rattle.std.proofs.Common.{arith}
use Rattle.image_format.proofs.Entries.{link_none, kept_none}
use Rattle.image_format.proofs.map.writer.MapWriter.begin.Goals as goal

pub invariant_of-result : goal.invariant_of-result
invariant_of-result c = record { room = omega arith; page = kept_none c.zero.result c.zero.ensures }

pub returns-clause-link : goal.returns-clause-link
returns-clause-link c = link_none c.zero.result c.zero.ensures
