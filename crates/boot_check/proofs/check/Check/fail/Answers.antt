use Rattle.std.proofs.Common.{◌+◌, arith, ap, ◌∙◌}
use Rattle.image_walk.specs.declared.visit.BlockFault.TheVariants.{Unread}
use Rattle.boot_check.proofs.Between.{at_name}
use Rattle.boot_check.proofs.check.Check.fail.Goals as goal

pub returns-in-Name-clause-found : goal.returns-in-Name-clause-found
returns-in-Name-clause-found g c = λ content faults blocks header b asked found h pending.
    let self = c.args.self.now in
    let a = at_name content faults blocks header b c.in-Name.block self.stage self.names c.args.words.now asked found c.in-Name.is h pending in
    c.take_name.ensures.found content faults (faults + 1) blocks header b asked found a.1
    (record { read = tt; told = ap Unread (c.from.ensures ∙ a.0); rises = omega arith; unread = λ u. omega arith })
