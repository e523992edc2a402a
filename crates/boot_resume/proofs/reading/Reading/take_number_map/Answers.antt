use Rattle.std.proofs.Common.{refl}
use Rattle.boot_resume.proofs.Handed.{number_page_goes}
use Rattle.boot_resume.proofs.reading.Reading.take_number_map.Goals as goal

pub returns-clause-leads : goal.returns-clause-leads
returns-clause-leads c = λ v call w is.
    number_page_goes c.args.machine.now v c.args.self.now _ c.args.page.now c.number_page-wanted.result c.in_ok-block.block call w is c.number_page-wanted.ensures c.in_ok-block.ensures.0 c.in_ok-block.ensures.1 c.map_behind-self.ensures.begins c.map_behind-self.ensures.goes_on refl refl refl refl refl refl refl
