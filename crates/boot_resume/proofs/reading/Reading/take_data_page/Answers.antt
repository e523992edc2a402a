use Rattle.std.proofs.Common.{◌+◌, ◌<◌, ◌^◌, ◌∷◌, refl, ap}
use Rattle.boot_resume.specs.Calls.{handed_from, places}
use Rattle.boot_resume.specs.declared.call.Call.TheVariants.{Page}
use Rattle.boot_resume.specs.declared.stage.Stage.TheVariants as stage
use Rattle.boot_resume.proofs.Handed.{data_goes, few_pages}
use Rattle.boot_resume.proofs.Going.{goes_as}
use Rattle.boot_resume.proofs.reading.Reading.take_data_page.Goals as goal

pub returns-clause-leads : goal.returns-clause-leads
returns-clause-leads c = λ m v page n map is.
    let few : c.args.self.now.page < 2 ^ 63 = few_pages m v c.args.self.now n.handing n.more c.args.self.now.few in
    goes_as m v _ page (places m v c.args.self.now.given ∷ handed_from m v (c.args.self.now.given + 1)) stage.Place c.place.result.stage (Page c.args.self.now.frame) c.place.result.call
    (ap (λ x. x.stage) c.place.ensures) (ap (λ x. x.call) c.place.ensures)
    (data_goes m v c.args.self.now _ page n map is refl refl refl refl refl refl refl refl (c.following-self.ensures few))
