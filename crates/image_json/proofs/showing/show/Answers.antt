use Rattle.std.proofs.Common.{Some, string_bytes, refl, ap}
use Rattle.image_show.specs.Forms.{Written}
use Rattle.image_json.proofs.Ended.{whole_object}
use Rattle.image_json.proofs.showing.show.Goals as goal

pub returns-in-Ok-ended-clause-shown : goal.returns-in-Ok-ended-clause-shown
returns-in-Ok-ended-clause-shown g c =
    let begun = c.new-members.result in
    let form = c.show.new.form in
    let old : Written = record { taken = Some (string_bytes begun.text); last = begun.last } in
    let mid : Written = record { taken = Some (string_bytes form.text); last = form.last } in
    let shown = c.in-Ok.ensures.shown in (
      shown.0,
      (
        shown.1.0,
        whole_object shown.0 old mid (string_bytes form.text) (string_bytes c.in-Ok-ended.line) c.new-members.ensures.last
            (ap Some c.new-members.ensures.text) shown.1.1 refl c.in-Ok-ended.ensures,
      ),
    )
