use Rattle.std.proofs.Common.{◌≤◌, inl, inr, arith}
use Rattle.std.proofs.lemmas.Bool.{cases_Bool}
use Rattle.definitions.proofs.ZoneNumbers.{count_at_most, top_at_most}
use Rattle.image_format.specs.Counts.{are_bad_counts}
use Rattle.image_read.proofs.Counts.{fits_in}
use Rattle.image_read.proofs.reader.test_info.Goals as goal

pub returns-clause-fits : goal.returns-clause-fits
returns-clause-fits c =
    let zones = c.args.expected.now.zones.now in
    let info = c.args.info.now in
    let count = count_at_most zones c.count-own.ensures.zones in
    let top = top_at_most zones c.count-own.ensures.zones in
    let own = c.count-own.ensures.count in
    let few : c.count-own.result ≤ 65536 = omega arith in
    elim (cases_Bool (are_bad_counts c.args.format c.count-own.result info.image_pages info.pages)) [
      | inl bad ↦ absurd (let is = c.in_ok-counts.ensures.bad.1 bad in cc)
      | inr good ↦ fits_in c.args.format c.count-own.result info few good
    ]
