use Rattle.std.proofs.Common.{◌≡◌, ◌<◌, Result, Ok, Err, sym, ap, ◌∙◌, subst, arith}
use Rattle.std.proofs.lemmas.Result.{err_from_is_err_and}
use Rattle.plain_machine.specs.Trace.{is_marked_by}
use Rattle.boot_resume.specs.Listed.{Lists}
use Rattle.boot_resume.specs.declared.cause.Cause.{Cause}
use Rattle.boot_resume.specs.declared.numbers.Tally.{Tally}
use Rattle.boot_resume.proofs.Listing.{lists_more, lists_none, lists_refused, tallied_le}
use Rattle.boot_resume.proofs.numbers.list_numbers.Goals as goal

pub loop-i-init : goal.loop-i-init
loop-i-init c = (omega arith, λ v q same is last data_is. lists_none c.args.machine.now v q c.args.before last data_is)

pub list_number-requires : goal.list_number-requires
list_number-requires c = omega (arith, c.loop-i.invariant.0, c.requires.room, c.requires.count)

pub loop-i-preserved : goal.loop-i-preserved
loop-i-preserved c =
    let more = tallied_le (is_marked_by c.args.format c.word.result) c.loop-i.tally.with_data c.in_ok-tally.tally.with_data c.in_ok-tally.ensures.tallied in
    let few : c.loop-i.i < 512 = omega (arith, c.requires.count) in (
      omega (arith, c.loop-i.invariant.0, more),
      λ v q same is last data_is.
          lists_more c.args.machine.now v c.args.format c.args.page.now q same is c.loop-i.i c.word.result c.loop-i.tally c.in_ok-tally.tally few c.word.ensures
          (c.loop-i.invariant.1 v q same is last data_is) c.in_ok-tally.ensures.tests c.in_ok-tally.ensures.last c.in_ok-tally.ensures.tallied,
    )

pub returns-in_err-tally-clause-lists : goal.returns-in_err-tally-clause-lists
returns-in_err-tally-clause-lists c = λ v q same is last data_is.
    let p = err_from_is_err_and c.from_residual.result c.from_residual.ensures.1 in
    let few : c.loop-i.i < 512 = omega (arith, c.requires.count) in
    let below : c.loop-i.i < c.args.count = omega arith in
    subst (λ (result : Result Tally Cause). Lists c.args.machine.now v q c.args.count result) (sym (p.1 ∙ ap Err p.2))
    (lists_refused c.args.machine.now v c.args.format c.args.page.now q same is c.loop-i.i c.word.result c.args.count c.loop-i.tally c.in_err-tally.field-0.0 few c.word.ensures below
    (c.loop-i.invariant.1 v q same is last data_is) c.in_err-tally.ensures.tests)

pub returns-clause-lists : goal.returns-clause-lists
returns-clause-lists c = λ v q same is last data_is.
    let all : c.loop-i.i ≡ c.args.count = omega arith in
    subst (λ n. Lists c.args.machine.now v q n (Ok c.loop-i.tally)) all (c.loop-i.invariant.1 v q same is last data_is)

pub returns-clause-data : goal.returns-clause-data
returns-clause-data c = omega (arith, c.loop-i.invariant.0)
