use Rattle.std.proofs.Common.{IsNone, refl, sym, subst, arith}
use Rattle.image_read.specs.Reading.{HasReadAll}
use Rattle.resume_core.specs.Placing.{ReadsPages}
use Rattle.resume_core.specs.declared.load.Stage.{Stage}
use Rattle.resume_core.proofs.Putting.{puts_next, puts_apart}
use Rattle.resume_core.proofs.load.Load.read_in_place.Goals as goal

pub page_mut-page-requires : goal.page_mut-page-requires
page_mut-page-requires g c = c.in-Some.ensures.waits.within c.args.frames.now c.requires.ready.places

pub returns-in-Some-clause-read : goal.returns-in-Some-clause-read
returns-in-Some-clause-read g c =
    let load = c.args.self.now in
    let can = subst (λ (s : Stage). ReadsPages s c.args.machine.now load) c.in-Read.is c.requires.ready.reads in
    record {
      chain = c.in-Read.chain;
      reader = c.step-step.new.self;
      page = c.step-step.new.page;
      was = c.in-Read.is;
      stays = refl;
      puts = puts_next load.waiting c.args.frames.now c.in-Some.p c.step-step.new.page c.in-Some.ensures.waits c.requires.ready.places c.is_page.ensures.page;
      answers = λ v t has reads. c.step-step.ensures.answers c.args.machine.now.hw v load.check t has reads c.expected_of-expected.ensures.zones c.expected_of-expected.ensures.ident;
      goes_on = c.step-step.ensures.goes_on;
      over = λ done. let all = c.step-step.ensures.done.0 done in subst HasReadAll (sym (c.step-step.ensures.untouched all).same_reader) all;
      within = let same = c.step-step.ensures.stays.same_blocks in let within = can.0.within in omega arith;
    }

pub returns-in-None-clause-read : goal.returns-in-None-clause-read
returns-in-None-clause-read g c =
    let load = c.args.self.now in
    let can = subst (λ (s : Stage). ReadsPages s c.args.machine.now load) c.in-Read.is c.requires.ready.reads in
    record {
      chain = c.in-Read.chain;
      reader = c.step.new.self;
      page = c.step.new.page;
      was = c.in-Read.is;
      stays = refl;
      puts = puts_apart load.waiting c.args.frames.now c.step.new.page (c.next.ensures.all_wait.0 (subst IsNone (sym c.in-None.is) refl));
      answers = λ v t has reads. c.step.ensures.answers c.args.machine.now.hw v load.check t has reads c.expected_of-expected.ensures.zones c.expected_of-expected.ensures.ident;
      goes_on = c.step.ensures.goes_on;
      over = λ done. let all = c.step.ensures.done.0 done in subst HasReadAll (sym (c.step.ensures.untouched all).same_reader) all;
      within = let same = c.step.ensures.stays.same_blocks in let within = can.0.within in omega arith;
    }
