use Rattle.std.proofs.Common.{◌≡◌, arith, length, ℕ, Option, IsSome, refl, sym, ap, ◌∙◌, subst, rules}
use Rattle.plain_machine.specs.declared.reply.Reply.TheVariants as reply
use Rattle.plain_machine.specs.declared.reply.Left.TheVariants.{Gone}
use Rattle.image_read.specs.Answers.{Reads}
use Rattle.image_read.specs.declared.reader.ReadStep.TheVariants as read_step
use Rattle.protocol_laws.specs.Rows.{TellsNewFault}
use Rattle.sector_disk.specs.Called.{AtMostOneCall}
use Rattle.sector_disk.proofs.Called.{fails_as}
use Rattle.placement.specs.Waiting.{with_data}
use Rattle.resume_core.specs.Refusals.{refusal_behind}
use Rattle.image_read.specs.Reading.{places_left}
use Rattle.resume_core.specs.StepsLeft.{loading_steps_left_at}
use Rattle.resume_core.specs.declared.load.Load.{Load}
use Rattle.resume_core.specs.declared.load.OpenChain.{OpenChain}
use Rattle.resume_core.specs.declared.load.Stage.TheVariants as stage
use Rattle.resume_core.proofs.Facts.{row_of}
use Rattle.resume_core.proofs.Finding.{activity_is}
use Rattle.resume_core.proofs.Listing.{read_failed_row, at_list, listed_on, list_can, lists_row_of, may_go_on, more_row, no_cause, over_list_row, place_less}
use Rattle.resume_core.proofs.Placing.{refused_list_row}
use Rattle.resume_core.proofs.load.Load.list_next.Goals as goal
use Rattle.protocol_laws.proofs.Told.{content_of}

pub returns-in-Fault-clause-stepped : goal.returns-in-Fault-clause-stepped
returns-in-Fault-clause-stepped g c = record {
  row = λ k told. (
    k,
    c.step.ensures.content ∙ told,
    row_of c.args.machine.now c.args.frames.now c.args.self.now c.args.machine.now c.args.frames.now _ c.stop.new.self (reply.ReadFault Gone) c.stop.result k k c.stop.ensures.load c.stop.ensures.reply
        (read_failed_row c.args.machine.now c.args.frames.now c.args.frames.now c.args.self.now _ c.in-List.chain k (activity_is c.args.self.now (stage.List c.in-List.chain) c.in-List.is)
        (at_list c.args.machine.now c.args.frames.now c.args.self.now c.in-List.chain k c.requires.ready.over.hardware c.in-List.is (list_can c.args.machine.now c.args.frames.now c.args.runs.now c.args.self.now c.in-List.chain c.in-List.is c.requires.ready).1) refl),
  );
  activity = search rules;
  loader = search rules;
  works = search rules;
  ready = search rules;
  fewer = search rules;
  machine = record { hw = refl; blocks = refl };
}

pub returns-in-Refused-clause-stepped : goal.returns-in-Refused-clause-stepped
returns-in-Refused-clause-stepped g c = record {
  row = λ k told.
      let load = c.args.self.now in
      let chain' = record c.in-List.chain { reader = c.step.new.self } in (
        k,
        c.step.ensures.content ∙ told,
        refused_list_row c.args.machine.now c.args.frames.now load (record load { stage = stage.List chain'; origs = c.step.new.origs; zeros = c.step.new.zeros; page = c.step.new.page }) c.refuse_listing.new.self
            c.in-List.chain chain' c.step.result c.in-Refused.cause c.refuse_listing.result k c.requires.ready.over.hardware c.in-List.is
            (list_can c.args.machine.now c.args.frames.now c.args.runs.now load c.in-List.chain c.in-List.is c.requires.ready).1 refl c.in-Refused.is
            (λ v t has reads. c.step.ensures.answers c.args.machine.now.hw v load.check t has (subst (Reads c.args.machine.now.hw v) (sym told) reads) c.expected_of-expected.ensures.zones c.expected_of-expected.ensures.ident)
            (c.refuse_listing.ensures.reply ∙ ap (λ (o : Option ℕ). refusal_behind o (length load.waiting.free) (length (with_data c.step.new.origs.members c.step.new.zeros.members)) c.in-Refused.cause) c.listed-listed.ensures) (ap (λ (x : Load). x.stage) c.refuse_listing.ensures.load),
      );
  activity = search rules;
  loader = search rules;
  works = search rules;
  ready = search rules;
  fewer = search rules;
  machine = record { hw = refl; blocks = refl };
}

pub returns-in-None-clause-stepped : goal.returns-in-None-clause-stepped
returns-in-None-clause-stepped g c = record {
  row = λ k told.
      let whole = content_of (g.D.Disk.block_count c.args.disk.now) c.args.machine.now.blocks (g.D.Disk.content c.args.disk.now) k told c.requires.blocks (g.met.D.Disk.well_formed c.args.disk.now) in
      let load = c.args.self.now in
      let chain' = record c.in-List.chain { reader = c.step.new.self } in
      let mid = record load { stage = stage.List chain'; origs = c.step.new.origs; zeros = c.step.new.zeros; page = c.step.new.page } in
      let end = record mid { stage = stage.List c.go_on.new.self } in
      let ready = may_go_on c.step.result c.in-List.chain.reader c.step.new.self c.step.new.origs.members c.step.new.zeros.members (no_cause c.step.result c.in-More.is) c.step.ensures.goes_on in (
        k,
        c.step.ensures.content ∙ told,
        listed_on c.args.machine.now c.args.frames.now load mid c.in-List.chain chain' c.args.machine.now c.args.frames.now end c.step.result c.go_on.result k
            c.requires.ready.over.hardware c.in-List.is (list_can c.args.machine.now c.args.frames.now c.args.runs.now load c.in-List.chain c.in-List.is c.requires.ready).1 refl whole refl refl (no_cause c.step.result c.in-More.is)
            (λ v t has reads. c.step.ensures.answers c.args.machine.now.hw v load.check t has (subst (Reads c.args.machine.now.hw v) (sym told) reads) c.expected_of-expected.ensures.zones c.expected_of-expected.ensures.ident)
            (lists_row_of c.args.machine.now c.args.frames.now mid chain' c.args.machine.now c.args.frames.now (record mid { stage = stage.List (record chain' { done = c.go_on.new.self.done }) }) end
            (reply.Loading c.go_on.new.self.done) c.go_on.result (ap (λ (x : OpenChain). record mid { stage = stage.List x }) c.go_on.ensures.chain) c.go_on.ensures.reply
            (more_row c.args.machine.now c.args.frames.now mid chain' c.go_on.new.self.done ready.saved (sym c.listed.ensures ∙ c.in-None.is) c.go_on.ensures.counted)),
      );
  activity = search rules;
  loader = search rules;
  works = search rules;
  ready = search rules;
  fewer =
      let less = place_less c.step.result c.in-List.chain.reader c.step.new.self c.step.new.origs.members c.step.new.zeros.members c.in-More.is c.step.ensures.goes_on in
      let was = ap loading_steps_left_at c.in-List.is in
      let same = ap (λ (x : OpenChain). places_left x.reader) c.go_on.ensures.chain in
      omega arith;
  machine = record { hw = refl; blocks = refl };
}

pub returns-in-Some : goal.returns-in-Some
returns-in-Some g c = record {
  stepped = record {
    row = λ k told.
        let whole = content_of (g.D.Disk.block_count c.args.disk.now) c.args.machine.now.blocks (g.D.Disk.content c.args.disk.now) k told c.requires.blocks (g.met.D.Disk.well_formed c.args.disk.now) in
        let load = c.args.self.now in
        let chain' = record c.in-List.chain { reader = c.step.new.self } in
        let mid = record load { stage = stage.List chain'; origs = c.step.new.origs; zeros = c.step.new.zeros; page = c.step.new.page } in (
          k,
          c.step.ensures.content ∙ told,
          listed_on c.args.machine.now c.args.frames.now load mid c.in-List.chain chain' c.begin_reads.new.machine c.begin_reads.new.frames c.begin_reads.new.self c.step.result c.begin_reads.result k
              c.requires.ready.over.hardware c.in-List.is (list_can c.args.machine.now c.args.frames.now c.args.runs.now load c.in-List.chain c.in-List.is c.requires.ready).1 c.begin_reads.ensures.proceeded.machine.hw whole refl refl (no_cause c.step.result c.in-More.is)
              (λ v t has reads. c.step.ensures.answers c.args.machine.now.hw v load.check t has (subst (Reads c.args.machine.now.hw v) (sym told) reads) c.expected_of-expected.ensures.zones c.expected_of-expected.ensures.ident)
              (c.begin_reads.ensures.row chain' refl (subst IsSome (sym c.in-Some.is ∙ c.listed.ensures) refl)),
        );
    activity = c.begin_reads.ensures.proceeded.activity;
    loader = c.begin_reads.ensures.proceeded.loader;
    works = c.begin_reads.ensures.proceeded.works;
    ready = c.begin_reads.ensures.proceeded.ready;
    fewer =
        let less = place_less c.step.result c.in-List.chain.reader c.step.new.self c.step.new.origs.members c.step.new.zeros.members c.in-More.is c.step.ensures.goes_on in
        let left = c.begin_reads.ensures.left (record c.in-List.chain { reader = c.step.new.self }) refl in
        let was = ap loading_steps_left_at c.in-List.is in
        omega arith;
    machine = c.begin_reads.ensures.proceeded.machine;
  };
  called = fails_as g.D.Disk AtMostOneCall (c.step.result ≡ read_step.Fault) (TellsNewFault c.begin_reads.result) c.args.disk.now c.step.new.disk
      (λ fault. absurd (c.begin_reads.ensures.proceeded.no_fault fault)) c.step.ensures.called;
}

pub returns-in-Done-clause-stepped : goal.returns-in-Done-clause-stepped
returns-in-Done-clause-stepped g c = record {
  row = λ k told. (
    k,
    c.step.ensures.content ∙ told,
    over_list_row c.args.machine.now c.args.frames.now c.args.self.now c.in-List.chain c.begin_reads-in-Done.new.machine c.begin_reads-in-Done.new.frames c.begin_reads-in-Done.new.self c.begin_reads-in-Done.result k c.in-List.is (c.step.ensures.done.0 c.in-Done.is),
  );
  activity = c.begin_reads-in-Done.ensures.proceeded.activity;
  loader = c.begin_reads-in-Done.ensures.proceeded.loader;
  works = c.begin_reads-in-Done.ensures.proceeded.works;
  ready = c.begin_reads-in-Done.ensures.proceeded.ready;
  fewer = search rules;
  machine = c.begin_reads-in-Done.ensures.proceeded.machine;
}
