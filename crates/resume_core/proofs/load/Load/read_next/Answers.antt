use Rattle.std.proofs.Common.{◌≡◌, ◌<◌, ◌+◌, ℕ, length, rules, inl, inr, refl, sym, ap, ◌∙◌, subst, arith}
use Rattle.definitions.specs.Zones.{top}
use Rattle.image_read.specs.Answers.{Reads}
use Rattle.image_read.specs.Causes.{reply_of}
use Rattle.placement.specs.Waiting.{Awaiting, waiting_pages}
use Rattle.plain_machine.specs.declared.reply.Reply.TheVariants as reply
use Rattle.plain_machine.specs.declared.reply.Left.TheVariants.{Gone}
use Rattle.resume_core.specs.StepsLeft.{loading_steps_left_at}
use Rattle.resume_core.specs.declared.load.Load.{Load}
use Rattle.resume_core.specs.declared.load.Stage.TheVariants as stage
use Rattle.resume_core.proofs.Facts.{row_of}
use Rattle.resume_core.proofs.Finding.{activity_is}
use Rattle.resume_core.proofs.Listing.{read_failed_row, at_read, place_less}
use Rattle.resume_core.proofs.Placing.{read_can, reads_pages, can_go_on, now_reads, refused_row, read_on_row, KeepsPlaces, map_keeps, page_keeps, no_page}
use Rattle.resume_core.proofs.load.Load.read_next.Goals as goal
use Rattle.protocol_laws.proofs.Told.{content_of}

pub read_in_place-requires : goal.read_in_place-requires
read_in_place-requires g c =
    let over = c.requires.ready.over in
    record {
      ready = record {
        places = let tops = ap top over.waiting in let size = over.size in omega arith;
        of_origs = over.origs;
        of_zeros = over.zeros;
        reads = reads_pages c.args.machine.now c.args.frames.now c.args.runs.now c.args.self.now c.requires.ready c.requires.stage;
      };
      blocks = c.requires.blocks;
    }

pub read_on-requires : goal.read_on-requires
read_on-requires g c =
    let load = c.args.self.now in
    let read = c.read_in_place.ensures.read in
    let load' = c.read_in_place.new.self in
    let waiting = ap (λ (x : Load). x.waiting) c.read_in_place.ensures.load in
    record {
      ready = can_go_on c.args.machine.now c.args.frames.now c.read_in_place.new.frames c.args.runs.now load load' c.count_page.new.waiting _ c.read_in_place.result c.requires.ready read
          c.read_in_place.ensures.size c.read_in_place.ensures.origs c.read_in_place.ensures.zeros
          (c.count_page.ensures.waiting ∙ ap (λ (w : Awaiting). record w { loaded = c.count_page.new.waiting.loaded }) waiting) (inr (inl (c.in-Page.pfn, c.in-Page.is)));
      stage = search rules;
    }

pub read_on-requires-in-More : goal.read_on-requires-in-More
read_on-requires-in-More g c =
    let load = c.args.self.now in
    let read = c.read_in_place.ensures.read in
    let load' = c.read_in_place.new.self in
    let kept : load'.waiting ≡ load.waiting = ap (λ (x : Load). x.waiting) c.read_in_place.ensures.load in
    record {
      ready = can_go_on c.args.machine.now c.args.frames.now c.read_in_place.new.frames c.args.runs.now load load' load'.waiting _ c.read_in_place.result c.requires.ready read
          c.read_in_place.ensures.size c.read_in_place.ensures.origs c.read_in_place.ensures.zeros
          (kept ∙ ap (λ (n : ℕ). record load.waiting { loaded = n }) (sym (ap (λ (w : Awaiting). w.loaded) kept))) (no_page c.read_in_place.result c.in-More.is);
      stage = search rules;
    }

pub returns-in-Fault-clause-stepped : goal.returns-in-Fault-clause-stepped
returns-in-Fault-clause-stepped g c = record {
  row = λ k told.
      let load = c.args.self.now in
      let read = c.read_in_place.ensures.read in (
        k,
        c.read_in_place.ensures.content ∙ told,
        row_of c.args.machine.now c.args.frames.now load c.args.machine.now c.read_in_place.new.frames _ c.stop.new.self (reply.ReadFault Gone) c.stop.result k k c.stop.ensures.load c.stop.ensures.reply
            (read_failed_row c.args.machine.now c.args.frames.now c.read_in_place.new.frames load _ read.chain k (activity_is load (stage.Read read.chain) read.was)
            (at_read c.args.machine.now c.args.frames.now load read.chain k c.requires.ready.over.hardware read.was (read_can c.args.machine.now c.args.frames.now c.args.runs.now load read.chain read.was c.requires.ready).1) refl),
      );
  activity = search rules;
  loader = search rules;
  works = search rules;
  ready = search rules;
  fewer = search rules;
  machine = record { hw = refl; blocks = refl };
}

pub returns-in-Refused-clause-stepped : goal.returns-in-Refused-clause-stepped
returns-in-Refused-clause-stepped g c = record {
  row = λ k told.
      let load = c.args.self.now in
      let read = c.read_in_place.ensures.read in
      let load' = c.read_in_place.new.self in
      let chain' = record read.chain { reader = read.reader } in
      let mid = record load { stage = stage.Read chain'; origs = load'.origs; zeros = load'.zeros; page = read.page } in (
        k,
        c.read_in_place.ensures.content ∙ told,
        row_of c.args.machine.now c.args.frames.now load c.args.machine.now c.read_in_place.new.frames _ c.stop-in-Refused.new.self (reply_of c.in-Refused.cause) c.stop-in-Refused.result k k c.stop-in-Refused.ensures.load (c.stop-in-Refused.ensures.reply ∙ c.from.ensures)
            (refused_row c.args.machine.now c.args.frames.now c.read_in_place.new.frames load mid _ read.chain chain' c.read_in_place.result c.in-Refused.cause k c.requires.ready.over.hardware read.was
            (read_can c.args.machine.now c.args.frames.now c.args.runs.now load read.chain read.was c.requires.ready).1
            c.in-Refused.is (λ v t has reads. read.answers v t has (subst (Reads c.args.machine.now.hw v) (sym told) reads)) refl),
      );
  activity = search rules;
  loader = search rules;
  works = search rules;
  ready = search rules;
  fewer = search rules;
  machine = record { hw = refl; blocks = refl };
}

pub returns-in-Page-clause-stepped : goal.returns-in-Page-clause-stepped
returns-in-Page-clause-stepped g c = record {
  row = λ k told.
      let whole = content_of (g.D.Disk.block_count c.args.disk.now) c.args.machine.now.blocks (g.D.Disk.content c.args.disk.now) k told c.requires.blocks (g.met.D.Disk.well_formed c.args.disk.now) in
      let load = c.args.self.now in
      let read = c.read_in_place.ensures.read in
      let load' = c.read_in_place.new.self in
      let frames' = c.read_in_place.new.frames in
      let chain' = record read.chain { reader = read.reader } in
      let mid = record load { stage = stage.Read chain'; origs = load'.origs; zeros = load'.zeros; page = read.page } in
      let waiting = c.count_page.new.waiting in
      let kept : load'.waiting ≡ load.waiting = ap (λ (x : Load). x.waiting) c.read_in_place.ensures.load in
      let counted = subst (λ (w : Awaiting). w.loaded < length w.originals → waiting ≡ record w { loaded = w.loaded + 1 }) kept c.count_page.ensures.counted in (
        k,
        c.read_in_place.ensures.content ∙ told,
        read_on_row c.args.machine.now c.args.frames.now frames' load mid (record load' { waiting = waiting }) read.chain chain'
            c.read_on.new.machine c.read_on.new.frames c.read_on.new.self c.read_in_place.result c.read_on.result k
            c.requires.ready.over.hardware read.was (read_can c.args.machine.now c.args.frames.now c.args.runs.now load read.chain read.was c.requires.ready).1 c.read_on.ensures.proceeded.machine.hw whole
            refl refl (ap (λ (x : Load). record x { waiting = waiting }) (now_reads load load' chain' c.read_in_place.ensures.load read.stays))
            (ap (λ (w : Awaiting). w.free) (c.count_page.ensures.waiting) ∙ ap (λ (w : Awaiting). w.free) kept) (inr (inl (c.in-Page.pfn, c.in-Page.is)))
            read.puts.others
            (λ v t has reads. read.answers v t has (subst (Reads c.args.machine.now.hw v) (sym told) reads))
            (page_keeps c.args.machine.now.hw c.args.frames.now frames' load.waiting waiting read.chain chain' load mid c.read_in_place.result c.in-Page.pfn c.in-Page.is
            (ap (λ (w : Awaiting). w.originals) c.count_page.ensures.waiting ∙ ap (λ (w : Awaiting). w.originals) kept)
            (λ left. ap (waiting_pages frames') (counted left) ∙ read.puts.next left)
            (λ left. ap (λ (w : Awaiting). w.loaded) (counted left)))
            (c.read_on.ensures.row chain' read.stays),
      );
  activity = search rules;
  loader = search rules;
  works = c.read_on.ensures.proceeded.works;
  ready = c.read_on.ensures.proceeded.ready;
  fewer =
      let read = c.read_in_place.ensures.read in
      let load' = c.read_in_place.new.self in
      let less = place_less c.read_in_place.result read.chain.reader read.reader load'.origs.members load'.zeros.members (inr (c.in-Page.pfn, c.in-Page.is)) read.goes_on in
      let left = c.read_on.ensures.left (record read.chain { reader = read.reader }) read.stays in
      let was = ap loading_steps_left_at read.was in
      omega arith;
  machine = c.read_on.ensures.proceeded.machine;
}

pub returns-in-More-clause-stepped : goal.returns-in-More-clause-stepped
returns-in-More-clause-stepped g c = record {
  row = λ k told.
      let whole = content_of (g.D.Disk.block_count c.args.disk.now) c.args.machine.now.blocks (g.D.Disk.content c.args.disk.now) k told c.requires.blocks (g.met.D.Disk.well_formed c.args.disk.now) in
      let load = c.args.self.now in
      let read = c.read_in_place.ensures.read in
      let load' = c.read_in_place.new.self in
      let frames' = c.read_in_place.new.frames in
      let chain' = record read.chain { reader = read.reader } in
      let mid = record load { stage = stage.Read chain'; origs = load'.origs; zeros = load'.zeros; page = read.page } in
      let kept : load'.waiting ≡ load.waiting = ap (λ (x : Load). x.waiting) c.read_in_place.ensures.load in (
        k,
        c.read_in_place.ensures.content ∙ told,
        read_on_row c.args.machine.now c.args.frames.now frames' load mid load' read.chain chain' c.read_on-in-More.new.machine c.read_on-in-More.new.frames c.read_on-in-More.new.self c.read_in_place.result c.read_on-in-More.result k
            c.requires.ready.over.hardware read.was (read_can c.args.machine.now c.args.frames.now c.args.runs.now load read.chain read.was c.requires.ready).1 c.read_on-in-More.ensures.proceeded.machine.hw whole
            refl refl (ap (λ (x : Load). record x { waiting = load'.waiting }) (now_reads load load' chain' c.read_in_place.ensures.load read.stays))
            (ap (λ (w : Awaiting). w.free) kept) (no_page c.read_in_place.result c.in-More.is) read.puts.others
            (λ v t has reads. read.answers v t has (subst (Reads c.args.machine.now.hw v) (sym told) reads))
            (subst (λ (w : Awaiting). KeepsPlaces c.args.machine.now.hw c.args.frames.now load.waiting frames' w read.chain chain' load mid c.read_in_place.result) (sym kept)
            (map_keeps c.args.machine.now.hw c.args.frames.now frames' load.waiting read.chain chain' load mid c.read_in_place.result c.in-More.is read.puts.before))
            (c.read_on-in-More.ensures.row chain' read.stays),
      );
  activity = search rules;
  loader = search rules;
  works = c.read_on-in-More.ensures.proceeded.works;
  ready = c.read_on-in-More.ensures.proceeded.ready;
  fewer =
      let read = c.read_in_place.ensures.read in
      let load' = c.read_in_place.new.self in
      let chain' = record read.chain { reader = read.reader } in
      let was = ap loading_steps_left_at read.was in
      elim c.in-More.is [
        | inl more ↦
            let less = place_less c.read_in_place.result read.chain.reader read.reader load'.origs.members load'.zeros.members (inl more) read.goes_on in
            let left = c.read_on-in-More.ensures.left chain' read.stays in
            omega arith
        | inr done ↦
            let none = c.read_on-in-More.ensures.ended chain' read.stays (read.over done) in
            omega arith
      ];
  machine = c.read_on-in-More.ensures.proceeded.machine;
}
