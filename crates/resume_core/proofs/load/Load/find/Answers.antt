use Rattle.std.proofs.Common.{◌≡◌, ◌<◌, ℕ, List, arith, ap, ◌∙◌, refl, rules}
use Rattle.definitions.specs.Disk as disk
use Rattle.definitions.specs.Slots.{block_of}
use Rattle.plain_machine.specs.Machine.{block_of_slot}
use Rattle.plain_machine.specs.Chain.{header_of}
use Rattle.plain_machine.specs.declared.reply.Reply.TheVariants as reply
use Rattle.plain_machine.specs.declared.reply.Left.TheVariants.{Same}
use Rattle.unmark.specs.declared.unmarking.Unmark.{Unmark}
use Rattle.resume_core.specs.declared.load.Stage.TheVariants as stage
use Rattle.resume_core.proofs.Facts.{row_of, count_of}
use Rattle.resume_core.proofs.Headers.{none_beyond, read_below}
use Rattle.resume_core.proofs.Finding.{none_row, find_failed_row, found_row, fault_row, none_found, image_found, fault_found}
use Rattle.resume_core.proofs.load.Load.find.Goals as goal
use Rattle.protocol_laws.proofs.Told.{content_of, told_of}

pub returns-then-block-from-clause-stepped : goal.returns-then-block-from-clause-stepped
returns-then-block-from-clause-stepped g c = record {
  row = λ k told.
      let whole = content_of (g.D.Disk.block_count c.args.disk.now) c.args.machine.now.blocks (g.D.Disk.content c.args.disk.now) k told c.requires.blocks (g.met.D.Disk.well_formed c.args.disk.now) in (
        k,
        told,
        row_of c.args.machine.now c.args.frames.now c.args.self.now c.args.machine.now c.args.frames.now _ c.stop.new.self reply.NoImage c.stop.result k k c.stop.ensures.load c.stop.ensures.reply
            (none_row c.args.machine.now c.args.frames.now c.args.self.now k c.requires.stage whole
            (none_beyond c.args.machine.now.hw (disk.as_it_reads k)
            (let count = count_of c.args.machine.now.blocks k whole in
            let at : c.block-block.result ≡ block_of_slot c.args.machine.now.hw 0 = c.block-block.ensures.block ∙ ap (λ (m : List (ℕ × ℕ × ℕ)). block_of m 0) c.extents.ensures.extents in
            let beyond = c.if-block-from.true in
            let from = c.from.ensures in
            omega arith))),
      );
  activity = search rules;
  loader = search rules;
  works = search rules;
  ready = search rules;
  fewer = search rules;
  machine = record { hw = refl; blocks = refl };
}

pub returns-in-Err-clause-stepped : goal.returns-in-Err-clause-stepped
returns-in-Err-clause-stepped g c = record {
  row = λ k told. (
    k,
    c.read.ensures.content ∙ told,
    row_of c.args.machine.now c.args.frames.now c.args.self.now c.args.machine.now c.args.frames.now _ c.stop-in-Err.new.self (reply.ReadFault Same) c.stop-in-Err.result k k c.stop-in-Err.ensures.load c.stop-in-Err.ensures.reply
        (find_failed_row c.args.machine.now c.args.frames.now c.args.self.now k c.requires.stage),
  );
  activity = search rules;
  loader = search rules;
  works = search rules;
  ready = search rules;
  fewer = search rules;
  machine = record { hw = refl; blocks = refl };
}

pub returns-in-Ok-found-clause-stepped : goal.returns-in-Ok-found-clause-stepped
returns-in-Ok-found-clause-stepped g c = record {
  row = λ k told.
      let whole = content_of (g.D.Disk.block_count c.args.disk.now) c.args.machine.now.blocks (g.D.Disk.content c.args.disk.now) k told c.requires.blocks (g.met.D.Disk.well_formed c.args.disk.now) in
      let count = count_of c.args.machine.now.blocks k whole in
      let at : c.block-block.result ≡ block_of_slot c.args.machine.now.hw 0 = c.block-block.ensures.block ∙ ap (λ (m : List (ℕ × ℕ × ℕ)). block_of m 0) c.extents.ensures.extents in
      let within = c.if-block-from.false in
      let from = c.from.ensures in
      let lt : block_of_slot c.args.machine.now.hw 0 < c.args.machine.now.blocks = omega arith in
      let read : c.read.new.into ≡ header_of c.args.machine.now.hw (disk.as_it_reads k) =
      told_of (λ (held : disk.Content). c.read.new.into ≡ disk.block (disk.as_it_reads held) c.block-block.result) (g.D.Disk.content c.args.disk.now) k told c.in-Ok.ensures.bytes
      ∙ ap (λ (b : ℕ). disk.block (disk.as_it_reads k) b) at ∙ read_below c.args.machine.now.hw (disk.as_it_reads k) c.args.machine.now.blocks count lt in (
        k,
        c.read.ensures.content ∙ told,
        row_of c.args.machine.now c.args.frames.now c.args.self.now c.args.machine.now c.args.frames.now _ _ (reply.Loading 2) (reply.Loading 2) k k
            (ap (λ (u : Unmark). record c.args.self.now { stage = stage.Back u c.in-Ok-found.mark }) c.of.ensures) refl
            (found_row c.args.machine.now c.args.frames.now c.args.self.now c.read.new.into c.in-Ok-found.mark k c.requires.ready.over.hardware c.requires.stage whole
            read c.in-Ok-found.ensures.found.0 c.in-Ok-found.ensures.found.1),
      );
  activity = search rules;
  loader = search rules;
  works = search rules;
  ready = search rules;
  fewer = search rules;
  machine = record { hw = refl; blocks = refl };
}

pub returns-in-Err-found-clause-stepped : goal.returns-in-Err-found-clause-stepped
returns-in-Err-found-clause-stepped g c = record {
  row = λ k told.
      let whole = content_of (g.D.Disk.block_count c.args.disk.now) c.args.machine.now.blocks (g.D.Disk.content c.args.disk.now) k told c.requires.blocks (g.met.D.Disk.well_formed c.args.disk.now) in
      let count = count_of c.args.machine.now.blocks k whole in
      let at : c.block-block.result ≡ block_of_slot c.args.machine.now.hw 0 = c.block-block.ensures.block ∙ ap (λ (m : List (ℕ × ℕ × ℕ)). block_of m 0) c.extents.ensures.extents in
      let within = c.if-block-from.false in
      let from = c.from.ensures in
      let lt : block_of_slot c.args.machine.now.hw 0 < c.args.machine.now.blocks = omega arith in
      let read : c.read.new.into ≡ header_of c.args.machine.now.hw (disk.as_it_reads k) =
      told_of (λ (held : disk.Content). c.read.new.into ≡ disk.block (disk.as_it_reads held) c.block-block.result) (g.D.Disk.content c.args.disk.now) k told c.in-Ok.ensures.bytes
      ∙ ap (λ (b : ℕ). disk.block (disk.as_it_reads k) b) at ∙ read_below c.args.machine.now.hw (disk.as_it_reads k) c.args.machine.now.blocks count lt in (
        k,
        c.read.ensures.content ∙ told,
        row_of c.args.machine.now c.args.frames.now c.args.self.now c.args.machine.now c.args.frames.now _ c.stop-in-Err-found.new.self c.in-Err-found.why c.stop-in-Err-found.result k k c.stop-in-Err-found.ensures.load c.stop-in-Err-found.ensures.reply
            (fault_row c.args.machine.now c.args.frames.now c.args.self.now c.read.new.into k c.in-Err-found.why c.requires.stage whole read c.in-Err-found.ensures.none),
      );
  activity = search rules;
  loader = search rules;
  works = search rules;
  ready = search rules;
  fewer = search rules;
  machine = record { hw = refl; blocks = refl };
}

pub returns-then-block-from-clause-found : goal.returns-then-block-from-clause-found
returns-then-block-from-clause-found g c = λ k told.
    let whole = content_of (g.D.Disk.block_count c.args.disk.now) c.args.machine.now.blocks (g.D.Disk.content c.args.disk.now) k told c.requires.blocks (g.met.D.Disk.well_formed c.args.disk.now) in
    none_found c.args.machine.now.hw (disk.as_it_reads k) c.stop.result
    (none_beyond c.args.machine.now.hw (disk.as_it_reads k)
    (let count = count_of c.args.machine.now.blocks k whole in
    let at : c.block-block.result ≡ block_of_slot c.args.machine.now.hw 0 = c.block-block.ensures.block ∙ ap (λ (m : List (ℕ × ℕ × ℕ)). block_of m 0) c.extents.ensures.extents in
    let beyond = c.if-block-from.true in
    let from = c.from.ensures in
    omega arith)) c.stop.ensures.reply

pub returns-in-Ok-found-clause-found : goal.returns-in-Ok-found-clause-found
returns-in-Ok-found-clause-found g c = λ k told.
    let whole = content_of (g.D.Disk.block_count c.args.disk.now) c.args.machine.now.blocks (g.D.Disk.content c.args.disk.now) k told c.requires.blocks (g.met.D.Disk.well_formed c.args.disk.now) in
    let count = count_of c.args.machine.now.blocks k whole in
    let at : c.block-block.result ≡ block_of_slot c.args.machine.now.hw 0 = c.block-block.ensures.block ∙ ap (λ (m : List (ℕ × ℕ × ℕ)). block_of m 0) c.extents.ensures.extents in
    let within = c.if-block-from.false in
    let from = c.from.ensures in
    let lt : block_of_slot c.args.machine.now.hw 0 < c.args.machine.now.blocks = omega arith in
    let read : c.read.new.into ≡ header_of c.args.machine.now.hw (disk.as_it_reads k) =
    told_of (λ (held : disk.Content). c.read.new.into ≡ disk.block (disk.as_it_reads held) c.block-block.result) (g.D.Disk.content c.args.disk.now) k told c.in-Ok.ensures.bytes
    ∙ ap (λ (b : ℕ). disk.block (disk.as_it_reads k) b) at ∙ read_below c.args.machine.now.hw (disk.as_it_reads k) c.args.machine.now.blocks count lt in
    image_found c.args.machine.now.hw (disk.as_it_reads k) c.read.new.into read c.in-Ok-found.ensures.found.0

pub returns-in-Err-found-clause-found : goal.returns-in-Err-found-clause-found
returns-in-Err-found-clause-found g c = λ k told.
    let whole = content_of (g.D.Disk.block_count c.args.disk.now) c.args.machine.now.blocks (g.D.Disk.content c.args.disk.now) k told c.requires.blocks (g.met.D.Disk.well_formed c.args.disk.now) in
    let count = count_of c.args.machine.now.blocks k whole in
    let at : c.block-block.result ≡ block_of_slot c.args.machine.now.hw 0 = c.block-block.ensures.block ∙ ap (λ (m : List (ℕ × ℕ × ℕ)). block_of m 0) c.extents.ensures.extents in
    let within = c.if-block-from.false in
    let from = c.from.ensures in
    let lt : block_of_slot c.args.machine.now.hw 0 < c.args.machine.now.blocks = omega arith in
    let read : c.read.new.into ≡ header_of c.args.machine.now.hw (disk.as_it_reads k) =
    told_of (λ (held : disk.Content). c.read.new.into ≡ disk.block (disk.as_it_reads held) c.block-block.result) (g.D.Disk.content c.args.disk.now) k told c.in-Ok.ensures.bytes
    ∙ ap (λ (b : ℕ). disk.block (disk.as_it_reads k) b) at ∙ read_below c.args.machine.now.hw (disk.as_it_reads k) c.args.machine.now.blocks count lt in
    fault_found c.args.machine.now.hw (disk.as_it_reads k) c.read.new.into c.in-Err-found.why c.stop-in-Err-found.result read c.in-Err-found.ensures.none c.stop-in-Err-found.ensures.reply
