use Rattle.hib_core.proofs.Leaving.{takes_none, gives_back, leaves_by, read_fails}
use Rattle.hib_core.specs.declared.hib.Stage.TheVariants as stage
use Rattle.std.proofs.Common.{◌≡◌, ◌<◌, List, refl, sym, ap, ◌∙◌, subst, ℕ, rules}
use Rattle.definitions.specs.Slots.{block_of}
use Rattle.plain_machine.specs.UsableArea.{kind_fault}
use Rattle.image_format.specs.AreaKind.{area_kind}
use Rattle.plain_machine.specs.declared.reply.Reply.TheVariants as reply
use Rattle.plain_machine.specs.declared.reply.Left.TheVariants.{Same}
use Rattle.hib_core.specs.declared.hib.Saving.{Saving}
use Rattle.hib_core.proofs.Facts.{row_of, after_step}
use Rattle.hib_core.proofs.Syncing.{gone_on, read_row, read_failed_row, not_swap_row}
use Rattle.hib_core.proofs.hib.Hib.read_header.Goals as goal
use Rattle.protocol_laws.proofs.Told.{content_of, header_read}

pub returns-in-Err-clause-stepped : goal.returns-in-Err-clause-stepped
returns-in-Err-clause-stepped g c = record {
  row = λ k told. (
    k,
    c.read.ensures.content ∙ told,
    row_of c.args.machine.now c.args.frames.now c.args.self.now c.args.machine.now c.give_up.new.frames _ c.give_up.new.self (reply.ReadFault Same) (reply.ReadFault Same) k k c.give_up.ensures.hib refl
        (read_failed_row c.args.machine.now c.args.frames.now c.give_up.new.frames c.args.runs.now c.args.self.now c.args.saving k
        c.requires.ready c.give_up.ensures.pages c.requires.at c.give_up.ensures.given),
  );
  phase = search rules;
  zones = search rules;
  fewer = search rules;
  works = refl;
  ready = search rules;
  machine = search rules;
  memory =
      read_fails (stage.Read c.args.saving) c.args.self.now.stage c.args.machine.now.hw c.args.frames.now c.give_up.new.frames c.requires.at (gives_back c.args.machine.now.hw c.args.frames.now c.give_up.new.frames c.give_up.ensures.given);
}

pub returns-in-None-clause-stepped : goal.returns-in-None-clause-stepped
returns-in-None-clause-stepped g c = record {
  row = λ k told.
      let whole = content_of (g.D.Disk.block_count c.args.disk.now) c.args.machine.now.blocks (g.D.Disk.content c.args.disk.now) k told c.requires.blocks (g.met.D.Disk.well_formed c.args.disk.now) in
      let block_is : c.block-block.result ≡ block_of c.args.machine.now.hw.extents 0 = c.block-block.ensures.block ∙ ap (λ (es : List (ℕ × ℕ × ℕ)). block_of es 0) c.extents.ensures.extents in
      let below = subst (λ (n : ℕ). n < c.args.machine.now.blocks) (sym block_is) c.requires.ready.header in
      let read = header_read c.args.machine.now.hw c.block-block.result c.args.machine.now.blocks c.read.new.into k (g.D.Disk.content c.args.disk.now) whole block_is below told c.in-Ok.ensures.bytes in (
        k,
        c.read.ensures.content ∙ told,
        row_of c.args.machine.now c.args.frames.now c.args.self.now c.args.machine.now c.args.frames.now (gone_on c.args.self.now (stage.Mark (after_step c.args.saving) c.read.new.into)) _ _ c.more.result k k
            (ap (λ (s : Saving). gone_on c.args.self.now (stage.Mark s c.read.new.into)) c.after_step-saving.ensures) (c.more.ensures ∙ ap (λ (s : Saving). reply.More s.done s.steps) c.after_step-saving.ensures)
            (read_row c.args.machine.now c.args.frames.now c.args.runs.now c.args.self.now c.args.saving c.read.new.into k c.requires.ready c.requires.at whole read),
      );
  phase = search rules;
  zones = refl;
  fewer = search rules;
  works = search rules;
  ready = search rules;
  machine = search rules;
  memory = leaves_by c.more.result _ c.args.self.now.stage c.args.machine.now.hw c.args.frames.now c.args.frames.now c.more.ensures (takes_none c.args.machine.now.hw c.args.frames.now);
}

pub returns-in-Some-clause-stepped : goal.returns-in-Some-clause-stepped
returns-in-Some-clause-stepped g c = record {
  row = λ k told.
      let whole = content_of (g.D.Disk.block_count c.args.disk.now) c.args.machine.now.blocks (g.D.Disk.content c.args.disk.now) k told c.requires.blocks (g.met.D.Disk.well_formed c.args.disk.now) in
      let block_is : c.block-block.result ≡ block_of c.args.machine.now.hw.extents 0 = c.block-block.ensures.block ∙ ap (λ (es : List (ℕ × ℕ × ℕ)). block_of es 0) c.extents.ensures.extents in
      let below = subst (λ (n : ℕ). n < c.args.machine.now.blocks) (sym block_is) c.requires.ready.header in
      let read = header_read c.args.machine.now.hw c.block-block.result c.args.machine.now.blocks c.read.new.into k (g.D.Disk.content c.args.disk.now) whole block_is below told c.in-Ok.ensures.bytes in (
        k,
        c.read.ensures.content ∙ told,
        not_swap_row c.args.machine.now c.args.frames.now c.give_up-in-Some.new.frames c.args.runs.now c.args.self.now c.give_up-in-Some.new.self c.args.saving k c.in-Some.why c.requires.ready c.requires.at whole
            (ap (λ (page : List ℕ). kind_fault (area_kind page)) (sym read) ∙ sym c.not_swap.ensures ∙ c.in-Some.is),
      );
  phase = search rules;
  zones = search rules;
  fewer = search rules;
  works = refl;
  ready = search rules;
  machine = search rules;
  memory = gives_back c.args.machine.now.hw c.args.frames.now c.give_up-in-Some.new.frames c.give_up-in-Some.ensures.given;
}
