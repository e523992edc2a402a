use Rattle.std.proofs.Common.{cond, sym, ap, ◌∙◌}
use Rattle.page_core.specs.declared.format.Format.TheVariants.{Plain, SkipZeros}
use Rattle.image_format.specs.declared.signature.area.Mark.{Mark}
use Rattle.plain_machine.specs.Trace.{is_set}
use Rattle.image_read.specs.Stream.{IsAreaOf}
use Rattle.resume_core.proofs.Headers.{cause_of_map}
use Rattle.resume_core.proofs.back.reader_of.Goals as goal

pub returns-in-Ok-clause-opens : goal.returns-in-Ok-clause-opens
returns-in-Ok-clause-opens c = λ v mark blocks.
    let area : IsAreaOf c.args.hw.now v c.extents.result.now c.args.mark.now.last c.args.blocks c.format_of.result = record {
      same_extents = c.extents.ensures.extents;
      same_last = ap (λ (m : Mark). m.last) mark;
      same_blocks = blocks;
      same_format = c.format_of.ensures ∙ ap (λ (m : Mark). cond (is_set m.flags 256) SkipZeros Plain) mark;
    } in (
      cause_of_map c.args.hw.now v c.args.mark.now mark (sym c.other_signature.ensures ∙ c.in-None.is) ∙ c.in-Ok.ensures.chain c.args.hw.now v area,
      λ check. c.in-Ok.ensures.reading c.args.hw.now v check area (ap (λ (m : Mark). m.first) mark),
    )
