use Rattle.std.proofs.Common.{sym, ◌∙◌, rules}
use Rattle.image_write.proofs.Mapping.{frames_of_map}
use Rattle.image_write.proofs.writer.Writer.put.Goals as goal

pub returns-then-is_at_map-clause-page : goal.returns-then-is_at_map-clause-page
returns-then-is_at_map-clause-page g c = c.write_map.ensures.page c.args.page.now c.args.frames.now

pub returns-then-is_at_map-clause-writer : goal.returns-then-is_at_map-clause-writer
returns-then-is_at_map-clause-writer g c = c.write_map.ensures.writer c.args.frames.now

pub returns-then-is_at_map-clause-slots : goal.returns-then-is_at_map-clause-slots
returns-then-is_at_map-clause-slots g c =
    let w = c.args.self.now in
    record {
      taken = λ free h. frames_of_map c.args.frames.now w.table.first w.info free w.written (sym c.is_at_map.ensures ∙ c.if-is_at_map.true);
      kept = search rules;
    }
