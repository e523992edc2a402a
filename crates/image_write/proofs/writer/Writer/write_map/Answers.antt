use Rattle.std.proofs.Common.{◌≡◌, ℕ, ◌+◌, List, true, sym, ap, ◌∙◌, subst, rules}
use Rattle.definitions.specs.Disk.{Writes, FailsToWrite, Changes}
use Rattle.plain_machine.specs.Image.{is_map_write}
use Rattle.image_write.specs.Answers.{after}
use Rattle.image_write.specs.declared.write_step.WriteStep.TheVariants.{Fault}
use Rattle.image_write.specs.Kept.{writing}
use Rattle.image_write.specs.Steps.{WritesPage}
use Rattle.image_write.specs.Writing.{Writing, IsWriting, writes_of}
use Rattle.image_write.proofs.Mapping.{page_of_map, begun_map, goes_on, write_of_map}
use Rattle.image_write.proofs.writer.Writer.write_map.Goals as goal

pub returns-in-Ok-clause-page : goal.returns-in-Ok-clause-page
returns-in-Ok-clause-page g c page memory =
    let w = writing c.self.inside in
    let is = c.self.view_is in
    let is_map : is_map_write w.info.pages w.written ≡ true = subst (λ (v : Writing). is_map_write v.info.pages v.written ≡ true) (sym is) c.requires.map in
    subst (λ (v : Writing). WritesPage page c.told.result memory v (g.D.Disk.content c.args.disk.now) (g.D.Disk.content c.write.new.self)) is record {
      written = λ free here done.
          let map_is = c.page.ensures.page ∙ page_of_map free memory w here is_map in
          subst (λ (made : ℕ × List ℕ). Changes (Writes made.0 made.1) (g.D.Disk.content c.args.disk.now) (g.D.Disk.content c.write.new.self)) (sym (write_of_map w.extents free w.info.pages w.written page is_map))
          (rw (← map_is, ← here.block) c.in-Ok.ensures.written);
      failed = search rules;
    }

pub returns-in-Err-clause-page : goal.returns-in-Err-clause-page
returns-in-Err-clause-page g c page memory =
    let w = writing c.self.inside in
    let is = c.self.view_is in
    let is_map : is_map_write w.info.pages w.written ≡ true = subst (λ (v : Writing). is_map_write v.info.pages v.written ≡ true) (sym is) c.requires.map in
    subst (λ (v : Writing). WritesPage page Fault memory v (g.D.Disk.content c.args.disk.now) (g.D.Disk.content c.write.new.self)) is record {
      written = λ free here done. absurd done;
      failed = λ free here fault.
          let map_is = c.page.ensures.page ∙ page_of_map free memory w here is_map in
          subst (λ (made : ℕ × List ℕ). Changes (FailsToWrite made.0 made.1) (g.D.Disk.content c.args.disk.now) (g.D.Disk.content c.write.new.self)) (sym (write_of_map w.extents free w.info.pages w.written page is_map))
          (rw (← map_is, ← here.block) c.in-Err.ensures.failed);
    }

pub returns-in-Ok-clause-writer : goal.returns-in-Ok-clause-writer
returns-in-Ok-clause-writer g c memory =
    let w = writing c.self.inside in
    let is = c.self.view_is in
    let back = λ (free : List ℕ) (memory : List (List ℕ)) (h : IsWriting free memory c.args.self.now). subst (λ (v : Writing). IsWriting free memory v) (sym is) h in
    let is_map : is_map_write w.info.pages w.written ≡ true = subst (λ (v : Writing). is_map_write v.info.pages v.written ≡ true) (sym is) c.requires.map in
    record {
      image = search rules;
      made = search rules;
      writing = λ free h on.
          let last = goes_on (w.written + 1) (writes_of w.info) c.told.result (c.told.ensures ∙ ap (after (w.written + 1)) c.writes-writes.ensures) on in
          begun_map free memory w c.begin-self-inside.result (back free memory h) is_map last c.begin-self-inside.ensures.entries c.begin-self-inside.ensures.link;
      cursor = search rules;
    }
