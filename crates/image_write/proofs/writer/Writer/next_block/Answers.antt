use Rattle.std.proofs.Common.{◌≡◌, ℕ, ◌<◌, Option, get_or, refl, sym, ap, ◌∙◌, subst, arith}
use Rattle.std.specs.Option.{IsSome}
use Rattle.std.proofs.lemmas.Option.{same_Some}
use Rattle.definitions.specs.Slots.{block_of}
use Rattle.plain_machine.specs.Image.{page_place, page_of_write}
use Rattle.image_write.specs.Writing.{Writing}
use Rattle.image_write.proofs.Paging.{slot_of_page, place_of_page}
use Rattle.image_write.proofs.writer.Writer.next_block.Goals as goal

pub unwrap-slot-requires : goal.unwrap-slot-requires
unwrap-slot-requires c =
    let w = c.args.self.now in
    let is = slot_of_page c.requires.writing.0 c.args.frames.now w c.args.runs.now c.requires.writing.1 c.requires.page c.requires.slots.matches in
    subst (λ (found : Option ℕ). IsSome found) (sym (c.first.ensures ∙ is)) refl

pub overflow_cast-result : goal.overflow_cast-result
overflow_cast-result c =
    let w = c.args.self.now in
    let free = c.requires.writing.0 in
    let here = c.requires.writing.1 in
    let is = slot_of_page free c.args.frames.now w c.args.runs.now here c.requires.page c.requires.slots.matches in
    let slot = same_Some c.unwrap-slot.result (get_or free (page_place (page_of_write w.written)) 0) (sym c.unwrap-slot.ensures ∙ c.first.ensures ∙ is) in
    let block = c.block.ensures.block ∙ ap (block_of c.self.inside.extents) slot ∙ ap (λ (v : Writing). block_of v.extents (get_or free (page_place (page_of_write w.written)) 0)) c.self.view_is in
    let at : c.block.result ≡ block_of w.extents (get_or free (page_place (page_of_write w.written)) 0) = block in
    let below : block_of w.extents (get_or free (page_place (page_of_write w.written)) 0) < 4294967296 = here.blocks (page_place (page_of_write w.written)) (place_of_page free c.args.frames.now w here c.requires.page) in
    record { fits = omega arith }

pub returns : goal.returns
returns c =
    let w = c.args.self.now in
    record {
      block = λ free h.
          let is = slot_of_page free c.args.frames.now w c.args.runs.now h c.requires.page c.requires.slots.matches in
          let slot = same_Some c.unwrap-slot.result (get_or free (page_place (page_of_write w.written)) 0) (sym c.unwrap-slot.ensures ∙ c.first.ensures ∙ is) in
          c.block.ensures.block ∙ ap (block_of c.self.inside.extents) slot ∙ ap (λ (v : Writing). block_of v.extents (get_or free (page_place (page_of_write w.written)) 0)) c.self.view_is;
    }
