use Rattle.std.proofs.Common.{◌≡◌, ◌∙◌, length, refl, sym, ap}
use Rattle.definitions.specs.Tables.{entry_at, with_entries}
use Rattle.definitions.proofs.FreeSlots.{image_slots-none, image_slots-more_other}
use Rattle.definitions.proofs.TableEntries.{with_entries-none}
use Rattle.swap_slots.proofs.Matching.{image_entry, images_more}
use Rattle.swap_slots.proofs.Entries.{entry_of_word-is_image}
use Rattle.swap_slots.proofs.table.SlotTable.give_image.Goals as goal
use Rattle.swap_slots.proofs.table.SlotTable.give_image.Goals.{in-Image, in_default}

pub loop-slot-init : goal.loop-slot-init
loop-slot-init c = record {
  given =
      let first = c.args.self.now.first in
      let frames = c.args.frames.now in
      sym (ap (λ ks. with_entries frames first ks 0) (image_slots-none first frames) ∙ with_entries-none frames first 0);
  matches = c.requires.matches;
  room = refl;
  len = refl;
}

pub loop-slot-preserved : goal.loop-slot-preserved
loop-slot-preserved c =
    let table = c.args.self.now in
    let frames = c.args.frames.now in
    let slot = c.loop-slot.slot in
    let h = c.loop-slot.invariant in
    let entry : entry_at c.loop-slot.frames table.first slot ≡ entry_at frames table.first slot =
    ap (λ fs. entry_at fs table.first slot) h.given ∙ image_entry frames table slot c.are_pages.ensures.pages c.requires.table c.loop-slot-test.true in
    let is_image = entry_of_word-is_image (entry_at c.loop-slot.frames table.first slot) in
    elim c.match-entry.branch [
      | in-Image w ↦
          let image : entry_at frames table.first slot ≡ 65536 = sym entry ∙ is_image.0 (sym c.entry.ensures.entry ∙ w.in-Image.is) in
          record {
            given = images_more frames c.loop-slot.frames c.match-entry.frames table slot h.given image (w.frames-is ∙ w.give.ensures.given);
            matches = rw (w.frames-is, w.runs-is) w.give.ensures.matches;
            room = ap (λ r. r.room) w.runs-is ∙ w.give.ensures.room ∙ h.room;
            len = ap length w.frames-is ∙ w.give.ensures.len ∙ h.len;
          }
      | in_default w ↦
          let other = image_slots-more_other slot table.first frames (λ e. w.in_default.not-Image (c.entry.ensures.entry ∙ is_image.1 (entry ∙ e))) in
          record {
            given = w.frames-is ∙ h.given ∙ ap (λ ks. with_entries frames table.first ks 0) (sym other);
            matches = rw (w.frames-is, w.runs-is) h.matches;
            room = ap (λ r. r.room) w.runs-is ∙ h.room;
            len = ap length w.frames-is ∙ h.len;
          }
    ]
