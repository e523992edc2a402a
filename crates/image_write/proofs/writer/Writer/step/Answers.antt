use Rattle.std.proofs.Common.{◌≡◌, ℕ, ◌+◌, ◌-◌, List, true, option_copied, sym, ap, ap₂, ◌∙◌, subst, rules}
use Rattle.definitions.specs.NumberPages.{meta_of}
use Rattle.definitions.specs.Tables.{frame}
use Rattle.frame_sets.specs.Places.{members_in}
use Rattle.plain_machine.specs.Image.{is_map_write, page_of_write}
use Rattle.image_write.specs.Copies.{IsPassed, data_pages}
use Rattle.image_write.specs.Steps.{TakesSlots, WritesPage}
use Rattle.image_write.specs.Writing.{Writing, IsWriting, IsSameImage, writes_of, data_written, page_next, stream_of_sets}
use Rattle.image_write.proofs.Places.{page_write, next_page}
use Rattle.image_write.proofs.Mapping.{frames_of_map, data_before_map, read_on, image_on, writes_on, takes_on, not_last, succeeds}
use Rattle.image_write.proofs.writer.Writer.step.Goals as goal

pub returns-then-is_at_map-clause-page : goal.returns-then-is_at_map-clause-page
returns-then-is_at_map-clause-page g c =
    let sets = c.args.sets.now in
    let stream = stream_of_sets c.args.self.now.info c.args.frames.now sets.origs.now.members sets.copies.now.members (members_in (option_copied sets.zeros)) in
    c.write_map.ensures.page (page_next stream c.args.self.now) c.args.frames.now

pub returns-then-is_at_map-clause-slots : goal.returns-then-is_at_map-clause-slots
returns-then-is_at_map-clause-slots g c =
    let w = c.args.self.now in
    record {
      taken = λ free h. frames_of_map c.args.frames.now w.table.first w.info free w.written (sym c.is_at_map.ensures ∙ c.if-is_at_map.true);
      kept = search rules;
    }

pub returns-then-is_at_map-clause-writer : goal.returns-then-is_at_map-clause-writer
returns-then-is_at_map-clause-writer g c =
    let w = c.args.self.now in
    let is : is_map_write w.info.pages w.written ≡ true = sym c.is_at_map.ensures ∙ c.if-is_at_map.true in
    let advances = c.write_map.ensures.writer c.args.frames.now in
    let same = advances.cursor in
    let origs = c.args.sets.now.origs.now.members in
    let copies = c.args.sets.now.copies.now.members in
    let zeros = members_in (option_copied c.args.sets.now.zeros) in
    record {
      image = advances.image;
      made = advances.made;
      writing = advances.writing;
      cursor = λ on.
          let more = not_last (w.written + 1) (writes_of w.info) c.write_map.result c.write_map.ensures.answer on in
          let made = advances.made (succeeds c.write_map.result on) in
          let before = data_before_map w.info w.written is more in
          let before_is : data_written w.info w.written ≡ data_written c.write_map.new.self.info c.write_map.new.self.written =
          before ∙ ap₂ data_written (sym advances.image.info) (sym made) in
          rw (same.orig, same.copy, same.passed)
          (subst (λ (found : ℕ). IsPassed origs copies zeros w.orig w.copy w.passed found) before_is c.requires.reading);
    }

pub returns-then-is_at_head-clause-page : goal.returns-then-is_at_head-clause-page
returns-then-is_at_head-clause-page g c =
    let sets = c.args.sets.now in
    c.write_head.ensures.page (data_pages c.args.frames.now sets.origs.now.members sets.copies.now.members (members_in (option_copied sets.zeros)))

pub returns-clause-page : goal.returns-clause-page
returns-clause-page g c =
    let w = c.args.self.now in
    let read = c.next_copy-copy.new.self in
    let frames = c.args.frames.now in
    let before = g.D.Disk.content c.args.disk.now in
    let now = g.D.Disk.content c.write_copy.new.disk in
    let made = subst (λ (v : Writing). WritesPage (frame frames c.next_copy-copy.result) c.write_copy.result frames v before now) c.next_copy-copy.ensures.same c.write_copy.ensures.page in
    subst (λ (page : List ℕ). WritesPage page c.write_copy.result frames w before now) c.next_copy-copy.ensures.page
    (writes_on (frame frames c.next_copy-copy.result) c.write_copy.result frames w read.orig read.copy read.passed before now made)

pub returns-clause-slots : goal.returns-clause-slots
returns-clause-slots g c =
    let read = c.next_copy-copy.new.self in
    takes_on c.args.self.now read.orig read.copy read.passed c.args.frames.now c.write_copy.new.frames c.args.runs.now c.write_copy.new.runs
    (subst (λ (v : Writing). TakesSlots v c.args.frames.now c.write_copy.new.frames c.args.runs.now c.write_copy.new.runs) c.next_copy-copy.ensures.same c.write_copy.ensures.slots)

pub returns-clause-writer : goal.returns-clause-writer
returns-clause-writer g c =
    let w = c.args.self.now in
    let read = c.next_copy-copy.new.self in
    let origs = c.args.sets.now.origs.now.members in
    let copies = c.args.sets.now.copies.now.members in
    let zeros = members_in (option_copied c.args.sets.now.zeros) in
    let advances = c.write_copy.ensures.writer in
    let same = advances.cursor in
    let read_is = c.next_copy-copy.ensures.same in
    record {
      image = image_on w read.orig read.copy read.passed c.write_copy.new.self (subst (λ (v : Writing). IsSameImage v c.write_copy.new.self) read_is advances.image);
      made = λ done. advances.made done ∙ ap (λ (v : Writing). v.written + 1) read_is;
      writing = λ free h on.
          advances.writing free (subst (λ (v : Writing). IsWriting free c.args.frames.now v) (sym read_is) (read_on free c.args.frames.now w read.orig read.copy read.passed h)) on;
      cursor = λ on.
          let made = advances.made (succeeds c.write_copy.result on) ∙ ap (λ (v : Writing). v.written + 1) read_is in
          let info = advances.image.info ∙ ap (λ (v : Writing). v.info) read_is in
          let here = c.requires.writing.1 in
          let page = page_write w.info.pages w.written here.unfinished (sym c.is_at_map.ensures ∙ c.if-is_at_map.false) in
          let next : page_of_write w.written + 1 - (meta_of w.info.image_pages + 1) ≡ data_written c.write_copy.new.self.info c.write_copy.new.self.written =
          ap (λ (n : ℕ). n - (meta_of w.info.image_pages + 1)) (sym (next_page w.written page.below)) ∙ ap₂ data_written (sym info) (sym made) in
          rw (same.orig, same.copy, same.passed)
          (subst (λ (found : ℕ). IsPassed origs copies zeros read.orig read.copy read.passed found) next c.next_copy-copy.ensures.reading);
    }
