use Rattle.std.proofs.Common.{sym, ap}
use Rattle.std.specs.Option.{option_copied}
use Rattle.definitions.specs.Disk.{Changes}
use Rattle.frame_sets.specs.FrameSet.{FrameSet}
use Rattle.frame_sets.specs.Places.{members_in}
use Rattle.image_write.specs.Writing.{HasReadCopies, AreOfImage, Makes, FailsToMake, page_next, write_next, stream_of_sets}
use Rattle.hib_core.proofs.Stepping.{zeros_members, three_sets}
use Rattle.hib_core.proofs.write.write_step.Goals as goal

pub step-requires-clause-sets : goal.step-requires-clause-sets
step-requires-clause-sets g c =
    let sets = c.args.snapshot.now in
    three_sets (λ o p z. AreOfImage c.args.writer.now.info o p z) sets.origs c.origs.result.now.members sets.copies c.copies.result.now.members sets.zeros (members_in (option_copied c.zeros.result))
    (sym (ap (λ (s : FrameSet). s.members) c.origs.ensures)) (sym (ap (λ (s : FrameSet). s.members) c.copies.ensures))
    (sym (zeros_members c.zeros.result sets.zones sets.zeros c.zeros.ensures.set c.zeros.ensures.plain)) c.requires.sets

pub step-requires-clause-reading : goal.step-requires-clause-reading
step-requires-clause-reading g c =
    let sets = c.args.snapshot.now in
    three_sets (λ o p z. HasReadCopies o p z c.args.writer.now) sets.origs c.origs.result.now.members sets.copies c.copies.result.now.members sets.zeros (members_in (option_copied c.zeros.result))
    (sym (ap (λ (s : FrameSet). s.members) c.origs.ensures)) (sym (ap (λ (s : FrameSet). s.members) c.copies.ensures))
    (sym (zeros_members c.zeros.result sets.zones sets.zeros c.zeros.ensures.set c.zeros.ensures.plain)) c.requires.reading

pub returns-clause-made : goal.returns-clause-made
returns-clause-made g c = λ ok.
    let sets = c.args.snapshot.now in
    record {
      made = λ free is. three_sets
          (λ o p z. Changes (Makes (write_next free c.args.writer.now (page_next (stream_of_sets c.args.writer.now.info c.args.frames.now o p z) c.args.writer.now))) (g.D.Disk.content c.args.disk.now) (g.D.Disk.content c.step.new.disk))
          c.origs.result.now.members sets.origs c.copies.result.now.members sets.copies (members_in (option_copied c.zeros.result)) sets.zeros
          (ap (λ (s : FrameSet). s.members) c.origs.ensures) (ap (λ (s : FrameSet). s.members) c.copies.ensures)
          (zeros_members c.zeros.result sets.zones sets.zeros c.zeros.ensures.set c.zeros.ensures.plain) (c.step.ensures.page.written free is ok);
      taken = c.step.ensures.slots.taken;
      same = c.step.ensures.writer.image;
    }

pub returns-clause-failed : goal.returns-clause-failed
returns-clause-failed g c = λ fault.
    let sets = c.args.snapshot.now in
    record {
      made = λ free is. three_sets
          (λ o p z. Changes (FailsToMake (write_next free c.args.writer.now (page_next (stream_of_sets c.args.writer.now.info c.args.frames.now o p z) c.args.writer.now))) (g.D.Disk.content c.args.disk.now) (g.D.Disk.content c.step.new.disk))
          c.origs.result.now.members sets.origs c.copies.result.now.members sets.copies (members_in (option_copied c.zeros.result)) sets.zeros
          (ap (λ (s : FrameSet). s.members) c.origs.ensures) (ap (λ (s : FrameSet). s.members) c.copies.ensures)
          (zeros_members c.zeros.result sets.zones sets.zeros c.zeros.ensures.set c.zeros.ensures.plain) (c.step.ensures.page.failed free is fault);
      taken = c.step.ensures.slots.taken;
      same = c.step.ensures.writer.image;
    }

pub returns-clause-writer : goal.returns-clause-writer
returns-clause-writer g c =
    let sets = c.args.snapshot.now in
    let advances = c.step.ensures.writer in
    record {
      image = advances.image;
      made = advances.made;
      writing = advances.writing;
      cursor = λ goes. three_sets (λ o p z. HasReadCopies o p z c.step.new.self) c.origs.result.now.members sets.origs c.copies.result.now.members sets.copies (members_in (option_copied c.zeros.result)) sets.zeros
          (ap (λ (s : FrameSet). s.members) c.origs.ensures) (ap (λ (s : FrameSet). s.members) c.copies.ensures)
          (zeros_members c.zeros.result sets.zones sets.zeros c.zeros.ensures.set c.zeros.ensures.plain) (advances.cursor goes);
    }
