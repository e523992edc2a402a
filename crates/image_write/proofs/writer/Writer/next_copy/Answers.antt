use Rattle.std.proofs.Common.{◌≡◌, ℕ, ◌+◌, ◌-◌, ◌<◌, List, [], length, get_or, option_copied, sym, ap, ◌∙◌, subst, arith}
use Rattle.std.proofs.lemmas.List.{get_or-map}
use Rattle.definitions.specs.NumberPages.{meta_of, marked_numbers}
use Rattle.definitions.specs.Tables.{frame}
use Rattle.frame_sets.specs.Places.{members_in}
use Rattle.frame_sets.proofs.Filling.{length-marked}
use Rattle.plain_machine.specs.Image.{page_of_write}
use Rattle.image_write.specs.Copies.{IsPassed, with_data, data_pages}
use Rattle.image_write.specs.Kept.{writing}
use Rattle.image_write.specs.Writing.{Writing, HasReadCopies, AreOfImage, data_written, stream_of_sets}
use Rattle.image_write.proofs.Heads.{saved_page_at}
use Rattle.image_write.proofs.writer.Writer.next_copy.Goals as goal

pub returns-clause-page : goal.returns-clause-page
returns-clause-page c =
    let w = writing c.self.inside in
    let is = c.self.view_is in
    let origs = c.args.sets.now.origs.now.members in
    let copies = c.args.sets.now.copies.now.members in
    let zeros = members_in (option_copied c.args.sets.now.zeros) in
    let sets : AreOfImage w.info origs copies zeros = subst (λ (v : Writing). AreOfImage v.info origs copies zeros) (sym is) c.requires.sets in
    let reading : HasReadCopies origs copies zeros w = subst (λ (v : Writing). HasReadCopies origs copies zeros v) (sym is) c.requires.reading in
    let page : page_of_write w.written < w.info.pages = subst (λ (v : Writing). page_of_write v.written < v.info.pages) (sym is) c.requires.page in
    let with_page : meta_of w.info.image_pages < page_of_write w.written = subst (λ (v : Writing). meta_of v.info.image_pages < page_of_write v.written) (sym is) c.requires.data in
    let originals = sets.originals in
    let pages = sets.pages in
    let found = data_written w.info w.written in
    let more : found < length (with_data origs copies zeros) = omega arith in
    let frames = c.args.frames.now in
    let pairs = with_data origs copies zeros in
    let saved = data_pages frames origs copies zeros in
    let read : ℕ × ℕ → List ℕ = λ pair. frame frames pair.1 in
    let copy : c.next.result ≡ (get_or pairs found (0, 0)).1 = c.next.ensures.copy found reading in
    let numbers = marked_numbers origs zeros in
    let size = length-marked origs zeros in
    let place : meta_of (length numbers) + 1 + found ≡ page_of_write w.written = let same = ap meta_of (size ∙ originals) in omega arith in
    let here : frame frames c.next.result ≡ get_or (stream_of_sets w.info frames origs copies zeros) (page_of_write w.written) [] =
    ap (frame frames) copy
    ∙ sym (get_or-map read pairs found (0, 0) [] more)
    ∙ sym (saved_page_at w.info numbers saved found)
    ∙ ap (λ (k : ℕ). get_or (stream_of_sets w.info frames origs copies zeros) k []) place in
    subst (λ (v : Writing). frame frames c.next.result ≡ get_or (stream_of_sets v.info frames origs copies zeros) (page_of_write v.written) []) is here

pub returns-clause-reading : goal.returns-clause-reading
returns-clause-reading c =
    let w = writing c.self.inside in
    let is = c.self.view_is in
    let origs = c.args.sets.now.origs.now.members in
    let copies = c.args.sets.now.copies.now.members in
    let zeros = members_in (option_copied c.args.sets.now.zeros) in
    let sets : AreOfImage w.info origs copies zeros = subst (λ (v : Writing). AreOfImage v.info origs copies zeros) (sym is) c.requires.sets in
    let reading : HasReadCopies origs copies zeros w = subst (λ (v : Writing). HasReadCopies origs copies zeros v) (sym is) c.requires.reading in
    let page : page_of_write w.written < w.info.pages = subst (λ (v : Writing). page_of_write v.written < v.info.pages) (sym is) c.requires.page in
    let with_page : meta_of w.info.image_pages < page_of_write w.written = subst (λ (v : Writing). meta_of v.info.image_pages < page_of_write v.written) (sym is) c.requires.data in
    let originals = sets.originals in
    let pages = sets.pages in
    let found = data_written w.info w.written in
    let more : found < length (with_data origs copies zeros) = omega arith in
    let next : found + 1 ≡ page_of_write w.written + 1 - (meta_of w.info.image_pages + 1) = omega arith in
    let cursor = c.next.new.self in
    subst (λ (v : Writing). IsPassed origs copies zeros cursor.orig cursor.copy cursor.passed (page_of_write v.written + 1 - (meta_of v.info.image_pages + 1))) is
    (subst (λ (n : ℕ). IsPassed origs copies zeros cursor.orig cursor.copy cursor.passed n) next (c.next.ensures.passed found reading))
