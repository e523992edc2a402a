use Rattle.std.proofs.Common.{◌≡◌, ◌+◌, ◌-◌, ◌<◌, ℕ, true, false, List, ◌++◌, ◌∷◌, [], refl, sym, ap, subst, ◌∙◌, arith}
use Rattle.definitions.specs.NumberPages.{word_at}
use Rattle.image_pages.specs.Saved.{has_page}
use Rattle.image_pages.proofs.SinceSaved.{stands_since, refused_since}
use Rattle.image_pages.specs.Given.{frame_of, numbers_of}
use Rattle.image_pages.specs.Says.{IsNextFrame}
use Rattle.image_pages.specs.SaysWord.{SaysWord}
use Rattle.image_pages.specs.declared.frames.frames.Frames.{Frames}
use Rattle.image_pages.proofs.EndingFrames.{ends_since, full_since}
use Rattle.image_pages.proofs.Giving.{all_frames, end_says, is_full, more_pages, next_data, next_zeros, too_many}
use Rattle.image_pages.proofs.Since.{too_many_since}
use Rattle.image_pages.proofs.frames.frames.Frames.next.Goals as goal

pub end-requires : goal.end-requires
end-requires g c =
    let (header, (given, h)) = c.requires in
    let content = g.D.Disk.content c.args.disk.now in
    let blocks = g.D.Disk.block_count c.args.disk.now in
    let after = g.D.Disk.content c.next_word.new.disk in
    let many = g.D.Disk.block_count c.next_word.new.disk in
    let f = c.args.self.now in
    let pages = f.numbers.info ∷ (h.passed ++ h.saved) in
    let says = subst (SaysWord content blocks header (g.D.Disk.faults c.args.disk.now) (g.D.Disk.faults c.next_word.new.disk) (g.R.Report.told c.args.report.now) (g.R.Report.told c.next_word.new.report) (numbers_of given) f.numbers h.numbered c.next_word.new.self) c.in-End.is (c.next_word.ensures.says header (numbers_of given) h.numbered) in
    let all = all_frames content blocks header f c.next_word.new.self given says.1 c.next_word.ensures.info in
    (header, (f.numbers.info, (h.passed ++ h.saved, full_since content after blocks many header f.pages f.numbers.info (h.passed ++ h.saved) (sym c.next_word.ensures.content) (sym c.next_word.ensures.blocks) (is_full content blocks header f given h all))))

pub returns-in-End-clause-says : goal.returns-in-End-clause-says
returns-in-End-clause-says g c = λ header given h.
    let content = g.D.Disk.content c.args.disk.now in
    let blocks = g.D.Disk.block_count c.args.disk.now in
    let after = g.D.Disk.content c.next_word.new.disk in
    let many = g.D.Disk.block_count c.next_word.new.disk in
    let f = c.args.self.now in
    let pages = f.numbers.info ∷ (h.passed ++ h.saved) in
    let says = subst (SaysWord content blocks header (g.D.Disk.faults c.args.disk.now) (g.D.Disk.faults c.next_word.new.disk) (g.R.Report.told c.args.report.now) (g.R.Report.told c.next_word.new.report) (numbers_of given) f.numbers h.numbered c.next_word.new.self) c.in-End.is (c.next_word.ensures.says header (numbers_of given) h.numbered) in
    let all = all_frames content blocks header f c.next_word.new.self given says.1 c.next_word.ensures.info in
    let full = full_since content after blocks many header f.pages f.numbers.info (h.passed ++ h.saved) (sym c.next_word.ensures.content) (sym c.next_word.ensures.blocks) (is_full content blocks header f given h all) in
    let q : Frames = record { numbers = c.next_word.new.self; pages = c.end.new.pages; left = f.left } in
    end_says content blocks header (g.D.Disk.faults c.args.disk.now) (g.D.Disk.faults c.end.new.disk) (g.R.Report.told c.args.report.now) (g.R.Report.told c.end.new.report) f q given c.end.new.page c.end.result h all c.next_word.ensures.info
    (ends_since after content many blocks header (g.D.Disk.faults c.args.disk.now) (g.D.Disk.faults c.next_word.new.disk) (g.D.Disk.faults c.end.new.disk) (g.R.Report.told c.args.report.now) (g.R.Report.told c.next_word.new.report) (g.R.Report.told c.end.new.report) pages c.end.result c.next_word.ensures.content c.next_word.ensures.blocks says.0 c.next_word.ensures.faults
    (c.end.ensures.ends header f.numbers.info (h.passed ++ h.saved) full))

pub returns-in-Refused-clause-says : goal.returns-in-Refused-clause-says
returns-in-Refused-clause-says g c = λ header given h.
    let content = g.D.Disk.content c.args.disk.now in
    let blocks = g.D.Disk.block_count c.args.disk.now in
    let after = g.D.Disk.content c.next_word.new.disk in
    let many = g.D.Disk.block_count c.next_word.new.disk in
    let f = c.args.self.now in
    let pages = f.numbers.info ∷ (h.passed ++ h.saved) in
    let says = subst (SaysWord content blocks header (g.D.Disk.faults c.args.disk.now) (g.D.Disk.faults c.next_word.new.disk) (g.R.Report.told c.args.report.now) (g.R.Report.told c.next_word.new.report) (numbers_of given) f.numbers h.numbered c.next_word.new.self) c.in-Refused.is (c.next_word.ensures.says header (numbers_of given) h.numbered) in
    says

pub returns-then-not-has_data-clause-says : goal.returns-then-not-has_data-clause-says
returns-then-not-has_data-clause-says g c = λ header given h.
    let content = g.D.Disk.content c.args.disk.now in
    let blocks = g.D.Disk.block_count c.args.disk.now in
    let after = g.D.Disk.content c.next_word.new.disk in
    let many = g.D.Disk.block_count c.next_word.new.disk in
    let f = c.args.self.now in
    let pages = f.numbers.info ∷ (h.passed ++ h.saved) in
    let says = subst (SaysWord content blocks header (g.D.Disk.faults c.args.disk.now) (g.D.Disk.faults c.next_word.new.disk) (g.R.Report.told c.args.report.now) (g.R.Report.told c.next_word.new.report) (numbers_of given) f.numbers h.numbered c.next_word.new.self) c.in-Frame.is (c.next_word.ensures.says header (numbers_of given) h.numbered) in
    let number = c.in-Frame.number in
    let has = c.in-Frame.has_data in
    (says.0, next_zeros content blocks header f given c.next_word.new.self number c.zero.result has h says.1 c.next_word.ensures.info c.if-not-has_data.true c.zero.ensures)

pub refuse-requires : goal.refuse-requires
refuse-requires g c =
    let (header, (given, h)) = c.requires in
    let content = g.D.Disk.content c.args.disk.now in
    let blocks = g.D.Disk.block_count c.args.disk.now in
    let after = g.D.Disk.content c.next_word.new.disk in
    let many = g.D.Disk.block_count c.next_word.new.disk in
    let f = c.args.self.now in
    let pages = f.numbers.info ∷ (h.passed ++ h.saved) in
    let says = subst (SaysWord content blocks header (g.D.Disk.faults c.args.disk.now) (g.D.Disk.faults c.next_word.new.disk) (g.R.Report.told c.args.report.now) (g.R.Report.told c.next_word.new.report) (numbers_of given) f.numbers h.numbered c.next_word.new.self) c.in-Frame.is (c.next_word.ensures.says header (numbers_of given) h.numbered) in
    let number = c.in-Frame.number in
    let has = c.in-Frame.has_data in
    let many_more = too_many content blocks header f given c.next_word.new.self number has h says.1 c.next_word.ensures.info c.if-not-has_data.false c.if-self-eq0.true in
    (header, (numbers_of given ++ number ∷ [], too_many_since content after blocks many header c.next_word.new.self (numbers_of given ++ number ∷ []) (sym c.next_word.ensures.content) (sym c.next_word.ensures.blocks) says.1.next.stands many_more))

pub returns-then-self-eq0-clause-says : goal.returns-then-self-eq0-clause-says
returns-then-self-eq0-clause-says g c = λ header given h.
    let content = g.D.Disk.content c.args.disk.now in
    let blocks = g.D.Disk.block_count c.args.disk.now in
    let after = g.D.Disk.content c.next_word.new.disk in
    let many = g.D.Disk.block_count c.next_word.new.disk in
    let f = c.args.self.now in
    let pages = f.numbers.info ∷ (h.passed ++ h.saved) in
    let says = subst (SaysWord content blocks header (g.D.Disk.faults c.args.disk.now) (g.D.Disk.faults c.next_word.new.disk) (g.R.Report.told c.args.report.now) (g.R.Report.told c.next_word.new.report) (numbers_of given) f.numbers h.numbered c.next_word.new.self) c.in-Frame.is (c.next_word.ensures.says header (numbers_of given) h.numbered) in
    let number = c.in-Frame.number in
    let has = c.in-Frame.has_data in
    let many_more = too_many content blocks header f given c.next_word.new.self number has h says.1 c.next_word.ensures.info c.if-not-has_data.false c.if-self-eq0.true in
    let start = too_many_since content after blocks many header c.next_word.new.self (numbers_of given ++ number ∷ []) (sym c.next_word.ensures.content) (sym c.next_word.ensures.blocks) says.1.next.stands many_more in
    let refused = c.refuse.ensures.refused header (numbers_of given ++ number ∷ []) start.0 start.1 in
    (refused.0, refused_since after content many blocks header (g.D.Disk.faults c.args.disk.now) (g.D.Disk.faults c.next_word.new.disk) (g.D.Disk.faults c.refuse.new.disk) (g.R.Report.told c.args.report.now) (g.R.Report.told c.next_word.new.report) (g.R.Report.told c.refuse.new.report) refused.0 c.next_word.ensures.content c.next_word.ensures.blocks says.0 c.next_word.ensures.faults refused.1)

pub read_page-requires : goal.read_page-requires
read_page-requires g c =
    let (header, (given, h)) = c.requires in
    let content = g.D.Disk.content c.args.disk.now in
    let blocks = g.D.Disk.block_count c.args.disk.now in
    let after = g.D.Disk.content c.next_word.new.disk in
    let many = g.D.Disk.block_count c.next_word.new.disk in
    let f = c.args.self.now in
    let pages = f.numbers.info ∷ (h.passed ++ h.saved) in
    let says = subst (SaysWord content blocks header (g.D.Disk.faults c.args.disk.now) (g.D.Disk.faults c.next_word.new.disk) (g.R.Report.told c.args.report.now) (g.R.Report.told c.next_word.new.report) (numbers_of given) f.numbers h.numbered c.next_word.new.self) c.in-Frame.is (c.next_word.ensures.says header (numbers_of given) h.numbered) in (
      header,
      (
        pages,
        (
          stands_since content after blocks many header f.pages pages (sym c.next_word.ensures.content) (sym c.next_word.ensures.blocks) h.pages,
          more_pages content blocks header f given h (omega (arith, c.if-self-eq0.false)),
        ),
      ),
    )

pub returns-then-not-read_page-clause-says : goal.returns-then-not-read_page-clause-says
returns-then-not-read_page-clause-says g c = λ header given h.
    let content = g.D.Disk.content c.args.disk.now in
    let blocks = g.D.Disk.block_count c.args.disk.now in
    let after = g.D.Disk.content c.next_word.new.disk in
    let many = g.D.Disk.block_count c.next_word.new.disk in
    let f = c.args.self.now in
    let pages = f.numbers.info ∷ (h.passed ++ h.saved) in
    let says = subst (SaysWord content blocks header (g.D.Disk.faults c.args.disk.now) (g.D.Disk.faults c.next_word.new.disk) (g.R.Report.told c.args.report.now) (g.R.Report.told c.next_word.new.report) (numbers_of given) f.numbers h.numbered c.next_word.new.self) c.in-Frame.is (c.next_word.ensures.says header (numbers_of given) h.numbered) in
    let stands = stands_since content after blocks many header f.pages pages (sym c.next_word.ensures.content) (sym c.next_word.ensures.blocks) h.pages in (
      pages,
      refused_since after content many blocks header (g.D.Disk.faults c.args.disk.now) (g.D.Disk.faults c.next_word.new.disk) (g.D.Disk.faults c.read_page.new.disk) (g.R.Report.told c.args.report.now) (g.R.Report.told c.next_word.new.report) (g.R.Report.told c.read_page.new.report) pages c.next_word.ensures.content c.next_word.ensures.blocks says.0 c.next_word.ensures.faults
          (c.if-not-read_page.ensures.gives header pages stands (more_pages content blocks header f given h (omega (arith, c.if-self-eq0.false)))),
    )

pub returns-clause-says : goal.returns-clause-says
returns-clause-says g c = λ header given h.
    let content = g.D.Disk.content c.args.disk.now in
    let blocks = g.D.Disk.block_count c.args.disk.now in
    let after = g.D.Disk.content c.next_word.new.disk in
    let many = g.D.Disk.block_count c.next_word.new.disk in
    let f = c.args.self.now in
    let pages = f.numbers.info ∷ (h.passed ++ h.saved) in
    let says = subst (SaysWord content blocks header (g.D.Disk.faults c.args.disk.now) (g.D.Disk.faults c.next_word.new.disk) (g.R.Report.told c.args.report.now) (g.R.Report.told c.next_word.new.report) (numbers_of given) f.numbers h.numbered c.next_word.new.self) c.in-Frame.is (c.next_word.ensures.says header (numbers_of given) h.numbered) in
    let number = c.in-Frame.number in
    let has = c.in-Frame.has_data in
    let page = c.read_page.new.page in
    let stands = stands_since content after blocks many header f.pages pages (sym c.next_word.ensures.content) (sym c.next_word.ensures.blocks) h.pages in
    let gives = c.if-not-read_page.ensures.gives header pages stands (more_pages content blocks header f given h (omega (arith, c.if-self-eq0.false))) in
    let now = stands_since after content many blocks header c.read_page.new.pages (pages ++ page ∷ []) c.next_word.ensures.content c.next_word.ensures.blocks gives.1 in
    (gives.0 ∙ says.0, next_data content blocks header f given c.next_word.new.self c.read_page.new.pages (f.left - 1) number page has h says.1 c.next_word.ensures.info c.if-not-has_data.false (omega (arith, c.if-self-eq0.false)) now)
