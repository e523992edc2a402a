use Rattle.std.proofs.Common.{ap, ◌∙◌}
use Rattle.image_pages.specs.Clean.{counts_by}
use Rattle.image_pages.proofs.Counting.{counted_of, counts_read}
use Rattle.image_pages.proofs.pages.Pages.counts.Goals as goal

pub returns : goal.returns
returns c = λ content blocks header given s.
    s.knows.counts
    ∙ counts_read s.start.format s.history (counted_of s.start.format s.start.limits s.start.first s.history s.clean.reading s.clean.clean)
    ∙ ap counts_by s.pages
