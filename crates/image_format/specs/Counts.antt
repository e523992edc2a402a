-- The numbers of pages that an image can't have, with `valid` page frames, n saved ones, and `pages` pages in its
-- stream.
use Rattle.std.specs.Prelude.{ℕ, ◌+◌, ◌==◌, ◌||◌, Bool, nat_lt, not}
use Rattle.definitions.specs.NumberPages.{meta_of}
use Rattle.page_core.specs.declared.format.Format.{Format}
use Rattle.page_core.specs.declared.format.Format.TheVariants.{Plain, SkipZeros}

-- Plain: each saved page is in the stream. SkipZeros: those that aren't all zero, whose number the counts don't say.
abbrev pub are_bad_counts : Format → ℕ → ℕ → ℕ → Bool
are_bad_counts Plain valid n pages = (n == 0) || nat_lt valid n || not (pages == n + meta_of n + 1)
are_bad_counts SkipZeros valid n pages =
    (n == 0) || nat_lt valid n || nat_lt pages (meta_of n + 1) || nat_lt (n + meta_of n + 1) pages
