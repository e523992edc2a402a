-- What a snapshot has taken (swsusp_save, kernel/power/snapshot.c): the originals and their copies, over the zones, and
-- which originals were all zero.
use Rattle.std.specs.Prelude.{◌≡◌, ◌<◌, ℕ, Bool, List, [], All, filter, length, nat_eq}
use Rattle.std.specs.Cmp.Lexicographic.{pointwise}
use Rattle.page_core.specs.declared.format.Format.{Format}
use Rattle.page_core.specs.declared.format.Format.TheVariants.{Plain, SkipZeros}
use Rattle.snapshot.specs.Copies.{AreDisjoint}
use Rattle.definitions.specs.Bytes.{zero_page}
use Rattle.definitions.specs.Tables.{frame}
use Rattle.frame_sets.specs.FrameSet.{FrameSet, IsFrameSet}

pub record Taken : Type 0 where
  pub zones : List (ℕ × ℕ)
  pub format : Format
  pub origs : List ℕ
  pub copies : List ℕ
  pub zeros : List ℕ

-- whether each byte of page frame p is zero
abbrev pub is_zero_frame : List (List ℕ) → ℕ → Bool
is_zero_frame frames p = pointwise nat_eq (frame frames p) zero_page

-- the originals that have no data page in an image of this format: those that are all zero, or none in the plain format
abbrev pub zero_frames : Format → List (List ℕ) → List ℕ → List ℕ
zero_frames Plain frames origs = []
zero_frames SkipZeros frames origs = filter (is_zero_frame frames) origs

-- the set of these members over these zones
abbrev pub set_over : List (ℕ × ℕ) → List ℕ → FrameSet
set_over zones members = record { zones = zones; members = members }

-- each of the three is a set of valid page frames
pub record AreFrameSets (taken : Taken) : Type 0 where
  pub originals : IsFrameSet (set_over taken.zones taken.origs)
  pub copied : IsFrameSet (set_over taken.zones taken.copies)
  pub all_zero : IsFrameSet (set_over taken.zones taken.zeros)

-- What a writer of the image requires: each original has a copy, no original is a copy, and the copies are page frames
-- of memory.
pub record CanBeWritten (taken : Taken) (frames : List (List ℕ)) : Type 0 where
  pub paired : length taken.copies ≡ length taken.origs
  pub disjoint : AreDisjoint taken.origs taken.copies
  pub below : All (λ p. p < length frames) taken.copies
