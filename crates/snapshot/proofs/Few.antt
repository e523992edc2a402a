-- Of the originals no more are all zero than there are.
use Rattle.std.proofs.Common.{ℕ, ◌≤◌, List, length, arith}
use Rattle.std.proofs.lemmas.List.Sums.{length-filter, count_by-le-length}
use Rattle.page_core.specs.declared.format.Format.{Format}
use Rattle.page_core.specs.declared.format.Format.TheVariants.{Plain, SkipZeros}
use Rattle.snapshot.specs.Taken.{is_zero_frame, zero_frames}

pub few_zeros : (format : Format) (frames : List (List ℕ)) (origs : List ℕ) → length (zero_frames format frames origs) ≤ length origs
few_zeros Plain frames origs = omega arith
few_zeros SkipZeros frames origs =
    let count = length-filter (is_zero_frame frames) origs in
    let few = count_by-le-length (is_zero_frame frames) origs in
    omega arith
