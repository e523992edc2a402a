-- The page frames in the sets that a caller lends.
use Rattle.std.specs.Prelude.{ℕ, List, option_copied}
use Rattle.frame_sets.specs.Places.{members_in}
use Rattle.image_write.specs.declared.sets.Sets.{Sets}

abbrev pub origs_of : Sets → List ℕ
origs_of sets = sets.origs.now.members

abbrev pub copies_of : Sets → List ℕ
copies_of sets = sets.copies.now.members

-- the zero pages left out; none if no page is left out
abbrev pub zeros_of : Sets → List ℕ
zeros_of sets = members_in (option_copied sets.zeros)
