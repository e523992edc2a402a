-- Which members of a set are left in an iterator over them.
use Rattle.std.specs.Prelude.{ℕ, List, filter, nat_le}
use Rattle.frame_sets.specs.declared.bitmap.iter.Iter.{Iter}

-- the members at or above a page frame
abbrev pub members_from : ℕ → List ℕ → List ℕ
members_from from members = filter (nat_le from) members

abbrev pub left_in : Iter → List ℕ
left_in iterator = members_from iterator.from iterator.set.now.members
