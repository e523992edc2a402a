-- What is kept of a history.
use Rattle.std.specs.Prelude.{◌≡◌, List}
use Rattle.image_walk.specs.Names.{Name}
use Rattle.image_check.specs.Entries.{counts_of, previous_of, data_of}
use Rattle.image_check.specs.declared.progress.Progress.{Progress}

pub record Knows (p : Progress) (h : List Name) : Type 0 where
  pub counts : p.counts ≡ counts_of h
  pub previous : p.previous ≡ previous_of h
  pub counted : p.counted ≡ data_of h
