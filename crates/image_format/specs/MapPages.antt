-- A page of the swap map, as it is being filled and as it is read.
use Rattle.std.specs.Prelude.{ℕ, List}

-- the entries so far, and the link
pub record MapEntries : Type 0 where
  pub entries : List ℕ
  pub link : ℕ

-- a page that is read, and its number; the first map of an image has number 1
pub record NumberedPage : Type 0 where
  pub page : List ℕ
  pub map : ℕ
