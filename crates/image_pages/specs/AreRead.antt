-- Pages of an image that were read.
use Rattle.std.specs.Prelude.{◌≡◌, ℕ, List, Option}
use Rattle.definitions.specs.Disk.{Content}
use Rattle.image_walk.specs.Names.{Name}
use Rattle.image_pages.specs.Chain.{AreFirst}
use Rattle.image_pages.specs.Clean.{Start, IsStart, IsClean, pages_in}

-- these are the first pages of the image's stream, and nothing is wrong with what was read for them
pub record AreRead (content : Option Content) (blocks header : ℕ) (pages : List (List ℕ)) : Type 0 where
  pub start : Start
  pub history : List Name
  pub begins : IsStart content blocks header start
  pub clean : IsClean content start history
  pub read : pages_in history ≡ pages
  pub first : AreFirst content header pages
