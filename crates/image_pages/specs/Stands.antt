-- The state of `Pages` after some pages were given.
use Rattle.std.specs.Prelude.{◌≡◌, ℕ, List, Option}
use Rattle.definitions.specs.Disk.{Content}
use Rattle.image_walk.specs.Names.{Name}
use Rattle.image_walk.specs.Walking.{Follows}
use Rattle.image_check.specs.Knows.{Knows}
use Rattle.image_pages.specs.Clean.{Start, IsStart, IsClean, pages_in}
use Rattle.image_pages.specs.declared.pages.Pages.{Pages}

-- Nothing is wrong so far with the image that has this header block, and these of its pages were read.
pub record Stands (content : Option Content) (blocks header : ℕ) (p : Pages) (given : List (List ℕ)) : Type 0 where
  pub start : Start
  pub history : List Name
  pub begins : IsStart content blocks header start
  pub clean : IsClean content start history
  pub limits : p.walker.limits ≡ start.limits
  pub format : p.format ≡ start.format
  pub follows : Follows start.first p.walker history
  pub knows : Knows p.progress history
  pub pages : pages_in history ≡ given
