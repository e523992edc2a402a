-- The result for a block that was named.
use Rattle.std.specs.Prelude.{Option, Some, None, Ok, Err}
use Rattle.image_walk.specs.declared.visit.Visit.{Visit}
use Rattle.image_walk.specs.declared.visit.Visit.TheVariants as visit
use Rattle.image_pages.specs.declared.pages.Next.{Next}
use Rattle.image_pages.specs.declared.pages.Next.TheVariants.{Page}

-- a page that an entry named and that was read
abbrev pub page_seen : Visit → Option Next
page_seen (visit.Map map b answer) = None
page_seen (visit.Entry map at entry b (Ok done)) = Some Page
page_seen (visit.Entry map at entry b (Err why)) = None
