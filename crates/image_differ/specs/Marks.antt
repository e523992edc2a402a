-- What an image says apart from its page frames, in its header block and its info page.
use Rattle.std.specs.Prelude.{◌≡◌, ℕ, List, Some, Ok}
use Rattle.definitions.specs.InfoPage.{info_of}
use Rattle.image_format.specs.AreaKind.{area_kind}
use Rattle.image_format.specs.declared.signature.area.Mark.{Mark}
use Rattle.image_walk.specs.Names.{IsReadFrom}
use Rattle.image_check.specs.Checked.{mark_in}
use Rattle.image_pages.specs.Opens.{IsBadHeader, IsNoImage}
use Rattle.image_differ.specs.Sides.{SideView}
use Rattle.image_differ.specs.declared.begun.Marked.{Marked}
use Rattle.image_differ.specs.declared.begun.Marked.TheVariants as marked
use Rattle.image_differ.specs.declared.heading.Heading.{Heading}

-- the header block has this mark
pub record IsMarkedBy (v : SideView) (mark : Mark) : Type 0 where
  pub page : List ℕ
  pub read : IsReadFrom v.content v.header (Ok page)
  pub marked : mark_in (area_kind page) ≡ Some mark

abbrev pub Marks : (old new : SideView) → Marked → Type 0
Marks old new marked.NoImage = IsNoImage old.content old.blocks old.header old.told new.told
Marks old new marked.Refused = IsBadHeader old.content old.blocks old.header old.faults new.faults old.told new.told
Marks old new (marked.Mark mark) = (new.told ≡ old.told) × IsMarkedBy old mark

-- the heading is that of the mark and of this info page
pub record IsHeading (v : SideView) (page : List ℕ) (h : Heading) : Type 0 where
  pub mark : Mark
  pub marked : IsMarkedBy v mark
  pub flags : h.flags ≡ mark.flags
  pub hw_sig : h.hw_sig ≡ mark.hw_sig
  pub info : h.info ≡ info_of page
