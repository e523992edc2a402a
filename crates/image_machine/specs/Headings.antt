-- What the header block and the info page of an image say of its machine and of its area.
use Rattle.std.specs.Prelude.{◌≡◌, ℕ, ◌/◌, ◌%◌, ◌==◌, if◌then◌else◌, List, Option, Some, None, Ok}
use Rattle.definitions.specs.Disk.{Content}
use Rattle.definitions.specs.InfoPage.{info_of}
use Rattle.definitions.specs.declared.info.Info.{Info}
use Rattle.definitions.specs.SwapHeader.{taken_back}
use Rattle.image_format.specs.AreaKind.{area_kind}
use Rattle.image_format.specs.declared.signature.area.Area.{Area}
use Rattle.image_format.specs.declared.signature.area.AreaKind.{AreaKind}
use Rattle.image_format.specs.declared.signature.area.AreaKind.TheVariants as kind
use Rattle.image_format.specs.declared.signature.area.Mark.{Mark}
use Rattle.image_walk.specs.Names.{IsReadFrom}
use Rattle.image_check.specs.Checked.{mark_in}
use Rattle.image_pages.specs.Chain.{IsChainPage}
use Rattle.image_machine.specs.declared.heading.Heading.{Heading}

-- the version 1 area that a header block describes
abbrev pub area_in : AreaKind → Option Area
area_in (kind.Image mark) = None
area_in kind.Old = None
area_in (kind.Other sig) = None
area_in (kind.BadArea why) = None
area_in (kind.Swap area) = Some area

-- the hardware signature of a mark, which counts if SF_HW_SIG, which is 8, is set
abbrev pub signature_of : Mark → ℕ
signature_of mark = if mark.flags / 8 % 2 == 0 then 0 else mark.hw_sig

-- the header block is this page, and has this mark
pub record IsMarkedBlock (content : Option Content) (header : ℕ) (page : List ℕ) (mark : Mark) : Type 0 where
  pub read : IsReadFrom content header (Ok page)
  pub marked : mark_in (area_kind page) ≡ Some mark

-- The heading that follows from a header block, without this mark, and from what an info page says.
pub record Gives (page : List ℕ) (mark : Mark) (info : Info) (h : Heading) : Type 0 where
  pub area : area_in (area_kind (taken_back page)) ≡ Some h.area
  pub hw_sig : h.hw_sig ≡ signature_of mark
  pub ident : h.ident ≡ info.ident
  pub physpages : h.physpages ≡ info.physpages

-- there is no heading if the block isn't that of a version 1 area
abbrev pub IsHeadingBy : List ℕ → Mark → Info → Option Heading → Type 0
IsHeadingBy page mark info None = area_in (area_kind (taken_back page)) ≡ None
IsHeadingBy page mark info (Some h) = Gives page mark info h

-- the header block has no mark
abbrev pub HasNoMark : Option Content → (header : ℕ) → Type 0
HasNoMark content header =
    (page : List ℕ) × (IsReadFrom content header (Ok page) × (mark_in (area_kind page) ≡ None))

-- The heading is that of the header block, without the mark, and of the info page.
pub record IsHeadingOf (content : Option Content) (header : ℕ) (h : Heading) : Type 0 where
  pub page : List ℕ
  pub mark : Mark
  pub block : IsMarkedBlock content header page mark
  pub area : area_in (area_kind (taken_back page)) ≡ Some h.area
  pub hw_sig : h.hw_sig ≡ signature_of mark
  pub info : List ℕ
  pub first : IsChainPage content header 0 info
  pub ident : h.ident ≡ (info_of info).ident
  pub physpages : h.physpages ≡ (info_of info).physpages

-- without its mark, the header block isn't that of a version 1 area
pub record HasNoArea (content : Option Content) (header : ℕ) : Type 0 where
  pub page : List ℕ
  pub mark : Mark
  pub block : IsMarkedBlock content header page mark
  pub no_area : area_in (area_kind (taken_back page)) ≡ None
