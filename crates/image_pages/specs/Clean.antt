-- A reading of an image in which nothing is wrong so far.
use Rattle.std.specs.Prelude.{◌≡◌, ℕ, ◌<◌, List, [], ◌∷◌, ◌++◌, Option, Some, None, Result, Ok, Err}
use Rattle.page_core.specs.declared.format.Format.{Format}
use Rattle.definitions.specs.Disk.{Content}
use Rattle.definitions.specs.SwapHeader.{taken_back}
use Rattle.image_format.specs.AreaKind.{area_kind}
use Rattle.image_format.specs.declared.signature.area.Mark.{Mark}
use Rattle.image_walk.specs.declared.limits.Limits.{Limits}
use Rattle.image_walk.specs.declared.visit.BlockFault.{BlockFault}
use Rattle.image_walk.specs.Names.{Name, map_at, page_at, IsReading, IsReadFrom, AreReadFrom}
use Rattle.image_check.specs.Checked.{format_of, mark_in}
use Rattle.image_check.specs.Header.{header_findings, limits_of}
use Rattle.image_check.specs.Image.{history_findings}
use Rattle.image_check.specs.Info.{counts_in}
use Rattle.image_check.specs.declared.finding.Counts.{Counts}

-- what a header block says of its image: the blocks that it may name, its first map, and how pages of zeros are saved
pub record Start : Type 0 where
  pub limits : Limits
  pub first : ℕ
  pub format : Format

-- the header block is that of an image, and nothing is wrong with it
pub record IsStart (content : Option Content) (blocks header : ℕ) (start : Start) : Type 0 where
  pub page : List ℕ
  pub mark : Mark
  pub inside : header < blocks
  pub read : IsReadFrom content header (Ok page)
  pub marked : mark_in (area_kind page) ≡ Some mark
  pub clean : header_findings blocks header mark.flags page ≡ []
  pub limits : start.limits ≡ limits_of blocks header (area_kind (taken_back page))
  pub first : start.first ≡ mark.first
  pub format : start.format ≡ format_of mark.flags

-- each name of a history follows those before it, the pages are those that the disk holds, and nothing is wrong
pub record IsClean (content : Option Content) (start : Start) (h : List Name) : Type 0 where
  pub reading : IsReading start.limits start.first h
  pub pages : AreReadFrom content h
  pub clean : history_findings start.format h ≡ []

-- the pages that entries named, in the order of reading
abbrev pub page_in : Result (List ℕ) BlockFault → List (List ℕ)
page_in (Ok page) = page ∷ []
page_in (Err why) = []

abbrev pub pages_of : Name → List (List ℕ)
pages_of (map_at b answer) = []
pages_of (page_at b answer) = page_in answer

abbrev pub pages_in : List Name → List (List ℕ)
pages_in [] = []
pages_in (x ∷ h) = pages_in h ++ pages_of x

-- what the first of the pages, the info page, says
abbrev pub counts_by : List (List ℕ) → Option Counts
counts_by [] = None
counts_by (info ∷ pages) = Some (counts_in info)
