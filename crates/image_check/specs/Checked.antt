-- What is reported of an image on a disk.
use Rattle.std.specs.Prelude.{◌≡◌, ℕ, ◌≤◌, ◌⊎◌, ◌/◌, ◌%◌, ◌==◌, Bool, true, List, [], ◌∷◌, ◌++◌, if◌then◌else◌}
use Rattle.std.specs.Prelude.{MatchBool, Ok, Option, Some, None}
use Rattle.std.specs.List.{list_any}
use Rattle.page_core.specs.declared.format.Format.{Format}
use Rattle.page_core.specs.declared.format.Format.TheVariants.{Plain, SkipZeros}
use Rattle.definitions.specs.Disk.{Content, HasRisen}
use Rattle.definitions.specs.SwapHeader.{taken_back}
use Rattle.image_format.specs.AreaKind.{area_kind}
use Rattle.image_format.specs.declared.signature.area.AreaKind.{AreaKind}
use Rattle.image_format.specs.declared.signature.area.AreaKind.TheVariants as kind
use Rattle.image_format.specs.declared.signature.area.Mark.{Mark}
use Rattle.image_walk.specs.declared.limits.Limits.{Limits}
use Rattle.image_walk.specs.Names.{Name, answer_of, is_over, is_unread, IsReading, IsReadFrom, AreReadFrom}
use Rattle.image_check.specs.declared.checking.Outcome.{Outcome}
use Rattle.image_check.specs.declared.checking.Outcome.TheVariants.{NoImage, Checked}
use Rattle.image_check.specs.declared.finding.Finding.{Finding}
use Rattle.image_check.specs.declared.finding.Finding.TheVariants as finding
use Rattle.image_check.specs.Header.{header_findings, is_compressed, limits_of}
use Rattle.image_check.specs.Image.{history_findings}
use Rattle.image_check.specs.Told.{Told, Tells}

-- flag 256 says that pages of zeros have no data page (this project's own)
abbrev pub format_of : ℕ → Format
format_of flags = if flags / 256 % 2 == 1 then SkipZeros else Plain

-- a block that was named couldn't be read
abbrev pub has_unread : List Name → Bool
has_unread h = list_any (λ x. is_unread (answer_of x)) h

-- A whole reading of an image whose first map is named: each name follows those before it, up to the end of the chain.
-- The pages are those that the disk holds; if one couldn't be read, a call of the disk failed.
pub record IsWhole (l : Limits) (first : ℕ) (content : Option Content) (before now : ℕ) (h : List Name) : Type 0 where
  pub reading : IsReading l first h
  pub over : is_over h ≡ true
  pub pages : AreReadFrom content h
  pub unread : has_unread h ≡ true → HasRisen before now

-- what is wrong with the names of a whole reading
abbrev pub FindsNames : Limits → ℕ → Option Content → (before now : ℕ) → Format → List Finding → Type 0
FindsNames l first content before now format found =
    (h : List Name) × (IsWhole l first content before now h × (found ≡ history_findings format h))

-- What is wrong with an image: with its header block, and, if it isn't compressed, with each name of a whole reading.
abbrev pub FindsImage : Option Content → (blocks header before now : ℕ) → Mark → List ℕ → List Finding → Type 0
FindsImage content blocks header before now mark page found =
    MatchBool (is_compressed mark.flags) (found ≡ header_findings blocks header mark.flags page)
    ((more : List Finding)
    × (FindsNames (limits_of blocks header (area_kind (taken_back page))) mark.first content before now
    (format_of mark.flags) more × (found ≡ header_findings blocks header mark.flags page ++ more)))

-- the mark of an image, if the header block has one
abbrev pub mark_in : AreaKind → Option Mark
mark_in (kind.Image mark) = Some mark
mark_in kind.Old = None
mark_in (kind.Other sig) = None
mark_in (kind.BadArea why) = None
mark_in (kind.Swap area) = None

-- what is found by that mark: nothing if there is none
abbrev pub FindsMark : Option Content → (blocks header before now : ℕ) → List ℕ → Option Mark → Option (List Finding) →
    Type 0
FindsMark content blocks header before now page None found = found ≡ None
FindsMark content blocks header before now page (Some mark) None = ⊥
FindsMark content blocks header before now page (Some mark) (Some found) =
    FindsImage content blocks header before now mark page found

-- What is wrong with the image of an area, if it has one: the header block lies past the end of the disk, or couldn't
-- be read, or is judged by the page that was read.
abbrev pub Finds : Option Content → (blocks header before now : ℕ) → Option (List Finding) → Type 0
Finds content blocks header before now found =
    ((blocks ≤ header) × (found ≡ None))
    ⊎ (((found ≡ Some (finding.HeaderUnread header ∷ [])) × HasRisen before now)
    ⊎ ((page : List ℕ) × (IsReadFrom content header (Ok page)
    × FindsMark content blocks header before now page (mark_in (area_kind page)) found)))

-- what is reported of these findings
abbrev pub TellsFound : Option (List Finding) → Told → Told → Outcome → Type 0
TellsFound None old new outcome = (outcome ≡ NoImage) × (new ≡ old)
TellsFound (Some found) old new outcome = (outcome ≡ Checked) × Tells found old new
