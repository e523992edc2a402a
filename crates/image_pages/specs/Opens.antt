-- The results of opening an image.
use Rattle.std.specs.Prelude.{◌≡◌, ℕ, ◌<◌, ◌≤◌, ◌⊎◌, List, [], ◌∷◌, length, Option, Some, None, Ok}
use Rattle.definitions.specs.Disk.{Content, HasRisen}
use Rattle.image_format.specs.AreaKind.{area_kind}
use Rattle.image_format.specs.declared.signature.area.Mark.{Mark}
use Rattle.image_walk.specs.Names.{IsReadFrom}
use Rattle.image_check.specs.Checked.{mark_in}
use Rattle.image_check.specs.Header.{header_findings}
use Rattle.image_check.specs.Told.{Told, Tells}
use Rattle.image_check.specs.declared.finding.Finding.TheVariants as finding
use Rattle.image_pages.specs.Ends.{IsRefused}
use Rattle.image_pages.specs.Stands.{Stands}
use Rattle.image_pages.specs.declared.opened.Opened.{Opened}
use Rattle.image_pages.specs.declared.opened.Opened.TheVariants.{NoImage, Refused, Open}
use Rattle.image_pages.specs.declared.pages.Pages.{Pages}

-- the header block lies past the end of the disk, or has no mark, and nothing is reported
abbrev pub IsNoImage : Option Content → (blocks header : ℕ) → Told → Told → Type 0
IsNoImage content blocks header old new =
    (new ≡ old) × ((blocks ≤ header)
    ⊎ ((page : List ℕ) × (IsReadFrom content header (Ok page) × (mark_in (area_kind page) ≡ None))))

-- the header block couldn't be read, or something is wrong with it, and exactly that is reported
abbrev pub IsBadHeader : Option Content → (blocks header before now : ℕ) → Told → Told → Type 0
IsBadHeader content blocks header before now old new =
    (Tells (finding.HeaderUnread header ∷ []) old new × HasRisen before now)
    ⊎ ((page : List ℕ) × ((mark : Mark) × (IsReadFrom content header (Ok page)
    × (mark_in (area_kind page) ≡ Some mark)
    × (0 < length (header_findings blocks header mark.flags page))
    × Tells (header_findings blocks header mark.flags page) old new)))

-- the findings of the header block, or of the first named block that has some, are reported
abbrev pub IsBad : Option Content → (blocks header before now : ℕ) → (told then : Told) → Type 0
IsBad content blocks header before now told then =
    IsBadHeader content blocks header before now told then
    ⊎ ((pages : List (List ℕ)) × IsRefused content blocks header before now told then pages)

-- what each result says, by what holds of a reader that begins, and of an image that is refused
abbrev pub OpensAs : {T : Type 0} → (Option Content → (blocks header : ℕ) → T → Type 0) →
    (Option Content → (blocks header before now : ℕ) → (told then : Told) → Type 0) →
    Option Content → (blocks header before now : ℕ) → (told then : Told) → Opened T → Type 0
OpensAs begins refuses content blocks header before now told then NoImage = IsNoImage content blocks header told then
OpensAs begins refuses content blocks header before now told then Refused =
    refuses content blocks header before now told then
OpensAs begins refuses content blocks header before now told then (Open it) =
    (then ≡ told) × begins content blocks header it

-- nothing was read yet
abbrev pub BeginsPages : Option Content → (blocks header : ℕ) → Pages → Type 0
BeginsPages content blocks header pages = Stands content blocks header pages []

abbrev pub Opens : Option Content → (blocks header before now : ℕ) → Told → Told → Opened Pages → Type 0
Opens = OpensAs BeginsPages IsBadHeader
