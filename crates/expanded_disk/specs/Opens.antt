-- What a whole reading of a compressed image reports.
use Rattle.std.specs.Prelude.{◌≡◌, ◌≢◌, ℕ, ◌+◌, ◌<◌, ◌≤◌, ◌⊎◌, ⊤, true, false, List, [], ◌∷◌, length, Option, None}
use Rattle.std.specs.Prelude.{Some, IfSome, Ok}
use Rattle.page_core.specs.declared.format.Format.{Format}
use Rattle.definitions.specs.Disk.{Content, HasRisen, as_it_reads}
use Rattle.definitions.specs.SwapHeader.{taken_back}
use Rattle.image_format.specs.AreaKind.{area_kind}
use Rattle.image_format.specs.declared.signature.area.Mark.{Mark}
use Rattle.image_walk.specs.declared.limits.Limits.{Limits}
use Rattle.image_walk.specs.Names.{IsReadFrom}
use Rattle.image_check.specs.Checked.{format_of, mark_in}
use Rattle.image_check.specs.Header.{header_findings, is_compressed, limits_of}
use Rattle.image_check.specs.Info.{counts_in, info_findings}
use Rattle.image_check.specs.Told.{Told, Tells}
use Rattle.image_check.specs.declared.finding.Finding.{Finding}
use Rattle.image_check.specs.declared.finding.Finding.TheVariants as finding
use Rattle.expanded_disk.specs.Faults.{IsUnitWrong}
use Rattle.expanded_disk.specs.Index.{IsIndexed, checksum_wanted}
use Rattle.expanded_disk.specs.Names.{IsNameFault, chain_of}
use Rattle.expanded_disk.specs.Units.{IsUnit, checksum_of, units_of}
use Rattle.expanded_disk.specs.declared.units.index.Index.{Index}
use Rattle.expanded_disk.specs.declared.units.reading.Found.{Found}
use Rattle.expanded_disk.specs.declared.units.reading.Found.TheVariants as found
use Rattle.expanded_disk.specs.declared.units.reading.Opened.{Opened}
use Rattle.expanded_disk.specs.declared.units.reading.Opened.TheVariants.{Plain, Refused, Whole}

-- the header block has no mark, or that of an image that isn't compressed
abbrev pub IsNotCompressed : Option Mark → Type 0
IsNotCompressed None = ⊤
IsNotCompressed (Some mark) = is_compressed mark.flags ≡ false

abbrev pub IsPlain : Option Content → (blocks header : ℕ) → Type 0
IsPlain content blocks header =
    (blocks ≤ header)
    ⊎ ((page : List ℕ) × (IsReadFrom content header (Ok page) × IsNotCompressed (mark_in (area_kind page))))

-- page 0 of the chain
abbrev pub IsInfo : Option Content → ℕ → List ℕ → Type 0
IsInfo content first page = IfSome content (λ held. page ≡ chain_of (as_it_reads held) first 0)

-- nothing is wrong with the first units
abbrev pub AreFine : Option Content → (first pages units : ℕ) → Type 0
AreFine content first pages units =
    IfSome content (λ held. (j : ℕ) → j < units → IsUnit (chain_of (as_it_reads held) first) pages j)

-- Nothing is wrong with the info page, nor with the units before this one, and this is the first fault of this one.
pub record IsBadUnit (l : Limits) (first : ℕ) (content : Option Content) (format : Format) (before now : ℕ)
    (f : Finding) : Type 0 where
  pub info : List ℕ
  pub read : IsInfo content first info
  pub clean : info_findings format info ≡ []
  pub unit : ℕ
  pub few : unit < units_of (counts_in info).pages
  pub earlier : AreFine content first (counts_in info).pages unit
  pub wrong : IsUnitWrong l first content (counts_in info).pages unit before now f

-- Nothing is wrong with the units, but the header has another checksum.
pub record IsBadChecksum (first : ℕ) (content : Option Content) (format : Format) (header : List ℕ)
    (f : Finding) : Type 0 where
  pub info : List ℕ
  pub read : IsInfo content first info
  pub clean : info_findings format info ≡ []
  pub all : AreFine content first (counts_in info).pages (units_of (counts_in info).pages)
  pub wanted : ℕ
  pub found : ℕ
  pub has : checksum_wanted header ≡ Some wanted
  pub other : wanted ≢ found
  pub is : IfSome content (λ held.
      found ≡ checksum_of (chain_of (as_it_reads held) first) (counts_in info).pages (units_of (counts_in info).pages))
  pub finding : f ≡ finding.Checksum wanted found

-- what is wrong with an image, in the order of reading: the first named block with a fault, the info page, a unit, the
-- checksum
abbrev pub IsBadImage : Limits → ℕ → Option Content → Format → (before now : ℕ) → List ℕ → List Finding → Type 0
IsBadImage l first content format before now header found =
    ((f : Finding) × ((found ≡ f ∷ []) × IsNameFault l first content 0 0 before now f))
    ⊎ (((info : List ℕ) × (IsInfo content first info × (found ≡ info_findings format info)))
    ⊎ (((f : Finding) × ((found ≡ f ∷ []) × IsBadUnit l first content format before now f))
    ⊎ ((f : Finding) × ((found ≡ f ∷ []) × IsBadChecksum first content format header f))))

-- The header block is that of a compressed image. Something is wrong with it other than being compressed (so flag 2
-- counts as set), or with its image.
pub record IsBad (content : Option Content) (blocks header before now : ℕ) (found : List Finding) : Type 0 where
  pub page : List ℕ
  pub mark : Mark
  pub inside : header < blocks
  pub read : IsReadFrom content header (Ok page)
  pub marked : mark_in (area_kind page) ≡ Some mark
  pub compressed : is_compressed mark.flags ≡ true
  pub some : 0 < length found
  pub wrong : (found ≡ header_findings blocks header (mark.flags + 2) page)
      ⊎ ((header_findings blocks header (mark.flags + 2) page ≡ [])
      × IsBadImage (limits_of blocks header (area_kind (taken_back page))) mark.first content (format_of mark.flags)
      before now page found)

-- what is wrong, or that the header block can't be read
abbrev pub IsWrong : Option Content → (blocks header before now : ℕ) → List Finding → Type 0
IsWrong content blocks header before now found =
    ((found ≡ finding.HeaderUnread header ∷ []) × HasRisen before now)
    ⊎ IsBad content blocks header before now found

-- what each result says
abbrev pub OpensUnits : Option Content → (blocks header before now : ℕ) → Told → Told → Opened → Type 0
OpensUnits content blocks header before now old new Plain = (new ≡ old) × IsPlain content blocks header
OpensUnits content blocks header before now old new Refused =
    (found : List Finding) × (Tells found old new × IsWrong content blocks header before now found)
OpensUnits content blocks header before now old new (Whole index) =
    (new ≡ old) × IfSome content (λ held. IsIndexed blocks (as_it_reads held) header index)

-- the same, with the index of a whole image given separately
abbrev pub FindsUnits : Option Content → (blocks header before now : ℕ) → Told → Told → Option Index → Found → Type 0
FindsUnits content blocks header before now old new index found.Plain =
    OpensUnits content blocks header before now old new Plain
FindsUnits content blocks header before now old new index found.Refused =
    OpensUnits content blocks header before now old new Refused
FindsUnits content blocks header before now old new None found.Whole = ⊥
FindsUnits content blocks header before now old new (Some index) found.Whole =
    OpensUnits content blocks header before now old new (Whole index)
