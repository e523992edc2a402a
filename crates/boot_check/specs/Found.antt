-- What a check has asked for and found, each over a disk with this content, on which `faults` reads have failed.
use Rattle.std.specs.Prelude.{◌≡◌, ℕ, ◌<◌, ◌≤◌, ◌⊎◌, ◌==◌, true, false, List, [], ◌∷◌, ◌++◌, Option, Some, None}
use Rattle.std.specs.Prelude.{Result, Ok}
use Rattle.std.specs.List.{list_any}
use Rattle.definitions.specs.Disk.{Content}
use Rattle.definitions.specs.SwapHeader.{taken_back}
use Rattle.image_format.specs.AreaKind.{area_kind}
use Rattle.image_format.specs.declared.signature.area.Mark.{Mark}
use Rattle.image_walk.specs.Names.{Name, fault_of, is_unread, IsAnswer, IsReadFrom}
use Rattle.image_walk.specs.Walking.{block_asked}
use Rattle.image_walk.specs.declared.visit.BlockFault.{BlockFault}
use Rattle.image_check.specs.Checked.{Finds, IsWhole, format_of, mark_in}
use Rattle.image_check.specs.Header.{header_findings, is_compressed, limits_of}
use Rattle.image_check.specs.Image.{history_findings}
use Rattle.image_check.specs.declared.checking.Outcome.{Outcome}
use Rattle.image_check.specs.declared.checking.Outcome.TheVariants.{NoImage, Checked}
use Rattle.image_check.specs.declared.finding.Finding.{Finding}
use Rattle.boot_check.specs.Named.{HasNamed, asked_in}
use Rattle.boot_check.specs.declared.check.Check.{Check}
use Rattle.boot_check.specs.declared.names.Names.{Names}
use Rattle.boot_check.specs.declared.stage.Stage.{Stage}
use Rattle.boot_check.specs.declared.stage.Stage.TheVariants as stage
use Rattle.boot_check.specs.declared.stage.Step.{Step}
use Rattle.boot_check.specs.declared.stage.Step.TheVariants as step

-- what the caller is asked for
abbrev pub pending_at : Stage → ℕ → Step
pending_at stage.Header header = step.Read header
pending_at (stage.Name b) header = step.Read b
pending_at (stage.Over outcome) header = step.Over outcome

abbrev pub pending : Check → Step
pending c = pending_at c.stage c.names.limits.header

-- a block that is named next is asked for; at the end of the chain everything was checked
abbrev pub stage_after : Option ℕ → Stage
stage_after (Some b) = stage.Name b
stage_after None = stage.Over Checked

-- the header block has the mark of an image that isn't compressed, and its names are checked by what the block says
pub record IsImageOf (content : Option Content) (blocks header : ℕ) (n : Names) (page : List ℕ) (mark : Mark) : Type 0
  where
    pub read : IsReadFrom content header (Ok page)
    pub marked : mark_in (area_kind page) ≡ Some mark
    pub plain : is_compressed mark.flags ≡ false
    pub limits : n.limits ≡ limits_of blocks header (area_kind (taken_back page))
    pub format : n.format ≡ format_of mark.flags

-- the header block was asked for, and then the blocks of a history; what is wrong with the header block was found, and
-- then what is wrong with the names
pub record IsBetween (content : Option Content) (faults blocks header : ℕ) (n : Names) (words asked : List ℕ)
    (found : List Finding) : Type 0 where
  pub page : List ℕ
  pub mark : Mark
  pub image : IsImageOf content blocks header n page mark
  pub blocks_asked : List ℕ
  pub names_found : List Finding
  pub asked_is : asked ≡ blocks_asked ++ header ∷ []
  pub found_is : found ≡ header_findings blocks header mark.flags page ++ names_found
  pub named : HasNamed content faults mark.first n words blocks_asked names_found

-- this block is named next, and may be read
pub record IsAtName (content : Option Content) (faults blocks header : ℕ) (n : Names) (words asked : List ℕ)
    (found : List Finding) (b : ℕ) : Type 0 where
  pub between : IsBetween content faults blocks header n words asked found
  pub block : block_asked n.walk ≡ Some b
  pub free : fault_of n.limits between.named.history b ≡ None

-- the outcome of the read of a block: the page that the disk holds, or one more failure
pub record IsOutcome (content : Option Content) (before now : ℕ) (b : ℕ) (answer : Result (List ℕ) BlockFault) : Type 0
  where
    pub read : IsReadFrom content b answer
    pub told : IsAnswer None b answer
    pub rises : before ≤ now
    pub unread : is_unread answer ≡ true → 0 < now

-- the blocks that were asked for are the header's and those of a whole reading, and this was found in their names
abbrev pub AsksNames : Option Content → (faults blocks header : ℕ) → List ℕ → List Finding → Type 0
AsksNames content faults blocks header asked found =
    (page : List ℕ) × (mark : Mark) × (h : List Name)
    × (IsReadFrom content header (Ok page)
    × (IsWhole (limits_of blocks header (area_kind (taken_back page))) mark.first content 0 faults h
    × ((found ≡ header_findings blocks header mark.flags page ++ history_findings (format_of mark.flags) h)
    × (asked ≡ asked_in h ++ header ∷ []))))

-- everything that `check` finds was found; if the names of the image aren't read, only the header block was asked for
abbrev pub IsAll : Option Content → (faults blocks header : ℕ) → List ℕ → List Finding → Outcome → Type 0
IsAll content faults blocks header asked found NoImage =
    (found ≡ []) × Finds content blocks header 0 faults None
IsAll content faults blocks header asked found Checked =
    Finds content blocks header 0 faults (Some found)
    × ((asked ≡ header ∷ []) ⊎ AsksNames content faults blocks header asked found)

abbrev pub FoundAt : Stage → Option Content → (faults blocks header : ℕ) → Names → (words asked : List ℕ) →
    List Finding → Type 0
FoundAt stage.Header content faults blocks header n words asked found =
    (header < blocks) × ((n.limits.blocks ≡ blocks) × ((n.limits.header ≡ header)
    × ((asked ≡ []) × (found ≡ []))))
FoundAt (stage.Name b) content faults blocks header n words asked found =
    IsAtName content faults blocks header n words asked found b
FoundAt (stage.Over outcome) content faults blocks header n words asked found =
    IsAll content faults blocks header asked found outcome

-- A check of the area with this header block has asked for these blocks, the newest first, and found this. The words
-- are as the check left them.
abbrev pub HasFound : Option Content → (faults blocks header : ℕ) → Check → (words asked : List ℕ) → List Finding →
    Type 0
HasFound content faults blocks header c words asked found =
    FoundAt c.stage content faults blocks header c.names words asked found

-- a block of the disk that wasn't asked for before is asked for, or everything was found
abbrev pub IsTurn : Option Content → (faults blocks header : ℕ) → List ℕ → List Finding → Step → Type 0
IsTurn content faults blocks header asked found (step.Read b) =
    (b < blocks) × (list_any (λ x. b == x) asked ≡ false)
IsTurn content faults blocks header asked found (step.Over outcome) =
    IsAll content faults blocks header asked found outcome
