-- What is reported of an image from its first map on.
use Rattle.std.specs.Prelude.{◌≡◌, ◌≢◌, ℕ, ◌+◌, ◌<◌, ◌⊎◌, List, [], ◌∷◌, length, slice_index, IfSome, Option, Some}
use Rattle.definitions.specs.Disk.{Content, as_it_reads}
use Rattle.image_check.specs.Checked.{format_of}
use Rattle.image_check.specs.Info.{counts_in}
use Rattle.image_check.specs.Told.{Told, Tells}
use Rattle.image_check.specs.declared.finding.Finding.{Finding}
use Rattle.image_check.specs.declared.finding.Finding.TheVariants as finding
use Rattle.expanded_disk.specs.Chains.{StandsAt}
use Rattle.expanded_disk.specs.Faults.{AreWhole, IsUnitWrong}
use Rattle.expanded_disk.specs.Index.{Agrees, IsIndexOf, checksum_wanted}
use Rattle.expanded_disk.specs.Names.{chain_of}
use Rattle.expanded_disk.specs.Opens.{AreFine, IsBadImage, IsInfo}
use Rattle.expanded_disk.specs.Units.{checksum_of, start_of, units_of}
use Rattle.expanded_disk.specs.declared.units.chain.Chain.{Chain}
use Rattle.expanded_disk.specs.declared.units.index.Index.{Index}
use Rattle.expanded_disk.specs.declared.units.reading.Opened.{Opened}
use Rattle.expanded_disk.specs.declared.units.reading.Opened.TheVariants.{Plain, Refused, Whole}
use Rattle.expanded_disk.specs.declared.units.reading.Units.{Units}
use Rattle.expanded_disk.specs.declared.units.reading.Units.TheVariants as units

-- the first unit with a fault
pub record IsBadPass (content : Option Content) (pages before now : ℕ) (c : Chain) (f : Finding) : Type 0 where
  pub unit : ℕ
  pub few : unit < units_of pages
  pub earlier : AreFine content c.first pages unit
  pub wrong : IsUnitWrong c.walker.limits c.first content pages unit before now f

-- the units from the page after the info page on
abbrev pub PassSays : Option Content → (pages before now : ℕ) → (old new : Chain) → Units → Type 0
PassSays content pages before now old new (units.Wrong f) = IsBadPass content pages before now old f
PassSays content pages before now old new (units.Whole starts crc) =
    StandsAt content new × (length starts.items ≡ units_of pages + 1)
    × IfSome content (λ held. AreWhole (as_it_reads held) old.first pages (units_of pages) starts.items crc
    × (new.count ≡ start_of (chain_of (as_it_reads held) old.first) (units_of pages))
    × (slice_index starts.items (units_of pages) ≡ new.count))

-- a checksum in the header is reported if and only if it is another than that of the units
abbrev pub Compares : Index → (crc : ℕ) → Told → Told → Opened → Type 0
Compares index crc old new Plain = ⊥
Compares index crc old new Refused =
    (wanted : ℕ) × ((checksum_wanted index.header ≡ Some wanted) × (wanted ≢ crc)
    × Tells (finding.Checksum wanted crc ∷ []) old new)
Compares index crc old new (Whole same) =
    (same ≡ index) × (new ≡ old) × Agrees (checksum_wanted index.header) crc

-- all units were read, and the header has another checksum
pub record IsOtherSum (content : Option Content) (pages : ℕ) (header : List ℕ) (c : Chain) (f : Finding) : Type 0 where
  pub all : AreFine content c.first pages (units_of pages)
  pub wanted : ℕ
  pub found : ℕ
  pub has : checksum_wanted header ≡ Some wanted
  pub other : wanted ≢ found
  pub is : IfSome content (λ held. found ≡ checksum_of (chain_of (as_it_reads held) c.first) pages (units_of pages))
  pub finding : f ≡ finding.Checksum wanted found

-- what each result says of the pages after the info page
abbrev pub OpensBehind : Option Content → (header info : List ℕ) → Chain → (before now : ℕ) → Told → Told → Opened →
    Type 0
OpensBehind content header info c before now old new Plain = ⊥
OpensBehind content header info c before now old new Refused =
    (f : Finding) × (Tells (f ∷ []) old new × (IsBadPass content (counts_in info).pages before now c f
    ⊎ IsOtherSum content (counts_in info).pages header c f))
OpensBehind content header info c before now old new (Whole index) =
    (new ≡ old) × (IsInfo content c.first info →
    IfSome content (λ held. IsIndexOf c.walker.limits.blocks (as_it_reads held) c.first header index))

-- what each result says, given only the first map
abbrev pub OpensChain : Option Content → (flags : ℕ) → List ℕ → Chain → (before now : ℕ) → Told → Told → Opened → Type 0
OpensChain content flags header c before now old new Plain = ⊥
OpensChain content flags header c before now old new Refused =
    (found : List Finding) × (Tells found old new × (0 < length found)
    × IsBadImage c.walker.limits c.first content (format_of flags) before now header found)
OpensChain content flags header c before now old new (Whole index) =
    (new ≡ old) × IfSome content (λ held. IsIndexOf c.walker.limits.blocks (as_it_reads held) c.first header index)
