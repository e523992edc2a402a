-- What `differ` prints of two images that may each be compressed.
use Rattle.std.specs.Prelude.{◌≡◌, ℕ, Bool, List, Option}
use Rattle.definitions.specs.Disk.{Content}
use Rattle.command_kit.specs.Told.{memory_told}
use Rattle.command_kit.specs.Told.{IsTold}
use Rattle.command_kit.specs.View.{SinkView}
use Rattle.command_kit.specs.declared.status.Status.{Status}
use Rattle.image_check.specs.Told.{Told, Tells}
use Rattle.image_check.specs.declared.finding.Finding.{Finding}
use Rattle.image_cli.specs.Differs.{Differs, unopened_told}
use Rattle.image_differ.specs.Sides.{SideView}
use Rattle.image_differ.specs.declared.comparison.Opened.TheVariants as opened
use Rattle.image_differ.specs.declared.side.Which.{Which}
use Rattle.image_differ.specs.declared.side.Which.TheVariants.{First, Second}
use Rattle.sector_disk.specs.declared.orders.Order.{Order}
use Rattle.image_cli.specs.Runs.{RunsAny}

-- a side whose disk holds this content, and whose header lies in this block
abbrev pub read_as : Option Content → (blocks header faults : ℕ) → List Order → Told → SideView
read_as content blocks header faults orders told = record {
  content = content;
  blocks = blocks;
  faults = faults;
  orders = orders;
  header = header;
  told = told;
}

-- the fault of a compressed image was reported on its side, and nothing on the other: the images aren't compared
pub record IsUncompared (which : Which) (found : List Finding) (told told' other other' : Told) (status : Status)
    (out out' note note' : SinkView) : Type 0 where
  pub tells : Tells found told told'
  pub untold : other' ≡ other
  pub ends : IsTold (unopened_told (opened.Refused which)) status out out' note note'

-- nothing was reported on either side, and memory was refused
abbrev pub LacksMemory : (told told' other other' : Told) → Status → (out out' note note' : SinkView) → Type 0
LacksMemory told told' other other' status out out' note note' =
    (told' ≡ told) × (other' ≡ other) × IsTold memory_told status out out' note note'

-- The first image is compared with the second one, or with the plain image that the second expands to. What else a disk
-- was asked for, besides reads, says nothing of an image.
abbrev pub DiffersFrom : Bool → (a a' : SideView) → (told told' : Told) → Status →
    (out out' note note' : SinkView) → Option Content → (blocks header before now : ℕ) → Type 0
DiffersFrom first_only a a' told told' status out out' note note' c n h b f =
    (orders : List Order) × Differs first_only a a' (read_as c n h b orders told) (read_as c n h f orders told')
    status out out' note note'

abbrev pub DiffersSecond : Bool → (a a' b b' : SideView) → Status → (out out' note note' : SinkView) → Type 0
DiffersSecond first_only a a' b b' status out out' note note' =
    RunsAny (DiffersFrom first_only a a' b.told b'.told status out out' note note')
    (λ found. IsUncompared Second found b.told b'.told a.told a'.told status out out' note note')
    (LacksMemory a.told a'.told b.told b'.told status out out' note note')
    b.content b.blocks b.header b.faults b'.faults

-- The images are compared as `Differs` says, with the plain image that a compressed one expands to in its place. A
-- compressed image is read whole before, the first side's before the second side's.
abbrev pub DiffersOver : Bool → (told told' : Told) → (b b' : SideView) → Status →
    (out out' note note' : SinkView) → Option Content → (blocks header before now : ℕ) → Type 0
DiffersOver first_only told told' b b' status out out' note note' c n h t f =
    (orders : List Order) × DiffersSecond first_only (read_as c n h t orders told) (read_as c n h f orders told') b b'
    status out out' note note'

abbrev pub DiffersAny : Bool → (a a' b b' : SideView) → Status → (out out' note note' : SinkView) → Type 0
DiffersAny first_only a a' b b' status out out' note note' =
    RunsAny (DiffersOver first_only a.told a'.told b b' status out out' note note')
    (λ found. IsUncompared First found a.told a'.told b.told b'.told status out out' note note')
    (LacksMemory a.told a'.told b.told b'.told status out out' note note')
    a.content a.blocks a.header a.faults a'.faults
