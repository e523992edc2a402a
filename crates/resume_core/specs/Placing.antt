-- What a read of the chain does to the page frames.
use Rattle.std.specs.Prelude.{◌≡◌, ◌<◌, ◌≤◌, ◌+◌, ◌++◌, ◌∷◌, [], true, ℕ, List, Option, length, Contains}
use Rattle.definitions.specs.Disk as disk
use Rattle.definitions.specs.Tables.{frame}
use Rattle.definitions.specs.Zones.{top}
use Rattle.placement.specs.Waiting.{Awaiting, waiting_pages}
use Rattle.plain_machine.specs.Machine.{Memory}
use Rattle.image_read.specs.Answers.{Reads, Answers, GoesOn}
use Rattle.image_read.specs.Reading.{Reading, HasReadAll}
use Rattle.image_read.specs.declared.reader.ReadStep.{ReadStep}
use Rattle.image_read.specs.declared.reader.ReadStep.TheVariants.{Done}
use Rattle.machine.specs.declared.machine.Machine.{Machine}
use Rattle.resume_core.specs.Ready.{CanRead}
use Rattle.resume_core.specs.Row.{HasReader}
use Rattle.resume_core.specs.declared.load.Load.{Load}
use Rattle.resume_core.specs.declared.load.OpenChain.{OpenChain}
use Rattle.resume_core.specs.declared.load.Stage.{Stage}
use Rattle.resume_core.specs.declared.load.Stage.TheVariants as stage

-- The block read stands where the next page waits, if one is to come. The pages that wait already stay the same, and so
-- does every page frame that isn't free to the loader.
pub record PutsPage (w : Awaiting) (frames frames' : Memory) (page : List ℕ) : Type 0 where
  pub before : waiting_pages frames' w ≡ waiting_pages frames w
  pub next : w.loaded < length w.originals →
      waiting_pages frames' (record w { loaded = w.loaded + 1 }) ≡ waiting_pages frames w ++ page ∷ []
  pub others : (p : ℕ) → (Contains w.free p → ⊥) → frame frames' p ≡ frame frames p

-- the chain is being read, and its pages have their places
abbrev pub ReadsPages : Stage → Machine → Load → Type 0
ReadsPages (stage.Read chain) machine load =
    CanRead machine.blocks chain.reader load.origs.members load.zeros.members
    × (load.waiting.placement.ready ≡ true)
ReadsPages _ machine load = ⊥

-- The next block of the chain can be read into the page frame where its page waits.
pub record CanReadInPlace (machine : Machine) (frames : Memory) (load : Load) : Type 0 where
  pub places : top load.waiting.zones ≤ length frames
  pub of_origs : load.origs.zones ≡ machine.hw.zones
  pub of_zeros : load.zeros.zones ≡ machine.hw.zones
  pub reads : ReadsPages load.stage machine load

-- The next block was read in place. The chain's reader has answered by the disk's content, if that is told, and `page`
-- is the block.
pub record HasReadInPlace (machine : Machine) (frames : Memory) (load : Load) (content : Option disk.Content)
    (result : ReadStep) (frames' : Memory) (load' : Load) : Type 0 where
  pub chain : OpenChain
  pub reader : Reading
  pub page : List ℕ
  pub was : load.stage ≡ stage.Read chain
  pub stays : load'.stage ≡ stage.Read (record chain { reader = reader })
  pub puts : PutsPage load.waiting frames frames' page
  pub answers : (v : disk.DiskImage) (t : ℕ) → HasReader machine.hw v chain.reader load t →
      Reads machine.hw v content → Answers machine.hw v load.check t result chain.reader reader load'.origs.members
      load'.zeros.members page
  pub goes_on : GoesOn result chain.reader reader load'.origs.members load'.zeros.members
  pub over : result ≡ Done → HasReadAll reader
  pub within : reader.blocks ≤ machine.blocks
