-- The saved page frames of an image that were added to a plan, with their pages.
use Rattle.std.specs.Prelude.{◌≡◌, ℕ, List, map, Option, Contains}
use Rattle.definitions.specs.Disk.{Content}
use Rattle.definitions.specs.Zones.{numbers}
use Rattle.image_check.specs.Told.{Told}
use Rattle.image_pages.specs.SavedFrames.{AreAllSaved, AreFirstSaved, SavedFrame}
use Rattle.image_machine.specs.Filled.{IsFilled}
use Rattle.image_machine.specs.Machines.{numbers_of}
use Rattle.image_machine.specs.declared.filled.FilledPlan.{FilledPlan}
use Rattle.image_machine.specs.declared.limit.Limit.{Limit}
use Rattle.image_machine.specs.declared.limit.Limit.TheVariants.{Outside}
use Rattle.image_pages.specs.Ends.{IsRefused}
use Rattle.image_machine.specs.declared.dump.adding.Added.{Added}
use Rattle.image_machine.specs.declared.dump.adding.Added.TheVariants.{All, Refused, Limit as Passed}

-- the number and the page of each page frame
abbrev pub pages_of : List SavedFrame → List (ℕ × List ℕ)
pages_of given = map (λ (g : SavedFrame). (g.number, g.page)) given

-- the last of these first page frames lies in no zone of the plan
pub record LiesOutside (content : Option Content) (header : ℕ) (filled : FilledPlan) (limit : Limit) : Type 0 where
  pub given : List SavedFrame
  pub number : ℕ
  pub first : AreFirstSaved content header given
  pub last : Contains (numbers_of (pages_of given)) number
  pub outside : Contains (numbers filled.plan.zones) number → ⊥
  pub is : limit ≡ Outside number

-- all saved page frames were given
pub record IsFilledWithAll (content : Option Content) (header : ℕ) (filled : FilledPlan) : Type 0 where
  pub saved : List SavedFrame
  pub all : AreAllSaved content header saved
  pub has : IsFilled filled (pages_of saved)

abbrev pub Lays : Option Content → (blocks header before now : ℕ) → (told then : Told) → FilledPlan → Added → Type 0
Lays content blocks header before now told then filled All = (then ≡ told) × IsFilledWithAll content header filled
Lays content blocks header before now told then filled Refused =
    (pages : List (List ℕ)) × IsRefused content blocks header before now told then pages
Lays content blocks header before now told then filled (Passed limit) =
    (then ≡ told) × LiesOutside content header filled limit
