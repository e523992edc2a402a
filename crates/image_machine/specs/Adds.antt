-- The numbers of an image that were added to a plan.
use Rattle.std.specs.Prelude.{◌≡◌, ℕ, List, Option, Contains}
use Rattle.definitions.specs.Disk.{Content}
use Rattle.definitions.specs.Zones.{numbers}
use Rattle.image_check.specs.Told.{Told}
use Rattle.image_pages.specs.SavedNumbers.{AreAllNumbers, AreFirstNumbers}
use Rattle.image_pages.specs.Ends.{IsRefused}
use Rattle.image_machine.specs.declared.limit.Limit.{Limit}
use Rattle.image_machine.specs.declared.limit.Limit.TheVariants.{Outside}
use Rattle.image_machine.specs.declared.plan.Plan.{Plan}
use Rattle.image_machine.specs.declared.dump.adding.Added.{Added}
use Rattle.image_machine.specs.declared.dump.adding.Added.TheVariants.{All, Refused, Limit as Passed}

-- the last of these first numbers lies in no zone of the plan
pub record IsOutside (content : Option Content) (header : ℕ) (plan : Plan) (limit : Limit) : Type 0 where
  pub given : List ℕ
  pub number : ℕ
  pub first : AreFirstNumbers content header given
  pub last : Contains given number
  pub outside : Contains (numbers plan.zones) number → ⊥
  pub is : limit ≡ Outside number

abbrev pub Adds : Option Content → (blocks header before now : ℕ) → (told then : Told) → Plan → Added → Type 0
Adds content blocks header before now told then plan All =
    (then ≡ told) × AreAllNumbers content header plan.saved.members
Adds content blocks header before now told then plan Refused =
    (pages : List (List ℕ)) × IsRefused content blocks header before now told then pages
Adds content blocks header before now told then plan (Passed limit) =
    (then ≡ told) × IsOutside content header plan limit
