-- What was printed of two images during a comparison.
use Rattle.std.specs.Prelude.{ℕ, Bool, List, Option}
use Rattle.definitions.specs.Streams.{TakesAll, TakesFront}
use Rattle.image_differ.specs.Compares.{AreUntold}
use Rattle.image_differ.specs.Lines.{lines_of}
use Rattle.image_differ.specs.Sides.{SideView}
use Rattle.image_differ.specs.declared.difference.Difference.{Difference}
use Rattle.image_cli.specs.Differs.{AreFirst, EndsAfter}
use Rattle.image_cli.specs.declared.differing.Ended.{Ended}

-- the lines of all reported differences were printed
abbrev pub Finishes : Bool → (a a' b b' : SideView) → (old new : Option (List ℕ)) → Ended → Type 0
Finishes first_only a a' b b' old new ended =
    (ds : List Difference) × (EndsAfter first_only a a' b b' ds ended × TakesAll (lines_of ds) old new)

-- the output failed within those lines
abbrev pub FailsWithin : (a a' b b' : SideView) → (old new : Option (List ℕ)) → Type 0
FailsWithin a a' b b' old new =
    (ds : List Difference) × (AreFirst a b ds × AreUntold a a' b b' × TakesFront (lines_of ds) old new)
