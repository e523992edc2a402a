-- What is made of an image, whichever machine is requested.
use Rattle.std.specs.Prelude.{ℕ, Option}
use Rattle.definitions.specs.Disk.{Content}
use Rattle.image_check.specs.Told.{Told}
use Rattle.image_machine.specs.declared.heading.Layout.{Layout}
use Rattle.image_machine.specs.Makes.{MakesFrom, MakesMachineFrom}
use Rattle.image_machine.specs.declared.dump.made.Made.{Made}
use Rattle.image_machine_cli.specs.declared.wanted.Wanted.{Wanted}
use Rattle.image_machine_cli.specs.declared.wanted.Wanted.TheVariants.{Loader, Saved}

-- what is made from the heading of an area, and from the page frames that are read by a header block
abbrev pub MakesWanted : Wanted → (area content : Option Content) → (blocks header before now : ℕ) →
    (told then : Told) → Layout → Made → Type 0
MakesWanted Loader area content blocks header before now told then layout made =
    MakesFrom area content blocks header before now told then layout made
MakesWanted (Saved tables) area content blocks header before now told then layout made =
    MakesMachineFrom area content blocks header before now told then layout tables made
