-- What is known of an image before its numbers are read.
use Rattle.std.specs.Prelude.{◌≡◌, ℕ, [], Option}
use Rattle.definitions.specs.Disk.{Content}
use Rattle.image_check.specs.Told.{Told}
use Rattle.image_pages.specs.Numbered.{HasNumbered}
use Rattle.image_pages.specs.Opens.{IsBad, IsBadHeader, IsNoImage}
use Rattle.image_machine.specs.Headings.{HasNoArea, IsHeadingOf, IsMarkedBlock}
use Rattle.image_machine.specs.declared.dump.begun.Begun.{Begun}
use Rattle.image_machine.specs.declared.dump.begun.Begun.TheVariants.{NoImage, Refused, NoArea, Open}
use Rattle.image_machine.specs.declared.dump.begun.Marked.{Marked}
use Rattle.image_machine.specs.declared.dump.begun.Marked.TheVariants as marked

abbrev pub Marks : Option Content → (blocks header before now : ℕ) → (told then : Told) → Marked → Type 0
Marks content blocks header before now told then marked.NoImage = IsNoImage content blocks header told then
Marks content blocks header before now told then marked.Refused = IsBadHeader content blocks header before now told then
Marks content blocks header before now told then (marked.Block page mark) =
    (then ≡ told) × IsMarkedBlock content header page mark

abbrev pub Begins : Option Content → (blocks header before now : ℕ) → (told then : Told) → Begun → Type 0
Begins content blocks header before now told then NoImage = IsNoImage content blocks header told then
Begins content blocks header before now told then Refused = IsBad content blocks header before now told then
Begins content blocks header before now told then NoArea = HasNoArea content header × (then ≡ told)
Begins content blocks header before now told then (Open heading numbers) =
    (then ≡ told) × IsHeadingOf content header heading × HasNumbered content blocks header numbers []
