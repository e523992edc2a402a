-- What is known of the heading of an image.
use Rattle.std.specs.Prelude.{ℕ, Option}
use Rattle.definitions.specs.Disk.{Content}
use Rattle.image_machine.specs.Headings.{HasNoArea, HasNoMark, IsHeadingOf}
use Rattle.image_machine.specs.declared.dump.headed.Headed.{Headed}
use Rattle.image_machine.specs.declared.dump.headed.Headed.TheVariants.{NoImage, NoArea, Heading}

abbrev pub Heads : Option Content → ℕ → Headed → Type 0
Heads content header NoImage = HasNoMark content header
Heads content header NoArea = HasNoArea content header
Heads content header (Heading heading) = IsHeadingOf content header heading
