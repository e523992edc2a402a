-- The results of opening an image for its page frames.
use Rattle.std.specs.Prelude.{ℕ, [], Option}
use Rattle.definitions.specs.Disk.{Content}
use Rattle.image_check.specs.Told.{Told}
use Rattle.image_pages.specs.Given.{HasGiven}
use Rattle.image_pages.specs.Numbered.{HasNumbered}
use Rattle.image_pages.specs.Opens.{IsBad, OpensAs}
use Rattle.image_pages.specs.declared.frames.frames.Frames.{Frames}
use Rattle.image_pages.specs.declared.frames.numbers.Numbers.{Numbers}
use Rattle.image_pages.specs.declared.opened.Opened.{Opened}

-- no number was given yet
abbrev pub BeginsNumbers : Option Content → (blocks header : ℕ) → Numbers → Type 0
BeginsNumbers content blocks header numbers = HasNumbered content blocks header numbers []

abbrev pub OpensNumbers : Option Content → (blocks header before now : ℕ) → Told → Told → Opened Numbers → Type 0
OpensNumbers = OpensAs BeginsNumbers IsBad

-- no page frame was given yet
abbrev pub BeginsFrames : Option Content → (blocks header : ℕ) → Frames → Type 0
BeginsFrames content blocks header frames = HasGiven content blocks header frames []

abbrev pub Opens : Option Content → (blocks header before now : ℕ) → Told → Told → Opened Frames → Type 0
Opens = OpensAs BeginsFrames IsBad
