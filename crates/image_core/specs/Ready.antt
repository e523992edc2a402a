-- An image that is open to be written as a core file.
use Rattle.std.specs.Prelude.{ℕ, [], Option}
use Rattle.definitions.specs.Disk.{Content}
use Rattle.image_pages.specs.Chain.{IsChainPage}
use Rattle.image_pages.specs.Given.{HasGiven}
use Rattle.image_pages.specs.Numbered.{HasNumbered}
use Rattle.image_core.specs.Counted.{HasTallied}
use Rattle.image_core.specs.declared.coring.Ready.{Ready}

-- its page frames were counted, its info page was read, and nothing else was given yet
pub record IsReady (content : Option Content) (blocks header : ℕ) (ready : Ready) : Type 0 where
  pub tallied : HasTallied content header ready.tally
  pub info : IsChainPage content header 0 ready.info
  pub numbered : HasNumbered content blocks header ready.numbers []
  pub framed : HasGiven content blocks header ready.frames []
