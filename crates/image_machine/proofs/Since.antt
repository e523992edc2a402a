-- What holds over a disk that reads as before.
use Rattle.std.proofs.Common.{◌≡◌, ℕ, List, Option, subst}
use Rattle.definitions.specs.Disk.{Content}
use Rattle.image_pages.specs.Given.{HasGiven}
use Rattle.image_pages.specs.Numbered.{HasNumbered}
use Rattle.image_pages.specs.SavedFrames.{SavedFrame}
use Rattle.image_pages.specs.declared.frames.frames.Frames.{Frames}
use Rattle.image_pages.specs.declared.frames.numbers.Numbers.{Numbers}

pub numbered_since : (c d : Option Content) (m n header : ℕ) (q : Numbers) (given : List ℕ) → c ≡ d → m ≡ n → HasNumbered c m header q given → HasNumbered d n header q given
numbered_since c d m n header q given e f h =
    subst (λ (x : Option Content). HasNumbered x n header q given) e (subst (λ (k : ℕ). HasNumbered c k header q given) f h)

pub given_since : (c d : Option Content) (m n header : ℕ) (q : Frames) (given : List SavedFrame) → c ≡ d → m ≡ n → HasGiven c m header q given → HasGiven d n header q given
given_since c d m n header q given e f h =
    subst (λ (x : Option Content). HasGiven x n header q given) e (subst (λ (k : ℕ). HasGiven c k header q given) f h)
