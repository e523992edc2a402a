-- What is reported of findings.
use Rattle.std.specs.Prelude.{◌≡◌, ◌⊎◌, ℕ, ◌+◌, ◌≤◌, Bool, true, false, List, [], ◌∷◌, ◌++◌, length, min, zero, suc}
use Rattle.std.specs.Prelude.{Option, Some, None}
use Rattle.definitions.specs.Disk.{HasRisen, last_count}
use Rattle.definitions.specs.Streams.{TakesAll, TakesFront}
use Rattle.image_check.specs.declared.finding.Finding.{Finding}
use Rattle.image_check.specs.Lines.{lines_of}

-- the text that was printed, if that is known, how many findings there were, whether a line couldn't be printed, and
-- how often the output has failed
pub record Told : Type 0 where
  pub text : Option (List ℕ)
  pub count : ℕ
  pub failed : Bool
  pub faults : ℕ

-- The lines of these findings are printed one after another, and the findings are counted; the count saturates. If a
-- line can't be printed, the output has failed: a prefix of the lines is printed, and nothing after it.
pub record Tells (more : List Finding) (old new : Told) : Type 0 where
  pub count : old.count ≤ last_count → new.count ≡ min (old.count + length more) last_count
  pub front : TakesFront (lines_of more) old.text new.text
  pub whole : new.failed ≡ false → (old.failed ≡ false) × TakesAll (lines_of more) old.text new.text
  pub stops : old.failed ≡ true → new.text ≡ old.text
  pub cause : new.failed ≡ true → (old.failed ≡ true) ⊎ HasRisen old.faults new.faults
  pub faults : old.faults ≤ new.faults

abbrev pub list_of : Option Finding → List Finding
list_of None = []
list_of (Some finding) = finding ∷ []

-- the findings among those of 0, 1, .. up to n, exclusive
unfoldable pub each_below : (ℕ → Option Finding) → ℕ → List Finding
each_below finding zero = []
each_below finding (suc n) = each_below finding n ++ list_of (finding n)
