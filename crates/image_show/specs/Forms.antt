-- How facts are printed one after another, in one form or another.
use Rattle.std.specs.Prelude.{◌≡◌, ◌⊎◌, ℕ, Bool, true, List, [], ◌∷◌, ◌++◌, Option}
use Rattle.definitions.specs.Disk.{HasRisen}
use Rattle.definitions.specs.Streams.{TakesAll, TakesFront}
use Rattle.image_show.specs.declared.facts.fact.Fact.{Fact}

-- The style of a form: what is printed for a fact, given the fact that was kept so far, and which fact is kept then.
pub record Style : Type 0 where
  pub piece : Option Fact → Fact → List ℕ
  pub kept : Option Fact → Fact → Option Fact

-- what is printed of these facts, one after another
abbrev pub pieces : Style → Option Fact → List Fact → List ℕ
pieces style last [] = []
pieces style last (f ∷ fs) = style.piece last f ++ pieces style (style.kept last f) fs

-- the fact that is kept after them
abbrev pub kept_after : Style → Option Fact → List Fact → Option Fact
kept_after style last [] = last
kept_after style last (f ∷ fs) = kept_after style (style.kept last f) fs

-- the text that was printed so far, if it is known, and the fact that is kept
pub record Written : Type 0 where
  pub taken : Option (List ℕ)
  pub last : Option Fact

-- these facts were printed whole
pub record Puts (style : Style) (facts : List Fact) (old new : Written) : Type 0 where
  pub text : TakesAll (pieces style old.last facts) old.taken new.taken
  pub last : new.last ≡ kept_after style old.last facts

-- a prefix of what these facts print was printed
abbrev pub PutsFront : Style → List Fact → Written → Written → Type 0
PutsFront style facts old new = TakesFront (pieces style old.last facts) old.taken new.taken

-- the output has failed, or memory was refused
abbrev pub HasFailed : (old new : ℕ) → (refused : Bool) → Type 0
HasFailed old new refused = HasRisen old new ⊎ (refused ≡ true)
