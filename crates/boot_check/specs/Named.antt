-- What a check keeps about the names of an image.
use Rattle.std.specs.Prelude.{◌≡◌, ℕ, ◌<◌, Bool, true, if◌then◌else◌, List, [], ◌∷◌, Option, Some, None, Result, Ok}
use Rattle.std.specs.Prelude.{Err}
use Rattle.definitions.specs.Disk.{Content}
use Rattle.image_walk.specs.Names.{Name, block_of, answer_of, seen, fault_of, is_over, is_unread, AreReadFrom}
use Rattle.image_walk.specs.Walking.{Stands, block_asked}
use Rattle.image_walk.specs.declared.visit.BlockFault.{BlockFault}
use Rattle.image_check.specs.Checked.{has_unread}
use Rattle.image_check.specs.Image.{history_findings, name_findings}
use Rattle.image_check.specs.Knows.{Knows}
use Rattle.image_check.specs.Told.{Told, Tells}
use Rattle.image_check.specs.declared.finding.Finding.{Finding}
use Rattle.boot_check.specs.declared.names.Names.{Names}

-- a block was asked for if it has a page, or if its read failed
abbrev pub was_asked : Result (List ℕ) BlockFault → Bool
was_asked (Ok page) = true
was_asked (Err why) = is_unread (Err why)

abbrev pub asked_with : Result (List ℕ) BlockFault → ℕ → List ℕ → List ℕ
asked_with answer b asked = if was_asked answer then b ∷ asked else asked

-- the blocks of a history that were asked for, the newest first
abbrev pub asked_in : List Name → List ℕ
asked_in [] = []
asked_in (x ∷ h) = asked_with (answer_of x) (block_of x) (asked_in h)

-- The names up to the end of a history were checked, over a disk with this content on which `faults` reads have failed:
-- these blocks were asked for, and this was found.
pub record HasNamed (content : Option Content) (faults first : ℕ) (n : Names) (words asked : List ℕ)
    (found : List Finding) : Type 0 where
  pub history : List Name
  pub stands : Stands n.limits first n.walk words history
  pub knows : Knows n.progress history
  pub pages : AreReadFrom content history
  pub unread : has_unread history ≡ true → 0 < faults
  pub asked_is : asked ≡ asked_in history
  pub found_is : found ≡ history_findings n.format history

-- the name after a history is that of a block, with the outcome of its read, and what is wrong with it was reported
pub record TellsName (first b : ℕ) (h : List Name) (told : Result (Unit {0}) BlockFault) (page : List ℕ)
    (old new : Names) (words : List ℕ) (before after : Told) : Type 0 where
  pub name : Name
  pub block : block_of name ≡ b
  pub answer : answer_of name ≡ seen told page
  pub stands : Stands old.limits first new.walk words (name ∷ h)
  pub knows : Knows new.progress (name ∷ h)
  pub tells : Tells (name_findings old.format h name) before after

-- a block is named next, and may be read
pub record WaitsFor (content : Option Content) (faults first : ℕ) (n : Names) (words asked : List ℕ)
    (found : List Finding) (b : ℕ) : Type 0 where
  pub named : HasNamed content faults first n words asked found
  pub block : block_asked n.walk ≡ Some b
  pub free : fault_of n.limits named.history b ≡ None

-- the chain has ended
pub record HasEnded (content : Option Content) (faults first : ℕ) (n : Names) (words asked : List ℕ)
    (found : List Finding) : Type 0 where
  pub named : HasNamed content faults first n words asked found
  pub over : is_over named.history ≡ true

abbrev pub Waits : Option Content → (faults first : ℕ) → Names → (words asked : List ℕ) → List Finding → Option ℕ →
    Type 0
Waits content faults first n words asked found (Some b) = WaitsFor content faults first n words asked found b
Waits content faults first n words asked found None = HasEnded content faults first n words asked found
