-- The end of the pages of an image, and each result on the way to it.
use Rattle.std.specs.Prelude.{◌≡◌, ℕ, ◌<◌, true, List, [], ◌∷◌, ◌++◌, length, Option, Some, None}
use Rattle.definitions.specs.Disk.{Content, HasRisen}
use Rattle.image_walk.specs.Names.{Name, answer_of, is_unread, AreReadFrom, IsReading}
use Rattle.image_walk.specs.Walking.{names_left}
use Rattle.image_check.specs.Checked.{IsWhole}
use Rattle.image_check.specs.Image.{name_findings}
use Rattle.image_check.specs.Told.{Told, Tells}
use Rattle.image_pages.specs.Chain.{IsChainPage, IsWholeStream}
use Rattle.image_pages.specs.Clean.{Start, IsStart, IsClean, pages_in}
use Rattle.image_pages.specs.Stands.{Stands}
use Rattle.image_pages.specs.declared.pages.Next.{Next}
use Rattle.image_pages.specs.declared.pages.Next.TheVariants.{Page, End, Refused}
use Rattle.image_pages.specs.declared.pages.Pages.{Pages}

-- Nothing is wrong with a whole reading of the image, in which these pages were read.
pub record IsEnded (content : Option Content) (blocks header before now : ℕ) (given : List (List ℕ)) : Type 0 where
  pub start : Start
  pub history : List Name
  pub begins : IsStart content blocks header start
  pub whole : IsWhole start.limits start.first content before now history
  pub clean : IsClean content start history
  pub pages : pages_in history ≡ given

-- These pages were read, and nothing was wrong. The next name is the first with findings, and exactly these are
-- reported.
pub record IsRefused (content : Option Content) (blocks header before now : ℕ) (old new : Told)
    (given : List (List ℕ)) : Type 0 where
  pub start : Start
  pub history : List Name
  pub name : Name
  pub begins : IsStart content blocks header start
  pub clean : IsClean content start history
  pub pages : pages_in history ≡ given
  pub reading : IsReading start.limits start.first (name ∷ history)
  pub read : AreReadFrom content (name ∷ history)
  pub wrong : 0 < length (name_findings start.format history name)
  pub told : Tells (name_findings start.format history name) old new
  pub unread : is_unread (answer_of name) ≡ true → HasRisen before now

-- What each result says, after these pages were given: the page is the next one of the stream; at the end all of its
-- pages were given.
abbrev pub Says : Option Content → (blocks header before now : ℕ) → Told → Told → List (List ℕ) → (p q : Pages) →
    List ℕ → Next → Type 0
Says content blocks header before now old new given p q page Page =
    (new ≡ old) × Stands content blocks header q (given ++ page ∷ []) × IsChainPage content header (length given) page
    × (names_left q.walker < names_left p.walker)
Says content blocks header before now old new given p q page End =
    (new ≡ old) × IsEnded content blocks header before now given × IsWholeStream content header given
Says content blocks header before now old new given p q page Refused =
    IsRefused content blocks header before now old new given

-- a step on the way to a result gives no page
abbrev pub Reads : Option Content → (blocks header before now : ℕ) → Told → Told → List (List ℕ) → (p q : Pages) →
    List ℕ → Option Next → Type 0
Reads content blocks header before now old new given p q page None =
    (new ≡ old) × Stands content blocks header q given × (names_left q.walker < names_left p.walker)
Reads content blocks header before now old new given p q page (Some next) =
    Says content blocks header before now old new given p q page next
