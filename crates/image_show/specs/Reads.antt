-- What a reading keeps of a history, and what a step of it shows.
use Rattle.std.specs.Prelude.{◌≡◌, ℕ, ◌-◌, ◌+◌, ◌<◌, true, false, List, [], ◌∷◌, length, Option, Some, None, Ok}
use Rattle.definitions.specs.Bytes.{number_at}
use Rattle.definitions.specs.Disk.{Content}
use Rattle.image_walk.specs.Names.{Name, map_at, page_at, maps_in}
use Rattle.image_walk.specs.Walking.{Follows, IsSeen, names_left}
use Rattle.image_show.specs.Told.{AreTold, is_told, pages_in}
use Rattle.image_show.specs.declared.facts.part.Part.{Part}
use Rattle.image_show.specs.declared.facts.part.Part.TheVariants as part
use Rattle.image_show.specs.declared.facts.reading.Reading.{Reading}

abbrev pub block_of_part : Part → ℕ
block_of_part (part.Map maps b) = b
block_of_part (part.Info b) = b
block_of_part (part.Page b) = b

-- the name of a part, with its page
abbrev pub name_of_part : Part → List ℕ → Name
name_of_part (part.Map maps b) page = map_at b (Ok page)
name_of_part (part.Info b) page = page_at b (Ok page)
name_of_part (part.Page b) page = page_at b (Ok page)

-- the place of a part: how many maps there are up to it; of a page, whether it is the first
abbrev pub IsPart : List Name → Part → Type 0
IsPart h (part.Map maps b) = maps ≡ maps_in h + 1
IsPart h (part.Info b) = pages_in h ≡ []
IsPart h (part.Page b) = 0 < length (pages_in h)

-- how many more pages are wanted after these
abbrev pub wanted_after : List (List ℕ) → Option ℕ
wanted_after [] = None
wanted_after (info ∷ rest) = Some (number_at 8 info 424 - (length rest + 1))

abbrev pub HasWanted : Option ℕ → List Name → Type 0
HasWanted wanted h = wanted ≡ wanted_after (pages_in h)

-- a name counts, and is this part
pub record TakesPart (h : List Name) (x : Name) (p : Part) (left : Option ℕ) (page : List ℕ) : Type 0 where
  pub is : x ≡ name_of_part p page
  pub told : is_told h x ≡ true
  pub place : IsPart h p
  pub wanted : HasWanted left (x ∷ h)

abbrev pub EndsPart : List Name → Name → Type 0
EndsPart h x = is_told h x ≡ false

-- the reading has come to the end of the history
pub record Reads (first : ℕ) (r : Reading) (h : List Name) : Type 0 where
  pub follows : Follows first r.walker h
  pub told : AreTold h
  pub wanted : HasWanted r.wanted h

-- a step shows the next name, which counts, and the reading follows it
pub record ReadsOn (first : ℕ) (content : Option Content) (before now : ℕ) (h : List Name) (old new : Reading)
    (p : Part) (page : List ℕ) : Type 0 where
  pub seen : IsSeen old.walker.limits first content before now h (name_of_part p page)
  pub told : is_told h (name_of_part p page) ≡ true
  pub place : IsPart h p
  pub reads : Reads first new (name_of_part p page ∷ h)
  pub fewer : names_left new.walker < names_left old.walker
