-- What a part of an image adds to the facts that are shown.
use Rattle.std.specs.Prelude.{ℕ, ◌-◌, List, [], ◌++◌, map, min, Option, Some, None}
use Rattle.definitions.specs.Bytes.{number_at}
use Rattle.image_show.specs.InfoFacts.{info_facts}
use Rattle.image_show.specs.Runs.{list_of, IsUpTo}
use Rattle.image_show.specs.Told.{block_run}
use Rattle.image_show.specs.declared.facts.fact.Fact.{Fact}
use Rattle.image_show.specs.declared.facts.part.Part.{Part}
use Rattle.image_show.specs.declared.facts.part.Part.TheVariants as part
use Rattle.definitions.specs.declared.counts.TheConstants.{WORDS_PER_PAGE}

-- what the info page says
abbrev pub facts_of_info : Part → List ℕ → List Fact
facts_of_info (part.Map maps b) page = []
facts_of_info (part.Info b) page = info_facts page
facts_of_info (part.Page b) page = []

abbrev pub part_facts : Part → List ℕ → Option (ℕ × ℕ) → List Fact
part_facts p page ended = facts_of_info p page ++ map block_run (list_of ended)

abbrev pub maps_after : ℕ → Part → ℕ
maps_after maps (part.Map now b) = now
maps_after maps (part.Info b) = maps
maps_after maps (part.Page b) = maps

-- these numbers follow others, and these runs have ended
abbrev pub RunsOn : Option (ℕ × ℕ) → Option (ℕ × ℕ) → List ℕ → List (ℕ × ℕ) → Type 0
RunsOn old new more runs = (numbers : List ℕ) (ended : List (ℕ × ℕ)) → IsUpTo numbers old ended → IsUpTo (numbers
    ++ more) new (ended ++ runs)

-- how many page frame numbers follow, once that is known, and how many of them a part has
abbrev pub rest_of : Option ℕ → ℕ
rest_of None = 0
rest_of (Some n) = n

abbrev pub numbers_in_part : Option ℕ → Part → ℕ
numbers_in_part left (part.Map maps b) = 0
numbers_in_part left (part.Info b) = 0
numbers_in_part left (part.Page b) = min (rest_of left) WORDS_PER_PAGE

abbrev pub left_after : Option ℕ → Part → List ℕ → Option ℕ
left_after left (part.Map maps b) page = left
left_after left (part.Info b) page = Some (number_at 8 page 416)
left_after left (part.Page b) page = Some (rest_of left - WORDS_PER_PAGE)
