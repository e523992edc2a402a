-- All that is wrong with an image.
use Rattle.std.specs.Prelude.{◌+◌, List, [], ◌∷◌, ◌++◌}
use Rattle.page_core.specs.declared.format.Format.{Format}
use Rattle.image_walk.specs.Names.{Name, map_at, page_at, maps_in}
use Rattle.image_check.specs.declared.finding.Finding.{Finding}
use Rattle.image_check.specs.Told.{list_of}
use Rattle.image_check.specs.Entries.{position_of, place_of, counts_of, previous_of, data_of}
use Rattle.image_check.specs.Entries.{entry_fault, read_findings, data_findings, map_fault}

-- what is wrong with a name that follows a history
abbrev pub name_findings : Format → List Name → Name → List Finding
name_findings format h (map_at b answer) = list_of (map_fault (counts_of h) (maps_in h + 1) b answer)
name_findings format h (page_at b answer) =
    list_of (entry_fault (counts_of h) (position_of h) (place_of h) b answer)
    ++ (read_findings format (counts_of h) (position_of h) b (previous_of h) answer
    ++ data_findings format (counts_of h) (position_of h) (data_of (page_at b answer ∷ h)) answer)

-- what is wrong with the names of a history, each after those before it
abbrev pub history_findings : Format → List Name → List Finding
history_findings format [] = []
history_findings format (x ∷ h) = history_findings format h ++ name_findings format h x
