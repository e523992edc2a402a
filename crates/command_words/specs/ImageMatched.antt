-- What a command's matches ask for.
use Rattle.std.specs.Prelude.{Bool, List, Option, Some, None, option_map, option_and_then, codes}
use Rattle.std.specs.Prelude.{if◌then◌else◌}
use Rattle.std.specs.Str.{bytes_eq}
use Rattle.clap.specs.Words.{Row, Text, first_of}
use Rattle.command_words.specs.Matched.{flag_at, number_at, swap_in}
use Rattle.command_words.specs.ImageWords.{Asked, SwapArea, check, show, stream, page, core, differ, discard}

abbrev pub area_in : List Row → Option SwapArea
area_in rows =
    option_and_then
    (λ swap. option_map (λ offset. record { swap = swap; offset = offset }) (number_at 32 (codes "offset") rows))
    (swap_in rows)

-- the area, with whether --json is given
abbrev pub formed_in : List Row → Option (Bool × SwapArea)
formed_in rows =
    option_and_then (λ area. option_map (λ json. (json, area)) (flag_at (codes "json") rows)) (area_in rows)

abbrev pub check_in : List Row → Option Asked
check_in rows = option_map (λ formed. check formed.0 formed.1) (formed_in rows)

abbrev pub show_in : List Row → Option Asked
show_in rows = option_map (λ formed. show formed.0 formed.1) (formed_in rows)

abbrev pub stream_in : List Row → Option Asked
stream_in rows = option_map (λ area. stream area) (area_in rows)

abbrev pub core_in : List Row → Option Asked
core_in rows = option_map (λ area. core area) (area_in rows)

abbrev pub discard_in : List Row → Option Asked
discard_in rows = option_map (λ area. discard area) (area_in rows)

abbrev pub page_in : List Row → Option Asked
page_in rows =
    option_and_then (λ area. option_map (λ frame. page area frame) (number_at 64 (codes "frame") rows)) (area_in rows)

abbrev pub differ_in : List Row → Option Asked
differ_in rows =
    option_and_then (λ area. option_and_then (λ other. option_map (λ first_only. differ first_only area other)
    (flag_at (codes "first") rows)) (first_of (codes "other") rows)) (area_in rows)

-- what the matches of the subcommand with this name ask for
abbrev pub matched_by : Text → List Row → Option Asked
matched_by name rows =
    if bytes_eq name (codes "check") then check_in rows
    else if bytes_eq name (codes "show") then show_in rows
    else if bytes_eq name (codes "stream") then stream_in rows
    else if bytes_eq name (codes "page") then page_in rows
    else if bytes_eq name (codes "core") then core_in rows
    else if bytes_eq name (codes "differ") then differ_in rows
    else if bytes_eq name (codes "discard") then discard_in rows
    else None

-- what the matches of the whole command line ask for
abbrev pub asked_in : Option (Text × List Row) → Option Asked
asked_in None = None
asked_in (Some (name, rows)) = matched_by name rows
