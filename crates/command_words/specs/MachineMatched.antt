-- What a command's matches ask for.
use Rattle.std.specs.Prelude.{List, Option, Some, None, option_map, option_and_then, codes, if◌then◌else◌}
use Rattle.std.specs.Str.{bytes_eq}
use Rattle.clap.specs.Words.{Row, Text, first_of}
use Rattle.command_words.specs.Matched.{check_by, flag_at, number_at}
use Rattle.command_words.specs.MachineWords.{Asked, make, draw, loader, core, from_core, show, differ, check}

abbrev pub from_core_in : List Row → Option Asked
from_core_in rows = Some (from_core (number_at 32 (codes "slots") rows))

abbrev pub differ_in : List Row → Option Asked
differ_in rows =
    option_and_then (λ first. option_map (λ second. differ first second) (first_of (codes "second") rows))
    (first_of (codes "first") rows)

abbrev pub check_in : List Row → Option Asked
check_in rows =
    option_and_then (λ swap. option_map (λ any. check (check_by any) swap) (flag_at (codes "any-kernel") rows))
    (first_of (codes "swap") rows)

-- what the matches of the subcommand with this name ask for
abbrev pub matched_by : Text → List Row → Option Asked
matched_by name rows =
    if bytes_eq name (codes "make") then Some make
    else if bytes_eq name (codes "draw") then Some draw
    else if bytes_eq name (codes "loader") then Some loader
    else if bytes_eq name (codes "core") then Some core
    else if bytes_eq name (codes "from-core") then from_core_in rows
    else if bytes_eq name (codes "show") then Some show
    else if bytes_eq name (codes "differ") then differ_in rows
    else if bytes_eq name (codes "check") then check_in rows
    else None

-- what the matches of the whole command line ask for
abbrev pub asked_in : Option (Text × List Row) → Option Asked
asked_in None = None
asked_in (Some (name, rows)) = matched_by name rows
