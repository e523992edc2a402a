-- What is said of a list that isn't a command.
use Rattle.std.specs.Prelude.{◌++◌, List, ℕ, codes}

-- the line for a list that clap takes but that isn't plain
abbrev pub not_plain : List ℕ
not_plain =
    codes "words: a path isn't empty nor begins with -, a number has no zero before it, "
    ++ codes "and nothing but --any-kernel stands between a command and its paths\n"
