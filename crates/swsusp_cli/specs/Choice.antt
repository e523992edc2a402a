-- Which disk a run works on.
use Rattle.std.specs.Prelude.{◌≡◌, ◌⊎◌, ℕ, List, Option, Some, None, string_bytes}
use Rattle.swsusp_cli.specs.declared.choosing.Choice.{Choice}
use Rattle.swsusp_cli.specs.declared.choosing.Choice.TheVariants.{File, Memory}
use Rattle.command_words.specs.Words.{Asked, inspect, hibernate, resume, replay, drill, export, import, command_of}

-- the file that a command works on
abbrev pub file_of : Asked → Option (List ℕ)
file_of (inspect offset swap) = Some swap
file_of (hibernate format size swap) = Some swap
file_of (resume check swap) = Some swap
file_of replay = None
file_of (drill number) = None
file_of export = None
file_of (import swap) = Some swap

-- The file that the words name; or a disk in memory: 16,384 blocks for a replay and a drill, one for an export and for
-- words that don't parse.
abbrev pub IsChoice : List (List ℕ) → Choice → Type 0
IsChoice words (File path) =
    (asked : Asked) × (command_of words ≡ Some asked) × (file_of asked ≡ Some (string_bytes path))
IsChoice words (Memory blocks) =
    ((command_of words ≡ None) × (blocks ≡ 1)) ⊎ ((command_of words ≡ Some export) × (blocks ≡ 1))
    ⊎ ((command_of words ≡ Some replay) × (blocks ≡ 16384))
    ⊎ ((number : ℕ) × (command_of words ≡ Some (drill number)) × (blocks ≡ 16384))

-- the choice is this file
abbrev pub IsFile : List ℕ → Choice → Type 0
IsFile swap (File path) = string_bytes path ≡ swap
IsFile swap (Memory blocks) = ⊥
