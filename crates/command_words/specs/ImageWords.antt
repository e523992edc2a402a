-- The command line of `swsusp_image`: which lists of words are plain, and what they ask for.
use Rattle.std.specs.Prelude.{ℕ, ◌^◌, Bool, true, false, List, [], ◌∷◌, nat_eq, codes, if◌then◌else◌}
use Rattle.std.specs.Prelude.{Option, Some, None, option_map, option_and_then}
use Rattle.std.specs.Cmp.Lexicographic.{pointwise}
use Rattle.command_words.specs.Words.{is_path, plain_number}

-- a swap area: the path of its file or block device, and the block of its header
pub record SwapArea : Type 0 where
  pub swap : List ℕ
  pub offset : ℕ

-- what a list of words asks for, with its values
pub data Asked : Type 0 where
  check : (json : Bool) (area : SwapArea) → Asked
  show : (json : Bool) (area : SwapArea) → Asked
  stream : (area : SwapArea) → Asked
  page : (area : SwapArea) (frame : ℕ) → Asked
  core : (area : SwapArea) → Asked
  differ : (first_only : Bool) (area : SwapArea) (other : List ℕ) → Asked
  discard : (area : SwapArea) → Asked

-- [--offset N], where N has 32 bits: the number, which is 0 without the option, and the words after it
abbrev pub offset_first : List (List ℕ) → Option (ℕ × List (List ℕ))
offset_first [] = Some (0, [])
offset_first (word ∷ []) = Some (0, word ∷ [])
offset_first (word ∷ number ∷ words) =
    if pointwise nat_eq word (codes "--offset")
    then option_map (λ offset. (offset, words)) (plain_number (2 ^ 32) number)
    else Some (0, word ∷ number ∷ words)

-- SWAP, in an area with this offset: what a command makes of the area and the words after it
abbrev pub over_path : (SwapArea → List (List ℕ) → Option Asked) → ℕ → List (List ℕ) → Option Asked
over_path ask offset [] = None
over_path ask offset (swap ∷ words) = if is_path swap then ask (record { swap = swap; offset = offset }) words else None

-- [--offset N] SWAP: what a command makes of the area and the words after it
abbrev pub over_area : (SwapArea → List (List ℕ) → Option Asked) → List (List ℕ) → Option Asked
over_area ask words = option_and_then (λ rest. over_path ask rest.0 rest.1) (offset_first words)

-- this request, if no word follows
abbrev pub alone : Asked → List (List ℕ) → Option Asked
alone asked [] = Some asked
alone asked (word ∷ words) = None

-- whether the words begin with a flag, and the words after it
abbrev pub flag_first : List ℕ → List (List ℕ) → Bool × List (List ℕ)
flag_first flag [] = (false, [])
flag_first flag (word ∷ words) = if pointwise nat_eq word flag then (true, words) else (false, word ∷ words)

-- [--offset N] and then [FLAG] SWAP: what a command makes of the flag, the area and the words after it
abbrev pub after_offset : List ℕ → (Bool → SwapArea → List (List ℕ) → Option Asked) → List (List ℕ) → Option Asked
after_offset flag ask words =
    option_and_then
    (λ rest. over_path (ask (flag_first flag rest.1).0) rest.0 (flag_first flag rest.1).1) (offset_first words)

-- [FLAG] and [--offset N] in either order, and then SWAP
abbrev pub over_flagged : List ℕ → (Bool → SwapArea → List (List ℕ) → Option Asked) → List (List ℕ) → Option Asked
over_flagged flag ask [] = None
over_flagged flag ask (word ∷ words) =
    if pointwise nat_eq word flag then over_area (ask true) words else after_offset flag ask (word ∷ words)

-- the path of another area, whose header is in the block of the same number
abbrev pub differ_of : Bool → SwapArea → List (List ℕ) → Option Asked
differ_of first_only area [] = None
differ_of first_only area (other ∷ []) = if is_path other then Some (differ first_only area other) else None
differ_of first_only area (other ∷ more ∷ words) = None

-- P, a number of 64 bits
abbrev pub page_of : SwapArea → List (List ℕ) → Option Asked
page_of area [] = None
page_of area (number ∷ []) = option_map (λ frame. page area frame) (plain_number (2 ^ 64) number)
page_of area (number ∷ more ∷ words) = None

-- what a command asks for with the words that follow it
abbrev pub command_by : List ℕ → List (List ℕ) → Option Asked
command_by command words =
    if pointwise nat_eq command (codes "check")
    then over_flagged (codes "--json") (λ json area. alone (check json area)) words
    else if pointwise nat_eq command (codes "show")
    then over_flagged (codes "--json") (λ json area. alone (show json area)) words
    else if pointwise nat_eq command (codes "stream") then over_area (λ area. alone (stream area)) words
    else if pointwise nat_eq command (codes "page") then over_area page_of words
    else if pointwise nat_eq command (codes "core") then over_area (λ area. alone (core area)) words
    else if pointwise nat_eq command (codes "differ") then over_flagged (codes "--first") differ_of words
    else if pointwise nat_eq command (codes "discard") then over_area (λ area. alone (discard area)) words
    else None

-- What a plain list of words asks for: the program's name, a command, and its own words. No other list parses.
abbrev pub command_of : List (List ℕ) → Option Asked
command_of [] = None
command_of (name ∷ []) = None
command_of (name ∷ command ∷ words) = command_by command words
