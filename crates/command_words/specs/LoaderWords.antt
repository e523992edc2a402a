-- The command lines of `swsusp_image loader` and `swsusp_image machine`: which lists of words are plain, and what
-- they ask for.
use Rattle.std.specs.Prelude.{ℕ, zero, suc, ◌^◌, List, [], ◌∷◌, ◌++◌, length, nat_eq, nat_lt, is_none, codes}
use Rattle.std.specs.Prelude.{if◌then◌else◌}
use Rattle.std.specs.Prelude.{Option, Some, None, option_map, option_and_then, take, drop, unwrap_or, slice_index_or}
use Rattle.std.specs.Cmp.Lexicographic.{pointwise}
use Rattle.command_words.specs.Words.{is_path, plain_number}

-- the options of a command line: each number has 32 bits
pub record Given : Type 0 where
  pub offset : Option ℕ
  pub tables : Option (ℕ × ℕ)
  pub zones : List (ℕ × ℕ)
  pub extents : List (ℕ × ℕ × ℕ)

-- which dump is wanted: a loader's, or that of the machine that was saved, with its tables if they are in the image
pub data WantedDump : Type 0 where
  loader : WantedDump
  machine : (tables : Option (ℕ × ℕ)) → WantedDump

pub record AskedDump : Type 0 where
  pub wanted : WantedDump
  pub swap : List ℕ
  pub offset : ℕ
  pub zones : List (ℕ × ℕ)
  pub extents : List (ℕ × ℕ × ℕ)

abbrev pub no_options : Given
no_options = record { offset = None; tables = None; zones = []; extents = [] }

abbrev pub number : List ℕ → Option ℕ
number word = plain_number (2 ^ 32) word

abbrev pub Read : Type 0
Read = Option (Given × List (List ℕ))

-- N, once
abbrev pub offset_first : Given → List (List ℕ) → Read
offset_first given [] = None
offset_first given (n ∷ words) =
    if is_none given.offset
    then option_map (λ offset. ((record given { offset = Some offset }), words)) (number n)
    else None

-- F S, once
abbrev pub tables_first : Given → List (List ℕ) → Read
tables_first given [] = None
tables_first given (frames ∷ []) = None
tables_first given (frames ∷ slots ∷ words) =
    if is_none given.tables
    then option_and_then
    (λ f. option_map (λ s. ((record given { tables = Some (f, s) }), words)) (number slots)) (number frames)
    else None

-- one more zone, of at most 16
abbrev pub more_zones : Given → ℕ × ℕ → List (List ℕ) → Read
more_zones given zone words =
    if nat_lt (length given.zones) 16 then Some ((record given { zones = given.zones ++ zone ∷ [] }), words) else None

-- START COUNT
abbrev pub zone_first : Given → List (List ℕ) → Read
zone_first given [] = None
zone_first given (start ∷ []) = None
zone_first given (start ∷ count ∷ words) =
    option_and_then (λ s. option_and_then (λ c. more_zones given (s, c) words) (number count)) (number start)

-- one more extent, of at most 64
abbrev pub more_extents : Given → ℕ × ℕ × ℕ → List (List ℕ) → Read
more_extents given extent words =
    if nat_lt (length given.extents) 64 then Some ((record given { extents = given.extents ++ extent ∷ [] }), words)
    else None

-- START LENGTH BLOCK
abbrev pub extent_first : Given → List (List ℕ) → Read
extent_first given [] = None
extent_first given (start ∷ []) = None
extent_first given (start ∷ len ∷ []) = None
extent_first given (start ∷ len ∷ block ∷ words) =
    option_and_then (λ s. option_and_then (λ l. option_and_then (λ b. more_extents given (s, l, b) words)
    (number block)) (number len)) (number start)

-- an option, and the words after it
abbrev pub option_first : Given → List (List ℕ) → Read
option_first given [] = None
option_first given (flag ∷ words) =
    if pointwise nat_eq flag (codes "--offset") then offset_first given words
    else if pointwise nat_eq flag (codes "--tables") then tables_first given words
    else if pointwise nat_eq flag (codes "--zone") then zone_first given words
    else if pointwise nat_eq flag (codes "--extent") then extent_first given words
    else None

-- fewer than n options, and nothing else
unfoldable pub options_in : ℕ → Given → List (List ℕ) → Option Given
options_in zero given words = None
options_in (suc n) given [] = Some given
options_in (suc n) given (flag ∷ words) =
    option_and_then (λ read. options_in n read.0 read.1) (option_first given (flag ∷ words))

-- which dump a command wants, given these tables
abbrev pub wanted_of : List ℕ → Option (ℕ × ℕ) → Option WantedDump
wanted_of command tables =
    if pointwise nat_eq command (codes "loader") then (if is_none tables then Some loader else None)
    else if pointwise nat_eq command (codes "machine") then Some (machine tables)
    else None

abbrev pub asked_with : List ℕ → Given → WantedDump → AskedDump
asked_with swap given wanted =
    record {
      wanted = wanted;
      swap = swap;
      offset = unwrap_or given.offset 0;
      zones = given.zones;
      extents = given.extents;
    }

-- the options before SWAP: --offset and --tables once each, 16 zones and 64 extents at most
abbrev pub over_path : List ℕ → List (List ℕ) → List ℕ → Option AskedDump
over_path command options swap =
    if is_path swap
    then option_and_then (λ given. option_map (asked_with swap given) (wanted_of command given.tables))
    (options_in 83 no_options options)
    else None

abbrev pub over_words : List ℕ → List (List ℕ) → Option AskedDump
over_words command [] = None
over_words command (word ∷ words) =
    over_path command (take (length words) (word ∷ words)) (slice_index_or (word ∷ words) (length words) [])

-- What a plain list of words asks for: the program's name, `loader` or `machine`, options and SWAP.
abbrev pub asked_of : List (List ℕ) → Option AskedDump
asked_of [] = None
asked_of (name ∷ []) = None
asked_of (name ∷ command ∷ words) = over_words command words
