-- The key and the value of a fact as JSON, from the text of its line.
use Rattle.std.specs.Prelude.{ℕ, ◌+◌, ◌^◌, ◌==◌, Bool, false, List, length, drop, not, nat_le, decimal, take_while}
use Rattle.std.specs.Prelude.{if◌then◌else◌, Option, Some, None}
use Rattle.std.specs.Str.{encode_utf8_all}
use Rattle.serde_json.specs.Data.{Data, array, boolean, item, no_items, number, string, unsigned}
use Rattle.image_show.specs.declared.facts.fact.Fact.{Fact}
use Rattle.image_show.specs.declared.facts.fact.Fact.TheVariants as fact
use Rattle.image_show.specs.Texts.{fact_text}
use Rattle.image_json.specs.declared.array.Array.{Array}
use Rattle.image_json.specs.declared.array.Array.TheVariants.{BadPages, Flags, BlockRuns, FrameRuns}

-- bytes as text: each as the character with its number, so that ASCII stays as it is
abbrev pub characters : List ℕ → List ℕ
characters bytes = encode_utf8_all bytes

-- The line of a fact is its key, and its value after a space.
abbrev pub key_in : List ℕ → List ℕ
key_in text = take_while (λ b. not (b == 32)) text

abbrev pub value_in : List ℕ → List ℕ
value_in text = drop (length (key_in text) + 1) text

-- a number if a double holds all numbers up to it, else a string of its digits
abbrev pub number_value : ℕ → Data
number_value n = if nat_le n (2 ^ 53) then number (unsigned n) else string (decimal n)

-- consecutive blocks or page frames: the first one, and their number
abbrev pub run_value : ℕ → ℕ → Data
run_value start count = array (item (number_value start) (item (number_value count) no_items))

-- the value of a fact with this text
abbrev pub value_by : Fact → List ℕ → Data
value_by (fact.Blocks n) text = number_value n
value_by fact.HeaderMissing text = string (characters text)
value_by fact.HeaderUnread text = string (characters text)
value_by (fact.Image marked) text = boolean marked
value_by fact.AreaSwap text = string (characters text)
value_by fact.AreaOld text = string (characters text)
value_by fact.AreaImage text = string (characters text)
value_by (fact.AreaOther sig) text = string (characters text)
value_by (fact.AreaBad why) text = string (characters text)
value_by (fact.LastPage n) text = number_value n
value_by (fact.BadPages n) text = number_value n
value_by (fact.BadPage n) text = number_value n
value_by (fact.Uuid bytes) text = string (characters text)
value_by (fact.Label bytes) text = string (characters text)
value_by (fact.FirstMap n) text = number_value n
value_by (fact.Flags n) text = number_value n
value_by (fact.Flag f) text = string (characters text)
value_by (fact.HwSig n) text = number_value n
value_by (fact.Crc32 n) text = number_value n
value_by (fact.Header h) text = string (characters text)
value_by (fact.Name key bytes) text = string (characters text)
value_by (fact.VersionCode n) text = number_value n
value_by (fact.Kernel a b c) text = string (characters text)
value_by (fact.JumpAddress n) text = string (characters text)
value_by (fact.JumpAddressPhysical n) text = string (characters text)
value_by (fact.Cr3 n) text = string (characters text)
value_by (fact.MemoryMapChecksum n) text = string (characters text)
value_by (fact.KernelVersion bytes) text = string (characters text)
value_by (fact.MemoryPages n) text = number_value n
value_by (fact.ImagePages n) text = number_value n
value_by (fact.StreamPages n) text = number_value n
value_by (fact.BlockRun start count) text = run_value start count
value_by (fact.Maps n) text = number_value n
value_by (fact.Units n) text = number_value n
value_by (fact.CompressedBytes n) text = number_value n
value_by (fact.ExpandedBytes n) text = number_value n
value_by (fact.FrameRun start count) text = run_value start count

abbrev pub key_of : Fact → List ℕ
key_of f = characters (key_in (fact_text f))

abbrev pub value_of : Fact → Data
value_of f = value_by f (value_in (fact_text f))

-- the array that a fact is an item of, if there may be many of its kind
abbrev pub array_of : Fact → Option Array
array_of (fact.BadPage n) = Some BadPages
array_of (fact.Flag f) = Some Flags
array_of (fact.BlockRun start count) = Some BlockRuns
array_of (fact.FrameRun start count) = Some FrameRuns
array_of _ = None

-- the place of an array among the four
abbrev pub place_of : Array → ℕ
place_of BadPages = 0
place_of Flags = 1
place_of BlockRuns = 2
place_of FrameRuns = 3

-- whether two facts are items of one array
abbrev pub is_same : Option Array → Option Array → Bool
is_same None b = false
is_same (Some a) None = false
is_same (Some a) (Some b) = place_of a == place_of b
