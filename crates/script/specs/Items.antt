-- What each of the functions that read a script's lines returns, and which values fit.
use Rattle.std.specs.Prelude.{◌≡◌, ℕ, ◌-◌, ◌≤◌, List, Bool, Option, Some, None, Result, Ok, Err, ⊤, ◌+◌, All, [], ◌∷◌}
use Rattle.std.specs.Prelude.{◌++◌}
use Rattle.std.specs.List.{find}
use Rattle.std.specs.Option.{option_map}
use Rattle.std.specs.Str.{bytes_eq}
use Rattle.plain_machine.specs.declared.event.Event.{Event}
use Rattle.plain_machine.specs.Fitting.{IsFitting}
use Rattle.script.specs.declared.fault.FaultKind.{FaultKind}
use Rattle.script.specs.declared.grammar.Item.{Item}
use Rattle.script.specs.declared.grammar.Item.TheVariants.{Nothing, Sets, Events}
use Rattle.script.specs.declared.grammar.Setting.{Setting}
use Rattle.script.specs.declared.grammar.LineStop.{LineStop}
use Rattle.script.specs.declared.grammar.LineStop.TheVariants as stop
use Rattle.script.specs.Settings.{SettingsValue}
use Rattle.script.specs.Shapes.{Row, setting_rows, event_rows, core_rows, machine_rows, outside_rows, task_rows}
use Rattle.script.specs.Shapes.{IsScripted}
use Rattle.script.specs.Shapes.{◌>>=◌}
use Rattle.script.specs.Grammar.{row_of, by_rows}
use Rattle.definitions.specs.Zones.{numbers}
use Rattle.script.specs.declared.grammar.Setting.TheVariants.{Zone, Last, Bad, Region, Tables, Signature, Extent}
use denote.Ref.{Bor}

-- the settings after one more setting
abbrev pub with_setting : Setting → SettingsValue → SettingsValue
with_setting (Zone start count) s = record s { zones = s.zones ++ (start, count) ∷ [] }
with_setting (Last last) s = record s { last = last }
with_setting (Bad slot) s = record s { bad = s.bad ++ slot ∷ [] }
with_setting (Region start count flags) s = record s { regions = s.regions ++ (start, count, flags) ∷ [] }
with_setting (Tables f t) s = record s { tables = Some (f, t) }
with_setting (Signature n) s = record s { hw_sig = n }
with_setting (Extent start len block) s = record s { extents = s.extents ++ (start, len, block) ∷ [] }

-- a last page that a swap area may have
abbrev pub IsLastPage : ℕ → Type 0
IsLastPage last = (1 ≤ last) × (last ≤ 16383)

-- a zone as a line may name it
abbrev pub IsZoneLine : ℕ × ℕ → Type 0
IsZoneLine zone = (zone.0 ≤ 65535) × (1 ≤ zone.1) × (zone.1 ≤ 65536)

abbrev pub IsFittingSetting : Setting → Type 0
IsFittingSetting (Zone start count) = IsZoneLine (start, count)
IsFittingSetting (Last last) = IsLastPage last
IsFittingSetting (Bad slot) = 1 ≤ slot
IsFittingSetting (Region start count flags) = ⊤
IsFittingSetting (Tables f t) = ⊤
IsFittingSetting (Signature n) = ⊤
IsFittingSetting (Extent start len block) = ⊤

-- settings that lines with fitting numbers give
pub record AreFitting (s : SettingsValue) : Type 0 where
  pub zones : All IsZoneLine s.zones
  pub last : IsLastPage s.last
  pub bad : All (λ slot. 1 ≤ slot) s.bad

-- what the words of a line say if the first isn't an event's
unfoldable pub setting_item : Bool → List ℕ → List (List ℕ) → Result Item FaultKind
setting_item begun first words = by_rows begun None (row_of first setting_rows) words

-- what a line says, if its first word has a row
abbrev pub if_found : {A : Type 0} → Option (Row A) → List (List ℕ) → Result (Option A) FaultKind
if_found None words = Ok None
if_found (Some row) words = row.reads words >>= λ s. Ok (Some s)

-- what a table has beside a word
unfoldable pub beside : {A : Type 0} → List (Bor (List ℕ) × A) → List ℕ → Option A
beside table word = option_map (λ row. row.1) (find (λ row. bytes_eq row.0.now word) table)

-- the row of a first word among those of settings, of a task's requests, of events of the machine, and of what happens
-- to it from outside
unfoldable pub setting_found : List ℕ → Option (Row Setting)
setting_found first = row_of first setting_rows

unfoldable pub task_found : List ℕ → Option (Row (ℕ × Event))
task_found first = row_of first task_rows

unfoldable pub machine_found : List ℕ → Option (Row (ℕ × Event))
machine_found first = row_of first machine_rows

unfoldable pub outside_found : List ℕ → Option (Row (ℕ × Event))
outside_found first = row_of first outside_rows

-- the setting that a line gives, if its first word is a setting's
unfoldable pub setting_in : List ℕ → List (List ℕ) → Result (Option Setting) FaultKind
setting_in first words = if_found (setting_found first) words

-- the event that a line gives and how many times, if its first word is an event's
unfoldable pub event_in : List ℕ → List (List ℕ) → Result (Option (ℕ × Event)) FaultKind
event_in first words = if_found (row_of first event_rows) words

-- the same for events of the whole machine
unfoldable pub core_event_in : List ℕ → List (List ℕ) → Result (Option (ℕ × Event)) FaultKind
core_event_in first words = if_found (row_of first core_rows) words

-- the same for events of the machine, for those from outside and steps, and for a task's requests
unfoldable pub machine_event_in : List ℕ → List (List ℕ) → Result (Option (ℕ × Event)) FaultKind
machine_event_in first words = if_found (machine_found first) words

unfoldable pub outside_event_in : List ℕ → List (List ℕ) → Result (Option (ℕ × Event)) FaultKind
outside_event_in first words = if_found (outside_found first) words

unfoldable pub task_event_in : List ℕ → List (List ℕ) → Result (Option (ℕ × Event)) FaultKind
task_event_in first words = if_found (task_found first) words

-- a stop gives the grammar's fault, unless memory ran out
abbrev pub Stops : LineStop → Result Item FaultKind → Type 0
Stops stop.NoMemory answer = ⊤
Stops (stop.Fault k) answer = answer ≡ Err k

abbrev pub IsFittingItem : Item → Type 0
IsFittingItem Nothing = ⊤
IsFittingItem (Sets s) = IsFittingSetting s
IsFittingItem (Events n e) = (1 ≤ n) × (n ≤ 100000) × IsFitting e × IsScripted e

-- the settings after a line
abbrev pub settings_behind : Result Item FaultKind → SettingsValue → SettingsValue
settings_behind (Ok (Sets s)) settings = with_setting s settings
settings_behind (Ok (Events n e)) settings = settings
settings_behind (Ok Nothing) settings = settings
settings_behind (Err k) settings = settings

-- a line stops by this fault, or for lack of memory
abbrev pub StopsBy : Option FaultKind → LineStop → Type 0
StopsBy fault stop.NoMemory = ⊤
StopsBy fault (stop.Fault k) = fault ≡ Some k
