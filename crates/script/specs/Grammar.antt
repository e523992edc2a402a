-- What a script says, or its first fault. In a line the first kind of fault that applies is named, in the order of
-- `FaultKind`.
use Rattle.std.specs.Prelude.{ℕ, ◌+◌, ◌-◌, ◌==◌, ◌&&◌, List, [], ◌∷◌, ◌++◌, Bool, false, not, Option, Some, None}
use Rattle.std.specs.Prelude.{Result, Ok, Err, length, nat_lt, nat_le, if◌then◌else◌, count_by, flat_map, replicate}
use Rattle.std.specs.Prelude.{reverse, take, slice_index, slice_index_or, unwrap_or, slice_get}
use Rattle.std.specs.List.{find, filter_map, list_all, range_with_len, slice_split}
use Rattle.std.specs.Option.{option_map}
use Rattle.std.specs.Str.{bytes_eq}
use Rattle.plain_machine.specs.declared.event.Event.{Event}
use Rattle.plain_machine.specs.Machine.{Hardware}
use Rattle.script.specs.declared.fault.FaultKind.{FaultKind}
use Rattle.script.specs.declared.fault.FaultKind.TheVariants as kind
use Rattle.script.specs.declared.fault.ScriptFault.{ScriptFault}
use Rattle.script.specs.declared.fault.ParseStop.{ParseStop}
use Rattle.script.specs.declared.fault.ParseStop.TheVariants as parse_stop
use Rattle.script.specs.declared.grammar.Item.{Item}
use Rattle.script.specs.declared.grammar.Item.TheVariants.{Nothing, Sets, Events}
use Rattle.script.specs.declared.grammar.Setting.{Setting}
use Rattle.script.specs.declared.grammar.Setting.TheVariants.{Zone, Last, Bad, Region, Tables, Signature, Extent}
use Rattle.script.specs.declared.grammar.LineStop.{LineStop}
use Rattle.script.specs.declared.grammar.LineStop.TheVariants as stop
use Rattle.script.specs.Settings.{SettingsValue, hardware_by, is_faulty}
use Rattle.script.specs.Shapes.{Row, setting_rows, event_rows, ◌>>=◌, words_of}
use denote.Ref.{Bor}

-- One line.

abbrev pub is_printable : ℕ → Bool
is_printable b = nat_le 32 b && nat_le b 126

-- the row with the given first word
abbrev pub row_of : {A : Type 0} → List ℕ → List (Row A) → Option (Row A)
row_of first rows = find (λ row. bytes_eq row.first first) rows

-- what the words after the first say, by its row
abbrev pub by_rows : Bool → Option (Row (ℕ × Event)) → Option (Row Setting) → List (List ℕ) → Result Item FaultKind
by_rows begun (Some row) setting words = row.reads words >>= λ e. Ok (Events e.0 e.1)
by_rows begun None (Some row) words = if begun then Err kind.Late else (row.reads words >>= λ s. Ok (Sets s))
by_rows begun None None words = Err kind.Word

-- what the words of a line say; `begun` says whether an event stands before it
unfoldable pub words_item : Bool → List ℕ → List (List ℕ) → Result Item FaultKind
words_item begun first words = by_rows begun (row_of first event_rows) (row_of first setting_rows) words

abbrev pub item_of : Bool → List (List ℕ) → Result Item FaultKind
item_of begun [] = Ok Nothing
item_of begun (first ∷ words) = words_item begun first words

-- the item of a line; an empty line, a line of spaces and a comment (first byte #) are tested for Byte only
unfoldable pub line_item : Bool → List ℕ → Result Item FaultKind
line_item begun line =
    if not (list_all is_printable line) then Err kind.Byte
    else if slice_index line 0 == 35 then Ok Nothing
    else item_of begun (words_of line)

-- What fits.

-- The settings of a script.

abbrev pub setting_of : Result Item FaultKind → Option Setting
setting_of (Ok (Sets s)) = Some s
setting_of (Ok (Events n e)) = None
setting_of (Ok Nothing) = None
setting_of (Err k) = None

abbrev pub zone_of : Setting → Option (ℕ × ℕ)
zone_of (Zone start count) = Some (start, count)
zone_of _ = None

abbrev pub last_of : Setting → Option ℕ
last_of (Last last) = Some last
last_of _ = None

abbrev pub bad_of : Setting → Option ℕ
bad_of (Bad slot) = Some slot
bad_of _ = None

abbrev pub region_of : Setting → Option (ℕ × ℕ × ℕ)
region_of (Region start count flags) = Some (start, count, flags)
region_of _ = None

abbrev pub tables_of : Setting → Option (ℕ × ℕ)
tables_of (Tables f s) = Some (f, s)
tables_of _ = None

abbrev pub hw_sig_of : Setting → Option ℕ
hw_sig_of (Signature n) = Some n
hw_sig_of _ = None

abbrev pub extent_of : Setting → Option (ℕ × ℕ × ℕ)
extent_of (Extent start len block) = Some (start, len, block)
extent_of _ = None

-- the settings that lines give, in order
unfoldable pub all_settings : List (List ℕ) → List Setting
all_settings lines = filter_map (λ line. setting_of (line_item false line)) lines

-- what the last setting of one kind says
abbrev pub last_one : {A : Type 0} → (Setting → Option A) → List Setting → Option A
last_one says settings = slice_get (filter_map says (reverse settings)) 0

-- Each line with a zone, a bad slot, a region or an extent adds one. Of the lines with a last page, tables or a
-- signature, the last one counts; by default the last page is 3000 and the signature 0.
abbrev pub by_kind : List Setting → SettingsValue
by_kind settings = record {
  zones = filter_map zone_of settings;
  last = unwrap_or (last_one last_of settings) 3000;
  bad = filter_map bad_of settings;
  regions = filter_map region_of settings;
  tables = last_one tables_of settings;
  hw_sig = unwrap_or (last_one hw_sig_of settings) 0;
  extents = filter_map extent_of settings;
}

unfoldable pub settings_in : List (List ℕ) → SettingsValue
settings_in lines = by_kind (all_settings lines)

-- The events of a script.

abbrev pub events_of : Result Item FaultKind → List Event
events_of (Ok (Events n e)) = replicate n e
events_of (Ok Nothing) = []
events_of (Ok (Sets s)) = []
events_of (Err k) = []

-- the events that lines give, in order
unfoldable pub events_in : List (List ℕ) → List Event
events_in lines = flat_map (λ line. events_of (line_item false line)) lines

-- A whole script.

-- more than 100,000 events in all
abbrev pub too_many : List Event → List Event → Bool
too_many before more = nat_lt 100000 (length before + length more)

-- the line has the script's first event
abbrev pub begins : List Event → List Event → Bool
begins before more = (length before == 0) && nat_lt 0 (length more)

-- the line of the first event is at fault if the settings before it describe no machine
abbrev pub kind_by : SettingsValue → List Event → Result Item FaultKind → Option FaultKind
kind_by settings before (Err k) = Some k
kind_by settings before (Ok item) =
    if too_many before (events_of (Ok item)) then Some kind.Events
    else if begins before (events_of (Ok item)) && is_faulty settings then Some kind.Hardware
    else None

abbrev pub stop_at : LineStop → ℕ → ParseStop
stop_at stop.NoMemory line = parse_stop.NoMemory
stop_at (stop.Fault k) line = parse_stop.Fault (record { line = line; kind = k })

-- the fault of a line after these settings and events, if it has one
unfoldable pub kind_after : SettingsValue → List Event → List ℕ → Option FaultKind
kind_after settings before line = kind_by settings before (line_item (nat_lt 0 (length before)) line)

-- the fault of the line after the first k lines, if it has one
unfoldable pub fault_at : List (List ℕ) → ℕ → Option ScriptFault
fault_at lines k =
    option_map (λ kind. record {
      line = k + 1;
      kind = kind;
    }) (kind_after (settings_in (take k lines)) (events_in (take k lines)) (slice_index_or lines k []))

-- the fault of a script without events whose settings describe no machine: it is that of a line after the last
abbrev pub end_fault : ℕ → SettingsValue → List Event → List ScriptFault
end_fault line settings events =
    if (length events == 0) && is_faulty settings then (record { line = line; kind = kind.Hardware } ∷ []) else []

-- the first fault, or else the value
abbrev pub first_of : {A : Type 0} → List ScriptFault → A → Result A ScriptFault
first_of [] value = Ok value
first_of (fault ∷ faults) value = Err fault

-- the lines of a script, which end at LF. A last part without LF is a line too; an empty one says nothing.
abbrev pub lines_of : List ℕ → List (List ℕ)
lines_of bytes = slice_split (λ b. b == 10) bytes

abbrev pub first_line : List ℕ → List ℕ
first_line text = slice_index_or (lines_of text) 0 []

-- the lines of a text, if there is one
abbrev pub lines_in : Option (Bor (List ℕ)) → List (List ℕ)
lines_in None = []
lines_in (Some text) = lines_of text.now

-- how many lines there are: one for each LF, and a last one without LF that isn't empty
unfoldable pub line_count : List ℕ → ℕ
line_count bytes = count_by (λ b. b == 10) bytes + (if slice_index_or bytes (length bytes - 1) 10 == 10 then 0 else 1)

-- what a script is read as
pub record ScriptValue : Type 0 where
  pub hardware : Hardware
  pub last : ℕ
  pub bad : List ℕ
  pub events : List Event

abbrev pub script_by : SettingsValue → List Event → ScriptValue
script_by settings events =
    record { hardware = hardware_by settings; last = settings.last; bad = settings.bad; events = events }

-- what lines say; `behind` is the number of the line after the last
unfoldable pub value_of : ℕ → List (List ℕ) → Result ScriptValue ScriptFault
value_of behind lines =
    first_of (filter_map (fault_at lines) (range_with_len 0 (length lines))
    ++ end_fault behind (settings_in lines) (events_in lines)) (script_by (settings_in lines) (events_in lines))

-- what a script says, or its first fault
unfoldable pub script_of : List ℕ → Result ScriptValue ScriptFault
script_of bytes =
    if nat_lt 1048576 (length bytes) then Err (record { line = 0; kind = kind.TooLong })
    else value_of (line_count bytes + 1) (lines_of bytes)

-- The names of faults, as a note prints them.
