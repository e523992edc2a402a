-- The lines that a script may have, by their first word.
use Rattle.std.specs.Prelude.{◌≡◌, ℕ, ◌%◌, ◌==◌, List, [], ◌∷◌, ◌++◌, codes, Result, Ok, Err, slice_index}
use Rattle.std.specs.Prelude.{if◌then◌else◌, ⊤, ◌+◌, ◌-◌, Option, Some, None, length, take, drop, replicate, nat_lt}
use Rattle.std.specs.Prelude.{◌^◌, ◌≤◌, ◌&&◌, not, Bool, filter, map}
use Rattle.std.specs.Str.{bytes_eq}
use Rattle.page_core.specs.declared.format.Format.{Format}
use Rattle.page_core.specs.declared.format.Format.TheVariants.{Plain, SkipZeros}
use Rattle.plain_machine.specs.declared.event.Event.{Event}
use Rattle.plain_machine.specs.declared.event.Event.TheVariants as event
use Rattle.plain_machine.specs.declared.event.TaskOp.{TaskOp}
use Rattle.plain_machine.specs.declared.event.TaskOp.TheVariants as op
use Rattle.plain_machine.specs.declared.event.Actor.{Actor}
use Rattle.plain_machine.specs.declared.event.Actor.TheVariants as actor
use Rattle.plain_machine.specs.declared.event.BootFrom.TheVariants.{Fresh}
use Rattle.plain_machine.specs.declared.event.Loader.{Loader}
use Rattle.plain_machine.specs.declared.event.Loader.TheVariants as loader
use Rattle.plain_machine.specs.declared.event.IdentCheck.TheVariants.{Compare}
use Rattle.script.specs.declared.fault.FaultKind.{FaultKind}
use Rattle.script.specs.declared.fault.FaultKind.TheVariants as kind
use Rattle.script.specs.declared.first_words.SettingWord.{SettingWord}
use Rattle.script.specs.declared.first_words.SettingWord.TheVariants as setting
use Rattle.script.specs.declared.first_words.MachineWord.{MachineWord}
use Rattle.script.specs.declared.first_words.MachineWord.TheVariants as machine
use Rattle.script.specs.declared.first_words.OutsideWord.{OutsideWord}
use Rattle.script.specs.declared.first_words.OutsideWord.TheVariants as outside
use Rattle.script.specs.declared.first_words.TaskWord.{TaskWord}
use Rattle.script.specs.declared.first_words.TaskWord.TheVariants as task
use Rattle.script.specs.declared.grammar.Setting.{Setting}
use Rattle.script.specs.declared.grammar.Setting.TheVariants.{Zone, Last, Bad, Region, Tables, Signature, Extent}
use Rattle.script.specs.declared.words.Span.{Span}
use Rattle.std.specs.List.{position, list_all, slice_split}
use Rattle.plain_machine.specs.declared.event.Ranges.{Ranges}
use Rattle.script.specs.declared.fault.FaultKind.TheVariants.{Count, Number, Range}
use Rattle.std.specs.Char.{is_ascii_digit}
use Rattle.std.specs.Str.Parse.{digits_value}
use denote.Ref.{Bor}

-- The words of a line of a script, and the numbers that they stand for.

-- `f` of the value, or the first fault
infixl 10 ◌>>=◌
abbrev pub ◌>>=◌ : {A B : Type 0} → Result A FaultKind → (A → Result B FaultKind) → Result B FaultKind
(Ok x) >>= f = f x
(Err kind) >>= f = Err kind

-- the words, wherever they are stored
abbrev pub texts : List (Bor (List ℕ)) → List (List ℕ)
texts words = map (λ word. word.now) words

-- a word isn't empty: there is no word between two spaces
abbrev pub is_word : List ℕ → Bool
is_word part = not (length part == 0)

-- the parts of a line between spaces
abbrev pub words_of : List ℕ → List (List ℕ)
words_of line = filter is_word (slice_split (λ b. b == 32) line)

-- the number of at most 64 bits that decimal digits are; leading zeros are allowed
unfoldable pub number_of : List ℕ → Option ℕ
number_of word =
    if list_all is_ascii_digit word && nat_lt 0 (length word) && nat_lt (digits_value 10 word) (2 ^ 64)
    then Some (digits_value 10 word) else None

abbrev pub in_span : Span → Option ℕ → Result ℕ FaultKind
in_span s None = Err Number
in_span s (Some n) = if nat_lt n s.0 then Err Range else if nat_lt s.1 n then Err Range else Ok n

-- a number of a span: Number comes before Range
unfoldable pub number_in : Span → List ℕ → Result ℕ FaultKind
number_in s word = in_span s (number_of word)

-- numbers of these spans, word by word
unfoldable pub numbers_in : List Span → List (List ℕ) → Result (List ℕ) FaultKind
numbers_in [] words = Ok []
numbers_in (s ∷ spans) [] = Err Count
numbers_in (s ∷ spans) (word ∷ words) = number_in s word >>= λ n. numbers_in spans words >>= λ ns. Ok (n ∷ ns)

-- as many numbers as there are spans
unfoldable pub all_numbers : List Span → List (List ℕ) → Result (List ℕ) FaultKind
all_numbers spans words = if length words == length spans then numbers_in spans words else Err Count

-- a number for each span, and in it
abbrev pub AllWithin : List Span → List ℕ → Type 0
AllWithin [] [] = ⊤
AllWithin [] (n ∷ ns) = ⊥
AllWithin (s ∷ spans) [] = ⊥
AllWithin (s ∷ spans) (n ∷ ns) = (s.0 ≤ n) × (n ≤ s.1) × AllWithin spans ns

-- Ranges of page frames, as the words after `resume` name them.

-- page frames from the low end to the high one, both below 65536
abbrev pub as_range : Option ℕ → Option ℕ → Result (ℕ × ℕ) FaultKind
as_range None high = Err Number
as_range (Some low) None = Err Number
as_range (Some low) (Some high) =
    if nat_lt high low then Err Range else if nat_lt 65535 high then Err Range else Ok (low, high)

-- the numbers on both sides of a dash
abbrev pub around : List ℕ → Option ℕ → Result (ℕ × ℕ) FaultKind
around word None = Err Number
around word (Some dash) = as_range (number_of (take dash word)) (number_of (drop (dash + 1) word))

-- A word A-B. No number has a dash, so the first one is the only one.
unfoldable pub range_in : List ℕ → Result (ℕ × ℕ) FaultKind
range_in word = around word (position (λ b. b == 45) word)

-- ranges, word by word
unfoldable pub ranges_in : List (List ℕ) → Result (List (ℕ × ℕ)) FaultKind
ranges_in [] = Ok []
ranges_in (word ∷ words) = range_in word >>= λ range. ranges_in words >>= λ ranges. Ok (range ∷ ranges)

-- a loader's ranges: the given ones, and (0, 0) in the places after them
abbrev pub ranges_of : List (ℕ × ℕ) → Ranges
ranges_of ranges = record { count = length ranges; list = ranges ++ replicate (8 - length ranges) (0, 0) }

-- up to 8 ranges
unfoldable pub all_ranges : List (List ℕ) → Result Ranges FaultKind
all_ranges words = if nat_lt 8 (length words) then Err Count else (ranges_in words >>= λ ranges. Ok (ranges_of ranges))

-- A line's first word, and what the words after it say.
pub record Row (A : Type 0) : Type 0 where
  pub first : List ℕ
  pub reads : List (List ℕ) → Result A FaultKind

-- the words after the first, which must be `second`
abbrev pub second_word : List ℕ → List (List ℕ) → Result (List (List ℕ)) FaultKind
second_word second [] = Err kind.Count
second_word second (word ∷ words) = if bytes_eq word second then Ok words else Err kind.Word

-- what the numbers of these spans say
abbrev pub numbers_say : {A : Type 0} → List Span → (List ℕ → A) → List (List ℕ) → Result A FaultKind
numbers_say spans says words = all_numbers spans words >>= λ n. Ok (says n)

abbrev pub number_row : {A : Type 0} → List ℕ → List Span → (List ℕ → A) → Row A
number_row first spans says = record { first = first; reads = numbers_say spans says }

abbrev pub span : ℕ → ℕ → Span
span low high = record { 0 = low; 1 = high }

-- The settings.

-- page frames, and their count; the last page of an area, its slots, and their count
abbrev pub frames : Span
frames = span 0 65535

abbrev pub counts : Span
counts = span 1 65536

abbrev pub last_pages : Span
last_pages = span 1 16383

abbrev pub slots : Span
slots = span 0 16383

abbrev pub lengths : Span
lengths = span 1 16384

-- the flags of a region are even
abbrev pub with_flags : List ℕ → Result Setting FaultKind
with_flags n =
    if slice_index n 2 % 2 == 0 then Ok (Region (slice_index n 0) (slice_index n 1) (slice_index n 2))
    else Err kind.Range

abbrev pub region_row : Row Setting
region_row = record {
  first = codes "region";
  reads = λ words. all_numbers (frames ∷ counts ∷ span 0 126 ∷ []) words >>= with_flags;
}

-- the row of a setting's first word
abbrev pub setting_row : SettingWord → Row Setting
setting_row setting.Zone =
    number_row (codes "zone") (frames ∷ counts ∷ []) (λ n. Zone (slice_index n 0) (slice_index n 1))
setting_row setting.Area = number_row (codes "area") (last_pages ∷ []) (λ n. Last (slice_index n 0))
setting_row setting.Bad = number_row (codes "bad") (last_pages ∷ []) (λ n. Bad (slice_index n 0))
setting_row setting.Region = region_row
setting_row setting.Tables =
    number_row (codes "tables") (frames ∷ frames ∷ []) (λ n. Tables (slice_index n 0) (slice_index n 1))
setting_row setting.Hwsig = number_row (codes "hwsig") (span 0 4294967295 ∷ []) (λ n. Signature (slice_index n 0))
setting_row setting.Extent =
    number_row (codes "extent") (slots ∷ lengths ∷ slots ∷ [])
    (λ n. Extent (slice_index n 0) (slice_index n 1) (slice_index n 2))

-- a row for each first word of a setting
abbrev pub setting_rows : List (Row Setting)
setting_rows =
    map setting_row
    (setting.Zone ∷ setting.Area ∷ setting.Bad ∷ setting.Region ∷ setting.Tables ∷ setting.Hwsig ∷ setting.Extent ∷ [])

-- The events. A line says an event and how many times it happens.

-- the tasks, the words of a page, and any number
abbrev pub tasks : Span
tasks = span 1 64

abbrev pub words : Span
words = span 0 511

abbrev pub values : Span
values = span 0 18446744073709551615

abbrev pub event_row : List ℕ → List Span → (List ℕ → Event) → Row (ℕ × Event)
event_row first spans says = number_row first spans (λ n. (1, says n))

-- the number of the task, and then its request
abbrev pub task_row : List ℕ → List Span → (List ℕ → TaskOp) → Row (ℕ × Event)
task_row first spans asks = event_row first (tasks ∷ spans) (λ n. event.Task (slice_index n 0) (asks n))

-- the slots that any machine may have
abbrev pub task_slots : Span
task_slots = span 0 131071

-- the core, or a task by its number
abbrev pub actor_in : List (List ℕ) → Result Actor FaultKind
actor_in [] = Err kind.Count
actor_in (word ∷ words) =
    if bytes_eq word (codes "core") then numbers_say [] (λ n. actor.Core) words
    else numbers_say (tasks ∷ []) (λ n. actor.Task (slice_index n 0)) (word ∷ words)

-- one step of an actor
abbrev pub step_row : Row (ℕ × Event)
step_row = record { first = codes "step"; reads = λ line. actor_in line >>= λ x. Ok (1, event.Step x) }

-- steps of the core, as many as the numbers say
abbrev pub core_row : List ℕ → List Span → (List ℕ → ℕ) → Row (ℕ × Event)
core_row first spans times = record {
  first = first;
  reads = λ line. second_word (codes "core") line >>= numbers_say spans (λ n. (times n, event.Step actor.Core));
}

-- the format of pages: as they are, or without those that are all zero
abbrev pub format_in : List (List ℕ) → Result Format FaultKind
format_in [] = Ok Plain
format_in (word ∷ words) = second_word (codes "zeros") (word ∷ words) >>= numbers_say [] (λ n. SkipZeros)

-- an event that saves memory, in a format
abbrev pub saving_row : List ℕ → (Format → Event) → Row (ℕ × Event)
saving_row first saves = record { first = first; reads = λ line. format_in line >>= λ format. Ok (1, saves format) }

-- a resume compares the identity, and its loader holds the page frames of the ranges
abbrev pub resume_row : Row (ℕ × Event)
resume_row = record {
  first = codes "resume";
  reads = λ line. all_ranges line >>= λ ranges. Ok (1, event.Resume (loader.Ranges ranges) Compare);
}

-- the row of each first word of an event of the whole machine
abbrev pub machine_row : MachineWord → Row (ℕ × Event)
machine_row machine.Boot = event_row (codes "boot") [] (λ n. event.Boot Fresh)
machine_row machine.Hibernate = saving_row (codes "hibernate") (λ format. event.Hibernate format)
machine_row machine.Suspend = saving_row (codes "suspend") (λ format. event.Suspend format)
machine_row machine.Wake = event_row (codes "wake") [] (λ n. event.Wake)
machine_row machine.Settle = event_row (codes "settle") [] (λ n. event.Settle)
machine_row machine.Shrink = event_row (codes "shrink") (values ∷ []) (λ n. event.Shrink (slice_index n 0))
machine_row machine.Resume = resume_row

-- the same for what happens to the machine from outside, and for steps
abbrev pub outside_row : OutsideWord → Row (ℕ × Event)
outside_row outside.Cut = event_row (codes "cut") (values ∷ []) (λ n. event.Cut (slice_index n 0))
outside_row outside.Arm =
    event_row (codes "arm") (span 1 1000000 ∷ span 0 1000000 ∷ values ∷ [])
    (λ n. event.Arm (slice_index n 0) (slice_index n 1) (slice_index n 2))
outside_row outside.Step = step_row
outside_row outside.Steps = core_row (codes "steps") (span 1 100000 ∷ []) (λ n. slice_index n 0)

-- the same for a task's requests
abbrev pub asking_row : TaskWord → Row (ℕ × Event)
asking_row task.Claim = task_row (codes "claim") (frames ∷ []) (λ n. op.Claim (slice_index n 1))
asking_row task.Release = task_row (codes "release") (frames ∷ []) (λ n. op.Release (slice_index n 1))
asking_row task.Store =
    task_row (codes "store") (frames ∷ words ∷ values ∷ [])
    (λ n. op.Store (slice_index n 1) (slice_index n 2) (slice_index n 3))
asking_row task.Show =
    task_row (codes "show") (frames ∷ words ∷ []) (λ n. op.Show (slice_index n 1) (slice_index n 2))
asking_row task.Cache = task_row (codes "cache") (frames ∷ []) (λ n. op.Cache (slice_index n 1))
asking_row task.Out = task_row (codes "out") (frames ∷ []) (λ n. op.Out (slice_index n 1))
asking_row task.In =
    task_row (codes "in") (task_slots ∷ frames ∷ []) (λ n. op.TakeIn (slice_index n 1) (slice_index n 2))

-- a row for each of these words
abbrev pub machine_rows : List (Row (ℕ × Event))
machine_rows =
    map machine_row
    (machine.Boot ∷ machine.Hibernate ∷ machine.Suspend ∷ machine.Wake ∷ machine.Settle ∷ machine.Shrink
    ∷ machine.Resume ∷ [])

abbrev pub outside_rows : List (Row (ℕ × Event))
outside_rows = map outside_row (outside.Cut ∷ outside.Arm ∷ outside.Step ∷ outside.Steps ∷ [])

abbrev pub core_rows : List (Row (ℕ × Event))
core_rows = machine_rows ++ outside_rows

abbrev pub task_rows : List (Row (ℕ × Event))
task_rows =
    map asking_row
    (task.Claim ∷ task.Release ∷ task.Store ∷ task.Show ∷ task.Cache ∷ task.Out ∷ task.In ∷ [])

abbrev pub event_rows : List (Row (ℕ × Event))
event_rows = task_rows ++ core_rows

-- a scripted loader holds ranges of page frames: no line names the loader of a dump
abbrev pub IsScriptedLoader : Loader → Type 0
IsScriptedLoader (loader.Ranges ranges) = ⊤
IsScriptedLoader loader.Table = ⊥

-- the events that lines give: a boot with fresh memory, and a resume that compares the identity
abbrev pub IsScripted : Event → Type 0
IsScripted (event.Boot from) = from ≡ Fresh
IsScripted (event.Resume l check) = IsScriptedLoader l × (check ≡ Compare)
IsScripted _ = ⊤
