-- The rows of lines, and the words after the first that they read.
use Rattle.std.proofs.Common.{◌≡◌, inl, inr, ℕ, ◌<◌, Bool, true, false, cond, List, [], ◌∷◌, ◌++◌, length, take, get_or, Option, Some, None, Result, Ok, Err, codes, refl, sym, ap, ◌∙◌, arith, ne_eqb}
use Rattle.std.specs.Prelude.{⊤, slice_index}
use Rattle.std.specs.List.{find, list_all}
use Rattle.std.specs.Str.{bytes_eq}
use Rattle.std.proofs.lemmas.Bool.{cases_lt}
use Rattle.std.proofs.lemmas.List.{take_all, length-take}
use Rattle.page_core.specs.declared.format.Format.{Format}
use Rattle.page_core.specs.declared.format.Format.TheVariants.{SkipZeros}
use Rattle.plain_machine.specs.declared.event.Event.{Event}
use Rattle.plain_machine.specs.declared.event.Actor.TheVariants as actor
use Rattle.plain_machine.specs.declared.event.Event.TheVariants as event
use Rattle.plain_machine.specs.declared.event.Loader.TheVariants as loader
use Rattle.plain_machine.specs.declared.event.IdentCheck.TheVariants.{Compare}
use Rattle.script.specs.declared.fault.FaultKind.{FaultKind}
use Rattle.script.specs.declared.fault.FaultKind.TheVariants as kind
use Rattle.script.specs.declared.grammar.Item.TheVariants.{Sets, Events}
use Rattle.script.specs.declared.grammar.Setting.{Setting}
use Rattle.script.specs.declared.words.Span.{Span}
use Rattle.script.specs.Shapes.{all_ranges}
use Rattle.script.specs.Shapes.{◌>>=◌, all_numbers, words_of}
use Rattle.script.specs.Shapes.{Row, setting_rows, event_rows, core_rows, machine_rows, outside_rows, task_rows, region_row, saving_row, resume_row, step_row, with_flags, format_in, actor_in, tasks, second_word, numbers_say}
use Rattle.script.specs.Grammar.{is_printable, row_of, by_rows, words_item, item_of, line_item}
use Rattle.script.specs.Items.{if_found, setting_in, setting_item, event_in, core_event_in, machine_event_in}
use Rattle.script.specs.Items.{outside_event_in, task_event_in}
use Rattle.script.specs.Items.{setting_found, task_found, machine_found, outside_found}
use Rattle.script.proofs.NumbersLaws.{all_numbers-other}
use Rattle.script.proofs.RangesLaws.{all_ranges-many}

-- No line that says something has more than nine words: what a line says hangs on the first nine words after the first alone.

abbrev ReadsNine : {A : Type 0} → Row A → Type 0
ReadsNine row = (words : List (List ℕ)) → row.reads (take 9 words) ≡ row.reads words

abbrev AllReadNine : {A : Type 0} → List (Row A) → Type 0
AllReadNine [] = ⊤
AllReadNine (row ∷ rows) = ReadsNine row × AllReadNine rows

all_front : (n : ℕ) (spans : List Span) (words : List (List ℕ)) → length spans < n → all_numbers spans (take n words) ≡ all_numbers spans words
all_front n spans words few = elim (cases_lt n (length words)) [
  | inr short ↦ ap (all_numbers spans) (take_all n words short)
  | inl long ↦
      let size = length-take n words in
      all_numbers-other spans (take n words) (λ e. omega arith) ∙ sym (all_numbers-other spans words (λ e. omega arith))
]

numbers_front : {A : Type 0} (n : ℕ) (spans : List Span) (says : List ℕ → A) (words : List (List ℕ)) → length spans < n → numbers_say spans says (take n words) ≡ numbers_say spans says words
numbers_front n spans says words few = ap (λ r. r >>= λ ns. Ok (says ns)) (all_front n spans words few)

second_front : {A : Type 0} (second : List ℕ) (spans : List Span) (says : List ℕ → A) (words : List (List ℕ)) → length spans < 8 → (second_word second (take 9 words) >>= numbers_say spans says) ≡ (second_word second words >>= numbers_say spans says)
second_front second spans says [] few = refl
second_front second spans says (word ∷ words) few = by (bytes_eq word second) where
  by : (b : Bool) → (cond b (Ok (take 8 words)) (Err kind.Word) >>= numbers_say spans says) ≡ (cond b (Ok words) (Err kind.Word) >>= numbers_say spans says)
  by true = numbers_front 8 spans says words few
  by false = refl

format_front : (words : List (List ℕ)) → format_in (take 9 words) ≡ format_in words
format_front [] = refl
format_front (word ∷ words) = second_front (codes "zeros") [] (λ n. SkipZeros) (word ∷ words) (omega arith)

actor_front : (words : List (List ℕ)) → actor_in (take 9 words) ≡ actor_in words
actor_front [] = refl
actor_front (word ∷ words) = by (bytes_eq word (codes "core")) where
  by : (b : Bool) → cond b (numbers_say [] (λ n. actor.Core) (take 8 words)) (numbers_say (tasks ∷ []) (λ n. actor.Task (slice_index n 0)) (word ∷ take 8 words)) ≡ cond b (numbers_say [] (λ n. actor.Core) words) (numbers_say (tasks ∷ []) (λ n. actor.Task (slice_index n 0)) (word ∷ words))
  by true = numbers_front 8 [] (λ n. actor.Core) words (omega arith)
  by false = numbers_front 9 (tasks ∷ []) (λ n. actor.Task (slice_index n 0)) (word ∷ words) (omega arith)

ranges_front : (words : List (List ℕ)) → all_ranges (take 9 words) ≡ all_ranges words
ranges_front words = elim (cases_lt 9 (length words)) [
  | inr short ↦ ap all_ranges (take_all 9 words short)
  | inl long ↦
      let size = length-take 9 words in
      all_ranges-many (take 9 words) (omega arith) ∙ sym (all_ranges-many words (omega arith))
]

all_settings_read_nine : AllReadNine setting_rows
all_settings_read_nine =
    let n : (spans : List Span) (says : List ℕ → Setting) → length spans < 9 → (words : List (List ℕ)) → numbers_say spans says (take 9 words) ≡ numbers_say spans says words = λ spans says few words. numbers_front 9 spans says words few in
    let region : (words : List (List ℕ)) → region_row.reads (take 9 words) ≡ region_row.reads words = λ words. ap (λ r. r >>= with_flags) (all_front 9 _ words (omega arith)) in
    (n _ _ (omega arith), (n _ _ (omega arith), (n _ _ (omega arith), (region, (n _ _ (omega arith), (n _ _ (omega arith), (n _ _ (omega arith), tt)))))))

all_events_read_nine : AllReadNine event_rows
all_events_read_nine =
    let n : (spans : List Span) (says : List ℕ → ℕ × Event) → length spans < 9 → (words : List (List ℕ)) → numbers_say spans says (take 9 words) ≡ numbers_say spans says words = λ spans says few words. numbers_front 9 spans says words few in
    let saving : (first : List ℕ) (saves : Format → Event) (words : List (List ℕ)) → (saving_row first saves).reads (take 9 words) ≡ (saving_row first saves).reads words = λ first saves words. ap (λ r. r >>= λ format. Ok (1, saves format)) (format_front words) in
    let resume : (words : List (List ℕ)) → resume_row.reads (take 9 words) ≡ resume_row.reads words = λ words. ap (λ r. r >>= λ ranges. Ok (1, event.Resume (loader.Ranges ranges) Compare)) (ranges_front words) in
    let step : (words : List (List ℕ)) → step_row.reads (take 9 words) ≡ step_row.reads words = λ words. ap (λ r. r >>= λ x. Ok (1, event.Step x)) (actor_front words) in
    let core : AllReadNine core_rows = (n _ _ (omega arith), (saving (codes "hibernate") (λ format. event.Hibernate format), (saving (codes "suspend") (λ format. event.Suspend format), (n _ _ (omega arith), (n _ _ (omega arith), (n _ _ (omega arith), (resume, (n _ _ (omega arith), (n _ _ (omega arith), (step, (λ ws. second_front _ _ _ ws (omega arith), tt))))))))))) in
    (n _ _ (omega arith), (n _ _ (omega arith), (n _ _ (omega arith), (n _ _ (omega arith), (n _ _ (omega arith), (n _ _ (omega arith), (n _ _ (omega arith), core)))))))

abbrev FrontOf : {A : Type 0} → Option (Row A) → Type 0
FrontOf None = ⊤
FrontOf (Some row) = ReadsNine row

found_front : {A : Type 0} (is : Row A → Bool) (rows : List (Row A)) → AllReadNine rows → FrontOf (find is rows)
found_front is [] all = tt
found_front is (row ∷ rows) all = by (is row) (found_front is rows all.1) where
  by : (b : Bool) → FrontOf (find is rows) → FrontOf (cond b (Some row) (find is rows))
  by true rest = all.0
  by false rest = rest

by_rows-front : (begun : Bool) (e : Option (Row (ℕ × Event))) (s : Option (Row Setting)) (words : List (List ℕ)) → FrontOf e → FrontOf s → by_rows begun e s (take 9 words) ≡ by_rows begun e s words
by_rows-front begun (Some row) s words e_front s_front = ap (λ r. r >>= λ e. Ok (Events e.0 e.1)) (e_front words)
by_rows-front begun None (Some row) words e_front s_front = ap (λ r. cond begun (Err kind.Late) (r >>= λ s. Ok (Sets s))) (s_front words)
by_rows-front begun None None words e_front s_front = refl

pub words_item-front : (begun : Bool) (first : List ℕ) (words : List (List ℕ)) → words_item begun first (take 9 words) ≡ words_item begun first words
unfolding words_item
words_item-front begun first words = by_rows-front begun (row_of first event_rows) (row_of first setting_rows) words (found_front (λ row. bytes_eq row.first first) event_rows all_events_read_nine) (found_front (λ row. bytes_eq row.first first) setting_rows all_settings_read_nine)

-- what a line says, by the event or the setting that it is

by_event : (begun : Bool) (e : Option (Row (ℕ × Event))) (s : Option (Row Setting)) (words : List (List ℕ)) (x : ℕ × Event) → if_found e words ≡ Ok (Some x) → by_rows begun e s words ≡ Ok (Events x.0 x.1)
by_event begun None s words x is = absurd (cc)
by_event begun (Some row) s words x is = by (row.reads words) is where
  by : (r : Result (ℕ × Event) FaultKind) → (r >>= λ e. Ok (Some e)) ≡ Ok (Some x) → (r >>= λ e. Ok (Events e.0 e.1)) ≡ Ok (Events x.0 x.1)
  by (Ok y) e = let same : y ≡ x = cc in rw same refl
  by (Err k) e = absurd (cc)

by_event_fault : (begun : Bool) (e : Option (Row (ℕ × Event))) (s : Option (Row Setting)) (words : List (List ℕ)) (k : FaultKind) → if_found e words ≡ Err k → by_rows begun e s words ≡ Err k
by_event_fault begun None s words k is = absurd (cc)
by_event_fault begun (Some row) s words k is = by (row.reads words) is where
  by : (r : Result (ℕ × Event) FaultKind) → (r >>= λ e. Ok (Some e)) ≡ Err k → (r >>= λ e. Ok (Events e.0 e.1)) ≡ Err k
  by (Ok y) e = absurd (cc)
  by (Err j) e = cc

by_no_event : (begun : Bool) (e : Option (Row (ℕ × Event))) (s : Option (Row Setting)) (words : List (List ℕ)) → if_found e words ≡ Ok None → by_rows begun e s words ≡ by_rows begun None s words
by_no_event begun None s words is = refl
by_no_event begun (Some row) s words is = by (row.reads words) is where
  by : (r : Result (ℕ × Event) FaultKind) → (r >>= λ e. Ok (Some e)) ≡ Ok None → (r >>= λ e. Ok (Events e.0 e.1)) ≡ by_rows begun None s words
  by (Ok y) e = absurd (cc)
  by (Err k) e = absurd (cc)

pub words_item-event : (begun : Bool) (first : List ℕ) (words : List (List ℕ)) (x : ℕ × Event) → event_in first words ≡ Ok (Some x) → words_item begun first words ≡ Ok (Events x.0 x.1)
unfolding words_item event_in
words_item-event begun first words x is = by_event begun (row_of first event_rows) (row_of first setting_rows) words x is

pub words_item-fault : (begun : Bool) (first : List ℕ) (words : List (List ℕ)) (k : FaultKind) → event_in first words ≡ Err k → words_item begun first words ≡ Err k
unfolding words_item event_in
words_item-fault begun first words k is = by_event_fault begun (row_of first event_rows) (row_of first setting_rows) words k is

pub words_item-setting : (begun : Bool) (first : List ℕ) (words : List (List ℕ)) → event_in first words ≡ Ok None → words_item begun first words ≡ setting_item begun first words
unfolding words_item event_in setting_item
words_item-setting begun first words is = by_no_event begun (row_of first event_rows) (row_of first setting_rows) words is

by_setting : (begun : Bool) (s : Option (Row Setting)) (words : List (List ℕ)) (x : Setting) → if_found s words ≡ Ok (Some x) → by_rows begun None s words ≡ cond begun (Err kind.Late) (Ok (Sets x))
by_setting begun None words x is = absurd (cc)
by_setting begun (Some row) words x is = by (row.reads words) is where
  by : (r : Result Setting FaultKind) → (r >>= λ s. Ok (Some s)) ≡ Ok (Some x) → cond begun (Err kind.Late) (r >>= λ s. Ok (Sets s)) ≡ cond begun (Err kind.Late) (Ok (Sets x))
  by (Ok y) e = let same : y ≡ x = cc in rw same refl
  by (Err k) e = absurd (cc)

by_setting_fault : (begun : Bool) (s : Option (Row Setting)) (words : List (List ℕ)) (k : FaultKind) → if_found s words ≡ Err k → by_rows begun None s words ≡ cond begun (Err kind.Late) (Err k)
by_setting_fault begun None words k is = absurd (cc)
by_setting_fault begun (Some row) words k is = by (row.reads words) is where
  by : (r : Result Setting FaultKind) → (r >>= λ s. Ok (Some s)) ≡ Err k → cond begun (Err kind.Late) (r >>= λ s. Ok (Sets s)) ≡ cond begun (Err kind.Late) (Err k)
  by (Ok y) e = absurd (cc)
  by (Err j) e = let same : j ≡ k = cc in rw same refl

by_no_setting : (begun : Bool) (s : Option (Row Setting)) (words : List (List ℕ)) → if_found s words ≡ Ok None → by_rows begun None s words ≡ Err kind.Word
by_no_setting begun None words is = refl
by_no_setting begun (Some row) words is = by (row.reads words) is where
  by : (r : Result Setting FaultKind) → (r >>= λ s. Ok (Some s)) ≡ Ok None → cond begun (Err kind.Late) (r >>= λ s. Ok (Sets s)) ≡ Err kind.Word
  by (Ok y) e = absurd (cc)
  by (Err k) e = absurd (cc)

pub setting_item-setting : (begun : Bool) (first : List ℕ) (words : List (List ℕ)) (x : Setting) → setting_in first words ≡ Ok (Some x) → setting_item begun first words ≡ cond begun (Err kind.Late) (Ok (Sets x))
unfolding setting_item setting_in setting_found
setting_item-setting begun first words x is = by_setting begun (row_of first setting_rows) words x is

pub setting_item-fault : (begun : Bool) (first : List ℕ) (words : List (List ℕ)) (k : FaultKind) → setting_in first words ≡ Err k → setting_item begun first words ≡ cond begun (Err kind.Late) (Err k)
unfolding setting_item setting_in setting_found
setting_item-fault begun first words k is = by_setting_fault begun (row_of first setting_rows) words k is

pub setting_item-word : (begun : Bool) (first : List ℕ) (words : List (List ℕ)) → setting_in first words ≡ Ok None → setting_item begun first words ≡ Err kind.Word
unfolding setting_item setting_in setting_found
setting_item-word begun first words is = by_no_setting begun (row_of first setting_rows) words is

-- what stands in one of two tables

abbrev or_found : {A : Type 0} → Option (Row A) → Option (Row A) → Option (Row A)
or_found None other = other
or_found (Some row) other = Some row

found_in_both : {A : Type 0} (is : Row A → Bool) (rows others : List (Row A)) → find is (rows ++ others) ≡ or_found (find is rows) (find is others)
found_in_both is [] others = refl
found_in_both is (row ∷ rows) others = by (is row) (found_in_both is rows others) where
  by : (b : Bool) → find is (rows ++ others) ≡ or_found (find is rows) (find is others) → cond b (Some row) (find is (rows ++ others)) ≡ or_found (cond b (Some row) (find is rows)) (find is others)
  by true rest = refl
  by false rest = rest

if_front : {A : Type 0} (row other : Option (Row A)) (words : List (List ℕ)) (x : A) → if_found row words ≡ Ok (Some x) → if_found (or_found row other) words ≡ Ok (Some x)
if_front None other words x is = absurd (cc)
if_front (Some row) other words x is = is

if_front_fault : {A : Type 0} (row other : Option (Row A)) (words : List (List ℕ)) (k : FaultKind) → if_found row words ≡ Err k → if_found (or_found row other) words ≡ Err k
if_front_fault None other words k is = absurd (cc)
if_front_fault (Some row) other words k is = is

if_back : {A : Type 0} (row other : Option (Row A)) (words : List (List ℕ)) → if_found row words ≡ Ok None → if_found (or_found row other) words ≡ if_found other words
if_back None other words is = refl
if_back (Some row) other words is = by (row.reads words) is where
  by : (r : Result _ FaultKind) → (r >>= λ s. Ok (Some s)) ≡ Ok None → (r >>= λ s. Ok (Some s)) ≡ if_found other words
  by (Ok y) e = absurd (cc)
  by (Err k) e = absurd (cc)

-- an event is what a task asks for, or one of the whole machine
found_event : (first : List ℕ) (words : List (List ℕ)) → if_found (row_of first event_rows) words ≡ if_found (or_found (row_of first task_rows) (row_of first core_rows)) words
found_event first words = ap (λ row. if_found row words) (found_in_both (λ row. bytes_eq row.first first) task_rows core_rows)

pub event_in-task : (first : List ℕ) (words : List (List ℕ)) (x : ℕ × Event) → task_event_in first words ≡ Ok (Some x) → event_in first words ≡ Ok (Some x)
unfolding event_in task_event_in task_found
event_in-task first words x is = found_event first words ∙ if_front (row_of first task_rows) (row_of first core_rows) words x is

pub event_in-fault : (first : List ℕ) (words : List (List ℕ)) (k : FaultKind) → task_event_in first words ≡ Err k → event_in first words ≡ Err k
unfolding event_in task_event_in task_found
event_in-fault first words k is = found_event first words ∙ if_front_fault (row_of first task_rows) (row_of first core_rows) words k is

pub event_in-core : (first : List ℕ) (words : List (List ℕ)) → task_event_in first words ≡ Ok None → event_in first words ≡ core_event_in first words
unfolding event_in task_event_in core_event_in task_found
event_in-core first words is = found_event first words ∙ if_back (row_of first task_rows) (row_of first core_rows) words is

-- an event of the whole machine is one that it is to do, or one from outside
found_core : (first : List ℕ) (words : List (List ℕ)) → if_found (row_of first core_rows) words ≡ if_found (or_found (row_of first machine_rows) (row_of first outside_rows)) words
found_core first words = ap (λ row. if_found row words) (found_in_both (λ row. bytes_eq row.first first) machine_rows outside_rows)

pub core_event_in-machine : (first : List ℕ) (words : List (List ℕ)) (x : ℕ × Event) → machine_event_in first words ≡ Ok (Some x) → core_event_in first words ≡ Ok (Some x)
unfolding core_event_in machine_event_in machine_found
core_event_in-machine first words x is = found_core first words ∙ if_front (row_of first machine_rows) (row_of first outside_rows) words x is

pub core_event_in-fault : (first : List ℕ) (words : List (List ℕ)) (k : FaultKind) → machine_event_in first words ≡ Err k → core_event_in first words ≡ Err k
unfolding core_event_in machine_event_in machine_found
core_event_in-fault first words k is = found_core first words ∙ if_front_fault (row_of first machine_rows) (row_of first outside_rows) words k is

pub core_event_in-outside : (first : List ℕ) (words : List (List ℕ)) → machine_event_in first words ≡ Ok None → core_event_in first words ≡ outside_event_in first words
unfolding core_event_in machine_event_in outside_event_in machine_found outside_found
core_event_in-outside first words is = found_core first words ∙ if_back (row_of first machine_rows) (row_of first outside_rows) words is

-- what a line says, by its first ten words
pub line_item-words : (begun : Bool) (line first : List ℕ) (words : List (List ℕ)) → list_all is_printable line ≡ true → (get_or line 0 0 ≡ 35 → ⊥) → first ∷ words ≡ take 10 (words_of line) → words_item begun first words ≡ line_item begun line
unfolding line_item
line_item-words begun line first words printable no_comment are = rw (printable, ne_eqb (get_or line 0 0) 35 no_comment) (by (words_of line) are) where
  by : (all : List (List ℕ)) → first ∷ words ≡ take 10 all → words_item begun first words ≡ item_of begun all
  by [] e = absurd (cc)
  by (w ∷ ws) e =
      let one : first ≡ w = cc in
      let rest : words ≡ take 9 ws = cc in
      rw (one, rest) (words_item-front begun w ws)

-- an empty line is no comment
pub no_first_byte : (line : List ℕ) → length line < 1 → get_or line 0 0 ≡ 35 → ⊥
no_first_byte [] short e = absurd (cc)
no_first_byte (b ∷ bs) short e = omega arith

pub line_item-byte : (begun : Bool) (line : List ℕ) → list_all is_printable line ≡ false → line_item begun line ≡ Err kind.Byte
unfolding line_item
line_item-byte begun line bad = rw bad refl
