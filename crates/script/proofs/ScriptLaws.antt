-- Scripts that are read line by line.
use Rattle.std.proofs.Common.{◌≡◌, ℕ, ◌+◌, ◌<◌, ◌≤◌, List, [], ◌∷◌, ◌++◌, length, take, get_or, Bool, true, false, cond, not, nat_lt, Result, Ok, Err, Option, Some, None, refl, sym, ap, ap₂, ◌∙◌, arith, add-zero, append-nil, nat_eq, suc, zero}
use Rattle.std.specs.List.{filter_map, cons_option, range_with_len, list_all}
use Rattle.std.specs.Option.{option_map}
use Rattle.std.proofs.lemmas.List.{take_more, reverse-append, get_or_default, take_all}
use Rattle.std.proofs.lemmas.List.Elements.{filter_map-append}
use Rattle.std.proofs.lemmas.List.Concat.{flat_map-append}
use Rattle.std.proofs.lemmas.Bool.Decides.{nat_tests}
use Rattle.plain_machine.specs.declared.event.Event.{Event}
use Rattle.script.specs.declared.fault.FaultKind.{FaultKind}
use Rattle.script.specs.declared.fault.FaultKind.TheVariants as kind
use Rattle.script.specs.declared.fault.ScriptFault.{ScriptFault}
use Rattle.script.specs.declared.fault.ParseStop.TheVariants as parse_stop
use Rattle.script.specs.declared.grammar.Item.{Item}
use Rattle.script.specs.declared.grammar.Item.TheVariants.{Nothing, Sets, Events}
use Rattle.script.specs.declared.grammar.Setting.{Setting}
use Rattle.script.specs.declared.grammar.Setting.TheVariants.{Zone, Last, Bad, Region, Tables, Signature, Extent}
use Rattle.script.specs.declared.grammar.LineStop.{LineStop}
use Rattle.script.specs.declared.grammar.LineStop.TheVariants as stop
use Rattle.script.specs.Settings.{SettingsValue}
use Rattle.script.specs.Items.{with_setting}
use Rattle.script.specs.Shapes.{Row, setting_rows, event_rows}
use Rattle.script.specs.Shapes.{◌>>=◌, words_of}
use Rattle.script.specs.Grammar.{ScriptValue, is_printable, row_of, by_rows, words_item, item_of, line_item, setting_of}
use Rattle.script.specs.Grammar.{all_settings, by_kind, settings_in, events_of, events_in, kind_by, kind_after}
use Rattle.script.specs.Grammar.{fault_at, end_fault, first_of, script_by, value_of, line_count, lines_of, script_of}
use Rattle.script.specs.Grammar.{stop_at}
use Rattle.script.specs.Items.{settings_behind, Stops, StopsBy}

-- A line after an event.

late_rows : (e : Option (Row (ℕ × Event))) (s : Option (Row Setting)) (words : List (List ℕ)) (item : Item) → by_rows true e s words ≡ Ok item → by_rows false e s words ≡ Ok item
late_rows (Some row) s words item is = is
late_rows None (Some row) words item is = absurd (cc)
late_rows None None words item is = is

late_words : (words : List (List ℕ)) (item : Item) → item_of true words ≡ Ok item → item_of false words ≡ Ok item
unfolding words_item
late_words [] item e = e
late_words (first ∷ words) item e = late_rows (row_of first event_rows) (row_of first setting_rows) words item e

late_line : (b c : Bool) (words : List (List ℕ)) (item : Item) → cond b (Err kind.Byte) (cond c (Ok Nothing) (item_of true words)) ≡ Ok item → cond b (Err kind.Byte) (cond c (Ok Nothing) (item_of false words)) ≡ Ok item
late_line true c words item e = e
late_line false true words item e = e
late_line false false words item e = late_words words item e

-- what a line without fault says doesn't hang on what stands before it
pub line_item-begun : (begun : Bool) (line : List ℕ) (item : Item) → line_item begun line ≡ Ok item → line_item false line ≡ Ok item
unfolding line_item
line_item-begun false line item e = e
line_item-begun true line item e = late_line (not (list_all is_printable line)) (nat_eq (get_or line 0 0) 35) (words_of line) item e

none_in_rows : (e : Option (Row (ℕ × Event))) (s : Option (Row Setting)) (words : List (List ℕ)) (item : Item) → by_rows true e s words ≡ Ok item → setting_of (Ok item) ≡ None
none_in_rows (Some row) s words item is = by (row.reads words) is where
  by : (r : Result (ℕ × Event) FaultKind) → (r >>= λ e. Ok (Events e.0 e.1)) ≡ Ok item → setting_of (Ok item) ≡ None
  by (Ok y) e = ap setting_of (sym e)
  by (Err k) e = absurd (cc)
none_in_rows None (Some row) words item is = absurd (cc)
none_in_rows None None words item is = absurd (cc)

none_in_words : (words : List (List ℕ)) (item : Item) → item_of true words ≡ Ok item → setting_of (Ok item) ≡ None
unfolding words_item
none_in_words [] item e = ap setting_of (sym e)
none_in_words (first ∷ words) item e = none_in_rows (row_of first event_rows) (row_of first setting_rows) words item e

none_in_line : (b c : Bool) (words : List (List ℕ)) (item : Item) → cond b (Err kind.Byte) (cond c (Ok Nothing) (item_of true words)) ≡ Ok item → setting_of (Ok item) ≡ None
none_in_line true c words item e = absurd (cc)
none_in_line false true words item e = ap setting_of (sym e)
none_in_line false false words item e = none_in_words words item e

-- no line after an event is a setting
setting_of-late : (line : List ℕ) (item : Item) → line_item true line ≡ Ok item → setting_of (Ok item) ≡ None
unfolding line_item
setting_of-late line item e = none_in_line (not (list_all is_printable line)) (nat_eq (get_or line 0 0) 35) (words_of line) item e

pub setting_of-begun : (before : List Event) (line : List ℕ) (begun : Bool) (item : Item) → begun ≡ nat_lt 0 (length before) → line_item begun line ≡ Ok item → 0 < length before → setting_of (Ok item) ≡ None
setting_of-begun before line begun item b e some =
    let after : begun ≡ true = b ∙ (grind (arith, nat_tests)) in
    setting_of-late line item (ap (λ x. line_item x line) (sym after) ∙ e)

-- what a line says where it isn't at fault, and how it is at fault
pub kind_after-item : (settings : SettingsValue) (before : List Event) (line : List ℕ) (begun : Bool) (item : Item) → begun ≡ nat_lt 0 (length before) → line_item begun line ≡ Ok item → kind_after settings before line ≡ kind_by settings before (Ok item)
unfolding kind_after
kind_after-item settings before line begun item b e = ap (kind_by settings before) (ap (λ x. line_item x line) (sym b) ∙ e)

pub StopsBy-kind_after : (settings : SettingsValue) (before : List Event) (line : List ℕ) (begun : Bool) (s : LineStop) → begun ≡ nat_lt 0 (length before) → Stops s (line_item begun line) → StopsBy (kind_after settings before line) s
unfolding kind_after
StopsBy-kind_after settings before line begun stop.NoMemory b e = tt
StopsBy-kind_after settings before line begun (stop.Fault k) b e = ap (kind_by settings before) (ap (λ x. line_item x line) (sym b) ∙ e)

-- One more line.

pub events_in-more : (lines : List (List ℕ)) (k : ℕ) (line : List ℕ) → k < length lines → events_in (take (k + 1) lines) ≡ events_in (take k lines) ++ events_of (line_item false (get_or lines k line))
unfolding events_in
events_in-more lines k line h = rw (take_more lines k line h, flat_map-append) (ap (λ x. events_in (take k lines) ++ x) (append-nil (events_of (line_item false (get_or lines k line)))))

by_kind-more : (settings : List Setting) (s : Setting) → by_kind (settings ++ s ∷ []) ≡ with_setting s (by_kind settings)
by_kind-more settings (Zone start count) = simp (filter_map-append, reverse-append, append-nil)
by_kind-more settings (Last last) = simp (filter_map-append, reverse-append, append-nil)
by_kind-more settings (Bad slot) = simp (filter_map-append, reverse-append, append-nil)
by_kind-more settings (Region start count flags) = simp (filter_map-append, reverse-append, append-nil)
by_kind-more settings (Tables f t) = simp (filter_map-append, reverse-append, append-nil)
by_kind-more settings (Signature n) = simp (filter_map-append, reverse-append, append-nil)
by_kind-more settings (Extent start len block) = simp (filter_map-append, reverse-append, append-nil)

behind : (settings : List Setting) (item : Result Item FaultKind) → by_kind (settings ++ cons_option (setting_of item) []) ≡ settings_behind item (by_kind settings)
behind settings (Ok (Sets s)) = by_kind-more settings s
behind settings (Ok (Events n e)) = ap by_kind (append-nil settings)
behind settings (Ok Nothing) = ap by_kind (append-nil settings)
behind settings (Err k) = ap by_kind (append-nil settings)

all_settings-more : (lines : List (List ℕ)) (k : ℕ) (line : List ℕ) → k < length lines → all_settings (take (k + 1) lines) ≡ all_settings (take k lines) ++ cons_option (setting_of (line_item false (get_or lines k line))) []
unfolding all_settings
all_settings-more lines k line h = rw (take_more lines k line h, filter_map-append) refl

pub settings_in-more : (lines : List (List ℕ)) (k : ℕ) (line : List ℕ) → k < length lines → settings_in (take (k + 1) lines) ≡ settings_behind (line_item false (get_or lines k line)) (settings_in (take k lines))
unfolding settings_in
settings_in-more lines k line h = ap by_kind (all_settings-more lines k line h) ∙ behind (all_settings (take k lines)) (line_item false (get_or lines k line))

pub settings_in-nil : settings_in [] ≡ by_kind []
unfolding settings_in all_settings
settings_in-nil = refl

-- The first fault.

first_from : {A : Type 0} (f : ℕ → Option ScriptFault) (a n k : ℕ) (fault : ScriptFault) (more : List ScriptFault) (value : A) → k < n → ((j : ℕ) → j < k → f (a + j) ≡ None) → f (a + k) ≡ Some fault → first_of (filter_map f (range_with_len a n) ++ more) value ≡ Err fault
first_from f a zero k fault more value h none here = absurd (omega arith)
first_from f a (suc n) zero fault more value h none here = let at : f a ≡ Some fault = rw add-zero at here in rw at refl
first_from f a (suc n) (suc k) fault more value h none here =
    let at : f a ≡ None = rw add-zero at (none 0 (omega arith)) in
    let later : f ((a + 1) + k) ≡ Some fault = ap f (omega arith) ∙ here in
    rw at (first_from f (a + 1) n k fault more value (omega arith) (λ j less. ap f (omega arith) ∙ none (suc j) (omega arith)) later)

no_fault : (f : ℕ → Option ScriptFault) (a n : ℕ) → ((j : ℕ) → j < n → f (a + j) ≡ None) → filter_map f (range_with_len a n) ≡ []
no_fault f a zero none = refl
no_fault f a (suc n) none =
    let at : f a ≡ None = rw add-zero at (none 0 (omega arith)) in
    rw at (no_fault f (a + 1) n (λ j less. ap f (omega arith) ∙ none (suc j) (omega arith)))

pub value_of-fault : (behind : ℕ) (lines : List (List ℕ)) (k : ℕ) (fault : ScriptFault) → k < length lines → ((j : ℕ) → j < k → fault_at lines j ≡ None) → fault_at lines k ≡ Some fault → value_of behind lines ≡ Err fault
unfolding value_of
value_of-fault behind lines k fault h none here =
    first_from (fault_at lines) 0 (length lines) k fault (end_fault behind (settings_in lines) (events_in lines)) (script_by (settings_in lines) (events_in lines)) h (λ j less. ap (fault_at lines) (omega arith) ∙ none j less) (ap (fault_at lines) (omega arith) ∙ here)

-- where no line is at fault, only the end can be
value_of-lines : (behind : ℕ) (lines : List (List ℕ)) → ((j : ℕ) → j < length lines → fault_at lines j ≡ None) → value_of behind lines ≡ first_of (end_fault behind (settings_in lines) (events_in lines)) (script_by (settings_in lines) (events_in lines))
unfolding value_of
value_of-lines behind lines none =
    ap (λ x. first_of (x ++ end_fault behind (settings_in lines) (events_in lines)) (script_by (settings_in lines) (events_in lines))) (no_fault (fault_at lines) 0 (length lines) (λ j less. ap (fault_at lines) (omega arith) ∙ none j less))

-- a line's fault, by what kind_after says
pub fault_at-kind : (lines : List (List ℕ)) (k : ℕ) (line : List ℕ) (o : Option FaultKind) → k < length lines → line ≡ get_or lines k line → kind_after (settings_in (take k lines)) (events_in (take k lines)) line ≡ o → fault_at lines k ≡ option_map (λ kind. record { line = k + 1; kind = kind }) o
unfolding fault_at
fault_at-kind lines k line o h at e =
    let same : get_or lines k [] ≡ line = get_or_default lines k [] line h ∙ sym at in
    rw (same, e) refl

pub script_of-lines : (bytes : List ℕ) (r : Result ScriptValue ScriptFault) → length bytes ≤ 1048576 → value_of (line_count bytes + 1) (lines_of bytes) ≡ r → script_of bytes ≡ r
unfolding script_of
script_of-lines bytes r h e = let small : nat_lt 1048576 (length bytes) ≡ false = grind (arith, nat_tests) in rw small e

pub script_of-long : (bytes : List ℕ) → 1048576 < length bytes → script_of bytes ≡ Err (record { line = 0; kind = kind.TooLong })
unfolding script_of
script_of-long bytes h = let long : nat_lt 1048576 (length bytes) ≡ true = grind (arith, nat_tests) in rw long refl

-- a stop that is a fault names it
pub stop_at-fault : (s : LineStop) (line : ℕ) (o : Option FaultKind) (fault : ScriptFault) → StopsBy o s → stop_at s line ≡ parse_stop.Fault fault → option_map (λ kind. record { line = line; kind = kind }) o ≡ Some fault
stop_at-fault stop.NoMemory line o fault by e = absurd (cc)
stop_at-fault (stop.Fault k) line o fault by e = let same : record { line = line; kind = k } ≡ fault = cc in rw by (ap (λ x. Some x) same)

kind_at : (lines : List (List ℕ)) (k : ℕ) (line : List ℕ) (settings : SettingsValue) (events : List Event) → settings ≡ settings_in (take k lines) → events ≡ events_in (take k lines) → kind_after (settings_in (take k lines)) (events_in (take k lines)) line ≡ kind_after settings events line
kind_at lines k line settings events so_set so_far = ap₂ (λ s e. kind_after s e line) (sym so_set) (sym so_far)

-- a turn that stops, and one that doesn't
pub value_of-stop : (behind : ℕ) (lines : List (List ℕ)) (k : ℕ) (line : List ℕ) (settings : SettingsValue) (events : List Event) (s : LineStop) (fault : ScriptFault) → (k < length lines) × (line ≡ get_or lines k line) → settings ≡ settings_in (take k lines) → events ≡ events_in (take k lines) → StopsBy (kind_after settings events line) s → stop_at s (k + 1) ≡ parse_stop.Fault fault → ((j : ℕ) → j < k → fault_at lines j ≡ None) → value_of behind lines ≡ Err fault
value_of-stop behind lines k line settings events s fault here so_set so_far by e none =
    let o = kind_after settings events line in
    let at = fault_at-kind lines k line o here.0 here.1 (kind_at lines k line settings events so_set so_far) in
    let named = stop_at-fault s (k + 1) o fault by e in
    value_of-fault behind lines k fault here.0 none (at ∙ named)

pub fault_at-none : (lines : List (List ℕ)) (k : ℕ) (line : List ℕ) (settings : SettingsValue) (events : List Event) → (k < length lines) × (line ≡ get_or lines k line) → settings ≡ settings_in (take k lines) → events ≡ events_in (take k lines) → kind_after settings events line ≡ None → fault_at lines k ≡ None
fault_at-none lines k line settings events here so_set so_far e =
    fault_at-kind lines k line None here.0 here.1 (kind_at lines k line settings events so_set so_far ∙ e)

pub settings_in-turn : (lines : List (List ℕ)) (k : ℕ) (line : List ℕ) (settings : SettingsValue) → (k < length lines) × (line ≡ get_or lines k line) → settings ≡ settings_in (take k lines) → settings_behind (line_item false line) settings ≡ settings_in (take (k + 1) lines)
settings_in-turn lines k line settings here so_set =
    sym (settings_in-more lines k line here.0 ∙ ap (λ x. settings_behind (line_item false x) (settings_in (take k lines))) (sym here.1) ∙ ap (settings_behind (line_item false line)) (sym so_set))

pub events_in-turn : (lines : List (List ℕ)) (k : ℕ) (line : List ℕ) (events : List Event) → (k < length lines) × (line ≡ get_or lines k line) → events ≡ events_in (take k lines) → events ++ events_of (line_item false line) ≡ events_in (take (k + 1) lines)
events_in-turn lines k line events here so_far =
    sym (events_in-more lines k line here.0 ∙ ap (λ x. events_in (take k lines) ++ events_of (line_item false x)) (sym here.1) ∙ ap (λ x. x ++ events_of (line_item false line)) (sym so_far))

-- what is read of all lines without fault, but for the end
pub value_of-read : (behind : ℕ) (lines : List (List ℕ)) (settings : SettingsValue) (events : List Event) (k : ℕ) → length lines ≤ k → settings ≡ settings_in (take k lines) → events ≡ events_in (take k lines) → ((j : ℕ) → j < k → fault_at lines j ≡ None) → value_of behind lines ≡ first_of (end_fault behind settings events) (script_by settings events)
value_of-read behind lines settings events k whole so_set so_far none =
    let taken = take_all k lines whole in
    value_of-lines behind lines (λ j less. none j (omega arith))
    ∙ ap₂ (λ s e. first_of (end_fault behind s e) (script_by s e)) (sym (so_set ∙ ap settings_in taken)) (sym (so_far ∙ ap events_in taken))
