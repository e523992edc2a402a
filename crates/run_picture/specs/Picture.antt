-- The picture of a run, as the text of an SVG: a head, a column for each event, and a foot. Only the events and their
-- replies determine it.
use Rattle.std.specs.Prelude.{ℕ, Bool, ◌+◌, ◌*◌, List, [], ◌∷◌, ◌++◌, codes, decimal, length, nat_lt, if◌then◌else◌}
use Rattle.plain_machine.specs.Replies.{line_of}
use Rattle.plain_machine.specs.declared.event.Actor.TheVariants as actor
use Rattle.plain_machine.specs.declared.event.Event.{Event}
use Rattle.plain_machine.specs.declared.event.Event.TheVariants as event
use Rattle.plain_machine.specs.declared.reply.Reply.{Reply}
use Rattle.run_picture.specs.Calls.{call_of}
use Rattle.run_picture.specs.Lanes.{after, begins, first, is_core}
use Rattle.run_picture.specs.Telling.{told_by}
use Rattle.run_picture.specs.Texts.{escaped, named, use_text}
use Rattle.run_picture.specs.Words.{event_words}
use Rattle.run_picture.specs.declared.shapes.TheConstants.{LANES, LEGEND}
use Rattle.run_picture.specs.declared.calls.Call.{Call}
use Rattle.run_picture.specs.declared.calls.Call.TheVariants.{Write, Read, Header, Sync, Mark, Back}
use Rattle.run_picture.specs.declared.calls.Drawn.{Drawn}
use Rattle.run_picture.specs.declared.calls.Drawn.TheVariants.{NoCall, Made, Fails}
use Rattle.run_picture.specs.declared.lanes.Activity.{Activity}
use Rattle.run_picture.specs.declared.lanes.Activity.TheVariants as activity
use Rattle.run_picture.specs.declared.lanes.ImageShown.{ImageShown}
use Rattle.run_picture.specs.declared.lanes.ImageShown.TheVariants.{NoImage, Image, Perhaps}
use Rattle.run_picture.specs.declared.lanes.Lanes.{Lanes}
use Rattle.run_picture.specs.declared.telling.Told.{Told}
use Rattle.run_picture.specs.declared.telling.Told.TheVariants as told

-- A column.

-- the tooltip of a column: the event's words and the reply's line
abbrev pub title_of : (words line : List ℕ) → List ℕ
title_of words line = codes "<title>" ++ escaped words ++ codes ": " ++ escaped line ++ codes "</title>\n"

-- what each lane shows
abbrev pub power_name : Activity → List ℕ
power_name activity.Nothing = codes "off"
power_name activity.Sleeps = codes "asleep"
power_name _ = codes "on"

abbrev pub activity_name : Activity → List ℕ
activity_name activity.Nothing = codes "nothing"
activity_name activity.Boots = codes "boots"
activity_name activity.Runs = codes "runs"
activity_name activity.Saves = codes "saves"
activity_name activity.Undoes = codes "undoes"
activity_name activity.Undone = codes "undoes"
activity_name activity.Settles = codes "settles"
activity_name activity.Wakes = codes "wakes"
activity_name activity.Loads = codes "loads"
activity_name activity.Sleeps = codes "sleeps"

abbrev pub image_name : ImageShown → List ℕ
image_name NoImage = codes "none"
image_name Image = codes "image"
image_name Perhaps = codes "perhaps"

abbrev pub bands_text : Lanes → List ℕ
bands_text lanes =
    use_text (codes "power-") (power_name lanes.activity) ++ use_text (codes "memory-") (activity_name lanes.activity)
    ++ use_text (codes "disk-") (image_name lanes.image)

-- the name of what begins here, above its lane
abbrev pub label_text : List ℕ → List ℕ → List ℕ
label_text place name = codes "<text class='state' y='" ++ place ++ codes "'>" ++ name ++ codes "</text>\n"

abbrev pub activity_label : Activity → List ℕ
activity_label activity.Nothing = []
activity_label x = label_text (codes "200") (activity_name x)

abbrev pub image_label : ImageShown → ImageShown → List ℕ
image_label Image Image = []
image_label NoImage Image = label_text (codes "242") (codes "image")
image_label Perhaps Image = label_text (codes "242") (codes "image")
image_label held NoImage = []
image_label held Perhaps = []

abbrev pub begun_label : Bool → Activity → List ℕ
begun_label begins activity = if begins then activity_label activity else []

-- the call of the disk, crossed out if it fails
abbrev pub call_name : Call → List ℕ
call_name Write = codes "write"
call_name Read = codes "read"
call_name Header = codes "header"
call_name Sync = codes "sync"
call_name Mark = codes "mark"
call_name Back = codes "back"

abbrev pub call_text : Drawn → List ℕ
call_text NoCall = []
call_text (Made call) = use_text [] (call_name call)
call_text (Fails call) = use_text [] (call_name call) ++ use_text [] (codes "fails")

abbrev pub cut_text : Event → List ℕ
cut_text (event.Cut pick) = use_text [] (codes "cut")
cut_text _ = []

-- the event's words above the lanes; steps of the core have none
abbrev pub words_label : List ℕ → List ℕ
words_label words =
    use_text [] (codes "event") ++ codes "<text transform='translate(12 146)rotate(-90)'>" ++ escaped words
    ++ codes "</text>\n"

abbrev pub above_of : Event → (words : List ℕ) → List ℕ
above_of e words = if is_core e then [] else words_label words

-- the reply below the lanes
abbrev pub reply_class : Told → List ℕ
reply_class (told.More k n) = codes "more"
reply_class (told.Loading k) = codes "more"
reply_class (told.Undo call k) = codes "fault"
reply_class (told.Fault call left) = codes "fault"
reply_class _ = codes "reply"

abbrev pub reply_label : (name line : List ℕ) → List ℕ
reply_label name line =
    codes "<text class='" ++ name ++ codes "' transform='translate(5 290)rotate(90)'>" ++ escaped line
    ++ codes "</text>\n"

abbrev pub below_of : Told → (line : List ℕ) → List ℕ
below_of t line = reply_label (reply_class t) line

abbrev pub open_text : ℕ → List ℕ
open_text place = named (codes "<g transform='translate(") place ++ codes ")'>\n"

-- What a column shows in the lanes: the state after the event, the names of what begins, the call, and a cut.
abbrev pub shown_by : ImageShown → Lanes → Bool → Drawn → Event → List ℕ
shown_by old new begins call e =
    bands_text new ++ (begun_label begins new.activity ++ image_label old new.image) ++ call_text call ++ cut_text e

abbrev pub shown_text : Lanes → Event → Told → List ℕ
shown_text lanes e t = shown_by lanes.image (after lanes e t) (begins e t) (call_of lanes.activity e t) e

unfoldable pub column_by : ℕ → Lanes → Event → Told → (words line : List ℕ) → List ℕ
column_by place lanes e t words line =
    open_text place ++ title_of words line ++ shown_text lanes e t ++ above_of e words ++ below_of t line
    ++ codes "</g>\n"

abbrev pub column : Lanes → Event → Reply → List ℕ
column lanes e r = column_by (72 + 16 * lanes.column) lanes e (told_by r) (event_words e) (line_of r)

unfoldable pub columns : Lanes → List Event → List Reply → List ℕ
columns lanes [] replies = []
columns lanes (e ∷ events) [] = []
columns lanes (e ∷ events) (r ∷ replies) = column lanes e r ++ columns (after lanes e (told_by r)) events replies

-- The head, which is as wide as its n columns, or as the legend.

abbrev pub width : ℕ → ℕ
width n = if nat_lt (88 + 16 * n) 720 then 720 else 88 + 16 * n

abbrev pub size_text : ℕ → List ℕ
size_text w =
    named (codes "<svg xmlns='http://www.w3.org/2000/svg' viewBox='0 0 ") w ++ named (codes " 404' width='") w
    ++ codes "' height='404' font-family='sans-serif' font-size='11'>\n"

unfoldable pub head : ℕ → List ℕ
head n = size_text (width n) ++ LANES.now

unfoldable pub foot : List ℕ
foot = LEGEND.now

-- a picture of n columns, in which those of these events are drawn
abbrev pub pictured : ℕ → List Event → List Reply → List ℕ
pictured n events replies = head n ++ columns first events replies ++ foot

abbrev pub picture : List Event → List Reply → List ℕ
picture events replies = pictured (length events) events replies
