-- [drill]: the run that is made from one number, 1 to 2000, and the line that sums it up. It is our own: tasks claim
-- page frames, store into them and swap some of them out, the machine hibernates, the power is cut, the image is
-- resumed, and the tasks show what they stored.
use Rattle.std.specs.Prelude.{ℕ, ◌+◌, ◌*◌, ◌%◌, ◌^◌, List, [], ◌∷◌, ◌++◌, Bool, true, false, Option, Some, None, codes}
use Rattle.std.specs.Prelude.{decimal, length, map, flat_map, replicate, reverse, nat_lt, count_by, if◌then◌else◌}
use Rattle.std.specs.List.{filter_map, range_with_len, sum}
use Rattle.definitions.specs.NumberPages.{meta_of}
use Rattle.page_core.specs.declared.format.Format.TheVariants.{Plain}
use Rattle.plain_machine.specs.Image.{maps_of, maps_read}
use Rattle.plain_machine.specs.Machine.{Hardware}
use Rattle.plain_machine.specs.declared.event.Event.{Event}
use Rattle.plain_machine.specs.declared.event.Event.TheVariants as event
use Rattle.plain_machine.specs.declared.event.TaskOp.{TaskOp}
use Rattle.plain_machine.specs.declared.event.TaskOp.TheVariants as op
use Rattle.plain_machine.specs.declared.event.Actor.TheVariants as actor
use Rattle.plain_machine.specs.declared.event.BootFrom.TheVariants.{Fresh}
use Rattle.plain_machine.specs.declared.event.IdentCheck.TheVariants.{Compare}
use Rattle.plain_machine.specs.declared.event.Loader.TheVariants as loader
use Rattle.plain_machine.specs.declared.event.Ranges.{Ranges}
use Rattle.plain_machine.specs.declared.reply.Reply.{Reply}
use Rattle.plain_machine.specs.declared.reply.Reply.TheVariants as reply
use Rattle.script.specs.Grammar.{ScriptValue}
use Rattle.script.specs.Settings.{scripted_ident}
use Rattle.script.specs.declared.tally.Tally.{Tally}
use Rattle.definitions.specs.declared.counts.TheConstants.{WORDS_PER_PAGE}

-- The machine: page frames 0 to 8191 with the tables in the lowest, and slots 0 to 16383, slot s on block s.
abbrev pub drill_hardware : Hardware
drill_hardware = record {
  zones = (0, 8192) ∷ [];
  slots = 16384;
  frame_table = 0;
  slot_table = 8;
  regions = [];
  ident = scripted_ident;
  hw_sig = 0;
  extents = (0, 16384, 0) ∷ [];
}

-- The i-th page frame, its task, the word of it that is stored into, and what drill c stores there.
abbrev pub frame : ℕ → ℕ
frame i = 100 + 2 * i

abbrev pub task : ℕ → ℕ
task i = 1 + i % 64

abbrev pub word : ℕ → ℕ
word i = i % WORDS_PER_PAGE

abbrev pub value : ℕ → ℕ → ℕ
value c i = 1000003 * c + 7919 * i

-- a request of the i-th page frame's task, and that task's step
abbrev pub asks : ℕ → TaskOp → Event
asks i o = event.Task (task i) o

abbrev pub claims : ℕ → Event
claims i = asks i (op.Claim (frame i))

abbrev pub stores : ℕ → ℕ → Event
stores v i = asks i (op.Store (frame i) (word i) v)

abbrev pub shows : ℕ → Event
shows i = asks i (op.Show (frame i) (word i))

abbrev pub goes_out : ℕ → Event
goes_out i = asks i (op.Out (frame i))

abbrev pub takes_in : ℕ → Event
takes_in i = asks i (op.TakeIn (i + 1) (frame i))

abbrev pub steps : ℕ → Event
steps i = event.Step (actor.Task (task i))

-- n steps of the core
abbrev pub core_steps : ℕ → List Event
core_steps n = replicate n (event.Step actor.Core)

-- the numbers below n
abbrev pub below : ℕ → List ℕ
below n = range_with_len 0 n

-- the number of pages that go out: at most 8
abbrev pub swapped : ℕ → ℕ
swapped c = if nat_lt c 8 then c else 8

-- The pages of the image's stream: the image has the 24 page frames of the tables and the c claimed ones.
abbrev pub pages : ℕ → ℕ
pages c = 24 + c + meta_of (24 + c) + 1

-- the loader holds page frames 0 to 99 and 4000 to 4999
abbrev pub loader_ranges : Ranges
loader_ranges = record { count = 2; list = (0, 99) ∷ (4000, 4999) ∷ replicate 6 (0, 0) }

-- The events, part by part: the claimed page frames are stored into; some go out, the last one written first, and are
-- stored into again; the machine hibernates; after a cut it is resumed; every page is shown; those that went out come
-- in again, and are shown.
abbrev pub boots : List Event
boots = event.Boot Fresh ∷ core_steps 2

abbrev pub claimed : ℕ → List Event
claimed c = flat_map (λ i. claims i ∷ stores (value c i) i ∷ []) (below c)

abbrev pub gone_out : ℕ → ℕ → List Event
gone_out c t = map goes_out (below t) ++ map steps (reverse (below t)) ++ map (λ i. stores (value c i + 1) i) (below t)

abbrev pub hibernates : ℕ → List Event
hibernates c = event.Hibernate Plain ∷ core_steps (pages c + maps_of (pages c) + 4)

abbrev pub resumes : ℕ → List Event
resumes c =
    event.Cut c ∷ event.Resume (loader.Ranges loader_ranges) Compare ∷ core_steps (4 + maps_read (pages c) + pages c)

abbrev pub taken_in : ℕ → List Event
taken_in t = map takes_in (below t) ++ map steps (below t) ++ map shows (below t)

unfoldable pub drill_events : ℕ → List Event
drill_events c =
    boots ++ claimed c ++ gone_out c (swapped c) ++ hibernates c ++ resumes c ++ map shows (below c)
    ++ taken_in (swapped c)

-- the run of drill c
abbrev pub drill_script : ℕ → ScriptValue
drill_script c = record { hardware = drill_hardware; last = 16383; bad = []; events = drill_events c }

-- The summary.

abbrev pub is_hibernated : Reply → Bool
is_hibernated (reply.Hibernated n) = true
is_hibernated _ = false

abbrev pub is_resumed : Reply → Bool
is_resumed (reply.Resumed n) = true
is_resumed _ = false

abbrev pub word_in : Reply → Option ℕ
word_in (reply.Word v) = Some v
word_in _ = None

-- a tally of replies: how many there are, how many of each of two kinds and how many with words, and the sum of the
-- words modulo 2^64
unfoldable pub tally_of : List Reply → Tally
tally_of replies = record {
  events = length replies;
  hibernated = count_by is_hibernated replies;
  resumed = count_by is_resumed replies;
  words = length (filter_map word_in replies);
  sum = sum (filter_map word_in replies) % 2 ^ 64;
}

-- the line of drill c
abbrev pub summary : ℕ → Tally → List ℕ
summary c t =
    codes "drill " ++ decimal c ++ codes " events " ++ decimal t.events ++ codes " hibernated " ++ decimal t.hibernated
    ++ codes " resumed " ++ decimal t.resumed
    ++ codes " words " ++ decimal t.words ++ codes " sum " ++ decimal t.sum ++ 10 ∷ []
