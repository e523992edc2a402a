-- What the lanes show, event by event.
use Rattle.std.specs.Prelude.{ℕ, ◌+◌, ◌-◌, ◌==◌, List, [], ◌∷◌, Bool, true, false, nat_lt, if◌then◌else◌}
use Rattle.plain_machine.specs.declared.event.Actor.TheVariants as actor
use Rattle.plain_machine.specs.declared.event.Event.{Event}
use Rattle.plain_machine.specs.declared.event.Event.TheVariants as event
use Rattle.plain_machine.specs.declared.reply.Left.{Left}
use Rattle.plain_machine.specs.declared.reply.Left.TheVariants.{Same, Gone, Unsure}
use Rattle.plain_machine.specs.declared.reply.Reply.{Reply}
use Rattle.run_picture.specs.Telling.{told_by}
use Rattle.run_picture.specs.declared.lanes.Activity.{Activity}
use Rattle.run_picture.specs.declared.lanes.Activity.TheVariants.{Nothing, Boots, Runs, Saves, Undoes, Undone, Settles}
use Rattle.run_picture.specs.declared.lanes.Activity.TheVariants.{Wakes, Loads, Sleeps}
use Rattle.run_picture.specs.declared.lanes.ImageShown.{ImageShown}
use Rattle.run_picture.specs.declared.lanes.ImageShown.TheVariants.{NoImage, Image, Perhaps}
use Rattle.run_picture.specs.declared.lanes.Lanes.{Lanes}
use Rattle.run_picture.specs.declared.telling.Told.{Told}
use Rattle.run_picture.specs.declared.telling.Told.TheVariants as told

-- at first the machine is off, and no image exists
abbrev pub first : Lanes
first = record { column = 0; activity = Nothing; image = NoImage }

abbrev pub is_core : Event → Bool
is_core (event.Step actor.Core) = true
is_core _ = false

-- What the machine does after an event: an operation begins if its first reply says so.
abbrev pub begun : Activity → Activity → Told → Activity
begun activity asked (told.More k n) = asked
begun activity asked (told.Loading k) = asked
begun activity asked _ = activity

-- if an operation fails, the machine does what it did before
abbrev pub given_up : Activity → Activity
given_up Nothing = Nothing
given_up Boots = Nothing
given_up Loads = Nothing
given_up Wakes = Sleeps
given_up Sleeps = Sleeps
given_up _ = Runs

abbrev pub stepped : Activity → Told → Activity
stepped activity (told.More k n) = activity
stepped activity (told.Loading k) = activity
stepped activity told.Idle = activity
stepped activity (told.Undo call k) = if k == 0 then Undoes else Undone
stepped activity (told.Booted image) = Runs
stepped activity told.Runs = Runs
stepped activity told.Saved = Nothing
stepped activity told.Slept = Sleeps
stepped activity _ = given_up activity

abbrev pub activity_after : Activity → Event → Told → Activity
activity_after activity (event.Cut pick) t = Nothing
activity_after activity (event.Step actor.Core) t = stepped activity t
activity_after activity (event.Boot from) t = begun activity Boots t
activity_after activity (event.Hibernate format) t = begun activity Saves t
activity_after activity (event.Suspend format) t = begun activity Saves t
activity_after activity event.Settle t = begun activity Settles t
activity_after activity event.Wake t = begun activity Wakes t
activity_after activity (event.Resume loader check) t = begun activity Loads t
activity_after activity _ t = activity

-- What is on the disk after a step. This is what a failed call has left.
abbrev pub left_by : ImageShown → Left → ImageShown
left_by held Same = held
left_by held Gone = NoImage
left_by held Unsure = Perhaps

-- Before an operation's last step, the header block is written but not synced.
abbrev pub marked : Activity → ImageShown → ℕ → ImageShown
marked Saves held steps = if steps == 1 then Perhaps else held
marked Settles held steps = if steps == 1 then Perhaps else held
marked Wakes held steps = if steps == 1 then Perhaps else held
marked _ held steps = held

-- What a resume has made of an image after k steps: it finds the image, takes its mark back, and syncs.
abbrev pub loaded : ImageShown → ℕ → ImageShown
loaded held k = if nat_lt k 2 then held else if k == 2 then Image else if k == 3 then Perhaps else NoImage

-- What is left of an image that a resume refuses.
abbrev pub refused : Activity → ImageShown → ImageShown
refused Loads held = NoImage
refused _ held = held

abbrev pub written : Activity → ImageShown → Told → ImageShown
written activity held (told.Booted true) = Image
written activity held (told.Booted false) = NoImage
written activity held told.Saved = Image
written activity held told.Slept = Image
written activity held told.Compressed = Image
written activity held told.Runs = NoImage
written activity held told.NoImage = NoImage
written activity held (told.Undo call k) = Perhaps
written activity held (told.Fault call left) = left_by held left
written activity held (told.More k n) = marked activity held (n - k)
written activity held (told.Loading k) = loaded held k
written activity held told.Other = refused activity held
written activity held _ = held

-- only core steps write an image; after a cut the next boot or resume tells whether one is left
abbrev pub image_after : Activity → ImageShown → Event → Told → ImageShown
image_after activity held e t = if is_core e then written activity held t else held

abbrev pub after : Lanes → Event → Told → Lanes
after lanes e t = record {
  column = lanes.column + 1;
  activity = activity_after lanes.activity e t;
  image = image_after lanes.activity lanes.image e t;
}

-- Whether the machine does something else from this event on, so that its name is written there.
abbrev pub ends : Told → Bool
ends (told.More k n) = false
ends (told.Loading k) = false
ends told.Idle = false
ends (told.Undo call k) = k == 0
ends _ = true

abbrev pub is_accepted : Told → Bool
is_accepted (told.More k n) = true
is_accepted (told.Loading k) = true
is_accepted _ = false

abbrev pub begins : Event → Told → Bool
begins (event.Step actor.Core) t = ends t
begins (event.Step (actor.Task task)) t = false
begins _ t = is_accepted t

-- what the lanes show after events with their replies
abbrev pub lanes_after : Lanes → List Event → List Reply → Lanes
lanes_after lanes [] replies = lanes
lanes_after lanes (e ∷ events) [] = lanes
lanes_after lanes (e ∷ events) (r ∷ replies) = lanes_after (after lanes e (told_by r)) events replies
