-- Which call of the disk a step makes, given what the machine does and its reply.
use Rattle.std.specs.Prelude.{ℕ, ◌-◌, ◌==◌, nat_lt, if◌then◌else◌}
use Rattle.plain_machine.specs.declared.event.Actor.TheVariants as actor
use Rattle.plain_machine.specs.declared.event.Event.{Event}
use Rattle.plain_machine.specs.declared.event.Event.TheVariants as event
use Rattle.plain_machine.specs.declared.reply.Left.{Left}
use Rattle.plain_machine.specs.declared.reply.Left.TheVariants.{Same, Gone, Unsure}
use Rattle.plain_machine.specs.declared.reply.UndoCall.{UndoCall}
use Rattle.plain_machine.specs.declared.reply.UndoCall.TheVariants as undo
use Rattle.run_picture.specs.declared.calls.Call.{Call}
use Rattle.run_picture.specs.declared.calls.Call.TheVariants.{Write, Read, Header, Sync, Mark, Back}
use Rattle.run_picture.specs.declared.calls.Drawn.{Drawn}
use Rattle.run_picture.specs.declared.calls.Drawn.TheVariants.{NoCall, Made, Fails}
use Rattle.run_picture.specs.declared.lanes.Activity.{Activity}
use Rattle.run_picture.specs.declared.lanes.Activity.TheVariants.{Nothing, Boots, Runs, Saves, Undoes, Undone, Settles}
use Rattle.run_picture.specs.declared.lanes.Activity.TheVariants.{Wakes, Loads, Sleeps}
use Rattle.run_picture.specs.declared.telling.Failing.{Failing}
use Rattle.run_picture.specs.declared.telling.Failing.TheVariants as fails
use Rattle.run_picture.specs.declared.telling.Told.{Told}
use Rattle.run_picture.specs.declared.telling.Told.TheVariants as told

-- A boot syncs, and reads the header block.
abbrev pub boot_call : Told → Drawn
boot_call (told.More k n) = Made Sync
boot_call (told.Booted image) = Made Header
boot_call (told.Fault fails.Sync left) = Fails Sync
boot_call (told.Fault fails.Read left) = Fails Header
boot_call _ = NoCall

-- A hibernation writes its pages and maps. The last four steps sync, read the header block, write the mark, and sync.
abbrev pub save_step : ℕ → Call
save_step left = if left == 1 then Mark else if left == 2 then Header else if left == 3 then Sync else Write

abbrev pub unmarked : UndoCall → Call
unmarked undo.Write = Mark
unmarked undo.Sync = Sync

-- the call that fails, where only the header block is read and this call writes
abbrev pub failing : Failing → Call → Call
failing fails.Read call = Header
failing fails.Write call = call
failing fails.Sync call = Sync

abbrev pub save_call : Told → Drawn
save_call (told.More k n) = Made (save_step (n - k))
save_call told.Saved = Made Sync
save_call told.Slept = Made Sync
save_call (told.Undo call k) = Fails (unmarked call)
save_call (told.Fault call left) = Fails (failing call Write)
save_call told.Other = Made Header
save_call _ = NoCall

-- An undo takes the mark back, and syncs.
abbrev pub undo_call : Told → Drawn
undo_call (told.Undo call k) = Made Back
undo_call (told.Fault call left) = Fails Back
undo_call _ = NoCall

abbrev pub undone_by : Left → Drawn
undone_by Unsure = Fails Sync
undone_by Gone = Made Sync
undone_by Same = Made Sync

abbrev pub undone_call : Told → Drawn
undone_call (told.Fault call left) = undone_by left
undone_call _ = NoCall

-- Settling and waking read the header block, write it taken back, and sync.
abbrev pub back_call : Told → Drawn
back_call (told.More k n) = Made (if k == 1 then Header else Back)
back_call told.Runs = Made Sync
back_call (told.Fault call left) = Fails (failing call Back)
back_call _ = NoCall

-- A resume syncs, reads the header block, writes it taken back, syncs, and reads the image.
abbrev pub load_step : ℕ → Call
load_step k = if k == 1 then Sync else if k == 2 then Header else if k == 3 then Back else if k == 4 then Sync else Read

abbrev pub unloaded : Failing → Left → Call
unloaded fails.Read Gone = Read
unloaded call left = failing call Back

abbrev pub load_call : Told → Drawn
load_call (told.Loading k) = Made (load_step k)
load_call told.Runs = Made Read
load_call told.NoImage = Made Header
load_call told.Compressed = Made Header
load_call (told.Fault call left) = Fails (unloaded call left)
load_call told.Other = Made Read
load_call _ = NoCall

-- a task's step writes the page that goes out, or reads the one that comes in
abbrev pub task_call : Told → Drawn
task_call told.Written = Made Write
task_call told.Fetched = Made Read
task_call (told.Fault fails.Write left) = Fails Write
task_call (told.Fault fails.Read left) = Fails Read
task_call _ = NoCall

abbrev pub core_call : Activity → Told → Drawn
core_call Boots t = boot_call t
core_call Saves t = save_call t
core_call Undoes t = undo_call t
core_call Undone t = undone_call t
core_call Settles t = back_call t
core_call Wakes t = back_call t
core_call Loads t = load_call t
core_call _ t = NoCall

-- only steps call the disk
abbrev pub call_of : Activity → Event → Told → Drawn
call_of activity (event.Step actor.Core) t = core_call activity t
call_of activity (event.Step (actor.Task task)) t = task_call t
call_of activity _ t = NoCall
