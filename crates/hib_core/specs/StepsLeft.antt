-- An upper bound for the steps left. It depends on the stage only, so it holds for a disk that doesn't tell its
-- content.
use Rattle.std.specs.Prelude.{ℕ, ◌+◌, ◌-◌}
use Rattle.unmark.specs.Unmarking.{calls_left}
use Rattle.hib_core.specs.declared.hib.Hib.{Hib}
use Rattle.hib_core.specs.declared.hib.Saving.{Saving}
use Rattle.hib_core.specs.declared.hib.Stage.{Stage}
use Rattle.hib_core.specs.declared.hib.Stage.TheVariants as stage

-- While an image is saved: the steps not yet made, and the two of an undo, which follows a failed mark.
abbrev pub steps_left_saving : Saving → ℕ
steps_left_saving saving = 2 + (saving.steps - saving.done)

abbrev pub steps_left_at : Stage → ℕ
steps_left_at stage.Idle = 0
steps_left_at stage.Over = 0
steps_left_at stage.Asleep = 0
steps_left_at (stage.Write saving writer) = steps_left_saving saving
steps_left_at (stage.Sync saving) = steps_left_saving saving
steps_left_at (stage.Read saving) = steps_left_saving saving
steps_left_at (stage.Mark saving header) = steps_left_saving saving
steps_left_at (stage.End saving header) = steps_left_saving saving
steps_left_at (stage.Undo call unmark) = calls_left unmark.next
steps_left_at (stage.Settle unmark) = calls_left unmark.next

-- Each step of a hibernation, an undo or a settling leaves fewer. If none of them is under way, no steps are left.
abbrev pub saving_steps_left : Hib → ℕ
saving_steps_left hib = steps_left_at hib.stage
