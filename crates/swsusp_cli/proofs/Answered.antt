-- Memory that was refused before the disk was called.
use Rattle.std.proofs.Common.{◌≡◌, ℕ, refl, Option}
use Rattle.command_kit.specs.Told.{memory_told}
use Rattle.swsusp_cli.specs.Drills as drills
use Rattle.swsusp_cli.specs.Drills.{IsDrilled}
use Rattle.swsusp_cli.specs.Dumps as dumps
use Rattle.sector_disk.specs.declared.disk.Disk.{Ghosts}
use Rattle.swsusp_cli.specs.Dumps.{Hibernates}
use Rattle.swsusp_cli.specs.Exports as exports
use Rattle.swsusp_cli.specs.Exports.{Exports}
use Rattle.swsusp_cli.specs.Imports as imports
use Rattle.swsusp_cli.specs.Imports.{Imports}
use Rattle.swsusp_cli.specs.Loads as loads
use Rattle.swsusp_cli.specs.Loads.{Resumes}
use Rattle.swsusp_cli.specs.Outcome as outcome
use Rattle.swsusp_cli.specs.Outcome.{IsReplayed, Tells}
use Rattle.command_kit.specs.View.{View}
use Rattle.command_kit.specs.declared.status.Status.{Status}
use Rattle.page_core.specs.declared.format.Format.{Format}
use Rattle.plain_machine.specs.declared.event.IdentCheck.{IdentCheck}
use Rattle.stream_in.specs.declared.stop.InStop.TheVariants as stop

-- memory was refused before the disk was called, which each command may end with
module _ (x x' : View) (status : Status) (told : Tells memory_told status x x') (untouched : x'.disk ≡ x.disk) where
  pub memory_replays : IsReplayed x x' status
  memory_replays = outcome.unplayed (outcome.out_of_memory (record { told = told; untouched = untouched }))

  pub memory_drills : (number : ℕ) → IsDrilled number x x' status
  memory_drills number = drills.out_of_memory (record { told = told; untouched = untouched })

  pub memory_hibernates : {X : Type 0} (D : Ghosts X) (d : X) (format : Format) (size : Option ℕ) → Hibernates D d d format size x x' status
  memory_hibernates D d format size = dumps.out_of_memory (record { told = told; untouched = untouched }) refl

  pub memory_resumes : {X : Type 0} (D : Ghosts X) (d : X) (check : IdentCheck) → Resumes D d d check x x' status
  memory_resumes D d check = loads.out_of_memory (record { told = told; untouched = untouched }) refl

  pub memory_exports : Exports x x' status
  memory_exports = exports.out_of_memory (record { told = told; untouched = untouched })

  pub memory_imports : x'.left ≡ x.left → Imports x x' status
  memory_imports left = imports.stopped stop.NoMemory (left, untouched) told
