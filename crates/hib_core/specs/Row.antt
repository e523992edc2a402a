-- The rows of the plain machine that a hibernation or a settling implements.
use Rattle.std.specs.Prelude.{◌≡◌, ℕ, Contains, Option, ⊤}
use Rattle.page_core.specs.declared.format.Format.{Format}
use Rattle.definitions.specs.Disk as disk
use Rattle.plain_machine.specs.Machine.{Hardware, Memory, IsOfTable, unused_slots}
use Rattle.plain_machine.specs.Image.{Image, n_of, numbers_of, without_data, hibernate_steps}
use Rattle.plain_machine.specs.Image.{laid_block}
use Rattle.plain_machine.specs.State.{State, off, on, booting, hibernating, undoing, settling, waking, loading, asleep}
use Rattle.plain_machine.specs.State.{Running}
use Rattle.plain_machine.specs.Stands.{Stands}
use Rattle.plain_machine.specs.declared.event.Event.{Event}
use Rattle.plain_machine.specs.declared.event.Event.TheVariants as event
use Rattle.plain_machine.specs.declared.reply.Reply.{Reply}
use Rattle.image_laws.specs.Decoding.{IsSayable}
use Rattle.protocol_laws.specs.Rows as rows
use Rattle.protocol_laws.specs.Writers.{IsWriterOf}
use Rattle.machine.specs.declared.machine.Machine.{Machine}
use Rattle.hib_core.specs.Hibernation.{shown_by, running_by}
use Rattle.hib_core.specs.declared.hib.Ending.{Ending}
use Rattle.hib_core.specs.declared.hib.Ending.TheVariants as ending
use Rattle.hib_core.specs.declared.hib.Hib.{Hib}
use Rattle.hib_core.specs.declared.hib.Saving.{Saving}
use Rattle.hib_core.specs.declared.hib.Stage.{Stage}
use Rattle.hib_core.specs.declared.hib.Job.{Job}
use Rattle.hib_core.specs.declared.hib.Job.TheVariants as job
use Rattle.hib_core.specs.declared.hib.Stage.TheVariants as stage

-- The numbers of a hibernation are those of the image that the machine is saving.
pub record IsSavingOf (h : Hardware) (a : Running) (i : Image) (saving : Saving) : Type 0 where
  pub saved : saving.saved ≡ n_of i
  pub steps : saving.steps ≡ hibernate_steps i
  pub first : saving.first ≡ laid_block h.extents (unused_slots h a.memory) 0

-- at each stage of a hibernation the numbers are the image's, and the writer is the image's
abbrev pub IsStageOf : Stage → Hardware → Memory → Running → Image → Type 0
IsStageOf (stage.Write saving writer) h frames a i =
    IsSavingOf h a i saving × IsWriterOf h a i saving.done frames writer
IsStageOf (stage.Sync saving) h frames a i = IsSavingOf h a i saving
IsStageOf (stage.Read saving) h frames a i = IsSavingOf h a i saving
IsStageOf (stage.Mark saving header) h frames a i = IsSavingOf h a i saving
IsStageOf (stage.End saving header) h frames a i = IsSavingOf h a i saving
IsStageOf _ h frames a i = ⊤

-- The sets of a hibernation are the image's.
pub record IsOf (h : Hardware) (frames : Memory) (hib : Hib) (a : Running) (i : Image) : Type 0 where
  pub sayable : IsSayable i
  pub format : hib.snapshot.format ≡ i.format
  pub origs : hib.snapshot.origs ≡ numbers_of i
  pub zeros : hib.snapshot.zeros ≡ without_data i
  pub apart : (p : ℕ) → Contains hib.snapshot.copies p → IsOfTable h.slot_table h.slots p → ⊥
  pub numbers : IsStageOf hib.stage h frames a i

abbrev pub IsOfState : Hardware → Memory → Hib → State → Type 0
IsOfState h frames hib (hibernating suspends i a k) = IsOf h frames hib a i
IsOfState h frames hib (undoing i call a k) = IsOf h frames hib a i
IsOfState h frames hib (off held kept) = ⊤
IsOfState h frames hib (on a) = ⊤
IsOfState h frames hib (booting from dump held k) = ⊤
IsOfState h frames hib (settling a k) = ⊤
IsOfState h frames hib (waking i held a k) = ⊤
IsOfState h frames hib (loading load k) = ⊤
IsOfState h frames hib (asleep i held a) = ⊤

-- What the machine shows during the operation stands, with its disk, for state a. The image being saved is that of a.
pub record HibernationStandsFor (machine : Machine) (frames : Memory) (hib : Hib) (c : disk.Content)
    (a : State) : Type 0 where
  pub stands : Stands machine.hw (shown_by machine frames hib) c a
  pub image : IsOfState machine.hw frames hib a

-- the row of an event for these contents of the disk, and for a disk that tells its content
abbrev pub Simulates : Machine → Memory → Hib → Machine → Memory → Hib → Event → Reply → disk.Content → disk.Content →
    Type 0
Simulates machine frames hib machine' frames' hib' e r c c' =
    rows.Simulates machine.hw (HibernationStandsFor machine frames hib)
    (HibernationStandsFor machine' frames' hib') e r c c'

abbrev pub SimulatesWhereTold : Machine → Memory → Hib → Machine → Memory → Hib → Event → Reply → Option disk.Content →
    Option disk.Content → Type 0
SimulatesWhereTold machine frames hib machine' frames' hib' e r before now =
    rows.SimulatesWhereTold machine.hw (HibernationStandsFor machine frames hib)
    (HibernationStandsFor machine' frames' hib') e r before now

-- the job that saves memory and has this ending
abbrev pub saving : Ending → Format → Job
saving ending.SwitchesOff format = job.Hibernate format
saving ending.Sleeps format = job.Suspend format

-- the event of the plain machine that a job is
abbrev pub event_of : Job → Event
event_of (job.Hibernate format) = event.Hibernate format
event_of (job.Suspend format) = event.Suspend format
event_of job.Settle = event.Settle

-- the row of a job's begin, on a running machine
abbrev pub IsBegun : Machine → Memory → Memory → Hib → Job → Reply → disk.Content → Type 0
IsBegun machine frames frames' hib' asked r c =
    rows.Simulates machine.hw (λ held s. Stands machine.hw (running_by machine frames) held s)
    (HibernationStandsFor machine frames' hib') (event_of asked) r c c
