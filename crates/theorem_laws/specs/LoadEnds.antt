-- How a resume ends: it succeeds, or names a call of the device that failed, or too few page frames of the loader, or
-- what the bytes of the disk show. In Linux: software_resume, kernel/power/hibernate.c, says the first three alike.
use Rattle.std.specs.Prelude.{◌≡◌, ◌⊎◌, ℕ, zero, suc, Contains}
use Rattle.definitions.specs.Disk as disk
use Rattle.plain_machine.specs.Machine.{Hardware}
use Rattle.plain_machine.specs.State.{Load, Found, not_yet, found_own, found_other}
use Rattle.plain_machine.specs.Trace.{trace}
use Rattle.plain_machine.specs.declared.reply.Reply.{Reply}
use Rattle.plain_machine.specs.declared.reply.Reply.TheVariants as reply
use Rattle.command_core.specs.Hibernations.{EndsInFault}

abbrev pub IsLoading : Reply → Type 0
IsLoading r = (k : ℕ) × (r ≡ reply.Loading k)

abbrev pub AnswersResumed : Reply → Type 0
AnswersResumed r = (n : ℕ) × (r ≡ reply.Resumed n)

abbrev pub NamesTooFewFrames : Reply → Type 0
NamesTooFewFrames r = (free : ℕ) × (need : ℕ) × (r ≡ reply.TooFewLoaderFrames free need)

-- what the bytes of the disk v show: no mark, or the reply of its trace
abbrev pub NamesBytes : Hardware → Load → disk.DiskImage → Reply → Type 0
NamesBytes h load v r = (r ≡ reply.NoImage) ⊎ Contains (trace h load.dump v load.loader load.check) r

-- The disk whose bytes a resume has found after the given number of steps: before the second step, the disk v as it
-- reads; from then on the disk that was read, if that has another machine's image.
abbrev pub disk_found : disk.DiskImage → Found → ℕ → disk.DiskImage
disk_found v found zero = v
disk_found v found (suc zero) = v
disk_found v not_yet (suc (suc k)) = v
disk_found v (found_own i) (suc (suc k)) = v
disk_found v (found_other w) (suc (suc k)) = w

-- the resume goes on, or ends in one of these ways
abbrev pub NamesItsEnd : Hardware → disk.DiskImage → Load → ℕ → Reply → Type 0
NamesItsEnd h v load k r =
    IsLoading r ⊎ AnswersResumed r ⊎ EndsInFault r ⊎ NamesTooFewFrames r
    ⊎ NamesBytes h load (disk_found v load.found k) r
