-- The machine that a caller in C describes.
use Rattle.std.specs.Prelude.{◌^◌, ◌<◌, ◌≤◌, ◌==◌, List, if◌then◌else◌}
use Rattle.boot_resume.specs.Facts.{Compared, any_kernel, same_kernel, same_bytes, facts}
use Rattle.boot_resume.specs.Memory.{AreApart}
use Rattle.boot_resume.specs.declared.machine.FrameRange.{FrameRange}
use Rattle.boot_resume.specs.declared.machine.Machine.{Machine}
use Rattle.swsusp_c.specs.declared.machine.SwsuspMachine.{SwsuspMachine}

-- what is compared: nothing, the version code and the names, or the bytes of an architecture's header
abbrev pub compared_in : SwsuspMachine → Compared
compared_in told =
    if told.identity == 1 then same_kernel (record { version_code = told.version_code; names = told.names })
    else (if told.identity == 2 then same_bytes told.architecture else any_kernel)

-- the machine: only its facts, wherever the struct and the ranges lie
abbrev pub machine_in : SwsuspMachine → List FrameRange → Machine
machine_in told memory = facts memory told.present (compared_in told) told.hardware_signature told.blocks told.header

-- a possible machine: one that `Machine::new` accepts, with one of the three identities
pub record IsTaken (told : SwsuspMachine) (memory : List FrameRange) : Type 0 where
  pub identity : told.identity ≤ 2
  pub ranges : AreApart memory
  pub some : 0 < told.present
  pub few : told.present < 2 ^ 52
  pub header : told.header < told.blocks
