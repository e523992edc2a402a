-- The area that a script's machine begins with on the disk.
use Rattle.std.specs.Prelude.{◌≡◌, ◌≤◌, ◌<◌, ℕ, ⊤}
use Rattle.definitions.specs.Disk as disk
use Rattle.plain_machine.specs.Machine.{IsHardware}
use Rattle.script.specs.Grammar.{ScriptValue}
use Rattle.command_kit.specs.Told.{RunResult}
use Rattle.swsusp_cli.specs.Replay.{Formats, FailsToFormat, IsNeeded, LieBelow, calls_until}
use Rattle.swsusp_cli.specs.Outcome.{small_told, unformatted_told}
use Rattle.command_kit.specs.View.{DiskView}
use Rattle.swsusp_cli.specs.declared.formatting.Unformatted.{Unformatted}
use Rattle.swsusp_cli.specs.declared.setting_up.Unready.{Unready}
use Rattle.swsusp_cli.specs.declared.setting_up.Unready.TheVariants.{Small, Unformatted as NotFormatted}

-- the area is formatted on a disk that has a block for each slot
pub record IsSetUp (script : ScriptValue) (x x' : DiskView) : Type 0 where
  pub hardware : IsHardware script.hardware
  pub roomy : LieBelow script.hardware x.blocks
  pub formats : disk.Changes (Formats script.hardware script.last script.bad) x.content x'.content
  pub faults : x.faults ≤ x'.faults
  pub calls : x'.calls ≡ disk.raised (disk.raised x.calls)
  pub orders : x'.orders ≡ x.orders

-- the disk has too few blocks, and isn't called
pub record HasTooFew (script : ScriptValue) (x x' : DiskView) (blocks need : ℕ) : Type 0 where
  pub has : blocks ≡ x.blocks
  pub needed : IsNeeded script.hardware need
  pub small : x.blocks < need
  pub untouched : x' ≡ x

-- a call failed while the area was formatted
pub record FailsToSetUp (script : ScriptValue) (x x' : DiskView) (call : Unformatted) : Type 0 where
  pub roomy : LieBelow script.hardware x.blocks
  pub risen : disk.HasRisen x.faults x'.faults
  pub calls : x'.calls ≡ calls_until call x.calls
  pub content : disk.Changes (FailsToFormat script.hardware script.last script.bad call) x.content x'.content
  pub orders : x'.orders ≡ x.orders

abbrev pub IsNotSetUp : ScriptValue → DiskView → DiskView → Unready → Type 0
IsNotSetUp script x x' (Small blocks need) = HasTooFew script x x' blocks need
IsNotSetUp script x x' (NotFormatted call) = FailsToSetUp script x x' call

-- what is printed if the set-up fails
abbrev pub unready_told : Unready → RunResult
unready_told (Small blocks need) = small_told blocks need
unready_told (NotFormatted call) = unformatted_told call

abbrev pub IsFailedCall : Unready → Type 0
IsFailedCall (Small blocks need) = ⊥
IsFailedCall (NotFormatted call) = ⊤
