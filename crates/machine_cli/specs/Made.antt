-- How `make` may end: it plays a script, and writes the memory of the machine that runs at its end as a dump.
use Rattle.std.specs.Prelude.{◌≡◌, List, [], codes, Some}
use Rattle.definitions.specs.Disk as disk
use Rattle.plain_machine.specs.Machine.{Hardware, Memory, IsSameMemory}
use Rattle.plain_machine.specs.State.{State, Running, on}
use Rattle.plain_machine.specs.declared.reply.Reply.{Reply}
use Rattle.script.specs.Grammar.{ScriptValue}
use Rattle.command_kit.specs.Told.{RunResult, line}
use Rattle.swsusp_cli.specs.Replay.{LieBelow}
use Rattle.swsusp_cli.specs.Loads.{written_told}
use Rattle.swsusp_cli.specs.Outcome.{IsScript, IsUnplayed, Tells}
use Rattle.swsusp_cli.specs.Replay.{AreReplies}
use Rattle.command_kit.specs.View.{View}
use Rattle.command_kit.specs.declared.status.Status.{Status}
use Rattle.command_kit.specs.declared.status.Status.TheVariants.{Refused}

-- no machine runs
abbrev pub idle_told : RunResult
idle_told = record { status = Refused; out = []; note = line (codes "no machine runs") }

-- the machine runs, and this is its memory, except for what free page frames hold
abbrev pub RunsWith : Hardware → Memory → State → Type 0
RunsWith h m state = (a : Running) × (state ≡ on a) × IsSameMemory h a.memory m

-- the machine doesn't run
abbrev pub RunsNot : State → Type 0
RunsNot state = (a : Running) → state ≡ on a → ⊥

-- All events were played, and their replies are those of a run of the plain machine, as in a replay. If the disk tells
-- its content, the run ends in a state that meets `Ends`.
pub record HasPlayedTo (x x' : View) (script : ScriptValue) (Ends : State → Type 0) : Type 0 where
  pub script_is : IsScript x x' script
  pub roomy : LieBelow script.hardware x.disk.blocks
  pub replies : List Reply
  pub are : AreReplies x.disk x'.disk script script.events replies
  pub ends : (c : disk.Content) (told : x.disk.content ≡ Some c) → Ends (are.run c told).end

-- One of these endings, by the outside before and after.
pub data IsMade (x x' : View) (status : Status) : Type 0 where
  unplayed : IsUnplayed x x' status → IsMade x x' status
  idle : (script : ScriptValue) → HasPlayedTo x x' script RunsNot → Tells idle_told status x x' → IsMade x x' status
  written : (script : ScriptValue) (m : Memory) → HasPlayedTo x x' script (RunsWith script.hardware m) →
      Tells (written_told script.hardware m) status x x' → IsMade x x' status
