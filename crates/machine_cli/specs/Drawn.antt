-- How `draw` may end: it plays a script as a replay does, and writes to out a picture of what happened instead of the
-- replies.
use Rattle.std.specs.Prelude.{◌≡◌, ◌⊎◌, ℕ, List, [], length, take}
use Rattle.definitions.specs.Disk.{HasRisen}
use Rattle.definitions.specs.Streams.{TakesFront}
use Rattle.plain_machine.specs.declared.reply.Reply.{Reply}
use Rattle.script.specs.Grammar.{ScriptValue}
use Rattle.run_picture.specs.Picture.{picture, pictured}
use Rattle.swsusp_cli.specs.Replay.{LieBelow}
use Rattle.swsusp_cli.specs.Outcome.{IsScript, IsUnplayed}
use Rattle.swsusp_cli.specs.Replay.{AreReplies}
use Rattle.command_kit.specs.Told.{IsPrinted, IsTried, sink_note}
use Rattle.command_kit.specs.View.{View}
use Rattle.command_kit.specs.declared.status.Status.{Status}
use Rattle.command_kit.specs.declared.status.Status.TheVariants.{Done, Stream}

-- Out took the picture of the replies to all events; or it took the front of a picture of the replies to the first k.
abbrev pub Draws : ScriptValue → View → View → Type 0
Draws script x x' =
    (replies : List Reply) × AreReplies x.disk x'.disk script script.events replies
    × IsPrinted (picture script.events replies) x.out x'.out

abbrev pub DrawsFront : ScriptValue → View → View → Type 0
DrawsFront script x x' =
    (k : ℕ) × (replies : List Reply) × AreReplies x.disk x'.disk script (take k script.events) replies
    × TakesFront (pictured (length script.events) (take k script.events) replies) x.out.taken x'.out.taken

-- all events were played: out took the picture of a run of the plain machine
pub record IsWhole (x x' : View) (status : Status) (script : ScriptValue) : Type 0 where
  pub script_is : IsScript x x' script
  pub roomy : LieBelow script.hardware x.disk.blocks
  pub status_is : status ≡ Done
  pub draws : Draws script x x'
  pub note : IsPrinted [] x.note x'.note

-- Out failed: it took the front of a picture of a run over the first events, and the fault is noted. Or all is printed,
-- and note failed.
pub record IsDrawnInPart (x x' : View) (status : Status) (script : ScriptValue) : Type 0 where
  pub script_is : IsScript x x' script
  pub roomy : LieBelow script.hardware x.disk.blocks
  pub status_is : status ≡ Stream
  pub draws : DrawsFront script x x'
  pub whose : HasRisen x.out.faults x'.out.faults ⊎ (Draws script x x' × HasRisen x.note.faults x'.note.faults)
  pub note : IsTried sink_note x.note x'.note

-- One of these endings, by the outside before and after.
pub data IsDrawn (x x' : View) (status : Status) : Type 0 where
  unplayed : IsUnplayed x x' status → IsDrawn x x' status
  drawn : (script : ScriptValue) → IsWhole x x' status script → IsDrawn x x' status
  cut_off : (script : ScriptValue) → IsDrawnInPart x x' status script → IsDrawn x x' status
