-- From a script that has begun to what its command does.
use Rattle.std.proofs.Common.{◌≡◌, ◌⊎◌, ℕ, List, subst, sym}
use Rattle.std.specs.Option.{IfSome}
use Rattle.definitions.specs.Disk as disk
use Rattle.definitions.specs.Streams.{IsUsedUp}
use Rattle.plain_machine.specs.declared.event.Event.{Event}
use Rattle.plain_machine.specs.declared.reply.Reply.{Reply}
use Rattle.script.specs.Grammar.{ScriptValue}
use Rattle.world_core.specs.StandsFor.{hardware_of}
use Rattle.world_core.specs.World.{World}
use Rattle.command_kit.specs.Causes.{HasCause}
use Rattle.command_kit.specs.declared.status.Status.{Status}
use Rattle.command_kit.specs.View.{DiskView, SinkView, View}
use Rattle.swsusp_cli.specs.Beginning.{HasBegun}
use Rattle.swsusp_cli.specs.Outcome.{IsScript}
use Rattle.swsusp_cli.specs.Playing.{HasPlayed}
use Rattle.swsusp_cli.specs.Replay.{AreReplies}
use Rattle.swsusp_cli.proofs.Replays.{replies_of}

-- the outside before the script was read, with the sinks as they were after it
abbrev pub with_sinks : View → View → View
with_sinks x mid = record { left = x.left; read_faults = x.read_faults; disk = x.disk; out = mid.out; note = mid.note }

-- the world as it is lent
pub begun_by : {x mid : View} {script : ScriptValue} {world lent : World} → lent ≡ world → HasBegun x mid script world → HasBegun x mid script lent
begun_by {x} {mid} {script} is begun = subst (λ (w : World). HasBegun x mid script w) (sym is) begun

module _ {x mid : View} {script : ScriptValue} {world : World} (begun : HasBegun x mid script world) where
  -- no sink was called, so what is said from the sinks on holds from the beginning
  pub since_begun : (P : View → Type 0) → P (with_sinks x mid) → P x
  since_begun P is =
      subst (λ (note : SinkView). P (record { left = x.left; read_faults = x.read_faults; disk = x.disk; out = x.out; note = note })) begun.note
      (subst (λ (out : SinkView). P (record { left = x.left; read_faults = x.read_faults; disk = x.disk; out = out; note = mid.note })) begun.out is)

  -- so what a status blames from then on it blames from the beginning
  pub cause_begun : {read device : Type 0} {out note : ℕ} {status : Status} → HasCause (read ⊎ disk.HasRisen mid.out.faults out ⊎ disk.HasRisen mid.note.faults note) device status →
      HasCause (read ⊎ disk.HasRisen x.out.faults out ⊎ disk.HasRisen x.note.faults note) device status
  cause_begun {read} {device} {out} {note} {status} cause =
      since_begun (λ (v : View). HasCause (read ⊎ disk.HasRisen v.out.faults out ⊎ disk.HasRisen v.note.faults note) device status) cause

  -- nothing more is read
  pub script_begun : (x' : View) → x'.left ≡ mid.left → IsScript (with_sinks x mid) x' script
  script_begun x' same = record { says = begun.script_is.says; over = subst IsUsedUp (sym same) begun.script_is.over; few = begun.script_is.few }

  pub replies_begun : (new : World) (events : List Event) (replies : List Reply) (now : DiskView) → IfSome x.disk.content (disk.IsContent x.disk.blocks) → IfSome mid.disk.content (disk.IsContent mid.disk.blocks) →
      HasPlayed world new events replies mid.disk now → hardware_of new ≡ hardware_of world → AreReplies x.disk now script events replies
  replies_begun new events replies now whole whole_mid was_played hw = replies_of script world new events replies x.disk mid.disk now whole whole_mid begun.set_up begun.new begun.few_bad was_played hw
