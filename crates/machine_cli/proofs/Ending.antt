-- Whether the machine runs at the end of a script.
use Rattle.std.proofs.Common.{◌≡◌, ◌≢◌, List, sym, ap, ◌∙◌, subst}
use Rattle.std.specs.Option.{IfSome}
use Rattle.definitions.specs.Disk as disk
use Rattle.plain_machine.specs.Machine.{Hardware, Memory, IsSameMemory}
use Rattle.plain_machine.specs.Shows.{runs, activity_in, seen_frames}
use Rattle.plain_machine.specs.State.{State}
use Rattle.plain_machine.specs.declared.reply.Reply.{Reply}
use Rattle.script.specs.Grammar.{ScriptValue}
use Rattle.world_core.specs.declared.world.Core.TheVariants.{Running as Runs}
use Rattle.world_core.specs.StandsFor.{StandsFor, hardware_of}
use Rattle.world_core.specs.World.{World}
use Rattle.world_core.proofs.Cases.{activity_by, activity_for, at_run}
use Rattle.world_core.proofs.TaskRows.{on_parts}
use Rattle.command_kit.specs.View.{View}
use Rattle.swsusp_cli.specs.Beginning.{HasBegun}
use Rattle.swsusp_cli.specs.Playing.{HasPlayed}
use Rattle.swsusp_cli.proofs.Begun.{script_begun, with_sinks}
use Rattle.swsusp_cli.proofs.Replays.{replies_of, stands_at_end}
use Rattle.machine_cli.specs.Made.{HasPlayedTo, RunsNot, RunsWith}

-- a world that runs stands for a machine that runs, with the memory that its page frames show
pub runs_with : (w : World) (c : disk.Content) (end : State) (h : Hardware) (m : Memory) → w.core ≡ Runs → hardware_of w ≡ h → m ≡ seen_frames (hardware_of w) w.frames → StandsFor w c end → RunsWith h m end
runs_with w c end h m core hw frames stands =
    let run = at_run end (sym (activity_by w Runs core) ∙ activity_for w c end stands) in
    let parts = on_parts w c run.0 (subst (StandsFor w c) run.1 stands) in
    (run.0, run.1, subst (λ (g : Hardware). IsSameMemory g run.0.memory m) hw (subst (IsSameMemory (hardware_of w) run.0.memory) (sym frames) parts.memory.same))

-- a world that doesn't run stands for no machine that runs
pub runs_not : (w : World) (c : disk.Content) (end : State) → ((c : disk.Content) (a : State) → StandsFor w c a → activity_in a ≢ runs) → StandsFor w c end → RunsNot end
runs_not w c end idle stands a e = idle c end stands (ap activity_in e)

-- Events that were played by a machine that has begun end in what the world stands for.
pub has_played : {x mid : View} {script : ScriptValue} {old : World} (begun : HasBegun x mid script old) (x' : View) (new : World) (replies : List Reply) → x'.left ≡ mid.left →
    IfSome x.disk.content (disk.IsContent x.disk.blocks) → IfSome mid.disk.content (disk.IsContent mid.disk.blocks) → HasPlayed old new script.events replies mid.disk x'.disk → hardware_of new ≡ hardware_of old →
    (Ends : State → Type 0) → ((c : disk.Content) (end : State) → StandsFor new c end → Ends end) → HasPlayedTo (with_sinks x mid) x' script Ends
has_played {x} {mid} {script} {old} begun x' new replies same whole whole_mid was_played hw Ends ends =
    let are = replies_of script old new script.events replies x.disk mid.disk x'.disk whole whole_mid begun.set_up begun.new begun.few_bad was_played hw in
    record {
      script_is = script_begun begun x' same;
      roomy = begun.set_up.roomy;
      replies = replies;
      are = are;
      ends = λ c told.
          let run = are.run c told in
          ends run.held run.end (stands_at_end script old new script.events replies x.disk mid.disk x'.disk whole whole_mid begun.set_up begun.new begun.few_bad was_played hw c told);
    }
