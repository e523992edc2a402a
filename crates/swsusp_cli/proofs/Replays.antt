-- From events played over a formatted disk to a run of the plain machine.
use Rattle.std.proofs.Common.{◌≡◌, ◌⊎◌, inl, inr, ◌≤◌, ◌<◌, ℕ, ◌+◌, List, ◌++◌, length, take, Some, None, refl, sym, ap, ◌∙◌, subst, arith}
use Rattle.std.proofs.Math.Nat.{min-le_left}
use Rattle.std.proofs.lemmas.List.{take_all}
use Rattle.std.proofs.lemmas.List.Sums.{count_by-le-length, length-filter}
use Rattle.std.specs.Option.{IfSome}
use Rattle.definitions.specs.Disk as disk
use Rattle.definitions.specs.Streams.{TakesAll}
use Rattle.plain_machine.specs.Machine.{Hardware, IsHardware}
use Rattle.plain_machine.specs.Replies.{text_of}
use Rattle.plain_machine.specs.Stands.{Stands}
use Rattle.plain_machine.specs.State.{State, off, nothing}
use Rattle.plain_machine.specs.Step.{Run}
use Rattle.plain_machine.specs.declared.event.Event.{Event}
use Rattle.plain_machine.specs.declared.reply.Reply.{Reply}
use Rattle.protocol_laws.specs.Rows.{LeavesBlock}
use Rattle.script.specs.Grammar.{ScriptValue}
use Rattle.sector_disk.specs.declared.orders.Order.{Order}
use Rattle.world_core.specs.StandsFor.{StandsFor, IsNewWorld, hardware_of, shown}
use Rattle.world_core.specs.World.{World}
use Rattle.swsusp_cli.specs.Replay.{Formats, LieBelow}
use Rattle.command_kit.specs.Told.{done}
use Rattle.swsusp_cli.specs.Outcome.{IsScript, IsReplayed, IsTooSmall, IsUnformatted, IsUnplayed, Tells, too_small, unformatted, played, cut_off, small_told, unformatted_told}
use Rattle.swsusp_cli.specs.Playing.{HasPlayed, Played}
use Rattle.swsusp_cli.specs.Replay.{orders_of, IsRun, IsNoSlot, AreReplies, Prints}
use Rattle.command_core.specs.Turns.{is_step, steps_of}
use Rattle.swsusp_cli.specs.SettingUp.{FailsToSetUp, HasTooFew, IsNotSetUp, IsSetUp, IsFailedCall as IsOfCall, unready_told}
use Rattle.command_kit.specs.Told.{AreFronts, IsTold, IsTried, sink_note}
use Rattle.command_kit.specs.View.{View, DiskView, SinkView}
use Rattle.swsusp_cli.specs.declared.formatting.Unformatted.{Unformatted}
use Rattle.swsusp_cli.specs.declared.setting_up.Unready.{Unready}
use Rattle.swsusp_cli.specs.declared.setting_up.Unready.TheVariants.{Small, Unformatted as NotFormatted}
use Rattle.command_kit.specs.declared.status.Status.{Status}
use Rattle.command_core.proofs.Leaving.{leaves_then}
use Rattle.swsusp_cli.proofs.Formatted.{CanFormat, formatted_unmarked, formats_leaves}
use Rattle.swsusp_cli.proofs.Prints.{printed_then, whole_still, fails_early}
use Rattle.command_core.proofs.Counted.{counted_earlier, risen_earlier}
use Rattle.swsusp_cli.proofs.Turns.{whole_of}
use Rattle.protocol_laws.proofs.Told.{changed}

pub small_disk : (x x' : View) (status : Status) (script : ScriptValue) (blocks need : ℕ) → HasTooFew script x.disk x'.disk blocks need → Tells (small_told blocks need) status x x' → IsTooSmall x x' status script
small_disk x x' status script blocks need few told = record {
  need = need;
  needed = few.needed;
  small = few.small;
  told = subst (λ (b : ℕ). Tells (small_told b need) status x x') few.has told;
  untouched = few.untouched;
}

pub not_formatted : (x x' : View) (status : Status) (script : ScriptValue) (call : Unformatted) → FailsToSetUp script x.disk x'.disk call → Tells (unformatted_told call) status x x' → IsUnformatted x x' status script call
not_formatted x x' status script call fails told = record {
  roomy = fails.roomy;
  told = told;
  risen = fails.risen;
  calls = fails.calls;
  content = fails.content;
  orders = fails.orders;
}

-- what the events lead to, from the area as it was formatted
played_from : (script : ScriptValue) (old new : World) (events : List Event) (replies : List Reply) (before between now : DiskView) (c : disk.Content) (told : before.content ≡ Some c) → disk.IsContent before.blocks c →
    CanFormat script before.blocks → IsNewWorld script.hardware None old → (formats : disk.Changes (Formats script.hardware script.last script.bad) before.content between.content) →
    HasPlayed old new events replies between now →
    (c' : disk.Content) × (b : State) × Played old new events now.content (changed (Formats script.hardware script.last script.bad) before.content between.content c told formats).0 c' (off nothing None) b replies
played_from script old new events replies before between now c told whole can fresh formats was_played =
    let h = script.hardware in
    let formatted = changed (Formats h script.last script.bad) before.content between.content c told formats in
    let c1 = formatted.0 in
    let mid = formatted.2.0 in
    let v = disk.as_it_reads mid in
    let start : StandsFor old c1 (off nothing None) =
    subst (λ (x : disk.Content). StandsFor old x (off nothing None)) (sym formatted.2.2)
    (fresh.unmarked v (formatted_unmarked h script.last script.bad before.blocks c mid whole can.header can.few formatted.2.1)) in
    was_played.run c1 (off nothing None) formatted.1 start (tt, refl)

run_formatted : (script : ScriptValue) (old new : World) (events : List Event) (replies : List Reply) (before between now : DiskView) (c : disk.Content) → before.content ≡ Some c → disk.IsContent before.blocks c →
    IfSome between.content (disk.IsContent between.blocks) → CanFormat script before.blocks → IsNewWorld script.hardware None old →
    disk.Changes (Formats script.hardware script.last script.bad) before.content between.content →
    HasPlayed old new events replies between now → hardware_of new ≡ hardware_of old → IsRun before now script events replies c
run_formatted script old new events replies before between now c told whole whole_between can fresh formats was_played hw =
    let h = script.hardware in
    let formatted = changed (Formats h script.last script.bad) before.content between.content c told formats in
    let c1 = formatted.0 in
    let end = played_from script old new events replies before between now c told whole can fresh formats was_played in
    let was = end.2 in
    let kept : (b : ℕ) → IsNoSlot (hardware_of old) b → LeavesBlock b c1 end.0 =
    was.unwritten (subst (λ (g : Hardware). 0 < g.slots) (sym fresh.hardware) can.some_slots) in
    let run : Run h (disk.as_it_reads c1) (off nothing None) events replies end.1 =
    subst (λ (g : Hardware). Run g (disk.as_it_reads c1) (off nothing None) events replies end.1) fresh.hardware was.run in
    record {
      formatted = c1;
      formats = formatted.2;
      end = end.1;
      run = run;
      shown = shown new;
      held = end.0;
      told = was.told;
      stands = subst (λ (g : Hardware). Stands g (shown new) end.0 end.1) (hw ∙ fresh.hardware) was.stands.stands;
      unwritten = λ b none.
          leaves_then between.blocks b c c1 end.0 (whole_of between.blocks between.content c1 formatted.1 whole_between)
          (formats_leaves h before.blocks script.last script.bad b c c1 whole formatted.2 (λ e. none 0 can.some_slots (sym e)))
          (kept b (subst (λ (g : Hardware). IsNoSlot g b) (sym fresh.hardware) none));
    }

-- a format's two calls, and at most `steps` more
calls_within : (before between after steps : ℕ) → between ≡ disk.raised (disk.raised before) → after ≤ between + steps → after ≤ before + 2 + steps
calls_within before between after steps two more = omega (arith, min-le_left (before + 1) disk.last_count, min-le_left (disk.raised before + 1) disk.last_count)

can_format : (script : ScriptValue) (blocks : ℕ) → IsHardware script.hardware → LieBelow script.hardware blocks → length script.bad ≤ 630 → CanFormat script blocks
can_format script blocks hw roomy few = let some = hw.some_slots in record { some_slots = omega arith; header = roomy 0 (omega arith); few = few }

pub replies_of : (script : ScriptValue) (old new : World) (events : List Event) (replies : List Reply) (before between now : DiskView) → IfSome before.content (disk.IsContent before.blocks) →
    IfSome between.content (disk.IsContent between.blocks) → IsSetUp script before between → IsNewWorld script.hardware None old → length script.bad ≤ 630 → HasPlayed old new events replies between now →
    hardware_of new ≡ hardware_of old → AreReplies before now script events replies
replies_of script old new events replies before between now whole whole_between set fresh few was_played hw = record {
  size = was_played.size;
  calls = calls_within before.calls between.calls now.calls (steps_of events) set.calls was_played.calls;
  orders = was_played.orders ∙ ap (λ (l : List Order). l ++ orders_of events) set.orders;
  faults = counted_earlier replies before.faults between.faults now.faults set.faults was_played.faults;
  run = λ c told. run_formatted script old new events replies before between now c told (whole_of before.blocks before.content c told whole) whole_between (can_format script before.blocks set.hardware set.roomy few) fresh set.formats was_played hw;
}

-- the world that played stands for the state where the run ends
pub stands_at_end : (script : ScriptValue) (old new : World) (events : List Event) (replies : List Reply) (before between now : DiskView) (whole : IfSome before.content (disk.IsContent before.blocks)) (whole_between : IfSome between.content (disk.IsContent between.blocks))
    (set : IsSetUp script before between) (fresh : IsNewWorld script.hardware None old) (few : length script.bad ≤ 630) (was_played : HasPlayed old new events replies between now) (hw : hardware_of new ≡ hardware_of old)
    (c : disk.Content) (told : before.content ≡ Some c) →
    let run = (replies_of script old new events replies before between now whole whole_between set fresh few was_played hw).run c told in StandsFor new run.held run.end
unfolding replies_of run_formatted
stands_at_end script old new events replies before between now whole whole_between set fresh few was_played hw c told =
    let can = can_format script before.blocks set.hardware set.roomy few in
    (played_from script old new events replies before between now c told (whole_of before.blocks before.content c told whole) can fresh set.formats was_played).2.stands

-- a device fault is told where a call of the disk failed
pub risen_of : (script : ScriptValue) (x x' : DiskView) (why : Unready) → IsNotSetUp script x x' why → IsOfCall why → disk.HasRisen x.faults x'.faults
risen_of script x x' (Small blocks need) is of_call = absurd of_call
risen_of script x x' (NotFormatted call) is of_call = is.risen

-- A script whose machine isn't set up, as it is told.
pub not_set_up : (x x' : View) (status : Status) (script : ScriptValue) (why : Unready) → IsScript x x' script → IsNotSetUp script x.disk x'.disk why → Tells (unready_told why) status x x' → IsUnplayed x x' status
not_set_up x x' status script (Small blocks need) is few told = too_small script is (small_disk x x' status script blocks need few told)
not_set_up x x' status script (NotFormatted call) is fails told = unformatted script call is (not_formatted x x' status script call fails told)

-- there are at most as many steps as events
pub steps_few : (events : List Event) (n : ℕ) → length events ≤ n → steps_of events ≤ n
steps_few events n few = let count = length-filter is_step events in let part = count_by-le-length is_step events in omega arith

-- All events were played, and the ends of the texts are printed, or a sink fails there.
pub played_whole : (x x' : View) (status : Status) (script : ScriptValue) (mid : SinkView) (replies : List Reply) → IsScript x x' script → LieBelow script.hardware x.disk.blocks → AreReplies x.disk x'.disk script script.events replies →
    TakesAll (text_of replies) x.out.taken mid.taken → x.out.faults ≤ mid.faults → IsTold done status mid x'.out x.note x'.note → IsReplayed x x' status
played_whole x x' status script mid replies script_is roomy are taken later (inl whole) = played script (record {
  script_is = script_is;
  roomy = roomy;
  status_is = whole.status_is;
  prints = (replies, are, printed_then (text_of replies) x.out mid x'.out taken whole.out_whole);
  note = whole.note_whole;
})
played_whole x x' status script mid replies script_is roomy are taken later (inr short) = by_sink short.fronts where
  all : take (length script.events) script.events ≡ script.events
  all = take_all (length script.events) script.events (omega arith)

  ended : TakesAll (text_of replies) x.out.taken x'.out.taken → IsTried sink_note x.note x'.note →
      disk.HasRisen x.out.faults x'.out.faults ⊎ (Prints script x x' × disk.HasRisen x.note.faults x'.note.faults) → IsReplayed x x' status
  ended whole note whose = cut_off script (record {
    script_is = script_is;
    roomy = roomy;
    status_is = short.status_is;
    prints = (length script.events, replies, subst (λ (events : List Event). AreReplies x.disk x'.disk script events replies) (sym all) are, inl whole);
    whose = whose;
    note = note;
  })

  by_sink : AreFronts done mid x'.out x.note x'.note → IsReplayed x x' status
  by_sink (inl out) =
      ended (whole_still (text_of replies) x.out mid x'.out taken out.0) out.1
      (inl (risen_earlier x.out.faults mid.faults x'.out.faults later out.0.risen))
  by_sink (inr note) =
      let printed = printed_then (text_of replies) x.out mid x'.out taken note.0 in
      ended printed.whole (inr (fails_early sink_note x.note x'.note note.1)) (inr ((replies, are, printed), note.1.risen))
