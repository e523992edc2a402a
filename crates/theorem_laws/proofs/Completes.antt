-- A command's status is 0 if and only if its answer is the one of success and was printed whole.
use Rattle.std.proofs.Common.{◌≡◌, inl, inr, ℕ, Bool, true, false, cond, Option, List, [], refl, sym, ap, ◌∙◌, subst}
use Rattle.std.proofs.lemmas.Bool.{false≢true}
use Rattle.page_core.specs.declared.format.Format.{Format}
use Rattle.dump_file.specs.Written.{dump_bytes}
use Rattle.plain_machine.specs.Replies.{line_of}
use Rattle.plain_machine.specs.Machine.{Hardware, Memory}
use Rattle.plain_machine.specs.declared.event.IdentCheck.{IdentCheck}
use Rattle.plain_machine.specs.declared.reply.Reply.{Reply}
use Rattle.plain_machine.specs.declared.reply.Reply.TheVariants as reply
use Rattle.sector_disk.specs.declared.disk.Disk.{Ghosts}
use Rattle.command_core.specs.declared.ending.Ended.{Ended}
use Rattle.command_kit.specs.Told.{IsPrinted, RunResult, memory_told, unparsed}
use Rattle.command_kit.specs.View.{View}
use Rattle.command_kit.specs.declared.status.Status.{Status}
use Rattle.command_kit.specs.declared.status.Status.TheVariants as status
use Rattle.swsusp_cli.specs.Dumps as dumps
use Rattle.swsusp_cli.specs.Dumps.{Hibernates, HasAnswered, dump_told, hibernation_told, is_hibernated, stopped_told}
use Rattle.swsusp_cli.specs.Loads as loads
use Rattle.swsusp_cli.specs.Loads.{Resumes, HasLoaded, is_resumed, resume_told, written_told}
use Rattle.swsusp_cli.specs.Drills as drills
use Rattle.swsusp_cli.specs.Drills.{IsDrilled, summary_told}
use Rattle.swsusp_cli.specs.Exports as exports
use Rattle.swsusp_cli.specs.Exports.{Exports, slots_told, stream_told}
use Rattle.swsusp_cli.specs.Imports as imports
use Rattle.swsusp_cli.specs.Imports.{Imports, imported_told, stop_told}
use Rattle.swsusp_cli.specs.Outcome as outcome
use Rattle.swsusp_cli.specs.Outcome.{IsReplayed, IsUnplayed, Tells, fault_told, small_told, unformatted_told}
use Rattle.swsusp_cli.specs.Run.{Inspects, Refuses}
use Rattle.stream_in.specs.declared.stop.InStop.{InStop}
use Rattle.stream_in.specs.declared.stop.InStop.TheVariants as stop
use Rattle.theorem_laws.specs.Completes.{HasSaved, HasRestored, HasExported, HasImported, HasReplayed, HasDrilled, HasInspected}

stream_no_done : status.Stream ≡ status.Done → ⊥
stream_no_done same = cc

-- if the status is 0, so is the answer's own, and out took its text whole
own_done : (told : RunResult) (ends : Status) (x x' : View) → Tells told ends x x' → ends ≡ status.Done → (told.status ≡ status.Done) × IsPrinted told.out x.out x'.out
own_done told ends x x' (inl whole) is = (sym whole.status_is ∙ is, whole.out_whole)
own_done told ends x x' (inr cut) is = absurd (stream_no_done (sym cut.status_is ∙ is))

stopped_no_done : (failed : Bool) → cond failed status.Device status.Refused ≡ status.Done → ⊥
stopped_no_done true same = cc
stopped_no_done false same = cc

is_hibernated_by : (r : Reply) → is_hibernated r ≡ true → (n : ℕ) × (r ≡ reply.Hibernated n)
is_hibernated_by (reply.Hibernated n) is = (n, refl)
is_hibernated_by _ is = absurd (false≢true is)

is_resumed_by : (r : Reply) → is_resumed r ≡ true → (n : ℕ) × (r ≡ reply.Resumed n)
is_resumed_by (reply.Resumed n) is = (n, refl)
is_resumed_by _ is = absurd (false≢true is)

no_done : (told : RunResult) (ends : Status) (x x' : View) → Tells told ends x x' → (told.status ≡ status.Done → ⊥) → ends ≡ status.Done → ⊥
no_done told ends x x' tells other is = other (own_done told ends x x' tells is).0

stop_no_done : (why : InStop) → (stop_told why).status ≡ status.Done → ⊥
stop_no_done stop.NoMemory same = cc
stop_no_done (stop.NoSwap why) same = cc
stop_no_done (stop.NoSlots free need) same = cc
stop_no_done (stop.Stream fault) same = cc
stop_no_done (stop.ReadFault left) same = cc
stop_no_done (stop.WriteFault left) same = cc
stop_no_done (stop.SyncFault left) same = cc

-- which answer is printed, by a test of the reply
saved_by : (ended : Ended) (test : Bool) → is_hibernated ended.reply ≡ test → (hibernation_told ended).status ≡ status.Done → (is_hibernated ended.reply ≡ true) × ((hibernation_told ended).out ≡ line_of ended.reply)
saved_by ended true is done = (is, ap (λ (b : Bool). (cond b (record { status = status.Done; out = line_of ended.reply; note = [] }) (stopped_told ended)).out) is)
saved_by ended false is done =
    absurd (stopped_no_done ended.failed (sym (ap (λ (b : Bool). (cond b (record { status = status.Done; out = line_of ended.reply; note = [] }) (stopped_told ended)).status) is) ∙ done))

restored_by_test : (h : Hardware) (m : Memory) (ended : Ended) (test : Bool) → is_resumed ended.reply ≡ test → (resume_told h m ended).status ≡ status.Done → (is_resumed ended.reply ≡ true) × ((resume_told h m ended).out ≡ dump_bytes h m)
restored_by_test h m ended true is done = (is, ap (λ (b : Bool). (cond b (written_told h m) (stopped_told ended)).out) is)
restored_by_test h m ended false is done =
    absurd (stopped_no_done ended.failed (sym (ap (λ (b : Bool). (cond b (written_told h m) (stopped_told ended)).status) is) ∙ done))

module _ {X : Type 0} (D : Ghosts X) (before after : X) (x x' : View) (ends : Status) (done : ends ≡ status.Done) where
  pub hibernation_completes : (f : Format) (size : Option ℕ) → Hibernates D before after f size x x' ends → HasSaved D before after f size x x' ends
  hibernation_completes f size (dumps.no_dump fault is same) = absurd (no_done (dump_told fault) ends x x' is.told (λ e. cc) done)
  hibernation_completes f size (dumps.out_of_memory is same) = absurd (no_done memory_told ends x x' is.told (λ e. cc) done)
  hibernation_completes f size (dumps.unread is same) = absurd (stream_no_done (sym is.status_is ∙ done))
  hibernation_completes f size (dumps.answered dump ended is) =
      let own = own_done (hibernation_told ended) ends x x' is.told done in
      let saved = saved_by ended (is_hibernated ended.reply) refl own.0 in
      record {
        dump = dump;
        ended = ended;
        answered = is;
        saved = is_hibernated_by ended.reply saved.0;
        printed = subst (λ (text : List ℕ). IsPrinted text x.out x'.out) saved.1 own.1;
      }

  pub resume_completes : (check : IdentCheck) → Resumes D before after check x x' ends → HasRestored D before after check x x' ends
  resume_completes check (loads.no_dump fault is same) = absurd (no_done (dump_told fault) ends x x' is.told (λ e. cc) done)
  resume_completes check (loads.out_of_memory is same) = absurd (no_done memory_told ends x x' is.told (λ e. cc) done)
  resume_completes check (loads.unread is same) = absurd (stream_no_done (sym is.status_is ∙ done))
  resume_completes check (loads.answered dump ended is) =
      let own = own_done (resume_told dump.hw is.shown.frames ended) ends x x' is.told done in
      let restored = restored_by_test dump.hw is.shown.frames ended (is_resumed ended.reply) refl own.0 in
      record {
        dump = dump;
        ended = ended;
        loaded = is;
        restored = is_resumed_by ended.reply restored.0;
        printed = subst (λ (text : List ℕ). IsPrinted text x.out x'.out) restored.1 own.1;
      }

  pub export_completes : Exports x x' ends → HasExported x x' ends
  export_completes (exports.no_dump fault is) = absurd (no_done (dump_told fault) ends x x' is.told (λ e. cc) done)
  export_completes (exports.out_of_memory is) = absurd (no_done memory_told ends x x' is.told (λ e. cc) done)
  export_completes (exports.unread is) = absurd (stream_no_done (sym is.status_is ∙ done))
  export_completes (exports.in_use dump slot is) = absurd (no_done (slots_told slot) ends x x' is.told (λ e. cc) done)
  export_completes (exports.exported dump is) = record { dump = dump; exported = is; printed = (own_done (stream_told dump.hw dump.memory) ends x x' is.told done).1 }

  pub import_completes : Imports x x' ends → HasImported x x'
  import_completes (imports.imported n is told) = record { saved = n; imported = is; printed = (own_done (imported_told n) ends x x' told done).1 }
  import_completes (imports.stopped why is told) = absurd (no_done (stop_told why) ends x x' told (stop_no_done why) done)
  import_completes (imports.unread is) = absurd (stream_no_done (sym is.status_is ∙ done))

  unplayed_fails : IsUnplayed x x' ends → ⊥
  unplayed_fails (outcome.no_script fault is) = no_done (fault_told fault) ends x x' is.told (λ e. cc) done
  unplayed_fails (outcome.out_of_memory is) = no_done memory_told ends x x' is.told (λ e. cc) done
  unplayed_fails (outcome.unread is) = stream_no_done (sym is.status_is ∙ done)
  unplayed_fails (outcome.too_small script of is) = no_done (small_told x.disk.blocks is.need) ends x x' is.told (λ e. cc) done
  unplayed_fails (outcome.unformatted script call of is) = no_done (unformatted_told call) ends x x' is.told (λ e. cc) done

  pub replay_completes : IsReplayed x x' ends → HasReplayed x x' ends
  replay_completes (outcome.unplayed is) = absurd (unplayed_fails is)
  replay_completes (outcome.played script is) = record { script = script; played = is }
  replay_completes (outcome.cut_off script is) = absurd (stream_no_done (sym is.status_is ∙ done))

  pub drill_completes : (number : ℕ) → IsDrilled number x x' ends → HasDrilled number x x' ends
  drill_completes number (drills.out_of_memory is) = absurd (no_done memory_told ends x x' is.told (λ e. cc) done)
  drill_completes number (drills.too_small is) = absurd (no_done (small_told x.disk.blocks is.need) ends x x' is.told (λ e. cc) done)
  drill_completes number (drills.unformatted call is) = absurd (no_done (unformatted_told call) ends x x' is.told (λ e. cc) done)
  drill_completes number (drills.summed is) = record { summed = is; printed = (own_done (summary_told number is.replies) ends x x' is.told done).1 }

  pub inspection_completes : (offset : ℕ) → Inspects offset x x' ends → HasInspected offset x x' ends
  inspection_completes offset (inl is) = record { inspected = is; printed = (own_done is.answer ends x x' is.told done).1 }
  inspection_completes offset (inr is) = absurd (no_done memory_told ends x x' is.told (λ e. cc) done)

  -- words that don't parse never end with status 0
  pub refusal_completes : Refuses x x' ends → ⊥
  refusal_completes (inl is) = no_done (unparsed is.text) ends x x' is.told (λ e. cc) done
  refusal_completes (inr is) = no_done memory_told ends x x' is.told (λ e. cc) done
