-- Texts that are printed, and what is after them.
use Rattle.std.proofs.Common.{◌≡◌, zero, suc, ◌≢◌, inl, inr, ◌≤◌, ℕ, List, [], Option, Some, None, Result, Ok, Err, OnOk, OnErr, subst, arith, append-nil}
use Rattle.definitions.specs.Streams.{Takes, TakesAll, TakesFront}
use Rattle.byte_streams.specs.Flushed.{IsFlushed}
use Rattle.command_kit.specs.Told.{RunResult, memory_told}
use Rattle.swsusp_cli.specs.Outcome.{IsReplayed, IsUnplayed, no_script, out_of_memory, unread, too_small, unformatted, unplayed, played, cut_off, fault_told, small_told, unformatted_told}
use Rattle.page_core.specs.declared.format.Format.{Format}
use Rattle.plain_machine.specs.declared.event.IdentCheck.{IdentCheck}
use Rattle.swsusp_cli.specs.Dumps as dumps
use Rattle.sector_disk.specs.declared.disk.Disk.{Ghosts}
use Rattle.swsusp_cli.specs.Dumps.{Hibernates, dump_told, hibernation_told}
use Rattle.swsusp_cli.specs.Exports as exports
use Rattle.swsusp_cli.specs.Exports.{Exports, slots_told, stream_told}
use Rattle.swsusp_cli.specs.Imports as imports
use Rattle.swsusp_cli.specs.Imports.{Imports, imported_told, stop_told}
use Rattle.swsusp_cli.specs.Loads as loads
use Rattle.swsusp_cli.specs.Loads.{Resumes, resume_told}
use Rattle.command_kit.specs.Told.{IsPrinted, FailsToPrint, IsTold, IsTried}
use Rattle.command_kit.specs.View.{SinkView, View}
use Rattle.command_kit.specs.declared.status.Status.{Status}
use Rattle.command_kit.specs.declared.status.Status.TheVariants.{Stream}
use Rattle.swsusp_cli.proofs.Turns.{taken_more}

pub tried : {A E : Type 0} (r : Result A E) (text : List ℕ) (old new : SinkView) → OnOk r (IsPrinted text old new) → OnErr r (FailsToPrint text old new) → IsTried text old new
tried (Ok x) text old new printed failed = inl printed
tried (Err e) text old new printed failed = inr failed

-- a text was taken whole, and the end after it is printed, or fails
pub printed_then : (text : List ℕ) (old mid new : SinkView) → TakesAll text old.taken mid.taken → IsPrinted [] mid new → IsPrinted text old new
printed_then text old mid new whole end = record {
  whole = subst (λ (t : List ℕ). TakesAll t old.taken new.taken) (append-nil text) (taken_more text [] old.taken mid.taken new.taken whole end.whole);
  flushed = end.flushed;
}

-- a sink that fails before the first byte has taken a front of any text
no_bytes : (k : ℕ) (text : List ℕ) (old new : Option (List ℕ)) → k ≤ 0 → Takes k [] old new → Takes 0 text old new
no_bytes zero text None None le taken = tt
no_bytes zero text None (Some new) le taken = taken
no_bytes zero text (Some old) None le taken = taken
no_bytes zero text (Some old) (Some new) le taken = taken
no_bytes (suc k) text old new le taken = absurd (omega arith)

whole_then : (text : List ℕ) (old mid new : Option (List ℕ)) → TakesAll text old mid → TakesFront [] mid new → TakesAll text old new
whole_then text old mid new whole end = subst (λ (t : List ℕ). TakesAll t old new) (append-nil text) (taken_more text [] old mid new whole (no_bytes end.0 [] mid new end.1 end.2))

-- a flush that fails after a text leaves the text
pub whole_still : (text : List ℕ) (old mid new : SinkView) → TakesAll text old.taken mid.taken → FailsToPrint [] mid new → TakesAll text old.taken new.taken
whole_still text old mid new whole end = whole_then text old.taken mid.taken new.taken whole end.front

pub fails_early : (text : List ℕ) (old new : SinkView) → FailsToPrint [] old new → FailsToPrint text old new
fails_early text old new end = record {
  front = (0, omega arith, no_bytes end.front.0 text old.taken new.taken end.front.1 end.front.2);
  risen = end.risen;
}

-- But where a sink failed all is flushed.

abbrev pub AreFlushed : SinkView → SinkView → Type 0
AreFlushed out note = IsFlushed out.taken out.flushed × IsFlushed note.taken note.flushed

-- the result of an answer, by what the answer is
pub told_as : {told named : RunResult} {status : Status} {out out' note note' : SinkView} → told ≡ named → IsTold told status out out' note note' → IsTold named status out out' note note'
told_as {status = status} {out = out} {out' = out'} {note = note} {note' = note'} is tells = subst (λ (t : RunResult). IsTold t status out out' note note') is tells

pub told_flushed : (told : RunResult) (status : Status) (out out' note note' : SinkView) → IsTold told status out out' note note' → status ≢ Stream → AreFlushed out' note'
told_flushed told status out out' note note' (inl whole) well = (whole.out_whole.flushed, whole.note_whole.flushed)
told_flushed told status out out' note note' (inr short) well = absurd (well short.status_is)

unplayed_flushed : (x x' : View) (status : Status) → IsUnplayed x x' status → status ≢ Stream → AreFlushed x'.out x'.note
unplayed_flushed x x' status (no_script fault is) well = told_flushed (fault_told fault) status x.out x'.out x.note x'.note is.told well
unplayed_flushed x x' status (out_of_memory is) well = told_flushed memory_told status x.out x'.out x.note x'.note is.told well
unplayed_flushed x x' status (unread is) well = absurd (well is.status_is)
unplayed_flushed x x' status (too_small script of is) well = told_flushed (small_told x.disk.blocks is.need) status x.out x'.out x.note x'.note is.told well
unplayed_flushed x x' status (unformatted script call of is) well = told_flushed (unformatted_told call) status x.out x'.out x.note x'.note is.told well

pub replay_flushed : (x x' : View) (status : Status) → IsReplayed x x' status → status ≢ Stream → AreFlushed x'.out x'.note
replay_flushed x x' status (unplayed is) well = unplayed_flushed x x' status is well
replay_flushed x x' status (played script is) well = (is.prints.2.flushed, is.note.flushed)
replay_flushed x x' status (cut_off script is) well = absurd (well is.status_is)

pub hibernates_flushed : {X : Type 0} (D : Ghosts X) (before after : X) (f : Format) (size : Option ℕ) (x x' : View) (status : Status) → Hibernates D before after f size x x' status → status ≢ Stream → AreFlushed x'.out x'.note
hibernates_flushed D before after f size x x' status (dumps.no_dump fault is untouched) well = told_flushed (dump_told fault) status x.out x'.out x.note x'.note is.told well
hibernates_flushed D before after f size x x' status (dumps.out_of_memory is untouched) well = told_flushed memory_told status x.out x'.out x.note x'.note is.told well
hibernates_flushed D before after f size x x' status (dumps.unread is untouched) well = absurd (well is.status_is)
hibernates_flushed D before after f size x x' status (dumps.answered dump ended is) well = told_flushed (hibernation_told ended) status x.out x'.out x.note x'.note is.told well

pub resumes_flushed : {X : Type 0} (D : Ghosts X) (before after : X) (check : IdentCheck) (x x' : View) (status : Status) → Resumes D before after check x x' status → status ≢ Stream → AreFlushed x'.out x'.note
resumes_flushed D before after check x x' status (loads.no_dump fault is untouched) well = told_flushed (dump_told fault) status x.out x'.out x.note x'.note is.told well
resumes_flushed D before after check x x' status (loads.out_of_memory is untouched) well = told_flushed memory_told status x.out x'.out x.note x'.note is.told well
resumes_flushed D before after check x x' status (loads.unread is untouched) well = absurd (well is.status_is)
resumes_flushed D before after check x x' status (loads.answered dump ended is) well = told_flushed (resume_told dump.hw is.shown.frames ended) status x.out x'.out x.note x'.note is.told well

pub exports_flushed : (x x' : View) (status : Status) → Exports x x' status → status ≢ Stream → AreFlushed x'.out x'.note
exports_flushed x x' status (exports.no_dump fault is) well = told_flushed (dump_told fault) status x.out x'.out x.note x'.note is.told well
exports_flushed x x' status (exports.out_of_memory is) well = told_flushed memory_told status x.out x'.out x.note x'.note is.told well
exports_flushed x x' status (exports.unread is) well = absurd (well is.status_is)
exports_flushed x x' status (exports.in_use dump slot is) well = told_flushed (slots_told slot) status x.out x'.out x.note x'.note is.told well
exports_flushed x x' status (exports.exported dump is) well = told_flushed (stream_told dump.hw dump.memory) status x.out x'.out x.note x'.note is.told well

pub imports_flushed : (x x' : View) (status : Status) → Imports x x' status → status ≢ Stream → AreFlushed x'.out x'.note
imports_flushed x x' status (imports.imported n ends told) well = told_flushed (imported_told n) status x.out x'.out x.note x'.note told well
imports_flushed x x' status (imports.stopped why ends told) well = told_flushed (stop_told why) status x.out x'.out x.note x'.note told well
imports_flushed x x' status (imports.unread is) well = absurd (well is.status_is)
