-- A resume's replies over any disk.
use Rattle.std.proofs.Common.{◌≡◌, ◌<◌, ◌≤◌, ℕ, ◌+◌, inl, inr, zero, suc, ltb, false, get_or, Option, Some, None, unwrap_or, refl, sym, ap, ap₂, ◌∙◌, arith}
use Rattle.std.proofs.lemmas.Bool.{cases_lt, cond-true, cond-false, lt-ltb, le-ltb}
use Rattle.definitions.specs.Disk as disk
use Rattle.plain_machine.specs.Machine.{Hardware, Memory}
use Rattle.plain_machine.specs.Trace.{cause_at, causes, step_cause, step_count, taken_back_cause, last_reply}
use Rattle.plain_machine.specs.declared.event.Loader.{Loader}
use Rattle.plain_machine.specs.declared.event.IdentCheck.{IdentCheck}
use Rattle.plain_machine.specs.declared.reply.Reply.TheVariants as reply
use Rattle.plain_machine.proofs.Traces.{NoneBefore, causes_at, trace_more, trace_last}
use Rattle.protocol_laws.specs.TraceAt.{reply_past, reply_at, TracesAt}
use Rattle.protocol_laws.proofs.Stopping.{stops_cause, header_passed, stops_taken_back, none_stopped}

-- a step before the last goes on where nothing is wrong
pub past_more : (h : Hardware) (dump : Memory) (v : disk.DiskImage) (loader : Loader) (k : ℕ) → k + 1 < step_count h v → reply_past h dump v loader k ≡ reply.Loading (k + 1)
past_more h dump v loader k more = cond-true (ltb (k + 1) (step_count h v)) (reply.Loading (k + 1)) (last_reply h dump v loader) (lt-ltb (k + 1) (step_count h v) more)

-- and the last step ends the resume
pub past_last : (h : Hardware) (dump : Memory) (v : disk.DiskImage) (loader : Loader) (k : ℕ) → step_count h v ≤ k + 1 → reply_past h dump v loader k ≡ last_reply h dump v loader
past_last h dump v loader k over = cond-false (ltb (k + 1) (step_count h v)) (reply.Loading (k + 1)) (last_reply h dump v loader) (le-ltb (k + 1) (step_count h v) over)

-- the first step only syncs
pub first_reply : (h : Hardware) (dump : Memory) (v : disk.DiskImage) (loader : Loader) (check : IdentCheck) → reply_at h dump v loader check 0 ≡ reply.Loading 1
first_reply h dump v loader check = past_more h dump v loader 0 (omega arith)

-- a step that has gone on had no cause
pub passed : (h : Hardware) (dump : Memory) (v : disk.DiskImage) (loader : Loader) (check : IdentCheck) (j : ℕ) → reply_at h dump v loader check j ≡ reply.Loading (j + 1) → step_cause h dump v loader check j ≡ None
passed h dump v loader check zero gone = refl
passed h dump v loader check (suc zero) gone = header_passed h v (ap (unwrap_or (step_cause h dump v loader check 1)) (sym (past_more h dump v loader 1 (omega arith))) ∙ gone)
passed h dump v loader check (suc (suc zero)) gone = refl
passed h dump v loader check (suc (suc (suc zero))) gone = none_stopped (taken_back_cause h v) (reply_past h dump v loader 3) 4 (stops_taken_back h v) gone
passed h dump v loader check (suc (suc (suc (suc s)))) gone =
    none_stopped (cause_at h dump v loader check s) (reply_past h dump v loader (suc (suc (suc (suc s))))) (suc (suc (suc (suc s))) + 1) (stops_cause h dump v loader check s) gone

none_before : (h : Hardware) (dump : Memory) (v : disk.DiskImage) (loader : Loader) (check : IdentCheck) (k : ℕ) → k < step_count h v → ((j : ℕ) → j < k → reply_at h dump v loader check j ≡ reply.Loading (j + 1)) → NoneBefore (causes h dump v loader check) k
none_before h dump v loader check k within gone j lt = causes_at h dump v loader check j (omega arith) ∙ passed h dump v loader check j (gone j lt)

pub traces_at : TracesAt
traces_at h dump v loader check k within gone =
    let none = none_before h dump v loader check k within gone in
    let at = causes_at h dump v loader check k within in
    elim (cases_lt (k + 1) (step_count h v)) [
      | inl more ↦ trace_more h dump v loader check k none (omega arith) ∙ ap Some (ap₂ unwrap_or at (sym (past_more h dump v loader k more)))
      | inr over ↦
          let last : k + 1 ≡ step_count h v = omega arith in
          trace_last h dump v loader check k none (omega arith) ∙ ap Some (ap₂ unwrap_or at (sym (past_last h dump v loader k over)))
    ]
