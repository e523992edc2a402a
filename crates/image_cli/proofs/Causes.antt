-- Whose failure the status of a command says, by what it should have ended with.
use Rattle.std.proofs.Common.{◌≡◌, ◌≢◌, ◌≤◌, sym, ◌∙◌, inl, inr}
use Rattle.command_kit.specs.Causes.{HasCause, SinksFail}
use Rattle.command_kit.specs.View.{SinkView}
use Rattle.command_kit.specs.declared.status.Status.{Status}
use Rattle.command_kit.specs.declared.status.Status.TheVariants.{Done, Refused, Words, Stream, Device, Memory}
use Rattle.command_kit.proofs.Causes.{cause_since}
use Rattle.image_cli.proofs.Summing.{later}

-- statuses that blame nobody

pub done_blames_none : (status : Status) → status ≡ Done → HasCause ⊥ ⊥ status
done_blames_none status is = record {
  stream = λ e. let same : Done ≡ Stream = sym is ∙ e in cc;
  device = λ e. let same : Done ≡ Device = sym is ∙ e in cc;
  words = λ e. let same : Done ≡ Words = sym is ∙ e in cc;
}

pub refused_blames_none : (status : Status) → status ≡ Refused → HasCause ⊥ ⊥ status
refused_blames_none status is = record {
  stream = λ e. let same : Refused ≡ Stream = sym is ∙ e in cc;
  device = λ e. let same : Refused ≡ Device = sym is ∙ e in cc;
  words = λ e. let same : Refused ≡ Words = sym is ∙ e in cc;
}

pub memory_blames_none : (status : Status) → status ≡ Memory → HasCause ⊥ ⊥ status
memory_blames_none status is = record {
  stream = λ e. let same : Memory ≡ Stream = sym is ∙ e in cc;
  device = λ e. let same : Memory ≡ Device = sym is ∙ e in cc;
  words = λ e. let same : Memory ≡ Words = sym is ∙ e in cc;
}

-- a status that says that a stream failed
pub stream_blames : {fails : Type 0} (status : Status) → status ≡ Stream → fails → HasCause fails ⊥ status
stream_blames status is failed = record {
  stream = λ e. failed;
  device = λ e. let same : Stream ≡ Device = sym is ∙ e in cc;
  words = λ e. let same : Stream ≡ Words = sym is ∙ e in cc;
}

-- an answer that blames nobody was told: a sink may have failed in that
pub told_cause : {fails : Type 0} (told status : Status) → HasCause ⊥ ⊥ told → (status ≡ Stream → fails) → (status ≢ Stream → status ≡ told) → HasCause fails ⊥ status
told_cause told status none stream kept = record {
  stream = stream;
  device = λ e. none.device (sym (kept (λ s. let same : Device ≡ Stream = sym e ∙ s in cc)) ∙ e);
  words = λ e. none.words (sym (kept (λ s. let same : Words ≡ Stream = sym e ∙ s in cc)) ∙ e);
}

-- the same for the statuses that answers mostly have
pub done_cause : {fails : Type 0} (told status : Status) → told ≡ Done → (status ≡ Stream → fails) → (status ≢ Stream → status ≡ told) → HasCause fails ⊥ status
done_cause told status is stream kept = told_cause told status (done_blames_none told is) stream kept

pub refused_cause : {fails : Type 0} (told status : Status) → told ≡ Refused → (status ≡ Stream → fails) → (status ≢ Stream → status ≡ told) → HasCause fails ⊥ status
refused_cause told status is stream kept = told_cause told status (refused_blames_none told is) stream kept

pub memory_cause : {fails : Type 0} (told status : Status) → told ≡ Memory → (status ≡ Stream → fails) → (status ≢ Stream → status ≡ told) → HasCause fails ⊥ status
memory_cause told status is stream kept = told_cause told status (memory_blames_none told is) stream kept

-- a failure of the sinks after they took more
pub sinks_later : (out mid out' note then note' : SinkView) → out.faults ≤ mid.faults → note.faults ≤ then.faults → SinksFail mid out' then note' → SinksFail out out' note note'
sinks_later out mid out' note then note' le noted (inl risen) = inl (later out.faults mid.faults out'.faults le risen)
sinks_later out mid out' note then note' le noted (inr risen) = inr (later note.faults then.faults note'.faults noted risen)

pub cause_later : (status : Status) (out mid out' note then note' : SinkView) → out.faults ≤ mid.faults → note.faults ≤ then.faults → HasCause (SinksFail mid out' then note') ⊥ status → HasCause (SinksFail out out' note note') ⊥ status
cause_later status out mid out' note then note' le noted cause = cause_since status (sinks_later out mid out' note then note' le noted) (λ (never : ⊥). never) cause
