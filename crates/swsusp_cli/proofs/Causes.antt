-- Laws of whose failure a status says.
use Rattle.std.proofs.Common.{◌≡◌, ◌≢◌, ◌⊎◌, inl, inr, ◌≤◌, ℕ, sym, ◌∙◌, subst}
use Rattle.definitions.specs.Disk.{HasRisen}
use Rattle.command_kit.proofs.Causes.{cause_since}
use Rattle.command_kit.specs.Causes.{HasCause}
use Rattle.command_kit.specs.declared.status.Status.{Status}
use Rattle.command_kit.specs.declared.status.Status.TheVariants.{Done, Refused, Words, Input, Stream, Device, Memory}
use Rattle.command_core.proofs.Counted.{risen_earlier}

device_other : Device ≡ Stream → ⊥
device_other same = cc

words_other : Words ≡ Stream → ⊥
words_other same = cc

-- statuses that blame nothing
pub done_cause : HasCause ⊥ ⊥ Done
done_cause = record { stream = λ is. cc; device = λ is. cc; words = λ is. cc }

pub refused_cause : HasCause ⊥ ⊥ Refused
refused_cause = record { stream = λ is. cc; device = λ is. cc; words = λ is. cc }

pub input_cause : HasCause ⊥ ⊥ Input
input_cause = record { stream = λ is. cc; device = λ is. cc; words = λ is. cc }

pub memory_cause : HasCause ⊥ ⊥ Memory
memory_cause = record { stream = λ is. cc; device = λ is. cc; words = λ is. cc }

-- a stream failed
pub stream_cause : {streams disk : Type 0} (status : Status) → status ≡ Stream → streams → HasCause streams disk status
stream_cause status is failed = record {
  stream = λ stream. failed;
  device = λ device. absurd (device_other (sym device ∙ is));
  words = λ words. absurd (words_other (sym words ∙ is));
}

-- a status other than `Stream` is the answer's own
pub own_status : (status own x : Status) → (x ≡ Stream → ⊥) → (status ≢ Stream → status ≡ own) → status ≡ x → own ≡ x
own_status status own x other same is = sym (same (λ stream. other (sym is ∙ stream))) ∙ is

-- an answer that is told blames what the answer itself blames, or the streams
pub told_cause : {streams disk longer : Type 0} (status own : Status) → (status ≡ Stream → streams) → (status ≢ Stream → status ≡ own) → HasCause ⊥ disk own → (disk → longer) → HasCause streams longer status
told_cause status own stream same cause widens = record {
  stream = stream;
  device = λ is. widens (cause.device (own_status status own Device device_other same is));
  words = λ is. cause.words (own_status status own Words words_other same is);
}

-- an answer that blames nothing
pub blameless : {streams disk : Type 0} (status own quiet : Status) → HasCause ⊥ ⊥ quiet → own ≡ quiet → (status ≡ Stream → streams) → (status ≢ Stream → status ≡ own) → HasCause streams disk status
blameless status own quiet cause is stream same = told_cause status own stream same (subst (λ (s : Status). HasCause ⊥ ⊥ s) (sym is) cause) (λ (none : ⊥). absurd none)

-- a command that has no input to work on
source_or : {source read outputs : Type 0} → (source → read) → source ⊎ outputs → read ⊎ outputs
source_or failed (inl source) = inl (failed source)
source_or failed (inr outputs) = inr outputs

pub stop_cause : {source read outputs disk : Type 0} (status : Status) → HasCause (source ⊎ outputs) ⊥ status → (source → read) → HasCause (read ⊎ outputs) disk status
stop_cause status cause failed = cause_since status (source_or failed) (λ (none : ⊥). absurd none) cause

-- out failed at the end of a text, or note did
pub since_text : {read note : Type 0} (low mid high : ℕ) → low ≤ mid → HasRisen mid high ⊎ note → read ⊎ HasRisen low high ⊎ note
since_text low mid high later (inl out) = inr (inl (risen_earlier low mid high later out))
since_text low mid high later (inr note) = inr (inr note)
