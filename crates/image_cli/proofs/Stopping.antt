-- Why a core file isn't whole.
use Rattle.std.proofs.Common.{◌≡◌, ◌⊎◌, ℕ, ◌≤◌, Option, ap, sym, subst, inl, inr, arith}
use Rattle.definitions.specs.Disk.{Content, HasRisen}
use Rattle.command_kit.specs.Causes.{HasCause, SinksFail}
use Rattle.command_kit.specs.View.{SinkView}
use Rattle.command_kit.specs.declared.status.Status.{Status}
use Rattle.image_check.specs.Told.{Told}
use Rattle.image_core.specs.Cores.{IsStopped}
use Rattle.image_core.specs.declared.stop.Stop.{Stop}
use Rattle.image_core.specs.declared.stop.Stop.TheVariants.{NoImage, Refused, TooMany, Changed, Sink, Memory}
use Rattle.image_cli.specs.Cores.{TellsStop}
use Rattle.command_kit.proofs.Causes.{cause_since}
use Rattle.image_cli.proofs.Causes.{sinks_later}
use Rattle.image_cli.proofs.Noting.{same_faults}

-- the faults of the notes don't fall
pub stop_counted : (content : Option Content) (blocks header before now : ℕ) (told then : Told) (first last : ℕ) (why : Stop) → IsStopped content blocks header before now told then first last why → told.faults ≤ then.faults
stop_counted content blocks header before now told then first last NoImage none = same_faults told then none.0
stop_counted content blocks header before now told then first last Refused (inl (inl (tells, risen))) = tells.faults
stop_counted content blocks header before now told then first last Refused (inl (inr (page, (mark, (read, marked, some, tells))))) = tells.faults
stop_counted content blocks header before now told then first last Refused (inr (pages, refused)) = refused.told.faults
stop_counted content blocks header before now told then first last TooMany (has, untold) = same_faults told then untold
stop_counted content blocks header before now told then first last Changed (none, untold) = same_faults told then untold
stop_counted content blocks header before now told then first last Sink (risen, untold) = same_faults told then untold
stop_counted content blocks header before now told then first last Memory untold = same_faults told then untold

-- where the output failed its count of faults has risen
risen_at_sink : (content : Option Content) (blocks header before now : ℕ) (told then : Told) (first last : ℕ) (why : Stop) → why ≡ Sink → IsStopped content blocks header before now told then first last why → HasRisen first last
risen_at_sink content blocks header before now told then first last why e stopped = (subst (IsStopped content blocks header before now told then first last) e stopped).0

-- reporting the failure leaves the output's count of faults as it is
sink_kept : (why : Stop) (status : Status) (out out' note note' : SinkView) → why ≡ Sink → TellsStop why status out out' note note' → out'.faults ≡ out.faults
sink_kept why status out out' note note' e tells = ap (λ (view : SinkView). view.faults) (subst (λ w. TellsStop w status out out' note note') e tells).out_is

-- a stop of the writing is told, and the cause of the status lies in the writing or in the telling
pub stopped_cause : (content : Option Content) (blocks header before now : ℕ) (told then : Told) (why : Stop) (status : Status) (out mid out' note noted note' : SinkView) → told.faults ≡ note.faults → then.faults ≡ noted.faults → out.faults ≤ mid.faults →
    IsStopped content blocks header before now told then out.faults mid.faults why → TellsStop why status mid out' noted note' → HasCause ((why ≡ Sink) ⊎ SinksFail mid out' noted note') ⊥ status → HasCause (SinksFail out out' note note') ⊥ status
stopped_cause content blocks header before now told then why status out mid out' note noted note' was is le stopped tells cause = cause_since status fails (λ (never : ⊥). never) cause where
  counted : told.faults ≤ then.faults
  counted = stop_counted content blocks header before now told then out.faults mid.faults why stopped

  fails : (why ≡ Sink) ⊎ SinksFail mid out' noted note' → SinksFail out out' note note'
  fails (inl e) = inl (subst (HasRisen out.faults) (sym (sink_kept why status mid out' noted note' e tells)) (risen_at_sink content blocks header before now told then out.faults mid.faults why e stopped))
  fails (inr failed) = sinks_later out mid out' note noted note' le (omega (arith, counted, was, is)) failed
