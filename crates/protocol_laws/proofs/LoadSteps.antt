-- Steps of the plain machine while it resumes.
use Rattle.std.proofs.Common.{◌≡◌, ◌<◌, ◌≤◌, ◌⊎◌, ℕ, ◌+◌, inl, inr, zero, suc, eqb, ltb, Bool, true, false, cond, not, ◌&&◌, ◌||◌, length, List, [], ◌∷◌, Option, Some, None, slice_get, unwrap_or, refl, sym, ap, ◌∙◌, subst, arith, Contains}
use Rattle.std.proofs.lemmas.Bool.{cond-true, lt-ltb, false≢true}
use Rattle.std.proofs.lemmas.Option.{slice_get_within}
use Rattle.definitions.specs.Disk as disk
use Rattle.definitions.specs.NumberPages.{meta_of}
use Rattle.plain_machine.specs.Machine.{Hardware}
use Rattle.plain_machine.specs.Image.{Image, n_of, d_of, resume_steps}
use Rattle.plain_machine.specs.Loader.{restored}
use Rattle.plain_machine.specs.Refusals.{refusal}
use Rattle.plain_machine.specs.State.{State, off, loading, nothing, Held, Load, Found, found_own, found_other}
use Rattle.plain_machine.proofs.Calls.{load_call-late}
use Rattle.plain_machine.specs.Step.{Outcome, Step, outcomes, only, load_answers, has_place, load_fault, fault_of_load, loaded_step, find_step, own_step, other_step, other_state, has_room, too_few, resumed}
use Rattle.plain_machine.specs.Trace.{trace, header_cause}
use Rattle.plain_machine.specs.declared.event.Actor.TheVariants as actor
use Rattle.plain_machine.specs.declared.event.Event.TheVariants as event
use Rattle.plain_machine.specs.declared.reply.Left.TheVariants.{Gone}
use Rattle.plain_machine.specs.declared.reply.Reply.{Reply}
use Rattle.plain_machine.specs.declared.reply.Reply.TheVariants as reply
use Rattle.protocol_laws.specs.Resuming.{with_found}
use Rattle.protocol_laws.specs.ResumingOther.{with_found_other}
use Rattle.protocol_laws.specs.TraceAt.{reply_at}
use Rattle.protocol_laws.proofs.Stopping.{is_no_stop}
use Rattle.protocol_laws.proofs.TraceAt.{past_more, first_reply, traces_at}

-- There is a step k + 1.
abbrev pub IsThere : Hardware → Load → Found → ℕ → Type 0
IsThere h load found k = (ltb k 4 || has_place h load found k) ≡ true

pub by_core : (h : Hardware) (v : disk.DiskImage) (load : Load) (k : ℕ) (r : Reply) (b : State) → IsThere h load load.found k → Contains (load_fault load k ∷ load_answers h v load k) (r, b) → Step h v (loading load k) (event.Step actor.Core) r b
unfolding outcomes refusal
by_core h v load k r b there in' =
    subst (λ (xs : List Outcome). Contains xs (r, b)) (sym (cond-true (ltb k 4 || has_place h load load.found k) (load_fault load k ∷ load_answers h v load k) [] there)) in'

or_true : (a b : Bool) → b ≡ true → (a || b) ≡ true
or_true true b e = refl
or_true false b e = e

pub there_own : (h : Hardware) (load : Load) (i : Image) (k : ℕ) → k < resume_steps i → IsThere h load (found_own i) k
there_own h load i k lt = or_true (ltb k 4) (ltb k (resume_steps i)) (lt-ltb k (resume_steps i) lt)

pub there_other : (h : Hardware) (load : Load) (v : disk.DiskImage) (k : ℕ) (r : Reply) → slice_get (trace h load.dump v load.loader load.check) k ≡ Some r → IsThere h load (found_other v) k
there_other h load v k r says =
    let replies = trace h load.dump v load.loader load.check in
    or_true (ltb k 4) (ltb k (length replies)) (lt-ltb k (length replies) (slice_get_within replies k r says))

-- The device call fails.

pub fault_step : (h : Hardware) (v : disk.DiskImage) (load : Load) (k : ℕ) (r : Reply) (b : State) → IsThere h load load.found k → load_fault load k ≡ (r, b) → Step h v (loading load k) (event.Step actor.Core) r b
fault_step h v load k r b there e = by_core h v load k r b there (0, omega arith, e)

pub late_fault : (load : Load) (k : ℕ) → 4 ≤ k → load_fault load k ≡ (reply.ReadFault Gone, off nothing None)
late_fault load k le = ap (fault_of_load load) (load_call-late k le)

-- After the second step.

in_tail : {A : Type 0} (x : A) (xs : List A) (y : A) → Contains xs y → Contains (x ∷ xs) y
in_tail x xs y (k, lt, e) = (suc k, omega arith, e)

found_answers : (h : Hardware) (v : disk.DiskImage) (load : Load) (k : ℕ) → 2 ≤ k → load_answers h v load k ≡ loaded_step h load load.found k
found_answers h v load zero le = absurd (omega arith)
found_answers h v load (suc zero) le = absurd (omega arith)
found_answers h v load (suc (suc zero)) le = refl
found_answers h v load (suc (suc (suc zero))) le = refl
found_answers h v load (suc (suc (suc (suc k)))) le = refl

found_step : (h : Hardware) (v : disk.DiskImage) (load : Load) (k : ℕ) (r : Reply) (b : State) → IsThere h load load.found k → 2 ≤ k → Contains (loaded_step h load load.found k) (r, b) → Step h v (loading load k) (event.Step actor.Core) r b
found_step h v load k r b there le in' =
    by_core h v load k r b there
    (subst (λ (xs : List Outcome). Contains (load_fault load k ∷ xs) (r, b)) (sym (found_answers h v load k le)) (in_tail (load_fault load k) (loaded_step h load load.found k) (r, b) in'))

-- An own image.

pub own_goes : (h : Hardware) (v : disk.DiskImage) (load : Load) (i : Image) (k : ℕ) (r : Reply) (b : State) → k < resume_steps i → 2 ≤ k → own_step h (with_found load i) i k ≡ (r, b) → Step h v (loading (with_found load i) k) (event.Step actor.Core) r b
own_goes h v load i k r b lt le e = found_step h v (with_found load i) k r b (there_own h (with_found load i) i k lt) le (0, omega arith, e)

which : {A : Type 0} (b c : Bool) (x y z : A) → (cond b x (cond c y z) ≡ x) ⊎ ((cond b x (cond c y z) ≡ y) ⊎ (cond b x (cond c y z) ≡ z))
which true c x y z = inl refl
which false true x y z = inr (inl refl)
which false false x y z = inr (inr refl)

-- what the plain machine does over an own image: it has too little room, it is at the end, or it goes on
pub own_outcome : (h : Hardware) (load : Load) (i : Image) (k : ℕ) → (own_step h load i k ≡ too_few h load (d_of i))
    ⊎ ((own_step h load i k ≡ (reply.Resumed (n_of i), resumed (restored h load.dump load.loader i) i.slots load.loader)) ⊎ (own_step h load i k ≡ (reply.Loading (k + 1), loading load (k + 1))))
own_outcome h load i k =
    which (eqb (k + 1) (6 + meta_of (n_of i)) && not (has_room h load (d_of i))) (eqb (k + 1) (resume_steps i)) (too_few h load (d_of i))
    (reply.Resumed (n_of i), resumed (restored h load.dump load.loader i) i.slots load.loader) (reply.Loading (k + 1), loading load (k + 1))

-- Another's image.

abbrev outcomes_of : Hardware → Load → disk.DiskImage → ℕ → Option Reply → List Outcome
outcomes_of h load v k o = elim o as (λ x. List Outcome) [ None ↦ [] | Some r ↦ only r (other_state h load v k r) ]

traced : (h : Hardware) (load : Load) (v : disk.DiskImage) (k : ℕ) (r : Reply) (b : State) → slice_get (trace h load.dump v load.loader load.check) k ≡ Some r → other_state h load v k r ≡ b → Contains (other_step h load v k) (r, b)
traced h load v k r b says state =
    subst (λ (o : Option Reply). Contains (outcomes_of h load v k o) (r, b)) (sym says) (0, omega arith, ap (λ (x : State). (r, x)) state)

pub other_goes : (h : Hardware) (w v : disk.DiskImage) (load : Load) (k : ℕ) (r : Reply) (b : State) → 2 ≤ k → slice_get (trace h load.dump v load.loader load.check) k ≡ Some r → other_state h (with_found_other load v) v k r ≡ b →
    Step h w (loading (with_found_other load v) k) (event.Step actor.Core) r b
other_goes h w v load k r b le says state = found_step h w (with_found_other load v) k r b (there_other h (with_found_other load v) v k r says) le (traced h (with_found_other load v) v k r b says state)

-- what stops a resume turns the machine off
pub stopped_off : (h : Hardware) (load : Load) (v : disk.DiskImage) (k : ℕ) (r : Reply) → is_no_stop r ≡ false → other_state h load v k r ≡ off nothing None
stopped_off h load v k (reply.Loading j) e = absurd (false≢true (sym e))
stopped_off h load v k (reply.Resumed n) e = absurd (false≢true (sym e))
stopped_off h load v k (reply.Compressed flags) e = absurd (false≢true (sym e))
stopped_off h load v k r e = refl

-- The second step.

pub find_goes : (h : Hardware) (v : disk.DiskImage) (load : Load) (held : Held) (r : Reply) (b : State) → load.held ≡ held → Contains (find_step h v load held) (r, b) → Step h v (loading load 1) (event.Step actor.Core) r b
find_goes h v load held r b is in' =
    by_core h v load 1 r b refl
    (in_tail (load_fault load 1) (find_step h v load load.held) (r, b) (subst (λ (x : Held). Contains (find_step h v load x) (r, b)) (sym is) in'))

-- another's image: what the trace says of the header
pub finds_traced : (h : Hardware) (v : disk.DiskImage) (load : Load) (r : Reply) (b : State) → unwrap_or (header_cause h v) (reply.Loading 2) ≡ r → other_state h (with_found_other load v) v 1 r ≡ b → Contains (other_step h (with_found_other load v) v 1) (r, b)
finds_traced h v load r b says state = traced h (with_found_other load v) v 1 r b (traces_at h load.dump v load.loader load.check 1 (omega arith) (λ j lt. at_first j lt) ∙ ap Some (ap (unwrap_or (header_cause h v)) (past_more h load.dump v load.loader 1 (omega arith)) ∙ says)) state where
  at_first : (j : ℕ) → j < 1 → reply_at h load.dump v load.loader load.check j ≡ reply.Loading (j + 1)
  at_first zero lt = first_reply h load.dump v load.loader load.check
  at_first (suc j) lt = absurd (omega arith)
