-- A resume into a dump's memory step by step: what it is doing after n steps, and that it ends.
use Rattle.std.proofs.Common.{◌≡◌, ◌⊎◌, inl, inr, ◌<◌, ℕ, ◌+◌, zero, suc, ltb, Bool, true, false, cond, ◌||◌, not, List, ◌∷◌, [], Option, Some, None, slice_get, unwrap_or, refl, sym, ap, ◌∙◌, subst, arith, Contains}
use Rattle.std.specs.List.{AllByRecursion}
use Rattle.std.proofs.lemmas.Bool.{cond-true, false≢true}
use Rattle.std.proofs.lemmas.List.Elements.{All-from_recursion, All-contains}
use Rattle.definitions.specs.Disk as disk
use Rattle.plain_machine.specs.Chain.{is_marked_disk}
use Rattle.plain_machine.specs.Machine.{Hardware, Memory}
use Rattle.plain_machine.specs.Calls.{reads_mark, takes_back, syncs_back, LoadCall, syncs_first, of_mark, reads_image, load_call}
use Rattle.plain_machine.specs.State.{State, off, loading, nothing, sure, other, Load, not_yet, found_other}
use Rattle.plain_machine.specs.Refusals.{refusal}
use Rattle.plain_machine.specs.Step.{Step, Outcome, outcomes, only, load_step, load_fault, fault_of_load, load_answers, find_step, other_step, other_state, no_image, has_place}
use Rattle.plain_machine.specs.Trace.{trace}
use Rattle.plain_machine.specs.declared.event.Actor.TheVariants as actor
use Rattle.plain_machine.specs.declared.event.Event.TheVariants as event
use Rattle.plain_machine.specs.declared.event.IdentCheck.{IdentCheck}
use Rattle.plain_machine.specs.declared.event.Loader.TheVariants.{Table}
use Rattle.plain_machine.specs.declared.reply.Left.TheVariants.{Gone}
use Rattle.plain_machine.specs.declared.reply.Reply.{Reply}
use Rattle.plain_machine.specs.declared.reply.Reply.TheVariants as reply
use Rattle.protocol_laws.specs.Rows.{TellsNewFault}
use Rattle.command_core.specs.Runs.{goes_on, held_at_first}
use Rattle.command_core.specs.Hibernations.{EndsInFault}
use Rattle.command_core.proofs.Traces.{counted_at, trace_counts}
use Rattle.protocol_laws.specs.TraceAt.{reply_at}
use Rattle.protocol_laws.proofs.TraceAt.{past_more, first_reply, traces_at}
use Rattle.definitions.specs.SwapHeader.{flags_of}
use Rattle.plain_machine.specs.Chain.{header_of}
use Rattle.plain_machine.specs.Trace.{header_cause, is_set}

-- the resume before it has looked at the disk, and after it has found another machine's image there
abbrev pub begun : Hardware → Memory → IdentCheck → disk.DiskImage → Load
begun h m check v = record { held = held_at_first h v; found = not_yet; loader = Table; dump = m; check = check }

abbrev pub found : Hardware → Memory → IdentCheck → disk.DiskImage → Load
found h m check v = record (begun h m check v) { found = found_other v }

abbrev pub trace_of : Hardware → Memory → IdentCheck → disk.DiskImage → List Reply
trace_of h m check v = trace h m v Table check

-- the state after n steps that went on
abbrev pub state_at : Hardware → Memory → IdentCheck → disk.DiskImage → ℕ → State
state_at h m check v zero = loading (begun h m check v) 0
state_at h m check v (suc zero) = loading (begun h m check v) 1
state_at h m check v (suc (suc n)) = loading (found h m check v) (suc (suc n))

-- a reply at the end leaves the machine off, and nothing on the disk but a compressed image
abbrev pub LeavesOff : Reply → State → Type 0
LeavesOff (reply.Compressed flags) b = Unit {0}
LeavesOff r b = b ≡ off nothing None

-- the steps so far are those of the trace
abbrev pub HasGoneOn : Hardware → Memory → IdentCheck → disk.DiskImage → ℕ → Type 0
HasGoneOn h m check v zero = Unit {0}
HasGoneOn h m check v (suc n) = slice_get (trace_of h m check v) n ≡ Some (reply.Loading (suc n))

-- a call that failed with the image gone leaves nothing on the disk
abbrev pub FaultLeaves : Reply → State → Type 0
FaultLeaves (reply.ReadFault Gone) b = b ≡ off nothing None
FaultLeaves (reply.WriteFault Gone) b = b ≡ off nothing None
FaultLeaves (reply.SyncFault Gone) b = b ≡ off nothing None
FaultLeaves r b = Unit {0}

-- what a resume over the disk v is at after n steps
abbrev pub IsAt : Hardware → Memory → IdentCheck → disk.DiskImage → ℕ → Reply → State → Bool → Type 0
IsAt h m check v n (reply.Loading k) b failed = (b ≡ state_at h m check v n) × HasGoneOn h m check v n
IsAt h m check v n (reply.More k of) b failed = ⊥
IsAt h m check v n (reply.Undo call k) b failed = ⊥
IsAt h m check v zero _ b failed = ⊥
IsAt h m check v (suc n) r b failed = (EndsInFault r × (failed ≡ true) × FaultLeaves r b) ⊎ ((slice_get (trace_of h m check v) n ≡ Some r) × LeavesOff r b)

-- each outcome of one more step, where a call that failed is noticed
abbrev LeadsOn : Hardware → Memory → IdentCheck → disk.DiskImage → ℕ → Outcome → Type 0
LeadsOn h m check v n outcome = (now : Bool) → (TellsNewFault outcome.0 → now ≡ true) → IsAt h m check v (suc n) outcome.0 outcome.1 now

AllLead : Hardware → Memory → IdentCheck → disk.DiskImage → ℕ → List Outcome → Type 0
AllLead h m check v n os = AllByRecursion (LeadsOn h m check v n) os

leads_by : (h : Hardware) (m : Memory) (check : IdentCheck) (v : disk.DiskImage) (n : ℕ) (os : List Outcome) (r : Reply) (b : State) → AllByRecursion (LeadsOn h m check v n) os → Contains os (r, b) → LeadsOn h m check v n (r, b)
leads_by h m check v n os r b all is = All-contains (LeadsOn h m check v n) os (r, b) (All-from_recursion (LeadsOn h m check v n) os all) is

all_either : (h : Hardware) (m : Memory) (check : IdentCheck) (v : disk.DiskImage) (n : ℕ) (b : Bool) (xs ys : List Outcome) → AllByRecursion (LeadsOn h m check v n) xs → AllByRecursion (LeadsOn h m check v n) ys → AllByRecursion (LeadsOn h m check v n) (cond b xs ys)
all_either h m check v n true xs ys p q = p
all_either h m check v n false xs ys p q = q

fault_leads : (h : Hardware) (m : Memory) (check : IdentCheck) (v : disk.DiskImage) (n : ℕ) (load : Load) (call : LoadCall) → LeadsOn h m check v n (fault_of_load load call)
fault_leads h m check v n load syncs_first = λ now new. inl (tt, new tt, tt)
fault_leads h m check v n load (of_mark reads_mark) = λ now new. inl (tt, new tt, tt)
fault_leads h m check v n load (of_mark takes_back) = λ now new. inl (tt, new tt, tt)
fault_leads h m check v n load (of_mark syncs_back) = λ now new. inl (tt, new tt, tt)
fault_leads h m check v n load reads_image = λ now new. inl (tt, new tt, refl)

-- The trace's entry.

abbrev count : Reply → ℕ
count (reply.Loading k) = k
count _ = 0

abbrev is_loading : Reply → Bool
is_loading (reply.Loading k) = true
is_loading _ = false

-- an entry after which a step is left is Loading, with its number
entry_goes : (h : Hardware) (m : Memory) (check : IdentCheck) (v : disk.DiskImage) (n : ℕ) (r : Reply) → slice_get (trace_of h m check v) n ≡ Some r → goes_on r ≡ true → r ≡ reply.Loading (suc n)
entry_goes h m check v n r says goes = elim (counted_at 1 n (trace_of h m check v) r (trace_counts h m v check) says) [
  | inl is ↦ is ∙ ap reply.Loading (let e : 1 + n ≡ suc n = omega arith in e)
  | inr last ↦ absurd (false≢true (sym last.0 ∙ goes))
]

loading_at : (h : Hardware) (m : Memory) (check : IdentCheck) (v : disk.DiskImage) (n k : ℕ) → slice_get (trace_of h m check v) n ≡ Some (reply.Loading k) → k ≡ suc n
loading_at h m check v n k says = ap count (entry_goes h m check v n (reply.Loading k) says refl)

no_other : (h : Hardware) (m : Memory) (check : IdentCheck) (v : disk.DiskImage) (n : ℕ) (r : Reply) → slice_get (trace_of h m check v) n ≡ Some r → goes_on r ≡ true → is_loading r ≡ false → ⊥
no_other h m check v n r says goes not_loading = false≢true (sym not_loading ∙ ap is_loading (entry_goes h m check v n r says goes))

goes_at : (h : Hardware) (m : Memory) (check : IdentCheck) (v : disk.DiskImage) (n k : ℕ) (now : Bool) → slice_get (trace_of h m check v) (suc n) ≡ Some (reply.Loading k) → IsAt h m check v (suc (suc n)) (reply.Loading k) (loading (found h m check v) k) now
goes_at h m check v n k now says =
    let is = loading_at h m check v (suc n) k says in
    (ap (loading (found h m check v)) is, subst (λ (j : ℕ). slice_get (trace_of h m check v) (suc n) ≡ Some (reply.Loading j)) is says)

entry_leads : (h : Hardware) (m : Memory) (check : IdentCheck) (v : disk.DiskImage) (n : ℕ) (r : Reply) (now : Bool) → slice_get (trace_of h m check v) (suc n) ≡ Some r → IsAt h m check v (suc (suc n)) r (other_state h (found h m check v) v (suc n) r) now
entry_leads h m check v n (reply.Loading k) now says = goes_at h m check v n k now says
entry_leads h m check v n (reply.More k of) now says = absurd (no_other h m check v (suc n) (reply.More k of) says refl refl)
entry_leads h m check v n (reply.Undo call k) now says = absurd (no_other h m check v (suc n) (reply.Undo call k) says refl refl)
entry_leads h m check v n (reply.Resumed saved) now says = inr (says, refl)
entry_leads h m check v n (reply.Compressed flags) now says = inr (says, tt)
entry_leads h m check v n r now says = inr (says, refl)

abbrev outcomes_of : Hardware → Load → disk.DiskImage → ℕ → Option Reply → List Outcome
outcomes_of h load v k o = elim o as (λ x. List Outcome) [ None ↦ [] | Some r ↦ only r (other_state h load v k r) ]

traced_leads : (h : Hardware) (m : Memory) (check : IdentCheck) (v : disk.DiskImage) (n : ℕ) (o : Option Reply) → slice_get (trace_of h m check v) (suc n) ≡ o → AllByRecursion (LeadsOn h m check v (suc n)) (outcomes_of h (found h m check v) v (suc n) o)
traced_leads h m check v n None says = tt
traced_leads h m check v n (Some r) says = ((λ now new. entry_leads h m check v n r now says), tt)

other_leads : (h : Hardware) (m : Memory) (check : IdentCheck) (v : disk.DiskImage) (n : ℕ) → AllByRecursion (LeadsOn h m check v (suc n)) (other_step h (found h m check v) v (suc n))
other_leads h m check v n = traced_leads h m check v n (slice_get (trace_of h m check v) (suc n)) refl

-- Steps.

loading_step : (h : Hardware) (w : disk.DiskImage) (load : Load) (k : ℕ) (r : Reply) (b : State) → Step h w (loading load k) (event.Step actor.Core) r b → Contains (load_step h w load k) (r, b)
unfolding outcomes refusal
loading_step h w load k r b step = step

pub first_entry : (h : Hardware) (m : Memory) (check : IdentCheck) (v : disk.DiskImage) → slice_get (trace_of h m check v) 0 ≡ Some (reply.Loading 1)
first_entry h m check v = traces_at h m v Table check 0 (omega arith) (λ j lt. absurd (omega arith)) ∙ ap Some (first_reply h m v Table check)

first_leads : (h : Hardware) (m : Memory) (check : IdentCheck) (v w : disk.DiskImage) → AllByRecursion (LeadsOn h m check v 0) (load_step h w (begun h m check v) 0)
first_leads h m check v w = (fault_leads h m check v 0 (begun h m check v) (load_call 0), ((λ now new. (refl, first_entry h m check v)), tt))

at_first : (h : Hardware) (m : Memory) (check : IdentCheck) (v : disk.DiskImage) (j : ℕ) → j < 1 → reply_at h m v Table check j ≡ reply.Loading (j + 1)
at_first h m check v zero lt = first_reply h m v Table check
at_first h m check v (suc j) lt = absurd (omega arith)

pub second_entry : (h : Hardware) (m : Memory) (check : IdentCheck) (v : disk.DiskImage) → slice_get (trace_of h m check v) 1 ≡ Some (unwrap_or (header_cause h v) (reply.Loading 2))
second_entry h m check v = traces_at h m v Table check 1 (omega arith) (at_first h m check v) ∙ ap Some (ap (unwrap_or (header_cause h v)) (past_more h m v Table 1 (omega arith)))

unmarked_cause : (h : Hardware) (v : disk.DiskImage) → is_marked_disk h v ≡ false → header_cause h v ≡ Some reply.NoImage
unmarked_cause h v e =
    cond-true (not (is_marked_disk h v)) (Some reply.NoImage) (cond (not (is_set (flags_of (header_of h v)) 2)) (Some (reply.Compressed (flags_of (header_of h v)))) None) (ap not e)

none_leads : (h : Hardware) (m : Memory) (check : IdentCheck) (v : disk.DiskImage) → is_marked_disk h v ≡ false → AllByRecursion (LeadsOn h m check v 1) no_image
none_leads h m check v e =
    ((λ now new. inr (second_entry h m check v ∙ ap (λ (o : Option Reply). Some (unwrap_or o (reply.Loading 2))) (unmarked_cause h v e), refl)), tt)

find_leads : (h : Hardware) (m : Memory) (check : IdentCheck) (v : disk.DiskImage) (marked : Bool) → is_marked_disk h v ≡ marked → AllByRecursion (LeadsOn h m check v 1) (find_step h v (begun h m check v) (cond marked (sure other) nothing))
find_leads h m check v true e = all_either h m check v 1 (is_marked_disk h v) (other_step h (found h m check v) v 1) [] (other_leads h m check v 0) tt
find_leads h m check v false e = none_leads h m check v e

second_leads : (h : Hardware) (m : Memory) (check : IdentCheck) (v : disk.DiskImage) → AllByRecursion (LeadsOn h m check v 1) (load_step h v (begun h m check v) 1)
second_leads h m check v = (fault_leads h m check v 1 (begun h m check v) (load_call 1), find_leads h m check v (is_marked_disk h v) refl)

later_answers : (h : Hardware) (m : Memory) (check : IdentCheck) (v w : disk.DiskImage) (n : ℕ) → load_answers h w (found h m check v) (suc (suc n)) ≡ other_step h (found h m check v) v (suc (suc n))
later_answers h m check v w zero = refl
later_answers h m check v w (suc zero) = refl
later_answers h m check v w (suc (suc n)) = refl

later_leads : (h : Hardware) (m : Memory) (check : IdentCheck) (v w : disk.DiskImage) (n : ℕ) → AllByRecursion (LeadsOn h m check v (suc (suc n))) (load_step h w (found h m check v) (suc (suc n)))
later_leads h m check v w n =
    let load = found h m check v in
    let k = suc (suc n) in
    all_either h m check v k (ltb k 4 || has_place h load load.found k) (load_fault load k ∷ load_answers h w load k) []
    (fault_leads h m check v k load (load_call k), subst (AllByRecursion (LeadsOn h m check v k)) (sym (later_answers h m check v w n)) (other_leads h m check v (suc n))) tt

-- Over the disk as it reads at a step; the second step finds it as it was.
step_by : (h : Hardware) (m : Memory) (check : IdentCheck) (v w : disk.DiskImage) (n : ℕ) (r : Reply) (b : State) → (n ≡ 1 → w ≡ v) → Step h w (state_at h m check v n) (event.Step actor.Core) r b → LeadsOn h m check v n (r, b)
step_by h m check v w zero r b same step = leads_by h m check v 0 (load_step h w (begun h m check v) 0) r b (first_leads h m check v w) (loading_step h w (begun h m check v) 0 r b step)
step_by h m check v w (suc zero) r b same step =
    leads_by h m check v 1 (load_step h v (begun h m check v) 1) r b (second_leads h m check v)
    (loading_step h v (begun h m check v) 1 r b (subst (λ (u : disk.DiskImage). Step h u (loading (begun h m check v) 1) (event.Step actor.Core) r b) (same refl) step))
step_by h m check v w (suc (suc n)) r b same step =
    leads_by h m check v (suc (suc n)) (load_step h w (found h m check v) (suc (suc n))) r b (later_leads h m check v w n) (loading_step h w (found h m check v) (suc (suc n)) r b step)

pub step_more : (h : Hardware) (m : Memory) (check : IdentCheck) (v w : disk.DiskImage) (n : ℕ) (r r' : Reply) (b b' : State) (failed now : Bool) → IsAt h m check v n r b failed → goes_on r ≡ true → (n ≡ 1 → w ≡ v) → Step h w b (event.Step actor.Core) r' b' → (TellsNewFault r' → now ≡ true) → IsAt h m check v (suc n) r' b' now
step_more h m check v w n (reply.Loading k) r' b b' failed now at goes same step new =
    step_by h m check v w n r' b' same (subst (λ (s : State). Step h w s (event.Step actor.Core) r' b') at.0 step) now new
step_more h m check v w n (reply.More k of) r' b b' failed now at goes same step new = absurd at
step_more h m check v w n (reply.Undo call k) r' b b' failed now at goes same step new = absurd at
step_more h m check v w n _ r' b b' failed now at goes same step new = absurd (false≢true goes)
