-- Where no image is there no resume ends, and none comes but by a hibernation that is accepted.
use Rattle.std.proofs.Common.{◌≡◌, ℕ, ◌-◌, ◌||◌, ◌++◌, length, Bool, true, false, cond, ltb, zero, suc, List, [], ◌∷◌, Option, Some, None, refl, ap, ◌⊎◌, inl, inr}
use Rattle.std.specs.List.{AllByRecursion}
use Rattle.std.proofs.lemmas.List.Elements.{All-from_recursion, All-contains}
use Rattle.definitions.specs.Disk as disk
use Rattle.plain_machine.specs.Machine.{Hardware, Memory, saveable}
use Rattle.plain_machine.specs.Refusals.{refusal}
use Rattle.plain_machine.specs.State.{State, off, on, booting, hibernating, undoing, settling, waking, loading, asleep, Running, Held, nothing, sure, maybe, perhaps, Flight, goes_out, comes_in, Load, Found, not_yet, found_own, found_other, saved_found, held_in, held_back, held_loading}
use Rattle.plain_machine.specs.Calls.{BackCall, reads_mark, takes_back, syncs_back, back_call, LoadCall, syncs_first, of_mark, reads_image, load_call}
use Rattle.plain_machine.specs.Step.{Step, Outcome, only, outcomes, accepted, refused_or, if_running, woken, requested, task_step, begun, booted, boot_outcomes, boot_step, core_step, settle_step, find_step, loaded_step, load_step, load_answers, has_place, load_fault, fault_of_load, drop_memory, dropped_by}
use Rattle.plain_machine.specs.declared.event.Actor.TheVariants as actor
use Rattle.plain_machine.specs.declared.event.BootFrom.{BootFrom}
use Rattle.plain_machine.specs.declared.event.BootFrom.TheVariants.{Fresh, Kept}
use Rattle.plain_machine.specs.declared.event.Event.{Event}
use Rattle.plain_machine.specs.declared.event.Event.TheVariants as event
use Rattle.plain_machine.specs.declared.event.TaskOp.{TaskOp}
use Rattle.plain_machine.specs.declared.event.TaskOp.TheVariants as op
use Rattle.plain_machine.specs.declared.reply.Left.TheVariants.{Same}
use Rattle.plain_machine.specs.declared.reply.Reply.{Reply}
use Rattle.plain_machine.specs.declared.reply.Reply.TheVariants as reply
use Rattle.theorem_laws.specs.Resumes.{is_hibernation}
use Rattle.theorem_laws.proofs.Spent.{IsResumed, IsSpent, resumed_goes_on}
use Rattle.theorem_laws.proofs.Refused.{EndsNone, refusal_ends_none}

abbrev pub Stays : Event → Outcome → Type 0
Stays e outcome = (is_hibernation e outcome.0 ≡ true) ⊎ (IsSpent outcome.1 × (IsResumed outcome.0 → ⊥))

abbrev AllStay : Event → List Outcome → Type 0
AllStay e os = AllByRecursion (Stays e) os

stay_either : (e : Event) (b : Bool) (xs ys : List Outcome) → AllStay e xs → AllStay e ys → AllStay e (cond b xs ys)
stay_either e true xs ys p q = p
stay_either e false xs ys p q = q

if_running_stays : (e : Event) (a : State) (f : Running → List Outcome) → IsSpent a → ((r : Running) → r.held ≡ nothing → AllStay e (f r)) → AllStay e (if_running a f)
if_running_stays e (on a) f spent stays = stays a spent
if_running_stays e (off held kept) f spent stays = tt
if_running_stays e (booting from dump held k) f spent stays = tt
if_running_stays e (hibernating suspends i a k) f spent stays = tt
if_running_stays e (undoing i call a k) f spent stays = tt
if_running_stays e (settling a k) f spent stays = tt
if_running_stays e (waking i held a k) f spent stays = tt
if_running_stays e (loading load k) f spent stays = tt
if_running_stays e (asleep i held a) f spent stays = tt

woken_stays : (e : Event) (a : State) → IsSpent a → AllStay e (woken a)
woken_stays e (asleep i held a) spent = absurd spent
woken_stays e (off held kept) spent = tt
woken_stays e (on a) spent = tt
woken_stays e (booting from dump held k) spent = tt
woken_stays e (hibernating suspends i a k) spent = tt
woken_stays e (undoing i call a k) spent = tt
woken_stays e (settling a k) spent = tt
woken_stays e (waking i held a k) spent = tt
woken_stays e (loading load k) spent = tt

requested_stays : (e : Event) (h : Hardware) (t : ℕ) (o : TaskOp) (a : Running) → a.held ≡ nothing → AllStay e (requested h a t o)
requested_stays e h t (op.Claim p) a none = (inr (none, (λ is. is)), tt)
requested_stays e h t (op.Release p) a none = (inr (none, (λ is. is)), tt)
requested_stays e h t (op.Store p k v) a none = (inr (none, (λ is. is)), tt)
requested_stays e h t (op.Show p k) a none = (inr (none, (λ is. is)), tt)
requested_stays e h t (op.Cache p) a none = (inr (none, (λ is. is)), tt)
requested_stays e h t (op.Out p) a none = (inr (none, (λ is. is)), tt)
requested_stays e h t (op.TakeIn s p) a none = (inr (none, (λ is. is)), tt)

task_step_stays : (e : Event) (h : Hardware) (t : ℕ) (a : Running) (flight : Option Flight) → a.held ≡ nothing → AllStay e (task_step h a t flight)
task_step_stays e h t a None none = tt
task_step_stays e h t a (Some (goes_out s p)) none = (inr (none, (λ is. is)), (inr (none, (λ is. is)), tt))
task_step_stays e h t a (Some (comes_in s p)) none = (inr (none, (λ is. is)), (inr (none, (λ is. is)), tt))

held_booted : (h : Hardware) (v : disk.DiskImage) (from : BootFrom) (dump : Memory) → (booted h v from dump nothing).held ≡ nothing
held_booted h v Fresh dump = refl
held_booted h v Kept dump = refl

boots_stay : (e : Event) (h : Hardware) (v : disk.DiskImage) (from : BootFrom) (dump : Memory) (held : Held) → held ≡ nothing → AllStay e (boot_outcomes h v from dump held ++ only (reply.ReadFault Same) (off held None))
boots_stay e h v from dump nothing none = (inr (held_booted h v from dump, (λ is. is)), (inr (refl, (λ is. is)), tt))
boots_stay e h v from dump (sure x) none = absurd (cc)
boots_stay e h v from dump (maybe x) none = absurd (cc)

boot_step_stays : (e : Event) (h : Hardware) (v : disk.DiskImage) (from : BootFrom) (dump : Memory) (held : Held) (k : ℕ) → held ≡ nothing → AllStay e (boot_step h v from dump held k)
boot_step_stays e h v from dump held zero none = (inr (none, (λ is. is)), (inr (none, (λ is. is)), tt))
boot_step_stays e h v from dump held (suc zero) none = boots_stay e h v from dump held none
boot_step_stays e h v from dump held (suc (suc k)) none = tt

settle_step_stays : (e : Event) (a : Running) (k : ℕ) → a.held ≡ nothing → AllStay e (settle_step a k)
settle_step_stays e a zero none = (inr (none, (λ is. is)), (inr (none, (λ is. is)), tt))
settle_step_stays e a (suc zero) none = (inr (none, (λ is. is)), (inr (ap perhaps none, (λ is. is)), tt))
settle_step_stays e a (suc (suc zero)) none = (inr (refl, (λ is. is)), (inr (ap perhaps none, (λ is. is)), tt))
settle_step_stays e a (suc (suc (suc k))) none = tt

saved_nothing : (found : Found) (held : Held) → found ≡ not_yet → held ≡ nothing → saved_found found held ≡ nothing
saved_nothing not_yet held is none = none
saved_nothing (found_own i) held is none = absurd (cc)
saved_nothing (found_other v) held is none = absurd (cc)

saved_is_nothing : (load : Load) → load.held ≡ nothing → load.found ≡ not_yet → perhaps (saved_found load.found load.held) ≡ nothing
saved_is_nothing load none is = ap perhaps (saved_nothing load.found load.held is none)

load_fault_stays : (e : Event) (load : Load) (call : LoadCall) → load.held ≡ nothing → load.found ≡ not_yet → Stays e (fault_of_load load call)
load_fault_stays e load syncs_first none is = inr (none, (λ is. is))
load_fault_stays e load (of_mark reads_mark) none is = inr (none, (λ is. is))
load_fault_stays e load (of_mark takes_back) none is = inr (saved_is_nothing load none is, (λ is. is))
load_fault_stays e load (of_mark syncs_back) none is = inr (saved_is_nothing load none is, (λ is. is))
load_fault_stays e load reads_image none is = inr (refl, (λ is. is))

find_stays : (e : Event) (h : Hardware) (v : disk.DiskImage) (load : Load) (held : Held) → held ≡ nothing → AllStay e (find_step h v load held)
find_stays e h v load nothing none = (inr (refl, (λ is. is)), tt)
find_stays e h v load (sure x) none = absurd (cc)
find_stays e h v load (maybe x) none = absurd (cc)

loaded_stays : (e : Event) (h : Hardware) (load : Load) (found : Found) (k : ℕ) → found ≡ not_yet → AllStay e (loaded_step h load found k)
loaded_stays e h load not_yet k is = tt
loaded_stays e h load (found_own i) k is = absurd (cc)
loaded_stays e h load (found_other v) k is = absurd (cc)

load_answers_stay : (e : Event) (h : Hardware) (v : disk.DiskImage) (load : Load) (k : ℕ) → load.held ≡ nothing → load.found ≡ not_yet → AllStay e (load_answers h v load k)
load_answers_stay e h v load zero none is = (inr ((none, is), (λ no. no)), tt)
load_answers_stay e h v load (suc zero) none is = find_stays e h v load load.held none
load_answers_stay e h v load (suc (suc zero)) none is = loaded_stays e h load load.found 2 is
load_answers_stay e h v load (suc (suc (suc zero))) none is = loaded_stays e h load load.found 3 is
load_answers_stay e h v load (suc (suc (suc (suc k)))) none is = loaded_stays e h load load.found (suc (suc (suc (suc k)))) is

load_step_stays : (e : Event) (h : Hardware) (v : disk.DiskImage) (load : Load) (k : ℕ) → load.held ≡ nothing → load.found ≡ not_yet → AllStay e (load_step h v load k)
load_step_stays e h v load k none is =
    stay_either e (ltb k 4 || has_place h load load.found k) (load_fault load k ∷ load_answers h v load k) []
    (load_fault_stays e load (load_call k) none is, load_answers_stay e h v load k none is) tt

core_stays : (e : Event) (h : Hardware) (v : disk.DiskImage) (a : State) → IsSpent a → AllStay e (core_step h v a)
core_stays e h v (off held kept) spent = tt
core_stays e h v (on a) spent = tt
core_stays e h v (booting from dump held k) spent = boot_step_stays e h v from dump held k spent
core_stays e h v (hibernating suspends i a k) spent = absurd spent
core_stays e h v (undoing i call a k) spent = absurd spent
core_stays e h v (settling a k) spent = settle_step_stays e a k spent
core_stays e h v (waking i held a k) spent = absurd spent
core_stays e h v (loading load k) spent = load_step_stays e h v load k spent.0 spent.1
core_stays e h v (asleep i held a) spent = tt

back_nothing : (held : Held) (call : Option BackCall) → held ≡ nothing → held_back held call ≡ nothing
back_nothing held (Some reads_mark) none = none
back_nothing held (Some takes_back) none = none
back_nothing held (Some syncs_back) none = ap perhaps none
back_nothing held None none = ap perhaps none

loading_nothing : (load : Load) (call : LoadCall) → load.held ≡ nothing → load.found ≡ not_yet → held_loading load call ≡ nothing
loading_nothing load syncs_first none is = none
loading_nothing load (of_mark reads_mark) none is = none
loading_nothing load (of_mark takes_back) none is = saved_nothing load.found load.held is none
loading_nothing load (of_mark syncs_back) none is = saved_is_nothing load none is
loading_nothing load reads_image none is = refl

pub holds_nothing : (a : State) → IsSpent a → held_in a ≡ nothing
holds_nothing (off held kept) spent = spent
holds_nothing (on a) spent = spent
holds_nothing (booting from dump held k) spent = spent
holds_nothing (hibernating suspends i a k) spent = absurd spent
holds_nothing (undoing i call a k) spent = absurd spent
holds_nothing (settling a k) spent = back_nothing a.held (back_call k) spent
holds_nothing (waking i held a k) spent = absurd spent
holds_nothing (loading load k) spent = loading_nothing load (load_call k) spent.0 spent.1
holds_nothing (asleep i held a) spent = absurd spent

accepted_stays : (h : Hardware) (v : disk.DiskImage) (a : State) (e : Event) → IsSpent a → AllStay e (accepted h v a e)
accepted_stays h v a (event.Boot from) spent = (inr (holds_nothing a spent, (λ is. is)), tt)
accepted_stays h v a (event.Hibernate f) spent = if_running_stays (event.Hibernate f) a (begun h false f) spent (λ r none. (inl refl, tt))
accepted_stays h v a (event.Suspend f) spent = if_running_stays (event.Suspend f) a (begun h true f) spent (λ r none. (inl refl, tt))
accepted_stays h v a event.Wake spent = woken_stays event.Wake a spent
accepted_stays h v a event.Settle spent = if_running_stays event.Settle a (λ r. only (reply.More 0 3) (settling r 0)) spent (λ r none. (inr (none, (λ is. is)), tt))
accepted_stays h v a (event.Shrink want) spent =
    if_running_stays (event.Shrink want) a (λ r. only
    (reply.Shrunk (length (dropped_by h r.memory want)) (length (saveable h r.memory) - length (dropped_by h r.memory want)))
    (on (record r { memory = drop_memory h r.memory want }))) spent (λ r none. (inr (none, (λ is. is)), tt))
accepted_stays h v a (event.Resume l check) spent = (inr ((holds_nothing a spent, refl), (λ is. is)), tt)
accepted_stays h v a (event.Step actor.Core) spent = core_stays (event.Step actor.Core) h v a spent
accepted_stays h v a (event.Step (actor.Task t)) spent =
    if_running_stays (event.Step (actor.Task t)) a (λ r. task_step h r t (r.flights t)) spent (λ r none. task_step_stays (event.Step (actor.Task t)) h t r (r.flights t) none)
accepted_stays h v a (event.Task t o) spent = if_running_stays (event.Task t o) a (λ r. requested h r t o) spent (λ r none. requested_stays (event.Task t o) h t o r none)
accepted_stays h v a (event.Cut pick) spent = (inr (holds_nothing a spent, (λ is. is)), tt)
accepted_stays h v a (event.Arm first count pick) spent = (inr (spent, (λ is. is)), tt)

refused_or_stays : (e : Event) (a : State) (refused : Option Reply) (os : List Outcome) → IsSpent a → EndsNone refused → AllStay e os → AllStay e (refused_or a refused os)
refused_or_stays e a (Some r) os spent none taken = (inr (spent, (λ is. none (resumed_goes_on r is))), tt)
refused_or_stays e a None os spent none taken = taken

all_stay : (h : Hardware) (v : disk.DiskImage) (a : State) (e : Event) → IsSpent a → AllStay e (outcomes h v a e)
unfolding outcomes
all_stay h v a e spent = refused_or_stays e a (refusal h a e) (accepted h v a e) spent (refusal_ends_none h a e) (accepted_stays h v a e spent)

pub spent_stays : (h : Hardware) (v : disk.DiskImage) (a : State) (e : Event) (r : Reply) (b : State) → Step h v a e r b → IsSpent a → Stays e (r, b)
spent_stays h v a e r b step spent = All-contains (Stays e) (outcomes h v a e) (r, b) (All-from_recursion (Stays e) (outcomes h v a e) (all_stay h v a e spent)) step
