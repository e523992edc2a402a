-- A resume that ends leaves no image.
use Rattle.std.proofs.Common.{ℕ, ◌+◌, ◌-◌, ◌||◌, ◌&&◌, ◌++◌, not, length, Bool, true, false, cond, eqb, ltb, zero, suc, List, [], ◌∷◌, Option, Some, None, refl, slice_get}
use Rattle.std.specs.List.{AllByRecursion}
use Rattle.std.proofs.lemmas.List.Elements.{All-from_recursion, All-contains}
use Rattle.definitions.specs.Disk as disk
use Rattle.definitions.specs.NumberPages.{meta_of}
use Rattle.plain_machine.specs.Chain.{is_marked_disk}
use Rattle.plain_machine.specs.Machine.{Hardware, Memory, saveable}
use Rattle.plain_machine.specs.Image.{Image, SlotPages, n_of, d_of, resume_steps}
use Rattle.plain_machine.specs.Loader.{restored}
use Rattle.plain_machine.specs.Refusals.{refusal}
use Rattle.plain_machine.specs.State.{State, off, on, booting, hibernating, undoing, settling, waking, loading, asleep, Running, Held, nothing, sure, maybe, own, other, Flight, goes_out, comes_in, Load, Found, not_yet, found_own, found_other}
use Rattle.plain_machine.specs.Calls.{HibernationCall, writes_page, syncs_pages, reads_header, writes_mark, syncs_mark, hibernation_call, reads_mark, takes_back, syncs_back, LoadCall, syncs_first, of_mark, reads_image, load_call}
use Rattle.plain_machine.specs.Step.{Step, Outcome, only, outcomes, accepted, refused_or, if_running, woken, requested, task_step, begun, boot_outcomes, boot_step, core_step, hibernated, hibernation_outcomes, hibernate_step, undo_step, settle_step, wake_step, resumed, find_step, loaded_step, load_step, load_answers, has_place, load_fault, fault_of_load, own_step, other_step, other_state, too_few, has_room, undone_fault, drop_memory, dropped_by}
use Rattle.plain_machine.specs.Trace.{trace, restored_in, slots_in}
use Rattle.plain_machine.specs.declared.event.Actor.TheVariants as actor
use Rattle.plain_machine.specs.declared.event.BootFrom.{BootFrom}
use Rattle.plain_machine.specs.declared.event.Event.{Event}
use Rattle.plain_machine.specs.declared.event.Event.TheVariants as event
use Rattle.plain_machine.specs.declared.event.Loader.{Loader}
use Rattle.plain_machine.specs.declared.event.Loader.TheVariants as loader
use Rattle.plain_machine.specs.declared.event.TaskOp.{TaskOp}
use Rattle.plain_machine.specs.declared.event.TaskOp.TheVariants as op
use Rattle.plain_machine.specs.declared.reply.Left.{Left}
use Rattle.plain_machine.specs.declared.reply.Left.TheVariants.{Same, Gone, Unsure}
use Rattle.plain_machine.specs.declared.reply.Reply.{Reply}
use Rattle.plain_machine.specs.declared.reply.Reply.TheVariants as reply
use Rattle.plain_machine.specs.declared.reply.UndoCall.{UndoCall}
use Rattle.plain_machine.specs.declared.reply.UndoCall.TheVariants as undo
use Rattle.theorem_laws.proofs.Spent.{IsResumed, IsSpent, resumed_goes_on}
use Rattle.theorem_laws.proofs.Refused.{EndsNone, refusal_ends_none}

abbrev Spends : Outcome → Type 0
Spends outcome = IsResumed outcome.0 → IsSpent outcome.1

abbrev AllSpend : List Outcome → Type 0
AllSpend os = AllByRecursion Spends os

spend_either : (b : Bool) (xs ys : List Outcome) → AllSpend xs → AllSpend ys → AllSpend (cond b xs ys)
spend_either true xs ys p q = p
spend_either false xs ys p q = q

spends_either : (b : Bool) (x y : Outcome) → Spends x → Spends y → Spends (cond b x y)
spends_either true x y p q = p
spends_either false x y p q = q

if_running_spends : (a : State) (f : Running → List Outcome) → ((r : Running) → AllSpend (f r)) → AllSpend (if_running a f)
if_running_spends (on a) f spends = spends a
if_running_spends (off held kept) f spends = tt
if_running_spends (booting from dump held k) f spends = tt
if_running_spends (hibernating suspends i a k) f spends = tt
if_running_spends (undoing i call a k) f spends = tt
if_running_spends (settling a k) f spends = tt
if_running_spends (waking i held a k) f spends = tt
if_running_spends (loading load k) f spends = tt
if_running_spends (asleep i held a) f spends = tt

woken_spends : (a : State) → AllSpend (woken a)
woken_spends (asleep i held a) = ((λ is. absurd is), tt)
woken_spends (off held kept) = tt
woken_spends (on a) = tt
woken_spends (booting from dump held k) = tt
woken_spends (hibernating suspends i a k) = tt
woken_spends (undoing i call a k) = tt
woken_spends (settling a k) = tt
woken_spends (waking i held a k) = tt
woken_spends (loading load k) = tt

requested_spends : (h : Hardware) (t : ℕ) (o : TaskOp) (a : Running) → AllSpend (requested h a t o)
requested_spends h t (op.Claim p) a = ((λ is. absurd is), tt)
requested_spends h t (op.Release p) a = ((λ is. absurd is), tt)
requested_spends h t (op.Store p k v) a = ((λ is. absurd is), tt)
requested_spends h t (op.Show p k) a = ((λ is. absurd is), tt)
requested_spends h t (op.Cache p) a = ((λ is. absurd is), tt)
requested_spends h t (op.Out p) a = ((λ is. absurd is), tt)
requested_spends h t (op.TakeIn s p) a = ((λ is. absurd is), tt)

task_step_spends : (h : Hardware) (t : ℕ) (a : Running) (flight : Option Flight) → AllSpend (task_step h a t flight)
task_step_spends h t a None = tt
task_step_spends h t a (Some (goes_out s p)) = ((λ is. absurd is), ((λ is. absurd is), tt))
task_step_spends h t a (Some (comes_in s p)) = ((λ is. absurd is), ((λ is. absurd is), tt))

boots_spend : (h : Hardware) (v : disk.DiskImage) (from : BootFrom) (dump : Memory) (held : Held) → AllSpend (boot_outcomes h v from dump held ++ only (reply.ReadFault Same) (off held None))
boots_spend h v from dump nothing = ((λ is. absurd is), ((λ is. absurd is), tt))
boots_spend h v from dump (sure x) = ((λ is. absurd is), ((λ is. absurd is), tt))
boots_spend h v from dump (maybe x) = ((λ is. absurd is), ((λ is. absurd is), ((λ is. absurd is), tt)))

boot_step_spends : (h : Hardware) (v : disk.DiskImage) (from : BootFrom) (dump : Memory) (held : Held) (k : ℕ) → AllSpend (boot_step h v from dump held k)
boot_step_spends h v from dump held zero = ((λ is. absurd is), ((λ is. absurd is), tt))
boot_step_spends h v from dump held (suc zero) = boots_spend h v from dump held
boot_step_spends h v from dump held (suc (suc k)) = tt

hibernated_spends : (suspends : Bool) (i : Image) (a : Running) → Spends (hibernated suspends i a)
hibernated_spends false i a = λ is. absurd is
hibernated_spends true i a = λ is. absurd is

outcomes_spend : (suspends : Bool) (i : Image) (a : Running) (k : ℕ) (call : Option HibernationCall) → AllSpend (hibernation_outcomes suspends i a k call)
outcomes_spend suspends i a k None = tt
outcomes_spend suspends i a k (Some writes_page) = ((λ is. absurd is), ((λ is. absurd is), tt))
outcomes_spend suspends i a k (Some syncs_pages) = ((λ is. absurd is), ((λ is. absurd is), tt))
outcomes_spend suspends i a k (Some reads_header) = ((λ is. absurd is), ((λ is. absurd is), tt))
outcomes_spend suspends i a k (Some writes_mark) = ((λ is. absurd is), ((λ is. absurd is), tt))
outcomes_spend suspends i a k (Some syncs_mark) = (hibernated_spends suspends i a, ((λ is. absurd is), tt))

hibernate_step_spends : (suspends : Bool) (i : Image) (a : Running) (k : ℕ) → AllSpend (hibernate_step suspends i a k)
hibernate_step_spends suspends i a k = outcomes_spend suspends i a k (hibernation_call i k)

undone_spends : (call : UndoCall) (left : Left) (b : State) → Spends (undone_fault call left, b)
undone_spends undo.Write left b = λ is. absurd is
undone_spends undo.Sync left b = λ is. absurd is

undo_step_spends : (i : Image) (call : UndoCall) (a : Running) (k : ℕ) → AllSpend (undo_step i call a k)
undo_step_spends i call a zero = ((λ is. absurd is), (undone_spends call Unsure (on (record a { held = maybe (own i) })), tt))
undo_step_spends i call a (suc zero) =
    (undone_spends call Gone (on (record a { held = nothing })), (undone_spends call Unsure (on (record a { held = maybe (own i) })), tt))
undo_step_spends i call a (suc (suc k)) = tt

settle_step_spends : (a : Running) (k : ℕ) → AllSpend (settle_step a k)
settle_step_spends a zero = ((λ is. absurd is), ((λ is. absurd is), tt))
settle_step_spends a (suc zero) = ((λ is. absurd is), ((λ is. absurd is), tt))
settle_step_spends a (suc (suc zero)) = ((λ is. absurd is), ((λ is. absurd is), tt))
settle_step_spends a (suc (suc (suc k))) = tt

wake_step_spends : (i : Image) (held : Held) (a : Running) (k : ℕ) → AllSpend (wake_step i held a k)
wake_step_spends i held a zero = ((λ is. absurd is), ((λ is. absurd is), tt))
wake_step_spends i held a (suc zero) = ((λ is. absurd is), ((λ is. absurd is), tt))
wake_step_spends i held a (suc (suc zero)) = ((λ is. absurd is), ((λ is. absurd is), tt))
wake_step_spends i held a (suc (suc (suc k))) = tt

load_fault_spends : (load : Load) (call : LoadCall) → Spends (fault_of_load load call)
load_fault_spends load syncs_first = λ is. absurd is
load_fault_spends load (of_mark reads_mark) = λ is. absurd is
load_fault_spends load (of_mark takes_back) = λ is. absurd is
load_fault_spends load (of_mark syncs_back) = λ is. absurd is
load_fault_spends load reads_image = λ is. absurd is

resumed_spent : (m : Memory) (slots : SlotPages) (from : Loader) → IsSpent (resumed m slots from)
resumed_spent m slots (loader.Ranges ranges) = refl
resumed_spent m slots loader.Table = refl

other_state_spends : (h : Hardware) (load : Load) (v : disk.DiskImage) (k : ℕ) (r : Reply) → Spends (r, other_state h load v k r)
other_state_spends h load v k (reply.Resumed n) = λ is. resumed_spent (restored_in h load.dump v load.loader) (slots_in h v (restored_in h load.dump v load.loader)) load.loader
other_state_spends h load v k _ = λ is. absurd is

abbrev outcomes_of : Hardware → Load → disk.DiskImage → ℕ → Option Reply → List Outcome
outcomes_of h load v k o = elim o as (λ x. List Outcome) [ None ↦ [] | Some r ↦ only r (other_state h load v k r) ]

traced_spend : (h : Hardware) (load : Load) (v : disk.DiskImage) (k : ℕ) (o : Option Reply) → AllSpend (outcomes_of h load v k o)
traced_spend h load v k None = tt
traced_spend h load v k (Some r) = (other_state_spends h load v k r, tt)

other_step_spends : (h : Hardware) (load : Load) (v : disk.DiskImage) (k : ℕ) → AllSpend (other_step h load v k)
other_step_spends h load v k = traced_spend h load v k (slice_get (trace h load.dump v load.loader load.check) k)

own_step_spends : (h : Hardware) (load : Load) (i : Image) (k : ℕ) → Spends (own_step h load i k)
own_step_spends h load i k =
    let few = too_few h load (d_of i) in
    let done : Outcome = (reply.Resumed (n_of i), resumed (restored h load.dump load.loader i) i.slots load.loader) in
    let more : Outcome = (reply.Loading (k + 1), loading load (k + 1)) in
    spends_either (eqb (k + 1) (6 + meta_of (n_of i)) && not (has_room h load (d_of i))) few (cond (eqb (k + 1) (resume_steps i)) done more) (λ is. absurd is)
    (spends_either (eqb (k + 1) (resume_steps i)) done more (λ is. resumed_spent (restored h load.dump load.loader i) i.slots load.loader) (λ is. absurd is))

find_spends : (h : Hardware) (v : disk.DiskImage) (load : Load) (held : Held) → AllSpend (find_step h v load held)
find_spends h v load nothing = ((λ is. absurd is), tt)
find_spends h v load (sure (own i)) = ((λ is. absurd is), tt)
find_spends h v load (sure other) =
    let found = record load { found = found_other v } in
    spend_either (is_marked_disk h v) (other_step h found v 1) [] (other_step_spends h found v 1) tt
find_spends h v load (maybe (own i)) = ((λ is. absurd is), ((λ is. absurd is), tt))
find_spends h v load (maybe other) = other_step_spends h (record load { found = found_other v }) v 1

loaded_spends : (h : Hardware) (load : Load) (found : Found) (k : ℕ) → AllSpend (loaded_step h load found k)
loaded_spends h load not_yet k = tt
loaded_spends h load (found_own i) k = (own_step_spends h load i k, tt)
loaded_spends h load (found_other v) k = other_step_spends h load v k

load_answers_spend : (h : Hardware) (v : disk.DiskImage) (load : Load) (k : ℕ) → AllSpend (load_answers h v load k)
load_answers_spend h v load zero = ((λ is. absurd is), tt)
load_answers_spend h v load (suc zero) = find_spends h v load load.held
load_answers_spend h v load (suc (suc zero)) = loaded_spends h load load.found 2
load_answers_spend h v load (suc (suc (suc zero))) = loaded_spends h load load.found 3
load_answers_spend h v load (suc (suc (suc (suc k)))) = loaded_spends h load load.found (suc (suc (suc (suc k))))

load_step_spends : (h : Hardware) (v : disk.DiskImage) (load : Load) (k : ℕ) → AllSpend (load_step h v load k)
load_step_spends h v load k =
    spend_either (ltb k 4 || has_place h load load.found k) (load_fault load k ∷ load_answers h v load k) []
    (load_fault_spends load (load_call k), load_answers_spend h v load k) tt

core_spends : (h : Hardware) (v : disk.DiskImage) (a : State) → AllSpend (core_step h v a)
core_spends h v (off held kept) = tt
core_spends h v (on a) = tt
core_spends h v (booting from dump held k) = boot_step_spends h v from dump held k
core_spends h v (hibernating suspends i a k) = hibernate_step_spends suspends i a k
core_spends h v (undoing i call a k) = undo_step_spends i call a k
core_spends h v (settling a k) = settle_step_spends a k
core_spends h v (waking i held a k) = wake_step_spends i held a k
core_spends h v (loading load k) = load_step_spends h v load k
core_spends h v (asleep i held a) = tt

accepted_spends : (h : Hardware) (v : disk.DiskImage) (a : State) (e : Event) → AllSpend (accepted h v a e)
accepted_spends h v a (event.Boot from) = ((λ is. absurd is), tt)
accepted_spends h v a (event.Hibernate f) = if_running_spends a (begun h false f) (λ r. ((λ is. absurd is), tt))
accepted_spends h v a (event.Suspend f) = if_running_spends a (begun h true f) (λ r. ((λ is. absurd is), tt))
accepted_spends h v a event.Wake = woken_spends a
accepted_spends h v a event.Settle = if_running_spends a (λ r. only (reply.More 0 3) (settling r 0)) (λ r. ((λ is. absurd is), tt))
accepted_spends h v a (event.Shrink want) =
    if_running_spends a (λ r. only
    (reply.Shrunk (length (dropped_by h r.memory want)) (length (saveable h r.memory) - length (dropped_by h r.memory want)))
    (on (record r { memory = drop_memory h r.memory want }))) (λ r. ((λ is. absurd is), tt))
accepted_spends h v a (event.Resume l check) = ((λ is. absurd is), tt)
accepted_spends h v a (event.Step actor.Core) = core_spends h v a
accepted_spends h v a (event.Step (actor.Task t)) = if_running_spends a (λ r. task_step h r t (r.flights t)) (λ r. task_step_spends h t r (r.flights t))
accepted_spends h v a (event.Task t o) = if_running_spends a (λ r. requested h r t o) (λ r. requested_spends h t o r)
accepted_spends h v a (event.Cut pick) = ((λ is. absurd is), tt)
accepted_spends h v a (event.Arm first count pick) = ((λ is. absurd is), tt)

refused_or_spends : (a : State) (refused : Option Reply) (os : List Outcome) → EndsNone refused → AllSpend os → AllSpend (refused_or a refused os)
refused_or_spends a (Some r) os none taken = ((λ is. absurd (none (resumed_goes_on r is))), tt)
refused_or_spends a None os none taken = taken

all_spend : (h : Hardware) (v : disk.DiskImage) (a : State) (e : Event) → AllSpend (outcomes h v a e)
unfolding outcomes
all_spend h v a e = refused_or_spends a (refusal h a e) (accepted h v a e) (refusal_ends_none h a e) (accepted_spends h v a e)

pub resume_spends : (h : Hardware) (v : disk.DiskImage) (a : State) (e : Event) (r : Reply) (b : State) → Step h v a e r b → IsResumed r → IsSpent b
resume_spends h v a e r b step = All-contains Spends (outcomes h v a e) (r, b) (All-from_recursion Spends (outcomes h v a e) (all_spend h v a e)) step
