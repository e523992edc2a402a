-- What each step makes of a machine that is sent to sleep.
use Rattle.std.proofs.Common.{◌≡◌, ℕ, ◌+◌, ◌-◌, ◌||◌, ◌&&◌, ◌++◌, not, length, Bool, true, false, cond, eqb, ltb, zero, suc, List, [], ◌∷◌, Option, Some, None, refl, ◌⊎◌, inl, inr}
use Rattle.std.specs.Prelude.{⊤}
use Rattle.std.specs.List.{AllByRecursion}
use Rattle.std.proofs.lemmas.Bool.{false≢true}
use Rattle.std.proofs.lemmas.List.Elements.{All-from_recursion, All-contains}
use Rattle.page_core.specs.declared.format.Format.{Format}
use Rattle.definitions.specs.Disk as disk
use Rattle.definitions.specs.NumberPages.{meta_of}
use Rattle.plain_machine.specs.Machine.{Hardware, Memory, saveable}
use Rattle.plain_machine.specs.Image.{Image, SlotPages, image_of_memory, n_of, d_of, hibernate_steps, resume_steps}
use Rattle.plain_machine.specs.Loader.{restored}
use Rattle.plain_machine.specs.Refusals.{refusal}
use Rattle.plain_machine.specs.State.{State, off, on, booting, hibernating, undoing, settling, waking, loading, asleep, Running, Held, nothing, sure, maybe, perhaps, own, other, Flight, goes_out, comes_in, Load, Found, not_yet, found_own, found_other, held_in, kept_in, held_back}
use Rattle.plain_machine.specs.Calls.{HibernationCall, writes_page, syncs_pages, reads_header, writes_mark, syncs_mark, hibernation_call, BackCall, reads_mark, takes_back, syncs_back, back_call, LoadCall, syncs_first, of_mark, reads_image, load_call}
use Rattle.plain_machine.specs.Step.{Step, Outcome, only, outcomes, accepted, refused_or, if_running, woken, requested, task_step, begun, boot_outcomes, boot_step, core_step, hibernated, hibernation_outcomes, hibernate_step, undo_step, settle_step, wake_step, resumed, find_step, loaded_step, load_step, load_answers, has_place, load_fault, fault_of_load, own_step, too_few, has_room, undone_fault, drop_memory, dropped_by}
use Rattle.plain_machine.specs.declared.event.Actor.TheVariants as actor
use Rattle.plain_machine.specs.declared.event.BootFrom.{BootFrom}
use Rattle.plain_machine.specs.declared.event.Event.{Event}
use Rattle.plain_machine.specs.declared.event.Event.TheVariants as event
use Rattle.plain_machine.specs.declared.event.Loader.{Loader}
use Rattle.plain_machine.specs.declared.event.Loader.TheVariants as loader
use Rattle.plain_machine.specs.declared.event.TaskOp.{TaskOp}
use Rattle.plain_machine.specs.declared.event.TaskOp.TheVariants as op
use Rattle.plain_machine.specs.declared.reply.Left.{Left}
use Rattle.plain_machine.specs.declared.reply.Left.TheVariants.{Same, Gone, Unsure}
use Rattle.plain_machine.specs.declared.reply.Reply.{Reply}
use Rattle.plain_machine.specs.declared.reply.Reply.TheVariants as reply
use Rattle.plain_machine.specs.declared.reply.UndoCall.{UndoCall}
use Rattle.plain_machine.specs.declared.reply.UndoCall.TheVariants as undo
use Rattle.theorem_laws.specs.Sleeps.{HoldsOwn, is_of_task, is_refusal}
use Rattle.theorem_laws.proofs.Spent.{GoesOn}
use Rattle.theorem_laws.proofs.Refused.{EndsNone, refusal_ends_none}
use Rattle.theorem_laws.proofs.Keeping.{IsOnly, FindsOnly, HasOnly}

-- the machine that a suspend saved, up to where it is woken
abbrev pub sleeper : State → Option Running
sleeper (off held kept) = None
sleeper (on a) = None
sleeper (booting from dump held k) = None
sleeper (hibernating false i a k) = None
sleeper (hibernating true i a k) = Some a
sleeper (undoing i call a k) = None
sleeper (settling a k) = None
sleeper (waking i held a k) = Some a
sleeper (loading load k) = None
sleeper (asleep i held a) = Some a

-- the machine sleeps, or is being woken, and the image that it made is on the disk, surely or perhaps
abbrev pub IsSleeping : State → Type 0
IsSleeping (waking i held a k) = HoldsOwn held
IsSleeping (asleep i held a) = HoldsOwn held
IsSleeping _ = ⊥

-- the reply says that a machine fell asleep or woke
abbrev pub IsOfSleep : Reply → Type 0
IsOfSleep (reply.Asleep n) = ⊤
IsOfSleep reply.Woken = ⊤
IsOfSleep _ = ⊥

of_sleep_goes_on : (r : Reply) → IsOfSleep r → GoesOn r
of_sleep_goes_on (reply.Asleep n) is = tt
of_sleep_goes_on reply.Woken is = tt
of_sleep_goes_on _ is = absurd is

abbrev pub is_cut : Event → Bool
is_cut (event.Cut pick) = true
is_cut _ = false

-- What an outcome makes of it: it is saved by a suspend, falls asleep, wakes, or none of these, and is there no more or as before.

abbrev pub Suspends : State → Event → Outcome → Type 0
Suspends a e o =
    (f : Format) × (step steps : ℕ) × (before : Running) × (e ≡ event.Suspend f) × (o.0 ≡ reply.More step steps) × (a ≡ on before) × (sleeper o.1 ≡ Some before)

abbrev pub FallsAsleep : State → Event → Outcome → Type 0
FallsAsleep a e o = (n : ℕ) × (o.0 ≡ reply.Asleep n) × (sleeper o.1 ≡ sleeper a) × (is_cut e ≡ false) × IsSleeping o.1

abbrev pub Wakes : State → Outcome → Type 0
Wakes a o = (before : Running) × (o.0 ≡ reply.Woken) × (sleeper a ≡ Some before) × (o.1 ≡ on (record before { held = nothing }))

abbrev pub Passes : State → Event → Outcome → Type 0
Passes a e o = (IsOfSleep o.0 → ⊥) × ((sleeper o.1 ≡ None) ⊎ ((sleeper o.1 ≡ sleeper a) × (is_cut e ≡ false)))

abbrev pub Moves : State → Event → Outcome → Type 0
Moves a e o = Passes a e o ⊎ (Suspends a e o ⊎ (FallsAsleep a e o ⊎ Wakes a o))

abbrev AllMove : State → Event → List Outcome → Type 0
AllMove a e os = AllByRecursion (Moves a e) os

move_either : (a : State) (e : Event) (b : Bool) (xs ys : List Outcome) → AllMove a e xs → AllMove a e ys → AllMove a e (cond b xs ys)
move_either a e true xs ys p q = p
move_either a e false xs ys p q = q

moves_either : (a : State) (e : Event) (b : Bool) (x y : Outcome) → Moves a e x → Moves a e y → Moves a e (cond b x y)
moves_either a e true x y p q = p
moves_either a e false x y p q = q

if_running_moves : (a : State) (e : Event) (f : Running → List Outcome) → ((r : Running) → AllMove (on r) e (f r)) → AllMove a e (if_running a f)
if_running_moves (on a) e f moves = moves a
if_running_moves (off held kept) e f moves = tt
if_running_moves (booting from dump held k) e f moves = tt
if_running_moves (hibernating suspends i a k) e f moves = tt
if_running_moves (undoing i call a k) e f moves = tt
if_running_moves (settling a k) e f moves = tt
if_running_moves (waking i held a k) e f moves = tt
if_running_moves (loading load k) e f moves = tt
if_running_moves (asleep i held a) e f moves = tt

woken_moves : (a : State) → AllMove a event.Wake (woken a)
woken_moves (asleep i held a) = (inl ((λ is. is), inr (refl, refl)), tt)
woken_moves (off held kept) = tt
woken_moves (on a) = tt
woken_moves (booting from dump held k) = tt
woken_moves (hibernating suspends i a k) = tt
woken_moves (undoing i call a k) = tt
woken_moves (settling a k) = tt
woken_moves (waking i held a k) = tt
woken_moves (loading load k) = tt

requested_moves : (a : State) (e : Event) (h : Hardware) (t : ℕ) (o : TaskOp) (r : Running) → AllMove a e (requested h r t o)
requested_moves a e h t (op.Claim p) r = (inl ((λ is. is), inl refl), tt)
requested_moves a e h t (op.Release p) r = (inl ((λ is. is), inl refl), tt)
requested_moves a e h t (op.Store p k v) r = (inl ((λ is. is), inl refl), tt)
requested_moves a e h t (op.Show p k) r = (inl ((λ is. is), inl refl), tt)
requested_moves a e h t (op.Cache p) r = (inl ((λ is. is), inl refl), tt)
requested_moves a e h t (op.Out p) r = (inl ((λ is. is), inl refl), tt)
requested_moves a e h t (op.TakeIn s p) r = (inl ((λ is. is), inl refl), tt)

task_step_moves : (a : State) (e : Event) (h : Hardware) (t : ℕ) (r : Running) (flight : Option Flight) → AllMove a e (task_step h r t flight)
task_step_moves a e h t r None = tt
task_step_moves a e h t r (Some (goes_out s p)) = (inl ((λ is. is), inl refl), (inl ((λ is. is), inl refl), tt))
task_step_moves a e h t r (Some (comes_in s p)) = (inl ((λ is. is), inl refl), (inl ((λ is. is), inl refl), tt))

boots_move : (a : State) (e : Event) (h : Hardware) (v : disk.DiskImage) (from : BootFrom) (dump : Memory) (held : Held) → AllMove a e (boot_outcomes h v from dump held ++ only (reply.ReadFault Same) (off held None))
boots_move a e h v from dump nothing = (inl ((λ is. is), inl refl), (inl ((λ is. is), inl refl), tt))
boots_move a e h v from dump (sure x) = (inl ((λ is. is), inl refl), (inl ((λ is. is), inl refl), tt))
boots_move a e h v from dump (maybe x) = (inl ((λ is. is), inl refl), (inl ((λ is. is), inl refl), (inl ((λ is. is), inl refl), tt)))

boot_step_moves : (a : State) (e : Event) (h : Hardware) (v : disk.DiskImage) (from : BootFrom) (dump : Memory) (held : Held) (k : ℕ) → AllMove a e (boot_step h v from dump held k)
boot_step_moves a e h v from dump held zero = (inl ((λ is. is), inl refl), (inl ((λ is. is), inl refl), tt))
boot_step_moves a e h v from dump held (suc zero) = boots_move a e h v from dump held
boot_step_moves a e h v from dump held (suc (suc k)) = tt

-- the step goes on, or fails, or is the last
outcomes_move : (here : State) (e : Event) (suspends : Bool) (i : Image) (a : Running) (k : ℕ) (call : Option HibernationCall) →
    Moves here e (reply.More (k + 1) (hibernate_steps i), hibernating suspends i a (k + 1)) →
    Moves here e (hibernated suspends i a) → AllMove here e (hibernation_outcomes suspends i a k call)
outcomes_move here e suspends i a k None goes ends = tt
outcomes_move here e suspends i a k (Some writes_page) goes ends = (goes, (inl ((λ is. is), inl refl), tt))
outcomes_move here e suspends i a k (Some syncs_pages) goes ends = (goes, (inl ((λ is. is), inl refl), tt))
outcomes_move here e suspends i a k (Some reads_header) goes ends = (goes, (inl ((λ is. is), inl refl), tt))
outcomes_move here e suspends i a k (Some writes_mark) goes ends = (goes, (inl ((λ is. is), inl refl), tt))
outcomes_move here e suspends i a k (Some syncs_mark) goes ends = (ends, (inl ((λ is. is), inl refl), tt))

hibernate_step_moves : (e : Event) (suspends : Bool) (i : Image) (a : Running) (k : ℕ) → is_cut e ≡ false →
    sleeper (hibernating suspends i a (k + 1)) ≡ sleeper (hibernating suspends i a k) →
    Moves (hibernating suspends i a k) e (hibernated suspends i a) → AllMove (hibernating suspends i a k) e (hibernate_step suspends i a k)
hibernate_step_moves e suspends i a k uncut same ends =
    outcomes_move (hibernating suspends i a k) e suspends i a k (hibernation_call i k) (inl ((λ is. is), inr (same, uncut))) ends

undone_moves : (a : State) (e : Event) (call : UndoCall) (left : Left) (r : Running) → Moves a e (undone_fault call left, on r)
undone_moves a e undo.Write left r = inl ((λ is. is), inl refl)
undone_moves a e undo.Sync left r = inl ((λ is. is), inl refl)

undo_step_moves : (a : State) (e : Event) (i : Image) (call : UndoCall) (r : Running) (k : ℕ) → AllMove a e (undo_step i call r k)
undo_step_moves a e i call r zero = (inl ((λ is. is), inl refl), (undone_moves a e call Unsure (record r { held = maybe (own i) }), tt))
undo_step_moves a e i call r (suc zero) =
    (undone_moves a e call Gone (record r { held = nothing }), (undone_moves a e call Unsure (record r { held = maybe (own i) }), tt))
undo_step_moves a e i call r (suc (suc k)) = tt

settle_step_moves : (a : State) (e : Event) (r : Running) (k : ℕ) → AllMove a e (settle_step r k)
settle_step_moves a e r zero = (inl ((λ is. is), inl refl), (inl ((λ is. is), inl refl), tt))
settle_step_moves a e r (suc zero) = (inl ((λ is. is), inl refl), (inl ((λ is. is), inl refl), tt))
settle_step_moves a e r (suc (suc zero)) = (inl ((λ is. is), inl refl), (inl ((λ is. is), inl refl), tt))
settle_step_moves a e r (suc (suc (suc k))) = tt

wake_step_moves : (e : Event) (i : Image) (held : Held) (a : Running) (k : ℕ) → is_cut e ≡ false → AllMove (waking i held a k) e (wake_step i held a k)
wake_step_moves e i held a zero uncut = (inl ((λ is. is), inr (refl, uncut)), (inl ((λ is. is), inr (refl, uncut)), tt))
wake_step_moves e i held a (suc zero) uncut = (inl ((λ is. is), inr (refl, uncut)), (inl ((λ is. is), inr (refl, uncut)), tt))
wake_step_moves e i held a (suc (suc zero)) uncut = (inr (inr (inr (a, refl, refl, refl))), (inl ((λ is. is), inr (refl, uncut)), tt))
wake_step_moves e i held a (suc (suc (suc k))) uncut = tt

load_fault_moves : (a : State) (e : Event) (load : Load) (call : LoadCall) → Moves a e (fault_of_load load call)
load_fault_moves a e load syncs_first = inl ((λ is. is), inl refl)
load_fault_moves a e load (of_mark reads_mark) = inl ((λ is. is), inl refl)
load_fault_moves a e load (of_mark takes_back) = inl ((λ is. is), inl refl)
load_fault_moves a e load (of_mark syncs_back) = inl ((λ is. is), inl refl)
load_fault_moves a e load reads_image = inl ((λ is. is), inl refl)

find_moves : (a : State) (e : Event) (h : Hardware) (v : disk.DiskImage) (i : Image) (load : Load) (held : Held) → IsOnly i held → AllMove a e (find_step h v load held)
find_moves a e h v i load nothing is = (inl ((λ is. is), inl refl), tt)
find_moves a e h v i load (sure (own j)) is = (inl ((λ is. is), inl refl), tt)
find_moves a e h v i load (sure other) is = absurd is
find_moves a e h v i load (maybe (own j)) is = (inl ((λ is. is), inl refl), (inl ((λ is. is), inl refl), tt))
find_moves a e h v i load (maybe other) is = absurd is

resumed_moves : (a : State) (e : Event) (n : ℕ) (m : Memory) (slots : SlotPages) (from : Loader) → Moves a e (reply.Resumed n, resumed m slots from)
resumed_moves a e n m slots (loader.Ranges ranges) = inl ((λ is. is), inl refl)
resumed_moves a e n m slots loader.Table = inl ((λ is. is), inl refl)

own_step_moves : (a : State) (e : Event) (h : Hardware) (load : Load) (j : Image) (k : ℕ) → Moves a e (own_step h load j k)
own_step_moves a e h load j k =
    let few = too_few h load (d_of j) in
    let done : Outcome = (reply.Resumed (n_of j), resumed (restored h load.dump load.loader j) j.slots load.loader) in
    let more : Outcome = (reply.Loading (k + 1), loading load (k + 1)) in
    moves_either a e (eqb (k + 1) (6 + meta_of (n_of j)) && not (has_room h load (d_of j))) few (cond (eqb (k + 1) (resume_steps j)) done more) (inl ((λ is. is), inl refl))
    (moves_either a e (eqb (k + 1) (resume_steps j)) done more (resumed_moves a e (n_of j) (restored h load.dump load.loader j) j.slots load.loader) (inl ((λ is. is), inl refl)))

loaded_moves : (a : State) (e : Event) (h : Hardware) (i : Image) (load : Load) (found : Found) (k : ℕ) → FindsOnly i found → AllMove a e (loaded_step h load found k)
loaded_moves a e h i load not_yet k finds = tt
loaded_moves a e h i load (found_own j) k finds = (own_step_moves a e h load j k, tt)
loaded_moves a e h i load (found_other v) k finds = absurd finds

load_answers_move : (a : State) (e : Event) (h : Hardware) (v : disk.DiskImage) (i : Image) (load : Load) (k : ℕ) → IsOnly i load.held → FindsOnly i load.found → AllMove a e (load_answers h v load k)
load_answers_move a e h v i load zero is finds = (inl ((λ is. is), inl refl), tt)
load_answers_move a e h v i load (suc zero) is finds = find_moves a e h v i load load.held is
load_answers_move a e h v i load (suc (suc zero)) is finds = loaded_moves a e h i load load.found 2 finds
load_answers_move a e h v i load (suc (suc (suc zero))) is finds = loaded_moves a e h i load load.found 3 finds
load_answers_move a e h v i load (suc (suc (suc (suc k)))) is finds = loaded_moves a e h i load load.found (suc (suc (suc (suc k)))) finds

load_step_moves : (a : State) (e : Event) (h : Hardware) (v : disk.DiskImage) (i : Image) (load : Load) (k : ℕ) → IsOnly i load.held → FindsOnly i load.found → AllMove a e (load_step h v load k)
load_step_moves a e h v i load k is finds =
    move_either a e (ltb k 4 || has_place h load load.found k) (load_fault load k ∷ load_answers h v load k) []
    (load_fault_moves a e load (load_call k), load_answers_move a e h v i load k is finds) tt

core_moves : (h : Hardware) (v : disk.DiskImage) (i : Image) (a : State) → HasOnly i a → AllMove a (event.Step actor.Core) (core_step h v a)
core_moves h v i (off held kept) is = tt
core_moves h v i (on a) is = tt
core_moves h v i (booting from dump held k) is = boot_step_moves (booting from dump held k) (event.Step actor.Core) h v from dump held k
core_moves h v i (hibernating false j a k) is = hibernate_step_moves (event.Step actor.Core) false j a k refl refl (inl ((λ is. is), inl refl))
core_moves h v i (hibernating true j a k) is = hibernate_step_moves (event.Step actor.Core) true j a k refl refl (inr (inr (inl (n_of j, refl, refl, refl, tt))))
core_moves h v i (undoing j call a k) is = undo_step_moves (undoing j call a k) (event.Step actor.Core) j call a k
core_moves h v i (settling a k) is = settle_step_moves (settling a k) (event.Step actor.Core) a k
core_moves h v i (waking j held a k) is = wake_step_moves (event.Step actor.Core) j held a k refl
core_moves h v i (loading load k) is = load_step_moves (loading load k) (event.Step actor.Core) h v i load k is.0 is.1
core_moves h v i (asleep j held a) is = tt

accepted_moves : (h : Hardware) (v : disk.DiskImage) (i : Image) (a : State) (e : Event) → HasOnly i a → AllMove a e (accepted h v a e)
accepted_moves h v i a (event.Boot from) is = (inl ((λ is. is), inl refl), tt)
accepted_moves h v i a (event.Hibernate f) is = if_running_moves a (event.Hibernate f) (begun h false f) (λ r. (inl ((λ is. is), inl refl), tt))
accepted_moves h v i a (event.Suspend f) is =
    if_running_moves a (event.Suspend f) (begun h true f)
    (λ r. (inr (inl (f, 0, hibernate_steps (image_of_memory h r.memory r.slots f), r, refl, refl, refl, refl)), tt))
accepted_moves h v i a event.Wake is = woken_moves a
accepted_moves h v i a event.Settle is = if_running_moves a event.Settle (λ r. only (reply.More 0 3) (settling r 0)) (λ r. (inl ((λ is. is), inl refl), tt))
accepted_moves h v i a (event.Shrink want) is =
    if_running_moves a (event.Shrink want) (λ r. only
    (reply.Shrunk (length (dropped_by h r.memory want)) (length (saveable h r.memory) - length (dropped_by h r.memory want)))
    (on (record r { memory = drop_memory h r.memory want }))) (λ r. (inl ((λ is. is), inl refl), tt))
accepted_moves h v i a (event.Resume l check) is = (inl ((λ is. is), inl refl), tt)
accepted_moves h v i a (event.Step actor.Core) is = core_moves h v i a is
accepted_moves h v i a (event.Step (actor.Task t)) is =
    if_running_moves a (event.Step (actor.Task t)) (λ r. task_step h r t (r.flights t)) (λ r. task_step_moves (on r) (event.Step (actor.Task t)) h t r (r.flights t))
accepted_moves h v i a (event.Task t o) is = if_running_moves a (event.Task t o) (λ r. requested h r t o) (λ r. requested_moves (on r) (event.Task t o) h t o r)
accepted_moves h v i a (event.Cut pick) is = (inl ((λ is. is), inl refl), tt)
accepted_moves h v i a (event.Arm first count pick) is = (inl ((λ is. is), inr (refl, refl)), tt)

refused_or_moves : (a : State) (e : Event) (refused : Option Reply) (os : List Outcome) → is_cut e ≡ false → EndsNone refused → AllMove a e os → AllMove a e (refused_or a refused os)
refused_or_moves a e (Some r) os uncut none taken = (inl ((λ is. none (of_sleep_goes_on r is)), inr (refl, uncut)), tt)
refused_or_moves a e None os uncut none taken = taken

all_move : (h : Hardware) (v : disk.DiskImage) (i : Image) (a : State) (e : Event) → HasOnly i a → AllMove a e (outcomes h v a e)
unfolding outcomes refusal
all_move h v i a (event.Cut pick) is = accepted_moves h v i a (event.Cut pick) is
all_move h v i a (event.Boot from) is = refused_or_moves a (event.Boot from) (refusal h a (event.Boot from)) (accepted h v a (event.Boot from)) refl (refusal_ends_none h a (event.Boot from)) (accepted_moves h v i a (event.Boot from) is)
all_move h v i a (event.Hibernate f) is = refused_or_moves a (event.Hibernate f) (refusal h a (event.Hibernate f)) (accepted h v a (event.Hibernate f)) refl (refusal_ends_none h a (event.Hibernate f)) (accepted_moves h v i a (event.Hibernate f) is)
all_move h v i a (event.Suspend f) is = refused_or_moves a (event.Suspend f) (refusal h a (event.Suspend f)) (accepted h v a (event.Suspend f)) refl (refusal_ends_none h a (event.Suspend f)) (accepted_moves h v i a (event.Suspend f) is)
all_move h v i a event.Wake is = refused_or_moves a event.Wake (refusal h a event.Wake) (accepted h v a event.Wake) refl (refusal_ends_none h a event.Wake) (accepted_moves h v i a event.Wake is)
all_move h v i a event.Settle is = refused_or_moves a event.Settle (refusal h a event.Settle) (accepted h v a event.Settle) refl (refusal_ends_none h a event.Settle) (accepted_moves h v i a event.Settle is)
all_move h v i a (event.Shrink want) is = refused_or_moves a (event.Shrink want) (refusal h a (event.Shrink want)) (accepted h v a (event.Shrink want)) refl (refusal_ends_none h a (event.Shrink want)) (accepted_moves h v i a (event.Shrink want) is)
all_move h v i a (event.Resume l check) is = refused_or_moves a (event.Resume l check) (refusal h a (event.Resume l check)) (accepted h v a (event.Resume l check)) refl (refusal_ends_none h a (event.Resume l check)) (accepted_moves h v i a (event.Resume l check) is)
all_move h v i a (event.Step x) is = refused_or_moves a (event.Step x) (refusal h a (event.Step x)) (accepted h v a (event.Step x)) refl (refusal_ends_none h a (event.Step x)) (accepted_moves h v i a (event.Step x) is)
all_move h v i a (event.Task t o) is = refused_or_moves a (event.Task t o) (refusal h a (event.Task t o)) (accepted h v a (event.Task t o)) refl (refusal_ends_none h a (event.Task t o)) (accepted_moves h v i a (event.Task t o) is)
all_move h v i a (event.Arm first count pick) is = accepted_moves h v i a (event.Arm first count pick) is

pub step_moves : (h : Hardware) (v : disk.DiskImage) (i : Image) (a : State) (e : Event) (r : Reply) (b : State) → Step h v a e r b → HasOnly i a → Moves a e (r, b)
step_moves h v i a e r b step is = All-contains (Moves a e) (outcomes h v a e) (r, b) (All-from_recursion (Moves a e) (outcomes h v a e) (all_move h v i a e is)) step

-- While it sleeps tasks are refused, until it is woken or its power is cut.

abbrev pub Rests : Event → Outcome → Type 0
Rests e o =
    ((pick : ℕ) × (e ≡ event.Cut pick))
    ⊎ (((o.0 ≡ reply.Woken) × (is_of_task e ≡ false))
    ⊎ (IsSleeping o.1 × (is_of_task e ≡ true → is_refusal o.0 ≡ true)))

abbrev AllRest : Event → List Outcome → Type 0
AllRest e os = AllByRecursion (Rests e) os

holds_perhaps : (held : Held) → HoldsOwn held → HoldsOwn (perhaps held)
holds_perhaps nothing has = absurd has
holds_perhaps (sure (own i)) has = tt
holds_perhaps (sure other) has = absurd has
holds_perhaps (maybe (own i)) has = tt
holds_perhaps (maybe other) has = absurd has

wake_step_rests : (i : Image) (held : Held) (a : Running) (k : ℕ) → HoldsOwn held → AllRest (event.Step actor.Core) (wake_step i held a k)
wake_step_rests i held a zero has = (inr (inr (has, (λ is. absurd (false≢true is)))), (inr (inr (has, (λ is. absurd (false≢true is)))), tt))
wake_step_rests i held a (suc zero) has = (inr (inr (has, (λ is. absurd (false≢true is)))), (inr (inr (holds_perhaps held has, (λ is. absurd (false≢true is)))), tt))
wake_step_rests i held a (suc (suc zero)) has = (inr (inl (refl, refl)), (inr (inr (holds_perhaps held has, (λ is. absurd (false≢true is)))), tt))
wake_step_rests i held a (suc (suc (suc k))) has = tt

asleep_rests : (h : Hardware) (v : disk.DiskImage) (i : Image) (held : Held) (a : Running) (e : Event) → HoldsOwn held → AllRest e (outcomes h v (asleep i held a) e)
unfolding outcomes refusal
asleep_rests h v i held a (event.Boot from) has = (inr (inr (has, (λ is. absurd (false≢true is)))), tt)
asleep_rests h v i held a (event.Hibernate f) has = (inr (inr (has, (λ is. absurd (false≢true is)))), tt)
asleep_rests h v i held a (event.Suspend f) has = (inr (inr (has, (λ is. absurd (false≢true is)))), tt)
asleep_rests h v i held a event.Wake has = (inr (inr (has, (λ is. absurd (false≢true is)))), tt)
asleep_rests h v i held a event.Settle has = (inr (inr (has, (λ is. absurd (false≢true is)))), tt)
asleep_rests h v i held a (event.Shrink want) has = (inr (inr (has, (λ is. absurd (false≢true is)))), tt)
asleep_rests h v i held a (event.Resume l check) has = (inr (inr (has, (λ is. absurd (false≢true is)))), tt)
asleep_rests h v i held a (event.Step actor.Core) has = (inr (inr (has, (λ is. absurd (false≢true is)))), tt)
asleep_rests h v i held a (event.Step (actor.Task t)) has = (inr (inr (has, (λ is. refl))), tt)
asleep_rests h v i held a (event.Task t o) has = (inr (inr (has, (λ is. refl))), tt)
asleep_rests h v i held a (event.Cut pick) has = (inl (pick, refl), tt)
asleep_rests h v i held a (event.Arm first count pick) has = (inr (inr (has, (λ is. absurd (false≢true is)))), tt)

waking_rests : (h : Hardware) (v : disk.DiskImage) (i : Image) (held : Held) (a : Running) (k : ℕ) (e : Event) → HoldsOwn held → AllRest e (outcomes h v (waking i held a k) e)
unfolding outcomes refusal
waking_rests h v i held a k (event.Boot from) has = (inr (inr (has, (λ is. absurd (false≢true is)))), tt)
waking_rests h v i held a k (event.Hibernate f) has = (inr (inr (has, (λ is. absurd (false≢true is)))), tt)
waking_rests h v i held a k (event.Suspend f) has = (inr (inr (has, (λ is. absurd (false≢true is)))), tt)
waking_rests h v i held a k event.Wake has = (inr (inr (has, (λ is. absurd (false≢true is)))), tt)
waking_rests h v i held a k event.Settle has = (inr (inr (has, (λ is. absurd (false≢true is)))), tt)
waking_rests h v i held a k (event.Shrink want) has = (inr (inr (has, (λ is. absurd (false≢true is)))), tt)
waking_rests h v i held a k (event.Resume l check) has = (inr (inr (has, (λ is. absurd (false≢true is)))), tt)
waking_rests h v i held a k (event.Step actor.Core) has = wake_step_rests i held a k has
waking_rests h v i held a k (event.Step (actor.Task t)) has = (inr (inr (has, (λ is. refl))), tt)
waking_rests h v i held a k (event.Task t o) has = (inr (inr (has, (λ is. refl))), tt)
waking_rests h v i held a k (event.Cut pick) has = (inl (pick, refl), tt)
waking_rests h v i held a k (event.Arm first count pick) has = (inr (inr (has, (λ is. absurd (false≢true is)))), tt)

all_rest : (h : Hardware) (v : disk.DiskImage) (a : State) (e : Event) → IsSleeping a → AllRest e (outcomes h v a e)
all_rest h v (waking i held a k) e is = waking_rests h v i held a k e is
all_rest h v (asleep i held a) e is = asleep_rests h v i held a e is
all_rest h v _ e is = absurd is

pub step_rests : (h : Hardware) (v : disk.DiskImage) (a : State) (e : Event) (r : Reply) (b : State) → Step h v a e r b → IsSleeping a → Rests e (r, b)
step_rests h v a e r b step is = All-contains (Rests e) (outcomes h v a e) (r, b) (All-from_recursion (Rests e) (outcomes h v a e) (all_rest h v a e is)) step

-- What a cut leaves.

cut_leaves : (h : Hardware) (v : disk.DiskImage) (a : State) (pick : ℕ) → AllByRecursion (λ o. o.1 ≡ off (held_in a) (kept_in a)) (outcomes h v a (event.Cut pick))
unfolding outcomes refusal
cut_leaves h v a pick = (refl, tt)

pub left_by_cut : (h : Hardware) (v : disk.DiskImage) (a : State) (pick : ℕ) (r : Reply) (b : State) → Step h v a (event.Cut pick) r b → b ≡ off (held_in a) (kept_in a)
left_by_cut h v a pick r b step =
    All-contains (λ o. o.1 ≡ off (held_in a) (kept_in a)) (outcomes h v a (event.Cut pick)) (r, b)
    (All-from_recursion (λ o. o.1 ≡ off (held_in a) (kept_in a)) (outcomes h v a (event.Cut pick)) (cut_leaves h v a pick)) step

own_back : (held : Held) (call : Option BackCall) → HoldsOwn held → HoldsOwn (held_back held call)
own_back held (Some reads_mark) has = has
own_back held (Some takes_back) has = has
own_back held (Some syncs_back) has = holds_perhaps held has
own_back held None has = holds_perhaps held has

pub sleeping_holds : (a : State) → IsSleeping a → HoldsOwn (held_in a)
sleeping_holds (waking i held a k) is = own_back held (back_call k) is
sleeping_holds (asleep i held a) is = is
sleeping_holds _ is = absurd is
