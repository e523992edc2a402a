-- Where one image may be there, it is the one that comes back, until a hibernation is accepted.
use Rattle.std.proofs.Common.{◌≡◌, ℕ, ◌+◌, ◌||◌, ◌&&◌, ◌++◌, not, Bool, true, false, cond, eqb, ltb, zero, suc, List, [], ◌∷◌, Option, Some, None, ap}
use Rattle.std.specs.Prelude.{⊤}
use Rattle.std.specs.List.{AllByRecursion}
use Rattle.definitions.specs.Disk as disk
use Rattle.definitions.specs.NumberPages.{meta_of}
use Rattle.plain_machine.specs.Machine.{Hardware, Memory}
use Rattle.plain_machine.specs.Image.{Image, SlotPages, n_of, d_of, resume_steps}
use Rattle.plain_machine.specs.Loader.{restored}
use Rattle.plain_machine.specs.State.{State, off, on, booting, hibernating, undoing, settling, waking, loading, asleep, Running, Held, nothing, sure, maybe, perhaps, own, other, Flight, goes_out, comes_in, Load, Found, not_yet, found_own, found_other, saved_found, held_in, held_back, held_hibernating, held_loading}
use Rattle.plain_machine.specs.Calls.{HibernationCall, writes_page, syncs_pages, reads_header, writes_mark, syncs_mark, hibernation_call, BackCall, reads_mark, takes_back, syncs_back, back_call, LoadCall, syncs_first, of_mark, reads_image, load_call}
use Rattle.plain_machine.specs.Step.{Outcome, only, if_running, woken, requested, task_step, booted, boot_outcomes, boot_step, core_step, hibernated, hibernation_outcomes, hibernate_step, undo_step, settle_step, wake_step, resumed, find_step, loaded_step, load_step, load_answers, has_place, load_fault, fault_of_load, own_step, too_few, has_room, undone_fault}
use Rattle.plain_machine.specs.declared.event.BootFrom.{BootFrom}
use Rattle.plain_machine.specs.declared.event.BootFrom.TheVariants.{Fresh, Kept}
use Rattle.plain_machine.specs.declared.event.Loader.{Loader}
use Rattle.plain_machine.specs.declared.event.Loader.TheVariants as loader
use Rattle.plain_machine.specs.declared.event.TaskOp.{TaskOp}
use Rattle.plain_machine.specs.declared.event.TaskOp.TheVariants as op
use Rattle.plain_machine.specs.declared.reply.Left.{Left}
use Rattle.plain_machine.specs.declared.reply.Left.TheVariants.{Same, Gone, Unsure}
use Rattle.plain_machine.specs.declared.reply.Reply.TheVariants as reply
use Rattle.plain_machine.specs.declared.reply.UndoCall.{UndoCall}
use Rattle.plain_machine.specs.declared.reply.UndoCall.TheVariants as undo
use Rattle.theorem_laws.proofs.Spent.{IsResumed}

-- no image is on the disk, or perhaps, but this one
abbrev pub IsOnly : Image → Held → Type 0
IsOnly i nothing = ⊤
IsOnly i (sure (own j)) = j ≡ i
IsOnly i (sure other) = ⊥
IsOnly i (maybe (own j)) = j ≡ i
IsOnly i (maybe other) = ⊥

abbrev pub FindsOnly : Image → Found → Type 0
FindsOnly i not_yet = ⊤
FindsOnly i (found_own j) = j ≡ i
FindsOnly i (found_other v) = ⊥

abbrev pub HasOnly : Image → State → Type 0
HasOnly i (off held kept) = IsOnly i held
HasOnly i (on a) = IsOnly i a.held
HasOnly i (booting from dump held k) = IsOnly i held
HasOnly i (hibernating suspends j a k) = (j ≡ i) × IsOnly i a.held
HasOnly i (undoing j call a k) = j ≡ i
HasOnly i (settling a k) = IsOnly i a.held
HasOnly i (waking j held a k) = IsOnly i held
HasOnly i (loading load k) = IsOnly i load.held × FindsOnly i load.found
HasOnly i (asleep j held a) = IsOnly i held

-- the state of a resume of this image that ended
abbrev pub IsFrom : Hardware → Image → State → Type 0
IsFrom h i b = (dump : Memory) × (from : Loader) × (b ≡ resumed (restored h dump from i) i.slots from)

-- What each outcome keeps.

abbrev pub Keeps : Hardware → Image → Outcome → Type 0
Keeps h i outcome = HasOnly i outcome.1 × (IsResumed outcome.0 → IsFrom h i outcome.1)

abbrev pub AllKeep : Hardware → Image → List Outcome → Type 0
AllKeep h i os = AllByRecursion (Keeps h i) os

keep_either : (h : Hardware) (i : Image) (b : Bool) (xs ys : List Outcome) → AllKeep h i xs → AllKeep h i ys → AllKeep h i (cond b xs ys)
keep_either h i true xs ys p q = p
keep_either h i false xs ys p q = q

keeps_either : (h : Hardware) (i : Image) (b : Bool) (x y : Outcome) → Keeps h i x → Keeps h i y → Keeps h i (cond b x y)
keeps_either h i true x y p q = p
keeps_either h i false x y p q = q

only_perhaps : (i : Image) (held : Held) → IsOnly i held → IsOnly i (perhaps held)
only_perhaps i nothing is = tt
only_perhaps i (sure (own j)) is = is
only_perhaps i (sure other) is = is
only_perhaps i (maybe (own j)) is = is
only_perhaps i (maybe other) is = is

only_saved : (i : Image) (found : Found) (held : Held) → FindsOnly i found → IsOnly i held → IsOnly i (saved_found found held)
only_saved i not_yet held finds is = is
only_saved i (found_own j) held finds is = finds
only_saved i (found_other v) held finds is = absurd finds

only_back : (i : Image) (held : Held) (call : Option BackCall) → IsOnly i held → IsOnly i (held_back held call)
only_back i held (Some reads_mark) is = is
only_back i held (Some takes_back) is = is
only_back i held (Some syncs_back) is = only_perhaps i held is
only_back i held None is = only_perhaps i held is

only_hibernating : (i j : Image) (call : Option HibernationCall) → j ≡ i → IsOnly i (held_hibernating j call)
only_hibernating i j (Some writes_page) same = tt
only_hibernating i j (Some syncs_pages) same = tt
only_hibernating i j (Some reads_header) same = tt
only_hibernating i j (Some writes_mark) same = tt
only_hibernating i j (Some syncs_mark) same = same
only_hibernating i j None same = same

only_loading : (i : Image) (load : Load) (call : LoadCall) → IsOnly i load.held → FindsOnly i load.found → IsOnly i (held_loading load call)
only_loading i load syncs_first is finds = is
only_loading i load (of_mark reads_mark) is finds = is
only_loading i load (of_mark takes_back) is finds = only_saved i load.found load.held finds is
only_loading i load (of_mark syncs_back) is finds = only_perhaps i (saved_found load.found load.held) (only_saved i load.found load.held finds is)
only_loading i load reads_image is finds = tt

pub only_held : (i : Image) (a : State) → HasOnly i a → IsOnly i (held_in a)
only_held i (off held kept) is = is
only_held i (on a) is = is
only_held i (booting from dump held k) is = is
only_held i (hibernating suspends j a k) is = only_hibernating i j (hibernation_call j k) is.0
only_held i (undoing j call a k) is = is
only_held i (settling a k) is = only_back i a.held (back_call k) is
only_held i (waking j held a k) is = only_back i held (back_call k) is
only_held i (loading load k) is = only_loading i load (load_call k) is.0 is.1
only_held i (asleep j held a) is = is

pub if_running_keeps : (h : Hardware) (i : Image) (a : State) (f : Running → List Outcome) → HasOnly i a → ((r : Running) → IsOnly i r.held → AllKeep h i (f r)) → AllKeep h i (if_running a f)
if_running_keeps h i (on a) f is keeps = keeps a is
if_running_keeps h i (off held kept) f is keeps = tt
if_running_keeps h i (booting from dump held k) f is keeps = tt
if_running_keeps h i (hibernating suspends j a k) f is keeps = tt
if_running_keeps h i (undoing j call a k) f is keeps = tt
if_running_keeps h i (settling a k) f is keeps = tt
if_running_keeps h i (waking j held a k) f is keeps = tt
if_running_keeps h i (loading load k) f is keeps = tt
if_running_keeps h i (asleep j held a) f is keeps = tt

pub woken_keeps : (h : Hardware) (i : Image) (a : State) → HasOnly i a → AllKeep h i (woken a)
woken_keeps h i (asleep j held a) is = ((is, (λ no_resume. absurd no_resume)), tt)
woken_keeps h i (off held kept) is = tt
woken_keeps h i (on a) is = tt
woken_keeps h i (booting from dump held k) is = tt
woken_keeps h i (hibernating suspends j a k) is = tt
woken_keeps h i (undoing j call a k) is = tt
woken_keeps h i (settling a k) is = tt
woken_keeps h i (waking j held a k) is = tt
woken_keeps h i (loading load k) is = tt

pub requested_keeps : (h : Hardware) (i : Image) (t : ℕ) (o : TaskOp) (a : Running) → IsOnly i a.held → AllKeep h i (requested h a t o)
requested_keeps h i t (op.Claim p) a is = ((is, (λ e. absurd e)), tt)
requested_keeps h i t (op.Release p) a is = ((is, (λ e. absurd e)), tt)
requested_keeps h i t (op.Store p k v) a is = ((is, (λ e. absurd e)), tt)
requested_keeps h i t (op.Show p k) a is = ((is, (λ e. absurd e)), tt)
requested_keeps h i t (op.Cache p) a is = ((is, (λ e. absurd e)), tt)
requested_keeps h i t (op.Out p) a is = ((is, (λ e. absurd e)), tt)
requested_keeps h i t (op.TakeIn s p) a is = ((is, (λ e. absurd e)), tt)

pub task_step_keeps : (h : Hardware) (i : Image) (t : ℕ) (a : Running) (flight : Option Flight) → IsOnly i a.held → AllKeep h i (task_step h a t flight)
task_step_keeps h i t a None is = tt
task_step_keeps h i t a (Some (goes_out s p)) is = ((is, (λ e. absurd e)), ((is, (λ e. absurd e)), tt))
task_step_keeps h i t a (Some (comes_in s p)) is = ((is, (λ e. absurd e)), ((is, (λ e. absurd e)), tt))

held_booted : (h : Hardware) (v : disk.DiskImage) (i : Image) (from : BootFrom) (dump : Memory) (held : Held) → IsOnly i held → IsOnly i (booted h v from dump held).held
held_booted h v i Fresh dump held is = is
held_booted h v i Kept dump held is = is

boots_keep : (h : Hardware) (v : disk.DiskImage) (i : Image) (from : BootFrom) (dump : Memory) (held : Held) → IsOnly i held → AllKeep h i (boot_outcomes h v from dump held ++ only (reply.ReadFault Same) (off held None))
boots_keep h v i from dump nothing is = ((held_booted h v i from dump nothing is, (λ e. absurd e)), ((tt, (λ e. absurd e)), tt))
boots_keep h v i from dump (sure (own j)) is = ((held_booted h v i from dump (sure (own j)) is, (λ e. absurd e)), ((is, (λ e. absurd e)), tt))
boots_keep h v i from dump (sure other) is = absurd is
boots_keep h v i from dump (maybe (own j)) is =
    ((held_booted h v i from dump nothing tt, (λ e. absurd e)), ((held_booted h v i from dump (sure (own j)) is, (λ e. absurd e)), ((is, (λ e. absurd e)), tt)))
boots_keep h v i from dump (maybe other) is = absurd is

boot_step_keeps : (h : Hardware) (v : disk.DiskImage) (i : Image) (from : BootFrom) (dump : Memory) (held : Held) (k : ℕ) → IsOnly i held → AllKeep h i (boot_step h v from dump held k)
boot_step_keeps h v i from dump held zero is = ((is, (λ e. absurd e)), ((is, (λ e. absurd e)), tt))
boot_step_keeps h v i from dump held (suc zero) is = boots_keep h v i from dump held is
boot_step_keeps h v i from dump held (suc (suc k)) is = tt

hibernated_keeps : (h : Hardware) (i : Image) (suspends : Bool) (j : Image) (a : Running) → j ≡ i → Keeps h i (hibernated suspends j a)
hibernated_keeps h i false j a same = (same, (λ e. absurd e))
hibernated_keeps h i true j a same = (same, (λ e. absurd e))

outcomes_keep : (h : Hardware) (i : Image) (suspends : Bool) (j : Image) (a : Running) (k : ℕ) (call : Option HibernationCall) → j ≡ i → IsOnly i a.held → AllKeep h i (hibernation_outcomes suspends j a k call)
outcomes_keep h i suspends j a k None same is = tt
outcomes_keep h i suspends j a k (Some writes_page) same is = (((same, is), (λ e. absurd e)), ((is, (λ e. absurd e)), tt))
outcomes_keep h i suspends j a k (Some syncs_pages) same is = (((same, is), (λ e. absurd e)), ((is, (λ e. absurd e)), tt))
outcomes_keep h i suspends j a k (Some reads_header) same is = (((same, is), (λ e. absurd e)), ((is, (λ e. absurd e)), tt))
outcomes_keep h i suspends j a k (Some writes_mark) same is = (((same, is), (λ e. absurd e)), ((same, (λ e. absurd e)), tt))
outcomes_keep h i suspends j a k (Some syncs_mark) same is = (hibernated_keeps h i suspends j a same, ((same, (λ e. absurd e)), tt))

hibernate_step_keeps : (h : Hardware) (i : Image) (suspends : Bool) (j : Image) (a : Running) (k : ℕ) → j ≡ i → IsOnly i a.held → AllKeep h i (hibernate_step suspends j a k)
hibernate_step_keeps h i suspends j a k same is = outcomes_keep h i suspends j a k (hibernation_call j k) same is

undone_keeps : (h : Hardware) (i : Image) (call : UndoCall) (left : Left) (b : State) → HasOnly i b → Keeps h i (undone_fault call left, b)
undone_keeps h i undo.Write left b is = (is, (λ e. absurd e))
undone_keeps h i undo.Sync left b is = (is, (λ e. absurd e))

undo_step_keeps : (h : Hardware) (i j : Image) (call : UndoCall) (a : Running) (k : ℕ) → j ≡ i → AllKeep h i (undo_step j call a k)
undo_step_keeps h i j call a zero same = ((same, (λ e. absurd e)), (undone_keeps h i call Unsure (on (record a { held = maybe (own j) })) same, tt))
undo_step_keeps h i j call a (suc zero) same =
    (undone_keeps h i call Gone (on (record a { held = nothing })) tt, (undone_keeps h i call Unsure (on (record a { held = maybe (own j) })) same, tt))
undo_step_keeps h i j call a (suc (suc k)) same = tt

settle_step_keeps : (h : Hardware) (i : Image) (a : Running) (k : ℕ) → IsOnly i a.held → AllKeep h i (settle_step a k)
settle_step_keeps h i a zero is = ((is, (λ e. absurd e)), ((is, (λ e. absurd e)), tt))
settle_step_keeps h i a (suc zero) is = ((is, (λ e. absurd e)), ((only_perhaps i a.held is, (λ e. absurd e)), tt))
settle_step_keeps h i a (suc (suc zero)) is = ((tt, (λ e. absurd e)), ((only_perhaps i a.held is, (λ e. absurd e)), tt))
settle_step_keeps h i a (suc (suc (suc k))) is = tt

wake_step_keeps : (h : Hardware) (i j : Image) (held : Held) (a : Running) (k : ℕ) → IsOnly i held → AllKeep h i (wake_step j held a k)
wake_step_keeps h i j held a zero is = ((is, (λ e. absurd e)), ((is, (λ e. absurd e)), tt))
wake_step_keeps h i j held a (suc zero) is = ((is, (λ e. absurd e)), ((only_perhaps i held is, (λ e. absurd e)), tt))
wake_step_keeps h i j held a (suc (suc zero)) is = ((tt, (λ e. absurd e)), ((only_perhaps i held is, (λ e. absurd e)), tt))
wake_step_keeps h i j held a (suc (suc (suc k))) is = tt

load_fault_keeps : (h : Hardware) (i : Image) (load : Load) (call : LoadCall) → IsOnly i load.held → FindsOnly i load.found → Keeps h i (fault_of_load load call)
load_fault_keeps h i load syncs_first is finds = (is, (λ e. absurd e))
load_fault_keeps h i load (of_mark reads_mark) is finds = (is, (λ e. absurd e))
load_fault_keeps h i load (of_mark takes_back) is finds = (only_perhaps i (saved_found load.found load.held) (only_saved i load.found load.held finds is), (λ e. absurd e))
load_fault_keeps h i load (of_mark syncs_back) is finds = (only_perhaps i (saved_found load.found load.held) (only_saved i load.found load.held finds is), (λ e. absurd e))
load_fault_keeps h i load reads_image is finds = (tt, (λ e. absurd e))

find_keeps : (h : Hardware) (v : disk.DiskImage) (i : Image) (load : Load) (held : Held) → IsOnly i held → IsOnly i load.held → AllKeep h i (find_step h v load held)
find_keeps h v i load nothing is here = ((tt, (λ e. absurd e)), tt)
find_keeps h v i load (sure (own j)) is here = (((here, is), (λ e. absurd e)), tt)
find_keeps h v i load (sure other) is here = absurd is
find_keeps h v i load (maybe (own j)) is here = (((here, is), (λ e. absurd e)), ((tt, (λ e. absurd e)), tt))
find_keeps h v i load (maybe other) is here = absurd is

resumed_only : (i : Image) (m : Memory) (slots : SlotPages) (from : Loader) → HasOnly i (resumed m slots from)
resumed_only i m slots (loader.Ranges ranges) = tt
resumed_only i m slots loader.Table = tt

own_step_keeps : (h : Hardware) (i : Image) (load : Load) (j : Image) (k : ℕ) → j ≡ i → IsOnly i load.held → FindsOnly i load.found → Keeps h i (own_step h load j k)
own_step_keeps h i load j k same is finds =
    let few = too_few h load (d_of j) in
    let done : Outcome = (reply.Resumed (n_of j), resumed (restored h load.dump load.loader j) j.slots load.loader) in
    let more : Outcome = (reply.Loading (k + 1), loading load (k + 1)) in
    let from : IsFrom h i (resumed (restored h load.dump load.loader j) j.slots load.loader) =
    (load.dump, load.loader, ap (λ (x : Image). resumed (restored h load.dump load.loader x) x.slots load.loader) same) in
    keeps_either h i (eqb (k + 1) (6 + meta_of (n_of j)) && not (has_room h load (d_of j))) few (cond (eqb (k + 1) (resume_steps j)) done more) (tt, (λ e. absurd e))
    (keeps_either h i (eqb (k + 1) (resume_steps j)) done more (resumed_only i (restored h load.dump load.loader j) j.slots load.loader, (λ e. from)) ((is, finds), (λ e. absurd e)))

loaded_keeps : (h : Hardware) (i : Image) (load : Load) (found : Found) (k : ℕ) → FindsOnly i found → IsOnly i load.held → FindsOnly i load.found → AllKeep h i (loaded_step h load found k)
loaded_keeps h i load not_yet k same is finds = tt
loaded_keeps h i load (found_own j) k same is finds = (own_step_keeps h i load j k same is finds, tt)
loaded_keeps h i load (found_other v) k same is finds = absurd same

load_answers_keep : (h : Hardware) (v : disk.DiskImage) (i : Image) (load : Load) (k : ℕ) → IsOnly i load.held → FindsOnly i load.found → AllKeep h i (load_answers h v load k)
load_answers_keep h v i load zero is finds = (((is, finds), (λ e. absurd e)), tt)
load_answers_keep h v i load (suc zero) is finds = find_keeps h v i load load.held is is
load_answers_keep h v i load (suc (suc zero)) is finds = loaded_keeps h i load load.found 2 finds is finds
load_answers_keep h v i load (suc (suc (suc zero))) is finds = loaded_keeps h i load load.found 3 finds is finds
load_answers_keep h v i load (suc (suc (suc (suc k)))) is finds = loaded_keeps h i load load.found (suc (suc (suc (suc k)))) finds is finds

load_step_keeps : (h : Hardware) (v : disk.DiskImage) (i : Image) (load : Load) (k : ℕ) → IsOnly i load.held → FindsOnly i load.found → AllKeep h i (load_step h v load k)
load_step_keeps h v i load k is finds =
    keep_either h i (ltb k 4 || has_place h load load.found k) (load_fault load k ∷ load_answers h v load k) []
    (load_fault_keeps h i load (load_call k) is finds, load_answers_keep h v i load k is finds) tt

pub core_keeps : (h : Hardware) (v : disk.DiskImage) (i : Image) (a : State) → HasOnly i a → AllKeep h i (core_step h v a)
core_keeps h v i (off held kept) is = tt
core_keeps h v i (on a) is = tt
core_keeps h v i (booting from dump held k) is = boot_step_keeps h v i from dump held k is
core_keeps h v i (hibernating suspends j a k) is = hibernate_step_keeps h i suspends j a k is.0 is.1
core_keeps h v i (undoing j call a k) is = undo_step_keeps h i j call a k is
core_keeps h v i (settling a k) is = settle_step_keeps h i a k is
core_keeps h v i (waking j held a k) is = wake_step_keeps h i j held a k is
core_keeps h v i (loading load k) is = load_step_keeps h v i load k is.0 is.1
core_keeps h v i (asleep j held a) is = tt
