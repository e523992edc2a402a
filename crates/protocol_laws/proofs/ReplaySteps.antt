-- The steps of a replay.
use Rattle.std.proofs.Common.{◌≡◌, ℕ, ◌+◌, ◌-◌, ◌||◌, ◌&&◌, ◌++◌, not, length, Bool, true, false, cond, eqb, ltb, zero, suc, List, [], ◌∷◌, Option, Some, None, refl, sym, ap, ap₂, ◌∙◌, subst, Contains, is_some}
use Rattle.std.specs.List.{AllByRecursion}
use Rattle.std.proofs.lemmas.List.Elements.{All-from_recursion, All-contains}
use Rattle.std.proofs.lemmas.Option.{none-some}
use Rattle.definitions.specs.Disk as disk
use Rattle.definitions.specs.NumberPages.{meta_of}
use Rattle.plain_machine.specs.Machine.{Hardware, Memory, bad_slot, saveable}
use Rattle.plain_machine.specs.Chain.{blocks_of}
use Rattle.plain_machine.specs.Image.{Image, SlotPages, n_of, d_of, resume_steps}
use Rattle.plain_machine.specs.Loader.{has, restored}
use Rattle.plain_machine.specs.Refusals.{refusal, start_refusal}
use Rattle.plain_machine.specs.State.{State, off, on, booting, hibernating, undoing, settling, waking, loading, asleep, Running, Held, nothing, sure, maybe, perhaps, own, other, Flight, goes_out, comes_in, Load, Found, not_yet, found_own, found_other, saved_found, held_in, kept_in, held_back, held_hibernating, held_loading}
use Rattle.plain_machine.specs.Calls.{HibernationCall, writes_page, syncs_pages, reads_header, writes_mark, syncs_mark, hibernation_call, BackCall, reads_mark, takes_back, syncs_back, back_call, LoadCall, syncs_first, of_mark, reads_image, load_call}
use Rattle.plain_machine.specs.Step.{Outcome, only, outcomes, accepted, refused_or, if_running, woken, requested, task_step, begun, booted, boot_outcomes, boot_step, no_slots, no_flights, core_step, hibernated, hibernation_outcomes, hibernate_step, undo_step, settle_step, wake_step, resumed, find_step, loaded_step, load_step, load_answers, has_place, load_fault, fault_of_load, own_step, too_few, has_room, drop_memory, dropped_by}
use Rattle.plain_machine.specs.FreshMemory.{fresh_memory}
use Rattle.plain_machine.specs.UsableArea.{area_fault, area_block, bad_slots_in, kind_or_fit_fault}
use Rattle.plain_machine.specs.declared.event.Actor.TheVariants as actor
use Rattle.plain_machine.specs.declared.event.BootFrom.{BootFrom}
use Rattle.plain_machine.specs.declared.event.BootFrom.TheVariants.{Fresh, Kept}
use Rattle.plain_machine.specs.declared.event.Event.{Event}
use Rattle.plain_machine.specs.declared.event.Event.TheVariants as event
use Rattle.plain_machine.specs.declared.event.Loader.{Loader}
use Rattle.plain_machine.specs.declared.event.Loader.TheVariants as loader
use Rattle.plain_machine.specs.declared.event.TaskOp.{TaskOp}
use Rattle.plain_machine.specs.declared.event.TaskOp.TheVariants as op
use Rattle.plain_machine.specs.declared.no_swap.NoSwap.{NoSwap}
use Rattle.plain_machine.specs.declared.reply.Left.TheVariants.{Same}
use Rattle.plain_machine.specs.declared.reply.Reply.{Reply}
use Rattle.plain_machine.specs.declared.reply.Reply.TheVariants as reply
use Rattle.plain_machine.specs.declared.reply.UndoCall.{UndoCall}
use Rattle.image_format.specs.AreaKind.{area_kind}
use Rattle.protocol_laws.specs.Replays.{IsOwnHeld, IsOwnFound, IsOfReplay, SameSteps, StaysOfReplay}
use Rattle.protocol_laws.specs.Rows.{IsSameArea}
use Rattle.protocol_laws.proofs.Areas.{same_of_kinds}

-- Two disks with the same area.

fault_same : (h : Hardware) (v w : disk.DiskImage) → IsSameArea h v w → area_fault h w ≡ area_fault h v
unfolding area_fault
fault_same h v w same =
    ap (λ (n : ℕ). kind_or_fit_fault h n (area_kind (area_block h w))) same.blocks
    ∙ same_of_kinds (kind_or_fit_fault h (blocks_of v)) (area_block h w) (area_block h v) same.header (λ m n. refl)

bad_slots_same : (h : Hardware) (v w : disk.DiskImage) → IsSameArea h v w → bad_slots_in (area_kind (area_block h w)) ≡ bad_slots_in (area_kind (area_block h v))
bad_slots_same h v w same = same_of_kinds bad_slots_in (area_block h w) (area_block h v) same.header (λ m n. refl)

-- a machine that booted with fresh memory, by its area's fault and bad slots
abbrev fresh_running : Hardware → Held → Option NoSwap → List ℕ → Running
fresh_running h held fault bad = record {
  memory = fresh_memory h (λ s. cond (is_some fault || has bad s) bad_slot 0);
  slots = no_slots;
  flights = no_flights;
  unusable = fault;
  held = held;
}

booted_same : (h : Hardware) (v w : disk.DiskImage) (dump : Memory) (held : Held) → IsSameArea h v w → booted h w Fresh dump held ≡ booted h v Fresh dump held
booted_same h v w dump held same = ap₂ (fresh_running h held) (fault_same h v w same) (bad_slots_same h v w same)

boots_same : (h : Hardware) (v w : disk.DiskImage) (dump : Memory) (held : Held) → IsSameArea h v w → boot_outcomes h w Fresh dump held ≡ boot_outcomes h v Fresh dump held
boots_same h v w dump nothing same = ap (λ (a : Running). only (reply.Booted false) (on a)) (booted_same h v w dump nothing same)
boots_same h v w dump (sure x) same = ap (λ (a : Running). only (reply.Booted true) (on a)) (booted_same h v w dump (sure x) same)
boots_same h v w dump (maybe x) same =
    ap₂ (λ (a b : Running). (reply.Booted false, on a) ∷ (reply.Booted true, on b) ∷ []) (booted_same h v w dump nothing same) (booted_same h v w dump (sure x) same)

boot_step_same : (h : Hardware) (v w : disk.DiskImage) (from : BootFrom) (dump : Memory) (held : Held) (k : ℕ) → from ≡ Fresh → IsSameArea h v w → boot_step h w from dump held k ≡ boot_step h v from dump held k
boot_step_same h v w Fresh dump held zero fresh same = refl
boot_step_same h v w Fresh dump held (suc zero) fresh same = ap (λ (booted : List Outcome). booted ++ only (reply.ReadFault Same) (off held None)) (boots_same h v w dump held same)
boot_step_same h v w Fresh dump held (suc (suc k)) fresh same = refl
boot_step_same h v w Kept dump held k fresh same = absurd (cc)

find_same : (h : Hardware) (v w : disk.DiskImage) (load : Load) (held : Held) → IsOwnHeld held → find_step h w load held ≡ find_step h v load held
find_same h v w load nothing is_own = refl
find_same h v w load (sure (own i)) is_own = refl
find_same h v w load (sure other) is_own = absurd is_own
find_same h v w load (maybe (own i)) is_own = refl
find_same h v w load (maybe other) is_own = absurd is_own

load_answers_same : (h : Hardware) (v w : disk.DiskImage) (load : Load) (k : ℕ) → IsOwnHeld load.held → load_answers h w load k ≡ load_answers h v load k
load_answers_same h v w load zero is_own = refl
load_answers_same h v w load (suc zero) is_own = find_same h v w load load.held is_own
load_answers_same h v w load (suc (suc zero)) is_own = refl
load_answers_same h v w load (suc (suc (suc zero))) is_own = refl
load_answers_same h v w load (suc (suc (suc (suc k)))) is_own = refl

load_step_same : (h : Hardware) (v w : disk.DiskImage) (load : Load) (k : ℕ) → IsOwnHeld load.held → load_step h w load k ≡ load_step h v load k
load_step_same h v w load k is_own =
    ap (λ (answers : List Outcome). cond (ltb k 4 || has_place h load load.found k) (load_fault load k ∷ answers) []) (load_answers_same h v w load k is_own)

core_same : (h : Hardware) (v w : disk.DiskImage) (a : State) → IsSameArea h v w → IsOfReplay a → core_step h w a ≡ core_step h v a
core_same h v w (off held kept) same of = refl
core_same h v w (on a) same of = refl
core_same h v w (booting from dump held k) same of = boot_step_same h v w from dump held k of.0 same
core_same h v w (hibernating suspends i a k) same of = refl
core_same h v w (undoing i call a k) same of = refl
core_same h v w (settling a k) same of = refl
core_same h v w (waking i held a k) same of = refl
core_same h v w (loading load k) same of = load_step_same h v w load k of.0
core_same h v w (asleep i held a) same of = refl

accepted_same : (h : Hardware) (v w : disk.DiskImage) (a : State) (e : Event) → IsSameArea h v w → IsOfReplay a → accepted h w a e ≡ accepted h v a e
accepted_same h v w a (event.Boot from) same of = refl
accepted_same h v w a (event.Hibernate f) same of = refl
accepted_same h v w a (event.Suspend f) same of = refl
accepted_same h v w a event.Wake same of = refl
accepted_same h v w a event.Settle same of = refl
accepted_same h v w a (event.Shrink want) same of = refl
accepted_same h v w a (event.Resume l check) same of = refl
accepted_same h v w a (event.Step actor.Core) same of = core_same h v w a same of
accepted_same h v w a (event.Step (actor.Task t)) same of = refl
accepted_same h v w a (event.Task t o) same of = refl
accepted_same h v w a (event.Cut pick) same of = refl
accepted_same h v w a (event.Arm first count pick) same of = refl

outcomes_same : (h : Hardware) (v w : disk.DiskImage) (a : State) (e : Event) → IsSameArea h v w → IsOfReplay a → outcomes h w a e ≡ outcomes h v a e
unfolding outcomes
outcomes_same h v w a e same of = ap (refused_or a (refusal h a e)) (accepted_same h v w a e same of)

pub same_steps : SameSteps
same_steps h v w a e r b same of step = subst (λ (all : List Outcome). Contains all (r, b)) (outcomes_same h v w a e same of) step

-- What is held.

perhaps_own : (held : Held) → IsOwnHeld held → IsOwnHeld (perhaps held)
perhaps_own nothing is_own = tt
perhaps_own (sure (own i)) is_own = tt
perhaps_own (sure other) is_own = is_own
perhaps_own (maybe (own i)) is_own = tt
perhaps_own (maybe other) is_own = is_own

saved_own : (found : Found) (held : Held) → IsOwnFound found → IsOwnHeld held → IsOwnHeld (saved_found found held)
saved_own not_yet held found is_own = is_own
saved_own (found_own i) held found is_own = tt
saved_own (found_other v) held found is_own = absurd found

held_back_own : (held : Held) (call : Option BackCall) → IsOwnHeld held → IsOwnHeld (held_back held call)
held_back_own held (Some reads_mark) is_own = is_own
held_back_own held (Some takes_back) is_own = is_own
held_back_own held (Some syncs_back) is_own = perhaps_own held is_own
held_back_own held None is_own = perhaps_own held is_own

held_hibernating_own : (i : Image) (call : Option HibernationCall) → IsOwnHeld (held_hibernating i call)
held_hibernating_own i (Some writes_page) = tt
held_hibernating_own i (Some syncs_pages) = tt
held_hibernating_own i (Some reads_header) = tt
held_hibernating_own i (Some writes_mark) = tt
held_hibernating_own i (Some syncs_mark) = tt
held_hibernating_own i None = tt

held_loading_own : (load : Load) (call : LoadCall) → IsOwnHeld load.held → IsOwnFound load.found → IsOwnHeld (held_loading load call)
held_loading_own load syncs_first is_own found = is_own
held_loading_own load (of_mark reads_mark) is_own found = is_own
held_loading_own load (of_mark takes_back) is_own found = saved_own load.found load.held found is_own
held_loading_own load (of_mark syncs_back) is_own found = perhaps_own (saved_found load.found load.held) (saved_own load.found load.held found is_own)
held_loading_own load reads_image is_own found = tt

held_own : (a : State) → IsOfReplay a → IsOwnHeld (held_in a)
held_own (off held kept) of = of.0
held_own (on a) of = of
held_own (booting from dump held k) of = of.1
held_own (hibernating suspends i a k) of = held_hibernating_own i (hibernation_call i k)
held_own (undoing i call a k) of = tt
held_own (settling a k) of = held_back_own a.held (back_call k) of
held_own (waking i held a k) of = held_back_own held (back_call k) of.0
held_own (loading load k) of = held_loading_own load (load_call k) of.0 of.1
held_own (asleep i held a) of = of.0

no_dump_kept : (a : State) → IsOfReplay a → kept_in a ≡ None
no_dump_kept (off held kept) of = of.1
no_dump_kept (on a) of = refl
no_dump_kept (booting from dump held k) of = refl
no_dump_kept (hibernating suspends i a k) of = refl
no_dump_kept (undoing i call a k) of = refl
no_dump_kept (settling a k) of = refl
no_dump_kept (waking i held a k) of = refl
no_dump_kept (loading load k) of = refl
no_dump_kept (asleep i held a) of = refl

-- What asks for a dump's memory is refused.

dump_is_missing : (held : Held) (kept : Option Memory) → kept ≡ None → start_refusal (off held kept) true ≡ None → ⊥
dump_is_missing held None none e = none-some reply.NoDump (sym e)
dump_is_missing held (Some dump) none e = none-some dump (sym none)

asks_no_dump : (a : State) → IsOfReplay a → start_refusal a true ≡ None → ⊥
asks_no_dump (off held kept) of e = dump_is_missing held kept of.1 e
asks_no_dump (on a) of e = none-some reply.NotOff (sym e)
asks_no_dump (booting from dump held k) of e = none-some reply.NotOff (sym e)
asks_no_dump (hibernating suspends i a k) of e = none-some reply.NotOff (sym e)
asks_no_dump (undoing i call a k) of e = none-some reply.NotOff (sym e)
asks_no_dump (settling a k) of e = none-some reply.NotOff (sym e)
asks_no_dump (waking i held a k) of e = none-some reply.NotOff (sym e)
asks_no_dump (loading load k) of e = none-some reply.NotOff (sym e)
asks_no_dump (asleep i held a) of e = none-some reply.NotOff (sym e)

-- Each outcome is of a replay.

abbrev StaysIn : Outcome → Type 0
StaysIn outcome = IsOfReplay outcome.1

abbrev AllStay : List Outcome → Type 0
AllStay outcomes = AllByRecursion StaysIn outcomes

all_of_either : (b : Bool) (xs ys : List Outcome) → AllStay xs → AllStay ys → AllStay (cond b xs ys)
all_of_either true xs ys p q = p
all_of_either false xs ys p q = q

stays_in_either : (b : Bool) (x y : Outcome) → StaysIn x → StaysIn y → StaysIn (cond b x y)
stays_in_either true x y p q = p
stays_in_either false x y p q = q

if_running_stays : (a : State) (f : Running → List Outcome) → IsOfReplay a → ((r : Running) → IsOwnHeld r.held → AllStay (f r)) → AllStay (if_running a f)
if_running_stays (on a) f of stays = stays a of
if_running_stays (off held kept) f of stays = tt
if_running_stays (booting from dump held k) f of stays = tt
if_running_stays (hibernating suspends i a k) f of stays = tt
if_running_stays (undoing i call a k) f of stays = tt
if_running_stays (settling a k) f of stays = tt
if_running_stays (waking i held a k) f of stays = tt
if_running_stays (loading load k) f of stays = tt
if_running_stays (asleep i held a) f of stays = tt

woken_stays : (a : State) → IsOfReplay a → AllStay (woken a)
woken_stays (asleep i held a) of = (of, tt)
woken_stays (off held kept) of = tt
woken_stays (on a) of = tt
woken_stays (booting from dump held k) of = tt
woken_stays (hibernating suspends i a k) of = tt
woken_stays (undoing i call a k) of = tt
woken_stays (settling a k) of = tt
woken_stays (waking i held a k) of = tt
woken_stays (loading load k) of = tt

requested_stays : (h : Hardware) (t : ℕ) (o : TaskOp) (a : Running) → IsOwnHeld a.held → AllStay (requested h a t o)
requested_stays h t (op.Claim p) a is_own = (is_own, tt)
requested_stays h t (op.Release p) a is_own = (is_own, tt)
requested_stays h t (op.Store p k v) a is_own = (is_own, tt)
requested_stays h t (op.Show p k) a is_own = (is_own, tt)
requested_stays h t (op.Cache p) a is_own = (is_own, tt)
requested_stays h t (op.Out p) a is_own = (is_own, tt)
requested_stays h t (op.TakeIn s p) a is_own = (is_own, tt)

task_step_stays : (h : Hardware) (t : ℕ) (a : Running) (flight : Option Flight) → IsOwnHeld a.held → AllStay (task_step h a t flight)
task_step_stays h t a None is_own = tt
task_step_stays h t a (Some (goes_out s p)) is_own = (is_own, (is_own, tt))
task_step_stays h t a (Some (comes_in s p)) is_own = (is_own, (is_own, tt))

boots_stay : (h : Hardware) (v : disk.DiskImage) (dump : Memory) (held : Held) → IsOwnHeld held → AllStay (boot_outcomes h v Fresh dump held ++ only (reply.ReadFault Same) (off held None))
boots_stay h v dump nothing is_own = (tt, ((tt, refl), tt))
boots_stay h v dump (sure x) is_own = (is_own, ((is_own, refl), tt))
boots_stay h v dump (maybe (own i)) is_own = (tt, (tt, ((tt, refl), tt)))
boots_stay h v dump (maybe other) is_own = absurd is_own

boot_step_stays : (h : Hardware) (v : disk.DiskImage) (from : BootFrom) (dump : Memory) (held : Held) (k : ℕ) → from ≡ Fresh → IsOwnHeld held → AllStay (boot_step h v from dump held k)
boot_step_stays h v Fresh dump held zero fresh is_own = ((refl, is_own), ((is_own, refl), tt))
boot_step_stays h v Fresh dump held (suc zero) fresh is_own = boots_stay h v dump held is_own
boot_step_stays h v Fresh dump held (suc (suc k)) fresh is_own = tt
boot_step_stays h v Kept dump held k fresh is_own = absurd (cc)

hibernated_stays : (suspends : Bool) (i : Image) (a : Running) → IsOwnHeld a.held → StaysIn (hibernated suspends i a)
hibernated_stays false i a is_own = (tt, refl)
hibernated_stays true i a is_own = (tt, is_own)

outcomes_of_call : (suspends : Bool) (i : Image) (a : Running) (k : ℕ) (call : Option HibernationCall) → IsOwnHeld a.held → AllStay (hibernation_outcomes suspends i a k call)
outcomes_of_call suspends i a k None is_own = tt
outcomes_of_call suspends i a k (Some writes_page) is_own = (is_own, (is_own, tt))
outcomes_of_call suspends i a k (Some syncs_pages) is_own = (is_own, (is_own, tt))
outcomes_of_call suspends i a k (Some reads_header) is_own = (is_own, (is_own, tt))
outcomes_of_call suspends i a k (Some writes_mark) is_own = (is_own, (is_own, tt))
outcomes_of_call suspends i a k (Some syncs_mark) is_own = (hibernated_stays suspends i a is_own, (is_own, tt))

hibernate_step_stays : (suspends : Bool) (i : Image) (a : Running) (k : ℕ) → IsOwnHeld a.held → AllStay (hibernate_step suspends i a k)
hibernate_step_stays suspends i a k is_own = outcomes_of_call suspends i a k (hibernation_call i k) is_own

undo_step_stays : (i : Image) (call : UndoCall) (a : Running) (k : ℕ) → IsOwnHeld a.held → AllStay (undo_step i call a k)
undo_step_stays i call a zero is_own = (is_own, (tt, tt))
undo_step_stays i call a (suc zero) is_own = (tt, (tt, tt))
undo_step_stays i call a (suc (suc k)) is_own = tt

settle_step_stays : (a : Running) (k : ℕ) → IsOwnHeld a.held → AllStay (settle_step a k)
settle_step_stays a zero is_own = (is_own, (is_own, tt))
settle_step_stays a (suc zero) is_own = (is_own, (perhaps_own a.held is_own, tt))
settle_step_stays a (suc (suc zero)) is_own = (tt, (perhaps_own a.held is_own, tt))
settle_step_stays a (suc (suc (suc k))) is_own = tt

wake_step_stays : (i : Image) (held : Held) (a : Running) (k : ℕ) → IsOwnHeld held → IsOwnHeld a.held → AllStay (wake_step i held a k)
wake_step_stays i held a zero image_own is_own = ((image_own, is_own), ((image_own, is_own), tt))
wake_step_stays i held a (suc zero) image_own is_own = ((image_own, is_own), ((perhaps_own held image_own, is_own), tt))
wake_step_stays i held a (suc (suc zero)) image_own is_own = (tt, ((perhaps_own held image_own, is_own), tt))
wake_step_stays i held a (suc (suc (suc k))) image_own is_own = tt

load_fault_stays : (load : Load) (call : LoadCall) → IsOwnHeld load.held → IsOwnFound load.found → StaysIn (fault_of_load load call)
load_fault_stays load syncs_first is_own found_is = (is_own, refl)
load_fault_stays load (of_mark reads_mark) is_own found_is = (is_own, refl)
load_fault_stays load (of_mark takes_back) is_own found_is = (perhaps_own (saved_found load.found load.held) (saved_own load.found load.held found_is is_own), refl)
load_fault_stays load (of_mark syncs_back) is_own found_is = (perhaps_own (saved_found load.found load.held) (saved_own load.found load.held found_is is_own), refl)
load_fault_stays load reads_image is_own found_is = (tt, refl)

find_stays : (h : Hardware) (v : disk.DiskImage) (load : Load) (held : Held) → IsOwnHeld held → IsOwnHeld load.held → AllStay (find_step h v load held)
find_stays h v load nothing is_own here = ((tt, refl), tt)
find_stays h v load (sure (own i)) is_own here = ((here, tt), tt)
find_stays h v load (sure other) is_own here = absurd is_own
find_stays h v load (maybe (own i)) is_own here = ((here, tt), ((tt, refl), tt))
find_stays h v load (maybe other) is_own here = absurd is_own

resumed_stays : (m : Memory) (slots : SlotPages) (from : Loader) → IsOfReplay (resumed m slots from)
resumed_stays m slots (loader.Ranges ranges) = tt
resumed_stays m slots loader.Table = (tt, refl)

own_step_stays : (h : Hardware) (load : Load) (i : Image) (k : ℕ) → IsOwnHeld load.held → IsOwnFound load.found → StaysIn (own_step h load i k)
own_step_stays h load i k is_own found_is =
    let few = too_few h load (d_of i) in
    let done : Outcome = (reply.Resumed (n_of i), resumed (restored h load.dump load.loader i) i.slots load.loader) in
    let more : Outcome = (reply.Loading (k + 1), loading load (k + 1)) in
    stays_in_either (eqb (k + 1) (6 + meta_of (n_of i)) && not (has_room h load (d_of i))) few (cond (eqb (k + 1) (resume_steps i)) done more) (tt, refl)
    (stays_in_either (eqb (k + 1) (resume_steps i)) done more (resumed_stays (restored h load.dump load.loader i) i.slots load.loader) (is_own, found_is))

loaded_stays : (h : Hardware) (load : Load) (found : Found) (k : ℕ) → IsOwnFound found → IsOwnHeld load.held → IsOwnFound load.found → AllStay (loaded_step h load found k)
loaded_stays h load not_yet k is_own here found_is = tt
loaded_stays h load (found_own i) k is_own here found_is = (own_step_stays h load i k here found_is, tt)
loaded_stays h load (found_other v) k is_own here found_is = absurd is_own

load_answers_stay : (h : Hardware) (v : disk.DiskImage) (load : Load) (k : ℕ) → IsOwnHeld load.held → IsOwnFound load.found → AllStay (load_answers h v load k)
load_answers_stay h v load zero is_own found_is = ((is_own, found_is), tt)
load_answers_stay h v load (suc zero) is_own found_is = find_stays h v load load.held is_own is_own
load_answers_stay h v load (suc (suc zero)) is_own found_is = loaded_stays h load load.found 2 found_is is_own found_is
load_answers_stay h v load (suc (suc (suc zero))) is_own found_is = loaded_stays h load load.found 3 found_is is_own found_is
load_answers_stay h v load (suc (suc (suc (suc k)))) is_own found_is = loaded_stays h load load.found (suc (suc (suc (suc k)))) found_is is_own found_is

load_step_stays : (h : Hardware) (v : disk.DiskImage) (load : Load) (k : ℕ) → IsOwnHeld load.held → IsOwnFound load.found → AllStay (load_step h v load k)
load_step_stays h v load k is_own found_is =
    all_of_either (ltb k 4 || has_place h load load.found k) (load_fault load k ∷ load_answers h v load k) []
    (load_fault_stays load (load_call k) is_own found_is, load_answers_stay h v load k is_own found_is) tt

core_stays : (h : Hardware) (v : disk.DiskImage) (a : State) → IsOfReplay a → AllStay (core_step h v a)
core_stays h v (off held kept) of = tt
core_stays h v (on a) of = tt
core_stays h v (booting from dump held k) of = boot_step_stays h v from dump held k of.0 of.1
core_stays h v (hibernating suspends i a k) of = hibernate_step_stays suspends i a k of
core_stays h v (undoing i call a k) of = undo_step_stays i call a k of
core_stays h v (settling a k) of = settle_step_stays a k of
core_stays h v (waking i held a k) of = wake_step_stays i held a k of.0 of.1
core_stays h v (loading load k) of = load_step_stays h v load k of.0 of.1
core_stays h v (asleep i held a) of = tt

accepted_stays : (h : Hardware) (v : disk.DiskImage) (a : State) (e : Event) → IsOfReplay a → refusal h a e ≡ None → AllStay (accepted h v a e)
unfolding refusal
accepted_stays h v a (event.Boot Fresh) of taken = ((refl, held_own a of), tt)
accepted_stays h v a (event.Boot Kept) of taken = absurd (asks_no_dump a of taken)
accepted_stays h v a (event.Hibernate f) of taken = if_running_stays a (begun h false f) of (λ r is_own. (is_own, tt))
accepted_stays h v a (event.Suspend f) of taken = if_running_stays a (begun h true f) of (λ r is_own. (is_own, tt))
accepted_stays h v a event.Wake of taken = woken_stays a of
accepted_stays h v a event.Settle of taken = if_running_stays a (λ r. only (reply.More 0 3) (settling r 0)) of (λ r is_own. (is_own, tt))
accepted_stays h v a (event.Shrink want) of taken =
    if_running_stays a (λ r. only
    (reply.Shrunk (length (dropped_by h r.memory want)) (length (saveable h r.memory) - length (dropped_by h r.memory want)))
    (on (record r { memory = drop_memory h r.memory want }))) of (λ r is_own. (is_own, tt))
accepted_stays h v a (event.Resume l check) of taken = ((held_own a of, tt), tt)
accepted_stays h v a (event.Step actor.Core) of taken = core_stays h v a of
accepted_stays h v a (event.Step (actor.Task t)) of taken = if_running_stays a (λ r. task_step h r t (r.flights t)) of (λ r is_own. task_step_stays h t r (r.flights t) is_own)
accepted_stays h v a (event.Task t o) of taken = if_running_stays a (λ r. requested h r t o) of (λ r is_own. requested_stays h t o r is_own)
accepted_stays h v a (event.Cut pick) of taken = ((held_own a of, no_dump_kept a of), tt)
accepted_stays h v a (event.Arm first count pick) of taken = (of, tt)

refused_or_stays : (a : State) (refused : Option Reply) (os : List Outcome) → IsOfReplay a → (refused ≡ None → AllStay os) → AllStay (refused_or a refused os)
refused_or_stays a (Some r) os of taken = (of, tt)
refused_or_stays a None os of taken = taken refl

outcomes_stay : (h : Hardware) (v : disk.DiskImage) (a : State) (e : Event) → IsOfReplay a → AllStay (outcomes h v a e)
unfolding outcomes
outcomes_stay h v a e of = refused_or_stays a (refusal h a e) (accepted h v a e) of (accepted_stays h v a e of)

pub stays_of_replay : StaysOfReplay
stays_of_replay h v a e r b of step = All-contains StaysIn (outcomes h v a e) (r, b) (All-from_recursion StaysIn (outcomes h v a e) (outcomes_stay h v a e of)) step
