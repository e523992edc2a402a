-- A page that went out comes back, over hibernations.
use Rattle.std.proofs.Common.{◌≡◌, ◌≢◌, ◌<◌, ◌-◌, ◌⊎◌, inl, inr, ℕ, ◌+◌, ◌||◌, ◌&&◌, ◌++◌, not, Bool, true, false, cond, eqb, ltb, zero, suc, length, List, [], ◌∷◌, Option, Some, None, unwrap_or, refl, sym, ap, ◌∙◌, subst, arith, Contains}
use Rattle.std.specs.List.{AllByRecursion}
use Rattle.std.proofs.lemmas.Bool.{eq-eqb, eqb-true}
use Rattle.std.proofs.lemmas.List.{get_or-set_same, length-set}
use Rattle.std.proofs.lemmas.List.Elements.{All-from_recursion, All-contains}
use Rattle.std.proofs.lemmas.Option.{none-some, same_Some}
use Rattle.definitions.specs.Disk as disk
use Rattle.definitions.specs.NumberPages.{meta_of}
use Rattle.definitions.specs.Tables.{frame}
use Rattle.plain_machine.specs.Machine.{Hardware, Memory, saveable}
use Rattle.plain_machine.specs.Image.{Image, SlotPages, n_of, d_of, resume_steps}
use Rattle.plain_machine.specs.Loader.{restored}
use Rattle.plain_machine.specs.Refusals.{refusal, refused_if, has_step}
use Rattle.plain_machine.specs.State.{State, off, on, booting, hibernating, undoing, settling, waking, loading, asleep, Running, Held, nothing, sure, maybe, perhaps, own, other, Flight, goes_out, comes_in, Load, Found, not_yet, found_own, found_other, saved_found, held_in, held_back, held_hibernating, held_loading}
use Rattle.plain_machine.specs.Calls.{HibernationCall, writes_page, syncs_pages, reads_header, writes_mark, syncs_mark, hibernation_call, BackCall, reads_mark, takes_back, syncs_back, back_call, LoadCall, syncs_first, of_mark, reads_image, load_call}
use Rattle.plain_machine.specs.Step.{Step, Run, Outcome, outcomes, accepted, refused_or, only, if_running, begun, woken, requested, task_step, with_flight, with_frame, with_slot, with_slot_entry, boot_outcomes, boot_step, core_step, drop_memory, dropped_by, hibernated, hibernation_outcomes, undo_step, settle_step, wake_step, resumed, find_step, loaded_step, load_step, load_answers, has_place, load_fault, fault_of_load, own_step, too_few, has_room, undone_fault}
use Rattle.plain_machine.specs.declared.event.Actor.TheVariants as actor
use Rattle.plain_machine.specs.declared.event.BootFrom.{BootFrom}
use Rattle.plain_machine.specs.declared.event.BootFrom.TheVariants.{Fresh, Kept}
use Rattle.plain_machine.specs.declared.event.Event.{Event}
use Rattle.plain_machine.specs.declared.event.Event.TheVariants as event
use Rattle.plain_machine.specs.declared.event.Loader.{Loader}
use Rattle.plain_machine.specs.declared.event.Loader.TheVariants as loader
use Rattle.plain_machine.specs.declared.event.TaskOp.{TaskOp}
use Rattle.plain_machine.specs.declared.event.TaskOp.TheVariants as op
use Rattle.plain_machine.specs.declared.reply.Left.{Left}
use Rattle.plain_machine.specs.declared.reply.Left.TheVariants.{Same, Gone, Unsure}
use Rattle.plain_machine.specs.declared.reply.Reply.{Reply}
use Rattle.plain_machine.specs.declared.reply.Reply.TheVariants as reply
use Rattle.plain_machine.specs.declared.reply.UndoCall.{UndoCall}
use Rattle.plain_machine.specs.declared.reply.UndoCall.TheVariants as undo
use Rattle.theorem_laws.specs.ComesBack.{HasNoOther, HoldsNoOther, FindsNoOther, KeepsPage, BootsAfresh, AreQuiet, BringsIn}

-- What each outcome keeps, but that of a page that went out to the slot.

abbrev Keeps : ℕ → List ℕ → Outcome → Type 0
Keeps s page o = o.0 ≢ reply.Written s → KeepsPage s page o.1

abbrev AllKeep : ℕ → List ℕ → List Outcome → Type 0
AllKeep s page os = AllByRecursion (Keeps s page) os

module _ (s : ℕ) (page : List ℕ) where
  either : (b : Bool) (xs ys : List Outcome) → AllKeep s page xs → AllKeep s page ys → AllKeep s page (cond b xs ys)
  either true xs ys p q = p
  either false xs ys p q = q

  either_one : (b : Bool) (x y : Outcome) → Keeps s page x → Keeps s page y → Keeps s page (cond b x y)
  either_one true x y p q = p
  either_one false x y p q = q

  perhaps_keeps : (held : Held) → HoldsNoOther s page held → HoldsNoOther s page (perhaps held)
  perhaps_keeps nothing is = tt
  perhaps_keeps (sure (own i)) is = is
  perhaps_keeps (sure other) is = is
  perhaps_keeps (maybe (own i)) is = is
  perhaps_keeps (maybe other) is = is

  saved_keeps : (found : Found) (held : Held) → FindsNoOther s page found → HoldsNoOther s page held → HoldsNoOther s page (saved_found found held)
  saved_keeps not_yet held finds is = is
  saved_keeps (found_own i) held finds is = finds
  saved_keeps (found_other v) held finds is = absurd finds

  back_keeps : (held : Held) (call : Option BackCall) → HoldsNoOther s page held → HoldsNoOther s page (held_back held call)
  back_keeps held (Some reads_mark) is = is
  back_keeps held (Some takes_back) is = is
  back_keeps held (Some syncs_back) is = perhaps_keeps held is
  back_keeps held None is = perhaps_keeps held is

  hibernating_keeps : (i : Image) (call : Option HibernationCall) → HasNoOther s page i.slots → HoldsNoOther s page (held_hibernating i call)
  hibernating_keeps i (Some writes_page) is = tt
  hibernating_keeps i (Some syncs_pages) is = tt
  hibernating_keeps i (Some reads_header) is = tt
  hibernating_keeps i (Some writes_mark) is = tt
  hibernating_keeps i (Some syncs_mark) is = is
  hibernating_keeps i None is = is

  loading_keeps : (load : Load) (call : LoadCall) → HoldsNoOther s page load.held → FindsNoOther s page load.found → HoldsNoOther s page (held_loading load call)
  loading_keeps load syncs_first is finds = is
  loading_keeps load (of_mark reads_mark) is finds = is
  loading_keeps load (of_mark takes_back) is finds = saved_keeps load.found load.held finds is
  loading_keeps load (of_mark syncs_back) is finds = perhaps_keeps (saved_found load.found load.held) (saved_keeps load.found load.held finds is)
  loading_keeps load reads_image is finds = tt

  held_keeps : (a : State) → KeepsPage s page a → HoldsNoOther s page (held_in a)
  held_keeps (off held kept) is = is
  held_keeps (on a) is = is.1
  held_keeps (booting from dump held k) is = is.1
  held_keeps (hibernating suspends i a k) is = hibernating_keeps i (hibernation_call i k) is.0
  held_keeps (undoing i call a k) is = is.0
  held_keeps (settling a k) is = back_keeps a.held (back_call k) is.1
  held_keeps (waking i held a k) is = back_keeps held (back_call k) is.1
  held_keeps (loading load k) is = loading_keeps load (load_call k) is.0 is.1
  held_keeps (asleep i held a) is = is.1

  running_keeps : (a : State) (f : Running → List Outcome) → KeepsPage s page a → ((r : Running) → HasNoOther s page r.slots → HoldsNoOther s page r.held → AllKeep s page (f r)) → AllKeep s page (if_running a f)
  running_keeps (on a) f is keeps = keeps a is.0 is.1
  running_keeps (off held kept) f is keeps = tt
  running_keeps (booting from dump held k) f is keeps = tt
  running_keeps (hibernating suspends i a k) f is keeps = tt
  running_keeps (undoing i call a k) f is keeps = tt
  running_keeps (settling a k) f is keeps = tt
  running_keeps (waking i held a k) f is keeps = tt
  running_keeps (loading load k) f is keeps = tt
  running_keeps (asleep i held a) f is keeps = tt

  woken_keeps : (a : State) → KeepsPage s page a → AllKeep s page (woken a)
  woken_keeps (asleep i held a) is = ((λ quiet. is), tt)
  woken_keeps (off held kept) is = tt
  woken_keeps (on a) is = tt
  woken_keeps (booting from dump held k) is = tt
  woken_keeps (hibernating suspends i a k) is = tt
  woken_keeps (undoing i call a k) is = tt
  woken_keeps (settling a k) is = tt
  woken_keeps (waking i held a k) is = tt
  woken_keeps (loading load k) is = tt

  requested_keeps : (h : Hardware) (t : ℕ) (o : TaskOp) (a : Running) → HasNoOther s page a.slots → HoldsNoOther s page a.held → AllKeep s page (requested h a t o)
  requested_keeps h t (op.Claim p) a has holds = ((λ quiet. (has, holds)), tt)
  requested_keeps h t (op.Release p) a has holds = ((λ quiet. (has, holds)), tt)
  requested_keeps h t (op.Store p k v) a has holds = ((λ quiet. (has, holds)), tt)
  requested_keeps h t (op.Show p k) a has holds = ((λ quiet. (has, holds)), tt)
  requested_keeps h t (op.Cache p) a has holds = ((λ quiet. (has, holds)), tt)
  requested_keeps h t (op.Out p) a has holds = ((λ quiet. (has, holds)), tt)
  requested_keeps h t (op.TakeIn q p) a has holds = ((λ quiet. (has, holds)), tt)

  -- a slot that is set
  set_other : (slots : SlotPages) (q : ℕ) (x : Option (List ℕ)) → q ≢ s → HasNoOther s page slots → HasNoOther s page (with_slot slots q x)
  set_other slots q x differs has y says = has y (other_slot (eqb s q) refl says) where
    other_slot : (b : Bool) → eqb s q ≡ b → cond b x (slots s) ≡ Some y → slots s ≡ Some y
    other_slot true same e = absurd (differs (sym (eqb-true s q same)))
    other_slot false same e = e

  emptied : (slots : SlotPages) (q : ℕ) → HasNoOther s page slots → HasNoOther s page (with_slot slots q None)
  emptied slots q has y says = by_test (eqb s q) says where
    by_test : (b : Bool) → cond b None (slots s) ≡ Some y → y ≡ page
    by_test true e = absurd (none-some y e)
    by_test false e = has y e

  task_keeps : (h : Hardware) (t : ℕ) (a : Running) (flight : Option Flight) → HasNoOther s page a.slots → HoldsNoOther s page a.held → AllKeep s page (task_step h a t flight)
  task_keeps h t a None has holds = tt
  task_keeps h t a (Some (goes_out q p)) has holds =
      ((λ quiet. (set_other a.slots q (Some (frame a.memory p)) (λ same. quiet (ap reply.Written same)) has, holds)), ((λ quiet. (has, holds)), tt))
  task_keeps h t a (Some (comes_in q p)) has holds = ((λ quiet. (emptied a.slots q has, holds)), ((λ quiet. (has, holds)), tt))

  none_there : HasNoOther s page (λ q. None)
  none_there x says = absurd (none-some x says)

  boots_keep : (h : Hardware) (v : disk.DiskImage) (from : BootFrom) (dump : Memory) (held : Held) → from ≡ Fresh → HoldsNoOther s page held → AllKeep s page (boot_outcomes h v from dump held ++ only (reply.ReadFault Same) (off held None))
  boots_keep h v Fresh dump nothing fresh is = ((λ quiet. (none_there, tt)), ((λ quiet. tt), tt))
  boots_keep h v Fresh dump (sure (own i)) fresh is = ((λ quiet. (none_there, is)), ((λ quiet. is), tt))
  boots_keep h v Fresh dump (sure other) fresh is = absurd is
  boots_keep h v Fresh dump (maybe (own i)) fresh is = ((λ quiet. (none_there, tt)), ((λ quiet. (none_there, is)), ((λ quiet. is), tt)))
  boots_keep h v Fresh dump (maybe other) fresh is = absurd is
  boots_keep h v Kept dump held fresh is = cc

  boot_keeps : (h : Hardware) (v : disk.DiskImage) (from : BootFrom) (dump : Memory) (held : Held) (k : ℕ) → from ≡ Fresh → HoldsNoOther s page held → AllKeep s page (boot_step h v from dump held k)
  boot_keeps h v from dump held zero fresh is = ((λ quiet. (fresh, is)), ((λ quiet. is), tt))
  boot_keeps h v from dump held (suc zero) fresh is = boots_keep h v from dump held fresh is
  boot_keeps h v from dump held (suc (suc k)) fresh is = tt

  hibernated_keeps : (suspends : Bool) (i : Image) (a : Running) → HasNoOther s page i.slots → HasNoOther s page a.slots → Keeps s page (hibernated suspends i a)
  hibernated_keeps false i a saved has = λ quiet. saved
  hibernated_keeps true i a saved has = λ quiet. (has, saved)

  hibernation_keeps : (suspends : Bool) (i : Image) (a : Running) (k : ℕ) (call : Option HibernationCall) → HasNoOther s page i.slots → HasNoOther s page a.slots → HoldsNoOther s page a.held → AllKeep s page (hibernation_outcomes suspends i a k call)
  hibernation_keeps suspends i a k None saved has holds = tt
  hibernation_keeps suspends i a k (Some writes_page) saved has holds = ((λ quiet. (saved, has, holds)), ((λ quiet. (has, holds)), tt))
  hibernation_keeps suspends i a k (Some syncs_pages) saved has holds = ((λ quiet. (saved, has, holds)), ((λ quiet. (has, holds)), tt))
  hibernation_keeps suspends i a k (Some reads_header) saved has holds = ((λ quiet. (saved, has, holds)), ((λ quiet. (has, holds)), tt))
  hibernation_keeps suspends i a k (Some writes_mark) saved has holds = ((λ quiet. (saved, has, holds)), ((λ quiet. (saved, has)), tt))
  hibernation_keeps suspends i a k (Some syncs_mark) saved has holds = (hibernated_keeps suspends i a saved has, ((λ quiet. (saved, has)), tt))

  undone_keeps : (call : UndoCall) (left : Left) (b : State) → KeepsPage s page b → Keeps s page (undone_fault call left, b)
  undone_keeps undo.Write left b is = λ quiet. is
  undone_keeps undo.Sync left b is = λ quiet. is

  undo_keeps : (i : Image) (call : UndoCall) (a : Running) (k : ℕ) → HasNoOther s page i.slots → HasNoOther s page a.slots → AllKeep s page (undo_step i call a k)
  undo_keeps i call a zero saved has = ((λ quiet. (saved, has)), (undone_keeps call Unsure (on (record a { held = maybe (own i) })) (has, saved), tt))
  undo_keeps i call a (suc zero) saved has =
      (undone_keeps call Gone (on (record a { held = nothing })) (has, tt), (undone_keeps call Unsure (on (record a { held = maybe (own i) })) (has, saved), tt))
  undo_keeps i call a (suc (suc k)) saved has = tt

  settle_keeps : (a : Running) (k : ℕ) → HasNoOther s page a.slots → HoldsNoOther s page a.held → AllKeep s page (settle_step a k)
  settle_keeps a zero has holds = ((λ quiet. (has, holds)), ((λ quiet. (has, holds)), tt))
  settle_keeps a (suc zero) has holds = ((λ quiet. (has, holds)), ((λ quiet. (has, perhaps_keeps a.held holds)), tt))
  settle_keeps a (suc (suc zero)) has holds = ((λ quiet. (has, tt)), ((λ quiet. (has, perhaps_keeps a.held holds)), tt))
  settle_keeps a (suc (suc (suc k))) has holds = tt

  wake_keeps : (i : Image) (held : Held) (a : Running) (k : ℕ) → HasNoOther s page a.slots → HoldsNoOther s page held → AllKeep s page (wake_step i held a k)
  wake_keeps i held a zero has holds = ((λ quiet. (has, holds)), ((λ quiet. (has, holds)), tt))
  wake_keeps i held a (suc zero) has holds = ((λ quiet. (has, holds)), ((λ quiet. (has, perhaps_keeps held holds)), tt))
  wake_keeps i held a (suc (suc zero)) has holds = ((λ quiet. (has, tt)), ((λ quiet. (has, perhaps_keeps held holds)), tt))
  wake_keeps i held a (suc (suc (suc k))) has holds = tt

  fault_keeps : (load : Load) (call : LoadCall) → HoldsNoOther s page load.held → FindsNoOther s page load.found → Keeps s page (fault_of_load load call)
  fault_keeps load syncs_first is finds = λ quiet. is
  fault_keeps load (of_mark reads_mark) is finds = λ quiet. is
  fault_keeps load (of_mark takes_back) is finds = λ quiet. perhaps_keeps (saved_found load.found load.held) (saved_keeps load.found load.held finds is)
  fault_keeps load (of_mark syncs_back) is finds = λ quiet. perhaps_keeps (saved_found load.found load.held) (saved_keeps load.found load.held finds is)
  fault_keeps load reads_image is finds = λ quiet. tt

  find_keeps : (h : Hardware) (v : disk.DiskImage) (load : Load) (held : Held) → HoldsNoOther s page held → HoldsNoOther s page load.held → AllKeep s page (find_step h v load held)
  find_keeps h v load nothing is here = ((λ quiet. tt), tt)
  find_keeps h v load (sure (own i)) is here = ((λ quiet. (here, is)), tt)
  find_keeps h v load (sure other) is here = absurd is
  find_keeps h v load (maybe (own i)) is here = ((λ quiet. (here, is)), ((λ quiet. tt), tt))
  find_keeps h v load (maybe other) is here = absurd is

  resumed_keeps : (m : Memory) (i : Image) (from : Loader) → HasNoOther s page i.slots → KeepsPage s page (resumed m i.slots from)
  resumed_keeps m i (loader.Ranges ranges) saved = (saved, tt)
  resumed_keeps m i loader.Table saved = tt

  own_keeps : (h : Hardware) (load : Load) (i : Image) (k : ℕ) → HasNoOther s page i.slots → HoldsNoOther s page load.held → FindsNoOther s page load.found → Keeps s page (own_step h load i k)
  own_keeps h load i k saved is finds =
      let done : Outcome = (reply.Resumed (n_of i), resumed (restored h load.dump load.loader i) i.slots load.loader) in
      let more : Outcome = (reply.Loading (k + 1), loading load (k + 1)) in
      either_one (eqb (k + 1) (6 + meta_of (n_of i)) && not (has_room h load (d_of i))) (too_few h load (d_of i)) (cond (eqb (k + 1) (resume_steps i)) done more) (λ quiet. tt)
      (either_one (eqb (k + 1) (resume_steps i)) done more (λ quiet. resumed_keeps (restored h load.dump load.loader i) i load.loader saved) (λ quiet. (is, finds)))

  loaded_keeps : (h : Hardware) (load : Load) (found : Found) (k : ℕ) → FindsNoOther s page found → HoldsNoOther s page load.held → FindsNoOther s page load.found → AllKeep s page (loaded_step h load found k)
  loaded_keeps h load not_yet k here is finds = tt
  loaded_keeps h load (found_own i) k here is finds = (own_keeps h load i k here is finds, tt)
  loaded_keeps h load (found_other v) k here is finds = absurd here

  answers_keep : (h : Hardware) (v : disk.DiskImage) (load : Load) (k : ℕ) → HoldsNoOther s page load.held → FindsNoOther s page load.found → AllKeep s page (load_answers h v load k)
  answers_keep h v load zero is finds = ((λ quiet. (is, finds)), tt)
  answers_keep h v load (suc zero) is finds = find_keeps h v load load.held is is
  answers_keep h v load (suc (suc zero)) is finds = loaded_keeps h load load.found 2 finds is finds
  answers_keep h v load (suc (suc (suc zero))) is finds = loaded_keeps h load load.found 3 finds is finds
  answers_keep h v load (suc (suc (suc (suc k)))) is finds = loaded_keeps h load load.found (suc (suc (suc (suc k)))) finds is finds

  load_keeps : (h : Hardware) (v : disk.DiskImage) (load : Load) (k : ℕ) → HoldsNoOther s page load.held → FindsNoOther s page load.found → AllKeep s page (load_step h v load k)
  load_keeps h v load k is finds =
      either (ltb k 4 || has_place h load load.found k) (load_fault load k ∷ load_answers h v load k) [] (fault_keeps load (load_call k) is finds, answers_keep h v load k is finds) tt

  core_keeps : (h : Hardware) (v : disk.DiskImage) (a : State) → KeepsPage s page a → AllKeep s page (core_step h v a)
  core_keeps h v (off held kept) is = tt
  core_keeps h v (on a) is = tt
  core_keeps h v (booting from dump held k) is = boot_keeps h v from dump held k is.0 is.1
  core_keeps h v (hibernating suspends i a k) is = hibernation_keeps suspends i a k (hibernation_call i k) is.0 is.1 is.2
  core_keeps h v (undoing i call a k) is = undo_keeps i call a k is.0 is.1
  core_keeps h v (settling a k) is = settle_keeps a k is.0 is.1
  core_keeps h v (waking i held a k) is = wake_keeps i held a k is.0 is.1
  core_keeps h v (loading load k) is = load_keeps h v load k is.0 is.1
  core_keeps h v (asleep i held a) is = tt

  accepted_keeps : (h : Hardware) (v : disk.DiskImage) (a : State) (e : Event) → BootsAfresh e → KeepsPage s page a → AllKeep s page (accepted h v a e)
  accepted_keeps h v a (event.Boot Fresh) fresh is = ((λ quiet. (refl, held_keeps a is)), tt)
  accepted_keeps h v a (event.Boot Kept) fresh is = absurd fresh
  accepted_keeps h v a (event.Hibernate f) fresh is = running_keeps a (begun h false f) is (λ r has holds. ((λ quiet. (has, has, holds)), tt))
  accepted_keeps h v a (event.Suspend f) fresh is = running_keeps a (begun h true f) is (λ r has holds. ((λ quiet. (has, has, holds)), tt))
  accepted_keeps h v a event.Wake fresh is = woken_keeps a is
  accepted_keeps h v a event.Settle fresh is = running_keeps a (λ r. only (reply.More 0 3) (settling r 0)) is (λ r has holds. ((λ quiet. (has, holds)), tt))
  accepted_keeps h v a (event.Shrink want) fresh is =
      running_keeps a (λ r. only (reply.Shrunk (length (dropped_by h r.memory want)) (length (saveable h r.memory) - length (dropped_by h r.memory want))) (on (record r { memory = drop_memory h r.memory want }))) is
      (λ r has holds. ((λ quiet. (has, holds)), tt))
  accepted_keeps h v a (event.Resume l check) fresh is = ((λ quiet. (held_keeps a is, tt)), tt)
  accepted_keeps h v a (event.Step actor.Core) fresh is = core_keeps h v a is
  accepted_keeps h v a (event.Step (actor.Task t)) fresh is = running_keeps a (λ r. task_step h r t (r.flights t)) is (λ r has holds. task_keeps h t r (r.flights t) has holds)
  accepted_keeps h v a (event.Task t o) fresh is = running_keeps a (λ r. requested h r t o) is (λ r has holds. requested_keeps h t o r has holds)
  accepted_keeps h v a (event.Cut pick) fresh is = ((λ quiet. held_keeps a is), tt)
  accepted_keeps h v a (event.Arm first count pick) fresh is = ((λ quiet. is), tt)

  refused_keeps : (a : State) (refused : Option Reply) (os : List Outcome) → KeepsPage s page a → AllKeep s page os → AllKeep s page (refused_or a refused os)
  refused_keeps a (Some r) os is taken = ((λ quiet. is), tt)
  refused_keeps a None os is taken = taken

  all_keep : (h : Hardware) (v : disk.DiskImage) (a : State) (e : Event) → BootsAfresh e → KeepsPage s page a → AllKeep s page (outcomes h v a e)
  unfolding outcomes
  all_keep h v a e fresh is = refused_keeps a (refusal h a e) (accepted h v a e) is (accepted_keeps h v a e fresh is)

  step_keeps : (h : Hardware) (v : disk.DiskImage) (a : State) (e : Event) (r : Reply) (b : State) → Step h v a e r b → BootsAfresh e → r ≢ reply.Written s → KeepsPage s page a → KeepsPage s page b
  step_keeps h v a e r b step fresh quiet is = All-contains (Keeps s page) (outcomes h v a e) (r, b) (All-from_recursion (Keeps s page) (outcomes h v a e) (all_keep h v a e fresh is)) step quiet

  -- a page in a slot stays over a run in which no page goes out to the slot
  run_keeps : (h : Hardware) (v : disk.DiskImage) (a : State) (events : List Event) (replies : List Reply) (b : State) → Run h v a events replies b → AreQuiet s events replies → KeepsPage s page a → KeepsPage s page b
  run_keeps h v a [] [] b run quiet is = subst (KeepsPage s page) (sym run) is
  run_keeps h v a [] (r ∷ replies) b run quiet is = absurd run
  run_keeps h v a (e ∷ events) [] b run quiet is = absurd run
  run_keeps h v a (e ∷ events) (r ∷ replies) b (mid, step, run) quiet is =
      run_keeps h v mid events replies b run
      ((λ x in'. quiet.0 x (suc in'.0, omega arith, in'.2)), (λ x in'. quiet.1 x (suc in'.0, omega arith, in'.2)))
      (step_keeps h v a e r mid step (quiet.0 e (0, omega arith, refl)) (quiet.1 r (0, omega arith, refl)) is)

-- A page goes out.

set_there : (slots : SlotPages) (s : ℕ) (page : List ℕ) → HasNoOther s page (with_slot slots s (Some page))
set_there slots s page x says = sym (same_Some page x (subst (λ (b : Bool). cond b (Some page) (slots s) ≡ Some x) (eq-eqb s s refl) says))

abbrev outcome : Reply → State → Outcome
outcome r a = (r, a)

reply_of : (r q : Reply) (a b : State) → outcome r a ≡ outcome q b → q ≡ r
reply_of r q a b e = sym (ap (λ (o : Outcome). o.0) e)

state_of : (r q : Reply) (a b : State) → outcome r a ≡ outcome q b → b ≡ a
state_of r q a b e = sym (ap (λ (o : Outcome). o.1) e)

taken_by : (x : State) (idle : Bool) (os : List Outcome) (r : Reply) (b : State) → Contains (refused_or x (refused_if idle reply.Idle) os) (outcome r b) → (r ≡ reply.Idle) ⊎ Contains os (outcome r b)
taken_by x true os r b (zero, lt, e) = inl (reply_of reply.Idle r x b e)
taken_by x true os r b (suc k, lt, e) = absurd (omega arith)
taken_by x false os r b is = inr is

task_outcome : (h : Hardware) (v : disk.DiskImage) (a : Running) (t : ℕ) (flight : Flight) (r : Reply) (b : State) → a.flights t ≡ Some flight → Step h v (on a) (event.Step (actor.Task t)) r b → (r ≡ reply.Idle) ⊎ Contains (task_step h a t (Some flight)) (outcome r b)
unfolding outcomes refusal
task_outcome h v a t flight r b is step = elim (taken_by (on a) (not (has_step (on a) (actor.Task t))) (task_step h a t (a.flights t)) r b step) [
  | inl idle ↦ inl idle
  | inr taken ↦ inr (subst (λ (f : Option Flight). Contains (task_step h a t f) (outcome r b)) is taken)
]

written_no_fault : (s : ℕ) (left : Left) → reply.Written s ≡ reply.WriteFault left → ⊥
written_no_fault s left e = cc

fetched_no_fault : (s : ℕ) (left : Left) → reply.Fetched s ≡ reply.ReadFault left → ⊥
fetched_no_fault s left e = cc

went_out : (h : Hardware) (a : Running) (t s p : ℕ) (b : State) → a.held ≡ nothing → Contains (task_step h a t (Some (goes_out s p))) (outcome (reply.Written s) b) → KeepsPage s (frame a.memory p) b
went_out h a t s p b none (zero, lt, e) =
    let page = frame a.memory p in
    let landed : Running = record a { flights = with_flight a.flights t None } in
    let then : Running = record landed { slots = with_slot a.slots s (Some page) } in
    subst (KeepsPage s page) (sym (state_of (reply.Written s) (reply.Written s) (on then) b e)) (set_there a.slots s page, subst (HoldsNoOther s page) (sym none) tt)
went_out h a t s p b none (suc zero, lt, e) = absurd (written_no_fault s Same (reply_of (reply.WriteFault Same) (reply.Written s) _ b e))
went_out h a t s p b none (suc (suc k), lt, e) = absurd (omega arith)

-- The page is brought in.

page_there : (o : Option (List ℕ)) (page before : List ℕ) → (x : List ℕ) × (o ≡ Some x) → ((x : List ℕ) → o ≡ Some x → x ≡ page) → unwrap_or o before ≡ page
page_there o page before (x, says) only = ap (λ (y : Option (List ℕ)). unwrap_or y before) says ∙ only x says

came_in : (h : Hardware) (a : Running) (u s q : ℕ) (page : List ℕ) (b : State) → HasNoOther s page a.slots → (x : List ℕ) × (a.slots s ≡ Some x) → Contains (task_step h a u (Some (comes_in s q))) (outcome (reply.Fetched s) b) → BringsIn page q b
came_in h a u s q page b has some (zero, lt, e) =
    let landed : Running = record a { flights = with_flight a.flights u None } in
    let freed = with_slot_entry h a.memory s 0 in
    let brought = unwrap_or (a.slots s) (frame a.memory q) in
    let then : Running = record landed { memory = with_frame freed q brought; slots = with_slot a.slots s None } in
    record {
      after = then;
      runs = state_of (reply.Fetched s) (reply.Fetched s) (on then) b e;
      brought = λ inside. get_or-set_same freed q brought [] (subst (λ (n : ℕ). q < n) (length-set freed q brought) inside) ∙ page_there (a.slots s) page (frame a.memory q) some has;
    }
came_in h a u s q page b has some (suc zero, lt, e) = absurd (fetched_no_fault s Same (reply_of (reply.ReadFault Same) (reply.Fetched s) _ b e))
came_in h a u s q page b has some (suc (suc k), lt, e) = absurd (omega arith)

written_no_idle : (s : ℕ) → reply.Written s ≡ reply.Idle → ⊥
written_no_idle s e = cc

fetched_no_idle : (s : ℕ) → reply.Fetched s ≡ reply.Idle → ⊥
fetched_no_idle s e = cc

-- Page frame p of task t goes out to slot s, where no image is held, as at each out; over any run after it, hibernations
-- and resumes among its events, in which no other page goes out to that slot, what a task brings in from there is what
-- page frame p had.
pub comes_back : (h : Hardware) (v w : disk.DiskImage) (s t p u q : ℕ) (before then : Running) (out b : State) (events : List Event) (replies : List Reply) →
    before.flights t ≡ Some (goes_out s p) → before.held ≡ nothing → Step h v (on before) (event.Step (actor.Task t)) (reply.Written s) out →
    Run h w out events replies (on then) → AreQuiet s events replies →
    then.flights u ≡ Some (comes_in s q) → (x : List ℕ) × (then.slots s ≡ Some x) → Step h w (on then) (event.Step (actor.Task u)) (reply.Fetched s) b → BringsIn (frame before.memory p) q b
comes_back h v w s t p u q before then out b events replies flies none goes run quiet comes some fetched =
    let page = frame before.memory p in
    let kept : KeepsPage s page out = elim (task_outcome h v before t (goes_out s p) (reply.Written s) out flies goes) [
      | inl idle ↦ absurd (written_no_idle s idle)
      | inr is ↦ went_out h before t s p out none is
    ] in
    let there : KeepsPage s page (on then) = run_keeps s page h w out events replies (on then) run quiet kept in
    elim (task_outcome h w then u (comes_in s q) (reply.Fetched s) b comes fetched) [
      | inl idle ↦ absurd (fetched_no_idle s idle)
      | inr is ↦ came_in h then u s q page b there.0 some is
    ]
