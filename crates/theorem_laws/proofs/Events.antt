-- An event that is no hibernation which is accepted keeps the image.
use Rattle.std.proofs.Common.{◌≡◌, ◌-◌, length, true, false, List, [], ◌∷◌, Option, Some, None, sym}
use Rattle.std.specs.List.{AllByRecursion}
use Rattle.std.proofs.lemmas.List.Elements.{All-from_recursion, All-contains}
use Rattle.std.proofs.lemmas.Bool.{false≢true}
use Rattle.definitions.specs.Disk as disk
use Rattle.plain_machine.specs.Machine.{Hardware, saveable}
use Rattle.plain_machine.specs.Image.{Image}
use Rattle.plain_machine.specs.Refusals.{refusal}
use Rattle.plain_machine.specs.State.{State, off, on, booting, hibernating, undoing, settling, waking, loading, asleep, Running}
use Rattle.plain_machine.specs.Step.{Step, Outcome, only, outcomes, accepted, refused_or, if_running, woken, requested, task_step, begun, core_step, drop_memory, dropped_by}
use Rattle.plain_machine.specs.declared.event.Actor.TheVariants as actor
use Rattle.plain_machine.specs.declared.event.Event.{Event}
use Rattle.plain_machine.specs.declared.event.Event.TheVariants as event
use Rattle.plain_machine.specs.declared.reply.Reply.{Reply}
use Rattle.plain_machine.specs.declared.reply.Reply.TheVariants as reply
use Rattle.theorem_laws.specs.Resumes.{is_hibernation}
use Rattle.theorem_laws.proofs.Spent.{resumed_goes_on}
use Rattle.theorem_laws.proofs.Refused.{EndsNone, refusal_ends_none}
use Rattle.theorem_laws.proofs.Keeping.{HasOnly, Keeps, AllKeep, only_held, if_running_keeps, woken_keeps, requested_keeps, task_step_keeps, core_keeps}

abbrev pub KeepsElse : Hardware → Image → Event → Outcome → Type 0
KeepsElse h i e outcome = is_hibernation e outcome.0 ≡ false → Keeps h i outcome

else_keeps : (h : Hardware) (i : Image) (e : Event) (os : List Outcome) → AllKeep h i os → AllByRecursion (KeepsElse h i e) os
else_keeps h i e [] all = tt
else_keeps h i e (o ∷ os) all = ((λ none. all.0), else_keeps h i e os all.1)

begun_else : (h : Hardware) (i : Image) (e : Event) (a : State) (f : Running → List Outcome) → ((r : Running) → AllByRecursion (KeepsElse h i e) (f r)) → AllByRecursion (KeepsElse h i e) (if_running a f)
begun_else h i e (on a) f keeps = keeps a
begun_else h i e (off held kept) f keeps = tt
begun_else h i e (booting from dump held k) f keeps = tt
begun_else h i e (hibernating suspends j a k) f keeps = tt
begun_else h i e (undoing j call a k) f keeps = tt
begun_else h i e (settling a k) f keeps = tt
begun_else h i e (waking j held a k) f keeps = tt
begun_else h i e (loading load k) f keeps = tt
begun_else h i e (asleep j held a) f keeps = tt

accepted_keeps : (h : Hardware) (v : disk.DiskImage) (i : Image) (a : State) (e : Event) → HasOnly i a → AllByRecursion (KeepsElse h i e) (accepted h v a e)
accepted_keeps h v i a (event.Boot from) is = ((λ none. (only_held i a is, (λ e. absurd e))), tt)
accepted_keeps h v i a (event.Hibernate f) is = begun_else h i (event.Hibernate f) a (begun h false f) (λ r. ((λ none. absurd (false≢true (sym none))), tt))
accepted_keeps h v i a (event.Suspend f) is = begun_else h i (event.Suspend f) a (begun h true f) (λ r. ((λ none. absurd (false≢true (sym none))), tt))
accepted_keeps h v i a event.Wake is = else_keeps h i event.Wake (woken a) (woken_keeps h i a is)
accepted_keeps h v i a event.Settle is =
    else_keeps h i event.Settle (if_running a (λ r. only (reply.More 0 3) (settling r 0)))
    (if_running_keeps h i a (λ r. only (reply.More 0 3) (settling r 0)) is (λ r held. ((held, (λ e. absurd e)), tt)))
accepted_keeps h v i a (event.Shrink want) is =
    let shrunk : Running → List Outcome = λ r. only
    (reply.Shrunk (length (dropped_by h r.memory want)) (length (saveable h r.memory) - length (dropped_by h r.memory want)))
    (on (record r { memory = drop_memory h r.memory want })) in
    else_keeps h i (event.Shrink want) (if_running a shrunk) (if_running_keeps h i a shrunk is (λ r held. ((held, (λ e. absurd e)), tt)))
accepted_keeps h v i a (event.Resume l check) is = ((λ none. ((only_held i a is, tt), (λ e. absurd e))), tt)
accepted_keeps h v i a (event.Step actor.Core) is = else_keeps h i (event.Step actor.Core) (core_step h v a) (core_keeps h v i a is)
accepted_keeps h v i a (event.Step (actor.Task t)) is =
    else_keeps h i (event.Step (actor.Task t)) (if_running a (λ r. task_step h r t (r.flights t)))
    (if_running_keeps h i a (λ r. task_step h r t (r.flights t)) is (λ r held. task_step_keeps h i t r (r.flights t) held))
accepted_keeps h v i a (event.Task t o) is =
    else_keeps h i (event.Task t o) (if_running a (λ r. requested h r t o)) (if_running_keeps h i a (λ r. requested h r t o) is (λ r held. requested_keeps h i t o r held))
accepted_keeps h v i a (event.Cut pick) is = ((λ none. (only_held i a is, (λ e. absurd e))), tt)
accepted_keeps h v i a (event.Arm first count pick) is = ((λ none. (is, (λ e. absurd e))), tt)

refused_or_keeps : (h : Hardware) (i : Image) (e : Event) (a : State) (refused : Option Reply) (os : List Outcome) → HasOnly i a → EndsNone refused → AllByRecursion (KeepsElse h i e) os → AllByRecursion (KeepsElse h i e) (refused_or a refused os)
refused_or_keeps h i e a (Some r) os is none taken = ((λ else'. (is, (λ resumes. absurd (none (resumed_goes_on r resumes))))), tt)
refused_or_keeps h i e a None os is none taken = taken

all_keep : (h : Hardware) (v : disk.DiskImage) (i : Image) (a : State) (e : Event) → HasOnly i a → AllByRecursion (KeepsElse h i e) (outcomes h v a e)
unfolding outcomes
all_keep h v i a e is = refused_or_keeps h i e a (refusal h a e) (accepted h v a e) is (refusal_ends_none h a e) (accepted_keeps h v i a e is)

pub keeps_image : (h : Hardware) (v : disk.DiskImage) (i : Image) (a : State) (e : Event) (r : Reply) (b : State) → Step h v a e r b → HasOnly i a → KeepsElse h i e (r, b)
keeps_image h v i a e r b step is = All-contains (KeepsElse h i e) (outcomes h v a e) (r, b) (All-from_recursion (KeepsElse h i e) (outcomes h v a e) (all_keep h v i a e is)) step
