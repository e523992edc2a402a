-- A hibernation that is accepted makes its image the only one.
use Rattle.std.proofs.Common.{◌≡◌, Bool, true, false, cond, Option, Some, None, refl, sym, ap, ◌∙◌, subst, Contains}
use Rattle.std.specs.List.{AllByRecursion}
use Rattle.std.proofs.lemmas.List.Elements.{All-from_recursion, All-contains}
use Rattle.std.proofs.lemmas.Bool.{false≢true}
use Rattle.std.proofs.lemmas.Option.{none-some}
use Rattle.page_core.specs.declared.format.Format.{Format}
use Rattle.definitions.specs.Disk as disk
use Rattle.plain_machine.specs.Chain.{or_else}
use Rattle.plain_machine.specs.Machine.{Hardware}
use Rattle.plain_machine.specs.Image.{Image, image_of_memory}
use Rattle.plain_machine.specs.Refusals.{refusal, is_held, busy, closed, no_swap, no_frames, no_slots, hibernate_refusal, refusal_if_running}
use Rattle.plain_machine.specs.State.{State, off, on, booting, hibernating, undoing, settling, waking, loading, asleep, Running, Held, nothing, sure, maybe}
use Rattle.plain_machine.specs.Step.{Step, Outcome, outcomes, refused_or, if_running, begun}
use Rattle.plain_machine.specs.declared.event.Event.{Event}
use Rattle.plain_machine.specs.declared.event.Event.TheVariants as event
use Rattle.plain_machine.specs.declared.reply.Reply.{Reply}
use Rattle.plain_machine.specs.declared.reply.Reply.TheVariants as reply
use Rattle.theorem_laws.specs.Resumes.{is_hibernation}
use Rattle.theorem_laws.proofs.Refused.{EndsNone}
use Rattle.theorem_laws.proofs.Spent.{GoesOn}
use Rattle.theorem_laws.proofs.Refused.{hibernate_ends_none}
use Rattle.theorem_laws.proofs.Keeping.{IsOnly, HasOnly}

abbrev pub BeginsFrom : Hardware → State → State → Type 0
BeginsFrom h a b = (before : Running) × (f : Format) × (a ≡ on before) × HasOnly (image_of_memory h before.memory before.slots f) b

abbrev Begins : Hardware → State → Outcome → Type 0
Begins h a outcome = GoesOn outcome.0 → BeginsFrom h a outcome.1

else_none : (x y : Option Reply) → or_else x y ≡ None → (x ≡ None) × (y ≡ None)
else_none None y e = (refl, e)
else_none (Some r) y e = absurd (none-some r (sym e))

open_only : (i : Image) (a : Running) (held : Held) → a.held ≡ held → closed a ≡ None → IsOnly i a.held
open_only i a nothing is e = subst (IsOnly i) (sym is) tt
open_only i a (sure x) is e = absurd (none-some reply.Closed (sym e ∙ ap (λ (held : Held). cond (is_held held) (Some reply.Closed) None) is))
open_only i a (maybe x) is e = absurd (none-some reply.Closed (sym e ∙ ap (λ (held : Held). cond (is_held held) (Some reply.Closed) None) is))

running_begins : (h : Hardware) (suspends : Bool) (f : Format) (a : Running) (refused : Option Reply) → hibernate_refusal h f a ≡ refused → AllByRecursion (Begins h (on a)) (refused_or (on a) refused (begun h suspends f a))
running_begins h suspends f a (Some r) is = ((λ goes. absurd (subst EndsNone is (hibernate_ends_none h f a) goes)), tt)
running_begins h suspends f a None is =
    let i = image_of_memory h a.memory a.slots f in
    let few = or_else (no_swap a.unusable) (or_else (no_frames h a i) (no_slots h a i)) in
    let unbusy = else_none (busy a) (or_else (closed a) few) is in
    let unheld = else_none (closed a) few unbusy.1 in
    ((λ goes. (a, f, refl, (refl, open_only i a a.held refl unheld.0))), tt)

all_begin : (h : Hardware) (suspends : Bool) (f : Format) (a : State) → AllByRecursion (Begins h a) (refused_or a (refusal_if_running a (hibernate_refusal h f)) (if_running a (begun h suspends f)))
all_begin h suspends f (on a) = running_begins h suspends f a (hibernate_refusal h f a) refl
all_begin h suspends f (off held kept) = ((λ goes. absurd goes), tt)
all_begin h suspends f (booting from dump held k) = ((λ goes. absurd goes), tt)
all_begin h suspends f (hibernating s j a k) = ((λ goes. absurd goes), tt)
all_begin h suspends f (undoing j call a k) = ((λ goes. absurd goes), tt)
all_begin h suspends f (settling a k) = ((λ goes. absurd goes), tt)
all_begin h suspends f (waking j held a k) = ((λ goes. absurd goes), tt)
all_begin h suspends f (loading load k) = ((λ goes. absurd goes), tt)
all_begin h suspends f (asleep j held a) = ((λ goes. absurd goes), tt)

begins_of : (h : Hardware) (suspends : Bool) (f : Format) (a : State) (r : Reply) (b : State) → Contains (refused_or a (refusal_if_running a (hibernate_refusal h f)) (if_running a (begun h suspends f))) (r, b) → Begins h a (r, b)
begins_of h suspends f a r b in' =
    let os = refused_or a (refusal_if_running a (hibernate_refusal h f)) (if_running a (begun h suspends f)) in
    All-contains (Begins h a) os (r, b) (All-from_recursion (Begins h a) os (all_begin h suspends f a)) in'

hibernation_goes_on : (e : Event) (r : Reply) → is_hibernation e r ≡ true → GoesOn r
hibernation_goes_on e (reply.More k of) is = tt
hibernation_goes_on (event.Hibernate f) _ is = absurd (false≢true is)
hibernation_goes_on (event.Suspend f) _ is = absurd (false≢true is)
hibernation_goes_on _ _ is = absurd (false≢true is)

pub begins_by : (h : Hardware) (v : disk.DiskImage) (a : State) (e : Event) (r : Reply) (b : State) → Step h v a e r b → is_hibernation e r ≡ true → BeginsFrom h a b
unfolding outcomes refusal
begins_by h v a (event.Hibernate f) r b step is = begins_of h false f a r b step (hibernation_goes_on (event.Hibernate f) r is)
begins_by h v a (event.Suspend f) r b step is = begins_of h true f a r b step (hibernation_goes_on (event.Suspend f) r is)
begins_by h v a _ (reply.More k of) b step is = absurd (false≢true is)
begins_by h v a _ _ b step is = absurd (false≢true is)
