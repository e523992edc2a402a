-- What the plain machine replies to a boot with a dump's memory, and to the hibernation after it.
use Rattle.std.proofs.Common.{◌≡◌, ◌⊎◌, inl, inr, zero, suc, Bool, true, false, cond, List, ◌∷◌, [], Option, Some, None, length, ◌-◌, ℕ, refl, sym, ap, subst, arith, Contains}
use Rattle.definitions.specs.Disk as disk
use Rattle.page_core.specs.declared.format.Format.{Format}
use Rattle.plain_machine.specs.Image.{image_of_memory, hibernate_steps}
use Rattle.plain_machine.specs.Machine.{Hardware, Memory, saveable}
use Rattle.plain_machine.specs.Refusals.{busy, refusal}
use Rattle.plain_machine.specs.State.{State, Held, Running, off, on, booting, hibernating, nothing, sure, other}
use Rattle.plain_machine.specs.Step.{Step, Outcome, outcomes, refused_or, booted, boot_step, drop_memory, dropped_by}
use Rattle.plain_machine.specs.declared.event.Actor.TheVariants as actor
use Rattle.plain_machine.specs.declared.event.BootFrom.TheVariants.{Kept}
use Rattle.plain_machine.specs.declared.event.Event.TheVariants as event
use Rattle.plain_machine.specs.declared.reply.Left.TheVariants.{Same}
use Rattle.plain_machine.specs.declared.reply.Reply.{Reply}
use Rattle.plain_machine.specs.declared.reply.Reply.TheVariants as reply

-- the parts of an outcome
abbrev pub outcome : Reply → State → Outcome
outcome r a = (r, a)

one_of : (r s : Reply) (a b : State) → outcome r a ≡ outcome s b → (s ≡ r) × (b ≡ a)
one_of r s a b e = (sym (ap (λ (o : Outcome). o.0) e), sym (ap (λ (o : Outcome). o.1) e))

pub boot_begins : (h : Hardware) (v : disk.DiskImage) (held : Held) (m : Memory) (r : Reply) (b : State) → Step h v (off held (Some m)) (event.Boot Kept) r b → (r ≡ reply.More 0 2) × (b ≡ booting Kept m held 0)
unfolding outcomes refusal
boot_begins h v held m r b (zero, lt, e) = one_of (reply.More 0 2) r (booting Kept m held 0) b e
boot_begins h v held m r b (suc k, lt, e) = absurd (omega arith)

pub boot_syncs : (h : Hardware) (v : disk.DiskImage) (held : Held) (m : Memory) (r : Reply) (b : State) → Step h v (booting Kept m held 0) (event.Step actor.Core) r b → ((r ≡ reply.More 1 2) × (b ≡ booting Kept m held 1)) ⊎ (r ≡ reply.SyncFault Same)
unfolding outcomes refusal
boot_syncs h v held m r b (zero, lt, e) = inl (one_of (reply.More 1 2) r (booting Kept m held 1) b e)
boot_syncs h v held m r b (suc zero, lt, e) = inr (one_of (reply.SyncFault Same) r (off held None) b e).0
boot_syncs h v held m r b (suc (suc k), lt, e) = absurd (omega arith)

-- the boot ends, and whether an image is there; or the read has failed
abbrev pub IsBootEnd : Hardware → disk.DiskImage → Memory → Held → Reply → State → Type 0
IsBootEnd h v m held r b = (((image : Bool) × (r ≡ reply.Booted image)) × (b ≡ on (booted h v Kept m held))) ⊎ (r ≡ reply.ReadFault Same)

ends_held : (h : Hardware) (v : disk.DiskImage) (held : Held) (m : Memory) (marked : Bool) (r : Reply) (b : State) → Contains (outcome (reply.Booted marked) (on (booted h v Kept m held)) ∷ outcome (reply.ReadFault Same) (off held None) ∷ []) (outcome r b) → IsBootEnd h v m held r b
ends_held h v held m marked r b (zero, lt, e) = let is = one_of (reply.Booted marked) r (on (booted h v Kept m held)) b e in inl ((marked, is.0), is.1)
ends_held h v held m marked r b (suc zero, lt, e) = inr (one_of (reply.ReadFault Same) r (off held None) b e).0
ends_held h v held m marked r b (suc (suc k), lt, e) = absurd (omega arith)

ends_by : (h : Hardware) (v : disk.DiskImage) (m : Memory) (marked : Bool) (r : Reply) (b : State) → Contains (boot_step h v Kept m (cond marked (sure other) nothing) 1) (r, b) → IsBootEnd h v m (cond marked (sure other) nothing) r b
ends_by h v m true r b is = ends_held h v (sure other) m true r b is
ends_by h v m false r b is = ends_held h v nothing m false r b is

pub boot_ends : (h : Hardware) (v : disk.DiskImage) (m : Memory) (marked : Bool) (r : Reply) (b : State) → Step h v (booting Kept m (cond marked (sure other) nothing) 1) (event.Step actor.Core) r b → IsBootEnd h v m (cond marked (sure other) nothing) r b
unfolding outcomes refusal
boot_ends h v m marked r b step = ends_by h v m marked r b step

-- A hibernation is refused, or begins.

by_refusal : (a : State) (o : Option Reply) (os : List Outcome) (r : Reply) (b : State) → Contains (refused_or a o os) (r, b) → ((q : Reply) × (o ≡ Some q) × (r ≡ q) × (b ≡ a)) ⊎ ((o ≡ None) × Contains os (r, b))
by_refusal a None os r b is = inr (refl, is)
by_refusal a (Some q) os r b (zero, lt, e) = let same = one_of q r a b e in inl (q, refl, same.0, same.1)
by_refusal a (Some q) os r b (suc k, lt, e) = absurd (omega arith)

pub one_outcome : (r s : Reply) (a b : State) → Contains (outcome r a ∷ []) (outcome s b) → (s ≡ r) × (b ≡ a)
one_outcome r s a b (zero, lt, e) = one_of r s a b e
one_outcome r s a b (suc k, lt, e) = absurd (omega arith)

pub hibernation_begins : (h : Hardware) (v : disk.DiskImage) (a : Running) (f : Format) (r : Reply) (b : State) → Step h v (on a) (event.Hibernate f) r b →
    ((q : Reply) × (refusal h (on a) (event.Hibernate f) ≡ Some q) × (r ≡ q) × (b ≡ on a))
    ⊎ ((refusal h (on a) (event.Hibernate f) ≡ None) × (r ≡ reply.More 0 (hibernate_steps (image_of_memory h a.memory a.slots f))) × (b ≡ hibernating false (image_of_memory h a.memory a.slots f) a 0))
unfolding outcomes
hibernation_begins h v a f r b step =
    let i = image_of_memory h a.memory a.slots f in
    elim (by_refusal (on a) (refusal h (on a) (event.Hibernate f)) ((reply.More 0 (hibernate_steps i), hibernating false i a 0) ∷ []) r b step) [
      | inl refused ↦ inl refused
      | inr begun ↦ (let is = one_outcome (reply.More 0 (hibernate_steps i)) r (hibernating false i a 0) b begun.1 in inr (begun.0, is.0, is.1))
    ]

-- A machine with no unfinished operation of a task drops what is cached.
pub shrinks : (h : Hardware) (v : disk.DiskImage) (a : Running) (want : ℕ) (r : Reply) (b : State) → busy a ≡ None → Step h v (on a) (event.Shrink want) r b → b ≡ on (record a { memory = drop_memory h a.memory want })
unfolding outcomes refusal
shrinks h v a want r b idle step =
    let D = dropped_by h a.memory want in
    let outcomes_of : Option Reply → List Outcome = λ why. refused_or (on a) why ((reply.Shrunk (length D) (length (saveable h a.memory) - length D), on (record a { memory = drop_memory h a.memory want })) ∷ []) in
    (one_outcome (reply.Shrunk (length D) (length (saveable h a.memory) - length D)) r (on (record a { memory = drop_memory h a.memory want })) b
    (subst (λ (why : Option Reply). Contains (outcomes_of why) (r, b)) idle step)).1
