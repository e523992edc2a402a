-- Steps of the plain machine while it wakes.
use Rattle.std.proofs.Common.{◌≡◌, ℕ, Contains, Option, None, refl, sym, subst, arith}
use Rattle.definitions.specs.Disk as disk
use Rattle.plain_machine.specs.Machine.{Hardware}
use Rattle.plain_machine.specs.Image.{Image}
use Rattle.plain_machine.specs.Refusals.{refusal}
use Rattle.plain_machine.specs.State.{State, on, waking, asleep, Running, Held, nothing, perhaps}
use Rattle.plain_machine.specs.Step.{Step, outcomes, accepted, refused_or}
use Rattle.plain_machine.specs.declared.event.Actor.TheVariants as actor
use Rattle.plain_machine.specs.declared.event.Event.{Event}
use Rattle.plain_machine.specs.declared.event.Event.TheVariants as event
use Rattle.plain_machine.specs.declared.reply.Left.TheVariants.{Same, Unsure}
use Rattle.plain_machine.specs.declared.reply.Reply.{Reply}
use Rattle.plain_machine.specs.declared.reply.Reply.TheVariants as reply

accepted_step : (h : Hardware) (v : disk.DiskImage) (a : State) (e : Event) (r : Reply) (b : State) → refusal h a e ≡ None → Contains (accepted h v a e) (r, b) → Step h v a e r b
unfolding outcomes
accepted_step h v a e r b none in' = subst (λ (o : Option Reply). Contains (refused_or a o (accepted h v a e)) (r, b)) (sym none) in'

sleep_ends : (h : Hardware) (i : Image) (held : Held) (a : Running) → refusal h (asleep i held a) event.Wake ≡ None
unfolding refusal
sleep_ends h i held a = refl

waking_goes : (h : Hardware) (i : Image) (held : Held) (a : Running) (k : ℕ) → refusal h (waking i held a k) (event.Step actor.Core) ≡ None
unfolding refusal
waking_goes h i held a k = refl

by_core : (h : Hardware) (v : disk.DiskImage) (i : Image) (held : Held) (a : Running) (k : ℕ) (r : Reply) (b : State) → Contains (accepted h v (waking i held a k) (event.Step actor.Core)) (r, b) → Step h v (waking i held a k) (event.Step actor.Core) r b
by_core h v i held a k r b in' = accepted_step h v (waking i held a k) (event.Step actor.Core) r b (waking_goes h i held a k) in'

pub may_wake : (h : Hardware) (v : disk.DiskImage) (i : Image) (held : Held) (a : Running) → Step h v (asleep i held a) event.Wake (reply.More 0 3) (waking i held a 0)
may_wake h v i held a = accepted_step h v (asleep i held a) event.Wake (reply.More 0 3) (waking i held a 0) (sleep_ends h i held a) (0, omega arith, refl)

pub may_read : (h : Hardware) (v : disk.DiskImage) (i : Image) (held : Held) (a : Running) → Step h v (waking i held a 0) (event.Step actor.Core) (reply.More 1 3) (waking i held a 1)
may_read h v i held a = by_core h v i held a 0 (reply.More 1 3) (waking i held a 1) (0, omega arith, refl)

pub read_may_fail : (h : Hardware) (v : disk.DiskImage) (i : Image) (held : Held) (a : Running) → Step h v (waking i held a 0) (event.Step actor.Core) (reply.ReadFault Same) (asleep i held a)
read_may_fail h v i held a = by_core h v i held a 0 (reply.ReadFault Same) (asleep i held a) (1, omega arith, refl)

pub may_write : (h : Hardware) (v : disk.DiskImage) (i : Image) (held : Held) (a : Running) → Step h v (waking i held a 1) (event.Step actor.Core) (reply.More 2 3) (waking i held a 2)
may_write h v i held a = by_core h v i held a 1 (reply.More 2 3) (waking i held a 2) (0, omega arith, refl)

pub write_may_fail : (h : Hardware) (v : disk.DiskImage) (i : Image) (held : Held) (a : Running) → Step h v (waking i held a 1) (event.Step actor.Core) (reply.WriteFault Unsure) (asleep i (perhaps held) a)
write_may_fail h v i held a = by_core h v i held a 1 (reply.WriteFault Unsure) (asleep i (perhaps held) a) (1, omega arith, refl)

pub may_end : (h : Hardware) (v : disk.DiskImage) (i : Image) (held : Held) (a : Running) → Step h v (waking i held a 2) (event.Step actor.Core) reply.Woken (on (record a { held = nothing }))
may_end h v i held a = by_core h v i held a 2 reply.Woken (on (record a { held = nothing })) (0, omega arith, refl)

pub end_may_fail : (h : Hardware) (v : disk.DiskImage) (i : Image) (held : Held) (a : Running) → Step h v (waking i held a 2) (event.Step actor.Core) (reply.SyncFault Unsure) (asleep i (perhaps held) a)
end_may_fail h v i held a = by_core h v i held a 2 (reply.SyncFault Unsure) (asleep i (perhaps held) a) (1, omega arith, refl)
