-- Events that don't end a hibernation leave no image.
use Rattle.std.proofs.Common.{◌≡◌, ℕ, Bool, true, false, not, Some, subst}
use Rattle.std.proofs.lemmas.Option.{none-some, same_Some}
use Rattle.definitions.specs.Disk as disk
use Rattle.plain_machine.specs.Machine.{Hardware}
use Rattle.plain_machine.specs.Refusals.{refusal, refused_if, has_step}
use Rattle.plain_machine.specs.Image.{Image}
use Rattle.plain_machine.specs.State.{State, Load, loading, undoing, Running}
use Rattle.plain_machine.specs.declared.reply.UndoCall.{UndoCall}
use Rattle.plain_machine.specs.declared.event.Actor.TheVariants as actor
use Rattle.plain_machine.specs.declared.event.Event.{Event}
use Rattle.plain_machine.specs.declared.event.Event.TheVariants as event
use Rattle.plain_machine.specs.declared.reply.Reply.{Reply}
use Rattle.plain_machine.specs.declared.reply.Reply.TheVariants as reply
use Rattle.protocol_laws.specs.Rows.{LeavesImage}

pub leaves_loading : (h : Hardware) (r : Reply) (load : Load) (k : ℕ) (c : disk.Content) → LeavesImage h (event.Step actor.Core) r (loading load k) c
leaves_loading h (reply.Hibernated n) load k c = tt
leaves_loading h (reply.Asleep n) load k c = tt
leaves_loading h _ load k c = tt

idle_step : (b : Bool) (r : Reply) → refused_if b reply.Idle ≡ Some r → reply.Idle ≡ r
idle_step true r e = same_Some reply.Idle r e
idle_step false r e = absurd (none-some r e)

-- a refusal leaves no image
pub leaves_refused : (h : Hardware) (e : Event) (r : Reply) (a : State) (c : disk.Content) → refusal h a e ≡ Some r → LeavesImage h e r a c
unfolding refusal
leaves_refused h (event.Step actor.Core) r a c refused = subst (λ (x : Reply). LeavesImage h (event.Step actor.Core) x a c) (idle_step (not (has_step a actor.Core)) r refused) tt
leaves_refused h (event.Step (actor.Task t)) r a c refused = tt
leaves_refused h _ r a c refused = tt

-- an undo leaves no image
pub leaves_undoing : (h : Hardware) (r : Reply) (i : Image) (call : UndoCall) (a : Running) (k : ℕ) (c : disk.Content) → LeavesImage h (event.Step actor.Core) r (undoing i call a k) c
leaves_undoing h (reply.Hibernated n) i call a k c = tt
leaves_undoing h (reply.Asleep n) i call a k c = tt
leaves_undoing h _ i call a k c = tt
