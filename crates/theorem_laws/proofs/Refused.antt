-- No refusal ends a resume, or begins an operation.
use Rattle.std.proofs.Common.{ℕ, ◌+◌, ◌&&◌, not, length, Bool, true, false, Option, Some, None, is_none, is_some, nat_lt, ◌==◌}
use Rattle.std.specs.Prelude.{⊤}
use Rattle.page_core.specs.declared.format.Format.{Format}
use Rattle.definitions.specs.Tables.{owner_of}
use Rattle.plain_machine.specs.Chain.{or_else}
use Rattle.plain_machine.specs.Machine.{Hardware, is_valid, frame_entry, unused, unused_slots}
use Rattle.plain_machine.specs.Image.{image_of_memory, n_of, pages_of}
use Rattle.plain_machine.specs.Refusals.{refusal, refused_if, is_held, refusal_if_running, start_refusal, asks_dump_to_boot, asks_dump_to_load, busy_task, busy_reply, busy, closed, no_swap, no_frames, no_slots, hibernate_refusal, not_owner, free_slots_of, owns_slot, op_refusal, task_refusal, has_step, not_asleep}
use Rattle.plain_machine.specs.State.{State, off, on, booting, hibernating, undoing, settling, waking, loading, asleep, Running}
use Rattle.plain_machine.specs.declared.event.Event.{Event}
use Rattle.plain_machine.specs.declared.event.Event.TheVariants as event
use Rattle.plain_machine.specs.declared.event.TaskOp.{TaskOp}
use Rattle.plain_machine.specs.declared.event.TaskOp.TheVariants as op
use Rattle.plain_machine.specs.declared.no_swap.NoSwap.{NoSwap}
use Rattle.plain_machine.specs.declared.reply.Reply.{Reply}
use Rattle.plain_machine.specs.declared.reply.Reply.TheVariants as reply
use Rattle.theorem_laws.proofs.Spent.{GoesOn}

abbrev pub EndsNone : Option Reply → Type 0
EndsNone None = ⊤
EndsNone (Some r) = GoesOn r → ⊥

refused_ends_none : (test : Bool) (r : Reply) → (GoesOn r → ⊥) → EndsNone (refused_if test r)
refused_ends_none true r none = none
refused_ends_none false r none = tt

else_ends_none : (x y : Option Reply) → EndsNone x → EndsNone y → EndsNone (or_else x y)
else_ends_none None y p q = q
else_ends_none (Some r) y p q = p

running_ends_none : (a : State) (test : Running → Option Reply) → ((r : Running) → EndsNone (test r)) → EndsNone (refusal_if_running a test)
running_ends_none (on a) test none = none a
running_ends_none (off held kept) test none = λ is. is
running_ends_none (booting from dump held k) test none = λ is. is
running_ends_none (hibernating suspends i a k) test none = λ is. is
running_ends_none (undoing i call a k) test none = λ is. is
running_ends_none (settling a k) test none = λ is. is
running_ends_none (waking i held a k) test none = λ is. is
running_ends_none (loading load k) test none = λ is. is
running_ends_none (asleep i held a) test none = λ is. is

start_ends_none : (a : State) (asks : Bool) → EndsNone (start_refusal a asks)
start_ends_none (off held kept) asks = refused_ends_none (asks && is_none kept) reply.NoDump (λ is. is)
start_ends_none (on a) asks = λ is. is
start_ends_none (booting from dump held k) asks = λ is. is
start_ends_none (hibernating suspends i a k) asks = λ is. is
start_ends_none (undoing i call a k) asks = λ is. is
start_ends_none (settling a k) asks = λ is. is
start_ends_none (waking i held a k) asks = λ is. is
start_ends_none (loading load k) asks = λ is. is
start_ends_none (asleep i held a) asks = λ is. is

asleep_ends_none : (a : State) → EndsNone (not_asleep a)
asleep_ends_none (asleep i held a) = tt
asleep_ends_none (off held kept) = λ is. is
asleep_ends_none (on a) = λ is. is
asleep_ends_none (booting from dump held k) = λ is. is
asleep_ends_none (hibernating suspends i a k) = λ is. is
asleep_ends_none (undoing i call a k) = λ is. is
asleep_ends_none (settling a k) = λ is. is
asleep_ends_none (waking i held a k) = λ is. is
asleep_ends_none (loading load k) = λ is. is

busy_ends_none : (t : Option ℕ) → EndsNone (busy_reply t)
busy_ends_none None = tt
busy_ends_none (Some t) = λ is. is

swap_ends_none : (why : Option NoSwap) → EndsNone (no_swap why)
swap_ends_none None = tt
swap_ends_none (Some why) = λ is. is

pub hibernate_ends_none : (h : Hardware) (f : Format) (a : Running) → EndsNone (hibernate_refusal h f a)
hibernate_ends_none h f a =
    let i = image_of_memory h a.memory a.slots f in
    let few_slots = no_slots h a i in
    let few = or_else (no_frames h a i) few_slots in
    let unusable = or_else (no_swap a.unusable) few in
    else_ends_none (busy a) (or_else (closed a) unusable) (busy_ends_none (busy_task a))
    (else_ends_none (closed a) unusable (refused_ends_none (is_held a.held) reply.Closed (λ is. is))
    (else_ends_none (no_swap a.unusable) few (swap_ends_none a.unusable)
    (else_ends_none (no_frames h a i) few_slots
    (refused_ends_none (nat_lt (length (unused h a.memory)) (n_of i + 1025)) (reply.NoFrames (length (unused h a.memory)) (n_of i + 1025)) (λ is. is))
    (refused_ends_none (nat_lt (length (unused_slots h a.memory)) (pages_of i + 1026)) (reply.NoSlots (length (unused_slots h a.memory)) (pages_of i + 1026)) (λ is. is)))))

op_ends_none : (h : Hardware) (a : Running) (t : ℕ) (o : TaskOp) → EndsNone (op_refusal h a t o)
op_ends_none h a t o = by_op o where
  no_frame : ℕ → Option Reply
  no_frame p = refused_if (not (is_valid h p)) reply.NoFrame

  valid : (p : ℕ) → EndsNone (no_frame p)
  valid p = refused_ends_none (not (is_valid h p)) reply.NoFrame (λ is. is)

  owned : (p : ℕ) → EndsNone (not_owner h a t p)
  owned p = refused_ends_none (not (owner_of (frame_entry h a.memory p) == t)) reply.NotOwner (λ is. is)

  both : (p : ℕ) → EndsNone (or_else (no_frame p) (not_owner h a t p))
  both p = else_ends_none (no_frame p) (not_owner h a t p) (valid p) (owned p)

  by_op : (q : TaskOp) → EndsNone (op_refusal h a t q)
  by_op (op.Claim p) =
      let free = not (frame_entry h a.memory p == 1) in
      else_ends_none (no_frame p) (refused_if free reply.NotFree) (valid p) (refused_ends_none free reply.NotFree (λ is. is))
  by_op (op.Release p) = both p
  by_op (op.Store p k v) = both p
  by_op (op.Show p k) = both p
  by_op (op.Cache p) = both p
  by_op (op.Out p) =
      let none_free = is_none (free_slots_of h a) in
      let slot = refused_if none_free reply.NoSlot in
      else_ends_none (no_frame p) (or_else (not_owner h a t p) (or_else (closed a) slot)) (valid p)
      (else_ends_none (not_owner h a t p) (or_else (closed a) slot) (owned p)
      (else_ends_none (closed a) slot (refused_ends_none (is_held a.held) reply.Closed (λ is. is)) (refused_ends_none none_free reply.NoSlot (λ is. is))))
  by_op (op.TakeIn s p) =
      let elsewhere = not (owns_slot h a t s) in
      let slot = refused_if elsewhere reply.NoSlotHere in
      else_ends_none (no_frame p) (or_else (not_owner h a t p) slot) (valid p)
      (else_ends_none (not_owner h a t p) slot (owned p) (refused_ends_none elsewhere reply.NoSlotHere (λ is. is)))

pub refusal_ends_none : (h : Hardware) (a : State) (e : Event) → EndsNone (refusal h a e)
unfolding refusal
refusal_ends_none h a (event.Boot from) = start_ends_none a (asks_dump_to_boot from)
refusal_ends_none h a (event.Resume l check) = start_ends_none a (asks_dump_to_load l)
refusal_ends_none h a (event.Hibernate f) = running_ends_none a (hibernate_refusal h f) (hibernate_ends_none h f)
refusal_ends_none h a (event.Suspend f) = running_ends_none a (hibernate_refusal h f) (hibernate_ends_none h f)
refusal_ends_none h a event.Settle =
    running_ends_none a (λ r. or_else (busy r) (refused_if (not (is_held r.held)) reply.NothingHeld))
    (λ r. else_ends_none (busy r) (refused_if (not (is_held r.held)) reply.NothingHeld) (busy_ends_none (busy_task r)) (refused_ends_none (not (is_held r.held)) reply.NothingHeld (λ is. is)))
refusal_ends_none h a (event.Shrink want) = running_ends_none a busy (λ r. busy_ends_none (busy_task r))
refusal_ends_none h a event.Wake = asleep_ends_none a
refusal_ends_none h a (event.Task t o) =
    running_ends_none a (task_refusal h t o)
    (λ r. else_ends_none (refused_if (is_some (r.flights t)) reply.InFlight) (op_refusal h r t o) (refused_ends_none (is_some (r.flights t)) reply.InFlight (λ is. is)) (op_ends_none h r t o))
refusal_ends_none h a (event.Step x) = refused_ends_none (not (has_step a x)) reply.Idle (λ is. is)
refusal_ends_none h a (event.Cut pick) = tt
refusal_ends_none h a (event.Arm first count pick) = tt
