-- What the plain machine may do and reply in a hibernation and in a settling.
use Rattle.std.proofs.Common.{◌≡◌, ◌<◌, ℕ, ◌+◌, Bool, true, false, Option, Some, None, refl, sym, arith, subst}
use Rattle.std.specs.List.{Contains}
use Rattle.definitions.specs.Disk as disk
use Rattle.plain_machine.specs.Machine.{Hardware}
use Rattle.plain_machine.specs.Image.{Image, n_of, hibernate_steps}
use Rattle.plain_machine.specs.State.{State, off, on, hibernating, undoing, settling, asleep, Running, nothing, sure, maybe, own, perhaps}
use Rattle.plain_machine.specs.Calls.{HibernationCall, writes_page, syncs_pages, reads_header, writes_mark, syncs_mark, hibernation_call}
use Rattle.plain_machine.proofs.Calls.{call_writes, call_syncs, call_reads, call_marks, call_last}
use Rattle.plain_machine.specs.Step.{Step, outcomes, accepted, refused_or, hibernation_outcomes, undone_fault}
use Rattle.plain_machine.specs.Refusals.{refusal}
use Rattle.plain_machine.specs.declared.event.Event.{Event}
use Rattle.plain_machine.specs.declared.event.Event.TheVariants as event
use Rattle.plain_machine.specs.declared.event.Actor.TheVariants as actor
use Rattle.plain_machine.specs.declared.reply.Reply.{Reply}
use Rattle.plain_machine.specs.declared.reply.Reply.TheVariants as reply
use Rattle.plain_machine.specs.declared.reply.Left.TheVariants.{Same, Gone, Unsure}
use Rattle.plain_machine.specs.declared.reply.UndoCall.{UndoCall}
use Rattle.plain_machine.specs.declared.reply.UndoCall.TheVariants as undo

pub refused_step : (h : Hardware) (v : disk.DiskImage) (a : State) (e : Event) (r : Reply) → refusal h a e ≡ Some r → Step h v a e r a
unfolding outcomes
refused_step h v a e r why = subst (λ (o : Option Reply). Contains (refused_or a o (accepted h v a e)) (r, a)) (sym why) (0, omega arith, refl)

pub accepted_step : (h : Hardware) (v : disk.DiskImage) (a : State) (e : Event) (r : Reply) (b : State) → refusal h a e ≡ None → Contains (accepted h v a e) (r, b) → Step h v a e r b
unfolding outcomes
accepted_step h v a e r b none in' = subst (λ (o : Option Reply). Contains (refused_or a o (accepted h v a e)) (r, b)) (sym none) in'

hibernation_goes : (h : Hardware) (suspends : Bool) (i : Image) (a : Running) (k : ℕ) → refusal h (hibernating suspends i a k) (event.Step actor.Core) ≡ None
unfolding refusal
hibernation_goes h suspends i a k = refl

undo_goes : (h : Hardware) (i : Image) (call : UndoCall) (a : Running) (k : ℕ) → refusal h (undoing i call a k) (event.Step actor.Core) ≡ None
unfolding refusal
undo_goes h i call a k = refl

-- A step of a hibernation, by its call.

by_call : (h : Hardware) (v : disk.DiskImage) (suspends : Bool) (i : Image) (a : Running) (k : ℕ) (call : HibernationCall) (r : Reply) (b : State) → hibernation_call i k ≡ Some call → Contains (hibernation_outcomes suspends i a k (Some call)) (r, b) → Step h v (hibernating suspends i a k) (event.Step actor.Core) r b
by_call h v suspends i a k call r b is in' =
    accepted_step h v (hibernating suspends i a k) (event.Step actor.Core) r b (hibernation_goes h suspends i a k)
    (subst (λ (next : Option HibernationCall). Contains (hibernation_outcomes suspends i a k next) (r, b)) (sym is) in')

-- The rows.

pub may_write : (h : Hardware) (v : disk.DiskImage) (suspends : Bool) (i : Image) (a : Running) (k : ℕ) → k + 4 < hibernate_steps i → Step h v (hibernating suspends i a k) (event.Step actor.Core) (reply.More (k + 1) (hibernate_steps i)) (hibernating suspends i a (k + 1))
may_write h v suspends i a k at = by_call h v suspends i a k writes_page (reply.More (k + 1) (hibernate_steps i)) (hibernating suspends i a (k + 1)) (call_writes i k at) (0, omega arith, refl)

pub write_may_fail : (h : Hardware) (v : disk.DiskImage) (suspends : Bool) (i : Image) (a : Running) (k : ℕ) → k + 4 < hibernate_steps i → Step h v (hibernating suspends i a k) (event.Step actor.Core) (reply.WriteFault Same) (on a)
write_may_fail h v suspends i a k at = by_call h v suspends i a k writes_page (reply.WriteFault Same) (on a) (call_writes i k at) (1, omega arith, refl)

pub may_sync : (h : Hardware) (v : disk.DiskImage) (suspends : Bool) (i : Image) (a : Running) (k : ℕ) → k + 4 ≡ hibernate_steps i → Step h v (hibernating suspends i a k) (event.Step actor.Core) (reply.More (k + 1) (hibernate_steps i)) (hibernating suspends i a (k + 1))
may_sync h v suspends i a k at = by_call h v suspends i a k syncs_pages (reply.More (k + 1) (hibernate_steps i)) (hibernating suspends i a (k + 1)) (call_syncs i k at) (0, omega arith, refl)

pub sync_may_fail : (h : Hardware) (v : disk.DiskImage) (suspends : Bool) (i : Image) (a : Running) (k : ℕ) → k + 4 ≡ hibernate_steps i → Step h v (hibernating suspends i a k) (event.Step actor.Core) (reply.SyncFault Same) (on a)
sync_may_fail h v suspends i a k at = by_call h v suspends i a k syncs_pages (reply.SyncFault Same) (on a) (call_syncs i k at) (1, omega arith, refl)

pub may_read : (h : Hardware) (v : disk.DiskImage) (suspends : Bool) (i : Image) (a : Running) (k : ℕ) → k + 3 ≡ hibernate_steps i → Step h v (hibernating suspends i a k) (event.Step actor.Core) (reply.More (k + 1) (hibernate_steps i)) (hibernating suspends i a (k + 1))
may_read h v suspends i a k at = by_call h v suspends i a k reads_header (reply.More (k + 1) (hibernate_steps i)) (hibernating suspends i a (k + 1)) (call_reads i k at) (0, omega arith, refl)

pub read_may_fail : (h : Hardware) (v : disk.DiskImage) (suspends : Bool) (i : Image) (a : Running) (k : ℕ) → k + 3 ≡ hibernate_steps i → Step h v (hibernating suspends i a k) (event.Step actor.Core) (reply.ReadFault Same) (on a)
read_may_fail h v suspends i a k at = by_call h v suspends i a k reads_header (reply.ReadFault Same) (on a) (call_reads i k at) (1, omega arith, refl)

pub may_mark : (h : Hardware) (v : disk.DiskImage) (suspends : Bool) (i : Image) (a : Running) (k : ℕ) → k + 2 ≡ hibernate_steps i → Step h v (hibernating suspends i a k) (event.Step actor.Core) (reply.More (k + 1) (hibernate_steps i)) (hibernating suspends i a (k + 1))
may_mark h v suspends i a k at = by_call h v suspends i a k writes_mark (reply.More (k + 1) (hibernate_steps i)) (hibernating suspends i a (k + 1)) (call_marks i k at) (0, omega arith, refl)

pub mark_may_fail : (h : Hardware) (v : disk.DiskImage) (suspends : Bool) (i : Image) (a : Running) (k : ℕ) → k + 2 ≡ hibernate_steps i → Step h v (hibernating suspends i a k) (event.Step actor.Core) (reply.Undo undo.Write 0) (undoing i undo.Write a 0)
mark_may_fail h v suspends i a k at = by_call h v suspends i a k writes_mark (reply.Undo undo.Write 0) (undoing i undo.Write a 0) (call_marks i k at) (1, omega arith, refl)

pub may_end : (h : Hardware) (v : disk.DiskImage) (i : Image) (a : Running) (k : ℕ) → k + 1 ≡ hibernate_steps i → Step h v (hibernating false i a k) (event.Step actor.Core) (reply.Hibernated (n_of i)) (off (sure (own i)) None)
may_end h v i a k at = by_call h v false i a k syncs_mark (reply.Hibernated (n_of i)) (off (sure (own i)) None) (call_last i k at) (0, omega arith, refl)

pub may_sleep : (h : Hardware) (v : disk.DiskImage) (i : Image) (a : Running) (k : ℕ) → k + 1 ≡ hibernate_steps i → Step h v (hibernating true i a k) (event.Step actor.Core) (reply.Asleep (n_of i)) (asleep i (sure (own i)) a)
may_sleep h v i a k at = by_call h v true i a k syncs_mark (reply.Asleep (n_of i)) (asleep i (sure (own i)) a) (call_last i k at) (0, omega arith, refl)

pub end_may_fail : (h : Hardware) (v : disk.DiskImage) (suspends : Bool) (i : Image) (a : Running) (k : ℕ) → k + 1 ≡ hibernate_steps i → Step h v (hibernating suspends i a k) (event.Step actor.Core) (reply.Undo undo.Sync 0) (undoing i undo.Sync a 0)
end_may_fail h v suspends i a k at = by_call h v suspends i a k syncs_mark (reply.Undo undo.Sync 0) (undoing i undo.Sync a 0) (call_last i k at) (1, omega arith, refl)

pub may_take_back : (h : Hardware) (v : disk.DiskImage) (i : Image) (call : UndoCall) (a : Running) → Step h v (undoing i call a 0) (event.Step actor.Core) (reply.Undo call 1) (undoing i call a 1)
may_take_back h v i call a = accepted_step h v (undoing i call a 0) (event.Step actor.Core) (reply.Undo call 1) (undoing i call a 1) (undo_goes h i call a 0) (0, omega arith, refl)

pub take_back_may_fail : (h : Hardware) (v : disk.DiskImage) (i : Image) (call : UndoCall) (a : Running) → Step h v (undoing i call a 0) (event.Step actor.Core) (undone_fault call Unsure) (on (record a { held = maybe (own i) }))
take_back_may_fail h v i call a = accepted_step h v (undoing i call a 0) (event.Step actor.Core) (undone_fault call Unsure) (on (record a { held = maybe (own i) })) (undo_goes h i call a 0) (1, omega arith, refl)

pub may_end_undo : (h : Hardware) (v : disk.DiskImage) (i : Image) (call : UndoCall) (a : Running) → Step h v (undoing i call a 1) (event.Step actor.Core) (undone_fault call Gone) (on (record a { held = nothing }))
may_end_undo h v i call a = accepted_step h v (undoing i call a 1) (event.Step actor.Core) (undone_fault call Gone) (on (record a { held = nothing })) (undo_goes h i call a 1) (0, omega arith, refl)

pub end_undo_may_fail : (h : Hardware) (v : disk.DiskImage) (i : Image) (call : UndoCall) (a : Running) → Step h v (undoing i call a 1) (event.Step actor.Core) (undone_fault call Unsure) (on (record a { held = maybe (own i) }))
end_undo_may_fail h v i call a = accepted_step h v (undoing i call a 1) (event.Step actor.Core) (undone_fault call Unsure) (on (record a { held = maybe (own i) })) (undo_goes h i call a 1) (1, omega arith, refl)

-- Settling.

settle_goes : (h : Hardware) (a : Running) (k : ℕ) → refusal h (settling a k) (event.Step actor.Core) ≡ None
unfolding refusal
settle_goes h a k = refl

pub may_settle_read : (h : Hardware) (v : disk.DiskImage) (a : Running) → Step h v (settling a 0) (event.Step actor.Core) (reply.More 1 3) (settling a 1)
may_settle_read h v a = accepted_step h v (settling a 0) (event.Step actor.Core) (reply.More 1 3) (settling a 1) (settle_goes h a 0) (0, omega arith, refl)

pub settle_read_may_fail : (h : Hardware) (v : disk.DiskImage) (a : Running) → Step h v (settling a 0) (event.Step actor.Core) (reply.ReadFault Same) (on a)
settle_read_may_fail h v a = accepted_step h v (settling a 0) (event.Step actor.Core) (reply.ReadFault Same) (on a) (settle_goes h a 0) (1, omega arith, refl)

pub may_settle_write : (h : Hardware) (v : disk.DiskImage) (a : Running) → Step h v (settling a 1) (event.Step actor.Core) (reply.More 2 3) (settling a 2)
may_settle_write h v a = accepted_step h v (settling a 1) (event.Step actor.Core) (reply.More 2 3) (settling a 2) (settle_goes h a 1) (0, omega arith, refl)

pub settle_write_may_fail : (h : Hardware) (v : disk.DiskImage) (a : Running) → Step h v (settling a 1) (event.Step actor.Core) (reply.WriteFault Unsure) (on (record a { held = perhaps a.held }))
settle_write_may_fail h v a = accepted_step h v (settling a 1) (event.Step actor.Core) (reply.WriteFault Unsure) (on (record a { held = perhaps a.held })) (settle_goes h a 1) (1, omega arith, refl)

pub may_settle : (h : Hardware) (v : disk.DiskImage) (a : Running) → Step h v (settling a 2) (event.Step actor.Core) reply.Settled (on (record a { held = nothing }))
may_settle h v a = accepted_step h v (settling a 2) (event.Step actor.Core) reply.Settled (on (record a { held = nothing })) (settle_goes h a 2) (0, omega arith, refl)

pub settle_sync_may_fail : (h : Hardware) (v : disk.DiskImage) (a : Running) → Step h v (settling a 2) (event.Step actor.Core) (reply.SyncFault Unsure) (on (record a { held = perhaps a.held }))
settle_sync_may_fail h v a = accepted_step h v (settling a 2) (event.Step actor.Core) (reply.SyncFault Unsure) (on (record a { held = perhaps a.held })) (settle_goes h a 2) (1, omega arith, refl)
