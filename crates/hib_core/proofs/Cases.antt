-- Which state a hibernation stands for, by what it is at.
use Rattle.std.proofs.Common.{◌≡◌, ◌≢◌, ℕ, Bool, false, refl, sym, ap, ap₂, arith}
use Rattle.plain_machine.specs.Image.{Image}
use Rattle.plain_machine.specs.State.{State, off, on, booting, hibernating, undoing, settling, waking, loading, asleep, Running}
use Rattle.plain_machine.specs.Shows.{Activity, rests, runs, boots, hibernates, undoes, settles, wakes, loads, sleeps, activity_in}
use Rattle.plain_machine.specs.declared.reply.UndoCall.{UndoCall}
use Rattle.plain_machine.specs.declared.reply.UndoCall.TheVariants as undo

-- What distinguishes activities.
abbrev rank : Activity → ℕ
rank rests = 0
rank runs = 1
rank (boots from k) = 2
rank (hibernates suspends k) = 3
rank (undoes call k) = 4
rank (settles k) = 5
rank (wakes k) = 6
rank (loads k) = 7
rank sleeps = 8

abbrev suspends_in : Activity → Bool
suspends_in (hibernates suspends k) = suspends
suspends_in _ = false

abbrev steps_in : Activity → ℕ
steps_in (hibernates suspends k) = k
steps_in (undoes call k) = k
steps_in (settles k) = k
steps_in _ = 0

abbrev call_in : Activity → UndoCall
call_in (undoes call k) = call
call_in _ = undo.Write

other : {A : Type 0} (x y : Activity) → rank x ≢ rank y → x ≡ y → A
other x y ne e = absurd (ne (ap rank e))

pub at_run : (s : State) → runs ≡ activity_in s → (a : Running) × (s ≡ on a)
at_run (off held kept) e = other runs rests (λ r. omega arith) e
at_run (on a) e = (a, refl)
at_run (booting from dump held k) e = other runs (boots from k) (λ r. omega arith) e
at_run (hibernating suspends i a k) e = other runs (hibernates suspends k) (λ r. omega arith) e
at_run (undoing i call a k) e = other runs (undoes call k) (λ r. omega arith) e
at_run (settling a k) e = other runs (settles k) (λ r. omega arith) e
at_run (waking i held a k) e = other runs (wakes k) (λ r. omega arith) e
at_run (loading load k) e = other runs (loads k) (λ r. omega arith) e
at_run (asleep i held a) e = other runs sleeps (λ r. omega arith) e

pub at_hibernation : (s : State) (suspends : Bool) (j : ℕ) → hibernates suspends j ≡ activity_in s → (i : Image) × (a : Running) × (s ≡ hibernating suspends i a j)
at_hibernation (off held kept) suspends j e = other (hibernates suspends j) rests (λ r. omega arith) e
at_hibernation (on a) suspends j e = other (hibernates suspends j) runs (λ r. omega arith) e
at_hibernation (booting from dump held k) suspends j e = other (hibernates suspends j) (boots from k) (λ r. omega arith) e
at_hibernation (hibernating suspended i a k) suspends j e = (i, a, ap₂ (λ (b : Bool) (n : ℕ). hibernating b i a n) (sym (ap suspends_in e)) (sym (ap steps_in e)))
at_hibernation (undoing i call a k) suspends j e = other (hibernates suspends j) (undoes call k) (λ r. omega arith) e
at_hibernation (settling a k) suspends j e = other (hibernates suspends j) (settles k) (λ r. omega arith) e
at_hibernation (waking i held a k) suspends j e = other (hibernates suspends j) (wakes k) (λ r. omega arith) e
at_hibernation (loading load k) suspends j e = other (hibernates suspends j) (loads k) (λ r. omega arith) e
at_hibernation (asleep i held a) suspends j e = other (hibernates suspends j) sleeps (λ r. omega arith) e

pub at_undo : (s : State) (call : UndoCall) (j : ℕ) → undoes call j ≡ activity_in s → (i : Image) × (a : Running) × (s ≡ undoing i call a j)
at_undo (off held kept) call j e = other (undoes call j) rests (λ r. omega arith) e
at_undo (on a) call j e = other (undoes call j) runs (λ r. omega arith) e
at_undo (booting from dump held k) call j e = other (undoes call j) (boots from k) (λ r. omega arith) e
at_undo (hibernating suspends i a k) call j e = other (undoes call j) (hibernates suspends k) (λ r. omega arith) e
at_undo (undoing i c a k) call j e = (i, a, ap₂ (λ (b : UndoCall) (n : ℕ). undoing i b a n) (sym (ap call_in e)) (sym (ap steps_in e)))
at_undo (settling a k) call j e = other (undoes call j) (settles k) (λ r. omega arith) e
at_undo (waking i held a k) call j e = other (undoes call j) (wakes k) (λ r. omega arith) e
at_undo (loading load k) call j e = other (undoes call j) (loads k) (λ r. omega arith) e
at_undo (asleep i held a) call j e = other (undoes call j) sleeps (λ r. omega arith) e

pub at_settling : (s : State) (j : ℕ) → settles j ≡ activity_in s → (a : Running) × (s ≡ settling a j)
at_settling (off held kept) j e = other (settles j) rests (λ r. omega arith) e
at_settling (on a) j e = other (settles j) runs (λ r. omega arith) e
at_settling (booting from dump held k) j e = other (settles j) (boots from k) (λ r. omega arith) e
at_settling (hibernating suspends i a k) j e = other (settles j) (hibernates suspends k) (λ r. omega arith) e
at_settling (undoing i call a k) j e = other (settles j) (undoes call k) (λ r. omega arith) e
at_settling (settling a k) j e = (a, ap (λ (n : ℕ). settling a n) (sym (ap steps_in e)))
at_settling (waking i held a k) j e = other (settles j) (wakes k) (λ r. omega arith) e
at_settling (loading load k) j e = other (settles j) (loads k) (λ r. omega arith) e
at_settling (asleep i held a) j e = other (settles j) sleeps (λ r. omega arith) e
