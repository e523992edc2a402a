-- Which state a machine that sleeps or wakes stands for, by what it is at.
use Rattle.std.proofs.Common.{◌≡◌, ◌≢◌, ℕ, refl, sym, ap, arith}
use Rattle.plain_machine.specs.Image.{Image}
use Rattle.plain_machine.specs.State.{State, off, on, booting, hibernating, undoing, settling, waking, loading, asleep, Running, Held}
use Rattle.plain_machine.specs.Shows.{Activity, rests, runs, boots, hibernates, undoes, settles, wakes, loads, sleeps, activity_in}

-- What distinguishes activities.
abbrev rank : Activity → ℕ
rank rests = 0
rank runs = 1
rank (boots from k) = 2
rank (hibernates suspends k) = 3
rank (undoes call k) = 4
rank (settles k) = 5
rank (wakes k) = 6
rank (loads k) = 7
rank sleeps = 8

abbrev steps_in : Activity → ℕ
steps_in (wakes k) = k
steps_in _ = 0

other : {A : Type 0} (x y : Activity) → rank x ≢ rank y → x ≡ y → A
other x y ne e = absurd (ne (ap rank e))

pub at_waking : (s : State) (j : ℕ) → wakes j ≡ activity_in s → (i : Image) × (held : Held) × (a : Running) × (s ≡ waking i held a j)
at_waking (off held kept) j e = other (wakes j) rests (λ r. omega arith) e
at_waking (on a) j e = other (wakes j) runs (λ r. omega arith) e
at_waking (booting from dump held k) j e = other (wakes j) (boots from k) (λ r. omega arith) e
at_waking (hibernating suspends i a k) j e = other (wakes j) (hibernates suspends k) (λ r. omega arith) e
at_waking (undoing i call a k) j e = other (wakes j) (undoes call k) (λ r. omega arith) e
at_waking (settling a k) j e = other (wakes j) (settles k) (λ r. omega arith) e
at_waking (waking i held a k) j e = (i, held, a, ap (λ (n : ℕ). waking i held a n) (sym (ap steps_in e)))
at_waking (loading load k) j e = other (wakes j) (loads k) (λ r. omega arith) e
at_waking (asleep i held a) j e = other (wakes j) sleeps (λ r. omega arith) e

pub at_sleep : (s : State) → sleeps ≡ activity_in s → (i : Image) × (held : Held) × (a : Running) × (s ≡ asleep i held a)
at_sleep (off held kept) e = other sleeps rests (λ r. omega arith) e
at_sleep (on a) e = other sleeps runs (λ r. omega arith) e
at_sleep (booting from dump held k) e = other sleeps (boots from k) (λ r. omega arith) e
at_sleep (hibernating suspends i a k) e = other sleeps (hibernates suspends k) (λ r. omega arith) e
at_sleep (undoing i call a k) e = other sleeps (undoes call k) (λ r. omega arith) e
at_sleep (settling a k) e = other sleeps (settles k) (λ r. omega arith) e
at_sleep (waking i held a k) e = other sleeps (wakes k) (λ r. omega arith) e
at_sleep (loading load k) e = other sleeps (loads k) (λ r. omega arith) e
at_sleep (asleep i held a) e = (i, held, a, refl)
