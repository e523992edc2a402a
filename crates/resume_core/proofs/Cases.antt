-- Which state a resume stands for, by what it is at.
use Rattle.std.proofs.Common.{◌≡◌, ◌≢◌, ℕ, sym, ap, arith}
use Rattle.plain_machine.specs.State.{State, off, on, booting, hibernating, undoing, settling, waking, loading, asleep, Load as Resume}
use Rattle.plain_machine.specs.Shows.{Activity, rests, runs, boots, hibernates, undoes, settles, wakes, loads, sleeps, activity_in}

-- What distinguishes activities.
abbrev rank : Activity → ℕ
rank rests = 0
rank runs = 1
rank (boots from k) = 2
rank (hibernates suspends k) = 3
rank (undoes call k) = 4
rank (settles k) = 5
rank (wakes k) = 6
rank (loads k) = 7
rank sleeps = 8

abbrev steps_in : Activity → ℕ
steps_in (loads k) = k
steps_in _ = 0

other : {A : Type 0} (x y : Activity) → rank x ≢ rank y → x ≡ y → A
other x y ne e = absurd (ne (ap rank e))

pub at_load : (s : State) (j : ℕ) → loads j ≡ activity_in s → (l : Resume) × (s ≡ loading l j)
at_load (off held kept) j e = other (loads j) rests (λ r. omega arith) e
at_load (on a) j e = other (loads j) runs (λ r. omega arith) e
at_load (booting from dump held k) j e = other (loads j) (boots from k) (λ r. omega arith) e
at_load (hibernating suspends i a k) j e = other (loads j) (hibernates suspends k) (λ r. omega arith) e
at_load (undoing i call a k) j e = other (loads j) (undoes call k) (λ r. omega arith) e
at_load (settling a k) j e = other (loads j) (settles k) (λ r. omega arith) e
at_load (waking i held a k) j e = other (loads j) (wakes k) (λ r. omega arith) e
at_load (loading l k) j e = (l, ap (λ (n : ℕ). loading l n) (sym (ap steps_in e)))
at_load (asleep i held a) j e = other (loads j) sleeps (λ r. omega arith) e
