-- Which state a world stands for, by what it is at.
use Rattle.std.proofs.Common.{◌≡◌, ◌≢◌, ℕ, true, Option, refl, sym, ap, ap₂, arith}
use Rattle.std.proofs.lemmas.Bool.{false≢true}
use Rattle.definitions.specs.Disk as disk
use Rattle.plain_machine.specs.Image.{Image}
use Rattle.plain_machine.specs.Machine.{Memory}
use Rattle.plain_machine.specs.State.{State, off, on, booting, hibernating, undoing, settling, waking, loading, asleep, Running as Run, Held}
use Rattle.plain_machine.specs.Shows.{Activity, rests, runs, boots, hibernates, undoes, settles, wakes, loads, sleeps, activity_in}
use Rattle.plain_machine.specs.declared.event.BootFrom.{BootFrom}
use Rattle.plain_machine.specs.declared.event.BootFrom.TheVariants.{Fresh}
use Rattle.hib_core.specs.declared.hib.Hib.{Hib}
use Rattle.resume_core.specs.declared.load.Load.{Load}
use Rattle.hib_core.specs.declared.waking.waker.Waker.{Waker}
use Rattle.world_core.specs.declared.world.Core.{Core}
use Rattle.world_core.specs.declared.world.Core.TheVariants.{Off, Running, BootBegun, BootSynced, Hibernating, Asleep, Waking, Loading}
use Rattle.world_core.specs.World.{World}
use Rattle.world_core.specs.StandsFor.{StandsFor, IsOff, activity_of, is_off}

-- What distinguishes activities: their kind, a boot's memory, and their steps.
abbrev rank : Activity → ℕ
rank rests = 0
rank runs = 1
rank (boots from k) = 2
rank (hibernates suspends k) = 3
rank (undoes call k) = 4
rank (settles k) = 5
rank (wakes k) = 6
rank (loads k) = 7
rank sleeps = 8

abbrev memory_from : Activity → BootFrom
memory_from (boots from k) = from
memory_from _ = Fresh

abbrev steps_of : Activity → ℕ
steps_of (boots from k) = k
steps_of _ = 0

pub activity_for : (w : World) (c : disk.Content) (a : State) → StandsFor w c a → activity_of w.core w.hib w.load w.waker ≡ activity_in a
activity_for w c a stands = stands.stands.activity

pub activity_by : (w : World) (core : Core) → w.core ≡ core → activity_of w.core w.hib w.load w.waker ≡ activity_of core w.hib w.load w.waker
activity_by w core e = ap (λ (x : Core). activity_of x w.hib w.load w.waker) e

other : {A : Type 0} (x y : Activity) → rank x ≢ rank y → x ≡ y → A
other x y ne e = absurd (ne (ap rank e))

pub at_rest : (a : State) → rests ≡ activity_in a → (held : Held) × (kept : Option Memory) × (a ≡ off held kept)
at_rest (off held kept) e = (held, kept, refl)
at_rest (on r) e = other rests runs (λ r. omega arith) e
at_rest (booting from dump held k) e = other rests (boots from k) (λ r. omega arith) e
at_rest (hibernating suspends i r k) e = other rests (hibernates suspends k) (λ r. omega arith) e
at_rest (undoing i call r k) e = other rests (undoes call k) (λ r. omega arith) e
at_rest (settling r k) e = other rests (settles k) (λ r. omega arith) e
at_rest (waking i held r k) e = other rests (wakes k) (λ r. omega arith) e
at_rest (loading load k) e = other rests (loads k) (λ r. omega arith) e
at_rest (asleep i held r) e = other rests sleeps (λ r. omega arith) e

pub at_run : (a : State) → runs ≡ activity_in a → (r : Run) × (a ≡ on r)
at_run (off held kept) e = other runs rests (λ r. omega arith) e
at_run (on r) e = (r, refl)
at_run (booting from dump held k) e = other runs (boots from k) (λ r. omega arith) e
at_run (hibernating suspends i r k) e = other runs (hibernates suspends k) (λ r. omega arith) e
at_run (undoing i call r k) e = other runs (undoes call k) (λ r. omega arith) e
at_run (settling r k) e = other runs (settles k) (λ r. omega arith) e
at_run (waking i held r k) e = other runs (wakes k) (λ r. omega arith) e
at_run (loading load k) e = other runs (loads k) (λ r. omega arith) e
at_run (asleep i held r) e = other runs sleeps (λ r. omega arith) e

pub at_boot : (a : State) (from : BootFrom) (j : ℕ) → boots from j ≡ activity_in a → (dump : Memory) × (held : Held) × (a ≡ booting from dump held j)
at_boot (off held kept) from j e = other (boots from j) rests (λ r. omega arith) e
at_boot (on r) from j e = other (boots from j) runs (λ r. omega arith) e
at_boot (booting x dump held k) from j e = (dump, held, ap₂ (λ (y : BootFrom) (n : ℕ). booting y dump held n) (sym (ap memory_from e)) (sym (ap steps_of e)))
at_boot (hibernating suspends i r k) from j e = other (boots from j) (hibernates suspends k) (λ r. omega arith) e
at_boot (undoing i call r k) from j e = other (boots from j) (undoes call k) (λ r. omega arith) e
at_boot (settling r k) from j e = other (boots from j) (settles k) (λ r. omega arith) e
at_boot (waking i held r k) from j e = other (boots from j) (wakes k) (λ r. omega arith) e
at_boot (loading load k) from j e = other (boots from j) (loads k) (λ r. omega arith) e
at_boot (asleep i held r) from j e = other (boots from j) sleeps (λ r. omega arith) e

pub at_sleep : (a : State) → sleeps ≡ activity_in a → (i : Image) × (held : Held) × (r : Run) × (a ≡ asleep i held r)
at_sleep (off held kept) e = other sleeps rests (λ r. omega arith) e
at_sleep (on r) e = other sleeps runs (λ r. omega arith) e
at_sleep (booting from dump held k) e = other sleeps (boots from k) (λ r. omega arith) e
at_sleep (hibernating suspends i r k) e = other sleeps (hibernates suspends k) (λ r. omega arith) e
at_sleep (undoing i call r k) e = other sleeps (undoes call k) (λ r. omega arith) e
at_sleep (settling r k) e = other sleeps (settles k) (λ r. omega arith) e
at_sleep (waking i held r k) e = other sleeps (wakes k) (λ r. omega arith) e
at_sleep (loading load k) e = other sleeps (loads k) (λ r. omega arith) e
at_sleep (asleep i held r) e = (i, held, r, refl)

-- a world that is off is at rest
off_rests : (core : Core) (hib : Hib) (load : Load) (waker : Waker) → is_off core ≡ true → activity_of core hib load waker ≡ rests
off_rests (Off keeps) hib load waker e = refl
off_rests Running hib load waker e = absurd (false≢true e)
off_rests (BootBegun from) hib load waker e = absurd (false≢true e)
off_rests (BootSynced from) hib load waker e = absurd (false≢true e)
off_rests Hibernating hib load waker e = absurd (false≢true e)
off_rests Asleep hib load waker e = absurd (false≢true e)
off_rests Waking hib load waker e = absurd (false≢true e)
off_rests Loading hib load waker e = absurd (false≢true e)

pub rests_by : (w : World) → IsOff w → activity_of w.core w.hib w.load w.waker ≡ rests
rests_by w e = off_rests w.core w.hib w.load w.waker e
