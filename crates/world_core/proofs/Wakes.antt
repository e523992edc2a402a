-- What the rows of a waking say of the world that makes them.
use Rattle.std.proofs.Common.{◌≡◌, ◌<◌, ℕ, Bool, true, false, Option, refl, sym, ap, ◌∙◌, subst}
use Rattle.std.proofs.lemmas.Bool.{false≢true}
use Rattle.definitions.specs.Disk as disk
use Rattle.plain_machine.specs.Machine.{Hardware, Memory, IsHardware, block_of_slot, frame_entry}
use Rattle.plain_machine.specs.Shows.{WorldView, Activity, runs, sleeps, wakes, activity_in}
use Rattle.plain_machine.specs.State.{State, off, on, booting, hibernating, undoing, settling, waking, loading, asleep}
use Rattle.plain_machine.specs.Stands.{Stands}
use Rattle.plain_machine.specs.declared.event.Event.TheVariants as event
use Rattle.plain_machine.specs.declared.held.Held.TheVariants.{No}
use Rattle.plain_machine.specs.declared.event.Actor.TheVariants as actor
use Rattle.plain_machine.specs.declared.reply.Reply.{Reply}
use Rattle.plain_machine.specs.declared.reply.Reply.TheVariants as reply
use Rattle.protocol_laws.specs.Slots.{IsMemoryOf}
use Rattle.machine.specs.declared.machine.Machine.{Machine}
use Rattle.hib_core.specs.Ready.{IsSameMachine}
use Rattle.hib_core.proofs.Leaving.{SameEntries, entries_seen}
use Rattle.hib_core.specs.WakingRow as sleep_row
use Rattle.hib_core.specs.Waking as waked
use Rattle.hib_core.specs.Waking.{phase_told}
use Rattle.hib_core.specs.declared.waking.phase.Phase.TheVariants.{UnderWay}
use Rattle.world_core.specs.declared.world.Core.{Core}
use Rattle.world_core.specs.declared.world.Core.TheVariants.{Running as Runs, Hibernating, Asleep, Waking, Loading}
use Rattle.world_core.specs.World.{World}
use Rattle.world_core.specs.Kept.{HasTables}
use Rattle.world_core.specs.StandsFor.{StandsFor, hardware_of, shown, shown_at, core_woken}
use Rattle.world_core.specs.Row.{Simulates, SimulatesWhereTold, Restores, WakesWith}
use Rattle.world_core.proofs.Cases.{activity_by}

-- What a world is at after a step of its waking.

abbrev is_hibernating : Core → Bool
is_hibernating Hibernating = true
is_hibernating _ = false

abbrev is_loading : Core → Bool
is_loading Loading = true
is_loading _ = false

abbrev is_waking : Core → Bool
is_waking Waking = true
is_waking _ = false

pub woken_no_tables : {A : Type 0} (r : Reply) → HasTables (core_woken r) → A
woken_no_tables (reply.More k of) has = absurd has
woken_no_tables reply.Woken has = absurd has
woken_no_tables _ has = absurd has

pub woken_not_busy : {A : Type 0} (r : Reply) → core_woken r ≡ Hibernating → A
woken_not_busy (reply.More k of) e = absurd (false≢true (ap is_hibernating e))
woken_not_busy reply.Woken e = absurd (false≢true (ap is_hibernating e))
woken_not_busy _ e = absurd (false≢true (ap is_hibernating e))

pub woken_loads_not : {A : Type 0} (r : Reply) → core_woken r ≡ Loading → A
woken_loads_not (reply.More k of) e = absurd (false≢true (ap is_loading e))
woken_loads_not reply.Woken e = absurd (false≢true (ap is_loading e))
woken_loads_not _ e = absurd (false≢true (ap is_loading e))

pub wakes_on : (r : Reply) → core_woken r ≡ Waking → phase_told r ≡ UnderWay
wakes_on (reply.More k of) e = refl
wakes_on reply.Woken e = absurd (false≢true (ap is_waking e))
wakes_on _ e = absurd (false≢true (ap is_waking e))

-- What is shown.

shown_asleep : (w : World) → w.core ≡ Asleep → shown w ≡ waked.asleep_by w.machine w.frames
shown_asleep w e = ap (λ (core : Core). shown_at core w.machine w.frames w.hib w.load w.waker) e

shown_waking : (w : World) → w.core ≡ Waking → shown w ≡ waked.shown_by w.machine w.frames w.waker
shown_waking w e = ap (λ (core : Core). shown_at core w.machine w.frames w.hib w.load w.waker) e

shown_running : (w : World) → w.core ≡ Runs → shown w ≡ waked.running_by w.machine w.frames
shown_running w e = ap (λ (core : Core). shown_at core w.machine w.frames w.hib w.load w.waker) e

abbrev is_of_waking : Activity → Bool
is_of_waking runs = true
is_of_waking (wakes k) = true
is_of_waking sleeps = true
is_of_waking _ = false

-- no hibernation and no resume is under way
stands_by : (w : World) (c : disk.Content) (b : State) → is_of_waking (activity_in b) ≡ true → Stands (hardware_of w) (shown w) c b → StandsFor w c b
stands_by w c (off held kept) of stands = absurd (false≢true of)
stands_by w c (on a) of stands = record { stands = stands; image = tt; resume = tt }
stands_by w c (booting from dump held k) of stands = absurd (false≢true of)
stands_by w c (hibernating suspends i a k) of stands = absurd (false≢true of)
stands_by w c (undoing i call a k) of stands = absurd (false≢true of)
stands_by w c (settling a k) of stands = absurd (false≢true of)
stands_by w c (waking i held a k) of stands = record { stands = stands; image = tt; resume = tt }
stands_by w c (loading load k) of stands = absurd (false≢true of)
stands_by w c (asleep i held a) of stands = record { stands = stands; image = tt; resume = tt }

waking_stands : (w : World) (c : disk.Content) (b : State) → w.core ≡ Waking → sleep_row.WakingStandsFor w.machine w.frames w.waker c b → StandsFor w c b
waking_stands w c b core stands = stands_by w c b (sym (ap is_of_waking stands.activity)) (subst (λ (s : WorldView). Stands (hardware_of w) s c b) (sym (shown_waking w core)) stands)

asleep_stands : (w : World) (c : disk.Content) (b : State) → w.core ≡ Asleep → sleep_row.Sleeps w.machine w.frames c b → StandsFor w c b
asleep_stands w c b core stands = stands_by w c b (sym (ap is_of_waking stands.activity)) (subst (λ (s : WorldView). Stands (hardware_of w) s c b) (sym (shown_asleep w core)) stands)

running_stands : (w : World) (c : disk.Content) (b : State) → w.core ≡ Runs → sleep_row.Runs w.machine w.frames c b → StandsFor w c b
running_stands w c b core stands = stands_by w c b (sym (ap is_of_waking stands.activity)) (subst (λ (s : WorldView). Stands (hardware_of w) s c b) (sym (shown_running w core)) stands)

world_stands : (r : Reply) (w : World) (c : disk.Content) (b : State) → w.core ≡ core_woken r → sleep_row.StandsAfter r w.machine w.frames w.waker c b → StandsFor w c b
world_stands (reply.More k of) w c b core stands = waking_stands w c b core stands
world_stands reply.Woken w c b core stands = running_stands w c b core stands
world_stands _ w c b core stands = asleep_stands w c b core stands

-- The rows.

pub row_of_wake : (old new : World) (c : disk.Content) → old.core ≡ Asleep → new.core ≡ Waking → new.machine ≡ old.machine → new.frames ≡ old.frames → sleep_row.IsBegun new.waker → Simulates event.Wake old new (reply.More 0 3) c c
row_of_wake old new c core core' machine frames row a stands =
    let goes = row old.machine old.frames c a (subst (λ (s : WorldView). Stands (hardware_of old) s c a) (shown_asleep old core) stands.stands) in (
      goes.0,
      record {
        step = goes.1.step;
        stands = waking_stands new c goes.0 core'
            (subst (λ (m : Machine). sleep_row.WakingStandsFor m new.frames new.waker c goes.0) (sym machine) (subst (λ (m : Memory). sleep_row.WakingStandsFor old.machine m new.waker c goes.0) (sym frames) goes.1.stands));
        area = goes.1.area;
        unwritten = goes.1.unwritten;
        leaves = goes.1.leaves;
        header = goes.1.header;
      },
    )

pub row_of_step : (old new : World) (r : Reply) (before now : Option disk.Content) → old.core ≡ Waking → new.core ≡ core_woken r → sleep_row.IsLeft r old.machine old.frames new.machine new.frames → IsMemoryOf (hardware_of old) old.frames →
    sleep_row.SimulatesWhereTold old.machine old.waker new.waker r before now → SimulatesWhereTold (event.Step actor.Core) old new r before now
row_of_step old new r before now core core' left memory row k is =
    let at = row old.frames memory new.machine new.frames left k is in (
      at.0,
      at.1,
      λ a stands.
          let goes = at.2 a (subst (λ (s : WorldView). Stands (hardware_of old) s k a) (shown_waking old core) stands.stands) in (
            goes.0,
            record { step = goes.1.step; stands = world_stands r new at.0 goes.0 core' goes.1.stands; area = goes.1.area; unwritten = goes.1.unwritten; leaves = goes.1.leaves; header = goes.1.header },
          ),
    )

-- a world that wakes resumes nothing
pub restores_none : (old new : World) (r : Reply) (before now : Option disk.Content) → old.core ≡ Waking → Restores (event.Step actor.Core) old new r before now
restores_none old new (reply.Resumed n) before now core = λ c is load k stands. absurd (false≢true (ap is_of_waking (sym stands.stands.activity ∙ activity_by old Waking core)))
restores_none old new _ before now core = tt

-- What a waking leaves of the page frames.

pub wakes_with : (old new : World) (r : Reply) → sleep_row.IsLeft r old.machine old.frames new.machine new.frames → WakesWith old new r
wakes_with old new (reply.More k of) left = left.1
wakes_with old new reply.Woken left = left.1
wakes_with old new _ left = left.1

-- the entries of the page frames stay
pub left_entries : (r : Reply) (machine machine' : Machine) (frames frames' : Memory) → IsHardware machine.hw → sleep_row.IsLeft r machine frames machine' frames' → SameEntries machine.hw frames frames'
left_entries reply.Woken machine machine' frames frames' hw left = λ p in'. ap (λ (m : Memory). frame_entry machine.hw m p) left.1 ∙ entries_seen machine.hw frames hw p in'
left_entries (reply.More k of) machine machine' frames frames' hw left = λ p in'. ap (λ (m : Memory). frame_entry machine.hw m p) left.1
left_entries _ machine machine' frames frames' hw left = λ p in'. ap (λ (m : Memory). frame_entry machine.hw m p) left.1

-- and the machine stays, except for what it holds
same_but_held : (machine machine' : Machine) → machine' ≡ record machine { held = No } → IsSameMachine machine machine'
same_but_held machine machine' e = record { hw = ap (λ (m : Machine). m.hw) e; area = ap (λ (m : Machine). m.area) e; blocks = ap (λ (m : Machine). m.blocks) e; flights = ap (λ (m : Machine). m.flights) e }

same_machine : (machine machine' : Machine) → machine' ≡ machine → IsSameMachine machine machine'
same_machine machine machine' e = record { hw = ap (λ (m : Machine). m.hw) e; area = ap (λ (m : Machine). m.area) e; blocks = ap (λ (m : Machine). m.blocks) e; flights = ap (λ (m : Machine). m.flights) e }

pub left_machine : (r : Reply) (machine machine' : Machine) (frames frames' : Memory) → sleep_row.IsLeft r machine frames machine' frames' → IsSameMachine machine machine'
left_machine reply.Woken machine machine' frames frames' left = same_but_held machine machine' left.0
left_machine (reply.More k of) machine machine' frames frames' left = same_machine machine machine' left.0
left_machine _ machine machine' frames frames' left = same_machine machine machine' left.0

-- the header block is still one of the disk's
pub in_place : (machine machine' : Machine) → IsSameMachine machine machine' → block_of_slot machine.hw 0 < machine.blocks → block_of_slot machine'.hw 0 < machine'.blocks
in_place machine machine' same lt =
    subst (λ (h : Hardware). block_of_slot h 0 < machine'.blocks) (sym same.hw) (subst (λ (n : ℕ). block_of_slot machine.hw 0 < n) (sym same.blocks) lt)
