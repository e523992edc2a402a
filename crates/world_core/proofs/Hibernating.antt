-- What the rows of a hibernation or a settling say of the world that makes them.
use Rattle.std.proofs.Common.{◌≡◌, ◌⊎◌, inl, inr, ℕ, Bool, true, false, List, [], Option, Some, None, Result, Ok, Err, refl, sym, ap, ◌∙◌, subst}
use Rattle.std.specs.Result.{IfOk, MatchResult}
use Rattle.std.proofs.lemmas.Bool.{false≢true}
use Rattle.definitions.specs.Disk as disk
use Rattle.image_format.specs.declared.signature.area.Area.{Area}
use Rattle.image_format.specs.declared.signature.area.AreaKind.{AreaKind}
use Rattle.image_format.specs.declared.signature.area.AreaKind.TheVariants.{Swap}
use Rattle.plain_machine.specs.declared.event.IdentCheck.{IdentCheck}
use Rattle.plain_machine.specs.declared.event.Loader.{Loader}
use Rattle.plain_machine.specs.Image.{Image}
use Rattle.plain_machine.specs.Machine.{Hardware, Memory}
use Rattle.plain_machine.specs.Shows.{WorldView, Activity, rests, runs, hibernates, undoes, settles, sleeps, ShowsKept, loads}
use Rattle.plain_machine.specs.State.{State, off, on, booting, hibernating, undoing, settling, waking, loading, asleep as sleeping, Running, Held}
use Rattle.plain_machine.specs.Stands.{Stands}
use Rattle.plain_machine.specs.UsableArea.{fit_fault, kind_or_fit_fault}
use Rattle.plain_machine.specs.declared.event.Event.TheVariants as event
use Rattle.plain_machine.specs.declared.event.Actor.TheVariants as actor
use Rattle.plain_machine.specs.declared.no_swap.NoSwap.{NoSwap}
use Rattle.plain_machine.specs.declared.reply.Reply.{Reply}
use Rattle.plain_machine.specs.declared.reply.Reply.TheVariants as reply
use Rattle.machine.specs.Running.{reason_of}
use Rattle.machine.specs.declared.machine.Machine.{Machine}
use Rattle.hib_core.specs.Hibernation as hibernation
use Rattle.hib_core.specs.declared.phase.Phase.{Phase}
use Rattle.hib_core.specs.declared.phase.Phase.TheVariants as phase
use Rattle.hib_core.specs.Ready.{IsBusy, is_busy_at, IsSameMachine}
use Rattle.hib_core.specs.Row as hib_row
use Rattle.hib_core.specs.declared.hib.Hib.{Hib}
use Rattle.hib_core.specs.declared.hib.Job.{Job}
use Rattle.hib_core.specs.declared.hib.Stage.{Stage}
use Rattle.hib_core.specs.declared.hib.Stage.TheVariants as stage
use Rattle.resume_core.specs.Row as resume_row
use Rattle.machine.specs.Flights.{flights_in}
use Rattle.world_core.specs.declared.world.Core.{Core}
use Rattle.world_core.specs.declared.world.Core.TheVariants.{Off, Running as Runs, Hibernating, Asleep, Waking, Loading}
use Rattle.world_core.specs.World.{World}
use Rattle.world_core.specs.Kept.{IsDown}
use Rattle.world_core.specs.StandsFor.{StandsFor, hardware_of, keeps_dump, shown, shown_at, core_at, core_in, core_told}
use Rattle.world_core.specs.Row.{Simulates, SimulatesWhereTold, Restores}
use Rattle.world_core.proofs.Cases.{activity_by}
use Rattle.protocol_laws.proofs.Named.{names_by_entries}

-- What a hibernation is at.

abbrev is_of_hibernation : Activity → Bool
is_of_hibernation rests = true
is_of_hibernation runs = true
is_of_hibernation (hibernates suspends k) = true
is_of_hibernation (undoes call k) = true
is_of_hibernation (settles k) = true
is_of_hibernation sleeps = true
is_of_hibernation _ = false

of_hibernation : (s : Stage) → is_of_hibernation (hibernation.activity_at s) ≡ true
of_hibernation stage.Idle = refl
of_hibernation stage.Over = refl
of_hibernation stage.Asleep = refl
of_hibernation (stage.Write saving writer) = refl
of_hibernation (stage.Sync saving) = refl
of_hibernation (stage.Read saving) = refl
of_hibernation (stage.Mark saving header) = refl
of_hibernation (stage.End saving header) = refl
of_hibernation (stage.Undo call unmark) = refl
of_hibernation (stage.Settle unmark) = refl

never_at : {A : Type 0} (hib : Hib) (x : Activity) → is_of_hibernation x ≡ false → hibernation.activity_of hib ≡ x → A
never_at hib x not_of e = absurd (false≢true (sym not_of ∙ sym (ap is_of_hibernation e) ∙ of_hibernation hib.stage))

abbrev is_hibernating : Core → Bool
is_hibernating Hibernating = true
is_hibernating _ = false

busy_at : (s : Stage) → core_in (hibernation.phase_at s) ≡ Hibernating → is_busy_at s
busy_at stage.Idle e = absurd (false≢true (ap is_hibernating e))
busy_at stage.Over e = absurd (false≢true (ap is_hibernating e))
busy_at stage.Asleep e = absurd (false≢true (ap is_hibernating e))
busy_at (stage.Write saving writer) e = tt
busy_at (stage.Sync saving) e = tt
busy_at (stage.Read saving) e = tt
busy_at (stage.Mark saving header) e = tt
busy_at (stage.End saving header) e = tt
busy_at (stage.Undo call unmark) e = tt
busy_at (stage.Settle unmark) e = tt

-- a world that hibernates or settles by a reply has a step to make
pub busy_told : (hib : Hib) (r : Reply) (core : Core) → core ≡ core_told r → hibernation.phase_of hib ≡ hibernation.phase_told r → core ≡ Hibernating → IsBusy hib
busy_told hib r core is told e = busy_at hib.stage (ap core_in told ∙ sym is ∙ e)

abbrev is_loading : Core → Bool
is_loading Loading = true
is_loading _ = false

never_loads_in : {A : Type 0} (p : Phase) → core_in p ≡ Loading → A
never_loads_in phase.UnderWay e = absurd (false≢true (ap is_loading e))
never_loads_in phase.Runs e = absurd (false≢true (ap is_loading e))
never_loads_in phase.Off e = absurd (false≢true (ap is_loading e))
never_loads_in phase.Asleep e = absurd (false≢true (ap is_loading e))

-- a world that hibernates or settles doesn't resume
pub never_loads : {A : Type 0} (r : Reply) (core : Core) → core ≡ core_told r → core ≡ Loading → A
never_loads r core is e = never_loads_in (hibernation.phase_told r) (sym is ∙ e)

abbrev is_waking : Core → Bool
is_waking Waking = true
is_waking _ = false

never_wakes_in : {A : Type 0} (p : Phase) → core_in p ≡ Waking → A
never_wakes_in phase.UnderWay e = absurd (false≢true (ap is_waking e))
never_wakes_in phase.Runs e = absurd (false≢true (ap is_waking e))
never_wakes_in phase.Off e = absurd (false≢true (ap is_waking e))
never_wakes_in phase.Asleep e = absurd (false≢true (ap is_waking e))

-- a world that hibernates or settles doesn't wake
pub never_wakes : {A : Type 0} (r : Reply) (core : Core) → core ≡ core_told r → core ≡ Waking → A
never_wakes r core is e = never_wakes_in (hibernation.phase_told r) (sym is ∙ e)

-- nor does a world sleep whose hibernation has only begun or was refused
pub never_sleeps : {A : Type 0} (r : Reply) (core : Core) → core ≡ core_told r → (hibernation.phase_told r ≡ phase.UnderWay) ⊎ (hibernation.phase_told r ≡ phase.Runs) → IsDown core → A
never_sleeps r core is (inl begun) down = absurd (subst IsDown (is ∙ ap core_in begun) down)
never_sleeps r core is (inr refused) down = absurd (subst IsDown (is ∙ ap core_in refused) down)

-- what a hibernation is doing is what its activity says
core_of_stage : (s : Stage) → core_at (hibernation.activity_at s) ≡ core_in (hibernation.phase_at s)
core_of_stage stage.Idle = refl
core_of_stage stage.Over = refl
core_of_stage stage.Asleep = refl
core_of_stage (stage.Write saving writer) = refl
core_of_stage (stage.Sync saving) = refl
core_of_stage (stage.Read saving) = refl
core_of_stage (stage.Mark saving header) = refl
core_of_stage (stage.End saving header) = refl
core_of_stage (stage.Undo call unmark) = refl
core_of_stage (stage.Settle unmark) = refl

core_by_told : (hib : Hib) (r : Reply) (core : Core) → core ≡ core_told r → hibernation.phase_of hib ≡ hibernation.phase_told r → core ≡ core_at (hibernation.activity_of hib)
core_by_told hib r core is told = is ∙ sym (ap core_in told) ∙ sym (core_of_stage hib.stage)

-- What is shown.

shown_running : (w : World) → w.core ≡ Runs → shown w ≡ hibernation.running_by w.machine w.frames
shown_running w e = ap (λ (core : Core). shown_at core w.machine w.frames w.hib w.load w.waker) e

shown_hibernating : (w : World) → w.core ≡ Hibernating → shown w ≡ hibernation.shown_by w.machine w.frames w.hib
shown_hibernating w e = ap (λ (core : Core). shown_at core w.machine w.frames w.hib w.load w.waker) e

hibernation_stands : (w : World) (c : disk.Content) (a : State) → w.core ≡ Hibernating → StandsFor w c a → hib_row.HibernationStandsFor w.machine w.frames w.hib c a
hibernation_stands w c a core stands = record {
  stands = subst (λ (s : WorldView). Stands (hardware_of w) s c a) (shown_hibernating w core) stands.stands;
  image = stands.image;
}

still_hibernating : (w : World) (c : disk.Content) (a : State) → w.core ≡ Hibernating → hib_row.HibernationStandsFor w.machine w.frames w.hib c a → resume_row.IsOfState w.machine w.frames w.load c a → StandsFor w c a
still_hibernating w c a core stands resume = record {
  stands = subst (λ (s : WorldView). Stands (hardware_of w) s c a) (sym (shown_hibernating w core)) stands.stands;
  image = stands.image;
  resume = resume;
}

-- what an operation shows of a world, but for the activity, is seen no more once the world is off or runs
abbrev pub shown_in : World → Activity → List ℕ → List ℕ → Option (Loader × IdentCheck) → List (ℕ × List ℕ) → WorldView
shown_in w activity header copies resume loaded = record {
  activity = activity;
  keeps_dump = false;
  held = w.machine.held;
  unusable = reason_of w.machine.area;
  flights = flights_in w.machine.flights;
  frames = w.frames;
  header = header;
  copies = copies;
  resume = resume;
  loaded = loaded;
}

kept_same : (w : World) (activity : Activity) (header copies : List ℕ) (resume : Option (Loader × IdentCheck)) (loaded : List (ℕ × List ℕ)) (kept : Option Memory) → w.core ≡ Off false → ShowsKept (hardware_of w) (shown_in w activity header copies resume loaded) kept → ShowsKept (hardware_of w) (shown w) kept
kept_same w activity header copies resume loaded None core shows = ap keeps_dump core
kept_same w activity header copies resume loaded (Some m) core shows = absurd (false≢true shows.0)

pub then_off : (w : World) (c : disk.Content) (activity : Activity) (header copies : List ℕ) (resume : Option (Loader × IdentCheck)) (loaded : List (ℕ × List ℕ)) (held : Held) (kept : Option Memory) → w.core ≡ Off false → Stands (hardware_of w) (shown_in w activity header copies resume loaded) c (off held kept) → StandsFor w c (off held kept)
then_off w c activity header copies resume loaded held kept core stands = record {
  stands = record { activity = activity_by w (Off false) core; parts = record { memory = kept_same w activity header copies resume loaded kept core stands.parts.memory; held = stands.parts.held; header = stands.parts.header } };
  image = tt;
  resume = tt;
}

pub then_running : (w : World) (c : disk.Content) (activity : Activity) (header copies : List ℕ) (resume : Option (Loader × IdentCheck)) (loaded : List (ℕ × List ℕ)) (a : Running) → w.core ≡ Runs → Stands (hardware_of w) (shown_in w activity header copies resume loaded) c (on a) → StandsFor w c (on a)
then_running w c activity header copies resume loaded a core stands =
    let before = stands.parts.disk in
    record {
      stands = record {
        activity = activity_by w Runs core;
        parts = record {
          memory = stands.parts.memory;
          disk = record {
            held = before.held;
            task_slots = before.task_slots;
            flights = before.flights;
            slot_pages = before.slot_pages;
            names = names_by_entries (hardware_of w) (shown_in w activity header copies resume loaded) (shown w) a.held (λ k lt. refl) before.names;
            header = before.header;
            area = before.area;
          };
        };
      };
      image = tt;
      resume = tt;
    }

pub then_asleep : (w : World) (c : disk.Content) (activity : Activity) (header copies : List ℕ) (resume : Option (Loader × IdentCheck)) (loaded : List (ℕ × List ℕ)) (i : Image) (held : Held) (a : Running) → w.core ≡ Asleep → Stands (hardware_of w) (shown_in w activity header copies resume loaded) c (sleeping i held a) → StandsFor w c (sleeping i held a)
then_asleep w c activity header copies resume loaded i held a core stands =
    let behind = stands.parts.behind in
    record {
      stands = record {
        activity = activity_by w Asleep core;
        parts = record {
          behind = record {
            memory = behind.memory;
            held = behind.held;
            task_slots = behind.task_slots;
            flights = behind.flights;
            slot_pages = behind.slot_pages;
            header = behind.header;
            area = behind.area;
          };
          names = names_by_entries (hardware_of w) (shown_in w activity header copies resume loaded) (shown w) held (λ k lt. refl) stands.parts.names;
          saved = stands.parts.saved;
        };
      };
      image = tt;
      resume = tt;
    }

-- the states of a hibernation are those of the world that is at what it is at
world_stands : (w : World) (c : disk.Content) (b : State) → w.core ≡ core_at (hibernation.activity_of w.hib) → hib_row.HibernationStandsFor w.machine w.frames w.hib c b → StandsFor w c b
world_stands w c (off held kept) core stands = then_off w c (hibernation.activity_of w.hib) (hibernation.header_at w.hib.stage) w.hib.snapshot.copies None [] held kept (core ∙ ap core_at stands.stands.activity) stands.stands
world_stands w c (on a) core stands = then_running w c (hibernation.activity_of w.hib) (hibernation.header_at w.hib.stage) w.hib.snapshot.copies None [] a (core ∙ ap core_at stands.stands.activity) stands.stands
world_stands w c (hibernating suspends i a k) core stands = still_hibernating w c (hibernating suspends i a k) (core ∙ ap core_at stands.stands.activity) stands tt
world_stands w c (undoing i call a k) core stands = still_hibernating w c (undoing i call a k) (core ∙ ap core_at stands.stands.activity) stands tt
world_stands w c (booting from dump held k) core stands = never_at w.hib _ refl stands.stands.activity
world_stands w c (settling a k) core stands = still_hibernating w c (settling a k) (core ∙ ap core_at stands.stands.activity) stands tt
world_stands w c (waking i held a k) core stands = never_at w.hib _ refl stands.stands.activity
world_stands w c (loading load k) core stands = never_at w.hib _ refl stands.stands.activity
world_stands w c (sleeping i held a) core stands = then_asleep w c (hibernation.activity_of w.hib) (hibernation.header_at w.hib.stage) w.hib.snapshot.copies None [] i held a (core ∙ ap core_at stands.stands.activity) stands.stands

-- The rows.

pub row_of_begin : (old new : World) (asked : Job) (r : Reply) (c : disk.Content) → old.core ≡ Runs → new.core ≡ core_told r → new.machine ≡ old.machine → hibernation.phase_of new.hib ≡ hibernation.phase_told r →
    hib_row.IsBegun old.machine old.frames new.frames new.hib asked r c → Simulates (hib_row.event_of asked) old new r c c
row_of_begin old new asked r c core core' machine told row a stands =
    let goes = row a (subst (λ (s : WorldView). Stands (hardware_of old) s c a) (shown_running old core) stands.stands) in (
      goes.0,
      record {
        step = goes.1.step;
        stands = world_stands new c goes.0 (core_by_told new.hib r new.core core' told) (subst (λ (m : Machine). hib_row.HibernationStandsFor m new.frames new.hib c goes.0) (sym machine) goes.1.stands);
        area = goes.1.area;
        unwritten = goes.1.unwritten;
        leaves = goes.1.leaves;
        header = goes.1.header;
      },
    )

pub row_of_step : (old new : World) (r : Reply) (before now : Option disk.Content) → old.core ≡ Hibernating → new.core ≡ core_told r → hibernation.phase_of new.hib ≡ hibernation.phase_told r →
    hib_row.SimulatesWhereTold old.machine old.frames old.hib new.machine new.frames new.hib (event.Step actor.Core) r before now → SimulatesWhereTold (event.Step actor.Core) old new r before now
row_of_step old new r before now core core' told row k is =
    let at = row k is in (
      at.0,
      at.1,
      λ a stands.
          let goes = at.2 a (hibernation_stands old k a core stands) in (
            goes.0,
            record { step = goes.1.step; stands = world_stands new at.0 goes.0 (core_by_told new.hib r new.core core' told) goes.1.stands; area = goes.1.area; unwritten = goes.1.unwritten; leaves = goes.1.leaves; header = goes.1.header },
          ),
    )

-- a world that hibernates resumes nothing
pub restores_none : (old new : World) (r : Reply) (before now : Option disk.Content) → old.core ≡ Hibernating → Restores (event.Step actor.Core) old new r before now
restores_none old new (reply.Resumed n) before now core = λ c is load k stands. never_at old.hib (loads k) refl (sym (activity_by old Hibernating core) ∙ stands.stands.activity)
restores_none old new _ before now core = tt

-- The area.

abbrev IsUsable : Hardware → ℕ → Result Area NoSwap → Type 0
IsUsable h blocks area = IfOk area (λ a. fit_fault h blocks a ≡ None)

pub usable_same : (m m' : Machine) → IsSameMachine m m' → IsUsable m.hw m.blocks m.area → IsUsable m'.hw m'.blocks m'.area
usable_same m m' same usable =
    subst (λ (h : Hardware). IsUsable h m'.blocks m'.area) (sym same.hw)
    (subst (λ (n : ℕ). IsUsable m.hw n m'.area) (sym same.blocks)
    (subst (λ (a : Result Area NoSwap). IsUsable m.hw m.blocks a) (sym same.area) usable))

-- an area that a header block's kind is, and that fits
pub usable_of : (h : Hardware) (blocks : ℕ) (kind : AreaKind) (area : Result Area NoSwap) →
    MatchResult area (λ a. (kind ≡ Swap a) × (kind_or_fit_fault h blocks kind ≡ None)) (λ why. kind_or_fit_fault h blocks kind ≡ Some why) → IsUsable h blocks area
usable_of h blocks kind (Ok a) is = sym (ap (kind_or_fit_fault h blocks) is.0) ∙ is.1
usable_of h blocks kind (Err why) is = tt
