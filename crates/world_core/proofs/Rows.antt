-- Rows of the plain machine for whole worlds.
use Rattle.protocol_laws.proofs.HeaderLeft.{left_same}
use Rattle.protocol_laws.proofs.Leaving.{leaves_refused}
use Rattle.protocol_laws.proofs.Unwritten.{block_same}
use Rattle.std.proofs.Common.{◌≡◌, ◌≢◌, ℕ, Bool, true, false, Option, Some, None, refl, sym, ap, ◌∙◌, arith, subst, ◌⊎◌, inl, inr, not, is_some}
use Rattle.std.specs.List.{Contains}
use Rattle.std.proofs.lemmas.Bool.{false≢true}
use Rattle.definitions.specs.Disk as disk
use Rattle.plain_machine.specs.Image.{Image}
use Rattle.plain_machine.specs.Machine.{Hardware, Memory}
use Rattle.plain_machine.specs.State.{State, off, on, booting, hibernating, undoing, settling, waking, loading, asleep, Running, Held, Flight}
use Rattle.plain_machine.specs.Step.{Step, outcomes, accepted, refused_or}
use Rattle.plain_machine.specs.Chain.{or_else}
use Rattle.hib_core.specs.Row.{event_of}
use Rattle.hib_core.specs.declared.hib.Job.{Job}
use Rattle.hib_core.specs.declared.hib.Job.TheVariants as job
use Rattle.plain_machine.specs.Refusals.{busy, is_held, start_refusal, asks_dump_to_boot, asks_dump_to_load, refusal, refused_if, refusal_if_running, task_refusal, hibernate_refusal}
use Rattle.plain_machine.specs.Stands.{Stands}
use Rattle.plain_machine.specs.Shows.{Activity, rests, runs, boots, hibernates, undoes, settles, wakes, loads, sleeps, activity_in}
use Rattle.plain_machine.specs.declared.event.BootFrom.{BootFrom}
use Rattle.plain_machine.specs.declared.event.Event.{Event}
use Rattle.plain_machine.specs.declared.event.Loader.{Loader}
use Rattle.plain_machine.specs.declared.event.IdentCheck.{IdentCheck}
use Rattle.plain_machine.specs.declared.event.Event.TheVariants as event
use Rattle.plain_machine.specs.declared.event.TaskOp.{TaskOp}
use Rattle.plain_machine.specs.declared.event.Actor.{Actor}
use Rattle.plain_machine.specs.declared.event.Actor.TheVariants as actor
use Rattle.plain_machine.specs.declared.reply.Reply.{Reply}
use Rattle.plain_machine.specs.declared.reply.Reply.TheVariants as reply
use Rattle.protocol_laws.specs.Rows.{IsSameArea}
use Rattle.machine.specs.Flights.{flights_in}
use Rattle.hib_core.specs.Hibernation.{activity_at}
use Rattle.hib_core.specs.Ready.{IsBusy, is_busy_at}
use Rattle.hib_core.specs.declared.hib.Hib.{Hib}
use Rattle.hib_core.specs.declared.hib.Stage.{Stage}
use Rattle.hib_core.specs.declared.hib.Stage.TheVariants as stage
use Rattle.resume_core.specs.Loading as resumption
use Rattle.resume_core.specs.Ready as resume_ready
use Rattle.resume_core.specs.declared.load.Load.{Load}
use Rattle.resume_core.specs.declared.load.Stage.{Stage as LoadStage}
use Rattle.resume_core.specs.declared.load.Stage.TheVariants as load_stage
use Rattle.hib_core.specs.declared.waking.waker.Waker.{Waker}
use Rattle.world_core.specs.declared.world.Core.{Core}
use Rattle.world_core.specs.declared.world.Core.TheVariants.{Off, Running as Runs, BootBegun, BootSynced, Hibernating, Asleep, Waking, Loading}
use Rattle.world_core.specs.declared.world.World.TheInside.{Inside}
use Rattle.world_core.specs.World.{World}
use Rattle.world_core.specs.Kept.{kept_world, IsKept, IsUp}
use Rattle.world_core.specs.StandsFor.{StandsFor, IsBusyIn, IsOff, activity_of, is_off, hardware_of, shown}
use Rattle.world_core.specs.Row.{GoesOn, Simulates}
use Rattle.world_core.proofs.Cases.{activity_for, activity_by, rests_by, at_rest, at_run, at_boot, at_sleep}

pub refused_step : (h : Hardware) (v : disk.DiskImage) (a : State) (e : Event) (r : Reply) → refusal h a e ≡ Some r → Step h v a e r a
unfolding outcomes
refused_step h v a e r why = subst (λ (o : Option Reply). Contains (refused_or a o (accepted h v a e)) (r, a)) (sym why) (0, omega arith, refl)

pub accepted_step : (h : Hardware) (v : disk.DiskImage) (a : State) (e : Event) (r : Reply) (b : State) → refusal h a e ≡ None → Contains (accepted h v a e) (r, b) → Step h v a e r b
unfolding outcomes
accepted_step h v a e r b none in' = subst (λ (o : Option Reply). Contains (refused_or a o (accepted h v a e)) (r, b)) (sym none) in'

-- a disk that reads the same has the same area
pub area_of_same : (h : Hardware) (v w : disk.DiskImage) → w ≡ v → IsSameArea h v w
area_of_same h v w e = subst (IsSameArea h v) (sym e) (record { blocks = refl; header = record { front = refl; signature = refl } })

-- a refused event leaves the world
pub row_refused : (e : Event) (w : World) (r : Reply) (c : disk.Content) → ((a : State) → StandsFor w c a → refusal (hardware_of w) a e ≡ Some r) → Simulates e w w r c c
row_refused e w r c why a stands = (a, record { step = refused_step (hardware_of w) (disk.as_it_reads c) a e r (why a stands); stands = stands; area = area_of_same (hardware_of w) (disk.as_it_reads c) (disk.as_it_reads c) refl; unwritten = λ b not. block_same b _; leaves = leaves_refused (hardware_of w) e r a c (why a stands); header = left_same (hardware_of w) a c })

-- Refusals by what the world is at.

starts_not_off : (a : State) (asks : Bool) → ((held : Held) (kept : Option Memory) → a ≡ off held kept → ⊥) → start_refusal a asks ≡ Some reply.NotOff
starts_not_off (off held kept) asks other = absurd (other held kept refl)
starts_not_off (on r) asks other = refl
starts_not_off (booting f dump held k) asks other = refl
starts_not_off (hibernating suspends i r k) asks other = refl
starts_not_off (undoing i call r k) asks other = refl
starts_not_off (settling r k) asks other = refl
starts_not_off (waking i held r k) asks other = refl
starts_not_off (loading load k) asks other = refl
starts_not_off (asleep i held r) asks other = refl

not_off_by : (h : Hardware) (a : State) (from : BootFrom) → ((held : Held) (kept : Option Memory) → a ≡ off held kept → ⊥) → refusal h a (event.Boot from) ≡ Some reply.NotOff
unfolding refusal
not_off_by h a from other = starts_not_off a (asks_dump_to_boot from) other

resume_not_off_by : (h : Hardware) (a : State) (loader : Loader) (check : IdentCheck) → ((held : Held) (kept : Option Memory) → a ≡ off held kept → ⊥) → refusal h a (event.Resume loader check) ≡ Some reply.NotOff
unfolding refusal
resume_not_off_by h a loader check other = starts_not_off a (asks_dump_to_load loader) other

-- a boot, a hibernation or another operation that isn't over
abbrev is_underway : Activity → Bool
is_underway rests = false
is_underway runs = false
is_underway sleeps = false
is_underway _ = true

busy_underway : (s : Stage) → is_busy_at s → is_underway (activity_at s) ≡ true
busy_underway stage.Idle busy = absurd busy
busy_underway stage.Over busy = absurd busy
busy_underway stage.Asleep busy = absurd busy
busy_underway (stage.Write saving writer) busy = refl
busy_underway (stage.Sync saving) busy = refl
busy_underway (stage.Read saving) busy = refl
busy_underway (stage.Mark saving header) busy = refl
busy_underway (stage.End saving header) busy = refl
busy_underway (stage.Undo call unmark) busy = refl
busy_underway (stage.Settle unmark) busy = refl

abbrev is_rest : Activity → Bool
is_rest rests = true
is_rest _ = false

abbrev is_run : Activity → Bool
is_run runs = true
is_run _ = false

load_underway : (s : LoadStage) → resume_ready.is_busy_at s → is_underway (resumption.activity_at s) ≡ true
load_underway load_stage.Rest busy = absurd busy
load_underway load_stage.Runs busy = absurd busy
load_underway load_stage.Sync busy = refl
load_underway load_stage.Find busy = refl
load_underway (load_stage.Back unmark mark) busy = refl
load_underway (load_stage.List chain) busy = refl
load_underway (load_stage.Read chain) busy = refl

abbrev pub is_at_rest : Core → Bool
is_at_rest (Off keeps) = true
is_at_rest Runs = true
is_at_rest (BootBegun from) = false
is_at_rest (BootSynced from) = false
is_at_rest Hibernating = false
is_at_rest Asleep = true
is_at_rest Waking = false
is_at_rest Loading = false

core_underway : (core : Core) (hib : Hib) (load : Load) (waker : Waker) → (core ≡ Hibernating → IsBusy hib) → (core ≡ Loading → resume_ready.IsBusy load) → is_at_rest core ≡ false → is_underway (activity_of core hib load waker) ≡ true
core_underway (Off keeps) hib load waker busy resumes no_idle = absurd (false≢true (sym no_idle))
core_underway Runs hib load waker busy resumes no_idle = absurd (false≢true (sym no_idle))
core_underway (BootBegun from) hib load waker busy resumes no_idle = refl
core_underway (BootSynced from) hib load waker busy resumes no_idle = refl
core_underway Hibernating hib load waker busy resumes no_idle = busy_underway hib.stage (busy refl)
core_underway Asleep hib load waker busy resumes no_idle = absurd (false≢true (sym no_idle))
core_underway Waking hib load waker busy resumes no_idle = refl
core_underway Loading hib load waker busy resumes no_idle = load_underway load.stage (resumes refl)

core_off : (w : World) (core : Core) → IsBusyIn w → w.core ≡ core → activity_of core w.hib w.load w.waker ≡ rests → is_off core ≡ true
core_off w (Off keeps) busy e rest = refl
core_off w Runs busy e rest = absurd (false≢true (ap is_rest rest))
core_off w (BootBegun from) busy e rest = absurd (false≢true (ap is_rest rest))
core_off w (BootSynced from) busy e rest = absurd (false≢true (ap is_rest rest))
core_off w Hibernating busy e rest = absurd (false≢true (sym (ap is_underway rest) ∙ busy_underway w.hib.stage (busy.hibernates e)))
core_off w Asleep busy e rest = absurd (false≢true (ap is_rest rest))
core_off w Waking busy e rest = absurd (false≢true (ap is_rest rest))
core_off w Loading busy e rest = absurd (false≢true (sym (ap is_underway rest) ∙ load_underway w.load.stage (busy.resumes e)))

never_off : (w : World) (c : disk.Content) (a : State) → IsBusyIn w → (IsOff w → ⊥) → StandsFor w c a → (held : Held) (kept : Option Memory) → a ≡ off held kept → ⊥
never_off w c a busy no_off stands held kept e = no_off (core_off w w.core busy refl (activity_for w c a stands ∙ ap activity_in e))

pub not_off : (w : World) (c : disk.Content) (a : State) (from : BootFrom) → IsBusyIn w → (IsOff w → ⊥) → StandsFor w c a → refusal (hardware_of w) a (event.Boot from) ≡ Some reply.NotOff
not_off w c a from busy no_off stands = not_off_by (hardware_of w) a from (never_off w c a busy no_off stands)

pub resume_not_off : (w : World) (c : disk.Content) (a : State) (loader : Loader) (check : IdentCheck) → IsBusyIn w → (IsOff w → ⊥) → StandsFor w c a → refusal (hardware_of w) a (event.Resume loader check) ≡ Some reply.NotOff
resume_not_off w c a loader check busy no_off stands = resume_not_off_by (hardware_of w) a loader check (never_off w c a busy no_off stands)

not_on_by : (h : Hardware) (a : State) (t : ℕ) (o : TaskOp) → (held : Held) (kept : Option Memory) → a ≡ off held kept → refusal h a (event.Task t o) ≡ Some reply.NotOn
unfolding refusal
not_on_by h a t o held kept e = ap (λ (b : State). refusal h b (event.Task t o)) e

pub not_on : (w : World) (c : disk.Content) (a : State) (t : ℕ) (o : TaskOp) → IsOff w → StandsFor w c a → refusal (hardware_of w) a (event.Task t o) ≡ Some reply.NotOn
not_on w c a t o e stands =
    let rest = at_rest a (sym (rests_by w e) ∙ activity_for w c a stands) in
    not_on_by (hardware_of w) a t o rest.0 rest.1 rest.2

-- what is under way isn't disturbed
frozen_by : (a : State) (test : Running → Option Reply) → is_underway (activity_in a) ≡ true → refusal_if_running a test ≡ Some reply.Frozen
frozen_by (off held kept) test e = absurd (false≢true e)
frozen_by (on r) test e = absurd (false≢true e)
frozen_by (booting from dump held k) test e = refl
frozen_by (hibernating suspends i r k) test e = refl
frozen_by (undoing i call r k) test e = refl
frozen_by (settling r k) test e = refl
frozen_by (waking i held r k) test e = refl
frozen_by (loading load k) test e = refl
frozen_by (asleep i held r) test e = absurd (false≢true e)

-- A world at something that goes on: it isn't off, doesn't run and doesn't sleep.
abbrev pub IsTaken : Core → Type 0
IsTaken core = is_at_rest core ≡ false

pub is_taken : (core : Core) → ((from : BootFrom) × (core ≡ BootBegun from)) ⊎ (((from : BootFrom) × (core ≡ BootSynced from)) ⊎ ((core ≡ Hibernating) ⊎ ((core ≡ Waking) ⊎ (core ≡ Loading)))) → IsTaken core
is_taken core (inl e) = ap is_at_rest e.1
is_taken core (inr (inl e)) = ap is_at_rest e.1
is_taken core (inr (inr (inl e))) = ap is_at_rest e
is_taken core (inr (inr (inr (inl e)))) = ap is_at_rest e
is_taken core (inr (inr (inr (inr e)))) = ap is_at_rest e

underway : (w : World) (c : disk.Content) (a : State) → IsBusyIn w → IsTaken w.core → StandsFor w c a → is_underway (activity_in a) ≡ true
underway w c a busy taken stands = sym (ap is_underway (activity_for w c a stands)) ∙ core_underway w.core w.hib w.load w.waker busy.hibernates busy.resumes taken

pub frozen_task : (w : World) (c : disk.Content) (a : State) (t : ℕ) (o : TaskOp) → IsBusyIn w → IsTaken w.core → StandsFor w c a → refusal (hardware_of w) a (event.Task t o) ≡ Some reply.Frozen
unfolding refusal
frozen_task w c a t o busy taken stands = frozen_by a (task_refusal (hardware_of w) t o) (underway w c a busy taken stands)

-- the test of a job's event, of a machine that runs
abbrev job_test : Hardware → Job → Running → Option Reply
job_test h (job.Hibernate f) = hibernate_refusal h f
job_test h (job.Suspend f) = hibernate_refusal h f
job_test h job.Settle = λ r. or_else (busy r) (refused_if (not (is_held r.held)) reply.NothingHeld)

job_refusal : (h : Hardware) (a : State) (asked : Job) → refusal h a (event_of asked) ≡ refusal_if_running a (job_test h asked)
unfolding refusal
job_refusal h a (job.Hibernate f) = refl
job_refusal h a (job.Suspend f) = refl
job_refusal h a job.Settle = refl

pub frozen_job : (w : World) (c : disk.Content) (a : State) (asked : Job) → IsBusyIn w → IsTaken w.core → StandsFor w c a → refusal (hardware_of w) a (event_of asked) ≡ Some reply.Frozen
frozen_job w c a asked busy taken stands = job_refusal (hardware_of w) a asked ∙ frozen_by a (job_test (hardware_of w) asked) (underway w c a busy taken stands)

job_not_on_by : (a : State) (test : Running → Option Reply) → (held : Held) (kept : Option Memory) → a ≡ off held kept → refusal_if_running a test ≡ Some reply.NotOn
job_not_on_by a test held kept e = ap (λ (b : State). refusal_if_running b test) e

pub job_not_on : (w : World) (c : disk.Content) (a : State) (asked : Job) → IsOff w → StandsFor w c a → refusal (hardware_of w) a (event_of asked) ≡ Some reply.NotOn
job_not_on w c a asked e stands =
    let rest = at_rest a (sym (rests_by w e) ∙ activity_for w c a stands) in
    job_refusal (hardware_of w) a asked ∙ job_not_on_by a (job_test (hardware_of w) asked) rest.0 rest.1 rest.2

-- A shrinking asks of a machine that runs alone whether a task is busy.
shrink_refusal : (h : Hardware) (a : State) (want : ℕ) → refusal h a (event.Shrink want) ≡ refusal_if_running a busy
unfolding refusal
shrink_refusal h a want = refl

pub shrink_not_on : (w : World) (c : disk.Content) (a : State) (want : ℕ) → IsOff w → StandsFor w c a → refusal (hardware_of w) a (event.Shrink want) ≡ Some reply.NotOn
shrink_not_on w c a want e stands =
    let rest = at_rest a (sym (rests_by w e) ∙ activity_for w c a stands) in
    shrink_refusal (hardware_of w) a want ∙ job_not_on_by a busy rest.0 rest.1 rest.2

pub frozen_shrink : (w : World) (c : disk.Content) (a : State) (want : ℕ) → IsBusyIn w → IsTaken w.core → StandsFor w c a → refusal (hardware_of w) a (event.Shrink want) ≡ Some reply.Frozen
frozen_shrink w c a want busy_in taken stands = shrink_refusal (hardware_of w) a want ∙ frozen_by a busy (underway w c a busy_in taken stands)

-- A machine that sleeps isn't disturbed either.
sleeping_by : (w : World) (c : disk.Content) (a : State) (test : Running → Option Reply) → w.core ≡ Asleep → StandsFor w c a → refusal_if_running a test ≡ Some reply.Sleeping
sleeping_by w c a test core stands =
    let sleep = at_sleep a (sym (activity_by w Asleep core) ∙ activity_for w c a stands) in
    ap (λ (b : State). refusal_if_running b test) sleep.3

pub sleeping_task : (w : World) (c : disk.Content) (a : State) (t : ℕ) (o : TaskOp) → w.core ≡ Asleep → StandsFor w c a → refusal (hardware_of w) a (event.Task t o) ≡ Some reply.Sleeping
unfolding refusal
sleeping_task w c a t o core stands = sleeping_by w c a (task_refusal (hardware_of w) t o) core stands

pub sleeping_job : (w : World) (c : disk.Content) (a : State) (asked : Job) → w.core ≡ Asleep → StandsFor w c a → refusal (hardware_of w) a (event_of asked) ≡ Some reply.Sleeping
sleeping_job w c a asked core stands = job_refusal (hardware_of w) a asked ∙ sleeping_by w c a (job_test (hardware_of w) asked) core stands

pub sleeping_shrink : (w : World) (c : disk.Content) (a : State) (want : ℕ) → w.core ≡ Asleep → StandsFor w c a → refusal (hardware_of w) a (event.Shrink want) ≡ Some reply.Sleeping
sleeping_shrink w c a want core stands = shrink_refusal (hardware_of w) a want ∙ sleeping_by w c a busy core stands

-- and only a machine that sleeps wakes
abbrev is_sleep : Activity → Bool
is_sleep sleeps = true
is_sleep _ = false

awake_if_underway : (x : Activity) → is_underway x ≡ true → is_sleep x ≡ false
awake_if_underway rests e = refl
awake_if_underway runs e = refl
awake_if_underway (boots from k) e = refl
awake_if_underway (hibernates suspends k) e = refl
awake_if_underway (undoes call k) e = refl
awake_if_underway (settles k) e = refl
awake_if_underway (wakes k) e = refl
awake_if_underway (loads k) e = refl
awake_if_underway sleeps e = absurd (false≢true e)

core_awake : (w : World) (core : Core) → IsBusyIn w → w.core ≡ core → core ≢ Asleep → is_sleep (activity_of core w.hib w.load w.waker) ≡ false
core_awake w (Off keeps) busy e awake = refl
core_awake w Runs busy e awake = refl
core_awake w (BootBegun from) busy e awake = refl
core_awake w (BootSynced from) busy e awake = refl
core_awake w Hibernating busy e awake = awake_if_underway (activity_of Hibernating w.hib w.load w.waker) (busy_underway w.hib.stage (busy.hibernates e))
core_awake w Asleep busy e awake = absurd (awake refl)
core_awake w Waking busy e awake = refl
core_awake w Loading busy e awake = awake_if_underway (activity_of Loading w.hib w.load w.waker) (load_underway w.load.stage (busy.resumes e))

not_asleep_by : (h : Hardware) (a : State) → is_sleep (activity_in a) ≡ false → refusal h a event.Wake ≡ Some reply.NotAsleep
unfolding refusal
not_asleep_by h (off held kept) e = refl
not_asleep_by h (on r) e = refl
not_asleep_by h (booting from dump held k) e = refl
not_asleep_by h (hibernating suspends i r k) e = refl
not_asleep_by h (undoing i call r k) e = refl
not_asleep_by h (settling r k) e = refl
not_asleep_by h (waking i held r k) e = refl
not_asleep_by h (loading load k) e = refl
not_asleep_by h (asleep i held r) e = absurd (false≢true (sym e))

pub not_asleep : (w : World) (c : disk.Content) (a : State) → IsBusyIn w → w.core ≢ Asleep → StandsFor w c a → refusal (hardware_of w) a event.Wake ≡ Some reply.NotAsleep
not_asleep w c a busy awake stands = not_asleep_by (hardware_of w) a (sym (ap is_sleep (activity_for w c a stands)) ∙ core_awake w w.core busy refl awake)

idle_off : (h : Hardware) (a : State) (x : Actor) (held : Held) (kept : Option Memory) → a ≡ off held kept → refusal h a (event.Step x) ≡ Some reply.Idle
unfolding refusal
idle_off h a x held kept e = ap (λ (b : State). refusal h b (event.Step x)) e

idle_on : (h : Hardware) (a : State) (r : Running) → a ≡ on r → refusal h a (event.Step actor.Core) ≡ Some reply.Idle
unfolding refusal
idle_on h a r e = ap (λ (b : State). refusal h b (event.Step actor.Core)) e

idle_asleep : (h : Hardware) (a : State) (i : Image) (held : Held) (r : Running) → a ≡ asleep i held r → refusal h a (event.Step actor.Core) ≡ Some reply.Idle
unfolding refusal
idle_asleep h a i held r e = ap (λ (b : State). refusal h b (event.Step actor.Core)) e

pub idle_core : (w : World) (c : disk.Content) (a : State) → StandsFor w c a → IsOff w ⊎ ((w.core ≡ Runs) ⊎ (w.core ≡ Asleep)) → refusal (hardware_of w) a (event.Step actor.Core) ≡ Some reply.Idle
idle_core w c a stands (inl e) =
    let rest = at_rest a (sym (rests_by w e) ∙ activity_for w c a stands) in
    idle_off (hardware_of w) a actor.Core rest.0 rest.1 rest.2
idle_core w c a stands (inr (inl e)) =
    let run = at_run a (sym (activity_by w Runs e) ∙ activity_for w c a stands) in
    idle_on (hardware_of w) a run.0 run.1
idle_core w c a stands (inr (inr e)) =
    let sleep = at_sleep a (sym (activity_by w Asleep e) ∙ activity_for w c a stands) in
    idle_asleep (hardware_of w) a sleep.0 sleep.1 sleep.2 sleep.3

pub busy_in : (inside : Inside) (w : World) → kept_world inside ≡ w → IsKept inside → IsBusyIn w
busy_in inside w is kept = subst IsBusyIn is (record { hibernates = λ e. (kept.busy e).1; resumes = λ e. (kept.loads e).1 })

pub is_up : (core : Core) → core ≡ Hibernating → IsUp core
is_up core e = subst IsUp (sym e) tt

-- Rows from a state that is known by what the world is at.

pub row_at_rest : (e : Event) (old new : World) (r : Reply) (c c' : disk.Content) → IsOff old → ((held : Held) (kept : Option Memory) → StandsFor old c (off held kept) → (b : State) × GoesOn e old new r c c' (off held kept) b) → Simulates e old new r c c'
row_at_rest e old new r c c' core goes a stands =
    let rest = at_rest a (sym (rests_by old core) ∙ activity_for old c a stands) in
    subst (λ (s : State). (b : State) × GoesOn e old new r c c' s b) (sym rest.2) (goes rest.0 rest.1 (subst (StandsFor old c) rest.2 stands))

pub row_at_run : (e : Event) (old new : World) (r : Reply) (c c' : disk.Content) → old.core ≡ Runs → ((a : Running) → StandsFor old c (on a) → (b : State) × GoesOn e old new r c c' (on a) b) → Simulates e old new r c c'
row_at_run e old new r c c' core goes a stands =
    let run = at_run a (sym (activity_by old Runs core) ∙ activity_for old c a stands) in
    subst (λ (s : State). (b : State) × GoesOn e old new r c c' s b) (sym run.1) (goes run.0 (subst (StandsFor old c) run.1 stands))

pub row_at_boot : (e : Event) (old new : World) (r : Reply) (c c' : disk.Content) (from : BootFrom) (k : ℕ) → activity_of old.core old.hib old.load old.waker ≡ boots from k → ((dump : Memory) (held : Held) → StandsFor old c (booting from dump held k) → (b : State) × GoesOn e old new r c c' (booting from dump held k) b) → Simulates e old new r c c'
row_at_boot e old new r c c' from k core goes a stands =
    let boot = at_boot a from k (sym core ∙ activity_for old c a stands) in
    subst (λ (s : State). (b : State) × GoesOn e old new r c c' s b) (sym boot.2) (goes boot.0 boot.1 (subst (StandsFor old c) boot.2 stands))

-- No task has an operation.
idle_without_flight : (h : Hardware) (a : State) (t : ℕ) → ((r : Running) → a ≡ on r → r.flights t ≡ None) → refusal h a (event.Step (actor.Task t)) ≡ Some reply.Idle
unfolding refusal
idle_without_flight h (off held kept) t none = refl
idle_without_flight h (on r) t none = ap (λ (f : Option Flight). refused_if (not (is_some f)) reply.Idle) (none r refl)
idle_without_flight h (booting from dump held k) t none = refl
idle_without_flight h (hibernating suspends i r k) t none = refl
idle_without_flight h (undoing i call r k) t none = refl
idle_without_flight h (settling r k) t none = refl
idle_without_flight h (waking i held r k) t none = refl
idle_without_flight h (loading load k) t none = refl
idle_without_flight h (asleep i held r) t none = refl

-- a machine that isn't at what it shows doesn't run
core_runs : (w : World) (core : Core) → IsBusyIn w → w.core ≡ core → activity_of core w.hib w.load w.waker ≡ runs → core ≡ Runs
core_runs w (Off keeps) busy e run = absurd (false≢true (ap is_run run))
core_runs w Runs busy e run = refl
core_runs w (BootBegun from) busy e run = absurd (false≢true (ap is_run run))
core_runs w (BootSynced from) busy e run = absurd (false≢true (ap is_run run))
core_runs w Hibernating busy e run = absurd (false≢true (sym (ap is_underway run) ∙ busy_underway w.hib.stage (busy.hibernates e)))
core_runs w Asleep busy e run = absurd (false≢true (ap is_run run))
core_runs w Waking busy e run = absurd (false≢true (ap is_run run))
core_runs w Loading busy e run = absurd (false≢true (sym (ap is_underway run) ∙ load_underway w.load.stage (busy.resumes e)))

pub runs_nowhere : (w : World) → IsBusyIn w → w.core ≢ Runs → (c : disk.Content) (a : State) → StandsFor w c a → activity_in a ≢ runs
runs_nowhere w busy no_run c a stands e = no_run (core_runs w w.core busy refl (activity_for w c a stands ∙ e))

-- a task has no step to make where the machine doesn't run
pub idle_elsewhere : (w : World) (c : disk.Content) (a : State) (t : ℕ) → IsBusyIn w → w.core ≢ Runs → StandsFor w c a → refusal (hardware_of w) a (event.Step (actor.Task t)) ≡ Some reply.Idle
idle_elsewhere w c a t busy no_run stands =
    idle_without_flight (hardware_of w) a t (λ r e. absurd (runs_nowhere w busy no_run c a stands (ap activity_in e)))

-- nor if the task has no operation
shows_none : (w : World) (c : disk.Content) (a : State) (t : ℕ) → is_some (flights_in w.machine.flights t) ≡ false → StandsFor w c a → (r : Running) → a ≡ on r → r.flights t ≡ None
shows_none w c a t none stands r e =
    (subst (Stands (hardware_of w) (shown w) c) e stands.stands).parts.memory.flights t ∙ none_flies (flights_in w.machine.flights t) none where
      none_flies : (o : Option Flight) → is_some o ≡ false → o ≡ None
      none_flies None e = refl
      none_flies (Some f) e = absurd (false≢true (sym e))

pub idle_without : (w : World) (c : disk.Content) (a : State) (t : ℕ) → is_some (flights_in w.machine.flights t) ≡ false → StandsFor w c a → refusal (hardware_of w) a (event.Step (actor.Task t)) ≡ Some reply.Idle
idle_without w c a t none stands = idle_without_flight (hardware_of w) a t (shows_none w c a t none stands)
