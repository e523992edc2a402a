-- What the rows of a resume say of the world that makes them.
use Rattle.std.proofs.Common.{◌≡◌, ◌≢◌, ℕ, Bool, true, false, [], Option, Some, None, Result, Ok, Err, refl, sym, ap, ◌∙◌, subst}
use Rattle.std.specs.List.{zip}
use Rattle.std.proofs.lemmas.Bool.{false≢true}
use Rattle.definitions.specs.Disk as disk
use Rattle.image_format.specs.declared.signature.area.Area.{Area}
use Rattle.plain_machine.specs.Machine.{Hardware, Memory}
use Rattle.plain_machine.specs.Shows.{WorldView, Activity, rests, runs, loads}
use Rattle.plain_machine.specs.State.{State, off, on, booting, hibernating, undoing, settling, waking, loading, asleep, Held, Load as Resume}
use Rattle.plain_machine.specs.Stands.{Stands}
use Rattle.plain_machine.specs.Refusals.{refusal, asks_dump_to_load}
use Rattle.plain_machine.specs.declared.event.Event.TheVariants as event
use Rattle.plain_machine.specs.declared.event.Actor.TheVariants as actor
use Rattle.plain_machine.specs.declared.event.Loader.{Loader}
use Rattle.plain_machine.specs.declared.event.Loader.TheVariants as loaders
use Rattle.plain_machine.specs.declared.event.IdentCheck.{IdentCheck}
use Rattle.plain_machine.specs.declared.no_swap.NoSwap.{NoSwap}
use Rattle.plain_machine.specs.declared.reply.Reply.{Reply}
use Rattle.plain_machine.specs.declared.reply.Reply.TheVariants as reply
use Rattle.protocol_laws.specs.Rows as rows
use Rattle.placement.specs.Waiting.{waiting_pages}
use Rattle.swap_slots.specs.Runs.{SlotRuns}
use Rattle.machine.specs.Running.{reason_of}
use Rattle.machine.specs.declared.machine.Machine.{Machine}
use Rattle.resume_core.specs.Loading as resumption
use Rattle.resume_core.specs.Ready.{IsBusy, is_busy_at, RunsOn, CanMake, CanStep}
use Rattle.resume_core.specs.Row as resume_row
use Rattle.resume_core.specs.declared.load.Load.{Load}
use Rattle.resume_core.specs.declared.load.Stage.{Stage}
use Rattle.resume_core.specs.declared.load.Stage.TheVariants as stage
use Rattle.world_core.specs.declared.world.Core.{Core}
use Rattle.world_core.specs.declared.world.Core.TheVariants.{Off, Running as Runs, BootBegun, BootSynced, Hibernating, Asleep, Waking, Loading}
use Rattle.world_core.specs.World.{World}
use Rattle.world_core.specs.Kept.{IsDown, IsUp}
use Rattle.world_core.specs.StandsFor.{StandsFor, IsOff, hardware_of, is_off, keeps_dump, shown, shown_at, core_at, core_loading}
use Rattle.world_core.specs.Row.{Simulates, SimulatesWhereTold, Restores}
use Rattle.world_core.proofs.Hibernating.{shown_in, then_off, then_running}
use Rattle.world_core.proofs.Rows.{row_at_rest}

-- What a resume is at.

abbrev is_of_resume : Activity → Bool
is_of_resume rests = true
is_of_resume runs = true
is_of_resume (loads k) = true
is_of_resume _ = false

of_resume : (s : Stage) → is_of_resume (resumption.activity_at s) ≡ true
of_resume stage.Rest = refl
of_resume stage.Runs = refl
of_resume stage.Sync = refl
of_resume stage.Find = refl
of_resume (stage.Back unmark mark) = refl
of_resume (stage.List chain) = refl
of_resume (stage.Read chain) = refl

never_at : {A : Type 0} (load : Load) (x : Activity) → is_of_resume x ≡ false → resumption.activity_of load ≡ x → A
never_at load x not_of e = absurd (false≢true (sym not_of ∙ sym (ap is_of_resume e) ∙ of_resume load.stage))

abbrev is_loading : Core → Bool
is_loading Loading = true
is_loading _ = false

abbrev is_running : Core → Bool
is_running Runs = true
is_running _ = false

abbrev is_hibernating : Core → Bool
is_hibernating Hibernating = true
is_hibernating _ = false

busy_at : (s : Stage) → core_at (resumption.activity_at s) ≡ Loading → is_busy_at s
busy_at stage.Rest e = absurd (false≢true (ap is_loading e))
busy_at stage.Runs e = absurd (false≢true (ap is_loading e))
busy_at stage.Sync e = tt
busy_at stage.Find e = tt
busy_at (stage.Back unmark mark) e = tt
busy_at (stage.List chain) e = tt
busy_at (stage.Read chain) e = tt

pub runs_at : (s : Stage) → core_at (resumption.activity_at s) ≡ Runs → s ≡ stage.Runs
runs_at stage.Rest e = absurd (false≢true (ap is_running e))
runs_at stage.Runs e = refl
runs_at stage.Sync e = absurd (false≢true (ap is_running e))
runs_at stage.Find e = absurd (false≢true (ap is_running e))
runs_at (stage.Back unmark mark) e = absurd (false≢true (ap is_running e))
runs_at (stage.List chain) e = absurd (false≢true (ap is_running e))
runs_at (stage.Read chain) e = absurd (false≢true (ap is_running e))

never_hibernates : (s : Stage) → core_at (resumption.activity_at s) ≡ Hibernating → ⊥
never_hibernates stage.Rest e = false≢true (ap is_hibernating e)
never_hibernates stage.Runs e = false≢true (ap is_hibernating e)
never_hibernates stage.Sync e = false≢true (ap is_hibernating e)
never_hibernates stage.Find e = false≢true (ap is_hibernating e)
never_hibernates (stage.Back unmark mark) e = false≢true (ap is_hibernating e)
never_hibernates (stage.List chain) e = false≢true (ap is_hibernating e)
never_hibernates (stage.Read chain) e = false≢true (ap is_hibernating e)

never_sleeps : (s : Stage) → IsDown (core_at (resumption.activity_at s)) → ⊥
never_sleeps stage.Rest down = down
never_sleeps stage.Runs down = down
never_sleeps stage.Sync down = down
never_sleeps stage.Find down = down
never_sleeps (stage.Back unmark mark) down = down
never_sleeps (stage.List chain) down = down
never_sleeps (stage.Read chain) down = down

-- a world after a step of its resume, by the reply
pub record IsAfter (load : Load) (r : Reply) (core : Core) : Type 0 where
  pub loader : Loader
  pub core_is : core ≡ core_loading (resumption.phase_of load)
  pub told : resumption.activity_of load ≡ resumption.activity_told loader r

-- what a resume is doing is what its activity says
core_of_stage : (s : Stage) → core_loading (resumption.phase_in (resumption.activity_at s)) ≡ core_at (resumption.activity_at s)
core_of_stage stage.Rest = refl
core_of_stage stage.Runs = refl
core_of_stage stage.Sync = refl
core_of_stage stage.Find = refl
core_of_stage (stage.Back unmark mark) = refl
core_of_stage (stage.List chain) = refl
core_of_stage (stage.Read chain) = refl

pub core_now : (load : Load) (r : Reply) (core : Core) → IsAfter load r core → core ≡ core_at (resumption.activity_of load)
core_now load r core is = is.core_is ∙ core_of_stage load.stage

at_rest : (loader : Loader) (r : Reply) → ((k : ℕ) → r ≢ reply.Loading k) → ((n : ℕ) → r ≢ reply.Resumed n) → resumption.activity_told loader r ≡ rests
at_rest loader (reply.Loading k) goes_on ends = absurd (goes_on k refl)
at_rest loader (reply.Resumed n) goes_on ends = absurd (ends n refl)
at_rest loader _ goes_on ends = refl

-- a resume that is refused or fails leaves the machine off
pub off_after : (load : Load) (r : Reply) (core : Core) → IsAfter load r core → ((k : ℕ) → r ≢ reply.Loading k) → ((n : ℕ) → r ≢ reply.Resumed n) → is_off core ≡ true
off_after load r core is goes_on ends = ap is_off (core_now load r core is ∙ ap core_at (is.told ∙ at_rest is.loader r goes_on ends))

pub busy_after : (load : Load) (r : Reply) (core : Core) → IsAfter load r core → core ≡ Loading → IsBusy load
busy_after load r core is e = busy_at load.stage (sym (core_now load r core is) ∙ e)

pub idle_after : {A : Type 0} (load : Load) (r : Reply) (core : Core) → IsAfter load r core → core ≡ Hibernating → A
idle_after load r core is e = absurd (never_hibernates load.stage (sym (core_now load r core is) ∙ e))

pub awake_after : {A : Type 0} (load : Load) (r : Reply) (core : Core) → IsAfter load r core → IsDown core → A
awake_after load r core is down = absurd (never_sleeps load.stage (subst IsDown (core_now load r core is) down))

-- what a machine has that runs after its resume
pub runs_after : (machine : Machine) (frames : Memory) (runs_of : SlotRuns) (load : Load) (r : Reply) (core : Core) → IsAfter load r core → CanStep machine frames runs_of load → IsUp core → RunsOn machine frames runs_of
runs_after machine frames runs_of load r (Off keeps) after can up = absurd up
runs_after machine frames runs_of load r Runs after can up = subst (λ (s : Stage). CanMake s machine frames runs_of load) (runs_at load.stage (sym (core_now load r Runs after))) can.next
runs_after machine frames runs_of load r (BootBegun from) after can up = absurd up
runs_after machine frames runs_of load r (BootSynced from) after can up = absurd up
runs_after machine frames runs_of load r Hibernating after can up = idle_after load r Hibernating after refl
runs_after machine frames runs_of load r Asleep after can up = awake_after load r Asleep after tt
runs_after machine frames runs_of load r Waking after can up = awake_after load r Waking after tt
runs_after machine frames runs_of load r Loading after can up = absurd up

-- What is shown.

reason_same : (area : Result Area NoSwap) → reason_of area ≡ reason_of area
reason_same (Ok area) = refl
reason_same (Err why) = refl

-- a resume as the world shows it
abbrev shown_loading : World → WorldView
shown_loading w = shown_in w (resumption.activity_of w.load) (resumption.header_at w.load.stage) [] (Some (w.load.loader, w.load.check)) (zip w.load.waiting.originals (waiting_pages w.frames w.load.waiting))

with_reason : World → Option NoSwap → WorldView
with_reason w why = record (shown_loading w) { unusable = why }

loading_is : (w : World) → resumption.shown_by w.machine w.frames w.load ≡ shown_loading w
unfolding with_reason
loading_is w = ap (with_reason w) (reason_same w.machine.area)

shown_at_load : (w : World) → w.core ≡ Loading → shown w ≡ shown_loading w
shown_at_load w e = ap (λ (core : Core). shown_at core w.machine w.frames w.hib w.load w.waker) e

resume_stands : (w : World) (c : disk.Content) (a : State) → w.core ≡ Loading → StandsFor w c a → resume_row.ResumeStandsFor w.machine w.frames w.load c a
resume_stands w c a core stands = record {
  stands = subst (λ (s : WorldView). Stands (hardware_of w) s c a) (shown_at_load w core ∙ sym (loading_is w)) stands.stands;
  resume = stands.resume;
}

as_shown : (w : World) (c : disk.Content) (a : State) → resume_row.ResumeStandsFor w.machine w.frames w.load c a → Stands (hardware_of w) (shown_loading w) c a
as_shown w c a stands = subst (λ (s : WorldView). Stands (hardware_of w) s c a) (loading_is w) stands.stands

still_loading : (w : World) (c : disk.Content) (load : Resume) (k : ℕ) → w.core ≡ Loading → resume_row.ResumeStandsFor w.machine w.frames w.load c (loading load k) → StandsFor w c (loading load k)
still_loading w c load k core stands = record {
  stands = subst (λ (s : WorldView). Stands (hardware_of w) s c (loading load k)) (sym (shown_at_load w core)) (as_shown w c (loading load k) stands);
  image = tt;
  resume = stands.resume;
}

-- what stands for a state after a step
standing : (machine : Machine) (frames : Memory) (load : Load) (r : Reply) (a : State) (c : disk.Content) (b : State) → resume_row.StandsAfter machine frames load r a c b → resume_row.ResumeStandsFor machine frames load c b
standing machine frames load r a c b after = record { stands = after.stands; resume = after.resume }

-- the states of a resume are those of the world that is at what it is at
world_stands : (w : World) (c : disk.Content) (b : State) → w.core ≡ core_at (resumption.activity_of w.load) → resume_row.ResumeStandsFor w.machine w.frames w.load c b → StandsFor w c b
world_stands w c (off held kept) core stands =
    then_off w c (resumption.activity_of w.load) (resumption.header_at w.load.stage) [] (Some (w.load.loader, w.load.check)) (zip w.load.waiting.originals (waiting_pages w.frames w.load.waiting)) held kept (core ∙ ap core_at stands.stands.activity) (as_shown w c (off held kept) stands)
world_stands w c (on a) core stands =
    then_running w c (resumption.activity_of w.load) (resumption.header_at w.load.stage) [] (Some (w.load.loader, w.load.check)) (zip w.load.waiting.originals (waiting_pages w.frames w.load.waiting)) a (core ∙ ap core_at stands.stands.activity) (as_shown w c (on a) stands)
world_stands w c (loading load k) core stands = still_loading w c load k (core ∙ ap core_at stands.stands.activity) stands
world_stands w c (booting from dump held k) core stands = never_at w.load _ refl stands.stands.activity
world_stands w c (hibernating suspends i a k) core stands = never_at w.load _ refl stands.stands.activity
world_stands w c (undoing i call a k) core stands = never_at w.load _ refl stands.stands.activity
world_stands w c (settling a k) core stands = never_at w.load _ refl stands.stands.activity
world_stands w c (waking i held a k) core stands = never_at w.load _ refl stands.stands.activity
world_stands w c (asleep i held a) core stands = never_at w.load _ refl stands.stands.activity

-- The rows.

pub refuses_table : (h : Hardware) (held : Held) (loader : Loader) (check : IdentCheck) → asks_dump_to_load loader ≡ true → refusal h (off held None) (event.Resume loader check) ≡ Some reply.NoDump
unfolding refusal
refuses_table h held (loaders.Ranges ranges) check asks = absurd (false≢true asks)
refuses_table h held loaders.Table check asks = refl

-- the loader's memory is the dump's, where it asks for one
loader_memory : (old : World) (frames : Memory) (loader : Loader) → frames ≡ old.frames → (asks_dump_to_load loader ≡ true → keeps_dump old.core ≡ true) → resume_row.HasLoaderMemory loader frames (shown old)
loader_memory old frames (loaders.Ranges ranges) same dump = tt
loader_memory old frames loaders.Table same dump = (dump refl, sym same)

pub row_of_begin : (old new : World) (frames : Memory) (loader : Loader) (check : IdentCheck) (r : Reply) (c : disk.Content) → IsOff old → IsAfter new.load r new.core → hardware_of new ≡ hardware_of old → frames ≡ old.frames → (asks_dump_to_load loader ≡ true → keeps_dump old.core ≡ true) →
    resume_row.BeginsRow new.machine frames new.frames new.load loader check r → Simulates (event.Resume loader check) old new r c c
row_of_begin old new frames loader check r c resting after hw same dump row =
    row_at_rest (event.Resume loader check) old new r c c resting
    (λ held kept stands.
    let led = row (shown old) c held kept (loader_memory old frames loader same dump) (subst (λ (h : Hardware). Stands h (shown old) c (off held kept)) (sym hw) stands.stands) in (
      led.0,
      subst (λ (h : Hardware). rows.StepsTo h (StandsFor new) (event.Resume loader check) r c c (off held kept) led.0) hw
          (record { step = led.1.step; stands = world_stands new c led.0 (core_now new.load r new.core after) (standing new.machine new.frames new.load r (off held kept) c led.0 led.1.stands); area = led.1.area; unwritten = led.1.unwritten; leaves = led.1.leaves; header = led.1.header }),
    ))

pub row_of_step : (old new : World) (r : Reply) (before now : Option disk.Content) → old.core ≡ Loading → IsAfter new.load r new.core →
    resume_row.SimulatesWhereTold old.machine old.frames old.load new.machine new.frames new.load (event.Step actor.Core) r before now → SimulatesWhereTold (event.Step actor.Core) old new r before now
row_of_step old new r before now core after row k is =
    let at = row k is in (
      at.0,
      at.1,
      λ a stands.
          let goes = at.2 a (resume_stands old k a core stands) in (
            goes.0,
            record { step = goes.1.step; stands = world_stands new at.0 goes.0 (core_now new.load r new.core after) (standing new.machine new.frames new.load r a at.0 goes.0 goes.1.stands); area = goes.1.area; unwritten = goes.1.unwritten; leaves = goes.1.leaves; header = goes.1.header },
          ),
    )

-- the memory and the area that a resume leaves
pub restores_at : (old new : World) (r : Reply) (before now : Option disk.Content) → old.core ≡ Loading →
    resume_row.SimulatesWhereTold old.machine old.frames old.load new.machine new.frames new.load (event.Step actor.Core) r before now → Restores (event.Step actor.Core) old new r before now
restores_at old new (reply.Resumed n) before now core row = λ c is load k stands.
    let at = row c is in
    let goes = at.2 (loading load k) (resume_stands old c (loading load k) core stands) in
    (at.0, at.1, (goes.0, goes.1.step, goes.1.stands.ended))
restores_at old new _ before now core row = tt
