-- What is known of a hibernation before a step, in the state that it stands for.
use Rattle.std.proofs.Common.{◌≡◌, ℕ, Bool, sym, ◌∙◌, subst, ◌+◌}
use Rattle.definitions.specs.Disk as disk
use Rattle.swap_slots.specs.Runs.{SlotRuns}
use Rattle.plain_machine.specs.Machine.{Hardware, Memory}
use Rattle.plain_machine.specs.Image.{Image}
use Rattle.plain_machine.specs.Shows.{hibernates, undoes, settles}
use Rattle.plain_machine.specs.State.{State, hibernating, undoing, settling, Running}
use Rattle.plain_machine.specs.declared.event.Event.{Event}
use Rattle.plain_machine.specs.declared.event.Event.TheVariants as event
use Rattle.plain_machine.specs.declared.event.Actor.TheVariants as actor
use Rattle.plain_machine.specs.declared.reply.Reply.{Reply}
use Rattle.plain_machine.specs.declared.reply.UndoCall.{UndoCall}
use Rattle.protocol_laws.specs.Rows as rows
use Rattle.protocol_laws.specs.Steps.{IsOverDisk}
use Rattle.machine.specs.declared.machine.Machine.{Machine}
use Rattle.hib_core.specs.Hibernation.{activity_of}
use Rattle.hib_core.specs.Ready.{CanStep, CanMake}
use Rattle.hib_core.specs.Row.{HibernationStandsFor, IsOf, IsStageOf, IsSavingOf, Simulates}
use Rattle.hib_core.specs.declared.hib.Hib.{Hib}
use Rattle.hib_core.specs.declared.hib.Saving.{Saving}
use Rattle.hib_core.specs.declared.hib.Stage.{Stage}
use Rattle.hib_core.proofs.Cases.{at_hibernation, at_undo, at_settling}

-- a row that leads to what is there in the end
pub row_of : (machine : Machine) (frames : Memory) (hib : Hib) (machine' : Machine) (frames' : Memory) (hib' end : Hib) (r told : Reply) (c c' : disk.Content) → end ≡ hib' → told ≡ r →
    Simulates machine frames hib machine' frames' hib' (event.Step actor.Core) r c c' → Simulates machine frames hib machine' frames' end (event.Step actor.Core) told c c'
row_of machine frames hib machine' frames' hib' end r told c c' same reply row =
    subst (λ (x : Hib). Simulates machine frames hib machine' frames' x (event.Step actor.Core) told c c') (sym same) (subst (λ (q : Reply). Simulates machine frames hib machine' frames' hib' (event.Step actor.Core) q c c') (sym reply) row)

-- and a row where the machine changes too
pub row_at : (machine : Machine) (frames : Memory) (hib : Hib) (machine' last : Machine) (frames' : Memory) (hib' end : Hib) (r told : Reply) (c c' : disk.Content) → last ≡ machine' → end ≡ hib' → told ≡ r →
    Simulates machine frames hib machine' frames' hib' (event.Step actor.Core) r c c' → Simulates machine frames hib last frames' end (event.Step actor.Core) told c c'
row_at machine frames hib machine' last frames' hib' end r told c c' kept same reply row =
    subst (λ (m : Machine). Simulates machine frames hib m frames' end (event.Step actor.Core) told c c') (sym kept) (row_of machine frames hib machine' frames' hib' end r told c c' same reply row)

pub is_over : (machine : Machine) (frames : Memory) (runs : SlotRuns) (hib : Hib) (c : disk.Content) (a : Running) (i : Image) → CanStep machine frames runs hib → disk.IsContent machine.blocks c → IsOf machine.hw frames hib a i → IsOverDisk machine.hw i machine.blocks c
is_over machine frames runs hib c a i can whole of = record {
  hardware = can.hardware;
  info = of.sayable.info;
  content = whole;
  few = can.few;
}

-- rows of a hibernation, and of an undo
pub row_at_hibernation : (machine : Machine) (frames : Memory) (hib : Hib) (machine' : Machine) (frames' : Memory) (hib' : Hib) (e : Event) (r : Reply) (c c' : disk.Content) (suspends : Bool) (k : ℕ) → activity_of hib ≡ hibernates suspends k →
    ((i : Image) (a : Running) → HibernationStandsFor machine frames hib c (hibernating suspends i a k) → (b : State) × rows.StepsTo machine.hw (HibernationStandsFor machine' frames' hib') e r c c' (hibernating suspends i a k) b) →
    Simulates machine frames hib machine' frames' hib' e r c c'
row_at_hibernation machine frames hib machine' frames' hib' e r c c' suspends k is goes s stands =
    let at = at_hibernation s suspends k (sym is ∙ stands.stands.activity) in
    subst (λ (t : State). (b : State) × rows.StepsTo machine.hw (HibernationStandsFor machine' frames' hib') e r c c' t b) (sym at.2)
    (goes at.0 at.1 (subst (HibernationStandsFor machine frames hib c) at.2 stands))

pub row_at_undo : (machine : Machine) (frames : Memory) (hib : Hib) (machine' : Machine) (frames' : Memory) (hib' : Hib) (e : Event) (r : Reply) (c c' : disk.Content) (call : UndoCall) (k : ℕ) → activity_of hib ≡ undoes call k →
    ((i : Image) (a : Running) → HibernationStandsFor machine frames hib c (undoing i call a k) → (b : State) × rows.StepsTo machine.hw (HibernationStandsFor machine' frames' hib') e r c c' (undoing i call a k) b) →
    Simulates machine frames hib machine' frames' hib' e r c c'
row_at_undo machine frames hib machine' frames' hib' e r c c' call k is goes s stands =
    let at = at_undo s call k (sym is ∙ stands.stands.activity) in
    subst (λ (t : State). (b : State) × rows.StepsTo machine.hw (HibernationStandsFor machine' frames' hib') e r c c' t b) (sym at.2)
    (goes at.0 at.1 (subst (HibernationStandsFor machine frames hib c) at.2 stands))

-- rows of a settling
pub row_at_settling : (machine : Machine) (frames : Memory) (hib : Hib) (machine' : Machine) (frames' : Memory) (hib' : Hib) (e : Event) (r : Reply) (c c' : disk.Content) (k : ℕ) → activity_of hib ≡ settles k →
    ((a : Running) → HibernationStandsFor machine frames hib c (settling a k) → (b : State) × rows.StepsTo machine.hw (HibernationStandsFor machine' frames' hib') e r c c' (settling a k) b) →
    Simulates machine frames hib machine' frames' hib' e r c c'
row_at_settling machine frames hib machine' frames' hib' e r c c' k is goes s stands =
    let at = at_settling s k (sym is ∙ stands.stands.activity) in
    subst (λ (t : State). (b : State) × rows.StepsTo machine.hw (HibernationStandsFor machine' frames' hib') e r c c' t b) (sym at.1)
    (goes at.0 (subst (HibernationStandsFor machine frames hib c) at.1 stands))

-- what is known at the step that is next, of the image and of what the step needs
pub numbers_at : (h : Hardware) (frames : Memory) (hib : Hib) (a : Running) (i : Image) (s : Stage) → hib.stage ≡ s → IsOf h frames hib a i → IsStageOf s h frames a i
numbers_at h frames hib a i s at of = subst (λ (t : Stage). IsStageOf t h frames a i) at of.numbers

pub next_at : (machine : Machine) (frames : Memory) (runs : SlotRuns) (hib : Hib) (s : Stage) → hib.stage ≡ s → CanStep machine frames runs hib → CanMake s machine.hw machine.blocks frames hib.snapshot
next_at machine frames runs hib s at can = subst (λ (t : Stage). CanMake t machine.hw machine.blocks frames hib.snapshot) at can.next

-- the image stays that of a hibernation whose next step has its numbers
pub still_of : (h : Hardware) (frames frames' : Memory) (hib : Hib) (a : Running) (i : Image) (next : Stage) → IsStageOf next h frames' a i → IsOf h frames hib a i → IsOf h frames' (record hib { stage = next }) a i
still_of h frames frames' hib a i next numbers of = record {
  sayable = of.sayable;
  format = of.format;
  origs = of.origs;
  zeros = of.zeros;
  apart = of.apart;
  numbers = numbers;
}

-- a step more of the same image
abbrev pub after_step : Saving → Saving
after_step saving = record saving { done = saving.done + 1 }

pub still_saving : (h : Hardware) (a : Running) (i : Image) (saving : Saving) → IsSavingOf h a i saving → IsSavingOf h a i (after_step saving)
still_saving h a i saving of = record { saved = of.saved; steps = of.steps; first = of.first }
