-- A step leaves fewer steps than there were.
use Rattle.std.proofs.Common.{◌≡◌, ◌<◌, ◌≤◌, ℕ, refl, sym, ap, ◌∙◌, subst, arith}
use Rattle.plain_machine.specs.declared.reply.Reply.{Reply}
use Rattle.plain_machine.specs.declared.reply.Reply.TheVariants as reply
use Rattle.hib_core.specs.Hibernation as hibernation
use Rattle.hib_core.specs.declared.phase.Phase.{Phase}
use Rattle.hib_core.specs.declared.phase.Phase.TheVariants as phase
use Rattle.hib_core.specs.StepsLeft.{saving_steps_left}
use Rattle.hib_core.specs.declared.hib.Hib.{Hib}
use Rattle.resume_core.specs.Loading as resumption
use Rattle.resume_core.specs.StepsLeft.{loading_steps_left, loading_steps_left_at}
use Rattle.resume_core.specs.declared.load.Load.{Load}
use Rattle.resume_core.specs.declared.load.Stage.{Stage}
use Rattle.resume_core.specs.declared.load.Stage.TheVariants as stage
use Rattle.hib_core.specs.Waking.{waking_steps_left}
use Rattle.hib_core.specs.declared.waking.waker.Waker.{Waker}
use Rattle.world_core.specs.declared.world.Core.{Core}
use Rattle.world_core.specs.StandsFor.{core_at, core_in, core_told, core_woken}
use Rattle.world_core.specs.StepsLeft.{steps_left, steps_left_in}
use Rattle.world_core.specs.World.{World}
use Rattle.world_core.proofs.Resuming.{IsAfter, core_now}

-- from a world at this
pub fewer_from : (n : ℕ) (old : World) (core : Core) → old.core ≡ core → n < steps_left_in core old.hib old.load old.waker → n < steps_left old
fewer_from n old core is less = subst (λ (k : Core). n < steps_left_in k old.hib old.load old.waker) (sym is) less

-- of a hibernation or a settling
in_phase : (phase : Phase) (hib : Hib) (load : Load) (waker : Waker) → steps_left_in (core_in phase) hib load waker ≤ saving_steps_left hib
in_phase phase.UnderWay hib load waker = omega arith
in_phase phase.Runs hib load waker = omega arith
in_phase phase.Off hib load waker = omega arith
in_phase phase.Asleep hib load waker = omega arith

pub saving_fewer : (r : Reply) (core : Core) (n : ℕ) (hib : Hib) (load : Load) (waker : Waker) → core ≡ core_told r → saving_steps_left hib < n → steps_left_in core hib load waker < n
saving_fewer r core n hib load waker is less =
    let le = in_phase (hibernation.phase_told r) hib load waker in
    let same = ap (λ (k : Core). steps_left_in k hib load waker) is in
    omega arith

-- of a waking
pub waking_fewer : (r : Reply) (n : ℕ) (hib : Hib) (load : Load) (waker : Waker) → waking_steps_left waker < n → steps_left_in (core_woken r) hib load waker < n
waking_fewer (reply.More k of) n hib load waker less = less
waking_fewer reply.Woken n hib load waker less = omega arith
waking_fewer _ n hib load waker less = omega arith

-- of a resume
left_at : (s : Stage) (hib : Hib) (load : Load) (waker : Waker) → load.stage ≡ s → steps_left_in (core_at (resumption.activity_at s)) hib load waker ≡ loading_steps_left_at s
left_at stage.Rest hib load waker at = refl
left_at stage.Runs hib load waker at = refl
left_at stage.Sync hib load waker at = ap loading_steps_left_at at
left_at stage.Find hib load waker at = ap loading_steps_left_at at
left_at (stage.Back unmark mark) hib load waker at = ap loading_steps_left_at at
left_at (stage.List chain) hib load waker at = ap loading_steps_left_at at
left_at (stage.Read chain) hib load waker at = ap loading_steps_left_at at

pub loading_left : (r : Reply) (core : Core) (hib : Hib) (load : Load) (waker : Waker) → IsAfter load r core → steps_left_in core hib load waker ≡ loading_steps_left load
loading_left r core hib load waker after = ap (λ (k : Core). steps_left_in k hib load waker) (core_now load r core after) ∙ left_at load.stage hib load waker refl
