-- After the last step of an operation no outcome is possible.
use Rattle.std.proofs.Common.{◌≡◌, ◌≤◌, ℕ, zero, suc, Bool, ltb, ◌||◌, [], ◌∷◌, None, refl, ap, ap₂, ◌∙◌, arith}
use Rattle.std.proofs.lemmas.Bool.{cond-false, le-ltb}
use Rattle.definitions.specs.Disk as disk
use Rattle.plain_machine.specs.Machine.{Hardware, Memory}
use Rattle.plain_machine.specs.Image.{Image, hibernate_steps, resume_steps}
use Rattle.plain_machine.specs.State.{Running, Held, Load, found_own}
use Rattle.plain_machine.specs.Calls.{boot_call, back_call}
use Rattle.plain_machine.specs.Step.{boot_step, hibernate_step, hibernation_outcomes, undo_step, settle_step, wake_step, load_step, load_fault, load_answers, has_place}
use Rattle.plain_machine.proofs.Calls.{call_none}
use Rattle.plain_machine.specs.declared.event.BootFrom.{BootFrom}
use Rattle.plain_machine.specs.declared.reply.UndoCall.{UndoCall}

pub boot_call-past : (k : ℕ) → 2 ≤ k → boot_call k ≡ None
boot_call-past zero le = absurd (omega arith)
boot_call-past (suc zero) le = absurd (omega arith)
boot_call-past (suc (suc k)) le = refl

pub back_call-past : (k : ℕ) → 3 ≤ k → back_call k ≡ None
back_call-past zero le = absurd (omega arith)
back_call-past (suc zero) le = absurd (omega arith)
back_call-past (suc (suc zero)) le = absurd (omega arith)
back_call-past (suc (suc (suc k))) le = refl

pub boot-past : (h : Hardware) (v : disk.DiskImage) (from : BootFrom) (dump : Memory) (held : Held) (k : ℕ) → 2 ≤ k → boot_step h v from dump held k ≡ []
boot-past h v from dump held zero le = absurd (omega arith)
boot-past h v from dump held (suc zero) le = absurd (omega arith)
boot-past h v from dump held (suc (suc k)) le = refl

pub undo-past : (i : Image) (call : UndoCall) (a : Running) (k : ℕ) → 2 ≤ k → undo_step i call a k ≡ []
undo-past i call a zero le = absurd (omega arith)
undo-past i call a (suc zero) le = absurd (omega arith)
undo-past i call a (suc (suc k)) le = refl

pub settle-past : (a : Running) (k : ℕ) → 3 ≤ k → settle_step a k ≡ []
settle-past a zero le = absurd (omega arith)
settle-past a (suc zero) le = absurd (omega arith)
settle-past a (suc (suc zero)) le = absurd (omega arith)
settle-past a (suc (suc (suc k))) le = refl

pub wake-past : (i : Image) (held : Held) (a : Running) (k : ℕ) → 3 ≤ k → wake_step i held a k ≡ []
wake-past i held a zero le = absurd (omega arith)
wake-past i held a (suc zero) le = absurd (omega arith)
wake-past i held a (suc (suc zero)) le = absurd (omega arith)
wake-past i held a (suc (suc (suc k))) le = refl

pub hibernate-past : (suspends : Bool) (i : Image) (a : Running) (k : ℕ) → hibernate_steps i ≤ k → hibernate_step suspends i a k ≡ []
hibernate-past suspends i a k le = ap (hibernation_outcomes suspends i a k) (call_none i k le)

-- of a resume of an own image too
pub load-past : (h : Hardware) (v : disk.DiskImage) (load : Load) (i : Image) (k : ℕ) → load.found ≡ found_own i → resume_steps i ≤ k → load_step h v load k ≡ []
load-past h v load i k own le =
    cond-false (ltb k 4 || has_place h load load.found k) (load_fault load k ∷ load_answers h v load k) []
    (ap₂ (λ (a b : Bool). a || b) (le-ltb k 4 (omega arith)) (ap (λ found. has_place h load found k) own ∙ le-ltb k (resume_steps i) le))
