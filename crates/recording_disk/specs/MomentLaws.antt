-- Laws of moments.
use Rattle.std.proofs.Common.{◌≡◌, ℕ, ◌+◌, ◌≤◌, List, [], ◌∷◌, ◌++◌, length, sym, ap, inl, inr, subst, arith}
use Rattle.std.proofs.lemmas.List.{take_all, take-append-le}
use Rattle.definitions.specs.Disk.{Content, DiskImage, IsImage, IsMixture}
use Rattle.sector_disk.specs.Recorded.{held_after}
use Rattle.sector_disk.specs.declared.recorded.Recorded.{Recorded}
use Rattle.recording_disk.specs.Moments.{held_at, WasLeft}

pub held_at-all : (start : DiskImage) (log : List Recorded) (k : ℕ) → length log ≤ k →
    held_at start log k ≡ held_after start log
held_at-all start log k le = ap (held_after start) (take_all k log le)

pub held_at-earlier : (start : DiskImage) (log : List Recorded) (r : Recorded) (k : ℕ) → k ≤ length log →
    held_at start (log ++ r ∷ []) k ≡ held_at start log k
held_at-earlier start log r k le = ap (held_after start) (take-append-le k log (r ∷ []) le)

IsMixture-image : (c : Content) (v : DiskImage) → IsImage c v → IsMixture c c v
IsMixture-image c v image =
    record { size = image.size; each = λ s lt. inl (image.chosen s (omega (arith, image.size))) }

pub IsImage-mixture : (c : Content) (v : DiskImage) → IsMixture c c v → IsImage c v
IsImage-mixture c v mixed =
    record {
      size = mixed.size;
      chosen = λ s lt. elim (mixed.each s (omega (arith, mixed.size))) [ inl h ↦ h | inr h ↦ h ];
    }

pub along : (c d e f : Content) (v : DiskImage) → c ≡ e → d ≡ f → IsMixture c d v → IsMixture e f v
along c d e f v p q mixed =
    subst (λ (x : Content). IsMixture e x v) q (subst (λ (x : Content). IsMixture x d v) p mixed)

-- what a cut now might leave, a cut since an earlier moment might have left
pub WasLeft-now : (start : DiskImage) (log : List Recorded) (t : ℕ) (v : DiskImage) → t ≤ length log →
    IsImage (held_after start log) v → WasLeft start log t v
WasLeft-now start log t v le image =
    let all : held_after start log ≡ held_at start log (length log) =
    sym (held_at-all start log (length log) (omega arith)) in
    let more : held_after start log ≡ held_at start log (length log + 1) =
    sym (held_at-all start log (length log + 1) (omega arith)) in (
      length log,
      le,
      omega arith,
      along (held_after start log) (held_after start log) (held_at start log (length log))
          (held_at start log (length log + 1)) v all more (IsMixture-image (held_after start log) v image),
    )

-- what a cut since the present moment might have left, a cut now might leave
pub WasLeft-only : (start : DiskImage) (log : List Recorded) (v : DiskImage) → WasLeft start log (length log) v →
    IsImage (held_after start log) v
WasLeft-only start log v (k, low, high, mixed) =
    IsImage-mixture (held_after start log) v
    (along (held_at start log k) (held_at start log (k + 1)) (held_after start log) (held_after start log) v
    (held_at-all start log k low) (held_at-all start log (k + 1) (omega arith)) mixed)
