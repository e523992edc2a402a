-- The trace of a resume that has no cause to stop.
use Rattle.std.proofs.Common.{◌≡◌, ℕ, ◌+◌, ◌<◌, zero, suc, List, [], ◌∷◌, ◌++◌, length, get_or, map, Option, Some, None, ap, ◌∙◌, refl, arith}
use Rattle.std.specs.List.{range_with_len}
use Rattle.definitions.specs.Disk.{DiskImage}
use Rattle.plain_machine.specs.Machine.{Hardware, Memory}
use Rattle.plain_machine.specs.Trace.{causes, info_in, last_reply, place_count, replies_to, step_cause, trace}
use Rattle.plain_machine.specs.declared.event.IdentCheck.{IdentCheck}
use Rattle.plain_machine.specs.declared.event.Loader.TheVariants as loader
use Rattle.plain_machine.specs.declared.reply.Reply.{Reply}
use Rattle.plain_machine.specs.declared.reply.Reply.TheVariants as reply
use Rattle.plain_machine.proofs.Traces.{causes_at, causes_count}
use Rattle.image_walk.specs.declared.limits.Limits.{Limits}
use Rattle.image_machine.specs.Resumable.{IsIdentified, IsResumed}
use Rattle.image_machine.proofs.Causes.{no_cause_at, no_header_cause, no_taken_back_cause}
use Rattle.image_machine.proofs.Prepared.{IsPrepared}

never_none : (cause : Reply) → Some cause ≡ None → ⊥
never_none cause e = cc

-- without a cause each reply but the last is Loading
all_loading : (last : Reply) (k : ℕ) (cs : List (Option Reply)) (n : ℕ) → length cs ≡ n + 1 → ((i : ℕ) → i < length cs → get_or cs i None ≡ None) →
    replies_to last k cs ≡ map reply.Loading (range_with_len k n) ++ last ∷ []
all_loading last k [] n size none = absurd (omega arith)
all_loading last k (Some cause ∷ cs) n size none = absurd (never_none cause (none 0 (omega arith)))
all_loading last k (None ∷ []) zero size none = refl
all_loading last k (None ∷ []) (suc n) size none = absurd (omega arith)
all_loading last k (None ∷ next ∷ rest) zero size none = absurd (omega arith)
all_loading last k (None ∷ next ∷ rest) (suc n) size none =
    ap (λ (rs : List Reply). reply.Loading k ∷ rs) (all_loading last (k + 1) (next ∷ rest) n (omega arith) (λ i lt. none (suc i) (omega arith)))

module _ (h : Hardware) (m : Memory) (v : DiskImage) (l : Limits) (is : IsPrepared h m v l) (check : IdentCheck) (ident : IsIdentified h v check) where
  no_step_cause : (k : ℕ) → step_cause h m v loader.Table check k ≡ None
  no_step_cause zero = refl
  no_step_cause (suc zero) = no_header_cause h m v l is
  no_step_cause (suc (suc zero)) = refl
  no_step_cause (suc (suc (suc zero))) = no_taken_back_cause h m v l is
  no_step_cause (suc (suc (suc (suc t)))) = no_cause_at h m v l is check t ident

  no_causes : (i : ℕ) → i < length (causes h m v loader.Table check) → get_or (causes h m v loader.Table check) i None ≡ None
  no_causes i lt =
      let size = causes_count h m v loader.Table check in
      causes_at h m v loader.Table check i (omega arith) ∙ no_step_cause i

  pub resumed : IsResumed h m v check
  unfolding trace
  resumed =
      let size = causes_count h m v loader.Table check in
      all_loading (last_reply h m v loader.Table) 1 (causes h m v loader.Table check) (3 + place_count (info_in h v).pages) (omega arith) no_causes
