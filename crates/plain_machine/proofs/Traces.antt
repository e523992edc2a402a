-- The replies of a resume, one by one, by what is wrong at the end of each step.
use Rattle.std.proofs.Common.{◌≡◌, ◌≢◌, ℕ, ◌+◌, ◌<◌, ◌≤◌, zero, suc, List, [], ◌∷◌, length, get_or, Option, Some, None, slice_get, unwrap_or, refl, ap, ◌∙◌, arith}
use Rattle.std.proofs.lemmas.List.FromFn.{length-map-range_with_len, get_or-map-range_with_len}
use Rattle.definitions.specs.Disk as disk
use Rattle.plain_machine.specs.Machine.{Hardware, Memory}
use Rattle.plain_machine.specs.Trace.{trace, causes, replies_to, step_cause, step_count, last_reply, place_count, info_in}
use Rattle.plain_machine.specs.declared.event.Loader.{Loader}
use Rattle.plain_machine.specs.declared.event.IdentCheck.{IdentCheck}
use Rattle.plain_machine.specs.declared.reply.Reply.{Reply}
use Rattle.plain_machine.specs.declared.reply.Reply.TheVariants as reply

-- no cause before the one at i
abbrev pub NoneBefore : List (Option Reply) → ℕ → Type 0
NoneBefore cs i = (j : ℕ) → j < i → get_or cs j None ≡ None

tail_none : (c : Option Reply) (cs : List (Option Reply)) (i : ℕ) → NoneBefore (c ∷ cs) (suc i) → NoneBefore cs i
tail_none c cs i none = λ j lt. none (suc j) (omega arith)

-- a step before the last
replies_more : (last : Reply) (k : ℕ) (cs : List (Option Reply)) (i : ℕ) → NoneBefore cs i → i + 1 < length cs → slice_get (replies_to last k cs) i ≡ Some (unwrap_or (get_or cs i None) (reply.Loading (k + i)))
replies_more last k [] i none lt = absurd (omega arith)
replies_more last k (c ∷ []) i none lt = absurd (omega arith)
replies_more last k (Some cause ∷ next ∷ rest) zero none lt = refl
replies_more last k (None ∷ next ∷ rest) zero none lt = ap (λ (n : ℕ). Some (reply.Loading n)) (let e : k ≡ k + 0 = omega arith in e)
replies_more last k (Some cause ∷ next ∷ rest) (suc i) none lt = absurd (some_none (none 0 (omega arith))) where
  some_none : Some cause ≡ None → ⊥
  some_none e = cc
replies_more last k (None ∷ next ∷ rest) (suc i) none lt =
    replies_more last (k + 1) (next ∷ rest) i (tail_none None (next ∷ rest) i none) (omega arith)
    ∙ ap (λ (n : ℕ). Some (unwrap_or (get_or (next ∷ rest) i None) (reply.Loading n))) (let e : k + 1 + i ≡ k + suc i = omega arith in e)

-- the last step
replies_last : (last : Reply) (k : ℕ) (cs : List (Option Reply)) (i : ℕ) → NoneBefore cs i → i + 1 ≡ length cs → slice_get (replies_to last k cs) i ≡ Some (unwrap_or (get_or cs i None) last)
replies_last last k [] i none is = absurd (omega arith)
replies_last last k (Some cause ∷ []) zero none is = refl
replies_last last k (None ∷ []) zero none is = refl
replies_last last k (c ∷ []) (suc i) none is = absurd (omega arith)
replies_last last k (c ∷ next ∷ rest) zero none is = absurd (omega arith)
replies_last last k (Some cause ∷ next ∷ rest) (suc i) none is = absurd (some_none (none 0 (omega arith))) where
  some_none : Some cause ≡ None → ⊥
  some_none e = cc
replies_last last k (None ∷ next ∷ rest) (suc i) none is = replies_last last (k + 1) (next ∷ rest) i (tail_none None (next ∷ rest) i none) (omega arith)

pub replies_short : (last : Reply) (k : ℕ) (cs : List (Option Reply)) → length (replies_to last k cs) ≤ length cs
replies_short last k [] = omega arith
replies_short last k (Some cause ∷ rest) = omega arith
replies_short last k (None ∷ []) = omega arith
replies_short last k (None ∷ next ∷ rest) = let short = replies_short last (k + 1) (next ∷ rest) in omega arith

-- the replies end at a cause
pub replies_end : (last : Reply) (k : ℕ) (cs : List (Option Reply)) (i : ℕ) → get_or cs i None ≢ None → length (replies_to last k cs) ≤ i + 1
replies_end last k [] i there = omega arith
replies_end last k (Some cause ∷ rest) i there = omega arith
replies_end last k (None ∷ []) i there = omega arith
replies_end last k (None ∷ next ∷ rest) zero there = absurd (there refl)
replies_end last k (None ∷ next ∷ rest) (suc i) there = let short = replies_end last (k + 1) (next ∷ rest) i there in omega arith

-- The causes.

pub causes_count : (h : Hardware) (dump : Memory) (v : disk.DiskImage) (loader : Loader) (check : IdentCheck) → length (causes h dump v loader check) ≡ step_count h v
causes_count h dump v loader check = length-map-range_with_len (step_cause h dump v loader check) 0 (step_count h v)

pub causes_at : (h : Hardware) (dump : Memory) (v : disk.DiskImage) (loader : Loader) (check : IdentCheck) (k : ℕ) → k < step_count h v → get_or (causes h dump v loader check) k None ≡ step_cause h dump v loader check k
causes_at h dump v loader check k lt = get_or-map-range_with_len (step_cause h dump v loader check) 0 (step_count h v) k k None lt (let e : 0 + k ≡ k = omega arith in e)

-- The trace.

pub trace_more : (h : Hardware) (dump : Memory) (v : disk.DiskImage) (loader : Loader) (check : IdentCheck) (k : ℕ) → NoneBefore (causes h dump v loader check) k → k < 3 + place_count (info_in h v).pages →
    slice_get (trace h dump v loader check) k ≡ Some (unwrap_or (get_or (causes h dump v loader check) k None) (reply.Loading (k + 1)))
unfolding trace
trace_more h dump v loader check k none lt =
    let count = causes_count h dump v loader check in
    replies_more (last_reply h dump v loader) 1 (causes h dump v loader check) k none (omega arith)
    ∙ ap (λ (n : ℕ). Some (unwrap_or (get_or (causes h dump v loader check) k None) (reply.Loading n))) (let e : 1 + k ≡ k + 1 = omega arith in e)

pub trace_last : (h : Hardware) (dump : Memory) (v : disk.DiskImage) (loader : Loader) (check : IdentCheck) (k : ℕ) → NoneBefore (causes h dump v loader check) k → k ≡ 3 + place_count (info_in h v).pages →
    slice_get (trace h dump v loader check) k ≡ Some (unwrap_or (get_or (causes h dump v loader check) k None) (last_reply h dump v loader))
unfolding trace
trace_last h dump v loader check k none last =
    let count = causes_count h dump v loader check in
    replies_last (last_reply h dump v loader) 1 (causes h dump v loader check) k none (omega arith)
