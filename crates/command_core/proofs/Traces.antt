-- The trace of a resume counts its steps, ends with a reply after which no step is left, and is short.
use Rattle.std.proofs.Common.{◌≡◌, ◌≤◌, ◌⊎◌, ℕ, ◌+◌, inl, inr, zero, suc, Bool, true, false, cond, not, length, get_or, List, [], ◌∷◌, Option, Some, None, slice_get, refl, sym, ap, ◌∙◌, subst, arith, nat_eq}
use Rattle.std.specs.Cmp.Lexicographic.{pointwise}
use Rattle.std.proofs.lemmas.Bool.{cases_lt, false≢true}
use Rattle.std.proofs.lemmas.List.{get_or_past}
use Rattle.std.proofs.lemmas.Option.{same_Some, none-some}
use Rattle.definitions.specs.Disk as disk
use Rattle.definitions.specs.SwapHeader.{flags_of, sig_of, image_signature}
use Rattle.plain_machine.specs.Machine.{Hardware, Memory, valid_count}
use Rattle.plain_machine.specs.Chain.{header_of, or_else}
use Rattle.plain_machine.specs.Trace.{place_count, is_set, info_in, format_in, are_bad_counts, identity_cause, memory_cause, counts_cause, info_cause, cause_at, step_cause, step_count, causes, replies_to, header_cause, taken_back_cause, last_reply, trace}
use Rattle.plain_machine.specs.declared.event.Loader.TheVariants.{Table}
use Rattle.plain_machine.specs.declared.event.IdentCheck.{IdentCheck}
use Rattle.plain_machine.specs.declared.reply.Reply.{Reply}
use Rattle.plain_machine.specs.declared.reply.Reply.TheVariants as reply
use Rattle.plain_machine.proofs.Traces.{causes_count, causes_at}
use Rattle.protocol_laws.proofs.Stopping.{Stops, is_no_stop, stops_cause, stops_taken_back}
use Rattle.command_core.specs.Resumptions.{IsLast}
use Rattle.command_core.specs.Runs.{goes_on}

-- each reply but the last is Loading, with the numbers from k on
abbrev pub CountFrom : ℕ → List Reply → Type 0
CountFrom k [] = ⊥
CountFrom k (r ∷ []) = goes_on r ≡ false
CountFrom k (r ∷ s ∷ rest) = (r ≡ reply.Loading k) × CountFrom (k + 1) (s ∷ rest)

-- no step is left after a cause
abbrev Ends : Option Reply → Type 0
Ends None = Unit {0}
Ends (Some r) = goes_on r ≡ false

over : (r : Reply) → is_no_stop r ≡ false → goes_on r ≡ false
over (reply.Loading k) e = e
over (reply.More k of) e = e
over (reply.Undo call k) e = e
over r e = refl

stop_ends : (o : Option Reply) → Stops o → Ends o
stop_ends None stops = tt
stop_ends (Some r) stops = over r stops

counts_on : (k : ℕ) (rest : List Reply) → CountFrom (k + 1) rest → CountFrom k (reply.Loading k ∷ rest)
counts_on k [] counts = absurd counts
counts_on k (r ∷ rest) counts = (refl, counts)

replies_count : (last : Reply) (k : ℕ) (cs : List (Option Reply)) → goes_on last ≡ false → ((i : ℕ) → Ends (get_or cs i None)) → 1 ≤ length cs → CountFrom k (replies_to last k cs)
replies_count last k [] over ends some = absurd (omega arith)
replies_count last k (Some cause ∷ rest) over ends some = ends 0
replies_count last k (None ∷ []) over ends some = over
replies_count last k (None ∷ next ∷ rest) over ends some = counts_on k (replies_to last (k + 1) (next ∷ rest)) (replies_count last (k + 1) (next ∷ rest) over (λ i. ends (suc i)) (omega arith))

ends_either : (b : Bool) (o p : Option Reply) → Ends o → Ends p → Ends (cond b o p)
ends_either true o p first second = first
ends_either false o p first second = second

header_ends : (h : Hardware) (v : disk.DiskImage) → Ends (header_cause h v)
header_ends h v =
    let flags = flags_of (header_of h v) in
    let compressed = cond (not (is_set flags 2)) (Some (reply.Compressed flags)) None in
    ends_either (not (pointwise nat_eq (sig_of (header_of h v)) image_signature)) (Some reply.NoImage) compressed refl (ends_either (not (is_set flags 2)) (Some (reply.Compressed flags)) None refl tt)

cause_ends : (o : Option Reply) (r : Reply) → Ends o → o ≡ Some r → goes_on r ≡ false
cause_ends None r ends e = absurd (none-some r e)
cause_ends (Some x) r ends e = ap goes_on (sym (same_Some x r e)) ∙ ends

pub header_over : (h : Hardware) (v : disk.DiskImage) (r : Reply) → header_cause h v ≡ Some r → goes_on r ≡ false
header_over h v r cause = cause_ends (header_cause h v) r (header_ends h v) cause

back_ends : (h : Hardware) (v : disk.DiskImage) → Ends (taken_back_cause h v)
back_ends h v = stop_ends (taken_back_cause h v) (stops_taken_back h v)

cause_ends_at : (h : Hardware) (dump : Memory) (v : disk.DiskImage) (check : IdentCheck) (t : ℕ) → Ends (cause_at h dump v Table check t)
cause_ends_at h dump v check t =
    stop_ends (cause_at h dump v Table check t) (stops_cause h dump v Table check t)

step_ends : (h : Hardware) (dump : Memory) (v : disk.DiskImage) (check : IdentCheck) (k : ℕ) → Ends (step_cause h dump v Table check k)
step_ends h dump v check zero = tt
step_ends h dump v check (suc zero) = header_ends h v
step_ends h dump v check (suc (suc zero)) = tt
step_ends h dump v check (suc (suc (suc zero))) = back_ends h v
step_ends h dump v check (suc (suc (suc (suc t)))) = cause_ends_at h dump v check t

causes_end : (h : Hardware) (dump : Memory) (v : disk.DiskImage) (check : IdentCheck) (k : ℕ) → Ends (get_or (causes h dump v Table check) k None)
causes_end h dump v check k =
    let count = causes_count h dump v Table check in
    elim (cases_lt k (step_count h v)) [
      | inl lt ↦ subst (λ (o : Option Reply). Ends o) (sym (causes_at h dump v Table check k lt)) (step_ends h dump v check k)
      | inr past ↦ subst (λ (o : Option Reply). Ends o) (sym (get_or_past (causes h dump v Table check) k None (omega arith))) tt
    ]

pub trace_counts : (h : Hardware) (dump : Memory) (v : disk.DiskImage) (check : IdentCheck) → CountFrom 1 (trace h dump v Table check)
unfolding trace
trace_counts h dump v check =
    let count = causes_count h dump v Table check in
    replies_count (last_reply h dump v Table) 1 (causes h dump v Table check) refl (causes_end h dump v check) (omega arith)

last_more : (r s : Reply) (rest : List Reply) → IsLast rest s → IsLast (r ∷ rest) s
last_more r s rest (front, e) = (r ∷ front, ap (λ (xs : List Reply). r ∷ xs) e)

-- entry n is Loading, with its number, or the last
pub counted_at : (k n : ℕ) (rs : List Reply) (r : Reply) → CountFrom k rs → slice_get rs n ≡ Some r → (r ≡ reply.Loading (k + n)) ⊎ ((goes_on r ≡ false) × IsLast rs r)
counted_at k n [] r counts at = absurd counts
counted_at k zero (x ∷ []) r counts at =
    let is = same_Some x r at in
    inr (ap goes_on (sym is) ∙ counts, ([], ap (λ (y : Reply). y ∷ []) is))
counted_at k (suc n) (x ∷ []) r counts at = absurd (none-some r at)
counted_at k zero (x ∷ y ∷ rest) r counts at = inl (sym (same_Some x r at) ∙ counts.0 ∙ ap reply.Loading (let e : k ≡ k + 0 = omega arith in e))
counted_at k (suc n) (x ∷ y ∷ rest) r counts at = elim (counted_at (k + 1) n (y ∷ rest) r counts.1 at) [
  | inl is ↦ inl (is ∙ ap reply.Loading (let e : k + 1 + n ≡ k + suc n = omega arith in e))
  | inr last ↦ inr (last.0, last_more x r (y ∷ rest) last.1)
]
