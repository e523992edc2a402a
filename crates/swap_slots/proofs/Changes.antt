-- The free slots after one of them was added or removed, by the words that were written back.
use Rattle.std.proofs.Common.{◌≡◌, ℕ, ◌+◌, ◌-◌, ◌/◌, ◌^◌, ◌<◌, ◌≤◌, ◌↔◌, IsTrue, Bool, List, length, sym, ap, ◌∙◌, subst, arith}
use mir.Val.{bool_byte}
use Rattle.definitions.specs.Zones.{numbers}
use Rattle.definitions.specs.FreeRuns.{runs_of}
use Rattle.definitions.specs.FrameSets.{inserted, removed}
use Rattle.definitions.proofs.SlotRuns.{numbers-runs_of}
use Rattle.swap_slots.specs.Bits.{bit_of, IsClearWord, ChangesBit}
use Rattle.swap_slots.specs.Runs.{SlotRuns}
use Rattle.swap_slots.specs.Kept.{members_of, kept_slots, kept_runs, AreKept, IsKept}
use Rattle.swap_slots.specs.declared.runs.FreeRuns.TheInside.{Inside}
use Rattle.swap_slots.proofs.FreeBits.{few_members, members_of-set, members_of-clear, length-set, length-clear}
use Rattle.swap_slots.proofs.Keeping.{kept_set, kept_last, kept_clear}

-- Bit s of the words `now`, which are those of `r`, became v and gave `bits`; `was` says whether the bit was another.
pub record BitWritten (r : Inside) (s v : ℕ) (was : Bool) (now bits : List ℕ) : Type 0 where
  pub kept : IsKept r
  pub within : s < r.room
  pub is : now ≡ r.bits.items
  pub change : ChangesBit s v now bits
  pub size : length bits ≡ length now

changed : {r : Inside} {s v : ℕ} {was : Bool} {now bits : List ℕ} → BitWritten r s v was now bits → ChangesBit s v r.bits.items bits
changed {r} {s} {v} {was} {now} {bits} h = subst (λ words. ChangesBit s v words bits) h.is h.change

same_size : {r : Inside} {s v : ℕ} {was : Bool} {now bits : List ℕ} → BitWritten r s v was now bits → length bits ≡ length r.bits.items
same_size h = h.size ∙ ap length h.is

pub count_set : {r : Inside} {s : ℕ} {was : Bool} {now bits : List ℕ} → BitWritten r s 1 was now bits → IsTrue was ↔ (bit_of now s ≡ 0) → (r.count + bool_byte was ≡ length (members_of r.room bits)) × (r.count + bool_byte was < 2 ^ 32)
count_set {r} {s} {was} {now} {bits} h test =
    let counted = h.kept.counted in
    let size = h.kept.size in
    let more = length-set r.room r.bits.items bits s was h.within (changed h) (subst (λ words. IsTrue was ↔ (bit_of words s ≡ 0)) h.is test) in
    let few = few_members r.room bits in
    (omega arith, omega arith)

pub count_clear : {r : Inside} {s : ℕ} {was : Bool} {now bits : List ℕ} → BitWritten r s 0 was now bits → IsTrue was ↔ (bit_of now s ≡ 1) → (bool_byte was ≤ r.count) × (r.count - bool_byte was ≡ length (members_of r.room bits))
count_clear {r} {s} {was} {now} {bits} h test =
    let counted = h.kept.counted in
    let less = length-clear r.room r.bits.items bits s was h.within (changed h) (subst (λ words. IsTrue was ↔ (bit_of words s ≡ 1)) h.is test) in
    (omega arith, omega arith)

pub kept_after_set : {r : Inside} {s : ℕ} {was : Bool} {now bits : List ℕ} (above summary : List ℕ) → BitWritten r s 1 was now bits → IsTrue was ↔ (bit_of now s ≡ 0) → above ≡ r.summary.items → ChangesBit (s / 64) 1 above summary → length summary ≡ length above → AreKept r.room (r.count + bool_byte was) bits summary
kept_after_set {r} {s} {was} {now} {bits} above summary h test is change size =
    kept_set r.room r.count (r.count + bool_byte was) s r.bits.items bits r.summary.items summary h.kept h.within (changed h)
    (subst (λ words. ChangesBit (s / 64) 1 words summary) is change) (same_size h) (size ∙ ap length is) (count_set h test).0

pub kept_after_last : {r : Inside} {s : ℕ} {was : Bool} {now bits : List ℕ} (above summary : List ℕ) → BitWritten r s 0 was now bits → IsTrue was ↔ (bit_of now s ≡ 1) → IsClearWord bits (s / 64) → above ≡ r.summary.items → ChangesBit (s / 64) 0 above summary → length summary ≡ length above → AreKept r.room (r.count - bool_byte was) bits summary
kept_after_last {r} {s} {was} {now} {bits} above summary h test word is change size =
    kept_last r.room r.count (r.count - bool_byte was) s r.bits.items bits r.summary.items summary h.kept (changed h) word
    (subst (λ words. ChangesBit (s / 64) 0 words summary) is change) (same_size h) (size ∙ ap length is) (count_clear h test).1

pub kept_after_clear : {r : Inside} {s : ℕ} {was : Bool} {now bits : List ℕ} → BitWritten r s 0 was now bits → IsTrue was ↔ (bit_of now s ≡ 1) → (IsClearWord bits (s / 64) → ⊥) → AreKept r.room (r.count - bool_byte was) bits r.summary.items
kept_after_clear {r} {s} {was} {now} {bits} h test word =
    kept_clear r.room r.count (r.count - bool_byte was) s r.bits.items bits r.summary.items h.kept (changed h) word (same_size h) (count_clear h test).1

-- What a contract sees.

-- the members are the numbers of the runs that a contract sees
pub members_seen : (r : Inside) (seen : SlotRuns) → kept_runs r ≡ seen → kept_slots r ≡ numbers seen.runs
members_seen r seen e = sym (numbers-runs_of (kept_slots r)) ∙ ap (λ (s : SlotRuns). numbers s.runs) e

abbrev seen_as : ℕ → List ℕ → SlotRuns
seen_as room slots = record { room = room; runs = runs_of slots }

pub seen_after_set : {r : Inside} {s : ℕ} {was : Bool} {now bits : List ℕ} (seen : SlotRuns) → kept_runs r ≡ seen → BitWritten r s 1 was now bits → seen_as r.room (members_of r.room bits) ≡ record { room = seen.room; runs = runs_of (inserted (numbers seen.runs) s) }
seen_after_set {r} {s} {was} {now} {bits} seen e h =
    ap (seen_as r.room) (members_of-set r.room r.bits.items bits s h.within (changed h) ∙ ap (λ xs. inserted xs s) (members_seen r seen e))
    ∙ ap (λ n. seen_as n (inserted (numbers seen.runs) s)) (ap (λ (v : SlotRuns). v.room) e)

pub seen_after_clear : {r : Inside} {s : ℕ} {was : Bool} {now bits : List ℕ} (seen : SlotRuns) → kept_runs r ≡ seen → BitWritten r s 0 was now bits → seen_as r.room (members_of r.room bits) ≡ record { room = seen.room; runs = runs_of (removed (numbers seen.runs) s) }
seen_after_clear {r} {s} {was} {now} {bits} seen e h =
    ap (seen_as r.room) (members_of-clear r.room r.bits.items bits s (changed h) ∙ ap (λ xs. removed xs s) (members_seen r seen e))
    ∙ ap (λ n. seen_as n (removed (numbers seen.runs) s)) (ap (λ (v : SlotRuns). v.room) e)
