-- What a resume replies at a place, by the reader's causes and the loader's room.
use Rattle.std.proofs.Common.{◌≡◌, ◌≢◌, ◌<◌, ◌≤◌, inl, inr, ℕ, ◌+◌, ◌-◌, ◌*◌, ◌%◌, suc, zero, min, Bool, true, false, cond, eqb, Option, Some, None, unwrap_or, refl, sym, ap, ◌∙◌, subst, arith}
use Rattle.std.proofs.lemmas.Bool.{cond-true, cond-false, ne_eqb}
use Rattle.std.proofs.lemmas.Bool.Decides.{eqb_tells}
use Rattle.std.proofs.lemmas.Option.{none-some}
use Rattle.definitions.specs.Disk as disk
use Rattle.plain_machine.specs.Machine.{Hardware, Memory}
use Rattle.plain_machine.specs.Chain.{or_else}
use Rattle.plain_machine.specs.Trace.{info_in, meta_in, place, place_count, read_cause, want_cause, room_cause, next_cause, cause_with, cause_at, last_reply}
use Rattle.plain_machine.specs.declared.event.Loader.{Loader}
use Rattle.plain_machine.specs.declared.event.IdentCheck.{IdentCheck}
use Rattle.plain_machine.specs.declared.reply.Reply.{Reply}
use Rattle.plain_machine.specs.declared.reply.Reply.TheVariants as reply
use Rattle.image_read.specs.Stream.{pages_read, told, numbers_read}
use Rattle.image_read.proofs.Places.{at_map, at_page, read_at_page}
use Rattle.protocol_laws.specs.TraceAt.{reply_at, reply_past}
use Rattle.protocol_laws.proofs.TraceAt.{past_more, past_last}

-- The reply of a step from the fifth on.
pub late_reply : (h : Hardware) (dump : Memory) (v : disk.DiskImage) (loader : Loader) (check : IdentCheck) (k : ℕ) → 4 ≤ k →
    reply_at h dump v loader check k ≡ unwrap_or (cause_at h dump v loader check (k - 4)) (reply_past h dump v loader k)
late_reply h dump v loader check k le =
    let t = k - 4 in
    let is : suc (suc (suc (suc t))) ≡ k = omega arith in
    subst (λ (n : ℕ). reply_at h dump v loader check n ≡ unwrap_or (cause_at h dump v loader check t) (reply_past h dump v loader n)) is refl

first_none : (a b : Option Reply) → or_else a b ≡ None → a ≡ None
first_none None b e = refl
first_none (Some r) b e = absurd (none-some r (sym e))

second_none : (a b : Option Reply) → or_else a b ≡ None → b ≡ None
second_none None b e = e
second_none (Some r) b e = absurd (none-some r (sym e))

-- with room, what is wrong is what the reader says
with_room : (a w n : Option Reply) → w ≡ None → or_else a (or_else w n) ≡ or_else a n
with_room a w n e = ap (λ (x : Option Reply). or_else a (or_else x n)) e

-- the reply is the reader's cause, or else what comes past it
reader_reply : (h : Hardware) (dump : Memory) (v : disk.DiskImage) (loader : Loader) (check : IdentCheck) (k : ℕ) (o : Option Reply) → 4 ≤ k → cause_with h v check None (k - 4) ≡ o → want_cause h dump v loader (place (k - 4)) ≡ None →
    reply_at h dump v loader check k ≡ unwrap_or o (reply_past h dump v loader k)
reader_reply h dump v loader check k o le is room =
    let t = k - 4 in
    late_reply h dump v loader check k le
    ∙ ap (λ (x : Option Reply). unwrap_or x (reply_past h dump v loader k)) (with_room (read_cause h v check (place t)) (want_cause h dump v loader (place t)) (next_cause h v t) room ∙ is)

-- a step that goes on
pub goes_reply : (h : Hardware) (dump : Memory) (v : disk.DiskImage) (loader : Loader) (check : IdentCheck) (k : ℕ) → 4 ≤ k → cause_with h v check None (k - 4) ≡ None → want_cause h dump v loader (place (k - 4)) ≡ None → k - 4 + 1 < place_count (info_in h v).pages →
    reply_at h dump v loader check k ≡ reply.Loading (k + 1)
goes_reply h dump v loader check k le none room more = reader_reply h dump v loader check k None le none room ∙ past_more h dump v loader k (omega arith)

-- the last step
pub ends_reply : (h : Hardware) (dump : Memory) (v : disk.DiskImage) (loader : Loader) (check : IdentCheck) (k : ℕ) → 4 ≤ k → cause_with h v check None (k - 4) ≡ None → want_cause h dump v loader (place (k - 4)) ≡ None → place_count (info_in h v).pages ≤ k - 4 + 1 →
    reply_at h dump v loader check k ≡ last_reply h dump v loader
ends_reply h dump v loader check k le none room over = reader_reply h dump v loader check k None le none room ∙ past_last h dump v loader k (omega arith)

-- a step that the reader's cause ends
pub stops_reply : (h : Hardware) (dump : Memory) (v : disk.DiskImage) (loader : Loader) (check : IdentCheck) (k : ℕ) (r : Reply) → 4 ≤ k → cause_with h v check None (k - 4) ≡ Some r → want_cause h dump v loader (place (k - 4)) ≡ None → reply_at h dump v loader check k ≡ r
stops_reply h dump v loader check k r le some room = reader_reply h dump v loader check k (Some r) le some room

-- a step that the loader's room ends
pub room_reply : (h : Hardware) (dump : Memory) (v : disk.DiskImage) (loader : Loader) (check : IdentCheck) (k : ℕ) (r : Reply) → 4 ≤ k → read_cause h v check (place (k - 4)) ≡ None → want_cause h dump v loader (place (k - 4)) ≡ Some r → reply_at h dump v loader check k ≡ r
room_reply h dump v loader check k r le none few =
    let t = k - 4 in
    late_reply h dump v loader check k le
    ∙ ap (λ (o : Option Reply). unwrap_or (or_else o (or_else (want_cause h dump v loader (place t)) (next_cause h v t))) (reply_past h dump v loader k)) none
    ∙ ap (λ (o : Option Reply). unwrap_or (or_else o (next_cause h v t)) (reply_past h dump v loader k)) few

pub no_read_cause : (h : Hardware) (v : disk.DiskImage) (check : IdentCheck) (t : ℕ) → cause_with h v check None t ≡ None → read_cause h v check (place t) ≡ None
no_read_cause h v check t none = first_none (read_cause h v check (place t)) (next_cause h v t) none

-- Where the room is tested.

all_of : (b : Bool) (n : ℕ) → cond b (Some n) None ≡ Some n → b ≡ true
all_of true n e = refl
all_of false n e = absurd (none-some n e)

more_of : (b : Bool) (n : ℕ) → cond b (Some n) None ≡ None → b ≡ false
more_of true n e = absurd (none-some n (sym e))
more_of false n e = refl

-- how many numbers were read, once all pages before are known
pub all_read : (h : Hardware) (v : disk.DiskImage) (j : ℕ) → told h v j ≡ Some (info_in h v).image_pages → (1 ≤ j) × ((info_in h v).image_pages ≤ 512 * (j - 1))
all_read h v zero e = absurd (none-some (info_in h v).image_pages e)
all_read h v (suc j) e = elim (eqb_tells (min (info_in h v).image_pages (512 * (suc j - 1))) (info_in h v).image_pages) [
  | inl t ↦ (let is = t.1 in (omega arith, omega arith))
  | inr f ↦ absurd (none-some (info_in h v).image_pages (sym (cond-false (eqb (numbers_read h v (suc j)) (info_in h v).image_pages) (Some (info_in h v).image_pages) None f.0) ∙ e))
]

pub more_to_read : (h : Hardware) (v : disk.DiskImage) (j : ℕ) → 1 ≤ j → told h v j ≡ None → 512 * (j - 1) < (info_in h v).image_pages
more_to_read h v zero le e = absurd (omega arith)
more_to_read h v (suc j) le e = elim (eqb_tells (min (info_in h v).image_pages (512 * (suc j - 1))) (info_in h v).image_pages) [
  | inl t ↦ absurd (none-some (info_in h v).image_pages (sym e ∙ cond-true (eqb (numbers_read h v (suc j)) (info_in h v).image_pages) (Some (info_in h v).image_pages) None t.0))
  | inr f ↦ (let ne = f.1 in omega arith)
]

no_want_at : (h : Hardware) (dump : Memory) (v : disk.DiskImage) (loader : Loader) (t : ℕ) → ((t % 512 ≡ 0 → ⊥) → pages_read t ≢ meta_in h v) → want_cause h dump v loader (place t) ≡ None
no_want_at h dump v loader t apart = elim (eqb_tells (t % 512) 0) [
  | inl is ↦ ap (want_cause h dump v loader) (at_map t is.1)
  | inr is ↦ ap (want_cause h dump v loader) (at_page t is.1) ∙ cond-false (eqb (pages_read t) (meta_in h v)) (room_cause h dump v loader) None (ne_eqb (pages_read t) (meta_in h v) (apart is.1))
]

-- not after the last number page,
pub no_want_after : (h : Hardware) (dump : Memory) (v : disk.DiskImage) (loader : Loader) (t : ℕ) → told h v (pages_read t) ≡ Some (info_in h v).image_pages → want_cause h dump v loader (place t) ≡ None
no_want_after h dump v loader t e =
    let all = all_read h v (pages_read t) e in
    let some = all.0 in
    let least = all.1 in
    let n = (info_in h v).image_pages in
    no_want_at h dump v loader t (λ page same. omega arith)

-- and not before the last number page
pub no_want_before : (h : Hardware) (dump : Memory) (v : disk.DiskImage) (loader : Loader) (t : ℕ) → told h v (pages_read (t + 1)) ≡ None → want_cause h dump v loader (place t) ≡ None
no_want_before h dump v loader t e = no_want_at h dump v loader t (λ page same.
    let next = read_at_page t page in
    let more = more_to_read h v (pages_read (t + 1)) (omega arith) e in
    let n = (info_in h v).image_pages in
    absurd (omega arith))
