-- What a resume replies, for an image that the machine made and for another's.
use Rattle.std.proofs.Common.{◌≡◌, ◌≢◌, ◌<◌, ◌≤◌, ◌⊎◌, ℕ, ◌+◌, inl, inr, zero, suc, ltb, Bool, true, false, cond, not, Option, Some, None, slice_get, unwrap_or, refl, sym, ap, ◌∙◌, subst, arith, nat_eq}
use Rattle.std.specs.Cmp.Lexicographic.{pointwise, same_text, other_text}
use Rattle.std.proofs.lemmas.Bool.{cases_Bool, cases_lt, false≢true}
use Rattle.std.proofs.lemmas.Option.{same_Some, none-some}
use Rattle.definitions.specs.Disk as disk
use Rattle.definitions.specs.NumberPages.{meta_of}
use Rattle.definitions.specs.SwapHeader.{flags_of, sig_of, image_signature}
use Rattle.plain_machine.specs.Machine.{Hardware, Memory}
use Rattle.plain_machine.specs.Chain.{header_of, Marked}
use Rattle.plain_machine.specs.Image.{Image, n_of, d_of, resume_steps}
use Rattle.plain_machine.specs.State.{Load}
use Rattle.plain_machine.specs.Step.{has_room}
use Rattle.plain_machine.specs.Trace.{trace, is_set, info_in, place_count, header_cause, cause_at, step_count, tables_cause, restored_in, last_reply}
use Rattle.plain_machine.specs.declared.event.Loader.{Loader}
use Rattle.plain_machine.specs.declared.event.Loader.TheVariants.{Ranges, Table}
use Rattle.plain_machine.specs.declared.event.Ranges.{Ranges as RangeList}
use Rattle.plain_machine.specs.declared.event.IdentCheck.{IdentCheck}
use Rattle.plain_machine.specs.declared.reply.Reply.{Reply}
use Rattle.plain_machine.specs.declared.reply.Reply.TheVariants as reply
use Rattle.protocol_laws.specs.LoadRows.{HaveGoneOn, IsStop, GoneOnEarly, GoneOnNext}
use Rattle.protocol_laws.specs.OwnTrace.{own_reply, Comes}
use Rattle.protocol_laws.specs.TraceAt.{reply_past, reply_at}
use Rattle.protocol_laws.proofs.OwnCauses.{IsOwnDisk}
use Rattle.protocol_laws.proofs.Stopping.{Stops, is_no_stop, stops_cause, stops_tables, none_passed}
use Rattle.protocol_laws.proofs.TraceAt.{past_more, first_reply, passed, traces_at}
use Rattle.protocol_laws.proofs.Tracing.{count_is, own_few, few_reply, traces_own}

-- Which reply is which.

abbrev kind : Reply → ℕ
kind (reply.Loading k) = 1
kind (reply.Resumed n) = 2
kind (reply.Compressed flags) = 3
kind reply.NoImage = 4
kind r = 0

-- two replies of different kinds
pub differ : {P : Type 0} (r s : Reply) → r ≡ s → kind r ≢ kind s → P
differ r s e apart = absurd (apart (ap kind e))

-- What has gone on.

pub gone_early : GoneOnEarly
gone_early h load v k few header zero some lt = absurd (omega arith)
gone_early h load v k few header (suc zero) some lt =
    ap (λ (o : Option Reply). unwrap_or o (reply_past h load.dump v load.loader 1)) header ∙ past_more h load.dump v load.loader 1 (omega arith)
gone_early h load v k few header (suc (suc zero)) some lt = past_more h load.dump v load.loader 2 (omega arith)
gone_early h load v k few header (suc (suc (suc j))) some lt = absurd (omega arith)

pub gone_next : GoneOnNext
gone_next h load v k gone here j some lt = elim (cases_lt j k) [
  | inl before ↦ gone j some before
  | inr le ↦ (let is : k ≡ j = omega arith in subst (λ (x : ℕ). reply_at h load.dump v load.loader load.check x ≡ reply.Loading (x + 1)) is here)
]

gone_from_first : (h : Hardware) (load : Load) (v : disk.DiskImage) (k : ℕ) → HaveGoneOn h load v k → (j : ℕ) → j < k → reply_at h load.dump v load.loader load.check j ≡ reply.Loading (j + 1)
gone_from_first h load v k gone zero lt = first_reply h load.dump v load.loader load.check
gone_from_first h load v k gone (suc j) lt = gone (suc j) (omega arith) lt

pub no_header : (h : Hardware) (load : Load) (v : disk.DiskImage) (k : ℕ) → 2 ≤ k → HaveGoneOn h load v k → header_cause h v ≡ None
no_header h load v k some gone = passed h load.dump v load.loader load.check 1 (gone 1 (omega arith) (omega arith))

pub traced_at : (h : Hardware) (load : Load) (v : disk.DiskImage) (k : ℕ) (r : Reply) → k < 4 + place_count (info_in h v).pages → HaveGoneOn h load v k → reply_at h load.dump v load.loader load.check k ≡ r →
    slice_get (trace h load.dump v load.loader load.check) k ≡ Some r
traced_at h load v k r within gone says = traces_at h load.dump v load.loader load.check k within (gone_from_first h load v k gone) ∙ ap Some says

-- An own image.

pub own_within : (h : Hardware) (v : disk.DiskImage) (i : Image) (k : ℕ) → IsOwnDisk h v i → k < 4 + place_count (info_in h v).pages → k < resume_steps i
own_within h v i k is within = (let count = count_is h v i is in omega arith)

within_own : (h : Hardware) (v : disk.DiskImage) (i : Image) (k : ℕ) → IsOwnDisk h v i → k < resume_steps i → k < 4 + place_count (info_in h v).pages
within_own h v i k is lt = (let count = count_is h v i is in omega arith)

-- where it goes on past the last number page the loader has room
comes : (h : Hardware) (v : disk.DiskImage) (i : Image) (load : Load) (k : ℕ) → IsOwnDisk h v i → HaveGoneOn h load v k → k < resume_steps i → Comes h load i k
comes h v i load k is gone lt = elim (cases_Bool (has_room h load (d_of i))) [
  | inl room ↦ inr room
  | inr none ↦ elim (cases_lt (5 + meta_of (n_of i)) k) [
    | inl late ↦
        let j = 5 + meta_of (n_of i) in
        let own = traces_own h v i load j is.hardware is.holds is.own (omega arith) (omega arith) (inl (omega arith)) in
        let any = traced_at h load v j (reply.Loading (j + 1)) (within_own h v i j is (omega arith)) (λ m some m_lt. gone m some (omega arith)) (gone j (omega arith) late) in
        differ (few_reply h load i) (reply.Loading (j + 1)) (sym (own_few h load i j (omega arith) none) ∙ same_Some (own_reply h load i j) (reply.Loading (j + 1)) (sym own ∙ any)) (λ e. absurd (omega arith))
    | inr early ↦ inl (omega arith)
  ]
]

pub own_answers : (h : Hardware) (v : disk.DiskImage) (i : Image) (load : Load) (k : ℕ) (r : Reply) → IsOwnDisk h v i → HaveGoneOn h load v k → 1 ≤ k → k < 4 + place_count (info_in h v).pages → reply_at h load.dump v load.loader load.check k ≡ r → own_reply h load i k ≡ r
own_answers h v i load k r is gone some within says =
    let lt = own_within h v i k is within in
    let own = traces_own h v i load k is.hardware is.holds is.own some lt (comes h v i load k is gone lt) in
    same_Some (own_reply h load i k) r (sym own ∙ traced_at h load v k r within gone says)

-- What block(0) says.

abbrev signed : Hardware → disk.DiskImage → Bool
signed h v = pointwise nat_eq (sig_of (header_of h v)) image_signature

abbrev compressed : Hardware → disk.DiskImage → Option Reply
compressed h v = cond (not (is_set (flags_of (header_of h v)) 2)) (Some (reply.Compressed (flags_of (header_of h v)))) None

header_by : (h : Hardware) (v : disk.DiskImage) → ((header_cause h v ≡ Some reply.NoImage) × (Marked h v → ⊥)) ⊎ ((header_cause h v ≡ compressed h v) × Marked h v)
header_by h v = by_test (signed h v) refl where
  by_test : (b : Bool) → signed h v ≡ b → ((header_cause h v ≡ Some reply.NoImage) × (Marked h v → ⊥)) ⊎ ((header_cause h v ≡ compressed h v) × Marked h v)
  by_test true e = inr (ap (λ (b : Bool). cond (not b) (Some reply.NoImage) (compressed h v)) e, same_text (sig_of (header_of h v)) image_signature (sym e))
  by_test false e = inl (ap (λ (b : Bool). cond (not b) (Some reply.NoImage) (compressed h v)) e, other_text (sig_of (header_of h v)) image_signature (sym e))

not_no_image : (b : Bool) (flags : ℕ) → cond b (Some (reply.Compressed flags)) None ≡ Some reply.NoImage → ⊥
not_no_image true flags e = differ (reply.Compressed flags) reply.NoImage (same_Some (reply.Compressed flags) reply.NoImage e) (λ x. absurd (omega arith))
not_no_image false flags e = none-some reply.NoImage e

pub no_mark : (h : Hardware) (v : disk.DiskImage) → header_cause h v ≡ Some reply.NoImage → Marked h v → ⊥
no_mark h v none = elim (header_by h v) [
  | inl is ↦ is.1
  | inr is ↦ absurd (not_no_image (not (is_set (flags_of (header_of h v)) 2)) (flags_of (header_of h v)) (sym is.0 ∙ none))
]

pub a_mark : (h : Hardware) (v : disk.DiskImage) (o : Option Reply) → header_cause h v ≡ o → (o ≡ Some reply.NoImage → ⊥) → Marked h v
a_mark h v o says other = elim (header_by h v) [
  | inl is ↦ absurd (other (sym says ∙ is.0))
  | inr is ↦ is.1
]

-- Replies that end a resume.

pub stop_kind : (r : Reply) → is_no_stop r ≡ false → IsStop r
stop_kind (reply.Loading k) e = absurd (false≢true (sym e))
stop_kind (reply.Resumed n) e = absurd (false≢true (sym e))
stop_kind r e = tt

pub cause_stops : (o : Option Reply) (r : Reply) → Stops o → o ≡ Some r → is_no_stop r ≡ false
cause_stops None r stops e = absurd (none-some r e)
cause_stops (Some x) r stops e = ap is_no_stop (sym (same_Some x r e)) ∙ stops

-- a reply of a later step that stops it is a cause
stop_by_cause : (o : Option Reply) (past r : Reply) → Stops o → (past ≡ r → IsStop r → is_no_stop r ≡ false) → unwrap_or o past ≡ r → IsStop r → is_no_stop r ≡ false
stop_by_cause None past r stops behind e stop = behind e stop
stop_by_cause (Some x) past r stops behind e stop = ap is_no_stop (sym e) ∙ stops

last_stop : (h : Hardware) (dump : Memory) (v : disk.DiskImage) (loader : Loader) (r : Reply) → last_reply h dump v loader ≡ r → IsStop r → is_no_stop r ≡ false
last_stop h dump v (Ranges ranges) r e stop =
    stop_by_cause (tables_cause h v (restored_in h dump v (Ranges ranges))) (reply.Resumed (info_in h v).image_pages) r (stops_tables h v (restored_in h dump v (Ranges ranges)))
    (λ is s. absurd (subst IsStop (sym is) s)) e stop
last_stop h dump v Table r e stop = absurd (subst IsStop (sym e) stop)

past_stop : (h : Hardware) (dump : Memory) (v : disk.DiskImage) (loader : Loader) (k : ℕ) (b : Bool) (r : Reply) → cond b (reply.Loading (k + 1)) (last_reply h dump v loader) ≡ r → IsStop r → is_no_stop r ≡ false
past_stop h dump v loader k true r e stop = absurd (subst IsStop (sym e) stop)
past_stop h dump v loader k false r e stop = last_stop h dump v loader r e stop

pub stop_late : (h : Hardware) (dump : Memory) (v : disk.DiskImage) (loader : Loader) (check : IdentCheck) (k : ℕ) (r : Reply) → 4 ≤ k → reply_at h dump v loader check k ≡ r → IsStop r → is_no_stop r ≡ false
stop_late h dump v loader check zero r late e stop = absurd (omega arith)
stop_late h dump v loader check (suc zero) r late e stop = absurd (omega arith)
stop_late h dump v loader check (suc (suc zero)) r late e stop = absurd (omega arith)
stop_late h dump v loader check (suc (suc (suc zero))) r late e stop = absurd (omega arith)
stop_late h dump v loader check (suc (suc (suc (suc t)))) r late e stop =
    let k = suc (suc (suc (suc t))) in
    stop_by_cause (cause_at h dump v loader check t) (reply_past h dump v loader k) r (stops_cause h dump v loader check t)
    (past_stop h dump v loader k (ltb (k + 1) (step_count h v)) r) e stop

-- A resume that ends well: the restored tables fit.

last_resumed : (h : Hardware) (dump : Memory) (v : disk.DiskImage) (ranges : RangeList) (n : ℕ) → last_reply h dump v (Ranges ranges) ≡ reply.Resumed n → tables_cause h v (restored_in h dump v (Ranges ranges)) ≡ None
last_resumed h dump v ranges n e =
    none_passed (tables_cause h v (restored_in h dump v (Ranges ranges))) (reply.Resumed (info_in h v).image_pages) (reply.Resumed n) (stops_tables h v (restored_in h dump v (Ranges ranges))) refl e

past_resumed : (h : Hardware) (dump : Memory) (v : disk.DiskImage) (ranges : RangeList) (k n : ℕ) (b : Bool) → cond b (reply.Loading (k + 1)) (last_reply h dump v (Ranges ranges)) ≡ reply.Resumed n → tables_cause h v (restored_in h dump v (Ranges ranges)) ≡ None
past_resumed h dump v ranges k n true e = differ (reply.Loading (k + 1)) (reply.Resumed n) e (λ x. absurd (omega arith))
past_resumed h dump v ranges k n false e = last_resumed h dump v ranges n e

pub tables_fit : (h : Hardware) (dump : Memory) (v : disk.DiskImage) (ranges : RangeList) (check : IdentCheck) (k n : ℕ) → 4 ≤ k → reply_at h dump v (Ranges ranges) check k ≡ reply.Resumed n → tables_cause h v (restored_in h dump v (Ranges ranges)) ≡ None
tables_fit h dump v ranges check zero n late e = absurd (omega arith)
tables_fit h dump v ranges check (suc zero) n late e = absurd (omega arith)
tables_fit h dump v ranges check (suc (suc zero)) n late e = absurd (omega arith)
tables_fit h dump v ranges check (suc (suc (suc zero))) n late e = absurd (omega arith)
tables_fit h dump v ranges check (suc (suc (suc (suc t)))) n late e =
    let k = suc (suc (suc (suc t))) in
    let cause = cause_at h dump v (Ranges ranges) check t in
    let past = reply_past h dump v (Ranges ranges) k in
    let none = none_passed cause past (reply.Resumed n) (stops_cause h dump v (Ranges ranges) check t) refl e in
    past_resumed h dump v ranges k n (ltb (k + 1) (step_count h v)) (ap (λ (o : Option Reply). unwrap_or o past) (sym none) ∙ e)
