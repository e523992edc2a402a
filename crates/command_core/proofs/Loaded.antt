-- The steps of a resume, from its event to its last reply.
use Rattle.std.proofs.Common.{◌≡◌, ◌≢◌, ◌⊎◌, inl, inr, ◌≤◌, ℕ, zero, suc, nat_eq, Bool, true, false, cond, not, [], Option, Some, None, slice_get, unwrap_or, refl, sym, ap, ◌∙◌, subst, arith, Contains}
use Rattle.std.specs.Cmp.Lexicographic.{pointwise}
use Rattle.std.proofs.lemmas.Bool.{false≢true}
use Rattle.std.proofs.lemmas.Option.{same_Some}
use Rattle.definitions.specs.Disk as disk
use Rattle.definitions.specs.SwapHeader.{flags_of, sig_of, image_signature}
use Rattle.plain_machine.specs.Chain.{Marked, header_of}
use Rattle.plain_machine.specs.Machine.{Hardware, Memory, block_of_slot}
use Rattle.plain_machine.specs.Shows.{WorldView}
use Rattle.plain_machine.specs.Stands.{EachImage, Stands}
use Rattle.plain_machine.specs.Calls.{load_call}
use Rattle.plain_machine.specs.State.{State, off, loading, nothing}
use Rattle.plain_machine.specs.Trace.{header_cause, is_set, restored_in}
use Rattle.plain_machine.specs.declared.event.Actor.TheVariants as actor
use Rattle.plain_machine.specs.declared.event.Event.TheVariants as event
use Rattle.plain_machine.specs.declared.event.IdentCheck.{IdentCheck}
use Rattle.plain_machine.specs.declared.event.Loader.TheVariants.{Table}
use Rattle.plain_machine.specs.declared.reply.Reply.{Reply}
use Rattle.plain_machine.specs.declared.reply.Reply.TheVariants as reply
use Rattle.plain_machine.specs.Refusals.{refusal}
use Rattle.plain_machine.specs.Step.{Step, outcomes}
use Rattle.protocol_laws.proofs.WrittenWhileHeld.{header_of_load}
use Rattle.protocol_laws.specs.Rows.{LeavesBlock, blocks_written, TellsNewFault}
use Rattle.command_core.specs.Runs.{goes_on, held_at_first}
use Rattle.command_core.specs.Hibernations.{EndsInFault}
use Rattle.command_core.specs.Resumptions.{IsLast, MayLeaveMark, HasResumed}
use Rattle.command_core.specs.Points.{Point, IsTurn, AreSteps, HasGone}
use Rattle.command_core.specs.declared.ending.Ended.{Ended}
use Rattle.command_core.proofs.Begun.{IsUntouched, untouched_then, reads_first}
use Rattle.command_core.proofs.Booting.{one_outcome}
use Rattle.command_core.proofs.Leaving.{leaves_then}
use Rattle.plain_machine.specs.declared.reply.Left.TheVariants.{Same, Gone, Unsure}
use Rattle.command_core.proofs.Resuming.{IsAt, HasGoneOn, LeavesOff, FaultLeaves, begun, found, state_at, trace_of, step_more, first_entry, second_entry}
use Rattle.command_core.proofs.Saved.{exactly, faults_stop}
use Rattle.command_core.proofs.Traces.{counted_at, trace_counts, header_over}

-- The event.

pub resume_begins : (h : Hardware) (m : Memory) (check : IdentCheck) (v w : disk.DiskImage) (r : Reply) (b : State) → Step h w (off (held_at_first h v) (Some m)) (event.Resume Table check) r b → (r ≡ reply.Loading 0) × (b ≡ loading (begun h m check v) 0)
unfolding outcomes refusal
resume_begins h m check v w r b step = one_outcome (reply.Loading 0) r (loading (begun h m check v) 0) b step

pub begins_at : (h : Hardware) (m : Memory) (check : IdentCheck) (v : disk.DiskImage) (r : Reply) (b : State) (failed : Bool) → r ≡ reply.Loading 0 → b ≡ loading (begun h m check v) 0 → IsAt h m check v 0 r b failed
begins_at h m check v r b failed reply state = subst (λ (x : Reply). IsAt h m check v 0 x b failed) (sym reply) (state, tt)

-- The steps.

pub goes_state : (h : Hardware) (m : Memory) (check : IdentCheck) (v : disk.DiskImage) (n : ℕ) (r : Reply) (b : State) (failed : Bool) → IsAt h m check v n r b failed → goes_on r ≡ true → (b ≡ state_at h m check v n) × HasGoneOn h m check v n
goes_state h m check v n (reply.Loading k) b failed at goes = at
goes_state h m check v n (reply.More k of) b failed at goes = absurd at
goes_state h m check v n (reply.Undo call k) b failed at goes = absurd at
goes_state h m check v n _ b failed at goes = absurd (false≢true goes)

none_in : (b : ℕ) → Contains [] b → ⊥
none_in b (k, lt, e) = omega arith

pub early_writes : (h : Hardware) (m : Memory) (check : IdentCheck) (v : disk.DiskImage) (n : ℕ) (s : State) → n ≤ 1 → s ≡ state_at h m check v n → (b : ℕ) → Contains (blocks_written h s) b → ⊥
early_writes h m check v zero s few is b in' = none_in b (subst (λ (x : State). Contains (blocks_written h x) b) is in')
early_writes h m check v (suc zero) s few is b in' = none_in b (subst (λ (x : State). Contains (blocks_written h x) b) is in')
early_writes h m check v (suc (suc n)) s few is b in' = absurd (omega arith)

pub header_alone : (h : Hardware) (m : Memory) (check : IdentCheck) (v : disk.DiskImage) (n : ℕ) (s : State) → s ≡ state_at h m check v n → (b : ℕ) → b ≢ block_of_slot h 0 → Contains (blocks_written h s) b → ⊥
header_alone h m check v zero s is b other in' = early_writes h m check v 0 s (omega arith) is b in'
header_alone h m check v (suc zero) s is b other in' = early_writes h m check v 1 s (omega arith) is b in'
header_alone h m check v (suc (suc n)) s is b other in' = other (header_of_load h b (load_call (suc (suc n))) (subst (λ (x : State). Contains (blocks_written h x) b) is in'))

-- after n steps
pub record IsAfter (h : Hardware) (m : Memory) (check : IdentCheck) (v : disk.DiskImage) (n : ℕ) (p : Point) : Type 0 where
  pub at : IsAt h m check v n p.reply p.state p.failed
  pub blocks : ℕ
  pub whole : disk.IsContent blocks p.content
  pub early : n ≤ 2 → IsUntouched v p
  pub unwritten : (b : ℕ) → b ≢ block_of_slot h 0 → LeavesBlock b (disk.settled v) p.content

after_none : (h : Hardware) (m : Memory) (check : IdentCheck) (v : disk.DiskImage) (p : Point) → IsUntouched v p → IsAt h m check v 0 p.reply p.state p.failed → IsAfter h m check v 0 p
after_none h m check v p is at = record { at = at; blocks = is.blocks; whole = is.whole; early = λ few. is; unwritten = λ b other. is.unwritten b }

after_more : (h : Hardware) (m : Memory) (check : IdentCheck) (v : disk.DiskImage) (blocks n : ℕ) (p q : Point) → disk.IsContent blocks (disk.settled v) → IsAfter h m check v n p → goes_on p.reply ≡ true → IsTurn h (event.Step actor.Core) p q → IsAfter h m check v (suc n) q
after_more h m check v blocks n p q whole is goes turn =
    let state = goes_state h m check v n p.reply p.state p.failed is.at goes in
    record {
      at = step_more h m check v (disk.as_it_reads p.content) n p.reply q.reply p.state q.state p.failed q.failed is.at goes
          (λ one. reads_first blocks v p whole (is.early (omega arith))) turn.step turn.noticed;
      blocks = turn.blocks;
      whole = turn.whole;
      early = λ few. untouched_then h (event.Step actor.Core) v p q (is.early (omega arith)) turn (early_writes h m check v n p.state (omega arith) state.0);
      unwritten = λ b other. leaves_then is.blocks b (disk.settled v) p.content q.content is.whole (is.unwritten b other) (turn.unwritten b (header_alone h m check v n p.state state.0 b other));
    }

pub after_steps : (h : Hardware) (m : Memory) (check : IdentCheck) (v : disk.DiskImage) (blocks n : ℕ) (start end : Point) → disk.IsContent blocks (disk.settled v) → IsUntouched v start → IsAt h m check v 0 start.reply start.state start.failed → AreSteps h n start end → IsAfter h m check v n end
after_steps h m check v blocks zero start end whole is at are = subst (IsAfter h m check v 0) (sym are) (after_none h m check v start is at)
after_steps h m check v blocks (suc n) start end whole is at (mid, are, goes, turn) = after_more h m check v blocks n mid end whole (after_steps h m check v blocks n start mid whole is at are) goes turn

-- The steps of a resume are few.

-- where the header block is refused there are two at most
second_is : (h : Hardware) (m : Memory) (check : IdentCheck) (v : disk.DiskImage) (r : Reply) → header_cause h v ≡ Some r → slice_get (trace_of h m check v) 1 ≡ Some r
second_is h m check v r cause = second_entry h m check v ∙ ap (λ (o : Option Reply). Some (unwrap_or o (reply.Loading 2))) cause

refused_early : (h : Hardware) (m : Memory) (check : IdentCheck) (v : disk.DiskImage) (r : Reply) (n : ℕ) → header_cause h v ≡ Some r → n ≤ 2 → HasGoneOn h m check v n → n ≤ 1
refused_early h m check v r zero cause few gone = omega arith
refused_early h m check v r (suc zero) cause few gone = omega arith
refused_early h m check v r (suc (suc zero)) cause few gone =
    let is : r ≡ reply.Loading 2 = same_Some r (reply.Loading 2) (sym (second_is h m check v r cause) ∙ gone) in
    absurd (false≢true (sym (header_over h v r cause) ∙ ap goes_on is))
refused_early h m check v r (suc (suc (suc n))) cause few gone = absurd (omega arith)

pub two_steps : (h : Hardware) (m : Memory) (check : IdentCheck) (v : disk.DiskImage) (r : Reply) (blocks n : ℕ) (start end : Point) → header_cause h v ≡ Some r → disk.IsContent blocks (disk.settled v) → IsUntouched v start → IsAt h m check v 0 start.reply start.state start.failed → AreSteps h n start end → n ≤ 2
two_steps h m check v r blocks zero start end cause whole is at are = omega arith
two_steps h m check v r blocks (suc n) start end cause whole is at (mid, are, goes, turn) =
    let there = after_steps h m check v blocks n start mid whole is at are in
    let before = two_steps h m check v r blocks n start mid cause whole is at are in
    let few = refused_early h m check v r n cause before (goes_state h m check v n mid.reply mid.state mid.failed there.at goes).1 in
    omega arith

-- The end.

abbrev EndsAs : Hardware → Memory → IdentCheck → disk.DiskImage → Reply → State → Bool → Type 0
EndsAs h m check v r b failed = (EndsInFault r × (failed ≡ true) × FaultLeaves r b) ⊎ (IsLast (trace_of h m check v) r × LeavesOff r b)

last_at : (h : Hardware) (m : Memory) (check : IdentCheck) (v : disk.DiskImage) (n : ℕ) (r : Reply) → goes_on r ≡ false → slice_get (trace_of h m check v) n ≡ Some r → IsLast (trace_of h m check v) r
last_at h m check v n r over says = elim (counted_at 1 n (trace_of h m check v) r (trace_counts h m v check) says) [
  | inl is ↦ absurd (false≢true (sym over ∙ ap goes_on is))
  | inr last ↦ last.1
]

entry_ends : (h : Hardware) (m : Memory) (check : IdentCheck) (v : disk.DiskImage) (n : ℕ) (r : Reply) (b : State) (failed : Bool) → goes_on r ≡ false → (EndsInFault r × (failed ≡ true) × FaultLeaves r b) ⊎ ((slice_get (trace_of h m check v) n ≡ Some r) × LeavesOff r b) → EndsAs h m check v r b failed
entry_ends h m check v n r b failed over (inl fault) = inl fault
entry_ends h m check v n r b failed over (inr is) = inr (last_at h m check v n r over is.0, is.1)

ends_at : (h : Hardware) (m : Memory) (check : IdentCheck) (v : disk.DiskImage) (n : ℕ) (r : Reply) (b : State) (failed : Bool) → IsAt h m check v n r b failed → goes_on r ≡ false → EndsAs h m check v r b failed
ends_at h m check v n (reply.Loading k) b failed at over = absurd (false≢true (sym over))
ends_at h m check v n (reply.More k of) b failed at over = absurd at
ends_at h m check v n (reply.Undo call k) b failed at over = absurd at
ends_at h m check v zero _ b failed at over = absurd at
ends_at h m check v (suc n) r b failed at over = entry_ends h m check v n r b failed over at

-- Restored.

abbrev is_resumed : Reply → Bool
is_resumed (reply.Resumed n) = true
is_resumed _ = false

header_kind : (b c : Bool) (flags : ℕ) → is_resumed (unwrap_or (cond b (Some reply.NoImage) (cond c (Some (reply.Compressed flags)) None)) (reply.Loading 2)) ≡ false
header_kind true c flags = refl
header_kind false true flags = refl
header_kind false false flags = refl

second_kind : (h : Hardware) (v : disk.DiskImage) → is_resumed (unwrap_or (header_cause h v) (reply.Loading 2)) ≡ false
second_kind h v = header_kind (not (pointwise nat_eq (sig_of (header_of h v)) image_signature)) (not (is_set (flags_of (header_of h v)) 2)) (flags_of (header_of h v))

entry_of : (h : Hardware) (m : Memory) (check : IdentCheck) (v : disk.DiskImage) (n saved : ℕ) (b : State) (failed : Bool) → IsAt h m check v (suc n) (reply.Resumed saved) b failed → slice_get (trace_of h m check v) n ≡ Some (reply.Resumed saved)
entry_of h m check v n saved b failed (inl fault) = absurd fault.0
entry_of h m check v n saved b failed (inr is) = is.0

restored_turn : (h : Hardware) (m : Memory) (check : IdentCheck) (v : disk.DiskImage) (n saved : ℕ) (p q : Point) → p.state ≡ state_at h m check v n → IsAt h m check v (suc n) q.reply q.state q.failed → q.reply ≡ reply.Resumed saved → IsTurn h (event.Step actor.Core) p q → q.frames ≡ restored_in h m v Table
restored_turn h m check v zero saved p q state at is turn =
    let says = entry_of h m check v 0 saved q.state q.failed (subst (λ (r : Reply). IsAt h m check v 1 r q.state q.failed) is at) in
    let same : reply.Loading 1 ≡ reply.Resumed saved = same_Some (reply.Loading 1) (reply.Resumed saved) (sym (first_entry h m check v) ∙ says) in
    absurd (false≢true (ap is_resumed same))
restored_turn h m check v (suc zero) saved p q state at is turn =
    let says = entry_of h m check v 1 saved q.state q.failed (subst (λ (r : Reply). IsAt h m check v 2 r q.state q.failed) is at) in
    let second = unwrap_or (header_cause h v) (reply.Loading 2) in
    let same : second ≡ reply.Resumed saved = same_Some second (reply.Resumed saved) (sym (second_entry h m check v) ∙ says) in
    absurd (false≢true (sym (second_kind h v) ∙ ap is_resumed same))
restored_turn h m check v (suc (suc n)) saved p q state at is turn = turn.restored (found h m check v) (suc (suc n)) saved refl state is

restored_last : (h : Hardware) (m : Memory) (check : IdentCheck) (v : disk.DiskImage) (blocks n saved : ℕ) (start end : Point) → disk.IsContent blocks (disk.settled v) → IsUntouched v start → IsAt h m check v 0 start.reply start.state start.failed → AreSteps h n start end → end.reply ≡ reply.Resumed saved → end.frames ≡ restored_in h m v Table
restored_last h m check v blocks zero saved start end whole is at are resumed =
    absurd (subst (λ (r : Reply). IsAt h m check v 0 r start.state start.failed) (ap (λ (p : Point). p.reply) (sym are) ∙ resumed) at)
restored_last h m check v blocks (suc n) saved start end whole is at (mid, are, goes, turn) resumed =
    let there = after_steps h m check v blocks n start mid whole is at are in
    let here = after_more h m check v blocks n mid end whole there goes turn in
    restored_turn h m check v n saved mid end (goes_state h m check v n mid.reply mid.state mid.failed there.at goes).0 here.at resumed turn

-- What is left on the disk.

fault_leaves : (r : Reply) (b : State) → EndsInFault r → FaultLeaves r b → MayLeaveMark r ⊎ (b ≡ off nothing None)
fault_leaves (reply.ReadFault Same) b is leaves = inl tt
fault_leaves (reply.ReadFault Gone) b is leaves = inr leaves
fault_leaves (reply.ReadFault Unsure) b is leaves = inl tt
fault_leaves (reply.WriteFault Same) b is leaves = inl tt
fault_leaves (reply.WriteFault Gone) b is leaves = inr leaves
fault_leaves (reply.WriteFault Unsure) b is leaves = inl tt
fault_leaves (reply.SyncFault Same) b is leaves = inl tt
fault_leaves (reply.SyncFault Gone) b is leaves = inr leaves
fault_leaves (reply.SyncFault Unsure) b is leaves = inl tt
fault_leaves _ b is leaves = absurd is

off_or_left : (r : Reply) (b : State) → LeavesOff r b → MayLeaveMark r ⊎ (b ≡ off nothing None)
off_or_left (reply.Compressed flags) b is = inl tt
off_or_left r b is = inr is

unmarked_off : (h : Hardware) (shown : WorldView) (c : disk.Content) (b : State) → Stands h shown c b → b ≡ off nothing None → EachImage c (λ w. Marked h w → ⊥)
unmarked_off h shown c b stands is = (subst (Stands h shown c) is stands).parts.held

unmarked_or_left : (h : Hardware) (shown : WorldView) (c : disk.Content) (r : Reply) (b : State) → Stands h shown c b → MayLeaveMark r ⊎ (b ≡ off nothing None) → MayLeaveMark r ⊎ EachImage c (λ w. Marked h w → ⊥)
unmarked_or_left h shown c r b stands (inl left) = inl left
unmarked_or_left h shown c r b stands (inr off') = inr (unmarked_off h shown c b stands off')

gone_at : (h : Hardware) (m : Memory) (check : IdentCheck) (v : disk.DiskImage) (shown : WorldView) (c : disk.Content) (r : Reply) (b : State) (failed : Bool) → Stands h shown c b → EndsAs h m check v r b failed → MayLeaveMark r ⊎ EachImage c (λ w. Marked h w → ⊥)
gone_at h m check v shown c r b failed stands (inl fault) = unmarked_or_left h shown c r b stands (fault_leaves r b fault.0 fault.2)
gone_at h m check v shown c r b failed stands (inr is) = unmarked_or_left h shown c r b stands (off_or_left r b is.1)

answer_of : (h : Hardware) (m : Memory) (check : IdentCheck) (v : disk.DiskImage) (r : Reply) (b : State) (failed : Bool) → EndsAs h m check v r b failed → IsLast (trace_of h m check v) r ⊎ (EndsInFault r × (failed ≡ true))
answer_of h m check v r b failed (inl fault) = inr (fault.0, fault.1)
answer_of h m check v r b failed (inr is) = inl is.0

-- A call that failed shows in the reply, since no step comes after it.
new_fault : (h : Hardware) (m : Memory) (check : IdentCheck) (v : disk.DiskImage) (n : ℕ) (r : Reply) (b : State) (failed : Bool) → IsAt h m check v n r b failed → TellsNewFault r → EndsInFault r
new_fault h m check v n (reply.ReadFault left) b failed at is = tt
new_fault h m check v n (reply.WriteFault left) b failed at is = tt
new_fault h m check v n (reply.SyncFault left) b failed at is = tt
new_fault h m check v n (reply.Undo call k) b failed at is = absurd at
new_fault h m check v n _ b failed at is = absurd is

shows_fault : (h : Hardware) (m : Memory) (check : IdentCheck) (v : disk.DiskImage) (blocks n : ℕ) (start end : Point) → disk.IsContent blocks (disk.settled v) → start.failed ≡ false → IsUntouched v start → IsAt h m check v 0 start.reply start.state start.failed → AreSteps h n start end → end.failed ≡ true → EndsInFault end.reply
shows_fault h m check v blocks zero start end whole none is at are failed = absurd (false≢true (sym none ∙ sym (ap (λ (p : Point). p.failed) are) ∙ failed))
shows_fault h m check v blocks (suc n) start end whole none is at (mid, are, goes, turn) failed = elim (turn.no_other failed) [
  | inr new ↦ new_fault h m check v (suc n) end.reply end.state end.failed (after_steps h m check v blocks (suc n) start end whole is at (mid, are, goes, turn)).at new
  | inl earlier ↦ absurd (false≢true (sym (faults_stop mid.reply (shows_fault h m check v blocks n start mid whole none is at are earlier)) ∙ goes))
]

pub resumes : (h : Hardware) (m : Memory) (check : IdentCheck) (v : disk.DiskImage) (blocks : ℕ) (shown : WorldView) (start : Point) (ended : Ended) (told : Option disk.Content) (now : disk.Content) → told ≡ Some now → disk.IsContent blocks (disk.settled v) → start.failed ≡ false → IsUntouched v start →
    IsAt h m check v 0 start.reply start.state start.failed → HasGone h start ended shown now → HasResumed h m check v shown.frames ended told
resumes h m check v blocks shown start ended told now says whole unfailed is at gone =
    let end = gone.end in
    let after = after_steps h m check v blocks gone.steps start end whole is at gone.are in
    let ends : EndsAs h m check v end.reply end.state end.failed = ends_at h m check v gone.steps end.reply end.state end.failed after.at (ap goes_on gone.reply_is ∙ gone.over) in
    let here : EndsAs h m check v ended.reply end.state ended.failed =
    subst (λ (f : Bool). EndsAs h m check v ended.reply end.state f) gone.failed_is (subst (λ (r : Reply). EndsAs h m check v r end.state end.failed) gone.reply_is ends) in
    record {
      content = end.content;
      told = says ∙ ap Some (sym gone.content_is);
      answer = exactly (IsLast (trace_of h m check v) ended.reply) ended.reply ended.failed (answer_of h m check v ended.reply end.state ended.failed here)
          (λ failed. subst EndsInFault gone.reply_is (shows_fault h m check v blocks gone.steps start end whole unfailed is at gone.are (gone.failed_is ∙ failed)));
      over = gone.over;
      restored = λ n resumed. sym gone.frames ∙ restored_last h m check v blocks gone.steps n start end whole is at gone.are (gone.reply_is ∙ resumed);
      gone = gone_at h m check v shown end.content ended.reply end.state ended.failed gone.stands here;
      unwritten = after.unwritten;
      untouched = λ r cause b. (after.early (two_steps h m check v r blocks gone.steps start end cause whole is at gone.are)).unwritten b;
    }
