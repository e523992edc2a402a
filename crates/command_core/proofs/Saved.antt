-- The steps of a hibernation, from its event to its last reply.
use Rattle.std.proofs.Common.{◌≡◌, ◌⊎◌, inl, inr, ◌≤◌, ℕ, ◌+◌, zero, suc, Bool, true, false, cond, length, filter, List, ◌∷◌, [], Option, Some, None, unwrap_or, refl, sym, ap, ◌∙◌, subst, arith, Contains}
use Rattle.std.specs.List.{AllByRecursion}
use Rattle.std.proofs.lemmas.Bool.{false≢true}
use Rattle.std.proofs.lemmas.List.Elements.{All-from_recursion, All-contains}
use Rattle.std.proofs.lemmas.Option.{same_Some, none-some}
use Rattle.page_core.specs.declared.format.Format.{Format}
use Rattle.definitions.specs.Disk as disk
use Rattle.plain_machine.specs.Chain.{Holds, or_else}
use Rattle.plain_machine.specs.Image.{Image, image_of_memory, n_of}
use Rattle.plain_machine.specs.Machine.{Hardware, block_of_slot}
use Rattle.plain_machine.specs.Refusals.{refusal, refused_if, busy, busy_task, busy_reply, closed, no_swap, no_frames, no_slots, hibernate_refusal}
use Rattle.plain_machine.specs.Shows.{WorldView}
use Rattle.plain_machine.specs.Stands.{EachImage, IsOwn, Stands, laid_blocks}
use Rattle.plain_machine.specs.Calls.{undo_call}
use Rattle.plain_machine.specs.State.{State, Running, off, on, hibernating, undoing, sure, own}
use Rattle.plain_machine.specs.declared.event.Event.TheVariants as event
use Rattle.plain_machine.specs.declared.no_swap.NoSwap.{NoSwap}
use Rattle.plain_machine.specs.declared.reply.Reply.{Reply}
use Rattle.plain_machine.specs.declared.reply.Reply.TheVariants as reply
use Rattle.plain_machine.specs.declared.reply.UndoCall.{UndoCall}
use Rattle.plain_machine.specs.declared.reply.UndoCall.TheVariants as undo
use Rattle.plain_machine.specs.declared.event.Actor.TheVariants as actor
use Rattle.plain_machine.specs.Step.{Step, Outcome, undo_step}
use Rattle.protocol_laws.specs.Rows.{LeavesBlock, blocks_written, TellsNewFault}
use Rattle.protocol_laws.proofs.Unwritten.{step_in_laid}
use Rattle.protocol_laws.proofs.WrittenWhileHeld.{header_alone}
use Rattle.command_core.specs.Hibernations.{HasHibernated}
use Rattle.command_core.specs.Runs.{goes_on}
use Rattle.command_core.specs.Hibernations.{EndsInFault, hibernation_answer, image_to_save}
use Rattle.command_core.specs.Points.{Point, AreSteps, HasGone}
use Rattle.command_core.specs.declared.ending.Ended.{Ended}
use Rattle.command_core.proofs.Begun.{IsUntouched}
use Rattle.command_core.proofs.Hibernating.{IsAt, after_steps, undoing_step}
use Rattle.command_core.proofs.Leaving.{leaves_then}

-- Refusals of a hibernation are none of the replies of its steps.

abbrev pub Refuses : Reply → Type 0
Refuses (reply.Busy t) = Unit {0}
Refuses reply.Closed = Unit {0}
Refuses (reply.NoSwap why) = Unit {0}
Refuses (reply.NoFrames free need) = Unit {0}
Refuses (reply.NoSlots free need) = Unit {0}
Refuses _ = ⊥

abbrev AllRefuse : Option Reply → Type 0
AllRefuse None = Unit {0}
AllRefuse (Some r) = Refuses r

refuse_else : (o p : Option Reply) → AllRefuse o → AllRefuse p → AllRefuse (or_else o p)
refuse_else None p first second = second
refuse_else (Some r) p first second = first

refuse_if : (b : Bool) (r : Reply) → Refuses r → AllRefuse (refused_if b r)
refuse_if true r is = is
refuse_if false r is = tt

refuse_busy : (o : Option ℕ) → AllRefuse (busy_reply o)
refuse_busy None = tt
refuse_busy (Some t) = tt

refuse_swap : (o : Option NoSwap) → AllRefuse (no_swap o)
refuse_swap None = tt
refuse_swap (Some why) = tt

hibernation_refuses : (h : Hardware) (f : Format) (a : Running) → AllRefuse (hibernate_refusal h f a)
hibernation_refuses h f a =
    let i = image_of_memory h a.memory a.slots f in
    let frames = no_frames h a i in
    let slots = no_slots h a i in
    refuse_else (busy a) (or_else (closed a) (or_else (no_swap a.unusable) (or_else frames slots))) (refuse_busy (busy_task a))
    (refuse_else (closed a) (or_else (no_swap a.unusable) (or_else frames slots)) (refuse_if _ reply.Closed tt)
    (refuse_else (no_swap a.unusable) (or_else frames slots) (refuse_swap a.unusable)
    (refuse_else frames slots (refuse_if _ (reply.NoFrames _ _) tt) (refuse_if _ (reply.NoSlots _ _) tt))))

refuses_of : (o : Option Reply) (r : Reply) → AllRefuse o → o ≡ Some r → Refuses r
refuses_of None r all e = absurd (none-some r e)
refuses_of (Some x) r all e = subst Refuses (same_Some x r e) all

pub refusal_refuses : (h : Hardware) (f : Format) (a : Running) (r : Reply) → refusal h (on a) (event.Hibernate f) ≡ Some r → Refuses r
unfolding refusal
refusal_refuses h f a r e = refuses_of (hibernate_refusal h f a) r (hibernation_refuses h f a) e

pub refuses_over : (r : Reply) → Refuses r → goes_on r ≡ false
refuses_over (reply.More k of) is = absurd is
refuses_over (reply.Undo call k) is = absurd is
refuses_over (reply.Loading k) is = absurd is
refuses_over _ is = refl

-- No step comes after a reply that doesn't go on.
pub none_after : (h : Hardware) (n : ℕ) (start end : Point) → goes_on start.reply ≡ false → AreSteps h n start end → end ≡ start
none_after h zero start end over are = are
none_after h (suc n) start end over (mid, are, goes, turn) =
    absurd (false≢true (sym (ap (λ (p : Point). goes_on p.reply) (none_after h n start mid over are) ∙ over) ∙ goes))

-- The blocks that its steps write.

abbrev pub IsWrittenAt : Image → Running → State → Type 0
IsWrittenAt i a s = ((n : ℕ) × (s ≡ hibernating false i a n)) ⊎ ((call : UndoCall) × (k : ℕ) × (s ≡ undoing i call a k))

pub state_of : (i : Image) (a : Running) (n : ℕ) (r : Reply) (b : State) (failed : Bool) → IsAt i a n r b failed → goes_on r ≡ true → IsWrittenAt i a b
state_of i a n (reply.More k of) b failed at goes = inl (n, at)
state_of i a n (reply.Undo call k) b failed at goes = inr (at.0.0, k, at.0.1)
state_of i a n (reply.Loading k) b failed at goes = absurd at
state_of i a n _ b failed at goes = absurd (false≢true goes)

written_in : (h : Hardware) (i : Image) (a : Running) (s : State) (b : ℕ) → IsWrittenAt i a s → Contains (blocks_written h s) b → Contains (block_of_slot h 0 ∷ laid_blocks h a i) b
written_in h i a s b (inl is) in' = step_in_laid h a i is.0 b (subst (λ (x : State). Contains (blocks_written h x) b) is.1 in')
written_in h i a s b (inr is) in' = (0, omega arith, sym (header_alone h b (undo_call is.1) (subst (λ (x : State). Contains (blocks_written h x) b) is.2 in')))

pub record IsAfter (h : Hardware) (i : Image) (a : Running) (v : disk.DiskImage) (p : Point) : Type 0 where
  pub blocks : ℕ
  pub whole : disk.IsContent blocks p.content
  pub unwritten : (b : ℕ) → (Contains (block_of_slot h 0 ∷ laid_blocks h a i) b → ⊥) → LeavesBlock b (disk.settled v) p.content

after_first : (h : Hardware) (i : Image) (a : Running) (v : disk.DiskImage) (p : Point) → IsUntouched v p → IsAfter h i a v p
after_first h i a v p is = record { blocks = is.blocks; whole = is.whole; unwritten = λ b not. is.unwritten b }

pub all_after : (h : Hardware) (i : Image) (a : Running) (v : disk.DiskImage) (n : ℕ) (start end : Point) → IsUntouched v start → IsAt i a 0 start.reply start.state start.failed → AreSteps h n start end → IsAfter h i a v end
all_after h i a v zero start end is at are = subst (IsAfter h i a v) (sym are) (after_first h i a v start is)
all_after h i a v (suc n) start end is at (mid, are, goes, turn) =
    let before = all_after h i a v n start mid is at are in
    let here = state_of i a n mid.reply mid.state mid.failed (after_steps h i a n start mid at are) goes in
    record {
      blocks = turn.blocks;
      whole = turn.whole;
      unwritten = λ b not. leaves_then before.blocks b (disk.settled v) mid.content end.content before.whole (before.unwritten b not) (turn.unwritten b (λ in'. not (written_in h i a mid.state b here in')));
    }

-- A call that failed shows in the reply: after it comes an undo, or nothing.

abbrev IsUndo : Reply → Type 0
IsUndo (reply.Undo call k) = Unit {0}
IsUndo _ = ⊥

abbrev ShowsFault : Reply → Type 0
ShowsFault r = EndsInFault r ⊎ IsUndo r

new_shows : (r : Reply) → TellsNewFault r → ShowsFault r
new_shows (reply.ReadFault left) is = inl tt
new_shows (reply.WriteFault left) is = inl tt
new_shows (reply.SyncFault left) is = inl tt
new_shows (reply.Undo call k) is = inr tt
new_shows _ is = absurd is

pub faults_stop : (r : Reply) → EndsInFault r → goes_on r ≡ false
faults_stop (reply.ReadFault left) is = refl
faults_stop (reply.WriteFault left) is = refl
faults_stop (reply.SyncFault left) is = refl
faults_stop _ is = absurd is

undo_shows : (i : Image) (call : UndoCall) (a : Running) (k : ℕ) → k ≤ 1 → AllByRecursion (λ (o : Outcome). ShowsFault o.0) (undo_step i call a k)
undo_shows i undo.Write a zero few = (inr tt, (inl tt, tt))
undo_shows i undo.Write a (suc zero) few = (inl tt, (inl tt, tt))
undo_shows i undo.Write a (suc (suc k)) few = absurd (omega arith)
undo_shows i undo.Sync a zero few = (inr tt, (inl tt, tt))
undo_shows i undo.Sync a (suc zero) few = (inl tt, (inl tt, tt))
undo_shows i undo.Sync a (suc (suc k)) few = absurd (omega arith)

undo_goes : (h : Hardware) (v : disk.DiskImage) (i : Image) (a : Running) (n : ℕ) (r r' : Reply) (b b' : State) (failed : Bool) → IsAt i a n r b failed → IsUndo r → Step h v b (event.Step actor.Core) r' b' → ShowsFault r'
undo_goes h v i a n (reply.Undo call k) r' b b' failed at is step =
    let os = undo_step i at.0.0 a k in
    All-contains (λ (o : Outcome). ShowsFault o.0) os (r', b') (All-from_recursion (λ (o : Outcome). ShowsFault o.0) os (undo_shows i at.0.0 a k at.1))
    (undoing_step h v i at.0.0 a k r' b' (subst (λ (s : State). Step h v s (event.Step actor.Core) r' b') at.0.1 step))
undo_goes h v i a n _ r' b b' failed at is step = absurd is

shows_fault : (h : Hardware) (i : Image) (a : Running) (n : ℕ) (start end : Point) → start.failed ≡ false → IsAt i a 0 start.reply start.state start.failed → AreSteps h n start end → end.failed ≡ true → ShowsFault end.reply
shows_fault h i a zero start end none at are failed = absurd (false≢true (sym none ∙ sym (ap (λ (p : Point). p.failed) are) ∙ failed))
shows_fault h i a (suc n) start end none at (mid, are, goes, turn) failed = elim (turn.no_other failed) [
  | inr is ↦ new_shows end.reply is
  | inl earlier ↦ elim (shows_fault h i a n start mid none at are earlier) [
    | inl stopped ↦ absurd (false≢true (sym (faults_stop mid.reply stopped) ∙ goes))
    | inr undo ↦ undo_goes h (disk.as_it_reads mid.content) i a n mid.reply end.reply mid.state end.state mid.failed (after_steps h i a n start mid at are) undo turn.step
  ]
]

undo_on : (r : Reply) → IsUndo r → goes_on r ≡ true
undo_on (reply.Undo call k) is = refl
undo_on _ is = absurd is

-- at the end of the hibernation a failed call shows as a fault
fault_at_end : (r : Reply) → goes_on r ≡ false → ShowsFault r → EndsInFault r
fault_at_end r over (inl is) = is
fault_at_end r over (inr undo) = absurd (false≢true (sym over ∙ undo_on r undo))

pub exactly : (A : Type 0) (r : Reply) (failed : Bool) → A ⊎ (EndsInFault r × (failed ≡ true)) → (failed ≡ true → EndsInFault r) → (A × (failed ≡ false)) ⊎ (EndsInFault r × (failed ≡ true))
exactly A r true (inl is) shows = inr (shows refl, refl)
exactly A r false (inl is) shows = inl (is, refl)
exactly A r failed (inr fault) shows = inr fault

-- A hibernation has few steps.

one_more : {A : Type 0} (b : Bool) (x : A) (ys : List A) (n : ℕ) → length ys ≤ n → length (cond b (x ∷ ys) ys) ≤ n + 1
one_more true x ys n few = omega arith
one_more false x ys n few = omega arith

filter_few : {A : Type 0} (test : A → Bool) (xs : List A) → length (filter test xs) ≤ length xs
filter_few test [] = omega arith
filter_few test (x ∷ xs) = let few = one_more (test x) x (filter test xs) (length xs) (filter_few test xs) in omega arith

-- The end.

abbrev EndsAs : Image → Reply → State → Bool → Type 0
EndsAs i r b failed = ((r ≡ reply.Hibernated (n_of i)) × (b ≡ off (sure (own i)) None)) ⊎ (EndsInFault r × (failed ≡ true))

ends_at : (i : Image) (a : Running) (n : ℕ) (r : Reply) (b : State) (failed : Bool) → IsAt i a n r b failed → goes_on r ≡ false → EndsAs i r b failed
ends_at i a n (reply.More k of) b failed at over = absurd (false≢true (sym over))
ends_at i a n (reply.Undo call k) b failed at over = absurd (false≢true (sym over))
ends_at i a n (reply.Hibernated saved) b failed at over = inl (ap reply.Hibernated at.0, at.1)
ends_at i a n (reply.ReadFault left) b failed at over = inr (tt, at)
ends_at i a n (reply.WriteFault left) b failed at over = inr (tt, at)
ends_at i a n (reply.SyncFault left) b failed at over = inr (tt, at)
ends_at i a n _ b failed at over = absurd at

holds_by : (h : Hardware) (shown : WorldView) (c : disk.Content) (b : State) (i : Image) → Stands h shown c b → b ≡ off (sure (own i)) None → EachImage c (λ w. Holds h w i × IsOwn h w i)
holds_by h shown c b i stands is = (subst (Stands h shown c) is stands).parts.held

fault_no_end : (r : Reply) (n : ℕ) → EndsInFault r → r ≡ reply.Hibernated n → ⊥
fault_no_end r n is e = subst EndsInFault e is

image_at : (h : Hardware) (shown : WorldView) (c : disk.Content) (i : Image) (r : Reply) (b : State) (failed : Bool) (n : ℕ) → Stands h shown c b → EndsAs i r b failed → r ≡ reply.Hibernated n → EachImage c (λ w. Holds h w i × IsOwn h w i)
image_at h shown c i r b failed n stands (inl is) e = holds_by h shown c b i stands is.1
image_at h shown c i r b failed n stands (inr fault) e = absurd (fault_no_end r n fault.0 e)

answer_at : (h : Hardware) (a : Running) (f : Format) (v : disk.DiskImage) (r : Reply) (b : State) (failed : Bool) → refusal h (on a) (event.Hibernate f) ≡ None → EndsAs (image_to_save h a f) r b failed → (r ≡ hibernation_answer h a f) ⊎ (EndsInFault r × (failed ≡ true))
answer_at h a f v r b failed none (inl is) = inl (is.0 ∙ sym (ap (λ (o : Option Reply). unwrap_or o (reply.Hibernated (n_of (image_to_save h a f)))) none))
answer_at h a f v r b failed none (inr fault) = inr fault

-- The hibernation was not refused.
pub saves : (h : Hardware) (a : Running) (f : Format) (v : disk.DiskImage) (shown : WorldView) (start : Point) (ended : Ended) (told : Option disk.Content) (now : disk.Content) → told ≡ Some now → start.failed ≡ false → IsUntouched v start → refusal h (on a) (event.Hibernate f) ≡ None →
    IsAt (image_to_save h a f) a 0 start.reply start.state start.failed → HasGone h start ended shown now → HasHibernated h a f v ended told
saves h a f v shown start ended told now says unfailed is none at gone =
    let i = image_to_save h a f in
    let end = gone.end in
    let ends : EndsAs i end.reply end.state end.failed = ends_at i a gone.steps end.reply end.state end.failed (after_steps h i a gone.steps start end at gone.are) (ap goes_on gone.reply_is ∙ gone.over) in
    let here : EndsAs i ended.reply end.state ended.failed = subst (λ (b : Bool). EndsAs i ended.reply end.state b) gone.failed_is (subst (λ (r : Reply). EndsAs i r end.state end.failed) gone.reply_is ends) in
    record {
      content = end.content;
      told = says ∙ ap Some (sym gone.content_is);
      answer = exactly (ended.reply ≡ hibernation_answer h a f) ended.reply ended.failed (answer_at h a f v ended.reply end.state ended.failed none here)
          (λ failed. fault_at_end ended.reply gone.over (subst ShowsFault gone.reply_is (shows_fault h i a gone.steps start end unfailed at gone.are (gone.failed_is ∙ failed))));
      over = gone.over;
      image = λ n hibernated. image_at h shown end.content i ended.reply end.state ended.failed n gone.stands here hibernated;
      unwritten = (all_after h i a v gone.steps start end is at gone.are).unwritten;
      refused = λ r refused b. absurd (none-some r (sym none ∙ refused));
    }

-- The hibernation was refused.
pub refused : (h : Hardware) (a : Running) (f : Format) (v : disk.DiskImage) (shown : WorldView) (q : Reply) (start : Point) (ended : Ended) (told : Option disk.Content) (now : disk.Content) → told ≡ Some now → start.failed ≡ false → IsUntouched v start → refusal h (on a) (event.Hibernate f) ≡ Some q → start.reply ≡ q → HasGone h start ended shown now → HasHibernated h a f v ended told
refused h a f v shown q start ended told now here unfailed is says same gone =
    let refuses = refusal_refuses h f a q says in
    let over : goes_on start.reply ≡ false = ap goes_on same ∙ refuses_over q refuses in
    let end : gone.end ≡ start = none_after h gone.steps start gone.end over gone.are in
    let answer : ended.reply ≡ q = sym gone.reply_is ∙ ap (λ (p : Point). p.reply) end ∙ same in
    let untouched : IsUntouched v gone.end = subst (IsUntouched v) (sym end) is in
    record {
      content = gone.end.content;
      told = here ∙ ap Some (sym gone.content_is);
      answer = inl (answer ∙ sym (ap (λ (o : Option Reply). unwrap_or o (reply.Hibernated (n_of (image_to_save h a f)))) says), sym gone.failed_is ∙ ap (λ (p : Point). p.failed) end ∙ unfailed);
      over = ap goes_on answer ∙ refuses_over q refuses;
      image = λ n hibernated. absurd (subst Refuses (sym answer ∙ hibernated) refuses);
      unwritten = λ b not. untouched.unwritten b;
      refused = λ r refused b. untouched.unwritten b;
    }

-- A call failed while the machine booted.
pub failed_early : (h : Hardware) (a : Running) (f : Format) (v : disk.DiskImage) (ended : Ended) (told : Option disk.Content) (p : Point) → told ≡ Some p.content → IsUntouched v p → EndsInFault ended.reply → ended.failed ≡ true → HasHibernated h a f v ended told
failed_early h a f v ended told p says untouched fault failed = record {
  content = p.content;
  told = says;
  answer = inr (fault, failed);
  over = faults_stop ended.reply fault;
  image = λ n hibernated. absurd (fault_no_end ended.reply n fault hibernated);
  unwritten = λ b not. untouched.unwritten b;
  refused = λ r refused b. untouched.unwritten b;
}
