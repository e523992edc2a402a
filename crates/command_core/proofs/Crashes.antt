-- What a crash inside a hibernation or a resume may leave.
use Rattle.std.proofs.Common.{◌≡◌, ◌≢◌, ◌⊎◌, inl, inr, ◌<◌, ℕ, ◌+◌, ◌/◌, zero, suc, false, List, [], ◌∷◌, length, slice_index_or, Option, Some, None, refl, sym, ap, ◌∙◌, subst, arith, Contains}
use Rattle.std.specs.Cmp.Lexicographic.{same_text, other_text}
use Rattle.std.specs.List.{AllByRecursion}
use Rattle.std.proofs.lemmas.Bool.{cases_Bool, cases_eq, cases_lt, false≢true}
use Rattle.std.proofs.lemmas.List.Elements.{All-from_recursion, All-contains}
use Rattle.page_core.specs.declared.format.Format.{Format}
use Rattle.definitions.specs.Disk as disk
use Rattle.definitions.specs.SwapHeader.{sig_of, image_signature}
use Rattle.definitions.proofs.DiskLaws.{length-as_it_reads, length-settled, as_it_reads-settled, IsImage-settled}
use Rattle.plain_machine.specs.Chain.{Holds, Marked, blocks_of, header_of, is_marked_disk}
use Rattle.plain_machine.specs.Image.{Image, hibernate_steps}
use Rattle.plain_machine.specs.Machine.{Hardware, Memory, block_of_slot}
use Rattle.plain_machine.specs.Refusals.{refusal}
use Rattle.plain_machine.specs.Shows.{WorldView}
use Rattle.plain_machine.specs.Stands.{Stands, EachImage, IsHeader, IsHeld, IsSameOrTakenBack}
use Rattle.plain_machine.specs.Calls.{HibernationCall, writes_page, syncs_pages, reads_header, writes_mark, syncs_mark, hibernation_call, load_call}
use Rattle.plain_machine.proofs.Calls.{IsAt as IsCallAt, is_at, call_marks}
use Rattle.plain_machine.specs.State.{State, off, on, booting, hibernating, undoing, settling, waking, loading, asleep, Running, held_in, nothing, maybe, own}
use Rattle.plain_machine.specs.Step.{Step, Outcome, hibernation_outcomes, hibernate_step}
use Rattle.plain_machine.specs.declared.event.Actor.TheVariants as actor
use Rattle.plain_machine.specs.declared.event.Event.TheVariants as event
use Rattle.plain_machine.specs.declared.event.IdentCheck.{IdentCheck}
use Rattle.plain_machine.specs.declared.reply.Reply.{Reply}
use Rattle.plain_machine.specs.declared.reply.UndoCall.{UndoCall}
use Rattle.protocol_laws.specs.Rows.{LeavesBlock, LeavesHeader, blocks_written, block_of_load}
use Rattle.protocol_laws.proofs.Back.{held_before, held_behind, before_mark}
use Rattle.protocol_laws.proofs.Unwritten.{mark_at, none_past}
use Rattle.protocol_laws.proofs.Inside.{left_candidate, image_left, images_left, mark_inside, undo_inside, none_marked, AreTakenBack, taken_inside, taken_itself, taken_after}
use Rattle.command_core.specs.Points.{Point, StandsAt, IsTurn, AreSteps, IsLeftInside}
use Rattle.command_core.specs.Runs.{goes_on}
use Rattle.command_core.proofs.Begun.{IsUntouched}
use Rattle.command_core.proofs.Hibernating.{IsAt, after_steps, hibernating_step, before_end}
use Rattle.command_core.proofs.Loaded.{early_writes, goes_state, after_steps as loaded_after, IsAfter, header_alone as load_writes}
use Rattle.command_core.proofs.Leaving.{inside_of}
use Rattle.command_core.proofs.Points.{each_same}
use Rattle.command_core.proofs.Resuming.{IsAt as LoadsAt, state_at}
use Rattle.command_core.proofs.Saved.{IsWrittenAt, state_of, all_after, refuses_over, refusal_refuses, none_after}

-- What stands for a state says of its disk.

pub held_by : (h : Hardware) (shown : WorldView) (c : disk.Content) (a : State) → Stands h shown c a → IsHeld h c (held_in a)
held_by h shown c (off held kept) stands = stands.parts.held
held_by h shown c (on a) stands = stands.parts.disk.held
held_by h shown c (booting from dump held k) stands = stands.parts.held
held_by h shown c (hibernating suspends i a k) stands = stands.parts.behind.held
held_by h shown c (undoing i call a k) stands = stands.parts.behind.held
held_by h shown c (settling a k) stands = stands.parts.behind.held
held_by h shown c (waking i held a k) stands = stands.parts.behind.held
held_by h shown c (loading load k) stands = stands.parts.held
held_by h shown c (asleep i held a) stands = stands.parts.behind.held

pub header_by : (h : Hardware) (shown : WorldView) (c : disk.Content) (a : State) → Stands h shown c a → IsHeader h c
header_by h shown c (off held kept) stands = stands.parts.header
header_by h shown c (on a) stands = stands.parts.disk.header
header_by h shown c (booting from dump held k) stands = stands.parts.header
header_by h shown c (hibernating suspends i a k) stands = stands.parts.behind.header
header_by h shown c (undoing i call a k) stands = stands.parts.behind.header
header_by h shown c (settling a k) stands = stands.parts.behind.header
header_by h shown c (waking i held a k) stands = stands.parts.behind.header
header_by h shown c (loading load k) stands = stands.parts.header
header_by h shown c (asleep i held a) stands = stands.parts.behind.header

stands_after : (h : Hardware) (n : ℕ) (start end : Point) → StandsAt h start → AreSteps h n start end → StandsAt h end
stands_after h zero start end here are = subst (StandsAt h) (sym are) here
stands_after h (suc n) start end here (mid, are, goes, turn) = turn.stands

-- as many blocks before an event and after it
same_blocks : (blocks other : ℕ) (c c' : disk.Content) → disk.IsContent blocks c → disk.IsContent other c' → blocks_of (disk.as_it_reads c') ≡ blocks_of (disk.as_it_reads c) → disk.IsContent blocks c'
same_blocks blocks other c c' whole after same =
    let n = whole.size in
    let m = after.size in
    let reads = length-as_it_reads c in
    let reads' = length-as_it_reads c' in
    subst (λ (k : ℕ). disk.IsContent k c') (let e : other ≡ blocks = omega arith in e) after

marked_or_not : (h : Hardware) (w : disk.DiskImage) → Marked h w ⊎ (Marked h w → ⊥)
marked_or_not h w = elim (cases_Bool (is_marked_disk h w)) [
  | inl is ↦ inl (same_text (sig_of (header_of h w)) image_signature (sym is))
  | inr isn't ↦ inr (other_text (sig_of (header_of h w)) image_signature (sym isn't))
]

none_in : (b : ℕ) → Contains [] b → ⊥
none_in b (k, lt, e) = omega arith

-- A step that writes no block leaves every one.
leaves_all : (h : Hardware) (p q : Point) → IsTurn h (event.Step actor.Core) p q → blocks_written h p.state ≡ [] → (b : ℕ) → LeavesBlock b p.content q.content
leaves_all h p q turn none = λ b. turn.unwritten b (λ in'. none_in b (subst (λ (bs : List ℕ). Contains bs b) none in'))

-- A hibernation's outcomes.

of_all : (P : Outcome → Type 0) (os : List Outcome) (o : Outcome) → AllByRecursion P os → Contains os o → P o
of_all P os o all in' = All-contains P os o (All-from_recursion P os all) in'

-- before the mark nothing is held
abbrev HoldsNone : Running → Outcome → Type 0
HoldsNone a o = a.held ≡ nothing → held_in o.1 ≡ nothing

none_by_call : (i : Image) (a : Running) (k : ℕ) (call : Option HibernationCall) → IsCallAt call k (hibernate_steps i) → k + 2 < hibernate_steps i → AllByRecursion (HoldsNone a) (hibernation_outcomes false i a k call)
none_by_call i a k None at lt = tt
none_by_call i a k (Some writes_page) at lt = ((λ unheld. held_before false i a (k + 1) (omega arith)), ((λ unheld. unheld), tt))
none_by_call i a k (Some syncs_pages) at lt = ((λ unheld. held_before false i a (k + 1) (omega arith)), ((λ unheld. unheld), tt))
none_by_call i a k (Some reads_header) at lt = ((λ unheld. held_before false i a (k + 1) (omega arith)), ((λ unheld. unheld), tt))
none_by_call i a k (Some writes_mark) at lt = absurd (omega arith)
none_by_call i a k (Some syncs_mark) at lt = absurd (omega arith)

early_none : (i : Image) (a : Running) (k : ℕ) → k + 2 < hibernate_steps i → AllByRecursion (HoldsNone a) (hibernate_step false i a k)
early_none i a k lt = none_by_call i a k (hibernation_call i k) (is_at i k) lt

later_none : (i : Image) (a : Running) (k : ℕ) (r : Reply) (b : State) → k + 2 < hibernate_steps i → Contains (hibernate_step false i a k) (r, b) → a.held ≡ nothing → held_in b ≡ nothing
later_none i a k r b lt in' unheld = of_all (HoldsNone a) (hibernate_step false i a k) (r, b) (early_none i a k lt) in' unheld

-- from the mark on the image is perhaps there
abbrev HoldsMaybe : Image → Outcome → Type 0
HoldsMaybe i o = held_in o.1 ≡ maybe (own i)

mark_maybe : (i : Image) (a : Running) (k : ℕ) (r : Reply) (b : State) → k + 2 ≡ hibernate_steps i → Contains (hibernate_step false i a k) (r, b) → held_in b ≡ maybe (own i)
mark_maybe i a k r b at in' =
    of_all (HoldsMaybe i) (hibernation_outcomes false i a k (Some writes_mark)) (r, b) (held_behind false i a (k + 1) (omega arith), (refl, tt))
    (subst (λ (call : Option HibernationCall). Contains (hibernation_outcomes false i a k call) (r, b)) (call_marks i k at) in')

in_one : (x b : ℕ) → Contains (x ∷ []) b → b ≡ x
in_one x b (zero, lt, e) = sym e
in_one x b (suc k, lt, e) = absurd (omega arith)

-- a step that writes block(0) alone leaves every other block
leaves_others : (h : Hardware) (p q : Point) → IsTurn h (event.Step actor.Core) p q → blocks_written h p.state ≡ block_of_slot h 0 ∷ [] → (b : ℕ) → b ≢ block_of_slot h 0 → LeavesBlock b p.content q.content
leaves_others h p q turn one = λ b apart. turn.unwritten b (λ in'. apart (in_one (block_of_slot h 0) b (subst (λ (bs : List ℕ). Contains bs b) one in')))

either_holds : (h : Hardware) (i : Image) (w : disk.DiskImage) → Marked h w → (Marked h w → ⊥) ⊎ Holds h w i → Holds h w i
either_holds h i w marked (inl never) = absurd (never marked)
either_holds h i w marked (inr holds) = holds

-- Inside a step of a hibernation.
hibernating_inside : (h : Hardware) (i : Image) (a : Running) (blocks k : ℕ) (p q : Point) (w : disk.DiskImage) → disk.IsContent blocks p.content → StandsAt h p → p.state ≡ hibernating false i a k → IsTurn h (event.Step actor.Core) p q → disk.IsMixture p.content q.content w → Marked h w → Holds h w i
hibernating_inside h i a blocks k p q w whole at is turn mixed marked =
    let c = p.content in
    let c' = q.content in
    let stands : Stands h at.0 c (hibernating false i a k) = subst (Stands h at.0 c) is at.1 in
    let after = same_blocks blocks turn.blocks c c' whole turn.whole turn.area.blocks in
    let step = hibernating_step h (disk.as_it_reads c) i a k q.reply q.state (subst (λ (s : State). Step h (disk.as_it_reads c) s (event.Step actor.Core) q.reply q.state) is turn.step) in
    let lt = before_end i a k (q.reply, q.state) step in
    let held = held_by h at.0 c (hibernating false i a k) stands in
    let held' = held_by h turn.stands.0 c' q.state turn.stands.1 in
    elim (cases_eq (k + 2) (hibernate_steps i)) [
      | inl mark ↦
          let unmarked : IsHeld h c nothing = subst (IsHeld h c) (held_before false i a k (omega arith)) held in
          let later : IsHeld h c' (maybe (own i)) = subst (IsHeld h c') (mark_maybe i a k q.reply q.state mark step) held' in
          mark_inside h blocks c c' i w
          (record {
            whole = whole;
            after = after;
            header = header_by h at.0 c (hibernating false i a k) stands;
            header_after = header_by h turn.stands.0 c' q.state turn.stands.1;
            area = turn.area;
            others = leaves_others h p q turn (ap (blocks_written h) is ∙ mark_at h a i k mark);
            mixed = mixed;
          }) (before_mark h at.0 c false i a k mark stands).one unmarked (λ v in'. (later v in').0) marked
      | inr other ↦ elim (cases_lt (k + 2) (hibernate_steps i)) [
        | inl early ↦
            let unmarked : IsHeld h c nothing = subst (IsHeld h c) (held_before false i a k (omega arith)) held in
            let still : IsHeld h c' nothing = subst (IsHeld h c') (later_none i a k q.reply q.state early step stands.parts.accepted.unheld) held' in
            absurd (none_marked h blocks c c' w whole after unmarked still mixed marked)
        | inr late ↦
            let there : IsHeld h c (maybe (own i)) = subst (IsHeld h c) (held_behind false i a k (omega arith)) held in
            either_holds h i w marked (there w (image_left blocks c c' w whole after (leaves_all h p q turn (ap (blocks_written h) is ∙ none_past h a i k (omega arith))) mixed)).0
      ]
    ]

undo_block : (h : Hardware) (i : Image) (call : UndoCall) (a : Running) (k : ℕ) → blocks_written h (undoing i call a (suc k)) ≡ []
undo_block h i call a zero = refl
undo_block h i call a (suc k) = refl

-- Inside a step of an undo.
undoing_inside : (h : Hardware) (i : Image) (call : UndoCall) (a : Running) (blocks k : ℕ) (p q : Point) (w : disk.DiskImage) → disk.IsContent blocks p.content → StandsAt h p → p.state ≡ undoing i call a k → IsTurn h (event.Step actor.Core) p q → disk.IsMixture p.content q.content w → Marked h w → Holds h w i
undoing_inside h i call a blocks zero p q w whole at is turn mixed marked =
    let c = p.content in
    let c' = q.content in
    let stands : Stands h at.0 c (undoing i call a 0) = subst (Stands h at.0 c) is at.1 in
    undo_inside h blocks c c' i w
    (record {
      whole = whole;
      after = same_blocks blocks turn.blocks c c' whole turn.whole turn.area.blocks;
      header = header_by h at.0 c (undoing i call a 0) stands;
      header_after = header_by h turn.stands.0 c' q.state turn.stands.1;
      area = turn.area;
      others = leaves_others h p q turn (ap (blocks_written h) is);
      mixed = mixed;
    }) (subst (λ (s : State). LeavesHeader h s c c') is turn.header) (λ v in'. (stands.parts.behind.held v in').0) marked
undoing_inside h i call a blocks (suc k) p q w whole at is turn mixed marked =
    let c = p.content in
    let c' = q.content in
    let stands : Stands h at.0 c (undoing i call a (suc k)) = subst (Stands h at.0 c) is at.1 in
    let after = same_blocks blocks turn.blocks c c' whole turn.whole turn.area.blocks in
    either_holds h i w marked (stands.parts.behind.held w (image_left blocks c c' w whole after (leaves_all h p q turn (ap (blocks_written h) is ∙ undo_block h i call a k)) mixed)).0

either_inside : (h : Hardware) (i : Image) (a : Running) (blocks : ℕ) (p q : Point) (w : disk.DiskImage) → disk.IsContent blocks p.content → StandsAt h p → IsWrittenAt i a p.state → IsTurn h (event.Step actor.Core) p q → disk.IsMixture p.content q.content w → Marked h w → Holds h w i
either_inside h i a blocks p q w whole at (inl is) turn mixed marked = hibernating_inside h i a blocks is.0 p q w whole at is.1 turn mixed marked
either_inside h i a blocks p q w whole at (inr is) turn mixed marked = undoing_inside h i is.0 a blocks is.1 p q w whole at is.2 turn mixed marked

-- A crash inside a step of a hibernation leaves an image that isn't marked, or holds its image.
pub saves_inside : (h : Hardware) (i : Image) (a : Running) (v w : disk.DiskImage) (start : Point) → IsUntouched v start → StandsAt h start → IsAt i a 0 start.reply start.state start.failed → IsLeftInside h start w → (Marked h w → ⊥) ⊎ Holds h w i
saves_inside h i a v w start untouched stands at is =
    let before = all_after h i a v is.steps start is.before untouched at is.are in
    let here = state_of i a is.steps is.before.reply is.before.state is.before.failed (after_steps h i a is.steps start is.before at is.are) is.goes in
    elim (marked_or_not h w) [
      | inl marked ↦ inr (either_inside h i a before.blocks is.before is.after w before.whole (stands_after h is.steps start is.before stands is.are) here is.turn is.mixed marked)
      | inr never ↦ inl never
    ]

-- A resume.

-- over as many blocks each image is v, but for block(0), which is as it was or taken back
pub record IsTaken (h : Hardware) (v : disk.DiskImage) (blocks : ℕ) (p : Point) : Type 0 where
  pub whole : disk.IsContent blocks p.content
  pub taken : AreTakenBack h v p.content

untouched_each : (blocks : ℕ) (v : disk.DiskImage) (p : Point) → disk.IsContent blocks (disk.settled v) → IsUntouched v p → EachImage p.content (λ w. w ≡ v)
untouched_each blocks v p first is = λ w in'. each_same blocks is.blocks v w p.content first is.whole is.same is.unwritten in'

untouched_taken : (h : Hardware) (blocks : ℕ) (v : disk.DiskImage) (p : Point) → disk.IsContent blocks (disk.settled v) → IsUntouched v p → IsTaken h v blocks p
untouched_taken h blocks v p first is = record {
  whole = same_blocks blocks is.blocks (disk.settled v) p.content first is.whole (is.same ∙ sym (ap blocks_of (as_it_reads-settled v)));
  taken = λ w in'. taken_itself h v w (untouched_each blocks v p first is w in');
}

taken_left : (h : Hardware) (blocks : ℕ) (v : disk.DiskImage) (p q : Point) → IsTaken h v blocks p → IsTurn h (event.Step actor.Core) p q → ((b : ℕ) → Contains (blocks_written h p.state) b → ⊥) → IsTaken h v blocks q
taken_left h blocks v p q was turn none =
    let after = same_blocks blocks turn.blocks p.content q.content was.whole turn.whole turn.area.blocks in
    record { whole = after; taken = λ w in'. was.taken w (images_left blocks p.content q.content w was.whole after (λ b. turn.unwritten b (none b)) in') }

later_writes : (h : Hardware) (m : Memory) (check : IdentCheck) (v : disk.DiskImage) (n : ℕ) (s : State) → s ≡ state_at h m check v (suc (suc (suc n))) → (b : ℕ) → Contains (blocks_written h s) b → ⊥
later_writes h m check v n s is b in' =
    none_in b (subst (λ (bs : List ℕ). Contains bs b) (reads_alone n) (subst (λ (x : State). Contains (blocks_written h x) b) is in')) where
      reads_alone : (k : ℕ) → block_of_load h (load_call (suc (suc (suc k)))) ≡ []
      reads_alone zero = refl
      reads_alone (suc k) = refl

taken_turn : (h : Hardware) (m : Memory) (check : IdentCheck) (v : disk.DiskImage) (blocks n : ℕ) (p q : Point) → disk.IsContent blocks (disk.settled v) → IsAfter h m check v n p → IsTaken h v blocks p → p.state ≡ state_at h m check v n → IsTurn h (event.Step actor.Core) p q → IsTaken h v blocks q
taken_turn h m check v blocks zero p q first is was state turn = taken_left h blocks v p q was turn (early_writes h m check v 0 p.state (omega arith) state)
taken_turn h m check v blocks (suc zero) p q first is was state turn = taken_left h blocks v p q was turn (early_writes h m check v 1 p.state (omega arith) state)
taken_turn h m check v blocks (suc (suc zero)) p q first is was state turn =
    let after = same_blocks blocks turn.blocks p.content q.content was.whole turn.whole turn.area.blocks in
    record {
      whole = after;
      taken = taken_after h blocks p.content q.content v was.whole after first (untouched_each blocks v p first (is.early (omega arith)))
          (λ b apart. turn.unwritten b (load_writes h m check v 2 p.state state b apart)) (subst (λ (s : State). LeavesHeader h s p.content q.content) state turn.header);
    }
taken_turn h m check v blocks (suc (suc (suc n))) p q first is was state turn = taken_left h blocks v p q was turn (later_writes h m check v n p.state state)

pub taken_steps : (h : Hardware) (m : Memory) (check : IdentCheck) (v : disk.DiskImage) (blocks n : ℕ) (start end : Point) → disk.IsContent blocks (disk.settled v) → IsUntouched v start → LoadsAt h m check v 0 start.reply start.state start.failed → AreSteps h n start end → IsTaken h v blocks end
taken_steps h m check v blocks zero start end first untouched at are = subst (IsTaken h v blocks) (sym are) (untouched_taken h blocks v start first untouched)
taken_steps h m check v blocks (suc n) start end first untouched at (mid, are, goes, turn) =
    let there = loaded_after h m check v blocks n start mid first untouched at are in
    taken_turn h m check v blocks n mid end first there (taken_steps h m check v blocks n start mid first untouched at are) (goes_state h m check v n mid.reply mid.state mid.failed there.at goes).0 turn

-- A crash inside a step of a resume leaves the disk as it was, but for block(0), which is as it was or taken back.
pub resumes_inside : (h : Hardware) (m : Memory) (check : IdentCheck) (v w : disk.DiskImage) (blocks : ℕ) (start : Point) → disk.IsContent blocks (disk.settled v) → IsUntouched v start → LoadsAt h m check v 0 start.reply start.state start.failed → IsLeftInside h start w → IsSameOrTakenBack h v w
resumes_inside h m check v w blocks start first untouched at is =
    let before = taken_steps h m check v blocks is.steps start is.before first untouched at is.are in
    let after = taken_steps h m check v blocks (suc is.steps) start is.after first untouched at (is.before, is.are, is.goes, is.turn) in
    taken_inside h blocks is.before.content is.after.content v w before.whole after.whole first before.taken after.taken is.mixed

-- Where nothing is written.

still_inside : (blocks now : ℕ) (v w : disk.DiskImage) (c c' : disk.Content) → disk.IsContent blocks c → disk.IsContent now c' → length v ≡ length c → ((b : ℕ) → LeavesBlock b (disk.settled v) c) → ((b : ℕ) → LeavesBlock b (disk.settled v) c') → disk.IsMixture c c' w → w ≡ v
still_inside blocks now v w c c' whole after size left left' mixed =
    let n = mixed.size in
    let settled_size = length-settled v in
    IsImage-settled v w (record {
      size = omega arith;
      chosen = λ s lt. elim (mixed.each s (omega arith)) [
        | inl was ↦ left_candidate blocks (s / 8) s (disk.settled v) c (slice_index_or w s []) whole (left (s / 8)) (omega arith) (omega arith) (omega arith) was
        | inr is ↦ left_candidate now (s / 8) s (disk.settled v) c' (slice_index_or w s []) after (left' (s / 8)) (omega arith) (omega arith) (inside_of s c' (slice_index_or w s []) is) is
      ];
    })

same_length : (first blocks : ℕ) (v : disk.DiskImage) (c : disk.Content) → disk.IsContent first (disk.settled v) → disk.IsContent blocks c → blocks_of (disk.as_it_reads c) ≡ blocks_of v → length v ≡ length c
same_length first blocks v c is whole same =
    let n = is.size in
    let m = whole.size in
    let size = length-settled v in
    let reads = length-as_it_reads c in
    omega arith

pub untouched_inside : (first : ℕ) (v w : disk.DiskImage) (p q : Point) → disk.IsContent first (disk.settled v) → IsUntouched v p → IsUntouched v q → disk.IsMixture p.content q.content w → w ≡ v
untouched_inside first v w p q whole was is mixed =
    still_inside was.blocks is.blocks v w p.content q.content was.whole is.whole (same_length first was.blocks v p.content whole was.whole was.same) was.unwritten is.unwritten mixed

-- A hibernation that was refused makes no step.
pub never_inside : {A : Type 0} (h : Hardware) (a : Running) (f : Format) (q : Reply) (start : Point) (w : disk.DiskImage) → refusal h (on a) (event.Hibernate f) ≡ Some q → start.reply ≡ q → IsLeftInside h start w → A
never_inside h a f q start w says same is =
    let over : goes_on start.reply ≡ false = ap goes_on same ∙ refuses_over q (refusal_refuses h f a q says) in
    absurd (false≢true (sym (ap (λ (p : Point). goes_on p.reply) (none_after h is.steps start is.before over is.are) ∙ over) ∙ is.goes))
