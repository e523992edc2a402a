-- A machine that is woken and its image never both go on.
use Rattle.std.proofs.Common.{zero, suc, ◌≡◌, ◌<◌, ℕ, true, false, List, [], ◌∷◌, Option, Some, refl, sym, ap, ◌∙◌, subst, ◌⊎◌, inl, inr, arith}
use Rattle.std.specs.Prelude.{take, drop}
use Rattle.std.proofs.lemmas.Bool.{false≢true, cases_Bool}
use Rattle.std.proofs.lemmas.Option.{none-some}
use Rattle.page_core.specs.declared.format.Format.TheVariants.{Plain}
use Rattle.definitions.specs.Disk as disk
use Rattle.plain_machine.specs.Machine.{Hardware, Memory}
use Rattle.plain_machine.specs.Image.{Image, image_of_memory}
use Rattle.plain_machine.specs.State.{State, off, on, Running, Held, nothing, held_in, kept_in}
use Rattle.plain_machine.specs.Step.{Step, Run, no_slots as no_pages}
use Rattle.plain_machine.specs.declared.event.Event.{Event}
use Rattle.plain_machine.specs.declared.event.Event.TheVariants as event
use Rattle.plain_machine.specs.declared.reply.Reply.{Reply}
use Rattle.plain_machine.specs.declared.reply.Reply.TheVariants as reply
use Rattle.theorem_laws.specs.Resumes.{is_hibernation, HibernatesAt, ResumesAt}
use Rattle.theorem_laws.specs.Sleeps.{is_of_task, is_refusal, TaskGoesOnAt, SuspendsAt, FallsAsleepAt, WakesAt, IsCutAt, WakesAsBefore, HoldsOwn, LeavesOff, NeverBothGoOn}
use Rattle.theorem_laws.proofs.Spent.{IsSpent}
use Rattle.theorem_laws.proofs.Keeping.{HasOnly}
use Rattle.theorem_laws.proofs.Events.{keeps_image}
use Rattle.theorem_laws.proofs.Beginning.{begins_by}
use Rattle.theorem_laws.proofs.Once.{first_event, later_event, before_resume}
use Rattle.theorem_laws.proofs.Staying.{holds_nothing, spent_stays}
use Rattle.theorem_laws.proofs.Sleeping.{sleeper, IsSleeping, IsOfSleep, is_cut, Moves, Rests, step_moves, step_rests, left_by_cut, sleeping_holds}

some_same : {A : Type 0} (x y : A) → Some x ≡ Some y → x ≡ y
some_same x y e = cc

-- at most one image is there, whichever it is
abbrev HasOne : State → Type 0
HasOne a = (i : Image) × HasOnly i a

one_left : (h : Hardware) (v : disk.DiskImage) (a : State) (e : Event) (r : Reply) (b : State) → Step h v a e r b → HasOne a → HasOne b
one_left h v a e r b step (i, is) = elim (cases_Bool (is_hibernation e r)) [
  | inl begun ↦ let from = begins_by h v a e r b step begun in (image_of_memory h from.0.memory from.0.slots from.1, from.3)
  | inr none ↦ (i, (keeps_image h v i a e r b step is none).0)
]

-- Between Asleep and what a task does.

later_task : (e : Event) (es : List Event) (r : Reply) (rs : List Reply) (k : ℕ) → TaskGoesOnAt (e ∷ es) (r ∷ rs) (suc k) → TaskGoesOnAt es rs k
later_task e es r rs k at = record {
  asked = at.asked;
  answer = at.answer;
  is_asked = at.is_asked;
  is_answer = at.is_answer;
  of_task = at.of_task;
  accepted = at.accepted;
}

no_task_now : (e : Event) (r : Reply) (mid : State) → Rests e (r, mid) → is_of_task e ≡ true → is_refusal r ≡ false → ⊥
no_task_now e r mid (inl (pick, is)) of_task accepted = false≢true (sym (ap is_of_task is) ∙ of_task)
no_task_now e r mid (inr (inl (woken, other))) of_task accepted = false≢true (sym other ∙ of_task)
no_task_now e r mid (inr (inr (sleeps, refused))) of_task accepted = false≢true (sym accepted ∙ refused of_task)

rests : (h : Hardware) (v : disk.DiskImage) (a : State) (es : List Event) (rs : List Reply) (b : State) → IsSleeping a → Run h v a es rs b → (k : ℕ) → TaskGoesOnAt es rs k → (i : ℕ) × (i < k) × (WakesAt rs i ⊎ IsCutAt es i)
rests h v a [] [] b is run k at = absurd (none-some at.asked at.is_asked)
rests h v a [] (r ∷ rs) b is run k at = absurd run
rests h v a (e ∷ es) [] b is run k at = absurd run
rests h v a (e ∷ es) (r ∷ rs) b is (mid, step, run) zero at =
    absurd (no_task_now e r mid (step_rests h v a e r mid step is) (ap is_of_task (some_same e at.asked at.is_asked) ∙ at.of_task) (ap is_refusal (some_same r at.answer at.is_answer) ∙ at.accepted))
rests h v a (e ∷ es) (r ∷ rs) b is (mid, step, run) (suc k) at = elim (step_rests h v a e r mid step is) [
  | inl cut ↦ (0, omega arith, inr (cut.0, ap (λ (x : Event). Some x) cut.1))
  | inr more ↦ elim more [
    | inl woken ↦ (0, omega arith, inl (ap (λ (x : Reply). Some x) woken.0))
    | inr still ↦ let found = rests h v mid es rs b still.0 run k (later_task e es r rs k at) in (suc found.0, omega arith, found.2)
  ]
]

of_sleep : (n : ℕ) (r : Reply) → Some r ≡ Some (reply.Asleep n) → IsOfSleep r
of_sleep n (reply.Asleep m) is = tt
of_sleep n _ is = absurd (cc)

falls_asleep : (a : State) (e : Event) (r : Reply) (mid : State) (n : ℕ) → Some r ≡ Some (reply.Asleep n) → Moves a e (r, mid) → IsSleeping mid
falls_asleep a e r mid n is (inl (quiet, left)) = absurd (quiet (of_sleep n r is))
falls_asleep a e r mid n is (inr (inl (f, step, steps, before, asked, answer, was, now))) = absurd (cc)
falls_asleep a e r mid n is (inr (inr (inl (m, answer, same, uncut, sleeps)))) = sleeps
falls_asleep a e r mid n is (inr (inr (inr (before, answer, was, now)))) = absurd (cc)

after_asleep : (h : Hardware) (v : disk.DiskImage) (a : State) (es : List Event) (rs : List Reply) (b : State) → HasOne a → Run h v a es rs b → (j k : ℕ) → j < k → FallsAsleepAt rs j → TaskGoesOnAt es rs k →
    (i : ℕ) × (j < i) × (i < k) × (WakesAt rs i ⊎ IsCutAt es i)
after_asleep h v a [] [] b has run j k lt falls at = absurd (none-some at.asked at.is_asked)
after_asleep h v a [] (r ∷ rs) b has run j k lt falls at = absurd run
after_asleep h v a (e ∷ es) [] b has run j k lt falls at = absurd run
after_asleep h v a (e ∷ es) (r ∷ rs) b has (mid, step, run) j zero lt falls at = absurd (omega arith)
after_asleep h v a (e ∷ es) (r ∷ rs) b has (mid, step, run) zero (suc k) lt (n, falls) at =
    let sleeps = falls_asleep a e r mid n falls (step_moves h v has.0 a e r mid step has.1) in
    let found = rests h v mid es rs b sleeps run k (later_task e es r rs k at) in
    (suc found.0, omega arith, omega arith, found.2)
after_asleep h v a (e ∷ es) (r ∷ rs) b has (mid, step, run) (suc j) (suc k) lt falls at =
    let found = after_asleep h v mid es rs b (one_left h v a e r mid step has) run j k (omega arith) falls (later_task e es r rs k at) in
    (suc found.0, omega arith, omega arith, found.3)

-- Where the machine wakes.

is_woken : (r : Reply) → Some r ≡ Some reply.Woken → IsOfSleep r
is_woken reply.Woken is = tt
is_woken _ is = absurd (cc)

abbrev IsWoken : State → State → Type 0
IsWoken a mid = (before : Running) × (sleeper a ≡ Some before) × (mid ≡ on (record before { held = nothing }))

wakes_by : (a : State) (e : Event) (r : Reply) (mid : State) → Some r ≡ Some reply.Woken → Moves a e (r, mid) → IsWoken a mid
wakes_by a e r mid is (inl (quiet, left)) = absurd (quiet (is_woken r is))
wakes_by a e r mid is (inr (inl (f, step, steps, before, asked, answer, was, now))) = absurd (cc)
wakes_by a e r mid is (inr (inr (inl (m, answer, same, uncut, sleeps)))) = absurd (cc)
wakes_by a e r mid is (inr (inr (inr (before, answer, was, now)))) = (before, was, now)

abbrev NoCutBefore : List Event → ℕ → Type 0
NoCutBefore es k = (j : ℕ) → j < k → IsCutAt es j → ⊥

-- a run from a state in which that machine was saved by a suspend, or sleeps, up to where it wakes at event k
record IsWakeOf (h : Hardware) (v : disk.DiskImage) (before : Running) (a : State) (es : List Event) (rs : List Reply) (b : State) (k : ℕ) : Type 0 where
  pub uncut : NoCutBefore es k
  pub wakes : Run h v a (take (suc k) es) (take (suc k) rs) (on (record before { held = nothing }))
  pub ends : Run h v (on (record before { held = nothing })) (drop (suc k) es) (drop (suc k) rs) b

no_cut_first : (e : Event) (es : List Event) → is_cut e ≡ false → IsCutAt (e ∷ es) 0 → ⊥
no_cut_first e es uncut (pick, is) = false≢true (sym uncut ∙ ap is_cut (some_same e (event.Cut pick) is))

no_cut_more : (e : Event) (es : List Event) (k : ℕ) → is_cut e ≡ false → NoCutBefore es k → NoCutBefore (e ∷ es) (suc k)
no_cut_more e es k uncut none zero lt at = no_cut_first e es uncut at
no_cut_more e es k uncut none (suc j) lt at = none j (omega arith) at

no_cut_behind : (e : Event) (es : List Event) (k : ℕ) → NoCutBefore es k → (j : ℕ) → 0 < j → j < suc k → IsCutAt (e ∷ es) j → ⊥
no_cut_behind e es k none zero lt le at = absurd (omega arith)
no_cut_behind e es k none (suc j) lt le at = none j (omega arith) at

no_cut_later : (e : Event) (es : List Event) (at k : ℕ) → ((j : ℕ) → at < j → j < k → IsCutAt es j → ⊥) → (j : ℕ) → suc at < j → j < suc k → IsCutAt (e ∷ es) j → ⊥
no_cut_later e es at k none zero lt le here = absurd (omega arith)
no_cut_later e es at k none (suc j) lt le here = none j (omega arith) (omega arith) here

later_waking : (h : Hardware) (v : disk.DiskImage) (a mid : State) (e : Event) (es : List Event) (r : Reply) (rs : List Reply) (b : State) (k : ℕ) → Step h v a e r mid → WakesAsBefore h v mid es rs b k → WakesAsBefore h v a (e ∷ es) (r ∷ rs) b (suc k)
later_waking h v a mid e es r rs b k step found = record {
  at = suc found.at;
  earlier = let lt = found.earlier in omega arith;
  suspends = found.suspends;
  uncut = no_cut_later e es found.at k found.uncut;
  before = found.before;
  begins = (mid, step, found.begins);
  wakes = found.wakes;
  ends = found.ends;
}

abbrev IsFound : Hardware → disk.DiskImage → State → List Event → List Reply → State → ℕ → Type 0
IsFound h v a es rs b k = WakesAsBefore h v a es rs b k ⊎ ((before : Running) × (sleeper a ≡ Some before) × IsWakeOf h v before a es rs b k)

-- the step that its wake stands after
longer : (h : Hardware) (v : disk.DiskImage) (before : Running) (a mid : State) (e : Event) (es : List Event) (r : Reply) (rs : List Reply) (b : State) (k : ℕ) → Step h v a e r mid → sleeper mid ≡ sleeper a → is_cut e ≡ false →
    sleeper mid ≡ Some before → IsWakeOf h v before mid es rs b k → IsFound h v a (e ∷ es) (r ∷ rs) b (suc k)
longer h v before a mid e es r rs b k step same uncut is wake =
    inr (
      before,
      sym same ∙ is,
      record {
        uncut = no_cut_more e es k uncut wake.uncut;
        wakes = (mid, step, wake.wakes);
        ends = wake.ends;
      },
    )

-- the suspend itself
whole : (h : Hardware) (v : disk.DiskImage) (before : Running) (a mid : State) (e : Event) (es : List Event) (r : Reply) (rs : List Reply) (b : State) (k : ℕ) → Step h v a e r mid → a ≡ on before → SuspendsAt (e ∷ es) (r ∷ rs) 0 →
    IsWakeOf h v before mid es rs b k → WakesAsBefore h v a (e ∷ es) (r ∷ rs) b (suc k)
whole h v before a mid e es r rs b k step was suspends wake = record {
  at = 0;
  earlier = omega arith;
  suspends = suspends;
  uncut = no_cut_behind e es k wake.uncut;
  before = before;
  begins = sym was;
  wakes = (mid, subst (λ (s : State). Step h v s e r mid) was step, wake.wakes);
  ends = wake.ends;
}

found_by : (h : Hardware) (v : disk.DiskImage) (before : Running) (a mid : State) (e : Event) (es : List Event) (r : Reply) (rs : List Reply) (b : State) (k : ℕ) → Step h v a e r mid → Moves a e (r, mid) →
    sleeper mid ≡ Some before → IsWakeOf h v before mid es rs b k → IsFound h v a (e ∷ es) (r ∷ rs) b (suc k)
found_by h v before a mid e es r rs b k step (inl (quiet, inl none)) is wake = absurd (none-some before (sym none ∙ is))
found_by h v before a mid e es r rs b k step (inl (quiet, inr (same, uncut))) is wake = longer h v before a mid e es r rs b k step same uncut is wake
found_by h v before a mid e es r rs b k step (inr (inl (f, made, steps, saved, asked, answer, was, now))) is wake =
    let one : saved ≡ before = some_same saved before (sym now ∙ is) in
    inl (whole h v before a mid e es r rs b k step (was ∙ ap (λ (x : Running). on x) one) (f, made, steps, ap (λ (x : Event). Some x) asked, ap (λ (x : Reply). Some x) answer) wake)
found_by h v before a mid e es r rs b k step (inr (inr (inl (m, answer, same, uncut, sleeps)))) is wake = longer h v before a mid e es r rs b k step same uncut is wake
found_by h v before a mid e es r rs b k step (inr (inr (inr (woken, answer, was, now)))) is wake = absurd (none-some before (sym (ap sleeper now) ∙ is))

woken_in : (h : Hardware) (v : disk.DiskImage) (a : State) (es : List Event) (rs : List Reply) (b : State) → HasOne a → Run h v a es rs b → (k : ℕ) → WakesAt rs k → IsFound h v a es rs b k
woken_in h v a [] [] b has run k is = absurd (none-some reply.Woken is)
woken_in h v a [] (r ∷ rs) b has run k is = absurd run
woken_in h v a (e ∷ es) [] b has run k is = absurd run
woken_in h v a (e ∷ es) (r ∷ rs) b has (mid, step, run) zero is =
    let woken = wakes_by a e r mid is (step_moves h v has.0 a e r mid step has.1) in
    inr (
      woken.0,
      woken.1,
      record {
        uncut = λ j lt. absurd (omega arith);
        wakes = (mid, step, sym woken.2);
        ends = subst (λ (s : State). Run h v s es rs b) woken.2 run;
      },
    )
woken_in h v a (e ∷ es) (r ∷ rs) b has (mid, step, run) (suc k) is = elim (woken_in h v mid es rs b (one_left h v a e r mid step has) run k is) [
  | inl found ↦ inl (later_waking h v a mid e es r rs b k step found)
  | inr (before, saved, wake) ↦ found_by h v before a mid e es r rs b k step (step_moves h v has.0 a e r mid step has.1) saved wake
]

-- Between Woken and a resume that ends.

spent_by : (a mid : State) → IsWoken a mid → IsSpent mid
spent_by a mid (before, was, now) = subst IsSpent (sym now) refl

after_woken : (h : Hardware) (v : disk.DiskImage) (a : State) (es : List Event) (rs : List Reply) (b : State) → HasOne a → Run h v a es rs b → (j k : ℕ) → j < k → WakesAt rs j → ResumesAt rs k →
    (i : ℕ) × (j < i) × (i < k) × HibernatesAt es rs i
after_woken h v a [] [] b has run j k lt woken (n, e) = absurd (none-some (reply.Resumed n) e)
after_woken h v a [] (r ∷ rs) b has run j k lt woken resumes = absurd run
after_woken h v a (e ∷ es) [] b has run j k lt woken resumes = absurd run
after_woken h v a (e ∷ es) (r ∷ rs) b has (mid, step, run) j zero lt woken resumes = absurd (omega arith)
after_woken h v a (e ∷ es) (r ∷ rs) b has (mid, step, run) zero (suc k) lt woken resumes =
    let by = wakes_by a e r mid woken (step_moves h v has.0 a e r mid step has.1) in
    let found = before_resume h v mid es rs b (spent_by a mid by) run k resumes in
    (suc found.0, omega arith, omega arith, later_event e es r rs found.0 found.2)
after_woken h v a (e ∷ es) (r ∷ rs) b has (mid, step, run) (suc j) (suc k) lt woken resumes =
    let found = after_woken h v mid es rs b (one_left h v a e r mid step has) run j k (omega arith) woken resumes in
    (suc found.0, omega arith, omega arith, later_event e es r rs found.0 found.3)

-- What a cut leaves.

abbrev LeavesHeld : Hardware → disk.DiskImage → State → List Event → List Reply → State → ℕ → Type 0
LeavesHeld h v a es rs b k = (held : Held) × HoldsOwn held × LeavesOff h v a es rs b k held

later_off : (h : Hardware) (v : disk.DiskImage) (a mid : State) (e : Event) (es : List Event) (r : Reply) (rs : List Reply) (b : State) (k : ℕ) (held : Held) → Step h v a e r mid → LeavesOff h v mid es rs b k held → LeavesOff h v a (e ∷ es) (r ∷ rs) b (suc k) held
later_off h v a mid e es r rs b k held step left = record { kept = left.kept; leaves = (mid, step, left.leaves); ends = left.ends }

off_now : (h : Hardware) (v : disk.DiskImage) (a mid : State) (e : Event) (es : List Event) (r : Reply) (rs : List Reply) (b : State) (pick : ℕ) → Step h v a e r mid → Some e ≡ Some (event.Cut pick) → Run h v mid es rs b → LeavesOff h v a (e ∷ es) (r ∷ rs) b 0 (held_in a)
off_now h v a mid e es r rs b pick step is run =
    let left : mid ≡ off (held_in a) (kept_in a) = left_by_cut h v a pick r mid (subst (λ (x : Event). Step h v a x r mid) (some_same e (event.Cut pick) is) step) in
    record {
      kept = kept_in a;
      leaves = (mid, step, sym left);
      ends = subst (λ (s : State). Run h v s es rs b) left run;
    }

cut_asleep : (h : Hardware) (v : disk.DiskImage) (a : State) (es : List Event) (rs : List Reply) (b : State) → IsSleeping a → Run h v a es rs b → (k : ℕ) → IsCutAt es k → ((i : ℕ) → i < k → WakesAt rs i ⊎ IsCutAt es i → ⊥) → LeavesHeld h v a es rs b k
cut_asleep h v a [] [] b is run k (pick, at) none = absurd (none-some (event.Cut pick) at)
cut_asleep h v a [] (r ∷ rs) b is run k at none = absurd run
cut_asleep h v a (e ∷ es) [] b is run k at none = absurd run
cut_asleep h v a (e ∷ es) (r ∷ rs) b is (mid, step, run) zero (pick, at) none = (held_in a, sleeping_holds a is, off_now h v a mid e es r rs b pick step at run)
cut_asleep h v a (e ∷ es) (r ∷ rs) b is (mid, step, run) (suc k) at none = elim (step_rests h v a e r mid step is) [
  | inl cut ↦ absurd (none 0 (omega arith) (inr (cut.0, ap (λ (x : Event). Some x) cut.1)))
  | inr more ↦ elim more [
    | inl woken ↦ absurd (none 0 (omega arith) (inl (ap (λ (x : Reply). Some x) woken.0)))
    | inr still ↦
        let found = cut_asleep h v mid es rs b still.0 run k at (λ i lt ends. none (suc i) (omega arith) ends) in
        (found.0, found.1, later_off h v a mid e es r rs b k found.0 step found.2)
  ]
]

cut_after_asleep : (h : Hardware) (v : disk.DiskImage) (a : State) (es : List Event) (rs : List Reply) (b : State) → HasOne a → Run h v a es rs b → (j k : ℕ) → j < k → FallsAsleepAt rs j → IsCutAt es k →
    ((i : ℕ) → j < i → i < k → WakesAt rs i ⊎ IsCutAt es i → ⊥) → LeavesHeld h v a es rs b k
cut_after_asleep h v a [] [] b has run j k lt falls (pick, at) none = absurd (none-some (event.Cut pick) at)
cut_after_asleep h v a [] (r ∷ rs) b has run j k lt falls at none = absurd run
cut_after_asleep h v a (e ∷ es) [] b has run j k lt falls at none = absurd run
cut_after_asleep h v a (e ∷ es) (r ∷ rs) b has (mid, step, run) j zero lt falls at none = absurd (omega arith)
cut_after_asleep h v a (e ∷ es) (r ∷ rs) b has (mid, step, run) zero (suc k) lt (n, falls) at none =
    let sleeps = falls_asleep a e r mid n falls (step_moves h v has.0 a e r mid step has.1) in
    let found = cut_asleep h v mid es rs b sleeps run k at (λ i le ends. none (suc i) (omega arith) (omega arith) ends) in
    (found.0, found.1, later_off h v a mid e es r rs b k found.0 step found.2)
cut_after_asleep h v a (e ∷ es) (r ∷ rs) b has (mid, step, run) (suc j) (suc k) lt falls at none =
    let found = cut_after_asleep h v mid es rs b (one_left h v a e r mid step has) run j k (omega arith) falls at (λ i le less ends. none (suc i) (omega arith) (omega arith) ends) in
    (found.0, found.1, later_off h v a mid e es r rs b k found.0 step found.2)

-- where nothing is held, and no hibernation is accepted
cut_spent : (h : Hardware) (v : disk.DiskImage) (a : State) (es : List Event) (rs : List Reply) (b : State) → IsSpent a → Run h v a es rs b → (k : ℕ) → IsCutAt es k → ((i : ℕ) → i < k → HibernatesAt es rs i → ⊥) → LeavesOff h v a es rs b k nothing
cut_spent h v a [] [] b spent run k (pick, at) none = absurd (none-some (event.Cut pick) at)
cut_spent h v a [] (r ∷ rs) b spent run k at none = absurd run
cut_spent h v a (e ∷ es) [] b spent run k at none = absurd run
cut_spent h v a (e ∷ es) (r ∷ rs) b spent (mid, step, run) zero (pick, at) none =
    subst (λ (held : Held). LeavesOff h v a (e ∷ es) (r ∷ rs) b 0 held) (holds_nothing a spent) (off_now h v a mid e es r rs b pick step at run)
cut_spent h v a (e ∷ es) (r ∷ rs) b spent (mid, step, run) (suc k) at none = elim (spent_stays h v a e r mid step spent) [
  | inl hibernates ↦ absurd (none 0 (omega arith) (first_event e es r rs hibernates))
  | inr stays ↦ later_off h v a mid e es r rs b k nothing step (cut_spent h v mid es rs b stays.0 run k at (λ i lt here. none (suc i) (omega arith) (later_event e es r rs i here)))
]

cut_after_woken : (h : Hardware) (v : disk.DiskImage) (a : State) (es : List Event) (rs : List Reply) (b : State) → HasOne a → Run h v a es rs b → (j k : ℕ) → j < k → WakesAt rs j → IsCutAt es k →
    ((i : ℕ) → j < i → i < k → HibernatesAt es rs i → ⊥) → LeavesOff h v a es rs b k nothing
cut_after_woken h v a [] [] b has run j k lt woken (pick, at) none = absurd (none-some (event.Cut pick) at)
cut_after_woken h v a [] (r ∷ rs) b has run j k lt woken at none = absurd run
cut_after_woken h v a (e ∷ es) [] b has run j k lt woken at none = absurd run
cut_after_woken h v a (e ∷ es) (r ∷ rs) b has (mid, step, run) j zero lt woken at none = absurd (omega arith)
cut_after_woken h v a (e ∷ es) (r ∷ rs) b has (mid, step, run) zero (suc k) lt woken at none =
    let by = wakes_by a e r mid woken (step_moves h v has.0 a e r mid step has.1) in
    later_off h v a mid e es r rs b k nothing step (cut_spent h v mid es rs b (spent_by a mid by) run k at (λ i le here. none (suc i) (omega arith) (omega arith) (later_event e es r rs i here)))
cut_after_woken h v a (e ∷ es) (r ∷ rs) b has (mid, step, run) (suc j) (suc k) lt woken at none =
    later_off h v a mid e es r rs b k nothing step
    (cut_after_woken h v mid es rs b (one_left h v a e r mid step has) run j k (omega arith) woken at (λ i le less here. none (suc i) (omega arith) (omega arith) (later_event e es r rs i here)))

-- a run that begins off with nothing held
pub never_both : (h : Hardware) (v : disk.DiskImage) (kept : Option Memory) (es : List Event) (rs : List Reply) (b : State) → Run h v (off nothing kept) es rs b → NeverBothGoOn h v (off nothing kept) es rs b
never_both h v kept es rs b run =
    let one : HasOne (off nothing kept) = (image_of_memory h [] no_pages Plain, tt) in
    record {
      asleep = after_asleep h v (off nothing kept) es rs b one run;
      wakes = λ k is. elim (woken_in h v (off nothing kept) es rs b one run k is) [
        | inl found ↦ found
        | inr (before, saved, wake) ↦ absurd (none-some before saved)
      ];
      spent = after_woken h v (off nothing kept) es rs b one run;
      cut = cut_after_asleep h v (off nothing kept) es rs b one run;
      gone = cut_after_woken h v (off nothing kept) es rs b one run;
    }
