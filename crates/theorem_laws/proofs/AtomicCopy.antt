-- What a resume restores is what was there when the last hibernation before it was accepted.
use Rattle.std.proofs.Common.{zero, suc, ◌≡◌, ◌<◌, ℕ, Bool, true, false, List, [], ◌∷◌, Option, Some, refl, sym, ap, ◌∙◌, subst, ◌⊎◌, inl, inr, arith}
use Rattle.std.proofs.lemmas.Bool.{false≢true}
use Rattle.std.proofs.lemmas.Option.{none-some}
use Rattle.page_core.specs.declared.format.Format.{Format}
use Rattle.definitions.specs.Disk as disk
use Rattle.plain_machine.specs.Machine.{Hardware, Memory}
use Rattle.plain_machine.specs.Image.{Image, image_of_memory}
use Rattle.plain_machine.specs.Loader.{restored}
use Rattle.plain_machine.specs.State.{State, off, Running, nothing}
use Rattle.plain_machine.specs.Step.{Step, Run, begun, resumed}
use Rattle.plain_machine.specs.declared.event.Event.{Event}
use Rattle.plain_machine.specs.declared.event.Loader.{Loader}
use Rattle.plain_machine.specs.declared.event.Loader.TheVariants as loader
use Rattle.plain_machine.specs.declared.reply.Reply.{Reply}
use Rattle.plain_machine.specs.declared.reply.Reply.TheVariants as reply
use Rattle.theorem_laws.specs.Resumes.{is_hibernation}
use Rattle.std.specs.Prelude.{take, drop}
use Rattle.plain_machine.specs.Step.{no_slots as no_pages}
use Rattle.page_core.specs.declared.format.Format.TheVariants.{Plain}
use Rattle.plain_machine.proofs.Restoring.{restored-saveable}
use Rattle.std.proofs.lemmas.Bool.{cases_Bool}
use Rattle.theorem_laws.specs.Resumes.{HibernatesAt, ResumesAt}
use Rattle.theorem_laws.specs.Copies.{IsRestored, IsCopyOf, AllRestore}
use Rattle.theorem_laws.proofs.Once.{is_resumed, no_hibernation, first_event, later_event, before_resume}
use Rattle.theorem_laws.proofs.Keeping.{HasOnly, IsFrom}
use Rattle.theorem_laws.proofs.Events.{keeps_image}
use Rattle.theorem_laws.proofs.Beginning.{BeginsFrom, begins_by}

-- What is restored.

restored_from : (h : Hardware) (before : Running) (f : Format) (dump : Memory) (from : Loader) →
    IsRestored h before (resumed (restored h dump from (image_of_memory h before.memory before.slots f)) before.slots from)
restored_from h before f dump (loader.Ranges ranges) = record {
  pages = λ p in' lt. restored-saveable h dump before.memory (loader.Ranges ranges) before.slots f p in' lt;
  slots = refl;
}
restored_from h before f dump loader.Table = tt

is_restored : (h : Hardware) (before : Running) (f : Format) (after : State) → IsFrom h (image_of_memory h before.memory before.slots f) after → IsRestored h before after
is_restored h before f after from = subst (IsRestored h before) (sym from.2) (restored_from h before f from.0 from.1)

-- Over a run.

abbrev NoneBefore : List Event → List Reply → ℕ → Type 0
NoneBefore es rs k = (j : ℕ) → j < k → HibernatesAt es rs j → ⊥

-- no hibernation is accepted before event k, after which the machine is as this image says
record IsOfImage (h : Hardware) (v : disk.DiskImage) (i : Image) (a : State) (es : List Event) (rs : List Reply) (b : State) (k : ℕ) : Type 0 where
  pub none : NoneBefore es rs k
  pub after : State
  pub resumes : Run h v a (take (suc k) es) (take (suc k) rs) after
  pub ends : Run h v after (drop (suc k) es) (drop (suc k) rs) b
  pub from : IsFrom h i after

earlier_event : (e : Event) (es : List Event) (r : Reply) (rs : List Reply) (j : ℕ) → HibernatesAt (e ∷ es) (r ∷ rs) (suc j) → HibernatesAt es rs j
earlier_event e es r rs j at = record {
  asked = at.asked;
  answer = at.answer;
  is_asked = at.is_asked;
  is_answer = at.is_answer;
  accepted = at.accepted;
}

some_same : {A : Type 0} (x y : A) → Some x ≡ Some y → x ≡ y
some_same x y e = cc

not_at_first : (e : Event) (es : List Event) (r : Reply) (rs : List Reply) → is_hibernation e r ≡ false → HibernatesAt (e ∷ es) (r ∷ rs) 0 → ⊥
not_at_first e es r rs none at =
    false≢true (sym none ∙ ap (λ (x : Event). is_hibernation x r) (some_same e at.asked at.is_asked) ∙ ap (is_hibernation at.asked) (some_same r at.answer at.is_answer) ∙ at.accepted)

none_later : (e : Event) (es : List Event) (r : Reply) (rs : List Reply) (k : ℕ) → is_hibernation e r ≡ false → NoneBefore es rs k → NoneBefore (e ∷ es) (r ∷ rs) (suc k)
none_later e es r rs k none later zero lt at = not_at_first e es r rs none at
none_later e es r rs k none later (suc j) lt at = later j (omega arith) (earlier_event e es r rs j at)

last_later : (e : Event) (es : List Event) (r : Reply) (rs : List Reply) (at k : ℕ) → ((j : ℕ) → at < j → j < k → HibernatesAt es rs j → ⊥) → (j : ℕ) → suc at < j → j < suc k → HibernatesAt (e ∷ es) (r ∷ rs) j → ⊥
last_later e es r rs at k last zero lt le here = absurd (omega arith)
last_later e es r rs at k last (suc j) lt le here = last j (omega arith) (omega arith) (earlier_event e es r rs j here)

last_first : (e : Event) (es : List Event) (r : Reply) (rs : List Reply) (k : ℕ) → NoneBefore es rs k → (j : ℕ) → 0 < j → j < suc k → HibernatesAt (e ∷ es) (r ∷ rs) j → ⊥
last_first e es r rs k none zero lt le here = absurd (omega arith)
last_first e es r rs k none (suc j) lt le here = none j (omega arith) (earlier_event e es r rs j here)

later_copy : (h : Hardware) (v : disk.DiskImage) (a mid : State) (e : Event) (es : List Event) (r : Reply) (rs : List Reply) (b : State) (k : ℕ) → Step h v a e r mid → IsCopyOf h v mid es rs b k → IsCopyOf h v a (e ∷ es) (r ∷ rs) b (suc k)
later_copy h v a mid e es r rs b k step copy = record {
  at = suc copy.at;
  earlier = let lt = copy.earlier in omega arith;
  hibernates = later_event e es r rs copy.at copy.hibernates;
  last = last_later e es r rs copy.at k copy.last;
  before = copy.before;
  begins = (mid, step, copy.begins);
  after = copy.after;
  resumes = copy.resumes;
  ends = copy.ends;
  restored = copy.restored;
}

abbrev IsFound : Hardware → disk.DiskImage → Image → State → List Event → List Reply → State → ℕ → Type 0
IsFound h v i a es rs b k = IsCopyOf h v a es rs b k ⊎ IsOfImage h v i a es rs b k

-- after a hibernation that was accepted
after_begin : (h : Hardware) (v : disk.DiskImage) (i : Image) (a mid : State) (e : Event) (es : List Event) (r : Reply) (rs : List Reply) (b : State) (k : ℕ) → Step h v a e r mid → is_hibernation e r ≡ true →
    (begun : BeginsFrom h a mid) → IsFound h v (image_of_memory h begun.0.memory begun.0.slots begun.1) mid es rs b k → IsFound h v i a (e ∷ es) (r ∷ rs) b (suc k)
after_begin h v i a mid e es r rs b k step is begun (inl copy) = inl (later_copy h v a mid e es r rs b k step copy)
after_begin h v i a mid e es r rs b k step is (before, f, same, has) (inr image) =
    inl (record {
      at = 0;
      earlier = omega arith;
      hibernates = first_event e es r rs is;
      last = last_first e es r rs k image.none;
      before = before;
      begins = sym same;
      after = image.after;
      resumes = (mid, subst (λ (s : State). Step h v s e r mid) same step, image.resumes);
      ends = image.ends;
      restored = is_restored h before f image.after image.from;
    })

-- after another event
after_other : (h : Hardware) (v : disk.DiskImage) (i : Image) (a mid : State) (e : Event) (es : List Event) (r : Reply) (rs : List Reply) (b : State) (k : ℕ) → Step h v a e r mid → is_hibernation e r ≡ false →
    IsFound h v i mid es rs b k → IsFound h v i a (e ∷ es) (r ∷ rs) b (suc k)
after_other h v i a mid e es r rs b k step none (inl copy) = inl (later_copy h v a mid e es r rs b k step copy)
after_other h v i a mid e es r rs b k step none (inr image) =
    inr (record {
      none = none_later e es r rs k none image.none;
      after = image.after;
      resumes = (mid, step, image.resumes);
      ends = image.ends;
      from = image.from;
    })

none_at_first : (es : List Event) (rs : List Reply) → NoneBefore es rs 0
none_at_first es rs j lt at = absurd (omega arith)

not_true : (b : Bool) → (b ≡ true → ⊥) → b ≡ false
not_true true no_way = absurd (no_way refl)
not_true false no_way = refl

found_in : (h : Hardware) (v : disk.DiskImage) (i : Image) (a : State) (es : List Event) (rs : List Reply) (b : State) → HasOnly i a → Run h v a es rs b → (k : ℕ) → ResumesAt rs k → IsFound h v i a es rs b k
found_in h v i a [] [] b has run k (n, e) = absurd (none-some (reply.Resumed n) e)
found_in h v i a [] (r ∷ rs) b has run k is = absurd run
found_in h v i a (e ∷ es) [] b has run k is = absurd run
found_in h v i a (e ∷ es) (r ∷ rs) b has (mid, step, run) zero (n, is) =
    let kept = keeps_image h v i a e r mid step has (not_true (is_hibernation e r) (no_hibernation e r n is)) in
    inr (record {
      none = none_at_first (e ∷ es) (r ∷ rs);
      after = mid;
      resumes = (mid, step, refl);
      ends = run;
      from = kept.1 (is_resumed n r is);
    })
found_in h v i a (e ∷ es) (r ∷ rs) b has (mid, step, run) (suc k) is =
    elim (cases_Bool (is_hibernation e r)) [
      | inl begun ↦
          let from = begins_by h v a e r mid step begun in
          after_begin h v i a mid e es r rs b k step begun from (found_in h v (image_of_memory h from.0.memory from.0.slots from.1) mid es rs b from.3 run k is)
      | inr none ↦ after_other h v i a mid e es r rs b k step none (found_in h v i mid es rs b (keeps_image h v i a e r mid step has none).0 run k is)
    ]

-- a run that begins with nothing held has an image only by a hibernation
pub all_restore : (h : Hardware) (v : disk.DiskImage) (kept : Option Memory) (es : List Event) (rs : List Reply) (b : State) → Run h v (off nothing kept) es rs b → AllRestore h v (off nothing kept) es rs b
all_restore h v kept es rs b run k is =
    let any = image_of_memory h [] no_pages Plain in
    elim (found_in h v any (off nothing kept) es rs b tt run k is) [
      | inl copy ↦ copy
      | inr image ↦ let found = before_resume h v (off nothing kept) es rs b refl run k is in absurd (image.none found.0 found.1 found.2)
    ]
