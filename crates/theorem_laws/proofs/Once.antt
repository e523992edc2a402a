-- An image is resumed at most once.
use Rattle.std.proofs.Common.{zero, suc, ◌≡◌, ◌<◌, ℕ, true, List, [], ◌∷◌, Option, Some, refl, inl, inr, arith}
use Rattle.std.proofs.lemmas.Bool.{false≢true}
use Rattle.std.proofs.lemmas.Option.{none-some}
use Rattle.definitions.specs.Disk as disk
use Rattle.plain_machine.specs.Machine.{Hardware, Memory}
use Rattle.plain_machine.specs.State.{State, off, nothing}
use Rattle.plain_machine.specs.Step.{Run}
use Rattle.plain_machine.specs.declared.event.Event.{Event}
use Rattle.plain_machine.specs.declared.event.Event.TheVariants as event
use Rattle.plain_machine.specs.declared.reply.Reply.{Reply}
use Rattle.plain_machine.specs.declared.reply.Reply.TheVariants as reply
use Rattle.theorem_laws.specs.Resumes.{is_hibernation, HibernatesAt, ResumesAt, AreResumedOnce}
use Rattle.theorem_laws.proofs.Spent.{IsResumed, IsSpent}
use Rattle.theorem_laws.proofs.Resuming.{resume_spends}
use Rattle.theorem_laws.proofs.Staying.{Stays, spent_stays}

pub is_resumed : (n : ℕ) (r : Reply) → Some r ≡ Some (reply.Resumed n) → IsResumed r
is_resumed n (reply.Resumed k) e = tt
is_resumed n _ e = absurd (cc)

-- a hibernation that is accepted ends no resume
ends_no_resume : (e : Event) (n : ℕ) → is_hibernation e (reply.Resumed n) ≡ true → ⊥
ends_no_resume (event.Hibernate f) n is = false≢true is
ends_no_resume (event.Suspend f) n is = false≢true is
ends_no_resume _ n is = false≢true is

pub no_hibernation : (e : Event) (r : Reply) (n : ℕ) → Some r ≡ Some (reply.Resumed n) → is_hibernation e r ≡ true → ⊥
no_hibernation e (reply.Resumed k) n is hibernates = ends_no_resume e k hibernates
no_hibernation e _ n is hibernates = absurd (cc)

-- a hibernation is the first event, or is found among the later ones
pub first_event : (e : Event) (es : List Event) (r : Reply) (rs : List Reply) → is_hibernation e r ≡ true → HibernatesAt (e ∷ es) (r ∷ rs) 0
first_event e es r rs is = record {
  asked = e;
  answer = r;
  is_asked = refl;
  is_answer = refl;
  accepted = is;
}

pub later_event : (e : Event) (es : List Event) (r : Reply) (rs : List Reply) (j : ℕ) → HibernatesAt es rs j → HibernatesAt (e ∷ es) (r ∷ rs) (suc j)
later_event e es r rs j at = record {
  asked = at.asked;
  answer = at.answer;
  is_asked = at.is_asked;
  is_answer = at.is_answer;
  accepted = at.accepted;
}

-- this event is a hibernation, or a hibernation stands among the later events
found_by : (e : Event) (es : List Event) (r : Reply) (rs : List Reply) (mid : State) (k : ℕ) → Stays e (r, mid) → (IsSpent mid → (j : ℕ) × (j < k) × HibernatesAt es rs j) →
    (j : ℕ) × (j < suc k) × HibernatesAt (e ∷ es) (r ∷ rs) j
found_by e es r rs mid k (inl hibernates) later = (0, omega arith, first_event e es r rs hibernates)
found_by e es r rs mid k (inr stays) later = let found = later stays.0 in (suc found.0, omega arith, later_event e es r rs found.0 found.2)

not_first : (e : Event) (r : Reply) (mid : State) (n : ℕ) → Stays e (r, mid) → Some r ≡ Some (reply.Resumed n) → ⊥
not_first e r mid n (inl hibernates) is = no_hibernation e r n is hibernates
not_first e r mid n (inr stays) is = stays.1 (is_resumed n r is)

-- from a spent state a hibernation stands before each resume
pub before_resume : (h : Hardware) (v : disk.DiskImage) (a : State) (es : List Event) (rs : List Reply) (b : State) → IsSpent a → Run h v a es rs b → (k : ℕ) → ResumesAt rs k → (j : ℕ) × (j < k) × HibernatesAt es rs j
before_resume h v a [] [] b spent run k (n, e) = absurd (none-some (reply.Resumed n) e)
before_resume h v a [] (r ∷ rs) b spent run k is = absurd run
before_resume h v a (e ∷ es) [] b spent run k is = absurd run
before_resume h v a (e ∷ es) (r ∷ rs) b spent (mid, step, run) zero (n, is) = absurd (not_first e r mid n (spent_stays h v a e r mid step spent) is)
before_resume h v a (e ∷ es) (r ∷ rs) b spent (mid, step, run) (suc k) is =
    found_by e es r rs mid k (spent_stays h v a e r mid step spent) (λ next. before_resume h v mid es rs b next run k is)

-- in any run a hibernation stands between two resumes
pub between_resumes : (h : Hardware) (v : disk.DiskImage) (a : State) (es : List Event) (rs : List Reply) (b : State) → Run h v a es rs b → (i k : ℕ) → i < k → ResumesAt rs i → ResumesAt rs k → (j : ℕ) × (i < j) × (j < k) × HibernatesAt es rs j
between_resumes h v a [] [] b run i k lt (n, e) then = absurd (none-some (reply.Resumed n) e)
between_resumes h v a [] (r ∷ rs) b run i k lt first then = absurd run
between_resumes h v a (e ∷ es) [] b run i k lt first then = absurd run
between_resumes h v a (e ∷ es) (r ∷ rs) b (mid, step, run) i zero lt first then = absurd (omega arith)
between_resumes h v a (e ∷ es) (r ∷ rs) b (mid, step, run) zero (suc k) lt (n, is) then =
    let found = before_resume h v mid es rs b (resume_spends h v a e r mid step (is_resumed n r is)) run k then in
    (suc found.0, omega arith, omega arith, later_event e es r rs found.0 found.2)
between_resumes h v a (e ∷ es) (r ∷ rs) b (mid, step, run) (suc i) (suc k) lt first then =
    let found = between_resumes h v mid es rs b run i k (omega arith) first then in
    (suc found.0, omega arith, omega arith, later_event e es r rs found.0 found.3)

pub resumed_once : (h : Hardware) (v : disk.DiskImage) (kept : Option Memory) (es : List Event) (rs : List Reply) (b : State) → Run h v (off nothing kept) es rs b → AreResumedOnce es rs
resumed_once h v kept es rs b run = record {
  hibernated = before_resume h v (off nothing kept) es rs b refl run;
  once = between_resumes h v (off nothing kept) es rs b run;
}
