-- A loop that has come to the end of a history.
use Rattle.std.proofs.Common.{◌≡◌, ℕ, ◌≤◌, ◌||◌, List, [], ◌∷◌, Bool, true, false, Option, subst, ◌∙◌, refl, inl, inr, arith}
use Rattle.std.proofs.lemmas.Bool.{cases_lt}
use Rattle.page_core.specs.declared.format.Format.{Format}
use Rattle.definitions.specs.Disk.{Content, HasRisen}
use Rattle.image_walk.specs.Names.{Name, answer_of, is_over, is_unread, AreReadFrom, IsReading}
use Rattle.image_walk.specs.Walking.{Follows, StepsTo, name_of}
use Rattle.image_walk.specs.declared.limits.Limits.{Limits}
use Rattle.image_walk.specs.declared.visit.Visit.{Visit}
use Rattle.image_walk.specs.declared.walker.Walker.{Walker}
use Rattle.image_check.specs.Checked.{has_unread, FindsNames}
use Rattle.image_check.specs.Image.{history_findings, name_findings}
use Rattle.image_check.specs.Knows.{Knows}
use Rattle.image_check.specs.Told.{Told, Tells}
use Rattle.image_check.specs.declared.finding.Finding.{Finding}
use Rattle.image_check.specs.declared.progress.Progress.{Progress}
use Rattle.image_check.proofs.Telling.{tells_none, tells_then}

pub record SoFar (l : Limits) (first : ℕ) (content : Option Content) (before now : ℕ) (format : Format) (start told : Told) (w : Walker) (p : Progress) : Type 0 where
  pub history : List Name
  pub limits : w.limits ≡ l
  pub rises : before ≤ now
  pub follows : Follows first w history
  pub knows : Knows p history
  pub pages : AreReadFrom content history
  pub unread : has_unread history ≡ true → HasRisen before now
  pub tells : Tells (history_findings format history) start told

pub so_far_start : (first : ℕ) (content : Option Content) (before : ℕ) (format : Format) (start : Told) (w : Walker) (p : Progress) → Follows first w [] → Knows p [] → SoFar w.limits first content before before format start start w p
so_far_start first content before format start w p f knows = record {
  history = [];
  limits = refl;
  rises = omega arith;
  follows = f;
  knows = knows;
  pages = tt;
  unread = λ e. absurd (false_true e);
  tells = tells_none start;
} where
  false_true : false ≡ true → ⊥
  false_true e = cc

-- a failure before stays a failure
stays : (before then now : ℕ) → before ≤ then → then ≤ now → HasRisen before then → HasRisen before now
stays before then now le more (inl lt) = inl (omega arith)
stays before then now le more (inr last) = elim (cases_lt then now) [ inl lt ↦ inl (omega arith) | inr ge ↦ inr (omega arith) ]

more_unread : (a b : Bool) (before then now : ℕ) → before ≤ then → then ≤ now → (a ≡ true → HasRisen then now) → (b ≡ true → HasRisen before then) → (a || b) ≡ true → HasRisen before now
more_unread true b before then now le more new old e = elim (new refl) [ inl lt ↦ inl (omega arith) | inr last ↦ inr last ]
more_unread false b before then now le more new old e = stays before then now le more (old e)

pub so_far_more : (l : Limits) (first : ℕ) (content : Option Content) (before then now : ℕ) (format : Format) (start told last : Told) (w new : Walker) (p q : Progress) (v : Visit) (page : List ℕ) (s : SoFar l first content before then format start told w p) → then ≤ now → new.limits ≡ w.limits → StepsTo first content then now s.history w new v page → Tells (name_findings format s.history (name_of v page)) told last → Knows q (name_of v page ∷ s.history) → SoFar l first content before now format start last new q
so_far_more l first content before then now format start told last w new p q v page s le limits step tells knows = record {
  history = name_of v page ∷ s.history;
  limits = limits ∙ s.limits;
  rises = omega (arith, s.rises);
  follows = step.follows;
  knows = knows;
  pages = (s.pages, step.seen.page);
  unread = more_unread (is_unread (answer_of (name_of v page))) (has_unread s.history) before then now s.rises le step.seen.unread s.unread;
  tells = tells_then (history_findings format s.history) (name_findings format s.history (name_of v page)) start told last s.tells tells;
}

pub so_far_end : (l : Limits) (first : ℕ) (content : Option Content) (before then now : ℕ) (format : Format) (start told : Told) (w : Walker) (p : Progress) (s : SoFar l first content before then format start told w p) → then ≤ now → is_over s.history ≡ true → (found : List Finding) × (FindsNames l first content before now format found × Tells found start told)
so_far_end l first content before then now format start told w p s le over = (
  history_findings format s.history,
  (
    (
      s.history,
      (
        record {
          reading = subst (λ (x : Limits). IsReading x first s.history) s.limits s.follows.reading;
          over = over;
          pages = s.pages;
          unread = λ e. stays before then now s.rises le (s.unread e);
        },
        refl,
      ),
    ),
    s.tells,
  ),
)
