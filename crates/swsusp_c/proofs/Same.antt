-- The numbers and pages of a state are those of one resume alone.
use Rattle.std.proofs.Common.{◌≡◌, ℕ, ◌^◌, ◌<◌, ◌≤◌, Option, Some, None, refl, ap, ◌∙◌}
use mathlib.Core.HLevel.{is_prop→PathP}
use native.Mathlib.Bridge.{le_prop}
use Rattle.boot_resume.specs.declared.reading.Reading.{Reading}
use Rattle.boot_resume.specs.declared.resume.Resume.{Resume}
use Rattle.swsusp_c.specs.State.{has_of, last_by, mark_by, number_of, state_of}
use Rattle.swsusp_c.specs.declared.state.SwsuspResume.{SwsuspResume}

value_or : {A : Type 0} → A → Option A → A
value_or other None = other
value_or other (Some x) = x

pub some_is : {A : Type 0} (x y : A) → Some x ≡ Some y → x ≡ y
unfolding value_or
some_is x y e = ap (value_or x) e

pub last_back : (o : Option ℕ) → last_by (has_of o) (number_of o) ≡ o
last_back None = refl
last_back (Some n) = refl

reading_same : (a b : Reading) → a.mark ≡ b.mark → a.saved ≡ b.saved → a.pages ≡ b.pages → a.page ≡ b.page → a.map ≡ b.map → a.given ≡ b.given → a.last ≡ b.last → a.with_data ≡ b.with_data → a.again ≡ b.again → a.numbers ≡ b.numbers → a.frame ≡ b.frame → a ≡ b
reading_same a b mark saved pages page map given last with_data again numbers frame = λ i. record {
  mark = mark i;
  saved = saved i;
  pages = pages i;
  page = page i;
  map = map i;
  given = given i;
  last = last i;
  with_data = with_data i;
  again = again i;
  numbers = numbers i;
  frame = frame i;
  few = is_prop→PathP (λ j. saved j < 2 ^ 52) (λ j x y. le_prop x y) a.few b.few i;
  within = is_prop→PathP (λ j. given j ≤ saved j) (λ j x y. le_prop x y) a.within b.within i;
  counted = is_prop→PathP (λ j. with_data j ≤ given j) (λ j x y. le_prop x y) a.counted b.counted i;
}

module _ (s : SwsuspResume) (r : Resume) (e : s ≡ state_of r) where
  pub reading_back : (a : Reading) → a.mark ≡ mark_by s → a.saved ≡ s.saved → a.pages ≡ s.pages → a.page ≡ s.page → a.map ≡ s.map → a.given ≡ s.given → a.last ≡ last_by s.has_last s.last → a.with_data ≡ s.with_data → a.again ≡ s.again → a.numbers ≡ s.numbers → a.frame ≡ s.frame → Some a ≡ Some r.reading
  reading_back a mark saved pages page map given last with_data again numbers frame =
      ap Some
      (reading_same a r.reading (mark ∙ ap mark_by e) (saved ∙ ap (λ x. x.saved) e) (pages ∙ ap (λ x. x.pages) e) (page ∙ ap (λ x. x.page) e)
      (map ∙ ap (λ x. x.map) e) (given ∙ ap (λ x. x.given) e) (last ∙ ap (λ x. last_by x.has_last x.last) e ∙ last_back r.reading.last)
      (with_data ∙ ap (λ x. x.with_data) e) (again ∙ ap (λ x. x.again) e) (numbers ∙ ap (λ x. x.numbers) e) (frame ∙ ap (λ x. x.frame) e))
