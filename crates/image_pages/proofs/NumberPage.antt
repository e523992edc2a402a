-- What is known of a number page that has no finding.
use Rattle.std.proofs.Common.{◌≡◌, ℕ, ◌+◌, ◌*◌, ◌-◌, ◌<◌, Bool, true, false, List, [], Option, Some, None, cond, eqb, leb, ltb, zero, suc, refl, sym, ap, subst, ◌∙◌, inl, inr, arith}
use Rattle.std.proofs.lemmas.Bool.{cases_lt, leb-false, lt-ltb, ne_eqb}
use Rattle.page_core.specs.declared.format.Format.{Format}
use Rattle.definitions.specs.Bytes.{word}
use Rattle.image_check.specs.Numbers.{end_fault, frame_of, number_fault, number_findings, order_fault, word_before, word_fault}
use Rattle.image_check.specs.Told.{each_below, list_of}
use Rattle.image_check.specs.declared.finding.Finding.{Finding}
use Rattle.image_check.specs.declared.finding.Finding.TheVariants as finding
use Rattle.image_pages.proofs.Findings.{left_none, right_none, no_finding}
use Rattle.image_pages.proofs.Begun.{unless, when}

-- a test that leads to a finding isn't met
not_met : (t : Bool) (f : Finding) (rest : Option Finding) → cond t (Some f) rest ≡ None → (t ≡ false) × (rest ≡ None)
not_met true f rest e = cc
not_met false f rest e = (refl, e)

each_none : (f : ℕ → Option Finding) (m : ℕ) → each_below f m ≡ [] → (i : ℕ) → i < m → f i ≡ None
unfolding each_below
each_none f zero none i lt = absurd (omega arith)
each_none f (suc m) none i lt = elim (cases_lt i m) [
  | inl less ↦ each_none f m (left_none (each_below f m) (list_of (f m)) none) i less
  | inr le ↦ let e : m ≡ i = omega arith in
      subst (λ (j : ℕ). f j ≡ None) e (no_finding (f m) (right_none (each_below f m) (list_of (f m)) none))
]

-- a number is that of a page frame, and above the one before
pub record IsNumber (format : Format) (w : ℕ) (before : Option ℕ) : Type 0 where
  pub small : frame_of format w < 4503599627370496
  pub above : (b : ℕ) → before ≡ Some b → frame_of format b < frame_of format w

word_clean : (format : Format) (n page i w : ℕ) (before : Option ℕ) → word_fault format n page i w before ≡ None → 512 * (page - 1) + i < n → IsNumber format w before
word_clean format n page i w before clean lt =
    let at = 512 * (page - 1) + i in
    let number : number_fault format page i w before ≡ None =
    sym (when (ltb at n) (number_fault format page i w before) (cond (eqb at n) (end_fault page i w) None) (lt-ltb at n lt)) ∙ clean in
    let both = not_met (leb 4503599627370496 (frame_of format w)) (finding.Number page i (frame_of format w)) (order_fault format page i w before) number in
    record {
      small = leb-false 4503599627370496 (frame_of format w) both.0;
      above = λ b is.
          let order = subst (λ (x : Option ℕ). order_fault format page i w x ≡ None) is both.1 in
          leb-false (frame_of format w) (frame_of format b) (not_met (leb (frame_of format w) (frame_of format b)) (finding.Order page i (frame_of format w) (frame_of format b)) None order).0;
    }

-- each number of a page without a finding
pub page_clean : (format : Format) (n position : ℕ) (previous : Option ℕ) (page : List ℕ) → number_findings format n position previous page ≡ [] → (j : ℕ) → j < 512 → 512 * (position - 1) + j < n → IsNumber format (word page j) (word_before previous page j)
page_clean format n position previous page clean j lt inside =
    word_clean format n position j (word page j) (word_before previous page j)
    (each_none (λ i. word_fault format n position i (word page i) (word_before previous page i)) 512 clean j lt) inside

pub before_first : (previous : Option ℕ) (page : List ℕ) (j : ℕ) → j ≡ 0 → word_before previous page j ≡ previous
before_first previous page j e = ap (λ (i : ℕ). word_before previous page i) e

pub before_later : (previous : Option ℕ) (page : List ℕ) (j : ℕ) → 0 < j → word_before previous page j ≡ Some (word page (j - 1))
before_later previous page j lt = unless (eqb j 0) previous (Some (word page (j - 1))) (ne_eqb j 0 (λ e. omega arith))
