-- How far the copying has come.
use Rattle.std.proofs.Common.{◌-◌, ◌∷◌, zero, suc, drop, ◌≡◌, ℕ, ◌<◌, ◌≤◌, List, [], length, get_or, refl, sym, ap, ◌∙◌, subst, inl, inr, arith, drop}
use Rattle.std.proofs.lemmas.Bool.{cases_lt}
use Rattle.std.proofs.lemmas.List.{length-drop, length-set, get_or-set_same, get_or-set_other}
use Rattle.std.proofs.lemmas.List.Elements.{Contains-get_or}
use Rattle.std.proofs.lemmas.List.Kept.{AllPairs-from_increasing}
use Rattle.std.specs.List.{Contains}
use Rattle.std.specs.List.Sorted.{IsStrictlyIncreasing}
use Rattle.definitions.specs.Tables.{frame, with_frame}
use Rattle.snapshot.specs.Copies.{AreCopied, AreDisjoint}

rises : (xs : List ℕ) (i j : ℕ) → IsStrictlyIncreasing xs → i < j → j < length xs → get_or xs i 0 < get_or xs j 0
rises xs i j up lt within = AllPairs-from_increasing xs up i j 0 lt within

-- The first k originals are copied.
pub record IsProgress (origs copies : List ℕ) (old now : List (List ℕ)) (k : ℕ) : Type 0 where
  pub few : k ≤ length copies
  pub size : length now ≡ length old
  pub copied : (j : ℕ) → j < k → frame now (get_or copies j 0) ≡ frame old (get_or origs j 0)
  pub others : (p : ℕ) → ((j : ℕ) → j < k → get_or copies j 0 ≡ p → ⊥) → frame now p ≡ frame old p

pub none_copied : (origs copies : List ℕ) (frames : List (List ℕ)) → IsProgress origs copies frames frames 0
none_copied origs copies frames = record {
  few = omega arith;
  size = refl;
  copied = λ j lt. absurd (omega arith);
  others = λ p _. refl;
}

-- what the calls' conditions say of the two sets
pub record ArePaired (origs copies : List ℕ) (frames : List (List ℕ)) : Type 0 where
  pub origs_up : IsStrictlyIncreasing origs
  pub copies_up : IsStrictlyIncreasing copies
  pub equal : length origs ≡ length copies
  pub disjoint : AreDisjoint origs copies
  pub within : (k : ℕ) → k < length copies → get_or copies k 0 < length frames

-- one more is copied
pub one_more_copied : (origs copies : List ℕ) (old now : List (List ℕ)) (k : ℕ) → ArePaired origs copies old → k < length origs → IsProgress origs copies old now k → IsProgress origs copies old (with_frame now (get_or copies k 0) (frame now (get_or origs k 0))) (suc k)
one_more_copied origs copies old now k h lt progress =
    let source = get_or origs k 0 in
    let target = get_or copies k 0 in
    let equal = h.equal in
    let size = progress.size in
    let in_copies : k < length copies = omega arith in
    let page = frame now source in
    let page_is : page ≡ frame old source = progress.others source (λ j below e.
    h.disjoint source (Contains-get_or origs k 0 lt) (subst (λ (x : ℕ). Contains copies x) e (Contains-get_or copies j 0 (omega arith)))) in
    let here : frame (with_frame now target page) target ≡ page =
    get_or-set_same now target page [] (let within = h.within k in_copies in omega arith) in
    record {
      few = in_copies;
      size = length-set now target page ∙ size;
      copied = λ j j_lt. elim (cases_lt j k) [
        | inl before ↦
            let lower = rises copies j k h.copies_up before in_copies in
            get_or-set_other now target (get_or copies j 0) page [] (λ e. omega arith) ∙ progress.copied j before
        | inr ge ↦
            let same : j ≡ k = omega arith in
            ap (λ i. frame (with_frame now target page) (get_or copies i 0)) same ∙ here ∙ page_is
            ∙ ap (λ i. frame old (get_or origs i 0)) (sym same)
      ];
      others = λ p apart.
          get_or-set_other now target p page [] (λ e. apart k (omega arith) (sym e))
          ∙ progress.others p (λ j below. apart j (omega arith));
    }

-- all are copied
pub all_copied : (origs copies : List ℕ) (old now : List (List ℕ)) (k : ℕ) → k ≡ length copies → IsProgress origs copies old now k → AreCopied origs copies old now
all_copied origs copies old now k all progress = record {
  size = progress.size;
  copied = λ j lt. progress.copied j (omega arith);
  others = λ p outside. progress.others p (λ j below e. outside (subst (λ (x : ℕ). Contains copies x) e (Contains-get_or copies j 0 (omega arith))));
}

pub next_left : (xs left left' : List ℕ) (k x : ℕ) → left ≡ drop k xs → left ≡ x ∷ left' → (k < length xs) × (get_or xs k 0 ≡ x) × (left' ≡ drop (suc k) xs)
next_left [] left left' zero x a b = absurd (let e = ap length (sym a ∙ b) in omega arith)
next_left [] left left' (suc k) x a b = absurd (let e = ap length (sym a ∙ b) in omega arith)
next_left (y ∷ ys) left left' zero x a b = (omega arith, ap (λ (zs : List ℕ). get_or zs 0 0) (sym a ∙ b), ap (drop 1) (sym b ∙ a))
next_left (y ∷ ys) left left' (suc k) x a b = let rest = next_left ys left left' k x a b in (let lt = rest.0 in omega arith, rest.1, rest.2)

-- nothing is left after the last
pub at_end : (xs left : List ℕ) (k : ℕ) → left ≡ drop k xs → left ≡ [] → length xs ≤ k
at_end xs left k a b = let none : length xs - k ≡ 0 = sym (length-drop k xs) ∙ ap length (sym a ∙ b) in omega arith
