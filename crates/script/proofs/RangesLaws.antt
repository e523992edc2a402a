-- Ranges that are read word by word.
use Rattle.std.proofs.Common.{◌≡◌, ℕ, ◌+◌, ◌-◌, ◌<◌, ◌≤◌, List, [], ◌∷◌, ◌++◌, length, take, drop, get_or, replicate, true, false, nat_lt, Result, Ok, Err, refl, sym, ap, ◌∙◌, arith, append-nil, take-append-drop}
use Rattle.std.proofs.Math.ListN.{set}
use Rattle.std.proofs.lemmas.List.{take_more_set, get_or-map, drop_all, length-take, drop-set-lt, drop-replicate}
use denote.Ref.{Bor}
use Rattle.std.proofs.lemmas.Bool.Decides.{nat_tests}
use Rattle.plain_machine.specs.declared.event.Ranges.{Ranges}
use Rattle.script.specs.declared.fault.FaultKind.{FaultKind}
use Rattle.script.specs.declared.fault.FaultKind.TheVariants.{Count}
use Rattle.script.specs.Shapes.{range_in, ranges_in, ranges_of, all_ranges}
use Rattle.script.specs.Shapes.{◌>>=◌, texts}
use Rattle.script.proofs.NumbersLaws.{with_front, with_front-append, drop_cons, length-texts}

pub all_ranges-many : (words : List (List ℕ)) → 8 < length words → all_ranges words ≡ Err Count
unfolding all_ranges
all_ranges-many words many = let e : nat_lt 8 (length words) ≡ true = grind (arith, nat_tests) in rw e refl

all_ranges-few : (words : List (List ℕ)) → length words ≤ 8 → all_ranges words ≡ (ranges_in words >>= λ ranges. Ok (ranges_of ranges))
unfolding all_ranges
all_ranges-few words few = let e : nat_lt 8 (length words) ≡ false = grind (arith, nat_tests) in rw e refl

one_more : (w : List ℕ) (ws : List (List ℕ)) (r : ℕ × ℕ) → range_in w ≡ Ok r → ranges_in (w ∷ ws) ≡ with_front (r ∷ []) (ranges_in ws)
unfolding ranges_in
one_more w ws r e = rw e (bound (ranges_in ws)) where
  bound : (rs : Result (List (ℕ × ℕ)) FaultKind) → (rs >>= λ more. Ok (r ∷ more)) ≡ with_front (r ∷ []) rs
  bound (Ok more) = refl
  bound (Err k) = refl

-- one more range is read
pub with_front-more : (words : List (Bor (List ℕ))) (rs : List (ℕ × ℕ)) (i : ℕ) (r : ℕ × ℕ) (d : Bor (List ℕ)) → i < length words → i < length rs → range_in (get_or words i d).now ≡ Ok r → with_front (take (i + 1) (set rs i r)) (ranges_in (drop (i + 1) (texts words))) ≡ with_front (take i rs) (ranges_in (drop i (texts words)))
with_front-more words rs i r d in_words in_ranges e =
    let ws = texts words in
    let w = (get_or words i d).now in
    let at = get_or-map (λ word. word.now) words i d w in_words in
    let in_texts : i < length ws = omega (arith, length-texts words) in
    let here = one_more (get_or ws i w) (drop (i + 1) ws) r (rw at e) in
    rw (drop_cons ws i w in_texts, here, take_more_set rs i r in_ranges) (with_front-append (take i rs) (r ∷ []) (ranges_in (drop (i + 1) ws)))

-- a range is at fault
pub with_front-err : (words : List (Bor (List ℕ))) (rs : List (ℕ × ℕ)) (i : ℕ) (k : FaultKind) (d : Bor (List ℕ)) → i < length words → range_in (get_or words i d).now ≡ Err k → with_front (take i rs) (ranges_in (drop i (texts words))) ≡ Err k
unfolding ranges_in
with_front-err words rs i k d in_words e =
    let ws = texts words in
    let w = (get_or words i d).now in
    let at = get_or-map (λ word. word.now) words i d w in_words in
    let in_texts : i < length ws = omega (arith, length-texts words) in
    let here : range_in (get_or ws i w) ≡ Err k = rw at e in
    rw (drop_cons ws i w in_texts, here) refl

-- all are read
pub with_front-all : (ws : List (List ℕ)) (rs : List (ℕ × ℕ)) (i : ℕ) → length ws ≤ i → with_front (take i rs) (ranges_in (drop i ws)) ≡ Ok (take i rs)
unfolding ranges_in
with_front-all ws rs i no_word = rw (drop_all i ws no_word) (ap (λ x. Ok x) (append-nil (take i rs)))

pub all_ranges-err : (ws : List (List ℕ)) (k : FaultKind) → length ws ≤ 8 → ranges_in ws ≡ Err k → all_ranges ws ≡ Err k
all_ranges-err ws k few e = all_ranges-few ws few ∙ ap (λ r. r >>= λ ranges. Ok (ranges_of ranges)) e

-- the list of a loader's ranges, as far as they are named
pub all_ranges-read : (ws : List (List ℕ)) (list : List (ℕ × ℕ)) (i n : ℕ) → i ≡ n → n ≡ length ws → n ≤ 8 → length list ≡ 8 → drop i list ≡ replicate {A = ℕ × ℕ} (8 - i) (0, 0) → ranges_in ws ≡ Ok (take i list) → all_ranges ws ≡ Ok (record { count = n; list = list })
all_ranges-read ws list i n end len few size rest e =
    let front : length (take i list) ≡ i = omega (arith, length-take i list) in
    let named : (m : ℕ) → m ≡ i → take i list ++ replicate {A = ℕ × ℕ} (8 - m) (0, 0) ≡ list = λ m is. ap (λ (j : ℕ). take i list ++ replicate {A = ℕ × ℕ} (8 - j) (0, 0)) is ∙ ap (λ x. take i list ++ x) (sym rest) ∙ take-append-drop i list in
    let same : ranges_of (take i list) ≡ record { count = n; list = list } = ranges_same (length (take i list)) n _ list (omega arith) (named _ front) in
    all_ranges-few ws (omega arith) ∙ ap (λ r. r >>= λ ranges. Ok (ranges_of ranges)) e ∙ ap (λ x. Ok x) same where
      ranges_same : (a b : ℕ) (xs ys : List (ℕ × ℕ)) → a ≡ b → xs ≡ ys → ◌≡◌ {A = Ranges} (record { count = a; list = xs }) (record { count = b; list = ys })
      ranges_same a b xs ys e h = cc

-- the places after those that are read
pub rest_more : (rs : List (ℕ × ℕ)) (i : ℕ) (r : ℕ × ℕ) → length rs ≡ 8 → i < 8 → drop i rs ≡ replicate {A = ℕ × ℕ} (8 - i) (0, 0) → drop (i + 1) (set rs i r) ≡ replicate {A = ℕ × ℕ} (8 - (i + 1)) (0, 0)
rest_more rs i r len in_list rest =
    let nought : ℕ × ℕ = (0, 0) in
    let tail : drop 1 (drop i rs) ≡ drop (i + 1) rs = ap (drop 1) (drop_cons rs i nought (omega arith)) in
    let zeros : (n : ℕ) → n ≡ 8 - i - 1 → replicate n nought ≡ drop 1 (replicate (8 - i) nought) = λ n is. ap (λ (m : ℕ). replicate m nought) is ∙ sym (drop-replicate 1 (8 - i) nought) in
    drop-set-lt (i + 1) rs i r (omega arith) ∙ sym tail ∙ ap (drop 1) rest ∙ sym (zeros (8 - (i + 1)) (omega arith))
