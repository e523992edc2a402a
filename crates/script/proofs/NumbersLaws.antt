-- Numbers that are read word by word.
use Rattle.std.proofs.Common.{◌≡◌, ℕ, suc, ◌+◌, ◌-◌, ◌<◌, ◌≤◌, List, [], ◌∷◌, ◌++◌, length, take, drop, get_or, Result, Ok, Err, Option, Some, None, refl, sym, ap, arith, add-one, append_assoc, append-nil}
use Rattle.std.proofs.Math.ListN.{set}
use Rattle.std.proofs.Math.Seq.{drop-cons}
use Rattle.std.proofs.lemmas.List.{take_more_set, get_or-map, length-map, map-append, drop_all, take_all}
use denote.Ref.{Bor}
use Rattle.std.proofs.lemmas.Bool.Decides.{nat_tests}
use Rattle.script.specs.declared.fault.FaultKind.{FaultKind}
use Rattle.script.specs.declared.words.Span.{Span}
use Rattle.script.specs.Shapes.{◌>>=◌, texts, number_in, number_of, in_span, numbers_in, all_numbers, AllWithin}
use Rattle.script.specs.declared.fault.FaultKind.TheVariants.{Count}

-- what was read before, and what is left
abbrev pub with_front : {A : Type 0} → List A → Result (List A) FaultKind → Result (List A) FaultKind
with_front front (Ok ns) = Ok (front ++ ns)
with_front front (Err k) = Err k

pub with_front-nil : {A : Type 0} (r : Result (List A) FaultKind) → with_front [] r ≡ r
with_front-nil (Ok ns) = refl
with_front-nil (Err k) = refl

pub drop_cons : {A : Type 0} (l : List A) (i : ℕ) (d : A) → i < length l → drop i l ≡ get_or l i d ∷ drop (i + 1) l
drop_cons l i d h = rw add-one (drop-cons l i d h)

pub with_front-append : {A : Type 0} (front more : List A) (r : Result (List A) FaultKind) → with_front (front ++ more) r ≡ with_front front (with_front more r)
with_front-append front more (Ok ns) = ap (λ x. Ok x) (append_assoc front more ns)
with_front-append front more (Err k) = refl

one_more : (s : Span) (spans : List Span) (w : List ℕ) (ws : List (List ℕ)) (n : ℕ) → number_in s w ≡ Ok n → numbers_in (s ∷ spans) (w ∷ ws) ≡ with_front (n ∷ []) (numbers_in spans ws)
unfolding numbers_in
one_more s spans w ws n e = rw e (bound (numbers_in spans ws)) where
  bound : (r : Result (List ℕ) FaultKind) → (r >>= λ ns. Ok (n ∷ ns)) ≡ with_front (n ∷ []) r
  bound (Ok ns) = refl
  bound (Err k) = refl

-- one more number is read
with_front-next : (spans : List Span) (ws : List (List ℕ)) (ns : List ℕ) (i n : ℕ) (d : Span) (w : List ℕ) → i < length spans → i < length ws → i < length ns → number_in (get_or spans i d) (get_or ws i w) ≡ Ok n → with_front (take (i + 1) (set ns i n)) (numbers_in (drop (i + 1) spans) (drop (i + 1) ws)) ≡ with_front (take i ns) (numbers_in (drop i spans) (drop i ws))
with_front-next spans ws ns i n d w in_spans in_words in_numbers e =
    let rest = numbers_in (drop (i + 1) spans) (drop (i + 1) ws) in
    let here = one_more (get_or spans i d) (drop (i + 1) spans) (get_or ws i w) (drop (i + 1) ws) n e in
    rw (drop_cons spans i d in_spans, drop_cons ws i w in_words, here, take_more_set ns i n in_numbers) (with_front-append (take i ns) (n ∷ []) rest)

-- a number is at fault
with_front-fault : (spans : List Span) (ws : List (List ℕ)) (ns : List ℕ) (i : ℕ) (k : FaultKind) (d : Span) (w : List ℕ) → i < length spans → i < length ws → number_in (get_or spans i d) (get_or ws i w) ≡ Err k → with_front (take i ns) (numbers_in (drop i spans) (drop i ws)) ≡ Err k
unfolding numbers_in
with_front-fault spans ws ns i k d w in_spans in_words e = rw (drop_cons spans i d in_spans, drop_cons ws i w in_words, e) refl

pub length-texts : (words : List (Bor (List ℕ))) → length (texts words) ≡ length words
length-texts words = length-map words (λ word. word.now)

pub texts-more : (words : List (Bor (List ℕ))) (word : Bor (List ℕ)) → texts (words ++ word ∷ []) ≡ texts words ++ word.now ∷ []
texts-more words word = map-append (λ w. w.now) words (word ∷ [])

-- the first word, and those after it
pub texts-split : (words : List (Bor (List ℕ))) (d : Bor (List ℕ)) → 1 ≤ length words → texts words ≡ (get_or words 0 d).now ∷ texts (take (length words - 1) (drop 1 words))
texts-split [] d some = absurd (omega arith)
texts-split (word ∷ words) d some = ap (λ rest. word.now ∷ texts rest) (sym (take_all (suc (length words) - 1) words (omega arith)))

-- the first word and those after it, wherever the words lie
pub with_front-more : (spans : List Span) (words : List (Bor (List ℕ))) (ns : List ℕ) (i n : ℕ) (s : Span) (d : Bor (List ℕ)) → i < length spans → i < length words → length ns ≡ length spans → number_in (get_or spans i s) (get_or words i d).now ≡ Ok n → with_front (take (i + 1) (set ns i n)) (numbers_in (drop (i + 1) spans) (drop (i + 1) (texts words))) ≡ with_front (take i ns) (numbers_in (drop i spans) (drop i (texts words)))
with_front-more spans words ns i n s d in_spans in_words len e =
    let at = get_or-map (λ word. word.now) words i d (get_or words i d).now in_words in
    with_front-next spans (texts words) ns i n s (get_or words i d).now in_spans (omega (arith, length-texts words)) (omega arith) (rw at e)

pub with_front-err : (spans : List Span) (words : List (Bor (List ℕ))) (ns : List ℕ) (i : ℕ) (k : FaultKind) (s : Span) (d : Bor (List ℕ)) → i < length spans → i < length words → number_in (get_or spans i s) (get_or words i d).now ≡ Err k → with_front (take i ns) (numbers_in (drop i spans) (drop i (texts words))) ≡ Err k
with_front-err spans words ns i k s d in_spans in_words e =
    let at = get_or-map (λ word. word.now) words i d (get_or words i d).now in_words in
    with_front-fault spans (texts words) ns i k s (get_or words i d).now in_spans (omega (arith, length-texts words)) (rw at e)

-- all are read
pub with_front-all : (spans : List Span) (ws : List (List ℕ)) (ns : List ℕ) (i : ℕ) → length spans ≤ i → length ns ≤ i → with_front (take i ns) (numbers_in (drop i spans) (drop i ws)) ≡ Ok ns
unfolding numbers_in
with_front-all spans ws ns i no_span no_number = rw (drop_all i spans no_span, take_all i ns no_number) (ap (λ x. Ok x) (append-nil ns))

pub bind_ok : {A B : Type 0} (r : Result A FaultKind) (f : A → Result B FaultKind) (y : B) → (r >>= f) ≡ Ok y → (x : A) × (r ≡ Ok x) × (f x ≡ Ok y)
bind_ok (Ok x) f y e = (x, refl, e)
bind_ok (Err k) f y e = absurd (cc)

within_span : (s : Span) (o : Option ℕ) (n : ℕ) → in_span s o ≡ Ok n → (s.0 ≤ n) × (n ≤ s.1)
within_span s None n e = absurd (cc)
within_span s (Some m) n e = grind (arith, nat_tests)

-- what is read is within the spans
pub AllWithin-numbers_in : (spans : List Span) (ws : List (List ℕ)) (ns : List ℕ) → length ws ≡ length spans → numbers_in spans ws ≡ Ok ns → AllWithin spans ns
unfolding numbers_in number_in
AllWithin-numbers_in [] ws ns len e = let none : ns ≡ [] = cc in rw none tt
AllWithin-numbers_in (s ∷ spans) [] ns len e = absurd (cc)
AllWithin-numbers_in (s ∷ spans) (w ∷ ws) ns len e =
    let first = bind_ok (number_in s w) (λ n. numbers_in spans ws >>= λ more. Ok (n ∷ more)) ns e in
    let others = bind_ok (numbers_in spans ws) (λ more. Ok (first.0 ∷ more)) ns first.2 in
    let whole : ns ≡ first.0 ∷ others.0 = cc in
    let span = within_span s (number_of w) first.0 first.1 in
    rw whole (span.0, span.1, AllWithin-numbers_in spans ws others.0 (grind arith) others.1)

pub all_numbers-other : (spans : List Span) (ws : List (List ℕ)) → (length ws ≡ length spans → ⊥) → all_numbers spans ws ≡ Err Count
unfolding all_numbers
all_numbers-other spans ws h = grind (arith, nat_tests)

pub all_numbers-same : (spans : List Span) (ws : List (List ℕ)) → length ws ≡ length spans → all_numbers spans ws ≡ numbers_in spans ws
unfolding all_numbers
all_numbers-same spans ws h = grind (arith, nat_tests)
