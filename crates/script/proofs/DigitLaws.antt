-- Numbers that are read digit by digit.
use Rattle.std.proofs.Common.{◌≡◌, ℕ, zero, suc, ◌+◌, ◌-◌, ◌*◌, ◌^◌, ◌<◌, ◌≤◌, List, [], ◌∷◌, ◌++◌, length, take, drop, get_or, Bool, true, false, ◌&&◌, nat_lt, if◌then◌else◌, Some, None, refl, sym, ap, ◌∙◌, arith, take-append-drop, le_trans, le_refl}
use Rattle.std.specs.List.{list_all}
use Rattle.std.specs.Char.{is_ascii_digit, digit_value}
use Rattle.std.specs.Str.Parse.{AllDigits, digits_value, digits_value_after}
use Rattle.std.proofs.lemmas.Int.Digits.{digits_more, digits_value_more}
use Rattle.std.proofs.lemmas.Bool.Decides.{nat_tests}
use Rattle.std.proofs.lemmas.List.{take_all}
use Rattle.script.specs.Shapes.{number_of}

digit_is : (c : ℕ) → is_ascii_digit c ≡ true → digit_value c ≡ c - 48
digit_is c h = grind (arith, nat_tests)

digit_below : (c : ℕ) → is_ascii_digit c ≡ true → digit_value c < 10
digit_below c h = grind (arith, nat_tests)

is_digit : (c : ℕ) → digit_value c < 10 → is_ascii_digit c ≡ true
is_digit c h = grind (arith, nat_tests)

all_are_digits : (ds : List ℕ) → AllDigits 10 ds → list_all is_ascii_digit ds ≡ true
all_are_digits [] h = refl
all_are_digits (c ∷ cs) h = rw (is_digit c h.0) (all_are_digits cs h.1)

not_all : (word : List ℕ) (i : ℕ) → i < length word → is_ascii_digit (get_or word i 0) ≡ false → list_all is_ascii_digit word ≡ false
not_all [] i lt isn't = absurd (omega arith)
not_all (c ∷ cs) zero lt isn't = rw isn't refl
not_all (c ∷ cs) (suc i) lt isn't = none (is_ascii_digit c) (not_all cs i (omega arith) isn't) where
  none : (b : Bool) → list_all is_ascii_digit cs ≡ false → (b && list_all is_ascii_digit cs) ≡ false
  none true e = e
  none false e = refl

after-append : (n : ℕ) (ds es : List ℕ) → digits_value_after 10 n (ds ++ es) ≡ digits_value_after 10 (digits_value_after 10 n ds) es
after-append n [] es = refl
after-append n (d ∷ ds) es = after-append (n * 10 + digit_value d) ds es

after-ge : (n : ℕ) (es : List ℕ) → n ≤ digits_value_after 10 n es
after-ge n [] = le_refl n
after-ge n (e ∷ es) = le_trans (omega arith) (after-ge (n * 10 + digit_value e) es)

front-le : (word : List ℕ) (k : ℕ) → digits_value 10 (take k word) ≤ digits_value 10 word
front-le word k =
    let whole : digits_value 10 word ≡ digits_value_after 10 (digits_value 10 (take k word)) (drop k word) =
    ap (digits_value 10) (sym (take-append-drop k word)) ∙ after-append 0 (take k word) (drop k word) in
    let ge = after-ge (digits_value 10 (take k word)) (drop k word) in
    omega arith

-- nothing is no number
pub number_of-none : (word : List ℕ) → length word ≡ 0 → number_of word ≡ None
unfolding number_of
number_of-none [] e = refl
number_of-none (c ∷ cs) e = absurd (omega arith)

-- a byte that is no digit
pub number_of-other : (word : List ℕ) (i : ℕ) → i < length word → is_ascii_digit (get_or word i 0) ≡ false → number_of word ≡ None
unfolding number_of
number_of-other word i lt isn't = rw (not_all word i lt isn't) refl

-- one more digit
pub digit_read : (word : List ℕ) (i number : ℕ) → i < length word → AllDigits 10 (take i word) → number ≡ digits_value 10 (take i word) → is_ascii_digit (get_or word i 0) ≡ true →
    AllDigits 10 (take (i + 1) word) × (10 * number + (get_or word i 0 - 48) ≡ digits_value 10 (take (i + 1) word))
digit_read word i number lt all is digit =
    let value = digit_is (get_or word i 0) digit in
    let next = digits_value_more 10 word i lt in
    (digits_more 10 word i lt all (digit_below (get_or word i 0) digit), omega arith)

-- too large a number
pub number_of-large : (word : List ℕ) (k : ℕ) → 2 ^ 64 ≤ digits_value 10 (take k word) → number_of word ≡ None
unfolding number_of
number_of-large word k large =
    let front = front-le word k in
    let over : nat_lt (digits_value 10 word) (2 ^ 64) ≡ false = grind (arith, nat_tests) in
    rw over (none (list_all is_ascii_digit word && nat_lt 0 (length word))) where
      none : (b : Bool) → (if b && false then Some (digits_value 10 word) else None) ≡ None
      none true = refl
      none false = refl

-- all digits are read
pub number_of-all : (word : List ℕ) (i number : ℕ) → 0 < length word → length word ≤ i → AllDigits 10 (take i word) → number ≡ digits_value 10 (take i word) → number < 2 ^ 64 → number_of word ≡ Some number
unfolding number_of
number_of-all word i number some end all is small =
    let whole = take_all i word end in
    let digits : list_all is_ascii_digit word ≡ true = all_are_digits word (rw whole at all) in
    let same : number ≡ digits_value 10 word = rw whole at is in
    let not_empty : nat_lt 0 (length word) ≡ true = grind (arith, nat_tests) in
    let fits : nat_lt (digits_value 10 word) (2 ^ 64) ≡ true = grind (arith, nat_tests) in
    rw (digits, not_empty, fits) (ap (λ n. Some n) (sym same))
