-- Plain numbers, and the numbers that words of digits are.
use Rattle.std.proofs.Common.{◌≡◌, ◌<◌, ◌≤◌, ℕ, Bool, true, false, cond, not, ◌&&◌, nat_lt, List, length, Option, Some, None, refl, sym, ap, ◌∙◌, arith}
use Rattle.std.proofs.lemmas.Bool.{false≢true, ltb-true, lt-ltb}
use Rattle.std.proofs.lemmas.Option.{none-some, same_Some}
use Rattle.std.specs.Char.{is_ascii_digit}
use Rattle.std.specs.List.{list_all}
use Rattle.std.specs.Str.Parse.{digits_value}
use Rattle.script.specs.Shapes.{number_of}
use Rattle.command_words.specs.Words.{has_leading_zero, is_decimal, plain_number}

pub leading : (word : List ℕ) → has_leading_zero word ≡ true → None ≡ plain_number 4294967296 word
unfolding plain_number
leading word e =
    sym (ap (λ (b : Bool). cond (not b && is_decimal word && nat_lt (digits_value 10 word) 4294967296) (Some (digits_value 10 word)) None) e)

unread_by : (digits some big small : Bool) (v : ℕ) → (small ≡ true → big ≡ true) → cond (digits && some && big) (Some v) None ≡ None →
    cond (not false && (some && digits) && small) (Some v) None ≡ None
unread_by true true true small v up e = absurd (none-some v (sym e))
unread_by true true false true v up e = absurd (false≢true (up refl))
unread_by true true false false v up e = refl
unread_by true false big small v up e = refl
unread_by false true big small v up e = refl
unread_by false false big small v up e = refl

pub unread : (word : List ℕ) → has_leading_zero word ≡ false → number_of word ≡ None → None ≡ plain_number 4294967296 word
unfolding plain_number number_of
unread word plain e =
    let v = digits_value 10 word in
    sym (
    ap (λ (b : Bool). cond (not b && is_decimal word && nat_lt v 4294967296) (Some v) None) plain
    ∙ unread_by (list_all is_ascii_digit word) (nat_lt 0 (length word)) (nat_lt v 18446744073709551616) (nat_lt v 4294967296) v
    (λ small. lt-ltb v 18446744073709551616 (let below = ltb-true v 4294967296 small in omega arith)) e
    )

read_by : (digits some big : Bool) (v n : ℕ) → cond (digits && some && big) (Some v) None ≡ Some n →
    cond (not false && (some && digits) && nat_lt v 4294967296) (Some v) None ≡ cond (nat_lt n 4294967296) (Some n) None
read_by true true true v n e = ap (λ (k : ℕ). cond (nat_lt k 4294967296) (Some k) None) (same_Some v n e)
read_by true true false v n e = absurd (none-some n e)
read_by true false big v n e = absurd (none-some n e)
read_by false some big v n e = absurd (none-some n e)

-- a number that is read is plain where it is small
pub read : (word : List ℕ) (n : ℕ) → has_leading_zero word ≡ false → number_of word ≡ Some n →
    plain_number 4294967296 word ≡ cond (nat_lt n 4294967296) (Some n) None
unfolding plain_number number_of
read word n plain e =
    let v = digits_value 10 word in
    ap (λ (b : Bool). cond (not b && is_decimal word && nat_lt v 4294967296) (Some v) None) plain
    ∙ read_by (list_all is_ascii_digit word) (nat_lt 0 (length word)) (nat_lt v 18446744073709551616) v n e

large_by : (n : ℕ) (b : Bool) → nat_lt n 4294967296 ≡ b → 4294967295 < n → nat_lt n 4294967296 ≡ false
large_by n false e gt = e
large_by n true e gt = absurd (let lt = ltb-true n 4294967296 e in let never : ⊥ = omega arith in never)

pub large : (word : List ℕ) (n : ℕ) → has_leading_zero word ≡ false → number_of word ≡ Some n → 4294967295 < n →
    None ≡ plain_number 4294967296 word
large word n plain e gt =
    sym (read word n plain e ∙ ap (λ (b : Bool). cond b (Some n) None) (large_by n (nat_lt n 4294967296) refl gt))

pub small : (word : List ℕ) (n : ℕ) → has_leading_zero word ≡ false → number_of word ≡ Some n → n ≤ 4294967295 →
    Some n ≡ plain_number 4294967296 word
small word n plain e le =
    sym (read word n plain e ∙ ap (λ (b : Bool). cond b (Some n) None) (lt-ltb n 4294967296 (omega arith)))
