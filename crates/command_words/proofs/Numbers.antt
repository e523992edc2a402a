-- Plain numbers: what their digits are, how clap reads them, and that they are as they are printed.
use Rattle.std.proofs.Common.{◌≡◌, ◌∙◌, ◌<◌, ◌≤◌, ◌^◌, ◌&&◌, ℕ, Bool, pos, true, false, not, zero, suc, refl, sym, ap, ap₂, subst, arith, Some, None, List, [], ◌∷◌, length, get_or, cond, decimal, ◌==◌, nat_lt}
use Rattle.std.specs.List.{list_all}
use Rattle.std.specs.Char.{digit_value, is_ascii_digit}
use Rattle.std.specs.Str.Parse.{AllDigits, IsNumeral, digits_value, without_leading_plus, starts_with_minus, signed_digits_value, without_leading_sign}
use Rattle.std.specs.Prelude.{FitsSigned, ◌≤ℤ◌}
use Rattle.std.specs.Int.{w64}
use Rattle.std.proofs.lemmas.Bool.{ltb-true, lt-ltb, ne_eqb}
use Rattle.std.proofs.lemmas.Bool.Decides.{nat_tests}
use Rattle.std.proofs.lemmas.Int.{ints}
use Rattle.std.proofs.lemmas.Fmt.{decimal-digits_value, decimal_digit, decimal_is_IsNumeral, first_decimal}
use Rattle.std.proofs.lemmas.Str.Parse.{digit_from_value, numerals_by_value, tells_digits, without_leading_plus_none}
use Rattle.clap.specs.ValueTests.{accepts}
use Rattle.clap.proofs.ValueTestLemmas.{Accepts-accepts}
use Rattle.clap.proofs.WalkLemmas.{both}
use Rattle.clap.specs.declared.builder.value_parser.ValueParser.TheVariants as parser
use Rattle.command_words.specs.Matched.{parsed}
use Rattle.command_words.specs.Words.{has_leading_zero, is_decimal, plain_number}
use Rattle.command_words.proofs.Values.{IsNumber, IsValue}

digit_test : (c : ℕ) → is_ascii_digit c ≡ nat_lt (digit_value c) 10
digit_test c = grind (arith, nat_tests)

digits_test : (ds : List ℕ) → list_all is_ascii_digit ds ≡ list_all (λ d. nat_lt (digit_value d) 10) ds
digits_test [] = refl
digits_test (d ∷ ds) = ap₂ (λ a b. a && b) (digit_test d) (digits_test ds)

pub digits_from : (ds : List ℕ) → list_all (λ d. nat_lt (digit_value d) 10) ds ≡ true → AllDigits 10 ds
digits_from [] e = tt
digits_from (d ∷ ds) e = (ltb-true _ _ (both _ _ e).0, digits_from ds (both _ _ e).1)

pub digits_back : (ds : List ℕ) → AllDigits 10 ds → list_all (λ d. nat_lt (digit_value d) 10) ds ≡ true
digits_back [] h = refl
digits_back (d ∷ ds) h = rw (lt-ltb (digit_value d) 10 h.0) (digits_back ds h.1)

-- what a plain number is made of
pub record IsPlainNumber (limit : ℕ) (word : List ℕ) (n : ℕ) : Type 0 where
  pub numeral : IsNumeral 10 word
  pub lead : get_or word 0 0 ≡ 48 → length word ≡ 1
  pub value : digits_value 10 word ≡ n
  pub small : n < limit

no_lead : (word : List ℕ) → has_leading_zero word ≡ false → 0 < length word → get_or word 0 0 ≡ 48 → length word ≡ 1
no_lead [] e lt lead = absurd (omega arith)
no_lead (b ∷ []) e lt lead = refl
no_lead (b ∷ c ∷ bs) e lt lead = absurd (grind (arith, nat_tests))

pub some_if : {A : Type 0} (b : Bool) (x y : A) → cond b (Some x) None ≡ Some y → (b ≡ true) × (x ≡ y)
some_if true x y e = (refl, cc)
some_if false x y e = cc

is_not : (b : Bool) → not b ≡ true → b ≡ false
is_not true e = sym e
is_not false e = refl

pub number_parts : (limit : ℕ) (word : List ℕ) (n : ℕ) → plain_number limit word ≡ Some n → IsPlainNumber limit word n
unfolding plain_number
number_parts limit word n e =
    let got = some_if (not (has_leading_zero word) && is_decimal word && nat_lt (digits_value 10 word) limit) (digits_value 10 word) n e in
    let outer = both _ (nat_lt (digits_value 10 word) limit) got.0 in
    let inner = both (not (has_leading_zero word)) (is_decimal word) outer.0 in
    let parts = both (nat_lt 0 (length word)) (list_all is_ascii_digit word) inner.1 in
    let some : 0 < length word = ltb-true _ _ parts.0 in
    let small : digits_value 10 word < limit = ltb-true _ _ outer.1 in
    record {
      numeral = (some, digits_from word (sym (digits_test word) ∙ parts.1));
      lead = no_lead word (is_not _ inner.0) some;
      value = got.1;
      small = subst (λ m. m < limit) got.1 small;
    }

-- ---- how clap reads a plain number

first_digit : (word : List ℕ) → IsNumeral 10 word → (48 ≤ get_or word 0 0) × (get_or word 0 0 ≤ 57)
first_digit [] h = absurd (omega (arith, h.0))
first_digit (d ∷ ds) h = let c = digit_from_value d h.1.0 in (omega arith, omega arith)

no_plus : (word : List ℕ) → IsNumeral 10 word → without_leading_plus word ≡ word
no_plus word h = without_leading_plus_none word (let c = first_digit word h in omega arith)

no_minus : (word : List ℕ) → IsNumeral 10 word → starts_with_minus word ≡ false
no_minus word h = ne_eqb _ _ (let c = first_digit word h in omega arith)

numeral_value : (word : List ℕ) → IsNumeral 10 word → IsValue word
numeral_value [] h = absurd (omega (arith, h.0))
numeral_value (d ∷ ds) h =
    let c = digit_from_value d h.1.0 in
    let no : (d == 45) ≡ false = ne_eqb _ _ (omega arith) in
    record { dash = rw no refl; dashes = rw no refl }

reads_numeral : (bits : ℕ) (word : List ℕ) (n : ℕ) → IsNumeral 10 word → digits_value 10 word ≡ n → n < 2 ^ bits → parsed bits word ≡ Some n
unfolding parsed
reads_numeral bits word n h is small =
    let fits : nat_lt (digits_value 10 word) (2 ^ bits) ≡ true = lt-ltb _ _ (subst (λ m. m < 2 ^ bits) (sym is) small) in
    rw (no_plus word h, lt-ltb 0 (length word) h.0, digits_back word h.1, fits) (ap Some is)

signed_value : (word : List ℕ) (n : ℕ) → IsNumeral 10 word → digits_value 10 word ≡ n → signed_digits_value 10 word ≡ pos n
signed_value word n h is = rw (no_minus word h, no_plus word h) (ap pos is)

unsigned_taken : (word : List ℕ) (n : ℕ) → IsNumeral 10 word → digits_value 10 word ≡ n → n < 2 ^ 64
    → accepts false (parser.Unsigned 0 18446744073709551615) word ≡ true
unsigned_taken word n h is small =
    Accepts-accepts false (parser.Unsigned 0 18446744073709551615) word (rw (no_plus word h) (h, omega (arith, is), omega arith, omega (arith, is)))

signed_taken : (low high : ℕ) (word : List ℕ) (n : ℕ) → IsNumeral 10 word → digits_value 10 word ≡ n → low ≤ n → n ≤ high → high < 2 ^ 32
    → accepts false (parser.Signed (pos low) (pos high)) word ≡ true
signed_taken low high word n h is from to narrow =
    let unsigned : IsNumeral 10 (without_leading_sign word) = rw (no_minus word h, no_plus word h) h in
    let fits : FitsSigned w64 (signed_digits_value 10 word) = rw (signed_value word n h is) (record { sfits = omega arith }) in
    let above : pos low ≤ℤ signed_digits_value 10 word = rw (signed_value word n h is) (omega (arith, ints)) in
    let below : signed_digits_value 10 word ≤ℤ pos high = rw (signed_value word n h is) (omega (arith, ints)) in
    Accepts-accepts false (parser.Signed (pos low) (pos high)) word (unsigned, fits, above, below)

pub as_unsigned : (limit : ℕ) (word : List ℕ) (n : ℕ) → limit ≤ 2 ^ 64 → plain_number limit word ≡ Some n
    → IsNumber 64 (parser.Unsigned 0 18446744073709551615) word n
as_unsigned limit word n fits e =
    let p = number_parts limit word n e in
    record {
      plain = numeral_value word p.numeral;
      fits = unsigned_taken word n p.numeral p.value (omega (arith, p.small));
      reads = reads_numeral 64 word n p.numeral p.value (omega (arith, p.small));
    }

pub as_signed : (limit low high : ℕ) (word : List ℕ) (n : ℕ) → low ≤ n → n ≤ high → high < 2 ^ 32 → plain_number limit word ≡ Some n
    → IsNumber 32 (parser.Signed (pos low) (pos high)) word n
as_signed limit low high word n from to narrow e =
    let p = number_parts limit word n e in
    record {
      plain = numeral_value word p.numeral;
      fits = signed_taken low high word n p.numeral p.value from to narrow;
      reads = reads_numeral 32 word n p.numeral p.value (omega arith);
    }

-- ---- how a plain number is printed

pub printed : (limit : ℕ) (word : List ℕ) (n : ℕ) → limit ≤ 2 ^ 64 → plain_number limit word ≡ Some n → word ≡ decimal n
printed limit word n fits e =
    let p = number_parts limit word n e in
    let small : digits_value 10 word < 2 ^ 64 = omega (arith, p.small, p.value) in
    sym (decimal-digits_value (numerals_by_value _ tells_digits) word p.numeral.1 p.numeral.0 p.lead small) ∙ ap decimal p.value

no_zero_leads : (word : List ℕ) → (get_or word 0 0 ≡ 48 → ⊥) → has_leading_zero word ≡ false
no_zero_leads [] h = refl
no_zero_leads (b ∷ []) h = refl
no_zero_leads (b ∷ c ∷ bs) h = ne_eqb _ _ h

plain_zeros : (n : ℕ) → n < 2 ^ 64 → has_leading_zero (decimal n) ≡ false
plain_zeros zero small = ap has_leading_zero (decimal_digit 0 (omega arith))
plain_zeros (suc n) small = no_zero_leads (decimal (suc n)) (let first = first_decimal (suc n) (omega arith) small in omega arith)

pub plain_decimal : (limit n : ℕ) → limit ≤ 2 ^ 64 → n < limit → plain_number limit (decimal n) ≡ Some n
unfolding plain_number
plain_decimal limit n fits small =
    let h = decimal_is_IsNumeral n (omega arith) in
    let under : nat_lt (digits_value 10 (decimal n)) limit ≡ true = lt-ltb _ _ (subst (λ m. m < limit) (sym h.1) small) in
    rw (plain_zeros n (omega arith), lt-ltb 0 (length (decimal n)) h.0.0, digits_test (decimal n) ∙ digits_back (decimal n) h.0.1, under) (ap Some h.1)
