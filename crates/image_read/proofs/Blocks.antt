-- When a block is at fault in a chain.
use Rattle.std.proofs.Common.{◌≡◌, ◌≢◌, ℕ, ◌<◌, List, [], ◌∷◌, Bool, true, false, not, ◌&&◌, ◌||◌, eqb, ltb, refl, sym, ap, ◌∙◌, inl, inr, ◌⊎◌, arith}
use Rattle.std.proofs.lemmas.Bool.{eqb-true, eq-eqb, ne_eqb, ltb-true, lt-ltb}
use Rattle.std.specs.List.{Contains, list_any, range_with_len}
use Rattle.definitions.proofs.Ascending.{Contains-head, Contains-tail, Contains-cons_cases, Contains-nil}
use Rattle.definitions.proofs.ZoneNumbers.{Contains-range, range-bounds}
use Rattle.definitions.specs.Slots.{block_of}
use Rattle.plain_machine.specs.Chain.{is_fault_of}
use Rattle.image_read.specs.Slots.{HasSlotOn}

or_right : (b : Bool) → (b || true) ≡ true
or_right true = refl
or_right false = refl

or_cases : (a b : Bool) → (a || b) ≡ true → (a ≡ true) ⊎ (b ≡ true)
or_cases true b h = inl refl
or_cases false b h = inr h

pub any_of : (test : ℕ → Bool) (xs : List ℕ) (x : ℕ) → Contains xs x → test x ≡ true → list_any test xs ≡ true
any_of test [] x h is = absurd (Contains-nil x h)
any_of test (y ∷ ys) x h is = elim (Contains-cons_cases y ys x h) [
  | inl e ↦ ap (λ b. b || list_any test ys) (ap test e ∙ is)
  | inr in' ↦ ap (λ b. test y || b) (any_of test ys x in' is) ∙ or_right (test y)
]

pub some_of : (test : ℕ → Bool) (xs : List ℕ) → list_any test xs ≡ true → (x : ℕ) × Contains xs x × (test x ≡ true)
some_of test [] h = cc
some_of test (y ∷ ys) h = elim (or_cases (test y) (list_any test ys) h) [
  | inl e ↦ (y, Contains-head y ys, e)
  | inr rest ↦ let found = some_of test ys rest in (found.0, Contains-tail y ys found.0 found.1, found.2)
]

pub slot_listed : (extents : List (ℕ × ℕ × ℕ)) (last x : ℕ) → HasSlotOn extents last x → list_any (λ s. eqb (block_of extents s) x) (range_with_len 1 last) ≡ true
slot_listed extents last x (s, some, le, is) =
    any_of (λ s. eqb (block_of extents s) x) (range_with_len 1 last) s (Contains-range 1 last s some (omega arith)) (eq-eqb (block_of extents s) x is)

pub listed_slot : (extents : List (ℕ × ℕ × ℕ)) (last x : ℕ) → list_any (λ s. eqb (block_of extents s) x) (range_with_len 1 last) ≡ true → HasSlotOn extents last x
listed_slot extents last x h =
    let found = some_of (λ s. eqb (block_of extents s) x) (range_with_len 1 last) h in
    let within = range-bounds 1 last found.0 found.1 in
    let below = within.1 in
    (found.0, within.0, omega arith, eqb-true (block_of extents found.0) x found.2)

-- the test of three
three : (a b c : Bool) → (a || not (b && c)) ≡ false → (a ≡ false) × (b ≡ true) × (c ≡ true)
three true b c h = cc
three false true true h = (refl, refl, refl)
three false true false h = cc
three false false c h = cc

three_are : (a b c : Bool) → a ≡ false → b ≡ true → c ≡ true → (a || not (b && c)) ≡ false
three_are true b c x y z = x
three_are false true true x y z = refl
three_are false true false x y z = sym z
three_are false false c x y z = sym y

pub sound_block : (extents : List (ℕ × ℕ × ℕ)) (blocks last x : ℕ) → (x ≢ block_of extents 0) → x < blocks → HasSlotOn extents last x → is_fault_of extents blocks last x ≡ false
sound_block extents blocks last x apart lt on =
    three_are (eqb x (block_of extents 0)) (ltb x blocks) (list_any (λ s. eqb (block_of extents s) x) (range_with_len 1 last))
    (ne_eqb x (block_of extents 0) apart) (lt-ltb x blocks lt) (slot_listed extents last x on)

-- what a block that isn't at fault is
pub record IsSound (extents : List (ℕ × ℕ × ℕ)) (blocks last x : ℕ) : Type 0 where
  pub apart : x ≢ block_of extents 0
  pub below : x < blocks
  pub on : HasSlotOn extents last x

pub block_sound : (extents : List (ℕ × ℕ × ℕ)) (blocks last x : ℕ) → is_fault_of extents blocks last x ≡ false → IsSound extents blocks last x
block_sound extents blocks last x h =
    let all = three (eqb x (block_of extents 0)) (ltb x blocks) (list_any (λ s. eqb (block_of extents s) x) (range_with_len 1 last)) h in
    record {
      apart = λ e. let yes = eq-eqb x (block_of extents 0) e in let no = all.0 in cc;
      below = ltb-true x blocks all.1;
      on = listed_slot extents last x all.2;
    }
