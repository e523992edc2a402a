-- Laws of sets of page frames.
use Rattle.std.proofs.Common.{◌≡◌, ℕ, Bool, true, false, List, refl, sym, subst}
use Rattle.std.specs.Prelude.{◌↔◌, IsTrue}
use Rattle.std.proofs.lemmas.Bool.{false≢true}
use Rattle.std.specs.List.{Contains}
use Rattle.plain_machine.specs.Loader.{has}
use Rattle.machine.proofs.Rows.{any_true, any_Contains}

-- a test of a list's members is this one
pub has_is : (xs : List ℕ) (p : ℕ) (b : Bool) → IsTrue b ↔ Contains xs p → b ≡ has xs p
has_is xs p true both = sym (any_true xs p (both.0 refl))
has_is xs p false both = by_test (has xs p) refl where
  by_test : (t : Bool) → has xs p ≡ t → false ≡ t
  by_test true e = absurd (false≢true (both.1 (any_Contains xs p e)))
  by_test false e = refl

-- tests that say the same
pub same_tests : (a b : Bool) (P Q : Type 0) → IsTrue a ↔ P → IsTrue b ↔ Q → a ≡ b → P ↔ Q
same_tests a b P Q p q e = (λ x. q.0 (subst IsTrue e (p.1 x)), λ y. p.0 (subst IsTrue (sym e) (q.1 y)))
