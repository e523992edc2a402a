-- What the getters of clap's matches give, by the rows of the matches.
use Rattle.std.proofs.Common.{◌≡◌, ◌∙◌, Bool, refl, sym, ap, Option, Some, None, List, codes}
use Rattle.clap.specs.Words.{Row, Text, first_of}
use Rattle.command_words.specs.Matched.{check_by, flag_at}
use Rattle.command_words.specs.MachineMatched.{check_in, differ_in}
use Rattle.command_words.specs.MachineWords.{Asked, differ, check}

module _ (rows : List Row) (x : Asked) where
  pub no_first : first_of (codes "first") rows ≡ None → differ_in rows ≡ Some x → ⊥
  no_first none e = let nothing : differ_in rows ≡ None = rw none refl in cc

  pub no_second : (first : Text) → first_of (codes "first") rows ≡ Some first → first_of (codes "second") rows ≡ None → differ_in rows ≡ Some x → ⊥
  no_second first is none e = let nothing : differ_in rows ≡ None = rw (is, none) refl in cc

  pub compared : (first second : Text) → first_of (codes "first") rows ≡ Some first → first_of (codes "second") rows ≡ Some second → differ_in rows ≡ Some x
      → Some (differ first second) ≡ Some x
  compared first second is at e = let made : differ_in rows ≡ Some (differ first second) = rw (is, at) refl in sym made ∙ e

  pub no_swap : first_of (codes "swap") rows ≡ None → check_in rows ≡ Some x → ⊥
  no_swap none e = let nothing : check_in rows ≡ None = rw none refl in cc

  pub checked : (swap : Text) (any : Bool) → first_of (codes "swap") rows ≡ Some swap → ((flag : Bool) → flag_at (codes "any-kernel") rows ≡ Some flag → any ≡ flag)
      → check_in rows ≡ Some x → Some (check (check_by any) swap) ≡ Some x
  checked swap any is told e = go (flag_at (codes "any-kernel") rows) refl
    where
      go : (o : Option Bool) → flag_at (codes "any-kernel") rows ≡ o → Some (check (check_by any) swap) ≡ Some x
      go None off = let none : check_in rows ≡ None = rw (is, off) refl in cc
      go (Some flag) at =
          let made : check_in rows ≡ Some (check (check_by flag) swap) = rw (is, at) refl in
          ap (λ (b : Bool). Some (check (check_by b) swap)) (told flag at) ∙ (sym made ∙ e)
