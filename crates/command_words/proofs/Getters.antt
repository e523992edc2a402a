-- What the getters of clap's matches give, by the rows of the matches.
use Rattle.std.proofs.Common.{◌≡◌, ◌∙◌, ◌^◌, ◌&&◌, ℕ, Bool, true, false, refl, sym, ap, Option, Some, None, Result, Ok, Err, List, length, codes, cond, nat_lt}
use Rattle.std.specs.Str.{bytes_eq}
use Rattle.std.specs.Str.Parse.{ParsesUnsigned, digits_value, without_leading_plus}
use Rattle.std.proofs.lemmas.Bool.{lt-ltb, ltb-true}
use Rattle.std.proofs.lemmas.Slice.Eq.{bytes_eq-Decides}
use Rattle.clap.specs.ValueTests.{is_numeral}
use Rattle.clap.specs.Words.{ReadsOne, Row, Text, first_value, one_of, one_text, rows_of}
use Rattle.clap.specs.declared.parser.matches.Found.{Found}
use Rattle.clap.proofs.WalkLemmas.{both, first_value-rows, one_text-rows}
use Rattle.command_words.specs.Matched.{check_by, drill_in, flag_at, flag_of, format_by, hibernate_in, import_in, inspect_in, number_at, parsed, resume_in, swap_in}
use Rattle.command_words.specs.Words.{Asked, inspect, hibernate, resume, drill, import}
use Rattle.command_words.proofs.Numbers.{digits_back, digits_from}

pub swap_read : (f : Found) (swap : Option Text) → swap ≡ first_value f (codes "swap") → swap_in (rows_of f) ≡ swap
swap_read f swap e = sym (first_value-rows f (codes "swap")) ∙ sym e

module _ {E : Type 0} (G : List ℕ → Result ℕ E → Type 0) (bits : ℕ) (only : (u : List ℕ) (x : Result ℕ E) → G u x → ParsesUnsigned bits 10 u x) where
  one_parsed : (text : Text) (r : Option ℕ) → ReadsOne G text r → parsed bits text ≡ r
  unfolding parsed
  one_parsed text (Some n) h =
      let p = only text (Ok n) h in
      rw (lt-ltb 0 (length (without_leading_plus text)) p.0.0.0, digits_back (without_leading_plus text) p.0.0.1, lt-ltb (digits_value 10 (without_leading_plus text)) (2 ^ bits) p.0.1)
      (ap Some (sym p.1))
  one_parsed text None h = go (is_numeral (without_leading_plus text) && nat_lt (digits_value 10 (without_leading_plus text)) (2 ^ bits)) refl
    where
      go : (b : Bool) → (is_numeral (without_leading_plus text) && nat_lt (digits_value 10 (without_leading_plus text)) (2 ^ bits)) ≡ b
          → cond b (Some (digits_value 10 (without_leading_plus text))) None ≡ None
      go false t = refl
      go true t =
          let outer = both _ _ t in
          let inner = both (nat_lt 0 (length (without_leading_plus text))) _ outer.0 in
          absurd (only text (Err h.0) h.1 ((ltb-true _ _ inner.0, digits_from (without_leading_plus text) inner.1), ltb-true _ _ outer.1))

  pub number_read : (f : Found) (id : Text) (r : Option ℕ) → (one_text f id ≡ None → r ≡ None) → ((t : Text) → one_text f id ≡ Some t → ReadsOne G t r)
      → number_at bits id (rows_of f) ≡ r
  number_read f id r none some = go (one_text f id) refl (sym (one_text-rows f id))
    where
      go : (o : Option Text) → one_text f id ≡ o → one_of id (rows_of f) ≡ one_text f id → number_at bits id (rows_of f) ≡ r
      go None e rows = rw (rows ∙ e) (sym (none e))
      go (Some t) e rows = rw (rows ∙ e) (one_parsed t r (some t e))

-- a flag in the rows is what its getter returns
pub flag_read : (f : Found) (id : Text) (b : Bool) → (one_text f id ≡ None → b ≡ false) → (one_text f id ≡ Some (codes "true") → b ≡ true)
    → (one_text f id ≡ Some (codes "false") → b ≡ false) → (flag : Bool) → flag_at id (rows_of f) ≡ Some flag → b ≡ flag
flag_read f id b none set unset flag e = go (one_text f id) refl (ap flag_of (one_text-rows f id) ∙ e)
  where
    text : (t : Text) → one_text f id ≡ Some t → (x y : Bool) → bytes_eq t (codes "true") ≡ x → bytes_eq t (codes "false") ≡ y
        → cond x (Some true) (cond y (Some false) None) ≡ Some flag → b ≡ flag
    text t is true y p q h = set (is ∙ ap Some ((bytes_eq-Decides t (codes "true")).0 p)) ∙ cc
    text t is false true p q h = unset (is ∙ ap Some ((bytes_eq-Decides t (codes "false")).0 q)) ∙ cc
    text t is false false p q h = cc

    go : (o : Option Text) → one_text f id ≡ o → flag_of (one_text f id) ≡ Some flag → b ≡ flag
    go None is h = none is ∙ (let told : flag_of None ≡ Some flag = ap flag_of (sym is) ∙ h in cc)
    go (Some t) is h = text t is _ _ refl refl (ap flag_of (sym is) ∙ h)

-- ---- the commands

module _ (rows : List Row) (x : Asked) where
  pub no_swap_inspected : swap_in rows ≡ None → inspect_in rows ≡ Some x → ⊥
  no_swap_inspected none e = let no : inspect_in rows ≡ None = rw none refl in cc

  pub no_offset : (swap : Text) → swap_in rows ≡ Some swap → number_at 32 (codes "offset") rows ≡ None → inspect_in rows ≡ Some x → ⊥
  no_offset swap is none e = let no : inspect_in rows ≡ None = rw (is, none) refl in cc

  pub inspected : (swap : Text) (offset : ℕ) → swap_in rows ≡ Some swap → number_at 32 (codes "offset") rows ≡ Some offset → inspect_in rows ≡ Some x
      → Some (inspect offset swap) ≡ Some x
  inspected swap offset is at e = let made : inspect_in rows ≡ Some (inspect offset swap) = rw (is, at) refl in sym made ∙ e

  pub no_swap_hibernated : swap_in rows ≡ None → hibernate_in rows ≡ Some x → ⊥
  no_swap_hibernated none e = let no : hibernate_in rows ≡ None = rw none refl in cc

  pub hibernated : (swap : Text) (size : Option ℕ) (skips : Bool) → swap_in rows ≡ Some swap → number_at 64 (codes "image-size") rows ≡ size
      → ((flag : Bool) → flag_at (codes "skip-zeros") rows ≡ Some flag → skips ≡ flag) → hibernate_in rows ≡ Some x
      → Some (hibernate (format_by skips) size swap) ≡ Some x
  hibernated swap size skips is sized told e = go (flag_at (codes "skip-zeros") rows) refl
    where
      go : (o : Option Bool) → flag_at (codes "skip-zeros") rows ≡ o → Some (hibernate (format_by skips) size swap) ≡ Some x
      go None off = let none : hibernate_in rows ≡ None = rw (is, off) refl in cc
      go (Some flag) at =
          let made : hibernate_in rows ≡ Some (hibernate (format_by flag) size swap) = rw (is, at, sized) refl in
          ap (λ b. Some (hibernate (format_by b) size swap)) (told flag at) ∙ (sym made ∙ e)

  pub no_swap_resumed : swap_in rows ≡ None → resume_in rows ≡ Some x → ⊥
  no_swap_resumed none e = let no : resume_in rows ≡ None = rw none refl in cc

  pub resumed : (swap : Text) (any : Bool) → swap_in rows ≡ Some swap → ((flag : Bool) → flag_at (codes "any-kernel") rows ≡ Some flag → any ≡ flag)
      → resume_in rows ≡ Some x → Some (resume (check_by any) swap) ≡ Some x
  resumed swap any is told e = go (flag_at (codes "any-kernel") rows) refl
    where
      go : (o : Option Bool) → flag_at (codes "any-kernel") rows ≡ o → Some (resume (check_by any) swap) ≡ Some x
      go None off = let none : resume_in rows ≡ None = rw (is, off) refl in cc
      go (Some flag) at =
          let made : resume_in rows ≡ Some (resume (check_by flag) swap) = rw (is, at) refl in
          ap (λ b. Some (resume (check_by b) swap)) (told flag at) ∙ (sym made ∙ e)

  pub no_number : number_at 32 (codes "number") rows ≡ None → drill_in rows ≡ Some x → ⊥
  no_number none e = let no : drill_in rows ≡ None = rw none refl in cc

  pub drilled : (number : ℕ) → number_at 32 (codes "number") rows ≡ Some number → drill_in rows ≡ Some x → Some (drill number) ≡ Some x
  drilled number is e = let made : drill_in rows ≡ Some (drill number) = rw is refl in sym made ∙ e

  pub no_swap_imported : swap_in rows ≡ None → import_in rows ≡ Some x → ⊥
  no_swap_imported none e = let no : import_in rows ≡ None = rw none refl in cc

  pub imported : (swap : Text) → swap_in rows ≡ Some swap → import_in rows ≡ Some x → Some (import swap) ≡ Some x
  imported swap is e = let made : import_in rows ≡ Some (import swap) = rw is refl in sym made ∙ e
