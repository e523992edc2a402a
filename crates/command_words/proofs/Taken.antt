-- Clap takes each list of words that asks for a command, and its matches ask for it.
use Rattle.std.proofs.Common.{◌≡◌, ◌<◌, ◌^◌, inl, inr, ℕ, sym, subst, arith, Some, None, List, [], ◌∷◌, codes, decimal}
use Rattle.clap.specs.declared.builder.value_parser.ValueParser.TheVariants as parser
use Rattle.page_core.specs.declared.format.Format.TheVariants.{Plain, SkipZeros}
use Rattle.plain_machine.specs.declared.event.IdentCheck.TheVariants.{Compare, Skip}
use Rattle.command_words.specs.Words.{Asked, inspect, hibernate, resume, replay, drill, export, import, command_of}
use Rattle.command_words.proofs.Hibernates.{hibernates_both, hibernates_plain, hibernates_sized, hibernates_turned, hibernates_without}
use Rattle.command_words.proofs.Inspects.{inspects, inspects_at}
use Rattle.command_words.proofs.Numbers.{as_signed, as_unsigned, plain_decimal}
use Rattle.command_words.proofs.Others.{drills, exports, imports, replays}
use Rattle.command_words.proofs.Resumes.{resumes, resumes_any}
use Rattle.command_words.specs.Spelled.{IsSpelled, IsValid}
use Rattle.command_words.proofs.Forms.{spells}
use Rattle.command_words.proofs.Values.{Asks, IsNumber, path_value}

size_value : (n : ℕ) → n < 2 ^ 64 → IsNumber 64 (parser.Unsigned 0 18446744073709551615) (decimal n) n
size_value n small = as_unsigned (2 ^ 64) (decimal n) n (omega arith) (plain_decimal (2 ^ 64) n (omega arith) small)

of_same : (words known : List (List ℕ)) (asked : Asked) (name : List ℕ) → words ≡ known → Asks (name ∷ known) asked → Asks (name ∷ words) asked
of_same words known asked name e h = subst (λ (w : List (List ℕ)). Asks (name ∷ w) asked) (sym e) h

zero_asks : (name swap : List ℕ) (n : ℕ) → n ≡ 0 → Asks (name ∷ codes "inspect" ∷ swap ∷ []) (inspect 0 swap) → Asks (name ∷ codes "inspect" ∷ swap ∷ []) (inspect n swap)
zero_asks name swap n is h = subst (λ (k : ℕ). Asks (name ∷ codes "inspect" ∷ swap ∷ []) (inspect k swap)) (sym is) h

taken : (name : List ℕ) (words : List (List ℕ)) (asked : Asked) → IsValid asked → IsSpelled asked words → Asks (name ∷ words) asked
taken name words (inspect n swap) valid spelled = elim spelled [
  | inl h ↦ of_same words _ _ name h.1 (zero_asks name swap n h.0 (inspects name swap (path_value swap valid.1)))
  | inr h ↦ of_same words _ _ name h (inspects_at name swap (path_value swap valid.1) (decimal n) n
      (as_signed (2 ^ 32) 0 4294967295 (decimal n) n (omega arith) (omega (arith, valid.0)) (omega arith) (plain_decimal (2 ^ 32) n (omega arith) valid.0)))
]
taken name words (hibernate Plain None swap) valid spelled = of_same words _ _ name spelled (hibernates_plain name swap (path_value swap valid))
taken name words (hibernate SkipZeros None swap) valid spelled = of_same words _ _ name spelled (hibernates_without name swap (path_value swap valid))
taken name words (hibernate Plain (Some n) swap) valid spelled =
    of_same words _ _ name spelled (hibernates_sized name swap (path_value swap valid.1) (decimal n) n (size_value n valid.0))
taken name words (hibernate SkipZeros (Some n) swap) valid spelled = elim spelled [
  | inl h ↦ of_same words _ _ name h (hibernates_both name swap (path_value swap valid.1) (decimal n) n (size_value n valid.0))
  | inr h ↦ of_same words _ _ name h (hibernates_turned name swap (path_value swap valid.1) (decimal n) n (size_value n valid.0))
]
taken name words (resume Compare swap) valid spelled = of_same words _ _ name spelled (resumes name swap (path_value swap valid))
taken name words (resume Skip swap) valid spelled = of_same words _ _ name spelled (resumes_any name swap (path_value swap valid))
taken name words replay valid spelled = of_same words _ _ name spelled (replays name)
taken name words (drill n) valid spelled = of_same words _ _ name spelled (drills name (decimal n) n
    (as_signed 2001 1 2000 (decimal n) n (omega (arith, valid.0)) (omega (arith, valid.1)) (omega arith) (plain_decimal 2001 n (omega arith) (omega (arith, valid.1)))))
taken name words export valid spelled = of_same words _ _ name spelled (exports name)
taken name words (import swap) valid spelled = of_same words _ _ name spelled (imports name swap (path_value swap valid))

pub taken_as_asked : (words : List (List ℕ)) (asked : Asked) → command_of words ≡ Some asked → Asks words asked
taken_as_asked words asked e =
    let p = spells words asked e in
    subst (λ (w : List (List ℕ)). Asks w asked) (sym p.2) (taken p.0 p.1 asked p.3.0 p.3.1)
