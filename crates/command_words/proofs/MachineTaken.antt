-- Clap takes each list of words that asks for a command, and its matches ask for it.
use Rattle.std.proofs.Common.{◌≡◌, ℕ, true, pos, refl, sym, subst, arith, decimal, Some, None, List, [], ◌∷◌, codes}
use Rattle.clap.specs.Words.{Text, subcommand_of, takes}
use Rattle.clap.proofs.OnLiterals.{clap_on_literals}
use Rattle.plain_machine.specs.declared.event.IdentCheck.TheVariants.{Compare, Skip}
use Rattle.clap.specs.declared.builder.value_parser.ValueParser.TheVariants as parser
use Rattle.command_words.proofs.Numbers.{as_signed, plain_decimal}
use Rattle.command_words.proofs.Values.{IsNumber, IsValue, path_value}
use Rattle.command_words.specs.MachineApp.{machine_app}
use Rattle.command_words.specs.MachineMatched.{asked_in}
use Rattle.command_words.specs.MachineSpelled.{IsSpelled, IsValid}
use Rattle.command_words.specs.MachineWords.{Asked, make, draw, loader, core, from_core, show, differ, check, command_of}
use Rattle.command_words.proofs.MachineForms.{spells}

-- clap takes the words, and its matches ask for this
pub record Asks (words : List Text) (asked : Asked) : Type 0 where
  pub taken : takes machine_app words ≡ true
  pub matched : asked_in (subcommand_of machine_app words) ≡ Some asked

module _ (name : Text) where
  makes : Asks (name ∷ codes "make" ∷ []) make
  unfolding clap_on_literals
  makes = record { taken = refl; matched = refl }

  draws : Asks (name ∷ codes "draw" ∷ []) draw
  unfolding clap_on_literals
  draws = record { taken = refl; matched = refl }

  loads : Asks (name ∷ codes "loader" ∷ []) loader
  unfolding clap_on_literals
  loads = record { taken = refl; matched = refl }

  cores : Asks (name ∷ codes "core" ∷ []) core
  unfolding clap_on_literals
  cores = record { taken = refl; matched = refl }

  reads : Asks (name ∷ codes "from-core" ∷ []) (from_core None)
  unfolding clap_on_literals
  reads = record { taken = refl; matched = refl }

  module _ (number : Text) (n : ℕ) (d : IsNumber 32 (parser.Signed (pos 2) (pos 131072)) number n) where
    taken_slots : takes machine_app (name ∷ codes "from-core" ∷ codes "--slots" ∷ number ∷ []) ≡ true
    unfolding clap_on_literals
    taken_slots = simp (d.plain.dash, d.plain.dashes, d.fits)

    matched_slots : asked_in (subcommand_of machine_app (name ∷ codes "from-core" ∷ codes "--slots" ∷ number ∷ [])) ≡ Some (from_core (Some n))
    unfolding clap_on_literals
    matched_slots = simp (d.plain.dash, d.plain.dashes, d.reads)

    reads_slots : Asks (name ∷ codes "from-core" ∷ codes "--slots" ∷ number ∷ []) (from_core (Some n))
    reads_slots = record { taken = taken_slots; matched = matched_slots }

  shows : Asks (name ∷ codes "show" ∷ []) show
  unfolding clap_on_literals
  shows = record { taken = refl; matched = refl }

  module _ (first second : Text) (f : IsValue first) (s : IsValue second) where
    taken_pair : takes machine_app (name ∷ codes "differ" ∷ first ∷ second ∷ []) ≡ true
    unfolding clap_on_literals
    taken_pair = simp (f.dash, f.dashes, s.dash, s.dashes)

    matched_pair : asked_in (subcommand_of machine_app (name ∷ codes "differ" ∷ first ∷ second ∷ [])) ≡ Some (differ first second)
    unfolding clap_on_literals
    matched_pair = simp (f.dash, f.dashes, s.dash, s.dashes)

    differs : Asks (name ∷ codes "differ" ∷ first ∷ second ∷ []) (differ first second)
    differs = record { taken = taken_pair; matched = matched_pair }

  module _ (swap : Text) (s : IsValue swap) where
    taken_swap : takes machine_app (name ∷ codes "check" ∷ swap ∷ []) ≡ true
    unfolding clap_on_literals
    taken_swap = simp (s.dash, s.dashes)

    matched_swap : asked_in (subcommand_of machine_app (name ∷ codes "check" ∷ swap ∷ [])) ≡ Some (check Compare swap)
    unfolding clap_on_literals
    matched_swap = simp (s.dash, s.dashes)

    checks : Asks (name ∷ codes "check" ∷ swap ∷ []) (check Compare swap)
    checks = record { taken = taken_swap; matched = matched_swap }

    taken_any : takes machine_app (name ∷ codes "check" ∷ codes "--any-kernel" ∷ swap ∷ []) ≡ true
    unfolding clap_on_literals
    taken_any = simp (s.dash, s.dashes)

    matched_any : asked_in (subcommand_of machine_app (name ∷ codes "check" ∷ codes "--any-kernel" ∷ swap ∷ [])) ≡ Some (check Skip swap)
    unfolding clap_on_literals
    matched_any = simp (s.dash, s.dashes)

    checks_any : Asks (name ∷ codes "check" ∷ codes "--any-kernel" ∷ swap ∷ []) (check Skip swap)
    checks_any = record { taken = taken_any; matched = matched_any }

of_same : (words known : List Text) (asked : Asked) (name : Text) → words ≡ known → Asks (name ∷ known) asked → Asks (name ∷ words) asked
of_same words known asked name e h = subst (λ (w : List Text). Asks (name ∷ w) asked) (sym e) h

taken : (name : Text) (words : List Text) (asked : Asked) → IsValid asked → IsSpelled asked words → Asks (name ∷ words) asked
taken name words make valid spelled = of_same words _ _ name spelled (makes name)
taken name words draw valid spelled = of_same words _ _ name spelled (draws name)
taken name words loader valid spelled = of_same words _ _ name spelled (loads name)
taken name words core valid spelled = of_same words _ _ name spelled (cores name)
taken name words (from_core None) valid spelled = of_same words _ _ name spelled (reads name)
taken name words (from_core (Some n)) valid spelled =
    let plain = plain_decimal 131073 n (omega arith) (omega (arith, valid.1)) in
    let number = as_signed 131073 2 131072 (decimal n) n (omega (arith, valid.0)) (omega (arith, valid.1)) (omega arith) plain in
    of_same words _ _ name spelled (reads_slots name (decimal n) n number)
taken name words show valid spelled = of_same words _ _ name spelled (shows name)
taken name words (differ first second) valid spelled =
    of_same words _ _ name spelled (differs name first second (path_value first valid.0) (path_value second valid.1))
taken name words (check Compare swap) valid spelled = of_same words _ _ name spelled (checks name swap (path_value swap valid))
taken name words (check Skip swap) valid spelled = of_same words _ _ name spelled (checks_any name swap (path_value swap valid))

pub taken_as_asked : (words : List Text) (asked : Asked) → command_of words ≡ Some asked → Asks words asked
taken_as_asked words asked e =
    let p = spells words asked e in
    subst (λ (w : List Text). Asks w asked) (sym p.2) (taken p.0 p.1 asked p.3.0 p.3.1)
