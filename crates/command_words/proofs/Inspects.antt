-- Clap takes the plain words of an inspection, and its matches ask for it.
use Rattle.std.proofs.Common.{◌≡◌, ℕ, true, pos, Some, [], ◌∷◌, codes}
use Rattle.clap.specs.Words.{Text, subcommand_of, takes}
use Rattle.clap.proofs.OnLiterals.{clap_on_literals}
use Rattle.clap.specs.declared.builder.value_parser.ValueParser.TheVariants as parser
use Rattle.command_words.specs.App.{swsusp_app}
use Rattle.command_words.specs.Matched.{asked_in, parsed}
use Rattle.command_words.specs.Words.{inspect}
use Rattle.command_words.proofs.Values.{Asks, IsNumber, IsValue}

module _ (name swap : Text) (s : IsValue swap) where
  taken : takes swsusp_app (name ∷ codes "inspect" ∷ swap ∷ []) ≡ true
  unfolding clap_on_literals
  taken = simp (s.dash, s.dashes)

  matched : asked_in (subcommand_of swsusp_app (name ∷ codes "inspect" ∷ swap ∷ [])) ≡ Some (inspect 0 swap)
  unfolding clap_on_literals parsed
  matched = simp (s.dash, s.dashes)

  pub inspects : Asks (name ∷ codes "inspect" ∷ swap ∷ []) (inspect 0 swap)
  inspects = record { taken = taken; matched = matched }

  module _ (number : Text) (n : ℕ) (d : IsNumber 32 (parser.Signed (pos 0) (pos 4294967295)) number n) where
    taken_at : takes swsusp_app (name ∷ codes "inspect" ∷ codes "--offset" ∷ number ∷ swap ∷ []) ≡ true
    unfolding clap_on_literals
    taken_at = simp (s.dash, s.dashes, d.plain.dash, d.plain.dashes, d.fits)

    matched_at : asked_in (subcommand_of swsusp_app (name ∷ codes "inspect" ∷ codes "--offset" ∷ number ∷ swap ∷ [])) ≡ Some (inspect n swap)
    unfolding clap_on_literals
    matched_at = simp (s.dash, s.dashes, d.plain.dash, d.plain.dashes, d.reads)

    pub inspects_at : Asks (name ∷ codes "inspect" ∷ codes "--offset" ∷ number ∷ swap ∷ []) (inspect n swap)
    inspects_at = record { taken = taken_at; matched = matched_at }
