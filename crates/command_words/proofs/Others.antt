-- Clap takes the plain words of the commands without options, and its matches ask for these.
use Rattle.std.proofs.Common.{◌≡◌, ℕ, true, pos, refl, Some, [], ◌∷◌, codes}
use Rattle.clap.specs.Words.{Text, subcommand_of, takes}
use Rattle.clap.proofs.OnLiterals.{clap_on_literals}
use Rattle.clap.specs.declared.builder.value_parser.ValueParser.TheVariants as parser
use Rattle.command_words.specs.App.{swsusp_app}
use Rattle.command_words.specs.Matched.{asked_in}
use Rattle.command_words.specs.Words.{replay, drill, export, import}
use Rattle.command_words.proofs.Values.{Asks, IsNumber, IsValue}

module _ (name : Text) where
  pub replays : Asks (name ∷ codes "replay" ∷ []) replay
  unfolding clap_on_literals
  replays = record { taken = refl; matched = refl }

  pub exports : Asks (name ∷ codes "export" ∷ []) export
  unfolding clap_on_literals
  exports = record { taken = refl; matched = refl }

  module _ (swap : Text) (s : IsValue swap) where
    taken_import : takes swsusp_app (name ∷ codes "import" ∷ swap ∷ []) ≡ true
    unfolding clap_on_literals
    taken_import = simp (s.dash, s.dashes)

    matched_import : asked_in (subcommand_of swsusp_app (name ∷ codes "import" ∷ swap ∷ [])) ≡ Some (import swap)
    unfolding clap_on_literals
    matched_import = simp (s.dash, s.dashes)

    pub imports : Asks (name ∷ codes "import" ∷ swap ∷ []) (import swap)
    imports = record { taken = taken_import; matched = matched_import }

  module _ (number : Text) (n : ℕ) (d : IsNumber 32 (parser.Signed (pos 1) (pos 2000)) number n) where
    taken_drill : takes swsusp_app (name ∷ codes "drill" ∷ number ∷ []) ≡ true
    unfolding clap_on_literals
    taken_drill = simp (d.plain.dash, d.plain.dashes, d.fits)

    matched_drill : asked_in (subcommand_of swsusp_app (name ∷ codes "drill" ∷ number ∷ [])) ≡ Some (drill n)
    unfolding clap_on_literals
    matched_drill = simp (d.plain.dash, d.plain.dashes, d.reads)

    pub drills : Asks (name ∷ codes "drill" ∷ number ∷ []) (drill n)
    drills = record { taken = taken_drill; matched = matched_drill }
