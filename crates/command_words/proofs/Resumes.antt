-- Clap takes the plain words of a resume, and its matches ask for it.
use Rattle.std.proofs.Common.{◌≡◌, true, Some, [], ◌∷◌, codes}
use Rattle.clap.specs.Words.{Text, subcommand_of, takes}
use Rattle.clap.proofs.OnLiterals.{clap_on_literals}
use Rattle.plain_machine.specs.declared.event.IdentCheck.TheVariants.{Compare, Skip}
use Rattle.command_words.specs.App.{swsusp_app}
use Rattle.command_words.specs.Matched.{asked_in}
use Rattle.command_words.specs.Words.{resume}
use Rattle.command_words.proofs.Values.{Asks, IsValue}

module _ (name swap : Text) (s : IsValue swap) where
  taken : takes swsusp_app (name ∷ codes "resume" ∷ swap ∷ []) ≡ true
  unfolding clap_on_literals
  taken = simp (s.dash, s.dashes)

  matched : asked_in (subcommand_of swsusp_app (name ∷ codes "resume" ∷ swap ∷ [])) ≡ Some (resume Compare swap)
  unfolding clap_on_literals
  matched = simp (s.dash, s.dashes)

  pub resumes : Asks (name ∷ codes "resume" ∷ swap ∷ []) (resume Compare swap)
  resumes = record { taken = taken; matched = matched }

  taken_of_any : takes swsusp_app (name ∷ codes "resume" ∷ codes "--any-kernel" ∷ swap ∷ []) ≡ true
  unfolding clap_on_literals
  taken_of_any = simp (s.dash, s.dashes)

  matched_of_any : asked_in (subcommand_of swsusp_app (name ∷ codes "resume" ∷ codes "--any-kernel" ∷ swap ∷ [])) ≡ Some (resume Skip swap)
  unfolding clap_on_literals
  matched_of_any = simp (s.dash, s.dashes)

  pub resumes_any : Asks (name ∷ codes "resume" ∷ codes "--any-kernel" ∷ swap ∷ []) (resume Skip swap)
  resumes_any = record { taken = taken_of_any; matched = matched_of_any }
