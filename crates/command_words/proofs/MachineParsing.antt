-- What a parse returns, over plain variables.
use Rattle.std.proofs.Common.{◌≡◌, true, refl, Some, None, List}
use Rattle.clap.proofs.OnLiterals.{clap_on_literals}
use Rattle.clap.specs.Words.{Text, is_simple, subcommand_of}
use Rattle.command_words.proofs.Refusals.{nothing}
use Rattle.command_words.specs.MachineApp.{machine_app}
use Rattle.command_words.specs.MachineMatched.{asked_in}
use Rattle.command_words.specs.MachineWords.{Asked, command_of}
use Rattle.command_words.proofs.MachineTaken.{taken_as_asked}

-- no plain words fail where the command of the matches is found
pub unfound : (words : List Text) → ((x : Asked) → asked_in (subcommand_of machine_app words) ≡ Some x → command_of words ≡ Some x → ⊥) → command_of words ≡ None
unfound words h = nothing (command_of words) (λ x e. h x (taken_as_asked words x e).matched e)

pub simple : is_simple machine_app ≡ true
unfolding clap_on_literals
simple = refl
