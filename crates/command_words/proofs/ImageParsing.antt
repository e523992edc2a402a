-- What a parse returns, over plain variables.
use Rattle.std.proofs.Common.{◌≡◌, Some, None, List}
use Rattle.clap.specs.Words.{Text, subcommand_of}
use Rattle.command_words.proofs.Refusals.{nothing}
use Rattle.command_words.specs.ImageApp.{image_app}
use Rattle.command_words.specs.ImageMatched.{asked_in}
use Rattle.command_words.specs.ImageWords.{Asked, command_of}
use Rattle.command_words.proofs.ImageTaken.{taken_as_asked}

-- no plain words fail where the command of the matches is found
pub unfound : (words : List Text) → ((x : Asked) → asked_in (subcommand_of image_app words) ≡ Some x → command_of words ≡ Some x → ⊥) → command_of words ≡ None
unfound words h = nothing (command_of words) (λ x e. h x (taken_as_asked words x e).matched e)
