use Rattle.std.proofs.Common.{◌≡◌, ◌-◌, map}
use Rattle.std.specs.Prelude.{string_bytes}
use Rattle.command_words.specs.LoaderGiven.{given_by}
use Rattle.command_words.specs.LoaderWords.{no_options, options_in}
use Rattle.command_words.proofs.loader.asked.options_in.Given as goal

abbrev pub invariant-loop : goal.invariant-loop
invariant-loop l = options_in (83 - l.counter) (given_by l.given) (map string_bytes l.rest) ≡ options_in 83 no_options (map string_bytes l.fn.words)
