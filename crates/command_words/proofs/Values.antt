-- Words that stand for values, and what clap makes of a whole list.
use Rattle.std.proofs.Common.{◌≡◌, ◌==◌, ℕ, Bool, true, false, not, refl, None, Some, List, [], ◌∷◌}
use Rattle.std.specs.Str.{bytes_eq}
use Rattle.clap.specs.Lexer.{strip_byte}
use Rattle.clap.specs.ValueTests.{accepts}
use Rattle.clap.specs.Words.{Text, subcommand_of, takes}
use Rattle.clap.specs.declared.builder.value_parser.ValueParser.{ValueParser}
use Rattle.command_words.specs.App.{swsusp_app}
use Rattle.command_words.specs.Matched.{asked_in, parsed}
use Rattle.command_words.specs.Words.{Asked, is_path}

-- the word is no flag, and no `--`
pub record IsValue (word : Text) : Type 0 where
  pub dash : strip_byte 45 word ≡ None
  pub dashes : bytes_eq word (45 ∷ 45 ∷ []) ≡ false

pub path_value : (swap : List ℕ) → is_path swap ≡ true → IsValue swap
path_value [] e = cc
path_value (b ∷ bs) e = go (b == 45) refl e
  where
    go : (t : Bool) → (b == 45) ≡ t → not t ≡ true → IsValue (b ∷ bs)
    go true t h = cc
    go false t h = record { dash = rw t refl; dashes = rw t refl }

-- the word is a number that an argument's parser takes and a getter reads
pub record IsNumber (bits : ℕ) (parser : ValueParser) (word : Text) (n : ℕ) : Type 0 where
  pub plain : IsValue word
  pub fits : accepts false parser word ≡ true
  pub reads : parsed bits word ≡ Some n

-- clap takes the words, and its matches ask for this
pub record Asks (words : List Text) (asked : Asked) : Type 0 where
  pub taken : takes swsusp_app words ≡ true
  pub matched : asked_in (subcommand_of swsusp_app words) ≡ Some asked
