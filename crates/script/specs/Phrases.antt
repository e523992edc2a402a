-- The texts of replies, by the words and numbers that make them up.
use Rattle.std.specs.Prelude.{◌≤◌, ◌+◌, ◌++◌, ⊤, ℕ, List, codes, decimal, length}
use Rattle.plain_machine.specs.Replies.{booted_text, call_text, field_text, left_text, no_swap_text, one, two}
use Rattle.script.specs.declared.phrases.Phrase.{Phrase}
use Rattle.script.specs.declared.phrases.Phrase.TheVariants as phrase

abbrev pub phrase_text : Phrase → List ℕ
phrase_text (phrase.Words words) = words.now
phrase_text (phrase.One name n) = one name.now n
phrase_text (phrase.Wide name n) = one name.now n
phrase_text (phrase.Two name m between n) = two name.now m between.now n
phrase_text (phrase.WideTwo name m between n) = two name.now m between.now n
phrase_text (phrase.Booted image) = booted_text image
phrase_text (phrase.Undo call k) = codes "undo " ++ call_text call ++ codes " " ++ decimal k
phrase_text (phrase.NoSwap why) = no_swap_text why.now
phrase_text (phrase.Mismatch field) = codes "mismatch " ++ field_text field
phrase_text (phrase.Fault name left) = name.now ++ left_text left

-- the words leave room for the numbers on the line
abbrev pub IsShort : Phrase → Type 0
IsShort (phrase.Words words) = length words.now ≤ 40
IsShort (phrase.One name n) = length name.now ≤ 40
IsShort (phrase.Wide name n) = length name.now ≤ 40
IsShort (phrase.Two name m between n) = length name.now + length between.now ≤ 60
IsShort (phrase.WideTwo name m between n) = length name.now + length between.now ≤ 60
IsShort (phrase.Booted image) = ⊤
IsShort (phrase.Undo call k) = ⊤
IsShort (phrase.NoSwap why) = ⊤
IsShort (phrase.Mismatch field) = ⊤
IsShort (phrase.Fault name left) = length name.now ≤ 40
