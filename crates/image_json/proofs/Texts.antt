-- Texts that are put together of pieces.
use Rattle.std.proofs.Common.{◌≡◌, ℕ, ◌+◌, ◌-◌, ◌<◌, true, false, Bool, List, [], ◌∷◌, ◌++◌, length, take, get_or, encode_utf8, nat_le, cond, refl, sym, ap, ◌∙◌, append_assoc, append-nil, length-append, arith}
use Rattle.std.proofs.lemmas.List.{take_at, take_more}
use Rattle.serde_json.specs.Data.{number, string, unsigned}
use Rattle.serde_json.specs.Written.{has_float}
use Rattle.image_json.specs.Values.{characters, number_value, run_value}
use Rattle.std.specs.Prelude.{decimal}

characters_both : (xs ys : List ℕ) → characters (xs ++ ys) ≡ characters xs ++ characters ys
characters_both [] ys = refl
characters_both (x ∷ xs) ys = ap (λ (t : List ℕ). encode_utf8 x ++ t) (characters_both xs ys) ∙ sym (append_assoc (encode_utf8 x) (characters xs) (characters ys))

pub one_character : (bytes : List ℕ) (i d : ℕ) → i < length bytes → characters (take (i + 1) bytes) ≡ characters (take i bytes) ++ encode_utf8 (get_or bytes i d)
one_character bytes i d lt =
    ap characters (take_more bytes i d lt) ∙ characters_both (take i bytes) (get_or bytes i d ∷ [])
    ∙ ap (λ (t : List ℕ). characters (take i bytes) ++ t) (append-nil (encode_utf8 (get_or bytes i d)))

pub no_float : (n : ℕ) → has_float (number_value n) ≡ false
no_float n = go (nat_le n 9007199254740992)
  where
    go : (b : Bool) → has_float (cond b (number (unsigned n)) (string (decimal n))) ≡ false
    go true = refl
    go false = refl

pub no_float_in : (start count : ℕ) → has_float (run_value start count) ≡ false
no_float_in start count = rw (no_float start, no_float count) refl

-- a line without its end
pub without_end : (text : List ℕ) → take (length (text ++ 10 ∷ []) - 1) (text ++ 10 ∷ []) ≡ text
without_end text =
    let size : length text ≡ length (text ++ 10 ∷ []) - 1 = omega (arith, length-append text (10 ∷ [])) in
    take_at text (10 ∷ []) (length (text ++ 10 ∷ []) - 1) size
