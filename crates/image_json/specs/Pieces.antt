-- What is printed of an object's facts, one after another.
use Rattle.std.specs.Prelude.{ℕ, Bool, false, List, ◌++◌, codes, is_some, if◌then◌else◌, Option, Some, None}
use Rattle.json.specs.Print.{quoted}
use Rattle.serde_json.specs.Written.{compact_text}
use Rattle.image_show.specs.declared.facts.fact.Fact.{Fact}
use Rattle.image_show.specs.Forms.{Style}
use Rattle.image_json.specs.Values.{array_of, is_same, key_of, value_of}

-- what comes between a fact, if there is one, and the key of the next
abbrev pub end_of : Option Fact → List ℕ
end_of None = codes "{"
end_of (Some f) = if is_some (array_of f) then codes "]," else codes ","

-- what comes between a key and its value or its first item
abbrev pub start_of : Fact → List ℕ
start_of f = if is_some (array_of f) then codes ":[" else codes ":"

abbrev pub is_next_item : Option Fact → Fact → Bool
is_next_item None f = false
is_next_item (Some last) f = is_same (array_of last) (array_of f)

abbrev pub piece : Option Fact → Fact → List ℕ
piece last f =
    if is_next_item last f then codes "," ++ compact_text (value_of f)
    else end_of last ++ (quoted (key_of f) ++ (start_of f ++ compact_text (value_of f)))

-- what is printed after the last fact
abbrev pub closing : Option Fact → List ℕ
closing None = codes "{}\n"
closing (Some f) = if is_some (array_of f) then codes "]}\n" else codes "}\n"

-- the form of the members of an object: the last fact is kept
abbrev pub members : Style
members = record { piece = piece; kept = λ last f. Some f }
