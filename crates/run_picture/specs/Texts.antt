-- Pieces of the picture's text.
use Rattle.std.specs.Prelude.{ℕ, ◌==◌, List, [], ◌∷◌, ◌++◌, codes, decimal, flat_map, if◌then◌else◌}

-- a byte that has a meaning in XML is written as an entity
abbrev pub escape : ℕ → List ℕ
escape b = if b == 38 then codes "&amp;" else if b == 60 then codes "&lt;" else if b == 62 then codes "&gt;" else b ∷ []

abbrev pub escaped : List ℕ → List ℕ
escaped text = flat_map escape text

abbrev pub named : List ℕ → ℕ → List ℕ
named name n = name ++ decimal n

-- a use of a shape that the head defines, by its kind, if any, and its name
abbrev pub use_text : List ℕ → List ℕ → List ℕ
use_text kind name = codes "<use href='#" ++ kind ++ name ++ codes "'/>\n"
