-- The lines of facts: a key, and then the numbers of its value, each after a space, or its text.
use Rattle.std.specs.Prelude.{ℕ, ◌&&◌, Bool, List, ◌++◌, codes, decimal, nat_le, if◌then◌else◌}
use Rattle.std.specs.Int.{w64, to_be_bytes}
use Rattle.std.specs.List.{flat_map, list_all}
use Rattle.definitions.specs.InfoPage.{text_of_name}
use Rattle.plain_machine.specs.Replies.{hex_text}
use Rattle.byte_streams.specs.declared.facts.name.Name.{Name}
use Rattle.byte_streams.specs.declared.facts.name.Name.TheVariants as name

-- a number after a space, and a key with such numbers
abbrev pub number_text : ℕ → List ℕ
number_text n = codes " " ++ decimal n

abbrev pub numbers_text : List ℕ → List ℕ → List ℕ
numbers_text key numbers = key ++ flat_map number_text numbers

-- a key, and a word as 16 hexadecimal digits
abbrev pub word_text : List ℕ → ℕ → List ℕ
word_text key n = key ++ codes " 0x" ++ hex_text (to_be_bytes w64 n)

-- the names, in the order of struct new_utsname
abbrev pub name_key : Name → List ℕ
name_key name.Sysname = codes "sysname"
name_key name.Nodename = codes "nodename"
name_key name.Release = codes "release"
name_key name.Version = codes "version"
name_key name.Machine = codes "machine"
name_key name.Domainname = codes "domainname"

-- whether a byte is a space or a visible character of ASCII
abbrev pub is_printable : ℕ → Bool
is_printable b = nat_le 32 b && nat_le b 126

-- A text as it is if each byte is printable, else as two hexadecimal digits for each byte.
abbrev pub value_text : List ℕ → List ℕ
value_text text = if list_all is_printable text then codes " " ++ text else codes "_hex " ++ hex_text text

-- a name up to its first zero byte
abbrev pub name_text : Name → List ℕ → List ℕ
name_text key bytes = name_key key ++ value_text (text_of_name bytes)
