-- The object of an area's facts: a member for each fact, in order, or an array for consecutive facts that are items of
-- the same one.
use Rattle.std.specs.Prelude.{ℕ, List, [], ◌∷◌, ◌++◌, is_some, if◌then◌else◌, Option}
use Rattle.serde_json.specs.Data.{Data, array, null, object, Members, member, no_members}
use Rattle.serde_json.specs.View.{items_of}
use Rattle.serde_json.specs.Written.{compact_text}
use Rattle.image_show.specs.declared.facts.fact.Fact.{Fact}
use Rattle.image_json.specs.Values.{array_of, is_same, key_of, value_of}
use Rattle.image_json.specs.declared.array.Array.{Array}

-- facts under one key: the items of one array, or a single fact
pub record Group : Type 0 where
  pub key : List ℕ
  pub array : Option Array
  pub values : List Data

abbrev pub alone : Fact → Group
alone f = record { key = key_of f; array = array_of f; values = value_of f ∷ [] }

-- the groups of a fact and of those after it
abbrev pub with_fact : Fact → List Group → List Group
with_fact f [] = alone f ∷ []
with_fact f (g ∷ gs) =
    if is_same (array_of f) g.array
    then record { key = key_of f; array = array_of f; values = value_of f ∷ g.values } ∷ gs
    else alone f ∷ g ∷ gs

abbrev pub grouped : List Fact → List Group
grouped [] = []
grouped (f ∷ fs) = with_fact f (grouped fs)

-- the value of a single fact
abbrev pub first_of : List Data → Data
first_of [] = null
first_of (d ∷ ds) = d

abbrev pub data_of : Group → Data
data_of g = if is_some g.array then array (items_of g.values) else first_of g.values

abbrev pub members_of : List Group → Members
members_of [] = no_members
members_of (g ∷ gs) = member g.key (data_of g) (members_of gs)

abbrev pub object_of : List Fact → Data
object_of facts = object (members_of (grouped facts))

-- the line of that object
abbrev pub object_line : List Fact → List ℕ
object_line facts = compact_text (object_of facts) ++ 10 ∷ []
