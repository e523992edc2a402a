-- What is printed of facts one after another is the text of their object.
use Rattle.std.proofs.Common.{◌≡◌, ℕ, Bool, true, false, cond, List, [], ◌∷◌, ◌++◌, Option, Some, None, is_some, refl, sym, ap, ◌∙◌, append_assoc, codes}
use Rattle.json.specs.Print.{quoted}
use Rattle.serde_json.specs.Data.{Data}
use Rattle.serde_json.specs.View.{items_of}
use Rattle.serde_json.specs.Written.{comma_if, compact_text, items_text, members_text}
use Rattle.image_show.specs.declared.facts.fact.Fact.{Fact}
use Rattle.image_show.specs.Forms.{kept_after, pieces}
use Rattle.image_json.specs.Objects.{grouped, members_of, object_line, with_fact, Group}
use Rattle.image_json.specs.Pieces.{closing, members, piece}
use Rattle.image_json.specs.Values.{array_of, is_same, key_of, value_of}
use Rattle.image_json.specs.declared.array.Array.{Array}

abbrev nl : List ℕ
nl = 10 ∷ []

-- what is printed of the groups that follow a fact of an array, or of none
abbrev after : Option Array → List Group → List ℕ
after None gs = members_text true (members_of gs) ++ nl
after (Some a) [] = 93 ∷ (members_text true (members_of []) ++ nl)
after (Some a) (g ∷ gs) =
    cond (is_same (Some a) g.array) (items_text true (items_of g.values) ++ (members_text true (members_of gs) ++ nl))
    (93 ∷ (members_text true (members_of (g ∷ gs)) ++ nl))

abbrev rest_of : Option (Option Array) → List Group → List ℕ
rest_of None gs = 123 ∷ (members_text false (members_of gs) ++ nl)
rest_of (Some a) gs = after a gs

-- a fact by its key, its array and its value
abbrev one : List ℕ → Option Array → Data → Group
one k a d = record { key = k; array = a; values = d ∷ [] }

abbrev with_one : List ℕ → Option Array → Data → List Group → List Group
with_one k a d [] = one k a d ∷ []
with_one k a d (g ∷ gs) = cond (is_same a g.array) (record { key = k; array = a; values = d ∷ g.values } ∷ gs) (one k a d ∷ g ∷ gs)

abbrev start_by : Option Array → List ℕ
start_by a = cond (is_some a) (codes ":[") (codes ":")

abbrev end_by : Option Array → List ℕ
end_by a = cond (is_some a) (codes "],") (codes ",")

abbrev piece_by : Option (Option Array) → List ℕ → Option Array → List ℕ → List ℕ
piece_by None k a v = codes "{" ++ (quoted k ++ (start_by a ++ v))
piece_by (Some b) k a v = cond (is_same b a) (codes "," ++ v) (end_by b ++ (quoted k ++ (start_by a ++ v)))

five : (c k s v m : List ℕ) → (c ++ (k ++ (s ++ (v ++ m)))) ++ nl ≡ c ++ (k ++ (s ++ (v ++ (m ++ nl))))
five c k s v m =
    append_assoc c (k ++ (s ++ (v ++ m))) nl
    ∙ ap (λ (t : List ℕ). c ++ t) (append_assoc k (s ++ (v ++ m)) nl
    ∙ ap (λ (t : List ℕ). k ++ t) (append_assoc s (v ++ m) nl ∙ ap (λ (t : List ℕ). s ++ t) (append_assoc v m nl)))

-- and with an array's items between
six : (c k v i m : List ℕ) → (c ++ (k ++ 58 ∷ ((91 ∷ (v ++ i)) ++ m))) ++ nl ≡ c ++ (k ++ (58 ∷ 91 ∷ (v ++ (i ++ (m ++ nl)))))
six c k v i m =
    ap (λ (t : List ℕ). (c ++ (k ++ 58 ∷ 91 ∷ t)) ++ nl) (append_assoc v i m)
    ∙ five c k (58 ∷ 91 ∷ []) v (i ++ m)
    ∙ ap (λ (t : List ℕ). c ++ (k ++ (58 ∷ 91 ∷ (v ++ t)))) (append_assoc i m nl)

module _ (k : List ℕ) (d : Data) where
  begins : (later : Bool) (a : Option Array) (gs : List Group)
      → members_text later (members_of (with_one k a d gs)) ++ nl ≡ comma_if later ++ (quoted k ++ (start_by a ++ (compact_text d ++ after a gs)))
  begins later None [] = five (comma_if later) (quoted k) (58 ∷ []) (compact_text d) (members_text true (members_of []))
  begins later None (g ∷ gs) = five (comma_if later) (quoted k) (58 ∷ []) (compact_text d) (members_text true (members_of (g ∷ gs)))
  begins later (Some a) [] = six (comma_if later) (quoted k) (compact_text d) (93 ∷ []) (members_text true (members_of []))
  begins later (Some a) (g ∷ gs) = go (is_same (Some a) g.array)
    where
      go : (b : Bool)
          → members_text later (members_of (cond b (record { key = k; array = Some a; values = d ∷ g.values } ∷ gs) (one k (Some a) d ∷ g ∷ gs))) ++ nl
          ≡ comma_if later ++ (quoted k ++ (codes ":[" ++ (compact_text d ++ cond b (items_text true (items_of g.values) ++ (members_text true (members_of gs) ++ nl))
          (93 ∷ (members_text true (members_of (g ∷ gs)) ++ nl)))))
      go true = six (comma_if later) (quoted k) (compact_text d) (items_text true (items_of g.values)) (members_text true (members_of gs))
      go false = six (comma_if later) (quoted k) (compact_text d) (93 ∷ []) (members_text true (members_of (g ∷ gs)))

  joined : (s r : List ℕ) → (quoted k ++ (s ++ compact_text d)) ++ r ≡ quoted k ++ (s ++ (compact_text d ++ r))
  joined s r = append_assoc (quoted k) (s ++ compact_text d) r ∙ ap (λ (t : List ℕ). quoted k ++ t) (append_assoc s (compact_text d) r)

  -- a further item of the array
  goes_on : (b a : Array) (gs : List Group) → is_same (Some b) (Some a) ≡ true → 44 ∷ (compact_text d ++ after (Some a) gs) ≡ after (Some b) (with_one k (Some a) d gs)
  goes_on b a [] same =
      ap (λ (t : List ℕ). 44 ∷ t) (sym (append_assoc (compact_text d) (93 ∷ []) (members_text true (members_of []) ++ nl)))
      ∙ sym (ap (λ (t : Bool). cond t (items_text true (items_of (d ∷ [])) ++ (members_text true (members_of []) ++ nl)) (93 ∷ (members_text true (members_of (one k (Some a) d ∷ [])) ++ nl))) same)
  goes_on b a (g ∷ gs) same = go (is_same (Some a) g.array)
    where
      go : (t : Bool) → 44 ∷ (compact_text d ++ cond t (items_text true (items_of g.values) ++ (members_text true (members_of gs) ++ nl)) (93 ∷ (members_text true (members_of (g ∷ gs)) ++ nl)))
          ≡ after (Some b) (cond t (record { key = k; array = Some a; values = d ∷ g.values } ∷ gs) (one k (Some a) d ∷ g ∷ gs))
      go true =
          ap (λ (t : List ℕ). 44 ∷ t) (sym (append_assoc (compact_text d) (items_text true (items_of g.values)) (members_text true (members_of gs) ++ nl)))
          ∙ sym (ap (λ (t : Bool). cond t (items_text true (items_of (d ∷ g.values)) ++ (members_text true (members_of gs) ++ nl))
          (93 ∷ (members_text true (members_of (record { key = k; array = Some a; values = d ∷ g.values } ∷ gs)) ++ nl))) same)
      go false =
          ap (λ (t : List ℕ). 44 ∷ t) (sym (append_assoc (compact_text d) (93 ∷ []) (members_text true (members_of (g ∷ gs)) ++ nl)))
          ∙ sym (ap (λ (t : Bool). cond t (items_text true (items_of (d ∷ [])) ++ (members_text true (members_of (g ∷ gs)) ++ nl))
          (93 ∷ (members_text true (members_of (one k (Some a) d ∷ g ∷ gs)) ++ nl))) same)

  -- the end of another array
  ends : (b : Array) (a : Option Array) (gs : List Group) → is_same (Some b) a ≡ false
      → after (Some b) (with_one k a d gs) ≡ 93 ∷ (members_text true (members_of (with_one k a d gs)) ++ nl)
  ends b None [] other = refl
  ends b None (g ∷ gs) other = refl
  ends b (Some a) [] other = rw other refl
  ends b (Some a) (g ∷ gs) other = go (is_same (Some a) g.array)
    where
      go : (t : Bool) → after (Some b) (cond t (record { key = k; array = Some a; values = d ∷ g.values } ∷ gs) (one k (Some a) d ∷ g ∷ gs))
          ≡ 93 ∷ (members_text true (members_of (cond t (record { key = k; array = Some a; values = d ∷ g.values } ∷ gs) (one k (Some a) d ∷ g ∷ gs))) ++ nl)
      go true = rw other refl
      go false = rw other refl

  step : (last : Option (Option Array)) (a : Option Array) (gs : List Group) → piece_by last k a (compact_text d) ++ after a gs ≡ rest_of last (with_one k a d gs)
  step None a gs = ap (λ (t : List ℕ). 123 ∷ t) (joined (start_by a) (after a gs) ∙ sym (begins false a gs))
  step (Some None) a gs = ap (λ (t : List ℕ). 44 ∷ t) (joined (start_by a) (after a gs)) ∙ sym (begins true a gs)
  step (Some (Some b)) None gs =
      ap (λ (t : List ℕ). 93 ∷ 44 ∷ t) (joined (start_by None) (after None gs))
      ∙ ap (λ (t : List ℕ). 93 ∷ t) (sym (begins true None gs)) ∙ sym (ends b None gs refl)
  step (Some (Some b)) (Some a) gs = go (is_same (Some b) (Some a)) refl
    where
      go : (t : Bool) → is_same (Some b) (Some a) ≡ t
          → cond t (codes "," ++ compact_text d) (codes "]," ++ (quoted k ++ (codes ":[" ++ compact_text d))) ++ after (Some a) gs ≡ after (Some b) (with_one k (Some a) d gs)
      go true same = goes_on b a gs same
      go false other =
          ap (λ (t : List ℕ). 93 ∷ 44 ∷ t) (joined (codes ":[") (after (Some a) gs))
          ∙ ap (λ (t : List ℕ). 93 ∷ t) (sym (begins true (Some a) gs)) ∙ sym (ends b (Some a) gs other)

abbrev array_after : Option Fact → Option (Option Array)
array_after None = None
array_after (Some f) = Some (array_of f)

at_end : (a : Option Array) → cond (is_some a) (codes "]}\n") (codes "}\n") ≡ after a []
at_end None = refl
at_end (Some a) = refl

closed : (last : Option Fact) → closing last ≡ rest_of (array_after last) []
closed None = refl
closed (Some f) = at_end (array_of f)

by_step : (last : Option Fact) (f : Fact) (gs : List Group) → piece last f ++ after (array_of f) gs ≡ rest_of (array_after last) (with_fact f gs)
by_step None f [] = step (key_of f) (value_of f) None (array_of f) []
by_step None f (g ∷ gs) = step (key_of f) (value_of f) None (array_of f) (g ∷ gs)
by_step (Some l) f [] = step (key_of f) (value_of f) (Some (array_of l)) (array_of f) []
by_step (Some l) f (g ∷ gs) = step (key_of f) (value_of f) (Some (array_of l)) (array_of f) (g ∷ gs)

printed : (last : Option Fact) (fs : List Fact) → pieces members last fs ++ closing (kept_after members last fs) ≡ rest_of (array_after last) (grouped fs)
printed last [] = closed last
printed last (f ∷ fs) =
    append_assoc (piece last f) (pieces members (Some f) fs) (closing (kept_after members (Some f) fs))
    ∙ ap (λ (t : List ℕ). piece last f ++ t) (printed (Some f) fs) ∙ by_step last f (grouped fs)

pub object_is : (facts : List Fact) → pieces members None facts ++ closing (kept_after members None facts) ≡ object_line facts
object_is facts = printed None facts
