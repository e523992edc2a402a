-- A list asks for a command if and only if it spells the command.
use Rattle.std.proofs.Common.{◌≡◌, ◌∙◌, ◌<◌, ◌≤◌, ◌^◌, ◌==◌, ◌⊎◌, inl, inr, ℕ, Bool, true, false, not, refl, sym, ap, subst, arith, Option, Some, None, List, [], ◌∷◌, codes, cond, decimal, option_map, option_and_then, nat_eq}
use Rattle.std.specs.Cmp.Lexicographic.{pointwise}
use Rattle.std.proofs.lemmas.Slice.Eq.{bytes_eq-Decides}
use Rattle.command_words.specs.Words.{is_path, plain_number}
use Rattle.command_words.proofs.Forms.{either}
use Rattle.command_words.proofs.Numbers.{number_parts, plain_decimal, printed, some_if}
use Rattle.command_words.specs.ImageSpelled.{IsArea, IsSpelled, IsSpelledFlagged, IsSpelledOver, IsSpelledWith, IsValid, Spells}
use Rattle.command_words.specs.ImageWords.{Asked, SwapArea, check, show, stream, page, core, differ, discard, after_offset, alone, command_by, command_of, differ_of, flag_first, offset_first, over_area, over_flagged, over_path, page_of}

abbrev Words : Type 0
Words = List (List ℕ)

-- ---- what asks for a command spells it

same : (a b : List ℕ) → pointwise nat_eq a b ≡ true → a ≡ b
same a b e = (bytes_eq-Decides a b).0 e

-- a plain number is printed as it is written
numbered : {A : Type 0} (limit : ℕ) (word : List ℕ) (f : ℕ → A) (x : A) → limit ≤ 2 ^ 64 → option_map f (plain_number limit word) ≡ Some x
    → (n : ℕ) × (word ≡ decimal n) × (n < limit) × (f n ≡ x)
numbered {A} limit word f x fits e = go (plain_number limit word) refl e
  where
    go : (o : Option ℕ) → plain_number limit word ≡ o → option_map f o ≡ Some x → (n : ℕ) × (word ≡ decimal n) × (n < limit) × (f n ≡ x)
    go None is h = cc
    go (Some n) is h = (n, printed limit word n fits is, (number_parts limit word n is).small, cc)

-- the words are perhaps the offset, which is else 0, and these
abbrev IsAfterOffset : ℕ → Words → Words → Type 0
IsAfterOffset offset rest words = ((offset ≡ 0) × (words ≡ rest)) ⊎ (words ≡ codes "--offset" ∷ decimal offset ∷ rest)

no_offset : (offset : ℕ) (words rest : Words) → ◌≡◌ {A = Option (ℕ × Words)} (Some (0, words)) (Some (offset, rest)) → (offset < 2 ^ 32) × IsAfterOffset offset rest words
no_offset offset words rest e =
    let pair_is : ◌≡◌ {A = ℕ × Words} (0, words) (offset, rest) = cc in
    let zero_is : 0 ≡ offset = ap (λ (p : ℕ × Words). p.0) pair_is in
    let rest_is : words ≡ rest = ap (λ (p : ℕ × Words). p.1) pair_is in
    (omega arith, inl (sym zero_is, rest_is))

offset_read : (words : Words) (offset : ℕ) (rest : Words) → offset_first words ≡ Some (offset, rest) → (offset < 2 ^ 32) × IsAfterOffset offset rest words
offset_read [] offset rest e = no_offset offset [] rest e
offset_read (word ∷ []) offset rest e = no_offset offset (word ∷ []) rest e
offset_read (word ∷ number ∷ words) offset rest e = go (pointwise nat_eq word (codes "--offset")) refl e
  where
    go : (b : Bool) → pointwise nat_eq word (codes "--offset") ≡ b
        → cond b (option_map {U = ℕ × Words} (λ n. (n, words)) (plain_number (2 ^ 32) number)) (Some (0, word ∷ number ∷ words)) ≡ Some (offset, rest)
        → (offset < 2 ^ 32) × IsAfterOffset offset rest (word ∷ number ∷ words)
    go true t h =
        let p = numbered {A = ℕ × Words} (2 ^ 32) number (λ n. (n, words)) (offset, rest) (omega arith) h in
        let offset_is : p.0 ≡ offset = ap (λ (q : ℕ × Words). q.0) p.3 in
        let rest_is : words ≡ rest = ap (λ (q : ℕ × Words). q.1) p.3 in
        let number_is : number ≡ decimal offset = p.1 ∙ ap decimal offset_is in
        (subst (λ (n : ℕ). n < 2 ^ 32) offset_is p.2, inr (cc (same word (codes "--offset") t, number_is, rest_is)))
    go false t h = no_offset offset (word ∷ number ∷ words) rest h

-- what a command over an area is asked by
record IsOver (ask : SwapArea → Words → Option Asked) (words : Words) (asked : Asked) : Type 0 where
  area : SwapArea
  own : Words
  valid : IsArea area
  spelled : IsAfterOffset area.offset (area.swap ∷ own) words
  asks : ask area own ≡ Some asked

over : (ask : SwapArea → Words → Option Asked) (words : Words) (asked : Asked) → over_area ask words ≡ Some asked → IsOver ask words asked
over ask words asked e = go (offset_first words) refl e
  where
    path : (offset : ℕ) (swap : List ℕ) (own : Words) → offset_first words ≡ Some (offset, swap ∷ own) → (b : Bool) → is_path swap ≡ b
        → cond b (ask (record { swap = swap; offset = offset }) own) None ≡ Some asked → IsOver ask words asked
    path offset swap own is false t h = cc
    path offset swap own is true t h =
        let p = offset_read words offset (swap ∷ own) is in
        record { area = record { swap = swap; offset = offset }; own = own; valid = (p.0, t); spelled = p.1; asks = h }

    go : (o : Option (ℕ × Words)) → offset_first words ≡ o → option_and_then (λ rest. over_path ask rest.0 rest.1) o ≡ Some asked → IsOver ask words asked
    go None is h = cc
    go (Some (offset, [])) is h = cc
    go (Some (offset, swap ∷ own)) is h = path offset swap own is (is_path swap) refl h

-- with the command's name before these words
named_over : (area : SwapArea) (name : List ℕ) (own words : Words) → IsAfterOffset area.offset (area.swap ∷ own) words → IsSpelledOver area name own (name ∷ words)
named_over area name own words h = elim h [
  | inl p ↦ inl (p.0, ap (λ (w : Words). name ∷ w) p.1)
  | inr p ↦ inr (ap (λ (w : Words). name ∷ w) p)
]

as_asked : (x asked : Asked) (words : Words) → x ≡ asked → Spells x words → Spells asked words
as_asked x asked words e h = subst (λ (a : Asked). Spells a words) e h

spells_alone : (of : SwapArea → Asked) (name : List ℕ) (words : Words) (asked : Asked)
    → ((area : SwapArea) (w : Words) → IsArea area → IsSpelledOver area name [] w → Spells (of area) w)
    → over_area (λ area. alone (of area)) words ≡ Some asked → Spells asked (name ∷ words)
spells_alone of name words asked spelling e =
    let p = over (λ area. alone (of area)) words asked e in
    go p.area p.own p.valid p.spelled p.asks
  where
    go : (area : SwapArea) (own : Words) → IsArea area → IsAfterOffset area.offset (area.swap ∷ own) words → alone (of area) own ≡ Some asked
        → Spells asked (name ∷ words)
    go area [] valid spelled h = as_asked (of area) asked _ (cc) (spelling area _ valid (named_over area name [] words spelled))
    go area (word ∷ own) valid spelled h = cc

-- what a command with a flag is asked by
record IsFlagged (flag : List ℕ) (ask : Bool → SwapArea → Words → Option Asked) (name : List ℕ) (words : Words) (asked : Asked) : Type 0 where
  given : Bool
  area : SwapArea
  own : Words
  valid : IsArea area
  spelled : IsSpelledWith given area name flag own (name ∷ words)
  asks : ask given area own ≡ Some asked

module _ (flag : List ℕ) (ask : Bool → SwapArea → Words → Option Asked) (name : List ℕ) (asked : Asked) where
  flag_before : (word : List ℕ) (words : Words) → word ≡ flag → over_area (ask true) words ≡ Some asked → IsFlagged flag ask name (word ∷ words) asked
  flag_before word words is e =
      let p = over (ask true) words asked e in
      record { given = true; area = p.area; own = p.own; valid = p.valid; spelled = spelled_so p.area p.own p.spelled; asks = p.asks }
    where
      spelled_so : (area : SwapArea) (own : Words) → IsAfterOffset area.offset (area.swap ∷ own) words → IsSpelledFlagged area name flag own (name ∷ word ∷ words)
      spelled_so area own h = elim h [
        | inl p ↦ inl (p.0, ap (λ (w : List ℕ). name ∷ w ∷ words) is ∙ ap (λ (ws : Words). name ∷ flag ∷ ws) p.1)
        | inr p ↦ inr (inl (ap (λ (w : List ℕ). name ∷ w ∷ words) is ∙ ap (λ (ws : Words). name ∷ flag ∷ ws) p))
      ]

  -- the first word isn't the flag
  module _ (word : List ℕ) (words : Words) (other : pointwise nat_eq word flag ≡ false) where
    not_flag : (x : List ℕ) (rest : Words) → x ≡ flag → word ∷ words ≡ x ∷ rest → ⊥
    not_flag x rest is e =
        let same_word : word ≡ flag = (let h : word ≡ x = cc in h ∙ is) in
        let known : pointwise nat_eq word flag ≡ true = (bytes_eq-Decides word flag).1 same_word in
        let no : true ≡ false = sym known ∙ other in cc

    flag_after : (offset : ℕ) (x : List ℕ) (rest : Words) → x ≡ flag → offset < 2 ^ 32 → IsAfterOffset offset (x ∷ rest) (word ∷ words)
        → over_path (ask true) offset rest ≡ Some asked → IsFlagged flag ask name (word ∷ words) asked
    flag_after offset x [] is small after h = cc
    flag_after offset x (swap ∷ own) is small after h = go (is_path swap) refl h
      where
        go : (b : Bool) → is_path swap ≡ b → cond b (ask true (record { swap = swap; offset = offset }) own) None ≡ Some asked → IsFlagged flag ask name (word ∷ words) asked
        go false t h = cc
        go true t h = elim after [
          | inl p ↦ absurd (not_flag x (swap ∷ own) is p.1)
          | inr p ↦
              let words_are : name ∷ word ∷ words ≡ name ∷ codes "--offset" ∷ decimal offset ∷ flag ∷ swap ∷ own =
              ap (λ (w : Words). name ∷ w) p ∙ ap (λ (w : List ℕ). name ∷ codes "--offset" ∷ decimal offset ∷ w ∷ swap ∷ own) is in
              record { given = true; area = record { swap = swap; offset = offset }; own = own; valid = (small, t); spelled = inr (inr words_are); asks = h }
        ]

    no_flag : (offset : ℕ) (swap : List ℕ) (own : Words) → offset < 2 ^ 32 → IsAfterOffset offset (swap ∷ own) (word ∷ words)
        → over_path (ask false) offset (swap ∷ own) ≡ Some asked → IsFlagged flag ask name (word ∷ words) asked
    no_flag offset swap own small after h = go (is_path swap) refl h
      where
        go : (b : Bool) → is_path swap ≡ b → cond b (ask false (record { swap = swap; offset = offset }) own) None ≡ Some asked → IsFlagged flag ask name (word ∷ words) asked
        go false t h = cc
        go true t h =
            let area : SwapArea = record { swap = swap; offset = offset } in
            record { given = false; area = area; own = own; valid = (small, t); spelled = named_over area name own (word ∷ words) after; asks = h }

    offset_before : after_offset flag ask (word ∷ words) ≡ Some asked → IsFlagged flag ask name (word ∷ words) asked
    offset_before e = go (offset_first (word ∷ words)) refl e
      where
        form : (offset : ℕ) (x : List ℕ) (xs : Words) → offset < 2 ^ 32 → IsAfterOffset offset (x ∷ xs) (word ∷ words)
            → (b : Bool) → pointwise nat_eq x flag ≡ b
            → over_path (ask (cond {A = Bool × Words} b (true, xs) (false, x ∷ xs)).0) offset (cond {A = Bool × Words} b (true, xs) (false, x ∷ xs)).1 ≡ Some asked
            → IsFlagged flag ask name (word ∷ words) asked
        form offset x xs small after true t h = flag_after offset x xs (same x flag t) small after h
        form offset x xs small after false t h = no_flag offset x xs small after h

        go : (o : Option (ℕ × Words)) → offset_first (word ∷ words) ≡ o
            → option_and_then (λ rest. over_path (ask (flag_first flag rest.1).0) rest.0 (flag_first flag rest.1).1) o ≡ Some asked → IsFlagged flag ask name (word ∷ words) asked
        go None is h = cc
        go (Some (offset, [])) is h = cc
        go (Some (offset, x ∷ xs)) is h =
            let p = offset_read (word ∷ words) offset (x ∷ xs) is in form offset x xs p.0 p.1 (pointwise nat_eq x flag) refl h

  flagged : (words : Words) → over_flagged flag ask words ≡ Some asked → IsFlagged flag ask name words asked
  flagged [] e = cc
  flagged (word ∷ words) e = go (pointwise nat_eq word flag) refl e
    where
      go : (b : Bool) → pointwise nat_eq word flag ≡ b → cond b (over_area (ask true) words) (after_offset flag ask (word ∷ words)) ≡ Some asked → IsFlagged flag ask name (word ∷ words) asked
      go true t h = flag_before word words (same word flag t) h
      go false t h = offset_before word words t h

-- a command that prints in one of two forms
spells_formed : (of : Bool → SwapArea → Asked) (name : List ℕ) (words : Words) (asked : Asked)
    → ((json : Bool) (area : SwapArea) (w : Words) → IsArea area → IsSpelledWith json area name (codes "--json") [] w → Spells (of json area) w)
    → over_flagged (codes "--json") (λ json area. alone (of json area)) words ≡ Some asked → Spells asked (name ∷ words)
spells_formed of name words asked spelling e =
    let p = flagged (codes "--json") (λ json area. alone (of json area)) name asked words e in
    go p.given p.area p.own p.valid p.spelled p.asks
  where
    go : (given : Bool) (area : SwapArea) (own : Words) → IsArea area → IsSpelledWith given area name (codes "--json") own (name ∷ words)
        → alone (of given area) own ≡ Some asked → Spells asked (name ∷ words)
    go given area [] valid spelled h = as_asked (of given area) asked _ (cc) (spelling given area _ valid spelled)
    go given area (word ∷ own) valid spelled h = cc

spells_differ : (words : Words) (asked : Asked) → over_flagged (codes "--first") differ_of words ≡ Some asked → Spells asked (codes "differ" ∷ words)
spells_differ words asked e =
    let p = flagged (codes "--first") differ_of (codes "differ") asked words e in
    go p.given p.area p.own p.valid p.spelled p.asks
  where
    go : (given : Bool) (area : SwapArea) (own : Words) → IsArea area → IsSpelledWith given area (codes "differ") (codes "--first") own (codes "differ" ∷ words)
        → differ_of given area own ≡ Some asked → Spells asked (codes "differ" ∷ words)
    go given area [] valid spelled h = cc
    go given area (other ∷ []) valid spelled h =
        let p = some_if (is_path other) (differ given area other) asked h in
        as_asked (differ given area other) asked _ p.1 ((valid, p.0), spelled)
    go given area (other ∷ more ∷ own) valid spelled h = cc

spells_page : (words : Words) (asked : Asked) → over_area page_of words ≡ Some asked → Spells asked (codes "page" ∷ words)
spells_page words asked e =
    let p = over page_of words asked e in
    go p.area p.own p.valid p.spelled p.asks
  where
    go : (area : SwapArea) (own : Words) → IsArea area → IsAfterOffset area.offset (area.swap ∷ own) words → page_of area own ≡ Some asked
        → Spells asked (codes "page" ∷ words)
    go area [] valid spelled h = cc
    go area (number ∷ []) valid spelled h =
        let n = numbered (2 ^ 64) number (λ frame. page area frame) asked (omega arith) h in
        let printed_is : IsAfterOffset area.offset (area.swap ∷ decimal n.0 ∷ []) words =
        subst (λ (w : List ℕ). IsAfterOffset area.offset (area.swap ∷ w ∷ []) words) n.1 spelled in
        as_asked (page area n.0) asked _ n.3 ((valid, n.2), named_over area (codes "page") (decimal n.0 ∷ []) words printed_is)
    go area (number ∷ more ∷ own) valid spelled h = cc

named : (command known : List ℕ) (words : Words) (asked : Asked) → pointwise nat_eq command known ≡ true → Spells asked (known ∷ words)
    → Spells asked (command ∷ words)
named command known words asked t h = subst (λ (c : List ℕ). Spells asked (c ∷ words)) (sym (same command known t)) h

spells_command : (command : List ℕ) (words : Words) (asked : Asked) → command_by command words ≡ Some asked → Spells asked (command ∷ words)
spells_command command words asked e =
    elim (either (pointwise nat_eq command (codes "check")) (over_flagged (codes "--json") (λ json area. alone (check json area)) words) _ asked e) [
      | inl h ↦ named command _ words asked h.0 (spells_formed (λ json area. check json area) (codes "check") words asked (λ json area w v s. (v, s)) h.1)
      | inr e1 ↦ elim (either (pointwise nat_eq command (codes "show")) (over_flagged (codes "--json") (λ json area. alone (show json area)) words) _ asked e1) [
        | inl h ↦ named command _ words asked h.0 (spells_formed (λ json area. show json area) (codes "show") words asked (λ json area w v s. (v, s)) h.1)
        | inr e2 ↦ elim (either (pointwise nat_eq command (codes "stream")) (over_area (λ area. alone (stream area)) words) _ asked e2) [
          | inl h ↦ named command _ words asked h.0 (spells_alone (λ area. stream area) (codes "stream") words asked (λ area w v s. (v, s)) h.1)
          | inr e3 ↦ elim (either (pointwise nat_eq command (codes "page")) (over_area page_of words) _ asked e3) [
            | inl h ↦ named command _ words asked h.0 (spells_page words asked h.1)
            | inr e4 ↦ elim (either (pointwise nat_eq command (codes "core")) (over_area (λ area. alone (core area)) words) _ asked e4) [
              | inl h ↦ named command _ words asked h.0 (spells_alone (λ area. core area) (codes "core") words asked (λ area w v s. (v, s)) h.1)
              | inr e5 ↦ elim (either (pointwise nat_eq command (codes "differ")) (over_flagged (codes "--first") differ_of words) _ asked e5) [
                | inl h ↦ named command _ words asked h.0 (spells_differ words asked h.1)
                | inr e6 ↦ elim (either (pointwise nat_eq command (codes "discard")) (over_area (λ area. alone (discard area)) words) _ asked e6) [
                  | inl h ↦ named command _ words asked h.0 (spells_alone (λ area. discard area) (codes "discard") words asked (λ area w v s. (v, s)) h.1)
                  | inr e7 ↦ cc
                ]
              ]
            ]
          ]
        ]
      ]
    ]

-- what asks for a command has the program's name, and spells it
pub spells : (words : Words) (asked : Asked) → command_of words ≡ Some asked → (name : List ℕ) × (rest : Words) × (words ≡ name ∷ rest) × Spells asked rest
spells [] asked e = cc
spells (name ∷ []) asked e = cc
spells (name ∷ command ∷ words) asked e = (name, command ∷ words, refl, spells_command command words asked e)

-- ---- and what spells it asks for it

-- a path is no option
no_option : (swap : List ℕ) → is_path swap ≡ true → pointwise nat_eq swap (codes "--offset") ≡ false
no_option [] e = cc
no_option (b ∷ bs) e = go (b == 45) refl e
  where
    go : (t : Bool) → (b == 45) ≡ t → not t ≡ true → pointwise nat_eq (b ∷ bs) (codes "--offset") ≡ false
    go true t h = cc
    go false t h = rw t refl

-- a path is no flag either, since a flag begins with -
no_option_of : (flag : List ℕ) (swap : List ℕ) → is_path swap ≡ true → pointwise nat_eq swap (45 ∷ flag) ≡ false
no_option_of flag [] e = cc
no_option_of flag (b ∷ bs) e = go (b == 45) refl e
  where
    go : (t : Bool) → (b == 45) ≡ t → not t ≡ true → pointwise nat_eq (b ∷ bs) (45 ∷ flag) ≡ false
    go true t h = cc
    go false t h = rw t refl

without_offset : (ask : SwapArea → Words → Option Asked) (area : SwapArea) (own : Words) → IsArea area → area.offset ≡ 0 → over_area ask (area.swap ∷ own) ≡ ask area own
without_offset ask area [] valid is = rw valid.1 (ap (λ (n : ℕ). ask (record { swap = area.swap; offset = n }) []) (sym is))
without_offset ask area (word ∷ own) valid is =
    rw (no_option area.swap valid.1, valid.1) (ap (λ (n : ℕ). ask (record { swap = area.swap; offset = n }) (word ∷ own)) (sym is))

with_offset : (ask : SwapArea → Words → Option Asked) (area : SwapArea) (own : Words) → IsArea area
    → over_area ask (codes "--offset" ∷ decimal area.offset ∷ area.swap ∷ own) ≡ ask area own
with_offset ask area own valid = let plain = plain_decimal (2 ^ 32) area.offset (omega arith) valid.0 in rw (plain, valid.1) refl

asks_over : (ask : SwapArea → Words → Option Asked) (program name : List ℕ) (area : SwapArea) (own words : Words) (asked : Asked)
    → ((rest : Words) → command_of (program ∷ name ∷ rest) ≡ over_area ask rest) → ask area own ≡ Some asked
    → IsArea area → IsSpelledOver area name own words → command_of (program ∷ words) ≡ Some asked
asks_over ask program name area own words asked by_name is valid spelled = elim spelled [
  | inl p ↦ ap (λ (w : Words). command_of (program ∷ w)) p.1 ∙ by_name (area.swap ∷ own) ∙ without_offset ask area own valid p.0 ∙ is
  | inr p ↦ ap (λ (w : Words). command_of (program ∷ w)) p
      ∙ by_name (codes "--offset" ∷ decimal area.offset ∷ area.swap ∷ own) ∙ with_offset ask area own valid ∙ is
]

-- a command with a flag, which begins with -
module _ (flag : List ℕ) (ask : Bool → SwapArea → Words → Option Asked) (area : SwapArea) (own : Words) (valid : IsArea area) where
  abbrev dashed : List ℕ
  dashed = 45 ∷ flag

  asks_without : area.offset ≡ 0 → over_flagged dashed ask (area.swap ∷ own) ≡ ask false area own
  asks_without is = without own
    where
      without : (own : Words) → over_flagged dashed ask (area.swap ∷ own) ≡ ask false area own
      without [] = rw (no_option_of flag area.swap valid.1, valid.1) (ap (λ (n : ℕ). ask false (record { swap = area.swap; offset = n }) []) (sym is))
      without (word ∷ more) = rw (no_option_of flag area.swap valid.1, no_option area.swap valid.1, no_option_of flag area.swap valid.1, valid.1) (ap (λ (n : ℕ). ask false (record { swap = area.swap; offset = n }) (word ∷ more)) (sym is))

  module _ (other : pointwise nat_eq (codes "--offset") dashed ≡ false) where
    asks_without_at : over_flagged dashed ask (codes "--offset" ∷ decimal area.offset ∷ area.swap ∷ own) ≡ ask false area own
    asks_without_at = let plain = plain_decimal (2 ^ 32) area.offset (omega arith) valid.0 in rw (other, plain, no_option_of flag area.swap valid.1, valid.1) refl

    asks_after : pointwise nat_eq dashed dashed ≡ true → over_flagged dashed ask (codes "--offset" ∷ decimal area.offset ∷ dashed ∷ area.swap ∷ own) ≡ ask true area own
    asks_after same_flag = let plain = plain_decimal (2 ^ 32) area.offset (omega arith) valid.0 in rw (other, plain, same_flag, valid.1) refl

    asks_with : (given : Bool) (program name : List ℕ) (words : Words) (asked : Asked) → pointwise nat_eq dashed dashed ≡ true
        → ((rest : Words) → command_of (program ∷ name ∷ rest) ≡ over_flagged dashed ask rest) → ask given area own ≡ Some asked
        → IsSpelledWith given area name dashed own words → command_of (program ∷ words) ≡ Some asked
    asks_with false program name words asked same_flag by_name is spelled = elim spelled [
      | inl p ↦ ap (λ (w : Words). command_of (program ∷ w)) p.1 ∙ by_name (area.swap ∷ own) ∙ asks_without p.0 ∙ is
      | inr p ↦ ap (λ (w : Words). command_of (program ∷ w)) p ∙ by_name (codes "--offset" ∷ decimal area.offset ∷ area.swap ∷ own) ∙ asks_without_at ∙ is
    ]
    asks_with true program name words asked same_flag by_name is spelled =
        let before : (rest : Words) → over_flagged dashed ask (dashed ∷ rest) ≡ over_area (ask true) rest = λ rest. rw same_flag refl in
        elim spelled [
          | inl p ↦ ap (λ (w : Words). command_of (program ∷ w)) p.1 ∙ by_name (dashed ∷ area.swap ∷ own)
              ∙ before (area.swap ∷ own) ∙ without_offset (ask true) area own valid p.0 ∙ is
          | inr more ↦ elim more [
            | inl p ↦ ap (λ (w : Words). command_of (program ∷ w)) p ∙ by_name (dashed ∷ codes "--offset" ∷ decimal area.offset ∷ area.swap ∷ own)
                ∙ before (codes "--offset" ∷ decimal area.offset ∷ area.swap ∷ own) ∙ with_offset (ask true) area own valid ∙ is
            | inr p ↦ ap (λ (w : Words). command_of (program ∷ w)) p ∙ by_name (codes "--offset" ∷ decimal area.offset ∷ dashed ∷ area.swap ∷ own)
                ∙ asks_after same_flag ∙ is
          ]
        ]

pub asks : (program : List ℕ) (words : Words) (asked : Asked) → IsValid asked → IsSpelled asked words → command_of (program ∷ words) ≡ Some asked
asks program words (check json area) valid spelled =
    asks_with (codes "-json") (λ j a. alone (check j a)) area [] valid refl json program (codes "check") words _ refl (λ rest. refl) refl spelled
asks program words (show json area) valid spelled =
    asks_with (codes "-json") (λ j a. alone (show j a)) area [] valid refl json program (codes "show") words _ refl (λ rest. refl) refl spelled
asks program words (stream area) valid spelled = asks_over (λ a. alone (stream a)) program (codes "stream") area [] words _ (λ rest. refl) refl valid spelled
asks program words (page area frame) valid spelled =
    let plain = plain_decimal (2 ^ 64) frame (omega arith) valid.1 in
    asks_over page_of program (codes "page") area (decimal frame ∷ []) words _ (λ rest. refl) (ap (option_map (λ n. page area n)) plain) valid.0 spelled
asks program words (core area) valid spelled = asks_over (λ a. alone (core a)) program (codes "core") area [] words _ (λ rest. refl) refl valid spelled
asks program words (differ first_only area other) valid spelled =
    asks_with (codes "-first") differ_of area (other ∷ []) valid.0 refl first_only program (codes "differ") words _ refl (λ rest. refl) (rw valid.1 refl) spelled
asks program words (discard area) valid spelled = asks_over (λ a. alone (discard a)) program (codes "discard") area [] words _ (λ rest. refl) refl valid spelled
