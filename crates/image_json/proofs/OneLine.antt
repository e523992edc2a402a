-- No text of a finding contains the end of a line, so the printed lines determine the texts.
use Rattle.std.proofs.Common.{◌≡◌, ℕ, zero, suc, ◌+◌, ◌/◌, ◌%◌, ◌==◌, ◌&&◌, Bool, true, false, not, cond, List, [], ◌∷◌, ◌++◌, map, length, flat_map, nat_lt, codes, decimal, refl, sym, ap, ap₂, ◌∙◌, subst, append_assoc, append-nil, length-append, arith}
use Rattle.std.specs.List.{list_all}
use Rattle.std.specs.Fmt.{digit_glyph, digits, digits_onto}
use Rattle.std.proofs.lemmas.Bool.{ne_eqb}
use Rattle.std.proofs.lemmas.List.Folds.{list_all-append}
use Rattle.byteorder.specs.Endian.{big_bytes}
use Rattle.plain_machine.specs.Replies.{hex_digit, hex_text}
use Rattle.image_format.specs.declared.signature.area.AreaFault.{AreaFault}
use Rattle.image_format.specs.declared.signature.area.AreaFault.TheVariants as area
use Rattle.compression.specs.declared.lzo.fault.Kind.{Kind}
use Rattle.compression.specs.declared.lzo.fault.Kind.TheVariants as kind
use Rattle.image_walk.specs.declared.visit.BlockFault.{BlockFault}
use Rattle.image_walk.specs.declared.visit.BlockFault.TheVariants as block
use Rattle.image_check.specs.Lines.{area_text, block_text, finding_text, kind_text, named, place_text, unit_text, word_text}
use Rattle.image_check.specs.Lines as told
use Rattle.image_check.specs.declared.finding.Finding.{Finding}
use Rattle.image_check.specs.declared.finding.Finding.TheVariants as finding
use Rattle.image_check.specs.declared.finding.Place.{Place}

abbrev Texts : Type 0
Texts = List (List ℕ)

-- the texts of findings, and the lines of texts
abbrev bytes_of : List Finding → Texts
bytes_of found = map finding_text found

abbrev line_of : List ℕ → List ℕ
line_of text = text ++ 10 ∷ []

abbrev lines_of : Texts → List ℕ
lines_of texts = flat_map line_of texts

-- no byte of a text ends its line
abbrev is_line : List ℕ → Bool
is_line text = list_all (λ b. not (b == 10)) text

abbrev are_lines : Texts → Bool
are_lines texts = list_all is_line texts

abbrev no_end : ℕ → Bool
no_end b = not (b == 10)

glyph : (d : ℕ) → no_end (digit_glyph false d) ≡ true
glyph d = go (nat_lt d 10)
  where
    go : (b : Bool) → no_end (cond b (48 + d) (87 + d)) ≡ true
    go true = ap not (ne_eqb (48 + d) 10 (λ e. omega (arith, e)))
    go false = ap not (ne_eqb (87 + d) 10 (λ e. omega (arith, e)))

both : (a b : Bool) → a ≡ true → b ≡ true → (a && b) ≡ true
both a b p q = ap₂ (λ x y. x && y) p q

one_of : (b : Bool) (xs ys : List ℕ) → is_line xs ≡ true → is_line ys ≡ true → is_line (cond b xs ys) ≡ true
one_of true xs ys p q = p
one_of false xs ys p q = q

onto : (k n : ℕ) (acc : List ℕ) → is_line acc ≡ true → is_line (digits_onto k 10 false n acc) ≡ true
onto zero n acc h = h
onto (suc k) n acc h =
    let more : is_line (digit_glyph false (n % 10) ∷ acc) ≡ true = both (no_end (digit_glyph false (n % 10))) (is_line acc) (glyph (n % 10)) h in
    one_of (n / 10 == 0) (digit_glyph false (n % 10) ∷ acc) (digits_onto k 10 false (n / 10) (digit_glyph false (n % 10) ∷ acc)) more
    (onto k (n / 10) (digit_glyph false (n % 10) ∷ acc) more)

number : (n : ℕ) → is_line (decimal n) ≡ true
unfolding digits
number n = onto 64 n [] refl

then : (xs ys : List ℕ) → is_line xs ≡ true → is_line ys ≡ true → is_line (xs ++ ys) ≡ true
then xs ys p q = list_all-append no_end xs ys ∙ both (is_line xs) (is_line ys) p q

hex_one : (n : ℕ) → no_end (hex_digit n) ≡ true
hex_one n = go (nat_lt n 10)
  where
    go : (b : Bool) → no_end (cond b (48 + n) (87 + n)) ≡ true
    go true = ap not (ne_eqb (48 + n) 10 (λ e. omega (arith, e)))
    go false = ap not (ne_eqb (87 + n) 10 (λ e. omega (arith, e)))

hex : (bytes : List ℕ) → is_line (hex_text bytes) ≡ true
hex [] = refl
hex (b ∷ bytes) = both (no_end (hex_digit (b / 16))) _ (hex_one (b / 16)) (both (no_end (hex_digit (b % 16))) _ (hex_one (b % 16)) (hex bytes))

with_number : (name : List ℕ) (n : ℕ) (after : List ℕ) → is_line name ≡ true → is_line after ≡ true → is_line (named name n after) ≡ true
with_number name n after p q = then (name ++ decimal n) after (then name (decimal n) p (number n)) q

area_line : (why : AreaFault) → is_line (area_text why) ≡ true
area_line (area.Version v) = with_number (codes "version ") v [] refl refl
area_line (area.BadCount n) = with_number [] n (codes " bad pages") refl refl
area_line area.LastZero = refl
area_line (area.BadEntry s) = with_number (codes "bad page ") s (codes " is no slot") refl refl

block_line : (why : BlockFault) → is_line (block_text why) ≡ true
block_line block.Zero = refl
block_line (block.BeyondFile b) = with_number (codes "block ") b (codes " is beyond the file") refl refl
block_line (block.BeyondLast b) = with_number (codes "block ") b (codes " is beyond the last page") refl refl
block_line (block.Bad b) = with_number (codes "block ") b (codes " is a bad page") refl refl
block_line (block.Again b) = with_number (codes "block ") b (codes " is named already") refl refl
block_line (block.Unread b) = with_number (codes "block ") b (codes " can't be read") refl refl

place_line : (p : Place) → is_line (place_text p) ≡ true
place_line p =
    let one = then (codes "map ") (decimal p.map) refl (number p.map) in
    let two = then (codes "map " ++ decimal p.map) (codes " block ") one refl in
    let three = then (codes "map " ++ decimal p.map ++ codes " block ") (decimal p.at) two (number p.at) in
    let four = then (codes "map " ++ decimal p.map ++ codes " block " ++ decimal p.at) (codes " entry ") three refl in
    then (codes "map " ++ decimal p.map ++ codes " block " ++ decimal p.at ++ codes " entry ") (decimal p.entry) four (number p.entry)

word_line : (page word : ℕ) → is_line (word_text page word) ≡ true
word_line page word =
    then (named (codes "numbers page ") page (codes " word ")) (named [] word (codes ": "))
    (with_number (codes "numbers page ") page (codes " word ") refl refl) (with_number [] word (codes ": ") refl refl)

kind_line : (why : Kind) → is_line (kind_text why) ≡ true
kind_line kind.Versioned = refl
kind_line kind.InputTooShort = refl
kind_line kind.OutputTooLong = refl
kind_line kind.BeforeBegin = refl
kind_line kind.BadEnd = refl
kind_line kind.BehindEnd = refl

finding_line : (f : Finding) → is_line (finding_text f) ≡ true
finding_line (finding.HeaderUnread b) = with_number (codes "header block ") b (codes ": can't be read") refl refl
finding_line finding.OriginalSignature = refl
finding_line (finding.Area why) = then (codes "header: the area has ") (area_text why) refl (area_line why)
finding_line (finding.LastPage last blocks) =
    then (named (codes "header: last page ") last (codes ", but the file has ")) (named [] blocks (codes " blocks"))
    (with_number (codes "header: last page ") last (codes ", but the file has ") refl refl) (with_number [] blocks (codes " blocks") refl refl)
finding_line (finding.Compressed flags) = with_number (codes "header: flags ") flags (codes ", a compressed image, which can't be read yet") refl refl
finding_line (finding.Map map why) = then (named (codes "map ") map (codes ": ")) (block_text why) (with_number (codes "map ") map (codes ": ") refl refl) (block_line why)
finding_line (finding.Ends map pages) =
    then (named (codes "map ") map (codes ": no next map, though the image has ")) (named [] pages (codes " pages"))
    (with_number (codes "map ") map (codes ": no next map, though the image has ") refl refl) (with_number [] pages (codes " pages") refl refl)
finding_line (finding.AfterMaps map b) =
    then (named (codes "map ") map (codes " block ")) (named [] b (codes ": after the last map"))
    (with_number (codes "map ") map (codes " block ") refl refl) (with_number [] b (codes ": after the last map") refl refl)
finding_line (finding.Entry place why) =
    then (place_text place ++ codes ": ") (block_text why) (then (place_text place) (codes ": ") (place_line place) refl) (block_line why)
finding_line (finding.AfterPages place b) =
    then (place_text place) (named (codes ": block ") b (codes " after the last page")) (place_line place) (with_number (codes ": block ") b (codes " after the last page") refl refl)
finding_line (finding.NoEnd name) = with_number (codes "info page name ") name (codes ": no end") refl refl
finding_line (finding.Magic magic) =
    then (codes "info page: the header of an architecture, but with magic 0x") (hex_text (big_bytes 8 magic)) refl (hex (big_bytes 8 magic))
finding_line (finding.Counts image_pages pages) =
    then (named (codes "info page: image pages ") image_pages (codes ", but pages ")) (decimal pages)
    (with_number (codes "info page: image pages ") image_pages (codes ", but pages ") refl refl) (number pages)
finding_line (finding.Size size pages) =
    then (named (codes "info page: size ") size (codes ", but pages ")) (decimal pages)
    (with_number (codes "info page: size ") size (codes ", but pages ") refl refl) (number pages)
finding_line (finding.Number page word n) =
    then (word_text page word) (named [] n (codes " is no page frame")) (word_line page word) (with_number [] n (codes " is no page frame") refl refl)
finding_line (finding.Order page word n before) =
    then (word_text page word ++ decimal n) (named (codes " after ") before []) (then (word_text page word) (decimal n) (word_line page word) (number n))
    (with_number (codes " after ") before [] refl refl)
finding_line (finding.End page word found) =
    then (word_text page word) (named [] found (codes " after the last number")) (word_line page word) (with_number [] found (codes " after the last number") refl refl)
finding_line (finding.DataPages counted pages) =
    then (named (codes "number pages: data pages ") counted (codes ", but pages ")) (decimal pages)
    (with_number (codes "number pages: data pages ") counted (codes ", but pages ") refl refl) (number pages)
finding_line (finding.UnitLength unit place length) =
    then (unit_text unit ++ place_text place) (named (codes ": length ") length [])
    (then (unit_text unit) (place_text place) (with_number (codes "unit ") unit (codes " ") refl refl) (place_line place))
    (with_number (codes ": length ") length [] refl refl)
finding_line (finding.UnitStream unit why) =
    then (named (codes "unit ") unit (codes " byte ") ++ named [] why.at (codes ": ")) (kind_text why.kind)
    (then (named (codes "unit ") unit (codes " byte ")) (named [] why.at (codes ": "))
    (with_number (codes "unit ") unit (codes " byte ") refl refl) (with_number [] why.at (codes ": ") refl refl)) (kind_line why.kind)
finding_line (finding.UnitSize unit bytes wanted) =
    then (named (codes "unit ") unit (codes ": ") ++ named [] bytes (codes " bytes, but ")) (named [] wanted (codes " are wanted"))
    (then (named (codes "unit ") unit (codes ": ")) (named [] bytes (codes " bytes, but "))
    (with_number (codes "unit ") unit (codes ": ") refl refl) (with_number [] bytes (codes " bytes, but ") refl refl))
    (with_number [] wanted (codes " are wanted") refl refl)
finding_line (finding.Checksum header units) =
    then (codes "checksum 0x" ++ hex_text (big_bytes 4 header)) (codes ", but the units have 0x" ++ hex_text (big_bytes 4 units))
    (then (codes "checksum 0x") (hex_text (big_bytes 4 header)) refl (hex (big_bytes 4 header)))
    (then (codes ", but the units have 0x") (hex_text (big_bytes 4 units)) refl (hex (big_bytes 4 units)))

are_texts : (found : List Finding) → are_lines (bytes_of found) ≡ true
are_texts [] = refl
are_texts (f ∷ fs) = both (is_line (finding_text f)) (are_lines (bytes_of fs)) (finding_line f) (are_texts fs)

lines_are : (found : List Finding) → told.lines_of found ≡ lines_of (bytes_of found)
lines_are [] = refl
lines_are (f ∷ fs) = ap (λ (t : List ℕ). line_of (finding_text f) ++ t) (lines_are fs)

-- the first line is told apart from the rest
first_of : (a b : Bool) → (a && b) ≡ true → a ≡ true
first_of true b h = refl
first_of false b h = h

rest_of : (a b : Bool) → (a && b) ≡ true → b ≡ true
rest_of true b h = h
rest_of false b h = cc

not_end : (b : ℕ) → no_end b ≡ true → b ≡ 10 → ⊥
not_end b h e = let no : false ≡ true = subst (λ (x : ℕ). no_end x ≡ true) e h in cc

same_line : (t u x y : List ℕ) → is_line t ≡ true → is_line u ≡ true → t ++ 10 ∷ x ≡ u ++ 10 ∷ y → (t ≡ u) × (x ≡ y)
same_line [] [] x y p q e = (refl, cc)
same_line [] (u ∷ us) x y p q e = absurd (not_end u (first_of (no_end u) (is_line us) q) (let h : 10 ≡ u = cc in sym h))
same_line (t ∷ ts) [] x y p q e = absurd (not_end t (first_of (no_end t) (is_line ts) p) (let h : t ≡ 10 = cc in h))
same_line (t ∷ ts) (u ∷ us) x y p q e =
    let heads : t ≡ u = cc in
    let tails : ts ++ 10 ∷ x ≡ us ++ 10 ∷ y = cc in
    let more = same_line ts us x y (rest_of (no_end t) (is_line ts) p) (rest_of (no_end u) (is_line us) q) tails in
    (ap₂ (λ a b. a ∷ b) heads more.0, more.1)

some_line : (t x : List ℕ) → t ++ 10 ∷ x ≡ [] → ⊥
some_line [] x e = cc
some_line (b ∷ bs) x e = cc

opened : (t : List ℕ) (x : List ℕ) → line_of t ++ x ≡ t ++ 10 ∷ x
opened t x = append_assoc t (10 ∷ []) x

-- texts whose lines begin those of others begin these
begin_with : (ts us : List (List ℕ)) (tail : List ℕ) → are_lines ts ≡ true → are_lines us ≡ true → lines_of us ≡ lines_of ts ++ tail → (rest : List (List ℕ)) × (us ≡ ts ++ rest)
begin_with [] us tail p q e = (us, refl)
begin_with (t ∷ ts) [] tail p q e =
    absurd (some_line t (lines_of ts ++ tail) (sym (append_assoc (line_of t) (lines_of ts) tail ∙ opened t (lines_of ts ++ tail)) ∙ sym e))
begin_with (t ∷ ts) (u ∷ us) tail p q e =
    let parts : u ++ 10 ∷ lines_of us ≡ t ++ 10 ∷ (lines_of ts ++ tail) =
    sym (opened u (lines_of us)) ∙ e ∙ append_assoc (line_of t) (lines_of ts) tail ∙ opened t (lines_of ts ++ tail) in
    let one = same_line u t (lines_of us) (lines_of ts ++ tail) (first_of (is_line u) (are_lines us) q) (first_of (is_line t) (are_lines ts) p) parts in
    let more = begin_with ts us tail (rest_of (is_line t) (are_lines ts) p) (rest_of (is_line u) (are_lines us) q) one.1 in
    (more.0, ap₂ (λ a b. a ∷ b) one.0 more.1)

lines_both : (ts us : List (List ℕ)) → lines_of (ts ++ us) ≡ lines_of ts ++ lines_of us
lines_both [] us = refl
lines_both (t ∷ ts) us = ap (λ (x : List ℕ). line_of t ++ x) (lines_both ts us) ∙ sym (append_assoc (line_of t) (lines_of ts) (lines_of us))

no_rest : (ts rest : List (List ℕ)) → lines_of (ts ++ rest) ≡ lines_of ts → rest ≡ []
no_rest ts [] e = refl
no_rest ts (r ∷ rest) e =
    let size : length (lines_of ts ++ (line_of r ++ lines_of rest)) ≡ length (lines_of ts) = ap length (sym (lines_both ts (r ∷ rest)) ∙ e) in
    absurd (omega (arith, size, length-append (lines_of ts) (line_of r ++ lines_of rest), length-append (line_of r) (lines_of rest), length-append r (10 ∷ [])))

-- texts with the same lines are the same
same_texts : (ts us : List (List ℕ)) → are_lines ts ≡ true → are_lines us ≡ true → lines_of ts ≡ lines_of us → ts ≡ us
same_texts ts us p q e =
    let more = begin_with ts us [] p q (sym e ∙ sym (append-nil (lines_of ts))) in
    let none = no_rest ts more.0 (ap lines_of (sym more.1) ∙ sym e) in
    sym (more.1 ∙ ap (λ (r : List (List ℕ)). ts ++ r) none ∙ append-nil ts)

-- findings with the same lines have the same texts
pub same_findings : (kept found : List Finding) → told.lines_of kept ≡ told.lines_of found → map finding_text kept ≡ map finding_text found
same_findings kept found e = same_texts (bytes_of kept) (bytes_of found) (are_texts kept) (are_texts found) (sym (lines_are kept) ∙ e ∙ lines_are found)
