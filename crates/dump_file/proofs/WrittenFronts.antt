-- What the front of a written dump says: the mark, the numbers and the names.
use Rattle.std.proofs.Common.{◌≡◌, ℕ, ◌+◌, ◌*◌, ◌<◌, Bool, true, false, cond, not, List, [], ◌∷◌, ◌++◌, All, length, take, drop, get_or, refl, sym, ap, ap₂, ◌∙◌, length-append, arith}
use Rattle.std.specs.Prelude.{nat_eq}
use Rattle.std.proofs.lemmas.List.{drop-drop}
use Rattle.std.proofs.lemmas.List.Concat.{concat_is}
use Rattle.std.proofs.lemmas.List.FromFn.{fill_by_all}
use Rattle.std.specs.Cmp.Lexicographic.{pointwise}
use Rattle.std.specs.List.{concat, flat_map}
use Rattle.definitions.specs.Bytes.{bytes_at}
use Rattle.definitions.specs.InfoPage.{names_of}
use Rattle.definitions.specs.declared.info.Ident.{Ident}
use Rattle.plain_machine.specs.Machine.{Hardware, IsIdent}
use Rattle.dump_file.specs.Fields.{ident, is_first, is_second}
use Rattle.dump_file.specs.Written.{first_mark, front_bytes, is_plain, number_bytes, second_mark}
use Rattle.dump_file.proofs.Numbers.{length-number_bytes}
use Rattle.dump_file.proofs.Places.{bytes_stand, first_stands, length-pieces, number_stands, piece_stands, second_stands, StandsAt}

-- The mark.

length-mark : (b : Bool) → length (cond b first_mark second_mark) ≡ 8
length-mark true = refl
length-mark false = refl

mark-first : (b : Bool) → pointwise nat_eq first_mark (cond b first_mark second_mark) ≡ b
mark-first true = refl
mark-first false = refl

mark-second : (b : Bool) → pointwise nat_eq second_mark (cond b first_mark second_mark) ≡ not b
mark-second true = refl
mark-second false = refl

-- The names.

length-name : (names : List (List ℕ)) → All (λ name. length name ≡ 65) names → (i : ℕ) → i < length names → length (get_or names i []) ≡ 65
length-name names each i lt = each i [] lt

pub length-names : (names : List (List ℕ)) → length names ≡ 6 → All (λ name. length name ≡ 65) names → length (concat names) ≡ 390
length-names names six each =
    let all = length-pieces (λ (name : List ℕ). name) 65 names [] (length-name names each) in
    let same : length (concat names) ≡ length (flat_map (λ (name : List ℕ). name) names) = ap length (concat_is names) in
    omega (arith, all, same, six)

names_stand : (text : List ℕ) (names : List (List ℕ)) → length names ≡ 6 → All (λ name. length name ≡ 65) names → StandsAt text 32 (concat names) → names_of (drop 32 text) ≡ names
unfolding names_of
names_stand text names six each h =
    let list : StandsAt text 32 (flat_map (λ (name : List ℕ). name) names) = record { rest = h.rest; is = h.is ∙ ap (λ (xs : List ℕ). xs ++ h.rest) (concat_is names) } in
    sym (fill_by_all (λ j. bytes_at 65 (drop 32 text) (65 * j)) names 6 [] six
    (λ j lt.
    let within : j < length names = omega (arith, lt, six) in
    sym (ap (take 65) (drop-drop (65 * j) 32 text)
    ∙ bytes_stand text (32 + 65 * j) 65 (get_or names j []) (length-name names each j within)
    (piece_stands (λ (name : List ℕ). name) 65 text 32 names j [] (length-name names each) within list))))

-- where the fields of a machine's front stand
pub record HasFront (h : Hardware) (text : List ℕ) : Type 0 where
  pub mark : StandsAt text 0 (cond (is_plain h) first_mark second_mark)
  pub version_code : StandsAt text 8 (number_bytes h.ident.version_code)
  pub slots : StandsAt text 12 (number_bytes h.slots)
  pub frame_table : StandsAt text 16 (number_bytes h.frame_table)
  pub slot_table : StandsAt text 20 (number_bytes h.slot_table)
  pub hw_sig : StandsAt text 24 (number_bytes h.hw_sig)
  pub zone_count : StandsAt text 28 (number_bytes (length h.zones))
  pub names : StandsAt text 32 (concat h.ident.names)

-- one number more
grown : (xs : List ℕ) (n k : ℕ) → length xs ≡ k → length (xs ++ number_bytes n) ≡ k + 4
grown xs n k size = omega (arith, length-append xs (number_bytes n), length-number_bytes n, size)

pub front_stands : (h : Hardware) (text : List ℕ) → StandsAt text 0 (front_bytes h) → HasFront h text
unfolding front_bytes
front_stands h text all =
    let mark = cond (is_plain h) first_mark second_mark in
    let version = number_bytes h.ident.version_code in
    let slots = number_bytes h.slots in
    let frames = number_bytes h.frame_table in
    let places = number_bytes h.slot_table in
    let sig = number_bytes h.hw_sig in
    let zones = number_bytes (length h.zones) in
    let names = concat h.ident.names in
    let p1 = mark ++ version in
    let p2 = p1 ++ slots in
    let p3 = p2 ++ frames in
    let p4 = p3 ++ places in
    let p5 = p4 ++ sig in
    let p6 = p5 ++ zones in
    let s0 : length mark ≡ 8 = length-mark (is_plain h) in
    let s1 : length p1 ≡ 12 = grown mark h.ident.version_code 8 s0 in
    let s2 : length p2 ≡ 16 = grown p1 h.slots 12 s1 in
    let s3 : length p3 ≡ 20 = grown p2 h.frame_table 16 s2 in
    let s4 : length p4 ≡ 24 = grown p3 h.slot_table 20 s3 in
    let s5 : length p5 ≡ 28 = grown p4 h.hw_sig 24 s4 in
    let s6 : length p6 ≡ 32 = grown p5 (length h.zones) 28 s5 in
    let h7 = first_stands text 0 (p6 ++ names) (0 ∷ 0 ∷ []) all in
    let h6 = first_stands text 0 p6 names h7 in
    let h5 = first_stands text 0 p5 zones h6 in
    let h4 = first_stands text 0 p4 sig h5 in
    let h3 = first_stands text 0 p3 places h4 in
    let h2 = first_stands text 0 p2 frames h3 in
    let h1 = first_stands text 0 p1 slots h2 in
    record {
      mark = first_stands text 0 mark version h1;
      version_code = second_stands text 0 mark version 8 s0 h1;
      slots = second_stands text 0 p1 slots 12 s1 h2;
      frame_table = second_stands text 0 p2 frames 16 s2 h3;
      slot_table = second_stands text 0 p3 places 20 s3 h4;
      hw_sig = second_stands text 0 p4 sig 24 s4 h5;
      zone_count = second_stands text 0 p5 zones 28 s5 h6;
      names = second_stands text 0 p6 names 32 s6 h7;
    }

pub length-front : (h : Hardware) → IsIdent h.ident → length (front_bytes h) ≡ 424
unfolding front_bytes
length-front h is =
    let mark = cond (is_plain h) first_mark second_mark in
    let p1 = mark ++ number_bytes h.ident.version_code in
    let p2 = p1 ++ number_bytes h.slots in
    let p3 = p2 ++ number_bytes h.frame_table in
    let p4 = p3 ++ number_bytes h.slot_table in
    let p5 = p4 ++ number_bytes h.hw_sig in
    let p6 = p5 ++ number_bytes (length h.zones) in
    let p7 = p6 ++ concat h.ident.names in
    let s6 : length p6 ≡ 32 = grown p5 (length h.zones) 28 (grown p4 h.hw_sig 24 (grown p3 h.slot_table 20 (grown p2 h.frame_table 16 (grown p1 h.slots 12 (grown mark h.ident.version_code 8 (length-mark (is_plain h))))))) in
    let last : List ℕ = 0 ∷ 0 ∷ [] in
    omega (arith, length-append p7 last, length-append p6 (concat h.ident.names), s6, length-names h.ident.names is.names is.each_name)

-- What the front says.

pub says_first : (h : Hardware) (text : List ℕ) → HasFront h text → is_first text ≡ is_plain h
says_first h text front =
    ap (pointwise nat_eq first_mark) (bytes_stand text 0 8 (cond (is_plain h) first_mark second_mark) (length-mark (is_plain h)) front.mark) ∙ mark-first (is_plain h)

pub says_second : (h : Hardware) (text : List ℕ) → HasFront h text → is_second text ≡ not (is_plain h)
says_second h text front =
    ap (pointwise nat_eq second_mark) (bytes_stand text 0 8 (cond (is_plain h) first_mark second_mark) (length-mark (is_plain h)) front.mark) ∙ mark-second (is_plain h)

pub says_ident : (h : Hardware) (text : List ℕ) → IsIdent h.ident → HasFront h text → ident text ≡ h.ident
says_ident h text is front =
    let of : ℕ → List (List ℕ) → Ident = λ code names. record { version_code = code; names = names } in
    ap₂ of (number_stands text 8 h.ident.version_code is.version_code front.version_code) (names_stand text h.ident.names is.names is.each_name front.names)
