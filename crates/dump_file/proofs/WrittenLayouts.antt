-- What a written dump says of the zones and of the file map, and where its records begin.
use Rattle.std.proofs.Common.{◌≡◌, ℕ, ◌+◌, ◌*◌, ◌<◌, ◌≤◌, Bool, true, false, cond, eqb, not, ◌&&◌, List, [], ◌∷◌, ◌++◌, length, map, get_or, refl, sym, ap, ap₂, ◌∙◌, subst, inl, inr, length-append, arith}
use Rattle.std.proofs.lemmas.Bool.{and_parts, cases_Bool, eqb-true}
use Rattle.std.proofs.lemmas.List.FromFn.{fill_by_all}
use Rattle.std.specs.List.{flat_map, range_with_len}
use Rattle.definitions.specs.FileMaps.{IsFileMap}
use Rattle.definitions.specs.Slots as slot
use Rattle.definitions.specs.ZoneFacts.{AreZones}
use Rattle.definitions.proofs.FileMaps.{slot_below}
use Rattle.plain_machine.specs.Machine.{Hardware, IsHardware}
use Rattle.dump_file.specs.Fields.{count_byte, extent_at, extent_byte, extent_count, extents, first_extent, is_second}
use Rattle.dump_file.specs.Fields.{map_byte, number, slots, zone, zone_byte, zone_count, zones}
use Rattle.dump_file.specs.Written.{extent_bytes, is_plain, is_plain_map, layout_bytes, map_bytes, number_bytes, zone_bytes}
use Rattle.dump_file.proofs.HeadExtents.{extents_are}
use Rattle.dump_file.proofs.Numbers.{length-number_bytes}
use Rattle.dump_file.proofs.Places.{first_stands, length-pieces, number_stands, piece_stands, second_stands, StandsAt}
use Rattle.dump_file.proofs.WrittenFronts.{says_second, HasFront}

length-zone : (z : ℕ × ℕ) → length (zone_bytes z) ≡ 8
length-zone z = omega (arith, length-append (number_bytes z.0) (number_bytes z.1), length-number_bytes z.0, length-number_bytes z.1)

length-extent : (e : ℕ × ℕ × ℕ) → length (extent_bytes e) ≡ 12
length-extent e =
    omega (arith, length-append (number_bytes e.0 ++ number_bytes e.1) (number_bytes e.2), length-append (number_bytes e.0) (number_bytes e.1), length-number_bytes e.0, length-number_bytes e.1, length-number_bytes e.2)

-- The zones.

pub says_zone_count : (h : Hardware) (text : List ℕ) → AreZones h.zones → HasFront h text → zone_count text ≡ length h.zones
says_zone_count h text are front = number_stands text 28 (length h.zones) (let few = are.few in omega (arith, few)) front.zone_count

zone_is : (h : Hardware) (text : List ℕ) (j : ℕ) → AreZones h.zones → StandsAt text 424 (flat_map zone_bytes h.zones) → j < length h.zones → get_or h.zones j (0, 0) ≡ zone text j
zone_is h text j are all lt =
    let z = get_or h.zones j (0, 0) in
    let fits = are.each j (0, 0) lt in
    let here : StandsAt text (zone_byte j) (zone_bytes z) = piece_stands zone_bytes 8 text 424 h.zones j (0, 0) (λ i i_lt. length-zone (get_or h.zones i (0, 0))) lt all in
    let pair : ℕ → ℕ → ℕ × ℕ = λ a b. (a, b) in
    sym (ap₂ pair
    (number_stands text (zone_byte j) z.0 (omega (arith, fits.1)) (first_stands text (zone_byte j) (number_bytes z.0) (number_bytes z.1) here))
    (number_stands text (zone_byte j + 4) z.1 (omega (arith, fits.1)) (second_stands text (zone_byte j) (number_bytes z.0) (number_bytes z.1) 4 (length-number_bytes z.0) here)))

pub says_zones : (h : Hardware) (text : List ℕ) → AreZones h.zones → HasFront h text → StandsAt text 424 (flat_map zone_bytes h.zones) → zones text ≡ h.zones
says_zones h text are front all =
    ap (λ (n : ℕ). map (zone text) (range_with_len 0 n)) (says_zone_count h text are front)
    ∙ sym (fill_by_all (zone text) h.zones (length h.zones) (0, 0) refl (λ j lt. zone_is h text j are all lt))

-- The file map.

pub plain_map : (es : List (ℕ × ℕ × ℕ)) (s : ℕ) → is_plain_map es s ≡ true → es ≡ (0, s, 0) ∷ []
plain_map [] s e = absurd (let none : false ≡ true = e in grind (arith, none))
plain_map (e ∷ f ∷ es) s is = absurd (let none : false ≡ true = is in grind (arith, none))
plain_map (e ∷ []) s is =
    let both = and_parts (eqb e.0 0 && eqb e.1 s) (eqb e.2 0) is in
    let first = and_parts (eqb e.0 0) (eqb e.1 s) both.0 in
    let triple : ℕ → ℕ → ℕ → List (ℕ × ℕ × ℕ) = λ x y z. (x, y, z) ∷ [] in
    ap (λ (x : ℕ). triple x e.1 e.2) (eqb-true e.0 0 first.0)
    ∙ ap (λ (y : ℕ). triple 0 y e.2) (eqb-true e.1 s first.1)
    ∙ ap (triple 0 s) (eqb-true e.2 0 both.1)

-- each number of an extent fits in 4 bytes
first_fits : (es : List (ℕ × ℕ × ℕ)) (s i : ℕ) → IsFileMap es s → i < length es → (slot.extent_at es i).0 < s
first_fits es s i is lt =
    let some = (is.each i lt).some in
    slot_below es s i (slot.extent_at es i).0 is (record { within = lt; from = omega arith; below = omega (arith, some) })

extent_is : (text : List ℕ) (first s : ℕ) (es : List (ℕ × ℕ × ℕ)) (i : ℕ) → s ≤ 131072 → IsFileMap es s → StandsAt text first (flat_map extent_bytes es) → i < length es → get_or es i (0, 0, 0) ≡ extent_at text first i
extent_is text first s es i few is all lt =
    let e = get_or es i (0, 0, 0) in
    let fits = (is.each i lt).fits in
    let below = first_fits es s i is lt in
    let at = first + 12 * i in
    let here : StandsAt text at (extent_bytes e) = piece_stands extent_bytes 12 text first es i (0, 0, 0) (λ j j_lt. length-extent (get_or es j (0, 0, 0))) lt all in
    let two = number_bytes e.0 ++ number_bytes e.1 in
    let size : length two ≡ 8 = omega (arith, length-append (number_bytes e.0) (number_bytes e.1), length-number_bytes e.0, length-number_bytes e.1) in
    let front : StandsAt text at two = first_stands text at two (number_bytes e.2) here in
    let triple : ℕ → ℕ → ℕ → ℕ × ℕ × ℕ = λ x y z. (x, y, z) in
    let a : number text at ≡ e.0 = number_stands text at e.0 (omega (arith, below, few)) (first_stands text at (number_bytes e.0) (number_bytes e.1) front) in
    let b : number text (at + 4) ≡ e.1 = number_stands text (at + 4) e.1 (omega (arith, fits)) (second_stands text at (number_bytes e.0) (number_bytes e.1) 4 (length-number_bytes e.0) front) in
    let c : number text (at + 8) ≡ e.2 = number_stands text (at + 8) e.2 (omega (arith, fits)) (second_stands text at two (number_bytes e.2) 8 size here) in
    sym (ap (λ (x : ℕ). triple x (number text (at + 4)) (number text (at + 8))) a ∙ ap (λ (y : ℕ). triple e.0 y (number text (at + 8))) b ∙ ap (triple e.0 e.1) c)

-- where the parts of a file map stand, after the zones
pub record HasMap (h : Hardware) (text : List ℕ) (k : ℕ) : Type 0 where
  pub offset : StandsAt text k (number_bytes (slot.extent_at h.extents 0).2)
  pub count : StandsAt text (k + 4) (number_bytes (length h.extents))
  pub extents : StandsAt text (k + 8) (flat_map extent_bytes h.extents)

pub map_stands : (h : Hardware) (text : List ℕ) (k : ℕ) → StandsAt text k (map_bytes h.extents) → HasMap h text k
map_stands h text k all =
    let offset = number_bytes (slot.extent_at h.extents 0).2 in
    let count = number_bytes (length h.extents) in
    let list = flat_map extent_bytes h.extents in
    let two = first_stands text k (offset ++ count) list all in
    let size : length (offset ++ count) ≡ 8 = omega (arith, length-append offset count, length-number_bytes (slot.extent_at h.extents 0).2, length-number_bytes (length h.extents)) in
    record {
      offset = first_stands text k offset count two;
      count = second_stands text k offset count 4 (length-number_bytes (slot.extent_at h.extents 0).2) two;
      extents = second_stands text k (offset ++ count) list 8 size all;
    }

length-map_bytes : (es : List (ℕ × ℕ × ℕ)) → length (map_bytes es) ≡ 8 + 12 * length es
length-map_bytes es =
    let offset = number_bytes (slot.extent_at es 0).2 in
    let count = number_bytes (length es) in
    omega (arith, length-append (offset ++ count) (flat_map extent_bytes es), length-append offset count, length-number_bytes (slot.extent_at es 0).2, length-number_bytes (length es), length-pieces extent_bytes 12 es (0, 0, 0) (λ i lt. length-extent (get_or es i (0, 0, 0))))

-- how long the zones and the file map are
unfoldable pub layout_len : Hardware → ℕ
layout_len h = 8 * length h.zones + cond (is_plain h) 0 (8 + 12 * length h.extents)

length-rest : (b : Bool) (es : List (ℕ × ℕ × ℕ)) → length (cond b [] (map_bytes es)) ≡ cond b 0 (8 + 12 * length es)
length-rest true es = refl
length-rest false es = length-map_bytes es

pub length-layout : (h : Hardware) → length (layout_bytes h) ≡ layout_len h
unfolding layout_bytes layout_len
length-layout h =
    omega (arith, length-append (flat_map zone_bytes h.zones) (cond (is_plain h) [] (map_bytes h.extents)), length-pieces zone_bytes 8 h.zones (0, 0) (λ i lt. length-zone (get_or h.zones i (0, 0))), length-rest (is_plain h) h.extents)

-- What a layout at byte 424 says.

pub record HasLayout (h : Hardware) (text : List ℕ) : Type 0 where
  pub zone_count : zone_count text ≡ length h.zones
  pub zones : zones text ≡ h.zones
  pub extents : extents text ≡ h.extents
  pub count_byte : count_byte text ≡ 424 + layout_len h
  pub map : is_plain h ≡ false → HasMap h text (map_byte text)

map_place : (h : Hardware) (text : List ℕ) → zone_count text ≡ length h.zones → is_plain h ≡ false → StandsAt text 424 (layout_bytes h) → HasMap h text (map_byte text)
unfolding layout_bytes
map_place h text count second all =
    let zs = flat_map zone_bytes h.zones in
    let size : length zs ≡ 8 * length h.zones = length-pieces zone_bytes 8 h.zones (0, 0) (λ i lt. length-zone (get_or h.zones i (0, 0))) in
    let rest : StandsAt text (424 + 8 * length h.zones) (cond (is_plain h) [] (map_bytes h.extents)) = second_stands text 424 zs (cond (is_plain h) [] (map_bytes h.extents)) (8 * length h.zones) size all in
    let there : StandsAt text (424 + 8 * length h.zones) (map_bytes h.extents) = subst (λ (b : Bool). StandsAt text (424 + 8 * length h.zones) (cond b [] (map_bytes h.extents))) second rest in
    subst (λ (n : ℕ). HasMap h text (zone_byte n)) (sym count) (map_stands h text (424 + 8 * length h.zones) there)

pub says_extent_count : (h : Hardware) (text : List ℕ) → length h.extents ≤ 64 → HasMap h text (map_byte text) → extent_count text ≡ length h.extents
says_extent_count h text few at = number_stands text (map_byte text + 4) (length h.extents) (omega (arith, few)) at.count

-- the extents, and the place of the number of records, by the version
abbrev HasRest : Hardware → List ℕ → Type 0
HasRest h text = (extents text ≡ h.extents) × (count_byte text ≡ 424 + layout_len h)

rest_first : (h : Hardware) (text : List ℕ) → is_plain h ≡ true → is_second text ≡ not (is_plain h) → slots text ≡ h.slots → zone_count text ≡ length h.zones → HasRest h text
unfolding layout_len
rest_first h text plain version slots_is count =
    let first : is_second text ≡ false = version ∙ ap not plain in
    let size : cond (is_plain h) 0 (8 + 12 * length h.extents) ≡ 0 = ap (λ (b : Bool). cond b 0 (8 + 12 * length h.extents)) plain in
    let place : count_byte text ≡ map_byte text = ap (λ (b : Bool). cond b (extent_byte text (extent_count text)) (map_byte text)) first in (
      ap (λ (b : Bool). cond b (map (extent_at text (first_extent text)) (range_with_len 0 (extent_count text))) ((0, slots text, 0) ∷ [])) first
          ∙ ap (λ (s : ℕ). (0, s, 0) ∷ []) slots_is
          ∙ sym (plain_map h.extents h.slots plain),
      omega (arith, place, count, size),
    )

rest_second : (h : Hardware) (text : List ℕ) → IsHardware h → is_plain h ≡ false → is_second text ≡ not (is_plain h) → zone_count text ≡ length h.zones → HasMap h text (map_byte text) → HasRest h text
unfolding layout_len
rest_second h text hw plain version count at =
    let second : is_second text ≡ true = version ∙ ap not plain in
    let many = says_extent_count h text hw.map.count.few at in
    let size : cond (is_plain h) 0 (8 + 12 * length h.extents) ≡ 8 + 12 * length h.extents = ap (λ (b : Bool). cond b 0 (8 + 12 * length h.extents)) plain in
    let place : count_byte text ≡ extent_byte text (extent_count text) = ap (λ (b : Bool). cond b (extent_byte text (extent_count text)) (map_byte text)) second in (
      extents_are text second
          ∙ ap (λ (n : ℕ). map (extent_at text (first_extent text)) (range_with_len 0 n)) many
          ∙ sym (fill_by_all (extent_at text (first_extent text)) h.extents (length h.extents) (0, 0, 0) refl (λ i lt. extent_is text (first_extent text) h.slots h.extents i hw.few_slots hw.map at.extents lt)),
      omega (arith, place, count, size, many),
    )

pub layout_stands : (h : Hardware) (text : List ℕ) → IsHardware h → HasFront h text → StandsAt text 424 (layout_bytes h) → HasLayout h text
unfolding layout_bytes
layout_stands h text hw front all =
    let count = says_zone_count h text hw.zones front in
    let version = says_second h text front in
    let slots_is : slots text ≡ h.slots = number_stands text 12 h.slots (let few = hw.few_slots in omega (arith, few)) front.slots in
    let zs = first_stands text 424 (flat_map zone_bytes h.zones) (cond (is_plain h) [] (map_bytes h.extents)) all in
    let map_there : is_plain h ≡ false → HasMap h text (map_byte text) = λ second. map_place h text count second all in
    let rest : HasRest h text = elim (cases_Bool (is_plain h)) [
      | inl plain ↦ rest_first h text plain version slots_is count
      | inr second ↦ rest_second h text hw second version count (map_there second)
    ] in
    record { zone_count = count; zones = says_zones h text hw.zones front zs; extents = rest.0; count_byte = rest.1; map = map_there }
