-- Laws of the blocks of zones: they are apart, and have the zones' page frames.
use Rattle.std.proofs.Common.{◌≡◌, ℕ, ◌+◌, ◌-◌, ◌*◌, ◌/◌, ◌%◌, ◌<◌, ◌≤◌, ◌⊎◌, min, zero, suc, List, [], ◌∷◌, ◌++◌, length, get_or, map, take, drop, refl, sym, ap, ap₂, ◌∙◌, subst, inl, inr, ⊎_elim, arith, add-one, length-append}
use Rattle.std.proofs.lemmas.Bool.{cases_lt}
use Rattle.std.proofs.lemmas.List.{take_more, take-append-drop, append-nil, get_or_append_left, get_or-append_right, get_or_default}
use Rattle.std.proofs.lemmas.List.Elements.{All-nil, All-tail, All-head, All-append, All-weaker}
use Rattle.std.proofs.lemmas.Grind.{flat_map-append}
use Rattle.std.proofs.lemmas.List.FromFn.{length-range_with_len, length-map-range_with_len, get_or-map-range_with_len}
use Rattle.std.specs.List.{All, Contains, range_with_len, AllAdjacentBelow, flat_map}
use Rattle.std.specs.List.Sorted.{IsStrictlyIncreasing}
use Rattle.definitions.specs.Zones.{numbers, zone_end, zone_at, top}
use Rattle.definitions.specs.ZoneFacts.{InZone, IsZone, LiesBelow, AreApart, AreZones}
use Rattle.definitions.specs.FrameSets.{zone_block, zone_blocks, blocks}
use Rattle.definitions.proofs.Ascending.{same_members}
use Rattle.definitions.proofs.ZoneNumbers.{zone_of, Contains-numbers, Contains-range, range-bounds, AreApart-tail, numbers-append, IsStrictlyIncreasing-numbers, IsStrictlyIncreasing-range, zones_apart, count_at_most, top_at_most}

-- The blocks of one zone.

-- how many blocks a zone has
pub length-zone_blocks : (zone : ℕ × ℕ) → length (zone_blocks zone) ≡ (zone.1 + 32767) / 32768
unfolding zone_blocks
length-zone_blocks zone = length-map-range_with_len (zone_block zone) 0 ((zone.1 + 32767) / 32768)

pub get_or-zone_blocks : (zone : ℕ × ℕ) (j : ℕ) (d : ℕ × ℕ) → j < length (zone_blocks zone) → get_or (zone_blocks zone) j d ≡ zone_block zone j
unfolding zone_blocks
get_or-zone_blocks zone j d l =
    let len = length-zone_blocks zone in
    get_or-map-range_with_len (zone_block zone) 0 ((zone.1 + 32767) / 32768) j j d (omega arith) (omega arith)

-- a block of a zone: it isn't empty, has at most 32768 page frames, and each of them is of the zone
pub record IsBlockOf (zone block : ℕ × ℕ) : Type 0 where
  pub some : 0 < block.1
  pub few : block.1 ≤ 32768
  pub from : zone.0 ≤ block.0
  pub to : zone_end block ≤ zone_end zone

pub All-zone_blocks : (zone : ℕ × ℕ) → All (IsBlockOf zone) (zone_blocks zone)
All-zone_blocks zone k d l =
    let len = length-zone_blocks zone in
    subst (λ (b : ℕ × ℕ). IsBlockOf zone b) (sym (get_or-zone_blocks zone k d l))
    record { some = omega arith; few = omega arith; from = omega arith; to = omega arith }

pub AreApart-zone_blocks : (zone : ℕ × ℕ) → AreApart (zone_blocks zone)
AreApart-zone_blocks zone k d l =
    let this = get_or-zone_blocks zone k d (omega arith) in
    let next = get_or-zone_blocks zone (k + 1) d l in
    subst (λ (b : ℕ × ℕ). LiesBelow b (get_or (zone_blocks zone) (k + 1) d)) (sym this)
    (subst (λ (b : ℕ × ℕ). LiesBelow (zone_block zone k) b) (sym next) (omega arith))

-- number k of a zone is number k % 32768 of its block k / 32768
pub in_zone_block : (zone : ℕ × ℕ) (k : ℕ) → k < zone.1 → InZone (zone_blocks zone) (zone.0 + k) (k / 32768)
in_zone_block zone k l =
    let len = length-zone_blocks zone in
    let within : k / 32768 < length (zone_blocks zone) = omega arith in
    let is = sym (get_or-zone_blocks zone (k / 32768) (0, 0) within) in
    record {
      within = within;
      from = subst (λ (b : ℕ × ℕ). b.0 ≤ zone.0 + k) is (omega arith);
      below = subst (λ (b : ℕ × ℕ). zone.0 + k < zone_end b) is (omega arith);
    }

-- The blocks of all zones.

pub blocks-cons : (z : ℕ × ℕ) (zs : List (ℕ × ℕ)) → blocks (z ∷ zs) ≡ zone_blocks z ++ blocks zs
unfolding blocks
blocks-cons z zs = refl

pub blocks-nil : blocks [] ≡ []
unfolding blocks
blocks-nil = refl

-- the blocks of zones that lie at or above low do so too
blocks_above : (low : ℕ) (zones : List (ℕ × ℕ)) → All (λ z. low ≤ z.0) zones → All (λ b. low ≤ b.0) (blocks zones)
unfolding blocks
blocks_above low [] h = All-nil (λ b. low ≤ b.0)
blocks_above low (z ∷ zs) h =
    let first = All-head (λ x. low ≤ x.0) z zs h in
    All-append (λ b. low ≤ b.0) (zone_blocks z) (blocks zs)
    (All-weaker (IsBlockOf z) (λ b. low ≤ b.0) (λ b part. let from = part.from in omega arith) (zone_blocks z) (All-zone_blocks z))
    (blocks_above low zs (All-tail (λ x. low ≤ x.0) z zs h))

-- each block has a page frame, none above 65535, and at most 32768 of them
abbrev pub IsBlock : ℕ × ℕ → Type 0
IsBlock block = (0 < block.1) × (block.1 ≤ 32768) × (zone_end block ≤ 65536)

pub All-blocks : (zones : List (ℕ × ℕ)) → All IsZone zones → All IsBlock (blocks zones)
unfolding blocks
All-blocks [] each = All-nil IsBlock
All-blocks (z ∷ zs) each =
    let zone = All-head IsZone z zs each in
    All-append IsBlock (zone_blocks z) (blocks zs)
    (All-weaker (IsBlockOf z) IsBlock (λ b part. let to = part.to in let low = zone.1 in (part.some, part.few, omega arith)) (zone_blocks z) (All-zone_blocks z))
    (All-blocks zs (All-tail IsZone z zs each))

AreApart-append : (xs ys : List (ℕ × ℕ)) → AreApart xs → AreApart ys → ((i j : ℕ) (d : ℕ × ℕ) → i < length xs → j < length ys → LiesBelow (get_or xs i d) (get_or ys j d)) → AreApart (xs ++ ys)
AreApart-append xs ys x_apart y_apart between k d l =
    let total = length-append xs ys in
    elim (cases_lt (k + 1) (length xs)) [
      | inl low ↦
          subst (λ (b : ℕ × ℕ). LiesBelow b (get_or (xs ++ ys) (k + 1) d)) (sym (get_or_append_left xs ys d k (omega arith)))
          (subst (λ (b : ℕ × ℕ). LiesBelow (get_or xs k d) b) (sym (get_or_append_left xs ys d (k + 1) low)) (x_apart k d low))
      | inr ge ↦
          let next = get_or-append_right xs ys (length xs) (k + 1) d refl ge in
          subst (λ (b : ℕ × ℕ). LiesBelow (get_or (xs ++ ys) k d) b) (sym next) (elim (cases_lt k (length xs)) [
            | inl low ↦
                subst (λ (b : ℕ × ℕ). LiesBelow b (get_or ys (k + 1 - length xs) d)) (sym (get_or_append_left xs ys d k low))
                (between k (k + 1 - length xs) d low (omega arith))
            | inr le ↦
                let at : k - length xs + 1 ≡ k + 1 - length xs = omega arith in
                subst (λ (b : ℕ × ℕ). LiesBelow b (get_or ys (k + 1 - length xs) d)) (sym (get_or-append_right xs ys (length xs) k d refl le))
                (subst (λ (j : ℕ). LiesBelow (get_or ys (k - length xs) d) (get_or ys j d)) at (y_apart (k - length xs) d (omega arith)))
          ])
    ]

-- each zone lies above the first
zones_above_first : (z : ℕ × ℕ) (zs : List (ℕ × ℕ)) → AreApart (z ∷ zs) → All (λ x. zone_end z ≤ x.0) zs
zones_above_first z zs apart k d l =
    subst (λ (x : ℕ × ℕ). zone_end z ≤ x.0) (get_or_default zs k (0, 0) d l) (zones_apart (z ∷ zs) apart 0 (suc k) (omega arith) (omega arith))

pub AreApart-blocks : (zones : List (ℕ × ℕ)) → AreApart zones → AreApart (blocks zones)
unfolding blocks
AreApart-blocks [] apart = λ k d l. absurd (omega arith)
AreApart-blocks (z ∷ zs) apart =
    AreApart-append (zone_blocks z) (blocks zs) (AreApart-zone_blocks z) (AreApart-blocks zs (AreApart-tail z zs apart))
    (λ i j d i_lt j_lt.
    let low = (All-zone_blocks z i d i_lt).to in
    let high = blocks_above (zone_end z) zs (zones_above_first z zs apart) j d j_lt in
    omega arith)

numbers-zone_blocks : (zone : ℕ × ℕ) → numbers (zone_blocks zone) ≡ range_with_len zone.0 zone.1
numbers-zone_blocks zone =
    same_members (numbers (zone_blocks zone)) (range_with_len zone.0 zone.1)
    (IsStrictlyIncreasing-numbers (zone_blocks zone) (AreApart-zone_blocks zone))
    (IsStrictlyIncreasing-range zone.0 zone.1)
    (λ p in'.
    let at = zone_of (zone_blocks zone) p in' in
    let block = All-zone_blocks zone at.0 (0, 0) at.1.within in
    let a = at.1.from in
    let b = at.1.below in
    let c = block.from in
    let d = block.to in
    Contains-range zone.0 zone.1 p (omega arith) (omega arith))
    (λ p in'.
    let within = range-bounds zone.0 zone.1 p in' in
    let at = in_zone_block zone (p - zone.0) (omega arith) in
    let is : zone.0 + (p - zone.0) ≡ p = omega arith in
    subst (λ (q : ℕ). Contains (numbers (zone_blocks zone)) q) is
    (Contains-numbers (zone_blocks zone) ((p - zone.0) / 32768) (zone.0 + (p - zone.0)) at.within at.from at.below))

-- the blocks have the page frames of the zones
pub numbers-blocks : (zones : List (ℕ × ℕ)) → numbers (blocks zones) ≡ numbers zones
unfolding blocks
numbers-blocks [] = refl
numbers-blocks (z ∷ zs) = numbers-append (zone_blocks z) (blocks zs) ∙ ap₂ ◌++◌ (numbers-zone_blocks z) (numbers-blocks zs)

-- The blocks of the first zones.

pub blocks-append : (xs ys : List (ℕ × ℕ)) → blocks (xs ++ ys) ≡ blocks xs ++ blocks ys
unfolding blocks
blocks-append xs ys = flat_map-append zone_blocks xs ys

-- the blocks of one zone more
pub blocks-take_more : (zones : List (ℕ × ℕ)) (j : ℕ) → j < length zones → blocks (take (j + 1) zones) ≡ blocks (take j zones) ++ zone_blocks (zone_at zones j)
blocks-take_more zones j l =
    let zone = zone_at zones j in
    ap blocks (take_more zones j (0, 0) l)
    ∙ blocks-append (take j zones) (zone ∷ [])
    ∙ ap (λ t. blocks (take j zones) ++ t) (blocks-cons zone [] ∙ ap (λ t. zone_blocks zone ++ t) blocks-nil ∙ append-nil (zone_blocks zone))

-- Runs of page frames, none empty, are at most as many as their page frames.
length-numbers_at_least : (runs : List (ℕ × ℕ)) → All IsBlock runs → length runs ≤ length (numbers runs)
length-numbers_at_least [] each = omega arith
length-numbers_at_least (z ∷ zs) each =
    let some = (All-head IsBlock z zs each).0 in
    let rest = length-numbers_at_least zs (All-tail IsBlock z zs each) in
    let parts = length-append (range_with_len z.0 z.1) (numbers zs) in
    let run = length-range_with_len z.0 z.1 in
    omega arith

-- there are at most 65,536 blocks
pub few_blocks : (zones : List (ℕ × ℕ)) → AreZones zones → length (blocks zones) ≤ 65536
few_blocks zones h =
    let few = length-numbers_at_least (blocks zones) (All-blocks zones h.each) in
    let same = ap length (numbers-blocks zones) in
    let all = count_at_most zones h in
    let high = top_at_most zones h in
    omega arith
