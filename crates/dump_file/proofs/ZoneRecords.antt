-- Records of page frames, zone by zone.
use Rattle.std.proofs.Common.{◌≡◌, ℕ, zero, suc, ◌+◌, ◌-◌, ◌<◌, List, [], ◌∷◌, ◌++◌, length, take, drop, Bool, true, false, not, cond, Option, refl, sym, ap, ◌∙◌, append-nil, length-append, subst, arith}
use Rattle.std.proofs.lemmas.Grind.{flat_map-append}
use Rattle.std.proofs.lemmas.List.{take-append-drop}
use Rattle.std.proofs.lemmas.List.Elements.{filter-append}
use Rattle.std.specs.List.{flat_map, range_with_len}
use Rattle.definitions.specs.Streams.{TakesAll, TakesFront}
use Rattle.definitions.specs.Tables.{frame}
use Rattle.definitions.specs.Zones.{numbers, zone_at}
use Rattle.definitions.proofs.ZoneLists.{filter-range_more}
use Rattle.definitions.proofs.ZoneNumbers.{numbers-append, numbers-take_more}
use Rattle.definitions.proofs.ZoneWalk.{IsAtZone}
use Rattle.plain_machine.specs.Image.{is_zeros}
use Rattle.plain_machine.specs.Machine.{Memory}
use Rattle.dump_file.specs.Written.{nonzero, record_bytes, records_bytes}
use Rattle.byte_streams.proofs.Taken.{TakesAll-both, TakesFront-first, TakesFront-second}

pub range-append : (a m n : ℕ) → range_with_len a (m + n) ≡ range_with_len a m ++ range_with_len (a + m) n
range-append a zero n = let same : 0 + n ≡ n = omega arith in let from : a ≡ a + 0 = omega arith in ap (range_with_len a) same ∙ ap (λ x. range_with_len x n) from
range-append a (suc m) n =
    let more : suc m + n ≡ suc (m + n) = omega arith in
    let from : a + 1 + m ≡ a + suc m = omega arith in
    ap (range_with_len a) more ∙ ap (λ (t : List ℕ). a ∷ t) (range-append (a + 1) m n)
    ∙ ap (λ (x : ℕ). a ∷ (range_with_len (a + 1) m ++ range_with_len x n)) from

pub records-append : (m : Memory) (ps qs : List ℕ) → records_bytes m (ps ++ qs) ≡ records_bytes m ps ++ records_bytes m qs
records-append m ps qs =
    ap (flat_map (record_bytes m)) (filter-append (λ p. not (is_zeros (frame m p))) ps qs)
    ∙ flat_map-append (record_bytes m) (nonzero m ps) (nonzero m qs)

-- one page frame more: it is all zero, or it has a record
kept_one : (m : Memory) (b : Bool) (p : ℕ) → b ≡ true → flat_map (record_bytes m) (cond (not b) (p ∷ []) []) ≡ []
kept_one m true p e = refl
kept_one m false p e = absurd (let no : false ≡ true = e in grind (arith, no))

more_one : (m : Memory) (b : Bool) (p : ℕ) → b ≡ false → flat_map (record_bytes m) (cond (not b) (p ∷ []) []) ≡ record_bytes m p
more_one m false p e = append-nil (record_bytes m p)
more_one m true p e = absurd (let no : true ≡ false = e in grind (arith, no))

range_parts : (m : Memory) (a n : ℕ) → records_bytes m (range_with_len a (n + 1)) ≡ records_bytes m (range_with_len a n) ++ flat_map (record_bytes m) (cond (not (is_zeros (frame m (a + n)))) ((a + n) ∷ []) [])
range_parts m a n =
    ap (flat_map (record_bytes m)) (filter-range_more (λ p. not (is_zeros (frame m p))) a n)
    ∙ flat_map-append (record_bytes m) (nonzero m (range_with_len a n)) (cond (not (is_zeros (frame m (a + n)))) ((a + n) ∷ []) [])

pub records-range_skip : (m : Memory) (a n : ℕ) → is_zeros (frame m (a + n)) ≡ true → records_bytes m (range_with_len a (n + 1)) ≡ records_bytes m (range_with_len a n)
records-range_skip m a n e =
    range_parts m a n ∙ ap (λ (xs : List ℕ). records_bytes m (range_with_len a n) ++ xs) (kept_one m (is_zeros (frame m (a + n))) (a + n) e)
    ∙ append-nil (records_bytes m (range_with_len a n))

pub records-range_more : (m : Memory) (a n : ℕ) → is_zeros (frame m (a + n)) ≡ false → records_bytes m (range_with_len a (n + 1)) ≡ records_bytes m (range_with_len a n) ++ record_bytes m (a + n)
records-range_more m a n e =
    range_parts m a n ∙ ap (λ (xs : List ℕ). records_bytes m (range_with_len a n) ++ xs) (more_one m (is_zeros (frame m (a + n))) (a + n) e)

-- how many page frames have a record, of one more
count_parts : (m : Memory) (a n : ℕ) → length (nonzero m (range_with_len a (n + 1))) ≡ length (nonzero m (range_with_len a n)) + length (cond (not (is_zeros (frame m (a + n)))) ((a + n) ∷ []) [])
count_parts m a n =
    ap length (filter-range_more (λ p. not (is_zeros (frame m p))) a n)
    ∙ length-append (nonzero m (range_with_len a n)) (cond (not (is_zeros (frame m (a + n)))) ((a + n) ∷ []) [])

count_one : (b : Bool) (p : ℕ) → b ≡ false → length (cond (not b) (p ∷ []) []) ≡ 1
count_one false p e = refl
count_one true p e = absurd (let no : true ≡ false = e in grind (arith, no))

count_none : (b : Bool) (p : ℕ) → b ≡ true → length (cond (not b) (p ∷ []) []) ≡ 0
count_none true p e = refl
count_none false p e = absurd (let no : false ≡ true = e in grind (arith, no))

pub count-range_skip : (m : Memory) (a n : ℕ) → is_zeros (frame m (a + n)) ≡ true → length (nonzero m (range_with_len a (n + 1))) ≡ length (nonzero m (range_with_len a n))
count-range_skip m a n e = omega (arith, count_parts m a n, count_none (is_zeros (frame m (a + n))) (a + n) e)

pub count-range_more : (m : Memory) (a n : ℕ) → is_zeros (frame m (a + n)) ≡ false → length (nonzero m (range_with_len a (n + 1))) ≡ length (nonzero m (range_with_len a n)) + 1
count-range_more m a n e = omega (arith, count_parts m a n, count_one (is_zeros (frame m (a + n))) (a + n) e)

-- A sink has taken the records so far, and then a front of the next ones: that is a front of all.
pub front_of_range : (m : Memory) (a i n : ℕ) (old mid new : Option (List ℕ)) → i < n → is_zeros (frame m (a + i)) ≡ false → TakesAll (records_bytes m (range_with_len a i)) old mid → TakesFront (record_bytes m (a + i)) mid new → TakesFront (records_bytes m (range_with_len a n)) old new
front_of_range m a i n old mid new lt e so_far front =
    let rest = records_bytes m (range_with_len (a + (i + 1)) (n - (i + 1))) in
    let count : i + 1 + (n - (i + 1)) ≡ n = omega arith in
    let all : records_bytes m (range_with_len a (i + 1)) ++ rest ≡ records_bytes m (range_with_len a n) =
    sym (records-append m (range_with_len a (i + 1)) (range_with_len (a + (i + 1)) (n - (i + 1))))
    ∙ ap (records_bytes m) (sym (range-append a (i + 1) (n - (i + 1))))
    ∙ ap (λ (k : ℕ). records_bytes m (range_with_len a k)) count in
    let first : TakesFront (records_bytes m (range_with_len a (i + 1))) old new =
    subst (λ (text : List ℕ). TakesFront text old new) (sym (records-range_more m a i e))
    (TakesFront-second (records_bytes m (range_with_len a i)) (record_bytes m (a + i)) old mid new so_far front) in
    subst (λ (text : List ℕ). TakesFront text old new) all (TakesFront-first (records_bytes m (range_with_len a (i + 1))) rest old new first)

pub all_of_range_more : (m : Memory) (a i : ℕ) (old mid new : Option (List ℕ)) → is_zeros (frame m (a + i)) ≡ false → TakesAll (records_bytes m (range_with_len a i)) old mid → TakesAll (record_bytes m (a + i)) mid new → TakesAll (records_bytes m (range_with_len a (i + 1))) old new
all_of_range_more m a i old mid new e so_far more =
    subst (λ (text : List ℕ). TakesAll text old new) (sym (records-range_more m a i e))
    (TakesAll-both (records_bytes m (range_with_len a i)) (record_bytes m (a + i)) old mid new so_far more)

-- the records of one zone more
pub records-zone_more : (m : Memory) (zones : List (ℕ × ℕ)) (j : ℕ) (zone : ℕ × ℕ) → IsAtZone zones j zone → records_bytes m (numbers (take (j + 1) zones)) ≡ records_bytes m (numbers (take j zones)) ++ records_bytes m (range_with_len zone.0 zone.1)
records-zone_more m zones j zone at =
    ap (records_bytes m) (numbers-take_more zones j at.within)
    ∙ records-append m (numbers (take j zones)) (range_with_len (zone_at zones j).0 (zone_at zones j).1)
    ∙ ap (λ (z : ℕ × ℕ). records_bytes m (numbers (take j zones)) ++ records_bytes m (range_with_len z.0 z.1)) at.zone_is

pub all_of_zone_more : (m : Memory) (zones : List (ℕ × ℕ)) (j : ℕ) (zone : ℕ × ℕ) (old mid new : Option (List ℕ)) → IsAtZone zones j zone → TakesAll (records_bytes m (numbers (take j zones))) old mid → TakesAll (records_bytes m (range_with_len zone.0 zone.1)) mid new → TakesAll (records_bytes m (numbers (take (j + 1) zones))) old new
all_of_zone_more m zones j zone old mid new at so_far more =
    subst (λ (text : List ℕ). TakesAll text old new) (sym (records-zone_more m zones j zone at))
    (TakesAll-both (records_bytes m (numbers (take j zones))) (records_bytes m (range_with_len zone.0 zone.1)) old mid new so_far more)

pub front_of_zones : (m : Memory) (zones : List (ℕ × ℕ)) (j : ℕ) (zone : ℕ × ℕ) (old mid new : Option (List ℕ)) → IsAtZone zones j zone → TakesAll (records_bytes m (numbers (take j zones))) old mid → TakesFront (records_bytes m (range_with_len zone.0 zone.1)) mid new → TakesFront (records_bytes m (numbers zones)) old new
front_of_zones m zones j zone old mid new at so_far front =
    let rest = records_bytes m (numbers (drop (j + 1) zones)) in
    let all : records_bytes m (numbers (take (j + 1) zones)) ++ rest ≡ records_bytes m (numbers zones) =
    sym (records-append m (numbers (take (j + 1) zones)) (numbers (drop (j + 1) zones)))
    ∙ ap (records_bytes m) (sym (numbers-append (take (j + 1) zones) (drop (j + 1) zones)))
    ∙ ap (λ (zs : List (ℕ × ℕ)). records_bytes m (numbers zs)) (take-append-drop (j + 1) zones) in
    let first : TakesFront (records_bytes m (numbers (take (j + 1) zones))) old new =
    subst (λ (text : List ℕ). TakesFront text old new) (sym (records-zone_more m zones j zone at))
    (TakesFront-second (records_bytes m (numbers (take j zones))) (records_bytes m (range_with_len zone.0 zone.1)) old mid new so_far front) in
    subst (λ (text : List ℕ). TakesFront text old new) all (TakesFront-first (records_bytes m (numbers (take (j + 1) zones))) rest old new first)
