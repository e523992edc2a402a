-- What is planned is a placement.
use Rattle.std.proofs.Common.{◌≡◌, ℕ, ◌+◌, ◌-◌, ◌<◌, ◌≤◌, zero, suc, List, [], ◌∷◌, Some, length, get_or, filter, take, drop, refl, sym, ap, ap₂, ◌∙◌, subst, inl, inr, arith, Bool, ltb, ◌||◌, nat_eq, All, add-one, length-drop, slice_get}
use Rattle.std.proofs.lemmas.Bool.{cases_lt, cases_Bool, lt-ltb, le-ltb, false≢true, or_left, or_right, or_from}
use Rattle.std.proofs.lemmas.List.{get_or-take, get_or_default, length-take, length-take-le}
use Rattle.std.proofs.lemmas.List.Elements.{Contains-get_or}
use Rattle.std.proofs.lemmas.List.Kept.{IsStrictlyIncreasing-filter}
use Rattle.std.proofs.lemmas.Option.{same_Some, slice_get-get_or}
use Rattle.std.proofs.lemmas.Slice.Zip.{firsts-zip, seconds-zip, length-zip}
use Rattle.std.specs.List.{Contains, IsDistinct, list_any, zip}
use Rattle.std.specs.List.Sorted.{IsStrictlyIncreasing}
use Rattle.definitions.specs.Moves.{Move}
use Rattle.definitions.specs.Zones.{numbers}
use Rattle.definitions.specs.ZoneFacts.{AreZones}
use Rattle.definitions.proofs.Ascending.{same_members}
use Rattle.definitions.proofs.FrameSets.{Contains-filter, Contains-from_filter}
use Rattle.definitions.proofs.ZoneNumbers.{IsStrictlyIncreasing-numbers}
use Rattle.frame_sets.specs.FrameSet.{FrameSet, IsFrameSet}
use Rattle.placement.specs.Placed.{Placed, IsPlacement, IsUnnamed, TakesFrom, placed, sources, targets}
use Rattle.placement.specs.Plan.{list_frames_for, need_for, planned, reserved, waiting, without}
use Rattle.placement.specs.Walk.{unreserved}
use Rattle.placement.proofs.Counting.{All-of_members, Contains-from_drop, Contains-from_take, IsDistinct-ascending, length-part, length-without, length-without_part, member_of_All, up_drop, up_take}
use Rattle.placement.proofs.Reserved.{Contains-from_without, Contains-without, member_passes, stranger_fails, up_without}
use Rattle.placement.proofs.Walks.{rises}

-- sets over the zones, with enough members in the free one
pub record Suffice (zones : List (ℕ × ℕ)) (origs free : List ℕ) : Type 0 where
  pub are_zones : AreZones zones
  pub origs_up : IsStrictlyIncreasing origs
  pub free_up : IsStrictlyIncreasing free
  pub origs_valid : All (Contains (numbers zones)) origs
  pub free_valid : All (Contains (numbers zones)) free
  pub enough : need_for (length origs) ≤ length free

pub suffice : (zones : List (ℕ × ℕ)) (origs free : FrameSet) → origs.zones ≡ zones → free.zones ≡ zones → IsFrameSet origs → IsFrameSet free → need_for (length origs.members) ≤ length free.members → Suffice zones origs.members free.members
suffice zones origs free origs_over free_over o f enough = record {
  are_zones = subst AreZones origs_over o.zones;
  origs_up = o.ascending;
  free_up = f.ascending;
  origs_valid = subst (λ (zs : List (ℕ × ℕ)). All (Contains (numbers zs)) origs.members) origs_over o.valid;
  free_valid = subst (λ (zs : List (ℕ × ℕ)). All (Contains (numbers zs)) free.members) free_over f.valid;
  enough = enough;
}

-- Counts.

pub enough_apart : (zones : List (ℕ × ℕ)) (origs free : List ℕ) → Suffice zones origs free → list_frames_for (length origs) < length (without free origs)
enough_apart zones origs free h =
    let most = length-without free origs h.free_up h.origs_up in
    let enough = h.enough in
    omega arith

pub few_originals : (zones : List (ℕ × ℕ)) (origs free : List ℕ) → Suffice zones origs free → length origs ≤ length (numbers zones)
few_originals zones origs free h =
    length-part (numbers zones) origs (IsStrictlyIncreasing-numbers zones h.are_zones.apart) h.origs_up (λ x in'. member_of_All (Contains (numbers zones)) origs x h.origs_valid in')

pub length-reserved : (zones : List (ℕ × ℕ)) (origs free : List ℕ) → Suffice zones origs free → length (reserved origs free) ≡ list_frames_for (length origs) + 1
length-reserved zones origs free h =
    let enough = enough_apart zones origs free h in
    length-take-le (list_frames_for (length origs) + 1) (without free origs) (omega arith)

-- the reserved ones ascend, are free, and are no originals
pub up_reserved : (zones : List (ℕ × ℕ)) (origs free : List ℕ) → Suffice zones origs free → IsStrictlyIncreasing (reserved origs free)
up_reserved zones origs free h = up_take (list_frames_for (length origs) + 1) (without free origs) (up_without free origs h.free_up)

pub reserved_free : (origs free : List ℕ) (p : ℕ) → Contains (reserved origs free) p → Contains free p × (Contains origs p → ⊥)
reserved_free origs free p in' =
    Contains-from_without free origs p (Contains-from_take (list_frames_for (length origs) + 1) (without free origs) p in')

pub length-rest : (zones : List (ℕ × ℕ)) (origs free : List ℕ) → Suffice zones origs free → length (without free (reserved origs free)) + (list_frames_for (length origs) + 1) ≡ length free
length-rest zones origs free h =
    let all = length-without_part free (reserved origs free) h.free_up (up_reserved zones origs free h) (λ x in'. (reserved_free origs free x in').0) in
    let size = length-reserved zones origs free h in
    omega arith

pub length-waiting : (zones : List (ℕ × ℕ)) (origs free : List ℕ) → Suffice zones origs free → length (waiting origs free) ≡ length origs
length-waiting zones origs free h =
    let rest = without free (reserved origs free) in
    let size = length-rest zones origs free h in
    let enough = h.enough in
    omega (arith, length-drop (length rest - length origs) rest)

-- the bounce frame is the highest reserved one
pub bounce_is : (zones : List (ℕ × ℕ)) (origs free : List ℕ) → Suffice zones origs free → get_or (reserved origs free) (list_frames_for (length origs)) 0 ≡ get_or (without free origs) (list_frames_for (length origs)) 0
bounce_is zones origs free h = get_or-take (list_frames_for (length origs) + 1) (without free origs) (list_frames_for (length origs)) 0 (omega arith)

-- The page frames that aren't reserved, by the bounce frame.

reserved_at_most : (zones : List (ℕ × ℕ)) (origs free : List ℕ) (p : ℕ) → Suffice zones origs free → Contains (reserved origs free) p → p ≤ get_or (reserved origs free) (list_frames_for (length origs)) 0
reserved_at_most zones origs free p h (j, lt, is) =
    let kept = reserved origs free in
    let size = length-reserved zones origs free h in
    let at : get_or kept j 0 ≡ p = sym (get_or_default kept j p 0 lt) ∙ is in
    elim (cases_lt j (list_frames_for (length origs))) [
      | inl below ↦ let low = rises kept j (list_frames_for (length origs)) (up_reserved zones origs free h) below (omega arith) in omega arith
      | inr last ↦
          let same : j ≡ list_frames_for (length origs) = omega arith in
          let here = ap (λ (i : ℕ). get_or kept i 0) same in
          omega arith
    ]

above_bounce : (zones : List (ℕ × ℕ)) (origs free : List ℕ) (p : ℕ) → Suffice zones origs free → Contains (without free origs) p → (Contains (reserved origs free) p → ⊥) → get_or (without free origs) (list_frames_for (length origs)) 0 < p
above_bounce zones origs free p h (j, lt, is) out =
    let apart = without free origs in
    let count = list_frames_for (length origs) in
    let at : get_or apart j 0 ≡ p = sym (get_or_default apart j p 0 lt) ∙ is in
    elim (cases_lt count j) [
      | inl above ↦ let low = rises apart count j (up_without free origs h.free_up) above lt in omega arith
      | inr le ↦
          let taken = get_or-take (count + 1) apart j 0 (omega arith) in
          let within : j < length (reserved origs free) = omega (arith, length-reserved zones origs free h) in
          absurd (out (subst (λ (x : ℕ). Contains (reserved origs free) x) (taken ∙ at) (Contains-get_or (reserved origs free) j 0 within)))
    ]

pub unreserved_are : (zones : List (ℕ × ℕ)) (origs free : List ℕ) (bounce : ℕ) → Suffice zones origs free → bounce ≡ get_or (without free origs) (list_frames_for (length origs)) 0 → unreserved origs free bounce ≡ without free (reserved origs free)
unfolding unreserved
unreserved_are zones origs free bounce h is =
    let kept = reserved origs free in
    let test : ℕ → Bool = λ p. ltb bounce p || list_any (nat_eq p) origs in
    let highest = bounce_is zones origs free h in
    same_members (filter test free) (without free kept) (IsStrictlyIncreasing-filter test free h.free_up) (up_without free kept h.free_up)
    (λ p in'.
    let both = Contains-from_filter test free p in' in
    Contains-without free kept p both.0 (λ reserved_too.
    let at_most = reserved_at_most zones origs free p h reserved_too in
    let no_original = (reserved_free origs free p reserved_too).1 in
    false≢true (sym (or_from (ltb bounce p) (list_any (nat_eq p) origs) (le-ltb bounce p (omega arith)) (stranger_fails origs p no_original)) ∙ both.1)))
    (λ p in'.
    let both = Contains-from_without free kept p in' in
    elim (cases_Bool (list_any (nat_eq p) origs)) [
      | inl original ↦ Contains-filter test free p both.0 (or_right (ltb bounce p) (list_any (nat_eq p) origs) original)
      | inr other ↦
          let no_original : Contains origs p → ⊥ = λ h'. false≢true (sym other ∙ member_passes origs p h') in
          let above = above_bounce zones origs free p h (Contains-without free origs p both.0 no_original) both.1 in
          Contains-filter test free p both.0 (or_left (ltb bounce p) (list_any (nat_eq p) origs) (lt-ltb bounce p (omega arith)))
    ])

-- The parts of the plan.

unnamed : (origs free : List ℕ) (moves : List Move) (p : ℕ) → sources moves ≡ waiting origs free → targets moves ≡ origs → Contains (reserved origs free) p → IsUnnamed moves p
unnamed origs free moves p sources_are targets_are in' = record {
  no_source = λ h.
      let rest = without free (reserved origs free) in
      let waits : Contains (waiting origs free) p = subst (λ (xs : List ℕ). Contains xs p) sources_are h in
      (Contains-from_without free (reserved origs free) p (Contains-from_drop (length rest - length origs) rest p waits)).1 in';
  no_target = λ h. (reserved_free origs free p in').1 (subst (λ (xs : List ℕ). Contains xs p) targets_are h);
}

pub IsPlacement-planned : (zones : List (ℕ × ℕ)) (origs free : List ℕ) → Suffice zones origs free → IsPlacement (planned zones origs free)
unfolding planned
IsPlacement-planned zones origs free h =
    let count = list_frames_for (length origs) in
    let kept = reserved origs free in
    let rest = without free kept in
    let waits = waiting origs free in
    let moves = zip waits origs in
    let same = length-waiting zones origs free h in
    let size = length-reserved zones origs free h in
    let sources_are : sources moves ≡ waits = firsts-zip waits origs (sym same) in
    let targets_are : targets moves ≡ origs = seconds-zip waits origs (sym same) in
    let kept_up = up_reserved zones origs free h in
    let waits_up = up_drop (length rest - length origs) rest (up_without free kept h.free_up) in
    let bounce_in : Contains kept (get_or kept count 0) = Contains-get_or kept count 0 (omega arith) in
    let valid_free : (x : ℕ) → Contains free x → Contains (numbers zones) x = λ x in'. member_of_All (Contains (numbers zones)) free x h.free_valid in' in
    let waits_valid : All (Contains (numbers zones)) waits =
    All-of_members (Contains (numbers zones)) waits (λ x in'. valid_free x (Contains-from_without free kept x (Contains-from_drop (length rest - length origs) rest x in')).0) in
    record {
      zones = h.are_zones;
      sources_valid = subst (λ (xs : List ℕ). All (Contains (numbers zones)) xs) (sym sources_are) waits_valid;
      targets_valid = subst (λ (xs : List ℕ). All (Contains (numbers zones)) xs) (sym targets_are) h.origs_valid;
      list_valid = All-of_members (Contains (numbers zones)) (take count kept) (λ x in'. valid_free x (reserved_free origs free x (Contains-from_take count kept x in')).0);
      bounce_valid = valid_free (get_or kept count 0) (reserved_free origs free (get_or kept count 0) bounce_in).0;
      sources_distinct = subst (λ (xs : List ℕ). IsDistinct nat_eq xs) (sym sources_are) (IsDistinct-ascending waits waits_up);
      targets_distinct = subst (λ (xs : List ℕ). IsDistinct nat_eq xs) (sym targets_are) (IsDistinct-ascending origs h.origs_up);
      list_distinct = IsDistinct-ascending (take count kept) (up_take count kept kept_up);
      list_unnamed = All-of_members (IsUnnamed moves) (take count kept) (λ x in'. unnamed origs free moves x sources_are targets_are (Contains-from_take count kept x in'));
      bounce_unnamed = unnamed origs free moves (get_or kept count 0) sources_are targets_are bounce_in;
      bounce_apart = λ (j, lt, is).
          let j_lt : j < count = omega (arith, length-take count kept) in
          let low = rises kept j count kept_up j_lt (omega arith) in
          let at = get_or-take count kept j 0 j_lt in
          let here = get_or_default (take count kept) j (get_or kept count 0) 0 lt in
          omega arith;
      room = omega (arith, length-zip waits origs, length-take count kept);
    }

pub sources-planned : (zones : List (ℕ × ℕ)) (origs free : List ℕ) → Suffice zones origs free → sources (planned zones origs free).moves ≡ waiting origs free
unfolding planned
sources-planned zones origs free h = firsts-zip (waiting origs free) origs (sym (length-waiting zones origs free h))

pub targets-planned : (zones : List (ℕ × ℕ)) (origs free : List ℕ) → Suffice zones origs free → targets (planned zones origs free).moves ≡ origs
unfolding planned
targets-planned zones origs free h = seconds-zip (waiting origs free) origs (sym (length-waiting zones origs free h))

pub TakesFrom-planned : (zones : List (ℕ × ℕ)) (origs free : List ℕ) → Suffice zones origs free → TakesFrom free (planned zones origs free)
unfolding planned
TakesFrom-planned zones origs free h =
    let count = list_frames_for (length origs) in
    let kept = reserved origs free in
    let rest = without free kept in
    let size = length-reserved zones origs free h in
    let waits_in : All (Contains free) (waiting origs free) =
    All-of_members (Contains free) (waiting origs free) (λ x in'. (Contains-from_without free kept x (Contains-from_drop (length rest - length origs) rest x in')).0) in
    record {
      sources_in = subst (λ (xs : List ℕ). All (Contains free) xs) (sym (firsts-zip (waiting origs free) origs (sym (length-waiting zones origs free h)))) waits_in;
      list_in = All-of_members (Contains free) (take count kept) (λ x in'. (reserved_free origs free x (Contains-from_take count kept x in')).0);
      bounce_in = (reserved_free origs free (get_or kept count 0) (Contains-get_or kept count 0 (omega arith))).0;
    }

-- The parts as the code makes them.

take-take_suc : (n : ℕ) (xs : List ℕ) → take n (take (suc n) xs) ≡ take n xs
take-take_suc zero xs = refl
take-take_suc (suc n) [] = refl
take-take_suc (suc n) (x ∷ xs) = ap (λ (ys : List ℕ). x ∷ ys) (take-take_suc n xs)

take-take_more : (n : ℕ) (xs : List ℕ) → take n (take (n + 1) xs) ≡ take n xs
take-take_more n xs = ap (λ (m : ℕ). take n (take m xs)) (add-one n) ∙ take-take_suc n xs

bounce_at : (origs free : List ℕ) (list_frames bounce : ℕ) → list_frames ≡ list_frames_for (length origs) → list_frames_for (length origs) < length (without free origs) → slice_get (without free origs) list_frames ≡ Some bounce → bounce ≡ get_or (without free origs) (list_frames_for (length origs)) 0
bounce_at origs free list_frames bounce list_is lt at =
    same_Some bounce (get_or (without free origs) (list_frames_for (length origs)) 0)
    (sym at ∙ ap (slice_get (without free origs)) list_is ∙ slice_get-get_or (without free origs) (list_frames_for (length origs)) 0 lt)

-- what is skipped leaves one page frame for each original
pub skipped : (zones : List (ℕ × ℕ)) (origs free : List ℕ) (count have list_frames bounce : ℕ) → Suffice zones origs free → count ≡ length origs → have ≡ length free → list_frames ≡ list_frames_for count → slice_get (without free origs) list_frames ≡ Some bounce → have - (count + list_frames + 1) + length origs ≡ length (unreserved origs free bounce)
skipped zones origs free count have list_frames bounce h count_is have_is list_is at =
    let list_frames_are = list_is ∙ ap list_frames_for count_is in
    let bounce_is' = bounce_at origs free list_frames bounce list_frames_are (enough_apart zones origs free h) at in
    let same = ap length (unreserved_are zones origs free bounce h bounce_is') in
    let size = length-rest zones origs free h in
    let enough = h.enough in
    omega arith

planned_are : (zones : List (ℕ × ℕ)) (origs free list : List ℕ) (moves : List Move) (count have list_frames bounce : ℕ) → Suffice zones origs free → count ≡ length origs → have ≡ length free → list_frames ≡ list_frames_for count → slice_get (without free origs) list_frames ≡ Some bounce → list ≡ take list_frames (without free origs) → moves ≡ zip (drop (have - (count + list_frames + 1)) (unreserved origs free bounce)) origs → placed zones moves list bounce ≡ planned zones origs free
unfolding planned
planned_are zones origs free list moves count have list_frames bounce h count_is have_is list_is at list_made moves_made =
    let list_frames_are = list_is ∙ ap list_frames_for count_is in
    let bounce_is' = bounce_at origs free list_frames bounce list_frames_are (enough_apart zones origs free h) at in
    let rest = without free (reserved origs free) in
    let same = unreserved_are zones origs free bounce h bounce_is' in
    let size = length-rest zones origs free h in
    let enough = h.enough in
    let skip : have - (count + list_frames + 1) ≡ length rest - length origs = omega arith in
    let moves_are : moves ≡ zip (waiting origs free) origs =
    moves_made ∙ ap₂ (λ (n : ℕ) (xs : List ℕ). zip (drop n xs) origs) skip same in
    let list_are : list ≡ take (list_frames_for (length origs)) (reserved origs free) =
    list_made ∙ ap (λ (n : ℕ). take n (without free origs)) list_frames_are
    ∙ sym (take-take_more (list_frames_for (length origs)) (without free origs)) in
    ap₂ (λ (ms : List Move) (ls : List ℕ). placed zones ms ls bounce) moves_are list_are
    ∙ ap (placed zones (zip (waiting origs free) origs) (take (list_frames_for (length origs)) (reserved origs free))) (bounce_is' ∙ sym (bounce_is zones origs free h))

-- what the code has made is the plan
pub record IsPlan (zones : List (ℕ × ℕ)) (origs free list : List ℕ) (moves : List Move) (bounce : ℕ) : Type 0 where
  pub is : placed zones moves list bounce ≡ planned zones origs free
  pub placement : IsPlacement (placed zones moves list bounce)
  pub taken : TakesFrom free (placed zones moves list bounce)
  pub targets_are : targets moves ≡ origs

pub is_plan : (zones : List (ℕ × ℕ)) (origs free list : List ℕ) (moves : List Move) (count have list_frames bounce : ℕ) → Suffice zones origs free → count ≡ length origs → have ≡ length free → list_frames ≡ list_frames_for count → slice_get (without free origs) list_frames ≡ Some bounce → list ≡ take list_frames (without free origs) → moves ≡ zip (drop (have - (count + list_frames + 1)) (unreserved origs free bounce)) origs → IsPlan zones origs free list moves bounce
is_plan zones origs free list moves count have list_frames bounce h count_is have_is list_is at list_made moves_made =
    let is = planned_are zones origs free list moves count have list_frames bounce h count_is have_is list_is at list_made moves_made in
    record {
      is = is;
      placement = subst IsPlacement (sym is) (IsPlacement-planned zones origs free h);
      taken = subst (TakesFrom free) (sym is) (TakesFrom-planned zones origs free h);
      targets_are = ap (λ (p : Placed). targets p.moves) is ∙ targets-planned zones origs free h;
    }
