-- The page frames of tables and regions as runs, each the first and how many they are.
use Rattle.std.proofs.Common.{◌≡◌, ℕ, ◌+◌, ◌-◌, ◌<◌, ◌≤◌, max, true, List, length, take, sym, subst, inl, inr, ⊎_elim, arith}
use Rattle.std.proofs.lemmas.Bool.{cases_lt}
use Rattle.std.proofs.lemmas.List.{get_or-take, length-take-le}
use Rattle.std.specs.List.{Contains}
use Rattle.definitions.specs.Zones.{numbers, top}
use Rattle.definitions.specs.ZoneFacts.{AreZones}
use Rattle.definitions.proofs.ZoneNumbers.{Contains-range, range-bounds}
use Rattle.plain_machine.specs.Machine.{Hardware, IsOfTable, IsRegion, IsTableFrame, table_len}
use Rattle.machine.specs.HardFault.{has_slots, region_at}
use Rattle.machine.specs.Runs.{LieApart, frames_of}
use Rattle.machine.proofs.PartTests.{HasFlags, HasTables, IsBehind, decides_slots, some_frames}

-- each page frame of a run is valid
abbrev pub HasRun : List (ℕ × ℕ) → ℕ × ℕ → Type 0
HasRun zones run = (p : ℕ) → run.0 ≤ p → p < run.0 + run.1 → Contains (numbers zones) p

-- two runs that have page frames, and share none
apart_from : (a b : ℕ × ℕ) → 0 < a.1 → 0 < b.1 → ((p : ℕ) → a.0 ≤ p → p < a.0 + a.1 → b.0 ≤ p → p < b.0 + b.1 → ⊥) → LieApart a b
apart_from a b some some' shared = elim (cases_lt b.0 (a.0 + a.1)) [
  | inr le ↦ inl le
  | inl lt ↦ elim (cases_lt a.0 (b.0 + b.1)) [
    | inr le ↦ inr le
    | inl lt' ↦ absurd (shared (max a.0 b.0) (omega arith) (omega arith) (omega arith) (omega arith))
  ]
]

none_shared : (a b : ℕ × ℕ) (p : ℕ) → LieApart a b → a.0 ≤ p → p < a.0 + a.1 → b.0 ≤ p → p < b.0 + b.1 → ⊥
none_shared a b p (inl le) from below from' below' = omega arith
none_shared a b p (inr le) from below from' below' = omega arith

-- the runs of the two tables
pub record AreTableRuns (h : Hardware) (a b : ℕ × ℕ) : Type 0 where
  pub frames : a.0 ≡ h.frame_table
  pub frames_len : a.1 ≡ table_len (top h.zones)
  pub slots : b.0 ≡ h.slot_table
  pub slots_len : b.1 ≡ table_len h.slots
  pub some_frames : 1 ≤ top h.zones
  pub some_slots : 1 ≤ h.slots

pub table_runs : (h : Hardware) (a b : ℕ × ℕ) → a.0 ≡ h.frame_table → a.1 ≡ table_len (top h.zones) → b.0 ≡ h.slot_table → b.1 ≡ table_len h.slots → AreZones h.zones → has_slots h ≡ true → AreTableRuns h a b
table_runs h a b first len second len' zones slots = record {
  frames = first;
  frames_len = len;
  slots = second;
  slots_len = len';
  some_frames = some_frames h zones;
  some_slots = let few = (decides_slots h).0 slots in let some = few.0 in omega arith;
}

pub tables-runs : (h : Hardware) (a b : ℕ × ℕ) → AreTableRuns h a b → HasRun h.zones a → HasRun h.zones b → LieApart a b → HasTables h
tables-runs h a b runs one other apart =
    let first = runs.frames in
    let len = runs.frames_len in
    let second = runs.slots in
    let len' = runs.slots_len in
    record {
      frame_table = λ i lt. one (h.frame_table + i) (omega arith) (omega arith);
      slot_table = λ i lt. other (h.slot_table + i) (omega arith) (omega arith);
      apart = elim apart [ inl le ↦ inl (omega arith) | inr le ↦ inr (omega arith) ];
    }

pub runs-tables : (h : Hardware) (a b : ℕ × ℕ) → AreTableRuns h a b → HasTables h → HasRun h.zones a × HasRun h.zones b × LieApart a b
runs-tables h a b runs has =
    let first = runs.frames in
    let len = runs.frames_len in
    let second = runs.slots in
    let len' = runs.slots_len in (
      λ p from below. let at : h.frame_table + (p - h.frame_table) ≡ p = omega arith in subst (Contains (numbers h.zones)) at (has.frame_table (p - h.frame_table) (omega arith)),
      λ p from below. let at : h.slot_table + (p - h.slot_table) ≡ p = omega arith in subst (Contains (numbers h.zones)) at (has.slot_table (p - h.slot_table) (omega arith)),
      elim has.apart [ inl le ↦ inl (omega arith) | inr le ↦ inr (omega arith) ],
    )

-- a run whose page frames are valid and of no table
abbrev pub HasFrames : Hardware → ℕ × ℕ → Type 0
HasFrames h run = (p : ℕ) → run.0 ≤ p → p < run.0 + run.1 → Contains (numbers h.zones) p × (IsTableFrame h p → ⊥)

pub frames-runs : (h : Hardware) (a b run : ℕ × ℕ) → AreTableRuns h a b → HasRun h.zones run → LieApart run a → LieApart run b → HasFrames h run
frames-runs h a b run runs has one other p from below =
    let first = runs.frames in
    let len = runs.frames_len in
    let second = runs.slots in
    let len' = runs.slots_len in (
      has p from below,
      λ table. ⊎_elim
          (λ (t : IsOfTable h.frame_table (top h.zones) p). let low = t.from in let high = t.below in none_shared run a p one from below (omega arith) (omega arith))
          (λ (t : IsOfTable h.slot_table h.slots p). let low = t.from in let high = t.below in none_shared run b p other from below (omega arith) (omega arith))
          table,
    )

pub has_run-frames : (h : Hardware) (run : ℕ × ℕ) → HasFrames h run → HasRun h.zones run
has_run-frames h run all p from below = (all p from below).0

pub runs-frames : (h : Hardware) (a b run : ℕ × ℕ) → AreTableRuns h a b → 0 < run.1 → HasFrames h run → LieApart run a × LieApart run b
runs-frames h a b run runs some all =
    let first = runs.frames in
    let len = runs.frames_len in
    let second = runs.slots in
    let len' = runs.slots_len in
    let some_frames = runs.some_frames in
    let some_slots = runs.some_slots in (
      apart_from run a some (omega arith) (λ p from below low high. (all p from below).1 (inl (record { from = omega arith; below = omega arith }))),
      apart_from run b some (omega arith) (λ p from below low high. (all p from below).1 (inr (record { from = omega arith; below = omega arith }))),
    )

-- such a run with flags is a region
pub region-frames : (h : Hardware) (r : ℕ × ℕ × ℕ) → HasFlags r → HasFrames h (frames_of r) → IsRegion h r
region-frames h r is all = record {
  some = let some = is.some in omega arith;
  few_flags = let few = is.few in omega arith;
  even = is.even;
  valid = λ p of. (all p of.from of.below).0;
  of_no_table = λ p of. (all p of.from of.below).1;
}

pub frames-region : (h : Hardware) (r : ℕ × ℕ × ℕ) → IsRegion h r → HasFrames h (frames_of r)
frames-region h r is p from below = (is.valid p (record { from = from; below = below }), is.of_no_table p (record { from = from; below = below }))

-- a region after those before it
abbrev pub LiesApart : List (ℕ × ℕ × ℕ) → ℕ × ℕ × ℕ → Type 0
LiesApart before r = (j : ℕ) → j < length before → LieApart (frames_of (region_at before j)) (frames_of r)

pub behind-apart : (regions : List (ℕ × ℕ × ℕ)) (k : ℕ) → k < length regions → LiesApart (take k regions) (region_at regions k) → IsBehind regions k
behind-apart regions k within apart j lt shared =
    let r = region_at regions k in
    let size = length-take-le k regions (omega arith) in
    let one = subst (λ (s : ℕ × ℕ × ℕ). LieApart (frames_of s) (frames_of r)) (get_or-take k regions j (0, 0, 0) lt) (apart j (omega arith)) in
    let bounds = range-bounds r.0 r.1 shared.0 shared.1 in
    none_shared (frames_of (region_at regions j)) (frames_of r) shared.0 one shared.2.from shared.2.below bounds.0 bounds.1

pub apart-behind : (regions : List (ℕ × ℕ × ℕ)) (k : ℕ) → k < length regions → ((j : ℕ) → j < k → 1 ≤ (region_at regions j).1) → 1 ≤ (region_at regions k).1 → IsBehind regions k → LiesApart (take k regions) (region_at regions k)
apart-behind regions k within each some behind j lt =
    let r = region_at regions k in
    let size = length-take-le k regions (omega arith) in
    let low : j < k = omega arith in
    let before = each j low in
    subst (λ (s : ℕ × ℕ × ℕ). LieApart (frames_of s) (frames_of r)) (sym (get_or-take k regions j (0, 0, 0) low))
    (apart_from (frames_of (region_at regions j)) (frames_of r) (omega arith) (omega arith)
    (λ p from below from' below'. behind j low (p, Contains-range r.0 r.1 p from' below', record { from = from; below = below })))
