-- How the free slots are kept: a bit for each slot, and for each word of those a bit that is 1 if the word isn't 0.
use Rattle.std.specs.Prelude.{◌≡◌, ◌==◌, ℕ, ◌*◌, ◌/◌, ◌^◌, ◌<◌, ◌≤◌, List, length, filter}
use Rattle.std.specs.List.{range_with_len}
use Rattle.definitions.specs.FreeRuns.{runs_of}
use Rattle.swap_slots.specs.Bits.{bit_of, IsClearWord}
use Rattle.swap_slots.specs.Runs.{SlotRuns}
use Rattle.swap_slots.specs.declared.runs.FreeRuns.TheInside.{Inside}

-- the slots below `room` whose bit is 1
unfoldable pub members_of : ℕ → List ℕ → List ℕ
members_of room bits = filter (λ s. bit_of bits s == 1) (range_with_len 0 room)

abbrev pub kept_slots : Inside → List ℕ
kept_slots r = members_of r.room r.bits.items

abbrev pub kept_runs : Inside → SlotRuns
kept_runs r = record { room = r.room; runs = runs_of (kept_slots r) }

-- There is a bit for each slot, and any others are 0. The summary has a bit for each word, which is 0 if and only if
-- the word is 0. The count is the number of free slots.
pub record AreKept (room count : ℕ) (bits summary : List ℕ) : Type 0 where
  pub size : room < 2 ^ 32
  pub slots : room ≤ 64 * length bits
  pub words : length bits ≤ 64 * length summary
  pub few : length summary < 2 ^ 32
  pub past : (s : ℕ) → bit_of bits s ≡ 1 → s < room
  pub none : (s : ℕ) → bit_of summary (s / 64) ≡ 0 → bit_of bits s ≡ 0
  pub some : (w : ℕ) → IsClearWord bits w → bit_of summary w ≡ 0
  pub counted : count ≡ length (members_of room bits)

abbrev pub IsKept : Inside → Type 0
IsKept r = AreKept r.room r.count r.bits.items r.summary.items
