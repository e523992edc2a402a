-- [drop]: which page frames are dropped if an image is to be small. It is this project's own policy; in Linux
-- shrink_all_memory (mm/vmscan.c) frees what an image of image_size bytes has no room for
-- (hibernate_preallocate_memory, kernel/power/snapshot.c).
use Rattle.std.specs.Prelude.{ℕ, ◌+◌, ◌-◌, ◌==◌, ◌&&◌, Bool, not, nat_le, nat_lt, List, length, filter, take}
use Rattle.std.specs.List.{list_any}
use Rattle.definitions.specs.Tables.{saveable_frames}
use Rattle.definitions.specs.Tables.{entry_at, page_flags}
use Rattle.definitions.specs.Zones.{numbers}

-- page frame p lies in one of the runs, which are pairs (first, count)
abbrev pub is_in_runs : List (ℕ × ℕ) → ℕ → Bool
is_in_runs runs p = list_any (λ run. nat_le run.0 p && nat_lt p (run.0 + run.1)) runs

-- page frame p holds what can be read again: its only flag is CACHE (64), whoever owns it, and it isn't one of those
-- that are kept
abbrev pub may_drop : List (ℕ × ℕ) → ℕ → List (List ℕ) → ℕ → Bool
may_drop keep table frames p = (page_flags (entry_at frames table p) == 64) && not (is_in_runs keep p)

-- C: the page frames that may be dropped, ascending
abbrev pub droppable_frames : List (ℕ × ℕ) → ℕ → List (ℕ × ℕ) → List (List ℕ) → List ℕ
droppable_frames zones table keep frames = filter (may_drop keep table frames) (numbers zones)

-- the first of the droppable page frames: as many as there are saveable page frames in excess of those wanted
abbrev pub dropped_frames : List (ℕ × ℕ) → ℕ → List (ℕ × ℕ) → ℕ → List (List ℕ) → List ℕ
dropped_frames zones table keep want frames =
    take (length (saveable_frames zones table frames) - want) (droppable_frames zones table keep frames)
