-- Which of the page frames that are free to the loader a plan takes. Sets of page frames are ascending lists.
use Rattle.std.specs.Prelude.{ℕ, ◌+◌, ◌-◌, ◌/◌, ◌==◌, List, length, take, drop, filter, not, slice_index}
use Rattle.std.specs.List.{list_any, zip}
use Rattle.placement.specs.Placed.{Placed, placed}

-- the list frames for n moves: one for every 85
abbrev pub list_frames_for : ℕ → ℕ
list_frames_for n = (n + 84) / 85

-- the free page frames for n moves: one for each page, the list frames and the bounce frame
abbrev pub need_for : ℕ → ℕ
need_for n = n + list_frames_for n + 1

-- the page frames of a set that aren't in the other set
unfoldable pub without : List ℕ → List ℕ → List ℕ
without set others = filter (λ p. not (list_any (λ q. p == q) others)) set

-- the list frames and the bounce frame: the lowest free page frames that aren't originals
abbrev pub reserved : List ℕ → List ℕ → List ℕ
reserved origs free = take (list_frames_for (length origs) + 1) (without free origs)

-- the page frames in which the pages wait: the highest of the other free ones, as many as there are originals
abbrev pub waiting : List ℕ → List ℕ → List ℕ
waiting origs free =
    let rest = without free (reserved origs free) in
    drop (length rest - length origs) rest

-- The k-th page waits in the k-th of these page frames and goes to the k-th original. The bounce frame is the highest
-- reserved one; the others are list frames.
unfoldable pub planned : List (ℕ × ℕ) → List ℕ → List ℕ → Placed
planned zones origs free =
    let count = list_frames_for (length origs) in
    let kept = reserved origs free in
    placed zones (zip (waiting origs free) origs) (take count kept) (slice_index kept count)
