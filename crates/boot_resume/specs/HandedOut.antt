-- The pages that a resume's calls hand out.
use Rattle.std.specs.Prelude.{◌≡◌, ℕ, List, [], ◌∷◌, ◌++◌, Bool, true, false, ◌||◌, map, Option, Some, None}
use Rattle.std.specs.List.{range_with_len}
use Rattle.definitions.specs.Disk.{DiskImage}
use Rattle.boot_resume.specs.OnDisk.{number_in, saved_in, saved_page}
use Rattle.boot_resume.specs.Calls.{Turn}
use Rattle.boot_resume.specs.declared.call.Call.{Call}
use Rattle.boot_resume.specs.declared.call.Call.TheVariants.{Sync, Read, Write, Page, Done, Refused, Failed}
use Rattle.boot_resume.specs.declared.machine.Machine.{Machine}

-- a page frame and its page
abbrev pub Placed : Type 0
Placed = ℕ × List ℕ

abbrev pub placed_by : Call → Option (List ℕ) → List Placed
placed_by (Page p) (Some page) = (p, page) ∷ []
placed_by (Page p) None = []
placed_by Sync page = []
placed_by (Read b) page = []
placed_by (Write b) page = []
placed_by (Done n) page = []
placed_by (Refused why) page = []
placed_by (Failed call left) page = []

abbrev pub placed : List Turn → List Placed
placed [] = []
placed (turn ∷ rest) = placed_by turn.call turn.page ++ placed rest

-- all page frames that were saved, in order, each with its page
abbrev pub saved_frames : Machine → DiskImage → List Placed
saved_frames m v = map (λ i. (number_in m v i, saved_page m v i)) (range_with_len 0 (saved_in m v))

abbrev pub is_done : Call → Bool
is_done (Done n) = true
is_done Sync = false
is_done (Read b) = false
is_done (Write b) = false
is_done (Page p) = false
is_done (Refused why) = false
is_done (Failed call left) = false

abbrev pub has_done : List Turn → Bool
has_done [] = false
has_done (turn ∷ rest) = is_done turn.call || has_done rest

-- these turns hand out the first of the page frames, and all of them if they end in Done
pub record Places (turns : List Turn) (frames : List Placed) : Type 0 where
  pub rest : List Placed
  pub front : frames ≡ placed turns ++ rest
  pub all : has_done turns ≡ true → placed turns ≡ frames
