-- How a restore list is kept: its list frames, and how many entries it has.
use Rattle.std.specs.Prelude.{◌≤◌, ◌*◌, length}
use Rattle.placement.specs.Listed.{Listed}
use Rattle.placement.specs.declared.list.RestoreList.TheInside.{Inside}

abbrev pub kept_list : Inside → Listed
kept_list l = record { frames = l.frames.now; len = l.len }

-- the list frames are distinct page frames, at most 65,536, and the entries fit into them
pub record IsKept (l : Inside) : Type 0 where
  pub few : length l.frames.now ≤ 65536
  pub room : l.len ≤ 170 * length l.frames.now
