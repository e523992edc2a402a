use Rattle.std.proofs.Common.{◌≡◌, ◌+◌, ℕ, List, length, take, Contains}
use Rattle.definitions.specs.Moves.{Entry}
use Rattle.definitions.specs.Tables.{frame}
use Rattle.placement.specs.Listed.{LiesIn}
use Rattle.placement.specs.Performing.{performed}
use Rattle.placement.specs.Relocation.{steps_of, IsReady}
use Rattle.placement.proofs.relocation.execute.Given as goal

-- the first j entries are performed, and the list is as it was
abbrev pub invariant-loop-j : goal.invariant-loop-j
invariant-loop-j g l = record {
  ready : IsReady l.frames l.list;
  lies : (entries : List Entry) → LiesIn l.fn.frames l.list entries → LiesIn l.frames l.list entries;
  performed : (entries : List Entry) → LiesIn l.fn.frames l.list entries → l.frames ≡ performed l.fn.frames (take l.j entries);
  steps : (entries : List Entry) → LiesIn l.fn.frames l.list entries → l.steps ≡ l.fn.steps + steps_of (take l.j entries);
  list : (p : ℕ) → Contains l.list.frames p → frame l.frames p ≡ frame l.fn.frames p;
  size : length l.frames ≡ length l.fn.frames;
}
