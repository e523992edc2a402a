use Rattle.std.proofs.Common.{◌≡◌, ◌+◌, length}
use Rattle.tests_bytes.proofs.map_pages.the_last_entry_fills_the_map.Given as goal

-- the entries so far
abbrev pub invariant-loop-block : goal.invariant-loop-block
invariant-loop-block g l = length l.writer.entries + 2 ≡ l.block
