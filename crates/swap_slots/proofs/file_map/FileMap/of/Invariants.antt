use Rattle.std.proofs.Common.{◌≡◌, ℕ, ◌<◌, ◌≤◌, ◌-◌, ◌*◌, ◌++◌, take, replicate}
use Rattle.definitions.specs.Slots.{slots_before}
use Rattle.definitions.specs.FileMaps.{IsInOrder}
use Rattle.swap_slots.proofs.file_map.FileMap.of.Given as goal

-- the extents before this one are in order and kept
abbrev pub invariant-loop-i : goal.invariant-loop-i
invariant-loop-i l = record {
  end : l.end ≡ slots_before l.extents l.i;
  few : l.end ≤ 4294967295 * l.i;
  each : (k : ℕ) → k < l.i → IsInOrder l.extents k;
  kept : l.kept ≡ take l.i l.extents ++ replicate (64 - l.i) (0, 0, 0);
}
