-- Extents of a file map.
use Rattle.std.specs.Prelude.{◌≡◌, ◌≤◌, ℕ, ◌+◌}

-- an extent that begins at slot `end`, has a slot, ends at a block that a 32-bit number can name, and has block 0 only
-- for slot 0
pub record Follows (end : ℕ) (e : ℕ × ℕ × ℕ) : Type 0 where
  pub start : e.0 ≡ end
  pub some : 1 ≤ e.1
  pub fits : e.2 + e.1 ≤ 4294967295
  pub header : e.2 ≡ 0 → e.0 ≡ 0
