-- How far the number pages of an image have been read.
use Rattle.std.specs.Prelude.{◌≤◌, ℕ, List, Option, Some, None, Contains}
use Rattle.page_core.specs.declared.format.Format.{Format}

-- how many numbers the image has, its format, how many were read, and the last of those
pub record Unpacked : Type 0 where
  pub n : ℕ
  pub format : Format
  pub read : ℕ
  pub last : Option ℕ

-- no member is above the last number that was read
abbrev pub IsUpTo : Option ℕ → List ℕ → Type 0
IsUpTo None members = (p : ℕ) → Contains members p → ⊥
IsUpTo (Some last) members = (p : ℕ) → Contains members p → p ≤ last
