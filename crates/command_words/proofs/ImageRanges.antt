-- How many values an argument takes.
use Rattle.std.proofs.Common.{◌≡◌, ℕ, Option, Some, None, ap}
use Rattle.std.specs.Prelude.{IsSomeAnd}
use Rattle.clap.specs.declared.builder.range.ValueRange.{ValueRange}

pub ranged : (range : Option ValueRange) (n : ℕ) → IsSomeAnd range (λ (r : ValueRange). r ≡ record { start_inclusive = n; end_inclusive = n }) →
    range ≡ Some (record { start_inclusive = n; end_inclusive = n })
ranged None n never = absurd never
ranged (Some r) n e = ap (λ (x : ValueRange). Some x) e
