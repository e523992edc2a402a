-- Where the tables lie by default.
use Rattle.std.proofs.Common.{◌≡◌, ℕ, ◌+◌, ◌/◌, ◌%◌, ◌≤◌, min, List, [], ◌∷◌, ◌++◌, length, get_or, All, zero, suc, refl, sym, ap, ap₂, ◌∙◌, arith}
use Rattle.std.specs.Prelude.{unwrap_or, nat_le, true}
use Rattle.std.proofs.lemmas.Bool.Decides.{nat_tests}
use Rattle.std.specs.List.{range_with_len}
use Rattle.definitions.specs.Zones.{numbers, first_from, top}
use Rattle.plain_machine.specs.Machine.{table_len}
use Rattle.script.specs.Settings.{lowest_frame, tables_in}
use Rattle.script.specs.Items.{IsZoneLine}

-- the lowest page frame is the first zone's first
lowest_frame-lines : (zones : List (ℕ × ℕ)) → 1 ≤ length zones → All IsZoneLine zones → lowest_frame zones ≡ (get_or zones 0 (0, 0)).0
lowest_frame-lines [] some lines = absurd (omega arith)
lowest_frame-lines (zone ∷ zones) some lines = by zone.1 (lines 0 (0, 0) (omega arith)).1 where
  by : (n : ℕ) → 1 ≤ n → unwrap_or (first_from (range_with_len zone.0 n ++ numbers zones) 0) 0 ≡ zone.0
  by zero h = absurd (omega arith)
  by (suc n) h = let low : nat_le 0 zone.0 ≡ true = grind (arith, nat_tests) in rw low refl

div_up : (n : ℕ) → n / 1024 + min 1 (n % 1024) ≡ (n + 1023) / 1024
div_up n = omega arith

pub tables_in-lines : (zones : List (ℕ × ℕ)) (n len : ℕ) → 1 ≤ length zones → All IsZoneLine zones → n ≡ top zones → len ≡ n / 1024 + min 1 (n % 1024) → ◌≡◌ {A = ℕ × ℕ} ((get_or zones 0 (0, 0)).0, (get_or zones 0 (0, 0)).0 + len) (tables_in zones)
tables_in-lines zones n len some lines is rounded =
    let low = lowest_frame-lines zones some lines in
    let entries : len ≡ table_len (top zones) = rounded ∙ div_up n ∙ ap table_len is in
    let pair : ℕ → ℕ → ℕ × ℕ = λ a b. (a, a + b) in
    ap₂ pair (sym low) entries
