-- The parts of a machine as they are kept.
use Rattle.std.proofs.Common.{◌≡◌, ℕ, ◌≤◌, List, ◌++◌, length, drop, replicate, ap, ◌∙◌, arith}
use Rattle.std.proofs.lemmas.List.{drop_at, drop-replicate, length-append, length-take-le}
use Rattle.definitions.specs.declared.info.Ident.{Ident}
use Rattle.plain_machine.specs.Machine.{Hardware}
use Rattle.machine.specs.KeptRegions.{AreKeptRegions}

-- regions copied to the front of an array of zeros
pub kept_regions_of : (regions new : List (ℕ × ℕ × ℕ)) → length regions ≤ 64 → new ≡ regions → AreKeptRegions (record { regions = new ++ drop (length regions) (replicate 64 (0, 0, 0)); len = length regions })
kept_regions_of regions new few e =
    let zeros = drop (length regions) (replicate {A = ℕ × ℕ × ℕ} 64 (0, 0, 0)) in
    let size : length new ≡ length regions = ap length e in
    let whole = length-append new zeros in
    record {
      few = few;
      whole = length-take-le (length regions) (new ++ zeros) (omega arith);
      rest = drop_at new zeros (length regions) size ∙ drop-replicate (length regions) 64 (0, 0, 0);
    }

-- a hardware with parts that equal its own
pub same_parts : (h : Hardware) (zones : List (ℕ × ℕ)) (regions : List (ℕ × ℕ × ℕ)) (ident : Ident) (extents : List (ℕ × ℕ × ℕ)) →
    zones ≡ h.zones → regions ≡ h.regions → ident ≡ h.ident → extents ≡ h.extents →
    record h { zones = zones; regions = regions; ident = ident; extents = extents } ≡ h
same_parts h zones regions ident extents z r i e =
    let with_parts : List (ℕ × ℕ) → List (ℕ × ℕ × ℕ) → Ident → List (ℕ × ℕ × ℕ) → Hardware =
    λ zs rs d es. record h { zones = zs; regions = rs; ident = d; extents = es } in
    ap (λ zs. with_parts zs regions ident extents) z ∙ ap (λ rs. with_parts h.zones rs ident extents) r
    ∙ ap (λ d. with_parts h.zones h.regions d extents) i ∙ ap (λ es. with_parts h.zones h.regions h.ident es) e
