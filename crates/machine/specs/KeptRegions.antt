-- How a machine keeps its regions: in a fixed array, with (0, 0, 0) past the last one.
use Rattle.std.specs.Prelude.{◌≡◌, ◌≤◌, ℕ, ◌-◌, List, ◌++◌, length, take, drop, replicate}
use Rattle.std.proofs.Common.{sym, ap, ap₂, ◌∙◌}
use Rattle.std.proofs.lemmas.List.{take-append-drop}
use Rattle.machine.specs.declared.regions.Regions.TheInside.{Inside}

-- the regions that `of` was given
abbrev pub kept_regions : Inside → List (ℕ × ℕ × ℕ)
kept_regions r = take r.len r.regions

-- the array has room for the regions, and only zeros past the last one
pub record AreKeptRegions (r : Inside) : Type 0 where
  pub few : r.len ≤ 64
  pub whole : length (kept_regions r) ≡ r.len
  pub rest : drop r.len r.regions ≡ replicate (64 - r.len) (0, 0, 0)

-- the fields that keep these regions
abbrev pub kept_as : List (ℕ × ℕ × ℕ) → Inside
kept_as regions = record { regions = regions ++ replicate (64 - length regions) (0, 0, 0); len = length regions }

pub kept_as-kept_regions : (r : Inside) → AreKeptRegions r → kept_as (kept_regions r) ≡ r
kept_as-kept_regions r h =
    let fields : List (ℕ × ℕ × ℕ) → ℕ → Inside = λ regions len. record { regions = regions; len = len } in
    let rest : kept_regions r ++ replicate (64 - length (kept_regions r)) (0, 0, 0) ≡ r.regions =
    ap (λ n. kept_regions r ++ replicate (64 - n) (0, 0, 0)) h.whole
    ∙ ap (λ t. kept_regions r ++ t) (sym h.rest)
    ∙ take-append-drop r.len r.regions in
    ap₂ fields rest h.whole
