-- How the zones are kept: in a fixed array of pairs, with (0, 0) past the last zone.
use Rattle.std.specs.Prelude.{◌≡◌, ℕ, ◌-◌, List, ◌++◌, length, take, drop, replicate}
use Rattle.std.proofs.Common.{sym, ap, ap₂, ◌∙◌}
use Rattle.std.proofs.lemmas.List.{take-append-drop}
use Rattle.definitions.specs.ZoneFacts.{AreZones}
use Rattle.frame_sets.specs.declared.zones.Zones.TheInside.{Inside}

-- the zones that `of` was given
abbrev pub kept_zones : Inside → List (ℕ × ℕ)
kept_zones z = take z.len z.pairs

-- the zones are well formed, with only pairs of zeros past the last one
pub record IsKept (z : Inside) : Type 0 where
  pub zones : AreZones (kept_zones z)
  pub whole : length (kept_zones z) ≡ z.len
  pub rest : drop z.len z.pairs ≡ replicate (16 - z.len) (0, 0)

-- the fields that keep these zones
abbrev pub kept_as : List (ℕ × ℕ) → Inside
kept_as zones = record { pairs = zones ++ replicate (16 - length zones) (0, 0); len = length zones }

pub kept_as-kept_zones : (z : Inside) → IsKept z → kept_as (kept_zones z) ≡ z
kept_as-kept_zones z h =
    let fields : List (ℕ × ℕ) → ℕ → Inside = λ pairs len. record { pairs = pairs; len = len } in
    let rest : kept_zones z ++ replicate (16 - length (kept_zones z)) (0, 0) ≡ z.pairs =
    ap (λ n. kept_zones z ++ replicate (16 - n) (0, 0)) h.whole
    ∙ ap (λ t. kept_zones z ++ t) (sym h.rest)
    ∙ take-append-drop z.len z.pairs in
    ap₂ fields rest h.whole
