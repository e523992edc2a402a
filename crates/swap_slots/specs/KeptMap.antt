-- How a file map is kept: in a fixed array of extents, with (0, 0, 0) past the last one.
use Rattle.std.specs.Prelude.{◌≡◌, ℕ, ◌-◌, ◌^◌, ◌<◌, List, ◌++◌, length, take, drop, replicate}
use Rattle.std.proofs.Common.{sym, ap, ap₂, ◌∙◌}
use Rattle.std.proofs.lemmas.List.{take-append-drop}
use Rattle.definitions.specs.Slots.{slots_of}
use Rattle.definitions.specs.FileMaps.{IsFileMap}
use Rattle.swap_slots.specs.declared.file_map.FileMap.TheInside.{Inside}

-- the extents that `of` was given
abbrev pub kept_extents : Inside → List (ℕ × ℕ × ℕ)
kept_extents m = take m.len m.extents

-- the extents are in order, with only zeros past the last one
pub record IsKeptMap (m : Inside) : Type 0 where
  pub map : IsFileMap (kept_extents m) (slots_of (kept_extents m))
  pub few : slots_of (kept_extents m) < 2 ^ 32
  pub whole : length (kept_extents m) ≡ m.len
  pub rest : drop m.len m.extents ≡ replicate (64 - m.len) (0, 0, 0)

-- the fields that keep these extents
abbrev pub kept_as : List (ℕ × ℕ × ℕ) → Inside
kept_as extents = record { extents = extents ++ replicate (64 - length extents) (0, 0, 0); len = length extents }

pub kept_as-kept_extents : (m : Inside) → IsKeptMap m → kept_as (kept_extents m) ≡ m
kept_as-kept_extents m h =
    let fields : List (ℕ × ℕ × ℕ) → ℕ → Inside = λ extents len. record { extents = extents; len = len } in
    let rest : kept_extents m ++ replicate (64 - length (kept_extents m)) (0, 0, 0) ≡ m.extents =
    ap (λ n. kept_extents m ++ replicate (64 - n) (0, 0, 0)) h.whole
    ∙ ap (λ t. kept_extents m ++ t) (sym h.rest)
    ∙ take-append-drop m.len m.extents in
    ap₂ fields rest h.whole
