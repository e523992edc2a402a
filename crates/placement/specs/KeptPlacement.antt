-- How a placement is kept: in vectors with room for every plan over its zones.
use Rattle.std.specs.Prelude.{◌≡◌, ◌≤◌, true, length, vec_capacity}
use Rattle.definitions.specs.Zones.{numbers}
use Rattle.definitions.specs.ZoneFacts.{AreZones}
use Rattle.placement.specs.Placed.{Placed, IsPlacement}
use Rattle.placement.specs.Plan.{list_frames_for}
use Rattle.placement.specs.declared.planning.Placement.TheInside.{Inside}

abbrev pub kept_placement : Inside → Placed
kept_placement p =
    record { zones = p.zones; ready = p.ready; moves = p.moves.items; list = p.list.items; bounce = p.bounce }

pub record IsKept (p : Inside) : Type 0 where
  pub zones : AreZones p.zones
  pub moves_room : length (numbers p.zones) ≤ vec_capacity p.moves
  pub list_room : list_frames_for (length (numbers p.zones)) ≤ vec_capacity p.list
  pub placed : p.ready ≡ true → IsPlacement (kept_placement p)
