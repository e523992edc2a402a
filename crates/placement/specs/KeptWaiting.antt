-- How waiting pages are kept: two sets and a placement over the same zones. Once planned, the placement moves pages to
-- the originals with data, from page frames that are free to the loader.
use Rattle.std.specs.Prelude.{◌≡◌, ◌≤◌, true, length}
use Rattle.definitions.specs.Zones.{top}
use Rattle.placement.specs.Placed.{targets, IsPlacement, TakesFrom}
use Rattle.placement.specs.Waiting.{Awaiting}
use Rattle.placement.specs.declared.waiting.Waiting.TheInside.{Inside}

abbrev pub kept_waiting : Inside → Awaiting
kept_waiting w =
    record {
      zones = w.free.zones;
      free = w.free.members;
      originals = w.origs.members;
      placement = record w.placement { ready = w.ready };
      loaded = w.loaded;
    }

pub record IsPlanned (w : Inside) : Type 0 where
  pub ready : w.placement.ready ≡ true
  pub placement : IsPlacement w.placement
  pub targets : targets w.placement.moves ≡ w.origs.members
  pub taken : TakesFrom w.free.members w.placement
  pub loaded : w.loaded ≤ length w.origs.members

pub record IsKept (w : Inside) : Type 0 where
  pub of_origs : w.origs.zones ≡ w.free.zones
  pub of_placement : w.placement.zones ≡ w.free.zones
  pub work : top w.free.zones ≤ w.work
  pub planned : w.ready ≡ true → IsPlanned w
