-- What is kept once a plan was made.
use Rattle.std.proofs.Common.{◌≡◌, refl, ℕ, ◌<◌, ◌≤◌, List, true, length, get_or, Some, sym, ap, ◌∙◌, subst, arith}
use Rattle.std.proofs.lemmas.List.{length-map}
use Rattle.std.proofs.lemmas.Option.{same_Some, slice_get-get_or}
use Rattle.std.specs.List.{Contains, slice_get}
use Rattle.definitions.specs.Moves.{Move}
use Rattle.definitions.specs.Zones.{top}
use Rattle.definitions.proofs.ZoneNumbers.{below_top}
use Rattle.placement.specs.Placed.{Placed, IsPlacement, TakesFrom, sources}
use Rattle.placement.specs.KeptWaiting.{IsKept, IsPlanned, kept_waiting}
use Rattle.placement.specs.Waiting.{Awaiting, WaitsNext}
use Rattle.placement.specs.declared.waiting.Waiting.TheInside.{Inside}
use Rattle.placement.proofs.Finishing.{AllWait}
use Rattle.placement.proofs.Placing.{pages_before, one_more_waits}

pub planned_of : (w : Inside) (now : Awaiting) → kept_waiting w ≡ now → IsKept w → now.placement.ready ≡ true → IsPlanned w
planned_of w now view kept ready = kept.planned (ap (λ (t : Awaiting). t.placement.ready) view ∙ ready)

pub placement_fits : (w : Inside) (now : Awaiting) (size : ℕ) → kept_waiting w ≡ now → IsKept w → top now.zones ≤ size → top w.placement.zones ≤ size
placement_fits w now size view kept fits =
    let zones = kept.of_placement ∙ ap (λ (t : Awaiting). t.zones) view in
    subst (λ (zs : List (ℕ × ℕ)). top zs ≤ size) (sym zones) fits

sources_left : (w : Inside) → IsPlanned w → w.loaded < length w.origs.members → w.loaded < length (sources w.placement.moves)
sources_left w planned left =
    let moves = w.placement.moves in
    let same = ap length planned.targets in
    let of_sources = length-map moves (λ (m : Move). m.0) in
    let of_targets = length-map moves (λ (m : Move). m.1) in
    omega arith

-- where the next page waits
pub waits_next : (w : Inside) (now : Awaiting) (p : ℕ) → kept_waiting w ≡ now → IsKept w → now.placement.ready ≡ true → w.loaded < length w.origs.members → slice_get (sources w.placement.moves) w.loaded ≡ Some p → WaitsNext now p
waits_next w now p view kept ready left found =
    let planned = planned_of w now view kept ready in
    let placement = planned.placement in
    let places = sources w.placement.moves in
    let within = sources_left w planned left in
    let is : p ≡ get_or places w.loaded 0 = same_Some _ _ (sym found ∙ slice_get-get_or places w.loaded 0 within) in
    let below : (frames : List (List ℕ)) → top w.free.zones ≤ length frames → p < length frames = λ frames fits.
    (let low = below_top w.placement.zones (get_or places w.loaded 0) placement.zones.apart (placement.sources_valid w.loaded 0 within) in
    let high = placement_fits w (kept_waiting w) (length frames) refl kept fits in
    omega arith) in
    subst (λ (t : Awaiting). WaitsNext t p) view
    (record {
      free = subst (λ (r : ℕ). Contains w.free.members r) (sym is) (planned.taken.sources_in w.loaded 0 within);
      within = below;
      before = λ frames page. pages_before places w.loaded p frames page placement.sources_distinct within is;
      after = λ frames page fits. one_more_waits places w.loaded p frames page placement.sources_distinct within is (below frames fits);
    })

-- the placement as it is seen
as_seen : (w : Inside) → IsPlanned w → w.ready ≡ true → w.placement ≡ record w.placement { ready = w.ready }
as_seen w planned ready = ap (λ r. record w.placement { ready = r }) (planned.ready ∙ sym ready)

pub all_wait : (w : Inside) (now : Awaiting) → kept_waiting w ≡ now → IsKept w → now.placement.ready ≡ true → now.loaded ≡ length now.originals → AllWait (kept_waiting w)
all_wait w now view kept ready loaded =
    let planned = planned_of w now view kept ready in
    let same = as_seen w planned (ap (λ (t : Awaiting). t.placement.ready) view ∙ ready) in
    record {
      placement = subst IsPlacement same planned.placement;
      targets = planned.targets;
      taken = subst (λ (p : Placed). TakesFrom w.free.members p) same planned.taken;
      loaded = subst (λ (t : Awaiting). t.loaded ≡ length t.originals) (sym view) loaded;
    }
