use Rattle.std.proofs.Common.{◌≡◌, ◌+◌, ℕ, true, false, Err, take, refl, sym, ap, ◌∙◌}
use Rattle.std.proofs.lemmas.Result.{err_from_is_err_and}
use Rattle.machine.specs.HardFault.{has_tables}
use Rattle.plain_machine.specs.Machine.{Hardware}
use Rattle.dump_file.specs.Fields.{count_byte, hardware}
use Rattle.dump_file.specs.Reading.{IsMade}
use Rattle.dump_file.specs.declared.dump.DumpKind.TheVariants.{Header}
use Rattle.dump_file.proofs.Heads.{front_zone_count, head_count, head_front, head_layout, head_tables, head_zones, made}
use Rattle.dump_file.proofs.Refused.{at_place, goes_on, refuses, stops}
use Rattle.dump_file.proofs.header.read_header.Goals as goal

pub returns-in_err-front-clause-read : goal.returns-in_err-front-clause-read
returns-in_err-front-clause-read g c bytes h =
    let p = err_from_is_err_and c.from_residual.result c.from_residual.ensures.1 in
    stops _ _ _ (c.in_err-front.ensures.read bytes h) (p.1 ∙ ap Err p.2) (λ f e. head_front bytes f e)

pub returns-in_err-zones-clause-read : goal.returns-in_err-zones-clause-read
returns-in_err-zones-clause-read g c bytes h =
    let p = err_from_is_err_and c.from_residual-in_err-zones.result c.from_residual-in_err-zones.ensures.1 in
    let front = (c.in_ok-front.ensures.read bytes h).right refl in
    let is = c.in_ok-front.ensures.front bytes h in
    let n = front_zone_count bytes c.in_ok-front.front is in
    stops _ _ _ (c.in_err-zones.ensures.read bytes front.1 n) (p.1 ∙ ap Err p.2) (λ f e. head_zones bytes f front.0 e)

pub returns-in_err-extents-clause-read : goal.returns-in_err-extents-clause-read
returns-in_err-extents-clause-read g c bytes h =
    let p = err_from_is_err_and c.from_residual-in_err-extents.result c.from_residual-in_err-extents.ensures.1 in
    let front = (c.in_ok-front.ensures.read bytes h).right refl in
    let is = c.in_ok-front.ensures.front bytes h in
    let n = front_zone_count bytes c.in_ok-front.front is in
    let zones = (c.in_ok-zones.ensures.read bytes front.1 n).right refl in
    stops _ _ _ (c.in_err-extents.ensures.read bytes zones.1 is) (p.1 ∙ ap Err p.2) (λ f e. head_layout bytes f front.0 zones.0 e)

pub returns-in_default-clause-read : goal.returns-in_default-clause-read
returns-in_default-clause-read g c bytes h =
    let front = (c.in_ok-front.ensures.read bytes h).right refl in
    let is = c.in_ok-front.ensures.front bytes h in
    let n = front_zone_count bytes c.in_ok-front.front is in
    let zones = (c.in_ok-zones.ensures.read bytes front.1 n).right refl in
    let extents = (c.in_ok-extents.ensures.read bytes zones.1 is).right refl in
    let list = c.in_ok-extents.ensures.extents bytes zones.1 is in
    let e = c.in_ok-extents.extents in
    let hw_is = made bytes c.in_ok-front.front (take c.in_ok-front.front.zone_count c.in_ok-zones.zones) (take e.len e.list) is (c.in_ok-zones.ensures.zones bytes front.1 n) list.0 in
    let wrong : has_tables (hardware bytes) ≡ false = ap (λ (x : Hardware). has_tables x) (sym hw_is) ∙ c.in_default.ensures.none refl in
    refuses bytes _ _ (count_byte bytes) (record { kind = Header; at = 16 }) c.fault.result _ c.fault.ensures
    (head_tables bytes front.0 zones.0 extents.0 wrong) refl extents.1

pub returns-in_err-count-clause-read : goal.returns-in_err-count-clause-read
returns-in_err-count-clause-read g c bytes h =
    let p = err_from_is_err_and c.from_residual-in_err-count.result c.from_residual-in_err-count.ensures.1 in
    let front = (c.in_ok-front.ensures.read bytes h).right refl in
    let is = c.in_ok-front.ensures.front bytes h in
    let n = front_zone_count bytes c.in_ok-front.front is in
    let zones = (c.in_ok-zones.ensures.read bytes front.1 n).right refl in
    let extents = (c.in_ok-extents.ensures.read bytes zones.1 is).right refl in
    let list = c.in_ok-extents.ensures.extents bytes zones.1 is in
    let e = c.in_ok-extents.extents in
    let hw_is = made bytes c.in_ok-front.front (take c.in_ok-front.front.zone_count c.in_ok-zones.zones) (take e.len e.list) is (c.in_ok-zones.ensures.zones bytes front.1 n) list.0 in
    let here = at_place bytes (count_byte bytes) e.end (g.S.Source.remaining c.read_extents.new.source) (sym list.1) extents.1 in
    let fits : has_tables (hardware bytes) ≡ true = ap (λ (x : Hardware). has_tables x) (sym hw_is) ∙ c.in-Some.ensures.fit refl in
    let machine : IsMade bytes c.in-Some.hw e.end = record { hw_is = c.in-Some.ensures.some ∙ hw_is; end_is = list.1 } in
    stops _ _ _ (c.in_err-count.ensures.read bytes here machine) (p.1 ∙ ap Err p.2) (λ f e. head_count bytes front.0 zones.0 extents.0 fits ∙ e)

pub returns-clause-read : goal.returns-clause-read
returns-clause-read g c bytes h =
    let front = (c.in_ok-front.ensures.read bytes h).right refl in
    let is = c.in_ok-front.ensures.front bytes h in
    let n = front_zone_count bytes c.in_ok-front.front is in
    let zones = (c.in_ok-zones.ensures.read bytes front.1 n).right refl in
    let extents = (c.in_ok-extents.ensures.read bytes zones.1 is).right refl in
    let list = c.in_ok-extents.ensures.extents bytes zones.1 is in
    let e = c.in_ok-extents.extents in
    let hw_is = made bytes c.in_ok-front.front (take c.in_ok-front.front.zone_count c.in_ok-zones.zones) (take e.len e.list) is (c.in_ok-zones.ensures.zones bytes front.1 n) list.0 in
    let here = at_place bytes (count_byte bytes) e.end (g.S.Source.remaining c.read_extents.new.source) (sym list.1) extents.1 in
    let fits : has_tables (hardware bytes) ≡ true = ap (λ (x : Hardware). has_tables x) (sym hw_is) ∙ c.in-Some.ensures.fit refl in
    let machine : IsMade bytes c.in-Some.hw e.end = record { hw_is = c.in-Some.ensures.some ∙ hw_is; end_is = list.1 } in
    let count = (c.in_ok-count.ensures.read bytes here machine).right refl in
    goes_on _ _ _ _ _ (head_count bytes front.0 zones.0 extents.0 fits ∙ count.0) count.1

pub returns-clause-header : goal.returns-clause-header
returns-clause-header g c bytes h =
    let front = (c.in_ok-front.ensures.read bytes h).right refl in
    let is = c.in_ok-front.ensures.front bytes h in
    let n = front_zone_count bytes c.in_ok-front.front is in
    let zones = (c.in_ok-zones.ensures.read bytes front.1 n).right refl in
    let extents = (c.in_ok-extents.ensures.read bytes zones.1 is).right refl in
    let list = c.in_ok-extents.ensures.extents bytes zones.1 is in
    let e = c.in_ok-extents.extents in
    let hw_is = made bytes c.in_ok-front.front (take c.in_ok-front.front.zone_count c.in_ok-zones.zones) (take e.len e.list) is (c.in_ok-zones.ensures.zones bytes front.1 n) list.0 in
    let here = at_place bytes (count_byte bytes) e.end (g.S.Source.remaining c.read_extents.new.source) (sym list.1) extents.1 in
    let fits : has_tables (hardware bytes) ≡ true = ap (λ (x : Hardware). has_tables x) (sym hw_is) ∙ c.in-Some.ensures.fit refl in
    let machine : IsMade bytes c.in-Some.hw e.end = record { hw_is = c.in-Some.ensures.some ∙ hw_is; end_is = list.1 } in
    let count = (c.in_ok-count.ensures.read bytes here machine).right refl in
    record {
      no_fault = head_count bytes front.0 zones.0 extents.0 fits ∙ count.0;
      hw_is = machine.hw_is;
      first_is = ap (λ (n : ℕ). n + 4) list.1;
      count_is = c.in_ok-count.ensures.count bytes here machine;
    }

pub returns-clause-no_region : goal.returns-clause-no_region
returns-clause-no_region g c = ap (λ (x : Hardware). x.regions) c.in-Some.ensures.some
