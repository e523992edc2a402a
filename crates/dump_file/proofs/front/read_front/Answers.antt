use Rattle.std.proofs.Common.{Err, refl, ap, ◌∙◌, arith}
use Rattle.std.proofs.lemmas.Result.{err_from_is_err_and}
use Rattle.dump_file.specs.Dump.{wanted}
use Rattle.dump_file.proofs.Chains.{or_else-some, wanted-more}
use Rattle.dump_file.proofs.Heads.{front_is, front_mark, front_names, front_slots, front_zones}
use Rattle.dump_file.proofs.Refused.{goes_on, stops}
use Rattle.dump_file.proofs.front.read_front.Goals as goal

pub returns-in_err-is_second-clause-read : goal.returns-in_err-is_second-clause-read
returns-in_err-is_second-clause-read g c bytes h =
    let p = err_from_is_err_and c.from_residual.result c.from_residual.ensures.1 in
    stops _ _ _ (c.in_err-is_second.ensures.read bytes h) (p.1 ∙ ap Err p.2) (λ f e. front_mark bytes f e)

pub returns-in_err-version_code-clause-read : goal.returns-in_err-version_code-clause-read
returns-in_err-version_code-clause-read g c bytes h =
    let p = err_from_is_err_and c.from_residual-in_err-version_code.result c.from_residual-in_err-version_code.ensures.1 in
    let mark = (c.in_ok-is_second.ensures.read bytes h).right refl in
    stops _ _ _ (c.in_err-version_code.ensures.read bytes mark.1) (p.1 ∙ ap Err p.2) (λ f e. front_slots bytes f mark.0 e)

pub returns-in_err-frame_table-clause-read : goal.returns-in_err-frame_table-clause-read
returns-in_err-frame_table-clause-read g c bytes h =
    let p = err_from_is_err_and c.from_residual-in_err-frame_table.result c.from_residual-in_err-frame_table.ensures.1 in
    let mark = (c.in_ok-is_second.ensures.read bytes h).right refl in
    let slots = (c.in_ok-version_code.ensures.read bytes mark.1).right refl in
    stops _ _ _ (c.in_err-frame_table.ensures.read bytes slots.1) (p.1 ∙ ap Err p.2)
    (λ f e. front_zones bytes f mark.0 slots.0 (or_else-some (wanted bytes 32) _ f (wanted-more bytes 24 32 f (omega arith) e)))

pub returns-in_err-hw_sig-clause-read : goal.returns-in_err-hw_sig-clause-read
returns-in_err-hw_sig-clause-read g c bytes h =
    let p = err_from_is_err_and c.from_residual-in_err-hw_sig.result c.from_residual-in_err-hw_sig.ensures.1 in
    let mark = (c.in_ok-is_second.ensures.read bytes h).right refl in
    let slots = (c.in_ok-version_code.ensures.read bytes mark.1).right refl in
    let tables = (c.in_ok-frame_table.ensures.read bytes slots.1).right refl in
    stops _ _ _ (c.in_err-hw_sig.ensures.read bytes tables.1) (p.1 ∙ ap Err p.2) (λ f e. front_zones bytes f mark.0 slots.0 e)

pub returns-in_err-names-clause-read : goal.returns-in_err-names-clause-read
returns-in_err-names-clause-read g c bytes h =
    let p = err_from_is_err_and c.from_residual-in_err-names.result c.from_residual-in_err-names.ensures.1 in
    let mark = (c.in_ok-is_second.ensures.read bytes h).right refl in
    let slots = (c.in_ok-version_code.ensures.read bytes mark.1).right refl in
    let tables = (c.in_ok-frame_table.ensures.read bytes slots.1).right refl in
    let zones = (c.in_ok-hw_sig.ensures.read bytes tables.1).right refl in
    stops _ _ _ (c.in_err-names.ensures.read bytes zones.1) (p.1 ∙ ap Err p.2) (λ f e. front_names bytes mark.0 slots.0 zones.0 ∙ e)

pub returns-clause-read : goal.returns-clause-read
returns-clause-read g c bytes h =
    let mark = (c.in_ok-is_second.ensures.read bytes h).right refl in
    let slots = (c.in_ok-version_code.ensures.read bytes mark.1).right refl in
    let tables = (c.in_ok-frame_table.ensures.read bytes slots.1).right refl in
    let zones = (c.in_ok-hw_sig.ensures.read bytes tables.1).right refl in
    let names = (c.in_ok-names.ensures.read bytes zones.1).right refl in
    goes_on _ _ _ _ _ (front_names bytes mark.0 slots.0 zones.0 ∙ names.0) names.1

pub returns-clause-front : goal.returns-clause-front
returns-clause-front g c bytes h =
    let mark = (c.in_ok-is_second.ensures.read bytes h).right refl in
    let slots = (c.in_ok-version_code.ensures.read bytes mark.1).right refl in
    let tables = (c.in_ok-frame_table.ensures.read bytes slots.1).right refl in
    let zones = (c.in_ok-hw_sig.ensures.read bytes tables.1).right refl in
    front_is bytes c.in_ok-is_second.is_second (c.in_ok-version_code.version_code, c.in_ok-version_code.slots) (c.in_ok-frame_table.frame_table, c.in_ok-frame_table.slot_table) (c.in_ok-hw_sig.hw_sig, c.in_ok-hw_sig.zone_count) c.in_ok-names.names
    (c.in_ok-is_second.ensures.second bytes h) (c.in_ok-version_code.ensures.pair bytes mark.1) (c.in_ok-frame_table.ensures.pair bytes slots.1)
    (c.in_ok-hw_sig.ensures.pair bytes tables.1) (c.in_ok-names.ensures.names bytes zones.1)
