use Rattle.std.proofs.Common.{Err, refl, sym, ap, ◌∙◌}
use Rattle.std.proofs.lemmas.Result.{err_from_is_err_and}
use Rattle.dump_file.proofs.Chains.{passed}
use Rattle.dump_file.proofs.Dumps.{all_right, body_wrong, head_wrong, no_records}
use Rattle.dump_file.proofs.Refused.{at_begin, at_place}
use Rattle.dump_file.proofs.read.read_dump.Goals as goal

pub returns-in_err-header-clause-fault : goal.returns-in_err-header-clause-fault
returns-in_err-header-clause-fault g c bytes f e same =
    let p = err_from_is_err_and c.from_residual.result c.from_residual.ensures.1 in
    let begin = at_begin bytes (g.S.Source.remaining c.args.source.now) e in
    head_wrong bytes f ((c.in_err-header.ensures.read bytes begin).refused f (passed c.in_err-header.field-0.0 f (sym (p.1 ∙ ap Err p.2) ∙ same))).0

pub returns-in_err-header-clause-read : goal.returns-in_err-header-clause-read
returns-in_err-header-clause-read g c bytes f e same =
    let p = err_from_is_err_and c.from_residual.result c.from_residual.ensures.1 in
    let begin = at_begin bytes (g.S.Source.remaining c.args.source.now) e in
    ((c.in_err-header.ensures.read bytes begin).refused f (passed c.in_err-header.field-0.0 f (sym (p.1 ∙ ap Err p.2) ∙ same))).1

pub returns-in_err-read_body-clause-fault : goal.returns-in_err-read_body-clause-fault
returns-in_err-read_body-clause-fault g c bytes f e same =
    let p = err_from_is_err_and c.from_residual-in_err-read_body.result c.from_residual-in_err-read_body.ensures.1 in
    let h = c.in_ok-header.header in
    let begin = at_begin bytes (g.S.Source.remaining c.args.source.now) e in
    let left = (c.in_ok-header.ensures.read bytes begin).right refl in
    let is = c.in_ok-header.ensures.header bytes begin in
    let new = no_records bytes h.first c.top.result h.hw.zones c.zones.result.now c.in-Ok.frames c.in-Ok.ensures c.top.ensures.top c.zones.ensures.zones in
    body_wrong bytes h.hw h.first h.count f is
    ((c.in_err-read_body.ensures.read bytes (at_place bytes _ h.first _ (sym is.first_is) left.1) new).refused f (passed c.in_err-read_body.field-0.0 f (sym (p.1 ∙ ap Err p.2) ∙ same))).0

pub returns-in_err-read_body-clause-read : goal.returns-in_err-read_body-clause-read
returns-in_err-read_body-clause-read g c bytes f e same =
    let p = err_from_is_err_and c.from_residual-in_err-read_body.result c.from_residual-in_err-read_body.ensures.1 in
    let h = c.in_ok-header.header in
    let begin = at_begin bytes (g.S.Source.remaining c.args.source.now) e in
    let left = (c.in_ok-header.ensures.read bytes begin).right refl in
    let is = c.in_ok-header.ensures.header bytes begin in
    let new = no_records bytes h.first c.top.result h.hw.zones c.zones.result.now c.in-Ok.frames c.in-Ok.ensures c.top.ensures.top c.zones.ensures.zones in
    ((c.in_err-read_body.ensures.read bytes (at_place bytes _ h.first _ (sym is.first_is) left.1) new).refused f (passed c.in_err-read_body.field-0.0 f (sym (p.1 ∙ ap Err p.2) ∙ same))).1

pub returns-clause-dump : goal.returns-clause-dump
returns-clause-dump g c bytes e =
    let h = c.in_ok-header.header in
    let begin = at_begin bytes (g.S.Source.remaining c.args.source.now) e in
    let left = (c.in_ok-header.ensures.read bytes begin).right refl in
    let is = c.in_ok-header.ensures.header bytes begin in
    let here = at_place bytes _ h.first _ (sym is.first_is) left.1 in
    let new = no_records bytes h.first c.top.result h.hw.zones c.zones.result.now c.in-Ok.frames c.in-Ok.ensures c.top.ensures.top c.zones.ensures.zones in
    all_right bytes h.hw h.first h.count c.read_body.new.frames is
    ((c.in_ok-read_body.ensures.read bytes here new).right refl).0
    (c.in_ok-read_body.ensures.frames bytes here new refl)
