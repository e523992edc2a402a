use Rattle.std.proofs.Common.{◌≡◌, ◌+◌, ℕ, Some, None, Err, refl, arith, length, subst, sym, ap, ◌∙◌}
use Rattle.std.proofs.lemmas.Result.{err_from_is_err_and}
use Rattle.definitions.specs.Bytes.{bytes_at}
use Rattle.definitions.specs.Tables.{with_frame}
use Rattle.definitions.specs.Zones.{numbers}
use Rattle.definitions.proofs.ZoneNumbers.{below_top}
use Rattle.plain_machine.specs.Loader.{has}
use Rattle.dump_file.specs.Dump.{is_above, wanted}
use Rattle.dump_file.specs.Fields.{number}
use Rattle.dump_file.specs.declared.dump.DumpKind.TheVariants.{Frame, Order}
use Rattle.dump_file.proofs.RecordFaults.{no_number, no_frame, no_order, no_page, no_fault, valid-false, valid-true}
use Rattle.dump_file.proofs.Refused.{at_place, goes_on, refuses, stops}
use Rattle.dump_file.proofs.records.read_record.Goals as goal

pub returns-in_err-p-clause-read : goal.returns-in_err-p-clause-read
returns-in_err-p-clause-read g c bytes h =
    let p = err_from_is_err_and c.from_residual.result c.from_residual.ensures.1 in
    stops _ _ _ (c.in_err-p.ensures.read bytes h) (p.1 ∙ ap Err p.2) (λ f e. no_number c.args.zones.now bytes c.args.before c.args.at f e)

pub returns-then-not-valid-clause-read : goal.returns-then-not-valid-clause-read
returns-then-not-valid-clause-read g c bytes h =
    let p = c.in_ok-p.p in
    let is : p ≡ number bytes c.args.at = c.in_ok-p.ensures.number bytes h in
    let whole = (c.in_ok-p.ensures.read bytes h).right refl in
    refuses bytes _ _ (c.args.at + 4) (record { kind = Frame; at = c.args.at }) c.fault.result _ c.fault.ensures
    (no_frame c.args.zones.now bytes c.args.before c.args.at whole.0
    (ap (has (numbers c.args.zones.now)) (sym is) ∙ valid-false c.args.zones.now p c.valid.result c.valid.ensures.valid c.if-not-valid.true))
    refl whole.1

pub returns-then-not-is_above-clause-read : goal.returns-then-not-is_above-clause-read
returns-then-not-is_above-clause-read g c bytes h =
    let p = c.in_ok-p.p in
    let is : p ≡ number bytes c.args.at = c.in_ok-p.ensures.number bytes h in
    let whole = (c.in_ok-p.ensures.read bytes h).right refl in
    refuses bytes _ _ (c.args.at + 4) (record { kind = Order; at = c.args.at }) c.fault-then-not-is_above.result _ c.fault-then-not-is_above.ensures
    (no_order c.args.zones.now bytes c.args.before c.args.at whole.0
    (ap (has (numbers c.args.zones.now)) (sym is) ∙ valid-true c.args.zones.now p c.valid.result c.valid.ensures.valid c.if-not-valid.false)
    (ap (is_above c.args.before) (sym is) ∙ sym c.is_above.ensures ∙ c.if-not-is_above.true))
    refl whole.1

pub take_exact-requires-clause-early : goal.take_exact-requires-clause-early
take_exact-requires-clause-early g c = omega (arith, c.requires.early)

pub returns-in_err-take_exact-clause-read : goal.returns-in_err-take_exact-clause-read
returns-in_err-take_exact-clause-read g c bytes h =
    let q = err_from_is_err_and c.from_residual-in_err-take_exact.result c.from_residual-in_err-take_exact.ensures.1 in
    let p = c.in_ok-p.p in
    let is : p ≡ number bytes c.args.at = c.in_ok-p.ensures.number bytes h in
    let whole = (c.in_ok-p.ensures.read bytes h).right refl in
    stops _ _ _ (c.in_err-take_exact.ensures.read bytes whole.1) (q.1 ∙ ap Err q.2)
    (λ f e. no_page c.args.zones.now bytes c.args.before c.args.at f whole.0
    (ap (has (numbers c.args.zones.now)) (sym is) ∙ valid-true c.args.zones.now p c.valid.result c.valid.ensures.valid c.if-not-valid.false)
    (ap (is_above c.args.before) (sym is) ∙ sym c.is_above.ensures ∙ c.if-not-is_above.false)
    (subst (λ (n : ℕ). wanted bytes (c.args.at + 4 + n) ≡ Some f) c.told-page e))

pub returns-clause-read : goal.returns-clause-read
returns-clause-read g c bytes h =
    let p = c.in_ok-p.p in
    let is : p ≡ number bytes c.args.at = c.in_ok-p.ensures.number bytes h in
    let whole = (c.in_ok-p.ensures.read bytes h).right refl in
    let page = (c.in_ok-take_exact.ensures.read bytes whole.1).right refl in
    let end : c.args.at + 4 + length c.args.page.now ≡ c.args.at + 4100 = omega (arith, c.told-page) in
    goes_on _ _ _ _ _
    (no_fault c.args.zones.now bytes c.args.before c.args.at whole.0
    (ap (has (numbers c.args.zones.now)) (sym is) ∙ valid-true c.args.zones.now p c.valid.result c.valid.ensures.valid c.if-not-valid.false)
    (ap (is_above c.args.before) (sym is) ∙ sym c.is_above.ensures ∙ c.if-not-is_above.false)
    (subst (λ (n : ℕ). wanted bytes (c.args.at + 4 + n) ≡ None) c.told-page page.0))
    (at_place bytes (c.args.at + 4 + length c.args.page.now) (c.args.at + 4100) _ end page.1)

pub write_bytes-requires : goal.write_bytes-requires
write_bytes-requires g c =
    let below = below_top c.args.zones.now c.in_ok-p.p c.valid.ensures.zones.apart (c.valid.ensures.valid.0 c.if-not-valid.false) in
    omega (arith, below, c.requires.size)

pub returns-clause-frames : goal.returns-clause-frames
returns-clause-frames g c bytes h =
    let piece : c.take_exact.new.piece ≡ bytes_at (length c.args.page.now) bytes (c.args.at + 4) = c.in_ok-take_exact.ensures.piece bytes ((c.in_ok-p.ensures.read bytes h).right refl).1 refl in
    c.write_bytes.ensures
    ∙ ap (with_frame c.args.frames.now c.in_ok-p.p) (piece ∙ ap (λ (n : ℕ). bytes_at n bytes (c.args.at + 4)) c.told-page)

pub returns-clause-frame : goal.returns-clause-frame
returns-clause-frame g c =
    let below = below_top c.args.zones.now c.in_ok-p.p c.valid.ensures.zones.apart (c.valid.ensures.valid.0 c.if-not-valid.false) in
    (omega (arith, below, c.requires.size), λ bytes h. c.in_ok-p.ensures.number bytes h)
