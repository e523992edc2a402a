use Rattle.std.proofs.Common.{◌≡◌, ◌+◌, ◌*◌, ℕ, List, Option, Some, Err, length, refl, sym, ap, ◌∙◌}
use Rattle.std.proofs.lemmas.Result.{err_from_is_err_and}
use Rattle.definitions.specs.Zones.{top}
use Rattle.plain_machine.specs.Machine.{Memory}
use Rattle.dump_file.specs.Dump.{table_fault}
use Rattle.dump_file.specs.Fields.{contents, record_byte}
use Rattle.dump_file.specs.declared.dump.DumpKind.TheVariants.{Extra, Tables}
use Rattle.dump_file.proofs.Bodies.{body_end, body_extra, body_records, at_end, one_more}
use Rattle.dump_file.proofs.Chains.{passed}
use Rattle.dump_file.proofs.Refused.{at_place, goes_on, not_told, refuses, stops}
use Rattle.dump_file.proofs.read.read_body.Goals as goal

pub returns-in_err-read_records-clause-read : goal.returns-in_err-read_records-clause-read
returns-in_err-read_records-clause-read g c bytes h new =
    let p = err_from_is_err_and c.from_residual.result c.from_residual.ensures.1 in
    let d = c.args.header.now in
    stops _ _ _ (c.in_err-read_records.ensures.read bytes h) (p.1 ∙ ap Err p.2) (λ f e. body_records d.hw bytes d.first d.count c.zones.result.now f c.zones.ensures.zones e)

pub returns-in_err-is_over-clause-read : goal.returns-in_err-is_over-clause-read
returns-in_err-is_over-clause-read g c bytes h new =
    let p = err_from_is_err_and c.from_residual-in_err-is_over.result c.from_residual-in_err-is_over.ensures.1 in
    not_told bytes _ _ c.from_residual-in_err-is_over.result c.in_err-is_over.field-0.0 _ (p.1 ∙ ap Err p.2)
    (λ f e. c.in_err-is_over.ensures.no_fault f (passed c.in_err-is_over.field-0.0 f (sym (p.1 ∙ ap Err p.2) ∙ e)))

pub returns-then-not-branch-clause-read : goal.returns-then-not-branch-clause-read
returns-then-not-branch-clause-read g c bytes h new =
    let d = c.args.header.now in
    let whole = (c.in_ok-read_records.ensures.read bytes h).right refl in
    let k = d.first + 4100 * c.from.result in
    let place : record_byte d.first d.count ≡ k = ap (λ (n : ℕ). d.first + 4100 * n) (sym c.from.ensures) in
    let here = at_place bytes (record_byte d.first d.count) k _ place whole.1 in
    refuses bytes _ _ (k + 1) (record { kind = Extra; at = k }) c.fault.result _ c.fault.ensures
    (body_extra d.hw bytes d.first d.count k c.zones.result.now c.zones.ensures.zones whole.0 (sym place) (sym (c.in_ok-is_over.ensures.at bytes k here) ∙ c.if-not-branch.true))
    refl (one_more bytes k c.in_ok-is_over.field-0 _ c.if-not-branch.true (c.in_ok-is_over.ensures.left bytes k here))

-- what the page frames hold when the records were read
held : (bytes : List ℕ) (first count : ℕ) (zones seen : List (ℕ × ℕ)) (old new : Memory) → seen ≡ zones → old ≡ contents bytes first 0 (top zones) → (old ≡ contents bytes first 0 (top seen) → new ≡ contents bytes first count (top seen)) → new ≡ contents bytes first count (top zones)
held bytes first count zones seen old new same is then_is =
    then_is (is ∙ ap (λ (zs : List (ℕ × ℕ)). contents bytes first 0 (top zs)) (sym same)) ∙ ap (λ (zs : List (ℕ × ℕ)). contents bytes first count (top zs)) same

pub returns-in-Ok-clause-read : goal.returns-in-Ok-clause-read
returns-in-Ok-clause-read g c bytes h new =
    let d = c.args.header.now in
    let k = record_byte d.first d.count in
    let whole = (c.in_ok-read_records.ensures.read bytes h).right refl in
    let over = sym (c.in_ok-is_over.ensures.at bytes k whole.1) ∙ c.if-not-branch.false in
    let frames = held bytes d.first d.count d.hw.zones c.zones.result.now c.args.frames.now c.read_records.new.frames c.zones.ensures.zones new (λ is. c.in_ok-read_records.ensures.frames bytes h is refl) in
    goes_on _ _ _ _ _
    (body_end d.hw bytes d.first d.count c.zones.result.now c.read_records.new.frames c.zones.ensures.zones whole.0 over frames ∙ ap (λ (o : Option ℕ). table_fault o) (c.in-Ok.ensures.fits.0 refl))
    (at_end bytes k c.in_ok-is_over.field-0 _ c.if-not-branch.false (c.in_ok-is_over.ensures.at bytes k whole.1) (c.in_ok-is_over.ensures.left bytes k whole.1))

pub returns-in-Err-clause-read : goal.returns-in-Err-clause-read
returns-in-Err-clause-read g c bytes h new =
    let d = c.args.header.now in
    let k = record_byte d.first d.count in
    let whole = (c.in_ok-read_records.ensures.read bytes h).right refl in
    let over = sym (c.in_ok-is_over.ensures.at bytes k whole.1) ∙ c.if-not-branch.false in
    let frames = held bytes d.first d.count d.hw.zones c.zones.result.now c.args.frames.now c.read_records.new.frames c.zones.ensures.zones new (λ is. c.in_ok-read_records.ensures.frames bytes h is refl) in
    refuses bytes _ _ (length bytes) (record { kind = Tables; at = c.from-in-Err.result }) c.fault-in-Err.result _ c.fault-in-Err.ensures
    (body_end d.hw bytes d.first d.count c.zones.result.now c.read_records.new.frames c.zones.ensures.zones whole.0 over frames
    ∙ ap (λ (o : Option ℕ). table_fault o) (c.in-Err.ensures.fault ∙ ap Some (sym c.from-in-Err.ensures)))
    refl (at_end bytes k c.in_ok-is_over.field-0 _ c.if-not-branch.false (c.in_ok-is_over.ensures.at bytes k whole.1) (c.in_ok-is_over.ensures.left bytes k whole.1))
