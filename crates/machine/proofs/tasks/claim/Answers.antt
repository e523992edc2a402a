use Rattle.std.proofs.Common.{◌≡◌, ◌*◌, ℕ, length, set, sym, ap, ◌∙◌, subst, arith, inr}
use Rattle.definitions.specs.Bytes.{zero_page}
use Rattle.definitions.specs.Tables.{with_entry, entry_of}
use Rattle.definitions.proofs.ZoneNumbers.{below_top}
use Rattle.plain_machine.specs.declared.event.TaskOp.TheVariants as op
use Rattle.plain_machine.specs.declared.reply.Reply.TheVariants as reply
use Rattle.plain_machine.specs.Machine.{Memory, frame_entry}
use Rattle.std.proofs.lemmas.List.{length-set}
use Rattle.machine.specs.TaskRow.{HasFrameRow}
use Rattle.machine.proofs.Rows.{entry_within}
use Rattle.std.proofs.lemmas.Bool.{eqb-true}
use Rattle.machine.specs.OwnFrames.{ChangesOwn}
use Rattle.machine.proofs.Readiness.{changes_claimed}
use Rattle.machine.proofs.Requests.{claim_no_frame, claim_not_free, claim_done}
use Rattle.machine.proofs.tasks.claim.Goals as goal

pub returns-then-not-is_valid-clause-row : goal.returns-then-not-is_valid-clause-row
returns-then-not-is_valid-clause-row c =
    claim_no_frame c.args.hw.now c.args.t c.args.p c.args.frames.now c.requires.frames (sym c.is_valid.ensures.test ∙ c.if-not-is_valid.true)

pub returns-then-not-is_free-clause-row : goal.returns-then-not-is_free-clause-row
returns-then-not-is_free-clause-row c =
    claim_not_free c.args.hw.now c.args.t c.args.p c.args.frames.now c.is_valid.ensures.hardware c.requires.frames
    (c.is_valid.ensures.valid c.if-not-is_valid.false) (sym c.is_valid.ensures.test ∙ c.if-not-is_valid.false) (sym c.is_free.ensures.test ∙ c.if-not-is_free.true)

pub zero-requires : goal.zero-requires
zero-requires c =
    let h = c.args.hw.now in
    let low = below_top h.zones c.args.p c.is_valid.ensures.hardware.zones.apart (c.is_valid.ensures.valid c.if-not-is_valid.false) in
    let size = c.requires.frames in
    omega arith

pub set_entry-requires : goal.set_entry-requires
set_entry-requires c =
    let h = c.args.hw.now in
    let within = entry_within h c.args.frames.now c.args.p c.is_valid.ensures.hardware c.requires.frames (c.is_valid.ensures.valid c.if-not-is_valid.false) in
    let table = c.frame_table.ensures.frame in
    let size : length c.zero.new.self ≡ length c.args.frames.now = ap length c.zero.ensures ∙ length-set c.args.frames.now c.args.p zero_page in
    omega arith

pub returns-clause-row : goal.returns-clause-row
returns-clause-row c =
    let h = c.args.hw.now in
    let p = c.args.p in
    let t = c.args.t in
    let frames = c.args.frames.now in
    let in' = c.is_valid.ensures.valid c.if-not-is_valid.false in
    let row = claim_done h t p frames c.is_valid.ensures.hardware c.requires.task c.requires.frames c.requires.reserved in'
    (sym c.is_valid.ensures.test ∙ c.if-not-is_valid.false) (sym c.is_free.ensures.test ∙ c.if-not-is_free.false) in
    let none : c.empty.result.0 ≡ 0 = c.empty.ensures tt in
    let owner : entry_of c.empty.result.0 t ≡ 65536 * t = omega arith in
    let set_is : c.set_entry.new.frames ≡ with_entry (set frames p zero_page) h.frame_table p (65536 * t) =
    c.set_entry.ensures.entry ∙ ap (λ (n : Memory). with_entry n c.frame_table.result p (entry_of c.empty.result.0 t)) c.zero.ensures
    ∙ ap (λ (table : ℕ). with_entry (set frames p zero_page) table p (entry_of c.empty.result.0 t)) c.frame_table.ensures.frame
    ∙ ap (with_entry (set frames p zero_page) h.frame_table p) owner in
    subst (λ (n : Memory). HasFrameRow h t (op.Claim p) frames n reply.Done) (sym set_is) row

pub returns-clause-own : goal.returns-clause-own
returns-clause-own c =
    let h = c.args.hw.now in
    let p = c.args.p in
    let t = c.args.t in
    let frames = c.args.frames.now in
    let free = eqb-true (frame_entry h frames p) 1 (sym c.is_free.ensures.test ∙ c.if-not-is_free.false) in
    let changes = changes_claimed h t frames p zero_page (65536 * t) c.is_valid.ensures.hardware c.is_free.ensures.pages c.requires.frames c.requires.reserved (c.is_valid.ensures.valid c.if-not-is_valid.false) free in
    let none : c.empty.result.0 ≡ 0 = c.empty.ensures tt in
    let owner : entry_of c.empty.result.0 t ≡ 65536 * t = omega arith in
    let set_is : c.set_entry.new.frames ≡ with_entry (set frames p zero_page) h.frame_table p (65536 * t) =
    c.set_entry.ensures.entry ∙ ap (λ (n : Memory). with_entry n c.frame_table.result p (entry_of c.empty.result.0 t)) c.zero.ensures
    ∙ ap (λ (table : ℕ). with_entry (set frames p zero_page) table p (entry_of c.empty.result.0 t)) c.frame_table.ensures.frame
    ∙ ap (with_entry (set frames p zero_page) h.frame_table p) owner in
    subst (ChangesOwn h t frames) (sym set_is) (inr (p, changes))
