use Rattle.std.proofs.Common.{◌≡◌, ◌+◌, ◌*◌, ℕ, sym, ap, ◌∙◌, subst, arith, refl, true, inr}
use Rattle.definitions.specs.Tables.{with_entry, entry_of}
use Rattle.plain_machine.specs.declared.event.TaskOp.TheVariants as op
use Rattle.plain_machine.specs.declared.reply.Reply.TheVariants as reply
use Rattle.plain_machine.specs.Machine.{Memory, is_well_formed}
use Rattle.machine.specs.TaskRow.{HasFrameRow}
use Rattle.machine.proofs.Rows.{entry_within}
use Rattle.machine.specs.OwnFrames.{ChangesOwn}
use Rattle.machine.proofs.Readiness.{changes_entry}
use Rattle.machine.proofs.Requests.{own_refused, own_entry_set, well_formed_by}
use Rattle.machine.proofs.tasks.cache.Goals as goal

pub returns-in-Some-clause-row : goal.returns-in-Some-clause-row
returns-in-Some-clause-row c =
    own_refused c.args.hw.now c.args.t c.args.p (op.Cache c.args.p) c.args.frames.now c.in-Some.refusal c.not_own.ensures.hardware c.requires.frames (λ a. refl) (sym c.in-Some.ensures.refusal)

pub set_entry-requires : goal.set_entry-requires
set_entry-requires c =
    let within = entry_within c.args.hw.now c.args.frames.now c.args.p c.not_own.ensures.hardware c.requires.frames (c.in_default.ensures.valid refl) in
    let table = c.frame_table.ensures.frame in
    omega arith

pub returns-clause-row : goal.returns-clause-row
returns-clause-row c =
    let h = c.args.hw.now in
    let p = c.args.p in
    let t = c.args.t in
    let frames = c.args.frames.now in
    let some = c.requires.task.some in
    let few = c.requires.task.few in
    let valid = c.in_default.ensures.valid refl in
    let well : is_well_formed (65536 * t + 64) ≡ true = well_formed_by (65536 * t + 64) 64 t (omega arith) (omega arith) few (inr refl) in
    let row = own_entry_set h t p (65536 * t + 64) (op.Cache p) frames c.not_own.ensures.hardware c.requires.task c.requires.frames valid (c.in_default.ensures.owned refl) well (omega arith)
    (sym c.in_default.ensures.refusal) (λ a. refl) (λ a. (0, omega arith, refl)) in
    let value : entry_of 64 t ≡ 65536 * t + 64 = omega arith in
    let set_is : c.set_entry.new.frames ≡ with_entry frames h.frame_table p (65536 * t + 64) =
    c.set_entry.ensures.entry ∙ ap (λ (table : ℕ). with_entry frames table p (entry_of 64 t)) c.frame_table.ensures.frame ∙ ap (with_entry frames h.frame_table p) value in
    subst (λ (n : Memory). HasFrameRow h t (op.Cache p) frames n reply.Done) (sym set_is) row

pub returns-clause-own : goal.returns-clause-own
returns-clause-own c =
    let h = c.args.hw.now in
    let p = c.args.p in
    let t = c.args.t in
    let frames = c.args.frames.now in
    let changes = changes_entry h t frames p (65536 * t + 64) c.not_own.ensures.hardware c.not_own.ensures.pages c.requires.frames (c.in_default.ensures.valid refl) (inr (c.in_default.ensures.owned refl)) in
    let value : entry_of 64 t ≡ 65536 * t + 64 = omega arith in
    let set_is : c.set_entry.new.frames ≡ with_entry frames h.frame_table p (65536 * t + 64) =
    c.set_entry.ensures.entry ∙ ap (λ (table : ℕ). with_entry frames table p (entry_of 64 t)) c.frame_table.ensures.frame ∙ ap (with_entry frames h.frame_table p) value in
    subst (ChangesOwn h t frames) (sym set_is) (inr (p, changes))
