use Rattle.std.proofs.Common.{ℕ, sym, subst, arith, refl}
use Rattle.definitions.specs.Bytes.{word}
use Rattle.definitions.proofs.ZoneNumbers.{below_top}
use Rattle.plain_machine.specs.declared.event.TaskOp.TheVariants as op
use Rattle.plain_machine.specs.declared.reply.Reply.TheVariants as reply
use Rattle.machine.specs.TaskRow.{HasFrameRow}
use Rattle.machine.proofs.Requests.{own_refused, own_page_told}
use Rattle.machine.proofs.tasks.show.Goals as goal

pub returns-in-Some-clause-row : goal.returns-in-Some-clause-row
returns-in-Some-clause-row c =
    own_refused c.args.hw.now c.args.t c.args.p (op.Show c.args.p c.args.k) c.args.frames.now c.in-Some.refusal c.not_own.ensures.hardware c.requires.frames (λ a. refl) (sym c.in-Some.ensures.refusal)

pub word-requires-clause-frame_in_range : goal.word-requires-clause-frame_in_range
word-requires-clause-frame_in_range c =
    let low = below_top c.args.hw.now.zones c.args.p c.not_own.ensures.hardware.zones.apart (c.in_default.ensures.valid refl) in
    let size = c.requires.frames in
    omega arith

pub returns-clause-row : goal.returns-clause-row
returns-clause-row c =
    let h = c.args.hw.now in
    let p = c.args.p in
    let k = c.args.k in
    let t = c.args.t in
    let frames = c.args.frames.now in
    let valid = c.in_default.ensures.valid refl in
    let row = own_page_told h t p (op.Show p k) frames (λ page. reply.Word (word page k)) c.not_own.ensures.hardware c.requires.task c.requires.frames valid (c.in_default.ensures.owned refl)
    (sym c.in_default.ensures.refusal) (λ a. refl) (λ a. (0, omega arith, refl)) in
    subst (λ (value : ℕ). HasFrameRow h t (op.Show p k) frames frames (reply.Word value)) (sym c.word.ensures) row
