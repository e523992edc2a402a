use Rattle.std.proofs.Common.{inr, ◌*◌, ℕ, List, sym, ◌∙◌, subst, arith, refl}
use Rattle.definitions.specs.Bytes.{IsPage, with_word}
use Rattle.definitions.specs.Tables.{frame}
use Rattle.definitions.proofs.PageBytes.{length-with_number}
use Rattle.definitions.proofs.ZoneNumbers.{below_top}
use Rattle.plain_machine.specs.Machine.{Memory}
use Rattle.plain_machine.specs.declared.event.TaskOp.TheVariants as op
use Rattle.plain_machine.specs.declared.reply.Reply.TheVariants as reply
use Rattle.machine.specs.TaskRow.{HasFrameRow}
use Rattle.machine.specs.OwnFrames.{ChangesOwn}
use Rattle.machine.proofs.Readiness.{changes_page}
use Rattle.machine.proofs.Requests.{own_refused, own_page_set, owned_apart}
use Rattle.machine.proofs.tasks.store.Goals as goal

pub returns-in-Some-clause-row : goal.returns-in-Some-clause-row
returns-in-Some-clause-row c =
    own_refused c.args.hw.now c.args.t c.args.p (op.Store c.args.p c.args.k c.args.v) c.args.frames.now c.in-Some.refusal c.not_own.ensures.hardware c.requires.frames (λ a. refl) (sym c.in-Some.ensures.refusal)

pub set_word-requires-clause-frame_in_range : goal.set_word-requires-clause-frame_in_range
set_word-requires-clause-frame_in_range c =
    let low = below_top c.args.hw.now.zones c.args.p c.not_own.ensures.hardware.zones.apart (c.in_default.ensures.valid refl) in
    let size = c.requires.frames in
    omega arith

pub returns-clause-row : goal.returns-clause-row
returns-clause-row c =
    let h = c.args.hw.now in
    let p = c.args.p in
    let k = c.args.k in
    let t = c.args.t in
    let frames = c.args.frames.now in
    let valid = c.in_default.ensures.valid refl in
    let v = c.args.v in
    let keeps : (page : List ℕ) → IsPage page → IsPage (with_word page k v) = λ page whole. length-with_number 8 page (8 * k) v (let word = c.requires.word in omega arith) ∙ whole in
    let row = own_page_set h t p (op.Store p k v) frames (λ page. with_word page k v) c.not_own.ensures.hardware c.requires.task c.requires.frames c.requires.reserved valid (c.in_default.ensures.owned refl) keeps
    (sym c.in_default.ensures.refusal) (λ a. refl) (λ a. (0, omega arith, refl)) in
    subst (λ (n : Memory). HasFrameRow h t (op.Store p k v) frames n reply.Done) (sym c.set_word.ensures) row

pub returns-clause-own : goal.returns-clause-own
returns-clause-own c =
    let h = c.args.hw.now in
    let p = c.args.p in
    let t = c.args.t in
    let frames = c.args.frames.now in
    let own = c.in_default.ensures.owned refl in
    let changes = changes_page h t frames p (with_word (frame frames p) c.args.k c.args.v) c.not_own.ensures.hardware (owned_apart h frames t p c.requires.reserved own c.requires.task.some) (c.in_default.ensures.valid refl) (inr own) in
    subst (ChangesOwn h t frames) (sym c.set_word.ensures) (inr (p, changes))
