use Rattle.std.proofs.Common.{◌≡◌, ◌+◌, ◌-◌, refl, sym, ap, ◌∙◌, subst}
use Rattle.plain_machine.specs.declared.reply.Reply.TheVariants as reply
use Rattle.resume_core.specs.Row.{EndsOn, ReadsOn, HasReader}
use Rattle.resume_core.specs.declared.load.Load.{Load}
use Rattle.resume_core.specs.declared.load.OpenChain.{OpenChain}
use Rattle.resume_core.specs.declared.load.Stage.{Stage}
use Rattle.resume_core.specs.declared.load.Stage.TheVariants as stage
use Rattle.resume_core.proofs.Listing.{same_read}
use Rattle.resume_core.proofs.Placing.{going_row, reads_row_of, read_can}
use Rattle.resume_core.proofs.load.Load.read_on.Goals as goal

pub returns-then-over-clause-row : goal.returns-then-over-clause-row
returns-then-over-clause-row c = λ chain at d l v k read places room.
    let same = same_read c.in-Read.chain chain (sym c.in-Read.is ∙ at) in
    let kept : record c.args.self.now { stage = stage.Read c.in-Read.chain } ≡ c.args.self.now = ap (λ (s : Stage). record c.args.self.now { stage = s }) (sym c.in-Read.is) in
    subst (λ (x : Load). EndsOn c.args.machine.now c.args.frames.now x chain c.end.new.machine c.end.new.frames c.end.new.self c.end.result) kept (c.end.ensures.row chain (ap stage.Read same)) d l v k read places room
    ((c.if-over.ensures.whole c.args.machine.now.hw v c.args.self.now.check (k - 4 + 1) c.args.self.now.origs.members c.args.self.now.zeros.members (subst (λ (x : OpenChain). HasReader c.args.machine.now.hw v x.reader c.args.self.now (k - 4 + 1)) (sym same) read.read)).0 refl).1

pub returns-else-over-clause-row : goal.returns-else-over-clause-row
returns-else-over-clause-row c = λ chain at.
    let can = read_can c.args.machine.now c.args.frames.now c.args.runs.now c.args.self.now c.in-Read.chain c.in-Read.is c.requires.ready in
    let row =
    reads_row_of c.args.machine.now c.args.frames.now c.args.self.now c.in-Read.chain c.args.machine.now c.args.frames.now
    (record c.args.self.now { stage = stage.Read (record c.in-Read.chain { done = c.go_on.new.self.done }) }) (record c.args.self.now { stage = stage.Read c.go_on.new.self })
    (reply.Loading c.go_on.new.self.done) c.go_on.result (ap (λ (x : OpenChain). record c.args.self.now { stage = stage.Read x }) c.go_on.ensures.chain) c.go_on.ensures.reply
    (going_row c.args.machine.now c.args.frames.now c.args.self.now c.in-Read.chain c.go_on.new.self.done can.0.ready.saved
    (λ h v t read over. (c.if-over.ensures.whole h v c.args.self.now.check t c.args.self.now.origs.members c.args.self.now.zeros.members read).1 over) c.go_on.ensures.counted) in
    subst (λ (x : OpenChain). ReadsOn c.args.machine.now c.args.frames.now c.args.self.now x c.args.machine.now c.args.frames.now (record c.args.self.now { stage = stage.Read c.go_on.new.self }) c.go_on.result) (same_read c.in-Read.chain chain (sym c.in-Read.is ∙ at)) row
