use Rattle.std.proofs.Common.{refl, sym, ap, ◌∙◌}
use Rattle.resume_core.specs.declared.load.Load.{Load}
use Rattle.resume_core.specs.declared.load.Stage.TheVariants as stage
use Rattle.resume_core.proofs.Listing.{lists_row_of, same_listed}
use Rattle.resume_core.proofs.Placing.{few_row, planned_row}
use Rattle.resume_core.proofs.load.Load.begin_reads.Goals as goal

pub returns-in-Err-clause-row : goal.returns-in-Err-clause-row
returns-in-Err-clause-row c = λ chain at listed.
    lists_row_of c.args.machine.now c.args.frames.now c.args.self.now chain c.args.machine.now c.args.frames.now _ c.stop.new.self c.in-Err.why c.stop.result c.stop.ensures.load c.stop.ensures.reply
    (few_row c.args.machine.now c.args.frames.now c.args.self.now _ chain c.in-Err.why listed c.in-Err.ensures.refused refl)

pub returns-clause-row : goal.returns-clause-row
returns-clause-row c = λ chain at listed.
    let kept = ap (λ (x : Load). x.stage) c.plan.ensures.load in
    let same = same_listed c.in-List.chain chain (sym c.in-List.is ∙ c.replace.ensures.value ∙ kept ∙ at) in
    planned_row c.args.machine.now c.args.frames.now c.args.self.now (record c.plan.new.self { stage = stage.Read c.in-List.chain }) chain c.read_on.new.machine c.read_on.new.frames c.read_on.new.self c.read_on.result listed
    (ap (λ (x : Load). record x { stage = stage.Read c.in-List.chain }) c.plan.ensures.load) c.plan.ensures.originals c.plan.ensures.free c.plan.ensures.loaded
    c.in-Ok.ensures.room (c.read_on.ensures.row chain (ap stage.Read same))
