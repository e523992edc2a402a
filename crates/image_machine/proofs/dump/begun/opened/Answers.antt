use Rattle.std.proofs.Common.{ap, subst, ◌∙◌, []}
use Rattle.definitions.specs.declared.info.Info.{Info}
use Rattle.image_machine.specs.Headings.{IsHeadingBy}
use Rattle.image_machine.proofs.dump.begun.opened.Goals as goal

pub returns-in-Some : goal.returns-in-Some
returns-in-Some c = λ content blocks header before now told then untold marked numbered.
    let gives = subst (IsHeadingBy c.args.block.now c.args.mark.now c.info.result) c.in-Some.is c.heading_of.ensures in (
      untold,
      record {
        page = c.args.block.now;
        mark = c.args.mark.now;
        block = marked;
        area = gives.area;
        hw_sig = gives.hw_sig;
        info = c.args.numbers.info;
        first = c.info.ensures.chain content blocks header [] numbered;
        ident = gives.ident ∙ ap (λ (i : Info). i.ident) c.info.ensures.said;
        physpages = gives.physpages ∙ ap (λ (i : Info). i.physpages) c.info.ensures.said;
      },
      numbered,
    )

pub returns-in-None : goal.returns-in-None
returns-in-None c = λ content blocks header before now told then untold marked numbered.
    let none = subst (IsHeadingBy c.args.block.now c.args.mark.now c.info.result) c.in-None.is c.heading_of.ensures in
    (record { page = c.args.block.now; mark = c.args.mark.now; block = marked; no_area = none }, untold)
