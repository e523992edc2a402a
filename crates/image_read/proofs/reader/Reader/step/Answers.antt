use Rattle.std.proofs.Common.{◌≡◌, ◌<◌, ◌+◌, ℕ, Option, Some, None, Result, Ok, Err, IfOk, sym, ap, ◌∙◌, subst}
use Rattle.definitions.specs.Disk as disk
use Rattle.plain_machine.specs.Trace.{place, place_count}
use Rattle.image_read.specs.Reading.{Reading, IsReady, IsShort}
use Rattle.image_read.specs.Stream.{place_block}
use Rattle.image_read.specs.Answers.{Answers, Gives, GoesOn}
use Rattle.image_read.specs.declared.cause.Cause.{Cause}
use Rattle.image_read.specs.declared.reader.ReadStep.{ReadStep}
use Rattle.image_read.proofs.Steps.{read_as, answers_page, answers_more, goes_on_page, goes_on_more, on_ok, not_over, at_block}
use Rattle.image_read.proofs.reader.Reader.step.Goals as goal
use Rattle.image_read.proofs.reader.Reader.step.Goals.{in-Ok-Some, in-Ok-None, in-Err}

pub returns-clause-answers : goal.returns-clause-answers
returns-clause-answers g c = λ h v check t reading reads zones_is compares.
    let r = c.args.self.now in
    let origs = c.args.origs.now.members in
    let zeros = c.args.zeros.now.members in
    let new = c.take.new.self in
    let new_origs = c.take.new.origs.members in
    let new_zeros = c.take.new.zeros.members in
    let into = c.read.new.into in
    let more : r.steps < place_count r.pages = not_over r origs zeros c.over.result c.requires.ready c.if-over.false c.over.ensures.over.1 in
    let block_is : c.self.inside.block ≡ r.block = ap (λ (x : Reading). x.block) c.self.view_is in
    let read = on_ok c.read.result _ (sym c.is_err.ensures.value ∙ c.if-is_err.false) c.read.ensures.bytes in
    let page_is : into ≡ disk.block v (place_block h v (place t)) = read_as h v check r t origs zeros _ into reading c.requires.ready more reads (at_block _ into c.self.inside.block r.block block_is read) in
    let gives : Gives h v check t c.take.result new new_origs new_zeros = c.take.ensures.gives h v check t reading page_is zones_is compares in
    elim c.match-take.branch [
      | in-Ok-Some w ↦
          let pfn = w.in-Ok-Some.pfn in
          let here : Gives h v check t (Ok (Some pfn)) new new_origs new_zeros = subst (λ (x : Result (Option ℕ) Cause). Gives h v check t x new new_origs new_zeros) (w.in-Ok-Some.is ∙ ap Ok w.in-Ok-Some.field-0-is) gives in
          subst (λ (s : ReadStep). Answers h v check t s r new new_origs new_zeros into) (sym w.result-is) (answers_page h v check t pfn r new new_origs new_zeros into page_is here)
      | in-Ok-None w ↦
          let here : Gives h v check t (Ok None) new new_origs new_zeros = subst (λ (x : Result (Option ℕ) Cause). Gives h v check t x new new_origs new_zeros) (w.in-Ok-None.is ∙ ap Ok w.in-Ok-None.field-0-is) gives in
          subst (λ (s : ReadStep). Answers h v check t s r new new_origs new_zeros into) (sym w.result-is) (answers_more h v check t c.self-2.inside.steps r new new_origs new_zeros into (ap (λ (x : Reading). x.steps) c.self-2.view_is) here)
      | in-Err w ↦
          let here : Gives h v check t (Err w.in-Err.cause) new new_origs new_zeros = subst (λ (x : Result (Option ℕ) Cause). Gives h v check t x new new_origs new_zeros) w.in-Err.is gives in
          subst (λ (s : ReadStep). Answers h v check t s r new new_origs new_zeros into) (sym w.result-is) here
    ]

pub returns-clause-goes_on : goal.returns-clause-goes_on
returns-clause-goes_on g c =
    let r = c.args.self.now in
    let origs = c.args.origs.now.members in
    let zeros = c.args.zeros.now.members in
    let new = c.take.new.self in
    let new_origs = c.take.new.origs.members in
    let new_zeros = c.take.new.zeros.members in
    let more : r.steps < place_count r.pages = not_over r origs zeros c.over.result c.requires.ready c.if-over.false c.over.ensures.over.1 in
    let short : IsShort r.pages = subst (λ (x : Reading). IsShort x.pages) c.self.view_is c.self.invariant in
    elim c.match-take.branch [
      | in-Ok-Some w ↦
          let ready = subst (λ (x : Result (Option ℕ) Cause). IfOk x (λ frame. IsReady new new_origs new_zeros)) w.in-Ok-Some.is c.take.ensures.ready in
          let counted = subst (λ (x : Result (Option ℕ) Cause). IfOk x (λ frame. new.steps ≡ r.steps + 1)) w.in-Ok-Some.is c.take.ensures.counted in
          subst (λ (s : ReadStep). GoesOn s r new new_origs new_zeros) (sym w.result-is) (goes_on_page w.in-Ok-Some.pfn r new new_origs new_zeros more short ready counted)
      | in-Ok-None w ↦
          let ready = subst (λ (x : Result (Option ℕ) Cause). IfOk x (λ frame. IsReady new new_origs new_zeros)) w.in-Ok-None.is c.take.ensures.ready in
          let counted = subst (λ (x : Result (Option ℕ) Cause). IfOk x (λ frame. new.steps ≡ r.steps + 1)) w.in-Ok-None.is c.take.ensures.counted in
          subst (λ (s : ReadStep). GoesOn s r new new_origs new_zeros) (sym w.result-is) (goes_on_more c.self-2.inside.steps r new new_origs new_zeros more short ready counted)
      | in-Err w ↦ subst (λ (s : ReadStep). GoesOn s r new new_origs new_zeros) (sym w.result-is) tt
    ]
