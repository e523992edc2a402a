use Rattle.std.proofs.Common.{List, OnOk, ◌∙◌, subst}
use Rattle.std.specs.List.{flat_map}
use Rattle.definitions.specs.Streams.{TakesAll, TakesFront}
use Rattle.dump_tools.specs.Texts.{facts_text, line_text}
use Rattle.dump_tools.specs.declared.facts.fact.Fact.{Fact}
use Rattle.dump_tools.proofs.shown.show.Goals as goal

pub returns-clause-whole : goal.returns-clause-whole
unfolding facts_text
returns-clause-whole g c =
    let taken = g.S.Sink.taken in
    subst (λ (facts : List Fact). OnOk c.print.result (TakesAll (flat_map line_text facts) (taken c.args.sink.now) (taken c.print.new.sink)))
    (c.as_slice.ensures ∙ c.facts_of.ensures) c.print.ensures.whole

pub returns-clause-front : goal.returns-clause-front
unfolding facts_text
returns-clause-front g c =
    let taken = g.S.Sink.taken in
    subst (λ (facts : List Fact). TakesFront (flat_map line_text facts) (taken c.args.sink.now) (taken c.print.new.sink))
    (c.as_slice.ensures ∙ c.facts_of.ensures) c.print.ensures.front
