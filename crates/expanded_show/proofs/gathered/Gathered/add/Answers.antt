use Rattle.std.proofs.Common.{◌∷◌, [], sym, append-nil}
use Rattle.expanded_disk.proofs.Loads.{on_ok_map}
use Rattle.expanded_show.proofs.Blocks.{gathered_one}
use Rattle.expanded_show.proofs.gathered.Gathered.add.Goals as goal

pub returns-in-Some-clause-added : goal.returns-in-Some-clause-added
returns-in-Some-clause-added c = λ numbers g.
    on_ok_map c.push.result
    (λ facts. gathered_one numbers c.args.block c.args.self.now (record { runs = c.add.new.self; facts = c.push.new.facts }) ((c.in-Some.start, c.in-Some.count) ∷ []) (c.in-Some.ensures.runs numbers) facts g)
    c.push.ensures

pub returns-in-None-clause-added : goal.returns-in-None-clause-added
returns-in-None-clause-added c = λ numbers g.
    gathered_one numbers c.args.block c.args.self.now (record { runs = c.add.new.self; facts = c.args.self.now.facts }) [] (c.in-None.ensures.runs numbers)
    (sym (append-nil c.args.self.now.facts.items)) g
