use Rattle.std.proofs.Common.{◌≡◌, ◌+◌, ◌*◌, Result, refl, subst, arith}
use Rattle.image_walk.specs.declared.visit.BlockFault.{BlockFault}
use Rattle.image_walk.specs.declared.visit.Visit.{Visit}
use Rattle.image_walk.specs.declared.visit.Visit.TheVariants as visit
use Rattle.image_walk.specs.Walking.{StepsTo}
use Rattle.expanded_disk.specs.declared.units.chain.Chain.{Chain}
use Rattle.expanded_disk.proofs.ChainSteps.{goes_on}
use Rattle.expanded_disk.proofs.ChainAnswers.{count_by, gives_page, goes_map}
use Rattle.expanded_disk.proofs.units.chain.Chain.read_name.Goals as goal

pub unreachable-requires : goal.unreachable-requires
unreachable-requires g c =
    let s = c.requires.stands in
    let over = c.in-None.ensures.end c.args.self.now.first s.history s.follows in
    let on = goes_on s.history s.read.all in
    cc

pub returns-in_ok-add_block-in-Ok-clause-read : goal.returns-in_ok-add_block-in-Ok-clause-read
returns-in_ok-add_block-in-Ok-clause-read g c =
    let content = g.K.Original.state.content in
    let old = c.args.self.now in
    let s = c.requires.stands in
    let then = (g.B.ReadOnly.state c.args.source.now.below).faults in
    let now = (g.B.ReadOnly.state c.step.new.self.below).faults in
    let map = c.in-Some-Map.map in
    let block = c.in-Some-Map.block in
    let page = c.step.new.page in
    let seen = subst (λ (v : Visit). StepsTo old.first content then now s.history old.walker c.step.new.walker v page) c.in-Some-Map.field-0-is (c.in-Some-Map.ensures.step old.first s.history s.follows) in
    let step = subst (λ (a : Result (Unit {0}) BlockFault). StepsTo old.first content then now s.history old.walker c.step.new.walker (visit.Map map block a) page) c.in-Ok.is seen in
    let new : Chain = record { walker = c.step.new.walker; first = old.first; maps = c.add_block.new.maps; count = old.count } in
    goes_map content c.args.pages g.K.Original.state.faults then now old new s map block c.in-Ok.field-0 page
    (record { limits = c.step.ensures.limits; first = refl }) refl c.in_ok-add_block-in-Ok.ensures step

pub returns-in-Ok-answer-clause-read : goal.returns-in-Ok-answer-clause-read
returns-in-Ok-answer-clause-read g c =
    let content = g.K.Original.state.content in
    let old = c.args.self.now in
    let s = c.requires.stands in
    let then = (g.B.ReadOnly.state c.args.source.now.below).faults in
    let now = (g.B.ReadOnly.state c.step.new.self.below).faults in
    let map = c.in-Some-Entry.map in
    let at = c.in-Some-Entry.at in
    let entry = c.in-Some-Entry.entry in
    let page = c.step.new.page in
    let seen = subst (λ (v : Visit). StepsTo old.first content then now s.history old.walker c.step.new.walker v page) c.in-Some-Entry.field-0-is (c.in-Some-Entry.ensures.step old.first s.history s.follows) in
    let step = subst (λ (a : Result (Unit {0}) BlockFault). StepsTo old.first content then now s.history old.walker c.step.new.walker (visit.Entry map at entry c.in-Some-Entry.field-0-3 a) page) c.in-Ok-answer.is seen in
    let count : 511 * c.saturating_sub.result + c.from-in-Ok-answer.result + 1 ≡ old.count + 1 =
    omega (arith, c.saturating_sub.ensures, c.from.ensures, c.from-in-Ok-answer.ensures, count_by content old s map entry step.seen.next.0 step.place.0 step.place.2) in
    let new : Chain = record {
      walker = c.step.new.walker;
      first = old.first;
      maps = old.maps;
      count = 511 * c.saturating_sub.result + c.from-in-Ok-answer.result + 1;
    } in
    gives_page content c.args.pages g.K.Original.state.faults then now old new s map at entry c.in-Some-Entry.field-0-3 c.in-Ok-answer.field-0 page
    (record { limits = c.step.ensures.limits; first = refl }) count refl step
