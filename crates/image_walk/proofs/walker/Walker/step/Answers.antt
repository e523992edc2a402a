use Rattle.std.proofs.Common.{ℕ, List, ◌∷◌, length, Option, sym, subst, ap, ◌∙◌}
use Rattle.std.proofs.lemmas.Option.{IfSome_then}
use Rattle.image_walk.specs.Names.{IsAnswer, fault_of, seen}
use Rattle.image_walk.specs.Walking.{Stands, name_of}
use Rattle.image_walk.specs.declared.visit.BlockFault.{BlockFault}
use Rattle.image_walk.proofs.Stepping.{lent_back, seen_by}
use Rattle.image_walk.proofs.walker.Walker.step.Goals as goal

pub returns-clause-step : goal.returns-clause-step
returns-clause-step g c = IfSome_then c.take.result c.take.ensures.step (λ v taken first h f.
    let self = c.args.self.now in
    let l = self.limits in
    let n = c.in_ok-asked.asked in
    let told = c.look-answer.result in
    let page = c.look-answer.new.into in
    let before : Stands l first self.walk c.deref.result.now h = subst (λ (x : List ℕ). Stands l first self.walk x h) (sym c.deref.ensures.value) f in
    let lent : Stands l first self.walk c.deref_mut.result.now h = subst (λ (x : List ℕ). Stands l first self.walk x h) (sym c.deref_mut.ensures.value) f in
    let answer : IsAnswer (fault_of l h n.block) n.block (seen told page) =
    subst (λ (x : Option BlockFault). IsAnswer x n.block (seen told page)) (c.in_ok-asked.ensures.asked first h before) c.look-answer.ensures.answer in
    let t = taken first n.block h lent c.in_ok-asked.ensures.block answer in
    record {
      seen = seen_by l first _ _ _ h n.block told self.walk c.take.new.self c.take.new.named v page t c.look-answer.ensures.page c.look-answer.ensures.unread;
      place = t.place;
      follows = subst (λ (x : List ℕ). Stands l first c.take.new.self x (name_of v page ∷ h))
          (sym (lent_back self.named.len self.named.items c.take.new.named self.named.ok.0 (c.take.ensures.room ∙ ap length c.deref_mut.ensures.value))) t.stands;
      fewer = t.fewer;
    })
