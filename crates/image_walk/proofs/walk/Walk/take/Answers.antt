use Rattle.std.proofs.Common.{◌<◌, OnErr, ◌≡◌, ◌+◌, subst, sym, ap, ◌∙◌, arith}
use Rattle.std.proofs.lemmas.Option.{same_Some}
use Rattle.image_walk.specs.Names.{map_at, page_at, seen}
use Rattle.image_walk.specs.Walking.{Takes, after_map, unread_left}
use Rattle.image_walk.specs.declared.visit.Visit.{Visit}
use Rattle.image_walk.specs.declared.visit.Visit.TheVariants as visit
use Rattle.image_walk.specs.declared.walk.Walk.{Walk}
use Rattle.image_walk.proofs.Taking.{entry_fewer, entry_taken, map_fewer, map_taken}
use Rattle.image_walk.proofs.walk.Walk.take.Goals as goal

pub returns-then-self-lt-ENTRIES-clause-step : goal.returns-then-self-lt-ENTRIES-clause-step
returns-then-self-lt-ENTRIES-clause-step c = λ first b h f asked answer.
    let l = c.args.limits.now in
    let old = c.args.self.now in
    let told = c.args.answer in
    let page = c.args.page.now in
    let words = c.remember.new.named in
    let block = c.in_ok-block.block in
    let same : block ≡ b = same_Some block b (sym c.in_ok-block.was ∙ c.block.ensures ∙ asked) in
    let after : Walk = record old { entry = old.entry + 1 } in
    subst (λ (x : Walk). Takes l first h b told old x words c.take_entry.result page) (sym c.take_entry.ensures.walk)
    (subst (λ (x : Visit). Takes l first h b told old after words x page)
    (sym (c.take_entry.ensures.visit ∙ ap (λ n. visit.Entry old.maps old.at old.entry n told) same))
    (entry_taken l first b h told old c.args.named.now words page c.if-self-lt-ENTRIES.true f asked answer
    (c.remember.ensures.taken h (page_at b (seen told page)) (sym same) f.taken)))

pub returns-else-self-lt-ENTRIES-clause-step : goal.returns-else-self-lt-ENTRIES-clause-step
returns-else-self-lt-ENTRIES-clause-step c = λ first b h f asked answer.
    let l = c.args.limits.now in
    let old = c.args.self.now in
    let told = c.args.answer in
    let page = c.args.page.now in
    let words = c.remember.new.named in
    let block = c.in_ok-block.block in
    let same : block ≡ b = same_Some block b (sym c.in_ok-block.was ∙ c.block.ensures ∙ asked) in
    let after_is : c.take_map.new.self ≡ after_map b told page old =
    c.take_map.ensures.walk ∙ ap (λ n. after_map n told page old) same in
    let visit_is : c.take_map.result ≡ visit.Map (after_map b told page old).maps b told =
    c.take_map.ensures.visit ∙ ap (λ n. visit.Map c.take_map.new.self.maps n told) same
    ∙ ap (λ (k : Walk). visit.Map k.maps b told) after_is in
    subst (λ (x : Walk). Takes l first h b told old x words c.take_map.result page) (sym after_is)
    (subst (λ (x : Visit). Takes l first h b told old (after_map b told page old) words x page) (sym visit_is)
    (map_taken l first b h told old c.args.named.now words page (omega arith) (omega arith) f asked answer
    (c.remember.ensures.taken h (map_at b (seen told page)) (sym same) f.taken)))

pub returns-then-self-lt-ENTRIES-clause-fewer : goal.returns-then-self-lt-ENTRIES-clause-fewer
returns-then-self-lt-ENTRIES-clause-fewer c = λ b asked.
    subst (λ (x : Walk). OnErr c.args.answer (unread_left x < unread_left c.args.self.now)) (sym c.take_entry.ensures.walk)
    (entry_fewer c.args.answer c.args.self.now c.if-self-lt-ENTRIES.true)

pub returns-else-self-lt-ENTRIES-clause-fewer : goal.returns-else-self-lt-ENTRIES-clause-fewer
returns-else-self-lt-ENTRIES-clause-fewer c = λ b asked.
    subst (λ (x : Walk). OnErr c.args.answer (unread_left x < unread_left c.args.self.now)) (sym c.take_map.ensures.walk)
    (map_fewer c.args.answer c.in_ok-block.block b c.args.self.now c.args.page.now (omega arith) asked)
