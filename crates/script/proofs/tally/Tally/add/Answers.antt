use Rattle.std.proofs.Common.{◌+◌, ◌%◌, Bool, cond, ap, sym, ◌∙◌, arith}
use Rattle.script.specs.Drill.{is_hibernated}
use Rattle.script.proofs.TallyLaws.{as_bit, at_most_one, tally, no_word_more, word_more, within}
use Rattle.script.proofs.tally.Tally.add.Goals as goal

pub overflow_add-self : goal.overflow_add-self
overflow_add-self c = let is = within c.requires.0 c.args.self.now c.requires.1 in let events = is.events in let few = c.requires.2 in omega arith

pub overflow_add-self-2 : goal.overflow_add-self-2
overflow_add-self-2 c = let is = within c.requires.0 c.args.self.now c.requires.1 in let most = is.hibernated in let few = c.requires.2 in let one = at_most_one c.from.result c.is_hibernated.result c.from.ensures in omega arith

pub overflow_add-self-3 : goal.overflow_add-self-3
overflow_add-self-3 c = let is = within c.requires.0 c.args.self.now c.requires.1 in let most = is.resumed in let few = c.requires.2 in let one = at_most_one c.from-2.result c.is_resumed.result c.from-2.ensures in omega arith

pub overflow_add-self-in-Some : goal.overflow_add-self-in-Some
overflow_add-self-in-Some c = let is = within c.requires.0 c.args.self.now c.requires.1 in let most = is.words in let few = c.requires.2 in omega arith

pub returns-in-Some : goal.returns-in-Some
returns-in-Some c = λ rs is.
    let old = c.args.self.now in
    let h = as_bit c.from.result c.is_hibernated.result c.from.ensures ∙ ap (λ (b : Bool). cond b 1 0) c.is_hibernated.ensures in
    let r = as_bit c.from-2.result c.is_resumed.result c.from-2.ensures ∙ ap (λ (b : Bool). cond b 1 0) c.is_resumed.ensures in
    ap (λ n. tally (old.events + 1) (old.hibernated + n) (old.resumed + c.from-2.result) (old.words + 1) ((old.sum + c.in-Some.value) % 18446744073709551616)) h
    ∙ ap (λ n. tally (old.events + 1) (old.hibernated + cond (is_hibernated c.args.reply.now) 1 0) (old.resumed + n) (old.words + 1) ((old.sum + c.in-Some.value) % 18446744073709551616)) r
    ∙ word_more rs c.args.reply.now c.in-Some.value old is (sym c.in-Some.ensures)

pub returns-in_default : goal.returns-in_default
returns-in_default c = λ rs is.
    let old = c.args.self.now in
    let h = as_bit c.from.result c.is_hibernated.result c.from.ensures ∙ ap (λ (b : Bool). cond b 1 0) c.is_hibernated.ensures in
    let r = as_bit c.from-2.result c.is_resumed.result c.from-2.ensures ∙ ap (λ (b : Bool). cond b 1 0) c.is_resumed.ensures in
    ap (λ n. tally (old.events + 1) (old.hibernated + n) (old.resumed + c.from-2.result) old.words old.sum) h
    ∙ ap (λ n. tally (old.events + 1) (old.hibernated + cond (is_hibernated c.args.reply.now) 1 0) (old.resumed + n) old.words old.sum) r
    ∙ no_word_more rs c.args.reply.now old is (sym c.in_default.ensures)
