use Rattle.std.proofs.Common.{◌≡◌, ℕ, List, Option, Some, None, map, length, sym, ap, subst, ◌∙◌, arith}
use Rattle.std.proofs.lemmas.Bool.Decides.{nat_tests}
use Rattle.std.specs.Prelude.{string_bytes, ◌-◌}
use Rattle.command_words.specs.LoaderGiven.{given_by}
use Rattle.command_words.specs.LoaderWords.{Given, options_in}
use Rattle.command_words.proofs.LoaderWalks.{if_none_any, no_more, none_left, none_read, one_read, some_left, too_many}
use Rattle.command_words.proofs.loader.asked.options_in.Goals as goal

pub returns-then-is_empty-clause-given : goal.returns-then-is_empty-clause-given
returns-then-is_empty-clause-given c =
    let k = c.loop.counter in
    let given = given_by c.loop.given in
    let none : length c.loop.rest.now ≡ 0 = grind (arith, nat_tests, c.is_empty.ensures, c.if-is_empty.true) in
    sym c.loop.invariant
    ∙ ap (λ (ws : List (List ℕ)). options_in (83 - k) given ws) (none_left string_bytes c.loop.rest.now none)
    ∙ no_more k given c.loop-test.true

pub returns-in_err-rest-clause-none : goal.returns-in_err-rest-clause-none
returns-in_err-rest-clause-none c =
    let k = c.loop.counter in
    let some : length c.loop.rest.now ≡ 0 → ⊥ = grind (arith, nat_tests, c.is_empty.ensures, c.if-is_empty.false) in
    if_none_any c.from_residual.result (
    sym c.loop.invariant
    ∙ none_read k (given_by c.loop.given) (map string_bytes c.loop.rest.now) c.loop-test.true (some_left string_bytes c.loop.rest.now some) c.in_err-rest.ensures.none
    )

pub loop-preserved : goal.loop-preserved
loop-preserved c =
    let k = c.loop.counter in
    sym (one_read k (given_by c.loop.given) (map string_bytes c.loop.rest.now) (given_by c.read.new.self) (map string_bytes c.in_ok-rest.rest.now) c.loop-test.true c.in_ok-rest.ensures.read)
    ∙ c.loop.invariant

pub returns-clause-none : goal.returns-clause-none
returns-clause-none c =
    let end = c.loop-test.false in
    let k = c.loop.counter in
    let over : 83 - k ≡ 0 = omega arith in
    sym c.loop.invariant
    ∙ ap (λ (n : ℕ). options_in n (given_by c.loop.given) (map string_bytes c.loop.rest.now)) over
    ∙ too_many (given_by c.loop.given) (map string_bytes c.loop.rest.now)
