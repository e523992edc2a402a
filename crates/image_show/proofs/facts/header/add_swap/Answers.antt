use Rattle.std.proofs.Common.{◌≡◌, ℕ, List, [], ◌∷◌, ◌++◌, length, map, min, take, sym, ap, ◌∙◌, rules}
use Rattle.std.proofs.lemmas.List.{take_min}
use Rattle.definitions.specs.Bytes.{bytes_at}
use Rattle.byte_streams.proofs.Joined.{four_parts}
use Rattle.image_show.specs.HeaderFacts.{label_facts}
use Rattle.image_show.specs.declared.facts.fact.Fact.TheVariants as fact
use Rattle.image_show.proofs.facts.header.add_swap.Goals as goal

-- the first of a list, of no more than it has
take_within : (count : ℕ) (bad : List ℕ) → length bad ≡ 630 → take (min count 630) bad ≡ take count bad
take_within count bad size = ap (λ (n : ℕ). take (min count n) bad) (sym size) ∙ take_min count bad

pub returns-clause-added : goal.returns-clause-added
returns-clause-added c =
    let area = c.args.area.now in
    let page = c.args.page.now in
    let whole : length area.bad ≡ 630 = search rules in
    let listed : take c.min-count.result area.bad ≡ take area.count area.bad =
    ap (λ (n : ℕ). take n area.bad) c.min-count.ensures ∙ take_within area.count area.bad whole in
    four_parts (fact.AreaSwap ∷ fact.LastPage area.last ∷ fact.BadPages area.count ∷ []) (map fact.BadPage (take area.count area.bad))
    (fact.Uuid (bytes_at 16 page 1036) ∷ []) (label_facts (bytes_at 16 page 1052))
    c.args.facts.now c.add_all.new.self c.add_bad_pages.new.facts c.add.new.self c.add_label.new.facts
    c.add_all.ensures.added
    (c.add_bad_pages.ensures.added ∙ ap (λ (bad : List ℕ). c.add_all.new.self ++ map fact.BadPage bad) listed)
    (c.add.ensures.added ∙ ap (λ (uuid : List ℕ). c.add_bad_pages.new.facts ++ fact.Uuid uuid ∷ []) c.sixteen_bytes.ensures)
    (c.add_label.ensures.added ∙ ap (λ (label : List ℕ). c.add.new.self ++ label_facts label) c.sixteen_bytes-2.ensures)
