use Rattle.std.proofs.lemmas.Bool.{both_ways}
use Rattle.machine.proofs.AreaBadSlots.{decides_bad_slots}
use Rattle.machine.proofs.tables.has_bad_slots.Goals as goal

pub returns-then-are_named : goal.returns-then-are_named
returns-then-are_named c =
    decides_bad_slots c.args.hw.now c.args.frames.now c.args.area.now c.named_are_bad.result
    (λ e. (c.are_named.ensures.0 c.if-are_named.true, c.named_are_bad.ensures.0 e)) (λ named bad. c.named_are_bad.ensures.1 bad)

pub returns-else-are_named : goal.returns-else-are_named
returns-else-are_named c =
    decides_bad_slots c.args.hw.now c.args.frames.now c.args.area.now c.are_named.result
    (λ e. absurd (both_ways c.are_named.result c.if-are_named.false e)) (λ named bad. c.are_named.ensures.1 named)
