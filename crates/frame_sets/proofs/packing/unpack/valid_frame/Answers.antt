use Rattle.std.proofs.Common.{arith, rules}
use Rattle.definitions.specs.Zones.{numbers}
use Rattle.definitions.proofs.ZoneNumbers.{below_top}
use Rattle.frame_sets.proofs.PackedMembers.{list_any-member, member-list_any}
use Rattle.frame_sets.proofs.packing.unpack.valid_frame.Goals as goal

pub returns-then-number-from-clause-valid : goal.returns-then-number-from-clause-valid
returns-then-number-from-clause-valid c = (
  λ no. cc,
  λ any.
      let zones = c.args.zones.now in
      let low = below_top zones c.args.number c.top.ensures.zones.apart (member-list_any c.args.number (numbers zones) any) in
      absurd (omega arith),
)

pub returns-else-valid-clause-valid : goal.returns-else-valid-clause-valid
returns-else-valid-clause-valid c = (
  λ no. cc,
  λ any. let in' = c.valid.ensures.valid.1 (member-list_any c.args.number (numbers c.args.zones.now) any) in cc,
)

pub returns-then-valid-clause-valid : goal.returns-then-valid-clause-valid
returns-then-valid-clause-valid c = (
  λ yes. list_any-member c.args.number (numbers c.args.zones.now) (c.valid.ensures.valid.0 c.if-valid.true),
  λ any. search rules,
)
