use Rattle.swap_slots.proofs.Ordered.{in_order, apart_from}
use Rattle.swap_slots.proofs.file_map.is_in_order.Goals as goal

pub returns-then-follows : goal.returns-then-follows
returns-then-follows c =
    let extents = c.args.extents.now in
    let i = c.args.i in (
      λ yes. in_order extents i c.args.end c.requires.within c.requires.end (c.follows.ensures.0 c.if-follows.true) (c.lies_apart.ensures.0 yes),
      λ h. c.lies_apart.ensures.1 (apart_from extents i c.requires.within h),
    )
