use Rattle.std.proofs.Common.{◌≤◌, ◌<◌, ℕ, ◌+◌, List, ◌++◌, length, take, drop, ap, sym, ◌∙◌, arith}
use Rattle.definitions.specs.NumberPages.{meta_of}
use Rattle.definitions.specs.Zones.{top}
use Rattle.stream_out.proofs.Kept.{over, pages, head_part, data_part, head_within, data_within, kept_in_head}
use Rattle.frame_sets.proofs.Bounds.{few_members}
use Rattle.stream_out.proofs.Streams.{all_within, part_fits, part_bytes, part_left}
use Rattle.stream_out.proofs.stream.StreamOut.next_of_page.Goals as goal

pub overflow_add-heads : goal.overflow_add-heads
overflow_add-heads c =
    let most = few_members c.self.inside.saveable.now c.len-n.ensures.set in
    let len = c.len-n.ensures.len in
    let heads = c.head_pages-heads.ensures in
    record { fits = omega arith }

pub returns-then-self-heads-clause-over : goal.returns-then-self-heads-clause-over
returns-then-self-heads-clause-over c _ =
    let len = c.len-n.ensures.len in
    let heads = c.head_pages-heads.ensures in
    let end = c.if-self-heads.true in
    sym c.self.view_is ∙ over c.self.inside c.self.invariant (omega arith)

pub invariant_of-self : goal.invariant_of-self
invariant_of-self c =
    let s = c.self.inside in
    let kept = c.self.invariant in
    let heads = c.head_pages-heads.ensures in
    let len = c.len-n.ensures.len in
    let count = c.hand_out_head.result in
    let new = c.hand_out_head.new.cursor in
    let lt : s.cursor.page < meta_of (length s.saveable.now.members) + 1 = let at = c.if-self-heads-2.true in omega (arith, ap meta_of len) in
    let part = head_part s kept new c.args.into.now c.hand_out_head.new.into count c.hand_out_head.ensures.part in
    kept_in_head s kept new c.hand_out_head.new.head c.args.into.now c.hand_out_head.new.into count lt part c.hand_out_head.ensures.made c.hand_out_head.ensures.from

pub returns-then-self-heads-2-clause-were_left : goal.returns-then-self-heads-2-clause-were_left
returns-then-self-heads-2-clause-were_left c =
    let s = c.self.inside in
    let kept = c.self.invariant in
    let heads = c.head_pages-heads.ensures in
    let len = c.len-n.ensures.len in
    let count = c.hand_out_head.result in
    let new = c.hand_out_head.new.cursor in
    let lt : s.cursor.page < meta_of (length s.saveable.now.members) + 1 = let at = c.if-self-heads-2.true in omega (arith, ap meta_of len) in
    let part = head_part s kept new c.args.into.now c.hand_out_head.new.into count c.hand_out_head.ensures.part in
    let fits = part_fits (pages s kept) s.cursor new c.args.into.now c.hand_out_head.new.into count (head_within s kept lt) part in
    omega (arith, ap length c.self.view_is)

pub returns-then-self-heads-2-clause-bytes : goal.returns-then-self-heads-2-clause-bytes
returns-then-self-heads-2-clause-bytes c =
    let s = c.self.inside in
    let kept = c.self.invariant in
    let heads = c.head_pages-heads.ensures in
    let len = c.len-n.ensures.len in
    let count = c.hand_out_head.result in
    let new = c.hand_out_head.new.cursor in
    let lt : s.cursor.page < meta_of (length s.saveable.now.members) + 1 = let at = c.if-self-heads-2.true in omega (arith, ap meta_of len) in
    let part = head_part s kept new c.args.into.now c.hand_out_head.new.into count c.hand_out_head.ensures.part in
    part_bytes (pages s kept) s.cursor new c.args.into.now c.hand_out_head.new.into count (head_within s kept lt) part ∙ ap (λ (xs : List ℕ). take count xs ++ drop count c.args.into.now) c.self.view_is

pub returns-then-self-heads-2-clause-left : goal.returns-then-self-heads-2-clause-left
returns-then-self-heads-2-clause-left c =
    let s = c.self.inside in
    let kept = c.self.invariant in
    let heads = c.head_pages-heads.ensures in
    let len = c.len-n.ensures.len in
    let count = c.hand_out_head.result in
    let new = c.hand_out_head.new.cursor in
    let lt : s.cursor.page < meta_of (length s.saveable.now.members) + 1 = let at = c.if-self-heads-2.true in omega (arith, ap meta_of len) in
    let part = head_part s kept new c.args.into.now c.hand_out_head.new.into count c.hand_out_head.ensures.part in
    part_left (pages s kept) s.cursor new c.args.into.now c.hand_out_head.new.into count (head_within s kept lt) part ∙ ap (drop count) c.self.view_is

pub returns-else-self-heads-2-clause-were_left : goal.returns-else-self-heads-2-clause-were_left
returns-else-self-heads-2-clause-were_left c =
    let s = c.self.inside in
    let kept = c.self.invariant in
    let heads = c.head_pages-heads.ensures in
    let len = c.len-n.ensures.len in
    let count = c.hand_out_data.result in
    let new = c.hand_out_data.new.cursor in
    let page = kept.page in
    let other = c.if-self-heads.false in
    let le : meta_of (length s.saveable.now.members) + 1 ≤ s.cursor.page = let at = c.if-self-heads-2.false in omega (arith, ap meta_of len) in
    let lt : s.cursor.page < meta_of (length s.saveable.now.members) + 1 + length s.saveable.now.members = omega (arith, ap meta_of len) in
    let part = data_part s kept new c.args.into.now c.hand_out_data.new.into count le lt c.hand_out_data.ensures.part in
    let fits = part_fits (pages s kept) s.cursor new c.args.into.now c.hand_out_data.new.into count (data_within s kept lt) part in
    omega (arith, ap length c.self.view_is)

pub returns-else-self-heads-2-clause-bytes : goal.returns-else-self-heads-2-clause-bytes
returns-else-self-heads-2-clause-bytes c =
    let s = c.self.inside in
    let kept = c.self.invariant in
    let heads = c.head_pages-heads.ensures in
    let len = c.len-n.ensures.len in
    let count = c.hand_out_data.result in
    let new = c.hand_out_data.new.cursor in
    let page = kept.page in
    let other = c.if-self-heads.false in
    let le : meta_of (length s.saveable.now.members) + 1 ≤ s.cursor.page = let at = c.if-self-heads-2.false in omega (arith, ap meta_of len) in
    let lt : s.cursor.page < meta_of (length s.saveable.now.members) + 1 + length s.saveable.now.members = omega (arith, ap meta_of len) in
    let part = data_part s kept new c.args.into.now c.hand_out_data.new.into count le lt c.hand_out_data.ensures.part in
    part_bytes (pages s kept) s.cursor new c.args.into.now c.hand_out_data.new.into count (data_within s kept lt) part ∙ ap (λ (xs : List ℕ). take count xs ++ drop count c.args.into.now) c.self.view_is

pub returns-else-self-heads-2-clause-left : goal.returns-else-self-heads-2-clause-left
returns-else-self-heads-2-clause-left c =
    let s = c.self.inside in
    let kept = c.self.invariant in
    let heads = c.head_pages-heads.ensures in
    let len = c.len-n.ensures.len in
    let count = c.hand_out_data.result in
    let new = c.hand_out_data.new.cursor in
    let page = kept.page in
    let other = c.if-self-heads.false in
    let le : meta_of (length s.saveable.now.members) + 1 ≤ s.cursor.page = let at = c.if-self-heads-2.false in omega (arith, ap meta_of len) in
    let lt : s.cursor.page < meta_of (length s.saveable.now.members) + 1 + length s.saveable.now.members = omega (arith, ap meta_of len) in
    let part = data_part s kept new c.args.into.now c.hand_out_data.new.into count le lt c.hand_out_data.ensures.part in
    part_left (pages s kept) s.cursor new c.args.into.now c.hand_out_data.new.into count (data_within s kept lt) part ∙ ap (drop count) c.self.view_is

pub hand_out_data-requires-clause-few : goal.hand_out_data-requires-clause-few
hand_out_data-requires-clause-few c =
    let most = few_members c.self.inside.saveable.now c.len-n.ensures.set in
    let page = c.self.invariant.page in
    omega arith

pub hand_out_data-requires-clause-within : goal.hand_out_data-requires-clause-within
hand_out_data-requires-clause-within c =
    all_within c.self.inside.saveable.now (length c.self.inside.frames.now) c.len-n.ensures.set (c.self.invariant.frames ∙ sym (ap top c.self.invariant.saveable.zones))
