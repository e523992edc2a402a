use Rattle.std.proofs.Common.{◌≡◌, ℕ, ◌<◌, ◌≤◌, length, take, map, All, rules, sym, ap, ◌∙◌, subst}
use Rattle.definitions.specs.ZoneFacts.{AreApart}
use Rattle.definitions.specs.Tables.{frame}
use Rattle.definitions.specs.Tables.{saveable_frames, free_frames}
use Rattle.frame_sets.specs.FrameSet.{FrameSet}
use Rattle.snapshot.specs.Taken.{Taken}
use Rattle.snapshot.proofs.Copying.{ready, pages_copied, pages_kept}
use Rattle.snapshot.proofs.Snapshot.copy.Goals as goal

pub copy_all-requires : goal.copy_all-requires
copy_all-requires c =
    let frames = c.args.frames.now in
    let zones = c.args.zones.now in
    let table = c.args.table in
    let origs = c.self.inside.origs.members in
    let copies = c.pick.new.set.members in
    let free = free_frames zones table frames in
    let origs_are : origs ≡ saveable_frames zones table frames = ap (λ (t : Taken). t.origs) c.self.view_is ∙ c.requires.counted in
    let zones_are : c.self.inside.origs.zones ≡ zones = ap (λ (t : Taken). t.zones) c.self.view_is ∙ c.requires.zones in
    let in_order : AreApart zones = subst AreApart zones_are c.len-n.ensures.set.zones.apart in
    let room : length origs ≤ length free = subst (λ (t : Taken). length t.origs ≤ length free) (sym c.self.view_is) c.requires.room in
    let copies_are : copies ≡ take c.len-n.result free = ap (λ (set : FrameSet). set.members) c.pick.ensures in
    let ready_is = ready zones table frames origs copies c.len-n.result in_order c.requires.within origs_are c.len-n.ensures.len room copies_are in
    record {
      equal = ready_is.equal;
      disjoint = ready_is.disjoint;
      origs_within = ready_is.origs_within;
      copies_within = ready_is.copies_within;
    }

pub returns : goal.returns
returns c =
    let frames = c.args.frames.now in
    let zones = c.args.zones.now in
    let table = c.args.table in
    let origs = c.self.inside.origs.members in
    let copies = c.pick.new.set.members in
    let free = free_frames zones table frames in
    let origs_are : origs ≡ saveable_frames zones table frames = ap (λ (t : Taken). t.origs) c.self.view_is ∙ c.requires.counted in
    let zones_are : c.self.inside.origs.zones ≡ zones = ap (λ (t : Taken). t.zones) c.self.view_is ∙ c.requires.zones in
    let in_order : AreApart zones = subst AreApart zones_are c.len-n.ensures.set.zones.apart in
    let room : length origs ≤ length free = subst (λ (t : Taken). length t.origs ≤ length free) (sym c.self.view_is) c.requires.room in
    let copies_are : copies ≡ take c.len-n.result free = ap (λ (set : FrameSet). set.members) c.pick.ensures in
    let ready_is = ready zones table frames origs copies c.len-n.result in_order c.requires.within origs_are c.len-n.ensures.len room copies_are in
    let new = c.copy_all.new.frames in
    record {
      sets = search rules;
      copied = pages_copied origs copies frames new ready_is.equal c.copy_all.ensures ∙ ap (λ (t : Taken). map (frame frames) t.origs) c.self.view_is;
      originals = subst (λ (t : Taken). map (frame new) t.origs ≡ map (frame frames) t.origs) c.self.view_is (pages_kept origs copies frames new ready_is.disjoint c.copy_all.ensures);
      others = c.copy_all.ensures.others;
      size = c.copy_all.ensures.size;
      writable = record {
        paired = sym ready_is.equal;
        disjoint = ready_is.disjoint;
        below = subst (λ (size : ℕ). All (λ p. p < size) copies) (sym c.copy_all.ensures.size) ready_is.copies_within;
      };
    }
