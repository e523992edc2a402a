-- A plan to which a page frame is added.
use Rattle.std.proofs.Common.{◌≡◌, ◌<◌, ℕ, List, sym, ap, subst, ◌∙◌}
use Rattle.std.proofs.lemmas.List.Elements.{All-contains}
use Rattle.std.specs.List.{Contains}
use Rattle.definitions.specs.FrameSets.{inserted}
use Rattle.definitions.specs.Zones.{numbers, top}
use Rattle.definitions.specs.ZoneFacts.{AreZones}
use Rattle.definitions.proofs.ZoneNumbers.{below_top}
use Rattle.frame_sets.specs.FrameSet.{FrameSet, IsFrameSet}
use Rattle.plain_machine.specs.Machine.{Hardware}
use Rattle.image_machine.specs.Plans.{IsPlan}
use Rattle.image_machine.specs.declared.plan.Plan.{Plan}
use Rattle.image_machine.proofs.Sets.{one_added}

pub plan_added : (plan : Plan) (p : ℕ) (saved : FrameSet) → IsPlan plan → Contains (numbers plan.zones) p →
    saved ≡ record plan.saved { members = inserted plan.saved.members p } → IsPlan (record plan { saved = saved })
plan_added plan p saved is valid e = record {
  small = is.small;
  zones = is.zones;
  same = ap (λ (s : FrameSet). s.zones) e ∙ is.same;
  set = subst IsFrameSet (sym e) (one_added plan.saved p is.set (subst (λ (zs : List (ℕ × ℕ)). Contains (numbers zs) p) (sym is.same) valid));
  pages = is.pages;
  header = is.header;
}

pub plan_zones : (plan : Plan) → IsPlan plan → AreZones plan.zones
plan_zones plan is = subst AreZones is.same is.set.zones

pub valid_below : (plan : Plan) (p : ℕ) → IsPlan plan → Contains (numbers plan.zones) p → p < top plan.zones
valid_below plan p is valid = below_top plan.zones p (plan_zones plan is).apart valid

-- a member of a set of page frames of a machine's zones is valid
pub valid_member : (saved : FrameSet) (h : Hardware) (p : ℕ) → IsFrameSet saved → saved.zones ≡ h.zones → Contains saved.members p → Contains (numbers h.zones) p
valid_member saved h p set zones in' =
    subst (λ (zs : List (ℕ × ℕ)). Contains (numbers zs) p) zones
    (All-contains (Contains (numbers saved.zones)) saved.members p set.valid in')
