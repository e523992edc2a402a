-- What is known of an image's machine while the numbers of its saved page frames are read.
use Rattle.std.specs.Prelude.{◌≡◌, ◌≤◌, length}
use Rattle.definitions.specs.Slots.{extent_at}
use Rattle.definitions.specs.Zones.{numbers}
use Rattle.frame_sets.specs.FrameSet.{IsFrameSet}
use Rattle.image_machine.specs.Layouts.{extents_of, zones_of}
use Rattle.image_machine.specs.declared.heading.Heading.{Heading}
use Rattle.image_machine.specs.declared.plan.Plan.{Plan}

-- neither the memory nor the area is larger than a machine allows
pub record IsSmall (heading : Heading) : Type 0 where
  pub memory : heading.physpages ≤ 65536
  pub slots : heading.area.last ≤ 131071

-- the heading and the layout violate no limit so far
pub record IsPlan (plan : Plan) : Type 0 where
  pub small : IsSmall plan.heading
  pub zones : plan.zones ≡ zones_of plan.heading plan.layout
  pub same : plan.saved.zones ≡ plan.zones
  pub set : IsFrameSet plan.saved
  pub pages : length (numbers plan.zones) ≡ plan.heading.physpages
  pub header : (extent_at (extents_of plan.heading plan.layout) 0).2 ≡ plan.layout.offset
