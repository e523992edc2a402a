-- What a comparison of two images has reported, and what comes next.
use Rattle.std.specs.Prelude.{◌≡◌, ℕ, ◌+◌, ◌<◌, ◌≤◌, List, [], ◌∷◌, ◌++◌, Option, Some, None}
use Rattle.image_pages.specs.SavedFrames.{SavedFrame}
use Rattle.image_pages.specs.Says.{AreAllGiven}
use Rattle.image_pages.specs.Ends.{IsRefused}
use Rattle.image_pages.specs.Opens.{IsBad, IsNoImage}
use Rattle.image_differ.specs.Differences.{Image, differences, frame_differences, no_frame}
use Rattle.image_differ.specs.Headings.{heading_differences}
use Rattle.image_differ.specs.Marks.{IsHeading}
use Rattle.image_differ.specs.Readings.{IsReading, frames_left}
use Rattle.image_differ.specs.Sides.{SideView}
use Rattle.image_differ.specs.declared.begun.Begun.{Begun}
use Rattle.image_differ.specs.declared.begun.Begun.TheVariants as begun
use Rattle.image_differ.specs.declared.comparison.Comparison.{Comparison}
use Rattle.image_differ.specs.declared.comparison.Next.{Next}
use Rattle.image_differ.specs.declared.comparison.Next.TheVariants as next
use Rattle.image_differ.specs.declared.comparison.Opened.{Opened}
use Rattle.image_differ.specs.declared.comparison.Opened.TheVariants as opened
use Rattle.image_differ.specs.declared.difference.Difference.{Difference}
use Rattle.image_differ.specs.declared.side.Which.TheVariants.{First, Second}

-- These differences were reported: those at the first parts of the headings, and then, once all parts were compared,
-- those at the page frames below a number. The page frames that were read of each image are known.
pub record HasCompared (a b : SideView) (c : Comparison) (told : List Difference) : Type 0 where
  pub first_heading : IsHeading a c.first.frames.numbers.info c.one
  pub second_heading : IsHeading b c.second.frames.numbers.info c.two
  pub first_frames : List SavedFrame
  pub second_frames : List SavedFrame
  pub bound : ℕ
  pub first : IsReading a c.first first_frames bound
  pub second : IsReading b c.second second_frames bound
  pub small : bound ≤ no_frame
  pub parts : c.parts ≤ 10
  pub order : c.parts < 10 → bound ≡ 0
  pub is : told ≡ heading_differences c.one c.two c.parts ++ frame_differences first_frames second_frames bound

-- Both images are whole, and exactly their differences were reported.
pub record AreCompared (a a' b b' : SideView) (told : List Difference) : Type 0 where
  pub first : Image
  pub second : Image
  pub first_info : List ℕ
  pub second_info : List ℕ
  pub first_heading : IsHeading a first_info first.heading
  pub second_heading : IsHeading b second_info second.heading
  pub first_all : AreAllGiven a.content a.blocks a.header a.faults a'.faults first_info first.frames
  pub second_all : AreAllGiven b.content b.blocks b.header b.faults b'.faults second_info second.frames
  pub is : told ≡ differences first second

abbrev pub IsWrong : (old new : SideView) → Type 0
IsWrong old new =
    (pages : List (List ℕ)) × IsRefused old.content old.blocks old.header old.faults new.faults old.told new.told pages

abbrev pub AreUntold : (a a' b b' : SideView) → Type 0
AreUntold a a' b b' = (a'.told ≡ a.told) × (b'.told ≡ b.told)

abbrev pub Says : (a a' b b' : SideView) → List Difference → Comparison → Next → Type 0
Says a a' b b' told q (next.Difference d) = AreUntold a a' b b' × HasCompared a b q (told ++ d ∷ [])
Says a a' b b' told q next.End = AreUntold a a' b b' × AreCompared a a' b b' told
Says a a' b b' told q (next.Refused First) = IsWrong a a' × (b'.told ≡ b.told)
Says a a' b b' told q (next.Refused Second) = IsWrong b b' × (a'.told ≡ a.told)

abbrev pub pairs_left : Comparison → ℕ
pairs_left c = frames_left c.first + frames_left c.second

-- a step on the way gives nothing if the pages are the same
abbrev pub Steps : (a a' b b' : SideView) → List Difference → (p q : Comparison) → Option Next → Type 0
Steps a a' b b' told p q None =
    AreUntold a a' b b' × HasCompared a b q told × (pairs_left q < pairs_left p)
Steps a a' b b' told p q (Some n) = Says a a' b b' told q n

-- the results of opening one image
abbrev pub Begins : (old new : SideView) → Begun → Type 0
Begins old new begun.NoImage = IsNoImage old.content old.blocks old.header old.told new.told
Begins old new begun.Refused = IsBad old.content old.blocks old.header old.faults new.faults old.told new.told
Begins old new (begun.Open h r) =
    (new.told ≡ old.told) × IsHeading old r.frames.numbers.info h × IsReading old r [] 0

-- the results of opening both images
abbrev pub Opens : (a a' b b' : SideView) → Opened → Type 0
Opens a a' b b' (opened.NoImage First) =
    IsNoImage a.content a.blocks a.header a.told a'.told × (b'.told ≡ b.told)
Opens a a' b b' (opened.NoImage Second) =
    IsNoImage b.content b.blocks b.header b.told b'.told × (a'.told ≡ a.told)
Opens a a' b b' (opened.Refused First) =
    IsBad a.content a.blocks a.header a.faults a'.faults a.told a'.told × (b'.told ≡ b.told)
Opens a a' b b' (opened.Refused Second) =
    IsBad b.content b.blocks b.header b.faults b'.faults b.told b'.told × (a'.told ≡ a.told)
Opens a a' b b' (opened.Open c) = AreUntold a a' b b' × HasCompared a b c []
