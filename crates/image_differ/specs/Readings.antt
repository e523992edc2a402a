-- A reading of an image, page frame by page frame, and which of two readings is next.
use Rattle.std.specs.Prelude.{◌≡◌, ℕ, ◌+◌, ◌-◌, ◌<◌, ◌≤◌, nat_lt, Bool, true, false, All, List, [], ◌∷◌, ◌++◌}
use Rattle.std.specs.Prelude.{if◌then◌else◌}
use Rattle.image_pages.specs.Given.{HasGiven, frame_of}
use Rattle.image_pages.specs.SavedFrames.{SavedFrame}
use Rattle.image_pages.specs.Says.{AreAllGiven}
use Rattle.image_pages.specs.declared.frames.frames.Frames.{Frames}
use Rattle.image_pages.specs.Ends.{IsRefused}
use Rattle.image_differ.specs.Differences.{no_frame}
use Rattle.image_differ.specs.Sides.{SideView}
use Rattle.image_differ.specs.declared.reading.Place.{Place}
use Rattle.image_differ.specs.declared.reading.Place.TheVariants.{Unread, At, Ended}
use Rattle.image_differ.specs.declared.reading.Reading.{Reading}
use Rattle.image_differ.specs.declared.reading.Turn.{Turn}
use Rattle.image_differ.specs.declared.reading.Turn.TheVariants as turn

abbrev pub AreBelow : ℕ → List SavedFrame → Type 0
AreBelow bound given = All (λ (g : SavedFrame). g.number < bound) given

abbrev pub AreFrom : ℕ → List SavedFrame → Type 0
AreFrom bound given = All (λ (g : SavedFrame). bound ≤ g.number) given

-- all page frames of the image were given, and nothing is wrong with it
abbrev pub AreAll : SideView → List ℕ → List SavedFrame → Type 0
AreAll v info given = (before now : ℕ) → AreAllGiven v.content v.blocks v.header before now info given

-- all page frames were compared: the bound is directly above the newest
pub record IsUsed (given : List SavedFrame) (bound : ℕ) : Type 0 where
  pub below : AreBelow bound given
  pub least : (n : ℕ) → AreBelow n given → bound ≤ n

-- the newest page frame isn't below the bound, and those before are
pub record IsHead (given : List SavedFrame) (bound p : ℕ) (page : List ℕ) : Type 0 where
  pub before : List SavedFrame
  pub is : given ≡ before ++ frame_of p page ∷ []
  pub below : AreBelow bound before
  pub above : bound ≤ p
  pub small : p < no_frame

-- these page frames of the image were given, and those below the bound were compared
abbrev pub IsPlace : SideView → Reading → List SavedFrame → ℕ → Place → Type 0
IsPlace v r given bound Unread =
    HasGiven v.content v.blocks v.header r.frames given × IsUsed given bound
IsPlace v r given bound (At p) =
    HasGiven v.content v.blocks v.header r.frames given × IsHead given bound p r.page
IsPlace v r given bound Ended = AreBelow bound given × AreAll v r.frames.numbers.info given

pub record IsReading (v : SideView) (r : Reading) (given : List SavedFrame) (bound : ℕ) : Type 0 where
  pub place : IsPlace v r given bound r.place

-- how many page frames weren't compared yet
abbrev pub left_at : Frames → Place → ℕ
left_at f Unread = f.numbers.count - f.numbers.given
left_at f (At p) = f.numbers.count - f.numbers.given + 1
left_at f Ended = 0

abbrev pub frames_left : Reading → ℕ
frames_left r = left_at r.frames r.place

-- the next page frame that wasn't compared was read, if there is one
pub record IsReady (v : SideView) (given : List SavedFrame) (bound : ℕ) (old new : Reading) : Type 0 where
  pub more : List SavedFrame
  pub from : AreFrom bound more
  pub reading : IsReading v new (given ++ more) bound
  pub read : new.place ≡ Unread → ⊥
  pub info : new.frames.numbers.info ≡ old.frames.numbers.info
  pub left : frames_left new ≤ frames_left old

abbrev pub Readies : (old new : SideView) → List SavedFrame → ℕ → (p q : Reading) → Bool → Type 0
Readies old new given bound p q true = (new.told ≡ old.told) × IsReady old given bound p q
Readies old new given bound p q false =
    (pages : List (List ℕ)) × IsRefused old.content old.blocks old.header old.faults new.faults old.told new.told pages

-- the lower page frame is compared next, or both if they are the same
abbrev pub turn_of : Place → Place → Turn
turn_of (At p) (At q) = if nat_lt p q then turn.First p else if nat_lt q p then turn.Second q else turn.Both p
turn_of (At p) Unread = turn.First p
turn_of (At p) Ended = turn.First p
turn_of Unread (At q) = turn.Second q
turn_of Ended (At q) = turn.Second q
turn_of Unread Unread = turn.End
turn_of Unread Ended = turn.End
turn_of Ended Unread = turn.End
turn_of Ended Ended = turn.End
