-- What is shown of an area.
use Rattle.std.specs.Prelude.{◌≡◌, ℕ, ◌-◌, ◌≤◌, ◌⊎◌, true, false, Bool, List, [], ◌∷◌, ◌++◌, length, map, take, Ok}
use Rattle.std.specs.Prelude.{Option, Some, None}
use Rattle.page_core.specs.declared.format.Format.{Format}
use Rattle.definitions.specs.Disk.{Content, HasRisen}
use Rattle.definitions.specs.FreeRuns.{runs_of}
use Rattle.definitions.specs.SwapHeader.{taken_back}
use Rattle.image_format.specs.AreaKind.{area_kind}
use Rattle.image_format.specs.declared.signature.area.Mark.{Mark}
use Rattle.image_walk.specs.Names.{Name, maps_in, IsReadFrom}
use Rattle.image_walk.specs.declared.limits.Limits.{Limits}
use Rattle.image_check.specs.Checked.{format_of, mark_in}
use Rattle.image_check.specs.Header.{is_compressed, limits_of}
use Rattle.image_show.specs.HeaderFacts.{header_facts}
use Rattle.image_show.specs.Told.{blocks_in, block_run, facts_of_first, frames_in, frame_run, pages_in, HasNumbers}
use Rattle.image_show.specs.Told.{IsEnd, IsFront}
use Rattle.image_show.specs.declared.facts.fact.Fact.{Fact}
use Rattle.image_show.specs.declared.facts.fact.Fact.TheVariants as fact
use Rattle.image_show.specs.declared.shown.Shown.{Shown}
use Rattle.image_show.specs.declared.shown.Shown.TheVariants.{Area, NoHeader}

-- the complete runs of some numbers that more may follow: the last run may go on
abbrev pub but_last : List (ℕ × ℕ) → List (ℕ × ℕ)
but_last runs = take (length runs - 1) runs

-- the facts of the names of a history: its info page, the runs of its blocks, and how many maps it has; `whole` says
-- that it has ended
abbrev pub block_facts : (whole : Bool) → List Name → List Fact
block_facts false h = facts_of_first (pages_in h) ++ map block_run (but_last (runs_of (blocks_in h)))
block_facts true h = facts_of_first (pages_in h) ++ (map block_run (runs_of (blocks_in h)) ++ fact.Maps (maps_in h)
    ∷ [])

-- the facts of its page frame numbers: of all, or of the first n
abbrev pub frame_facts : (whole : Bool) → ℕ → List ℕ → List Fact
frame_facts false n frames = map frame_run (but_last (runs_of (take n frames)))
frame_facts true n frames = map frame_run (runs_of frames)

-- The blocks of an image are shown in one reading of it, to the last page or as far as that goes.
pub record ShowsBlocks (whole : Bool) (l : Limits) (first : ℕ) (content : Option Content) (before now : ℕ)
    (facts : List Fact) : Type 0 where
  pub names : List Name
  pub front : IsFront l first content names
  pub end : whole ≡ true → IsEnd l first content before now names
  pub says : facts ≡ block_facts whole names

-- The page frames are shown in a second reading, which needs only the number pages.
pub record ShowsFrames (whole : Bool) (l : Limits) (first : ℕ) (content : Option Content) (before now : ℕ)
    (format : Format) (facts : List Fact) : Type 0 where
  pub names : List Name
  pub front : IsFront l first content names
  pub end : whole ≡ true → IsEnd l first content before now names ⊎ HasNumbers (pages_in names)
  pub count : ℕ
  pub says : facts ≡ frame_facts whole count (frames_in format names)

-- The facts of an image that isn't compressed: those of all its blocks, and then those of all its page frames, or as
-- far as that goes.
pub record ShowsImage (all : Bool) (l : Limits) (first : ℕ) (content : Option Content) (before now : ℕ)
    (format : Format) (facts : List Fact) : Type 0 where
  pub blocks : List Fact
  pub frames : List Fact
  pub all_blocks : Bool
  pub all_frames : Bool
  pub shows_blocks : ShowsBlocks all_blocks l first content before now blocks
  pub shows_frames : ShowsFrames all_frames l first content before now format frames
  pub order : all_blocks ≡ false → frames ≡ []
  pub whole : all ≡ true → (all_blocks ≡ true) × (all_frames ≡ true)
  pub says : facts ≡ blocks ++ frames

-- the mark of an image that isn't compressed
abbrev pub if_plain : Bool → Mark → Option Mark
if_plain true mark = None
if_plain false mark = Some mark

abbrev pub readable_mark : Option Mark → Option Mark
readable_mark None = None
readable_mark (Some mark) = if_plain (is_compressed mark.flags) mark

-- the facts of an image, by its mark; the pages of a compressed image aren't read
abbrev pub ShowsMark : Bool → Option Content → (blocks header before now : ℕ) → List ℕ → List Fact → Option Mark →
    Type 0
ShowsMark all content blocks header before now page facts None = facts ≡ []
ShowsMark all content blocks header before now page facts (Some mark) =
    ShowsImage all (limits_of blocks header (area_kind (taken_back page))) mark.first content before now
    (format_of mark.flags) facts

-- the header block as the disk reads, and the facts that its mark leads to
pub record ShowsHeader (all : Bool) (content : Option Content) (blocks header before now : ℕ)
    (facts : List Fact) : Type 0 where
  pub page : List ℕ
  pub read : IsReadFrom content header (Ok page)
  pub image : List Fact
  pub shows_image : ShowsMark all content blocks header before now page image (readable_mark (mark_in (area_kind page)))
  pub says : facts ≡ header_facts blocks page ++ image

-- the disk has no such header block, or it couldn't be read
abbrev pub LacksHeader : (blocks header before now : ℕ) → List Fact → Type 0
LacksHeader blocks header before now facts =
    ((blocks ≤ header) × (facts ≡ fact.Blocks blocks ∷ fact.HeaderMissing ∷ []))
    ⊎ (HasRisen before now × (facts ≡ fact.Blocks blocks ∷ fact.HeaderUnread ∷ []))

-- all facts of an area with the given header block
abbrev pub Shows : Option Content → (blocks header before now : ℕ) → List Fact → Shown → Type 0
Shows content blocks header before now facts Area = ShowsHeader true content blocks header before now facts
Shows content blocks header before now facts NoHeader = LacksHeader blocks header before now facts

-- no more than these facts
abbrev pub ShowsFront : Option Content → (blocks header before now : ℕ) → List Fact → Type 0
ShowsFront content blocks header before now facts =
    LacksHeader blocks header before now facts ⊎ ShowsHeader false content blocks header before now facts
