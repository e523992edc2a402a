-- What replaces a fact of a disk that expands an image when the facts of its area are shown.
use Rattle.std.specs.Prelude.{List, [], ◌∷◌}
use Rattle.image_show.specs.declared.facts.fact.Fact.{Fact}
use Rattle.image_show.specs.declared.facts.fact.Fact.TheVariants as fact
use Rattle.image_show.specs.Forms.{Style, kept_after, pieces}
use Rattle.expanded_show.specs.declared.topic.Topic.{Topic}
use Rattle.expanded_show.specs.declared.topic.Topic.TheVariants.{Disk, Place, Maps, Image}

-- the topic of a fact: how many blocks the disk has, its header block or where the image lies on it, how many maps it
-- has, or the image itself
abbrev pub topic_of : Fact → Topic
topic_of (fact.Blocks n) = Disk
topic_of fact.HeaderMissing = Place
topic_of fact.HeaderUnread = Place
topic_of (fact.Image marked) = Place
topic_of fact.AreaSwap = Place
topic_of fact.AreaOld = Place
topic_of fact.AreaImage = Place
topic_of (fact.AreaOther sig) = Place
topic_of (fact.AreaBad why) = Place
topic_of (fact.LastPage n) = Place
topic_of (fact.BadPages n) = Place
topic_of (fact.BadPage n) = Place
topic_of (fact.Uuid bytes) = Place
topic_of (fact.Label bytes) = Place
topic_of (fact.FirstMap n) = Place
topic_of (fact.Flags n) = Place
topic_of (fact.Flag f) = Place
topic_of (fact.HwSig n) = Place
topic_of (fact.Crc32 n) = Place
topic_of (fact.Header h) = Image
topic_of (fact.Name key bytes) = Image
topic_of (fact.VersionCode n) = Image
topic_of (fact.Kernel a b c) = Image
topic_of (fact.JumpAddress n) = Image
topic_of (fact.JumpAddressPhysical n) = Image
topic_of (fact.Cr3 n) = Image
topic_of (fact.MemoryMapChecksum n) = Image
topic_of (fact.KernelVersion bytes) = Image
topic_of (fact.MemoryPages n) = Image
topic_of (fact.ImagePages n) = Image
topic_of (fact.StreamPages n) = Image
topic_of (fact.BlockRun start count) = Place
topic_of (fact.Maps n) = Maps
topic_of (fact.Units n) = Place
topic_of (fact.CompressedBytes n) = Place
topic_of (fact.ExpandedBytes n) = Place
topic_of (fact.FrameRun start count) = Image

-- The facts of the area's header block replace the first fact, and where its image lies replaces the last of the
-- blocks.
abbrev pub standing_by : (header blocks : List Fact) → Fact → Topic → List Fact
standing_by header blocks f Disk = header
standing_by header blocks f Place = []
standing_by header blocks f Maps = blocks
standing_by header blocks f Image = f ∷ []

abbrev pub standing : (header blocks : List Fact) → Fact → List Fact
standing header blocks f = standing_by header blocks f (topic_of f)

-- a style that prints for each fact those that replace it
abbrev pub over_style : (Fact → List Fact) → Style → Style
over_style each style =
    record { piece = λ last f. pieces style last (each f); kept = λ last f. kept_after style last (each f) }
