-- What is shown after earlier calls of the disk.
use Rattle.std.proofs.Common.{ℕ, ◌≤◌, List, Bool, Option, Some, None}
use Rattle.page_core.specs.declared.format.Format.{Format}
use Rattle.definitions.specs.Disk.{Content}
use Rattle.definitions.specs.SwapHeader.{taken_back}
use Rattle.image_format.specs.AreaKind.{area_kind}
use Rattle.image_format.specs.declared.signature.area.Mark.{Mark}
use Rattle.image_walk.specs.declared.limits.Limits.{Limits}
use Rattle.image_check.specs.Checked.{format_of, mark_in}
use Rattle.image_check.specs.Header.{limits_of}
use Rattle.image_show.specs.declared.facts.fact.Fact.{Fact}
use Rattle.image_show.specs.Shown.{readable_mark, ShowsHeader, ShowsImage, ShowsMark}
use Rattle.image_show.proofs.BlockSteps.{end_earlier}
use Rattle.image_show.proofs.ImageSteps.{frames_earlier}

image_earlier : (all : Bool) (l : Limits) (first : ℕ) (content : Option Content) (before then now : ℕ) (format : Format) (facts : List Fact) → before ≤ then → ShowsImage all l first content then now format facts → ShowsImage all l first content before now format facts
image_earlier all l first content before then now format facts le s = record {
  blocks = s.blocks;
  frames = s.frames;
  all_blocks = s.all_blocks;
  all_frames = s.all_frames;
  shows_blocks = record {
    names = s.shows_blocks.names;
    front = s.shows_blocks.front;
    end = λ e. end_earlier l first content before then now s.shows_blocks.names le (s.shows_blocks.end e);
    says = s.shows_blocks.says;
  };
  shows_frames = frames_earlier s.all_frames l first content before then now format s.frames le s.shows_frames;
  order = s.order;
  whole = s.whole;
  says = s.says;
}

mark_earlier : (all : Bool) (content : Option Content) (blocks header before then now : ℕ) (page : List ℕ) (facts : List Fact) (m : Option Mark) → before ≤ then → ShowsMark all content blocks header then now page facts m → ShowsMark all content blocks header before now page facts m
mark_earlier all content blocks header before then now page facts None le s = s
mark_earlier all content blocks header before then now page facts (Some mark) le s =
    image_earlier all (limits_of blocks header (area_kind (taken_back page))) mark.first content before then now (format_of mark.flags) facts le s

pub header_earlier : (all : Bool) (content : Option Content) (blocks header before then now : ℕ) (facts : List Fact) → before ≤ then → ShowsHeader all content blocks header then now facts → ShowsHeader all content blocks header before now facts
header_earlier all content blocks header before then now facts le s = record {
  page = s.page;
  read = s.read;
  image = s.image;
  shows_image = mark_earlier all content blocks header before then now s.page s.image (readable_mark (mark_in (area_kind s.page))) le s.shows_image;
  says = s.says;
}
