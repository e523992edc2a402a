-- What a reader keeps.
use Rattle.image_read.specs.Reading.{Reading, IsShort}
use Rattle.image_read.specs.declared.reader.Reader.TheInside.{Inside}

abbrev pub kept_reading : Inside → Reading
kept_reading a = record {
  extents = a.area.map;
  last = a.area.last;
  blocks = a.area.blocks;
  format = a.format;
  steps = a.steps;
  block = a.block;
  map = a.map;
  pages = a.pages;
  saved = a.saved;
  numbers = a.numbers;
  listed = a.listed;
  frame = a.frame;
}

abbrev pub IsKept : Inside → Type 0
IsKept a = IsShort a.pages
