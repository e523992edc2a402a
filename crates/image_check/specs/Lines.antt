-- The lines that are printed for findings.
use Rattle.std.specs.Prelude.{ℕ, List, [], ◌++◌, codes, decimal, flat_map}
use Rattle.byteorder.specs.Endian.{big_bytes}
use Rattle.plain_machine.specs.Replies.{hex_text}
use Rattle.image_format.specs.declared.signature.area.AreaFault.{AreaFault}
use Rattle.image_format.specs.declared.signature.area.AreaFault.TheVariants as area
use Rattle.compression.specs.declared.lzo.fault.Kind.{Kind}
use Rattle.compression.specs.declared.lzo.fault.Kind.TheVariants as kind
use Rattle.compression.specs.declared.lzo.fault.LzoFault.{LzoFault}
use Rattle.image_walk.specs.declared.visit.BlockFault.{BlockFault}
use Rattle.image_walk.specs.declared.visit.BlockFault.TheVariants as block
use Rattle.image_check.specs.declared.finding.Finding.{Finding}
use Rattle.image_check.specs.declared.finding.Finding.TheVariants as finding
use Rattle.image_check.specs.declared.finding.Place.{Place}

-- a number with its name, and what follows it
abbrev pub named : List ℕ → ℕ → List ℕ → List ℕ
named name n after = name ++ decimal n ++ after

-- why the area can't be used
abbrev pub area_text : AreaFault → List ℕ
area_text (area.Version version) = named (codes "version ") version []
area_text (area.BadCount count) = named [] count (codes " bad pages")
area_text area.LastZero = codes "last page 0"
area_text (area.BadEntry slot) = named (codes "bad page ") slot (codes " is no slot")

-- why a block that is named can't be a page of the image
abbrev pub block_text : BlockFault → List ℕ
block_text block.Zero = codes "block 0"
block_text (block.BeyondFile b) = named (codes "block ") b (codes " is beyond the file")
block_text (block.BeyondLast b) = named (codes "block ") b (codes " is beyond the last page")
block_text (block.Bad b) = named (codes "block ") b (codes " is a bad page")
block_text (block.Again b) = named (codes "block ") b (codes " is named already")
block_text (block.Unread b) = named (codes "block ") b (codes " can't be read")

-- an entry of a map
abbrev pub place_text : Place → List ℕ
place_text p = codes "map " ++ decimal p.map ++ codes " block " ++ decimal p.at ++ codes " entry " ++ decimal p.entry

-- a word of a number page
abbrev pub word_text : (page word : ℕ) → List ℕ
word_text page word = named (codes "numbers page ") page (codes " word ") ++ named [] word (codes ": ")

-- a unit of a compressed image
abbrev pub unit_text : ℕ → List ℕ
unit_text unit = named (codes "unit ") unit (codes " ")

-- what is wrong with a stream
abbrev pub kind_text : Kind → List ℕ
kind_text kind.Versioned = codes "a stream of another version"
kind_text kind.InputTooShort = codes "the input is too short"
kind_text kind.OutputTooLong = codes "the output is too long"
kind_text kind.BeforeBegin = codes "a match before the begin"
kind_text kind.BadEnd = codes "a bad end marker"
kind_text kind.BehindEnd = codes "bytes after the end"

abbrev pub stream_text : ℕ → LzoFault → List ℕ
stream_text unit why = named (codes "unit ") unit (codes " byte ") ++ named [] why.at (codes ": ") ++ kind_text why.kind

abbrev pub size_text : (unit bytes wanted : ℕ) → List ℕ
size_text unit bytes wanted =
    named (codes "unit ") unit (codes ": ") ++ named [] bytes (codes " bytes, but ")
    ++ named [] wanted (codes " are wanted")

abbrev pub checksum_text : (header units : ℕ) → List ℕ
checksum_text header units =
    codes "checksum 0x" ++ hex_text (big_bytes 4 header)
    ++ (codes ", but the units have 0x" ++ hex_text (big_bytes 4 units))

abbrev pub finding_text : Finding → List ℕ
finding_text (finding.HeaderUnread b) = named (codes "header block ") b (codes ": can't be read")
finding_text finding.OriginalSignature = codes "header: the original signature is no swap area's"
finding_text (finding.Area why) = codes "header: the area has " ++ area_text why
finding_text (finding.LastPage last blocks) =
    named (codes "header: last page ") last (codes ", but the file has ") ++ named [] blocks (codes " blocks")
finding_text (finding.Compressed flags) =
    named (codes "header: flags ") flags (codes ", a compressed image, which can't be read yet")
finding_text (finding.Map map why) = named (codes "map ") map (codes ": ") ++ block_text why
finding_text (finding.Ends map pages) =
    named (codes "map ") map (codes ": no next map, though the image has ") ++ named [] pages (codes " pages")
finding_text (finding.AfterMaps map b) =
    named (codes "map ") map (codes " block ") ++ named [] b (codes ": after the last map")
finding_text (finding.Entry place why) = place_text place ++ codes ": " ++ block_text why
finding_text (finding.AfterPages place b) =
    place_text place ++ named (codes ": block ") b (codes " after the last page")
finding_text (finding.NoEnd name) = named (codes "info page name ") name (codes ": no end")
finding_text (finding.Magic magic) =
    codes "info page: the header of an architecture, but with magic 0x" ++ hex_text (big_bytes 8 magic)
finding_text (finding.Counts image_pages pages) =
    named (codes "info page: image pages ") image_pages (codes ", but pages ") ++ decimal pages
finding_text (finding.Size size pages) = named (codes "info page: size ") size (codes ", but pages ") ++ decimal pages
finding_text (finding.Number page word number) = word_text page word ++ named [] number (codes " is no page frame")
finding_text (finding.Order page word number before) =
    word_text page word ++ decimal number ++ named (codes " after ") before []
finding_text (finding.End page word found) = word_text page word ++ named [] found (codes " after the last number")
finding_text (finding.DataPages counted pages) =
    named (codes "number pages: data pages ") counted (codes ", but pages ") ++ decimal pages
finding_text (finding.UnitLength unit place length) =
    unit_text unit ++ place_text place ++ named (codes ": length ") length []
finding_text (finding.UnitStream unit why) = stream_text unit why
finding_text (finding.UnitSize unit bytes wanted) = size_text unit bytes wanted
finding_text (finding.Checksum header units) = checksum_text header units

-- the line of a finding, and the lines of findings, one after another
abbrev pub line_of : Finding → List ℕ
line_of f = finding_text f ++ codes "\n"

abbrev pub lines_of : List Finding → List ℕ
lines_of findings = flat_map line_of findings
