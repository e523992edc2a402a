-- The numbers of a finding, by their names in include/swsusp.h.
use Rattle.std.specs.Prelude.{◌≡◌, ℕ, ◌==◌, ◌-◌, ◌≤◌, List, length, map, min, take, nat_lt, Some, if◌then◌else◌}
use Rattle.definitions.specs.Disk.{last_count}
use Rattle.image_format.specs.declared.signature.area.AreaFault.{AreaFault}
use Rattle.image_format.specs.declared.signature.area.AreaFault.TheVariants as area
use Rattle.compression.specs.declared.lzo.fault.Kind.{Kind}
use Rattle.compression.specs.declared.lzo.fault.Kind.TheVariants as kind
use Rattle.image_walk.specs.declared.visit.BlockFault.{BlockFault}
use Rattle.image_walk.specs.declared.visit.BlockFault.TheVariants as block
use Rattle.image_check.specs.Lines.{lines_of}
use Rattle.image_check.specs.Told.{Told}
use Rattle.image_check.specs.declared.finding.Finding.{Finding}
use Rattle.image_check.specs.declared.finding.Finding.TheVariants as finding
use Rattle.image_check.specs.declared.finding.Place.{Place}
use Rattle.swsusp_c.specs.Facts.{fault_of}
use Rattle.swsusp_c.specs.declared.findings.SwsuspFinding.{SwsuspFinding}
use Rattle.swsusp_c.specs.declared.findings.SwsuspFindings.{SwsuspFindings}

abbrev pub four : (kind first second third fourth : ℕ) → SwsuspFinding
four k a b c d = record {
  kind = k;
  fault = 0;
  map = 0;
  entry = 0;
  at = 0;
  first = a;
  second = b;
  third = c;
  fourth = d;
}

abbrev pub two : (kind first second : ℕ) → SwsuspFinding
two k a b = four k a b 0 0

-- a finding at a place, with why its block can't be one of the image's
abbrev pub at_place : ℕ → Place → (fault first second : ℕ) → SwsuspFinding
at_place k p fault a b = record {
  kind = k;
  fault = fault;
  map = p.map;
  entry = p.entry;
  at = p.at;
  first = a;
  second = b;
  third = 0;
  fourth = 0;
}

abbrev pub no_entry : ℕ → Place
no_entry m = record { map = m; at = 0; entry = 0 }

-- a block's fault, and the block
abbrev pub block_numbers : BlockFault → ℕ × ℕ
block_numbers block.Zero = (1, 0)
block_numbers (block.BeyondFile b) = (2, b)
block_numbers (block.BeyondLast b) = (3, b)
block_numbers (block.Bad b) = (4, b)
block_numbers (block.Again b) = (5, b)
block_numbers (block.Unread b) = (6, b)

abbrev pub kind_number : Kind → ℕ
kind_number kind.Versioned = 1
kind_number kind.InputTooShort = 2
kind_number kind.OutputTooLong = 3
kind_number kind.BeforeBegin = 4
kind_number kind.BadEnd = 5
kind_number kind.BehindEnd = 6

abbrev pub finding_code : Finding → SwsuspFinding
finding_code (finding.HeaderUnread b) = two 1 b 0
finding_code finding.OriginalSignature = two 2 0 0
finding_code (finding.Area why) = at_place 3 (no_entry 0) (fault_of why).0 (fault_of why).1 0
finding_code (finding.LastPage last blocks) = two 4 last blocks
finding_code (finding.Compressed flags) = two 5 flags 0
finding_code (finding.Map m why) = at_place 6 (no_entry m) (block_numbers why).0 (block_numbers why).1 0
finding_code (finding.Ends m pages) = at_place 7 (no_entry m) 0 pages 0
finding_code (finding.AfterMaps m b) = at_place 8 (no_entry m) 0 b 0
finding_code (finding.Entry place why) = at_place 9 place (block_numbers why).0 (block_numbers why).1 0
finding_code (finding.AfterPages place b) = at_place 10 place 0 b 0
finding_code (finding.NoEnd name) = two 11 name 0
finding_code (finding.Magic magic) = two 12 magic 0
finding_code (finding.Counts image_pages pages) = two 13 image_pages pages
finding_code (finding.Size size pages) = two 14 size pages
finding_code (finding.Number page word number) = four 15 page word number 0
finding_code (finding.Order page word number before) = four 16 page word number before
finding_code (finding.End page word found) = four 17 page word found 0
finding_code (finding.DataPages counted pages) = two 18 counted pages
finding_code (finding.UnitLength unit place length) = at_place 19 place 0 unit length
finding_code (finding.UnitStream unit why) = at_place 20 (no_entry 0) (kind_number why.kind) unit why.at
finding_code (finding.UnitSize unit bytes wanted) = four 21 unit bytes wanted 0
finding_code (finding.Checksum header units) = two 22 header units

-- the finding of these numbers

abbrev pub area_by : (fault number : ℕ) → AreaFault
area_by fault n =
    if fault == 1 then area.Version n
    else (if fault == 2 then area.BadCount n else (if fault == 3 then area.LastZero else area.BadEntry n))

abbrev pub block_by : (fault block : ℕ) → BlockFault
block_by fault b =
    if fault == 1 then block.Zero
    else (if fault == 2 then block.BeyondFile b
    else (if fault == 3 then block.BeyondLast b
    else (if fault == 4 then block.Bad b else (if fault == 5 then block.Again b else block.Unread b))))

abbrev pub kind_by : ℕ → Kind
kind_by k =
    if k == 1 then kind.Versioned
    else (if k == 2 then kind.InputTooShort
    else (if k == 3 then kind.OutputTooLong
    else (if k == 4 then kind.BeforeBegin else (if k == 5 then kind.BadEnd else kind.BehindEnd))))

abbrev pub place_in : SwsuspFinding → Place
place_in f = record { map = f.map; at = f.at; entry = f.entry }

abbrev pub page_finding : SwsuspFinding → Finding
page_finding f =
    if f.kind == 11 then finding.NoEnd f.first
    else (if f.kind == 12 then finding.Magic f.first
    else (if f.kind == 13 then finding.Counts f.first f.second
    else (if f.kind == 14 then finding.Size f.first f.second
    else (if f.kind == 15 then finding.Number f.first f.second f.third
    else (if f.kind == 16 then finding.Order f.first f.second f.third f.fourth
    else (if f.kind == 17 then finding.End f.first f.second f.third
    else (if f.kind == 18 then finding.DataPages f.first f.second
    else (if f.kind == 19 then finding.UnitLength f.first (place_in f) f.second
    else (if f.kind == 20 then finding.UnitStream f.first (record { kind = kind_by f.fault; at = f.second })
    else (if f.kind == 21 then finding.UnitSize f.first f.second f.third
    else finding.Checksum f.first f.second))))))))))

abbrev pub finding_of : SwsuspFinding → Finding
finding_of f =
    if f.kind == 1 then finding.HeaderUnread f.first
    else (if f.kind == 2 then finding.OriginalSignature
    else (if f.kind == 3 then finding.Area (area_by f.fault f.first)
    else (if f.kind == 4 then finding.LastPage f.first f.second
    else (if f.kind == 5 then finding.Compressed f.first
    else (if f.kind == 6 then finding.Map f.map (block_by f.fault f.first)
    else (if f.kind == 7 then finding.Ends f.map f.first
    else (if f.kind == 8 then finding.AfterMaps f.map f.first
    else (if f.kind == 9 then finding.Entry (place_in f) (block_by f.fault f.first)
    else (if f.kind == 10 then finding.AfterPages (place_in f) f.first
    else page_finding f)))))))))

-- the findings that are kept
abbrev pub kept_in : SwsuspFindings → List Finding
kept_in f = map finding_of (take f.count f.found)

-- What was reported: the lines of the findings that are kept, and how many findings there were. A finding without room
-- counts as a failure.
abbrev pub told_of : SwsuspFindings → Told
told_of f = record {
  text = Some (lines_of (kept_in f));
  count = f.count;
  failed = nat_lt 1100 f.count;
  faults = f.count - 1100;
}

-- These findings are counted. If there is room for all of them, the kept ones have their lines; else the kept ones have
-- a front of those lines.
pub record IsKept (findings : List Finding) (f : SwsuspFindings) : Type 0 where
  pub count : f.count ≡ min (length findings) last_count
  pub whole : f.count ≤ 1100 → lines_of (kept_in f) ≡ lines_of findings
  pub front : (k : ℕ) × (lines_of (kept_in f) ≡ take k (lines_of findings))
