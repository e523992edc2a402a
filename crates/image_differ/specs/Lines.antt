-- The lines that are printed for differences.
use Rattle.std.specs.Prelude.{ℕ, List, [], ◌++◌, codes, decimal, flat_map}
use Rattle.image_check.specs.Lines.{named}
use Rattle.image_differ.specs.declared.difference.Difference.{Difference}
use Rattle.image_differ.specs.declared.difference.Difference.TheVariants as difference
use Rattle.image_differ.specs.declared.difference.Part.{Part}
use Rattle.image_differ.specs.declared.difference.Part.TheVariants as part

-- the words that `resume` uses for the fields that Linux compares, and the names of the others
abbrev pub part_text : Part → List ℕ
part_text part.VersionCode = codes "version code"
part_text part.Sysname = codes "sysname"
part_text part.Nodename = codes "nodename"
part_text part.Release = codes "release"
part_text part.Version = codes "version"
part_text part.Machine = codes "machine"
part_text part.Domainname = codes "domainname"

-- a name, and a number of each image
abbrev pub pair_text : List ℕ → (first second : ℕ) → List ℕ
pair_text name first second = name ++ decimal first ++ codes " " ++ decimal second

abbrev pub difference_text : Difference → List ℕ
difference_text (difference.Flags first second) = pair_text (codes "header flags ") first second
difference_text (difference.HardwareSignature first second) =
    pair_text (codes "header hardware signature ") first second
difference_text (difference.Identity part) = codes "identity " ++ part_text part
difference_text (difference.MemorySize first second) = pair_text (codes "memory size ") first second
difference_text (difference.FirstAlone p) = named (codes "frame ") p (codes " first alone")
difference_text (difference.SecondAlone p) = named (codes "frame ") p (codes " second alone")
difference_text (difference.Page p) = named (codes "page ") p []

-- the line of a difference, and the lines of differences, one after another
abbrev pub line_of : Difference → List ℕ
line_of d = difference_text d ++ codes "\n"

abbrev pub lines_of : List Difference → List ℕ
lines_of ds = flat_map line_of ds
