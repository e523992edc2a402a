-- How two images differ apart from their page frames: in their marks and in what their info pages say. What belongs to
-- the area and not to the image isn't compared: the UUID, the label, the last page, the bad pages, and the blocks that
-- the image lies in.
use Rattle.std.specs.Prelude.{ℕ, ◌-◌, ◌/◌, ◌%◌, ◌==◌, ◌&&◌, nat_eq, List, [], ◌∷◌, flat_map, slice_index_or}
use Rattle.std.specs.Prelude.{if◌then◌else◌, Option, Some, None}
use Rattle.std.specs.List.{range_with_len}
use Rattle.std.specs.Cmp.Lexicographic.{pointwise}
use Rattle.definitions.specs.declared.info.Ident.{Ident}
use Rattle.definitions.specs.declared.info.Info.{Info}
use Rattle.image_differ.specs.declared.difference.Difference.{Difference}
use Rattle.image_differ.specs.declared.difference.Difference.TheVariants as difference
use Rattle.image_differ.specs.declared.difference.Part.{Part}
use Rattle.image_differ.specs.declared.difference.Part.TheVariants as part
use Rattle.image_differ.specs.declared.heading.Heading.{Heading}

abbrev pub flags_difference : Heading → Heading → Option Difference
flags_difference a b = if a.flags == b.flags then None else Some (difference.Flags a.flags b.flags)

-- no difference if neither sets the flag SF_HW_SIG, which is 8, or if the signatures are the same
abbrev pub signature_difference : Heading → Heading → Option Difference
signature_difference a b =
    if ((a.flags / 8) % 2 == 0) && ((b.flags / 8) % 2 == 0) then None
    else if a.hw_sig == b.hw_sig then None
    else Some (difference.HardwareSignature a.hw_sig b.hw_sig)

abbrev pub version_code_difference : Ident → Ident → Option Difference
version_code_difference a b =
    if a.version_code == b.version_code then None else Some (difference.Identity part.VersionCode)

-- the names in the order of struct new_utsname
abbrev pub part_of_name : ℕ → Part
part_of_name j =
    if j == 0 then part.Sysname
    else if j == 1 then part.Nodename
    else if j == 2 then part.Release
    else if j == 3 then part.Version
    else if j == 4 then part.Machine
    else part.Domainname

-- name j, with all its 65 bytes
abbrev pub name_difference : ℕ → Ident → Ident → Option Difference
name_difference j a b =
    if pointwise nat_eq (slice_index_or a.names j []) (slice_index_or b.names j []) then None
    else Some (difference.Identity (part_of_name j))

abbrev pub memory_difference : Info → Info → Option Difference
memory_difference a b =
    if a.physpages == b.physpages then None else Some (difference.MemorySize a.physpages b.physpages)

-- the ten parts in their order
abbrev pub heading_difference : ℕ → Heading → Heading → Option Difference
heading_difference k a b =
    if k == 0 then flags_difference a b
    else if k == 1 then signature_difference a b
    else if k == 2 then version_code_difference a.info.ident b.info.ident
    else if k == 9 then memory_difference a.info b.info
    else name_difference (k - 3) a.info.ident b.info.ident

abbrev pub list_of : Option Difference → List Difference
list_of None = []
list_of (Some d) = d ∷ []

-- the differences at the first n parts
unfoldable pub heading_differences : Heading → Heading → ℕ → List Difference
heading_differences a b n = flat_map (λ k. list_of (heading_difference k a b)) (range_with_len 0 n)
