-- What the header block of an area says, in numbers.
use Rattle.std.specs.Prelude.{ℕ}
use Rattle.image_format.specs.declared.signature.area.AreaFault.{AreaFault}
use Rattle.image_format.specs.declared.signature.area.AreaFault.TheVariants.{Version, BadCount, LastZero, BadEntry}
use Rattle.image_format.specs.declared.signature.area.AreaKind.{AreaKind}
use Rattle.image_format.specs.declared.signature.area.AreaKind.TheVariants.{Image, Old, Other, BadArea, Swap}
use Rattle.swsusp_c.specs.declared.inspect.SwsuspHeader.{SwsuspHeader}

abbrev pub fault_of : AreaFault → ℕ × ℕ
fault_of (Version version) = (1, version)
fault_of (BadCount count) = (2, count)
fault_of LastZero = (3, 0)
fault_of (BadEntry slot) = (4, slot)

abbrev facts : (kind first_map last_page bad_pages flags signature : ℕ) → ℕ × ℕ → SwsuspHeader
facts k first last bad f signature fault = record {
  first_map = first;
  kind = k;
  last_page = last;
  bad_pages = bad;
  flags = f;
  hardware_signature = signature;
  fault = fault.0;
  number = fault.1;
}

abbrev pub facts_of : AreaKind → SwsuspHeader
facts_of (Image mark) = facts 1 mark.first mark.last mark.count mark.flags mark.hw_sig (0, 0)
facts_of (Swap area) = facts 2 0 area.last area.count 0 0 (0, 0)
facts_of Old = facts 3 0 0 0 0 0 (0, 0)
facts_of (Other sig) = facts 4 0 0 0 0 0 (0, 0)
facts_of (BadArea why) = facts 5 0 0 0 0 0 (fault_of why)
