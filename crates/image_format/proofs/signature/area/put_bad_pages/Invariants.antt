use Rattle.std.proofs.Common.{◌≡◌, take, flat_map}
use Rattle.byteorder.specs.Endian.{little_bytes}
use Rattle.definitions.specs.Bytes.{with_bytes}
use Rattle.image_format.proofs.signature.area.put_bad_pages.Given as goal

abbrev pub invariant-loop-i : goal.invariant-loop-i
invariant-loop-i l = l.page ≡ with_bytes l.fn.page 1536 (flat_map (little_bytes 4) (take l.i l.bad))
