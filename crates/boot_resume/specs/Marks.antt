-- The mark of a header block, if it has one.
use Rattle.std.specs.Prelude.{ℕ, List, Option, Some, None, if◌then◌else◌}
use Rattle.definitions.specs.SwapHeader.{image_signature, sig_of}
use Rattle.image_format.specs.AreaKind.{mark_of, same_bytes}
use Rattle.image_format.specs.declared.signature.area.Mark.{Mark}
use Rattle.image_format.specs.declared.signature.area.AreaKind.{AreaKind}
use Rattle.image_format.specs.declared.signature.area.AreaKind.TheVariants.{Image}

abbrev pub mark_within : AreaKind → Option Mark
mark_within (Image mark) = Some mark
mark_within _ = None

abbrev pub mark_by : List ℕ → Option Mark
mark_by page = if same_bytes (sig_of page) image_signature then Some (mark_of page) else None
