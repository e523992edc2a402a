-- The mark that a machine sets on the header block when it hibernates.
-- In Linux: mark_swapfiles, kernel/power/swap.c.
use Rattle.std.specs.Prelude.{◌≡◌, ◌≢◌, ℕ, List}
use Rattle.page_core.specs.declared.format.Format.{Format}
use Rattle.page_core.specs.declared.format.Format.TheVariants.{Plain, SkipZeros}
use Rattle.definitions.specs.SwapHeader.{image_of, flags_of, hw_sig_of, marked_flags}
use Rattle.plain_machine.specs.Machine.{Hardware}

-- the flags of a new mark: SF_NOCOMPRESS_MODE, and with SkipZeros also 256
abbrev pub mark_flags : Format → ℕ
mark_flags Plain = 2
mark_flags SkipZeros = 258

-- A header block that marks an image of this format, whose first map is block `first`. Its flags are exactly the
-- format's and, if the machine has a signature, SF_HW_SIG; the signature is then in its field.
pub record HasMark (h : Hardware) (format : Format) (first : ℕ) (header : List ℕ) : Type 0 where
  pub first_map : image_of header ≡ first
  pub flags : flags_of header ≡ marked_flags (mark_flags format) h.hw_sig
  pub signature : h.hw_sig ≢ 0 → hw_sig_of header ≡ h.hw_sig
