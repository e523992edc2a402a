-- The flags of a page frame as a number, the low 16 bits of its entry.
use Rattle.std.specs.Prelude.{ℕ}
use Rattle.frame_table.specs.declared.states.flags.PageFlags.{PageFlags}

abbrev pub bits_of : PageFlags → ℕ
bits_of flags = flags.0
