-- Findings that are noted before the last note.
use Rattle.std.proofs.Common.{◌≡◌, ℕ, ◌≤◌, List, Option, ap, inl, inr, arith}
use Rattle.definitions.specs.Disk.{Content}
use Rattle.image_check.specs.Told.{Told}
use Rattle.image_pages.specs.Found.{Finds}
use Rattle.image_stream.specs.Streamed.{IsStreamed}
use Rattle.image_pages.specs.declared.saved.finding.Found.{Found}
use Rattle.image_pages.specs.declared.saved.finding.Found.TheVariants as found
use Rattle.image_stream.specs.declared.streaming.Streamed.{Streamed}
use Rattle.image_stream.specs.declared.streaming.Streamed.TheVariants as streamed

pub same_faults : (told then : Told) → then ≡ told → told.faults ≤ then.faults
same_faults told then e = omega (arith, ap (λ (t : Told). t.faults) e)

-- the faults of the notes don't fall
pub streamed_counted : (content : Option Content) (blocks header before now : ℕ) (told then : Told) (old new : Option (List ℕ)) (what : Streamed) → IsStreamed content blocks header before now told then old new what → told.faults ≤ then.faults
streamed_counted content blocks header before now told then old new streamed.NoImage (none, same) = same_faults told then none.0
streamed_counted content blocks header before now told then old new streamed.Refused (inl (inl (tells, risen), same)) = tells.faults
streamed_counted content blocks header before now told then old new streamed.Refused (inl (inr (page, (mark, (read, marked, some, tells))), same)) = tells.faults
streamed_counted content blocks header before now told then old new streamed.Refused (inr cut) =
    elim cut.refused [ inl read ↦ read.0.told.faults | inr made ↦ made.1.1.told.faults ]
streamed_counted content blocks header before now told then old new streamed.Whole (written, untold) = same_faults told then untold

pub found_counted : (content : Option Content) (blocks header before now : ℕ) (told then : Told) (frame : ℕ) (page : List ℕ) (what : Found) → Finds content blocks header before now told then frame page what → told.faults ≤ then.faults
found_counted content blocks header before now told then frame page found.NoImage none = same_faults told then none.0
found_counted content blocks header before now told then frame page found.Refused (inl (inl (tells, risen))) = tells.faults
found_counted content blocks header before now told then frame page found.Refused (inl (inr (p, (mark, (read, marked, some, tells))))) = tells.faults
found_counted content blocks header before now told then frame page found.Refused (inr (pages, refused)) = refused.told.faults
found_counted content blocks header before now told then frame page found.NoPage (none, untold) = same_faults told then untold
found_counted content blocks header before now told then frame page found.Page (there, untold) = same_faults told then untold
