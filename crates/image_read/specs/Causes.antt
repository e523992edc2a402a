-- Causes as replies of a resume, and faults of the parts of an image as causes.
use Rattle.image_format.specs.declared.info.BadCounts.{BadCounts}
use Rattle.frame_sets.specs.declared.packing.unpack.PfnFault.{PfnFault}
use Rattle.frame_sets.specs.declared.packing.unpack.PfnFault.TheVariants as numbers
use Rattle.plain_machine.specs.declared.reply.Reply.{Reply}
use Rattle.plain_machine.specs.declared.reply.Reply.TheVariants as reply
use Rattle.image_read.specs.declared.cause.Cause.{Cause}
use Rattle.image_read.specs.declared.cause.Cause.TheVariants.{NoChain, BadBlock, ChainEnds, Mismatch, MemorySize}
use Rattle.image_read.specs.declared.cause.Cause.TheVariants.{BadCounts as TheBadCounts, BadPfn, PfnOrder, PfnEnd}

abbrev pub reply_of : Cause → Reply
reply_of NoChain = reply.NoChain
reply_of (BadBlock block) = reply.BadBlock block
reply_of (ChainEnds map) = reply.ChainEnds map
reply_of (Mismatch field) = reply.Mismatch field
reply_of (MemorySize image own) = reply.MemorySize image own
reply_of (TheBadCounts image_pages pages) = reply.BadCounts image_pages pages
reply_of (BadPfn pfn) = reply.BadPfn pfn
reply_of (PfnOrder a b) = reply.PfnOrder a b
reply_of (PfnEnd found) = reply.PfnEnd found

abbrev pub cause_of_numbers : PfnFault → Cause
cause_of_numbers (numbers.BadPfn pfn) = BadPfn pfn
cause_of_numbers (numbers.PfnOrder a b) = PfnOrder a b
cause_of_numbers (numbers.PfnEnd found) = PfnEnd found

abbrev pub cause_of_counts : BadCounts → Cause
cause_of_counts bad = TheBadCounts bad.image_pages bad.pages
