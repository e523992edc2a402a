use Rattle.swsusp_cli.proofs.Needed.{IsGreatest}
use Rattle.swsusp_cli.proofs.formatting.blocks_needed.Given as goal

abbrev pub invariant-loop-length : goal.invariant-loop-length
invariant-loop-length l = record { greatest : IsGreatest l.length-items l.length-index l.need }
