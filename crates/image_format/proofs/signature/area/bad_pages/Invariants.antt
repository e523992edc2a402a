use Rattle.std.proofs.Common.{◌≡◌, ◌-◌, ◌++◌, replicate}
use Rattle.definitions.specs.SwapHeader.{bad_pages_of}
use Rattle.image_format.proofs.signature.area.bad_pages.Given as goal

abbrev pub invariant-loop-i : goal.invariant-loop-i
invariant-loop-i l = l.bad ≡ bad_pages_of l.page l.i ++ replicate (630 - l.i) 0
