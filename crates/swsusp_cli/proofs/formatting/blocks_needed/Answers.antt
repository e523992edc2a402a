use Rattle.std.proofs.Common.{◌≡◌, ℕ, List, length, ◌∙◌, subst, arith}
use Rattle.swsusp_cli.proofs.Needed.{IsGreatest, none_yet, one_more, needed}
use Rattle.swsusp_cli.proofs.formatting.blocks_needed.Goals as goal

pub loop-length-init : goal.loop-length-init
loop-length-init c = record { greatest = none_yet c.extents-length-items.result.now }

pub loop-length-preserved : goal.loop-length-preserved
loop-length-preserved c =
    record { greatest = one_more c.extents-length-items.result.now c.loop-length.length-index c.loop-length.need c.max-need.result c.loop-length.invariant.greatest c.max-need.ensures }

pub returns-clause-need : goal.returns-clause-need
returns-clause-need c =
    let h = c.args.hw.now in
    let items = c.extents-length-items.result.now in
    let n = c.loop-length.length-index in
    let ended = c.loop-length-test.false in
    let within = c.loop-length.auto.length-index-end in
    let all : n ≡ length items = omega arith in
    let same = c.extents-length-items.ensures.extents ∙ c.extents.ensures.extents in
    needed h c.loop-length.need c.extents.ensures.hardware.map
    (subst (λ (xs : List (ℕ × ℕ × ℕ)). IsGreatest xs (length xs) c.loop-length.need) same (subst (λ (k : ℕ). IsGreatest items k c.loop-length.need) all c.loop-length.invariant.greatest))
