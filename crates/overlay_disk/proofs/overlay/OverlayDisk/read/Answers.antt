use Rattle.std.proofs.Common.{◌≡◌, ℕ, List, Ok, Err, Result, OnOk, sym, ◌∙◌, subst, arith}
use Rattle.std.specs.Option.{IfSome}
use Rattle.definitions.specs.Disk.{block, as_it_reads}
use Rattle.overlay_disk.specs.Overlaid.{content_over}
use Rattle.overlay_disk.specs.OverlaidLaws.{block-kept, block-below}
use Rattle.overlay_disk.proofs.overlay.OverlayDisk.read.Goals as goal

on_ok : {T E : Type 0} {P Q : Type 0} (r : Result T E) → (P → Q) → OnOk r P → OnOk r Q
on_ok (Ok v) f h = f h
on_ok (Err e) f h = tt

pub returns-in-Some-clause-bytes : goal.returns-in-Some-clause-bytes
returns-in-Some-clause-bytes g c =
    let below = g.B.ReadOnly.state c.args.self.now.below in
    let same : c.from_bytes.result ≡ c.in-Some.page.now = c.from_bytes.ensures.bytes ∙ c.as_bytes.ensures.bytes in
    subst (λ (x : List ℕ). IfSome (content_over c.args.self.now.kept below.content) (λ held. x ≡ block (as_it_reads held) c.args.b)) (sym same)
    (block-kept below.blocks c.args.b c.in-Some.page.now c.args.self.now.kept below.content c.in-Some.ensures c.requires (g.met.B.ReadOnly.well_formed c.args.self.now.below))

pub returns-else-is_err-clause-bytes : goal.returns-else-is_err-clause-bytes
returns-else-is_err-clause-bytes g c =
    let self = c.args.self.now in
    let below = g.B.ReadOnly.state self.below in
    on_ok c.read-answer.result
    (block-below below.blocks c.args.b c.read-answer.new.into self.kept below.content c.in-None.ensures (λ k is. omega (arith, self.inside k is, self.same.blocks)) (g.met.B.ReadOnly.well_formed self.below))
    c.read-answer.ensures.bytes
