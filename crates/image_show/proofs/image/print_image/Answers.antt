use Rattle.std.proofs.Common.{◌≡◌, List, [], ◌++◌, Bool, true, false, Option, refl, sym, subst, append-nil}
use Rattle.definitions.specs.Disk.{Content}
use Rattle.image_walk.specs.declared.limits.Limits.{Limits}
use Rattle.image_show.specs.HeaderFacts.{header_facts}
use Rattle.image_show.specs.declared.facts.fact.Fact.{Fact}
use Rattle.image_show.specs.Shown.{ShowsFrames}
use Rattle.image_show.specs.Forms.{Puts, PutsFront}
use Rattle.image_show.proofs.ImageSteps.{blocks_later, frames_earlier, image_begun, image_none, image_of_both}
use Rattle.image_show.proofs.Putting.{front_first, front_then, on_any_err, on_err_then, on_ok_then, whole_then}
use Rattle.image_show.proofs.image.print_image.Goals as goal

pub returns-in_err-print_header-clause-front : goal.returns-in_err-print_header-clause-front
returns-in_err-print_header-clause-front g c =
    let header = header_facts (g.D.Disk.block_count c.args.disk.now) c.args.page.now in
    let front : PutsFront g.F.Form.style header (g.F.Form.written c.args.form.now) (g.F.Form.written c.print_header.new.form) =
    subst (λ n. PutsFront g.F.Form.style (header_facts n c.args.page.now) (g.F.Form.written c.args.form.now) (g.F.Form.written c.print_header.new.form)) c.blocks-2.ensures c.print_header.ensures.front in
    on_any_err c.from_residual.result (
      [],
      (
        image_none c.args.once.now.walker.limits c.args.once.now.walker.walk.next (g.D.Disk.content c.args.disk.now) (g.D.Disk.faults c.args.disk.now) (g.D.Disk.faults c.args.disk.now) c.args.format,
        front_first g.F.Form.style header [] (g.F.Form.written c.args.form.now) (g.F.Form.written c.print_header.new.form) front,
      ),
    )

pub returns-in_err-print_blocks-clause-front : goal.returns-in_err-print_blocks-clause-front
returns-in_err-print_blocks-clause-front g c =
    let old = g.F.Form.written c.args.form.now in
    let mid = g.F.Form.written c.print_header.new.form in
    let header = header_facts (g.D.Disk.block_count c.args.disk.now) c.args.page.now in
    let printed : Puts g.F.Form.style header old mid =
    subst (λ n. Puts g.F.Form.style (header_facts n c.args.page.now) old mid) c.blocks-2.ensures c.in_ok-print_header.ensures.whole in
    let new = g.F.Form.written c.print_blocks.new.form in
    let l = c.args.once.now.walker.limits in
    let first = c.args.once.now.walker.walk.next in
    let content = g.D.Disk.content c.args.disk.now in
    let before = g.D.Disk.faults c.args.disk.now in
    let now = g.D.Disk.faults c.print_blocks.new.disk in
    let shown = c.in_err-print_blocks.ensures.front in
    on_any_err c.from_residual-in_err-print_blocks.result (
      shown.1.0 ++ [],
      (
        image_begun shown.0 l first content before now c.args.format shown.1.0 shown.1.1.0,
        front_then g.F.Form.style header (shown.1.0 ++ []) old mid new printed
            (subst (λ (fs : List Fact). PutsFront g.F.Form.style fs mid new) (sym (append-nil shown.1.0)) shown.1.1.1),
      ),
    )

pub returns-clause-shown : goal.returns-clause-shown
returns-clause-shown g c =
    let old = g.F.Form.written c.args.form.now in
    let mid = g.F.Form.written c.print_header.new.form in
    let header = header_facts (g.D.Disk.block_count c.args.disk.now) c.args.page.now in
    let printed : Puts g.F.Form.style header old mid =
    subst (λ n. Puts g.F.Form.style (header_facts n c.args.page.now) old mid) c.blocks-2.ensures c.in_ok-print_header.ensures.whole in
    let then_taken = g.F.Form.written c.print_blocks.new.form in
    let new = g.F.Form.written c.print_frames.new.form in
    let l = c.args.once.now.walker.limits in
    let first = c.args.once.now.walker.walk.next in
    let content = g.D.Disk.content c.args.disk.now in
    let before = g.D.Disk.faults c.args.disk.now in
    let then = g.D.Disk.faults c.print_blocks.new.disk in
    let now = g.D.Disk.faults c.print_frames.new.disk in
    let (blocks, (shows, takes)) = c.in_ok-print_blocks.ensures.whole in
    on_ok_then c.print_frames.result
    (λ frames.
    let same_limits : ShowsFrames true l c.args.again.now.walker.walk.next (g.D.Disk.content c.print_blocks.new.disk) then now c.args.format frames.0 =
    subst (λ (x : Limits). ShowsFrames true x c.args.again.now.walker.walk.next (g.D.Disk.content c.print_blocks.new.disk) then now c.args.format frames.0) c.requires.same.0 frames.1.0 in
    let same_first : ShowsFrames true l first (g.D.Disk.content c.print_blocks.new.disk) then now c.args.format frames.0 =
    subst (λ n. ShowsFrames true l n (g.D.Disk.content c.print_blocks.new.disk) then now c.args.format frames.0) c.requires.same.1 same_limits in
    let same_content : ShowsFrames true l first content then now c.args.format frames.0 =
    subst (λ (x : Option Content). ShowsFrames true l first x then now c.args.format frames.0) c.print_blocks.ensures.content same_first in (
      blocks ++ frames.0,
      (
        image_of_both true true l first content before now c.args.format blocks frames.0 (λ e. refl)
            (blocks_later true l first content before then now blocks c.print_blocks.ensures.faults c.print_frames.ensures.faults shows)
            (frames_earlier true l first content before then now c.args.format frames.0 c.print_blocks.ensures.faults same_content),
        whole_then g.F.Form.style header (blocks ++ frames.0) old mid new printed (whole_then g.F.Form.style blocks frames.0 mid then_taken new takes frames.1.1),
      ),
    ))
    c.print_frames.ensures.whole

pub returns-clause-front : goal.returns-clause-front
returns-clause-front g c =
    let old = g.F.Form.written c.args.form.now in
    let mid = g.F.Form.written c.print_header.new.form in
    let header = header_facts (g.D.Disk.block_count c.args.disk.now) c.args.page.now in
    let printed : Puts g.F.Form.style header old mid =
    subst (λ n. Puts g.F.Form.style (header_facts n c.args.page.now) old mid) c.blocks-2.ensures c.in_ok-print_header.ensures.whole in
    let then_taken = g.F.Form.written c.print_blocks.new.form in
    let new = g.F.Form.written c.print_frames.new.form in
    let l = c.args.once.now.walker.limits in
    let first = c.args.once.now.walker.walk.next in
    let content = g.D.Disk.content c.args.disk.now in
    let before = g.D.Disk.faults c.args.disk.now in
    let then = g.D.Disk.faults c.print_blocks.new.disk in
    let now = g.D.Disk.faults c.print_frames.new.disk in
    let (blocks, (shows, takes)) = c.in_ok-print_blocks.ensures.whole in
    on_err_then c.print_frames.result
    (λ frames.
    let whole : Bool = frames.0 in
    let says : List Fact = frames.1.0 in
    let same_limits : ShowsFrames whole l c.args.again.now.walker.walk.next (g.D.Disk.content c.print_blocks.new.disk) then now c.args.format says =
    subst (λ (x : Limits). ShowsFrames whole x c.args.again.now.walker.walk.next (g.D.Disk.content c.print_blocks.new.disk) then now c.args.format says) c.requires.same.0 frames.1.1.0 in
    let same_first : ShowsFrames whole l first (g.D.Disk.content c.print_blocks.new.disk) then now c.args.format says =
    subst (λ n. ShowsFrames whole l n (g.D.Disk.content c.print_blocks.new.disk) then now c.args.format says) c.requires.same.1 same_limits in
    let same_content : ShowsFrames whole l first content then now c.args.format says =
    subst (λ (x : Option Content). ShowsFrames whole l first x then now c.args.format says) c.print_blocks.ensures.content same_first in (
      blocks ++ says,
      (
        image_of_both false whole l first content before now c.args.format blocks says (λ e. absurd (let f : false ≡ true = e in cc))
            (blocks_later true l first content before then now blocks c.print_blocks.ensures.faults c.print_frames.ensures.faults shows)
            (frames_earlier whole l first content before then now c.args.format says c.print_blocks.ensures.faults same_content),
        front_then g.F.Form.style header (blocks ++ says) old mid new printed (front_then g.F.Form.style blocks says mid then_taken new takes frames.1.1.1),
      ),
    ))
    c.print_frames.ensures.front
