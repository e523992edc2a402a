use Rattle.std.proofs.Common.{◌≡◌, ◌≤◌, ◌∷◌, [], ℕ, Bool, true, false, List, Option, Result, Ok, Err, IfOk, OnErr, inr, sym, ap, subst, ◌∙◌, arith}
use Rattle.definitions.specs.NumberPages.{meta_of}
use Rattle.image_check.specs.Info.{counts_in}
use Rattle.image_pages.specs.Given.{HasPassed}
use Rattle.image_stream.specs.Converted.{HasLists, IsFrameFront, WritesFrames, WritesLists}
use Rattle.image_stream.specs.Streamed.{IsFront, IsStreamed}
use Rattle.image_stream.specs.declared.streaming.Streamed.{Streamed}
use Rattle.image_stream.proofs.Composing.{all_lists, at_lists, cut_lists, front_in_lists, if_ok_map, on_err_map, rest_front, rest_streamed, saves_rest}
use Rattle.image_stream.proofs.Framing.{given_since}
use Rattle.image_stream.proofs.converting.write_rest.Goals as goal

on_err_any : {A E : Type 0} (r : Result A E) (P : Type 0) → P → OnErr r P
on_err_any (Ok x) P p = tt
on_err_any (Err e) P p = p

pub write_numbers-requires : goal.write_numbers-requires
write_numbers-requires g c =
    let (header, r) = c.requires in
    let content = g.D.Disk.content c.args.disk.now in
    let blocks = g.D.Disk.block_count c.args.disk.now in
    let n = c.args.numbers in
    let info = n.info in
    let count = c.count-count.result in
    let same = c.count-count.ensures.count content blocks header [] r.numbered in
    let at = at_lists content blocks header n c.args.pages count r same in
    (header, (info, at))

pub returns-in_err-read-clause-stopped : goal.returns-in_err-read-clause-stopped
returns-in_err-read-clause-stopped g c = λ header first r taken.
    let content = g.D.Disk.content c.args.disk.now in
    let blocks = g.D.Disk.block_count c.args.disk.now in
    let n = c.args.numbers in
    let info = n.info in
    let count = c.count-count.result in
    let same = c.count-count.ensures.count content blocks header [] r.numbered in
    let at = at_lists content blocks header n c.args.pages count r same in
    let old = g.S.Sink.taken c.args.out.now in
    let mid = g.S.Sink.taken c.write_numbers.new.out in
    on_err_any c.from_residual.result (IsFront content blocks header first mid)
    (front_in_lists content blocks header info count first old mid (saves_rest content blocks header n c.args.pages r) same taken (c.in_err-read.ensures.stopped header info at))

pub returns-then-not-read-clause-written : goal.returns-then-not-read-clause-written
returns-then-not-read-clause-written g c = λ header first r taken.
    let content = g.D.Disk.content c.args.disk.now in
    let blocks = g.D.Disk.block_count c.args.disk.now in
    let n = c.args.numbers in
    let info = n.info in
    let count = c.count-count.result in
    let same = c.count-count.ensures.count content blocks header [] r.numbered in
    let at = at_lists content blocks header n c.args.pages count r same in
    let old = g.S.Sink.taken c.args.out.now in
    let mid = g.S.Sink.taken c.write_numbers.new.out in
    let wrote = c.in_ok-read.ensures.written header info at in
    let lists = subst (λ (t : Bool). WritesLists content blocks header (g.D.Disk.faults c.args.disk.now) (g.D.Disk.faults c.write_numbers.new.disk) (g.R.Report.told c.args.report.now) (g.R.Report.told c.write_numbers.new.report) info count c.write_numbers.new.pages old mid t) c.if-not-read.true wrote in
    inr (cut_lists content blocks header (g.D.Disk.faults c.args.disk.now) (g.D.Disk.faults c.write_numbers.new.disk) (g.R.Report.told c.args.report.now) (g.R.Report.told c.write_numbers.new.report) info count first old mid (saves_rest content blocks header n c.args.pages r) same taken lists)

pub of-requires : goal.of-requires
of-requires g c =
    let (header, r) = c.requires in
    let content = g.D.Disk.content c.args.disk.now in
    let blocks = g.D.Disk.block_count c.args.disk.now in
    let n = c.args.numbers in
    let info = n.info in
    let count = c.count-count.result in
    let same = c.count-count.ensures.count content blocks header [] r.numbered in
    let at = at_lists content blocks header n c.args.pages count r same in
    let old = g.S.Sink.taken c.args.out.now in
    let mid = g.S.Sink.taken c.write_numbers.new.out in
    let wrote = c.in_ok-read.ensures.written header info at in
    let lists = subst (λ (t : Bool). WritesLists content blocks header (g.D.Disk.faults c.args.disk.now) (g.D.Disk.faults c.write_numbers.new.disk) (g.R.Report.told c.args.report.now) (g.R.Report.told c.write_numbers.new.report) info count c.write_numbers.new.pages old mid t) c.if-not-read.false wrote in
    let after = g.D.Disk.content c.write_numbers.new.disk in
    let many = g.D.Disk.block_count c.write_numbers.new.disk in
    let passed : HasPassed content blocks header n c.write_numbers.new.pages = record { numbered = r.numbered; passed = lists.1.listed; stands = lists.1.stands; size = lists.1.size ∙ ap meta_of (same ∙ r.numbered.count) } in
    (content, (blocks, (header, passed)))

pub write_frames-requires : goal.write_frames-requires
write_frames-requires g c =
    let (header, r) = c.requires in
    let content = g.D.Disk.content c.args.disk.now in
    let blocks = g.D.Disk.block_count c.args.disk.now in
    let n = c.args.numbers in
    let info = n.info in
    let count = c.count-count.result in
    let same = c.count-count.ensures.count content blocks header [] r.numbered in
    let at = at_lists content blocks header n c.args.pages count r same in
    let old = g.S.Sink.taken c.args.out.now in
    let mid = g.S.Sink.taken c.write_numbers.new.out in
    let wrote = c.in_ok-read.ensures.written header info at in
    let lists = subst (λ (t : Bool). WritesLists content blocks header (g.D.Disk.faults c.args.disk.now) (g.D.Disk.faults c.write_numbers.new.disk) (g.R.Report.told c.args.report.now) (g.R.Report.told c.write_numbers.new.report) info count c.write_numbers.new.pages old mid t) c.if-not-read.false wrote in
    let after = g.D.Disk.content c.write_numbers.new.disk in
    let many = g.D.Disk.block_count c.write_numbers.new.disk in
    let passed : HasPassed content blocks header n c.write_numbers.new.pages = record { numbered = r.numbered; passed = lists.1.listed; stands = lists.1.stands; size = lists.1.size ∙ ap meta_of (same ∙ r.numbered.count) } in
    (header, given_since content after blocks many header c.of.result [] (sym c.write_numbers.ensures.content) (sym c.write_numbers.ensures.blocks) (c.of.ensures.given content blocks header passed))

pub returns-clause-written : goal.returns-clause-written
returns-clause-written g c = λ header first r taken.
    let content = g.D.Disk.content c.args.disk.now in
    let blocks = g.D.Disk.block_count c.args.disk.now in
    let n = c.args.numbers in
    let info = n.info in
    let count = c.count-count.result in
    let same = c.count-count.ensures.count content blocks header [] r.numbered in
    let at = at_lists content blocks header n c.args.pages count r same in
    let old = g.S.Sink.taken c.args.out.now in
    let mid = g.S.Sink.taken c.write_numbers.new.out in
    let wrote = c.in_ok-read.ensures.written header info at in
    let lists = subst (λ (t : Bool). WritesLists content blocks header (g.D.Disk.faults c.args.disk.now) (g.D.Disk.faults c.write_numbers.new.disk) (g.R.Report.told c.args.report.now) (g.R.Report.told c.write_numbers.new.report) info count c.write_numbers.new.pages old mid t) c.if-not-read.false wrote in
    let after = g.D.Disk.content c.write_numbers.new.disk in
    let many = g.D.Disk.block_count c.write_numbers.new.disk in
    let passed : HasPassed content blocks header n c.write_numbers.new.pages = record { numbered = r.numbered; passed = lists.1.listed; stands = lists.1.stands; size = lists.1.size ∙ ap meta_of (same ∙ r.numbered.count) } in
    let given = given_since content after blocks many header c.of.result [] (sym c.write_numbers.ensures.content) (sym c.write_numbers.ensures.blocks) (c.of.ensures.given content blocks header passed) in
    let last = g.S.Sink.taken c.write_frames.new.out in
    let all = all_lists content blocks header c.write_numbers.new.pages info count old mid (saves_rest content blocks header n c.args.pages r) same lists.1 in
    let before = g.D.Disk.faults c.args.disk.now in
    let then = g.D.Disk.faults c.write_numbers.new.disk in
    let now = g.D.Disk.faults c.write_frames.new.disk in
    let told = g.R.Report.told c.args.report.now in
    let between = g.R.Report.told c.write_numbers.new.report in
    let end = g.R.Report.told c.write_frames.new.report in
    if_ok_map c.write_frames.result (WritesFrames after many header then now between end c.of.result.numbers.info mid last) (IsStreamed content blocks header before now told end first last)
    (λ s w. rest_streamed content after blocks many header before then now told between end info c.of.result.numbers.info first old mid last s c.write_numbers.ensures.content c.write_numbers.ensures.blocks lists.0 c.write_numbers.ensures.faults c.of.ensures.info taken all w)
    (c.write_frames.ensures.written header given)

pub returns-clause-stopped : goal.returns-clause-stopped
returns-clause-stopped g c = λ header first r taken.
    let content = g.D.Disk.content c.args.disk.now in
    let blocks = g.D.Disk.block_count c.args.disk.now in
    let n = c.args.numbers in
    let info = n.info in
    let count = c.count-count.result in
    let same = c.count-count.ensures.count content blocks header [] r.numbered in
    let at = at_lists content blocks header n c.args.pages count r same in
    let old = g.S.Sink.taken c.args.out.now in
    let mid = g.S.Sink.taken c.write_numbers.new.out in
    let wrote = c.in_ok-read.ensures.written header info at in
    let lists = subst (λ (t : Bool). WritesLists content blocks header (g.D.Disk.faults c.args.disk.now) (g.D.Disk.faults c.write_numbers.new.disk) (g.R.Report.told c.args.report.now) (g.R.Report.told c.write_numbers.new.report) info count c.write_numbers.new.pages old mid t) c.if-not-read.false wrote in
    let after = g.D.Disk.content c.write_numbers.new.disk in
    let many = g.D.Disk.block_count c.write_numbers.new.disk in
    let passed : HasPassed content blocks header n c.write_numbers.new.pages = record { numbered = r.numbered; passed = lists.1.listed; stands = lists.1.stands; size = lists.1.size ∙ ap meta_of (same ∙ r.numbered.count) } in
    let given = given_since content after blocks many header c.of.result [] (sym c.write_numbers.ensures.content) (sym c.write_numbers.ensures.blocks) (c.of.ensures.given content blocks header passed) in
    let last = g.S.Sink.taken c.write_frames.new.out in
    let all = all_lists content blocks header c.write_numbers.new.pages info count old mid (saves_rest content blocks header n c.args.pages r) same lists.1 in
    on_err_map c.write_frames.result (IsFrameFront after many header c.of.result.numbers.info mid last) (IsFront content blocks header first last)
    (λ w. rest_front content after blocks many header info c.of.result.numbers.info first old mid last c.write_numbers.ensures.content c.write_numbers.ensures.blocks c.of.ensures.info taken all w)
    (c.write_frames.ensures.stopped header given)

pub returns-clause-untold : goal.returns-clause-untold
returns-clause-untold g c =
    let (header, r) = c.requires in
    let content = g.D.Disk.content c.args.disk.now in
    let blocks = g.D.Disk.block_count c.args.disk.now in
    let n = c.args.numbers in
    let info = n.info in
    let count = c.count-count.result in
    let same = c.count-count.ensures.count content blocks header [] r.numbered in
    let at = at_lists content blocks header n c.args.pages count r same in
    let old = g.S.Sink.taken c.args.out.now in
    let mid = g.S.Sink.taken c.write_numbers.new.out in
    let wrote = c.in_ok-read.ensures.written header info at in
    let lists = subst (λ (t : Bool). WritesLists content blocks header (g.D.Disk.faults c.args.disk.now) (g.D.Disk.faults c.write_numbers.new.disk) (g.R.Report.told c.args.report.now) (g.R.Report.told c.write_numbers.new.report) info count c.write_numbers.new.pages old mid t) c.if-not-read.false wrote in
    on_err_map c.write_frames.result (g.R.Report.told c.write_frames.new.report ≡ g.R.Report.told c.write_numbers.new.report) (g.R.Report.told c.write_frames.new.report ≡ g.R.Report.told c.args.report.now)
    (λ e. e ∙ lists.0) c.write_frames.ensures.untold
