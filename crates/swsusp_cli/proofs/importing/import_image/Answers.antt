use Rattle.std.proofs.Common.{◌≡◌, ℕ, List, [], Option, Result, Err, sym, ap, ◌∙◌, subst}
use Rattle.std.specs.Prelude.{IsTrue}
use Rattle.std.specs.Option.{IfSome}
use Rattle.definitions.specs.Disk.{Content, as_it_reads}
use Rattle.plain_machine.specs.Image.{laid_block}
use Rattle.stream_in.specs.Holding.{IsReadyFor}
use Rattle.std.proofs.lemmas.Result.{err_from_is_err_and}
use Rattle.stream_in.specs.declared.checking.fault.StreamFault.{StreamFault}
use Rattle.stream_in.specs.Session.{IsGoing, TakesInto}
use Rattle.stream_in.specs.Holding.{AreOfMap}
use Rattle.stream_in.specs.declared.stop.InStop.TheVariants as stop
use Rattle.swsusp_cli.specs.Imports.{IsCalledAtMost}
use Rattle.swsusp_cli.specs.Imports.{Ends}
use Rattle.swsusp_cli.specs.declared.importing.ImportStop.{ImportStop}
use Rattle.command_kit.specs.View.{DiskView}
use Rattle.swsusp_cli.proofs.Imported.{ends_imported, ends_unfed, ends_unfinished, has_opened}
use Rattle.swsusp_cli.proofs.Crashed.{inside_fed, inside_marked, marked_later}
use Rattle.swsusp_cli.proofs.importing.import_image.Goals as goal

pub returns-in_err-feed_input-clause-ends : goal.returns-in_err-feed_input-clause-ends
returns-in_err-feed_input-clause-ends g c =
    let left = g.I.Source.remaining c.args.input.now in
    let left' = g.I.Source.remaining c.feed_input.new.input in
    let d : DiskView = record { blocks = g.D.Disk.block_count c.args.disk.now; content = g.D.Disk.content c.args.disk.now; faults = g.D.Disk.faults c.args.disk.now; calls = g.D.Disk.calls c.args.disk.now; orders = g.D.Disk.orders c.args.disk.now } in
    let e : DiskView = record { blocks = g.D.Disk.block_count c.open.new.disk; content = g.D.Disk.content c.open.new.disk; faults = g.D.Disk.faults c.open.new.disk; calls = g.D.Disk.calls c.open.new.disk; orders = g.D.Disk.orders c.open.new.disk } in
    let f : DiskView = record { blocks = g.D.Disk.block_count c.feed_input.new.disk; content = g.D.Disk.content c.feed_input.new.disk; faults = g.D.Disk.faults c.feed_input.new.disk; calls = g.D.Disk.calls c.feed_input.new.disk; orders = g.D.Disk.orders c.feed_input.new.disk } in
    let area = c.in_ok-session.ensures.opened.0 in
    let is = c.in_ok-session.ensures.opened.1 in
    let s = c.in_ok-session.session in
    let free = is.fed.0 in
    let called : IsCalledAtMost 1 d e = record { calls = c.open.ensures.called.calls; faults = c.open.ensures.called.faults; orders = c.open.ensures.called.orders; blocks = c.open.ensures.called.blocks } in
    let opened = has_opened area s d e is c.in_ok-session.ensures.opened.2 c.in_ok-session.ensures.usable c.open.ensures.content called in
    let p = err_from_is_err_and c.from_residual-in_err-feed_input.result c.from_residual-in_err-feed_input.ensures.1 in
    subst (λ (r : Result ℕ ImportStop). Ends left left' d f r) (sym (p.1 ∙ ap Err p.2))
    (ends_unfed area free c.in_err-feed_input.field-0.0 s c.feed_input.new.session left left' d e f opened (c.in_err-feed_input.ensures.feeds free is.fed.3 is.fed.2))

pub returns-clause-ends : goal.returns-clause-ends
returns-clause-ends g c =
    let left = g.I.Source.remaining c.args.input.now in
    let left' = g.I.Source.remaining c.feed_input.new.input in
    let d : DiskView = record { blocks = g.D.Disk.block_count c.args.disk.now; content = g.D.Disk.content c.args.disk.now; faults = g.D.Disk.faults c.args.disk.now; calls = g.D.Disk.calls c.args.disk.now; orders = g.D.Disk.orders c.args.disk.now } in
    let e : DiskView = record { blocks = g.D.Disk.block_count c.open.new.disk; content = g.D.Disk.content c.open.new.disk; faults = g.D.Disk.faults c.open.new.disk; calls = g.D.Disk.calls c.open.new.disk; orders = g.D.Disk.orders c.open.new.disk } in
    let f : DiskView = record { blocks = g.D.Disk.block_count c.feed_input.new.disk; content = g.D.Disk.content c.feed_input.new.disk; faults = g.D.Disk.faults c.feed_input.new.disk; calls = g.D.Disk.calls c.feed_input.new.disk; orders = g.D.Disk.orders c.feed_input.new.disk } in
    let area = c.in_ok-session.ensures.opened.0 in
    let is = c.in_ok-session.ensures.opened.1 in
    let s = c.in_ok-session.session in
    let free = is.fed.0 in
    let called : IsCalledAtMost 1 d e = record { calls = c.open.ensures.called.calls; faults = c.open.ensures.called.faults; orders = c.open.ensures.called.orders; blocks = c.open.ensures.called.blocks } in
    let opened = has_opened area s d e is c.in_ok-session.ensures.opened.2 c.in_ok-session.ensures.usable c.open.ensures.content called in
    let g' : DiskView = record { blocks = g.D.Disk.block_count c.finish.new.disk; content = g.D.Disk.content c.finish.new.disk; faults = g.D.Disk.faults c.finish.new.disk; calls = g.D.Disk.calls c.finish.new.disk; orders = g.D.Disk.orders c.finish.new.disk } in
    let fed = c.in_ok-feed_input.ensures.feeds free is.fed.3 is.fed.2 in
    let last : IsCalledAtMost 6 f g' = record { calls = c.finish.ensures.called.calls; faults = c.finish.ensures.called.faults; orders = c.finish.ensures.called.orders; blocks = c.finish.ensures.called.blocks } in
    let takes : TakesInto area free fed.0 c.feed_input.new.session = record {
      fed = fed.1.fed;
      map_is = fed.1.map ∙ is.map_is;
      of_map = subst (λ (m : List (ℕ × ℕ × ℕ)). AreOfMap m free) (sym fed.1.map) is.fed.2;
      usable = is.fed.1;
    } in
    ends_imported area free fed.0 s c.feed_input.new.session c.finish.result c.in_ok-finish.field-0 left left' d e f g' opened fed.1 fed.2 c.in_ok-finish.was (c.in_ok-finish.ensures.answer.saved free fed.0 fed.1.fed) (c.finish.ensures.answer.short free fed.0 fed.1.fed)
    (c.in_ok-finish.ensures.marks.marked free fed.0 fed.1.fed) (c.in_ok-finish.ensures.marks.holds area free fed.0 takes) last

pub returns-in_err-finish-clause-ends : goal.returns-in_err-finish-clause-ends
returns-in_err-finish-clause-ends g c =
    let left = g.I.Source.remaining c.args.input.now in
    let left' = g.I.Source.remaining c.feed_input.new.input in
    let d : DiskView = record { blocks = g.D.Disk.block_count c.args.disk.now; content = g.D.Disk.content c.args.disk.now; faults = g.D.Disk.faults c.args.disk.now; calls = g.D.Disk.calls c.args.disk.now; orders = g.D.Disk.orders c.args.disk.now } in
    let e : DiskView = record { blocks = g.D.Disk.block_count c.open.new.disk; content = g.D.Disk.content c.open.new.disk; faults = g.D.Disk.faults c.open.new.disk; calls = g.D.Disk.calls c.open.new.disk; orders = g.D.Disk.orders c.open.new.disk } in
    let f : DiskView = record { blocks = g.D.Disk.block_count c.feed_input.new.disk; content = g.D.Disk.content c.feed_input.new.disk; faults = g.D.Disk.faults c.feed_input.new.disk; calls = g.D.Disk.calls c.feed_input.new.disk; orders = g.D.Disk.orders c.feed_input.new.disk } in
    let area = c.in_ok-session.ensures.opened.0 in
    let is = c.in_ok-session.ensures.opened.1 in
    let s = c.in_ok-session.session in
    let free = is.fed.0 in
    let called : IsCalledAtMost 1 d e = record { calls = c.open.ensures.called.calls; faults = c.open.ensures.called.faults; orders = c.open.ensures.called.orders; blocks = c.open.ensures.called.blocks } in
    let opened = has_opened area s d e is c.in_ok-session.ensures.opened.2 c.in_ok-session.ensures.usable c.open.ensures.content called in
    let g' : DiskView = record { blocks = g.D.Disk.block_count c.finish.new.disk; content = g.D.Disk.content c.finish.new.disk; faults = g.D.Disk.faults c.finish.new.disk; calls = g.D.Disk.calls c.finish.new.disk; orders = g.D.Disk.orders c.finish.new.disk } in
    let fed = c.in_ok-feed_input.ensures.feeds free is.fed.3 is.fed.2 in
    let last : IsCalledAtMost 6 f g' = record { calls = c.finish.ensures.called.calls; faults = c.finish.ensures.called.faults; orders = c.finish.ensures.called.orders; blocks = c.finish.ensures.called.blocks } in
    let going : IsGoing c.feed_input.new.session = (free, fed.0, fed.1.fed) in
    let untouched : (fault : StreamFault) → c.finish.result ≡ Err (stop.Stream fault) → g' ≡ f = λ fault is. let same = c.finish.ensures.untouched fault is in cc in
    let p = err_from_is_err_and c.from_residual-in_err-finish.result c.from_residual-in_err-finish.ensures.1 in
    subst (λ (r : Result ℕ ImportStop). Ends left left' d g' r) (sym (p.1 ∙ ap Err p.2))
    (ends_unfinished area free fed.0 s c.feed_input.new.session c.finish.result c.in_err-finish.field-0.0 left left' d e f g' opened fed.1 fed.2 c.in_err-finish.was (c.in_err-finish.ensures.stopped going).stops (c.finish.ensures.answer.short free fed.0 fed.1.fed)
    (c.in_err-finish.ensures.stopped going).no_swap untouched (c.in_err-finish.ensures.stopped going).leaves last (λ fault. c.in_err-finish.ensures.called.cause (going, fault)))

pub returns-in_err-feed_input-clause-inside : goal.returns-in_err-feed_input-clause-inside
returns-in_err-feed_input-clause-inside g c tells =
    let ready = c.in_ok-session.ensures.ready in
    let opened = subst IsTrue (sym c.open.ensures.called.telling) tells in
    inside_fed (g.I.Source.remaining c.args.input.now) (g.I.Source.remaining c.feed_input.new.input) (g.D.Disk.moment c.args.disk.now) (g.D.Disk.moment c.open.new.disk) (g.D.Disk.moment c.feed_input.new.disk)
    (g.D.Disk.left_since c.args.disk.now) (g.D.Disk.left_since c.open.new.disk) (g.D.Disk.left_since c.feed_input.new.disk) (c.open.ensures.time tells) (c.feed_input.ensures.headers opened ready.0 ready.1 ready.2)

pub returns-clause-inside : goal.returns-clause-inside
returns-clause-inside g c tells =
    let ready = c.in_ok-session.ensures.ready in
    let opened = subst IsTrue (sym c.open.ensures.called.telling) tells in
    let fed = subst IsTrue (sym c.feed_input.ensures.telling) opened in
    let told = g.met.D.Disk.tells_content c.feed_input.new.disk fed in
    let takes = c.in_ok-feed_input.ensures.ready ready.0 ready.1 ready.2 in
    inside_marked ready.0 ready.1 c.feed_input.new.session (g.I.Source.remaining c.args.input.now) (g.I.Source.remaining c.feed_input.new.input)
    (g.D.Disk.moment c.args.disk.now) (g.D.Disk.moment c.open.new.disk) (g.D.Disk.moment c.feed_input.new.disk) (g.D.Disk.moment c.finish.new.disk)
    (g.D.Disk.left_since c.args.disk.now) (g.D.Disk.left_since c.open.new.disk) (g.D.Disk.left_since c.feed_input.new.disk) (g.D.Disk.left_since c.finish.new.disk)
    (g.D.Disk.content c.open.new.disk) (g.D.Disk.content c.feed_input.new.disk) (c.open.ensures.time tells) (c.feed_input.ensures.headers opened ready.0 ready.1 ready.2)
    (marked_later (laid_block c.feed_input.new.session.map ready.1 0) (g.D.Disk.moment c.feed_input.new.disk) (g.D.Disk.moment c.finish.new.disk) (g.D.Disk.left_since c.feed_input.new.disk) (g.D.Disk.left_since c.finish.new.disk)
    (g.D.Disk.content c.feed_input.new.disk) told ((c.finish.ensures.moments fed).time ready.1 takes.bs takes.takes.fed))
    told (subst (λ (o : Option Content). IfSome o (λ held. IsReadyFor ready.0 ready.1 [] (as_it_reads held))) (sym c.open.ensures.content) ready.3) takes
    ((c.finish.ensures.moments fed).cut ready.0 ready.1 takes.bs takes.takes)

pub returns-in_err-finish-clause-inside : goal.returns-in_err-finish-clause-inside
returns-in_err-finish-clause-inside g c tells =
    let ready = c.in_ok-session.ensures.ready in
    let opened = subst IsTrue (sym c.open.ensures.called.telling) tells in
    let fed = subst IsTrue (sym c.feed_input.ensures.telling) opened in
    let told = g.met.D.Disk.tells_content c.feed_input.new.disk fed in
    let takes = c.in_ok-feed_input.ensures.ready ready.0 ready.1 ready.2 in
    inside_marked ready.0 ready.1 c.feed_input.new.session (g.I.Source.remaining c.args.input.now) (g.I.Source.remaining c.feed_input.new.input)
    (g.D.Disk.moment c.args.disk.now) (g.D.Disk.moment c.open.new.disk) (g.D.Disk.moment c.feed_input.new.disk) (g.D.Disk.moment c.finish.new.disk)
    (g.D.Disk.left_since c.args.disk.now) (g.D.Disk.left_since c.open.new.disk) (g.D.Disk.left_since c.feed_input.new.disk) (g.D.Disk.left_since c.finish.new.disk)
    (g.D.Disk.content c.open.new.disk) (g.D.Disk.content c.feed_input.new.disk) (c.open.ensures.time tells) (c.feed_input.ensures.headers opened ready.0 ready.1 ready.2)
    (marked_later (laid_block c.feed_input.new.session.map ready.1 0) (g.D.Disk.moment c.feed_input.new.disk) (g.D.Disk.moment c.finish.new.disk) (g.D.Disk.left_since c.feed_input.new.disk) (g.D.Disk.left_since c.finish.new.disk)
    (g.D.Disk.content c.feed_input.new.disk) told ((c.finish.ensures.moments fed).time ready.1 takes.bs takes.takes.fed))
    told (subst (λ (o : Option Content). IfSome o (λ held. IsReadyFor ready.0 ready.1 [] (as_it_reads held))) (sym c.open.ensures.content) ready.3) takes
    ((c.finish.ensures.moments fed).cut ready.0 ready.1 takes.bs takes.takes)
