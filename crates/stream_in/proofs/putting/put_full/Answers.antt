use Rattle.std.proofs.Common.{◌≡◌, ℕ, List, Option, IsSomeAnd, IsTrue, refl, sym, subst, Err, ap, ◌∙◌, rules}
use Rattle.std.proofs.lemmas.Result.{err_from_is_err_and}
use Rattle.stream_in.specs.declared.stop.InStop.TheVariants as stop
use Rattle.image_write.specs.Writing.{Writing, BlocksBelow, writes_of}
use Rattle.stream_in.proofs.Contents.{err_same, on_any_err}
use Rattle.stream_in.proofs.AtPage.{has_put, at_some}
use Rattle.stream_in.proofs.Outsides.{told_same}
use Rattle.stream_in.proofs.Rests.{told_puts, told_fails, told_unwritten, told_made, few_calls, is_first}
use Rattle.stream_in.specs.Putting.{IsAtPage, pages_in, writes_made}
use Rattle.stream_in.specs.Holding.{AreOfMap}
use Rattle.stream_in.proofs.Laying.{more_same}
use Rattle.stream_in.proofs.Moments.{alike_outside, outside_none, outside_same, outside_then}
use Rattle.stream_in.proofs.putting.put_full.Goals as goal

-- the disk has as many blocks as before
on_same_disk : (w : Writing) (free : List ℕ) (before now : ℕ) → now ≡ before → BlocksBelow w.extents free (writes_of w.info) before → BlocksBelow w.extents free (writes_of w.info) now
on_same_disk w free before now same h = subst (BlocksBelow w.extents free (writes_of w.info)) (sym same) h

pub returns-in_err-at_page-clause-puts : goal.returns-in_err-at_page-clause-puts
returns-in_err-at_page-clause-puts g c = λ free can. record {
  put = search rules;
  enough = search rules;
  too_few = λ told need is.
      let p = err_from_is_err_and c.from_residual.result c.from_residual.ensures.1 in
      let why : c.in_err-at_page.field-0.0 ≡ stop.NoSlots told need = err_same c.from_residual.result _ _ (p.1 ∙ ap Err p.2) is in
      c.at_page.ensures.too_few free (g.D.Disk.block_count c.args.disk.now) can told need (c.in_err-at_page.was ∙ ap Err why);
  done = search rules;
  outside = search rules;
  stopped =
      on_any_err c.from_residual.result _ (told_unwritten c.args.map.now free c.args.writer.now (g.D.Disk.content c.args.disk.now) (g.D.Disk.content c.args.disk.now) refl);
}

pub unreachable-requires : goal.unreachable-requires
unreachable-requires g c =
    let blocks = g.D.Disk.block_count c.args.disk.now in
    let P : Option Writing → Type 0 = λ o. IsSomeAnd o (λ next. IsAtPage c.requires.put.0 c.at_page.new.memory c.args.map.now blocks c.args.page.now c.args.writer.now next) in
    subst P c.in_default.is (c.in_ok-at_page.ensures.ready c.requires.put.0 blocks c.requires.put.1)

pub put_page-requires-clause-writing : goal.put_page-requires-clause-writing
put_page-requires-clause-writing g c =
    let free = c.requires.put.0 in
    let at = at_some _ _ _ _ _ _ _ _ c.in-Some.is (c.in_ok-at_page.ensures.ready free (g.D.Disk.block_count c.args.disk.now) c.requires.put.1) in
    (free, at.writing, on_same_disk c.in-Some.writer free (g.D.Disk.block_count c.args.disk.now) (g.D.Disk.block_count c.at_rest.new.disk) c.at_rest.ensures.called.blocks at.on_disk)

pub put_page-requires-clause-table : goal.put_page-requires-clause-table
put_page-requires-clause-table g c =
    let at = at_some _ _ _ _ _ _ _ _ c.in-Some.is (c.in_ok-at_page.ensures.ready c.requires.put.0 (g.D.Disk.block_count c.args.disk.now) c.requires.put.1) in
    at.table_is

pub put_page-requires-clause-page : goal.put_page-requires-clause-page
put_page-requires-clause-page g c =
    let at = at_some _ _ _ _ _ _ _ _ c.in-Some.is (c.in_ok-at_page.ensures.ready c.requires.put.0 (g.D.Disk.block_count c.args.disk.now) c.requires.put.1) in
    at.at_page

pub returns-in-More-clause-puts : goal.returns-in-More-clause-puts
returns-in-More-clause-puts g c = λ free can. record {
  put =
      let blocks = g.D.Disk.block_count c.args.disk.now in
      let at = at_some _ _ _ _ _ _ _ _ c.in-Some.is (c.in_ok-at_page.ensures.ready free blocks can) in
      has_put free c.at_page.new.memory c.put_page.new.memory c.args.map.now blocks c.args.page.now c.args.writer.now c.in-Some.writer c.put_page.new.writer at
      (c.in-More.ensures.put free at.writing tt);
  enough =
      let at = at_some _ _ _ _ _ _ _ _ c.in-Some.is (c.in_ok-at_page.ensures.ready free (g.D.Disk.block_count c.args.disk.now) can) in at.enough;
  too_few = search rules;
  done = λ pages of is.
      let before = g.D.Disk.block_count c.args.disk.now in
      let at = at_some _ _ _ _ _ _ _ _ c.in-Some.is (c.in_ok-at_page.ensures.ready free before can) in
      let w = c.in-Some.writer in
      let P : List (ℕ × ℕ × ℕ) → Type 0 = λ x. AreOfMap x free in
      let a = g.D.Disk.content c.args.disk.now in
      let b = g.D.Disk.content c.at_rest.new.disk in
      let d = g.D.Disk.content c.put_page.new.disk in
      let on_disk = on_same_disk w free before (g.D.Disk.block_count c.at_rest.new.disk) c.at_rest.ensures.called.blocks at.on_disk in
      told_made c.args.map.now free (pages_in c.args.page.now c.args.writer.now) pages (writes_made c.args.writer.now) c.put_page.new.writer.written c.is_none-begins.result a b d c.in_ok-at_rest.ensures.rested
      (more_same c.args.map.now w.extents free (pages_in c.args.page.now c.args.writer.now) w.info.pages pages (writes_made c.args.writer.now) w.written c.put_page.new.writer.written c.put_page.new.writer.written
      b d at.extents_are at.pages at.made refl
      (c.in-More.ensures.done free pages at.writing (subst P (sym at.extents_are) of) on_disk (is ∙ ap pages (sym at.count)) tt));
  outside =
      let at = at_some _ _ _ _ _ _ _ _ c.in-Some.is (c.in_ok-at_page.ensures.ready free (g.D.Disk.block_count c.args.disk.now) can) in
      let a = g.D.Disk.content c.args.disk.now in
      let b = g.D.Disk.content c.at_rest.new.disk in
      let d = g.D.Disk.content c.put_page.new.disk in
      told_puts c.args.map.now free c.args.writer.now c.is_none-begins.result a b d (is_first c.args.writer.now c.is_none-begins.result c.is_none-begins.ensures) c.in_ok-at_rest.ensures.rested
      (told_same c.args.map.now c.in-Some.writer.extents free b d at.extents_are (c.put_page.ensures.outside free at.writing));
  stopped = search rules;
}

pub returns-in-Done-clause-puts : goal.returns-in-Done-clause-puts
returns-in-Done-clause-puts g c = λ free can. record {
  put =
      let blocks = g.D.Disk.block_count c.args.disk.now in
      let at = at_some _ _ _ _ _ _ _ _ c.in-Some.is (c.in_ok-at_page.ensures.ready free blocks can) in
      has_put free c.at_page.new.memory c.put_page.new.memory c.args.map.now blocks c.args.page.now c.args.writer.now c.in-Some.writer c.put_page.new.writer at
      (c.in-Done.ensures.put free at.writing tt);
  enough =
      let at = at_some _ _ _ _ _ _ _ _ c.in-Some.is (c.in_ok-at_page.ensures.ready free (g.D.Disk.block_count c.args.disk.now) can) in at.enough;
  too_few = search rules;
  done = λ pages of is.
      let before = g.D.Disk.block_count c.args.disk.now in
      let at = at_some _ _ _ _ _ _ _ _ c.in-Some.is (c.in_ok-at_page.ensures.ready free before can) in
      let w = c.in-Some.writer in
      let P : List (ℕ × ℕ × ℕ) → Type 0 = λ x. AreOfMap x free in
      let a = g.D.Disk.content c.args.disk.now in
      let b = g.D.Disk.content c.at_rest.new.disk in
      let d = g.D.Disk.content c.put_page.new.disk in
      let on_disk = on_same_disk w free before (g.D.Disk.block_count c.at_rest.new.disk) c.at_rest.ensures.called.blocks at.on_disk in
      told_made c.args.map.now free (pages_in c.args.page.now c.args.writer.now) pages (writes_made c.args.writer.now) c.put_page.new.writer.written c.is_none-begins.result a b d c.in_ok-at_rest.ensures.rested
      (more_same c.args.map.now w.extents free (pages_in c.args.page.now c.args.writer.now) w.info.pages pages (writes_made c.args.writer.now) w.written c.put_page.new.writer.written c.put_page.new.writer.written
      b d at.extents_are at.pages at.made refl
      (c.in-Done.ensures.done free pages at.writing (subst P (sym at.extents_are) of) on_disk (is ∙ ap pages (sym at.count)) tt));
  outside =
      let at = at_some _ _ _ _ _ _ _ _ c.in-Some.is (c.in_ok-at_page.ensures.ready free (g.D.Disk.block_count c.args.disk.now) can) in
      let a = g.D.Disk.content c.args.disk.now in
      let b = g.D.Disk.content c.at_rest.new.disk in
      let d = g.D.Disk.content c.put_page.new.disk in
      told_puts c.args.map.now free c.args.writer.now c.is_none-begins.result a b d (is_first c.args.writer.now c.is_none-begins.result c.is_none-begins.ensures) c.in_ok-at_rest.ensures.rested
      (told_same c.args.map.now c.in-Some.writer.extents free b d at.extents_are (c.put_page.ensures.outside free at.writing));
  stopped = search rules;
}

pub returns-in_err-at_rest-clause-puts : goal.returns-in_err-at_rest-clause-puts
returns-in_err-at_rest-clause-puts g c = λ free can. record {
  put = search rules;
  enough = search rules;
  too_few = search rules;
  done = search rules;
  outside = search rules;
  stopped =
      on_any_err c.from_residual-in_err-at_rest.result _ (told_unwritten c.args.map.now free c.args.writer.now (g.D.Disk.content c.args.disk.now) (g.D.Disk.content c.at_rest.new.disk) c.in_err-at_rest.ensures.same);
}

pub returns-in-Fault-clause-puts : goal.returns-in-Fault-clause-puts
returns-in-Fault-clause-puts g c = λ free can. record {
  put = search rules;
  enough = search rules;
  too_few = search rules;
  done = search rules;
  outside = search rules;
  stopped =
      let at = at_some _ _ _ _ _ _ _ _ c.in-Some.is (c.in_ok-at_page.ensures.ready free (g.D.Disk.block_count c.args.disk.now) can) in
      let a = g.D.Disk.content c.args.disk.now in
      let b = g.D.Disk.content c.at_rest.new.disk in
      let d = g.D.Disk.content c.put_page.new.disk in
      told_fails c.args.map.now free c.args.writer.now a d (told_puts c.args.map.now free c.args.writer.now c.is_none-begins.result a b d (is_first c.args.writer.now c.is_none-begins.result c.is_none-begins.ensures) c.in_ok-at_rest.ensures.rested
      (told_same c.args.map.now c.in-Some.writer.extents free b d at.extents_are (c.put_page.ensures.outside free at.writing)));
}

-- How often the disk is called.

pub returns-in-More-clause-called : goal.returns-in-More-clause-called
returns-in-More-clause-called g c = record {
  cause = search rules;
  faults = search rules;
  calls =
      let free = c.requires.put.0 in
      let blocks = g.D.Disk.block_count c.args.disk.now in
      let at = at_some _ _ _ _ _ _ _ _ c.in-Some.is (c.in_ok-at_page.ensures.ready free blocks c.requires.put.1) in
      few_calls free c.args.memory.now c.args.map.now blocks c.args.page.now c.args.writer.now c.in-Some.writer c.is_none-begins.result (g.D.Disk.calls c.args.disk.now) (g.D.Disk.calls c.at_rest.new.disk) (g.D.Disk.calls c.put_page.new.disk)
      c.requires.put.1 (is_first c.args.writer.now c.is_none-begins.result c.is_none-begins.ensures) at.pages at.made (λ e. ap g.D.Disk.calls (c.at_rest.ensures.uncalled e)) c.at_rest.ensures.called.calls c.put_page.ensures.called.calls c.put_page.ensures.first_call;
  orders = search rules;
  blocks = search rules;
  telling = search rules;
}

pub returns-in-Done-clause-called : goal.returns-in-Done-clause-called
returns-in-Done-clause-called g c = record {
  cause = search rules;
  faults = search rules;
  calls =
      let free = c.requires.put.0 in
      let blocks = g.D.Disk.block_count c.args.disk.now in
      let at = at_some _ _ _ _ _ _ _ _ c.in-Some.is (c.in_ok-at_page.ensures.ready free blocks c.requires.put.1) in
      few_calls free c.args.memory.now c.args.map.now blocks c.args.page.now c.args.writer.now c.in-Some.writer c.is_none-begins.result (g.D.Disk.calls c.args.disk.now) (g.D.Disk.calls c.at_rest.new.disk) (g.D.Disk.calls c.put_page.new.disk)
      c.requires.put.1 (is_first c.args.writer.now c.is_none-begins.result c.is_none-begins.ensures) at.pages at.made (λ e. ap g.D.Disk.calls (c.at_rest.ensures.uncalled e)) c.at_rest.ensures.called.calls c.put_page.ensures.called.calls c.put_page.ensures.first_call;
  orders = search rules;
  blocks = search rules;
  telling = search rules;
}

pub returns-in-Fault-clause-called : goal.returns-in-Fault-clause-called
returns-in-Fault-clause-called g c = record {
  cause = search rules;
  faults = search rules;
  calls =
      let free = c.requires.put.0 in
      let blocks = g.D.Disk.block_count c.args.disk.now in
      let at = at_some _ _ _ _ _ _ _ _ c.in-Some.is (c.in_ok-at_page.ensures.ready free blocks c.requires.put.1) in
      few_calls free c.args.memory.now c.args.map.now blocks c.args.page.now c.args.writer.now c.in-Some.writer c.is_none-begins.result (g.D.Disk.calls c.args.disk.now) (g.D.Disk.calls c.at_rest.new.disk) (g.D.Disk.calls c.put_page.new.disk)
      c.requires.put.1 (is_first c.args.writer.now c.is_none-begins.result c.is_none-begins.ensures) at.pages at.made (λ e. ap g.D.Disk.calls (c.at_rest.ensures.uncalled e)) c.at_rest.ensures.called.calls c.put_page.ensures.called.calls c.put_page.ensures.first_call;
  orders = search rules;
  blocks = search rules;
  telling = search rules;
}

-- Moments.

pub returns-in_err-at_page-clause-time : goal.returns-in_err-at_page-clause-time
returns-in_err-at_page-clause-time g c = λ tells free can. outside_none c.args.map.now free (g.D.Disk.moment c.args.disk.now) (g.D.Disk.left_since c.args.disk.now)

pub returns-in_err-at_rest-clause-time : goal.returns-in_err-at_rest-clause-time
returns-in_err-at_rest-clause-time g c = λ tells free can.
    alike_outside c.args.map.now free (g.D.Disk.moment c.args.disk.now) (g.D.Disk.moment c.at_rest.new.disk) (g.D.Disk.left_since c.args.disk.now) (g.D.Disk.left_since c.at_rest.new.disk) (c.at_rest.ensures.time tells)

pub returns-in-More-clause-time : goal.returns-in-More-clause-time
returns-in-More-clause-time g c = λ tells free can.
    let at = at_some _ _ _ _ _ _ _ _ c.in-Some.is (c.in_ok-at_page.ensures.ready free (g.D.Disk.block_count c.args.disk.now) can) in
    let d = c.args.disk.now in
    let e = c.at_rest.new.disk in
    let f = c.put_page.new.disk in
    outside_then c.args.map.now free (g.D.Disk.moment d) (g.D.Disk.moment e) (g.D.Disk.moment f) (g.D.Disk.left_since d) (g.D.Disk.left_since e) (g.D.Disk.left_since f)
    (alike_outside c.args.map.now free (g.D.Disk.moment d) (g.D.Disk.moment e) (g.D.Disk.left_since d) (g.D.Disk.left_since e) (c.at_rest.ensures.time tells))
    (outside_same c.args.map.now c.in-Some.writer.extents free (g.D.Disk.moment e) (g.D.Disk.moment f) (g.D.Disk.left_since e) (g.D.Disk.left_since f)
    at.extents_are (c.put_page.ensures.time (subst IsTrue (sym c.at_rest.ensures.called.telling) tells) free at.writing))

pub returns-in-Done-clause-time : goal.returns-in-Done-clause-time
returns-in-Done-clause-time g c = λ tells free can.
    let at = at_some _ _ _ _ _ _ _ _ c.in-Some.is (c.in_ok-at_page.ensures.ready free (g.D.Disk.block_count c.args.disk.now) can) in
    let d = c.args.disk.now in
    let e = c.at_rest.new.disk in
    let f = c.put_page.new.disk in
    outside_then c.args.map.now free (g.D.Disk.moment d) (g.D.Disk.moment e) (g.D.Disk.moment f) (g.D.Disk.left_since d) (g.D.Disk.left_since e) (g.D.Disk.left_since f)
    (alike_outside c.args.map.now free (g.D.Disk.moment d) (g.D.Disk.moment e) (g.D.Disk.left_since d) (g.D.Disk.left_since e) (c.at_rest.ensures.time tells))
    (outside_same c.args.map.now c.in-Some.writer.extents free (g.D.Disk.moment e) (g.D.Disk.moment f) (g.D.Disk.left_since e) (g.D.Disk.left_since f)
    at.extents_are (c.put_page.ensures.time (subst IsTrue (sym c.at_rest.ensures.called.telling) tells) free at.writing))

pub returns-in-Fault-clause-time : goal.returns-in-Fault-clause-time
returns-in-Fault-clause-time g c = λ tells free can.
    let at = at_some _ _ _ _ _ _ _ _ c.in-Some.is (c.in_ok-at_page.ensures.ready free (g.D.Disk.block_count c.args.disk.now) can) in
    let d = c.args.disk.now in
    let e = c.at_rest.new.disk in
    let f = c.put_page.new.disk in
    outside_then c.args.map.now free (g.D.Disk.moment d) (g.D.Disk.moment e) (g.D.Disk.moment f) (g.D.Disk.left_since d) (g.D.Disk.left_since e) (g.D.Disk.left_since f)
    (alike_outside c.args.map.now free (g.D.Disk.moment d) (g.D.Disk.moment e) (g.D.Disk.left_since d) (g.D.Disk.left_since e) (c.at_rest.ensures.time tells))
    (outside_same c.args.map.now c.in-Some.writer.extents free (g.D.Disk.moment e) (g.D.Disk.moment f) (g.D.Disk.left_since e) (g.D.Disk.left_since f)
    at.extents_are (c.put_page.ensures.time (subst IsTrue (sym c.at_rest.ensures.called.telling) tells) free at.writing))
