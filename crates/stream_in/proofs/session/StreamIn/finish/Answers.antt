use Rattle.std.proofs.Common.{◌≡◌, ℕ, None, Err, IfSome, refl, ap, subst, ◌∙◌, rules}
use Rattle.std.proofs.lemmas.Result.{err_from_is_err_and}
use Rattle.stream_in.specs.declared.stop.InStop.TheVariants as stop
use Rattle.stream_in.specs.declared.checking.fault.StreamFault.{StreamFault}
use Rattle.definitions.specs.Disk.{Changes}
use Rattle.plain_machine.specs.Image.{laid_block}
use Rattle.stream_in.specs.Grammar.{short_fault}
use Rattle.stream_in.specs.Marked.{Marks}
use Rattle.stream_in.specs.Moments.{ElapsesOverMark, TriesMark}
use Rattle.stream_in.proofs.ComingIn.{told_comes_in, first_block_of, told_whole, none_whole, told_leaves_whole, none_leaves_whole}
use Rattle.stream_in.proofs.Moments.{alike_none}
use Rattle.stream_in.proofs.Trying.{told_alike_mark}
use Rattle.stream_in.proofs.Contents.{err_same}
use Rattle.stream_in.proofs.session.StreamIn.finish.Goals as goal

stream_same : (x y : StreamFault) → stop.Stream x ≡ stop.Stream y → x ≡ y
stream_same x y e = cc

pub returns-in_err-n-clause-answer : goal.returns-in_err-n-clause-answer
returns-in_err-n-clause-answer g c = record {
  short = λ free bs fed fault.
      let p = err_from_is_err_and c.from_residual.result c.from_residual.ensures.1 in
      let e = c.in_err-n.field-0.0 in
      let is : c.from_residual.result ≡ Err (stop.Stream e) = p.1 ∙ ap Err p.2 in
      let told = c.finish.ensures.fault bs fed.taken fault in (
        λ refused. let same : e ≡ fault = stream_same e fault (err_same c.from_residual.result _ _ is refused) in told.0 (c.in_err-n.was ∙ ap Err same),
        λ short. let same : e ≡ fault = err_same c.finish.result _ _ c.in_err-n.was (told.1 short) in is ∙ ap (λ f. Err (stop.Stream f)) same,
      );
  saved = search rules;
}

pub returns-in-Ok-clause-marks : goal.returns-in-Ok-clause-marks
returns-in-Ok-clause-marks g c = record {
  marked = search rules;
  holds = λ area free bs into.
      let s = c.args.self in
      let fed = into.fed in
      let whole : short_fault bs ≡ None = (c.in_ok-n.ensures.ok bs fed.taken).0 refl in
      let first : c.first_of-first.result ≡ laid_block s.map free 0 = first_block_of free bs s.memory s.map s.writer c.first_of-first.result fed.output whole c.first_of-first.ensures in
      told_comes_in area free bs s (g.D.Disk.block_count c.args.disk.now) (g.D.Disk.content c.args.disk.now) (g.D.Disk.content c.mark_image.new.disk) into whole c.requires.blocks
      (g.met.D.Disk.well_formed c.args.disk.now) (subst (λ (n : ℕ). Changes (Marks n) (g.D.Disk.content c.args.disk.now) (g.D.Disk.content c.mark_image.new.disk)) first c.in-Ok.ensures.marked);
  whole = λ area free bs into.
      let s = c.args.self in
      let fed = into.fed in
      let d = c.args.disk.now in
      let e = c.mark_image.new.disk in
      let whole : short_fault bs ≡ None = (c.in_ok-n.ensures.ok bs fed.taken).0 refl in
      let first : c.first_of-first.result ≡ laid_block s.map free 0 = first_block_of free bs s.memory s.map s.writer c.first_of-first.result fed.output whole c.first_of-first.ensures in
      told_leaves_whole area free bs s (g.D.Disk.block_count d) (g.D.Disk.content d) (g.D.Disk.content e) into whole c.requires.blocks (g.met.D.Disk.well_formed d)
      (subst (λ (n : ℕ). IfSome (g.D.Disk.content d) (λ held. IfSome (g.D.Disk.content e) (TriesMark n held))) first c.mark_image.ensures.tried);
}

-- Moments.

pub returns-in_err-n-clause-moments : goal.returns-in_err-n-clause-moments
returns-in_err-n-clause-moments g c = λ tells. record {
  time = λ free bs fed.
      told_alike_mark (laid_block c.args.self.map free 0) (g.D.Disk.moment c.args.disk.now) (g.D.Disk.moment c.args.disk.now) (g.D.Disk.left_since c.args.disk.now) (g.D.Disk.left_since c.args.disk.now) (g.D.Disk.content c.args.disk.now)
      (alike_none (g.D.Disk.moment c.args.disk.now) (g.D.Disk.left_since c.args.disk.now));
  cut = λ area free bs into. none_whole area free bs (g.D.Disk.moment c.args.disk.now) (g.D.Disk.left_since c.args.disk.now) (g.D.Disk.content c.args.disk.now);
}

pub returns-in-Ok-clause-moments : goal.returns-in-Ok-clause-moments
returns-in-Ok-clause-moments g c = λ tells. record {
  time = λ free bs fed.
      let s = c.args.self in
      let d = c.args.disk.now in
      let e = c.mark_image.new.disk in
      let whole : short_fault bs ≡ None = (c.in_ok-n.ensures.ok bs fed.taken).0 refl in
      let first : c.first_of-first.result ≡ laid_block s.map free 0 = first_block_of free bs s.memory s.map s.writer c.first_of-first.result fed.output whole c.first_of-first.ensures in
      subst (λ (n : ℕ). IfSome (g.D.Disk.content d) (λ held. ElapsesOverMark n (g.D.Disk.moment d) (g.D.Disk.moment e) (g.D.Disk.left_since d) (g.D.Disk.left_since e) held)) first (c.mark_image.ensures.time tells);
  cut = λ area free bs into.
      let s = c.args.self in
      let fed = into.fed in
      let d = c.args.disk.now in
      let e = c.mark_image.new.disk in
      let whole : short_fault bs ≡ None = (c.in_ok-n.ensures.ok bs fed.taken).0 refl in
      let first : c.first_of-first.result ≡ laid_block s.map free 0 = first_block_of free bs s.memory s.map s.writer c.first_of-first.result fed.output whole c.first_of-first.ensures in
      told_whole area free bs s (g.D.Disk.block_count d) (g.D.Disk.moment d) (g.D.Disk.moment e) (g.D.Disk.left_since d) (g.D.Disk.left_since e) (g.D.Disk.content d) into whole c.requires.blocks (g.met.D.Disk.well_formed d)
      (subst (λ (n : ℕ). IfSome (g.D.Disk.content d) (λ held. ElapsesOverMark n (g.D.Disk.moment d) (g.D.Disk.moment e) (g.D.Disk.left_since d) (g.D.Disk.left_since e) held)) first (c.mark_image.ensures.time tells));
}

pub returns-clause-moments : goal.returns-clause-moments
returns-clause-moments g c = λ tells. record {
  time = λ free bs fed.
      let s = c.args.self in
      let d = c.args.disk.now in
      let e = c.mark_image.new.disk in
      let whole : short_fault bs ≡ None = (c.in_ok-n.ensures.ok bs fed.taken).0 refl in
      let first : c.first_of-first.result ≡ laid_block s.map free 0 = first_block_of free bs s.memory s.map s.writer c.first_of-first.result fed.output whole c.first_of-first.ensures in
      subst (λ (n : ℕ). IfSome (g.D.Disk.content d) (λ held. ElapsesOverMark n (g.D.Disk.moment d) (g.D.Disk.moment e) (g.D.Disk.left_since d) (g.D.Disk.left_since e) held)) first (c.mark_image.ensures.time tells);
  cut = λ area free bs into.
      let s = c.args.self in
      let fed = into.fed in
      let d = c.args.disk.now in
      let e = c.mark_image.new.disk in
      let whole : short_fault bs ≡ None = (c.in_ok-n.ensures.ok bs fed.taken).0 refl in
      let first : c.first_of-first.result ≡ laid_block s.map free 0 = first_block_of free bs s.memory s.map s.writer c.first_of-first.result fed.output whole c.first_of-first.ensures in
      told_whole area free bs s (g.D.Disk.block_count d) (g.D.Disk.moment d) (g.D.Disk.moment e) (g.D.Disk.left_since d) (g.D.Disk.left_since e) (g.D.Disk.content d) into whole c.requires.blocks (g.met.D.Disk.well_formed d)
      (subst (λ (n : ℕ). IfSome (g.D.Disk.content d) (λ held. ElapsesOverMark n (g.D.Disk.moment d) (g.D.Disk.moment e) (g.D.Disk.left_since d) (g.D.Disk.left_since e) held)) first (c.mark_image.ensures.time tells));
}

-- The images.

pub returns-in_err-n-clause-marks : goal.returns-in_err-n-clause-marks
returns-in_err-n-clause-marks g c = record {
  marked = search rules;
  holds = search rules;
  whole = λ area free bs into. none_leaves_whole area free bs (g.D.Disk.content c.args.disk.now);
}

pub returns-clause-marks : goal.returns-clause-marks
returns-clause-marks g c = record {
  marked = search rules;
  holds = search rules;
  whole = λ area free bs into.
      let s = c.args.self in
      let fed = into.fed in
      let d = c.args.disk.now in
      let e = c.mark_image.new.disk in
      let whole : short_fault bs ≡ None = (c.in_ok-n.ensures.ok bs fed.taken).0 refl in
      let first : c.first_of-first.result ≡ laid_block s.map free 0 = first_block_of free bs s.memory s.map s.writer c.first_of-first.result fed.output whole c.first_of-first.ensures in
      told_leaves_whole area free bs s (g.D.Disk.block_count d) (g.D.Disk.content d) (g.D.Disk.content e) into whole c.requires.blocks (g.met.D.Disk.well_formed d)
      (subst (λ (n : ℕ). IfSome (g.D.Disk.content d) (λ held. IfSome (g.D.Disk.content e) (TriesMark n held))) first c.mark_image.ensures.tried);
}
