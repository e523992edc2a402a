use Rattle.std.proofs.Common.{◌≡◌, ℕ, ◌+◌, ◌<◌, List, map, take, subst, sym, ap, ◌∙◌, arith}
use Rattle.definitions.specs.Bytes.{word}
use Rattle.image_check.specs.Numbers.{frame_of}
use Rattle.image_show.specs.Told.{frame_run, words_of}
use Rattle.image_show.specs.declared.facts.fact.Fact.{Fact}
use Rattle.image_show.specs.Parts.{RunsOn}
use Rattle.image_show.specs.Forms.{Puts, PutsFront}
use Rattle.image_show.proofs.BlockSteps.{Adds}
use Rattle.image_show.proofs.FrameSteps.{numbers_cut, numbers_more, numbers_start, one_word, NumbersSoFar}
use Rattle.image_show.proofs.frames.print_numbers.Goals as goal

pub loop-i-init : goal.loop-i-init
loop-i-init g c = record {
  so_far = numbers_start g.F.Form.style c.args.runs.now.last (g.F.Form.written c.args.form.now);
  count = omega arith;
  counted = omega arith;
}

pub add-ended-requires : goal.add-ended-requires
add-ended-requires g c = omega (arith, c.requires.room, c.loop-i.invariant.count, c.loop-i-test.true)

pub loop-i-preserved : goal.loop-i-preserved
loop-i-preserved g c =
    let format = c.args.format in
    let page = c.args.page.now in
    let i = c.loop-i.i in
    let old = c.args.runs.now.last in
    let mid = c.loop-i.runs.last in
    let new = c.add-ended.new.self.last in
    let ns : List ℕ = map (frame_of format) (take i (words_of page)) in
    let lt : i < 512 = omega (arith, c.requires.few, c.loop-i-test.true) in
    let here : c.frame_of.result ≡ frame_of format (word page i) = c.frame_of.ensures ∙ ap (frame_of format) c.word.ensures in
    let adds : Adds mid (frame_of format (word page i)) new c.add-ended.result =
    subst (λ n. Adds mid n new c.add-ended.result) here c.add-ended.ensures.runs in
    let before = g.F.Form.written c.args.form.now in
    let then = g.F.Form.written c.loop-i.form in
    let now = g.F.Form.written c.print_any.new.form in
    record {
      so_far = subst (λ (xs : List ℕ). NumbersSoFar g.F.Form.style old new xs before now) (sym (one_word (frame_of format) page i lt))
          (numbers_more g.F.Form.style old mid new c.add-ended.result ns (frame_of format (word page i)) before then now c.loop-i.invariant.so_far adds
          (subst (λ (fs : List Fact). Puts g.F.Form.style fs then now) c.frame_run.ensures c.in_ok-print_any.ensures.whole));
      count = omega (arith, c.loop-i.invariant.count, c.add-ended.ensures.count);
      counted = omega (arith, c.loop-i.invariant.counted, c.in_ok-print_any.ensures.counted);
    }

pub returns-in_err-print_any-clause-front : goal.returns-in_err-print_any-clause-front
returns-in_err-print_any-clause-front g c =
    let format = c.args.format in
    let page = c.args.page.now in
    let i = c.loop-i.i in
    let old = c.args.runs.now.last in
    let mid = c.loop-i.runs.last in
    let new = c.add-ended.new.self.last in
    let ns : List ℕ = map (frame_of format) (take i (words_of page)) in
    let lt : i < 512 = omega (arith, c.requires.few, c.loop-i-test.true) in
    let here : c.frame_of.result ≡ frame_of format (word page i) = c.frame_of.ensures ∙ ap (frame_of format) c.word.ensures in
    let adds : Adds mid (frame_of format (word page i)) new c.add-ended.result =
    subst (λ n. Adds mid n new c.add-ended.result) here c.add-ended.ensures.runs in
    let before = g.F.Form.written c.args.form.now in
    let then = g.F.Form.written c.loop-i.form in
    let now = g.F.Form.written c.print_any.new.form in (
      i + 1,
      (
        omega (arith, c.loop-i-test.true),
        subst (λ (xs : List ℕ). (more : List (ℕ × ℕ)) × (RunsOn old new xs more × PutsFront g.F.Form.style (map frame_run more) before now)) (sym (one_word (frame_of format) page i lt))
            (numbers_cut g.F.Form.style old mid new c.add-ended.result ns (frame_of format (word page i)) before then now c.loop-i.invariant.so_far adds
            (subst (λ (fs : List Fact). PutsFront g.F.Form.style fs then now) c.frame_run.ensures c.print_any.ensures.front)),
      ),
    )

pub returns-clause-whole : goal.returns-clause-whole
returns-clause-whole g c =
    let s = c.loop-i.invariant.so_far in
    let all : c.loop-i.i ≡ c.args.count = omega (arith, c.loop-i.auto.i-end, c.loop-i-test.false) in
    subst (λ n. (more : List (ℕ × ℕ)) × (RunsOn c.args.runs.now.last c.loop-i.runs.last (map (frame_of c.args.format) (take n (words_of c.args.page.now))) more
    × Puts g.F.Form.style (map frame_run more) (g.F.Form.written c.args.form.now) (g.F.Form.written c.loop-i.form))) all (s.more, (s.runs, s.taken))
