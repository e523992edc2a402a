use Rattle.std.proofs.Common.{◌≡◌, ℕ, List, [], ◌∷◌, ◌++◌, Bool, true, false, Result, Ok, Err, OnErr, refl, sym, subst, ◌∙◌, arith}
use Rattle.definitions.specs.Streams.{TakesAll, TakesFront}
use Rattle.image_differ.specs.Lines.{line_of}
use Rattle.image_differ.specs.Sides.{side_view}
use Rattle.image_differ.specs.declared.comparison.Next.TheVariants as next
use Rattle.image_differ.proofs.Few.{few_told}
use Rattle.image_differ.proofs.Sides.{compared_before, reads_on, says_since}
use Rattle.image_cli.specs.Differing.{FailsWithin}
use Rattle.image_cli.specs.Differs.{EndsAfter}
use Rattle.image_cli.specs.declared.differing.Ended.TheVariants as ended
use Rattle.image_cli.proofs.Telling.{all_taken, ends_first, ends_refused, ends_whole, front_taken, nothing_yet, so_far_more}
use Rattle.image_cli.proofs.differing.tell_differences.Goals as goal

on_err_any : {A E : Type 0} (r : Result A E) (P : Type 0) → P → OnErr r P
on_err_any (Ok x) P p = tt
on_err_any (Err e) P p = p

pub loop-difference-init : goal.loop-difference-init
loop-difference-init g c = record {
  so_far = nothing_yet (side_view g.D.Disk g.R.Report c.args.first.now) (side_view g.E.Disk g.Q.Report c.args.second.now) c.args.comparison.now (g.O.Sink.taken c.args.out.now) c.requires;
  one = λ e. refl;
  first_untold = refl;
  second_untold = refl;
  counted = omega arith;
  first = record { content = refl; blocks = refl; faults = omega arith; orders = refl; header = refl };
  second = record { content = refl; blocks = refl; faults = omega arith; orders = refl; header = refl };
}

pub next-requires : goal.next-requires
next-requires g c =
    let s = c.loop-difference.invariant.so_far in
    (s.told, s.compared)

pub overflow_add-count : goal.overflow_add-count
overflow_add-count g c =
    let s = c.loop-difference.invariant.so_far in
    omega (arith, s.size, few_told (side_view g.D.Disk g.R.Report c.loop-difference.first) (side_view g.E.Disk g.Q.Report c.loop-difference.second) c.loop-difference.comparison s.told s.compared)

pub loop-difference-smaller : goal.loop-difference-smaller
loop-difference-smaller g c =
    let s = c.loop-difference.invariant.so_far in
    omega (arith, s.size, few_told (side_view g.D.Disk g.R.Report c.loop-difference.first) (side_view g.E.Disk g.Q.Report c.loop-difference.second) c.loop-difference.comparison s.told s.compared)

pub loop-difference-preserved : goal.loop-difference-preserved
loop-difference-preserved g c =
    let i = c.loop-difference.invariant in
    let a = side_view g.D.Disk g.R.Report c.loop-difference.first in
    let b = side_view g.E.Disk g.Q.Report c.loop-difference.second in
    let x = side_view g.D.Disk g.R.Report c.next.new.first in
    let y = side_view g.E.Disk g.Q.Report c.next.new.second in
    let d = c.in-Difference.difference in
    let then = g.O.Sink.taken c.loop-difference.out in
    let last = g.O.Sink.taken c.put_all.new.sink in
    let line : TakesAll (line_of d) then last = subst (λ (t : List ℕ). TakesAll t then last) (c.as_bytes.ensures.bytes ∙ c.line_of.ensures) c.in_ok-put_all-in-Difference.ensures.whole in
    let here = c.in-Difference.ensures.says i.so_far.told i.so_far.compared in
    record {
      so_far =
          let s = i.so_far in
          so_far_more a b x y c.loop-difference.comparison c.next.new.self d (g.O.Sink.taken c.args.out.now) then last c.loop-difference.count s here.1 c.next.ensures.first c.next.ensures.second line;
      one = λ e. absurd (let f : false ≡ true = sym c.if-first_only.false ∙ e in cc);
      first_untold = here.0.0 ∙ i.first_untold;
      second_untold = here.0.1 ∙ i.second_untold;
      counted = omega (arith, i.counted, c.put_all.ensures.counted);
      first = reads_on (side_view g.D.Disk g.R.Report c.args.first.now) a x i.first c.next.ensures.first;
      second = reads_on (side_view g.E.Disk g.Q.Report c.args.second.now) b y i.second c.next.ensures.second;
    }

pub returns-in_err-put_all-in-Difference-clause-fails : goal.returns-in_err-put_all-in-Difference-clause-fails
returns-in_err-put_all-in-Difference-clause-fails g c =
    let i = c.loop-difference.invariant in
    let a = side_view g.D.Disk g.R.Report c.loop-difference.first in
    let b = side_view g.E.Disk g.Q.Report c.loop-difference.second in
    let d = c.in-Difference.difference in
    let then = g.O.Sink.taken c.loop-difference.out in
    let last = g.O.Sink.taken c.put_all.new.sink in
    let s = i.so_far in
    let says = c.in-Difference.ensures.says s.told s.compared in
    let line : TakesFront (line_of d) then last = subst (λ (t : List ℕ). TakesFront t then last) (c.as_bytes.ensures.bytes ∙ c.line_of.ensures) c.put_all.ensures.front in
    on_err_any c.from_residual.result (FailsWithin (side_view g.D.Disk g.R.Report c.args.first.now) (side_view g.D.Disk g.R.Report c.next.new.first) (side_view g.E.Disk g.Q.Report c.args.second.now) (side_view g.E.Disk g.Q.Report c.next.new.second) (g.O.Sink.taken c.args.out.now) last) (
      s.told ++ d ∷ [],
      (
        (c.next.new.self, compared_before (side_view g.D.Disk g.R.Report c.args.first.now) a (side_view g.E.Disk g.Q.Report c.args.second.now) b c.next.new.self (s.told ++ d ∷ []) i.first i.second says.1),
        (says.0.0 ∙ i.first_untold, says.0.1 ∙ i.second_untold),
        front_taken s.told d (g.O.Sink.taken c.args.out.now) then last s.taken line,
      ),
    )

pub returns-then-first_only-clause-ends : goal.returns-then-first_only-clause-ends
returns-then-first_only-clause-ends g c =
    let i = c.loop-difference.invariant in
    let a = side_view g.D.Disk g.R.Report c.args.first.now in
    let b = side_view g.E.Disk g.Q.Report c.args.second.now in
    let x = side_view g.D.Disk g.R.Report c.loop-difference.first in
    let y = side_view g.E.Disk g.Q.Report c.loop-difference.second in
    let a' = side_view g.D.Disk g.R.Report c.next.new.first in
    let b' = side_view g.E.Disk g.Q.Report c.next.new.second in
    let d = c.in-Difference.difference in
    let then = g.O.Sink.taken c.loop-difference.out in
    let last = g.O.Sink.taken c.put_all.new.sink in
    let line : TakesAll (line_of d) then last = subst (λ (t : List ℕ). TakesAll t then last) (c.as_bytes.ensures.bytes ∙ c.line_of.ensures) c.in_ok-put_all-in-Difference.ensures.whole in
    let s = i.so_far in
    let says = says_since a x a' b y b' s.told c.next.new.self (next.Difference d) i.first i.second i.first_untold i.second_untold (c.in-Difference.ensures.says s.told s.compared) in (
      s.told ++ d ∷ [],
      (
        subst (λ (t : Bool). EndsAfter t a a' b b' (s.told ++ d ∷ []) ended.Different) (sym c.if-first_only.true)
            (ends_first a a' b b' c.next.new.self d s.told c.loop-difference.count s.size (i.one c.if-first_only.true) says.0 says.1),
        all_taken s.told d (g.O.Sink.taken c.args.out.now) then last s.taken line,
      ),
    )

pub returns-in-End-clause-ends : goal.returns-in-End-clause-ends
returns-in-End-clause-ends g c =
    let i = c.loop-difference.invariant in
    let a = side_view g.D.Disk g.R.Report c.args.first.now in
    let b = side_view g.E.Disk g.Q.Report c.args.second.now in
    let x = side_view g.D.Disk g.R.Report c.loop-difference.first in
    let y = side_view g.E.Disk g.Q.Report c.loop-difference.second in
    let a' = side_view g.D.Disk g.R.Report c.next.new.first in
    let b' = side_view g.E.Disk g.Q.Report c.next.new.second in
    let s = i.so_far in
    let says = says_since a x a' b y b' s.told c.next.new.self next.End i.first i.second i.first_untold i.second_untold (c.in-End.ensures.says s.told s.compared) in (
      s.told,
      (
        subst (λ (e : _). EndsAfter c.args.first_only a a' b b' s.told e) (sym c.end_of.ensures)
            (ends_whole c.args.first_only a a' b b' s.told c.loop-difference.count s.size i.one says.0 says.1),
        s.taken,
      ),
    )

pub returns-in-Refused-clause-ends : goal.returns-in-Refused-clause-ends
returns-in-Refused-clause-ends g c =
    let i = c.loop-difference.invariant in
    let a = side_view g.D.Disk g.R.Report c.args.first.now in
    let b = side_view g.E.Disk g.Q.Report c.args.second.now in
    let x = side_view g.D.Disk g.R.Report c.loop-difference.first in
    let y = side_view g.E.Disk g.Q.Report c.loop-difference.second in
    let a' = side_view g.D.Disk g.R.Report c.next.new.first in
    let b' = side_view g.E.Disk g.Q.Report c.next.new.second in
    let s = i.so_far in
    let was = compared_before a x b y c.loop-difference.comparison s.told i.first i.second s.compared in
    let says = says_since a x a' b y b' s.told c.next.new.self (next.Refused c.in-Refused.which) i.first i.second i.first_untold i.second_untold (c.in-Refused.ensures.says s.told s.compared) in
    (s.told, (ends_refused c.args.first_only a a' b b' c.loop-difference.comparison s.told c.next.new.self c.in-Refused.which was says, s.taken))

pub returns-in-End-clause-first : goal.returns-in-End-clause-first
returns-in-End-clause-first g c =
    reads_on (side_view g.D.Disk g.R.Report c.args.first.now) (side_view g.D.Disk g.R.Report c.loop-difference.first) (side_view g.D.Disk g.R.Report c.next.new.first) c.loop-difference.invariant.first c.next.ensures.first

pub returns-in-End-clause-second : goal.returns-in-End-clause-second
returns-in-End-clause-second g c =
    reads_on (side_view g.E.Disk g.Q.Report c.args.second.now) (side_view g.E.Disk g.Q.Report c.loop-difference.second) (side_view g.E.Disk g.Q.Report c.next.new.second) c.loop-difference.invariant.second c.next.ensures.second

pub returns-in-Refused-clause-first : goal.returns-in-Refused-clause-first
returns-in-Refused-clause-first g c =
    reads_on (side_view g.D.Disk g.R.Report c.args.first.now) (side_view g.D.Disk g.R.Report c.loop-difference.first) (side_view g.D.Disk g.R.Report c.next.new.first) c.loop-difference.invariant.first c.next.ensures.first

pub returns-in-Refused-clause-second : goal.returns-in-Refused-clause-second
returns-in-Refused-clause-second g c =
    reads_on (side_view g.E.Disk g.Q.Report c.args.second.now) (side_view g.E.Disk g.Q.Report c.loop-difference.second) (side_view g.E.Disk g.Q.Report c.next.new.second) c.loop-difference.invariant.second c.next.ensures.second

pub returns-then-first_only-clause-first : goal.returns-then-first_only-clause-first
returns-then-first_only-clause-first g c =
    reads_on (side_view g.D.Disk g.R.Report c.args.first.now) (side_view g.D.Disk g.R.Report c.loop-difference.first) (side_view g.D.Disk g.R.Report c.next.new.first) c.loop-difference.invariant.first c.next.ensures.first

pub returns-then-first_only-clause-second : goal.returns-then-first_only-clause-second
returns-then-first_only-clause-second g c =
    reads_on (side_view g.E.Disk g.Q.Report c.args.second.now) (side_view g.E.Disk g.Q.Report c.loop-difference.second) (side_view g.E.Disk g.Q.Report c.next.new.second) c.loop-difference.invariant.second c.next.ensures.second

pub returns-in_err-put_all-in-Difference-clause-first : goal.returns-in_err-put_all-in-Difference-clause-first
returns-in_err-put_all-in-Difference-clause-first g c =
    reads_on (side_view g.D.Disk g.R.Report c.args.first.now) (side_view g.D.Disk g.R.Report c.loop-difference.first) (side_view g.D.Disk g.R.Report c.next.new.first) c.loop-difference.invariant.first c.next.ensures.first

pub returns-in_err-put_all-in-Difference-clause-second : goal.returns-in_err-put_all-in-Difference-clause-second
returns-in_err-put_all-in-Difference-clause-second g c =
    reads_on (side_view g.E.Disk g.Q.Report c.args.second.now) (side_view g.E.Disk g.Q.Report c.loop-difference.second) (side_view g.E.Disk g.Q.Report c.next.new.second) c.loop-difference.invariant.second c.next.ensures.second
