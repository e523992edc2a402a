use Rattle.std.proofs.Common.{◌≡◌, ◌+◌, ◌*◌, ◌≤◌, ◌++◌, Some, None, Err, ltb, length, refl, sym, ap, ◌∙◌, arith, length-append}
use Rattle.std.proofs.lemmas.Bool.{cond-true, lt-ltb}
use Rattle.stream_in.specs.Grammar.{all_pages, first_fault, extra_fault, fault}
use Rattle.stream_in.specs.declared.checking.fault.Kind.TheVariants.{Extra}
use Rattle.stream_in.proofs.Steps.{all_pages-append}
use Rattle.stream_in.proofs.Told.{refused, passed}
use Rattle.stream_in.proofs.Keeping.{rest_fault, read_rest, moved}
use Rattle.stream_in.proofs.checking.taking.Taking.with_rest.Goals as goal

pub returns-then-count-self-clause-fault : goal.returns-then-count-self-clause-fault
returns-then-count-self-clause-fault c = λ bs has.
    let t = c.args.self in
    let bs' = bs ++ c.args.rest.now in
    let h : 4096 ≤ length bs = omega (arith, has.taken, c.requires.bounded.numbers) in
    let pages = all_pages-append bs c.args.rest.now (omega arith) in
    let end = has.read.end h ∙ ap (λ n. 4096 * n) (sym pages) in
    let extra : extra_fault bs' ≡ Some (fault Extra t.end) =
    cond-true (ltb (4096 * all_pages bs') (length bs')) (Some (fault Extra (4096 * all_pages bs'))) None
    (lt-ltb (4096 * all_pages bs') (length bs') (omega (arith, length-append bs c.args.rest.now, has.taken)))
    ∙ ap (λ n. Some (fault Extra n)) (sym end) in
    refused (Err (fault Extra t.end)) (first_fault bs') (fault Extra t.end) refl (rest_fault bs c.args.rest.now t c.requires.bounded has c.requires.behind ∙ extra)

pub returns-clause-fault : goal.returns-clause-fault
returns-clause-fault c = λ bs has.
    passed _ (first_fault (bs ++ c.args.rest.now)) _ refl (read_rest bs c.args.rest.now c.args.self c.requires.bounded has c.requires.behind c.if-count-self.false).sound

pub returns-clause-taken : goal.returns-clause-taken
returns-clause-taken c = λ bs has.
    let read = read_rest bs c.args.rest.now c.args.self c.requires.bounded has c.requires.behind c.if-count-self.false in
    record {
      taken = ap (λ n. n + length c.args.rest.now) has.taken ∙ sym (length-append bs c.args.rest.now);
      read = moved (bs ++ c.args.rest.now) c.args.self _ _ read;
      begun = λ still. absurd (omega arith);
    }
