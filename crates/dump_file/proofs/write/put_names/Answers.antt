use Rattle.std.proofs.Common.{ℕ, List, ◌++◌, [], take, sym, ap, ◌∙◌, append_assoc, get_or, arith}
use Rattle.std.specs.List.{concat}
use Rattle.dump_file.proofs.Numbers.{concat-take_more}
use Rattle.dump_file.proofs.write.put_names.Goals as goal

pub loop-name-preserved : goal.loop-name-preserved
loop-name-preserved c =
    let i = c.loop-name.name-index in
    let names = c.args.names.now in
    let name = get_or names i [] in
    record {
      bytes =
          c.put.ensures.added ∙ ap (λ (xs : List ℕ). xs ++ name) c.loop-name.invariant.bytes
          ∙ append_assoc c.args.head.now (concat (take i names)) name
          ∙ ap (λ (xs : List ℕ). c.args.head.now ++ xs) (sym (concat-take_more names i [] c.loop-name-test.true));
      len = omega (arith, c.put.ensures.len, c.loop-name.invariant.len, c.told-names i c.loop-name-test.true);
    }
