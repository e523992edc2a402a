-- The passes one after another make the order of moves.
use Rattle.std.proofs.Common.{◌≡◌, ℕ, ◌*◌, ◌≤◌, List, length, take, sym, ap, ◌∙◌, subst}
use Rattle.definitions.specs.Moves.{Move, Pass, pass_over, paths_over, cycles_over, ascending, descending, sequence}
use Rattle.placement.specs.declared.relocation.order.Order.{Order}
use Rattle.placement.specs.Pending.{begun}
use Rattle.placement.specs.Tables.{IsAt, IsSized, Follows}
use Rattle.placement.proofs.Sequencing.{sequence-passes}

-- a pass over the page frames below the top of its tables
at_top : (F : ℕ → Pass → Pass) (a b : Order) (top : ℕ) (pass : Pass) → Follows a b (F a.top) → a.top ≡ top → IsAt a pass → IsAt b (F top pass)
at_top F a b top pass follows same at = subst (λ (n : ℕ). IsAt b (F n pass)) same (follows.at pass at)

pub record IsArranged (o : Order) (n bounce : ℕ) (moves : List Move) : Type 0 where
  pub order : take o.len o.moves.items ≡ sequence n bounce moves
  pub len : o.len ≤ length o.moves.items
  pub top : o.top ≡ n
  pub sized : IsSized o

pub arranged : (o a b c d : Order) (top bounce : ℕ) (moves : List Move) → IsAt o (begun moves) → IsSized o → o.top ≡ top → Follows o a (pass_over (descending o.top)) → Follows a b (pass_over (ascending a.top)) → Follows b c (paths_over (ascending b.top)) → Follows c d (cycles_over bounce (ascending c.top)) → IsArranged d top bounce moves
arranged o a b c d top bounce moves at sized same down up paths cycles =
    let a_top = down.top ∙ same in
    let b_top = up.top ∙ a_top in
    let c_top = paths.top ∙ b_top in
    let d_top = cycles.top ∙ c_top in
    let after_down = at_top (λ n. pass_over (descending n)) o a top (begun moves) down same at in
    let after_up = at_top (λ n. pass_over (ascending n)) a b top (pass_over (descending top) (begun moves)) up a_top after_down in
    let after_paths = at_top (λ n. paths_over (ascending n)) b c top (pass_over (ascending top) (pass_over (descending top) (begun moves))) paths b_top after_up in
    let after_cycles = at_top (λ n. cycles_over bounce (ascending n)) c d top (paths_over (ascending top) (pass_over (ascending top) (pass_over (descending top) (begun moves)))) cycles c_top after_paths in
    record {
      order = after_cycles.emitted ∙ sym (sequence-passes top bounce moves);
      len = after_cycles.len;
      top = d_top;
      sized = record {
        sources = after_cycles.targets_size;
        leaves = after_cycles.sources_size;
        moves = cycles.room ∙ paths.room ∙ up.room ∙ down.room ∙ sized.moves ∙ ap (λ (n : ℕ). 2 * n) (same ∙ sym d_top);
      };
    }
