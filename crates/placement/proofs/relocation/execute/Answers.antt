use Rattle.std.proofs.Common.{◌≡◌, ◌<◌, ◌∙◌, ℕ, List, Contains, ap, arith}
use Rattle.definitions.specs.Tables.{frame}
use Rattle.placement.specs.Performing.{performed}
use Rattle.placement.specs.Relocation.{order_of, steps_of}
use Rattle.placement.proofs.Executing.{performed_more, steps_more, lies_still, next_fits, list_still, ready_still, all_performed}
use Rattle.placement.proofs.Joining.{with_entry}
use Rattle.placement.proofs.Relocating.{order_relocates, order_steps}
use Rattle.placement.proofs.relocation.execute.Goals as goal

pub loop-j-preserved : goal.loop-j-preserved
loop-j-preserved g c =
    let old = c.args.frames.now in
    let before = c.loop-j.frames in
    let after = c.copy_run.new.self in
    let list = c.args.list.now in
    let j = c.loop-j.j in
    let e = c.entry-from.result in
    let kept = c.loop-j.invariant in
    let end = c.len-j-end.ensures in
    let more = c.loop-j-test.true in
    let within : j < list.len = omega arith in
    let made : after ≡ with_entry before e = c.copy_run.ensures.copied in
    let fits = next_fits before list j e kept.ready within (c.entry-from.ensures kept.ready.entries kept.ready.lies) in
    let still : (p : ℕ) → Contains list.frames p → frame after p ≡ frame before p =
    λ p among. ap (λ (fs : List (List ℕ)). frame fs p) made ∙ list_still before list.frames e p fits among in
    let size = c.copy_run.ensures.len in
    record {
      ready = ready_still before after list size still kept.ready;
      lies = λ entries lies. lies_still before after list entries size still (kept.lies entries lies);
      performed = λ entries lies.
          let now = kept.lies entries lies in
          made ∙ performed_more old before list entries j e within now (c.entry-from.ensures entries now) (kept.performed entries lies);
      steps = λ entries lies.
          let now = kept.lies entries lies in
          c.count.ensures ∙ steps_more before list entries j c.args.steps.now c.loop-j.steps e within now (c.entry-from.ensures entries now) (kept.steps entries lies);
      list = λ p among. still p among ∙ kept.list p among;
      size = size ∙ kept.size;
    }

pub returns-clause-relocates : goal.returns-clause-relocates
returns-clause-relocates g c = λ p is high lies q apart.
    let old = c.args.frames.now in
    let end = c.len-j-end.ensures in
    let past = c.loop-j-test.false in
    let all = all_performed old c.args.list.now (order_of p) c.loop-j.j (omega arith) lies in
    ap (λ (fs : List (List ℕ)). frame fs q) (c.loop-j.invariant.performed (order_of p) lies ∙ ap (performed old) all)
    ∙ order_relocates p is old high q apart

pub returns-clause-most : goal.returns-clause-most
returns-clause-most g c = λ p is lies.
    let end = c.len-j-end.ensures in
    let past = c.loop-j-test.false in
    let all = ap steps_of (all_performed c.args.frames.now c.args.list.now (order_of p) c.loop-j.j (omega arith) lies) in
    let steps = c.loop-j.invariant.steps (order_of p) lies in
    let most = order_steps p is in
    omega arith
