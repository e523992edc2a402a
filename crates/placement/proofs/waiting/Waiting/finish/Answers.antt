use Rattle.std.proofs.Common.{ap, ◌∙◌}
use Rattle.placement.specs.Waiting.{Awaiting, restored_page}
use Rattle.placement.specs.KeptWaiting.{kept_waiting}
use Rattle.placement.proofs.Finishing.{Finishes, finishes}
use Rattle.placement.proofs.Keeping.{all_wait, placement_fits}
use Rattle.placement.proofs.waiting.Waiting.finish.Goals as goal

pub returns-clause-restored : goal.returns-clause-restored
returns-clause-restored c = λ loaded q.
    let w = c.self.inside in
    let set = c.args.cleared.now.members in
    let old = c.args.frames.now in
    let moved = c.move_pages.new.frames in
    let cleared = c.zero_apart.new.frames in
    let finished = c.zero_apart-2.new.frames in
    let all = all_wait w c.args.self.now c.self.view_is c.self.invariant c.requires.ready loaded in
    let done : Finishes (kept_waiting w) set old moved cleared finished = record {
      fits = placement_fits w c.args.self.now _ c.self.view_is c.self.invariant c.requires.frames;
      moves = c.move_pages.ensures.moves;
      first = record { zero = c.zero_apart.ensures.zero; stays = c.zero_apart.ensures.kept; others = c.zero_apart.ensures.others };
      second = record { zero = c.zero_apart-2.ensures.zero; stays = c.zero_apart-2.ensures.kept; others = c.zero_apart-2.ensures.others };
    } in
    finishes (kept_waiting w) set old moved cleared finished all done q ∙ ap (λ (t : Awaiting). restored_page old t set q) c.self.view_is
