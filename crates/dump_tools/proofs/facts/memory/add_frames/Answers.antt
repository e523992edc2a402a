use Rattle.std.proofs.Common.{ℕ, ◌+◌, List, ◌++◌, ◌∷◌, [], length, ap, ap₂, ◌∙◌}
use Rattle.dump_tools.specs.Facts.{owned_frames}
use Rattle.dump_tools.specs.declared.facts.fact.Fact.{Fact}
use Rattle.dump_tools.specs.declared.facts.fact.Fact.TheVariants as fact
use Rattle.dump_tools.proofs.Images.{saveable_are}
use Rattle.byte_streams.proofs.Joined.{two_parts}
use Rattle.dump_tools.proofs.facts.memory.add_frames.Goals as goal

pub returns-clause-added : goal.returns-clause-added
returns-clause-added c =
    let h = c.args.dump.now.hw in
    let m = c.args.dump.now.frames in
    let old = c.args.facts.now in
    let n = c.count_frames-saveable.result in
    let says : ℕ → ℕ → List Fact = λ k j. fact.SaveableFrames k ∷ fact.FreeFrames j ∷ fact.NeededFrames (k + 1025) ∷ [] in
    two_parts (says n c.count_free_frames.result) (owned_frames h m) old c.add_all.new.self c.add_owned_frames.new.facts c.add_all.ensures.added c.add_owned_frames.ensures.added
    ∙ ap₂ (λ (k : ℕ) (j : ℕ). old ++ (says k j ++ owned_frames h m)) (c.count_frames-saveable.ensures.count ∙ ap length (saveable_are h m)) c.count_free_frames.ensures
