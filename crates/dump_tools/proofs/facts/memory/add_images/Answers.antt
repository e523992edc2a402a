use Rattle.std.proofs.Common.{List, ◌++◌, sym, ap₂, ◌∙◌}
use Rattle.page_core.specs.declared.format.Format.TheVariants.{Plain, SkipZeros}
use Rattle.plain_machine.specs.Image.{image_of_memory}
use Rattle.plain_machine.specs.Step.{no_slots}
use Rattle.dump_tools.specs.Facts.{image_facts, images_facts}
use Rattle.dump_tools.specs.declared.facts.fact.Fact.{Fact}
use Rattle.dump_tools.proofs.Images.{n_is, plain_d_is, zeros_d_is, image_facts_are}
use Rattle.byte_streams.proofs.Joined.{two_parts}
use Rattle.dump_tools.proofs.facts.memory.add_images.Goals as goal

pub returns : goal.returns
unfolding images_facts
returns c =
    let h = c.args.dump.now.hw in
    let m = c.args.dump.now.frames in
    let old = c.args.facts.now in
    let n = c.count_frames-saveable.result in
    let d = c.count_frames-with_data.result in
    let all = c.count_frames-saveable.ensures.count in
    let some = c.count_frames-with_data.ensures.count in
    two_parts (image_facts Plain n n) (image_facts SkipZeros n d) old c.add_image.new.facts c.add_image-2.new.facts c.add_image.ensures.added c.add_image-2.ensures.added
    ∙ ap₂ (λ (xs : List Fact) (ys : List Fact). old ++ (xs ++ ys))
    (image_facts_are Plain (image_of_memory h m no_slots Plain) n n (n_is h m Plain ∙ sym all) (plain_d_is h m ∙ sym all))
    (image_facts_are SkipZeros (image_of_memory h m no_slots SkipZeros) n d (n_is h m SkipZeros ∙ sym all) (zeros_d_is h m ∙ sym some))
