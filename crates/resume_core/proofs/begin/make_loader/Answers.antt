use Rattle.std.proofs.Common.{◌≡◌, ℕ, List, refl, sym, ap, ◌∙◌, subst}
use Rattle.std.specs.List.{Contains}
use Rattle.definitions.specs.Bytes.{filled_page}
use Rattle.frame_sets.specs.FrameSet.{FrameSet}
use Rattle.plain_machine.specs.Loader.{loader_page, loader_frame, left_free}
use Rattle.plain_machine.specs.declared.event.Loader.{Loader}
use Rattle.resume_core.proofs.begin.make_loader.Goals as goal

page_is : filled_page 165 ≡ loader_page
unfolding filled_page loader_page
page_is = refl

pub returns-in-Ranges-clause-loader : goal.returns-in-Ranges-clause-loader
returns-in-Ranges-clause-loader c = λ p lt free.
    let set = ap (λ (s : FrameSet). s.members) c.mark_left_free.ensures.set ∙ ap (λ (l : Loader). left_free c.args.hw.now c.args.frames.now l) (sym c.in-Ranges.is) in
    c.fill_apart.ensures.filled p lt (λ member. free (subst (λ (members : List ℕ). Contains members p) set member)) ∙ page_is ∙ ap (λ (l : Loader). loader_frame c.args.frames.now l p) (sym c.in-Ranges.is)
