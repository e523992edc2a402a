use Rattle.std.proofs.Common.{◌≡◌, ◌∙◌, ap}
use Rattle.run_picture.specs.Picture.{head, size_text}
use Rattle.run_picture.proofs.Joined.{both_if_ok, front_first, front_second}
use Rattle.run_picture.proofs.frame.put_head.Goals as goal

pub returns-in_err-put_all-clause-front : goal.returns-in_err-put_all-clause-front
unfolding head
returns-in_err-put_all-clause-front g c =
    front_first _ _ _ _ _ (c.as_bytes.ensures ∙ c.sized.ensures ∙ ap size_text c.width.ensures) c.put_all.ensures.front

pub returns-clause-whole : goal.returns-clause-whole
unfolding head
returns-clause-whole g c =
    both_if_ok c.put_all-2.result _ _ _ _ _ _ (c.as_bytes.ensures ∙ c.sized.ensures ∙ ap size_text c.width.ensures) c.in_ok-put_all.ensures.whole
    c.put_all-2.ensures.whole

pub returns-clause-front : goal.returns-clause-front
unfolding head
returns-clause-front g c =
    front_second _ _ _ _ _ _ (c.as_bytes.ensures ∙ c.sized.ensures ∙ ap size_text c.width.ensures) c.in_ok-put_all.ensures.whole
    c.put_all-2.ensures.front
