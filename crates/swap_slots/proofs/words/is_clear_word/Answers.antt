use Rattle.std.proofs.Common.{◌∙◌, ap, get_or}
use Rattle.std.proofs.lemmas.Bool.{eqb-true, eq-eqb}
use Rattle.swap_slots.proofs.OneBit.{word_zero, zero_word}
use Rattle.swap_slots.proofs.words.is_clear_word.Goals as goal

pub returns : goal.returns
returns c =
    let words = c.args.words.now in
    let w = c.args.w in (
      λ yes i at. word_zero words i (ap (λ j. get_or words j 0) at ∙ eqb-true (get_or words w 0) 0 yes),
      λ clear. eq-eqb (get_or words w 0) 0 (zero_word words w (c.type_inv.words w).fits clear),
    )
