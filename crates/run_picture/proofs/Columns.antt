-- The columns of some events, and one more.
use Rattle.std.proofs.Common.{◌≡◌, ℕ, suc, ◌+◌, List, [], ◌∷◌, ◌++◌, length, refl, sym, ap, ◌∙◌, append_assoc, append-nil, arith}
use Rattle.plain_machine.specs.declared.event.Event.{Event}
use Rattle.plain_machine.specs.declared.reply.Reply.{Reply}
use Rattle.run_picture.specs.Lanes.{after, lanes_after}
use Rattle.run_picture.specs.Picture.{column, columns}
use Rattle.run_picture.specs.Telling.{told_by}
use Rattle.run_picture.specs.declared.lanes.Lanes.{Lanes}

pub columns_none : (lanes : Lanes) (replies : List Reply) → columns lanes [] replies ≡ []
unfolding columns
columns_none lanes replies = refl

pub columns_more : (lanes : Lanes) (es : List Event) (rs : List Reply) (e : Event) (r : Reply) → length rs ≡ length es →
    columns lanes (es ++ e ∷ []) (rs ++ r ∷ []) ≡ columns lanes es rs ++ column (lanes_after lanes es rs) e r
unfolding columns
columns_more lanes [] [] e r same = append-nil (column lanes e r)
columns_more lanes [] (q ∷ rs) e r same = absurd (omega arith)
columns_more lanes (d ∷ es) [] e r same = absurd (omega arith)
columns_more lanes (d ∷ es) (q ∷ rs) e r same =
    ap (λ (text : List ℕ). column lanes d q ++ text) (columns_more (after lanes d (told_by q)) es rs e r (omega arith))
    ∙ sym (append_assoc (column lanes d q) (columns (after lanes d (told_by q)) es rs) (column (lanes_after (after lanes d (told_by q)) es rs) e r))

pub lanes_more : (lanes : Lanes) (es : List Event) (rs : List Reply) (e : Event) (r : Reply) → length rs ≡ length es →
    lanes_after lanes (es ++ e ∷ []) (rs ++ r ∷ []) ≡ after (lanes_after lanes es rs) e (told_by r)
lanes_more lanes [] [] e r same = refl
lanes_more lanes [] (q ∷ rs) e r same = absurd (omega arith)
lanes_more lanes (d ∷ es) [] e r same = absurd (omega arith)
lanes_more lanes (d ∷ es) (q ∷ rs) e r same = lanes_more (after lanes d (told_by q)) es rs e r (omega arith)

pub columns_counted : (lanes : Lanes) (es : List Event) (rs : List Reply) → length rs ≡ length es → (lanes_after lanes es rs).column ≡ lanes.column + length es
columns_counted lanes [] [] same = omega arith
columns_counted lanes [] (q ∷ rs) same = absurd (omega arith)
columns_counted lanes (d ∷ es) [] same = absurd (omega arith)
columns_counted lanes (d ∷ es) (q ∷ rs) same =
    let rest = columns_counted (after lanes d (told_by q)) es rs (omega arith) in omega arith
