use Rattle.std.proofs.Common.{◌≡◌, ℕ, ◌+◌, ◌-◌, ◌<◌, ◌++◌, ◌∷◌, [], List, Some, Err, length, get_or, take, drop, sym, ap, ◌∙◌, append_assoc}
use Rattle.std.proofs.lemmas.List.{take_more, take-append-drop, take_rest}
use Rattle.std.proofs.lemmas.Result.{err_from_is_err_and}
use Rattle.stream_in.specs.Grammar.{first_fault}
use Rattle.stream_in.proofs.Steps.{first_fault-stays}
use Rattle.stream_in.proofs.Told.{refused, some_from, told_as}
use Rattle.stream_in.proofs.checking.taking.Taking.with_piece.Goals as goal

-- the bytes in two, at a byte and between two
cut_at : (bs piece : List ℕ) (i : ℕ) → i < length piece → bs ++ piece ≡ ((bs ++ take i piece) ++ get_or piece i 0 ∷ []) ++ drop (i + 1) piece
cut_at bs piece i h =
    ap (λ p. bs ++ p) (sym (take-append-drop (i + 1) piece)) ∙ ap (λ p. bs ++ (p ++ drop (i + 1) piece)) (take_more piece i 0 h)
    ∙ sym (simp append_assoc)

cut : (bs piece : List ℕ) (i : ℕ) → (bs ++ take i piece) ++ drop i piece ≡ bs ++ piece
cut bs piece i = append_assoc bs (take i piece) (drop i piece) ∙ ap (λ p. bs ++ p) (take-append-drop i piece)

pub returns-in_err-next-clause-fault : goal.returns-in_err-next-clause-fault
returns-in_err-next-clause-fault c = λ bs has.
    let p = err_from_is_err_and c.from_residual.result c.from_residual.ensures.1 in
    let e = c.in_err-next.field-0.0 in
    let piece = c.args.piece.now in
    let i = c.loop-i.i in
    let front = bs ++ take i piece in
    let found : first_fault (front ++ get_or piece i 0 ∷ []) ≡ Some e =
    some_from c.with_byte.result (first_fault (front ++ get_or piece i 0 ∷ [])) e c.in_err-next.was
    (c.with_byte.ensures.fault front (c.loop-i.invariant.taken bs has)) in
    refused c.from_residual.result (first_fault (bs ++ piece)) e (p.1 ∙ ap Err p.2)
    (ap first_fault (cut_at bs piece i c.loop-i-test.true) ∙ first_fault-stays (front ++ get_or piece i 0 ∷ []) (drop (i + 1) piece) e found)

pub returns-clause-fault : goal.returns-clause-fault
returns-clause-fault c = λ bs has.
    let piece = c.args.piece.now in
    let i = c.loop-i.i in
    let all : (bs ++ take i piece) ++ take (length piece - i) (drop i piece) ≡ bs ++ piece =
    ap (λ p. (bs ++ take i piece) ++ p) (take_rest piece i) ∙ cut bs piece i in
    told_as c.with_rest.result (first_fault (bs ++ piece)) _ (ap first_fault (sym all))
    (c.with_rest.ensures.fault (bs ++ take i piece) (c.loop-i.invariant.taken bs has))
