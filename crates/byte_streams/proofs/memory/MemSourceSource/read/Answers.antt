use Rattle.std.proofs.Common.{◌≡◌, ◌+◌, ◌-◌, ◌++◌, List, ℕ, length, take, drop, sym, ap, ◌∙◌, subst, arith}
use Rattle.std.proofs.lemmas.List.{take_all, take-append-le, take-append-drop, drop-drop}
use Rattle.byte_streams.proofs.memory.MemSourceSource.read.Goals as goal

-- what is left is the piece that is copied and what is left after it
piece_first : (at k m : ℕ) (items piece rest : List ℕ) → piece ≡ take m (drop at items) → m ≡ k → length piece ≡ k → drop at items ≡ take k (piece ++ rest) ++ drop (at + k) items
piece_first at k m items piece rest copied same size =
    sym (take-append-drop k (drop at items))
    ∙ ap (λ (n : ℕ). take n (drop at items) ++ drop k (drop at items)) (sym same)
    ∙ ap (λ (xs : List ℕ). xs ++ drop k (drop at items)) (sym copied)
    ∙ ap (λ (xs : List ℕ). xs ++ drop k (drop at items)) (sym (take-append-le k piece rest (omega arith) ∙ take_all k piece (omega arith)))
    ∙ ap (λ (xs : List ℕ). take k (piece ++ rest) ++ xs) (drop-drop k at items)

pub returns-clause-bytes : goal.returns-clause-bytes
returns-clause-bytes c =
    let value = c.deref.ensures.value in
    let at = c.args.self.now.at in
    let k = c.min-count.result in
    let same : (at + k) - at ≡ k = omega arith in
    let size : length c.copy_from_slice.new.self ≡ k = grind (arith, c.copy_from_slice.ensures.len, c.min-count.ensures, c.len.ensures) in
    piece_first at k ((at + k) - at) c.args.self.now.bytes.items c.copy_from_slice.new.self (drop k c.args.into.now)
    (subst (λ (xs : List ℕ). c.copy_from_slice.new.self ≡ take ((at + k) - at) (drop at xs)) value c.copy_from_slice.ensures.after) same size
