-- Bytes that are written into a piece one part after another.
use borrow.Rule.Slice.PartMut.{put_mid}
use Rattle.std.proofs.Common.{◌≡◌, ◌≤◌, ℕ, ◌+◌, ◌-◌, List, [], ◌∷◌, ◌++◌, length, sum, take, drop, sym, ap, ap₂, ◌∙◌, append-nil, append_assoc, arith}
use Rattle.std.proofs.lemmas.List.{length-take-le, take_at, drop_at, drop-drop, drop_all, take_rest, take-append-drop, length-drop, nil_from_length}
use Rattle.std.proofs.Math.Seq.{take-add}
use Rattle.std.proofs.lemmas.List.Sums.{sum_by-cons}
use Rattle.std.specs.List.{concat}

-- A piece has f bytes of a stream, and the rest is what was there. Into the rest the next k bytes are put.
module _ (stream piece now part : List ℕ) (f k : ℕ) (fits : f ≤ length stream) (is : now ≡ take f stream ++ drop f piece) where
  size : length (take f stream) ≡ f
  size = length-take-le f stream fits

  front : take f now ≡ take f stream
  front = ap (take f) is ∙ take_at (take f stream) (drop f piece) f size

  rest : drop f now ≡ drop f piece
  rest = ap (drop f) is ∙ drop_at (take f stream) (drop f piece) f size

  pub part_put : part ≡ take k (drop f stream) ++ drop k (take (length now - f) (drop f now)) → put_mid f (length now - f) now part ≡ take (f + k) stream ++ drop (f + k) piece
  part_put put =
      let none : drop (length now - f) (drop f now) ≡ [] = drop_all (length now - f) (drop f now) (omega (arith, length-drop f now)) in
      let left : drop k (take (length now - f) (drop f now)) ≡ drop (f + k) piece = ap (drop k) (take_rest now f ∙ rest) ∙ drop-drop k f piece in
      ap₂ (λ (xs ys : List ℕ). xs ++ (part ++ ys)) front none
      ∙ ap (λ (ys : List ℕ). take f stream ++ ys) (append-nil part ∙ put ∙ ap (λ (zs : List ℕ). take k (drop f stream) ++ zs) left)
      ∙ sym (append_assoc (take f stream) (take k (drop f stream)) (drop (f + k) piece))
      ∙ ap (λ (xs : List ℕ). xs ++ drop (f + k) piece) (sym (take-add f k stream))

-- The pieces of these bytes that calls hand out one after another, given how many bytes fit into each piece.
abbrev pub pieces_of : List ℕ → List ℕ → List (List ℕ)
pieces_of [] bytes = []
pieces_of (n ∷ ns) bytes = take n bytes ∷ pieces_of ns (drop n bytes)

-- joined they are the bytes, once there was room for all
pub pieces_join : (ns bytes : List ℕ) → length bytes ≤ sum ns → concat (pieces_of ns bytes) ≡ bytes
pieces_join [] bytes fits = sym (nil_from_length bytes (omega arith))
pieces_join (n ∷ ns) bytes fits =
    let more : sum (n ∷ ns) ≡ n + sum ns = sum_by-cons (λ (k : ℕ). k) n ns in
    ap (λ (xs : List ℕ). take n bytes ++ xs) (pieces_join ns (drop n bytes) (omega (arith, length-drop n bytes)))
    ∙ take-append-drop n bytes
