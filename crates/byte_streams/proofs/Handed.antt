-- Bytes that a source hands out one piece after the other.
use Rattle.std.proofs.Common.{◌≡◌, ℕ, ◌+◌, ◌≤◌, List, [], ◌++◌, length, take, drop, Option, Some, None, refl, sym, ap, ◌∙◌, append_assoc, length-append, subst, arith}
use Rattle.std.proofs.lemmas.List.{take-append-le, take_at, drop_at, drop-drop, length-take-le, length-drop}
use Rattle.std.proofs.Math.Seq.{take-append-add}
use borrow.Rule.Slice.PartMut.{put_mid}
use Rattle.definitions.specs.Bytes.{bytes_at}
use Rattle.definitions.specs.Streams.{HandsOut, IsUsedUp}

pub HandsOut-none : (piece : List ℕ) (left : Option (List ℕ)) → HandsOut 0 piece left left
HandsOut-none piece None = tt
HandsOut-none piece (Some left) = refl

-- i bytes, and then k of another piece
pub HandsOut-more : (i k : ℕ) (xs ys zs : List ℕ) (old mid new : Option (List ℕ)) → take (i + k) zs ≡ take i xs ++ take k ys → HandsOut i xs old mid → HandsOut k ys mid new → HandsOut (i + k) zs old new
HandsOut-more i k xs ys zs None None None e p q = tt
HandsOut-more i k xs ys zs None None (Some new) e p q = q
HandsOut-more i k xs ys zs None (Some mid) new e p q = absurd p
HandsOut-more i k xs ys zs (Some old) None new e p q = absurd p
HandsOut-more i k xs ys zs (Some old) (Some mid) None e p q = q
HandsOut-more i k xs ys zs (Some old) (Some mid) (Some new) e p q =
    p ∙ ap (λ (rest : List ℕ). take i xs ++ rest) q ∙ sym (append_assoc (take i xs) (take k ys) new)
    ∙ ap (λ (front : List ℕ). front ++ new) (sym e)

-- a piece whose end is written over
pub take-over_end : (at k m : ℕ) (xs ys : List ℕ) → at ≤ length xs → k ≤ length ys → take (at + k) (put_mid at m xs ys) ≡ take at xs ++ take k ys
take-over_end at k m xs ys within few =
    let front = take at xs in
    let size : length front ≡ at = length-take-le at xs within in
    let place : at + k ≡ length front + k = omega (arith, size) in
    ap (λ (n : ℕ). take n (put_mid at m xs ys)) place
    ∙ take-append-add front (ys ++ drop m (drop at xs)) k
    ∙ ap (λ (rest : List ℕ). front ++ rest) (take-append-le k ys (drop m (drop at xs)) few)
