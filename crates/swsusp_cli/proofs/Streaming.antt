-- A stream that is written to a sink piece by piece.
use Rattle.std.proofs.Common.{◌≡◌, ◌≤◌, ◌<◌, ℕ, ◌+◌, List, [], ◌++◌, length, take, drop, min, Option, refl, sym, ap, ◌∙◌, subst, arith}
use Rattle.std.proofs.lemmas.List.{drop-drop, length-drop, length-take-le, nil_from_length, take_all, take_at, take-append-drop}
use Rattle.std.proofs.Math.Seq.{take-add}
use Rattle.definitions.specs.Streams.{TakesAll, TakesFront}
use Rattle.byte_streams.proofs.Taken.{TakesAll-none, TakesAll-both, TakesFront-first, TakesFront-second}

-- What is left of a stream is what the sink hasn't taken.
pub record IsWritten (stream left : List ℕ) (old now : Option (List ℕ)) : Type 0 where
  pub count : ℕ
  pub left_is : left ≡ drop count stream
  pub taken : TakesAll (take count stream) old now

pub none_written : (stream : List ℕ) (old : Option (List ℕ)) → IsWritten stream stream old old
none_written stream old = record { count = 0; left_is = refl; taken = TakesAll-none old }

pub more_written : (stream left : List ℕ) (k : ℕ) (old now new : Option (List ℕ)) → IsWritten stream left old now → TakesAll (take k left) now new → IsWritten stream (drop k left) old new
more_written stream left k old now new so_far next =
    let n = so_far.count in
    record {
      count = n + k;
      left_is = ap (drop k) so_far.left_is ∙ drop-drop k n stream;
      taken =
          subst (λ (text : List ℕ). TakesAll text old new) (sym (take-add n k stream))
          (TakesAll-both (take n stream) (take k (drop n stream)) old now new so_far.taken (subst (λ (xs : List ℕ). TakesAll (take k xs) now new) so_far.left_is next));
    }

pub all_written : (stream left : List ℕ) (old now : Option (List ℕ)) → IsWritten stream left old now → left ≡ [] → TakesAll stream old now
all_written stream left old now so_far none =
    let n = so_far.count in
    let over : length stream ≤ n = omega (arith, ap length (sym so_far.left_is ∙ none), length-drop n stream) in
    subst (λ (text : List ℕ). TakesAll text old now) (take_all n stream over) so_far.taken

pub front_written : (stream left : List ℕ) (k : ℕ) (old now new : Option (List ℕ)) → IsWritten stream left old now → TakesFront (take k left) now new → TakesFront stream old new
front_written stream left k old now new so_far next =
    let n = so_far.count in
    let whole = take-append-drop n stream in
    let rest : TakesFront (drop n stream) now new =
    subst (λ (text : List ℕ). TakesFront text now new) (take-append-drop k (drop n stream))
    (TakesFront-first (take k (drop n stream)) (drop k (drop n stream)) now new (subst (λ (xs : List ℕ). TakesFront (take k xs) now new) so_far.left_is next)) in
    subst (λ (text : List ℕ). TakesFront text old new) whole (TakesFront-second (take n stream) (drop n stream) old now new so_far.taken rest)

-- The part of a stream that a piece holds, from its begin.

part_is : (left piece filled : List ℕ) (count : ℕ) → count ≡ min (length piece) (length left) → filled ≡ take count left ++ drop count piece → take count filled ≡ take count left
part_is left piece filled count least is = ap (take count) is ∙ take_at (take count left) (drop count piece) count (length-take-le count left (omega arith))

pub part_written : (stream left piece filled : List ℕ) (count : ℕ) (old now new : Option (List ℕ)) → IsWritten stream left old now → count ≡ min (length piece) (length left) → filled ≡ take count left ++ drop count piece → TakesAll (take count filled) now new →
    IsWritten stream (drop count left) old new
part_written stream left piece filled count old now new so_far least is next =
    more_written stream left count old now new so_far (subst (λ (text : List ℕ). TakesAll text now new) (part_is left piece filled count least is) next)

pub part_front : (stream left piece filled : List ℕ) (count : ℕ) (old now new : Option (List ℕ)) → IsWritten stream left old now → count ≡ min (length piece) (length left) → filled ≡ take count left ++ drop count piece → TakesFront (take count filled) now new → TakesFront stream old new
part_front stream left piece filled count old now new so_far least is next =
    front_written stream left count old now new so_far (subst (λ (text : List ℕ). TakesFront text now new) (part_is left piece filled count least is) next)

-- a stream that gives nothing into a piece is over
pub none_left : (left piece : List ℕ) (count : ℕ) → count ≡ min (length piece) (length left) → count ≡ 0 → 0 < length piece → left ≡ []
none_left left piece count least zero some = nil_from_length left (omega arith)
