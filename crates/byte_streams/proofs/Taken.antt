-- Texts that a sink takes one after the other.
use Rattle.std.proofs.Common.{◌≡◌, ℕ, ◌+◌, true, false, List, [], ◌++◌, length, take, drop, Option, Some, None, Result, Ok, Err, IsOk, OnOk, sym, ap, ◌∙◌, length-append, subst, arith}
use Rattle.std.proofs.lemmas.List.{take_all}
use Rattle.std.proofs.Math.Seq.{take-append_seam, drop-append_seam}
use Rattle.std.proofs.lemmas.List.{take-append-le}
use Rattle.definitions.specs.Streams.{Takes, TakesAll, TakesFront}
use Rattle.definitions.proofs.Pieces.{Takes-none, Takes-more}

-- taking the same bytes of two texts is the same
pub Takes-same : (j k : ℕ) (xs ys : List ℕ) (old new : Option (List ℕ)) → take j xs ≡ take k ys → Takes j xs old new → Takes k ys old new
Takes-same j k xs ys None None e h = tt
Takes-same j k xs ys None (Some new) e h = h
Takes-same j k xs ys (Some old) None e h = h
Takes-same j k xs ys (Some old) (Some new) e h = h ∙ ap (λ (zs : List ℕ). old ++ zs) e

pub TakesAll-none : (old : Option (List ℕ)) → TakesAll [] old old
TakesAll-none old = Takes-none [] old

-- one text and then another are their sum
pub TakesAll-both : (xs ys : List ℕ) (old mid new : Option (List ℕ)) → TakesAll xs old mid → TakesAll ys mid new → TakesAll (xs ++ ys) old new
TakesAll-both xs ys old mid new p q =
    let first : Takes (length xs) (xs ++ ys) old mid =
    Takes-same (length xs) (length xs) xs (xs ++ ys) old mid (take_all (length xs) xs (omega arith) ∙ sym (take-append_seam xs ys)) p in
    let second : Takes (length ys) (drop (length xs) (xs ++ ys)) mid new =
    subst (λ (zs : List ℕ). Takes (length ys) zs mid new) (sym (drop-append_seam xs ys)) q in
    subst (λ (n : ℕ). Takes n (xs ++ ys) old new) (sym (length-append xs ys)) (Takes-more (length xs) (length ys) (xs ++ ys) old mid new first second)

-- a text is a front of itself, and a front of a front is one
pub TakesFront-all : (xs : List ℕ) (old new : Option (List ℕ)) → TakesAll xs old new → TakesFront xs old new
TakesFront-all xs old new h = (length xs, omega arith, h)

pub TakesFront-first : (xs ys : List ℕ) (old new : Option (List ℕ)) → TakesFront xs old new → TakesFront (xs ++ ys) old new
TakesFront-first xs ys old new h =
    (h.0, omega (arith, h.1, length-append xs ys), Takes-same h.0 h.0 xs (xs ++ ys) old new (sym (take-append-le h.0 xs ys h.1)) h.2)

-- a whole text and a front of the next one are a front of their sum
pub TakesFront-second : (xs ys : List ℕ) (old mid new : Option (List ℕ)) → TakesAll xs old mid → TakesFront ys mid new → TakesFront (xs ++ ys) old new
TakesFront-second xs ys old mid new p q =
    let first : Takes (length xs) (xs ++ ys) old mid =
    Takes-same (length xs) (length xs) xs (xs ++ ys) old mid (take_all (length xs) xs (omega arith) ∙ sym (take-append_seam xs ys)) p in
    let second : Takes q.0 (drop (length xs) (xs ++ ys)) mid new =
    subst (λ (zs : List ℕ). Takes q.0 zs mid new) (sym (drop-append_seam xs ys)) q.2 in
    (length xs + q.0, omega (arith, q.1, length-append xs ys), Takes-more (length xs) q.0 (xs ++ ys) old mid new first second)

-- if a call succeeds, a sink that was empty has taken exactly the text
pub on_ok : {T E P : Type 0} (r : Result T E) → IsOk r → OnOk r P → P
on_ok (Ok x) ok h = h
on_ok (Err e) ok h = absurd (let none : false ≡ true = ok in grind (arith, none))

pub taken_is : (text bytes : List ℕ) (old new : Option (List ℕ)) → TakesAll text old new → old ≡ Some [] → new ≡ Some bytes → text ≡ bytes
taken_is text bytes old new all empty is =
    let from_none : TakesAll text (Some []) new = subst (λ (o : Option (List ℕ)). TakesAll text o new) empty all in
    let whole : TakesAll text (Some []) (Some bytes) = subst (λ (n : Option (List ℕ)). TakesAll text (Some []) n) is from_none in
    sym (whole ∙ take_all (length text) text (omega arith))
