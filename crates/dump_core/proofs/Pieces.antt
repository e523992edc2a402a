-- Pieces of a file that are written one after another.
use Rattle.std.proofs.Common.{◌≡◌, ℕ, ◌≤◌, List, ◌++◌, take, replicate, Option, Result, Ok, Err, OnOk, subst, ap, ◌∙◌}
use Rattle.std.proofs.lemmas.List.{take-replicate}
use Rattle.definitions.specs.Bytes.{zero_page}
use Rattle.definitions.specs.Streams.{TakesAll, TakesFront}
use Rattle.byte_streams.proofs.Taken.{TakesAll-both, TakesFront-first, TakesFront-second}

pub on_ok_then : {T E P Q : Type 0} (r : Result T E) → (P → Q) → OnOk r P → OnOk r Q
on_ok_then (Ok x) f h = f h
on_ok_then (Err e) f h = h

pub zeros_of : (k : ℕ) (page : List ℕ) → k ≤ 4096 → page ≡ zero_page → take k page ≡ replicate k 0
unfolding zero_page
zeros_of k page le e = ap (take k) e ∙ take-replicate k 4096 0 le

-- two pieces, and a front of the first or of both
pub both_all : (a b x y : List ℕ) (old mid new : Option (List ℕ)) → x ≡ a → y ≡ b → TakesAll x old mid → TakesAll y mid new → TakesAll (a ++ b) old new
both_all a b x y old mid new e f p q =
    TakesAll-both a b old mid new (subst (λ (z : List ℕ). TakesAll z old mid) e p) (subst (λ (z : List ℕ). TakesAll z mid new) f q)

pub first_front : (a b x : List ℕ) (old new : Option (List ℕ)) → x ≡ a → TakesFront x old new → TakesFront (a ++ b) old new
first_front a b x old new e p = TakesFront-first a b old new (subst (λ (z : List ℕ). TakesFront z old new) e p)

pub second_front : (a b x y : List ℕ) (old mid new : Option (List ℕ)) → x ≡ a → y ≡ b → TakesAll x old mid → TakesFront y mid new → TakesFront (a ++ b) old new
second_front a b x y old mid new e f p q =
    TakesFront-second a b old mid new (subst (λ (z : List ℕ). TakesAll z old mid) e p) (subst (λ (z : List ℕ). TakesFront z mid new) f q)
