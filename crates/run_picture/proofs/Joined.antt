-- Texts that are put together piece by piece.
use Rattle.std.proofs.Common.{◌≡◌, ℕ, List, [], ◌++◌, Option, Result, Ok, Err, OnOk, ap, subst, ◌∙◌, append_assoc}
use Rattle.definitions.specs.Streams.{TakesAll, TakesFront}
use Rattle.byte_streams.proofs.Taken.{TakesAll-both, TakesFront-first, TakesFront-second}

pub joined : (p a b p1 p2 : List ℕ) → p1 ≡ p ++ a → p2 ≡ p1 ++ b → p2 ≡ p ++ (a ++ b)
joined p a b p1 p2 e f = f ∙ ap (λ (x : List ℕ). x ++ b) e ∙ append_assoc p a b

pub from_empty : (p q text : List ℕ) → p ≡ [] → q ≡ p ++ text → q ≡ text
from_empty p q text e f = f ∙ ap (λ (x : List ℕ). x ++ text) e

-- A sink takes a text, by whatever name it is known, and another one.

pub front_first : (known text more : List ℕ) (old new : Option (List ℕ)) → known ≡ text → TakesFront known old new → TakesFront (text ++ more) old new
front_first known text more old new e h = TakesFront-first text more old new (subst (λ (t : List ℕ). TakesFront t old new) e h)

pub front_second : (known text more : List ℕ) (old mid new : Option (List ℕ)) → known ≡ text → TakesAll known old mid → TakesFront more mid new → TakesFront (text ++ more) old new
front_second known text more old mid new e h f = TakesFront-second text more old mid new (subst (λ (t : List ℕ). TakesAll t old mid) e h) f

pub both_if_ok : {T E : Type 0} (r : Result T E) (known text more : List ℕ) (old mid new : Option (List ℕ)) → known ≡ text → TakesAll known old mid → OnOk r (TakesAll more mid new) → OnOk r (TakesAll (text ++ more) old new)
both_if_ok (Ok x) known text more old mid new e h f = TakesAll-both text more old mid new (subst (λ (t : List ℕ). TakesAll t old mid) e h) f
both_if_ok (Err x) known text more old mid new e h f = tt
