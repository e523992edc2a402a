-- An object that is ended after its facts.
use Rattle.std.proofs.Common.{◌≡◌, ℕ, List, [], ◌∷◌, ◌++◌, length, Option, Some, None, append-nil, arith, sym, ap, ap₂, subst, ◌∙◌}
use Rattle.std.proofs.lemmas.List.{take_all}
use Rattle.definitions.specs.Streams.{TakesAll, TakesFront}
use Rattle.byte_streams.proofs.Taken.{taken_is}
use Rattle.image_show.specs.declared.facts.fact.Fact.{Fact}
use Rattle.image_show.specs.Forms.{kept_after, pieces, Puts, Written}
use Rattle.image_json.specs.Objects.{object_line}
use Rattle.image_json.specs.Pieces.{closing, members, piece}
use Rattle.image_json.proofs.Grouping.{object_is}

pub whole_object : (facts : List Fact) (old mid : Written) (begun text : List ℕ) → old.last ≡ None → old.taken ≡ Some [] → Puts members facts old mid
    → mid.taken ≡ Some begun → text ≡ begun ++ closing mid.last → text ≡ object_line facts
whole_object facts old mid begun text none empty p taken ends =
    let begins : TakesAll (pieces members None facts) old.taken mid.taken =
    subst (λ (last : Option Fact). TakesAll (pieces members last facts) old.taken mid.taken) none p.text in
    let is : pieces members None facts ≡ begun = taken_is (pieces members None facts) begun old.taken mid.taken begins empty taken in
    let last : mid.last ≡ kept_after members None facts = p.last ∙ ap (λ (l : Option Fact). kept_after members l facts) none in
    ends ∙ ap₂ (λ (b : List ℕ) (l : Option Fact). b ++ closing l) (sym is) last ∙ object_is facts

pub put_front : (last : Option Fact) (f : Fact) (old new : List ℕ) → new ≡ old ++ piece last f → TakesFront (pieces members last (f ∷ [])) (Some old) (Some new)
put_front last f old new e =
    let text : List ℕ = pieces members last (f ∷ []) in
    (length text, omega arith, e ∙ ap (λ (x : List ℕ). old ++ x) (sym (append-nil (piece last f)) ∙ sym (take_all (length text) text (omega arith))))
