-- A text that is taken piece by piece.
use Rattle.std.proofs.Common.{◌≡◌, ℕ, ◌+◌, ◌≤◌, List, [], ◌++◌, length, take, drop, Option, Some, None, refl, sym, ap, ◌∙◌, append_assoc, append-nil, arith}
use Rattle.std.proofs.Math.Seq.{take-add}
use Rattle.definitions.specs.Streams.{Takes}

-- nothing is taken at first
pub Takes-none : (text : List ℕ) (old : Option (List ℕ)) → Takes 0 text old old
Takes-none text None = tt
Takes-none text (Some old) = sym (append-nil old)

-- i bytes and then k more are i + k bytes
pub Takes-more : (i k : ℕ) (text : List ℕ) (old mid new : Option (List ℕ)) → Takes i text old mid → Takes k (drop i text) mid new → Takes (i + k) text old new
Takes-more i k text None None None p q = tt
Takes-more i k text None None (Some new) p q = q
Takes-more i k text None (Some mid) new p q = absurd p
Takes-more i k text (Some old) None new p q = absurd p
Takes-more i k text (Some old) (Some mid) None p q = q
Takes-more i k text (Some old) (Some mid) (Some new) p q =
    q ∙ ap (λ (xs : List ℕ). xs ++ take k (drop i text)) p ∙ append_assoc old (take i text) (take k (drop i text))
    ∙ ap (λ (xs : List ℕ). old ++ xs) (sym (take-add i k text))
