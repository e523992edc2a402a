-- Bytes that a source hands out, where they are told.
use Rattle.std.proofs.Common.{◌≡◌, ℕ, ◌+◌, ◌≤◌, List, [], ◌++◌, length, take, drop, Option, Some, None, sym, ap, ◌∙◌, length-append, subst, arith}
use Rattle.std.proofs.lemmas.List.{take_at, drop_at, drop-drop, length-take-le, length-drop}
use Rattle.definitions.specs.Bytes.{bytes_at}
use Rattle.definitions.specs.Streams.{HandsOut, IsUsedUp}
use Rattle.core_machine.specs.Reading.{IsReadTo}

-- Where the bytes are told: those that come are the next ones.

told_next : (bytes : List ℕ) (at k : ℕ) (piece : List ℕ) (new : Option (List ℕ)) → at ≤ length bytes → k ≤ length piece → HandsOut k piece (Some (drop at bytes)) new → IsReadTo bytes (at + k) new × (take k piece ≡ bytes_at k bytes at)
told_next bytes at k piece None within few h = absurd h
told_next bytes at k piece (Some left) within few h =
    let size : length (take k piece) ≡ k = length-take-le k piece few in
    let rest : drop k (drop at bytes) ≡ left = ap (drop k) h ∙ drop_at (take k piece) left k size in
    let count : length (drop at bytes) ≡ k + length left = ap length h ∙ length-append (take k piece) left ∙ ap (λ (n : ℕ). n + length left) size in (
      record {
        within = omega (arith, count, length-drop at bytes);
        rest = ap Some (sym rest ∙ drop-drop k at bytes);
      },
      sym (ap (take k) h ∙ take_at (take k piece) left k size),
    )

pub told : (bytes : List ℕ) (at k : ℕ) (piece : List ℕ) (old new : Option (List ℕ)) → IsReadTo bytes at old → k ≤ length piece → HandsOut k piece old new → IsReadTo bytes (at + k) new × (take k piece ≡ bytes_at k bytes at)
told bytes at k piece old new h few handed =
    told_next bytes at k piece new h.within few (subst (λ (left : Option (List ℕ)). HandsOut k piece left new) h.rest handed)

-- at the end all is read
pub read_to_end : (bytes : List ℕ) (k : ℕ) (left : Option (List ℕ)) → IsReadTo bytes k left → IsUsedUp left → length bytes ≡ k
read_to_end bytes k left h over =
    let none : drop k bytes ≡ [] = subst IsUsedUp h.rest over in
    let size : length (drop k bytes) ≡ 0 = ap length none in
    omega (arith, size, length-drop k bytes, h.within)

-- nothing is read yet
pub at_start : (bytes : List ℕ) (left : Option (List ℕ)) → left ≡ Some bytes → IsReadTo bytes 0 left
at_start bytes left e = record { within = omega arith; rest = e }
