-- A script that is read to its end, or to one byte past the largest.
use Rattle.std.proofs.Common.{◌≡◌, ◌⊎◌, inl, inr, ◌<◌, ℕ, ◌+◌, ◌-◌, min, Bool, true, false, cond, List, [], ◌++◌, length, take, ◌≤◌, Option, Some, None, Result, Ok, Err, refl, sym, ap, ◌∙◌, arith, append-nil, append_assoc, length-append}
use Rattle.std.proofs.lemmas.List.{take_all, length-take}
use Rattle.std.proofs.Math.Nat.{min-le_left, min-le_right}
use Rattle.std.proofs.lemmas.Bool.{lt-ltb, false≢true}
use Rattle.std.proofs.lemmas.Option.{none-some}
use Rattle.definitions.specs.Streams.{IsUsedUp, HandsOut}
use Rattle.script.specs.Grammar.{ScriptValue, script_of, value_of, line_count, lines_of}
use Rattle.script.specs.declared.fault.FaultKind.TheVariants as kind
use Rattle.script.specs.declared.fault.ScriptFault.{ScriptFault}
use Rattle.swsusp_cli.specs.Outcome.{IsReadAs, HandsOutAtMost}

long_fault : (bytes : List ℕ) → 1048576 < length bytes → script_of bytes ≡ Err (record { line = 0; kind = kind.TooLong })
unfolding script_of
long_fault bytes long = ap (λ (b : Bool). cond b (Err (record { line = 0; kind = kind.TooLong })) (value_of (line_count bytes + 1) (lines_of bytes))) (lt-ltb 1048576 (length bytes) long)

abbrev is_ok_value : Result ScriptValue ScriptFault → Bool
is_ok_value (Ok script) = true
is_ok_value (Err fault) = false

abbrev value_or : Option (List ℕ) → List ℕ
value_or None = []
value_or (Some xs) = xs

-- what was left, where it is told, says what was read
same_script : (old items new : List ℕ) → old ≡ items ++ new → (new ≡ []) ⊎ (1048576 < length items) → script_of old ≡ script_of items
same_script old items new e (inl none) = ap script_of (e ∙ ap (λ (xs : List ℕ). items ++ xs) none ∙ append-nil items)
same_script old items new e (inr long) =
    let size = ap length e in
    let sum = length-append items new in
    long_fault old (omega arith) ∙ sym (long_fault items long)

pub script_read : (before after : Option (List ℕ)) (items bytes : List ℕ) (answer : Result ScriptValue ScriptFault) → IsReadAs before items after → script_of items ≡ answer → before ≡ Some bytes → script_of bytes ≡ answer
script_read None after items bytes answer read says e = absurd (none-some bytes e)
script_read (Some old) None items bytes answer read says e = absurd read
script_read (Some old) (Some new) items bytes answer read says e = ap script_of (sym (ap value_or e)) ∙ same_script old items new read.0 read.1 ∙ says

-- a script that isn't too long was read to its end
pub read_over : (before after : Option (List ℕ)) (items : List ℕ) (script : ScriptValue) → IsReadAs before items after → script_of items ≡ Ok script → IsUsedUp after
read_over None None items script read says = tt
read_over None (Some new) items script read says = absurd read
read_over (Some old) None items script read says = absurd read
read_over (Some old) (Some new) items script read says =
    elim read.1 [
      | inl none ↦ none
      | inr long ↦ absurd (false≢true (ap is_ok_value (sym (long_fault items long) ∙ says)))
    ]

-- bytes that were handed out, and some more of a piece
pub handed_out_more : (n : ℕ) (items piece : List ℕ) (k : ℕ) (before mid after : Option (List ℕ)) → n ≡ length items → HandsOut n items before mid → HandsOut k piece mid after → n + k ≤ 1048577 → HandsOutAtMost 1048577 before after
handed_out_more n items piece k before mid after size first then few =
    let part = length-take k piece in
    let least = min-le_left k (length piece) in
    let sum = length-append items (take k piece) in (
      items ++ take k piece,
      omega arith,
      joined before mid after first then,
    ) where
      all : (m : ℕ) (xs : List ℕ) → m ≡ length xs → take m xs ≡ xs
      all m xs e = take_all m xs (omega arith)

      joined : (before mid after : Option (List ℕ)) → HandsOut n items before mid → HandsOut k piece mid after → HandsOut (length (items ++ take k piece)) (items ++ take k piece) before after
      joined None None None first then = tt
      joined None None (Some new) first then = then
      joined None (Some mid) after first then = absurd first
      joined (Some old) None after first then = absurd first
      joined (Some old) (Some mid) None first then = then
      joined (Some old) (Some mid) (Some new) first then =
          first ∙ ap (λ (xs : List ℕ). xs ++ mid) (all n items size) ∙ ap (λ (xs : List ℕ). items ++ xs) then ∙ sym (append_assoc items (take k piece) new)
          ∙ ap (λ (xs : List ℕ). xs ++ new) (sym (all (length (items ++ take k piece)) (items ++ take k piece) refl))

-- a piece has no more room than bytes are wanted
pub piece_within : (n k room : ℕ) (piece : List ℕ) → k ≤ length (take room piece) → room ≡ min 4096 (1048577 - n) → n ≤ 1048577 → n + k ≤ 1048577
piece_within n k room piece le is few =
    let part = length-take room piece in
    let least = min-le_left room (length piece) in
    let rest = min-le_right 4096 (1048577 - n) in
    omega arith
