-- The faults of a record, in their order.
use Rattle.std.proofs.Common.{◌≡◌, ℕ, ◌+◌, Bool, true, false, List, Option, Some, None, sym, ap, ◌∙◌, inl, inr, arith}
use Rattle.std.specs.Prelude.{◌↔◌, IsTrue}
use Rattle.std.proofs.lemmas.Bool.{cases_Bool}
use Rattle.machine.proofs.Rows.{any_true, any_Contains}
use Rattle.std.specs.List.{Contains}
use Rattle.definitions.specs.Zones.{numbers}
use Rattle.plain_machine.specs.Loader.{has}
use Rattle.dump_file.specs.Dump.{fault_of_record, is_above, unless, wanted}
use Rattle.dump_file.specs.Fields.{number}
use Rattle.dump_file.specs.declared.dump.DumpFault.{DumpFault}
use Rattle.dump_file.specs.declared.dump.DumpKind.TheVariants.{Frame, Order}
use Rattle.dump_file.proofs.Chains.{or_else-some, or_else-none, none-first, none-second, unless-true, unless-false, unless-none}

-- Whether a page frame is valid, by the zones.

pub valid-true : (zones : List (ℕ × ℕ)) (p : ℕ) (b : Bool) → (IsTrue b ↔ Contains (numbers zones) p) → b ≡ true → has (numbers zones) p ≡ true
valid-true zones p b tells e = any_true (numbers zones) p (tells.0 e)

pub valid-false : (zones : List (ℕ × ℕ)) (p : ℕ) (b : Bool) → (IsTrue b ↔ Contains (numbers zones) p) → b ≡ false → has (numbers zones) p ≡ false
valid-false zones p b tells e =
    elim (cases_Bool (has (numbers zones) p)) [
      | inl is ↦ absurd (let yes = tells.1 (any_Contains (numbers zones) p is) in let both : true ≡ false = sym yes ∙ e in grind (arith, both))
      | inr is ↦ is
    ]

pub no_number : (zones : List (ℕ × ℕ)) (bytes : List ℕ) (before : Option ℕ) (k : ℕ) (f : DumpFault) → wanted bytes (k + 4) ≡ Some f → fault_of_record zones bytes before k ≡ Some f
unfolding fault_of_record
no_number zones bytes before k f e = or_else-some (wanted bytes (k + 4)) _ f e

pub no_frame : (zones : List (ℕ × ℕ)) (bytes : List ℕ) (before : Option ℕ) (k : ℕ) → wanted bytes (k + 4) ≡ None → has (numbers zones) (number bytes k) ≡ false → fault_of_record zones bytes before k ≡ Some (record { kind = Frame; at = k })
unfolding fault_of_record
no_frame zones bytes before k e f =
    or_else-none (wanted bytes (k + 4)) _ e ∙ or_else-some (unless (has (numbers zones) (number bytes k)) Frame k) _ (record { kind = Frame; at = k }) (unless-false _ Frame k f)

pub no_order : (zones : List (ℕ × ℕ)) (bytes : List ℕ) (before : Option ℕ) (k : ℕ) → wanted bytes (k + 4) ≡ None → has (numbers zones) (number bytes k) ≡ true → is_above before (number bytes k) ≡ false → fault_of_record zones bytes before k ≡ Some (record { kind = Order; at = k })
unfolding fault_of_record
no_order zones bytes before k e f o =
    or_else-none (wanted bytes (k + 4)) _ e ∙ or_else-none (unless (has (numbers zones) (number bytes k)) Frame k) _ (unless-true _ Frame k f)
    ∙ or_else-some (unless (is_above before (number bytes k)) Order k) _ (record { kind = Order; at = k }) (unless-false _ Order k o)

-- up to the content all is in order
front_is : (zones : List (ℕ × ℕ)) (bytes : List ℕ) (before : Option ℕ) (k : ℕ) → wanted bytes (k + 4) ≡ None → has (numbers zones) (number bytes k) ≡ true → is_above before (number bytes k) ≡ true → fault_of_record zones bytes before k ≡ wanted bytes (k + 4100)
unfolding fault_of_record
front_is zones bytes before k e f o =
    or_else-none (wanted bytes (k + 4)) _ e ∙ or_else-none (unless (has (numbers zones) (number bytes k)) Frame k) _ (unless-true _ Frame k f)
    ∙ or_else-none (unless (is_above before (number bytes k)) Order k) _ (unless-true _ Order k o)

pub no_page : (zones : List (ℕ × ℕ)) (bytes : List ℕ) (before : Option ℕ) (k : ℕ) (f : DumpFault) → wanted bytes (k + 4) ≡ None → has (numbers zones) (number bytes k) ≡ true → is_above before (number bytes k) ≡ true → wanted bytes (k + 4 + 4096) ≡ Some f → fault_of_record zones bytes before k ≡ Some f
no_page zones bytes before k f e v o short =
    let place : k + 4100 ≡ k + 4 + 4096 = omega arith in
    front_is zones bytes before k e v o ∙ ap (wanted bytes) place ∙ short

pub no_fault : (zones : List (ℕ × ℕ)) (bytes : List ℕ) (before : Option ℕ) (k : ℕ) → wanted bytes (k + 4) ≡ None → has (numbers zones) (number bytes k) ≡ true → is_above before (number bytes k) ≡ true → wanted bytes (k + 4 + 4096) ≡ None → fault_of_record zones bytes before k ≡ None
no_fault zones bytes before k e v o there =
    let place : k + 4100 ≡ k + 4 + 4096 = omega arith in
    front_is zones bytes before k e v o ∙ ap (wanted bytes) place ∙ there

-- where nothing is wrong with a record its page frame lies above the one before
pub is_in_order : (zones : List (ℕ × ℕ)) (bytes : List ℕ) (before : Option ℕ) (k : ℕ) → fault_of_record zones bytes before k ≡ None → is_above before (number bytes k) ≡ true
unfolding fault_of_record
is_in_order zones bytes before k e =
    unless-none (is_above before (number bytes k)) Order k (none-first _ _ (none-second _ _ (none-second (wanted bytes (k + 4)) _ e)))
