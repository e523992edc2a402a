-- The first of several faults.
use Rattle.std.proofs.Common.{◌≡◌, ℕ, zero, suc, ◌+◌, ◌<◌, ◌≤◌, Bool, true, false, List, ◌∷◌, length, map, Option, Some, None, Result, Ok, Err, refl, sym, ap, ap₂, ◌∙◌, inl, inr, arith}
use Rattle.std.proofs.lemmas.Bool.{le-leb, cases_lt}
use Rattle.std.proofs.lemmas.Bool.Decides.{leb_tells}
use Rattle.std.proofs.lemmas.Option.{none-some}
use Rattle.std.specs.List.{range_with_len}
use Rattle.std.specs.Prelude.{nat_le}
use Rattle.plain_machine.specs.Chain.{first_some, or_else}
use Rattle.dump_file.specs.Dump.{unless, wanted}
use Rattle.dump_file.specs.declared.dump.DumpFault.{DumpFault}
use Rattle.dump_file.specs.declared.dump.DumpKind.{DumpKind}
use Rattle.dump_file.specs.declared.dump.DumpKind.TheVariants.{Short}
use Rattle.dump_file.specs.declared.dump.DumpStop.{DumpStop}
use Rattle.dump_file.specs.declared.dump.DumpStop.TheVariants.{Fault, SourceFault, NoMemory}

pub or_else-some : {A : Type 0} (a b : Option A) (x : A) → a ≡ Some x → or_else a b ≡ Some x
or_else-some a b x e = ap (λ o. or_else o b) e

pub or_else-none : {A : Type 0} (a b : Option A) → a ≡ None → or_else a b ≡ b
or_else-none a b e = ap (λ o. or_else o b) e

-- A stop that is returned is the fault that was named.
abbrev stopped : {A : Type 0} → Result A DumpStop → Option DumpFault
stopped (Ok x) = None
stopped (Err (Fault f)) = Some f
stopped (Err SourceFault) = None
stopped (Err NoMemory) = None

pub named : {A : Type 0} (r : DumpStop) (g f : DumpFault) → r ≡ Fault g → ◌≡◌ {A = Result A DumpStop} (Err r) (Err (Fault f)) → Some g ≡ Some f
named {A} r g f is e = let view : Result A DumpStop → Option DumpFault = stopped in sym (ap (λ (stop : DumpStop). view (Err stop)) is) ∙ ap view e

-- a stop that is passed on
or_this : DumpFault → Option DumpFault → DumpFault
or_this g None = g
or_this g (Some f) = f

pub named_is : (g f : DumpFault) → Some g ≡ Some f → g ≡ f
unfolding or_this
named_is g f e = ap (or_this g) e

same_stop : (r : DumpStop) (f : DumpFault) → stopped {A = ℕ} (Err r) ≡ Some f → r ≡ Fault f
same_stop (Fault g) f e = ap Fault (named_is g f e)
same_stop SourceFault f e = absurd (none-some f e)
same_stop NoMemory f e = absurd (none-some f e)

stopped-same : (A B : Type 0) (r : DumpStop) → stopped {A = A} (Err r) ≡ stopped {A = B} (Err r)
stopped-same A B (Fault g) = refl
stopped-same A B SourceFault = refl
stopped-same A B NoMemory = refl

pub stop_is : {A : Type 0} (r : DumpStop) (f : DumpFault) → ◌≡◌ {A = Result A DumpStop} (Err r) (Err (Fault f)) → r ≡ Fault f
stop_is {A} r f e = let view : Result A DumpStop → Option DumpFault = stopped in same_stop r f (stopped-same ℕ A r ∙ ap view e)

pub passed : {A B : Type 0} (r : DumpStop) (f : DumpFault) → ◌≡◌ {A = Result A DumpStop} (Err r) (Err (Fault f)) → ◌≡◌ {A = Result B DumpStop} (Err r) (Err (Fault f))
passed {A} {B} r f e = ap {B = Result B DumpStop} Err (stop_is {A = A} r f e)

pub unless-true : (b : Bool) (kind : DumpKind) (place : ℕ) → b ≡ true → unless b kind place ≡ None
unless-true true kind place e = refl
unless-true false kind place e = absurd (let no : false ≡ true = e in grind (arith, no))

pub unless-false : (b : Bool) (kind : DumpKind) (place : ℕ) → b ≡ false → unless b kind place ≡ Some (record { kind = kind; at = place })
unless-false false kind place e = refl
unless-false true kind place e = absurd (let no : true ≡ false = e in grind (arith, no))

pub wanted-there : (bytes : List ℕ) (n : ℕ) → n ≤ length bytes → wanted bytes n ≡ None
wanted-there bytes n h = unless-true (nat_le n (length bytes)) Short (length bytes) (le-leb n (length bytes) h)

pub wanted-short : (bytes : List ℕ) (n : ℕ) → length bytes < n → wanted bytes n ≡ Some (record { kind = Short; at = length bytes })
wanted-short bytes n h =
    elim (leb_tells n (length bytes)) [
      | inl there ↦ absurd (let le = there.1 in omega (arith, le, h))
      | inr few ↦ unless-false (nat_le n (length bytes)) Short (length bytes) few.0
    ]

-- A list of faults, one for each number of a run.

pub first-none : {A : Type 0} (f : ℕ → Option A) (a n : ℕ) → ((j : ℕ) → a ≤ j → j < a + n → f j ≡ None) → first_some (map f (range_with_len a n)) ≡ None
first-none f a zero h = refl
first-none f a (suc n) h =
    or_else-none (f a) (first_some (map f (range_with_len (a + 1) n))) (h a (omega arith) (omega arith))
    ∙ first-none f (a + 1) n (λ j from below. h j (omega (arith, from)) (omega (arith, below)))

pub first-at : {A : Type 0} (f : ℕ → Option A) (a n i : ℕ) (x : A) → a ≤ i → i < a + n → ((j : ℕ) → a ≤ j → j < i → f j ≡ None) → f i ≡ Some x → first_some (map f (range_with_len a n)) ≡ Some x
first-at f a zero i x from below h at = absurd (omega (arith, from, below))
first-at f a (suc n) i x from below h at =
    elim (cases_lt a i) [
      | inl lt ↦
          or_else-none (f a) (first_some (map f (range_with_len (a + 1) n))) (h a (omega arith) lt)
          ∙ first-at f (a + 1) n i x (omega (arith, lt)) (omega (arith, below)) (λ j low high. h j (omega (arith, low)) high) at
      | inr ge ↦
          let same : a ≡ i = omega (arith, ge, from) in
          or_else-some (f a) (first_some (map f (range_with_len (a + 1) n))) x (ap f same ∙ at)
    ]

pub map-same : {A : Type 0} (f g : ℕ → A) (a n : ℕ) → ((j : ℕ) → a ≤ j → j < a + n → f j ≡ g j) → map f (range_with_len a n) ≡ map g (range_with_len a n)
map-same f g a zero h = refl
map-same f g a (suc n) h =
    ap₂ (λ x xs. x ∷ xs) (h a (omega arith) (omega arith)) (map-same f g (a + 1) n (λ j from lt. h j (omega (arith, from)) (omega (arith, lt))))

-- Chains of three, and chains that end in nothing.

pub or_else-end : {A : Type 0} (a : Option A) → or_else a None ≡ a
or_else-end None = refl
or_else-end (Some x) = refl

pub or_else-more : {A : Type 0} (a b c : Option A) → or_else (or_else a b) c ≡ or_else a (or_else b c)
or_else-more None b c = refl
or_else-more (Some x) b c = refl

-- where a few bytes are missing, so are more
pub wanted-more : (bytes : List ℕ) (n m : ℕ) (f : DumpFault) → n ≤ m → wanted bytes n ≡ Some f → wanted bytes m ≡ Some f
wanted-more bytes n m f le e =
    elim (leb_tells n (length bytes)) [
      | inl there ↦ absurd (none-some f (sym (wanted-there bytes n there.1) ∙ e))
      | inr few ↦ let less = few.1 in wanted-short bytes m (omega (arith, less, le)) ∙ sym (wanted-short bytes n (omega (arith, less))) ∙ e
    ]

-- nothing is wrong in a chain, so nothing is in its parts

pub none-first : {A : Type 0} (a b : Option A) → or_else a b ≡ None → a ≡ None
none-first None b e = refl
none-first (Some x) b e = e

pub none-second : {A : Type 0} (a b : Option A) → or_else a b ≡ None → b ≡ None
none-second None b e = e
none-second (Some x) b e = absurd (none-some x (sym e))

pub unless-none : (b : Bool) (kind : DumpKind) (place : ℕ) → unless b kind place ≡ None → b ≡ true
unless-none true kind place e = refl
unless-none false kind place e = absurd (none-some (record { kind = kind; at = place }) (sym e))
