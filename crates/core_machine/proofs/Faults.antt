-- The first of several faults, and what stops a reading.
use Rattle.std.proofs.Common.{◌≡◌, ℕ, ◌<◌, ◌≤◌, Bool, true, false, List, length, Option, Some, None, refl, sym, ap, ◌∙◌, inl, inr, arith}
use Rattle.std.proofs.lemmas.Bool.{le-leb}
use Rattle.std.proofs.lemmas.Bool.Decides.{leb_tells}
use Rattle.std.proofs.lemmas.Option.{none-some}
use Rattle.std.specs.Prelude.{nat_le}
use Rattle.plain_machine.specs.Chain.{or_else}
use Rattle.core_machine.specs.Faults.{unless, wanted}
use Rattle.core_machine.specs.Reading.{Stops}
use Rattle.core_machine.specs.declared.segments.fault.Fault.{Fault}
use Rattle.core_machine.specs.declared.segments.fault.Fault.TheVariants.{Short}
use Rattle.core_machine.specs.declared.segments.fault.Stop.{Stop}
use Rattle.core_machine.specs.declared.segments.fault.Stop.TheVariants as stop

pub or_else-some : {A : Type 0} (a b : Option A) (x : A) → a ≡ Some x → or_else a b ≡ Some x
or_else-some a b x e = ap (λ o. or_else o b) e

pub or_else-none : {A : Type 0} (a b : Option A) → a ≡ None → or_else a b ≡ b
or_else-none a b e = ap (λ o. or_else o b) e

pub none-first : {A : Type 0} (a b : Option A) → or_else a b ≡ None → a ≡ None
none-first None b e = refl
none-first (Some x) b e = e

pub none-second : {A : Type 0} (a b : Option A) → or_else a b ≡ None → b ≡ None
none-second None b e = e
none-second (Some x) b e = absurd (none-some x (sym e))

pub unless-true : (b : Bool) (fault : Fault) → b ≡ true → unless b fault ≡ None
unless-true true fault e = refl
unless-true false fault e = absurd (let no : false ≡ true = e in grind (arith, no))

pub unless-false : (b : Bool) (fault : Fault) → b ≡ false → unless b fault ≡ Some fault
unless-false false fault e = refl
unless-false true fault e = absurd (let no : true ≡ false = e in grind (arith, no))

pub unless-none : (b : Bool) (fault : Fault) → unless b fault ≡ None → b ≡ true
unless-none true fault e = refl
unless-none false fault e = absurd (none-some fault (sym e))

pub wanted-there : (bytes : List ℕ) (n : ℕ) → n ≤ length bytes → wanted bytes n ≡ None
wanted-there bytes n h = unless-true (nat_le n (length bytes)) (Short (length bytes)) (le-leb n (length bytes) h)

pub wanted-short : (bytes : List ℕ) (n : ℕ) → length bytes < n → wanted bytes n ≡ Some (Short (length bytes))
wanted-short bytes n h =
    elim (leb_tells n (length bytes)) [
      | inl there ↦ absurd (let le = there.1 in omega (arith, le, h))
      | inr few ↦ unless-false (nat_le n (length bytes)) (Short (length bytes)) few.0
    ]

-- A file that ends too early for some bytes does so for more.
pub wanted-later : (bytes : List ℕ) (n m : ℕ) (fault : Fault) → n ≤ m → wanted bytes n ≡ Some fault → wanted bytes m ≡ Some fault
wanted-later bytes n m fault le e =
    elim (leb_tells n (length bytes)) [
      | inl there ↦ absurd (none-some fault (sym (wanted-there bytes n there.1) ∙ e))
      | inr few ↦
          let less : length bytes < n = few.1 in
          wanted-short bytes m (omega (arith, less, le)) ∙ sym (wanted-short bytes n less) ∙ e
    ]

pub stops-later : (bytes : List ℕ) (n m : ℕ) (why : Stop) → n ≤ m → Stops (wanted bytes n) why → Stops (wanted bytes m) why
stops-later bytes n m (stop.Fault fault) le h = wanted-later bytes n m fault le h
stops-later bytes n m stop.Source le h = tt
stops-later bytes n m stop.Memory le h = tt

-- a fault of a part is one of the whole, where nothing is wrong before
pub stops-first : (a b : Option Fault) (why : Stop) → Stops a why → Stops (or_else a b) why
stops-first a b (stop.Fault fault) h = or_else-some a b fault h
stops-first a b stop.Source h = tt
stops-first a b stop.Memory h = tt

pub stops-second : (a b : Option Fault) (why : Stop) → a ≡ None → Stops b why → Stops (or_else a b) why
stops-second a b (stop.Fault fault) e h = or_else-none a b e ∙ h
stops-second a b stop.Source e h = tt
stops-second a b stop.Memory e h = tt

pub stops-none : (b : Option Fault) (why : Stop) → Stops b why → (a : Option Fault) → a ≡ b → Stops a why
stops-none b (stop.Fault fault) h a e = e ∙ h
stops-none b stop.Source h a e = tt
stops-none b stop.Memory h a e = tt
