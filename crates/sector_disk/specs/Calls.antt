-- Which calls of a disk in memory are to fail.
use Rattle.std.specs.Prelude.{◌≡◌, ℕ, ◌+◌, ◌<◌, ◌≤◌, ◌↔◌, Result, IsErr, OnOk, OnErr}
use Rattle.definitions.specs.Disk.{raised}
use Rattle.sector_disk.specs.declared.calls.Calls.{Calls}

-- the call number k from now is to fail; the next one has number 1
abbrev pub IsDue : Calls → ℕ → Type 0
IsDue calls k = (calls.skip < k) × (k ≤ calls.skip + calls.fail)

-- A call is made: it fails exactly if it is due to, and the calls still due move up by one.
pub record TakesTurn {T E : Type 0} (old new : Calls) (result : Result T E) : Type 0 where
  pub fails : IsErr result ↔ IsDue old 1
  pub later : (k : ℕ) → 0 < k → IsDue new k ↔ IsDue old (k + 1)
  pub pick : new.pick ≡ old.pick
  pub made : new.made ≡ raised old.made
  pub fault : OnErr result (new.faults ≡ raised old.faults)
  pub no_fault : OnOk result (new.faults ≡ old.faults)

-- A call is made that fails in any case: it counts as a fault, and the calls still due move up by one.
pub record LosesTurn (old new : Calls) : Type 0 where
  pub later : (k : ℕ) → 0 < k → IsDue new k ↔ IsDue old (k + 1)
  pub pick : new.pick ≡ old.pick
  pub made : new.made ≡ raised old.made
  pub fault : new.faults ≡ raised old.faults
