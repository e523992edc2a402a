-- Laws of what calls of a disk leave.
use Rattle.std.proofs.Common.{◌≤◌, ℕ, refl, arith}
use Rattle.sector_disk.specs.Called.{Called}
use Rattle.sector_disk.specs.declared.disk.Disk.{Ghosts}
use Rattle.sector_disk.proofs.Time.{still}

-- a disk on which no call was made
pub uncalled : {X : Type 0} (D : Ghosts X) (made : ℕ → ℕ → Type 0) (fails : Type 0) (d : X) → made (D.calls d) (D.calls d) → (fails → ⊥) → Called D made fails d d
uncalled D made fails d none faultless =
    let same : D.faults d ≤ D.faults d = omega arith in
    record {
      cause = λ fault. absurd (faultless fault);
      faults = same;
      calls = none;
      orders = refl;
      blocks = refl;
      telling = refl;
      time = λ tells. still (D.moment d) (D.left_since d) (D.content d);
    }

-- the calls that were made, said in another way
pub called_as : {X : Type 0} (D : Ghosts X) (made other : ℕ → ℕ → Type 0) (fails : Type 0) (a b : X) → (made (D.calls a) (D.calls b) → other (D.calls a) (D.calls b)) → Called D made fails a b → Called D other fails a b
called_as D made other fails a b so called = record {
  cause = called.cause;
  faults = called.faults;
  calls = so called.calls;
  orders = called.orders;
  blocks = called.blocks;
  telling = called.telling;
  time = called.time;
}

-- the failure that was noticed, said in another way
pub fails_as : {X : Type 0} (D : Ghosts X) (made : ℕ → ℕ → Type 0) (fails other : Type 0) (a b : X) → (other → fails) → Called D made fails a b → Called D made other a b
fails_as D made fails other a b so called = record {
  cause = λ fault. called.cause (so fault);
  faults = called.faults;
  calls = called.calls;
  orders = called.orders;
  blocks = called.blocks;
  telling = called.telling;
  time = called.time;
}
