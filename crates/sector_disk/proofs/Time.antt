-- What a disk's moments say of a part of a program between two of its calls, and around one.
use Rattle.std.proofs.Common.{inl, inr, ℕ, Option, Some, None, arith}
use Rattle.std.specs.Option.{IfSome}
use Rattle.definitions.specs.Disk.{Content, DiskImage, IsImage, IsMixture, Changes, Elapses}

-- without a call time stands still
pub still : (m : ℕ) (since : ℕ → DiskImage → Type 0) (o : Option Content) → Changes (Elapses m m since since) o o
still m since None = tt
still m since (Some c) = record { later = omega arith; keeps = λ t v le past. past; nothing_else = λ t v le past. inl past }

mixed : (m m' : ℕ) (past since : ℕ → DiskImage → Type 0) (old new : Content) (v : DiskImage) → Elapses m m' past since old new → (past m v → IsImage old v) → since m v → IsMixture old new v
mixed m m' past since old new v elapses only left = elim (elapses.nothing_else m v (omega arith) left) [
  | inl p ↦ (let is = only p in record { size = is.size; each = λ s lt. inl (is.chosen s (let size = is.size in omega arith)) })
  | inr mixture ↦ mixture
]

-- what a crash since the begin might have left has each sector from an image of before or of after
pub inside : (m m' : ℕ) (past since : ℕ → DiskImage → Type 0) (before now : Option Content) (v : DiskImage) → Changes (Elapses m m' past since) before now → (past m v → IfSome before (λ held. IsImage held v)) → since m v → Changes (λ old new. IsMixture old new v) before now
inside m m' past since None None v elapses only left = tt
inside m m' past since None (Some new) v elapses only left = elapses
inside m m' past since (Some old) None v elapses only left = elapses
inside m m' past since (Some old) (Some new) v elapses only left = mixed m m' past since old new v elapses only left

-- what a crash might have left if no call was made
pub unread : (m : ℕ) (since : ℕ → DiskImage → Type 0) (o : Option Content) (v : DiskImage) → (since m v → IfSome o (λ held. IsImage held v)) → since m v → Changes (λ old new. IsMixture old new v) o o
unread m since o v only left = inside m m since since o o v (still m since o) only left
