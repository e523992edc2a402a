-- The answers of a step.
use Rattle.std.specs.Prelude.{◌==◌, ℕ, if◌then◌else◌, ⊤}
use Rattle.image_write.specs.declared.write_step.WriteStep.{WriteStep}
use Rattle.image_write.specs.declared.write_step.WriteStep.TheVariants.{More, Done, Fault}

-- the answer after k of the given number of writes
abbrev pub after : ℕ → ℕ → WriteStep
after k writes = if k == writes then Done else More k writes

-- the write succeeded
abbrev pub Succeeds : WriteStep → Type 0
Succeeds (More k writes) = ⊤
Succeeds Done = ⊤
Succeeds Fault = ⊥

-- the write succeeded, and it wasn't the last one
abbrev pub GoesOn : WriteStep → Type 0
GoesOn (More k writes) = ⊤
GoesOn Done = ⊥
GoesOn Fault = ⊥
