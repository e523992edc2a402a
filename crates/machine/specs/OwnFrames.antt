-- What a request that is done at once may change.
use Rattle.std.specs.Prelude.{◌≡◌, ◌≢◌, ◌<◌, ◌⊎◌, ℕ, Contains}
use Rattle.definitions.specs.Tables.{owner_of}
use Rattle.definitions.specs.Zones.{numbers}
use Rattle.plain_machine.specs.Machine.{Hardware, Memory, frame_entry, raw_slot_entry}

-- Page frame p is valid, and free or task t's. All other entries, and those of the slots, are as before.
pub record ChangesFrame (h : Hardware) (t : ℕ) (old new : Memory) (p : ℕ) : Type 0 where
  pub valid : Contains (numbers h.zones) p
  pub own : (frame_entry h old p ≡ 1) ⊎ (owner_of (frame_entry h old p) ≡ t)
  pub others : (q : ℕ) → Contains (numbers h.zones) q → q ≢ p → frame_entry h new q ≡ frame_entry h old q
  pub slots : (s : ℕ) → s < h.slots → raw_slot_entry h new s ≡ raw_slot_entry h old s

-- at most one page frame changes, which is free or the task's
abbrev pub ChangesOwn : Hardware → ℕ → Memory → Memory → Type 0
ChangesOwn h t old new = (new ≡ old) ⊎ ((p : ℕ) × ChangesFrame h t old new p)
