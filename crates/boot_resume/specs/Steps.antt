-- How an image is given up: the header block is read, written with its mark taken back, and synced.
-- In Linux: swsusp_unmark, kernel/power/swap.c.
use Rattle.std.specs.Prelude.{◌≡◌, ℕ, List}
use Rattle.definitions.specs.SwapHeader.{IsMarked, taken_back}
use Rattle.boot_resume.specs.declared.discard.step.Left.TheVariants.{Same, Unsure}
use Rattle.boot_resume.specs.declared.discard.step.Step.{Step}
use Rattle.boot_resume.specs.declared.discard.step.Step.TheVariants.{Read, Write, Sync, Discarded, NoImage, NoOriginal}
use Rattle.boot_resume.specs.declared.discard.step.Step.TheVariants.{Failed}

-- After the read of the header block, which gave the page `old`: the block is written with its mark taken back if and
-- only if it is marked and no longer is once taken back.
abbrev pub IsBehindRead : ℕ → (old new : List ℕ) → Step → Type 0
IsBehindRead block old new NoImage = (IsMarked old → ⊥) × (new ≡ old)
IsBehindRead block old new NoOriginal = IsMarked old × (IsMarked (taken_back old) × (new ≡ old))
IsBehindRead block old new (Write b) =
    IsMarked old × ((IsMarked (taken_back old) → ⊥) × ((b ≡ block) × (new ≡ taken_back old)))
IsBehindRead block old new (Read b) = ⊥
IsBehindRead block old new Sync = ⊥
IsBehindRead block old new Discarded = ⊥
IsBehindRead block old new (Failed left) = ⊥

-- the step after one that was made, and the buffer
abbrev pub Answered : Step → List ℕ → Step → List ℕ → Type 0
Answered (Read block) old step new = IsBehindRead block old new step
Answered (Write block) old step new = (step ≡ Sync) × (new ≡ old)
Answered Sync old step new = (step ≡ Discarded) × (new ≡ old)
Answered Discarded old step new = (step ≡ Discarded) × (new ≡ old)
Answered NoImage old step new = (step ≡ NoImage) × (new ≡ old)
Answered NoOriginal old step new = (step ≡ NoOriginal) × (new ≡ old)
Answered (Failed left) old step new = (step ≡ Failed left) × (new ≡ old)

-- the step after a call that failed
abbrev pub failed_after : Step → Step
failed_after (Read block) = Failed Same
failed_after (Write block) = Failed Unsure
failed_after Sync = Failed Unsure
failed_after Discarded = Discarded
failed_after NoImage = NoImage
failed_after NoOriginal = NoOriginal
failed_after (Failed left) = Failed left

-- a step that nothing follows
abbrev pub IsEnd : Step → Type 0
IsEnd (Read block) = ⊥
IsEnd (Write block) = ⊥
IsEnd Sync = ⊥
IsEnd Discarded = Unit {0}
IsEnd NoImage = Unit {0}
IsEnd NoOriginal = Unit {0}
IsEnd (Failed left) = Unit {0}
