-- How the functions change the state of a resume: as `Resume` does.
use Rattle.std.specs.Prelude.{◌≡◌, ℕ, ◌+◌, List, [], ◌∷◌, length}
use Rattle.definitions.specs.Disk.{DiskImage}
use Rattle.boot_resume.specs.Asked.{HasAsked, failed_by, left_behind}
use Rattle.boot_resume.specs.Ends.{IsEnd}
use Rattle.boot_resume.specs.Standing.{IsAnswer, IsAt}
use Rattle.boot_resume.specs.declared.call.Call.{Call}
use Rattle.boot_resume.specs.declared.call.Call.TheVariants.{Failed}
use Rattle.boot_resume.specs.declared.machine.FrameRange.{FrameRange}
use Rattle.boot_resume.specs.declared.machine.Machine.{Machine}
use Rattle.boot_resume.specs.declared.resume.Resume.{Resume}
use Rattle.swsusp_c.specs.State.{IsLive, state_of}
use Rattle.swsusp_c.specs.Told.{IsTaken, machine_in}
use Rattle.swsusp_c.specs.declared.machine.SwsuspMachine.{SwsuspMachine}
use Rattle.swsusp_c.specs.declared.state.SwsuspResume.{SwsuspResume}

-- a resume before its first call, for any machine and any disk
pub record HasBegun (s : SwsuspResume) : Type 0 where
  pub resume : Resume
  pub is : s ≡ state_of resume
  pub at : (m : Machine) (v : DiskImage) (page : List ℕ) → IsAt m v resume page 0
  pub asked : (m : Machine) → HasAsked m resume []

-- one answer: as in `Resume::answer`, for the machine that the caller describes
pub record Goes (m : Machine) (old : Resume) (given : List ℕ) (s : SwsuspResume) (page : List ℕ) : Type 0 where
  pub resume : Resume
  pub is : s ≡ state_of resume
  pub at : (v : DiskImage) (asked : List ℕ) (k : ℕ) → IsAt m v old asked k →
      IsAnswer v old.pending.call given → IsAt m v resume page (k + 1)
  pub asked : (made : List Call) → HasAsked m old made → HasAsked m resume (old.pending.call ∷ made)

abbrev pub Answers : SwsuspResume → SwsuspMachine → List FrameRange → List ℕ → SwsuspResume → List ℕ → ℕ → Type 0
Answers old told memory given s page code =
    (r : Resume) → old ≡ state_of r → IsLive r → code ≡ 0 → Goes (machine_in told memory) r given s page

-- the state of a resume that goes on, a possible machine, and a whole page
pub record IsAnswerable (old : SwsuspResume) (told : SwsuspMachine) (memory : List FrameRange)
    (page : List ℕ) : Type 0 where
  pub resume : Resume
  pub is : old ≡ state_of resume
  pub live : IsLive resume
  pub machine : IsTaken told memory
  pub whole : length page ≡ 4096

-- after an end nothing changes
abbrev pub Stays : {A : Type 0} → SwsuspResume → A → A → Type 0
Stays s old new = (r : Resume) → s ≡ state_of r → IsEnd r.pending.call → new ≡ old

-- one failure: as in `Resume::fail`
pub record Ends (old : Resume) (s : SwsuspResume) : Type 0 where
  pub resume : Resume
  pub is : s ≡ state_of resume
  pub failed : (m : Machine) (made : List Call) → HasAsked m old made →
      resume.pending.call ≡ Failed (failed_by old.pending.call) (left_behind (length made))
  pub asked : (m : Machine) (made : List Call) → HasAsked m old made → HasAsked m resume made

abbrev pub Fails : SwsuspResume → SwsuspResume → ℕ → Type 0
Fails old s code = (r : Resume) → old ≡ state_of r → IsLive r → (code ≡ 0) × Ends r s
