-- Which code a function returns: that of the first of its arguments' faults, or 0 if there is none.
use Rattle.std.specs.Prelude.{ℕ, zero, suc, ◌^◌, ◌==◌, ◌&&◌, ◌||◌, List, Bool, length, nat_le, nat_lt, not}
use Rattle.std.specs.Prelude.{if◌then◌else◌, is_some}
use Rattle.boot_resume.specs.Ranges.{misplaced}
use Rattle.boot_resume.specs.declared.machine.FrameRange.{FrameRange}
use Rattle.boot_resume.specs.declared.machine.MachineFault.{MachineFault}
use Rattle.boot_resume.specs.declared.machine.MachineFault.TheVariants.{Memory, Present, Header}
use Rattle.swsusp_c.specs.Calls.{is_over, live_call}
use Rattle.swsusp_c.specs.Stages.{stage_of}
use Rattle.swsusp_c.specs.Steps.{step_of}
use Rattle.swsusp_c.specs.declared.calls.SwsuspCall.{SwsuspCall}
use Rattle.swsusp_c.specs.declared.machine.SwsuspMachine.{SwsuspMachine}
use Rattle.swsusp_c.specs.declared.state.SwsuspResume.{SwsuspResume}

-- a code, or the next one if it is 0
abbrev pub or_code : ℕ → ℕ → ℕ
or_code zero next = next
or_code (suc code) next = suc code

-- this code if something is wrong, else 0
abbrev pub code_where : Bool → ℕ → ℕ
code_where wrong code = if wrong then code else 0

-- the buffer's length isn't 4096
abbrev pub page_code : List ℕ → ℕ
page_code page = code_where (not (length page == 4096)) 2

-- the identity is none of the three
abbrev pub identity_code : ℕ → ℕ
identity_code identity = code_where (nat_lt 2 identity) 6

-- a range is empty, or begins below the end of the one before
abbrev pub memory_code : List FrameRange → ℕ
memory_code memory = code_where (is_some (misplaced 0 0 memory)) 3

-- the number of page frames is 0, or 2^52 or more
abbrev pub present_code : ℕ → ℕ
present_code n = code_where ((n == 0) || nat_le (2 ^ 52) n) 4

-- what `Machine::new` refuses
abbrev pub fault_code : MachineFault → ℕ
fault_code (Memory index) = 3
fault_code (Present n) = 4
fault_code (Header block) = 5

-- a header that isn't on the disk
abbrev pub header_code : (blocks header : ℕ) → ℕ
header_code blocks header = code_where (nat_le blocks header) 5

abbrev pub machine_code : SwsuspMachine → List FrameRange → ℕ
machine_code told memory =
    or_code (identity_code told.identity)
    (or_code (memory_code memory) (or_code (present_code told.present) (header_code told.blocks told.header)))

-- the counts of a resume: fewer than 2^52 page frames saved, no more given than saved, no more with data than given
abbrev pub has_counts : SwsuspResume → Bool
has_counts s = nat_lt s.saved (2 ^ 52) && (nat_le s.given s.saved && nat_le s.with_data s.given)

-- a resume that isn't over: a valid stage, a call that the caller makes, and possible counts
abbrev pub is_state : SwsuspResume → Bool
is_state s = is_some (stage_of s.stage) && (is_some (live_call s.call) && has_counts s)

abbrev pub state_code : SwsuspResume → ℕ
state_code s = code_where (not (is_over s.call || is_state s)) 1

abbrev pub step_state_code : SwsuspCall → ℕ
step_state_code c = code_where (not (is_some (step_of c))) 1

abbrev pub answer_code : SwsuspResume → SwsuspMachine → List FrameRange → List ℕ → ℕ
answer_code s told memory page = or_code (page_code page) (or_code (machine_code told memory) (state_code s))

abbrev pub discard_code : SwsuspCall → List ℕ → ℕ
discard_code c page = or_code (page_code page) (step_state_code c)
